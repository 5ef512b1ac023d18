-- The outcomes to tell, in a lawful history: how one event moves them, whatever it is.
use Rattle.std.proofs.Common.{◌≡◌, refl, sym, ap, subst, ◌∙◌, ℕ, ◌≤◌, inl, inr, List, [], ◌∷◌, ◌++◌, length, Bool, true, false, not, ◌&&◌, ◌||◌, ◌==◌, Option, Some, None, IfSome, is_some, option_map, filter, reverse, find, if◌then◌else◌, arith, eqb-true, ne_eqb}
use Rattle.std.specs.Prelude.{Contains}
use Rattle.std.specs.List.{cons_option, list_any}
use Rattle.std.proofs.lemmas.List.{append-nil, reverse-append}
use Rattle.std.proofs.lemmas.List.Elements.{filter-append}
use Rattle.amqp_perf.specs.declared.descriptor.Outcome.{Outcome}
use Rattle.amqp_perf.specs.declared.descriptor.Outcome.TheVariants.{Accepted, Released}
use Rattle.amqp_perf.specs.Meaning.{DispositionFields, flag}
use Rattle.amqp_perf.specs.Router.{delivery_failed}
use Rattle.pairing_cert.specs.declared.note.Why.TheVariants.{C, Z, S, L}
use Rattle.capture_form.specs.Rules.{RuleSet}
use Rattle.trace_events.specs.declared.clause.Clause.TheVariants.{L9}
use Rattle.trace_events.specs.Words.{is_some_and}
use Rattle.trace_events.specs.Event.{Event, Incoming, Outgoing}
use Rattle.trace_events.specs.Said.{out_transfer}
use Rattle.trace_events.specs.Link.{is_live}
use Rattle.trace_events.specs.Ends.{ends_link}
use Rattle.trace_events.specs.Address.{has_consumer}
use Rattle.trace_events.specs.Credit.{begins_outgoing}
use Rattle.trace_events.specs.Disposition.{is_decisive}
use Rattle.trace_events.specs.Incoming.{address_of, completed_by, completes, is_complete, is_settled, is_told, incoming_begun, incoming_deliveries, incoming_at}
use Rattle.trace_events.specs.Outgoing.{outgoing_begun, outgoing_deliveries, is_sent, names, noted, pairing, is_paired, is_named_on, answering, decision}
use Rattle.trace_events.specs.Waiting.{is_of_multicast, is_waiting, is_gone, always_had_consumer}
use Rattle.trace_events.specs.Queue.{pairs}
use Rattle.trace_events.specs.Due.{is_due}
use Rattle.trace_events.specs.Settling.{is_closed}
use Rattle.trace_events.specs.Work.{decides_now, closes_incoming}
use Rattle.trace_events.specs.Clauses.{first_broken, meaning_meets}
use Rattle.trace_events.specs.Outcome.{bare_octets, fits_producer, outcome_octets, bare_outcome, is_sent_settled, paired_row, anycast_row, may_be_told, is_to_tell}
use Rattle.trace_events.specs.BestVerdict.{told_octets, best_verdict, has_all_verdicts}
use Rattle.trace_events.specs.Telling.{outcomes_to_tell, is_answered, has_outcome, answers_now, gets_last_verdict, gets_outcome}
use Rattle.trace_events.specs.TransferClause.{goes_once_and_in_order, to_carry, goes_to_one_or_is_due, is_in_order}
use Rattle.trace_events.proofs.Along.{and_first, and_last}
use Rattle.trace_events.proofs.Judged.{AreJudged, AreBorn, IsBorn, IsTransfer, judged-born, judged-number, judged-transfer}
use Rattle.trace_events.proofs.Links.{passing}
use Rattle.trace_events.proofs.OutgoingLinks.{answering-before, decision-begun}
use Rattle.trace_events.proofs.OutgoingSteps.{ends_delivery, pairing-same, pairing-another, pairing-begun}
use Rattle.trace_events.proofs.QueueSteps.{filter-each, filter-reverse}
use Rattle.trace_events.proofs.SettlingSteps.{is_decided-step, is_closed-step}
use Rattle.trace_events.proofs.AwaitedSteps.{has_all-stays}
use Rattle.trace_events.proofs.BegunDeliveries.{IsBegun, begun-own, begun-carries, begun-linked, begun-live, found-begun}
use Rattle.trace_events.proofs.ClausesMet.{met, lawful-past}
use Rattle.trace_events.proofs.IncomingProgress.{judged-kept}
use Rattle.trace_events.proofs.Incomings.{at-step, judged-part, judged-sound}
use Rattle.trace_events.proofs.LinkEnds.{is_live-next}
use Rattle.trace_events.proofs.OneConsumer.{some-and, passes-some, or-right}
use Rattle.trace_events.proofs.Pairs.{paired-not_gone, pairing-stays}
use Rattle.trace_events.proofs.Parts.{IsKept, each_delivery, all_such}
use Rattle.trace_events.proofs.WaitingQueue.{completed_once, multicast_stays, in_filter, filter_has, in_reverse, reverse_has}

same_some : {A : Type 0} (a b : A) → Some a ≡ Some b → a ≡ b
same_some a b is = cc

-- ---- whether a row applies

either-of : {A : Type 0} (b : Bool) (x y : A) (rest : Bool) → is_some (if b then Some x else None) || (is_some (if b then None else Some y) || rest) ≡ true
either-of true x y rest = refl
either-of false x y rest = refl

or-one : (b c : Bool) → b || (true || c) ≡ true
or-one true c = refl
or-one false c = refl

undecided-bits : {A : Type 0} (sent live gone : Bool) (x y z : A)
    → is_some (if sent then Some x else None) || (is_some (if live || sent then None else Some y) || (is_some (if gone then Some z else None) || false)) ≡ gone || (sent || not live)
undecided-bits true live true x y z = refl
undecided-bits true live false x y z = refl
undecided-bits false true true x y z = refl
undecided-bits false true false x y z = refl
undecided-bits false false true x y z = refl
undecided-bits false false false x y z = refl

gone-bits : {A : Type 0} (gone : Bool) (z : A) → is_some (if gone then Some z else None) || false ≡ gone || false
gone-bits true z = refl
gone-bits false z = refl

tell-bits : (complete settled told live row : Bool) → complete && not settled && not told && live && row ≡ complete && row && not (told || settled || not live)
tell-bits true true true live true = refl
tell-bits true true false live true = refl
tell-bits true false true live true = refl
tell-bits true false false true true = refl
tell-bits true false false false true = refl
tell-bits true true told live false = refl
tell-bits true false true live false = refl
tell-bits true false false true false = refl
tell-bits true false false false false = refl
tell-bits false settled told live row = refl

-- of what carries it, with its consumer's decision
paired-rows : (d : Incoming) (j : Outgoing) (past : List Event) (decided : Option DispositionFields) (gone : Bool)
    → is_some (paired_row d j past decided C) || (is_some (paired_row d j past decided Z) || (is_some (paired_row d j past decided S) || (is_some (paired_row d j past decided L)
    || (is_some (if gone then Some (Some (bare_octets Released)) else None) || false)))) ≡ gone || (is_some decided || is_sent_settled j past || not (is_live past j.link))
paired-rows d j past (Some fields) gone =
    either-of (fits_producer d (outcome_octets fields) past) (outcome_octets fields) (bare_outcome fields) _ ∙ sym (or-one gone (is_sent_settled j past))
paired-rows d j past None gone = undecided-bits (is_sent_settled j past) (is_live past j.link) gone (Some (bare_octets Accepted)) (Some delivery_failed.octets) (Some (bare_octets Released))

all-bits : (all : Bool) (told : Outcome) → is_some (option_map (λ outcome. Some (told_octets outcome)) (if all then Some told else None)) || false ≡ all
all-bits true told = refl
all-bits false told = refl

-- m: of multicast, k: complete, p: what carries it has begun, h: its address always had a consumer; it is gone by these
rows-by : (d : Incoming) (past : List Event) (m k p h all : Bool) (told : Outcome) (o : Option Outgoing)
    → is_some (if m then None else anycast_row d past C o) || (is_some (if m then None else anycast_row d past Z o) || (is_some (if m then None else anycast_row d past S o)
    || (is_some (if m then None else anycast_row d past L o) || (is_some (if not m && k && not p && not h then Some (Some (bare_octets Released)) else None)
    || (is_some (if m then option_map (λ outcome. Some (told_octets outcome)) (if all then Some told else None) else None) || false)))))
    ≡ (if m then all else not m && k && not p && not h || is_some_and o (is_answered past))
rows-by d past true k p h all told o = all-bits all told
rows-by d past false k p h all told None = gone-bits (k && not p && not h) (Some (bare_octets Released))
rows-by d past false k p h all told (Some j) = paired-rows d j past (decision j past) (k && not p && not h)

-- it has an outcome, and something is still to be told of it
pub is_to_tell-parts : (rules : RuleSet) (past : List Event) (d : Incoming) → is_to_tell rules past d ≡ has_outcome rules past d && not (is_closed past d)
is_to_tell-parts rules past d =
    ap (λ b. may_be_told d past && b) (rows-by d past (is_of_multicast rules d past) (is_complete d past) (is_paired d past) (always_had_consumer d past)
    (has_all_verdicts rules d past) (best_verdict rules d past) (pairing d past))
    ∙ tell-bits (is_complete d past) (is_settled d past) (is_told d past) (is_live past d.link) (if is_of_multicast rules d past then has_all_verdicts rules d past else is_gone rules d past || is_some_and (pairing d past) (is_answered past))

-- ---- what an event does to a delivery to a client

sent-not_yet : (past : List Event) (j : Outgoing) → AreBorn past → length past ≤ j.number → is_sent j past ≡ false
sent-not_yet [] j born later = refl
sent-not_yet (e ∷ past) j born later =
    ap (λ b. b && is_some_and (out_transfer e) (λ fields. not (flag fields.more)) || is_sent j past) (part e.outgoing born.0) ∙ sent-not_yet past j born.1 (omega (arith, later))
  where
    below : (k : Outgoing) → IsBorn (length past) e.note k → k.number ≤ length past
    below k (inl lt) = omega (arith, lt)
    below k (inr same) = let number = same.0 in omega (arith, number)

    part : (o : Option Outgoing) → IfSome o (IsBorn (length past) e.note) → is_some_and o (λ other. other.number == j.number) ≡ false
    part None of = refl
    part (Some k) of = ne_eqb k.number j.number (λ same. let le = below k of in omega (arith, same, le, later))

answered-bits : (decided live now settled sent last ends : Bool) → (decided || live && now) || settled && (last || sent) || not (live && not ends) ≡ decided || settled && sent || not live || (live && now || settled && last || ends)
answered-bits true live now settled sent last ends = refl
answered-bits false true true true true last ends = refl
answered-bits false true true true false last ends = refl
answered-bits false true true false sent last ends = refl
answered-bits false true false true true true ends = refl
answered-bits false true false true false true ends = refl
answered-bits false true false true true false ends = refl
answered-bits false true false true false false true = refl
answered-bits false true false true false false false = refl
answered-bits false true false false sent last true = refl
answered-bits false true false false sent last false = refl
answered-bits false false now true true true ends = refl
answered-bits false false now true false true ends = refl
answered-bits false false now true true false ends = refl
answered-bits false false now true false false ends = refl
answered-bits false false now false sent last ends = refl

-- of one whose link lives on unless the event ends it
pub is_answered-step : (e : Event) (past : List Event) (j : Outgoing) → is_live (e ∷ past) j.link ≡ is_live past j.link && not (ends_link j.link e)
    → is_answered (e ∷ past) j ≡ is_answered past j || answers_now e past j
is_answered-step e past j live =
    ap (λ b. b || is_sent_settled j (e ∷ past) || not (is_live (e ∷ past) j.link)) (is_decided-step e past j)
    ∙ (ap (λ b. is_some (decision j past) || is_live past j.link && decides_now e j || is_sent_settled j (e ∷ past) || not b) live
    ∙ answered-bits (is_some (decision j past)) (is_live past j.link) (decides_now e j) j.link.is_pre_settled (is_sent j past) (ends_delivery j e) (ends_link j.link e))

-- ---- what an event does to a delivery from a client

-- k: completed by the event, c: complete before, h: its address has a consumer, a: it always had one before
nothing-carries : (was_many k c h a : Bool) → (c ≡ true → was_many ≡ false) → (c ≡ true → k ≡ false)
    → (k || c) && ((true && (k || c) && true && not (h && (k || a))) || false) ≡ c && ((not was_many && c && true && not a) || false) || (k && not h || not was_many && c && true && a && not h && true || false)
nothing-carries true k true h a same once = absurd (let never : true ≡ false = same refl in cc)
nothing-carries false true true h a same once = absurd (let never : true ≡ false = once refl in cc)
nothing-carries true true false true a same once = refl
nothing-carries true true false false a same once = refl
nothing-carries false true false true a same once = refl
nothing-carries false true false false a same once = refl
nothing-carries false false true true true same once = refl
nothing-carries false false true true false same once = refl
nothing-carries false false true false true same once = refl
nothing-carries false false true false false same once = refl
nothing-carries true false false h a same once = refl
nothing-carries false false false h a same once = refl

module _ (rules : RuleSet) (e : Event) (past : List Event) (are : AreJudged rules (e ∷ past)) (lawful : first_broken rules (e ∷ past) ≡ None) where
  before : first_broken rules past ≡ None
  before = lawful-past rules e past lawful

  answered-later : (j : Outgoing) → IsBegun past j → is_answered (e ∷ past) j ≡ is_answered past j || answers_now e past j
  answered-later j b = is_answered-step e past j (is_live-next rules e past are j.link b.linked.at)

  -- one that begins with the event is answered where the event answers it
  module _ (j : Outgoing) (begun : outgoing_begun e ≡ Some j) where
    number : j.number ≡ length past
    number = eqb-true j.number e.number (passing (λ (x : Outgoing). x.number == e.number) e.outgoing j begun).1 ∙ judged-number rules e past are

    answered-begun : is_answered (e ∷ past) j ≡ answers_now e past j
    answered-begun =
        let n = number in
        let own = judged-number rules e past are in
        let undecided : decision j (e ∷ past) ≡ None = decision-begun rules e past j are (n ∙ sym own) in
        let unanswered : answering j e ≡ None = answering-before j e (omega (arith, n, own)) in
        let unsent : is_sent j past ≡ false = sent-not_yet past j (judged-born rules past are.1) (omega (arith, n)) in
        let next = is_live-next rules e past are j.link (begun-linked rules e past are lawful j begun).at in
        ap (λ o. is_some o || is_sent_settled j (e ∷ past) || not (is_live (e ∷ past) j.link)) undecided
        ∙ (ap (λ b. false || j.link.is_pre_settled && (ends_delivery j e || b) || not (is_live (e ∷ past) j.link)) unsent
        ∙ (ap (λ b. false || j.link.is_pre_settled && (ends_delivery j e || false) || not b) (next ∙ ap (λ b. b && not (ends_link j.link e)) (begun-live rules e past are lawful j begun))
        ∙ (begun-bits j.link.is_pre_settled (ends_delivery j e) (ends_link j.link e)
        ∙ sym (ap (λ o. is_live past j.link && (not j.link.is_pre_settled && is_some_and o is_decisive) || j.link.is_pre_settled && ends_delivery j e || ends_link j.link e) unanswered
        ∙ unanswered-bits (is_live past j.link) (not j.link.is_pre_settled) (j.link.is_pre_settled && ends_delivery j e) (ends_link j.link e)))))
      where
        begun-bits : (settled last ends : Bool) → false || settled && (last || false) || not (true && not ends) ≡ settled && last || ends
        begun-bits true true ends = refl
        begun-bits true false true = refl
        begun-bits true false false = refl
        begun-bits false last true = refl
        begun-bits false last false = refl

        unanswered-bits : (live unsettled last ends : Bool) → live && (unsettled && false) || last || ends ≡ last || ends
        unanswered-bits true true last ends = refl
        unanswered-bits true false last ends = refl
        unanswered-bits false unsettled last ends = refl

-- what a transfer that begins a delivery carries is not gone, and not paired where it is anycast
pub record IsFirst (rules : RuleSet) (past : List Event) (d : Incoming) : Type 0 where
  pub whole : is_gone rules d past ≡ false
  pub alone : is_of_multicast rules d past ≡ false → is_paired d past ≡ false

off : (b : Bool) → not b ≡ true → b ≡ false
off false is = refl
off true is = absurd cc

module _ (rules : RuleSet) (e : Event) (past : List Event) (are : AreJudged rules (e ∷ past)) (lawful : first_broken rules (e ∷ past) ≡ None) (j : Outgoing) (begun : outgoing_begun e ≡ Some j) where
  pub carries_first : IsFirst rules past (begun-carries rules e past are lawful j begun).delivery
  carries_first =
      let own = passing (λ (x : Outgoing). x.number == e.number) e.outgoing j begun in
      let t : IsTransfer e.moment = subst (λ (o : Option Outgoing). IfSome o (λ k. IsTransfer e.moment)) own.0 (judged-transfer rules e past are) in
      let begins : begins_outgoing e ≡ true = ap (λ (o : Option Outgoing). is_some_and o (λ k. k.number == e.number)) own.0 ∙ own.1 in
      let goes : is_some_and e.link (goes_once_and_in_order rules e past) ≡ true =
      or-right (begins_outgoing e) (is_some_and e.link (goes_once_and_in_order rules e past)) begins (sym (ap (λ m. meaning_meets rules e t.spoken past m L9) t.means) ∙ met rules e past lawful t.frame t.written t.spoken t.says L9) in
      let l = some-and e.link (goes_once_and_in_order rules e past) goes in
      let d = some-and (to_carry rules e.note past) (λ x. goes_to_one_or_is_due rules l.0 past x && is_in_order l.0 past x) l.2 in
      let c = begun-carries rules e past are lawful j begun in
      let noted_is = passes-some (λ (x : Incoming). is_complete x past && not (is_gone rules x past)) (noted e.note past) d.0 d.1 in
      let one : d.0 ≡ c.delivery = same_some d.0 c.delivery (sym noted_is.0 ∙ c.is) in
      subst (IsFirst rules past) one
      (record {
        whole = off (is_gone rules d.0 past) (and_last (is_complete d.0 past) (not (is_gone rules d.0 past)) noted_is.1);
        alone = λ anycast. alone_by (is_of_multicast rules d.0 past) (not (is_named_on d.0 l.0 past) && is_due rules d.0 l.0 past) (is_paired d.0 past) anycast (and_first (goes_to_one_or_is_due rules l.0 past d.0) (is_in_order l.0 past d.0) d.2);
      })
    where
      alone_by : (many due paired : Bool) → many ≡ false → (if many then due else not paired) ≡ true → paired ≡ false
      alone_by false due false none first = refl
      alone_by false due true none first = absurd cc
      alone_by true due paired none first = absurd cc

-- ---- whether a delivery has an outcome

found-passes : {A : Type 0} (test : A → Bool) (xs : List A) (x : A) → find test xs ≡ Some x → test x ≡ true
found-passes test [] x found = absurd cc
found-passes test (y ∷ ys) x found = by (test y) refl (found-passes test ys x) found
  where
    by : (b : Bool) → test y ≡ b → (find test ys ≡ Some x → test x ≡ true) → (if b then Some y else find test ys) ≡ Some x → test x ≡ true
    by true is later found = let same : y ≡ x = cc in ap test (sym same) ∙ is
    by false is later found = later found

-- a: each copy that was due had its verdict, b: each has
many-bits : (many completed complete a b gone gone_now rest : Bool) → many ≡ true → (complete ≡ true → a ≡ true → b ≡ true)
    → (completed || complete) && (if many then b else gone_now) ≡ complete && (if many then a else gone) || (if many then (completed || complete && not a) && b else rest)
many-bits true completed true true b gone gone_now rest is stays = let all = stays refl refl in rw (all) (both completed)
  where
    both : (k : Bool) → (k || true) && true ≡ true && true || (k || true && not true) && true
    both true = refl
    both false = refl
many-bits true true true false b gone gone_now rest is stays = refl
many-bits true false true false b gone gone_now rest is stays = refl
many-bits true true false a b gone gone_now rest is stays = refl
many-bits true false false a b gone gone_now rest is stays = refl
many-bits false completed complete a b gone gone_now rest is stays = absurd cc

paired-bits : (many completed complete a b gone gone_now waits answered now without unpaired last : Bool) → many ≡ false → completed ≡ false → complete ≡ true → gone ≡ false → gone_now ≡ false → waits ≡ false
    → (completed || complete) && (if many then b else gone_now || (answered || now)) ≡ complete && (if many then a else gone || answered)
    || (if many then last else completed && without || waits && without && unpaired || now)
paired-bits many completed complete a b gone gone_now waits answered now without unpaired last is c e f g h = rw (is, c, e, f, g, h) refl

begun-bits : (many completed complete a b gone gone_now waits now without unpaired last : Bool) → many ≡ false → completed ≡ false → complete ≡ true → gone ≡ false → gone_now ≡ false → unpaired ≡ false
    → (completed || complete) && (if many then b else gone_now || now) ≡ complete && (if many then a else gone || false)
    || (if many then last else completed && without || waits && without && unpaired || now)
begun-bits many completed complete a b gone gone_now true now true unpaired last is c e f g h = rw (is, c, e, f, g, h) refl
begun-bits many completed complete a b gone gone_now true now false unpaired last is c e f g h = rw (is, c, e, f, g) refl
begun-bits many completed complete a b gone gone_now false now without unpaired last is c e f g h = rw (is, c, e, f, g) refl

none-bits : (before after test : Outgoing → Bool) (many was_many : Bool) (was is : Option Outgoing) (pairs_it k c h a all all_now last : Bool) → many ≡ false → (c ≡ true → was_many ≡ false) → was ≡ None → is ≡ None
    → pairs_it ≡ false → (c ≡ true → k ≡ false)
    → (k || c) && (if many then all_now else (not many && (k || c) && not (is_some is) && not (h && (k || a))) || is_some_and is after)
    ≡ c && (if many then all else (not was_many && c && not (is_some was) && not a) || is_some_and was before)
    || (if many then last else k && not h || not was_many && c && not (is_some was) && a && not h && not pairs_it || is_some_and is test)
none-bits before after test many was_many was is pairs_it k c h a all all_now last m o w i p once = rw (m, w, i, p) (nothing-carries was_many k c h a o once)

-- a value behind a test that holds needs to be the same there alone
kind-bits : (c m n x y : Bool) → (c ≡ true → m ≡ n) → c && (if m then x else y) ≡ c && (if n then x else y)
kind-bits false m n x y same = refl
kind-bits true m n x y same = ap (λ b. if b then x else y) (same refl)

module _ (rules : RuleSet) (e : Event) (past : List Event) (are : AreJudged rules (e ∷ past)) (lawful : first_broken rules (e ∷ past) ≡ None) (d : Incoming) (kept : IsKept past d) where
  was_lawful : first_broken rules past ≡ None
  was_lawful = lawful-past rules e past lawful

  by_number : (c : Incoming) → c.number ≡ d.number → is_complete c past ≡ true → is_complete d past ≡ true
  by_number c same done = ap (λ (n : ℕ). list_any (λ (y : Event). is_some_and (completed_by y) (λ other. other.number == n)) past) (sym same) ∙ done

  -- it was of multicast already, where it was complete
  was_kind : is_complete d past ≡ true → is_of_multicast rules d past ≡ is_of_multicast rules d (e ∷ past)
  was_kind done = sym (multicast_stays rules e past are d done)

  -- so whether it had an outcome can be asked by what it is of now
  abbrev had_outcome : Bool
  had_outcome = is_complete d past && (if is_of_multicast rules d (e ∷ past) then has_all_verdicts rules d past else is_gone rules d past || is_some_and (pairing d past) (is_answered past))

  had-outcome : has_outcome rules past d ≡ had_outcome
  had-outcome = kind-bits (is_complete d past) (is_of_multicast rules d past) (is_of_multicast rules d (e ∷ past)) (has_all_verdicts rules d past) (is_gone rules d past || is_some_and (pairing d past) (is_answered past)) was_kind

  abbrev Moves : Type 0
  Moves = has_outcome rules (e ∷ past) d ≡ had_outcome || gets_outcome rules e past d

  -- what carries it goes on
  step_paired : is_of_multicast rules d (e ∷ past) ≡ false → (j : Outgoing) → pairing d past ≡ Some j → Moves
  step_paired anycast j is =
      let b = found-begun rules past are.1 was_lawful (λ (x : Outgoing). names d.number x.note) j is in
      let named : (b.delivery.number == d.number) ≡ true = sym (ap (names d.number) b.named) ∙ found-passes (λ (x : Outgoing). names d.number x.note) (outgoing_deliveries past) j is in
      let complete = by_number b.delivery (eqb-true b.delivery.number d.number named) b.complete in
      let still = pairing-stays rules e past are lawful d.number d kept.at anycast j is in
      let paired : is_paired d past ≡ true = ap is_some is in
      ap (λ o. is_complete d (e ∷ past) && (if is_of_multicast rules d (e ∷ past) then has_all_verdicts rules d (e ∷ past) else is_gone rules d (e ∷ past) || is_some_and o (is_answered (e ∷ past)))) still
      ∙ (ap (λ x. is_complete d (e ∷ past) && (if is_of_multicast rules d (e ∷ past) then has_all_verdicts rules d (e ∷ past) else is_gone rules d (e ∷ past) || x)) (answered-later rules e past are lawful j b)
      ∙ (paired-bits (is_of_multicast rules d (e ∷ past)) (completes d e) (is_complete d past) (has_all_verdicts rules d past) (has_all_verdicts rules d (e ∷ past)) (is_gone rules d past) (is_gone rules d (e ∷ past)) (is_waiting rules d past) (is_answered past j) (answers_now e past j)
      (not (has_consumer (address_of d (e ∷ past)) (e ∷ past))) (not (pairs d e)) (gets_last_verdict rules e past d) anycast (completed_once rules e past are d complete) complete
      (paired-not_gone rules d past paired) (paired-not_gone rules d (e ∷ past) (ap is_some still)) (waits_not (is_of_multicast rules d past) (is_complete d past) (is_paired d past) (always_had_consumer d past) paired)
      ∙ sym (ap (λ o. is_complete d past && (if is_of_multicast rules d (e ∷ past) then has_all_verdicts rules d past else is_gone rules d past || is_some_and o (is_answered past)) || gets_outcome rules e past d) is
      ∙ ap (λ o. is_complete d past && (if is_of_multicast rules d (e ∷ past) then has_all_verdicts rules d past else is_gone rules d past || is_answered past j)
      || (if is_of_multicast rules d (e ∷ past) then gets_last_verdict rules e past d else completes d e && not (has_consumer (address_of d (e ∷ past)) (e ∷ past))
      || is_waiting rules d past && not (has_consumer (address_of d (e ∷ past)) (e ∷ past)) && not (pairs d e) || is_some_and o (answers_now e past))) still)))
    where
      waits_not : (many complete paired had : Bool) → paired ≡ true → not many && complete && not paired && had ≡ false
      waits_not true complete paired had is = refl
      waits_not false false paired had is = refl
      waits_not false true true had is = refl
      waits_not false true false had is = absurd cc

  -- what carries it begins
  step_begun : is_of_multicast rules d (e ∷ past) ≡ false → (j : Outgoing) → outgoing_begun e ≡ Some j → names d.number j.note ≡ true → Moves
  step_begun anycast j begun named =
      let c = begun-carries rules e past are lawful j begun in
      let own = begun-own rules e past are lawful j begun in
      let number : c.delivery.number ≡ d.number = eqb-true c.delivery.number d.number (sym (ap (names d.number) (own.0 ∙ c.named)) ∙ named) in
      let one : c.delivery ≡ d = same_some c.delivery d (sym c.kept.at ∙ (ap (λ n. incoming_at n past) number ∙ kept.at)) in
      let first = subst (IsFirst rules past) one (carries_first rules e past are lawful j begun) in
      let complete = by_number c.delivery number c.complete in
      let now : pairing d (e ∷ past) ≡ Some j = pairing-begun e past d j begun named in
      let none : pairing d past ≡ None = none_is (pairing d past) (first.alone (was_kind complete ∙ anycast)) in
      let pairs_it : pairs d e ≡ true = ap (λ o. is_some_and o (λ (x : Outgoing). names d.number x.note)) begun ∙ named in
      ap (λ o. is_complete d (e ∷ past) && (if is_of_multicast rules d (e ∷ past) then has_all_verdicts rules d (e ∷ past) else is_gone rules d (e ∷ past) || is_some_and o (is_answered (e ∷ past)))) now
      ∙ (ap (λ x. is_complete d (e ∷ past) && (if is_of_multicast rules d (e ∷ past) then has_all_verdicts rules d (e ∷ past) else is_gone rules d (e ∷ past) || x)) (answered-begun rules e past are lawful j begun)
      ∙ (begun-bits (is_of_multicast rules d (e ∷ past)) (completes d e) (is_complete d past) (has_all_verdicts rules d past) (has_all_verdicts rules d (e ∷ past)) (is_gone rules d past) (is_gone rules d (e ∷ past)) (is_waiting rules d past) (answers_now e past j)
      (not (has_consumer (address_of d (e ∷ past)) (e ∷ past))) (not (pairs d e)) (gets_last_verdict rules e past d) anycast (completed_once rules e past are d complete) complete
      first.whole (paired-not_gone rules d (e ∷ past) (ap is_some now)) (ap not pairs_it)
      ∙ sym (ap (λ o. is_complete d past && (if is_of_multicast rules d (e ∷ past) then has_all_verdicts rules d past else is_gone rules d past || is_some_and o (is_answered past)) || gets_outcome rules e past d) none
      ∙ ap (λ o. is_complete d past && (if is_of_multicast rules d (e ∷ past) then has_all_verdicts rules d past else is_gone rules d past || false)
      || (if is_of_multicast rules d (e ∷ past) then gets_last_verdict rules e past d else completes d e && not (has_consumer (address_of d (e ∷ past)) (e ∷ past))
      || is_waiting rules d past && not (has_consumer (address_of d (e ∷ past)) (e ∷ past)) && not (pairs d e) || is_some_and o (answers_now e past))) now)))
    where
      none_is : (o : Option Outgoing) → is_some o ≡ false → o ≡ None
      none_is None is = refl
      none_is (Some x) is = absurd cc

  -- nothing carries it
  step_none : is_of_multicast rules d (e ∷ past) ≡ false → pairing d past ≡ None → pairs d e ≡ false → Moves
  step_none anycast none apart =
      none-bits (is_answered past) (is_answered (e ∷ past)) (answers_now e past) (is_of_multicast rules d (e ∷ past)) (is_of_multicast rules d past) (pairing d past) (pairing d (e ∷ past)) (pairs d e) (completes d e) (is_complete d past)
      (has_consumer (address_of d (e ∷ past)) (e ∷ past)) (always_had_consumer d past) (has_all_verdicts rules d past) (has_all_verdicts rules d (e ∷ past)) (gets_last_verdict rules e past d) anycast (λ done. was_kind done ∙ anycast) none (still_none (outgoing_begun e) refl) apart (completed_once rules e past are d)
    where
      still_none : (o : Option Outgoing) → outgoing_begun e ≡ o → pairing d (e ∷ past) ≡ None
      still_none None is = pairing-same e past d is ∙ none
      still_none (Some j) is = pairing-another e past d j is (sym (ap (λ o. is_some_and o (λ (x : Outgoing). names d.number x.note)) is) ∙ apart) ∙ none

  by_pairs : is_of_multicast rules d (e ∷ past) ≡ false → pairing d past ≡ None → (o : Option Outgoing) → outgoing_begun e ≡ o → Moves
  by_pairs anycast none None is = step_none anycast none (ap (λ o. is_some_and o (λ (x : Outgoing). names d.number x.note)) is)
  by_pairs anycast none (Some j) is = named (names d.number j.note) refl
    where
      named : (b : Bool) → names d.number j.note ≡ b → Moves
      named true this = step_begun anycast j is this
      named false another = step_none anycast none (ap (λ o. is_some_and o (λ (x : Outgoing). names d.number x.note)) is ∙ another)

  by_pairing : is_of_multicast rules d (e ∷ past) ≡ false → (o : Option Outgoing) → pairing d past ≡ o → Moves
  by_pairing anycast (Some j) is = step_paired anycast j is
  by_pairing anycast None is = by_pairs anycast is (outgoing_begun e) refl

  by_kind : (b : Bool) → is_of_multicast rules d (e ∷ past) ≡ b → Moves
  by_kind true many =
      many-bits (is_of_multicast rules d (e ∷ past)) (completes d e) (is_complete d past) (has_all_verdicts rules d past) (has_all_verdicts rules d (e ∷ past))
      (is_gone rules d past || is_some_and (pairing d past) (is_answered past)) (is_gone rules d (e ∷ past) || is_some_and (pairing d (e ∷ past)) (is_answered (e ∷ past))) _ many
      (has_all-stays rules e past are lawful d still)
    where
      still : incoming_at d.number (e ∷ past) ≡ Some d
      still = at-step e past (judged-number rules e past are) (judged-part rules e past are) (judged-sound rules past are.1) d.number kept.before ∙ kept.at
  by_kind false anycast = by_pairing anycast (pairing d past) refl

  -- one that had an outcome has it still, and gets one by the event
  pub has_outcome_moves : has_outcome rules (e ∷ past) d ≡ has_outcome rules past d || gets_outcome rules e past d
  has_outcome_moves = by_kind (is_of_multicast rules d (e ∷ past)) refl ∙ ap (λ b. b || gets_outcome rules e past d) (sym had-outcome)

  step-bits : (has gets closed closes : Bool) → (has || gets) && not (closed || closes) ≡ (has && not closed || gets && not closed) && not closes
  step-bits true true true closes = refl
  step-bits true false true closes = refl
  step-bits true gets false closes = refl
  step-bits false true true closes = refl
  step-bits false true false closes = refl
  step-bits false false closed closes = refl

  -- an outcome that was to be told, or that comes while something may still be told, is to be told unless the event closes the delivery
  pub is_to_tell_moves : is_to_tell rules (e ∷ past) d ≡ (is_to_tell rules past d || gets_outcome rules e past d && not (is_closed past d)) && not (closes_incoming e d)
  is_to_tell_moves =
      is_to_tell-parts rules (e ∷ past) d
      ∙ (ap (λ b. b && not (is_closed (e ∷ past) d)) has_outcome_moves
      ∙ (ap (λ b. (has_outcome rules past d || gets_outcome rules e past d) && not b) (is_closed-step e past d (is_live-next rules e past are d.link kept.link.at))
      ∙ (step-bits (has_outcome rules past d) (gets_outcome rules e past d) (is_closed past d) (closes_incoming e d)
      ∙ ap (λ b. (b || gets_outcome rules e past d && not (is_closed past d)) && not (closes_incoming e d)) (sym (is_to_tell-parts rules past d)))))

-- ---- all that are to be told

filter-last : {A : Type 0} (p : A → Bool) (o : Option A) (xs : List A) → filter p (reverse (cons_option o xs)) ≡ filter p (reverse xs) ++ filter p (cons_option o [])
filter-last p None xs = sym (append-nil (filter p (reverse xs)))
filter-last p (Some x) xs = ap (filter p) (reverse-append (x ∷ []) xs) ∙ filter-append p (reverse xs) (x ∷ [])

-- those that were to be told, and those that come, but for those that the event closes; and behind them the one that it
-- begins, if that is to be told at once
pub outcomes_to_tell_move : (rules : RuleSet) (e : Event) (past : List Event) → AreJudged rules (e ∷ past) → first_broken rules (e ∷ past) ≡ None
    → outcomes_to_tell rules (e ∷ past) ≡ filter (λ d. not (closes_incoming e d)) (filter (λ d. is_to_tell rules past d || gets_outcome rules e past d && not (is_closed past d)) (reverse (incoming_deliveries past)))
    ++ filter (is_to_tell rules (e ∷ past)) (cons_option (incoming_begun e) [])
outcomes_to_tell_move rules e past are lawful =
    let were = λ (d : Incoming). is_to_tell rules past d || gets_outcome rules e past d && not (is_closed past d) in
    let stays = λ (d : Incoming). not (closes_incoming e d) in
    let ds = incoming_deliveries past in
    filter-last (is_to_tell rules (e ∷ past)) (incoming_begun e) ds
    ∙ ap (λ xs. xs ++ filter (is_to_tell rules (e ∷ past)) (cons_option (incoming_begun e) []))
    (sym (filter-reverse (is_to_tell rules (e ∷ past)) ds)
    ∙ (ap reverse (filter-each (is_to_tell rules (e ∷ past)) were stays ds
    (all_such (IsKept past) (λ d. is_to_tell rules (e ∷ past) d ≡ were d && stays d) ds (is_to_tell_moves rules e past are lawful) (each_delivery (IsKept past) past (judged-kept rules past are.1).each)))
    ∙ (filter-reverse stays (filter were ds) ∙ ap (filter stays) (filter-reverse were ds))))

-- which deliveries they are
pub listed_to_tell : (rules : RuleSet) (past : List Event) (d : Incoming) → Contains (outcomes_to_tell rules past) d → Contains (incoming_deliveries past) d × (is_to_tell rules past d ≡ true)
listed_to_tell rules past d listed =
    let h = in_filter (is_to_tell rules past) (reverse (incoming_deliveries past)) d listed in
    (in_reverse (incoming_deliveries past) d h.0, h.1)

pub to_tell_listed : (rules : RuleSet) (past : List Event) (d : Incoming) → Contains (incoming_deliveries past) d → is_to_tell rules past d ≡ true → Contains (outcomes_to_tell rules past) d
to_tell_listed rules past d there is = filter_has (is_to_tell rules past) (reverse (incoming_deliveries past)) d is (reverse_has (incoming_deliveries past) d there)
