-- What one more event does to the verdict of a copy of a multicast delivery, in a lawful history, whatever the event.
use Rattle.std.proofs.Common.{◌≡◌, refl, sym, ap, subst, ◌∙◌, ◌<◌, ◌≤◌, Bool, true, false, not, ◌&&◌, ◌||◌, ◌==◌, List, [], ◌∷◌, length, Option, Some, None, IfSome, find, is_none, option_and_then, option_map, if◌then◌else◌, inl, inr, arith, eqb-true, eq-eqb, ne_eqb}
use Rattle.std.specs.List.{cons_option, AllByRecursion}
use Rattle.amqp_perf.specs.declared.descriptor.Outcome.{Outcome}
use Rattle.amqp_perf.specs.declared.descriptor.Outcome.TheVariants.{Modified}
use Rattle.amqp_perf.specs.Meaning.{DispositionFields, flag}
use Rattle.capture_form.specs.Rules.{RuleSet}
use Rattle.trace_events.specs.declared.clause.Clause.TheVariants.{L9}
use Rattle.trace_events.specs.Words.{is_some_and, or_else, where_passes}
use Rattle.trace_events.specs.Frame.{Spoken}
use Rattle.trace_events.specs.Event.{Event, Link, Incoming, Outgoing}
use Rattle.trace_events.specs.declared.session.Session.{Session}
use Rattle.trace_events.specs.Said.{as_attach, out_transfer}
use Rattle.trace_events.specs.Connection.{is_over}
use Rattle.trace_events.specs.Session.{last_session}
use Rattle.trace_events.specs.Link.{is_live, link_at, session_link, IsLiveLink}
use Rattle.trace_events.specs.Ends.{ends_link}
use Rattle.trace_events.specs.Credit.{begins_outgoing}
use Rattle.trace_events.specs.Disposition.{is_decisive}
use Rattle.trace_events.specs.Incoming.{incoming_at, is_complete}
use Rattle.trace_events.specs.Outgoing.{in_progress, is_part, is_sent, is_on, outgoing_begun, outgoing_deliveries, outgoing_at, names, noted, is_paired, is_named_on, answering, first_deciding, decision}
use Rattle.trace_events.specs.History.{judge, judge_unopened, moment_of}
use Rattle.trace_events.specs.Waiting.{is_of_multicast, is_gone}
use Rattle.trace_events.specs.Due.{is_due}
use Rattle.trace_events.specs.Clauses.{first_broken, meaning_meets}
use Rattle.trace_events.specs.Outcome.{is_sent_settled}
use Rattle.trace_events.specs.TransferClause.{goes_once_and_in_order, to_carry, goes_to_one_or_is_due, is_in_order}
use Rattle.trace_events.specs.CopyVerdict.{copy_on, sent_verdict, begun_verdict, verdict_on, copy_verdict, ends_settled, deciding_now, begun_verdict_by, verdict_by}
use Rattle.trace_events.proofs.Along.{standing, some_passes, and_first, and_last}
use Rattle.trace_events.proofs.Judged.{AreJudged, AreBorn, IsBorn, IsTransfer, judged-born, judged-number, judged-transfer}
use Rattle.trace_events.proofs.Links.{IsKnown, attach_in, passing}
use Rattle.trace_events.proofs.LinkLives.{judged-stands}
use Rattle.trace_events.proofs.Opens.{opened-link}
use Rattle.trace_events.proofs.OutgoingLinks.{answering-before, decision-begun}
use Rattle.trace_events.proofs.SessionNumbers.{last_session-known}
use Rattle.trace_events.proofs.BegunDeliveries.{begun-own, begun-carries, begun-linked, begun-live, found-begun}
use Rattle.trace_events.proofs.ClausesMet.{met, lawful-past}
use Rattle.trace_events.proofs.LinkEnds.{is_live-next}
use Rattle.trace_events.proofs.LiveLinks.{placed-names}
use Rattle.trace_events.proofs.OneConsumer.{some-and, passes-some, or-right}
use Rattle.trace_events.proofs.OutgoingProgress.{IsPartOf, judged-outgoing_part, judged-carrying, carrying-link}
use Rattle.trace_events.proofs.Parts.{IsKept, all_such, found_holds}

-- ---- a verdict that stands, or that comes

-- P: the link is settled beforehand, L: it lives, E: the event ends it, T: the event is the copy's last part, S: that came
-- before; D: what the consumer decided before, W: what it decides with the event
copy-bits : (P L E T S : Bool) (D W : Option DispositionFields) → (P && T ≡ true → L ≡ true)
    → or_else (sent_verdict (if P then None else or_else D (if L then W else None)) (P && (T || S))) (if L && not E then None else Some Modified)
    ≡ or_else (or_else (sent_verdict (if P then None else D) (P && S)) (if L then None else Some Modified))
    (or_else (sent_verdict (if P then None else (if L then W else None)) (P && T)) (if E then Some Modified else None))
copy-bits true L E true true D W lives = refl
copy-bits true L E false true D W lives = refl
copy-bits true true E true false D W lives = refl
copy-bits true false E true false D W lives = absurd (let never : false ≡ true = lives refl in cc)
copy-bits true true true false false D W lives = refl
copy-bits true true false false false D W lives = refl
copy-bits true false E false false D W lives = refl
copy-bits false L E T S (Some fields) W lives = refl
copy-bits false true E T S None (Some fields) lives = refl
copy-bits false true true T S None None lives = refl
copy-bits false true false T S None None lives = refl
copy-bits false false E T S None W lives = refl

-- of a copy that begins with the event, nothing was decided or sent before
begun-bits : (P E T : Bool)
    → or_else (sent_verdict None (P && (T || false))) (if true && not E then None else Some Modified)
    ≡ or_else (if true then None else Some Modified) (or_else (sent_verdict None (P && T)) (if E then Some Modified else None))
begun-bits true E true = refl
begun-bits true true false = refl
begun-bits true false false = refl
begun-bits false true T = refl
begun-bits false false T = refl

none-bits : (L E : Bool) → ◌≡◌ {A = Option Outcome} (if L && not E then None else Some Modified) (or_else (if L then None else Some Modified) (if E then Some Modified else None))
none-bits true true = refl
none-bits true false = refl
none-bits false E = refl

-- of a copy that had no verdict
given-bits : (P L T S : Bool) (D W : Option DispositionFields) (over : Option Outcome) → is_none (or_else (sent_verdict (if P then None else D) (P && S)) over) ≡ true
    → sent_verdict (if P then None else or_else D (if L then W else None)) (P && (T || S)) ≡ sent_verdict (if P then None else (if L then W else None)) (P && T)
given-bits true L true S D W over none = refl
given-bits true L false true D W over none = absurd cc
given-bits true L false false D W over none = refl
given-bits false L T S (Some fields) W over none = absurd cc
given-bits false L T S None W over none = refl

same_some : {A : Type 0} (a b : A) → Some a ≡ Some b → a ≡ b
same_some a b is = cc

known : {A : Type 0} (P : A → Type 0) (o : Option A) (x : A) → o ≡ Some x → IfSome o P → P x
known P o x is h = subst (λ (p : Option _). IfSome p P) is h

last_of : (over : Bool) (last : Option Session) (s : Session) → (if over then None else last) ≡ Some s → last ≡ Some s
last_of true last s is = absurd cc
last_of false last s is = is

pub found-passes : {A : Type 0} (test : A → Bool) (xs : List A) (x : A) → find test xs ≡ Some x → test x ≡ true
found-passes test [] x found = absurd cc
found-passes test (y ∷ ys) x found = by (test y) refl (found-passes test ys x) found
  where
    by : (b : Bool) → test y ≡ b → (find test ys ≡ Some x → test x ≡ true) → (if b then Some y else find test ys) ≡ Some x → test x ≡ true
    by true is later found = ap test (sym (same_some y x found)) ∙ is
    by false is later found = later found

-- ---- a delivery to a client that is found by any test is found by its number

record IsNumbered (past : List Event) (j : Outgoing) : Type 0 where
  below : j.number < length past
  at : outgoing_at j.number past ≡ Some j

judged-numbered : (rules : RuleSet) (past : List Event) → AreJudged rules past → AllByRecursion (IsNumbered past) (outgoing_deliveries past)
judged-numbered rules [] are = tt
judged-numbered rules (e ∷ past) are = by (outgoing_begun e) refl (judged-numbered rules past are.1)
  where
    own : (k : Outgoing) → outgoing_begun e ≡ Some k → k.number ≡ length past
    own k begun = eqb-true k.number e.number (passing (λ (x : Outgoing). x.number == e.number) e.outgoing k begun).1 ∙ judged-number rules e past are

    still : (o : Option Outgoing) → ((k : Outgoing) → o ≡ Some k → k.number ≡ length past) → (j : Outgoing) → j.number < length past → outgoing_at j.number past ≡ Some j
        → find (λ x. x.number == j.number) (cons_option o (outgoing_deliveries past)) ≡ Some j
    still None number j lt at = at
    still (Some k) number j lt at =
        ap (λ b. if b then Some k else outgoing_at j.number past) (ne_eqb k.number j.number (λ same. let n = number k refl in omega (arith, same, n, lt))) ∙ at

    later : (j : Outgoing) → IsNumbered past j → IsNumbered (e ∷ past) j
    later j h = let lt = h.below in record { below = omega (arith, lt); at = still (outgoing_begun e) own j h.below h.at }

    by : (o : Option Outgoing) → outgoing_begun e ≡ o → AllByRecursion (IsNumbered past) (outgoing_deliveries past) → AllByRecursion (IsNumbered (e ∷ past)) (cons_option o (outgoing_deliveries past))
    by None is earlier = all_such (IsNumbered past) (IsNumbered (e ∷ past)) (outgoing_deliveries past) later earlier
    by (Some k) is earlier =
        let n = own k is in (
          record {
            below = omega (arith, n);
            at = ap (λ o. find (λ (x : Outgoing). x.number == k.number) (cons_option o (outgoing_deliveries past))) is ∙ ap (λ b. if b then Some k else outgoing_at k.number past) (eq-eqb k.number k.number refl);
          },
          all_such (IsNumbered past) (IsNumbered (e ∷ past)) (outgoing_deliveries past) later earlier,
        )

found-at : (rules : RuleSet) (past : List Event) → AreJudged rules past → (test : Outgoing → Bool) (j : Outgoing) → find test (outgoing_deliveries past) ≡ Some j → outgoing_at j.number past ≡ Some j
found-at rules past are test j found = (found_holds (IsNumbered past) test (outgoing_deliveries past) j (judged-numbered rules past are) found).at

-- nothing is sent of a delivery before it begins
sent-not_yet : (past : List Event) (j : Outgoing) → AreBorn past → length past ≤ j.number → is_sent j past ≡ false
sent-not_yet [] j born later = refl
sent-not_yet (e ∷ past) j born later =
    ap (λ b. b && is_some_and (out_transfer e) (λ fields. not (flag fields.more)) || is_sent j past) (part e.outgoing born.0) ∙ sent-not_yet past j born.1 (omega (arith, later))
  where
    below : (k : Outgoing) → IsBorn (length past) e.note k → k.number ≤ length past
    below k (inl lt) = omega (arith, lt)
    below k (inr same) = let number = same.0 in omega (arith, number)

    part : (o : Option Outgoing) → IfSome o (IsBorn (length past) e.note) → is_some_and o (λ other. other.number == j.number) ≡ false
    part None of = refl
    part (Some k) of = ne_eqb k.number j.number (λ same. let le = below k of in omega (arith, same, le, later))

-- ---- the parts of a delivery to a client are written while its link lives

module _ (rules : RuleSet) (e : Event) (past : List Event) (are : AreJudged rules (e ∷ past)) (lawful : first_broken rules (e ∷ past) ≡ None) where
  was_lawful : first_broken rules past ≡ None
  was_lawful = lawful-past rules e past lawful

  module _ (j : Outgoing) (part : e.outgoing ≡ Some j) where
    transfer : IsTransfer e.moment
    transfer = known (λ (k : Outgoing). IsTransfer e.moment) e.outgoing j part (judged-transfer rules e past are)

    no_attach : attach_in (moment_of are.0.0.what) ≡ None
    no_attach =
        let t = transfer in
        let same : moment_of are.0.0.what ≡ e.moment = sym (ap (λ (x : Event). x.moment) are.0.1) in
        ap attach_in same
        ∙ (ap attach_in t.written
        ∙ (ap (λ o. option_and_then as_attach (option_map (λ (spoken : Spoken). spoken.meaning) o)) t.says ∙ ap as_attach t.means))

    -- the link that it names lives, and was opened before
    named_live : (l : Link) → e.link ≡ Some l → IsLiveLink l past
    named_live l on =
        let r = are.0.0 in
        let unopened : (judge rules past r).link ≡ (standing rules past r).link =
        opened-link (judge_unopened rules past r.connection (moment_of r.what) r.note) past no_attach in
        let here : (judge rules past r).link ≡ Some l = subst (λ (x : Event). x.link ≡ Some l) are.0.1 on in
        known (λ (m : Link). IsLiveLink m past) (standing rules past r).link l (sym unopened ∙ here) (placed-names past r.connection (moment_of r.what) r.note)

    live_known : (l : Link) → IsLiveLink l past → IsKnown past l
    live_known l live =
        let s = l.session in
        (judged-stands rules past are.1).known s l.handle l
        (last_session-known rules past are.1 s.connection s.channel s (last_of (is_over s.connection past) (last_session s.connection s.channel past) s live.0)) live.1

    lives : (l : Link) → IsLiveLink l past → is_live past l ≡ true
    lives l live =
        ap (λ o. is_some_and (option_and_then (λ (s : Session). session_link s l.handle past) o) (λ (m : Link). m.number == l.number)) live.0
        ∙ (ap (λ o. is_some_and o (λ (m : Link). m.number == l.number)) live.1 ∙ eq-eqb l.number l.number refl)

    -- it goes on there
    going_live : (l : Link) → e.link ≡ Some l → in_progress l past ≡ Some j → is_live past j.link ≡ true
    going_live l on goes =
        let live = named_live l on in
        let one : j.link ≡ l = carrying-link rules past l j are.1 was_lawful (live_known l live).at goes in
        ap (is_live past) one ∙ lives l live

  -- a part of one that began before is written while its link lives
  pub part_live : (j : Outgoing) → outgoing_at j.number past ≡ Some j → j.number < length past → is_part j e ≡ true → is_live past j.link ≡ true
  part_live j at below part =
      let x = some_passes (λ (k : Outgoing). k.number == j.number) e.outgoing part in
      let number : x.0.number ≡ j.number = eqb-true x.0.number j.number x.2 in
      elim (known (IsPartOf e past) e.outgoing x.0 x.1 (judged-outgoing_part rules e past are)) [
        | inl (l, on, goes) ↦
            let carries = (judged-carrying rules past are.1 was_lawful l x.0 goes).1 in
            let one : x.0 ≡ j = same_some x.0 j (sym carries.at ∙ (ap (λ n. outgoing_at n past) number ∙ at)) in
            ap (λ (k : Outgoing). is_live past k.link) (sym one) ∙ going_live x.0 x.1 l on goes
        | inr new ↦ let own = new.0 in absurd (omega (arith, own, number, below))
      ]

  -- ---- one that begins is the first on its link that carries the delivery, and it is due there

  module _ (j : Outgoing) (begun : outgoing_begun e ≡ Some j) where
    first_on : goes_to_one_or_is_due rules j.link past (begun-carries rules e past are lawful j begun).delivery ≡ true
    first_on =
        let own = passing (λ (x : Outgoing). x.number == e.number) e.outgoing j begun in
        let t : IsTransfer e.moment = known (λ (k : Outgoing). IsTransfer e.moment) e.outgoing j own.0 (judged-transfer rules e past are) in
        let begins : begins_outgoing e ≡ true = ap (λ (o : Option Outgoing). is_some_and o (λ k. k.number == e.number)) own.0 ∙ own.1 in
        let goes : is_some_and e.link (goes_once_and_in_order rules e past) ≡ true =
        or-right (begins_outgoing e) (is_some_and e.link (goes_once_and_in_order rules e past)) begins (sym (ap (λ m. meaning_meets rules e t.spoken past m L9) t.means) ∙ met rules e past lawful t.frame t.written t.spoken t.says L9) in
        let l = some-and e.link (goes_once_and_in_order rules e past) goes in
        let d = some-and (to_carry rules e.note past) (λ x. goes_to_one_or_is_due rules l.0 past x && is_in_order l.0 past x) l.2 in
        let c = begun-carries rules e past are lawful j begun in
        let noted_is = passes-some (λ (x : Incoming). is_complete x past && not (is_gone rules x past)) (noted e.note past) d.0 d.1 in
        let carried : d.0 ≡ c.delivery = same_some d.0 c.delivery (sym noted_is.0 ∙ c.is) in
        let on : l.0 ≡ j.link = same_some l.0 j.link (sym l.1 ∙ (begun-own rules e past are lawful j begun).1) in
        let first : goes_to_one_or_is_due rules l.0 past d.0 ≡ true = and_first (goes_to_one_or_is_due rules l.0 past d.0) (is_in_order l.0 past d.0) d.2 in
        subst (λ (m : Link). goes_to_one_or_is_due rules m past c.delivery ≡ true) on (subst (λ (x : Incoming). goes_to_one_or_is_due rules l.0 past x ≡ true) carried first)

    module _ (d : Incoming) (kept : IsKept past d) (named : names d.number j.note ≡ true) where
      -- it carries d
      pub carries_it : (begun-carries rules e past are lawful j begun).delivery ≡ d
      carries_it =
          let c = begun-carries rules e past are lawful j begun in
          let own = begun-own rules e past are lawful j begun in
          let number : c.delivery.number ≡ d.number = eqb-true c.delivery.number d.number (sym (ap (names d.number) (own.0 ∙ c.named)) ∙ named) in
          same_some c.delivery d (sym c.kept.at ∙ (ap (λ n. incoming_at n past) number ∙ kept.at))

      multicast_first : is_of_multicast rules d past ≡ true → not (is_named_on d j.link past) && is_due rules d j.link past ≡ true
      multicast_first many =
          ap (λ b. if b then not (is_named_on d j.link past) && is_due rules d j.link past else not (is_paired d past)) (sym many)
          ∙ subst (λ (x : Incoming). goes_to_one_or_is_due rules j.link past x ≡ true) carries_it first_on

      pub not_named_before : is_of_multicast rules d past ≡ true → is_named_on d j.link past ≡ false
      not_named_before many = off (is_named_on d j.link past) (and_first (not (is_named_on d j.link past)) (is_due rules d j.link past) (multicast_first many))
        where
          off : (b : Bool) → not b ≡ true → b ≡ false
          off false is = refl
          off true is = absurd cc

      pub due_before : is_of_multicast rules d past ≡ true → is_due rules d j.link past ≡ true
      due_before many = and_last (not (is_named_on d j.link past)) (is_due rules d j.link past) (multicast_first many)

  -- ---- the verdict of a copy

  module _ (d : Incoming) (kept : IsKept past d) (many : is_of_multicast rules d past ≡ true) (l : Link) (at : link_at l.number past ≡ Some l) where
    abbrev is_copy : Outgoing → Bool
    is_copy j = is_on l j && names d.number j.note

    abbrev Moves : Link → Option Outgoing → Option Outgoing → Type 0
    Moves m was now =
        verdict_on (e ∷ past) m now
        ≡ or_else (verdict_on past m was)
        (or_else (option_and_then (λ j. sent_verdict (deciding_now e past j) (ends_settled e j)) now) (if ends_link m e then Some Modified else None))

    lives_on : is_live (e ∷ past) l ≡ is_live past l && not (ends_link l e)
    lives_on = is_live-next rules e past are l at

    same_link : (m : Link) → link_at m.number past ≡ Some m → (m.number == l.number) ≡ true → m ≡ l
    same_link m there is = same_some m l (sym there ∙ (ap (λ n. link_at n past) (eqb-true m.number l.number is) ∙ at))

    -- one that stands goes on
    stands_moves : (j : Outgoing) → copy_on d l past ≡ Some j → Moves l (Some j) (Some j)
    stands_moves j is =
        let b = found-begun rules past are.1 was_lawful is_copy j is in
        let passes : is_copy j ≡ true = found-passes is_copy (outgoing_deliveries past) j is in
        let one : j.link ≡ l = same_link j.link b.linked.at (and_first (is_on l j) (names d.number j.note) passes) in
        let next : is_live (e ∷ past) j.link ≡ is_live past j.link && not (ends_link j.link e) = is_live-next rules e past are j.link b.linked.at in
        let last : Bool = is_part j e && is_some_and (out_transfer e) (λ fields. not (flag fields.more)) in
        let goes : j.link.is_pre_settled && last ≡ true → is_live past j.link ≡ true =
        λ h. part_live j (found-at rules past are.1 is_copy j is) b.below
        (and_first (is_part j e) (is_some_and (out_transfer e) (λ fields. not (flag fields.more))) (and_last j.link.is_pre_settled last h)) in
        subst (λ (m : Link). Moves m (Some j) (Some j)) one
        (ap (λ x. or_else (sent_verdict (decision j (e ∷ past)) (is_sent_settled j (e ∷ past))) (if x then None else Some Modified)) next
        ∙ copy-bits j.link.is_pre_settled (is_live past j.link) (ends_link j.link e) last (is_sent j past) (first_deciding j past) (where_passes is_decisive (answering j e)) goes)

    -- one that begins
    undecided_now : (j : Outgoing) → answering j e ≡ None → deciding_now e past j ≡ None
    undecided_now j none = by j.link.is_pre_settled (is_live past j.link) (answering j e) none
      where
        by : (p live : Bool) (o : Option DispositionFields) → o ≡ None → (if p then None else (if live then where_passes is_decisive o else None)) ≡ None
        by true live o is = refl
        by false true o is = ap (where_passes is_decisive) is
        by false false o is = refl

    begins_moves : (j : Outgoing) → outgoing_begun e ≡ Some j → is_copy j ≡ true → Moves l None (Some j)
    begins_moves j begun passes =
        let linked = begun-linked rules e past are lawful j begun in
        let one : j.link ≡ l = same_link j.link linked.at (and_first (is_on l j) (names d.number j.note) passes) in
        let next : is_live (e ∷ past) j.link ≡ is_live past j.link && not (ends_link j.link e) = is_live-next rules e past are j.link linked.at in
        let own = judged-number rules e past are in
        let n : j.number ≡ length past = eqb-true j.number e.number (passing (λ (x : Outgoing). x.number == e.number) e.outgoing j begun).1 ∙ own in
        let last : Bool = is_part j e && is_some_and (out_transfer e) (λ fields. not (flag fields.more)) in
        let undecided : decision j (e ∷ past) ≡ None = decision-begun rules e past j are (n ∙ sym own) in
        let unsent : is_sent j past ≡ false = sent-not_yet past j (judged-born rules past are.1) (omega (arith, n)) in
        let nothing : deciding_now e past j ≡ None = undecided_now j (answering-before j e (omega (arith, n, own))) in
        subst (λ (m : Link). Moves m None (Some j)) one
        (ap (λ x. or_else (sent_verdict (decision j (e ∷ past)) (is_sent_settled j (e ∷ past))) (if x then None else Some Modified))
        (next ∙ ap (λ b. b && not (ends_link j.link e)) (begun-live rules e past are lawful j begun))
        ∙ (ap (λ o. or_else (sent_verdict o (is_sent_settled j (e ∷ past))) (if true && not (ends_link j.link e) then None else Some Modified)) undecided
        ∙ (ap (λ b. or_else (sent_verdict None (j.link.is_pre_settled && (last || b))) (if true && not (ends_link j.link e) then None else Some Modified)) unsent
        ∙ (begun-bits j.link.is_pre_settled (ends_link j.link e) last
        ∙ sym (ap (λ b. or_else (if b then None else Some Modified) (or_else (sent_verdict (deciding_now e past j) (ends_settled e j)) (if ends_link j.link e then Some Modified else None))) (begun-live rules e past are lawful j begun)
        ∙ ap (λ o. or_else (if true then None else Some Modified) (or_else (sent_verdict o (ends_settled e j)) (if ends_link j.link e then Some Modified else None))) nothing)))))

    -- there is none
    none_moves : Moves l None None
    none_moves = ap (λ b. if b then None else Some Modified) lives_on ∙ none-bits (is_live past l) (ends_link l e)

    -- which copy is there behind the event: the one that was, or one that begins where there was none
    module _ (P : Option Outgoing → Option Outgoing → Type 0) (stands : (j : Outgoing) → copy_on d l past ≡ Some j → P (Some j) (Some j))
        (begins : (j : Outgoing) → outgoing_begun e ≡ Some j → is_copy j ≡ true → P None (Some j)) (none : P None None) where
      by_begun : (was : Option Outgoing) → copy_on d l past ≡ was → (o : Option Outgoing) → outgoing_begun e ≡ o → P was (find is_copy (cons_option o (outgoing_deliveries past)))
      by_begun (Some j) is None begun = subst (P (Some j)) (sym is) (stands j is)
      by_begun None is None begun = subst (P None) (sym is) none
      by_begun was is (Some k) begun = passed was is (is_copy k) refl
        where
          passed : (was : Option Outgoing) → copy_on d l past ≡ was → (b : Bool) → is_copy k ≡ b → P was (if b then Some k else copy_on d l past)
          passed (Some j) is false other = subst (P (Some j)) (sym is) (stands j is)
          passed None is false other = subst (P None) (sym is) none
          passed None is true this = begins k begun this
          passed (Some j) is true this =
              let b = found-begun rules past are.1 was_lawful is_copy j is in
              let passes : is_copy j ≡ true = found-passes is_copy (outgoing_deliveries past) j is in
              let named : names d.number j.note ≡ true = and_last (is_on l j) (names d.number j.note) passes in
              let number : b.delivery.number ≡ d.number = eqb-true b.delivery.number d.number (sym (ap (names d.number) b.named) ∙ named) in
              let carried : b.delivery ≡ d = same_some b.delivery d (sym b.kept.at ∙ (ap (λ n. incoming_at n past) number ∙ kept.at)) in
              let mine : j.link ≡ l = same_link j.link b.linked.at (and_first (is_on l j) (names d.number j.note) passes) in
              let theirs : k.link ≡ l = same_link k.link (begun-linked rules e past are lawful k begun).at (and_first (is_on l k) (names d.number k.note) this) in
              let before : is_named_on d l past ≡ true = subst (λ (m : Link). is_named_on d m past ≡ true) mine (subst (λ (x : Incoming). is_named_on x j.link past ≡ true) carried b.named_on) in
              let never : is_named_on d l past ≡ false =
              subst (λ (m : Link). is_named_on d m past ≡ false) theirs (not_named_before k begun d kept (and_last (is_on l k) (names d.number k.note) this) many) in
              absurd cc

      copy-next : P (copy_on d l past) (copy_on d l (e ∷ past))
      copy-next = by_begun (copy_on d l past) refl (outgoing_begun e) refl

    -- a verdict stays, and one comes where there was none just as the event says
    pub copy_verdict_moves : copy_verdict d l (e ∷ past) ≡ or_else (copy_verdict d l past) (verdict_by e past d l)
    copy_verdict_moves = copy-next (Moves l) stands_moves begins_moves none_moves

    -- of a copy that had no verdict, the one that it has behind the event is what the event gives it
    abbrev IsGiven : Option Outgoing → Option Outgoing → Type 0
    IsGiven was now =
        is_none (verdict_on past l was) ≡ true
        → option_and_then (λ j. sent_verdict (decision j (e ∷ past)) (is_sent_settled j (e ∷ past))) now ≡ option_and_then (λ j. sent_verdict (deciding_now e past j) (ends_settled e j)) now

    stands_given : (j : Outgoing) → copy_on d l past ≡ Some j → IsGiven (Some j) (Some j)
    stands_given j is =
        given-bits j.link.is_pre_settled (is_live past j.link) (is_part j e && is_some_and (out_transfer e) (λ fields. not (flag fields.more))) (is_sent j past)
        (first_deciding j past) (where_passes is_decisive (answering j e)) (if is_live past l then None else Some Modified)

    begins_given : (j : Outgoing) → outgoing_begun e ≡ Some j → is_copy j ≡ true → IsGiven None (Some j)
    begins_given j begun passes = λ none.
        let own = judged-number rules e past are in
        let n : j.number ≡ length past = eqb-true j.number e.number (passing (λ (x : Outgoing). x.number == e.number) e.outgoing j begun).1 ∙ own in
        let last : Bool = is_part j e && is_some_and (out_transfer e) (λ fields. not (flag fields.more)) in
        let undecided : decision j (e ∷ past) ≡ None = decision-begun rules e past j are (n ∙ sym own) in
        let unsent : is_sent j past ≡ false = sent-not_yet past j (judged-born rules past are.1) (omega (arith, n)) in
        let nothing : deciding_now e past j ≡ None = undecided_now j (answering-before j e (omega (arith, n, own))) in
        ap (λ o. sent_verdict o (is_sent_settled j (e ∷ past))) undecided
        ∙ (ap (λ b. sent_verdict None (j.link.is_pre_settled && (last || b))) unsent
        ∙ (ap (λ b. sent_verdict None (j.link.is_pre_settled && b)) (last_alone last) ∙ sym (ap (λ o. sent_verdict o (ends_settled e j)) nothing)))
      where
        last_alone : (b : Bool) → b || false ≡ b
        last_alone true = refl
        last_alone false = refl

    pub begun_verdict_given : is_none (copy_verdict d l past) ≡ true → begun_verdict d l (e ∷ past) ≡ begun_verdict_by e past d l
    begun_verdict_given = copy-next IsGiven stands_given begins_given (λ none. refl)
