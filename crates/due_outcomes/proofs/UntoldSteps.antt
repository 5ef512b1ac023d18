-- The deliveries of which an outcome is to be told, behind one more event: each was so before, or is one that the event
-- completes, that waits where it leaves no consumer, whose carrier it answers, or that it gives its last verdict.
use Rattle.std.proofs.Common.{◌≡◌, refl, sym, ap, subst, ◌∙◌, inl, inr, ℕ, Bool, true, false, ◌&&◌, ◌||◌, not, List, [], ◌∷◌, length, Option, Some, None, IfSome, is_some, find, ◌==◌, eqb-true, eq-eqb, arith, if◌then◌else◌}
use Rattle.std.specs.Prelude.{Contains}
use Rattle.std.specs.List.{list_any}
use Rattle.amqp_perf.specs.Meaning.{DispositionFields, flag}
use Rattle.capture_form.specs.Rules.{RuleSet}
use Rattle.pairing_cert.specs.declared.note.Note.{Note}
use Rattle.pairing_cert.specs.declared.note.Note.TheVariants as notes
use Rattle.trace_events.specs.Words.{is_some_and}
use Rattle.trace_events.specs.Event.{Event, Incoming, Link, Outgoing}
use Rattle.trace_events.specs.Said.{out_transfer}
use Rattle.trace_events.specs.Link.{is_live, IsLiveLink}
use Rattle.trace_events.specs.Ends.{ends_link}
use Rattle.trace_events.specs.Address.{has_consumer, has_multicast}
use Rattle.trace_events.specs.Disposition.{is_decisive}
use Rattle.trace_events.specs.Incoming.{address_of, completed_by, completes, incoming_at, incoming_begun, incoming_deliveries, is_complete}
use Rattle.trace_events.specs.Outgoing.{answering, decision, is_part, is_settled_by_consumer, is_settled_by_router, is_paired, names, noted, outgoing_begun, outgoing_deliveries, pairing}
use Rattle.trace_events.specs.Queue.{pairs}
use Rattle.trace_events.specs.Settling.{is_closed}
use Rattle.trace_events.specs.Waiting.{always_had_consumer, is_gone, is_of_multicast, is_unpaired, is_waiting}
use Rattle.trace_events.specs.Work.{closes_incoming, decides_now}
use Rattle.trace_events.proofs.Judged.{AreJudged, judged-number}
use Rattle.trace_events.proofs.Links.{passing}
use Rattle.trace_events.proofs.OutgoingSteps.{pairing-same, pairing-another}
use Rattle.trace_events.proofs.SettlingSteps.{is_closed-step}
use Rattle.trace_events.specs.BestVerdict.{has_all_verdicts}
use Rattle.trace_events.specs.Clauses.{first_broken}
use Rattle.trace_events.specs.CopyVerdict.{awaits_verdict}
use Rattle.trace_events.specs.Outcome.{is_sent_settled, is_to_tell}
use Rattle.trace_events.specs.Telling.{answers_now, gets_last_verdict, gets_outcome, has_outcome, is_answered}
use Rattle.trace_events.proofs.BegunDeliveries.{IsBegun, begun-carries, begun-noted, begun-noted_later, begun-noted_now, begun-own, judged-begun}
use Rattle.trace_events.proofs.ClausesMet.{lawful-past}
use Rattle.trace_events.proofs.IncomingProgress.{judged-kept}
use Rattle.trace_events.proofs.Incomings.{judged-part, judged-sound}
use Rattle.trace_events.proofs.Incomings.{IsPartOf as PartIn}
use Rattle.trace_events.proofs.LinkEnds.{is_live-next, lives-live}
use Rattle.trace_events.proofs.OutcomesToTell.{is_to_tell-parts, is_to_tell_moves}
use Rattle.trace_events.proofs.OutgoingProgress.{judged-carrying, judged-outgoing_part}
use Rattle.trace_events.proofs.OutgoingProgress.{IsPartOf as PartOut}
use Rattle.trace_events.proofs.Parts.{IsKept, each_delivery}
use Rattle.trace_events.proofs.WaitingQueue.{address_stays, all_contained, find_has, multicast_stays}
use Rattle.number_groups.specs.Ascending.{has}
use Rattle.state_outgoing.specs.Sent.{is_left_unsettled}
use Rattle.state_outgoing.proofs.SentDecided.{judged-decided}
use Rattle.state_verdicts.specs.Verdicts.{awaits_at}
use Rattle.due_outcomes.specs.Candidates.{Grows}
use Rattle.due_outcomes.specs.Untold.{HasUntold, IsOn, KeepsOn}
use Rattle.due_outcomes.specs.declared.untold.Untold.{Untold}
use Rattle.due_outcomes.proofs.LastVerdicts.{IsLast, IsSpokenOf, last-verdict}
use Rattle.state_outgoing.proofs.SentKept.{contained-at}
use Rattle.due_outcomes.proofs.UnsettledSteps.{and-both, first-or-earlier, or-cases, some-of}

same_some : {A : Type 0} (a b : A) → Some a ≡ Some b → a ≡ b
same_some a b is = cc

not-true : (b : Bool) → not b ≡ true → b ≡ false
not-true false is = refl
not-true true is = absurd cc

or-none : (a b : Bool) → a || b ≡ false → a ≡ false
or-none false b is = refl
or-none true b is = absurd cc

found-passes : {A : Type 0} (test : A → Bool) (xs : List A) (x : A) → find test xs ≡ Some x → test x ≡ true
found-passes test [] x found = absurd cc
found-passes test (y ∷ ys) x found = by (test y) refl found (found-passes test ys x)
  where
    by : (b : Bool) → test y ≡ b → (if b then Some y else find test ys) ≡ Some x → (find test ys ≡ Some x → test x ≡ true) → test x ≡ true
    by true is found later = ap test (sym (same_some y x found)) ∙ is
    by false is found later = later found

-- what a value that is there passes
passed : {A : Type 0} (test : A → Bool) (o : Option A) (x : A) → o ≡ Some x → test x ≡ true → is_some_and o test ≡ true
passed test o x is so = ap (λ p. is_some_and p test) is ∙ so

some-passes : {A : Type 0} (test : A → Bool) (o : Option A) → is_some_and o test ≡ true → (x : A) × (o ≡ Some x) × (test x ≡ true)
some-passes test None is = absurd cc
some-passes test (Some x) is = (x, refl, is)

-- what a list does where the event follows
pub record IsFollowed (rules : RuleSet) (e : Event) (past : List Event) (earlier later : Untold) : Type 0 where
  pub grown : Grows earlier.candidates later.candidates
  -- what the event completes is a candidate
  pub completed : (d : Incoming) → completes d e ≡ true → has later.candidates d.number ≡ true
  -- what it carries a part of is a candidate, and found by its carrier
  pub named : (n : ℕ) → is_some_and e.outgoing (λ j. names n j.note) ≡ true → has later.candidates n ≡ true
  pub begun : IfSome (outgoing_begun e) (λ j. (n : ℕ) → names n j.note ≡ true → has_multicast rules j.link.address ≡ false → IsOn later.carried j n)
  pub kept : KeepsOn earlier.carried later.carried
  -- so is what it leaves without a consumer
  pub over : (j : Outgoing) (n : ℕ) → IsOn later.carried j n → IsLiveLink j.link past → ends_link j.link e ≡ true → has later.candidates n ≡ true
  -- what is carried by one of which its consumer speaks, and what awaits a verdict on a link that it ends
  pub spoken : (j : Outgoing) → Contains (outgoing_deliveries past) j → is_left_unsettled past j ≡ true → is_some (answering j e) ≡ true → (n : ℕ) → names n j.note ≡ true → has later.candidates n ≡ true
  pub awaited : (l : Link) (n : ℕ) → IsLiveLink l past → ends_link l e ≡ true → awaits_at rules past l.number n ≡ true → has later.candidates n ≡ true
  -- and what waits where it leaves no consumer
  pub lost : (d : Incoming) → Contains (incoming_deliveries past) d → is_waiting rules d past ≡ true → has_consumer (address_of d past) past ≡ true → has_consumer (address_of d past) (e ∷ past) ≡ false
      → has later.candidates d.number ≡ true

had-now : (d : Incoming) (past : List Event) → always_had_consumer d past ≡ true → has_consumer (address_of d past) past ≡ true
had-now d [] is = absurd cc
had-now d (e ∷ past) is = (and-both (has_consumer (address_of d (e ∷ past)) (e ∷ past)) _ is).0

-- one that waits is complete
waits-complete : (rules : RuleSet) (d : Incoming) (past : List Event) → is_waiting rules d past ≡ true → is_complete d past ≡ true
waits-complete rules d past is =
    let unpaired = and-both (is_unpaired rules d past) (always_had_consumer d past) is in
    (and-both (not (is_of_multicast rules d past)) (is_complete d past) (and-both (not (is_of_multicast rules d past) && is_complete d past) (not (is_paired d past)) unpaired.0).0).1

names-number : (own : Note) (n m : ℕ) → own ≡ notes.Pair m → names n own ≡ true → m ≡ n
names-number own n m is named = eqb-true m n (sym (ap (names n) is) ∙ named)

-- one that is answered where its link is over
over-answers : (decided settled live : Bool) → live ≡ false → decided || settled || not live ≡ true
over-answers true settled live is = refl
over-answers false true live is = refl
over-answers false false live is = ap not is

outcome-bits : (complete many all gone answered : Bool) → complete ≡ true → many ≡ false → answered ≡ true → complete && (if many then all else gone || answered) ≡ true
outcome-bits complete true all gone answered is one so = absurd cc
outcome-bits complete false all true answered is one so = ap (λ b. b && true) is
outcome-bits complete false all false answered is one so = ap (λ b. b && answered) is ∙ so

-- one that neither side has settled, as it is not decided
left-bits : (settled live c r decided : Bool) → settled ≡ false → live ≡ true → decided ≡ false → (c || r ≡ true → decided ≡ true) → not settled && (live && not c && not r) ≡ true
left-bits false true false false decided unsettled lives none so = refl
left-bits false true true r decided unsettled lives none so = let never : true ≡ false = sym (so refl) ∙ none in absurd cc
left-bits false true false true decided unsettled lives none so = let never : true ≡ false = sym (so refl) ∙ none in absurd cc
left-bits true live c r decided unsettled lives none so = absurd cc
left-bits false false c r decided unsettled lives none so = absurd cc

module _ (rules : RuleSet) (e : Event) (past : List Event) (are : AreJudged rules (e ∷ past)) (lawful : first_broken rules (e ∷ past) ≡ None)
    (earlier later : Untold) (was : HasUntold rules earlier past) (f : IsFollowed rules e past earlier later) where
  before : first_broken rules past ≡ None
  before = lawful-past rules e past lawful

  incoming-kept : (d : Incoming) → Contains (incoming_deliveries past) d → IsKept past d
  incoming-kept d there = all_contained (IsKept past) (incoming_deliveries past) d (each_delivery (IsKept past) past (judged-kept rules past are.1).each) there

  outgoing-begun : (j : Outgoing) → Contains (outgoing_deliveries past) j → IsBegun past j
  outgoing-begun j there = all_contained (IsBegun past) (outgoing_deliveries past) j (judged-begun rules past are.1 before) there

  -- a part of a delivery that has begun is of that delivery
  incoming-same : (d x : Incoming) → IsKept past d → e.incoming ≡ Some x → (x.number == d.number) ≡ true → x ≡ d
  incoming-same d x k is same = by (subst (λ (o : Option Incoming). IfSome o (PartIn past)) is (judged-part rules e past are))
    where
      number : x.number ≡ d.number
      number = eqb-true x.number d.number same

      by : PartIn past x → x ≡ d
      by (inl (l, going)) = same_some x d (sym ((judged-sound rules past are.1).known l x going) ∙ (ap (λ n. incoming_at n past) number ∙ k.at))
      by (inr new) = let lt = k.before in absurd (omega (arith, lt, number, new))

  outgoing-same : (j x : Outgoing) → Contains (outgoing_deliveries past) j → e.outgoing ≡ Some x → (x.number == j.number) ≡ true → x ≡ j
  outgoing-same j x there is same = by (subst (λ (o : Option Outgoing). IfSome o (PartOut e past)) is (judged-outgoing_part rules e past are))
    where
      number : x.number ≡ j.number
      number = eqb-true x.number j.number same

      by : PartOut e past x → x ≡ j
      by (inl (l, on, going)) =
          same_some x j (sym (judged-carrying rules past are.1 before l x going).1.at ∙ (ap (λ n. find (λ (k : Outgoing). k.number == n) (outgoing_deliveries past)) number ∙ contained-at rules past are.1 j there))
      by (inr (new, note, on)) = let lt = (outgoing-begun j there).below in absurd (omega (arith, lt, number, new))

  -- ---- what is to be told

  module _ (d : Incoming) (there : Contains (incoming_deliveries past) d) where
    k : IsKept past d
    k = incoming-kept d there

    abbrev Found : Type 0
    Found = has later.candidates d.number ≡ true

    was-due : is_to_tell rules past d ≡ true → Found
    was-due is = f.grown d.number (was.due d there is)

    -- what carries it is answered
    module _ (behind : is_of_multicast rules d (e ∷ past) ≡ false) (opens : is_closed past d ≡ false) (j : Outgoing) (is : pairing d past ≡ Some j) where
      begun_j : Contains (outgoing_deliveries past) j
      begun_j = find_has (λ (x : Outgoing). names d.number x.note) (outgoing_deliveries past) j is

      b : IsBegun past j
      b = outgoing-begun j begun_j

      named_j : names d.number j.note ≡ true
      named_j = found-passes (λ (x : Outgoing). names d.number x.note) (outgoing_deliveries past) j is

      number_j : b.delivery.number ≡ d.number
      number_j = names-number j.note d.number b.delivery.number b.named named_j

      complete_d : is_complete d past ≡ true
      complete_d = sym (ap (λ n. list_any (λ (y : Event). is_some_and (completed_by y) (λ x. x.number == n)) past) number_j) ∙ b.complete

      anycast : is_of_multicast rules d past ≡ false
      anycast = sym (multicast_stays rules e past are d complete_d) ∙ behind

      noted_j : noted j.note past ≡ Some d
      noted_j = ap (λ note. noted note past) b.named ∙ (ap (λ n. incoming_at n past) number_j ∙ k.at)

      under : IsOn later.carried j d.number
      under = f.kept j d.number (was.carried j begun_j d noted_j anycast opens)

      answered-before : is_some (decision j past) || is_sent_settled j past || not (is_live past j.link) ≡ true → Found
      answered-before answered =
          let outcome : has_outcome rules past d ≡ true =
          outcome-bits (is_complete d past) (is_of_multicast rules d past) (has_all_verdicts rules d past) (is_gone rules d past) (is_some_and (pairing d past) (is_answered past))
          complete_d anycast (passed (is_answered past) (pairing d past) j is answered) in
          was-due (is_to_tell-parts rules past d ∙ (ap (λ x. x && not (is_closed past d)) outcome ∙ ap not opens))

      over-before : is_live past j.link ≡ false → Found
      over-before off = answered-before (over-answers (is_some (decision j past)) (is_sent_settled j past) (is_live past j.link) off)

      -- its consumer speaks of it: it was decided before, or neither side has settled it
      spoken-by : (o : Option DispositionFields) → decision j past ≡ o → is_live past j.link ≡ true → j.link.is_pre_settled ≡ false → is_some (answering j e) ≡ true → Found
      spoken-by (Some fields) decided live unsettled speaks = answered-before (ap (λ p. is_some p || is_sent_settled j past || not (is_live past j.link)) decided)
      spoken-by None none live unsettled speaks =
          f.spoken j begun_j
          (left-bits j.link.is_pre_settled (is_live past j.link) (is_settled_by_consumer j past) (is_settled_by_router j past) (is_some (decision j past))
          unsettled live (ap is_some none) (judged-decided rules past are.1 j.number j (contained-at rules past are.1 j begun_j) unsettled live))
          speaks d.number named_j

      ended : (live : Bool) → is_live past j.link ≡ live → ends_link j.link e ≡ true → Found
      ended true live ends = f.over j d.number under (lives-live rules past are.1 j.link b.linked.at live) ends
      ended false off ends = over-before off

      pair-answers : answers_now e past j ≡ true → Found
      pair-answers ans =
          elim (or-cases (is_live past j.link && decides_now e j || j.link.is_pre_settled && (is_part j e && is_some_and (out_transfer e) (λ fields. not (flag fields.more)))) (ends_link j.link e) ans) [
            | inl either ↦ elim (or-cases (is_live past j.link && decides_now e j) (j.link.is_pre_settled && (is_part j e && is_some_and (out_transfer e) (λ fields. not (flag fields.more)))) either) [
              | inl decides ↦ let live = and-both (is_live past j.link) (decides_now e j) decides in
                  let says = and-both (not j.link.is_pre_settled) (is_some_and (answering j e) is_decisive) live.1 in
                  spoken-by (decision j past) refl live.0 (not-true j.link.is_pre_settled says.0) (some-of (answering j e) says.1)
              | inr last ↦ let part = some-passes (λ (x : Outgoing). x.number == j.number) e.outgoing
                  (and-both (is_part j e) (is_some_and (out_transfer e) (λ fields. not (flag fields.more)))
                  (and-both j.link.is_pre_settled (is_part j e && is_some_and (out_transfer e) (λ fields. not (flag fields.more))) last).1).0 in
                  let same = outgoing-same j part.0 begun_j part.1 part.2 in
                  f.named d.number (passed (λ (x : Outgoing). names d.number x.note) e.outgoing part.0 part.1 (ap (λ (x : Outgoing). names d.number x.note) same ∙ named_j))
            ]
            | inr ends ↦ ended (is_live past j.link) refl ends
          ]

    by-pairing : is_of_multicast rules d (e ∷ past) ≡ false → is_closed past d ≡ false → (o : Option Outgoing) → pairing d past ≡ o → is_some_and o (answers_now e past) ≡ true → Found
    by-pairing anycast opens None is ans = absurd cc
    by-pairing anycast opens (Some j) is ans = pair-answers anycast opens j is ans

    -- what carries it began before, or begins with the event
    by-begun : is_of_multicast rules d (e ∷ past) ≡ false → is_closed past d ≡ false → (o : Option Outgoing) → outgoing_begun e ≡ o → is_some_and (pairing d (e ∷ past)) (answers_now e past) ≡ true → Found
    by-begun anycast opens None none ans = by-pairing anycast opens (pairing d past) refl (sym (ap (λ o. is_some_and o (answers_now e past)) (pairing-same e past d none)) ∙ ans)
    by-begun anycast opens (Some j) begun ans = by (names d.number j.note) refl
      where
        by : (b : Bool) → names d.number j.note ≡ b → Found
        by true this =
            f.named d.number (passed (λ (x : Outgoing). names d.number x.note) e.outgoing j (passing (λ (x : Outgoing). x.number == e.number) e.outgoing j begun).0 this)
        by false other =
            by-pairing anycast opens (pairing d past) refl
            (sym (ap (λ o. is_some_and o (answers_now e past)) (pairing-another e past d j begun other)) ∙ ans)

    -- its last verdict comes
    module _ (other : completes d e ≡ false) (lacks : has_all_verdicts rules d past ≡ false) (has_all : has_all_verdicts rules d (e ∷ past) ≡ true) where
      last : IsLast rules e past d
      last = last-verdict rules e past are lawful d k other lacks has_all

      spoken-of : IsSpokenOf e past d → Found
      spoken-of s =
          f.spoken s.copy s.begun
          (left-bits s.copy.link.is_pre_settled (is_live past s.copy.link) (is_settled_by_consumer s.copy past) (is_settled_by_router s.copy past) (is_some (decision s.copy past))
          s.unsettled s.lives (ap is_some s.undecided) (judged-decided rules past are.1 s.copy.number s.copy s.at s.unsettled s.lives))
          s.speaks d.number s.named

      last-found : Found
      last-found = elim last.gives [
        | inl ends ↦ f.awaited last.link d.number last.lives ends
            (ap (λ o. is_some_and o (λ l. is_some_and (incoming_at d.number past) (λ x. awaits_verdict rules x past l))) last.at
            ∙ (ap (λ o. is_some_and o (λ x. awaits_verdict rules x past last.link)) k.at ∙ last.awaits))
        | inr copy ↦ elim copy [
          | inl part ↦ f.named d.number part
          | inr says ↦ spoken-of says
        ]
      ]

    by-many : (now : Bool) → completes d e ≡ now → (now || is_complete d past && not (has_all_verdicts rules d past)) && has_all_verdicts rules d (e ∷ past) ≡ true → Found
    by-many true now gets = f.completed d now
    by-many false other gets =
        let both = and-both (is_complete d past && not (has_all_verdicts rules d past)) (has_all_verdicts rules d (e ∷ past)) gets in
        last-found other (not-true (has_all_verdicts rules d past) (and-both (is_complete d past) (not (has_all_verdicts rules d past)) both.0).1) both.1

    by-kind : is_closed past d ≡ false → (many : Bool) → is_of_multicast rules d (e ∷ past) ≡ many
        → (if many then gets_last_verdict rules e past d
        else completes d e && not (has_consumer (address_of d (e ∷ past)) (e ∷ past)) || is_waiting rules d past && not (has_consumer (address_of d (e ∷ past)) (e ∷ past)) && not (pairs d e)
        || is_some_and (pairing d (e ∷ past)) (answers_now e past)) ≡ true → Found
    by-kind opens true many gets = by-many (completes d e) refl gets
    by-kind opens false anycast gets =
        let none = not (has_consumer (address_of d (e ∷ past)) (e ∷ past)) in
        elim (or-cases (completes d e && none || is_waiting rules d past && none && not (pairs d e)) (is_some_and (pairing d (e ∷ past)) (answers_now e past)) gets) [
          | inl either ↦ elim (or-cases (completes d e && none) (is_waiting rules d past && none && not (pairs d e)) either) [
            | inl completes_it ↦ f.completed d (and-both (completes d e) none completes_it).0
            | inr loses ↦ let parts = and-both (is_waiting rules d past && none) (not (pairs d e)) loses in
                let both = and-both (is_waiting rules d past) none parts.0 in
                let same = address_stays rules e past are d (waits-complete rules d past both.0) in
                f.lost d there both.0 (had-now d past (and-both (is_unpaired rules d past) (always_had_consumer d past) both.0).1)
                (sym (ap (λ a. has_consumer a (e ∷ past)) same) ∙ not-true (has_consumer (address_of d (e ∷ past)) (e ∷ past)) both.1)
          ]
          | inr answers ↦ by-begun anycast opens (outgoing_begun e) refl answers
        ]

    due-old : is_to_tell rules (e ∷ past) d ≡ true → Found
    due-old is =
        let moved = and-both (is_to_tell rules past d || gets_outcome rules e past d && not (is_closed past d)) (not (closes_incoming e d)) (sym (is_to_tell_moves rules e past are lawful d k) ∙ is) in
        elim (or-cases (is_to_tell rules past d) (gets_outcome rules e past d && not (is_closed past d)) moved.0) [
          | inl so ↦ was-due so
          | inr now ↦ let both = and-both (gets_outcome rules e past d) (not (is_closed past d)) now in by-kind (not-true (is_closed past d) both.1) (is_of_multicast rules d (e ∷ past)) refl both.0
        ]

  -- ---- what is carried

  carried-old : (j : Outgoing) → Contains (outgoing_deliveries past) j → (d : Incoming) → noted j.note (e ∷ past) ≡ Some d → is_of_multicast rules d (e ∷ past) ≡ false → is_closed (e ∷ past) d ≡ false
      → IsOn later.carried j d.number
  carried-old j there d at anycast opens =
      let b = outgoing-begun j there in
      let same : b.delivery ≡ d = same_some b.delivery d (sym (begun-noted_later rules e past are j b) ∙ at) in
      let so : is_closed past b.delivery ≡ false =
      or-none (is_closed past b.delivery) (closes_incoming e b.delivery)
      (sym (is_closed-step e past b.delivery (is_live-next rules e past are b.delivery.link b.kept.link.at)) ∙ (ap (is_closed (e ∷ past)) same ∙ opens)) in
      subst (λ (x : Incoming). IsOn later.carried j x.number) same
      (f.kept j b.delivery.number (was.carried j there b.delivery (begun-noted past j b) (sym (multicast_stays rules e past are b.delivery b.complete) ∙ (ap (λ (x : Incoming). is_of_multicast rules x (e ∷ past)) same ∙ anycast)) so))

  carried-new : (j : Outgoing) → outgoing_begun e ≡ Some j → (d : Incoming) → noted j.note (e ∷ past) ≡ Some d → is_of_multicast rules d (e ∷ past) ≡ false → IsOn later.carried j d.number
  carried-new j begun d at anycast =
      let c = begun-carries rules e past are lawful j begun in
      let own = begun-own rules e past are lawful j begun in
      let same : c.delivery ≡ d = same_some c.delivery d (sym (begun-noted_now rules e past are lawful j begun) ∙ at) in
      let names_it : names d.number j.note ≡ true =
      ap (names d.number) (own.0 ∙ c.named) ∙ eq-eqb c.delivery.number d.number (ap (λ (x : Incoming). x.number) same) in
      let address : has_multicast rules j.link.address ≡ false =
      ap (has_multicast rules) (c.address ∙ (sym (address_stays rules e past are c.delivery c.complete) ∙ ap (λ (x : Incoming). address_of x (e ∷ past)) same)) ∙ anycast in
      subst (λ (o : Option Outgoing). IfSome o (λ i. (n : ℕ) → names n i.note ≡ true → has_multicast rules i.link.address ≡ false → IsOn later.carried i n)) begun f.begun d.number names_it address

  -- ---- what begins

  -- one that begins with the event is complete only by it
  fresh-incomplete : (d : Incoming) → incoming_begun e ≡ Some d → is_complete d past ≡ false
  fresh-incomplete d begun =
      let own = passing (λ (x : Incoming). x.number == e.number) e.incoming d begun in
      let number : d.number ≡ length past = eqb-true d.number e.number own.1 ∙ judged-number rules e past are in
      (judged-sound rules past are.1).fresh d (omega (arith, number))

  -- ---- all of it

  due-new : (d : Incoming) → incoming_begun e ≡ Some d → is_to_tell rules (e ∷ past) d ≡ true → has later.candidates d.number ≡ true
  due-new d begun is =
      let complete : is_complete d (e ∷ past) ≡ true = told-complete (is_complete d (e ∷ past)) _ _ _ _ is in
      elim (or-cases (completes d e) (is_complete d past) complete) [
        | inl now ↦ f.completed d now
        | inr so ↦ let never : true ≡ false = sym so ∙ fresh-incomplete d begun in absurd cc
      ]
    where
      told-complete : (complete settled told live rows : Bool) → complete && not settled && not told && live && rows ≡ true → complete ≡ true
      told-complete true settled told live rows is = refl
      told-complete false settled told live rows is = absurd cc

  -- so the list follows the event
  pub untold-next : HasUntold rules later (e ∷ past)
  untold-next = record {
    due = λ d there is. elim (first-or-earlier (incoming_begun e) (incoming_deliveries past) d there) [
      | inl new ↦ due-new d new is
      | inr old ↦ due-old d old is
    ];
    carried = λ j there d at anycast opens. elim (first-or-earlier (outgoing_begun e) (outgoing_deliveries past) j there) [
      | inl new ↦ carried-new j new d at anycast
      | inr old ↦ carried-old j old d at anycast opens
    ];
  }
