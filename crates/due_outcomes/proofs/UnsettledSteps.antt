-- The deliveries that are to be settled, and those that are decided and still unsettled, behind one more event: each was so
-- before, or is one of which its consumer speaks with the event, or that carries what the event closes.
use Rattle.std.proofs.Common.{◌≡◌, refl, sym, ap, subst, ◌∙◌, ◌⊎◌, inl, inr, ℕ, Bool, true, false, ◌&&◌, ◌||◌, not, List, ◌∷◌, Option, Some, None, is_some, ◌==◌, eqb-true}
use Rattle.std.specs.Prelude.{Contains}
use Rattle.std.specs.List.{cons_option}
use Rattle.amqp_perf.specs.Meaning.{DispositionFields}
use Rattle.capture_form.specs.Rules.{RuleSet}
use Rattle.trace_events.specs.Words.{is_some_and}
use Rattle.trace_events.specs.Event.{Event, Incoming, Link, Outgoing}
use Rattle.trace_events.specs.Link.{is_live}
use Rattle.trace_events.specs.Disposition.{is_decisive}
use Rattle.trace_events.specs.Outgoing.{outgoing_begun, outgoing_deliveries, answering, noted}
use Rattle.trace_events.specs.Settling.{is_closed, is_to_settle}
use Rattle.trace_events.specs.Work.{carries_closed, closes_incoming, stands_unsettled, keeps_unsettled, decides_now}
use Rattle.trace_events.proofs.Judged.{AreJudged}
use Rattle.trace_events.proofs.Links.{passing}
use Rattle.trace_events.proofs.OutgoingLinks.{decision-begun}
use Rattle.trace_events.proofs.SettlingSteps.{is_closed-step, is_decided-step, stands_unsettled-step}
use Rattle.trace_events.specs.Clauses.{first_broken}
use Rattle.trace_events.proofs.BegunDeliveries.{IsBegun, begun-noted, begun-noted_later, judged-begun}
use Rattle.trace_events.proofs.LinkEnds.{is_live-next}
use Rattle.trace_events.proofs.WaitingQueue.{all_contained, contains_cases}
use Rattle.number_groups.specs.Ascending.{has}
use Rattle.state_outgoing.specs.Sent.{is_left_unsettled}
use Rattle.state_tables.specs.EndedLinks.{AreEnded}
use Rattle.due_outcomes.specs.Closings.{may_close}
use Rattle.due_outcomes.specs.Parked.{IsLeft, is_parked}
use Rattle.due_outcomes.specs.Candidates.{Grows}
use Rattle.due_outcomes.specs.Unsettled.{HasUnsettled, is_decided}
use Rattle.due_outcomes.specs.declared.unsettled.Unsettled.{Unsettled}
use Rattle.due_outcomes.proofs.Closings.{closing}
use Rattle.due_outcomes.proofs.SettlingsDue.{settled-of, settled-parts}
use Rattle.due_outcomes.proofs.UnderKeys.{or-first}

pub and-both : (a b : Bool) → a && b ≡ true → (a ≡ true) × (b ≡ true)
and-both true b is = (refl, is)
and-both false b is = absurd cc

pub or-cases : (a b : Bool) → a || b ≡ true → (a ≡ true) ⊎ (b ≡ true)
or-cases true b is = inl refl
or-cases false b is = inr is

-- one of the deliveries behind the event began before it, or with it
pub first-or-earlier : {A : Type 0} (o : Option A) (xs : List A) (x : A) → Contains (cons_option o xs) x → (o ≡ Some x) ⊎ Contains xs x
first-or-earlier None xs x there = inr there
first-or-earlier (Some y) xs x there = elim (contains_cases y xs x there) [ inl same ↦ inl (ap Some same) | inr later ↦ inr later ]

same_some : {A : Type 0} (a b : A) → Some a ≡ Some b → a ≡ b
same_some a b is = cc

or-none : (a b : Bool) → a || b ≡ false → a ≡ false
or-none false b is = refl
or-none true b is = absurd cc

pub some-of : (o : Option DispositionFields) → is_some_and o is_decisive ≡ true → is_some o ≡ true
some-of None is = absurd cc
some-of (Some fields) is = refl

module _ (rules : RuleSet) (e : Event) (past : List Event) (are : AreJudged rules (e ∷ past)) (lawful : first_broken rules past ≡ None) where
  begun-all : (j : Outgoing) → Contains (outgoing_deliveries past) j → IsBegun past j
  begun-all j there = all_contained (IsBegun past) (outgoing_deliveries past) j (judged-begun rules past are.1 lawful) there

  -- what is unsettled behind the event was before
  unsettled-before : (j : Outgoing) → IsBegun past j → is_left_unsettled (e ∷ past) j ≡ true → is_left_unsettled past j ≡ true
  unsettled-before j b is =
      let stands = and-both (stands_unsettled past j) (keeps_unsettled e j)
      (sym (stands_unsettled-step e past j (is_live-next rules e past are j.link b.linked.at)) ∙ (and-both (not j.link.is_pre_settled) (stands_unsettled (e ∷ past) j) is).1) in
      ap (λ b. b && stands_unsettled past j) (and-both (not j.link.is_pre_settled) (stands_unsettled (e ∷ past) j) is).0 ∙ stands.0

  -- what is decided was before, or its consumer speaks of it
  decided-before : (j : Outgoing) → is_decided (e ∷ past) j ≡ true → (is_decided past j ≡ true) ⊎ (is_some (answering j e) ≡ true)
  decided-before j is = elim (or-cases (is_decided past j) (is_live past j.link && decides_now e j) (sym (is_decided-step e past j) ∙ is)) [
    | inl was ↦ inl was
    | inr now ↦ inr (some-of (answering j e) (and-both (not j.link.is_pre_settled) (is_some_and (answering j e) is_decisive) (and-both (is_live past j.link) (decides_now e j) now).1).1)
  ]

  undecided-begun : (j : Outgoing) → outgoing_begun e ≡ Some j → is_decided (e ∷ past) j ≡ false
  undecided-begun j begun =
      let own = passing (λ (x : Outgoing). x.number == e.number) e.outgoing j begun in
      ap is_some (decision-begun rules e past j are (eqb-true j.number e.number own.1))

  -- what is closed behind the event was before, or the event closes it
  closed-now : (j : Outgoing) (b : IsBegun past j) → is_closed (e ∷ past) b.delivery ≡ is_closed past b.delivery || closes_incoming e b.delivery
  closed-now j b = is_closed-step e past b.delivery (is_live-next rules e past are b.delivery.link b.kept.link.at)

  module _ (ended : List Link) (over : AreEnded e past ended) (earlier later : Unsettled) (was : HasUnsettled earlier past) (grown : Grows earlier.candidates later.candidates)
      (spoken : (j : Outgoing) → Contains (outgoing_deliveries past) j → is_left_unsettled past j ≡ true → is_some (answering j e) ≡ true → has later.candidates j.number ≡ true)
      (released : (n m : ℕ) → may_close e ended n ≡ true → is_parked earlier.parked n m ≡ true → has later.candidates m ≡ true) (left : IsLeft later.candidates earlier.parked later.parked) where
    undecided-new : (j : Outgoing) → outgoing_begun e ≡ Some j → {A : Type 0} → is_decided (e ∷ past) j ≡ true → A
    undecided-new j is decides = let never : true ≡ false = sym decides ∙ undecided-begun j is in absurd cc

    -- ---- those to settle

    module _ (j : Outgoing) (there : Contains (outgoing_deliveries past) j) (b : IsBegun past j) (opens : is_left_unsettled past j ≡ true) (decides : is_decided past j ≡ true) where
      due-by : (closed : Bool) → is_closed past b.delivery ≡ closed → closed || closes_incoming e b.delivery ≡ true → has later.candidates j.number ≡ true
      due-by true closed closes = grown j.number (was.due j there (settled-of past j opens decides (ap (λ o. is_some_and o (is_closed past)) (begun-noted past j b) ∙ closed)))
      due-by false unclosed closes =
          elim (or-cases (has earlier.candidates j.number) (is_parked earlier.parked b.delivery.number j.number) (was.decided j there opens decides b.delivery (begun-noted past j b) unclosed)) [
            | inl among ↦ grown j.number among
            | inr parked ↦ released b.delivery.number j.number (closing rules e past are b.delivery b.kept unclosed ended over closes) parked
          ]

    due-old : (j : Outgoing) → Contains (outgoing_deliveries past) j → is_to_settle (e ∷ past) j ≡ true → has later.candidates j.number ≡ true
    due-old j there is =
        let b = begun-all j there in
        let parts = settled-parts (e ∷ past) j is in
        let opens = unsettled-before j b parts.0 in
        let carries : carries_closed (e ∷ past) j ≡ is_closed (e ∷ past) b.delivery = ap (λ o. is_some_and o (is_closed (e ∷ past))) (begun-noted_later rules e past are j b) in
        elim (decided-before j parts.1) [
          | inl then ↦ due-by j there b opens then (is_closed past b.delivery) refl (sym (closed-now j b) ∙ (sym carries ∙ parts.2))
          | inr now ↦ spoken j there opens now
        ]

    -- ---- those that are decided

    decided-old : (j : Outgoing) → Contains (outgoing_deliveries past) j → is_left_unsettled (e ∷ past) j ≡ true → is_decided (e ∷ past) j ≡ true → (d : Incoming) → noted j.note (e ∷ past) ≡ Some d → is_closed (e ∷ past) d ≡ false
        → has later.candidates j.number || is_parked later.parked d.number j.number ≡ true
    decided-old j there is decides d at unclosed =
        let b = begun-all j there in
        let opens = unsettled-before j b is in
        let same : b.delivery ≡ d = same_some b.delivery d (sym (begun-noted_later rules e past are j b) ∙ at) in
        let before : is_closed past b.delivery ≡ false =
        or-none (is_closed past b.delivery) (closes_incoming e b.delivery) (sym (closed-now j b) ∙ (ap (is_closed (e ∷ past)) same ∙ unclosed)) in
        let then_by : is_decided past j ≡ true → has later.candidates j.number || is_parked later.parked b.delivery.number j.number ≡ true =
        λ then. elim (or-cases (has earlier.candidates j.number) (is_parked earlier.parked b.delivery.number j.number) (was.decided j there opens then b.delivery (begun-noted past j b) before)) [
          | inl among ↦ or-first (has later.candidates j.number) (is_parked later.parked b.delivery.number j.number) (grown j.number among)
          | inr parked ↦ left b.delivery.number j.number parked
        ] in
        elim (decided-before j decides) [
          | inl then ↦ subst (λ (x : Incoming). has later.candidates j.number || is_parked later.parked x.number j.number ≡ true) same (then_by then)
          | inr now ↦ or-first (has later.candidates j.number) (is_parked later.parked d.number j.number) (spoken j there opens now)
        ]

    -- so the list follows the event
    pub unsettled-next : HasUnsettled later (e ∷ past)
    unsettled-next = record {
      due = λ j there is. elim (first-or-earlier (outgoing_begun e) (outgoing_deliveries past) j there) [
        | inl new ↦ undecided-new j new (settled-parts (e ∷ past) j is).1
        | inr old ↦ due-old j old is
      ];
      decided = λ j there is decides d at unclosed. elim (first-or-earlier (outgoing_begun e) (outgoing_deliveries past) j there) [
        | inl new ↦ undecided-new j new decides
        | inr old ↦ decided-old j old is decides d at unclosed
      ];
    }
