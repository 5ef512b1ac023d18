-- What one more event does to what waits, to what is to be decided, and to the copies that are due.
use Rattle.std.proofs.Common.{◌≡◌, refl, ap, ◌∙◌, ℕ, suc, ◌-◌, Bool, true, false, not, ◌&&◌, ◌||◌, List, [], ◌∷◌, Some, None, find, reverse, if◌then◌else◌, ◌==◌}
use Rattle.std.specs.Prelude.{nat_lt}
use Rattle.std.specs.List.{list_any, count_by}
use Rattle.std.specs.Str.{bytes_eq}
use Rattle.capture_form.specs.Rules.{RuleSet}
use Rattle.trace_events.specs.Words.{is_some_and, is_number}
use Rattle.trace_events.specs.Event.{Event, Link, Incoming, Outgoing}
use Rattle.trace_events.specs.declared.session.Session.{Session}
use Rattle.trace_events.specs.Link.{is_live}
use Rattle.trace_events.specs.Address.{has_multicast, has_consumer, is_consumer_of}
use Rattle.trace_events.specs.Credit.{link_credit, begun_count}
use Rattle.trace_events.specs.Incoming.{completed_by, completes, is_complete, address_of, is_aborted, is_settled, is_told, incoming_begun, incoming_deliveries, is_from}
use Rattle.trace_events.specs.Outgoing.{outgoing_begun, outgoing_deliveries, is_paired, is_named_on, noted, decision, is_settled_by_consumer, is_settled_by_router}
use Rattle.trace_events.specs.Waiting.{is_of_multicast, always_had_consumer, is_unpaired, is_waiting, is_gone, is_undecided, undecided_count, is_undecided_of, has_waiting}
use Rattle.trace_events.specs.Due.{is_copied_to, makes_due, due_count, is_due, is_unsent, has_unsent}
use Rattle.trace_events.specs.Settling.{is_closed, is_to_settle, to_settle, to_tell}
use Rattle.trace_events.proofs.StepWords.{and-false, any-by, find-by, count-by, count-passes}
use Rattle.trace_events.proofs.IncomingSteps.{address_of-same, is_complete-same, incoming_deliveries-same, incoming_deliveries-begun}
use Rattle.trace_events.proofs.OutgoingSteps.{outgoing_deliveries-same, names_on, is_named_on-here}

and-twice : (b c : Bool) → b && (b && c) ≡ b && c
and-twice true c = refl
and-twice false c = refl

-- an address at which a delivery waits has a consumer
always_had-has : (d : Incoming) (past : List Event) → has_consumer (address_of d past) past && always_had_consumer d past ≡ always_had_consumer d past
always_had-has d [] = and-false (has_consumer (address_of d []) [])
always_had-has d (e ∷ past) = and-twice (has_consumer (address_of d (e ∷ past)) (e ∷ past)) (completes d e || always_had_consumer d past)

-- a value where something fails needs to be the same there alone
pub if-fails : {A : Type 0} (b : Bool) (x y z : A) → (b ≡ false → y ≡ z) → (if b then x else y) ≡ (if b then x else z)
if-fails true x y z same = refl
if-fails false x y z same = same refl

module _ (d : Incoming) (e : Event) (past : List Event) where
  pub is_of_multicast-same : (rules : RuleSet) → completes d e ≡ false → is_of_multicast rules d (e ∷ past) ≡ is_of_multicast rules d past
  is_of_multicast-same rules none = ap (has_multicast rules) (address_of-same e past d none)

  pub always_had_consumer-same : completes d e ≡ false → has_consumer (address_of d past) (e ∷ past) ≡ has_consumer (address_of d past) past
      → always_had_consumer d (e ∷ past) ≡ always_had_consumer d past
  always_had_consumer-same none same =
      ap (λ b. has_consumer (address_of d (e ∷ past)) (e ∷ past) && (b || always_had_consumer d past)) none
      ∙ (ap (λ a. has_consumer a (e ∷ past) && always_had_consumer d past) (address_of-same e past d none)
      ∙ (ap (λ b. b && always_had_consumer d past) same ∙ always_had-has d past))

  pub always_had_consumer-has : completes d e ≡ false → has_consumer (address_of d (e ∷ past)) (e ∷ past) ≡ true → always_had_consumer d (e ∷ past) ≡ always_had_consumer d past
  always_had_consumer-has none has =
      ap (λ b. has_consumer (address_of d (e ∷ past)) (e ∷ past) && (b || always_had_consumer d past)) none ∙ ap (λ b. b && always_had_consumer d past) has

  pub always_had_consumer-lost : has_consumer (address_of d (e ∷ past)) (e ∷ past) ≡ false → always_had_consumer d (e ∷ past) ≡ false
  always_had_consumer-lost lost = ap (λ b. b && (completes d e || always_had_consumer d past)) lost

  pub always_had_consumer-here : completes d e ≡ true → always_had_consumer d (e ∷ past) ≡ has_consumer (address_of d (e ∷ past)) (e ∷ past)
  always_had_consumer-here here =
      ap (λ b. has_consumer (address_of d (e ∷ past)) (e ∷ past) && (b || always_had_consumer d past)) here ∙ and-one (has_consumer (address_of d (e ∷ past)) (e ∷ past))
    where
      and-one : (b : Bool) → b && true ≡ b
      and-one true = refl
      and-one false = refl

  pub is_unpaired-same : (rules : RuleSet) → completes d e ≡ false → is_paired d (e ∷ past) ≡ is_paired d past
      → is_unpaired rules d (e ∷ past) ≡ is_unpaired rules d past
  is_unpaired-same rules none paired =
      ap (λ b. not b && is_complete d (e ∷ past) && not (is_paired d (e ∷ past))) (is_of_multicast-same rules none)
      ∙ (ap (λ b. not (is_of_multicast rules d past) && b && not (is_paired d (e ∷ past))) (is_complete-same e past d none)
      ∙ ap (λ b. not (is_of_multicast rules d past) && is_complete d past && not b) paired)

  pub is_unpaired-paired : (rules : RuleSet) → is_paired d (e ∷ past) ≡ true → is_unpaired rules d (e ∷ past) ≡ false
  is_unpaired-paired rules paired =
      ap (λ b. not (is_of_multicast rules d (e ∷ past)) && is_complete d (e ∷ past) && not b) paired
      ∙ and-false (not (is_of_multicast rules d (e ∷ past)) && is_complete d (e ∷ past))

  pub is_waiting-same : (rules : RuleSet) → completes d e ≡ false → is_paired d (e ∷ past) ≡ is_paired d past
      → always_had_consumer d (e ∷ past) ≡ always_had_consumer d past → is_waiting rules d (e ∷ past) ≡ is_waiting rules d past
  is_waiting-same rules none paired had =
      ap (λ b. b && always_had_consumer d (e ∷ past)) (is_unpaired-same rules none paired) ∙ ap (λ b. is_unpaired rules d past && b) had

  pub is_waiting-paired : (rules : RuleSet) → is_paired d (e ∷ past) ≡ true → is_waiting rules d (e ∷ past) ≡ false
  is_waiting-paired rules paired = ap (λ b. b && always_had_consumer d (e ∷ past)) (is_unpaired-paired rules paired)

  pub is_waiting-lost : (rules : RuleSet) → has_consumer (address_of d (e ∷ past)) (e ∷ past) ≡ false → is_waiting rules d (e ∷ past) ≡ false
  is_waiting-lost rules lost = ap (λ b. is_unpaired rules d (e ∷ past) && b) (always_had_consumer-lost lost) ∙ and-false (is_unpaired rules d (e ∷ past))

  pub is_gone-same : (rules : RuleSet) → completes d e ≡ false → is_paired d (e ∷ past) ≡ is_paired d past
      → always_had_consumer d (e ∷ past) ≡ always_had_consumer d past → is_gone rules d (e ∷ past) ≡ is_gone rules d past
  is_gone-same rules none paired had =
      ap (λ b. b && not (always_had_consumer d (e ∷ past))) (is_unpaired-same rules none paired) ∙ ap (λ b. is_unpaired rules d past && not b) had

  pub is_undecided-same : (rules : RuleSet) → is_live (e ∷ past) d.link ≡ is_live past d.link → is_aborted d (e ∷ past) ≡ is_aborted d past
      → is_complete d (e ∷ past) ≡ is_complete d past → is_waiting rules d (e ∷ past) ≡ is_waiting rules d past → is_settled d (e ∷ past) ≡ is_settled d past
      → is_told d (e ∷ past) ≡ is_told d past → is_undecided rules d (e ∷ past) ≡ is_undecided rules d past
  is_undecided-same rules live aborted complete waiting settled told =
      ap (λ b. b && not (is_aborted d (e ∷ past)) && (not (is_complete d (e ∷ past)) || is_waiting rules d (e ∷ past) || not (is_settled d (e ∷ past) || is_told d (e ∷ past)))) live
      ∙ (ap (λ b. is_live past d.link && not b && (not (is_complete d (e ∷ past)) || is_waiting rules d (e ∷ past) || not (is_settled d (e ∷ past) || is_told d (e ∷ past)))) aborted
      ∙ (ap (λ b. is_live past d.link && not (is_aborted d past) && (not b || is_waiting rules d (e ∷ past) || not (is_settled d (e ∷ past) || is_told d (e ∷ past)))) complete
      ∙ (ap (λ b. is_live past d.link && not (is_aborted d past) && (not (is_complete d past) || b || not (is_settled d (e ∷ past) || is_told d (e ∷ past)))) waiting
      ∙ (ap (λ b. is_live past d.link && not (is_aborted d past) && (not (is_complete d past) || is_waiting rules d past || not (b || is_told d (e ∷ past)))) settled
      ∙ ap (λ b. is_live past d.link && not (is_aborted d past) && (not (is_complete d past) || is_waiting rules d past || not (is_settled d past || b))) told))))

  pub is_undecided-over : (rules : RuleSet) → is_live (e ∷ past) d.link ≡ false → is_undecided rules d (e ∷ past) ≡ false
  is_undecided-over rules over =
      ap (λ b. b && not (is_aborted d (e ∷ past)) && (not (is_complete d (e ∷ past)) || is_waiting rules d (e ∷ past) || not (is_settled d (e ∷ past) || is_told d (e ∷ past)))) over

  pub is_undecided-aborted : (rules : RuleSet) → is_aborted d (e ∷ past) ≡ true → is_undecided rules d (e ∷ past) ≡ false
  is_undecided-aborted rules aborted =
      ap (λ b. is_live (e ∷ past) d.link && not b && (not (is_complete d (e ∷ past)) || is_waiting rules d (e ∷ past) || not (is_settled d (e ∷ past) || is_told d (e ∷ past)))) aborted
      ∙ ap (λ b. b && (not (is_complete d (e ∷ past)) || is_waiting rules d (e ∷ past) || not (is_settled d (e ∷ past) || is_told d (e ∷ past)))) (and-false (is_live (e ∷ past) d.link))

module _ (rules : RuleSet) (e : Event) (past : List Event) where
  -- ---- the deliveries of a link, an address or a session

  pub undecided_count-same : (l : Link) → incoming_begun e ≡ None → ((d : Incoming) → is_undecided rules d (e ∷ past) ≡ is_undecided rules d past)
      → undecided_count rules l (e ∷ past) ≡ undecided_count rules l past
  undecided_count-same l none same =
      ap (count_by (λ d. is_from l d && is_undecided rules d (e ∷ past))) (incoming_deliveries-same e past none)
      ∙ count-by (λ d. is_from l d && is_undecided rules d (e ∷ past)) (λ d. is_from l d && is_undecided rules d past) (λ d. ap (λ b. is_from l d && b) (same d)) (incoming_deliveries past)

  -- one more, where it leaves those before it
  pub undecided_count-begun : (l : Link) (d : Incoming) → incoming_begun e ≡ Some d → is_from l d ≡ true → is_undecided rules d (e ∷ past) ≡ true
      → count_by (λ d. is_from l d && is_undecided rules d (e ∷ past)) (incoming_deliveries past) ≡ undecided_count rules l past
      → undecided_count rules l (e ∷ past) ≡ suc (undecided_count rules l past)
  undecided_count-begun l d new on undecided same =
      ap (count_by (λ d. is_from l d && is_undecided rules d (e ∷ past))) (incoming_deliveries-begun e past d new)
      ∙ (count-passes (λ d. is_from l d && is_undecided rules d (e ∷ past)) d (incoming_deliveries past) (ap (λ b. b && is_undecided rules d (e ∷ past)) on ∙ undecided) ∙ ap suc same)

  pub is_undecided_of-same : (s : Session) (id : ℕ) (d : Incoming) → is_undecided rules d (e ∷ past) ≡ is_undecided rules d past
      → is_undecided_of rules s id (e ∷ past) d ≡ is_undecided_of rules s id past d
  is_undecided_of-same s id d same = ap (λ b. d.link.session.number == s.number && is_number d.id id && b) same

  pub to_tell-same : (s : Session) (id : ℕ) → incoming_begun e ≡ None → ((d : Incoming) → is_undecided rules d (e ∷ past) ≡ is_undecided rules d past)
      → to_tell rules s id (e ∷ past) ≡ to_tell rules s id past
  to_tell-same s id none same =
      ap (find (is_undecided_of rules s id (e ∷ past))) (incoming_deliveries-same e past none)
      ∙ find-by (is_undecided_of rules s id (e ∷ past)) (is_undecided_of rules s id past) (λ d. is_undecided_of-same s id d (same d)) (incoming_deliveries past)

  pub has_waiting-same : (address : List ℕ) → incoming_begun e ≡ None → ((d : Incoming) → completes d e ≡ false) → ((d : Incoming) → is_waiting rules d (e ∷ past) ≡ is_waiting rules d past)
      → has_waiting rules address (e ∷ past) ≡ has_waiting rules address past
  has_waiting-same address none apart same =
      ap (list_any (λ d. bytes_eq (address_of d (e ∷ past)) address && is_waiting rules d (e ∷ past))) (incoming_deliveries-same e past none)
      ∙ any-by (λ d. bytes_eq (address_of d (e ∷ past)) address && is_waiting rules d (e ∷ past)) (λ d. bytes_eq (address_of d past) address && is_waiting rules d past)
      (λ d. ap (λ a. bytes_eq a address && is_waiting rules d (e ∷ past)) (address_of-same e past d (apart d)) ∙ ap (λ b. bytes_eq (address_of d past) address && b) (same d)) (incoming_deliveries past)

  -- ---- copies that are due

  pub is_copied_to-none : (l : Link) → completed_by e ≡ None → is_copied_to rules l e past ≡ false
  is_copied_to-none l none = ap (λ o. is_some_and o (λ d. is_of_multicast rules d (e ∷ past) && is_consumer_of (address_of d (e ∷ past)) past l)) none

  pub is_copied_to-is : (l : Link) (d : Incoming) → completed_by e ≡ Some d → is_copied_to rules l e past ≡ is_of_multicast rules d (e ∷ past) && is_consumer_of (address_of d (e ∷ past)) past l
  is_copied_to-is l d is = ap (λ o. is_some_and o (λ d. is_of_multicast rules d (e ∷ past) && is_consumer_of (address_of d (e ∷ past)) past l)) is

  pub makes_due-none : (l : Link) (due : ℕ) → is_copied_to rules l e past ≡ false → makes_due rules l e past due ≡ false
  makes_due-none l due none = ap (λ b. b && nat_lt (due - begun_count l past) (link_credit l past)) none

  pub makes_due-is : (l : Link) (due : ℕ) → is_copied_to rules l e past ≡ true → makes_due rules l e past due ≡ nat_lt (due - begun_count l past) (link_credit l past)
  makes_due-is l due is = ap (λ b. b && nat_lt (due - begun_count l past) (link_credit l past)) is

  pub due_count-same : (l : Link) → makes_due rules l e past (due_count rules l past) ≡ false → due_count rules l (e ∷ past) ≡ due_count rules l past
  due_count-same l none = ap (λ b. if b then suc (due_count rules l past) else due_count rules l past) none

  pub due_count-none : (l : Link) → completed_by e ≡ None → due_count rules l (e ∷ past) ≡ due_count rules l past
  due_count-none l none = due_count-same l (makes_due-none l (due_count rules l past) (is_copied_to-none l none))

  pub due_count-due : (l : Link) → makes_due rules l e past (due_count rules l past) ≡ true → due_count rules l (e ∷ past) ≡ suc (due_count rules l past)
  due_count-due l due = ap (λ b. if b then suc (due_count rules l past) else due_count rules l past) due

  pub is_due-same : (d : Incoming) (l : Link) → completes d e ≡ false → is_due rules d l (e ∷ past) ≡ is_due rules d l past
  is_due-same d l none = ap (λ b. if b then makes_due rules l e past (due_count rules l past) else is_due rules d l past) none

  pub is_due-here : (d : Incoming) (l : Link) → completes d e ≡ true → is_due rules d l (e ∷ past) ≡ makes_due rules l e past (due_count rules l past)
  is_due-here d l here = ap (λ b. if b then makes_due rules l e past (due_count rules l past) else is_due rules d l past) here

  pub is_unsent-same : (d : Incoming) (l : Link) → is_due rules d l (e ∷ past) ≡ is_due rules d l past → is_named_on d l (e ∷ past) ≡ is_named_on d l past
      → is_unsent rules d l (e ∷ past) ≡ is_unsent rules d l past
  is_unsent-same d l due named = ap (λ b. b && not (is_named_on d l (e ∷ past))) due ∙ ap (λ b. is_due rules d l past && not b) named

  pub is_unsent-named : (d : Incoming) (l : Link) → names_on d l e ≡ true → is_unsent rules d l (e ∷ past) ≡ false
  is_unsent-named d l names =
      ap (λ b. is_due rules d l (e ∷ past) && not b) (is_named_on-here e past d l names) ∙ and-false (is_due rules d l (e ∷ past))

  pub has_unsent-same : (l : Link) → incoming_begun e ≡ None → ((d : Incoming) → is_unsent rules d l (e ∷ past) ≡ is_unsent rules d l past)
      → has_unsent rules l (e ∷ past) ≡ has_unsent rules l past
  has_unsent-same l none same =
      ap (list_any (λ d. is_unsent rules d l (e ∷ past))) (incoming_deliveries-same e past none)
      ∙ any-by (λ d. is_unsent rules d l (e ∷ past)) (λ d. is_unsent rules d l past) same (incoming_deliveries past)

module _ (e : Event) (past : List Event) where
  -- ---- what is to be settled

  pub is_closed-same : (d : Incoming) → is_told d (e ∷ past) ≡ is_told d past → is_settled d (e ∷ past) ≡ is_settled d past → is_live (e ∷ past) d.link ≡ is_live past d.link
      → is_closed (e ∷ past) d ≡ is_closed past d
  is_closed-same d told settled live =
      ap (λ b. b || is_settled d (e ∷ past) || not (is_live (e ∷ past) d.link)) told
      ∙ (ap (λ b. is_told d past || b || not (is_live (e ∷ past) d.link)) settled ∙ ap (λ b. is_told d past || is_settled d past || not b) live)

  pub is_to_settle-same : (j : Outgoing) → is_live (e ∷ past) j.link ≡ is_live past j.link → decision j (e ∷ past) ≡ decision j past
      → is_settled_by_consumer j (e ∷ past) ≡ is_settled_by_consumer j past → is_settled_by_router j (e ∷ past) ≡ is_settled_by_router j past
      → is_some_and (noted j.note (e ∷ past)) (is_closed (e ∷ past)) ≡ is_some_and (noted j.note past) (is_closed past) → is_to_settle (e ∷ past) j ≡ is_to_settle past j
  is_to_settle-same j live decided consumer router closed = rw (live, decided, consumer, router, closed) refl

  pub is_to_settle-over : (j : Outgoing) → is_live (e ∷ past) j.link ≡ false → is_to_settle (e ∷ past) j ≡ false
  is_to_settle-over j over = rw over refl

  pub is_to_settle-settled : (j : Outgoing) → is_settled_by_router j (e ∷ past) ≡ true → is_to_settle (e ∷ past) j ≡ false
  is_to_settle-settled j settled = rw settled (simp and-false)

  pub to_settle-same : (s : Session) (id : ℕ) → outgoing_begun e ≡ None → ((j : Outgoing) → is_to_settle (e ∷ past) j ≡ is_to_settle past j)
      → to_settle s id (e ∷ past) ≡ to_settle s id past
  to_settle-same s id none same =
      ap (λ js. find (λ j. j.link.session.number == s.number && is_number j.id id && is_to_settle (e ∷ past) j) (reverse js)) (outgoing_deliveries-same e past none)
      ∙ find-by (λ j. j.link.session.number == s.number && is_number j.id id && is_to_settle (e ∷ past) j) (λ j. j.link.session.number == s.number && is_number j.id id && is_to_settle past j)
      (λ j. ap (λ b. j.link.session.number == s.number && is_number j.id id && b) (same j)) (reverse (outgoing_deliveries past))

pub ruleset waiting_steps = (
  is_of_multicast-same,
  always_had_consumer-same,
  always_had_consumer-has,
  always_had_consumer-lost,
  always_had_consumer-here,
  is_unpaired-same,
  is_unpaired-paired,
  is_waiting-same,
  is_waiting-paired,
  is_waiting-lost,
  is_gone-same,
  is_undecided-same,
  is_undecided-over,
  is_undecided-aborted,
  undecided_count-same,
  undecided_count-begun,
  is_undecided_of-same,
  to_tell-same,
  has_waiting-same,
  is_copied_to-none,
  is_copied_to-is,
  makes_due-none,
  makes_due-is,
  due_count-same,
  due_count-none,
  due_count-due,
  is_due-same,
  is_due-here,
  is_unsent-same,
  is_unsent-named,
  has_unsent-same,
  is_closed-same,
  is_to_settle-same,
  is_to_settle-over,
  is_to_settle-settled,
  to_settle-same,
)
