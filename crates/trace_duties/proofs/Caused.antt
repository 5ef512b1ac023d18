-- What stands behind a transfer that stands in turn: an outcome that is to be told there was not to be told in front of it,
-- so the transfer causes it; and so with a settling, unless the outcome frees it. Nothing but an outcome stands in turn there.
use Rattle.std.proofs.Common.{◌≡◌, refl, sym, ◌∙◌, Bool, true, false, not, ◌&&◌, List, Option, Some, None, is_some, if◌then◌else◌}
use Rattle.std.specs.Prelude.{Contains}
use Rattle.amqp_perf.specs.declared.attach.Role.{Role}
use Rattle.amqp_perf.specs.declared.attach.Role.TheVariants.{Sender, Receiver}
use Rattle.amqp_perf.specs.Meaning.{Meaning, AnOpen, ABegin, AnAttach, AFlow, ATransfer, ADisposition, ADetach, AnEnd, AClose}
use Rattle.capture_form.specs.Rules.{RuleSet}
use Rattle.trace_events.specs.Words.{is_some_and}
use Rattle.trace_events.specs.Event.{Event, Link, Incoming, Outgoing}
use Rattle.trace_events.specs.Link.{is_receiver, is_consumer}
use Rattle.trace_events.specs.Incoming.{incoming_deliveries}
use Rattle.trace_events.specs.Outgoing.{outgoing_deliveries}
use Rattle.trace_events.specs.Settling.{is_to_settle}
use Rattle.trace_events.proofs.Along.{and_first, and_last}
use Rattle.trace_events.specs.Outcome.{is_to_tell}
use Rattle.trace_duties.specs.Quiet.{none_is_untold, none_is_unsettled, none_stands_still, none_waits_in_vain, copies_are_sent, none_is_undrained, none_lacks_credit}
use Rattle.trace_duties.specs.Turn.{is_all_told, is_all_sent, is_all_drained, disposition_in_turn, transfer_in_turn, link_flow_in_turn, is_all_credited, is_in_place}
use Rattle.trace_duties.proofs.QuietLists.{each-all}

not_true : (b : Bool) → not b ≡ true → b ≡ false
not_true false is = refl
not_true true is = absurd cc

module _ (rules : RuleSet) (e : Event) (past : List Event) (turn : transfer_in_turn rules e past ≡ true) where
  all_told : is_all_told rules past ≡ true
  all_told = and_first (is_all_told rules past) _ turn

  -- no outcome of a delivery that stood in front of the transfer was to be told there
  pub told_before : (d : Incoming) → Contains (incoming_deliveries past) d → is_to_tell rules past d ≡ false
  told_before d there =
      not_true (is_to_tell rules past d)
      (each-all (λ d. not (is_to_tell rules past d)) (incoming_deliveries past) (and_first (none_is_untold rules past) (none_is_unsettled past) all_told) d there)

  -- nor was one to be settled
  pub settled_before : (j : Outgoing) → Contains (outgoing_deliveries past) j → is_to_settle past j ≡ false
  settled_before j there =
      not_true (is_to_settle past j)
      (each-all (λ j. not (is_to_settle past j)) (outgoing_deliveries past) (and_last (none_is_untold rules past) (none_is_unsettled past) all_told) j there)

-- ---- an outcome that is to be told goes in front of all else

-- the disposition of an outcome
abbrev pub is_outcome : Meaning → Bool
is_outcome (ADisposition fields) = is_receiver fields.role
is_outcome _ = false

module _ (rules : RuleSet) (e : Event) (past : List Event) where
  sent-told : is_all_sent rules past ≡ true → none_is_untold rules past ≡ true
  sent-told sent =
      and_first (none_is_untold rules past) (none_is_unsettled past)
      (and_first (is_all_told rules past) (none_stands_still past)
      (and_first (is_all_told rules past && none_stands_still past) (none_waits_in_vain rules past)
      (and_first (is_all_told rules past && none_stands_still past && none_waits_in_vain rules past) (copies_are_sent rules past) sent)))

  drained-told : is_all_drained rules past ≡ true → none_is_untold rules past ≡ true
  drained-told drained = sent-told (and_first (is_all_sent rules past) (none_is_undrained rules past) drained)

  credited-told : is_all_credited rules past ≡ true → none_is_untold rules past ≡ true
  credited-told credited = drained-told (and_first (is_all_drained rules past) (none_lacks_credit rules past) credited)

  transfer-told : transfer_in_turn rules e past ≡ true → none_is_untold rules past ≡ true
  transfer-told turn = and_first (none_is_untold rules past) (none_is_unsettled past) (and_first (is_all_told rules past) _ turn)

  by_role : (b : Bool) → (if b then is_all_sent rules past else is_all_drained rules past) ≡ true → none_is_untold rules past ≡ true
  by_role true turn = sent-told turn
  by_role false turn = drained-told turn

  link-told : (l : Option Link) → is_some_and l (link_flow_in_turn rules past) ≡ true → none_is_untold rules past ≡ true
  link-told None turn = absurd cc
  link-told (Some l) turn = by_role (is_consumer l) turn

  flow-told : (b : Bool) → (if b then is_some_and e.link (link_flow_in_turn rules past) else is_all_credited rules past) ≡ true → none_is_untold rules past ≡ true
  flow-told true turn = link-told e.link turn
  flow-told false turn = credited-told turn

  disposition-told : (role : Role) → disposition_in_turn rules past role ≡ true → none_is_untold rules past ≡ false → is_receiver role ≡ true
  disposition-told Receiver turn untold = refl
  disposition-told Sender turn untold = let never : true ≡ false = sym turn ∙ untold in absurd cc

  -- Where an outcome is to be told, what the router writes next is one. So one that a transfer causes stands right behind it.
  pub outcome_next : (meaning : Meaning) → is_in_place rules e past meaning ≡ true → none_is_untold rules past ≡ false → is_outcome meaning ≡ true
  outcome_next (AnOpen fields) turn untold = absurd cc
  outcome_next (ABegin fields) turn untold = absurd cc
  outcome_next (AnAttach fields) turn untold = absurd cc
  outcome_next (AFlow flow) turn untold = let never : true ≡ false = sym (flow-told (is_some flow.handle) turn) ∙ untold in absurd cc
  outcome_next (ATransfer fields) turn untold = let never : true ≡ false = sym (transfer-told turn) ∙ untold in absurd cc
  outcome_next (ADisposition fields) turn untold = disposition-told fields.role turn untold
  outcome_next (ADetach fields) turn untold = absurd cc
  outcome_next (AnEnd error) turn untold = absurd cc
  outcome_next (AClose error) turn untold = absurd cc
