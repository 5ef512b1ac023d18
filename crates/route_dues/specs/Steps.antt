-- What the records of a router keep, from step to step and while a step is written (own rules).
use Rattle.std.specs.Prelude.{◌≡◌, ◌≤◌, ℕ, true, List, [], ◌∷◌, None, length}
use Rattle.flow_counts.specs.declared.profile.TheConstants.{MAX_FRAME_SIZE}
use Rattle.amqp_perf.specs.Meaning.{Meaning}
use Rattle.capture_form.specs.Rules.{RuleSet}
use Rattle.trace_events.specs.Frame.{Spoken}
use Rattle.trace_events.specs.Event.{Event}
use Rattle.trace_events.specs.Said.{as_transfer}
use Rattle.trace_events.specs.Written.{spoken_octets}
use Rattle.trace_duties.specs.Diligent.{is_answered}
use Rattle.trace_duties.specs.Quiet.{is_quiet}
use Rattle.trace_duties.specs.Turn.{are_in_turn}
use Rattle.route_answers.specs.Answering.{AreInOrder, AreOpensAnswered}
use Rattle.route_answers.specs.Writing.{behind}
use Rattle.route_dues.specs.Writing.{IsInOrder}

-- while a step is written: no record breaks a clause, the duties are kept, copies are in order, each record stands in turn,
-- opens are answered, and so is the input of the step
pub record IsUnderWay (rules : RuleSet) (past : List Event) : Type 0 where
  pub order : IsInOrder rules past
  pub turns : are_in_turn rules past ≡ true
  pub opens : AreOpensAnswered past
  pub answered : is_answered rules past ≡ true

-- between steps: all of this, and nothing is left that could be written
pub record IsAtRest (rules : RuleSet) (past : List Event) : Type 0 where
  pub under_way : IsUnderWay rules past
  pub quiet : is_quiet rules past ≡ true

-- none of them is a transfer
abbrev pub AreNoTransfers : List Spoken → Type 0
AreNoTransfers [] = Unit {0}
AreNoTransfers (spoken ∷ more) = (as_transfer spoken.meaning ≡ None) × AreNoTransfers more

-- these frames of an answer are left to be written on the connection; behind the last one the step is under way
pub record IsAnswering (rules : RuleSet) (c : ℕ) (past : List Event) (left : List Spoken) : Type 0 where
  pub order : IsInOrder rules past
  pub turns : are_in_turn rules past ≡ true
  pub frames : AreInOrder rules c left past
  pub plain : AreNoTransfers left
  pub opens : AreOpensAnswered (behind rules c left past)
  pub answered : is_answered rules (behind rules c left past) ≡ true
