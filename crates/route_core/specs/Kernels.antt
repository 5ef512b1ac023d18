-- What a kernel keeps (own rules).
use Rattle.std.specs.Prelude.{◌≡◌, Bool, false, List}
use Rattle.capture_form.specs.Rules.{RuleSet}
use Rattle.capture_form.specs.Text.{Trace}
use Rattle.trace_events.specs.Event.{Event}
use Rattle.trace_events.specs.History.{history}
use Rattle.route_items.specs.declared.connection_states.ConnectionStates.{ConnectionStates}
use Rattle.route_items.specs.Inputs.{inputs}
use Rattle.route_items.specs.ConnectionStates.{AreStates}
use Rattle.route_dues.specs.Steps.{IsAtRest}
use Rattle.route_work.specs.declared.router_state.RouterState.{RouterState}
use Rattle.route_work.specs.RouterState.{IsRouterState}

module _ {D : Type 0} (HasAll : D → RuleSet → List Event → Type 0) where
  -- the state is that of the capture, and the connections have come to what its inputs say
  pub record IsWorking (capture : Trace) (connections : ConnectionStates) (state : RouterState D) : Type 0 where
    pub stand : IsRouterState HasAll capture.rules state capture.records
    pub told : AreStates connections (inputs capture.records)

  -- a kernel is at rest, and works until it has failed
  pub record IsKept (capture : Trace) (connections : ConnectionStates) (state : RouterState D) (has_failed : Bool) : Type 0 where
    pub rest : IsAtRest capture.rules (history capture.rules capture.records)
    pub working : has_failed ≡ false → IsWorking capture connections state
