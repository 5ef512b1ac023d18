-- Outcomes that are told, with a state as it was read or made.
use Rattle.std.specs.Prelude.{◌≡◌, ℕ, List, Option, option_map, unwrap_or}
use Rattle.amqp_perf.specs.Nested.{StateFields}
use Rattle.amqp_perf.specs.Meaning.{ADisposition}
use Rattle.amqp_perf.specs.Router.{outcome_told, FitsFrame}
use Rattle.amqp_perf.specs.Writing.{IsWritableState}
use Rattle.trace_events.specs.Frame.{Spoken}
use Rattle.trace_events.specs.Event.{Incoming}
use Rattle.trace_events.specs.Written.{says}

abbrev pub octets_in : Option StateFields → Option (List ℕ)
octets_in state = option_map (λ s. s.octets) state

-- the outcome of the delivery
abbrev pub outcome_frame : Incoming → Option StateFields → Spoken
outcome_frame d state = says d.link.session.channel (ADisposition (outcome_told (unwrap_or d.id 0) state))

-- these are the octets of a state that can be written
pub record HasState (octets : List ℕ) : Type 0 where
  pub state : StateFields
  pub same : state.octets ≡ octets
  pub writable : IsWritableState state
  pub short : FitsFrame state
