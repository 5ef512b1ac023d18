-- The links of consumers that drain (part 2 of the standard, section 2.6.7), and those whose drain may be answered.
use Rattle.std.specs.Prelude.{◌≡◌, Bool, true, false, List, is_some}
use Rattle.amqp_perf.specs.Meaning.{Meaning, AFlow, flag}
use Rattle.capture_form.specs.Rules.{RuleSet}
use Rattle.trace_events.specs.Words.{is_some_and}
use Rattle.trace_events.specs.Event.{Event, Link}
use Rattle.trace_events.specs.Said.{in_meaning, out_transfer}
use Rattle.trace_events.specs.Link.{IsLiveLink, is_consumer}
use Rattle.trace_events.specs.Credit.{is_draining}
use Rattle.trace_events.specs.FlowClause.{may_be_drained}

-- a consumer's live link whose client asks that its credit be used up
pub record IsDraining (l : Link) (past : List Event) : Type 0 where
  pub live : IsLiveLink l past
  pub consumer : is_consumer l ≡ true
  pub draining : is_draining l past ≡ true

-- a consumer's live link whose drain may be answered
pub record IsDrainable (rules : RuleSet) (l : Link) (past : List Event) : Type 0 where
  pub live : IsLiveLink l past
  pub consumer : is_consumer l ≡ true
  pub may : may_be_drained rules past l ≡ true

-- a flow of the client asks for it
abbrev pub is_drain : Meaning → Bool
is_drain (AFlow flow) = flag flow.drain
is_drain _ = false

abbrev pub asks_drain : Event → Bool
asks_drain e = is_some_and (in_meaning e) is_drain

-- a part of a delivery to a client is written
abbrev pub writes_part : Event → Bool
writes_part e = is_some (out_transfer e)
