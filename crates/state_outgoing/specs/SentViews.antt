-- What the code's entry of a delivery to a client says.
use Rattle.std.specs.Prelude.{Option, Some, None, option_map}
use Rattle.amqp_perf.specs.Nested.{StateFields}
use Rattle.state_tables.specs.HeldViews.{held_link_view}
use Rattle.state_outgoing.specs.Sent.{Sent}
use Rattle.state_outgoing.specs.declared.decided.Decided.{Decided}
use Rattle.state_outgoing.specs.declared.decided.Decided.TheVariants as decisions
use Rattle.state_outgoing.specs.declared.sent.SentDelivery.{SentDelivery}

-- the terminal state
abbrev pub decided_view : Decided → Option StateFields
decided_view decisions.Settled = None
decided_view (decisions.Terminal outcome octets) = Some (record { octets = octets.items; outcome = Some outcome })

abbrev pub sent_view : SentDelivery → Sent
sent_view x = record {
  delivery = record { number = x.number; link = held_link_view x.link; id = x.id; is_settled = x.is_settled; note = x.note };
  sent_count = x.sent_count;
  is_sent = x.is_sent;
  decision = option_map decided_view x.decision;
  is_unsettled = x.is_unsettled;
}
