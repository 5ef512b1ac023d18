-- What the code's entry of a delivery says.
use Rattle.std.specs.Prelude.{if◌then◌else◌}
use Rattle.trace_events.specs.Link.{is_anonymous}
use Rattle.state_tables.specs.HeldViews.{held_link_view}
use Rattle.state_incoming.specs.Held.{Held}
use Rattle.state_incoming.specs.declared.held.HeldDelivery.{HeldDelivery}

abbrev pub held_view : HeldDelivery → Held
held_view x = record {
  delivery = record { number = x.number; link = held_link_view x.link; id = x.id; format = x.format };
  address = if is_anonymous (held_link_view x.link) then x.to.items else (held_link_view x.link).address;
  payload = x.payload.items;
  completion = x.completion;
  is_closed = x.is_closed;
  is_undecided = x.is_undecided;
  fate = x.fate;
}
