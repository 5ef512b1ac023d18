-- The receivers of a delivery of multicast, each by the number of its link.
use Rattle.std.specs.Prelude.{ℕ, List, Option, option_map}
use Rattle.trace_events.specs.Event.{Event, Link}
use Rattle.trace_events.specs.Credit.{link_credit}
use Rattle.state_tables.specs.ConsumerLinks.{consumer_at}
use Rattle.state_tables.specs.declared.copies.Receiver.{Receiver}

-- a link with its credit (part 2 of the standard, section 2.6.7)
abbrev pub receiver_on : List Event → Link → Receiver
receiver_on past l = record { link = l.number; credit = link_credit l past }

-- that of this number, while it lives and is a consumer's
abbrev pub receiver_at : ℕ → List Event → Option Receiver
receiver_at n past = option_map (receiver_on past) (consumer_at n past)
