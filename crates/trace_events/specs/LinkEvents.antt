-- What the code's events of a link stand for.
use Rattle.flow_counts.specs.Credit as credits
use Rattle.trace_events.specs.Credit.{their_flow, our_flow}
use Rattle.trace_events.specs.declared.credit.LinkEvent.{LinkEvent}
use Rattle.trace_events.specs.declared.credit.LinkEvent.TheVariants as moves

abbrev pub link_event_view : LinkEvent → credits.LinkEvent
link_event_view (moves.TheirFlow flow) = their_flow flow
link_event_view (moves.OurFlow flow) = our_flow flow
link_event_view moves.Begun = credits.Begun
