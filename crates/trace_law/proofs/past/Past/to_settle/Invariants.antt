use Rattle.std.proofs.Common.{◌≡◌, ◌&&◌, ◌==◌, option_map}
use Rattle.trace_events.specs.Words.{is_number, or_else}
use Rattle.trace_events.specs.Outgoing.{outgoing_deliveries}
use Rattle.trace_events.specs.Settling.{is_to_settle, to_settle}
use Rattle.trace_law.specs.OnStack.{events}
use Rattle.trace_events.specs.View.{outgoing_view}
use Rattle.trace_events.proofs.Earliest.{earliest}
use Rattle.trace_law.proofs.past.Past.to_settle.Given as goal

abbrev pub invariant-loop-rest : goal.invariant-loop-rest
invariant-loop-rest l =
    or_else
    (earliest (λ j. j.link.session.number == l.session.number && is_number j.id l.id && is_to_settle (events l.self) j)
    (outgoing_deliveries (events l.rest)))
    (option_map outgoing_view l.earliest)
    ≡ to_settle l.session l.id (events l.self)
