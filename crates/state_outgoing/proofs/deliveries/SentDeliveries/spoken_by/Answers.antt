use Rattle.trace_events.specs.History.{history}
use Rattle.trace_events.proofs.Judged.{history-judged}
use Rattle.trace_events.specs.View.{event_view}
use Rattle.state_outgoing.proofs.SpokenAmong.{speaks-among}
use Rattle.state_outgoing.proofs.deliveries.SentDeliveries.spoken_by.Goals as goal

pub returns-clause-known : goal.returns-clause-known
returns-clause-known c rules records table j has opens says =
    speaks-among rules (history rules records) (history-judged rules records) c.args.self.now table (event_view c.args.event.now) c.in_ok-spoken.ensures.counted c.in_ok-spoken.spoken
    c.in_ok-spoken.ensures.spoken j has opens says
