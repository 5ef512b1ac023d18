use Rattle.std.proofs.Common.{ap, sym, ◌∙◌, ℕ, List}
use Rattle.number_groups.specs.Numbers.{is_among}
use Rattle.trace_events.specs.History.{history}
use Rattle.trace_events.proofs.Judged.{history-judged}
use Rattle.trace_events.specs.View.{event_view}
use Rattle.state_outgoing.proofs.SpokenAmong.{speaks-among}
use Rattle.state_outgoing.proofs.SpokenNone.{no-count, none-spoken}
use Rattle.state_outgoing.proofs.deliveries.SentDeliveries.spoken_of.Goals as goal

pub returns-in-None-clause-stored : goal.returns-in-None-clause-stored
returns-in-None-clause-stored c = λ n.
    ap (λ (ns : List ℕ). is_among ns n) c.new.ensures ∙ none-spoken (event_view c.args.event.now) (sym c.in-None.ensures) c.args.self.now.groups n

pub returns-in-None-clause-counted : goal.returns-in-None-clause-counted
returns-in-None-clause-counted c = no-count (event_view c.args.event.now) (sym c.in-None.ensures)

pub returns-in-None-clause-known : goal.returns-in-None-clause-known
returns-in-None-clause-known c = λ rules records table j has opens says.
    let e = event_view c.args.event.now in
    speaks-among rules (history rules records) (history-judged rules records) c.args.self.now table e (no-count e (sym c.in-None.ensures)) c.new.result
    (λ n. ap (λ (ns : List ℕ). is_among ns n) c.new.ensures ∙ none-spoken e (sym c.in-None.ensures) c.args.self.now.groups n) j has opens says
