use Rattle.std.proofs.Common.{rules, ◌≡◌, ◌++◌, Some, subst, List, ℕ}
use Rattle.conn_engine.specs.Pausing.{resumed}
use Rattle.conn_engine.specs.Served.{IsOpen, NothingNoted, status_after}
use Rattle.daemon_server.specs.Desks.{is_empty}
use Rattle.daemon_server.specs.Lines.{frames_to, front_of, inputs_of}
use Rattle.daemon_server.proofs.Lines.{line-front, line-turned, open-beside}
use Rattle.daemon_server.proofs.line.Line.turn.Goals as goal

pub serve_beside-requires-clause-open : goal.serve_beside-requires-clause-open
serve_beside-requires-clause-open g c =
    let line = c.args.self.now in
    let taken = inputs_of line.number c.args.core.now.journal.records in
    let written = frames_to line.number c.args.core.now.journal.records in
    let there : line.engine ≡ Some c.in-Some.engine = search rules in
    let outbox : line.outbox.items ≡ c.replace-outbox.result.items = search rules in
    subst (λ (xs : List (List ℕ)). IsOpen g.G.Gate.delivered g.G.Gate.took line.gate (resumed c.in-Some.engine taken (front_of written xs) (is_empty xs)) NothingNoted) outbox
    (open-beside g.G.Gate.delivered g.G.Gate.took g.G.Gate.has_ended taken written line c.in-Some.engine c.requires.line c.requires.open c.requires.empty there)

pub returns-clause-line : goal.returns-clause-line
returns-clause-line g c =
    let line = c.args.self.now in
    let taken = inputs_of line.number c.args.core.now.journal.records in
    let written = frames_to line.number c.args.core.now.journal.records in
    let served = c.in_ok-served.served in
    let outbox : line.outbox.items ≡ c.replace-outbox.result.items = search rules in
    line-turned g.G.Gate.delivered g.G.Gate.took g.G.Gate.has_ended taken written c.replace-outbox.result.items line c.go_on.new.self c.serve_beside.new.gate
    (status_after served.turn) served.engine served.inbox.items served.outbox.items c.in_ok-served.ensures.served
    (subst (λ (xs : List (List ℕ)). front_of written xs ++ xs ≡ written) outbox (line-front g.G.Gate.delivered g.G.Gate.took g.G.Gate.has_ended taken written line c.requires.line))
    c.go_on.ensures.gate c.go_on.ensures.engine c.go_on.ensures.inbox c.go_on.ensures.outbox (c.go_on.ensures.status c.requires.open) c.go_on.ensures.number
