use Rattle.std.proofs.Common.{[], refl, ap, true, Some}
use Rattle.conn_engine.specs.Pausing.{Paused, resumed}
use Rattle.conn_engine.specs.declared.serving.Status.TheVariants.{Open}
use Rattle.conn_engine.specs.Served.{NothingNoted}
use Rattle.conn_engine.proofs.ServedOn.{open_new}
use Rattle.daemon_server.proofs.Lines.{line-new}
use Rattle.daemon_server.proofs.line.Line.new.Goals as goal

pub returns-clause-line : goal.returns-clause-line
returns-clause-line g c =
    line-new g.G.Gate.delivered g.G.Gate.took g.G.Gate.has_ended
    (record { gate = c.args.gate; engine = Some c.new.result; inbox = c.new-2.result; outbox = c.new-3.result; waiting = 0; number = c.args.number; status = Open; is_signed = _ })
    c.new.result refl (ap (λ (p : Paused). p.number) c.new.ensures) refl c.new-2.ensures.items c.new-3.ensures.items
    (open_new g.G.Gate.delivered g.G.Gate.took c.args.gate c.args.number true [] [] (resumed c.new.result [] [] true) NothingNoted (ap (λ (p : Paused). resumed p [] [] true) c.new.ensures) refl refl tt
    c.requires.fresh.0 c.requires.fresh.1)
