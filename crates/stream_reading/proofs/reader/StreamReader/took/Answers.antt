use Rattle.std.proofs.Common.{sym, subst, take}
use Rattle.stream_reading.specs.Steps.{Ahead, IsAfter, and_step}
use Rattle.stream_reading.proofs.Following.{took_step, took_ahead}
use Rattle.stream_reading.proofs.reader.StreamReader.took.Goals as goal

pub returns-clause-after : goal.returns-clause-after
returns-clause-after c stream steps after =
    let ahead = c.args.self.now in
    let now = took_ahead c.self.inside.phase c.phase_after-self-inside.result c.self.inside.kept.items c.self.inside.taken c.args.len c.args.event ahead c.phase_after-self-inside.ensures c.self.view_is in
    subst (λ (a : Ahead). IsAfter stream (and_step steps c.args.event (take c.args.len ahead.octets)) a) (sym now) (took_step stream steps ahead c.args.event c.args.len after c.requires.stands)
