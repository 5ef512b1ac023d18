use Rattle.std.proofs.lemmas.Result.{on_ok_weaker}
use Rattle.refusal_showing.proofs.Telling.{tells_behind}
use Rattle.refusal_showing.proofs.capture.write_told.Goals as goal

pub returns : goal.returns
returns g c =
    on_ok_weaker c.write_all.result (tells_behind _ _ _ c.args.verdict _ c.in_ok-writeln.ensures.bytes) c.write_all.ensures.bytes
