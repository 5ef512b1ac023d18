use Rattle.std.proofs.Common.{[], length, take, ap, arith}
use Rattle.std.specs.List.{flat_map}
use Rattle.std.proofs.lemmas.List.{length-append}
use Rattle.std.proofs.lemmas.List.Folds.{length-flat_map-take}
use Rattle.amqp_types.proofs.writing.put_parts.Goals as goal

pub returns-in-Err-clause-full : goal.returns-in-Err-clause-full
returns-in-Err-clause-full c =
    let so_far = c.loop-part.invariant in
    let parts = c.args.parts.now in
    let place = c.loop-part.part-index in
    let before = flat_map (λ part. part.now) (take place parts) in
    let fits = length-flat_map-take (λ part. part.now) parts place (record { ref_ptr = (0, 0); now = [] }) c.loop-part-test.true in
    omega (arith, so_far.room, c.in-Err.ensures.full, fits, ap length so_far.put, length-append c.args.out.now.items before)
