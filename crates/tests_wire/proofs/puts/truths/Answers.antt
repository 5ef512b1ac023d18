use Rattle.std.proofs.Common.{true, ◌+◌, ap, ◌∙◌}
use Rattle.std.proofs.lemmas.List.{length-append}
use Rattle.amqp_types.specs.Part.{Boolean}
use Rattle.amqp_types.specs.Writing.{boolean_octets}
use Rattle.amqp_types.proofs.Written.{one_more}
use Rattle.tests_wire.proofs.puts.truths.Goals as goal

pub loop-preserved : goal.loop-preserved
unfolding boolean_octets
loop-preserved c =
    let octets = c.loop.octets.items in
    let put = c.in_ok-put_bool.ensures in
    let so_far = c.loop.invariant in
    rw put.appended (
      one_more 30 c.loop.counter octets (boolean_octets true) (Boolean true) so_far.0 put.written,
      one_more 29 c.loop.counter octets (boolean_octets true) (Boolean true) so_far.1 put.written,
      length-append octets (boolean_octets true) ∙ ap (λ n. n + 1) so_far.2,
    )
