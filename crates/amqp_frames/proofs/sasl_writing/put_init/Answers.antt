use Rattle.std.proofs.Common.{sym, subst}
use Rattle.std.specs.Option.{option_copied}
use Rattle.amqp_types.specs.Writing.{levels_in_described}
use Rattle.amqp_perf.specs.Slots.{CanStand}
use Rattle.amqp_frames.specs.Sasl.{init_with}
use Rattle.amqp_frames.proofs.SaslWritten.{init_again}
use Rattle.amqp_frames.proofs.sasl_writing.put_init.Goals as goal

pub put_fields-requires-clause-fields : goal.put_fields-requires-clause-fields
put_fields-requires-clause-fields c = (
  subst (CanStand levels_in_described) (sym c.symbol.ensures.value) c.symbol.ensures.can,
  (
    subst (CanStand levels_in_described) (sym c.binary.ensures.value) (c.binary.ensures.can 29),
    (subst (CanStand levels_in_described) (sym c.text.ensures.value) c.text.ensures.can, tt),
  ),
)

pub returns-clause-again : goal.returns-clause-again
returns-clause-again c =
    let init = init_with c.args.mechanism.now (option_copied c.args.initial_response) (option_copied c.args.hostname) in
    init_again init (c.symbol.ensures.can, (c.binary.ensures.can 29, (c.text.ensures.can, tt))) c.requires.few
