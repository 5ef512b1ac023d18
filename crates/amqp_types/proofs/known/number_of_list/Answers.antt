use Rattle.std.proofs.Common.{refl, sym, subst, arith}
use Rattle.amqp_types.specs.Part.{Described}
use Rattle.amqp_types.specs.Listed.{IsNumbered}
use Rattle.amqp_types.proofs.ListNumbers.{numbered_pair}
use Rattle.amqp_types.proofs.known.number_of_list.Goals as goal

pub returns : goal.returns
returns c =
    subst (IsNumbered (Described c.args.descriptor.now c.args.value.now)) (sym c.from.ensures)
    (numbered_pair c.args.descriptor.now c.args.value.now _ _ (omega (arith, c.if-descriptor-ne2.false)) c.if-descriptor-ne83.false refl c.requires (omega (arith, c.if-value-eq0.false)) refl (c.begins_list.ensures c.if-not-begins_list.false))
