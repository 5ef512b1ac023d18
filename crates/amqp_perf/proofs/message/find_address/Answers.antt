use Rattle.std.proofs.Common.{◌∙◌, ap, arith, length, Some, sym}
use Rattle.std.specs.Option.{option_copied}
use Rattle.amqp_perf.specs.FieldsLeft.{fields_left}
use Rattle.amqp_perf.specs.Message.{to_of}
use Rattle.amqp_perf.proofs.Messages.{told, begin, passes, ends, stops, none_left}
use Rattle.amqp_perf.proofs.message.find_address.Goals as goal

pub loop-init : goal.loop-init
loop-init c = begin c.args.payload.now

pub returns-in_err-properties : goal.returns-in_err-properties
returns-in_err-properties c =
    ap option_copied c.from_residual.ensures
    ∙ sym (stops (length c.args.payload.now) c.loop.counter c.loop.octets.now (to_of c.args.payload.now) c.loop-test.true c.loop.invariant
    (sym c.read_section.ensures ∙ ap told (c.in_err-properties.was)))

pub returns-in-Some-default : goal.returns-in-Some-default
returns-in-Some-default c =
    c.address_in.ensures
    ∙ sym (ends (length c.args.payload.now) c.loop.counter c.loop.octets.now c.in_ok-properties.field-0.1.now (fields_left c.in-Some-default.properties) (to_of c.args.payload.now) c.loop-test.true c.loop.invariant
    (sym c.read_section.ensures ∙ ap told (c.in_ok-properties.was) ∙ ap (λ o. told (Some (o, c.in_ok-properties.field-0.1))) c.in-Some-default.is-0))

pub loop-preserved : goal.loop-preserved
loop-preserved c =
    passes (length c.args.payload.now) c.loop.counter c.loop.octets.now c.in_ok-properties.field-0.1.now (to_of c.args.payload.now) c.loop-test.true c.loop.invariant
    (sym c.read_section.ensures ∙ ap told (c.in_ok-properties.was) ∙ ap (λ o. told (Some (o, c.in_ok-properties.field-0.1))) c.in-None-default.is-0)

pub returns : goal.returns
returns c = sym (none_left (length c.args.payload.now) c.loop.counter c.loop.octets.now (to_of c.args.payload.now) (omega (arith, c.loop-test.false)) c.loop.invariant)
