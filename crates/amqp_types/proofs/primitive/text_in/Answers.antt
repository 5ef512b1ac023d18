use Rattle.std.proofs.Common.{ap}
use Rattle.std.proofs.lemmas.Str.{IsUtf8-from_ascii}
use Rattle.amqp_types.specs.declared.code.Text.TheVariants as texts
use Rattle.amqp_types.specs.Part.{Sized}
use Rattle.amqp_types.proofs.Texts.{text_again, text_refused}
use Rattle.amqp_types.proofs.primitive.text_in.Goals as goal

pub returns-in-Ok : goal.returns-in-Ok
returns-in-Ok c = rw c.in-Str.is (text_again texts.Str c.args.octets.now c.in-Ok.ensures.cases.1, ap (Sized texts.Str) c.in-Ok.ensures.cases.0)

pub returns-in-Err : goal.returns-in-Err
returns-in-Err c = rw c.in-Str.is (text_refused texts.Str c.args.octets.now c.in-Err.ensures.cases.0)

pub returns-in-Ok-from_utf8 : goal.returns-in-Ok-from_utf8
returns-in-Ok-from_utf8 c =
    rw c.in-Symbol.is (text_again texts.Symbol c.args.octets.now c.if-is_ascii.ensures.cases, ap (Sized texts.Symbol) c.in-Ok-from_utf8.ensures.cases.0)

pub returns-in-Err-from_utf8 : goal.returns-in-Err-from_utf8
returns-in-Err-from_utf8 c = absurd (c.in-Err-from_utf8.ensures.cases.0 (IsUtf8-from_ascii c.args.octets.now c.if-is_ascii.ensures.cases))
