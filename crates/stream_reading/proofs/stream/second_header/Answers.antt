use Rattle.std.proofs.Common.{◌∙◌, ap, arith}
use Rattle.amqp_frames.specs.declared.header.ProtocolHeader.TheVariants as headers
use Rattle.std.proofs.lemmas.Option.{none-some}
use Rattle.amqp_frames.specs.Header.{header_octets}
use Rattle.stream_reading.proofs.Fronts.{begins}
use Rattle.stream_reading.proofs.stream.second_header.Goals as goal

pub returns-in-Some-Amqp : goal.returns-in-Some-Amqp
returns-in-Some-Amqp c = (c.in-Some-Amqp.ensures.found ∙ ap header_octets c.in-Some-Amqp.field-0-is, begins 8 c.args.octets.now)

pub returns-in-None : goal.returns-in-None
returns-in-None c = (omega arith, λ is. none-some headers.Amqp (c.in-None.ensures.only headers.Amqp is))
