-- What a SASL frame of the code stands for.
use Rattle.std.specs.Option.{option_copied}
use Rattle.amqp_frames.specs.declared.sasl.SaslFrame.{SaslFrame}
use Rattle.amqp_frames.specs.declared.sasl.SaslFrame.TheVariants.{Mechanisms, Init, Outcome}
use Rattle.amqp_frames.specs.Sasl.{Saying, AMechanisms, AnInit, AnOutcome, init_with}

abbrev pub sasl_view : SaslFrame → Saying
sasl_view (Mechanisms anonymous) = AMechanisms anonymous
sasl_view (Init mechanism response hostname) = AnInit (init_with mechanism.now (option_copied response) (option_copied hostname))
sasl_view (Outcome code) = AnOutcome code
