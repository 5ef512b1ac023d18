use Rattle.std.proofs.Common.{◌∙◌, ap, refl, Ok}
use Rattle.amqp_frames.specs.declared.sasl.SaslFrame.{SaslFrame}
use Rattle.amqp_frames.specs.declared.sasl.SaslFrame.TheVariants.{Mechanisms, Outcome}
use Rattle.amqp_frames.specs.Sasl.{AnInit}
use Rattle.amqp_frames.specs.SaslView.{sasl_view}
use Rattle.stream_reading.proofs.Fronts.{no_init, no_init_fault}
use Rattle.stream_reading.proofs.stream.check_mechanism.Goals as goal

pub returns-in-Ok-Mechanisms : goal.returns-in-Ok-Mechanisms
returns-in-Ok-Mechanisms c init front =
    no_init init (sasl_view (Mechanisms c.in-Ok-Mechanisms.field-0-0)) refl (c.in-Ok-Mechanisms.ensures.only (AnInit init) front ∙ ap (λ (frame : SaslFrame). Ok (sasl_view frame)) c.in-Ok-Mechanisms.field-0-is)

pub returns-in-Ok-Outcome : goal.returns-in-Ok-Outcome
returns-in-Ok-Outcome c init front =
    no_init init (sasl_view (Outcome c.in-Ok-Outcome.field-0-0)) refl (c.in-Ok-Outcome.ensures.only (AnInit init) front ∙ ap (λ (frame : SaslFrame). Ok (sasl_view frame)) c.in-Ok-Outcome.field-0-is)

pub returns-in-Err : goal.returns-in-Err
returns-in-Err c init front = no_init_fault init c.in-Err.field-0 (c.in-Err.ensures.only (AnInit init) front)
