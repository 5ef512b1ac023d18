use Rattle.std.proofs.Common.{ℕ, List, option_map, subst, sym}
use Rattle.amqp_types.specs.View as values
use Rattle.amqp_types.specs.Reading.{seen_at}
use Rattle.flow_counts.specs.Words.{Gives}
use Rattle.flow_counts.specs.declared.profile.TheConstants.{MAX_DEPTH}
use Rattle.amqp_perf.specs.FieldsLeft.{fields_left}
use Rattle.amqp_perf.specs.Meaning.{Meaning}
use Rattle.amqp_perf.specs.Reading.{performative_at}
use Rattle.amqp_perf.specs.View.{view}
use Rattle.amqp_perf.proofs.Listed.{said_listed}
use Rattle.amqp_perf.proofs.performative.Performative.read_front.Goals as goal

pub returns-in-Ok : goal.returns-in-Ok
unfolding performative_at
returns-in-Ok c =
    let list = option_map (λ x. (values.view x.0, fields_left x.1)) c.in-Ok.value in
    subst (λ read. Gives {Y = Meaning × List ℕ} (λ x. (view x.0, x.1.now)) c.of_value.result read)
    (sym (said_listed (seen_at MAX_DEPTH 0 c.args.octets.now) list c.in-Ok.rest.now c.in-Ok.ensures)) c.of_value.ensures
