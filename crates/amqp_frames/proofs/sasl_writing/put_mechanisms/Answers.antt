use Rattle.std.proofs.Common.{ℕ, List, sym, subst}
use Rattle.amqp_types.specs.Writing.{levels_in_described}
use Rattle.amqp_perf.specs.Slots.{kept_value, AllCanStand}
use Rattle.std.proofs.Common.{Some, [], ◌∷◌}
use Rattle.amqp_frames.proofs.SaslWritten.{mechanisms_can}
use Rattle.amqp_frames.proofs.sasl_writing.put_mechanisms.Goals as goal

pub put_fields-requires-clause-fields : goal.put_fields-requires-clause-fields
put_fields-requires-clause-fields c =
    subst (λ (octets : List ℕ). AllCanStand levels_in_described (Some (kept_value octets) ∷ [])) (sym c.mechanisms.ensures) (mechanisms_can c.args.anonymous)
