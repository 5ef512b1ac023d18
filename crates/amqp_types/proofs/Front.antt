-- The value at the front of the input.
use Rattle.std.proofs.Common.{◌≡◌, ℕ, List, Result, Ok, Err, ap, ◌∙◌, Bor}
use Rattle.std.specs.Prelude.{IfOk}
use Rattle.amqp_types.specs.declared.fault.ValueFault.{ValueFault}
use Rattle.amqp_types.specs.declared.value.Value.{Value}
use Rattle.amqp_types.specs.Part.{Seen}
use Rattle.flow_counts.specs.Words.{Gives}
use Rattle.amqp_types.specs.Reading.{seen_at}
use Rattle.flow_counts.specs.declared.profile.TheConstants.{MAX_DEPTH}
use Rattle.amqp_types.specs.Grammar.{IsFront}
use Rattle.amqp_types.specs.View.{view}
use Rattle.amqp_types.proofs.Values.{seen_found, seen_again}

-- what was read is at the front
pub is_found : (bytes : List ℕ) (r : Result (Value × Bor (List ℕ)) ValueFault) → Gives {Y = Seen × List ℕ} (λ x. (view x.0, x.1.now)) r (seen_at MAX_DEPTH 0 bytes)
    → IfOk r (λ x. IsFront MAX_DEPTH bytes (view x.0) x.1.now)
is_found bytes (Ok x) given = seen_found MAX_DEPTH 0 bytes (view x.0, x.1.now) given
is_found bytes (Err d) given = tt

-- what is at the front is read
pub front_read : (bytes : List ℕ) (value : Seen) (rest : List ℕ) → IsFront MAX_DEPTH bytes value rest → seen_at MAX_DEPTH 0 bytes ≡ Ok (value, rest)
front_read bytes value rest front = ap (seen_at MAX_DEPTH 0) front.parts ∙ seen_again MAX_DEPTH 0 value.octets rest value.part front.is
