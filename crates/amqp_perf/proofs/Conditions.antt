-- The names of conditions can be written.
use Rattle.std.proofs.Common.{◌≡◌, refl, ℕ, zero, suc, Bool, true, false, ◌&&◌, List, [], ◌∷◌, IsAscii, nat_lt, arith}
use Rattle.std.specs.List.{list_all}
use Rattle.std.proofs.lemmas.Bool.{ltb-true}
use Rattle.std.proofs.lemmas.Str.Ascii.{IsAscii-nil}
use Rattle.amqp_types.specs.Writing.{text_octets}
use Rattle.amqp_perf.specs.declared.condition.ErrorCondition.{ErrorCondition}
use Rattle.amqp_perf.specs.declared.condition.ErrorCondition.TheVariants.{FramingError, DecodeError, NotAllowed, InvalidField, HandleInUse, ResourceLimitExceeded, NotImplemented, WindowViolation, UnattachedHandle, TransferLimitExceeded, MessageSizeExceeded}
use Rattle.amqp_perf.specs.Conditions.{condition_name}
use Rattle.amqp_perf.specs.Writing.{IsWritableError}

first_of : (a b : Bool) → (a && b) ≡ true → a ≡ true
first_of true b e = refl
first_of false b e = absurd cc

rest_of : (a b : Bool) → (a && b) ≡ true → b ≡ true
rest_of true b e = e
rest_of false b e = absurd cc

-- octets below 128 are ASCII
are_ascii : (bs : List ℕ) → list_all (λ b. nat_lt b 128) bs ≡ true → IsAscii bs
are_ascii [] e i = IsAscii-nil i
are_ascii (b ∷ bs) e zero = ltb-true b 128 (first_of (nat_lt b 128) (list_all (λ b. nat_lt b 128) bs) e)
are_ascii (b ∷ bs) e (suc i) = are_ascii bs (rest_of (nat_lt b 128) (list_all (λ b. nat_lt b 128) bs) e) i

-- each name, as it stands
pub condition_writable : (c : ErrorCondition) → IsWritableError (condition_name c)
unfolding text_octets
condition_writable FramingError = record { ascii = are_ascii (condition_name FramingError) refl; short = omega arith; few = omega arith }
condition_writable DecodeError = record { ascii = are_ascii (condition_name DecodeError) refl; short = omega arith; few = omega arith }
condition_writable NotAllowed = record { ascii = are_ascii (condition_name NotAllowed) refl; short = omega arith; few = omega arith }
condition_writable InvalidField = record { ascii = are_ascii (condition_name InvalidField) refl; short = omega arith; few = omega arith }
condition_writable HandleInUse = record { ascii = are_ascii (condition_name HandleInUse) refl; short = omega arith; few = omega arith }
condition_writable ResourceLimitExceeded = record { ascii = are_ascii (condition_name ResourceLimitExceeded) refl; short = omega arith; few = omega arith }
condition_writable NotImplemented = record { ascii = are_ascii (condition_name NotImplemented) refl; short = omega arith; few = omega arith }
condition_writable WindowViolation = record { ascii = are_ascii (condition_name WindowViolation) refl; short = omega arith; few = omega arith }
condition_writable UnattachedHandle = record { ascii = are_ascii (condition_name UnattachedHandle) refl; short = omega arith; few = omega arith }
condition_writable TransferLimitExceeded = record { ascii = are_ascii (condition_name TransferLimitExceeded) refl; short = omega arith; few = omega arith }
condition_writable MessageSizeExceeded = record { ascii = are_ascii (condition_name MessageSizeExceeded) refl; short = omega arith; few = omega arith }
