-- How many of the messages are decided in which way.
use Rattle.std.proofs.Common.{◌≡◌, ℕ, zero, suc, ◌+◌, ◌/◌, ◌%◌, Bool, true, false, eqb, if◌then◌else◌, List, [], ◌∷◌, ◌++◌, length, refl, add-one, arith}
use Rattle.std.specs.List.{count_by}
use Rattle.std.proofs.lemmas.Bool.{eqb-true, eqb-false}
use Rattle.std.proofs.lemmas.List.{length-append}
use Rattle.std.proofs.lemmas.List.Sums.{sum_by-append}
use Rattle.amqp_perf.specs.declared.descriptor.Outcome.{Outcome}
use Rattle.amqp_perf.specs.declared.descriptor.Outcome.TheVariants.{Accepted, Rejected}
use Rattle.clients_program.specs.Greeting.{decision, decisions}
use Rattle.clients_program.specs.Outcomes.{is_accepted, is_rejected}
use Rattle.clients_program.specs.Counts.{counts_of, IsWhole}

pub decisions_long : (count : ℕ) → length (decisions count) ≡ count
decisions_long zero = refl
decisions_long (suc n) = omega (arith, length-append (decisions n) (decision (suc n) ∷ []), decisions_long n)

pub decisions_more : (n : ℕ) → decisions (n + 1) ≡ decisions n ++ decision (n + 1) ∷ []
decisions_more n = rw (add-one n) refl

-- one more message is rejected where its number is a multiple of 3
one_more : (n : ℕ) (third : Bool) → eqb (suc n % 3) 0 ≡ third → n / 3 + count_by is_rejected ((if third then Rejected else Accepted) ∷ []) ≡ suc n / 3
one_more n true e = omega (arith, eqb-true (suc n % 3) 0 e)
one_more n false e = omega (arith, eqb-false (suc n % 3) 0 e)

one_is : (third : Bool) → count_by is_accepted ((if third then Rejected else Accepted) ∷ []) + count_by is_rejected ((if third then Rejected else Accepted) ∷ []) ≡ 1
one_is true = refl
one_is false = refl

more : (p : Outcome → Bool) (xs : List Outcome) (x : Outcome) → count_by p (xs ++ x ∷ []) ≡ count_by p xs + count_by p (x ∷ [])
more p xs x = sum_by-append (λ y. if p y then 1 else 0) xs (x ∷ [])

rejected_is : (count : ℕ) → count_by is_rejected (decisions count) ≡ count / 3
rejected_is zero = refl
rejected_is (suc n) = omega (arith, more is_rejected (decisions n) (decision (suc n)), rejected_is n, one_more n (eqb (suc n % 3) 0) refl)

decided_is : (count : ℕ) → count_by is_accepted (decisions count) + count_by is_rejected (decisions count) ≡ count
decided_is zero = refl
decided_is (suc n) =
    omega (
      arith,
      more is_accepted (decisions n) (decision (suc n)),
      more is_rejected (decisions n) (decision (suc n)),
      decided_is n,
      one_is (eqb (suc n % 3) 0),
    )

-- the counts of an exchange in which each message was decided
pub counts_whole : (count : ℕ) → IsWhole count (counts_of count (decisions count))
counts_whole count = record { sent = refl; arrived = decisions_long count; decided = decided_is count; rejected = rejected_is count }
