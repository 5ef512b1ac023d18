-- Small facts.
use Rattle.std.proofs.Common.{◌≡◌, refl, ap, ◌∙◌, ℕ, Bool, true, false, ◌&&◌, ◌||◌, not, List, [], ◌∷◌, Some, None, if◌then◌else◌}
use Rattle.std.specs.Prelude.{find, bytes_eq}
use lib.Pointwise.{bytes_decides}
use Rattle.trace_events.specs.declared.clause.Clause.{Clause}

pub or_left : (a b : Bool) → a ≡ true → a || b ≡ true
or_left a b is = ap (λ x. x || b) is

pub or_right : (a b : Bool) → b ≡ true → a || b ≡ true
or_right true b is = refl
or_right false b is = is

pub both : (a b : Bool) → a ≡ true → b ≡ true → a && b ≡ true
both a b one other = ap (λ x. x && b) one ∙ other

pub neither : (a b : Bool) → a || b ≡ false → (a ≡ false) × (b ≡ false)
neither true b is = absurd cc
neither false b is = (refl, is)

pub not_true : (b : Bool) → not b ≡ true → b ≡ false
not_true true is = absurd cc
not_true false is = refl

pub same_octets : (octets : List ℕ) → bytes_eq octets octets ≡ true
same_octets octets = (bytes_decides octets octets).1 refl

-- nothing is broken where each clause is met
pub none_broken : (meets : Clause → Bool) → ((c : Clause) → meets c ≡ true) → (cs : List Clause) → find (λ c. not (meets c)) cs ≡ None
none_broken meets all [] = refl
none_broken meets all (c ∷ cs) = ap (λ b. if not b then Some c else find (λ c. not (meets c)) cs) (all c) ∙ none_broken meets all cs

-- where something else than this stands, the test failed
pub not_this : {A : Type 0} (b : Bool) (x y z : A) → (x ≡ z → ⊥) → (if b then x else y) ≡ z → (b ≡ false) × (y ≡ z)
not_this true x y z other is = absurd (other is)
not_this false x y z other is = (refl, is)
