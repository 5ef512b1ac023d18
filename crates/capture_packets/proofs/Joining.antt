-- Octets that are appended part by part.
use Rattle.std.proofs.Common.{◌≡◌, ℕ, List, ◌++◌, append_assoc, ap, ◌∙◌}

-- two parts
pub joined : (old mid new a b : List ℕ) → mid ≡ old ++ a → new ≡ mid ++ b → new ≡ old ++ (a ++ b)
joined old mid new a b first second = second ∙ (ap (λ (t : List ℕ). t ++ b) first ∙ append_assoc old a b)

-- seven parts
pub joined_seven : (old m0 m1 m2 m3 m4 m5 m6 a0 a1 a2 a3 a4 a5 a6 : List ℕ) → m0 ≡ old ++ a0 → m1 ≡ m0 ++ a1 → m2 ≡ m1 ++ a2 → m3 ≡ m2 ++ a3 → m4 ≡ m3 ++ a4 → m5 ≡ m4 ++ a5 → m6 ≡ m5 ++ a6
    → m6 ≡ old ++ ((((((a0 ++ a1) ++ a2) ++ a3) ++ a4) ++ a5) ++ a6)
joined_seven old m0 m1 m2 m3 m4 m5 m6 a0 a1 a2 a3 a4 a5 a6 e0 e1 e2 e3 e4 e5 e6 =
    joined old m5 m6 _ a6 (joined old m4 m5 _ a5 (joined old m3 m4 _ a4 (joined old m2 m3 _ a3 (joined old m1 m2 _ a2 (joined old m0 m1 a0 a1 e0 e1) e2) e3) e4) e5) e6
