-- The earliest of those that pass, in a list whose newest stands first.
use Rattle.std.proofs.Common.{◌≡◌, List, [], ◌∷◌, ◌++◌, Bool, cond, Option, Some, None, reverse, refl}
use Rattle.std.specs.Prelude.{find}
use Rattle.std.specs.Option.{option_or}
use Rattle.std.proofs.lemmas.List.{reverse-append}
use Rattle.std.proofs.lemmas.List.Folds.{find-append}
use Rattle.trace_events.specs.Words.{or_else}

-- the last that passes
abbrev pub earliest : {X : Type 0} → (X → Bool) → List X → Option X
earliest p [] = None
earliest p (x ∷ xs) = or_else (earliest p xs) (cond (p x) (Some x) None)

same_choice : {X : Type 0} (a b : Option X) → option_or a b ≡ or_else a b
same_choice None b = refl
same_choice (Some x) b = refl

pub find-reverse : {X : Type 0} (p : X → Bool) (xs : List X) → find p (reverse xs) ≡ earliest p xs
find-reverse p [] = refl
find-reverse p (x ∷ xs) =
    let last : reverse (x ∷ xs) ≡ reverse xs ++ (x ∷ []) = reverse-append (x ∷ []) xs in
    rw (last, find-append p (reverse xs) (x ∷ []), find-reverse p xs) (same_choice (earliest p xs) (cond (p x) (Some x) None))

pub ruleset the_earliest = (find-reverse)
