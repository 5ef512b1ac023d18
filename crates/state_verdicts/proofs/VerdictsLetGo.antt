-- What is left of the verdicts where those of one delivery are let go.
use Rattle.std.proofs.Common.{◌≡◌, refl, sym, ap, ◌∙◌, ℕ, Bool, true, false, ◌||◌, List, [], ◌∷◌, ◌++◌, ◌==◌}
use Rattle.std.proofs.lemmas.List.Folds.{list_any-append}
use Rattle.state_tables.specs.LetGo.{is_let_go}
use Rattle.state_verdicts.proofs.TableSteps.{or_false}

either-off : (a b : Bool) → a || b ≡ false → (a ≡ false) × (b ≡ false)
either-off false b off = (refl, off)
either-off true b off = absurd cc

-- one that was not let go now was not before, and is another
pub stood-before : (gone later : List (ℕ × Unit {0})) (number n : ℕ) → later ≡ gone ++ (number, tt) ∷ [] → is_let_go later n ≡ false → (is_let_go gone n ≡ false) × ((number == n) ≡ false)
stood-before gone later number n noted there =
    either-off (is_let_go gone n) (number == n)
    (ap (λ b. is_let_go gone n || b) (sym (or_false (number == n)))
    ∙ (sym (list_any-append (λ (p : ℕ × Unit {0}). p.0 == n) gone ((number, tt) ∷ []))
    ∙ (ap (λ items. is_let_go items n) (sym noted) ∙ there)))
