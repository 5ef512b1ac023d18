-- Lists of lines of which all are open, or all behind the first.
use Rattle.std.proofs.Common.{◌≡◌, List, [], ◌∷◌, ◌++◌, All, drop, take, set, sym, subst}
use Rattle.std.proofs.lemmas.List.Elements.{All-cons, All-set, All-drop, All-take, All-append}
use Rattle.conn_engine.specs.declared.serving.Status.{Status}
use Rattle.conn_engine.specs.declared.serving.Status.TheVariants.{Open}

-- an open one was put in front
pub open_front : (xs ys : List Status) (x : Status) → ys ≡ x ∷ xs → x ≡ Open → All (λ s. s ≡ Open) xs → All (λ s. s ≡ Open) ys
open_front xs ys x e is all = subst (All (λ s. s ≡ Open)) (sym e) (All-cons (λ s. s ≡ Open) x xs is all)

-- the first one was changed in its place and is open, and then put behind the others
pub open_turned : (xs ys : List Status) (x : Status) → ys ≡ drop 1 (set xs 0 x) ++ take 1 (set xs 0 x) → x ≡ Open → All (λ s. s ≡ Open) xs → All (λ s. s ≡ Open) ys
open_turned xs ys x e is all =
    let changed : All (λ s. s ≡ Open) (set xs 0 x) = All-set (λ s. s ≡ Open) xs 0 x is all in
    subst (All (λ s. s ≡ Open)) (sym e) (All-append (λ s. s ≡ Open) _ _ (All-drop (λ s. s ≡ Open) 1 _ changed) (All-take (λ s. s ≡ Open) 1 _ changed))

-- the first one was changed in its place, whatever it is now: those behind it are open
pub open_behind : (xs : List Status) (x : Status) → All (λ s. s ≡ Open) xs → All (λ s. s ≡ Open) (drop 1 (set xs 0 x))
open_behind [] x all = All-drop (λ s. s ≡ Open) 1 [] all
open_behind (y ∷ ys) x all = All-drop (λ s. s ≡ Open) 1 (y ∷ ys) all
