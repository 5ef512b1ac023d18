-- The entries of a map in the order of its keys, which are numbers.
use Rattle.std.proofs.Common.{◌≡◌, ◌∙◌, ap, sym, refl, ℕ, Bool, true, false, cond, List, [], ◌∷◌, nat_lt, arith}
use Rattle.std.specs.Prelude.{◌==◌}
use Rattle.std.specs.declared.cmp.Ordering.TheVariants.{Less, Equal, Greater}
use Rattle.std.specs.Ordering.{nat_cmp, match_ordering, is_eq}
use Rattle.std.specs.BTreeMap.{insert_entry, is_at}
use Rattle.std.specs.Map.{remove_entry}
use Rattle.std.proofs.lemmas.Bool.{eqb-true}
use Rattle.std.proofs.lemmas.Bool.Decides.{nat_tests}
use Rattle.flow_counts.specs.Covers.{put, without}

by_tests : {X : Type 0} (less same : Bool) (a b b' c c' : X) → (same ≡ true → b ≡ b') → c ≡ c'
    → match_ordering (cond less Less (cond same Equal Greater)) a b c ≡ cond less a (cond same b' c')
by_tests true same a b b' c c' h k = refl
by_tests false true a b b' c c' h k = h refl
by_tests false false a b b' c c' h k = k

pub insert_entry-put : (entries : List (ℕ × ℕ)) (number id : ℕ) → insert_entry nat_cmp entries number id ≡ put number id entries
insert_entry-put [] number id = refl
insert_entry-put (e ∷ es) number id =
    by_tests (nat_lt number e.0) (number == e.0) ((number, id) ∷ e ∷ es) ((e.0, id) ∷ es) ((number, id) ∷ es)
    (e ∷ insert_entry nat_cmp es number id) (e ∷ put number id es)
    (λ same. ap (λ (k : ℕ). (k, id) ∷ es) (sym (eqb-true number e.0 same))) (ap (λ rest. e ∷ rest) (insert_entry-put es number id))

is_eq-nat_cmp : (x y : ℕ) → is_eq (nat_cmp x y) ≡ (x == y)
is_eq-nat_cmp x y = grind (arith, nat_tests)

pub remove_entry-without : (number : ℕ) (entries : List (ℕ × ℕ)) → remove_entry (is_at (nat_cmp number)) entries ≡ without number entries
remove_entry-without number [] = refl
remove_entry-without number (e ∷ es) =
    ap (λ test. cond test es (e ∷ remove_entry (is_at (nat_cmp number)) es)) (is_eq-nat_cmp number e.0)
    ∙ ap (λ rest. cond (number == e.0) es (e ∷ rest)) (remove_entry-without number es)
