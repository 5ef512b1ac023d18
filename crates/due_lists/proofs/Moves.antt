-- Steps of loops that take out the last of a list and count events.
use Rattle.std.proofs.Common.{◌≡◌, refl, sym, ap, subst, ◌∙◌, List, [], ◌∷◌, ◌++◌, length}
use Rattle.std.proofs.lemmas.List.{append_assoc}
use Rattle.flow_counts.specs.Picks.{AddressEvent}
use Rattle.address_table.specs.Links.{IsCount}
use Rattle.address_table.specs.declared.table.Table.{Table}
use Rattle.due_lists.specs.AddressCounts.{CountsMore}

pub popped : {A : Type 0} (whole left later gone : List A) (x : A) → whole ≡ left ++ gone → left ≡ later ++ x ∷ [] → whole ≡ later ++ x ∷ gone
popped whole left later gone x is was = is ∙ (ap (λ ys. ys ++ gone) was ∙ append_assoc later (x ∷ []) gone)

-- where none is left all are gone
pub none-left : {A : Type 0} (left gone : List A) → length left ≡ 0 → left ++ gone ≡ gone
none-left [] gone none = refl
none-left (x ∷ left) gone none = absurd cc

pub counts-then : (first second : List AddressEvent) (a b c : Table) → CountsMore first a b → CountsMore second b c → CountsMore (second ++ first) a c
counts-then first second a b c one two = λ past count.
    subst (IsCount c) (sym (append_assoc second first past)) (two (first ++ past) (one past count))
