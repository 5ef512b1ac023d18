-- An address comes among those to look at, alone or with others.
use Rattle.std.proofs.Common.{◌≡◌, refl, sym, ap, ◌∙◌, ◌<◌, ◌+◌, ℕ, Bool, true, false, ◌||◌, List, length, take, get_or, Option, Some, None, nat_eq, bytes_eq, option_map, eqb-true}
use Rattle.std.specs.List.{list_any, slice_get}
use Rattle.std.proofs.lemmas.List.Folds.{list_any_more}
use Rattle.std.proofs.lemmas.Option.{slice_get-get_or}
use Rattle.std.proofs.lemmas.Slice.Eq.{bytes_eq-Decides}
use Rattle.trace_events.specs.Words.{is_some_and}

pub at-once : (a b c : Bool) → c ≡ a || b → a ≡ true → c ≡ true
at-once a b c is here = is ∙ ap (λ x. x || b) here

pub before : (a b c : Bool) → c ≡ a || b → b ≡ true → c ≡ true
before true b c is was = is
before false b c is was = is ∙ was

-- the address that comes is this one
pub named : {A : Type 0} (octets : A → List ℕ) (o : Option A) (address : List ℕ) → option_map octets o ≡ Some address → is_some_and o (λ x. bytes_eq (octets x) address) ≡ true
named octets None address is = absurd cc
named octets (Some x) address is = let same : octets x ≡ address = cc in (bytes_eq-Decides (octets x) address).1 same

-- of the first so many numbers and the next one
pub one-more : (P : Type 0) (ns : List ℕ) (i n : ℕ) → i < length ns → (list_any (nat_eq n) (take i ns) ≡ true → P) → (slice_get ns i ≡ Some n → P) → list_any (nat_eq n) (take (i + 1) ns) ≡ true → P
one-more P ns i n below was here among = by (list_any (nat_eq n) (take i ns)) (nat_eq n (get_or ns i 0)) refl refl (sym (list_any_more (nat_eq n) ns i 0 below) ∙ among)
  where
    by : (a b : Bool) → list_any (nat_eq n) (take i ns) ≡ a → nat_eq n (get_or ns i 0) ≡ b → a || b ≡ true → P
    by true b is same some = was is
    by false true is same some = here (slice_get-get_or ns i 0 below ∙ ap Some (sym (eqb-true n (get_or ns i 0) same)))
    by false false is same some = absurd cc
