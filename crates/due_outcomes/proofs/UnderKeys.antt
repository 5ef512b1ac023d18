-- Facts of truth values, and what stays where a number leaves a group.
use Rattle.std.proofs.Common.{◌≡◌, refl, sym, ap, ◌∙◌, ℕ, Bool, true, false, ◌&&◌, ◌||◌, not, ◌==◌}
use Rattle.number_groups.specs.Groups.{Left, is_member}
use Rattle.number_groups.specs.declared.groups.Groups.{Groups}

pub or-last : (a b : Bool) → b ≡ true → a || b ≡ true
or-last true b is = refl
or-last false b is = is

pub or-first : (a b : Bool) → a ≡ true → a || b ≡ true
or-first a b is = ap (λ x. x || b) is

module _ {K : Type 0} (eq : K → K → Bool) (key : K) (number : ℕ) (earlier later : Groups K) where
  without : (there of same : Bool) → there ≡ true → same ≡ false → there && not (of && same) ≡ true
  without true true false is another = refl
  without true false same is another = refl
  without true true true is another = sym another
  without false of same is another = is

  -- where one leaves, all others stay
  pub left-kept : Left eq key number earlier later → (at : K) (n : ℕ) → (number == n) ≡ false → is_member eq earlier at n ≡ true → is_member eq later at n ≡ true
  left-kept left at n another is = left at n ∙ without (is_member eq earlier at n) (eq key at) (number == n) is another
