-- What is parked under a delivery, as it is taken out.
use Rattle.std.proofs.Common.{◌≡◌, refl, sym, ap, ◌∙◌, ◌⊎◌, inl, inr, ℕ, Bool, true, false, ◌&&◌, ◌||◌, not, Some, nat_eq, ◌==◌, eqb-true, eq-eqb}
use Rattle.std.specs.List.{slice_get}
use Rattle.std.proofs.lemmas.Map.Keys.{any_passes_from_place}
use Rattle.number_groups.specs.Ascending.{has}
use Rattle.number_groups.specs.Groups.{Left, is_member, numbers}
use Rattle.number_groups.specs.declared.ascending.Ascending.{Ascending}
use Rattle.due_outcomes.specs.Parked.{is_parked}
use Rattle.due_outcomes.specs.declared.parked.Parked.{Parked}
use Rattle.due_outcomes.proofs.UnderKeys.{left-kept, or-first, or-last}

pub and-both : (a b : Bool) → a && b ≡ true → (a ≡ true) × (b ≡ true)
and-both true b is = (refl, is)
and-both false b is = absurd cc

both : (a b : Bool) → a ≡ true → b ≡ true → a && b ≡ true
both a b is so = ap (λ x. x && b) is ∙ so

or-cases : (a b : Bool) → a || b ≡ true → (a ≡ true) ⊎ (b ≡ true)
or-cases true b is = inl refl
or-cases false b is = inr is

-- ---- some are taken out of the group of a delivery

-- what was parked still is, or was in the group
abbrev pub IsClear : ℕ → Parked → Parked → Type 0
IsClear carried earlier later = (n m : ℕ) → is_parked earlier n m ≡ true → is_member nat_eq earlier.carrying carried m || is_parked later n m ≡ true

-- and nothing has come into the group
abbrev pub IsLess : ℕ → Parked → Parked → Type 0
IsLess carried earlier later = (m : ℕ) → is_member nat_eq later.carrying carried m ≡ true → is_member nat_eq earlier.carrying carried m ≡ true

module _ (carried number : ℕ) (first between later : Parked) (clear : IsClear carried first between) (less : IsLess carried first between)
    (there : slice_get (numbers nat_eq between.carrying carried) 0 ≡ Some number) (left : Left nat_eq carried number between.carrying later.carrying)
    (gone : (n : ℕ) → has later.numbers n ≡ (has between.numbers n && not (number == n))) where
  was-there : is_member nat_eq first.carrying carried number ≡ true
  was-there = less number (any_passes_from_place (nat_eq number) (numbers nat_eq between.carrying carried) 0 number there (eq-eqb number number refl))

  pub less-next : IsLess carried first later
  less-next m is = less m (and-both (is_member nat_eq between.carrying carried m) (not (nat_eq carried carried && (number == m))) (sym (left carried m) ∙ is)).0

  pub clear-next : IsClear carried first later
  clear-next n m was =
      elim (or-cases (is_member nat_eq first.carrying carried m) (is_parked between n m) (clear n m was)) [
        | inl among ↦ or-first (is_member nat_eq first.carrying carried m) (is_parked later n m) among
        | inr parked ↦ by (number == m) refl parked
      ]
    where
      by : (b : Bool) → (number == m) ≡ b → is_parked between n m ≡ true → is_member nat_eq first.carrying carried m || is_parked later n m ≡ true
      by true same parked =
          or-first (is_member nat_eq first.carrying carried m) (is_parked later n m) (ap (is_member nat_eq first.carrying carried) (sym (eqb-true number m same)) ∙ was-there)
      by false another parked =
          let parts = and-both (has between.numbers m) (is_member nat_eq between.carrying n m) parked in
          or-last (is_member nat_eq first.carrying carried m) (is_parked later n m)
          (both (has later.numbers m) (is_member nat_eq later.carrying n m) (gone m ∙ (ap (λ b. b && not (number == m)) parts.0 ∙ ap not another))
          (left-kept nat_eq carried number between.carrying later.carrying left n m another parts.1))

-- each is a candidate, or still to come
abbrev pub IsMoved : Ascending → Ascending → Ascending → Type 0
IsMoved all candidates rest = (m : ℕ) → has all m ≡ true → has candidates m || has rest m ≡ true
