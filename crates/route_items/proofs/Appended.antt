-- What happened on a connection, in records one behind the other.
use Rattle.std.proofs.Common.{◌≡◌, refl, sym, ap, ◌∙◌, ℕ, Bool, true, false, ◌&&◌, ◌||◌, List, [], ◌∷◌, ◌++◌, ◌==◌}
use Rattle.std.proofs.Math.Bool.{or_assoc, or-false, or-true}
use Rattle.capture_form.specs.declared.records.Record.{Record}
use Rattle.capture_form.specs.declared.records.What.{What}
use Rattle.route_items.specs.Inputs.{has_one}

module _ (test : What → Bool) (c : ℕ) where
  pub has_one-more : (records more : List Record) → has_one test c (records ++ more) ≡ has_one test c records || has_one test c more
  has_one-more [] more = refl
  has_one-more (r ∷ records) more =
      ap (λ b. (test r.what && (r.connection == c)) || b) (has_one-more records more)
      ∙ sym (or_assoc (test r.what && (r.connection == c)) (has_one test c records) (has_one test c more))

  -- one record more that is none of those, or is one
  module _ (records : List Record) (r : Record) where
    last : (b : Bool) → test r.what && (r.connection == c) ≡ b → has_one test c (records ++ r ∷ []) ≡ has_one test c records || (b || false)
    last b is = has_one-more records (r ∷ []) ∙ ap (λ b. has_one test c records || (b || false)) is

    pub has_one-other : test r.what && (r.connection == c) ≡ false → has_one test c (records ++ r ∷ []) ≡ has_one test c records
    has_one-other is = last false is ∙ or-false (has_one test c records)

    pub has_one-now : test r.what && (r.connection == c) ≡ true → has_one test c (records ++ r ∷ []) ≡ true
    has_one-now is = last true is ∙ or-true (has_one test c records)
