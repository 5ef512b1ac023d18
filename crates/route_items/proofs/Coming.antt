-- What became of a connection once an item came.
use Rattle.std.proofs.Common.{◌≡◌, refl, sym, ap, ◌∙◌, ℕ, Bool, true, false, ◌&&◌, not, List, [], ◌∷◌, ◌++◌, if◌then◌else◌, ◌==◌}
use Rattle.std.proofs.lemmas.Bool.{eqb-true}
use Rattle.capture_form.specs.declared.records.Record.{Record}
use Rattle.capture_form.specs.declared.records.What.{What}
use Rattle.route_items.specs.declared.item.Item.{Item}
use Rattle.route_items.specs.declared.item.Item.TheVariants.{Opened, In, Broken, Lost}
use Rattle.route_items.specs.Items.{record_of, connection_of}
use Rattle.route_items.specs.declared.connection_states.ConnectionState.{ConnectionState}
use Rattle.route_items.specs.declared.connection_states.ConnectionStates.{ConnectionStates}
use Rattle.route_items.specs.Inputs.{has_one, is_opening, is_losing, is_breaking}
use Rattle.route_items.specs.ConnectionStates.{AreStates, IsNow, life_in, life_of, life_after}
use Rattle.route_items.proofs.Appended.{has_one-other, has_one-now}

abbrev made : Bool → Bool → Bool → ConnectionState
made a b c = record { is_opened = a; is_lost = b; is_broken = c }

alike : (a b c x y z : Bool) → a ≡ x → b ≡ y → c ≡ z → made a b c ≡ made x y z
alike a b c x y z first second third = ap (λ a. made a b c) first ∙ (ap (λ b. made x b c) second ∙ ap (λ c. made x y c) third)

-- broken, and not lost
still : {l b m d : Bool} → l ≡ m → b ≡ d → not l && b ≡ not m && d
still {l} {b} {m} {d} first second = ap (λ x. not x && b) first ∙ ap (λ x. not m && x) second

and-true : (b : Bool) → b && true ≡ b
and-true true = refl
and-true false = refl

module _ (c : ℕ) (records : List Record) (item : Item) where
  -- on another connection, nothing became of this one
  elsewhere : connection_of item == c ≡ false → life_of c (records ++ record_of item ∷ []) ≡ life_of c records
  elsewhere other =
      alike _ _ _ _ _ _ (none is_opening) (none is_losing) (still (none is_losing) (none is_breaking))
    where
      never : (b : Bool) → b && (connection_of item == c) ≡ false
      never true = other
      never false = refl

      none : (test : What → Bool) → has_one test c (records ++ record_of item ∷ []) ≡ has_one test c records
      none test = has_one-other test c records (record_of item) (never (test (record_of item).what))

here : (c : ℕ) (records : List Record) (item : Item) → connection_of item == c ≡ true → life_of c (records ++ record_of item ∷ []) ≡ life_after (life_of c records) item
here c records (Opened k) same =
    let lost = has_one-other is_losing c records (record_of (Opened k)) refl in
    alike _ _ _ _ _ _ (has_one-now is_opening c records (record_of (Opened k)) same) lost (still lost (has_one-other is_breaking c records (record_of (Opened k)) refl))
here c records (In k frame) same =
    let lost = has_one-other is_losing c records (record_of (In k frame)) refl in
    alike _ _ _ _ _ _ (has_one-other is_opening c records (record_of (In k frame)) refl) lost (still lost (has_one-other is_breaking c records (record_of (In k frame)) refl))
here c records (Broken k) same =
    let lost = has_one-other is_losing c records (record_of (Broken k)) refl in
    alike _ _ _ _ _ _ (has_one-other is_opening c records (record_of (Broken k)) refl) lost
    (still lost (has_one-now is_breaking c records (record_of (Broken k)) same) ∙ and-true (not (has_one is_losing c records)))
here c records (Lost k) same =
    let lost = has_one-now is_losing c records (record_of (Lost k)) same in
    alike _ _ _ _ _ _ (has_one-other is_opening c records (record_of (Lost k)) refl) lost (still lost refl)

-- the table behind an item, from the one before it
module _ (old new : ConnectionStates) (item : Item) (life : ConnectionState) (is : life ≡ life_after (life_in old (connection_of item)) item) where
  pub came : IsNow (connection_of item) life old new → (inputs : List Record) → AreStates old inputs → AreStates new (inputs ++ record_of item ∷ [])
  came now inputs told c = now c ∙ by (connection_of item == c) refl
    where
      by : (b : Bool) → (connection_of item == c) ≡ b → (if b then life else life_in old c) ≡ life_of c (inputs ++ record_of item ∷ [])
      by true same =
          is
          ∙ (ap (λ l. life_after l item) (told (connection_of item) ∙ ap (λ k. life_of k inputs) (eqb-true (connection_of item) c same))
          ∙ sym (here c inputs item same))
      by false other = told c ∙ sym (elsewhere c inputs item other)
