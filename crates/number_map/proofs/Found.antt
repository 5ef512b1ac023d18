-- What a look-up by index says of one by key.
use Rattle.std.proofs.Common.{◌≡◌, ℕ, zero, suc, arith, ◌<◌, Bool, true, false, cond, List, [], ◌∷◌, Option, None, Some, get_or, is_some, length, option_map, position, refl, slice_get, ap, sym, ◌∙◌, subst, true≢false}
use Rattle.std.proofs.lemmas.List.Quantifiers.{position-Some}
use Rattle.std.proofs.lemmas.Option.{get_or_from_slice_get, same_Some, slice_get-map}
use Rattle.std.specs.Cmp.{IsEquivalence}
use Rattle.std.specs.List.{IsDistinct}
use Rattle.std.specs.Map.{keys_of, values_of, lookup, set_value}
use Rattle.indexmap.specs.IndexMap.{IndexMap, IsUnique, UpdatesBy, WritesThrough, index_of, insert_entry, set_value_at, values, with_value_at}
use Rattle.indexmap.proofs.CallerLemmas.{index_map_len-with_value_at, keys-with_value_at, updates-with_value_at}
use Rattle.indexmap.proofs.MapLemmas.{Found-position, index-first, insert_entry-first}
use Rattle.indexmap.proofs.RemoveLemmas.{own_first}

-- there is an item at each index below the length
pub some_at : {Y : Type 0} (ys : List Y) (i : ℕ) → i < length ys → is_some (slice_get ys i) ≡ true
some_at [] i h = absurd (omega arith)
some_at (y ∷ ys) zero h = refl
some_at (y ∷ ys) (suc i) h = some_at ys i (omega arith)

module _ {K X : Type 0} where
  -- an entry has the value that stands at its index
  pub record Entry (es : List (K × X)) (i : ℕ) (v : X) : Type 0 where
    pub key : K
    pub at : slice_get es i ≡ Some (key, v)

  pub entry_of : (es : List (K × X)) (i : ℕ) (v : X) → slice_get (values_of es) i ≡ Some v → Entry es i v
  entry_of es i v h = by (slice_get es i) refl
    where
      value : option_map (λ e. e.1) (slice_get es i) ≡ Some v
      value = sym (slice_get-map (λ e. e.1) es i) ∙ h

      by : (o : Option (K × X)) → slice_get es i ≡ o → Entry es i v
      by None e = absurd (true≢false (sym (ap is_some (sym (ap (option_map (λ p. p.1)) e) ∙ value))))
      by (Some p) e = record { key = p.0; at = e ∙ (λ j. Some (p.0, same_Some p.1 v (sym (ap (option_map (λ q. q.1)) e) ∙ value) j)) }

  -- a write under a test that no key passes changes nothing
  pub unset : (t : K → Bool) (es : List (K × X)) (w : X) → lookup t es ≡ None → es ≡ set_value t es w
  unset t [] w h = refl
  unset t (e ∷ es) w h = by (t e.0) refl (λ rest. unset t es w rest)
    where
      by : (b : Bool) → t e.0 ≡ b → (lookup t es ≡ None → es ≡ set_value t es w) → e ∷ es ≡ set_value t (e ∷ es) w
      by true p more = absurd (true≢false (ap is_some (sym (ap (λ b. cond b (Some e.1) (lookup t es)) p) ∙ h)))
      by false p more =
          ap (λ l. e ∷ l) (more (sym (ap (λ b. cond b (Some e.1) (lookup t es)) p) ∙ h))
          ∙ sym (ap (λ b. cond b ((e.0, w) ∷ es) (e ∷ set_value t es w)) p)

module _ {K X : Type 0} (eq : K → K → Bool) where
  -- an insert under a key that is there is a write
  inserted : (es : List (K × X)) (key : K) (w : X) → is_some (lookup (eq key) es) ≡ true → insert_entry eq es key w ≡ set_value (eq key) es w
  inserted [] key w h = absurd (true≢false (sym h))
  inserted (e ∷ es) key w h = by (eq key e.0) refl (λ rest. inserted es key w rest)
    where
      by : (b : Bool) → eq key e.0 ≡ b → (is_some (lookup (eq key) es) ≡ true → insert_entry eq es key w ≡ set_value (eq key) es w)
          → insert_entry eq (e ∷ es) key w ≡ set_value (eq key) (e ∷ es) w
      by true p more =
          ap (λ b. cond b ((e.0, w) ∷ es) (e ∷ insert_entry eq es key w)) p
          ∙ sym (ap (λ b. cond b ((e.0, w) ∷ es) (e ∷ set_value (eq key) es w)) p)
      by false p more =
          ap (λ b. cond b ((e.0, w) ∷ es) (e ∷ insert_entry eq es key w)) p
          ∙ ap (λ l. e ∷ l) (more (sym (ap (λ b. is_some (cond b (Some e.1) (lookup (eq key) es))) p) ∙ h))
          ∙ sym (ap (λ b. cond b ((e.0, w) ∷ es) (e ∷ set_value (eq key) es w)) p)

-- equal keys are equal to the same keys
alike : {K : Type 0} (eq : K → K → Bool) (laws : IsEquivalence eq) (key k : K) → eq key k ≡ true → eq key ≡ eq k
alike eq laws key k same = λ j x. laws.congr key k x same j

module _ {K X : Type 0} (eq : K → K → Bool) (laws : IsEquivalence eq) where
  -- what stands at an index under an equal key is what the key finds
  pub index_at : (es : List (K × X)) (i : ℕ) (key k : K) (v : X) → IsDistinct eq (keys_of es) → slice_get es i ≡ Some (k, v) → eq k key ≡ true → position (eq key) (keys_of es) ≡ Some i
  index_at es i key k v distinct at same =
      ap (λ t. position t (keys_of es)) (sym (alike eq laws k key same)) ∙ index-first (eq k) es i (own_first eq laws es i k v distinct at)

  -- the key that stands where a key is found is equal to it
  pub found_alike : (es : List (K × X)) (i : ℕ) (key k : K) (v : X) → position (eq key) (keys_of es) ≡ Some i → slice_get es i ≡ Some (k, v) → eq key ≡ eq k
  found_alike es i key k v found at =
      let stands : slice_get (keys_of es) i ≡ Some k = slice_get-map (λ e. e.0) es i ∙ ap (option_map (λ e. e.0)) at in
      let read : get_or (keys_of es) i k ≡ k = get_or_from_slice_get (keys_of es) i k k stands in
      alike eq laws key k (subst (λ x. eq key x ≡ true) read (position-Some (eq key) (keys_of es) i k found).1)

  module _ {S : Type 0} (m : IndexMap K X S) (i : ℕ) (key : K) (found : index_of eq m key ≡ Some i) (v : X) (value : slice_get (values m) i ≡ Some v) (unique : IsUnique eq m) (w : X) where
    -- a write at the index under which a key is found is a write under the key
    written_entries : set_value_at m.entries i w ≡ set_value (eq key) m.entries w
    written_entries =
        let f = Found-position (eq key) m.entries i found in
        sym (insert_entry-first eq key w m.entries i f.first) ∙ inserted eq m.entries key w (ap is_some (f.value ∙ value))

    written_updates : UpdatesBy eq (eq key) m (with_value_at m i w) (Some w)
    written_updates =
        let e = entry_of m.entries i v value in
        subst (λ t. UpdatesBy eq t m (with_value_at m i w) (Some w)) (sym (found_alike m.entries i key e.key v found e.at)) (updates-with_value_at m i w laws unique e.key v e.at)

    pub written : WritesThrough eq (eq key) m w (with_value_at m i w)
    written = (
      written_entries,
      keys-with_value_at m i w,
      index_map_len-with_value_at m i w,
      λ _. written_updates,
      subst (IsDistinct eq) (sym (keys-with_value_at m i w)) unique,
      refl,
      refl,
    )
