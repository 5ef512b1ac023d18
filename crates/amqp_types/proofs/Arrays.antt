-- The steps of reading an array, as `Pieces` has those of reading a list.
use Rattle.std.proofs.Common.{◌≡◌, ℕ, ◌+◌, ◌<◌, eqb, Bool, true, false, ◌&&◌, List, [], ◌∷◌, ◌++◌, length, Option, Some, None, Result, Ok, Err, refl, sym, ap, subst, ◌∙◌, append_assoc, inl, inr, arith}
use Rattle.std.specs.Prelude.{◌⊎◌}
use Rattle.std.proofs.lemmas.Bool.{eqb-true, ne_eqb}
use Rattle.std.proofs.lemmas.List.{append-nil, length-append, nil_from_length}
use Rattle.amqp_types.specs.declared.fault.ValueFault.{ValueFault}
use Rattle.amqp_types.specs.declared.code.SizeWidth.{SizeWidth}
use Rattle.amqp_types.specs.declared.code.Code.{Code}
use Rattle.amqp_types.specs.declared.code.Code.TheVariants as codes
use Rattle.amqp_types.specs.Codes.{code_of, is_described}
use Rattle.amqp_types.specs.Part.{Part, Array, Seen, Tag, Constructor, tagged, code_alone, code_behind}
use Rattle.amqp_types.specs.Reading.{◌>>=◌, Read, counted_at, items_at, all_used, with_tag, with_octets, in_array, elements_at, array_at, tagged_at, constructor_by, element_by}
use Rattle.amqp_types.specs.Grammar.{AreItems, AreElements, IsArray, IsCode, IsTagged, IsElementBy}
use Rattle.amqp_types.proofs.Steps.{bind_ok, chosen, both, ok_is, done, Takes}
use Rattle.amqp_types.proofs.Octets.{counted_found, counted_again}
use Rattle.amqp_types.proofs.Pieces.{Finds, ReadsAgain, FindsData, ReadsDataAgain, items_found, items_again, all_used_ok, with_octets_found, with_octets_again}

-- ---- constructors

-- the reader of a constructor reads only what is one
abbrev pub FindsConstructor : (ℕ → List ℕ → Read Constructor) → (List ℕ → Constructor → Type 0) → Type 0
FindsConstructor read Is = (at : ℕ) (bytes : List ℕ) (x : Constructor × List ℕ) → read at bytes ≡ Ok x → (bytes ≡ x.0.octets ++ x.1) × Is x.0.octets x.0

-- the reader of a constructor reads each that is one
abbrev pub ReadsConstructorAgain : (ℕ → List ℕ → Read Constructor) → (List ℕ → Constructor → Type 0) → Type 0
ReadsConstructorAgain read Is = (at : ℕ) (octets rest : List ℕ) (c : Constructor) → Is octets c → read at (octets ++ rest) ≡ Ok (c, rest)

-- a code alone, or a descriptor and a constructor
abbrev IsEither : (List ℕ → Part → Type 0) → (List ℕ → Constructor → Type 0) → List ℕ → Constructor → Type 0
IsEither IsInner IsConstructor octets c = IsCode octets c ⊎ IsTagged IsInner IsConstructor octets c

-- a constructor at the front
abbrev IsThere : (List ℕ → Part → Type 0) → (List ℕ → Constructor → Type 0) → List ℕ → Constructor × List ℕ → Type 0
IsThere IsInner IsConstructor bytes x = (bytes ≡ x.0.octets ++ x.1) × IsEither IsInner IsConstructor x.0.octets x.0

alone_found : (IsInner : List ℕ → Part → Type 0) (IsConstructor : List ℕ → Constructor → Type 0) (first : ℕ) (code : Code) (bytes : List ℕ) (x : Constructor × List ℕ)
    → code_of first ≡ Some code → is_described code ≡ false → done (code_alone first code, bytes) ≡ Ok x → IsThere IsInner IsConstructor (first ∷ bytes) x
alone_found IsInner IsConstructor first code bytes x known plain e =
    subst (IsThere IsInner IsConstructor (first ∷ bytes)) (ok_is (code_alone first code, bytes) x e)
    (refl, inl (record { first = first; code = code; known = known; primitive = plain; parts = refl; is = refl }))

behind_found : (value : ℕ → List ℕ → Read Seen) (IsInner : List ℕ → Part → Type 0) → Finds value IsInner
    → (inner : ℕ → List ℕ → Read Constructor) (IsConstructor : List ℕ → Constructor → Type 0) → FindsConstructor inner IsConstructor
    → (at first : ℕ) (bytes : List ℕ) (x : Constructor × List ℕ) → code_of first ≡ Some codes.Described
    → tagged_at value inner at first bytes ≡ Ok x → IsThere IsInner IsConstructor (first ∷ bytes) x
unfolding tagged_at
behind_found value IsInner finds inner IsConstructor findsInner at first bytes x known e =
    let a = bind_ok (value at bytes) (λ descriptor. inner at descriptor.1 >>= λ behind. Ok (code_behind first descriptor.0.octets behind.0, behind.1)) x e in
    let b = bind_ok (inner at a.0.1) (λ behind. Ok (code_behind first a.0.0.octets behind.0, behind.1)) x a.2 in
    let descriptor = finds at bytes a.0 a.1 in
    let behind = findsInner at a.0.1 b.0 b.1 in
    let whole : bytes ≡ (a.0.0.octets ++ b.0.0.octets) ++ b.0.1 = descriptor.0 ∙ ap (λ (t : List ℕ). a.0.0.octets ++ t) behind.0 ∙ sym (append_assoc a.0.0.octets b.0.0.octets b.0.1) in
    let is : IsTagged IsInner IsConstructor (first ∷ (a.0.0.octets ++ b.0.0.octets)) (code_behind first a.0.0.octets b.0.0) = record {
      first = first;
      descriptor = a.0.0.octets;
      descriptor_says = a.0.0.part;
      inner = b.0.0;
      known = known;
      descriptor_is = descriptor.1;
      inner_is = behind.1;
      parts = refl;
      is = refl;
    } in
    subst (IsThere IsInner IsConstructor (first ∷ bytes)) (ok_is (code_behind first a.0.0.octets b.0.0, b.0.1) x b.2) (ap (λ (t : List ℕ). first ∷ t) whole, inr is)

pub constructor_by_found : (value : ℕ → List ℕ → Read Seen) (IsInner : List ℕ → Part → Type 0) → Finds value IsInner
    → (inner : ℕ → List ℕ → Read Constructor) (IsConstructor : List ℕ → Constructor → Type 0) → FindsConstructor inner IsConstructor
    → (at first : ℕ) (bytes : List ℕ) (code : Option Code) (x : Constructor × List ℕ) → code_of first ≡ code → constructor_by value inner at first bytes code ≡ Ok x
    → (first ∷ bytes ≡ x.0.octets ++ x.1) × (IsCode x.0.octets x.0 ⊎ IsTagged IsInner IsConstructor x.0.octets x.0)
unfolding constructor_by
constructor_by_found value IsInner finds inner IsConstructor findsInner at first bytes None x known e = absurd cc
constructor_by_found value IsInner finds inner IsConstructor findsInner at first bytes (Some (codes.Fixed scalar)) x known e = alone_found IsInner IsConstructor first (codes.Fixed scalar) bytes x known refl e
constructor_by_found value IsInner finds inner IsConstructor findsInner at first bytes (Some (codes.Sized text width)) x known e = alone_found IsInner IsConstructor first (codes.Sized text width) bytes x known refl e
constructor_by_found value IsInner finds inner IsConstructor findsInner at first bytes (Some codes.EmptyList) x known e = alone_found IsInner IsConstructor first codes.EmptyList bytes x known refl e
constructor_by_found value IsInner finds inner IsConstructor findsInner at first bytes (Some (codes.Nested kind width)) x known e = alone_found IsInner IsConstructor first (codes.Nested kind width) bytes x known refl e
constructor_by_found value IsInner finds inner IsConstructor findsInner at first bytes (Some (codes.Array width)) x known e = alone_found IsInner IsConstructor first (codes.Array width) bytes x known refl e
constructor_by_found value IsInner finds inner IsConstructor findsInner at first bytes (Some codes.Described) x known e = behind_found value IsInner finds inner IsConstructor findsInner at first bytes x known e

pub alone_again : (value : ℕ → List ℕ → Read Seen) (inner : ℕ → List ℕ → Read Constructor) (at : ℕ) (octets rest : List ℕ) (c : Constructor)
    → (is : IsCode octets c) → constructor_by value inner at is.first rest (code_of is.first) ≡ Ok (c, rest)
unfolding constructor_by
alone_again value inner at octets rest c is = rw (is.known, is.primitive, is.is) refl

pub behind_again : (value : ℕ → List ℕ → Read Seen) (IsInner : List ℕ → Part → Type 0) → ReadsAgain value IsInner
    → (inner : ℕ → List ℕ → Read Constructor) (IsConstructor : List ℕ → Constructor → Type 0) → ReadsConstructorAgain inner IsConstructor
    → (at : ℕ) (octets rest : List ℕ) (c : Constructor) → (is : IsTagged IsInner IsConstructor octets c)
    → constructor_by value inner at is.first ((is.descriptor ++ is.inner.octets) ++ rest) (code_of is.first) ≡ Ok (c, rest)
unfolding constructor_by tagged_at
behind_again value IsInner again inner IsConstructor againInner at octets rest c is =
    let read : value at ((is.descriptor ++ is.inner.octets) ++ rest) ≡ Ok (record { octets = is.descriptor; part = is.descriptor_says }, is.inner.octets ++ rest) =
    ap (value at) (append_assoc is.descriptor is.inner.octets rest) ∙ again at is.descriptor (is.inner.octets ++ rest) is.descriptor_says is.descriptor_is in
    rw (is.known, read, againInner at is.inner.octets rest is.inner is.inner_is, is.is) refl

-- ---- elements

with_tag_ok : (tag : Option Tag) (r : Read Seen) (x : Seen × List ℕ) → with_tag tag r ≡ Ok x
    → (y : Seen × List ℕ) × (r ≡ Ok y) × ((record { octets = y.0.octets; part = tagged tag y.0.octets y.0.part }, y.1) ≡ x)
with_tag_ok tag (Ok y) x e = (y, refl, ok_is (record { octets = y.0.octets; part = tagged tag y.0.octets y.0.part }, y.1) x e)
with_tag_ok tag (Err d) x e = absurd cc

pub element_by_found : (behind : ℕ → Code → ℕ → List ℕ → Read Part) (Is : ℕ → Code → List ℕ → Part → Type 0) → ((tags : ℕ) → FindsData (behind tags) (Is tags))
    → (c : Constructor) → Finds (element_by behind c) (IsElementBy Is c)
unfolding element_by
element_by_found behind Is finds c at bytes x e =
    let y = with_tag_ok c.tag (with_octets bytes (behind c.tags c.code at bytes)) x e in
    let found = with_octets_found (Is c.tags c.code) bytes (behind c.tags c.code at bytes) y.0 (λ z h. finds c.tags c.code at bytes z h) y.1 in
    subst (λ (z : Seen × List ℕ). (bytes ≡ z.0.octets ++ z.1) × IsElementBy Is c z.0.octets z.0.part) y.2
    (found.0, record { says = y.0.0.part; behind = found.1; is = refl })

pub element_by_again : (behind : ℕ → Code → ℕ → List ℕ → Read Part) (Is : ℕ → Code → List ℕ → Part → Type 0) → ((tags : ℕ) → ReadsDataAgain (behind tags) (Is tags))
    → (c : Constructor) → ReadsAgain (element_by behind c) (IsElementBy Is c)
unfolding element_by
element_by_again behind Is again c at octets rest part is =
    ap (with_tag c.tag) (ap (with_octets (octets ++ rest)) (again c.tags c.code at octets rest is.says is.behind) ∙ with_octets_again octets rest is.says)
    ∙ ap (λ (p : Part). done {A = Seen × List ℕ} (record { octets = octets; part = p }, rest)) (sym is.is)

-- ---- arrays

-- no octets, and so no elements
abbrev AreNone : ℕ → List ℕ → Part → Type 0
AreNone n octets part = (n ≡ 0) × (octets ≡ []) × (part ≡ Array None 0 [])

some_found : (constructor : ℕ → List ℕ → Read Constructor) (IsConstructor : List ℕ → Constructor → Type 0) → FindsConstructor constructor IsConstructor
    → (element : Constructor → ℕ → List ℕ → Read Seen) (IsElement : Constructor → List ℕ → Part → Type 0) → ((c : Constructor) → Finds (element c) (IsElement c))
    → (n at : ℕ) (bytes : List ℕ) (part : Part)
    → (constructor at bytes >>= λ first. all_used at (items_at (element first.0) n at first.1) >>= λ end. Ok (Array (Some first.0) n first.1)) ≡ Ok part
    → AreElements IsConstructor IsElement n bytes part
some_found constructor IsConstructor findsC element IsElement finds n at bytes part e =
    let a = bind_ok (constructor at bytes) (λ first. all_used at (items_at (element first.0) n at first.1) >>= λ end. Ok (Array (Some first.0) n first.1)) part e in
    let b = bind_ok (all_used at (items_at (element a.0.0) n at a.0.1)) (λ end. Ok (Array (Some a.0.0) n a.0.1)) part a.2 in
    let c = findsC at bytes a.0 a.1 in
    let all = all_used_ok at (items_at (element a.0.0) n at a.0.1) b.0 b.1 in
    let items = items_found (element a.0.0) (IsElement a.0.0) (finds a.0.0) n at a.0.1 [] all in
    let whole : items.0 ≡ a.0.1 = sym (items.1 ∙ append-nil items.0) in
    record {
      constructor = a.0.0;
      elements = a.0.1;
      parts = c.0;
      constructor_is = c.1;
      each = subst (AreItems (IsElement a.0.0) n) whole items.2;
      is = sym (ok_is (Array (Some a.0.0) n a.0.1) part b.2);
    }

elements_found : (constructor : ℕ → List ℕ → Read Constructor) (IsConstructor : List ℕ → Constructor → Type 0) → FindsConstructor constructor IsConstructor
    → (element : Constructor → ℕ → List ℕ → Read Seen) (IsElement : Constructor → List ℕ → Part → Type 0) → ((c : Constructor) → Finds (element c) (IsElement c))
    → (n at : ℕ) (bytes : List ℕ) (part : Part) → elements_at constructor element n at bytes ≡ Ok part → AreNone n bytes part ⊎ AreElements IsConstructor IsElement n bytes part
unfolding elements_at
elements_found constructor IsConstructor findsC element IsElement finds n at bytes part e =
    elim (chosen (eqb n 0 && eqb (length bytes) 0) (done (Array None 0 [])) (constructor at bytes >>= λ first. all_used at (items_at (element first.0) n at first.1) >>= λ end. Ok (Array (Some first.0) n first.1)) (Ok part) e) [
      | inl h ↦ let e = both (eqb n 0) (eqb (length bytes) 0) h.0 in inl (eqb-true n 0 e.0, nil_from_length bytes (eqb-true (length bytes) 0 e.1), sym (ok_is (Array None 0 []) part h.1))
      | inr h ↦ inr (some_found constructor IsConstructor findsC element IsElement finds n at bytes part h.1)
    ]

not_both : (a b : Bool) → b ≡ false → (a && b) ≡ false
not_both true b e = e
not_both false b e = refl

some_again : (constructor : ℕ → List ℕ → Read Constructor) (IsConstructor : List ℕ → Constructor → Type 0) → ReadsConstructorAgain constructor IsConstructor
    → ((octets : List ℕ) (c : Constructor) → IsConstructor octets c → 0 < length octets)
    → (element : Constructor → ℕ → List ℕ → Read Seen) (IsElement : Constructor → List ℕ → Part → Type 0) → ((c : Constructor) → ReadsAgain (element c) (IsElement c))
    → (n at : ℕ) (octets : List ℕ) (part : Part) → AreElements IsConstructor IsElement n octets part → elements_at constructor element n at octets ≡ Ok part
unfolding elements_at
some_again constructor IsConstructor againC longC element IsElement again n at octets part is =
    let long : length octets ≡ length is.constructor.octets + length is.elements = ap length is.parts ∙ length-append is.constructor.octets is.elements in
    let there : eqb (length octets) 0 ≡ false = ne_eqb (length octets) 0 (λ e. absurd (omega (arith, e, long, longC is.constructor.octets is.constructor is.constructor_is))) in
    let read : constructor at octets ≡ Ok (is.constructor, is.elements) = ap (constructor at) is.parts ∙ againC at is.constructor.octets is.elements is.constructor is.constructor_is in
    let items : items_at (element is.constructor) n at is.elements ≡ Ok [] =
    ap (items_at (element is.constructor) n at) (sym (append-nil is.elements)) ∙ items_again (element is.constructor) (IsElement is.constructor) (again is.constructor) n at is.elements [] is.each in
    rw (not_both (eqb n 0) (eqb (length octets) 0) there, read, items, is.is) refl

none_again : (constructor : ℕ → List ℕ → Read Constructor) (element : Constructor → ℕ → List ℕ → Read Seen) (n at : ℕ) (octets : List ℕ) (part : Part)
    → AreNone n octets part → elements_at constructor element n at octets ≡ Ok part
unfolding elements_at
none_again constructor element n at octets part is = rw (is.0, is.1, is.2) refl

in_array_ok : {A : Type 0} (at : ℕ) (r : Result A ValueFault) (x : A) → in_array at r ≡ Ok x → r ≡ Ok x
in_array_ok at (Ok y) x e = cc
in_array_ok at (Err d) x e = absurd cc

pub array_found : (constructor : ℕ → List ℕ → Read Constructor) (IsConstructor : List ℕ → Constructor → Type 0) → FindsConstructor constructor IsConstructor
    → (element : Constructor → ℕ → List ℕ → Read Seen) (IsElement : Constructor → List ℕ → Part → Type 0) → ((c : Constructor) → Finds (element c) (IsElement c))
    → (width : SizeWidth) (at : ℕ) (bytes : List ℕ) (x : Part × List ℕ) → array_at constructor element width at bytes ≡ Ok x → Takes (IsArray IsConstructor IsElement width) bytes x
unfolding array_at
array_found constructor IsConstructor findsC element IsElement finds width at bytes x e =
    let a = bind_ok (counted_at width at bytes) (λ counted. in_array at (elements_at constructor element counted.0.0 at counted.0.1) >>= λ array. Ok (array, counted.1)) x e in
    let b = bind_ok (in_array at (elements_at constructor element a.0.0.0 at a.0.0.1)) (λ array. Ok (array, a.0.1)) x a.2 in
    let counted = counted_found width at bytes a.0 a.1 in
    let elements = elements_found constructor IsConstructor findsC element IsElement finds a.0.0.0 at a.0.0.1 b.0 (in_array_ok at (elements_at constructor element a.0.0.0 at a.0.0.1) b.0 b.1) in
    let array : IsArray IsConstructor IsElement width counted.front b.0 = record { n = a.0.0.0; body = a.0.0.1; counted = counted.is; elements = elements } in
    subst (Takes (IsArray IsConstructor IsElement width) bytes) (ok_is (b.0, a.0.1) x b.2) (record { front = counted.front; parts = counted.parts; is = array })

pub array_again : (constructor : ℕ → List ℕ → Read Constructor) (IsConstructor : List ℕ → Constructor → Type 0) → ReadsConstructorAgain constructor IsConstructor
    → ((octets : List ℕ) (c : Constructor) → IsConstructor octets c → 0 < length octets)
    → (element : Constructor → ℕ → List ℕ → Read Seen) (IsElement : Constructor → List ℕ → Part → Type 0) → ((c : Constructor) → ReadsAgain (element c) (IsElement c))
    → (width : SizeWidth) (at : ℕ) (octets rest : List ℕ) (part : Part) → IsArray IsConstructor IsElement width octets part → array_at constructor element width at (octets ++ rest) ≡ Ok (part, rest)
unfolding array_at
array_again constructor IsConstructor againC longC element IsElement again width at octets rest part is =
    let read : elements_at constructor element is.n at is.body ≡ Ok part = elim is.elements [
      | inl h ↦ none_again constructor element is.n at is.body part h
      | inr h ↦ some_again constructor IsConstructor againC longC element IsElement again is.n at is.body part h
    ] in
    rw (counted_again width at is.n octets is.body rest is.counted, read) refl
