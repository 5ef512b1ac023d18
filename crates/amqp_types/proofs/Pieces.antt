-- The steps of reading: what each reads is in the grammar, and what is in the grammar it reads, by what is so of the values in it.
use Rattle.std.proofs.Common.{◌≡◌, ℕ, zero, suc, ◌+◌, ◌-◌, ◌%◌, ◌<◌, false, cond, List, [], ◌∷◌, ◌++◌, length, Option, Some, None, Result, Ok, Err, refl, sym, ap, subst, ◌∙◌, append_assoc, arith}
use Rattle.std.proofs.Math.Nat.{mod-lt}
use Rattle.std.proofs.lemmas.Bool.{eqb-false, ne_eqb}
use Rattle.std.proofs.lemmas.List.{take_at, length-append, append-nil}
use Rattle.amqp_types.specs.declared.fault.ValueFault.{ValueFault}
use Rattle.amqp_types.specs.declared.fault.ValueFaultKind.TheVariants.{BadText, OddMap}
use Rattle.amqp_types.specs.declared.code.Scalar.{Scalar}
use Rattle.amqp_types.specs.declared.code.Text.{Text}
use Rattle.amqp_types.specs.declared.code.Kind.{Kind}
use Rattle.amqp_types.specs.declared.code.Kind.TheVariants as kinds
use Rattle.amqp_types.specs.declared.code.SizeWidth.{SizeWidth}
use Rattle.amqp_types.specs.declared.code.Code.{Code}
use Rattle.amqp_types.specs.Codes.{code_of, width_of, size_len}
use Rattle.amqp_types.specs.Part.{Part, Sized, Nested, Described, Seen}
use Rattle.amqp_types.specs.Reading.{◌>>=◌, Read, fault, placed, scalar_of, is_text, octets_at, sized_at, counted_at, fixed_at, text_at, items_at, all_used, is_odd, nested_at, described_at, coded_at, value_by, in_front, with_octets, seen_by}
use Rattle.amqp_types.specs.Grammar.{IsSized, IsCounted, IsScalar, IsText, AreItems, ArePaired, IsNested, IsDescribed, IsCoded}
use Rattle.amqp_types.proofs.Steps.{bind_ok, guard_ok, guard_passed, ok_is, done, Takes}
use Rattle.amqp_types.proofs.Octets.{octets_found, octets_again, sized_found, sized_again, counted_found, counted_again}
use Rattle.amqp_types.proofs.Scalars.{scalar_found, scalar_again}
use Rattle.amqp_types.proofs.Texts.{text_found, text_again}

-- the reader of a value reads only what is one
abbrev pub Finds : (ℕ → List ℕ → Read Seen) → (List ℕ → Part → Type 0) → Type 0
Finds read Is = (at : ℕ) (bytes : List ℕ) (x : Seen × List ℕ) → read at bytes ≡ Ok x → (bytes ≡ x.0.octets ++ x.1) × Is x.0.octets x.0.part

-- the reader of a value reads each that is one
abbrev pub ReadsAgain : (ℕ → List ℕ → Read Seen) → (List ℕ → Part → Type 0) → Type 0
ReadsAgain read Is = (at : ℕ) (octets rest : List ℕ) (part : Part) → Is octets part → read at (octets ++ rest) ≡ Ok (record { octets = octets; part = part }, rest)

-- the reader of what is behind a code reads only what belongs there
abbrev pub FindsData : (Code → ℕ → List ℕ → Read Part) → (Code → List ℕ → Part → Type 0) → Type 0
FindsData inner Is = (code : Code) (at : ℕ) (bytes : List ℕ) (x : Part × List ℕ) → inner code at bytes ≡ Ok x → Takes (Is code) bytes x

-- the reader of what is behind a code reads each that belongs there
abbrev pub ReadsDataAgain : (Code → ℕ → List ℕ → Read Part) → (Code → List ℕ → Part → Type 0) → Type 0
ReadsDataAgain inner Is = (code : Code) (at : ℕ) (octets rest : List ℕ) (part : Part) → Is code octets part → inner code at (octets ++ rest) ≡ Ok (part, rest)

-- ---- types of fixed width, and text

placed_ok : {A : Type 0} (at : ℕ) (r : Result A _) (x : A) → placed at r ≡ Ok x → r ≡ Ok x
placed_ok at (Ok y) x e = cc
placed_ok at (Err kind) x e = absurd cc

pub fixed_found : (scalar : Scalar) (at : ℕ) (bytes : List ℕ) (x : Part × List ℕ) → fixed_at scalar at bytes ≡ Ok x → Takes (IsScalar scalar) bytes x
unfolding fixed_at
fixed_found scalar at bytes x e =
    let a = bind_ok (octets_at (width_of scalar) at bytes) (λ octets. placed at (scalar_of scalar octets.0) >>= λ part. Ok (part, octets.1)) x e in
    let b = bind_ok (placed at (scalar_of scalar a.0.0)) (λ part. Ok (part, a.0.1)) x a.2 in
    let cut = octets_found (width_of scalar) at bytes a.0 a.1 in
    let is = scalar_found scalar a.0.0 b.0 cut.len (placed_ok at (scalar_of scalar a.0.0) b.0 b.1) in
    subst (Takes (IsScalar scalar) bytes) (ok_is (b.0, a.0.1) x b.2) (record { front = a.0.0; parts = cut.parts; is = is })

pub fixed_again : (scalar : Scalar) (at : ℕ) (octets rest : List ℕ) (part : Part) → IsScalar scalar octets part → fixed_at scalar at (octets ++ rest) ≡ Ok (part, rest)
unfolding fixed_at
fixed_again scalar at octets rest part is =
    let read = scalar_again scalar octets part is in
    rw (octets_again (width_of scalar) at octets rest read.len, read.says) refl

-- the data of a binary, a string or a symbol
abbrev IsTextData : Text → SizeWidth → List ℕ → Part → Type 0
IsTextData text width octets part = (content : List ℕ) × IsSized width octets content × IsText text content × (part ≡ Sized text content)

pub text_data_found : (text : Text) (width : SizeWidth) (at : ℕ) (bytes : List ℕ) (x : Part × List ℕ) → text_at text width at bytes ≡ Ok x → Takes (IsTextData text width) bytes x
unfolding text_at
text_data_found text width at bytes x e =
    let a = bind_ok (sized_at width at bytes) (λ octets. cond (is_text text octets.0) (Ok (Sized text octets.0, octets.1)) (fault BadText at)) x e in
    let g = guard_passed (is_text text a.0.0) (record { kind = BadText; at = at }) (Ok (Sized text a.0.0, a.0.1)) x a.2 in
    let sized = sized_found width at bytes a.0 a.1 in
    let is : IsTextData text width sized.front (Sized text a.0.0) = (a.0.0, sized.is, text_found text a.0.0 g.0, refl) in
    subst (Takes (IsTextData text width) bytes) (ok_is (Sized text a.0.0, a.0.1) x g.1) (record { front = sized.front; parts = sized.parts; is = is })

pub text_data_again : (text : Text) (width : SizeWidth) (at : ℕ) (octets rest : List ℕ) (part : Part) → IsTextData text width octets part → text_at text width at (octets ++ rest) ≡ Ok (part, rest)
unfolding text_at
text_data_again text width at octets rest part is =
    rw (sized_again width at octets is.0 rest is.1, text_again text is.0 is.2, is.3) refl

-- ---- items

pub items_found : (item : ℕ → List ℕ → Read Seen) (Is : List ℕ → Part → Type 0) → Finds item Is
    → (n at : ℕ) (bytes rest : List ℕ) → items_at item n at bytes ≡ Ok rest → (front : List ℕ) × (bytes ≡ front ++ rest) × AreItems Is n front
unfolding items_at
items_found item Is finds zero at bytes rest e = ([], ok_is bytes rest e, refl)
items_found item Is finds (suc n) at bytes rest e =
    let a = bind_ok (item at bytes) (λ first. items_at item n (at + length first.0.octets) first.1) rest e in
    let first = finds at bytes a.0 a.1 in
    let others = items_found item Is finds n (at + length a.0.0.octets) a.0.1 rest a.2 in
    let whole : bytes ≡ (a.0.0.octets ++ others.0) ++ rest = first.0 ∙ ap (λ (t : List ℕ). a.0.0.octets ++ t) others.1 ∙ sym (append_assoc a.0.0.octets others.0 rest) in
    (a.0.0.octets ++ others.0, whole, (a.0.0.octets, others.0, a.0.0.part, refl, first.1, others.2))

pub items_again : (item : ℕ → List ℕ → Read Seen) (Is : List ℕ → Part → Type 0) → ReadsAgain item Is
    → (n at : ℕ) (octets rest : List ℕ) → AreItems Is n octets → items_at item n at (octets ++ rest) ≡ Ok rest
unfolding items_at
items_again item Is again zero at octets rest e = ap (λ (t : List ℕ). done (t ++ rest)) e
items_again item Is again (suc n) at octets rest is =
    let first = is.0 in
    let others = is.1 in
    let regrouped : octets ++ rest ≡ first ++ (others ++ rest) = ap (λ (t : List ℕ). t ++ rest) is.3 ∙ append_assoc first others rest in
    ap (items_at item (suc n) at) regrouped
    ∙ rw (again at first (others ++ rest) is.2 is.4) (items_again item Is again n (at + length first) others rest is.5)

pub all_used_ok : (at : ℕ) (r : Result (List ℕ) ValueFault) (x : List ℕ) → all_used at r ≡ Ok x → r ≡ Ok []
all_used_ok at (Ok []) x e = refl
all_used_ok at (Ok (b ∷ bytes)) x e = absurd cc
all_used_ok at (Err d) x e = absurd cc

paired_found : (kind : Kind) (n : ℕ) → is_odd kind n ≡ false → ArePaired kind n
paired_found kinds.List n e = tt
paired_found kinds.Map n e =
    let other : (n % 2 ≡ 1 → ⊥) = eqb-false (n % 2) 1 e in
    let few : n % 2 < 2 = mod-lt n (omega arith) in
    no_other (n % 2) few other
  where
    no_other : (k : ℕ) → k < 2 → (k ≡ 1 → ⊥) → k ≡ 0
    no_other zero few other = refl
    no_other (suc zero) few other = absurd (other refl)
    no_other (suc (suc k)) few other = absurd (omega arith)

paired_again : (kind : Kind) (n : ℕ) → ArePaired kind n → is_odd kind n ≡ false
paired_again kinds.List n h = refl
paired_again kinds.Map n h = ne_eqb (n % 2) 1 (λ e. absurd (omega (arith, h, e)))

nested_from : (item : ℕ → List ℕ → Read Seen) (Is : List ℕ → Part → Type 0) → Finds item Is
    → (kind : Kind) (width : SizeWidth) (place : ℕ) (bytes : List ℕ) (n : ℕ) (body rest : List ℕ) (x : Part × List ℕ)
    → Takes {A = ℕ × List ℕ} (λ octets c. IsCounted width octets c.0 c.1) bytes ((n, body), rest) → ArePaired kind n → items_at item n place body ≡ Ok [] → (Nested kind n body, rest) ≡ x
    → Takes (IsNested Is kind width) bytes x
nested_from item Is finds kind width place bytes n body rest x counted paired all is =
    let items = items_found item Is finds n place body [] all in
    let whole : items.0 ≡ body = sym (items.1 ∙ append-nil items.0) in
    let nested : IsNested Is kind width counted.front (Nested kind n body) = record { n = n; body = body; counted = counted.is; paired = paired; items = subst (AreItems Is n) whole items.2; is = refl } in
    subst (Takes (IsNested Is kind width) bytes) is (record { front = counted.front; parts = counted.parts; is = nested })

pub nested_found : (item : ℕ → List ℕ → Read Seen) (Is : List ℕ → Part → Type 0) → Finds item Is
    → (kind : Kind) (width : SizeWidth) (at : ℕ) (bytes : List ℕ) (x : Part × List ℕ) → nested_at item kind width at bytes ≡ Ok x → Takes (IsNested Is kind width) bytes x
unfolding nested_at
nested_found item Is finds kind width at bytes x e =
    let others : (ℕ × List ℕ) × List ℕ → Read Part = λ counted. all_used at (items_at item counted.0.0 (at + 1 + size_len width + size_len width) counted.0.1) >>= λ end. Ok (Nested kind counted.0.0 counted.0.1, counted.1) in
    let a = bind_ok (counted_at width at bytes) (λ counted. cond (is_odd kind counted.0.0) (fault OddMap at) (others counted)) x e in
    let g = guard_ok (is_odd kind a.0.0.0) (record { kind = OddMap; at = at }) (others a.0) x a.2 in
    let b = bind_ok (all_used at (items_at item a.0.0.0 (at + 1 + size_len width + size_len width) a.0.0.1)) (λ end. Ok (Nested kind a.0.0.0 a.0.0.1, a.0.1)) x g.1 in
    let counted = counted_found width at bytes a.0 a.1 in
    nested_from item Is finds kind width (at + 1 + size_len width + size_len width) bytes a.0.0.0 a.0.0.1 a.0.1 x counted (paired_found kind a.0.0.0 g.0) (all_used_ok at (items_at item a.0.0.0 (at + 1 + size_len width + size_len width) a.0.0.1) b.0 b.1) (ok_is (Nested kind a.0.0.0 a.0.0.1, a.0.1) x b.2)

pub nested_again : (item : ℕ → List ℕ → Read Seen) (Is : List ℕ → Part → Type 0) → ReadsAgain item Is
    → (kind : Kind) (width : SizeWidth) (at : ℕ) (octets rest : List ℕ) (part : Part) → IsNested Is kind width octets part → nested_at item kind width at (octets ++ rest) ≡ Ok (part, rest)
unfolding nested_at
nested_again item Is again kind width at octets rest part is =
    let items : items_at item is.n (at + 1 + size_len width + size_len width) is.body ≡ Ok [] =
    ap (items_at item is.n (at + 1 + size_len width + size_len width)) (sym (append-nil is.body)) ∙ items_again item Is again is.n (at + 1 + size_len width + size_len width) is.body [] is.items in
    rw (counted_again width at is.n octets is.body rest is.counted, paired_again kind is.n is.paired, items, is.is) refl

pub described_found : (value : ℕ → List ℕ → Read Seen) (Is : List ℕ → Part → Type 0) → Finds value Is
    → (at : ℕ) (bytes : List ℕ) (x : Part × List ℕ) → described_at value at bytes ≡ Ok x → Takes (IsDescribed Is) bytes x
unfolding described_at
described_found value Is finds at bytes x e =
    let a = bind_ok (value (at + 1) bytes) (λ descriptor. value (at + 1 + length descriptor.0.octets) descriptor.1 >>= λ described. Ok (Described descriptor.0.octets described.0.octets, described.1)) x e in
    let b = bind_ok (value (at + 1 + length a.0.0.octets) a.0.1) (λ described. Ok (Described a.0.0.octets described.0.octets, described.1)) x a.2 in
    let descriptor = finds (at + 1) bytes a.0 a.1 in
    let described = finds (at + 1 + length a.0.0.octets) a.0.1 b.0 b.1 in
    let whole : bytes ≡ (a.0.0.octets ++ b.0.0.octets) ++ b.0.1 = descriptor.0 ∙ ap (λ (t : List ℕ). a.0.0.octets ++ t) described.0 ∙ sym (append_assoc a.0.0.octets b.0.0.octets b.0.1) in
    let is : IsDescribed Is (a.0.0.octets ++ b.0.0.octets) (Described a.0.0.octets b.0.0.octets) = record {
      descriptor = a.0.0.octets;
      described = b.0.0.octets;
      parts = refl;
      descriptor_says = a.0.0.part;
      descriptor_is = descriptor.1;
      described_says = b.0.0.part;
      described_is = described.1;
      is = refl;
    } in
    subst (Takes (IsDescribed Is) bytes) (ok_is (Described a.0.0.octets b.0.0.octets, b.0.1) x b.2) (record { front = a.0.0.octets ++ b.0.0.octets; parts = whole; is = is })

pub described_again : (value : ℕ → List ℕ → Read Seen) (Is : List ℕ → Part → Type 0) → ReadsAgain value Is
    → (at : ℕ) (octets rest : List ℕ) (part : Part) → IsDescribed Is octets part → described_at value at (octets ++ rest) ≡ Ok (part, rest)
unfolding described_at
described_again value Is again at octets rest part is =
    let regrouped : octets ++ rest ≡ is.descriptor ++ (is.described ++ rest) = ap (λ (t : List ℕ). t ++ rest) is.parts ∙ append_assoc is.descriptor is.described rest in
    ap (described_at value at) regrouped
    ∙ rw (again (at + 1) is.descriptor (is.described ++ rest) is.descriptor_says is.descriptor_is, again (at + 1 + length is.descriptor) is.described rest is.described_says is.described_is, is.is) refl

-- ---- a value

-- the octets in front of a rest are those that it follows
pub in_front_is : (front rest : List ℕ) → in_front (front ++ rest) rest ≡ front
in_front_is front rest = take_at front rest (length (front ++ rest) - length rest) (omega (arith, length-append front rest))

pub with_octets_found : (Is : List ℕ → Part → Type 0) (bytes : List ℕ) (r : Read Part) (x : Seen × List ℕ) → ((y : Part × List ℕ) → r ≡ Ok y → Takes Is bytes y)
    → with_octets bytes r ≡ Ok x → (bytes ≡ x.0.octets ++ x.1) × Is x.0.octets x.0.part
with_octets_found Is bytes (Ok y) x found e =
    let takes = found y refl in
    let front : in_front bytes y.1 ≡ takes.front = ap (λ (t : List ℕ). in_front t y.1) takes.parts ∙ in_front_is takes.front y.1 in
    let P : Seen × List ℕ → Type 0 = λ z. (bytes ≡ z.0.octets ++ z.1) × Is z.0.octets z.0.part in
    let here : P (record { octets = in_front bytes y.1; part = y.0 }, y.1) = (takes.parts ∙ ap (λ (t : List ℕ). t ++ y.1) (sym front), subst (λ (t : List ℕ). Is t y.0) (sym front) takes.is) in
    subst P (ok_is (record { octets = in_front bytes y.1; part = y.0 }, y.1) x e) here
with_octets_found Is bytes (Err d) x found e = absurd cc

pub with_octets_again : (octets rest : List ℕ) (part : Part) → with_octets (octets ++ rest) (Ok (part, rest)) ≡ Ok (record { octets = octets; part = part }, rest)
with_octets_again octets rest part = ap (λ (t : List ℕ). done {A = Seen × List ℕ} (record { octets = t; part = part }, rest)) (in_front_is octets rest)

coded_found : (inner : Code → ℕ → List ℕ → Read Part) (Is : Code → List ℕ → Part → Type 0) → FindsData inner Is
    → (at b : ℕ) (bytes : List ℕ) (code : Option Code) (x : Part × List ℕ) → code_of b ≡ code → coded_at inner at bytes code ≡ Ok x → Takes (IsCoded Is) (b ∷ bytes) x
unfolding coded_at
coded_found inner Is finds at b bytes None x is e = absurd cc
coded_found inner Is finds at b bytes (Some code) x is e =
    let behind = finds code at bytes x e in
    record { front = b ∷ behind.front; parts = ap (λ (t : List ℕ). b ∷ t) behind.parts; is = (code, is, behind.is) }

value_found : (inner : Code → ℕ → List ℕ → Read Part) (Is : Code → List ℕ → Part → Type 0) → FindsData inner Is
    → (levels at : ℕ) (bytes : List ℕ) (x : Part × List ℕ) → value_by inner levels at bytes ≡ Ok x → Takes (IsCoded Is) bytes x
unfolding value_by
value_found inner Is finds levels at [] x e = absurd cc
value_found inner Is finds zero at (b ∷ bytes) x e = absurd cc
value_found inner Is finds (suc levels) at (b ∷ bytes) x e = coded_found inner Is finds at b bytes (code_of b) x refl e

pub seen_found_by : (inner : Code → ℕ → List ℕ → Read Part) (Is : Code → List ℕ → Part → Type 0) → FindsData inner Is → (levels : ℕ) → Finds (seen_by inner levels) (IsCoded Is)
unfolding seen_by
seen_found_by inner Is finds levels at bytes x e =
    with_octets_found (IsCoded Is) bytes (value_by inner levels at bytes) x (λ y h. value_found inner Is finds levels at bytes y h) e

value_again : (inner : Code → ℕ → List ℕ → Read Part) (Is : Code → List ℕ → Part → Type 0) → ReadsDataAgain inner Is
    → (levels at : ℕ) (octets rest : List ℕ) (part : Part) → IsCoded Is octets part → value_by inner (suc levels) at (octets ++ rest) ≡ Ok (part, rest)
unfolding value_by coded_at
value_again inner Is again levels at [] rest part is = absurd is
value_again inner Is again levels at (b ∷ octets) rest part is = rw is.1 (again is.0 at octets rest part is.2)

pub seen_again_by : (inner : Code → ℕ → List ℕ → Read Part) (Is : Code → List ℕ → Part → Type 0) → ReadsDataAgain inner Is → (levels : ℕ) → ReadsAgain (seen_by inner (suc levels)) (IsCoded Is)
unfolding seen_by
seen_again_by inner Is again levels at octets rest part is =
    ap (with_octets (octets ++ rest)) (value_again inner Is again levels at octets rest part is) ∙ with_octets_again octets rest part
