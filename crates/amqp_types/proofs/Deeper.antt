-- What is a value where few levels are left is one where more are.
use Rattle.std.proofs.Common.{◌≡◌, ℕ, zero, suc, ◌-◌, ◌≤◌, ◌<◌, List, [], ◌∷◌, Option, Some, None, inl, inr, subst, arith}
use Rattle.amqp_types.specs.declared.code.Kind.{Kind}
use Rattle.amqp_types.specs.declared.code.SizeWidth.{SizeWidth}
use Rattle.amqp_types.specs.declared.code.Code.{Code}
use Rattle.amqp_types.specs.declared.code.Code.TheVariants as codes
use Rattle.amqp_types.specs.Part.{Part, Constructor}
use Rattle.amqp_types.specs.Grammar.{AreItems, IsNested, IsArray, IsDescribed, IsCoded, IsTagged, IsElementBy, IsData, IsConstructor, IsValue, IsElement, IsItem}

-- each that is so is also otherwise
abbrev Follows : (List ℕ → Part → Type 0) → (List ℕ → Part → Type 0) → Type 0
Follows Is Also = (octets : List ℕ) (part : Part) → Is octets part → Also octets part

-- the same of constructors
abbrev ConstructorFollows : (List ℕ → Constructor → Type 0) → (List ℕ → Constructor → Type 0) → Type 0
ConstructorFollows Is Also = (octets : List ℕ) (c : Constructor) → Is octets c → Also octets c

items_deeper : (Is Also : List ℕ → Part → Type 0) → Follows Is Also → (n : ℕ) (octets : List ℕ) → AreItems Is n octets → AreItems Also n octets
items_deeper Is Also more zero octets are = are
items_deeper Is Also more (suc n) octets are = (are.0, are.1, are.2, are.3, more are.0 are.2 are.4, items_deeper Is Also more n are.1 are.5)

nested_deeper : (Is Also : List ℕ → Part → Type 0) → Follows Is Also → (kind : Kind) (width : SizeWidth) (octets : List ℕ) (part : Part) → IsNested Is kind width octets part → IsNested Also kind width octets part
nested_deeper Is Also more kind width octets part is =
    record { n = is.n; body = is.body; counted = is.counted; paired = is.paired; items = items_deeper Is Also more is.n is.body is.items; is = is.is }

described_deeper : (Is Also : List ℕ → Part → Type 0) → Follows Is Also → (octets : List ℕ) (part : Part) → IsDescribed Is octets part → IsDescribed Also octets part
described_deeper Is Also more octets part is = record {
  descriptor = is.descriptor;
  described = is.described;
  parts = is.parts;
  descriptor_says = is.descriptor_says;
  descriptor_is = more is.descriptor is.descriptor_says is.descriptor_is;
  described_says = is.described_says;
  described_is = more is.described is.described_says is.described_is;
  is = is.is;
}

tagged_deeper : (Is Also : List ℕ → Part → Type 0) → Follows Is Also → (IsC AlsoC : List ℕ → Constructor → Type 0) → ConstructorFollows IsC AlsoC
    → (octets : List ℕ) (c : Constructor) → IsTagged Is IsC octets c → IsTagged Also AlsoC octets c
tagged_deeper Is Also more IsC AlsoC moreC octets c is = record {
  first = is.first;
  descriptor = is.descriptor;
  descriptor_says = is.descriptor_says;
  inner = is.inner;
  known = is.known;
  descriptor_is = more is.descriptor is.descriptor_says is.descriptor_is;
  inner_is = moreC is.inner.octets is.inner is.inner_is;
  parts = is.parts;
  is = is.is;
}

element_by_deeper : (Is Also : ℕ → Code → List ℕ → Part → Type 0) → ((tags : ℕ) (code : Code) → Follows (Is tags code) (Also tags code))
    → (c : Constructor) → Follows (IsElementBy Is c) (IsElementBy Also c)
element_by_deeper Is Also more c octets part is = record { says = is.says; behind = more c.tags c.code octets is.says is.behind; is = is.is }

array_deeper : (IsC AlsoC : List ℕ → Constructor → Type 0) → ConstructorFollows IsC AlsoC → (IsE AlsoE : Constructor → List ℕ → Part → Type 0) → ((c : Constructor) → Follows (IsE c) (AlsoE c))
    → (width : SizeWidth) (octets : List ℕ) (part : Part) → IsArray IsC IsE width octets part → IsArray AlsoC AlsoE width octets part
array_deeper IsC AlsoC moreC IsE AlsoE moreE width octets part is = record {
  n = is.n;
  body = is.body;
  counted = is.counted;
  elements = elim is.elements [
    | inl h ↦ inl h
    | inr h ↦ inr (record {
      constructor = h.constructor;
      elements = h.elements;
      parts = h.parts;
      constructor_is = moreC h.constructor.octets h.constructor h.constructor_is;
      each = items_deeper (IsE h.constructor) (AlsoE h.constructor) (moreE h.constructor) is.n h.elements h.each;
      is = h.is;
    })
  ];
}

coded_deeper : (Is Also : Code → List ℕ → Part → Type 0) → ((code : Code) → Follows (Is code) (Also code)) → Follows (IsCoded Is) (IsCoded Also)
coded_deeper Is Also more [] part is = is
coded_deeper Is Also more (b ∷ octets) part is = (is.0, is.1, more is.0 octets part is.2)

mutual
  unfolding IsData IsConstructor

  data_deeper : (few many : ℕ) → few ≤ many → (tags : ℕ) (code : Code) → Follows (IsData few tags code) (IsData many tags code)
  data_deeper zero many le tags code octets part is = absurd is
  data_deeper (suc few) zero le tags code octets part is = absurd (omega arith)
  data_deeper (suc few) (suc many) le zero (codes.Fixed scalar) octets part is = is
  data_deeper (suc few) (suc many) le zero (codes.Sized text width) octets part is = is
  data_deeper (suc few) (suc many) le zero codes.EmptyList octets part is = is
  data_deeper (suc few) (suc many) le zero (codes.Nested kind width) octets part is =
      let below : few ≤ many = omega arith in
      nested_deeper (IsCoded (IsData few zero)) (IsCoded (IsData many zero)) (coded_deeper (IsData few zero) (IsData many zero) (data_deeper few many below zero)) kind width octets part is
  data_deeper (suc few) (suc many) le zero (codes.Array width) octets part is =
      let below : few ≤ many = omega arith in
      array_deeper (IsConstructor few) (IsConstructor many) (constructor_deeper few many below) (IsElementBy (IsData few)) (IsElementBy (IsData many)) (element_by_deeper (IsData few) (IsData many) (data_deeper few many below)) width octets part is
  data_deeper (suc few) (suc many) le zero codes.Described octets part is =
      let below : few ≤ many = omega arith in
      described_deeper (IsCoded (IsData few zero)) (IsCoded (IsData many zero)) (coded_deeper (IsData few zero) (IsData many zero) (data_deeper few many below zero)) octets part is
  data_deeper (suc few) (suc many) le (suc tags) code octets part is = data_deeper few many (omega arith) tags code octets part is

  pub constructor_deeper : (few many : ℕ) → few ≤ many → (octets : List ℕ) (c : Constructor) → IsConstructor few octets c → IsConstructor many octets c
  constructor_deeper zero many le octets c is = absurd is
  constructor_deeper (suc few) zero le octets c is = absurd (omega arith)
  constructor_deeper (suc few) (suc many) le octets c (inl is) = inl is
  constructor_deeper (suc few) (suc many) le octets c (inr is) =
      let below : few ≤ many = omega arith in
      inr (tagged_deeper (IsCoded (IsData few zero)) (IsCoded (IsData many zero)) (coded_deeper (IsData few zero) (IsData many zero) (data_deeper few many below zero)) (IsConstructor few) (IsConstructor many) (constructor_deeper few many below) octets c is)

pub value_deeper : (few many : ℕ) (octets : List ℕ) (part : Part) → few ≤ many → IsValue few octets part → IsValue many octets part
unfolding IsValue
value_deeper few many octets part le is = coded_deeper (IsData few zero) (IsData many zero) (data_deeper few many le zero) octets part is

pub element_deeper : (few many : ℕ) (c : Constructor) (octets : List ℕ) (part : Part) → few ≤ many → IsElement few c octets part → IsElement many c octets part
unfolding IsElement
element_deeper few many c octets part le is = element_by_deeper (IsData few) (IsData many) (data_deeper few many le) c octets part is

item_deeper : (few many : ℕ) (form : Option Constructor) → few ≤ many → Follows (IsItem few form) (IsItem many form)
item_deeper few many None le octets part is = value_deeper few many octets part le is
item_deeper few many (Some c) le octets part is = element_deeper few many c octets part le is

pub values_deeper : (few many : ℕ) (form : Option Constructor) (n : ℕ) (octets : List ℕ) → few ≤ many → AreItems (IsItem few form) n octets → AreItems (IsItem many form) n octets
values_deeper few many form n octets le are = items_deeper (IsItem few form) (IsItem many form) (item_deeper few many form le) n octets are

-- data behind some descriptors and a code is that behind the code, where as many levels fewer are left
pub data_shallower : (levels tags : ℕ) (code : Code) (octets : List ℕ) (part : Part) → tags < levels → IsData (levels - tags) zero code octets part → IsData levels tags code octets part
unfolding IsData
data_shallower levels zero code octets part lt is =
    let all : levels - zero ≡ levels = omega arith in
    subst (λ (n : ℕ). IsData n zero code octets part) all is
data_shallower zero (suc tags) code octets part lt is = absurd (omega arith)
data_shallower (suc levels) (suc tags) code octets part lt is =
    let same : suc levels - suc tags ≡ levels - tags = omega arith in
    data_shallower levels tags code octets part (omega arith) (subst (λ (n : ℕ). IsData n zero code octets part) same is)

-- data behind a constructor is data behind the constructor without its first descriptor, where more levels are left
pub data_under : (levels tags many : ℕ) (code : Code) (octets : List ℕ) (part : Part) → tags < levels → levels ≤ many
    → IsData (levels - tags) zero code octets part → IsData many (tags - 1) code octets part
data_under levels zero many code octets part lt le is =
    let all : levels - zero ≡ levels = omega arith in
    data_deeper levels many le zero code octets part (subst (λ (n : ℕ). IsData n zero code octets part) all is)
data_under levels (suc tags) many code octets part lt le is =
    let same : levels - suc tags ≡ (levels - 1) - tags = omega arith in
    let here : IsData (levels - 1) tags code octets part = data_shallower (levels - 1) tags code octets part (omega (arith, lt)) (subst (λ (n : ℕ). IsData n zero code octets part) same is) in
    let fewer : tags ≡ suc tags - 1 = omega arith in
    subst (λ (t : ℕ). IsData many t code octets part) fewer (data_deeper (levels - 1) many (omega (arith, le)) tags code octets part here)
