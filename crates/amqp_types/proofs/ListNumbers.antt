-- A list that a number of one octet describes, by the first octets of the two.
use Rattle.std.proofs.Common.{◌≡◌, rules, ℕ, ◌<◌, List, [], ◌∷◌, ◌++◌, length, true, Option, Some, None, Ok, refl, sym, ap, subst, ◌∙◌, inl, inr, is_some, slice_index_or, ◌⊎◌, option_map, arith}
use Rattle.std.specs.Option.{option_zip}
use Rattle.std.proofs.lemmas.List.{append-nil, nil_from_length}
use Rattle.amqp_types.specs.declared.code.Kind.TheVariants as kinds
use Rattle.amqp_types.specs.declared.code.SizeWidth.{SizeWidth}
use Rattle.amqp_types.specs.declared.code.Code.{Code}
use Rattle.amqp_types.specs.declared.code.Code.TheVariants as codes
use Rattle.amqp_types.specs.Codes.{code_of}
use Rattle.amqp_types.specs.Part.{Part, Ulong, Described, Seen}
use Rattle.amqp_types.specs.Reading.{Read, seen_at}
use Rattle.amqp_types.specs.Items.{is_value, seen_of, is_used_up}
use Rattle.amqp_types.specs.Listed.{BeginsList, IsNumbered}
use Rattle.amqp_types.specs.Typed.{list_in, ulong_in}
use Rattle.amqp_types.specs.Grammar.{IsValue, IsData}
use Rattle.flow_counts.specs.declared.profile.TheConstants.{MAX_DEPTH}
use Rattle.amqp_types.proofs.Nested.{value_is}
use Rattle.amqp_types.proofs.ListedValues.{number_is}
use Rattle.amqp_types.proofs.ReadBefore.{read_is, known_whole}
use Rattle.amqp_types.proofs.Values.{seen_found}

-- what belongs behind the code of a list is one
empty_is : (octets : List ℕ) (part : Part) → IsData MAX_DEPTH 0 codes.EmptyList octets part → is_some (list_in part) ≡ true
unfolding IsData
empty_is octets part is = rw is.1 refl

nested_is : (width : SizeWidth) (octets : List ℕ) (part : Part) → IsData MAX_DEPTH 0 (codes.Nested kinds.List width) octets part → is_some (list_in part) ≡ true
unfolding IsData
nested_is width octets part is = rw is.is refl

behind_is : (code : Code) (octets : List ℕ) (part : Part) → (code ≡ codes.EmptyList) ⊎ ((width : SizeWidth) × (code ≡ codes.Nested kinds.List width))
    → IsData MAX_DEPTH 0 code octets part → is_some (list_in part) ≡ true
behind_is code octets part (inl empty) is = empty_is octets part (subst (λ (c : Code). IsData MAX_DEPTH 0 c octets part) empty is)
behind_is code octets part (inr nested) is = nested_is nested.0 octets part (subst (λ (c : Code). IsData MAX_DEPTH 0 c octets part) nested.1 is)

one_code : (code other : Code) (found : Option Code) → found ≡ Some code → found ≡ Some other → other ≡ code
one_code code other found is was = cc

coded : (first : ℕ) (code : Code) → BeginsList first → code_of first ≡ Some code → (code ≡ codes.EmptyList) ⊎ ((width : SizeWidth) × (code ≡ codes.Nested kinds.List width))
unfolding BeginsList
coded first code (inl empty) known = inl (one_code codes.EmptyList code (code_of first) empty known)
coded first code (inr nested) known = inr (nested.0, one_code (codes.Nested kinds.List nested.0) code (code_of first) nested.1 known)

-- a value whose first octet is that of a list
list_from : (octets : List ℕ) (part : Part) (first : ℕ) (more : List ℕ) → octets ≡ first ∷ more → BeginsList first → IsValue MAX_DEPTH octets part → is_some (list_in part) ≡ true
unfolding IsValue
list_from octets part first more same begins is =
    let here : IsValue MAX_DEPTH (first ∷ more) part = subst (λ (t : List ℕ). IsValue MAX_DEPTH t part) same is in
    behind_is here.0 more part (coded first here.0 begins here.1) here.2

used_up : (r : Read Seen) (x : Seen × List ℕ) → r ≡ Ok x → is_used_up r ≡ true → length x.1 ≡ 0
used_up r x e used =
    let at : is_used_up (Ok x) ≡ true = ap is_used_up (sym e) ∙ used in
    search rules

pub is_list : (octets : List ℕ) (first : ℕ) (more : List ℕ) → is_value octets ≡ true → octets ≡ first ∷ more → BeginsList first → is_some (list_in (seen_of octets).part) ≡ true
unfolding is_value seen_of
is_list octets first more value same begins =
    let x = read_is (seen_at MAX_DEPTH 0 octets) (known_whole octets value) in
    let front = seen_found MAX_DEPTH 0 octets x.0 x.1 in
    let none = nil_from_length x.0.1 (used_up (seen_at MAX_DEPTH 0 octets) x.0 x.1 value) in
    let whole : x.0.0.octets ≡ first ∷ more = sym (append-nil x.0.0.octets) ∙ ap (λ (t : List ℕ). x.0.0.octets ++ t) (sym none) ∙ sym front.parts ∙ same in
    rw x.1 (list_from x.0.0.octets x.0.0.part first more whole begins front.is)

-- such a list, with a descriptor of two octets
paired : (n : ℕ) (described : List ℕ) → is_some (list_in (seen_of described).part) ≡ true → IsNumbered (Described (0x53 ∷ n ∷ []) described) n
paired n described list =
    let descriptor : seen_of (0x53 ∷ n ∷ []) ≡ record { octets = 0x53 ∷ n ∷ []; part = Ulong n } = value_is (0x53 ∷ n ∷ []) (Ulong n) (number_is 31 n) in
    rw descriptor (by (list_in (seen_of described).part) list)
  where
    by : (o : Option (List Seen)) → is_some o ≡ true → option_map (λ (list : Seen × List Seen). ulong_in list.0.part) (option_zip (Some (record { octets = 0x53 ∷ n ∷ []; part = Ulong n })) o) ≡ Some (Some n)
    by (Some items) some = refl
    by None some = absurd cc

-- by the octets of both
pub numbered_pair : (descriptor described : List ℕ) (n first : ℕ) → length descriptor ≡ 2 → slice_index_or descriptor 0 0 ≡ 0x53 → slice_index_or descriptor 1 0 ≡ n
    → is_value described ≡ true → 0 < length described → slice_index_or described 0 0 ≡ first → BeginsList first → IsNumbered (Described descriptor described) n
numbered_pair [] described n first two a b value some f begins = absurd (omega (arith, two))
numbered_pair (x ∷ []) described n first two a b value some f begins = absurd (omega (arith, two))
numbered_pair (x ∷ y ∷ z ∷ more) described n first two a b value some f begins = absurd (omega (arith, two))
numbered_pair (x ∷ y ∷ []) [] n first two a b value some f begins = absurd (omega (arith, some))
numbered_pair (x ∷ y ∷ []) (w ∷ more) n first two a b value some f begins =
    let list = is_list (w ∷ more) w more value refl (subst BeginsList (sym f) begins) in
    rw (a, b) (paired n (w ∷ more) list)
