-- What was read once is read again, and what it holds is known.
use Rattle.std.proofs.Common.{◌≡◌, ℕ, ◌+◌, ◌≤◌, ◌<◌, true, cond, List, [], ◌∷◌, length, Option, Some, None, Result, Ok, Err, refl, sym, ap, ◌∙◌, arith}
use Rattle.std.specs.Prelude.{is_some}
use Rattle.std.specs.Result.{is_ok}
use Rattle.amqp_types.specs.declared.fault.ValueFault.{ValueFault}
use Rattle.amqp_types.specs.declared.fault.ValueFaultKind.TheVariants.{OddMap, UnknownCode}
use Rattle.amqp_types.specs.declared.code.Kind.{Kind}
use Rattle.amqp_types.specs.declared.code.SizeWidth.{SizeWidth}
use Rattle.amqp_types.specs.declared.code.Code.{Code}
use Rattle.amqp_types.specs.Codes.{code_of, size_len}
use Rattle.amqp_types.specs.Part.{Part, Seen, Nested, Described, Constructor}
use Rattle.flow_counts.specs.Words.{Gives}
use Rattle.flow_counts.specs.declared.profile.TheConstants.{MAX_DEPTH}
use Rattle.amqp_types.specs.Reading.{◌>>=◌, Read, fault, counted_at, nested_at, items_at, described_at, all_used, is_odd, data_at, value_at, value_by, coded_at, with_octets, in_front, seen_at, item_at, element_at, constructor_at}
use Rattle.amqp_types.specs.Items.{is_read, behind, is_value, are_items, constructor_read, constructor_in}
use Rattle.amqp_types.proofs.Steps.{bind_ok, guard_ok, done}
use Rattle.amqp_types.proofs.Pieces.{all_used_ok}
use Rattle.amqp_types.proofs.Values.{seen_found, seen_again}
use Rattle.amqp_types.proofs.PassedOver.{passes_value, front_octets, described_passed}
use Rattle.amqp_types.proofs.Deeper.{value_deeper}
use Rattle.amqp_types.proofs.Held.{held_items, whole_read, first_read}

-- what was read
pub read_is : {A : Type 0} (r : Read A) → is_read r ≡ true → (x : A × List ℕ) × (r ≡ Ok x)
read_is (Ok x) e = (x, refl)
read_is (Err d) e = absurd cc

-- what is read has no fault
pub never_failed : {A : Type 0} (r : Read A) (d : ValueFault) → is_read r ≡ true → r ≡ Err d → ⊥
never_failed (Ok x) d e h = cc
never_failed (Err c) d e h = cc

-- a call that gives what is read does not fail
pub is_known : {X A : Type 0} (view : X → A × List ℕ) (result : Result X ValueFault) (r : Read A) → is_read r ≡ true → Gives view result r → is_ok result ≡ true
is_known view (Ok x) r e given = refl
is_known view (Err d) r e given = absurd (never_failed r d e given)

-- a list or a map that is read has a size and a count
pub known_counted : (levels : ℕ) (kind : Kind) (width : SizeWidth) (at : ℕ) (bytes : List ℕ) (d : ValueFault) → is_read (nested_at (item_at levels None) kind width at bytes) ≡ true → counted_at width at bytes ≡ Err d → ⊥
unfolding nested_at
known_counted levels kind width at bytes d e failed =
    let fails : nested_at (item_at levels None) kind width at bytes ≡ Err d = rw failed refl in
    never_failed (nested_at (item_at levels None) kind width at bytes) d e fails

-- so many items lie in its octets
pub known_items : (levels : ℕ) (kind : Kind) (width : SizeWidth) (at : ℕ) (bytes : List ℕ) (c : (ℕ × List ℕ) × List ℕ) → levels ≤ MAX_DEPTH
    → is_read (nested_at (item_at levels None) kind width at bytes) ≡ true → counted_at width at bytes ≡ Ok c
    → (are_items None c.0.0 c.0.1 ≡ true) × (nested_at (item_at levels None) kind width at bytes ≡ Ok (Nested kind c.0.0 c.0.1, c.1))
unfolding nested_at
known_items levels kind width at bytes c le e counted =
    let place = at + 1 + size_len width + size_len width in
    let others : (ℕ × List ℕ) × List ℕ → Read Part = λ counted. all_used at (items_at (item_at levels None) counted.0.0 (at + 1 + size_len width + size_len width) counted.0.1) >>= λ end. Ok (Nested kind counted.0.0 counted.0.1, counted.1) in
    let whole = read_is (nested_at (item_at levels None) kind width at bytes) e in
    let step : cond (is_odd kind c.0.0) (fault OddMap at) (others c) ≡ Ok whole.0 = sym (rw counted refl) ∙ whole.1 in
    let g = guard_ok (is_odd kind c.0.0) (record { kind = OddMap; at = at }) (others c) whole.0 step in
    let b = bind_ok (all_used at (items_at (item_at levels None) c.0.0 place c.0.1)) (λ end. Ok (Nested kind c.0.0 c.0.1, c.1)) whole.0 g.1 in
    let all = all_used_ok at (items_at (item_at levels None) c.0.0 place c.0.1) b.0 b.1 in
    (held_items levels None c.0.0 place c.0.1 le all, whole.1 ∙ sym b.2)

-- a value that is read has a first octet
pub known_first : (bytes : List ℕ) → is_read (seen_at MAX_DEPTH 0 bytes) ≡ true → 0 < length bytes
unfolding seen_at value_at value_by
known_first [] e = absurd cc
known_first (b ∷ bytes) e = omega arith

octets_known : (bytes : List ℕ) (r : Read Part) → is_read (with_octets bytes r) ≡ true → is_read r ≡ true
octets_known bytes (Ok x) e = refl
octets_known bytes (Err d) e = absurd cc

-- which is a code
pub known_code : (first : ℕ) (bytes : List ℕ) → is_read (seen_at MAX_DEPTH 0 (first ∷ bytes)) ≡ true → code_of first ≡ None → ⊥
unfolding seen_at value_at value_by coded_at
known_code first bytes e none =
    let d : ValueFault = record { kind = UnknownCode; at = 0 } in
    let fails : seen_at MAX_DEPTH 0 (first ∷ bytes) ≡ Err d = rw none refl in
    never_failed (seen_at MAX_DEPTH 0 (first ∷ bytes)) d e fails

-- and what is behind it is read
pub known_behind : (first : ℕ) (code : Code) (bytes : List ℕ) → is_read (seen_at MAX_DEPTH 0 (first ∷ bytes)) ≡ true → code_of first ≡ Some code → is_read (data_at MAX_DEPTH 0 code 0 bytes) ≡ true
unfolding seen_at value_at value_by coded_at
known_behind first code bytes e is =
    let same : seen_at MAX_DEPTH 0 (first ∷ bytes) ≡ with_octets (first ∷ bytes) (data_at MAX_DEPTH 0 code 0 bytes) = rw is refl in
    octets_known (first ∷ bytes) (data_at MAX_DEPTH 0 code 0 bytes) (sym (ap is_read same) ∙ e)

-- octets that are a value are read
pub known_whole : (octets : List ℕ) → is_value octets ≡ true → is_read (seen_at MAX_DEPTH 0 octets) ≡ true
known_whole octets e = let one = whole_read octets e in rw one.1 refl

-- the first of some items is read
pub known_one : (form : Option Constructor) (n : ℕ) (octets : List ℕ) → 0 < n → are_items form n octets ≡ true → is_read (item_at MAX_DEPTH form 0 octets) ≡ true
known_one form n octets some e = let first = first_read form n octets some e in rw first.1.read refl

-- octets that are a constructor are read
pub known_form : (octets : List ℕ) (d : ValueFault) → is_some (constructor_in octets) ≡ true → constructor_at MAX_DEPTH 0 octets ≡ Err d → ⊥
unfolding constructor_in
known_form octets d e failed = let wrong : is_some (constructor_read (Err d)) ≡ true = sym (ap (λ (r : Read Constructor). is_some (constructor_read r)) failed) ∙ e in cc

nothing_behind : (x : Constructor × List ℕ) → is_some (constructor_read (Ok x)) ≡ true → constructor_read (Ok x) ≡ Some x.0
nothing_behind (c, []) e = refl
nothing_behind (c, b ∷ rest) e = absurd cc

-- and what is read is the constructor that they are
pub form_known : (octets : List ℕ) (x : Constructor × List ℕ) → is_some (constructor_in octets) ≡ true → constructor_at MAX_DEPTH 0 octets ≡ Ok x → constructor_in octets ≡ Some x.0
unfolding constructor_in
form_known octets x e read = ap constructor_read read ∙ nothing_behind x (sym (ap (λ (r : Read Constructor). is_some (constructor_read r)) read) ∙ e)

-- an item is an element of the constructor
pub item_of : (form : Option Constructor) (c : Constructor) (bytes : List ℕ) → form ≡ Some c → item_at MAX_DEPTH form 0 bytes ≡ element_at MAX_DEPTH c 0 bytes
unfolding item_at
item_of form c bytes e = rw e refl

-- ---- a described value, part by part

-- a value that lies one level deeper, somewhere, is read by itself
pub read_alone : (at : ℕ) (bytes : List ℕ) (x : Seen × List ℕ) → seen_at 31 at bytes ≡ Ok x → seen_at MAX_DEPTH 0 bytes ≡ Ok x
read_alone at bytes x e =
    let front = seen_found 31 at bytes x e in
    ap (seen_at MAX_DEPTH 0) front.parts ∙ seen_again MAX_DEPTH 0 x.0.octets x.1 x.0.part (value_deeper 31 MAX_DEPTH x.0.octets x.0.part (omega arith) front.is)

-- the descriptor and the value, and the octets behind each
pub record HasParts (bytes : List ℕ) : Type 0 where
  pub descriptor : Seen × List ℕ
  pub described : Seen × List ℕ
  pub first : seen_at 31 1 bytes ≡ Ok descriptor
  pub second : seen_at 31 (1 + length descriptor.0.octets) descriptor.1 ≡ Ok described

pub known_parts : (bytes : List ℕ) → is_read (described_at (seen_at 31) 0 bytes) ≡ true → HasParts bytes
unfolding described_at
known_parts bytes e =
    let whole = read_is (described_at (seen_at 31) 0 bytes) e in
    let one = bind_ok (seen_at 31 1 bytes) (λ descriptor. seen_at 31 (1 + length descriptor.0.octets) descriptor.1 >>= λ described. Ok (Described descriptor.0.octets described.0.octets, described.1)) whole.0 whole.1 in
    let two = bind_ok (seen_at 31 (1 + length one.0.0.octets) one.0.1) (λ described. Ok (Described one.0.0.octets described.0.octets, described.1)) whole.0 one.2 in
    record { descriptor = one.0; described = two.0; first = one.1; second = two.1 }

-- what is behind a value that is read
pub behind_is : {A : Type 0} (r : Read A) (x : A × List ℕ) (rest : List ℕ) → r ≡ Ok x → behind r ≡ Ok rest → rest ≡ x.1
behind_is (Ok y) x rest e h = cc
behind_is (Err d) x rest e h = absurd cc

-- the descriptor is read by itself
pub known_descriptor : (bytes : List ℕ) → is_read (described_at (seen_at 31) 0 bytes) ≡ true → is_read (seen_at MAX_DEPTH 0 bytes) ≡ true
known_descriptor bytes e = let parts = known_parts bytes e in rw (read_alone 1 bytes parts.descriptor parts.first) refl

-- and behind it stands the value
value_behind : (bytes mid : List ℕ) (parts : HasParts bytes) → behind (seen_at MAX_DEPTH 0 bytes) ≡ Ok mid → mid ≡ parts.descriptor.1
value_behind bytes mid parts passed = behind_is (seen_at MAX_DEPTH 0 bytes) parts.descriptor mid (read_alone 1 bytes parts.descriptor parts.first) passed

value_alone : (bytes : List ℕ) (parts : HasParts bytes) → seen_at MAX_DEPTH 0 parts.descriptor.1 ≡ Ok parts.described
value_alone bytes parts = read_alone (1 + length parts.descriptor.0.octets) parts.descriptor.1 parts.described parts.second

-- the value is read by itself
pub known_described : (bytes mid : List ℕ) → is_read (described_at (seen_at 31) 0 bytes) ≡ true → behind (seen_at MAX_DEPTH 0 bytes) ≡ Ok mid → is_read (seen_at MAX_DEPTH 0 mid) ≡ true
known_described bytes mid e passed =
    let parts = known_parts bytes e in
    rw (value_behind bytes mid parts passed, value_alone bytes parts) refl

-- both passed over by themselves are what is read
pub parts_passed : (bytes mid rest : List ℕ) → is_read (described_at (seen_at 31) 0 bytes) ≡ true → behind (seen_at MAX_DEPTH 0 bytes) ≡ Ok mid → behind (seen_at MAX_DEPTH 0 mid) ≡ Ok rest
    → described_at (seen_at 31) 0 bytes ≡ Ok (Described (in_front bytes mid) (in_front mid rest), rest)
parts_passed bytes mid rest e passed passed_too =
    let parts = known_parts bytes e in
    let middle = value_behind bytes mid parts passed in
    let end : rest ≡ parts.described.1 =
    behind_is (seen_at MAX_DEPTH 0 parts.descriptor.1) parts.described rest (value_alone bytes parts) (sym (ap (λ (t : List ℕ). behind (seen_at MAX_DEPTH 0 t)) middle) ∙ passed_too) in
    let octets : parts.descriptor.0.octets ≡ in_front bytes mid = front_octets 31 1 bytes parts.descriptor parts.first ∙ ap (in_front bytes) (sym middle) in
    let first : behind (seen_at 31 1 bytes) ≡ Ok mid = ap behind parts.first ∙ ap (λ (t : List ℕ). done t) (sym middle) in
    let second : behind (seen_at 31 (1 + length (in_front bytes mid)) mid) ≡ Ok rest =
    ap (λ (t : List ℕ). behind (seen_at 31 (1 + length t) mid)) (sym octets) ∙ ap (λ (t : List ℕ). behind (seen_at 31 (1 + length parts.descriptor.0.octets) t)) middle
    ∙ ap behind parts.second ∙ ap (λ (t : List ℕ). done t) (sym end) in
    described_passed 31 0 bytes mid rest first second

-- what is behind the code of a value that is read
pub data_known : (bytes : List ℕ) (first : ℕ) (code : Code) (others : List ℕ) → is_read (seen_at MAX_DEPTH 0 bytes) ≡ true → bytes ≡ first ∷ others → code_of first ≡ Some code → is_read (data_at MAX_DEPTH 0 code 0 others) ≡ true
data_known bytes first code others e same known = known_behind first code others (ap (λ (t : List ℕ). is_read (seen_at MAX_DEPTH 0 t)) (sym same) ∙ e) known

-- what is behind the value is what is behind its data
pub behind_data : (bytes : List ℕ) (first : ℕ) (code : Code) (others rest : List ℕ) → bytes ≡ first ∷ others → code_of first ≡ Some code → behind (data_at MAX_DEPTH 0 code 0 others) ≡ Ok rest → behind (seen_at MAX_DEPTH 0 bytes) ≡ Ok rest
behind_data bytes first code others rest same known passed =
    ap (λ (t : List ℕ). behind (seen_at MAX_DEPTH 0 t)) same ∙ passes_value MAX_DEPTH 0 first code others (omega arith) known ∙ passed
