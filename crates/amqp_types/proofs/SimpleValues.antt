-- Values that are null, a boolean or a number without a sign, by their first octet.
use Rattle.std.proofs.Common.{◌≡◌, ℕ, zero, suc, ◌+◌, ◌-◌, ◌<◌, Bool, true, false, ◌&&◌, cond, List, [], ◌∷◌, length, Option, Some, None, option_map, Result, Ok, Err, refl, sym, ap, ◌∙◌, arith}
use Rattle.std.specs.Prelude.{◌==◌, option_and_then}
use Rattle.amqp_types.specs.declared.code.Code.{Code}
use Rattle.amqp_types.specs.declared.code.Code.TheVariants as codes
use Rattle.amqp_types.specs.declared.code.Kind.{Kind}
use Rattle.amqp_types.specs.declared.code.Scalar.{Scalar}
use Rattle.amqp_types.specs.declared.code.Text.{Text}
use Rattle.amqp_types.specs.declared.code.SizeWidth.{SizeWidth}
use Rattle.amqp_types.specs.declared.fault.ValueFault.{ValueFault}
use Rattle.amqp_types.specs.declared.fault.ValueFaultKind.TheVariants.{BadText, OddMap}
use Rattle.amqp_types.specs.Codes.{code_of, size_len}
use Rattle.amqp_types.specs.Part.{Part, Sized, Nested, Array, Described, Seen, Constructor}
use Rattle.amqp_types.specs.Reading.{◌>>=◌, Read, fault, is_text, fixed_at, sized_at, text_at, counted_at, is_odd, all_used, items_at, nested_at, described_at, in_array, elements_at, array_at, data_at, data_by, element_by, constructor_at, seen_by, seen_at, value_at, value_by, coded_at, with_octets, item_at}
use Rattle.amqp_types.specs.Items.{are_items, items_in}
use Rattle.amqp_types.specs.declared.simple.Simple.{Simple}
use Rattle.amqp_types.specs.Simple.{simple_in, simple_data, simple_value, simple_first, behind_simple, wanted, first_wanted, behind_wanted}
use Rattle.amqp_types.proofs.Steps.{some_is}
use Rattle.amqp_types.proofs.Held.{first_read, first_is}
use Rattle.flow_counts.specs.declared.profile.TheConstants.{MAX_DEPTH}

-- a value says what its data says
data_of : (bytes : List ℕ) (r : Read Part) → simple_value (with_octets bytes r) ≡ simple_data r
data_of bytes (Ok x) = refl
data_of bytes (Err d) = refl

-- by its first octet
pub by_code : (first : ℕ) (code : Code) (bytes : List ℕ) → code_of first ≡ Some code → simple_value (seen_at MAX_DEPTH 0 (first ∷ bytes)) ≡ simple_data (data_at MAX_DEPTH 0 code 0 bytes)
unfolding seen_at value_at value_by coded_at
by_code first code bytes known = rw known (data_of (first ∷ bytes) (data_at MAX_DEPTH 0 code 0 bytes))

-- ---- what holds octets or other values is none

bind_not : {A : Type 0} (r : Result A ValueFault) (f : A → Read Part) → ((x : A) → simple_data (f x) ≡ None) → simple_data (r >>= f) ≡ None
bind_not (Ok x) f not = not x
bind_not (Err d) f not = refl

cond_not : (b : Bool) (r s : Read Part) → simple_data r ≡ None → simple_data s ≡ None → simple_data (cond b r s) ≡ None
cond_not true r s e h = e
cond_not false r s e h = h

-- a text
text_not : (text : Text) (width : SizeWidth) (at : ℕ) (bytes : List ℕ) → simple_data (text_at text width at bytes) ≡ None
unfolding text_at
text_not text width at bytes =
    bind_not (sized_at width at bytes) (λ octets. cond (is_text text octets.0) (Ok (Sized text octets.0, octets.1)) (fault BadText at)) (λ octets.
    cond_not (is_text text octets.0) (Ok (Sized text octets.0, octets.1)) (fault BadText at) refl refl)

-- a list or a map
nested_not : (item : ℕ → List ℕ → Read Seen) (kind : Kind) (width : SizeWidth) (at : ℕ) (bytes : List ℕ) → simple_data (nested_at item kind width at bytes) ≡ None
unfolding nested_at
nested_not item kind width at bytes =
    let end : (ℕ × List ℕ) × List ℕ → Read Part = λ counted. all_used at (items_at item counted.0.0 (at + 1 + size_len width + size_len width) counted.0.1) >>= λ end. Ok (Nested kind counted.0.0 counted.0.1, counted.1) in
    bind_not (counted_at width at bytes) (λ counted. cond (is_odd kind counted.0.0) (fault OddMap at) (end counted)) (λ counted.
    cond_not (is_odd kind counted.0.0) (fault OddMap at) (end counted) refl
    (bind_not (all_used at (items_at item counted.0.0 (at + 1 + size_len width + size_len width) counted.0.1)) (λ end. Ok (Nested kind counted.0.0 counted.0.1, counted.1)) (λ end. refl)))

-- a described value
described_not : (value : ℕ → List ℕ → Read Seen) (at : ℕ) (bytes : List ℕ) → simple_data (described_at value at bytes) ≡ None
unfolding described_at
described_not value at bytes =
    bind_not (value (at + 1) bytes) (λ descriptor. value (at + 1 + length descriptor.0.octets) descriptor.1 >>= λ described. Ok (Described descriptor.0.octets described.0.octets, described.1)) (λ descriptor.
    bind_not (value (at + 1 + length descriptor.0.octets) descriptor.1) (λ described. Ok (Described descriptor.0.octets described.0.octets, described.1)) (λ described. refl))

-- a part that is none of these, where there is one
abbrev IsOther : Result Part ValueFault → Type 0
IsOther (Ok part) = simple_in part ≡ None
IsOther (Err d) = Unit {0}

bind_other : {A : Type 0} (r : Result A ValueFault) (f : A → Result Part ValueFault) → ((x : A) → IsOther (f x)) → IsOther (r >>= f)
bind_other (Ok x) f other = other x
bind_other (Err d) f other = tt

cond_other : (b : Bool) (r s : Result Part ValueFault) → IsOther r → IsOther s → IsOther (cond b r s)
cond_other true r s e h = e
cond_other false r s e h = h

other_not : (at : ℕ) (r : Result Part ValueFault) (rest : List ℕ) → IsOther r → simple_data (in_array at r >>= λ array. Ok (array, rest)) ≡ None
other_not at (Ok part) rest other = rw other refl
other_not at (Err d) rest other = refl

elements_other : (constructor : ℕ → List ℕ → Read Constructor) (element : Constructor → ℕ → List ℕ → Read Seen) (n at : ℕ) (bytes : List ℕ) → IsOther (elements_at constructor element n at bytes)
unfolding elements_at
elements_other constructor element n at bytes =
    let elements : Constructor × List ℕ → Result Part ValueFault = λ first. all_used at (items_at (element first.0) n at first.1) >>= λ end. Ok (Array (Some first.0) n first.1) in
    cond_other (n == 0 && length bytes == 0) (Ok (Array None 0 [])) (constructor at bytes >>= elements) refl
    (bind_other (constructor at bytes) elements (λ first. bind_other (all_used at (items_at (element first.0) n at first.1)) (λ end. Ok (Array (Some first.0) n first.1)) (λ end. refl)))

-- an array
array_not : (constructor : ℕ → List ℕ → Read Constructor) (element : Constructor → ℕ → List ℕ → Read Seen) (width : SizeWidth) (at : ℕ) (bytes : List ℕ) → simple_data (array_at constructor element width at bytes) ≡ None
unfolding array_at
array_not constructor element width at bytes =
    bind_not (counted_at width at bytes) (λ counted. in_array at (elements_at constructor element counted.0.0 at counted.0.1) >>= λ array. Ok (array, counted.1)) (λ counted.
    other_not at (elements_at constructor element counted.0.0 at counted.0.1) counted.1 (elements_other constructor element counted.0.0 at counted.0.1))

-- a code of no fixed width
abbrev NotFixed : Code → Type 0
NotFixed code = (scalar : Scalar) → code ≡ codes.Fixed scalar → ⊥

others_not : (levels : ℕ) (code : Code) (at : ℕ) (bytes : List ℕ) → NotFixed code → simple_data (data_at (suc levels) 0 code at bytes) ≡ None
unfolding data_at data_by
others_not levels (codes.Fixed scalar) at bytes not = absurd (not scalar refl)
others_not levels (codes.Sized text width) at bytes not = text_not text width at bytes
others_not levels codes.EmptyList at bytes not = refl
others_not levels (codes.Nested kind width) at bytes not = nested_not (seen_by (data_at levels zero) levels) kind width at bytes
others_not levels (codes.Array width) at bytes not = array_not (constructor_at levels) (element_by (data_at levels)) width at bytes
others_not levels codes.Described at bytes not = described_not (seen_by (data_at levels zero) levels) at bytes

-- a value of fixed width says what its others says
pub fixed_says : (bytes : List ℕ) (first : ℕ) (scalar : Scalar) (others : List ℕ) → bytes ≡ first ∷ others → code_of first ≡ Some (codes.Fixed scalar)
    → simple_data (fixed_at scalar 0 others) ≡ simple_value (seen_at MAX_DEPTH 0 bytes)
unfolding data_at data_by
fixed_says bytes first scalar others same known = sym (ap (λ (t : List ℕ). simple_value (seen_at MAX_DEPTH 0 t)) same ∙ by_code first (codes.Fixed scalar) others known)

-- a value of another code is none of these
pub others_say : (bytes : List ℕ) (first : ℕ) (code : Code) (others : List ℕ) → bytes ≡ first ∷ others → code_of first ≡ Some code → NotFixed code
    → None ≡ simple_value (seen_at MAX_DEPTH 0 bytes)
others_say bytes first code others same known other =
    sym (ap (λ (t : List ℕ). simple_value (seen_at MAX_DEPTH 0 t)) same ∙ by_code first code others known ∙ others_not 31 code 0 others other)

-- ---- the first of some items

-- what is given, with the octets behind it
abbrev Given : Type 0
Given = Option (Simple × List ℕ)

given_by : (r : Option Simple) (behind : List ℕ) (s : Simple) (rest : List ℕ) → ◌≡◌ {A = Given} (Some (s, rest)) (option_map (λ simple. (simple, behind)) r) → (r ≡ Some s) × (rest ≡ behind)
given_by None behind s rest e = absurd cc
given_by (Some t) behind s rest e =
    let same : ◌≡◌ {A = Simple × List ℕ} (s, rest) (t, behind) = some_is e in
    (sym (ap (λ (p : Simple × List ℕ). Some p.0) same), ap (λ (p : Simple × List ℕ). p.1) same)

nothing_by : (r : Option Simple) (behind : List ℕ) → ◌≡◌ {A = Given} None (option_map (λ simple. (simple, behind)) r) → r ≡ None
nothing_by None behind e = refl
nothing_by (Some t) behind e = absurd cc

pub record IsTaken (form : Option Constructor) (n left : ℕ) (octets : List ℕ) (s : Simple) (rest : List ℕ) : Type 0 where
  pub others : are_items form left rest ≡ true
  pub value : Some s ≡ simple_first (items_in form n octets)
  pub behind : items_in form left rest ≡ behind_simple (items_in form n octets)

pub taken : (form : Option Constructor) (n left : ℕ) (octets : List ℕ) (s : Simple) (rest : List ℕ) → n ≡ suc left → are_items form n octets ≡ true
    → ◌≡◌ {A = Given} (Some (s, rest)) (simple_value (item_at MAX_DEPTH form 0 octets)) → IsTaken form n left octets s rest
taken form n left octets s rest count filled e =
    let some : 0 < n = omega arith in
    let same : n - 1 ≡ left = omega arith in
    let one = first_read form n octets some filled in
    let is = given_by (simple_in one.0.0.part) one.0.1 s rest (e ∙ ap simple_value one.1.read) in
    let items = first_is form n octets one.0 some one.1.read in
    record {
      others = ap (are_items form left) is.1 ∙ ap (λ (k : ℕ). are_items form k one.0.1) (sym same) ∙ one.1.others;
      value = rw (items, is.0) refl;
      behind = rw (items, is.0, is.1, same) refl;
    }

pub record IsLeft (form : Option Constructor) (n : ℕ) (octets : List ℕ) : Type 0 where
  pub value : None ≡ simple_first (items_in form n octets)
  pub left : items_in form n octets ≡ behind_simple (items_in form n octets)

pub left_there : (form : Option Constructor) (n : ℕ) (octets : List ℕ) → 0 < n → are_items form n octets ≡ true
    → ◌≡◌ {A = Given} None (simple_value (item_at MAX_DEPTH form 0 octets)) → IsLeft form n octets
left_there form n octets some filled e =
    let one = first_read form n octets some filled in
    let not = nothing_by (simple_in one.0.0.part) one.0.1 (e ∙ ap simple_value one.1.read) in
    let items = first_is form n octets one.0 some one.1.read in
    record { value = rw (items, not) refl; left = rw (items, not) refl }

-- ---- what is wanted of a value

-- a value of fixed width says what is wanted
pub front_says : {A : Type 0} (says : Simple → Option A) (bytes : List ℕ) (first : ℕ) (scalar : Scalar) (others : List ℕ) (s : Simple) (rest : List ℕ) (a : A) → bytes ≡ first ∷ others → code_of first ≡ Some (codes.Fixed scalar)
    → ◌≡◌ {A = Given} (Some (s, rest)) (simple_data (fixed_at scalar 0 others)) → says s ≡ Some a → wanted says (simple_value (seen_at MAX_DEPTH 0 bytes)) ≡ Some (a, rest)
front_says says bytes first scalar others s rest a same known given said =
    ap (wanted says) (sym (given ∙ fixed_says bytes first scalar others same known)) ∙ rw said refl

wanted_of : {A : Type 0} (says : Simple → Option A) (x : Simple × List ℕ) (o : Option A) (a : A) (rest : List ℕ) → says x.0 ≡ o → ◌≡◌ {A = Option (A × List ℕ)} (Some (a, rest)) (option_map (λ v. (v, x.1)) o)
    → (says x.0 ≡ Some a) × (x.1 ≡ rest)
wanted_of says x None a rest is e = absurd cc
wanted_of {A = A} says x (Some v) a rest is e =
    let same : ◌≡◌ {A = A × List ℕ} (a, rest) (v, x.1) = some_is e in
    (is ∙ sym (ap (λ (p : A × List ℕ). Some p.0) same), sym (ap (λ (p : A × List ℕ). p.1) same))

-- what was wanted was said
wanted_by : {A : Type 0} (says : Simple → Option A) (r : Given) (a : A) (rest : List ℕ) → ◌≡◌ {A = Option (A × List ℕ)} (Some (a, rest)) (wanted says r) → (s : Simple) × (Some (s, rest) ≡ r) × (says s ≡ Some a)
wanted_by says None a rest e = absurd cc
wanted_by says (Some x) a rest e =
    let is = wanted_of says x (says x.0) a rest refl e in
    (x.0, ap (λ (t : List ℕ). Some (x.0, t)) (sym is.1), is.0)

behind_same : {A : Type 0} (says : Simple → Option A) (items : List Seen) (s : Simple) (a : A) → Some s ≡ simple_first items → says s ≡ Some a → behind_simple items ≡ behind_wanted says items
behind_same says [] s a e said = refl
behind_same says (v ∷ others) s a e said = rw (sym e, said) refl

pub record IsWanted {A : Type 0} (says : Simple → Option A) (form : Option Constructor) (n left : ℕ) (octets : List ℕ) (a : A) (rest : List ℕ) : Type 0 where
  pub others : are_items form left rest ≡ true
  pub value : Some a ≡ first_wanted says (items_in form n octets)
  pub behind : items_in form left rest ≡ behind_wanted says (items_in form n octets)

pub taken_wanted : {A : Type 0} (says : Simple → Option A) (form : Option Constructor) (n left : ℕ) (octets : List ℕ) (a : A) (rest : List ℕ) → n ≡ suc left → are_items form n octets ≡ true
    → ◌≡◌ {A = Option (A × List ℕ)} (Some (a, rest)) (wanted says (simple_value (item_at MAX_DEPTH form 0 octets))) → IsWanted says form n left octets a rest
taken_wanted says form n left octets a rest count filled e =
    let said = wanted_by says (simple_value (item_at MAX_DEPTH form 0 octets)) a rest e in
    let one = taken form n left octets said.0 rest count filled said.1 in
    record {
      others = one.others;
      value = sym (ap (option_and_then says) (sym one.value) ∙ said.2);
      behind = one.behind ∙ behind_same says (items_in form n octets) said.0 a one.value said.2;
    }

-- what is none with octets behind it is none
not_of : {A : Type 0} (o : Option A) (behind : List ℕ) → ◌≡◌ {A = Option (A × List ℕ)} None (option_map (λ a. (a, behind)) o) → o ≡ None
not_of None behind e = refl
not_of (Some a) behind e = absurd cc

-- what is wanted was not said, where nothing of it was read
not_said : {A : Type 0} (says : Simple → Option A) (r : Option Simple) (behind : List ℕ) → ◌≡◌ {A = Option (A × List ℕ)} None (wanted says (option_map (λ simple. (simple, behind)) r)) → option_and_then says r ≡ None
not_said says None behind e = refl
not_said says (Some s) behind e = not_of (says s) behind e

-- the first of some values is not what is wanted, and all of them are left
pub record IsUnwanted {A : Type 0} (says : Simple → Option A) (form : Option Constructor) (n : ℕ) (octets : List ℕ) : Type 0 where
  pub value : None ≡ first_wanted says (items_in form n octets)
  pub left : items_in form n octets ≡ behind_wanted says (items_in form n octets)

-- nothing is taken where no value is left
pub none_wanted : {A : Type 0} (says : Simple → Option A) (form : Option Constructor) (n : ℕ) (octets : List ℕ) → n < 1 → IsUnwanted says form n octets
unfolding items_in
none_wanted says form zero octets none = record { value = refl; left = refl }
none_wanted says form (suc n) octets none = absurd (omega (arith, none))

-- nothing is taken where the first one does not say what is wanted
pub other_left : {A : Type 0} (says : Simple → Option A) (form : Option Constructor) (n : ℕ) (octets : List ℕ) → 0 < n → are_items form n octets ≡ true
    → ◌≡◌ {A = Option (A × List ℕ)} None (wanted says (simple_value (item_at MAX_DEPTH form 0 octets))) → IsUnwanted says form n octets
other_left says form n octets some filled e =
    let one = first_read form n octets some filled in
    let not = not_said says (simple_in one.0.0.part) one.0.1 (e ∙ ap (λ (r : Read Seen). wanted says (simple_value r)) one.1.read) in
    let items = first_is form n octets one.0 some one.1.read in
    record { value = rw (items, not) refl; left = rw (items, not) refl }
