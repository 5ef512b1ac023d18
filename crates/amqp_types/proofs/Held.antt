-- The values that a value holds, which were read with it: to read them again cannot fail.
use Rattle.std.proofs.Common.{◌≡◌, ℕ, zero, suc, ◌-◌, ◌≤◌, ◌<◌, true, List, [], ◌∷◌, ◌++◌, length, Option, Some, None, Result, Ok, Err, refl, sym, ap, subst, ◌∙◌, arith}
use Rattle.std.specs.List.{flat_map, AllByRecursion}
use Rattle.std.proofs.lemmas.List.Elements.{All-from_recursion}
use Rattle.std.proofs.lemmas.List.Concat.{flat_map-cons}
use Rattle.std.proofs.lemmas.Bool.{eqb-true}
use Rattle.std.proofs.lemmas.List.{append-nil, nil_from_length}
use Rattle.amqp_types.specs.declared.code.Code.{Code}
use Rattle.amqp_types.specs.declared.fault.ValueFault.{ValueFault}
use Rattle.amqp_types.specs.Part.{Part, Seen, Constructor, tagged}
use Rattle.amqp_types.specs.Reading.{Read, in_front, data_at, constructor_at, element_at, item_at, seen_at, items_at}
use Rattle.flow_counts.specs.declared.profile.TheConstants.{MAX_DEPTH}
use Rattle.amqp_types.specs.Items.{seen_in, items_in, is_value, is_used_up, are_items, is_filled, seen_of, constructor_in, form_read, form_of, element_read, is_element, element_of}
use Rattle.amqp_types.specs.Grammar.{AreItems, IsData, IsConstructor, IsValue, IsElement, IsItem, AreOf, AreValuesOf}
use Rattle.amqp_types.proofs.Steps.{ok_is, some_is, done}
use Rattle.amqp_types.proofs.Pieces.{items_found, items_again, in_front_is}
use Rattle.amqp_types.proofs.Values.{data_found, constructor_found, constructor_again, item_found, item_again, seen_found, seen_again}
use Rattle.amqp_types.proofs.Deeper.{value_deeper, values_deeper, constructor_deeper, data_under}

-- ---- one value

used_up : (octets : List ℕ) (r : Read Seen) → is_used_up r ≡ true → (x : Seen) × (r ≡ Ok (x, []))
used_up octets (Ok x) e = (x.0, ap (λ (t : List ℕ). done (x.0, t)) (nil_from_length x.1 (eqb-true _ _ e)))
used_up octets (Err d) e = absurd cc

-- octets that were read as a value, where so many levels were left, are one whole value
pub held_value : (levels at : ℕ) (bytes : List ℕ) (x : Seen × List ℕ) → levels ≤ MAX_DEPTH → seen_at levels at bytes ≡ Ok x → is_value x.0.octets ≡ true
unfolding is_value
held_value levels at bytes x le e =
    let front = seen_found levels at bytes x e in
    let is : IsValue MAX_DEPTH x.0.octets x.0.part = value_deeper levels MAX_DEPTH x.0.octets x.0.part le front.is in
    let again : seen_at MAX_DEPTH 0 x.0.octets ≡ Ok (x.0, []) = ap (seen_at MAX_DEPTH 0) (sym (append-nil x.0.octets)) ∙ seen_again MAX_DEPTH 0 x.0.octets [] x.0.part is in
    rw again refl

-- a whole value is read
pub whole_read : (octets : List ℕ) → is_value octets ≡ true → (x : Seen) × (seen_at MAX_DEPTH 0 octets ≡ Ok (x, []))
unfolding is_value
whole_read octets e = used_up octets (seen_at MAX_DEPTH 0 octets) e

-- the rest behind a whole value is empty
whole_alone : (octets : List ℕ) (x : Seen × List ℕ) → is_value octets ≡ true → seen_at MAX_DEPTH 0 octets ≡ Ok x → x.1 ≡ []
whole_alone octets x e read =
    let one = whole_read octets e in
    ap (λ (y : Seen × List ℕ). y.1) (ok_is x (one.0, []) (sym read ∙ one.1))

-- a whole value has all the octets
pub whole_octets : (octets : List ℕ) (x : Seen × List ℕ) → is_value octets ≡ true → seen_at MAX_DEPTH 0 octets ≡ Ok x → x.0.octets ≡ octets
whole_octets octets x e read =
    let front = seen_found MAX_DEPTH 0 octets x read in
    sym (front.parts ∙ ap (λ (t : List ℕ). x.0.octets ++ t) (whole_alone octets x e read) ∙ append-nil x.0.octets)

-- a whole value is one
pub whole_value : (octets : List ℕ) (x : Seen × List ℕ) → is_value octets ≡ true → seen_at MAX_DEPTH 0 octets ≡ Ok x → IsValue MAX_DEPTH octets x.0.part
whole_value octets x e read =
    subst (λ (t : List ℕ). IsValue MAX_DEPTH t x.0.part) (whole_octets octets x e read) (seen_found MAX_DEPTH 0 octets x read).is

-- what octets that are a value are read as
pub whole_is : (octets : List ℕ) (x : Seen × List ℕ) → seen_at MAX_DEPTH 0 octets ≡ Ok x → seen_of octets ≡ x.0
unfolding seen_of
whole_is octets x e = rw e refl

-- ---- items one after the other

filled : (r : Result (List ℕ) ValueFault) → is_filled r ≡ true → r ≡ Ok []
filled (Ok rest) e = ap done (nil_from_length rest (eqb-true _ _ e))
filled (Err d) e = absurd cc

pub are_from_items : (form : Option Constructor) (n : ℕ) (octets : List ℕ) → AreItems (IsItem MAX_DEPTH form) n octets → are_items form n octets ≡ true
unfolding are_items
are_from_items form n octets are =
    let again : items_at (item_at MAX_DEPTH form) n 0 octets ≡ Ok [] = ap (items_at (item_at MAX_DEPTH form) n 0) (sym (append-nil octets)) ∙ items_again (item_at MAX_DEPTH form) (IsItem MAX_DEPTH form) (item_again MAX_DEPTH form) n 0 octets [] are in
    rw again refl

items_from_read : (levels : ℕ) (form : Option Constructor) (n at : ℕ) (octets : List ℕ) → items_at (item_at levels form) n at octets ≡ Ok [] → AreItems (IsItem levels form) n octets
items_from_read levels form n at octets e =
    let items = items_found (item_at levels form) (IsItem levels form) (item_found levels form) n at octets [] e in
    subst (AreItems (IsItem levels form) n) (sym (items.1 ∙ append-nil items.0)) items.2

-- octets that were read as items, where so many levels were left, are items
pub held_items : (levels : ℕ) (form : Option Constructor) (n at : ℕ) (octets : List ℕ) → levels ≤ MAX_DEPTH → items_at (item_at levels form) n at octets ≡ Ok [] → are_items form n octets ≡ true
held_items levels form n at octets le e =
    are_from_items form n octets (values_deeper levels MAX_DEPTH form n octets le (items_from_read levels form n at octets e))

items_from_are : (form : Option Constructor) (n : ℕ) (octets : List ℕ) → are_items form n octets ≡ true → AreItems (IsItem MAX_DEPTH form) n octets
unfolding are_items
items_from_are form n octets e = items_from_read MAX_DEPTH form n 0 octets (filled (items_at (item_at MAX_DEPTH form) n 0 octets) e)

-- the first of some items, and the octets of the others
pub record IsFirst (form : Option Constructor) (n : ℕ) (octets : List ℕ) (x : Seen × List ℕ) : Type 0 where
  pub read : item_at MAX_DEPTH form 0 octets ≡ Ok x
  pub others : are_items form n x.1 ≡ true

first_value : (form : Option Constructor) (n : ℕ) (octets : List ℕ) → are_items form (suc n) octets ≡ true → (x : Seen × List ℕ) × IsFirst form n octets x
first_value form n octets e =
    let are = items_from_are form (suc n) octets e in (
      (record { octets = are.0; part = are.2 }, are.1),
      record {
        read = ap (item_at MAX_DEPTH form 0) are.3 ∙ item_again MAX_DEPTH form 0 are.0 are.1 are.2 are.4;
        others = are_from_items form n are.1 are.5;
      },
    )

less_one : (n : ℕ) → 0 < n → n ≡ suc (n - 1)
less_one n some = omega arith

-- the first of some items is read
pub first_read : (form : Option Constructor) (n : ℕ) (octets : List ℕ) → 0 < n → are_items form n octets ≡ true → (x : Seen × List ℕ) × IsFirst form (n - 1) octets x
first_read form n octets some e = first_value form (n - 1) octets (subst (λ (k : ℕ). are_items form k octets ≡ true) (less_one n some) e)

-- what is read first is the first of the items
pub first_is : (form : Option Constructor) (n : ℕ) (octets : List ℕ) (x : Seen × List ℕ) → 0 < n → item_at MAX_DEPTH form 0 octets ≡ Ok x → items_in form n octets ≡ x.0 ∷ items_in form (n - 1) x.1
unfolding items_in
first_is form n octets x some e = subst (λ (k : ℕ). items_in form k octets ≡ x.0 ∷ items_in form (n - 1) x.1) (sym (less_one n some)) (rw e refl)

-- the others are items too
pub others_are : (form : Option Constructor) (n : ℕ) (octets : List ℕ) (x : Seen × List ℕ) → 0 < n → are_items form n octets ≡ true → item_at MAX_DEPTH form 0 octets ≡ Ok x → are_items form (n - 1) x.1 ≡ true
others_are form n octets x some e read =
    let first = first_read form n octets some e in
    subst (λ (y : Seen × List ℕ). are_items form (n - 1) y.1 ≡ true) (ok_is first.0 x (sym first.1.read ∙ read)) first.1.others

-- the values that are read of some octets
pub record AreRead (form : Option Constructor) (n : ℕ) (octets : List ℕ) (values : List Seen) : Type 0 where
  pub count : length values ≡ n
  pub joined : flat_map (λ value. value.octets) values ≡ octets
  pub each : AllByRecursion (λ value. IsItem MAX_DEPTH form value.octets value.part) values

are_read_from : (form : Option Constructor) (n : ℕ) (octets : List ℕ) → are_items form n octets ≡ true → AreRead form n octets (items_in form n octets)
unfolding items_in
are_read_from form zero octets e = record { count = refl; joined = sym (items_from_are form 0 octets e); each = tt }
are_read_from form (suc n) octets e =
    let first = first_value form n octets e in
    let front = item_found MAX_DEPTH form 0 octets first.0 first.1.read in
    let others = are_read_from form n first.0.1 first.1.others in
    rw first.1.read (record {
      count = ap suc others.count;
      joined = flat_map-cons (λ (value : Seen). value.octets) first.0.0 (items_in form n first.0.1) ∙ ap (λ (t : List ℕ). first.0.0.octets ++ t) others.joined ∙ sym front.0;
      each = (front.1, others.each);
    })

-- octets that are items hold just these
pub are_items_of : (form : Option Constructor) (n : ℕ) (octets : List ℕ) → are_items form n octets ≡ true → AreOf (IsItem MAX_DEPTH form) n octets (items_in form n octets)
are_items_of form n octets e =
    let read = are_read_from form n octets e in
    record { count = read.count; joined = read.joined; each = All-from_recursion (λ (value : Seen). IsItem MAX_DEPTH form value.octets value.part) (items_in form n octets) read.each }

-- octets that are values hold just these
pub are_values_of : (n : ℕ) (octets : List ℕ) → are_items None n octets ≡ true → AreValuesOf n octets (seen_in n octets)
are_values_of n octets e = are_items_of None n octets e

pub no_values : are_items None 0 [] ≡ true
unfolding are_items items_at
no_values = refl

-- ---- elements with their constructor

-- a whole constructor is read
constructor_whole : (octets : List ℕ) (c : Constructor) → IsConstructor MAX_DEPTH octets c → constructor_at MAX_DEPTH 0 octets ≡ Ok (c, [])
constructor_whole octets c is = ap (constructor_at MAX_DEPTH 0) (sym (append-nil octets)) ∙ constructor_again MAX_DEPTH 0 octets [] c is

-- octets that are a constructor say its descriptors and its code
pub constructor_held : (levels : ℕ) (octets : List ℕ) (c : Constructor) → levels ≤ MAX_DEPTH → IsConstructor levels octets c → form_of octets ≡ Some (c.tags, c.code)
unfolding form_of
constructor_held levels octets c le is = rw (constructor_whole octets c (constructor_deeper levels MAX_DEPTH le octets c is)) refl

-- octets that were read as a constructor are one
pub constructor_kept : (levels at : ℕ) (bytes : List ℕ) (x : Constructor × List ℕ) → levels ≤ MAX_DEPTH → constructor_at levels at bytes ≡ Ok x → constructor_in x.0.octets ≡ Some x.0
unfolding constructor_in
constructor_kept levels at bytes x le e = rw (constructor_whole x.0.octets x.0 (constructor_deeper levels MAX_DEPTH le x.0.octets x.0 (constructor_found levels at bytes x e).1)) refl

-- a constructor by how many descriptors and which code it has
abbrev HasForm : List ℕ → ℕ → Code → Type 0
HasForm octets tags code = (c : Constructor) × (constructor_at MAX_DEPTH 0 octets ≡ Ok (c, [])) × (c.tags ≡ tags) × (c.code ≡ code)

form_found : (r : Read Constructor) (tags : ℕ) (code : Code) → form_read r ≡ Some (tags, code) → (c : Constructor) × (r ≡ Ok (c, [])) × (c.tags ≡ tags) × (c.code ≡ code)
form_found (Ok (c, [])) tags code e = let both : (c.tags, c.code) ≡ (tags, code) = some_is e in (c, refl, ap (λ (p : ℕ × Code). p.0) both, ap (λ (p : ℕ × Code). p.1) both)
form_found (Ok (c, b ∷ rest)) tags code e = absurd cc
form_found (Err d) tags code e = absurd cc

form_is : (octets : List ℕ) (tags : ℕ) (code : Code) → form_of octets ≡ Some (tags, code) → HasForm octets tags code
unfolding form_of
form_is octets tags code e = form_found (constructor_at MAX_DEPTH 0 octets) tags code e

-- a whole element is read
element_whole : (c : Constructor) (octets : List ℕ) (part : Part) → IsElement MAX_DEPTH c octets part → element_at MAX_DEPTH c 0 octets ≡ Ok (record { octets = octets; part = part }, [])
unfolding item_at
element_whole c octets part is = ap (element_at MAX_DEPTH c 0) (sym (append-nil octets)) ∙ item_again MAX_DEPTH (Some c) 0 octets [] part is

-- data that is behind the code of a constructor is an element of it
pub element_held : (levels tags : ℕ) (code : Code) (at : ℕ) (constructor bytes : List ℕ) (x : Part × List ℕ) → tags < levels → levels ≤ MAX_DEPTH
    → form_of constructor ≡ Some (tags - 1, code) → data_at (levels - tags) 0 code at bytes ≡ Ok x → is_element constructor (in_front bytes x.1) ≡ true
unfolding is_element IsElement
element_held levels tags code at constructor bytes x lt le form e =
    let c = form_is constructor (tags - 1) code form in
    let takes = data_found (levels - tags) 0 code at bytes x e in
    let front : takes.front ≡ in_front bytes x.1 = sym (ap (λ (t : List ℕ). in_front t x.1) takes.parts ∙ in_front_is takes.front x.1) in
    let under : IsData MAX_DEPTH (tags - 1) code takes.front x.0 = data_under levels tags MAX_DEPTH code takes.front x.0 lt le takes.is in
    let same : IsData MAX_DEPTH c.0.tags c.0.code takes.front x.0 =
    subst (λ (t : ℕ). IsData MAX_DEPTH t c.0.code takes.front x.0) (sym c.2) (subst (λ (k : Code). IsData MAX_DEPTH (tags - 1) k takes.front x.0) (sym c.3) under) in
    let element : IsElement MAX_DEPTH c.0 takes.front (tagged c.0.tag takes.front x.0) = record { says = x.0; behind = same; is = refl } in
    subst (λ (t : List ℕ). is_used_up (element_read (constructor_at MAX_DEPTH 0 constructor) t) ≡ true) front
    (rw (c.1, element_whole c.0 takes.front (tagged c.0.tag takes.front x.0) element) refl)

-- an element and its constructor
pub record IsWhole (constructor octets : List ℕ) : Type 0 where
  pub c : Constructor
  pub read : constructor_at MAX_DEPTH 0 constructor ≡ Ok (c, [])
  pub element : Seen
  pub element_read : element_at MAX_DEPTH c 0 octets ≡ Ok (element, [])

element_parts : (r : Read Constructor) (octets : List ℕ) → is_used_up (element_read r octets) ≡ true
    → (c : Constructor) × (r ≡ Ok (c, [])) × (element : Seen) × (element_at MAX_DEPTH c 0 octets ≡ Ok (element, []))
element_parts (Ok (c, [])) octets e = let one = used_up octets (element_at MAX_DEPTH c 0 octets) e in (c, refl, one.0, one.1)
element_parts (Ok (c, b ∷ rest)) octets e = absurd cc
element_parts (Err d) octets e = absurd cc

-- a whole element is read with its constructor
pub whole_parts : (constructor octets : List ℕ) → is_element constructor octets ≡ true → IsWhole constructor octets
unfolding is_element
whole_parts constructor octets e =
    let one = element_parts (constructor_at MAX_DEPTH 0 constructor) octets e in
    record { c = one.0; read = one.1; element = one.2; element_read = one.3 }

-- with its constructor, it is read
pub whole_element_read : (constructor octets : List ℕ) (c : Constructor × List ℕ) → is_element constructor octets ≡ true → constructor_at MAX_DEPTH 0 constructor ≡ Ok c
    → (element : Seen) × (element_at MAX_DEPTH c.0 0 octets ≡ Ok (element, []))
whole_element_read constructor octets c e first =
    let one = whole_parts constructor octets e in
    let same : one.c ≡ c.0 = ap (λ (y : Constructor × List ℕ). y.0) (ok_is (one.c, []) c (sym one.read ∙ first)) in
    (one.element, subst (λ (k : Constructor). element_at MAX_DEPTH k 0 octets ≡ Ok (one.element, [])) same one.element_read)

-- what it is read as
pub whole_element_is : (constructor octets : List ℕ) (c : Constructor × List ℕ) (x : Seen × List ℕ) → is_element constructor octets ≡ true
    → constructor_at MAX_DEPTH 0 constructor ≡ Ok c → element_at MAX_DEPTH c.0 0 octets ≡ Ok x
    → (element_of constructor octets ≡ x.0) × (x.0.octets ≡ octets) × IsConstructor MAX_DEPTH constructor c.0 × IsElement MAX_DEPTH c.0 octets x.0.part
unfolding element_of item_at
whole_element_is constructor octets c x e first second =
    let one = whole_parts constructor octets e in
    let same : (one.c, []) ≡ c = ok_is (one.c, []) c (sym one.read ∙ first) in
    let same_c : one.c ≡ c.0 = ap (λ (y : Constructor × List ℕ). y.0) same in
    let rest : c.1 ≡ [] = sym (ap (λ (y : Constructor × List ℕ). y.1) same) in
    let read : element_at MAX_DEPTH c.0 0 octets ≡ Ok (one.element, []) = subst (λ (k : Constructor). element_at MAX_DEPTH k 0 octets ≡ Ok (one.element, [])) same_c one.element_read in
    let seen : (one.element, []) ≡ x = ok_is (one.element, []) x (sym read ∙ second) in
    let behind : x.1 ≡ [] = sym (ap (λ (y : Seen × List ℕ). y.1) seen) in
    let there = constructor_found MAX_DEPTH 0 constructor c first in
    let found = item_found MAX_DEPTH (Some c.0) 0 octets x second in
    let all : x.0.octets ≡ octets = sym (found.0 ∙ ap (λ (t : List ℕ). x.0.octets ++ t) behind ∙ append-nil x.0.octets) in
    let whole : c.0.octets ≡ constructor = sym (there.0 ∙ ap (λ (t : List ℕ). c.0.octets ++ t) rest ∙ append-nil c.0.octets) in (
      rw (one.read, one.element_read) (ap (λ (y : Seen × List ℕ). y.0) seen),
      all,
      subst (λ (t : List ℕ). IsConstructor MAX_DEPTH t c.0) whole there.1,
      subst (λ (t : List ℕ). IsElement MAX_DEPTH c.0 t x.0.part) all found.1,
    )
