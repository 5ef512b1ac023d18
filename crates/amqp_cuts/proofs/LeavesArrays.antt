-- The same of arrays, by what is so of their constructors and elements.
use Rattle.std.proofs.Common.{◌≡◌, refl, sym, ◌∙◌, inl, inr, ℕ, ◌≤◌, Bool, true, false, ◌&&◌, cond, List, [], length, Option, Some, None, Result, Ok, Err, arith}
use Rattle.std.specs.Prelude.{◌==◌}
use Rattle.std.proofs.lemmas.Bool.{eq-eqb, ne_eqb}
use Rattle.amqp_types.specs.declared.fault.ValueFault.{ValueFault}
use Rattle.amqp_types.specs.declared.code.SizeWidth.{SizeWidth}
use Rattle.amqp_types.specs.Part.{Part, Array, Seen, Constructor}
use Rattle.amqp_types.specs.Reading.{◌>>=◌ as ◌>>>◌, Read, counted_at, items_at, all_used, in_array, elements_at, array_at}
use Rattle.amqp_cuts.specs.declared.layout.ElementForm.{ElementForm}
use Rattle.amqp_cuts.specs.Layout.{layout_of_code}
use Rattle.amqp_cuts.specs.Offsets.{◌>>=◌, window, counted_in}
use Rattle.amqp_cuts.specs.Passing.{Passes, past_items, all_past, past_elements, past_array}
use Rattle.amqp_cuts.proofs.Windows.{window_len}
use Rattle.amqp_cuts.proofs.Pieces.{CountedCut, counted_cut}
use Rattle.amqp_cuts.proofs.Leaves.{Leaves, nat_cases}
use Rattle.amqp_cuts.proofs.LeavesItems.{Ends, ItemLeaves, items_leave, used}

-- elements lie as their constructor says, and the same octets are left behind it
abbrev pub ConstructorCut : List ℕ → ℕ → ℕ → Option (ElementForm × ℕ) → Read Constructor → Type 0
ConstructorCut octets at to None (Err d) = Unit {0}
ConstructorCut octets at to None (Ok x) = ⊥
ConstructorCut octets at to (Some f) (Err d) = ⊥
ConstructorCut octets at to (Some f) (Ok x) =
    (f.0.tags ≡ x.0.tags) × (f.0.layout ≡ layout_of_code x.0.code) × (x.1 ≡ window octets f.1 to) × (at ≤ f.1) × (f.1 ≤ to)

pub constructor_from : (octets : List ℕ) (at next to : ℕ) (r : Option (ElementForm × ℕ)) (s : Read Constructor) → at ≤ next → ConstructorCut octets next to r s → ConstructorCut octets at to r s
constructor_from octets at next to None (Err d) le is = tt
constructor_from octets at next to None (Ok x) le is = absurd is
constructor_from octets at next to (Some last) (Err d) le is = absurd is
constructor_from octets at next to (Some last) (Ok x) le is = (is.0, is.1, is.2, omega (arith, is.3, le), is.4)

-- ---- arrays

-- a reader of constructors, and of the elements of each
abbrev pub ConstructorLeaves : List ℕ → (ℕ → ℕ → Option (ElementForm × ℕ)) → (ℕ → List ℕ → Read Constructor) → Type 0
ConstructorLeaves octets constructor reader =
    (k at to : ℕ) → at ≤ to → to ≤ length octets → ConstructorCut octets at to (constructor at to) (reader k (window octets at to))

abbrev pub ElementLeaves : List ℕ → (ElementForm → Passes) → (Constructor → ℕ → List ℕ → Read Seen) → Type 0
ElementLeaves octets element reader =
    (form : ElementForm) (c : Constructor) → form.tags ≡ c.tags → form.layout ≡ layout_of_code c.code → (end : ℕ) → end ≤ length octets → ItemLeaves octets end (element form) (reader c)

elements_end : {A : Type 0} (end : ℕ) (part : A) (r : Option ℕ) (s : Result (List ℕ) ValueFault) → Ends end r s → Ends {A = A} end r (s >>> λ rest. Ok part)
elements_end end part None (Err d) is = tt
elements_end end part None (Ok x) is = absurd is
elements_end end part (Some next) (Err d) is = absurd is
elements_end end part (Some next) (Ok x) is = is

elements_by : (octets : List ℕ) (element : ElementForm → Passes) (reader : Constructor → ℕ → List ℕ → Read Seen) (n k at to : ℕ) (r : Option (ElementForm × ℕ)) (s : Read Constructor) → to ≤ length octets
    → ElementLeaves octets element reader → ConstructorCut octets at to r s
    → Ends {A = Part} to (r >>= λ first. all_past (past_items (element first.0) n first.1 to) to)
    (s >>> λ first. all_used k (items_at (reader first.0) n k first.1) >>> λ end. Ok (Array (Some first.0) n first.1))
elements_by octets element reader n k at to None (Err d) room each is = tt
elements_by octets element reader n k at to None (Ok x) room each is = absurd is
elements_by octets element reader n k at to (Some f) (Err d) room each is = absurd is
elements_by octets element reader n k at to (Some f) (Ok x) room each is =
    rw is.2 (elements_end to (Array (Some x.0) n (window octets f.1 to)) (all_past (past_items (element f.0) n f.1 to) to) (all_used k (items_at (reader x.0) n k (window octets f.1 to)))
    (used octets k f.1 to (past_items (element f.0) n f.1 to) (items_at (reader x.0) n k (window octets f.1 to)) room (items_leave octets to (element f.0) (reader x.0) (each f.0 x.0 is.0 is.1 to room) n k f.1 is.4)))

elements_if : (end : ℕ) (empty : Bool) (r : Option ℕ) (s : Result Part ValueFault) → Ends end r s → Ends {A = Part} end (cond empty (Some end) r) (cond empty (Ok (Array None 0 [])) s)
elements_if end true r s is = refl
elements_if end false r s is = is

none_left : (octets : List ℕ) (at to : ℕ) → at ≤ to → to ≤ length octets → (length (window octets at to) == 0) ≡ (at == to)
none_left octets at to order room = elim (nat_cases at to) [
  | inl lt ↦
      let long : (length (window octets at to) == 0) ≡ false = ne_eqb _ _ (omega (arith, window_len octets at to room, lt)) in
      long ∙ sym (ne_eqb at to (omega (arith, lt)))
  | inr le ↦
      let empty : (length (window octets at to) == 0) ≡ true = eq-eqb _ _ (omega (arith, window_len octets at to room, le)) in
      empty ∙ sym (eq-eqb at to (omega (arith, le, order)))
]

elements_end_at : (octets : List ℕ) (constructor : ℕ → ℕ → Option (ElementForm × ℕ)) (constructor_reader : ℕ → List ℕ → Read Constructor) (element : ElementForm → Passes) (reader : Constructor → ℕ → List ℕ → Read Seen) (n k at to : ℕ)
    → ConstructorLeaves octets constructor constructor_reader → ElementLeaves octets element reader → at ≤ to → to ≤ length octets
    → Ends to (past_elements constructor element n at to) (elements_at constructor_reader reader n k (window octets at to))
unfolding past_elements elements_at
elements_end_at octets constructor constructor_reader element reader n k at to forms each order room =
    rw (none_left octets at to order room) (elements_if to (n == 0 && at == to) _ _ (elements_by octets element reader n k at to (constructor at to) (constructor_reader k (window octets at to)) room each (forms k at to order room)))

array_last : (octets : List ℕ) (k at end to : ℕ) (rest : List ℕ) (r : Option ℕ) (s : Result Part ValueFault) → rest ≡ window octets end to → at ≤ end → end ≤ to → Ends end r s
    → Leaves octets at to r (in_array k s >>> λ array. Ok (array, rest))
array_last octets k at end to rest None (Err d) same order below is = tt
array_last octets k at end to rest None (Ok x) same order below is = absurd is
array_last octets k at end to rest (Some next) (Err d) same order below is = absurd is
array_last octets k at end to rest (Some next) (Ok x) same order below is = (rw is same, omega (arith, is, order), omega (arith, is, below))

array_by : (octets : List ℕ) (constructor : ℕ → ℕ → Option (ElementForm × ℕ)) (constructor_reader : ℕ → List ℕ → Read Constructor) (element : ElementForm → Passes) (reader : Constructor → ℕ → List ℕ → Read Seen)
    → ConstructorLeaves octets constructor constructor_reader → ElementLeaves octets element reader → (k at to : ℕ) (r : Option (ℕ × ℕ × ℕ)) (s : Read (ℕ × List ℕ)) → to ≤ length octets → CountedCut octets at to r s
    → Leaves octets at to (r >>= λ counted. past_elements constructor element counted.0 counted.1 counted.2)
    (s >>> λ counted. in_array k (elements_at constructor_reader reader counted.0.0 k counted.0.1) >>> λ array. Ok (array, counted.1))
array_by octets constructor constructor_reader element reader forms each k at to None (Err d) room is = tt
array_by octets constructor constructor_reader element reader forms each k at to None (Ok x) room is = absurd is
array_by octets constructor constructor_reader element reader forms each k at to (Some c) (Err d) room is = absurd is
array_by octets constructor constructor_reader element reader forms each k at to (Some c) (Ok x) room is =
    rw (is.0, is.1) (array_last octets k at c.2 to x.1 (past_elements constructor element c.0 c.1 c.2) (elements_at constructor_reader reader c.0 k (window octets c.1 c.2)) is.2 (omega (arith, is.3, is.4)) is.5
    (elements_end_at octets constructor constructor_reader element reader c.0 k c.1 c.2 forms each is.4 (omega (arith, is.5, room))))

pub array_leaves : (octets : List ℕ) (constructor : ℕ → ℕ → Option (ElementForm × ℕ)) (constructor_reader : ℕ → List ℕ → Read Constructor) (element : ElementForm → Passes) (reader : Constructor → ℕ → List ℕ → Read Seen)
    → ConstructorLeaves octets constructor constructor_reader → ElementLeaves octets element reader → (width : SizeWidth) (k at to : ℕ) → at ≤ to → to ≤ length octets
    → Leaves octets at to (past_array constructor element width octets at to) (array_at constructor_reader reader width k (window octets at to))
unfolding past_array array_at
array_leaves octets constructor constructor_reader element reader forms each width k at to order room =
    array_by octets constructor constructor_reader element reader forms each k at to (counted_in width octets at to) (counted_at width k (window octets at to)) room (counted_cut octets width k at to order room)
