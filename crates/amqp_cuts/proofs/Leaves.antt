-- Values of fixed width and text are passed over by their offsets as they are read where they lie side by side.
use Rattle.std.proofs.Common.{◌≡◌, refl, ap, subst, ◌∙◌, inl, inr, rules, ℕ, zero, suc, ◌+◌, ◌-◌, ◌≤◌, ◌<◌, Bool, true, false, cond, List, [], ◌∷◌, length, Option, Some, None, Result, Ok, Err, arith}
use Rattle.std.specs.Prelude.{nat_lt, ◌==◌, slice_index, ◌⊎◌}
use Rattle.std.proofs.lemmas.Bool.{ltb-false, le-ltb, lt-ltb, ltb-true, ne_eqb}
use Rattle.byteorder.specs.Endian.{big_number}
use Rattle.amqp_types.specs.declared.fault.ValueFault.{ValueFault}
use Rattle.amqp_types.specs.declared.fault.ValueFaultKind.TheVariants as kinds
use Rattle.amqp_types.specs.declared.code.SizeWidth.{SizeWidth}
use Rattle.amqp_types.specs.declared.code.Scalar.{Scalar}
use Rattle.amqp_types.specs.declared.code.Scalar.TheVariants as scalars
use Rattle.amqp_types.specs.declared.code.Text.{Text}
use Rattle.amqp_types.specs.Codes.{takes_any, width_of}
use Rattle.amqp_types.specs.Part.{Part, Sized}
use Rattle.amqp_types.specs.Reading.{◌>>=◌ as ◌>>>◌, Read, fault, octets_at, sized_at, placed, scalar_of, is_text, fixed_at, text_at}
use Rattle.amqp_cuts.specs.declared.layout.ElementForm.{ElementForm}
use Rattle.amqp_cuts.specs.Layout.{layout_of_scalar}
use Rattle.amqp_cuts.specs.Offsets.{◌>>=◌, window, octet_in, past, sized_in}
use Rattle.amqp_cuts.specs.Passing.{Passes, past_boolean, past_text, past_data_by}
use Rattle.amqp_cuts.proofs.Windows.{window_cons, window_empty}
use Rattle.amqp_cuts.proofs.Pieces.{Cut, SizedCut, cut, sized_cut}

-- the same octets are left, or none are read
abbrev pub Leaves : {A : Type 0} → List ℕ → ℕ → ℕ → Option ℕ → Read A → Type 0
Leaves octets at to None (Err d) = Unit {0}
Leaves octets at to None (Ok x) = ⊥
Leaves octets at to (Some next) (Err d) = ⊥
Leaves octets at to (Some next) (Ok x) = (x.1 ≡ window octets next to) × (at ≤ next) × (next ≤ to)

-- the same behind items
abbrev pub LeavesRest : List ℕ → ℕ → ℕ → Option ℕ → Result (List ℕ) ValueFault → Type 0
LeavesRest octets at to None (Err d) = Unit {0}
LeavesRest octets at to None (Ok rest) = ⊥
LeavesRest octets at to (Some next) (Err d) = ⊥
LeavesRest octets at to (Some next) (Ok rest) = (rest ≡ window octets next to) × (at ≤ next) × (next ≤ to)

pub leaves_from : {A : Type 0} (octets : List ℕ) (at next to : ℕ) (r : Option ℕ) (s : Read A) → at ≤ next → Leaves octets next to r s → Leaves octets at to r s
leaves_from octets at next to None (Err d) le is = tt
leaves_from octets at next to None (Ok x) le is = absurd is
leaves_from octets at next to (Some last) (Err d) le is = absurd is
leaves_from octets at next to (Some last) (Ok x) le is = (is.0, omega (arith, is.1, le), is.2)

pub rest_from : (octets : List ℕ) (at next to : ℕ) (r : Option ℕ) (s : Result (List ℕ) ValueFault) → at ≤ next → LeavesRest octets next to r s → LeavesRest octets at to r s
rest_from octets at next to None (Err d) le is = tt
rest_from octets at next to None (Ok x) le is = absurd is
rest_from octets at next to (Some last) (Err d) le is = absurd is
rest_from octets at next to (Some last) (Ok x) le is = (is.0, omega (arith, is.1, le), is.2)

pub nat_cases : (m n : ℕ) → (m < n) ⊎ (n ≤ m)
nat_cases m n = way (nat_lt m n) refl
  where
    way : (b : Bool) → nat_lt m n ≡ b → (m < n) ⊎ (n ≤ m)
    way true e = inl (ltb-true _ _ e)
    way false e = inr (ltb-false _ _ e)

-- ---- types of fixed width, and text

any_said : (scalar : Scalar) (octets : List ℕ) → takes_any scalar ≡ true → (part : Part) × (scalar_of scalar octets ≡ Ok part)
unfolding scalar_of
any_said scalars.Boolean octets any = absurd cc
any_said other octets any = (_, refl)

fixed_by : (octets : List ℕ) (scalar : Scalar) (k at to : ℕ) (r : Option ℕ) (s : Read (List ℕ)) → takes_any scalar ≡ true → Cut octets (width_of scalar) at to r s
    → Leaves octets at to r (s >>> λ octets. placed k (scalar_of scalar octets.0) >>> λ part. Ok (part, octets.1))
fixed_by octets scalar k at to None (Err d) any is = tt
fixed_by octets scalar k at to None (Ok x) any is = absurd is
fixed_by octets scalar k at to (Some next) (Err d) any is = absurd is
fixed_by octets scalar k at to (Some next) (Ok x) any is = rw (any_said scalar x.0 any).1 (is.2, omega (arith, is.0), is.3)

pub past_one : (at to : ℕ) → at < to → past 1 at to ≡ Some (at + 1)
unfolding past
past_one at to lt =
    let enough : nat_lt (to - at) 1 ≡ false = le-ltb _ _ (omega (arith, lt)) in
    rw enough refl

pub past_none : (at to : ℕ) → to ≤ at → past 1 at to ≡ None
unfolding past
past_none at to le =
    let few : nat_lt (to - at) 1 ≡ true = lt-ltb _ _ (omega (arith, le)) in
    rw few refl

boolean_said : (octets : List ℕ) (k at to n : ℕ) (x : List ℕ × List ℕ) → big_number 1 x.0 ≡ n → x.1 ≡ window octets (at + 1) to → at + 1 ≤ to
    → Leaves octets at to (cond (nat_lt 1 n) None (Some (at + 1))) (placed k (scalar_of scalars.Boolean x.0) >>> λ part. Ok (part, x.1))
unfolding scalar_of
boolean_said octets k at to zero x says same room = rw says (same, omega arith, room)
boolean_said octets k at to (suc zero) x says same room = rw says (same, omega arith, room)
boolean_said octets k at to (suc (suc n)) x says same room =
    let more : nat_lt 1 (suc (suc n)) ≡ true = lt-ltb _ _ (omega arith) in
    let none : (suc (suc n) == 0) ≡ false = ne_eqb _ _ (omega arith) in
    let one : (suc (suc n) == 1) ≡ false = ne_eqb _ _ (omega arith) in
    rw (says, more, none, one) tt

pub octet_alone : (n : ℕ) → big_number 1 (n ∷ []) ≡ n
octet_alone n = search rules

pub window_one : (octets : List ℕ) (at to : ℕ) → at < to → to ≤ length octets → window octets at (at + 1) ≡ slice_index octets at ∷ []
window_one octets at to lt room =
    window_cons octets at (at + 1) (omega arith) (omega (arith, lt, room)) ∙ ap (λ (t : List ℕ). slice_index octets at ∷ t) (window_empty octets (at + 1) (at + 1) (omega arith))

boolean_there : (octets : List ℕ) (k at to : ℕ) (s : Read (List ℕ)) → at < to → to ≤ length octets → Cut octets 1 at to (Some (at + 1)) s
    → Leaves octets at to (cond (nat_lt 1 (slice_index octets at)) None (Some (at + 1))) (s >>> λ octets. placed k (scalar_of scalars.Boolean octets.0) >>> λ part. Ok (part, octets.1))
boolean_there octets k at to (Err d) lt room is = absurd is
boolean_there octets k at to (Ok x) lt room is =
    boolean_said octets k at to (slice_index octets at) x (ap (big_number 1) (is.1 ∙ window_one octets at to lt room) ∙ octet_alone (slice_index octets at)) is.2 is.3

boolean_absent : (octets : List ℕ) (k at to : ℕ) (s : Read (List ℕ)) → Cut octets 1 at to None s
    → Leaves octets at to None (s >>> λ octets. placed k (scalar_of scalars.Boolean octets.0) >>> λ part. Ok (part, octets.1))
boolean_absent octets k at to (Err d) is = tt
boolean_absent octets k at to (Ok x) is = absurd is

boolean_leaves : (octets : List ℕ) (k at to : ℕ) → at ≤ to → to ≤ length octets → Leaves octets at to (past_boolean octets at to) (fixed_at scalars.Boolean k (window octets at to))
unfolding past_boolean octet_in fixed_at
boolean_leaves octets k at to order room = elim (nat_cases at to) [
  | inl lt ↦
      let there : nat_lt at to ≡ true = lt-ltb _ _ lt in
      rw there (boolean_there octets k at to (octets_at 1 k (window octets at to)) lt room (subst (λ (r : Option ℕ). Cut octets 1 at to r (octets_at 1 k (window octets at to))) (past_one at to lt) (cut octets 1 k at to order room)))
  | inr le ↦
      let absent : nat_lt at to ≡ false = le-ltb _ _ le in
      rw absent (boolean_absent octets k at to (octets_at 1 k (window octets at to)) (subst (λ (r : Option ℕ). Cut octets 1 at to r (octets_at 1 k (window octets at to))) (past_none at to le) (cut octets 1 k at to order room)))
]

pub fixed_leaves : (octets : List ℕ) (value : Passes) (constructor : ℕ → ℕ → Option (ElementForm × ℕ)) (element : ElementForm → Passes) (scalar : Scalar) (k at to : ℕ) → at ≤ to → to ≤ length octets
    → Leaves octets at to (past_data_by value constructor element octets (layout_of_scalar scalar) at to) (fixed_at scalar k (window octets at to))
unfolding past_data_by fixed_at
fixed_leaves octets value constructor element scalars.Boolean k at to order room = boolean_leaves octets k at to order room
fixed_leaves octets value constructor element other k at to order room =
    fixed_by octets other k at to (past (width_of other) at to) (octets_at (width_of other) k (window octets at to)) refl (cut octets (width_of other) k at to order room)

text_if : (octets : List ℕ) (text : Text) (k at to first end : ℕ) (rest : List ℕ) (is : Bool) → at ≤ first → first ≤ end → end ≤ to → rest ≡ window octets end to
    → Leaves {A = Part} octets at to (cond is (Some end) None) (cond is (Ok (Sized text (window octets first end), rest)) (fault kinds.BadText k))
text_if octets text k at to first end rest true order mid below same = (same, omega (arith, order, mid), below)
text_if octets text k at to first end rest false order mid below same = tt

text_by : (octets : List ℕ) (text : Text) (k at to : ℕ) (r : Option (ℕ × ℕ)) (s : Read (List ℕ)) → SizedCut octets at to r s
    → Leaves octets at to (r >>= λ sized. cond (is_text text (window octets sized.0 sized.1)) (Some sized.1) None)
    (s >>> λ octets. cond (is_text text octets.0) (Ok (Sized text octets.0, octets.1)) (fault kinds.BadText k))
text_by octets text k at to None (Err d) is = tt
text_by octets text k at to None (Ok x) is = absurd is
text_by octets text k at to (Some p) (Err d) is = absurd is
text_by octets text k at to (Some p) (Ok x) is = rw is.0 (text_if octets text k at to p.0 p.1 x.1 (is_text text (window octets p.0 p.1)) is.2 is.3 is.4 is.1)

pub text_leaves : (octets : List ℕ) (text : Text) (width : SizeWidth) (k at to : ℕ) → at ≤ to → to ≤ length octets → Leaves octets at to (past_text text width octets at to) (text_at text width k (window octets at to))
unfolding past_text text_at
text_leaves octets text width k at to order room =
    text_by octets text k at to (sized_in width octets at to) (sized_at width k (window octets at to)) (sized_cut octets width k at to order room)
