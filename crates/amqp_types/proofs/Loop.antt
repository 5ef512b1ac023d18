-- Going over items one after the other, as a loop does.
use Rattle.std.proofs.Common.{◌≡◌, ℕ, suc, ◌+◌, ◌-◌, ◌≤◌, ◌<◌, List, length, Option, None, Ok, Err, refl, sym, ap, subst, ◌∙◌, arith}
use Rattle.std.proofs.lemmas.List.{length-append}
use Rattle.amqp_types.specs.declared.fault.ValueFault.{ValueFault}
use Rattle.amqp_types.specs.Part.{Seen, Constructor}
use Rattle.amqp_types.specs.Reading.{seen_at, item_at, items_at}
use Rattle.amqp_types.specs.Items.{behind, ArePassed, IsPassed}
use Rattle.amqp_types.proofs.Values.{item_found, seen_found}
use Rattle.amqp_types.proofs.PassedOver.{behind_found, behind_fault}

-- the items that are left are read as the last of all
pub record GoesOver (levels : ℕ) (form : Option Constructor) (count at : ℕ) (bytes : List ℕ) (i place : ℕ) (rest : List ℕ) : Type 0 where
  pub same : items_at (item_at levels form) (count - i) place rest ≡ items_at (item_at levels form) count at bytes
  pub room : place + length rest ≡ at + length bytes

-- a value and the rest are as long as what was there
pub seen_lengths : (levels at : ℕ) (bytes : List ℕ) (x : Seen × List ℕ) → seen_at levels at bytes ≡ Ok x → length x.0.octets + length x.1 ≡ length bytes
seen_lengths levels at bytes x e =
    let front = seen_found levels at bytes x e in
    omega (arith, ap length front.parts, length-append x.0.octets x.1)

-- an item and the rest are as long as what was there
pub item_lengths : (levels : ℕ) (form : Option Constructor) (at : ℕ) (bytes : List ℕ) (x : Seen × List ℕ) → item_at levels form at bytes ≡ Ok x → length x.0.octets + length x.1 ≡ length bytes
item_lengths levels form at bytes x e =
    let found = item_found levels form at bytes x e in
    omega (arith, ap length found.0, length-append x.0.octets x.1)

pub begins : (levels : ℕ) (form : Option Constructor) (count at : ℕ) (bytes : List ℕ) → GoesOver levels form count at bytes 0 at bytes
begins levels form count at bytes =
    let all : count - 0 ≡ count = omega arith in
    record { same = ap (λ (n : ℕ). items_at (item_at levels form) n at bytes) all; room = refl }

pub goes_on : (levels : ℕ) (form : Option Constructor) (count at : ℕ) (bytes : List ℕ) (i place : ℕ) (rest : List ℕ) (x : Seen × List ℕ) → i < count → item_at levels form place rest ≡ Ok x
    → GoesOver levels form count at bytes i place rest → GoesOver levels form count at bytes (i + 1) (place + length x.0.octets) x.1
unfolding items_at
goes_on levels form count at bytes i place rest x lt e over =
    let one : count - i ≡ suc (count - (i + 1)) = omega arith in
    let step : items_at (item_at levels form) (count - i) place rest ≡ items_at (item_at levels form) (count - (i + 1)) (place + length x.0.octets) x.1 = rw (one, e) refl in
    record { same = sym step ∙ over.same; room = omega (arith, over.room, item_lengths levels form place rest x e) }

pub ends : (levels : ℕ) (form : Option Constructor) (count at : ℕ) (bytes : List ℕ) (i place : ℕ) (rest : List ℕ) (d : ValueFault) → i < count → item_at levels form place rest ≡ Err d
    → GoesOver levels form count at bytes i place rest → items_at (item_at levels form) count at bytes ≡ Err d
unfolding items_at
ends levels form count at bytes i place rest d lt e over =
    let one : count - i ≡ suc (count - (i + 1)) = omega arith in
    let step : items_at (item_at levels form) (count - i) place rest ≡ Err d = rw (one, e) refl in
    sym over.same ∙ step

pub is_done : (levels : ℕ) (form : Option Constructor) (count at : ℕ) (bytes : List ℕ) (i place : ℕ) (rest : List ℕ) → count ≤ i
    → GoesOver levels form count at bytes i place rest → items_at (item_at levels form) count at bytes ≡ Ok rest
unfolding items_at
is_done levels form count at bytes i place rest le over =
    let none : count - i ≡ 0 = omega arith in
    let step : items_at (item_at levels form) (count - i) place rest ≡ Ok rest = rw none refl in
    sym over.same ∙ step

-- going over one item more, of which the octets behind it are known
pub goes_past : (levels : ℕ) (form : Option Constructor) (count at : ℕ) (bytes : List ℕ) (i place : ℕ) (rest after : List ℕ) → i < count → behind (item_at levels form place rest) ≡ Ok after
    → GoesOver levels form count at bytes i place rest → GoesOver levels form count at bytes (i + 1) (place + (length rest - length after)) after
goes_past levels form count at bytes i place rest after lt e over =
    let x = behind_found (item_at levels form place rest) after e in
    let lengths = item_lengths levels form place rest (x.0, after) x.1 in
    let step : place + length x.0.octets ≡ place + (length rest - length after) = omega (arith, lengths) in
    subst (λ (p : ℕ). GoesOver levels form count at bytes (i + 1) p after) step (goes_on levels form count at bytes i place rest (x.0, after) lt x.1 over)

-- what is behind an item is no longer than what was there
pub behind_shorter : (levels : ℕ) (form : Option Constructor) (at : ℕ) (bytes rest : List ℕ) → behind (item_at levels form at bytes) ≡ Ok rest → length rest ≤ length bytes
behind_shorter levels form at bytes rest e =
    let x = behind_found (item_at levels form at bytes) rest e in
    omega (arith, item_lengths levels form at bytes (x.0, rest) x.1)

-- going over an item that is at fault
pub stops : (levels : ℕ) (form : Option Constructor) (count at : ℕ) (bytes : List ℕ) (i place : ℕ) (rest : List ℕ) (d : ValueFault) → i < count → behind (item_at levels form place rest) ≡ Err d
    → GoesOver levels form count at bytes i place rest → items_at (item_at levels form) count at bytes ≡ Err d
stops levels form count at bytes i place rest d lt e over = ends levels form count at bytes i place rest d lt (behind_fault (item_at levels form place rest) d e) over

-- going over values whose first octets say how long they are
pub plains_begin : (count : ℕ) (bytes : List ℕ) → ArePassed count bytes count bytes
unfolding ArePassed
plains_begin count bytes = (
  omega arith,
  λ levels at some.
      let none : at ≡ at + (length bytes - length bytes) = omega arith in
      ap (λ (p : ℕ). items_at (item_at levels None) count p bytes) none,
)

plain_step : (levels place left : ℕ) (rest after : List ℕ) → 0 < levels → IsPassed rest after
    → (length after ≤ length rest) × (items_at (item_at levels None) (suc left) place rest ≡ items_at (item_at levels None) left (place + (length rest - length after)) after)
unfolding items_at item_at IsPassed
plain_step levels place left rest after some passed =
    let x = behind_found (seen_at levels place rest) after (passed levels place some) in
    let lengths = seen_lengths levels place rest (x.0, after) x.1 in
    let step : place + length x.0.octets ≡ place + (length rest - length after) = omega (arith, lengths) in
    (omega (arith, lengths), rw x.1 (ap (λ (p : ℕ). items_at (item_at levels None) left p after) step))

pub plains_on : (count passed : ℕ) (bytes rest after : List ℕ) → passed < count → ArePassed count bytes (count - passed) rest → IsPassed rest after → ArePassed count bytes (count - (passed + 1)) after
unfolding ArePassed
plains_on count passed bytes rest after lt earlier here =
    let one : count - passed ≡ suc (count - (passed + 1)) = omega arith in
    let shorter = plain_step 1 0 0 rest after (omega arith) here in (
      omega (arith, earlier.0, shorter.0),
      λ levels at some.
          let place = at + (length bytes - length rest) in
          let on = plain_step levels (at + (length bytes - length rest)) (count - (passed + 1)) rest after some here in
          let there : at + (length bytes - length rest) + (length rest - length after) ≡ at + (length bytes - length after) = omega (arith, earlier.0, shorter.0) in
          earlier.1 levels at some
          ∙ ap (λ (n : ℕ). items_at (item_at levels None) n (at + (length bytes - length rest)) rest) one
          ∙ on.1
          ∙ ap (λ (p : ℕ). items_at (item_at levels None) (count - (passed + 1)) p after) there,
    )

pub plains_shorter : (count : ℕ) (bytes : List ℕ) (left : ℕ) (rest : List ℕ) → ArePassed count bytes left rest → length rest ≤ length bytes
unfolding ArePassed
plains_shorter count bytes left rest passed = passed.0

-- the values that are left are read as the last of all
pub plains_read : (levels at count : ℕ) (bytes : List ℕ) (left : ℕ) (rest : List ℕ) → 0 < levels → ArePassed count bytes left rest
    → items_at (item_at levels None) left (at + (length bytes - length rest)) rest ≡ items_at (item_at levels None) count at bytes
unfolding ArePassed
plains_read levels at count bytes left rest some passed = sym (passed.1 levels at some)

pub plains_all : (levels at count : ℕ) (bytes : List ℕ) (left : ℕ) (rest : List ℕ) → 0 < levels → left ≡ 0 → ArePassed count bytes left rest → items_at (item_at levels None) count at bytes ≡ Ok rest
unfolding ArePassed items_at
plains_all levels at count bytes left rest some none passed =
    let last : items_at (item_at levels None) left (at + (length bytes - length rest)) rest ≡ Ok rest = rw none refl in
    passed.1 levels at some ∙ last
