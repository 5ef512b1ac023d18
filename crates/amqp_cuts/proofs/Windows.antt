-- Octets from one offset up to another, in parts.
use Rattle.std.proofs.Common.{◌≡◌, refl, sym, ap, ◌∙◌, ℕ, ◌+◌, ◌-◌, ◌≤◌, ◌<◌, List, [], ◌∷◌, ◌++◌, length, set, take, drop, arith}
use Rattle.std.specs.Prelude.{slice_index}
use Rattle.std.proofs.lemmas.List.{length-take, length-drop, take-append-drop, take-take, drop-take, drop-drop, take_more, take_more_set, get_or-drop}
use Rattle.amqp_cuts.specs.Offsets.{window}

pub window_len : (octets : List ℕ) (at to : ℕ) → to ≤ length octets → length (window octets at to) ≡ to - at
window_len octets at to within = omega (arith, length-take (to - at) (drop at octets), length-drop at octets)

-- the octets up to an offset between, and those from there on
pub window_front : (octets : List ℕ) (at mid to : ℕ) → mid ≤ to → take (mid - at) (window octets at to) ≡ window octets at mid
window_front octets at mid to le = take-take (mid - at) (to - at) (drop at octets) (omega arith)

pub window_rest : (octets : List ℕ) (at mid to : ℕ) → at ≤ mid → mid ≤ to → drop (mid - at) (window octets at to) ≡ window octets mid to
window_rest octets at mid to ge le =
    let whole : to - at ≡ (mid - at) + (to - mid) = omega arith in
    let there : at + (mid - at) ≡ mid = omega arith in
    ap (λ (n : ℕ). drop (mid - at) (take n (drop at octets))) whole
    ∙ drop-take (mid - at) (to - mid) (drop at octets)
    ∙ ap (take (to - mid)) (drop-drop (mid - at) at octets ∙ ap (λ (n : ℕ). drop n octets) there)

pub window_split : (octets : List ℕ) (at mid to : ℕ) → at ≤ mid → mid ≤ to → window octets at to ≡ window octets at mid ++ window octets mid to
window_split octets at mid to ge le =
    sym (take-append-drop (mid - at) (window octets at to))
    ∙ ap (λ (t : List ℕ). t ++ drop (mid - at) (window octets at to)) (window_front octets at mid to le)
    ∙ ap (λ (t : List ℕ). window octets at mid ++ t) (window_rest octets at mid to ge le)

-- one octet more
pub window_more : (octets : List ℕ) (at count : ℕ) → at + count < length octets → window octets at (at + (count + 1)) ≡ window octets at (at + count) ++ slice_index octets (at + count) ∷ []
window_more octets at count within =
    let longer : at + (count + 1) - at ≡ count + 1 = omega arith in
    let long : at + count - at ≡ count = omega arith in
    let there : count < length (drop at octets) = omega (arith, length-drop at octets) in
    rw (longer, long) (take_more (drop at octets) count 0 there ∙ ap (λ (b : ℕ). take count (drop at octets) ++ b ∷ []) (get_or-drop at octets count 0))

-- the first octet, and those behind it
pub window_cons : (octets : List ℕ) (at to : ℕ) → at < to → to ≤ length octets → window octets at to ≡ slice_index octets at ∷ window octets (at + 1) to
window_cons octets at to lt within =
    let one : at + (0 + 1) ≡ at + 1 = omega arith in
    let none : at + 0 ≡ at = omega arith in
    let empty : at - at ≡ 0 = omega arith in
    let first : window octets at (at + 1) ≡ slice_index octets at ∷ [] =
    ap (window octets at) (sym one) ∙ window_more octets at 0 (omega arith) ∙ rw (none, empty) refl in
    window_split octets at (at + 1) to (omega arith) (omega arith) ∙ ap (λ (t : List ℕ). t ++ window octets (at + 1) to) first

-- the front of octets up to an offset is that of all behind their place
pub window_take : (octets : List ℕ) (at to count : ℕ) → count ≤ to - at → take count (window octets at to) ≡ take count (drop at octets)
window_take octets at to count le = take-take count (to - at) (drop at octets) le

pub window_empty : (octets : List ℕ) (at to : ℕ) → to ≤ at → window octets at to ≡ []
window_empty octets at to le =
    let none : to - at ≡ 0 = omega arith in
    ap (λ (n : ℕ). take n (drop at octets)) none

-- octets that are copied, one more
pub octet_copied : (octets copy : List ℕ) (at count octet : ℕ) → count < length copy → at + count < length octets → take count copy ≡ window octets at (at + count) → octet ≡ slice_index octets (at + count)
    → take (count + 1) (set copy count octet) ≡ window octets at (at + (count + 1))
octet_copied octets copy at count octet fits there same is =
    take_more_set copy count octet fits ∙ ap (λ (t : List ℕ). t ++ octet ∷ []) same ∙ ap (λ (b : ℕ). window octets at (at + count) ++ b ∷ []) is ∙ sym (window_more octets at count there)
