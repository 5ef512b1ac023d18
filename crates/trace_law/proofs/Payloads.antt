-- A payload read backwards is the payload, and comparing two so is comparing them.
use Rattle.std.proofs.Common.{◌≡◌, ◌∙◌, sym, ap, ℕ, ◌+◌, ◌≤◌, ◌<◌, ◌⊎◌, inl, inr, List, [], ◌∷◌, ◌++◌, length, reverse, take, drop, refl, arith, length-append, length-drop, Some, None, bytes_eq, Bool, true, false, ◌&&◌, nat_le, ◌==◌, if◌then◌else◌}
use Rattle.std.specs.List.{starts_with}
use Rattle.std.proofs.lemmas.List.{reverse-append, reverse-reverse, length-reverse, take-append-drop, length-take}
use Rattle.std.proofs.lemmas.Slice.Eq.{bytes_eq-Decides}
use Rattle.std.proofs.lemmas.Bool.Decides.{same_from_decides, Decides-like, leb_tells}
use Rattle.std.proofs.Math.Seq.{drop-append_seam}
use Rattle.trace_law.specs.declared.delivery.payload.Delivery.TheVariants as deliveries
use Rattle.trace_events.specs.Event.{Event, Incoming, Outgoing}
use Rattle.trace_events.specs.Said.{in_spoken, out_spoken}
use Rattle.trace_events.specs.Incoming as incoming
use Rattle.trace_events.specs.Outgoing as outgoing
use Rattle.trace_law.specs.Payloads.{part_of, backward, without, begins_with}

backward_test : (test : Bool) (part earlier so_far : List ℕ) → so_far ≡ reverse earlier
    → reverse (if test then part else []) ++ so_far ≡ reverse (if test then earlier ++ part else earlier)
backward_test true part earlier so_far h = rw (reverse-append, h) refl
backward_test false part earlier so_far h = h

pub backward_incoming : (d : Incoming) (past : List Event) → backward (deliveries.Incoming d.number) past ≡ reverse (incoming.payload d past)
backward_incoming d [] = refl
backward_incoming d (e ∷ past) =
    backward_test (incoming.is_part d e) (incoming.part_payload (in_spoken e)) (incoming.payload d past) _ (backward_incoming d past)

backward_outgoing_past : (j : Outgoing) (past : List Event) → backward (deliveries.Outgoing j.number) past ≡ reverse (outgoing.payload j past)
backward_outgoing_past j [] = refl
backward_outgoing_past j (e ∷ past) =
    backward_test (outgoing.is_part j e) (incoming.part_payload (out_spoken e)) (outgoing.payload j past) _ (backward_outgoing_past j past)

without_long : (whole other : List ℕ) → length other ≤ length whole → without whole other ≡ Some (drop (length other) whole)
without_long whole [] h = refl
without_long [] (octet ∷ rest) h = absurd (omega arith)
without_long (x ∷ whole) (octet ∷ rest) h = without_long whole rest (omega arith)

without_short : (whole other : List ℕ) → length whole < length other → without whole other ≡ None
without_short whole [] h = absurd (omega arith)
without_short [] (octet ∷ rest) h = refl
without_short (x ∷ whole) (octet ∷ rest) h = without_short whole rest (omega arith)

pub same_reverse : (a b : List ℕ) → bytes_eq (reverse a) (reverse b) ≡ bytes_eq a b
same_reverse a b =
    same_from_decides _ _
    (Decides-like _ (λ (h : reverse a ≡ reverse b). sym (reverse-reverse a) ∙ (ap reverse h ∙ reverse-reverse b)) (λ (h : a ≡ b). ap reverse h)
    (bytes_eq-Decides (reverse a) (reverse b)))
    (bytes_eq-Decides a b)

pub backward_outgoing : (j : Outgoing) (octets : List ℕ) (past : List Event)
    → reverse octets ++ backward (deliveries.Outgoing j.number) past ≡ reverse (outgoing.payload j past ++ octets)
backward_outgoing j octets past = rw (reverse-append, backward_outgoing_past j past) refl

-- where the whole is long enough: `front` is as long as the octets so far, and `behind` follows it
begins_seam : (behind front so_far : List ℕ) → length front ≡ length so_far
    → begins_with (behind ++ front) so_far ≡ bytes_eq front so_far
begins_seam behind front so_far h =
    let first : without (behind ++ front) so_far ≡ Some (drop (length so_far) (behind ++ front)) =
    without_long (behind ++ front) so_far (omega (arith, length-append behind front)) in
    let size : length (drop (length so_far) (behind ++ front)) ≡ length behind =
    omega (arith, length-drop (length so_far) (behind ++ front), length-append behind front) in
    let second : without (behind ++ front) (drop (length so_far) (behind ++ front)) ≡ Some front =
    without_long (behind ++ front) (drop (length so_far) (behind ++ front)) (omega (arith, length-append behind front))
    ∙ ap Some (ap (λ n. drop n (behind ++ front)) size ∙ drop-append_seam behind front) in
    rw (first, second) refl

-- where it is shorter
begins_short : (whole so_far : List ℕ) → length whole < length so_far → begins_with whole so_far ≡ false
begins_short whole so_far h = rw (without_short whole so_far h) refl

same_turned : (a b : List ℕ) → bytes_eq a b ≡ bytes_eq b a
same_turned a b =
    same_from_decides _ _ (Decides-like _ (λ (h : a ≡ b). sym h) (λ (h : b ≡ a). sym h) (bytes_eq-Decides a b)) (bytes_eq-Decides b a)

longer_differs : (a b : List ℕ) → length b < length a → bytes_eq a b ≡ false
longer_differs [] b h = absurd (omega arith)
longer_differs (x ∷ a) [] h = refl
longer_differs (x ∷ a) (y ∷ b) h = elim (x == y) as (λ t. (t && bytes_eq a b) ≡ false) [ true ↦ longer_differs a b (omega arith) | false ↦ refl ]

pub begins_reverse : (whole so_far : List ℕ) → begins_with (reverse whole) (reverse so_far) ≡ starts_with ◌==◌ whole so_far
begins_reverse whole so_far = by_size (leb_tells (length so_far) (length whole))
  where
    front : List ℕ
    front = take (length so_far) whole

    behind : List ℕ
    behind = drop (length so_far) whole

    turned : reverse whole ≡ reverse behind ++ reverse front
    turned = ap reverse (sym (take-append-drop (length so_far) whole)) ∙ reverse-append front behind

    by_size : ((nat_le (length so_far) (length whole) ≡ true) × (length so_far ≤ length whole))
        ⊎ ((nat_le (length so_far) (length whole) ≡ false) × (length whole < length so_far))
        → begins_with (reverse whole) (reverse so_far) ≡ starts_with ◌==◌ whole so_far
    by_size (inl h) =
        let fits : length so_far ≤ length whole = h.1 in
        ap (λ w. begins_with w (reverse so_far)) turned
        ∙ (begins_seam (reverse behind) (reverse front) (reverse so_far)
        (omega (arith, length-reverse front, length-reverse so_far, length-take (length so_far) whole))
        ∙ (same_reverse front so_far ∙ same_turned front so_far))
    by_size (inr h) =
        let short : length whole < length so_far = h.1 in
        begins_short (reverse whole) (reverse so_far) (omega (arith, length-reverse whole, length-reverse so_far))
        ∙ sym (longer_differs so_far front (omega (arith, length-take (length so_far) whole)))

pub length_part : (d : Incoming) (e : Event) (past : List Event)
    → length (incoming.payload d (e ∷ past)) ≡ length (incoming.payload d past) + length (part_of (deliveries.Incoming d.number) e)
length_part d e past = length_test (incoming.is_part d e) (incoming.part_payload (in_spoken e)) (incoming.payload d past)
  where
    length_test : (test : Bool) (part earlier : List ℕ)
        → length (if test then earlier ++ part else earlier) ≡ length earlier + length (if test then part else [])
    length_test true part earlier = length-append earlier part
    length_test false part earlier = omega arith
