-- Slices, one after the other.
use Rattle.std.proofs.Common.{◌≡◌, refl, sym, ap, ◌∙◌, ℕ, ◌+◌, ◌-◌, ◌≤◌, ◌<◌, List, [], ◌++◌, length, take, drop, get_or, Bor, arith}
use Rattle.std.proofs.lemmas.List.{length-append, length-drop, drop_more, drop_all, drop-append-le, drop-drop, drop_at, take_at}
use Rattle.amqp_cuts.specs.Joined.{joined}

-- the next slice, and those behind it
pub joined_next : (parts : List (Bor (List ℕ))) (i : ℕ) (part : Bor (List ℕ)) → i < length parts → part ≡ get_or parts i part → joined (drop i parts) ≡ part.now ++ joined (drop (i + 1) parts)
joined_next parts i part lt is =
    ap joined (drop_more parts i part lt) ∙ ap (λ (p : Bor (List ℕ)). p.now ++ joined (drop (i + 1) parts)) (sym is)

pub length_next : (parts : List (Bor (List ℕ))) (i : ℕ) (part : Bor (List ℕ)) → i < length parts → part ≡ get_or parts i part → length (joined (drop i parts)) ≡ length part.now + length (joined (drop (i + 1) parts))
length_next parts i part lt is = ap length (joined_next parts i part lt is) ∙ length-append part.now (joined (drop (i + 1) parts))

drop_past : (xs ys : List ℕ) (n : ℕ) → length xs ≤ n → drop n (xs ++ ys) ≡ drop (n - length xs) ys
drop_past xs ys n le =
    let whole : n ≡ length xs + (n - length xs) = omega (arith, le) in
    ap (λ (k : ℕ). drop k (xs ++ ys)) whole ∙ sym (drop-drop (n - length xs) (length xs) (xs ++ ys)) ∙ ap (drop (n - length xs)) (drop_at xs ys (length xs) refl)

-- past a slice
pub drop_next : (parts : List (Bor (List ℕ))) (i left : ℕ) (part : Bor (List ℕ)) → i < length parts → part ≡ get_or parts i part → length part.now ≤ left
    → drop (left - length part.now) (joined (drop (i + 1) parts)) ≡ drop left (joined (drop i parts))
drop_next parts i left part lt is le = sym (ap (drop left) (joined_next parts i part lt is) ∙ drop_past part.now (joined (drop (i + 1) parts)) left le)

-- within a slice
pub drop_within : (parts : List (Bor (List ℕ))) (i left : ℕ) (part : Bor (List ℕ)) → i < length parts → part ≡ get_or parts i part → left < length part.now
    → drop left part.now ≡ take (length (drop left part.now)) (drop left (joined (drop i parts)))
drop_within parts i left part lt is le =
    sym (ap (take (length (drop left part.now))) (ap (drop left) (joined_next parts i part lt is) ∙ drop-append-le left part.now (joined (drop (i + 1) parts)) (omega (arith, le)))
    ∙ take_at (drop left part.now) (joined (drop (i + 1) parts)) (length (drop left part.now)) refl)

-- behind all slices
pub behind_all : (parts : List (Bor (List ℕ))) (i left at : ℕ) → length parts ≤ i → drop left (joined (drop i parts)) ≡ drop at (joined parts) → length (joined parts) ≤ at
behind_all parts i left at le same =
    let none : drop left (joined (drop i parts)) ≡ [] = ap (λ (t : List (Bor (List ℕ))). drop left (joined t)) (drop_all i parts le) ∙ drop_all left [] (omega arith) in
    omega (arith, length-drop at (joined parts), ap length (sym same ∙ none))
