-- The octets that a script tells, as they are put together.
use Rattle.std.proofs.Common.{◌≡◌, ℕ, ◌+◌, ◌-◌, ◌≤◌, ◌<◌, ◌⊎◌, inl, inr, List, [], ◌∷◌, ◌++◌, take, drop, length, get_or, sym, ap, ◌∙◌, append_assoc, arith}
use Rattle.std.specs.List.{concat}
use Rattle.std.proofs.lemmas.List.{take-append-le, take_all, drop_all, length-append, length-take}
use Rattle.std.proofs.Math.Seq.{take-append-add, drop-append-add}
use Prim.{yes, no}
use native.Mathlib.Decide.{dec_le}
use Rattle.conn_engine.specs.declared.script.Own.{Own}
use Rattle.conn_engine.specs.declared.script.Script.{Script}
use Rattle.conn_engine.specs.Scripts.{laced, octets_taken}

-- ---- octets of frames

-- all octets in front are put, and then some of those behind
put_on : (out octets behind : List ℕ) (n k : ℕ) → n ≡ length octets + k → (out ++ octets) ++ take k behind ≡ out ++ take n (octets ++ behind)
put_on out octets behind n k is = append_assoc out octets (take k behind) ∙ ap (λ (t : List ℕ). out ++ t) (sym (take-append-add octets behind k) ∙ ap (λ (m : ℕ). take m (octets ++ behind)) (sym is))

left_on : (octets behind : List ℕ) (n k : ℕ) → n ≡ length octets + k → drop k behind ≡ drop n (octets ++ behind)
left_on octets behind n k is = sym (drop-append-add octets behind k) ∙ ap (λ (m : ℕ). drop m (octets ++ behind)) (sym is)

-- the first frame, and the others
next_frame : (frames : List (List ℕ)) (octets : List ℕ) → 1 ≤ length frames → octets ≡ get_or frames 0 octets → octets ++ concat (take (length frames - 1) (drop 1 frames)) ≡ concat frames
next_frame [] octets some is = absurd (omega (arith, some))
next_frame (frame ∷ frames) octets some is =
    let all : length frames ≤ length (frame ∷ frames) - 1 = omega arith in
    ap (λ (t : List (List ℕ)). octets ++ concat t) (take_all (length (frame ∷ frames) - 1) frames all) ∙ ap (λ (t : List ℕ). t ++ concat frames) is

-- a frame's octets were put, and the next is taken
pub put_frame : (out octets frame all : List ℕ) (frames : List (List ℕ)) (n : ℕ) → length octets < n → 1 ≤ length frames → frame ≡ get_or frames 0 frame → out ++ take n (octets ++ concat frames) ≡ all
    → (out ++ octets) ++ take (n - length octets) (frame ++ concat (take (length frames - 1) (drop 1 frames))) ≡ all
put_frame out octets frame all frames n more some is was =
    let parts : n ≡ length octets + (n - length octets) = omega (arith, more) in
    ap (λ (t : List ℕ). (out ++ octets) ++ take (n - length octets) t) (next_frame frames frame some is) ∙ put_on out octets (concat frames) n (n - length octets) parts ∙ was

pub left_frame : (octets frame all : List ℕ) (frames : List (List ℕ)) (n : ℕ) → length octets < n → 1 ≤ length frames → frame ≡ get_or frames 0 frame → drop n (octets ++ concat frames) ≡ all
    → drop (n - length octets) (frame ++ concat (take (length frames - 1) (drop 1 frames))) ≡ all
left_frame octets frame all frames n more some is was =
    let parts : n ≡ length octets + (n - length octets) = omega (arith, more) in
    ap (λ (t : List ℕ). drop (n - length octets) t) (next_frame frames frame some is) ∙ left_on octets (concat frames) n (n - length octets) parts ∙ was

-- ---- all of them

-- as many octets of frames as are left to the count
cut_by : (octets framed : List ℕ) (n : ℕ) → (n ≤ length octets) ⊎ (length octets ≤ n) → take n (octets ++ take (n - length octets) framed) ≡ take n (octets ++ framed)
cut_by octets framed n (inl few) = take-append-le n octets (take (n - length octets) framed) few ∙ sym (take-append-le n octets framed few)
cut_by octets framed n (inr more) =
    let parts : n ≡ length octets + (n - length octets) = omega (arith, more) in
    let fits : length (octets ++ take (n - length octets) framed) ≤ n = rw (length-append octets (take (n - length octets) framed), length-take (n - length octets) framed) (omega (arith, more)) in
    take_all n (octets ++ take (n - length octets) framed) fits ∙ sym (take-append-add octets framed (n - length octets)) ∙ ap (λ (m : ℕ). take m (octets ++ framed)) (sym parts)

either : (n m : ℕ) → (n ≤ m) ⊎ (m ≤ n)
either n m = elim (dec_le n m) [ yes is ↦ inl is | no not ↦ inr (omega (arith, not)) ]

pub all_put : (script : Script) (frames : List (List ℕ)) (i k : ℕ) (octets framed octets_then : List ℕ) → length script.owns.items ≤ i → k ≡ script.taken - length octets
    → octets ++ laced (drop i script.owns.items) framed ≡ laced script.owns.items (concat frames) → octets_then ≡ octets ++ take k framed → take script.taken octets_then ≡ octets_taken script frames
unfolding octets_taken
all_put script frames i k octets framed octets_then whole rest was put =
    ap (λ (t : List ℕ). take script.taken t) (put ∙ ap (λ (m : ℕ). octets ++ take m framed) rest) ∙ cut_by octets framed script.taken (either script.taken (length octets))
    ∙ ap (λ (t : List ℕ). take script.taken t) (ap (λ (t : List Own). octets ++ laced t framed) (sym (drop_all i script.owns.items whole)) ∙ was)
