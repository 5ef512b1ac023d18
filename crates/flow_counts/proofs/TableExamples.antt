-- Deliveries, ranges and picks with known answers.
use Rattle.std.specs.Prelude.{◌≡◌, true, false, [], ◌∷◌, Some, None, refl, codes}
use Rattle.flow_counts.specs.declared.events.SentEvent.TheVariants.{Added, Removed}
use Rattle.flow_counts.specs.Covers.{covers, covered, outstanding}
use Rattle.flow_counts.specs.Parts.{Part, Aborted, Completed, Freed, in_progress, is_in_use}
use Rattle.flow_counts.specs.Picks.{Attached, Detached, Begun, Decided, consumers, closest_rank, balanced_rank, pick_by}

-- a range goes round the end of the numbers
wraps : covers 4294967295 1 0 ≡ true
wraps = refl

wraps_up_to_its_last : covers 4294967295 1 2 ≡ false
wraps_up_to_its_last = refl

-- one whose last stands before its first covers nothing, not even these two
backward : covers 5 2 5 ≡ false
backward = refl

in_order : covered 4294967295 1 (outstanding (Removed 21 ∷ Added 20 0 ∷ Added 22 2 ∷ Added 21 1 ∷ Added 19 4294967295 ∷ [])) ≡ (19, 4294967295) ∷ (20, 0) ∷ []
in_order = refl

-- parts of two links do not mix; the number and the id are those of the first part
two_links : in_progress 5 (Part 5 19 None (codes "cd") ∷ Part 6 17 (Some 1) (codes "x") ∷ Part 5 16 (Some 0) (codes "ab") ∷ [])
    ≡ Some (record { number = 16; id = Some 0; payload = codes "abcd" })
two_links = refl

begins_anew : in_progress 5 (Part 5 18 (Some 1) (codes "b") ∷ Completed 5 ∷ Part 5 16 (Some 0) (codes "a") ∷ [])
    ≡ Some (record { number = 18; id = Some 1; payload = codes "b" })
begins_anew = refl

-- an id stays in use after its completion, and is free after an abort
completed_in_use : is_in_use 7 (Completed 5 ∷ Part 5 16 (Some 7) (codes "a") ∷ []) ≡ true
completed_in_use = refl

aborted_is_free : is_in_use 7 (Aborted 5 ∷ Part 5 17 None (codes "b") ∷ Part 5 16 (Some 7) (codes "a") ∷ []) ≡ false
aborted_is_free = refl

freed_is_free : is_in_use 7 (Freed 7 ∷ Completed 5 ∷ Part 5 16 (Some 7) (codes "a") ∷ []) ≡ false
freed_is_free = refl

-- the links of an address in the order of their attaches; one that is attached already keeps its place
attached_in_order : consumers (codes "q") (Attached 13 (codes "r") false ∷ Detached 20 ∷ Attached 27 (codes "q") true ∷ Attached 20 (codes "q") false ∷ Attached 13 (codes "q") false ∷ []) ≡ 13 ∷ 27 ∷ []
attached_in_order = refl

-- a link without a delivery comes before one whose delivery began first of all
never_is_least : pick_by closest_rank (λ _. true) (codes "q") (Begun 13 0 ∷ Attached 20 (codes "q") false ∷ Attached 13 (codes "q") false ∷ []) ≡ Some 20
never_is_least = refl

-- of equal ones the earlier attach
earlier_attach : pick_by balanced_rank (λ _. true) (codes "q") (Begun 20 31 ∷ Begun 13 30 ∷ Attached 20 (codes "q") false ∷ Attached 13 (codes "q") false ∷ []) ≡ Some 13
earlier_attach = refl

-- a pre-settled link counts none
pre_settled : pick_by balanced_rank (λ _. true) (codes "q") (Begun 20 31 ∷ Begun 13 30 ∷ Attached 20 (codes "q") true ∷ Attached 13 (codes "q") false ∷ []) ≡ Some 20
pre_settled = refl

fewest : pick_by balanced_rank (λ _. true) (codes "q") (Decided 20 ∷ Begun 20 31 ∷ Begun 13 30 ∷ Attached 20 (codes "q") false ∷ Attached 13 (codes "q") false ∷ []) ≡ Some 20
fewest = refl
