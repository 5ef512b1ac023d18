-- A link's last delivery goes, where it is one of some numbers and has an entry on the link: so with some numbers, and then others.
use Rattle.std.proofs.Common.{◌≡◌, refl, sym, ap, ◌∙◌, ℕ, Bool, true, false, ◌&&◌, ◌||◌, List, ◌∷◌, reverse, Option, Some, None, nat_eq, if◌then◌else◌, ◌==◌}
use Rattle.std.proofs.lemmas.List.Sorted.{IsPermutation-reverse, list_any-IsPermutation}
use Rattle.number_groups.specs.Numbers.{is_among}
use Rattle.trace_events.specs.Words.{is_some_and}
use Rattle.state_outgoing.specs.Sent.{Sent}
use Rattle.state_outgoing.specs.SentGrouped.{is_of_link}
use Rattle.state_outgoing.specs.SentTables.{last_without}

bits : (later : Option ℕ → Option ℕ) (n : ℕ) (a c s : Bool) → later None ≡ None → later (Some n) ≡ (if c && s then None else Some n)
    → later (if a && s then None else Some n) ≡ (if (a || c) && s then None else Some n)
bits later n true c true none some = none
bits later n true true false none some = some
bits later n true false false none some = some
bits later n false true s none some = some
bits later n false false s none some = some

pub without-more : (kept : ℕ → Option Sent) (link : ℕ) (last : Option ℕ) (first second all : ℕ → Bool) → ((n : ℕ) → all n ≡ first n || second n) → (mid next : Option ℕ)
    → mid ≡ last_without kept first link last → next ≡ last_without kept second link mid → next ≡ last_without kept all link last
without-more kept link last first second all is mid next was moved = moved ∙ (ap (last_without kept second link) was ∙ by last)
  where
    stands : ℕ → Bool
    stands n = is_some_and (kept n) (λ x. is_of_link link x.delivery)

    by : (o : Option ℕ) → last_without kept second link (last_without kept first link o) ≡ last_without kept all link o
    by None = refl
    by (Some n) =
        bits (last_without kept second link) n (first n) (second n) (stands n) refl refl ∙ ap (λ b. if b && stands n then None else Some n) (sym (is n))

-- a first number, and others in reverse
pub among-first : (k : ℕ) (ns : List ℕ) (n : ℕ) → is_among (k ∷ reverse ns) n ≡ (n == k) || is_among ns n
among-first k ns n = ap (λ b. nat_eq n k || b) (sym (list_any-IsPermutation (nat_eq n) ns (reverse ns) (IsPermutation-reverse ns)))
