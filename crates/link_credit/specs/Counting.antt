-- What it is for counters to be the counts over a link's own events, the newest first, where the attach of the
-- deliveries' sender had the first delivery-count.
use Rattle.std.specs.Prelude.{ℕ, ◌≡◌, List, ◌∷◌}
use Rattle.flow_counts.specs.Credit.{LinkEvent}

-- Whichever events came before: where the earlier counters are their counts, the later ones are the counts with this
-- event in front.
abbrev pub CountsOneMore : {C : Type 0} → (ℕ → List LinkEvent → C) → C → C → LinkEvent → Type 0
CountsOneMore counted earlier later event =
    (first : ℕ) (past : List LinkEvent) → earlier ≡ counted first past → later ≡ counted first (event ∷ past)

-- Whichever events came before: where the counters are their counts, the answer is this count of them.
abbrev pub IsCount : {C A : Type 0} → (ℕ → List LinkEvent → C) → C → A → (ℕ → List LinkEvent → A) → Type 0
IsCount counted counters answer count = (first : ℕ) (past : List LinkEvent) → counters ≡ counted first past → answer ≡ count first past
