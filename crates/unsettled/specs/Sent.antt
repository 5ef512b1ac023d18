-- What the deliveries that were sent to a client come to.
use Rattle.std.specs.Prelude.{ℕ, ◌≡◌, List, ◌∷◌}
use Rattle.flow_counts.specs.declared.events.SentEvent.{SentEvent}
use Rattle.flow_counts.specs.Covers.{outstanding}

-- Whichever events came before: where the earlier deliveries are those outstanding after them, the later ones are those
-- outstanding with this event in front.
abbrev pub CountsOneMore : List (ℕ × ℕ) → List (ℕ × ℕ) → SentEvent → Type 0
CountsOneMore earlier later event =
    (past : List SentEvent) → earlier ≡ outstanding past → later ≡ outstanding (event ∷ past)
