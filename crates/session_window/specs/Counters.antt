-- What the windows of a session are counted from, and what they come to.
use Rattle.std.specs.Prelude.{ℕ, ◌≡◌, List, ◌∷◌}
use Rattle.flow_counts.specs.declared.events.WindowEvent.{WindowEvent}
use Rattle.flow_counts.specs.Window.{next_id, window}
use Rattle.flow_counts.specs.GivenWindow.{next_incoming_id, given_window}

-- The numbers with which a session begins: the ids of the first transfer to the client and of the first from it, and
-- the incoming-window of the client's begin (part 2 of the standard, section 2.5.6).
pub record Opening : Type 0 where
  pub first_outgoing_id : ℕ
  pub first_incoming_id : ℕ
  pub their_window : ℕ

abbrev pub opening : ℕ → ℕ → ℕ → Opening
opening first_out first_in theirs = record { first_outgoing_id = first_out; first_incoming_id = first_in; their_window = theirs }

-- What a session has come to: the ids of its next transfers, how many may still be sent, and how many the client may
-- still send. The first id is kept for flows that do not say which transfer the client expects.
pub record Counters : Type 0 where
  pub first_outgoing_id : ℕ
  pub next_outgoing_id : ℕ
  pub next_incoming_id : ℕ
  pub left : ℕ
  pub given : ℕ

-- ---- the counts over a session's own events, the newest first

abbrev pub next_outgoing : Opening → List WindowEvent → ℕ
next_outgoing begun past = next_id begun.first_outgoing_id past

abbrev pub next_incoming : Opening → List WindowEvent → ℕ
next_incoming begun past = next_incoming_id begun.first_incoming_id past

abbrev pub remote_window : Opening → List WindowEvent → ℕ
remote_window begun past = window begun.first_outgoing_id begun.their_window past

abbrev pub given_left : Opening → List WindowEvent → ℕ
given_left begun past = given_window past

abbrev pub counted : Opening → List WindowEvent → Counters
counted begun past = record {
  first_outgoing_id = begun.first_outgoing_id;
  next_outgoing_id = next_outgoing begun past;
  next_incoming_id = next_incoming begun past;
  left = remote_window begun past;
  given = given_left begun past;
}

-- Whichever events came before: where the earlier counters are their counts, the later ones are the counts with this
-- event in front.
abbrev pub CountsOneMore : Counters → Counters → WindowEvent → Type 0
CountsOneMore earlier later event =
    (begun : Opening) (past : List WindowEvent) → earlier ≡ counted begun past → later ≡ counted begun (event ∷ past)

-- Whichever events came before: where the counters are their counts, the number is this count of them.
abbrev pub IsCount : Counters → ℕ → (Opening → List WindowEvent → ℕ) → Type 0
IsCount counters number count =
    (begun : Opening) (past : List WindowEvent) → counters ≡ counted begun past → number ≡ count begun past
