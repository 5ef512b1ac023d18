-- Why a connection may be ended, and why not.
use Rattle.std.proofs.Common.{◌≡◌, ◌⊎◌, ℕ, true, false, List, [], ◌∷◌, inl, inr, refl}
use Rattle.stream_reading.specs.Steps.{Ahead}
use Rattle.conn_engine.specs.Streams.{IsTurnedAway}
use Rattle.conn_engine.specs.Served.{HasCause, HasClose}

module _ (ahead : Ahead) (frames : List (List ℕ)) where
  -- its gate ended, whatever waits
  gone : (waiting : List ℕ) → HasCause true ahead frames waiting
  gone waiting = inl refl

  -- its client was turned away, or a close was written, and nothing waits
  turned_away : IsTurnedAway ahead → HasCause false ahead frames []
  turned_away is = inr (inl is, refl)

  closed : HasClose frames → HasCause false ahead frames []
  closed is = inr (inr is, refl)

  -- not while octets wait
  not_while_some_wait : (first : ℕ) (others : List ℕ) → HasCause false ahead frames (first ∷ others) → ⊥
  not_while_some_wait first others (inl is) = absurd cc
  not_while_some_wait first others (inr why) = let none : first ∷ others ≡ [] = why.1 in absurd cc

  -- nor without a reason
  not_for_nothing : (IsTurnedAway ahead → ⊥) → (HasClose frames → ⊥) → HasCause false ahead frames [] → ⊥
  not_for_nothing stays unclosed (inl is) = absurd cc
  not_for_nothing stays unclosed (inr why) = by why.0
    where
      by : IsTurnedAway ahead ⊎ HasClose frames → ⊥
      by (inl is) = stays is
      by (inr is) = unclosed is
