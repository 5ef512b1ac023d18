-- The idle-time-out of the first open, behind steps more.
use Rattle.std.proofs.Common.{◌≡◌, ℕ, true, List, [], ◌∷◌, ◌++◌, refl, sym, ap, ◌∙◌, Option, Some, None}
use Rattle.stream_reading.specs.Steps.{StepText}
use Rattle.conn_engine.specs.Silence.{is_asked, time_out_after, time_out_at}

pub time_out_all : (time_out : Option ℕ) (steps more : List StepText) → time_out_after time_out (steps ++ more) ≡ time_out_after (time_out_after time_out steps) more
time_out_all time_out [] more = refl
time_out_all time_out (step ∷ steps) more = time_out_all (time_out_at time_out step.event step.octets) steps more

-- of two runs of steps
pub time_out_on : (before mid after : Option ℕ) (steps more : List StepText) → mid ≡ time_out_after before steps → after ≡ time_out_after mid more → after ≡ time_out_after before (steps ++ more)
time_out_on before mid after steps more first then = then ∙ ap (λ (t : Option ℕ). time_out_after t more) first ∙ sym (time_out_all before steps more)

-- the first one stays
time_out_stays : (time_out : ℕ) (steps : List StepText) → time_out_after (Some time_out) steps ≡ Some time_out
time_out_stays time_out [] = refl
time_out_stays time_out (step ∷ steps) = time_out_stays time_out steps

-- so a client that asks does so for good
pub asks_on : (before after : Option ℕ) (steps : List StepText) → after ≡ time_out_after before steps → is_asked before ≡ true → is_asked after ≡ true
asks_on None after steps is asks = absurd cc
asks_on (Some time_out) after steps is asks = ap is_asked (is ∙ time_out_stays time_out steps) ∙ asks
