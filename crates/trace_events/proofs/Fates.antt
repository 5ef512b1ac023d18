-- What becomes of an incoming delivery: one thing at a time, and once for good.
use Rattle.std.proofs.Common.{◌≡◌, refl, List, ◌∷◌, Bool, true, false, not, ◌&&◌, ◌||◌}
use Rattle.capture_form.specs.Rules.{RuleSet}
use Rattle.trace_events.specs.Event.{Event, Incoming}
use Rattle.trace_events.specs.Incoming.{is_complete, is_settled, is_told, is_aborted}
use Rattle.trace_events.specs.Waiting.{is_unpaired, is_waiting, is_gone, always_had_consumer}

either : (b c : Bool) → (b && c) && (b && not c) ≡ false
either true true = refl
either true false = refl
either false c = refl

-- no delivery both waits and is gone
pub not_both : (rules : RuleSet) (d : Incoming) (past : List Event) → is_waiting rules d past && is_gone rules d past ≡ false
not_both rules d past = either (is_unpaired rules d past) (always_had_consumer d past)

or-true : (b c : Bool) → c ≡ true → b || c ≡ true
or-true true c e = refl
or-true false c e = e

-- what is told, settled, complete or aborted stays so
pub told-stays : (d : Incoming) (e : Event) (past : List Event) → is_told d past ≡ true → is_told d (e ∷ past) ≡ true
told-stays d e past is = or-true _ (is_told d past) is

pub settled-stays : (d : Incoming) (e : Event) (past : List Event) → is_settled d past ≡ true → is_settled d (e ∷ past) ≡ true
settled-stays d e past is = or-true _ (is_settled d past) is

pub complete-stays : (d : Incoming) (e : Event) (past : List Event) → is_complete d past ≡ true → is_complete d (e ∷ past) ≡ true
complete-stays d e past is = or-true _ (is_complete d past) is

pub aborted-stays : (d : Incoming) (e : Event) (past : List Event) → is_aborted d past ≡ true → is_aborted d (e ∷ past) ≡ true
aborted-stays d e past is = or-true _ (is_aborted d past) is
