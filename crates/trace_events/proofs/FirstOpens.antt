-- The client's first open settles how long frames may be.
use Rattle.std.proofs.Common.{◌≡◌, refl, sym, ap, ◌∙◌, ℕ, Bool, true, false, ◌&&◌, ◌||◌, List, [], ◌∷◌, Option, Some, None, is_some, if◌then◌else◌, ◌==◌}
use Rattle.amqp_perf.specs.Meaning.{OpenFields}
use Rattle.capture_form.specs.declared.records.Record.{Record}
use Rattle.capture_form.specs.Rules.{RuleSet}
use Rattle.trace_events.specs.Words.{or_else}
use Rattle.trace_events.specs.Event.{Event}
use Rattle.trace_events.specs.Said.{in_open}
use Rattle.trace_events.specs.Connection.{has_in_open, first_open, frame_limit}
use Rattle.trace_events.specs.History.{judge, continued}
use Rattle.trace_events.proofs.ConnectionSteps.{first_open-later, frame_limit-later, has_in_open-stays}

-- an open of the client stands just where there is a first one
first_by : (own : Bool) (here earlier : Option OpenFields) → is_some here && own || is_some earlier ≡ is_some (or_else earlier (if own then here else None))
first_by true None None = refl
first_by true (Some x) None = refl
first_by false None None = refl
first_by false (Some x) None = refl
first_by true None (Some y) = refl
first_by true (Some x) (Some y) = refl
first_by false None (Some y) = refl
first_by false (Some x) (Some y) = refl

pub has_in_open-first : (c : ℕ) (past : List Event) → has_in_open c past ≡ is_some (first_open c past)
has_in_open-first c [] = refl
has_in_open-first c (e ∷ past) =
    ap (λ b. is_some (in_open e) && (e.connection == c) || b) (has_in_open-first c past) ∙ first_by (e.connection == c) (in_open e) (first_open c past)

-- from then on the limit stays
some_of : {A : Type 0} (o : Option A) → is_some o ≡ true → (x : A) × (o ≡ Some x)
some_of None is = absurd cc
some_of (Some x) is = (x, refl)

pub opened-first : (c : ℕ) (past : List Event) → has_in_open c past ≡ true → (fields : OpenFields) × (first_open c past ≡ Some fields)
opened-first c past is = some_of (first_open c past) (sym (has_in_open-first c past) ∙ is)

pub frame_limit-stays : (c : ℕ) (e : Event) (past : List Event) → has_in_open c past ≡ true → frame_limit c (e ∷ past) ≡ frame_limit c past
frame_limit-stays c e past is = let first = opened-first c past is in frame_limit-later c e past first.0 first.1

pub first_open-stays : (c : ℕ) (e : Event) (past : List Event) → has_in_open c past ≡ true → first_open c (e ∷ past) ≡ first_open c past
first_open-stays c e past is = let first = opened-first c past is in first_open-later c e past first.0 first.1 ∙ sym first.1

-- whatever is recorded later
pub frame_limit-continued : (c : ℕ) (rules : RuleSet) (past : List Event) (rs : List Record) → has_in_open c past ≡ true → frame_limit c (continued rules past rs) ≡ frame_limit c past
frame_limit-continued c rules past [] is = refl
frame_limit-continued c rules past (r ∷ rs) is =
    frame_limit-continued c rules (judge rules past r ∷ past) rs (has_in_open-stays c (judge rules past r) past is) ∙ frame_limit-stays c (judge rules past r) past is
