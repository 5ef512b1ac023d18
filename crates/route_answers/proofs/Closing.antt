-- A close, behind an open where none was written, breaks no clause.
use Rattle.std.proofs.Common.{◌≡◌, refl, ℕ, ◌≤◌, Bool, true, false, List, [], ◌∷◌, length, Option, Some, None, option_map, lit≤, arith, if◌then◌else◌, ◌==◌, eq-eqb}
use Rattle.amqp_types.specs.declared.code.Text.TheVariants as texts
use Rattle.amqp_types.proofs.Shortest.{uint_long, text_long}
use Rattle.amqp_perf.specs.declared.condition.ErrorCondition.{ErrorCondition}
use Rattle.amqp_perf.specs.declared.condition.ErrorCondition.TheVariants.{FramingError, DecodeError, NotAllowed, InvalidField, HandleInUse, ResourceLimitExceeded, NotImplemented, WindowViolation, UnattachedHandle, TransferLimitExceeded, MessageSizeExceeded}
use Rattle.amqp_perf.specs.Conditions.{condition_name}
use Rattle.amqp_perf.specs.Meaning.{AnOpen, AClose, AnEnd, ADetach}
use Rattle.amqp_perf.specs.Router.{router_open, detach_with}
use Rattle.amqp_perf.specs.Writing.{error_octets, error_slots, error_value}
use Rattle.capture_form.specs.Rules.{RuleSet}
use Rattle.trace_events.specs.Event.{Event}
use Rattle.trace_events.specs.Connection.{is_over, was_opened, was_finished, has_out_frame, has_out_open}
use Rattle.trace_events.specs.Clauses.{first_broken}
use Rattle.trace_events.specs.Written.{spoken_octets, says, error_of, written_open, written_close, written_end, written_detach}
use Rattle.trace_duties.specs.Answer.{closing}
use Rattle.route_answers.specs.Writing.{writing, behind}
use Rattle.route_answers.proofs.Words.{or_left}
use Rattle.route_answers.proofs.Connections.{open_framed, unopened_unframed}
use Rattle.route_answers.proofs.Lengths.{IsWithin, slots_long, nested_long, slots_fit, fits_all, boolean_long, ushort_long}
use Rattle.route_answers.proofs.Fine.{IsFine, AreFine, open_fine, close_fine}

-- ---- how long conditions are

name_long : (condition : ErrorCondition) → length (condition_name condition) ≤ 40
name_long FramingError = lit≤ tt
name_long DecodeError = lit≤ tt
name_long NotAllowed = lit≤ tt
name_long InvalidField = lit≤ tt
name_long HandleInUse = lit≤ tt
name_long ResourceLimitExceeded = lit≤ tt
name_long NotImplemented = lit≤ tt
name_long WindowViolation = lit≤ tt
name_long UnattachedHandle = lit≤ tt
name_long TransferLimitExceeded = lit≤ tt
name_long MessageSizeExceeded = lit≤ tt

error_long : (condition : ErrorCondition) → length (error_octets (condition_name condition)) ≤ 57
error_long condition =
    nested_long 45 0x1D (error_slots (condition_name condition))
    (slots_long (45 ∷ []) (error_slots (condition_name condition)) (omega (arith, text_long texts.Symbol (condition_name condition), name_long condition), tt))

ending_long : (condition : Option ErrorCondition) → IsWithin 57 (option_map error_value (error_of condition))
ending_long None = omega arith
ending_long (Some condition) = error_long condition

pub close_fits : (channel : ℕ) (condition : Option ErrorCondition) → length (spoken_octets (says channel (AClose (error_of condition)))) ≤ 512
close_fits channel condition = slots_fit channel (AClose (error_of condition)) (57 ∷ []) (ending_long condition, tt) (omega arith)

pub end_fits : (channel : ℕ) (condition : Option ErrorCondition) → length (spoken_octets (written_end channel condition)) ≤ 512
end_fits channel condition = slots_fit channel (AnEnd (error_of condition)) (57 ∷ []) (ending_long condition, tt) (omega arith)

detach_long : (condition : Option ErrorCondition) → IsWithin 57 (option_map error_value (option_map condition_name condition))
detach_long None = omega arith
detach_long (Some condition) = error_long condition

pub detach_fits : (channel handle : ℕ) (closed : Bool) (condition : Option ErrorCondition) → length (spoken_octets (written_detach channel handle closed condition)) ≤ 512
detach_fits channel handle closed condition =
    slots_fit channel (ADetach (detach_with handle closed condition)) (5 ∷ 1 ∷ 57 ∷ []) (uint_long handle, (boolean_long closed, (detach_long condition, tt))) (omega arith)

pub open_fits : (channel : ℕ) → length (spoken_octets (says channel (AnOpen router_open))) ≤ 512
open_fits channel =
    slots_fit channel (AnOpen router_open) (16 ∷ 1 ∷ 5 ∷ 3 ∷ 1 ∷ [])
    (omega (arith, text_long texts.Str router_open.container_id), (omega arith, (uint_long 16384, (ushort_long 255, (omega arith, tt)))))
    (omega arith)

-- ---- the frames

module _ (rules : RuleSet) (c : ℕ) (past : List Event) (opened : was_opened c past ≡ true) (running : was_finished c past ≡ false) where
  -- where it has written no frame, the router's open
  pub first_fine : has_out_frame c past ≡ false → IsFine rules c past written_open
  first_fine none = open_fine rules c 0 past opened running none (fits_all c past (spoken_octets written_open) (open_fits 0))

  abbrev begun : List Event
  begun = writing rules c past written_open ∷ past

  framed : has_out_frame c begun ≡ true
  framed = or_left (c == c) (has_out_frame c past) (eq-eqb c c refl)

  module _ (lawful : first_broken rules past ≡ None) (condition : Option ErrorCondition) where
    closing_by : (b : Bool) → has_out_open c past ≡ b → AreFine rules c (if b then written_close condition ∷ [] else written_open ∷ written_close condition ∷ []) past
    closing_by true is = (close_fine rules c 0 past opened running (open_framed c past is) (error_of condition) (fits_all c past (spoken_octets (written_close condition)) (close_fits 0 condition)), tt)
    closing_by false is = (
      first_fine (unopened_unframed rules c past lawful is),
      (close_fine rules c 0 begun opened running framed (error_of condition) (fits_all c begun (spoken_octets (written_close condition)) (close_fits 0 condition)), tt),
    )

    pub closing_fine : AreFine rules c (closing c condition past) past
    closing_fine = closing_by (has_out_open c past) refl

    -- it ends the connection
    over_by : (b : Bool) → is_over c (behind rules c (if b then written_close condition ∷ [] else written_open ∷ written_close condition ∷ []) past) ≡ true
    over_by true = or_left (c == c) (is_over c past) (eq-eqb c c refl)
    over_by false = or_left (c == c) (is_over c begun) (eq-eqb c c refl)

    pub closing_over : is_over c (behind rules c (closing c condition past) past) ≡ true
    closing_over = over_by (has_out_open c past)
