-- A transfer and a disposition without fault have no direct answer.
use Rattle.std.proofs.Common.{◌≡◌, ℕ, Bool, true, false, cond, ◌||◌, List, [], Option, Some, None, refl}
use Rattle.std.specs.Prelude.{is_some, option_and_then, option_map}
use Rattle.capture_form.specs.Rules.{RuleSet}
use Rattle.amqp_perf.specs.Meaning.{Meaning, AnOpen, ABegin, AnAttach, AFlow, ATransfer, ADisposition, ADetach, AnEnd, AClose}
use Rattle.trace_events.specs.Frame.{Body, Frame, NoFrame, Empty, NoPerformative, Says, Spoken, spoken_in}
use Rattle.trace_events.specs.Words.{is_some_and}
use Rattle.trace_events.specs.Event.{Event, Moment, Opened, In, Out, Lost, Broken, in_frame}
use Rattle.trace_events.specs.Said.{as_transfer, as_disposition, in_meaning, in_transfer, in_disposition}
use Rattle.trace_duties.specs.Answer.{answer, moment_answer, body_answer, heard_answer, passed_answer}

abbrev is_unanswered : Meaning → Bool
is_unanswered (AnOpen fields) = false
is_unanswered (ABegin begin) = false
is_unanswered (AnAttach fields) = false
is_unanswered (AFlow flow) = false
is_unanswered (ATransfer fields) = true
is_unanswered (ADisposition fields) = true
is_unanswered (ADetach fields) = false
is_unanswered (AnEnd error) = false
is_unanswered (AClose error) = false

same_twice : (b : Bool) → ◌≡◌ {A = List Spoken} (cond b [] []) []
same_twice true = refl
same_twice false = refl

module _ (rules : RuleSet) (e : Event) (past : List Event) (none : e.fault ≡ None) where
  nothing_said : (channel : ℕ) (meaning : Meaning) → is_unanswered meaning ≡ true
      → cond e.is_heard (heard_answer rules e channel meaning e.fault past) (passed_answer e meaning past) ≡ []
  nothing_said channel (AnOpen fields) is = absurd cc
  nothing_said channel (ABegin begin) is = absurd cc
  nothing_said channel (AnAttach fields) is = absurd cc
  nothing_said channel (AFlow flow) is = absurd cc
  nothing_said channel (ATransfer fields) is = rw none (same_twice e.is_heard)
  nothing_said channel (ADisposition fields) is = rw none (same_twice e.is_heard)
  nothing_said channel (ADetach fields) is = absurd cc
  nothing_said channel (AnEnd error) is = absurd cc
  nothing_said channel (AClose error) is = absurd cc

  nothing_in : (body : Body) → is_some_and (option_map (λ (spoken : Spoken). spoken.meaning) (spoken_in body)) is_unanswered ≡ true → body_answer rules e body past ≡ []
  nothing_in NoFrame is = absurd cc
  nothing_in (Empty channel) is = absurd cc
  nothing_in (NoPerformative channel) is = absurd cc
  nothing_in (Says spoken) is = nothing_said spoken.channel spoken.meaning is

  nothing_at : (moment : Moment) → is_some_and (option_map (λ (spoken : Spoken). spoken.meaning) (option_and_then (λ (frame : Frame). spoken_in frame.body) (in_frame moment))) is_unanswered ≡ true
      → moment_answer rules e moment past ≡ []
  nothing_at Opened is = absurd cc
  nothing_at (In frame) is = nothing_in frame.body is
  nothing_at (Out frame) is = absurd cc
  nothing_at Lost is = absurd cc
  nothing_at Broken is = absurd cc

transfer_or_disposition : (said : Option Meaning) → is_some (option_and_then as_transfer said) || is_some (option_and_then as_disposition said) ≡ true → is_some_and said is_unanswered ≡ true
transfer_or_disposition None is = absurd cc
transfer_or_disposition (Some (AnOpen fields)) is = absurd cc
transfer_or_disposition (Some (ABegin begin)) is = absurd cc
transfer_or_disposition (Some (AnAttach fields)) is = absurd cc
transfer_or_disposition (Some (AFlow flow)) is = absurd cc
transfer_or_disposition (Some (ATransfer fields)) is = refl
transfer_or_disposition (Some (ADisposition fields)) is = refl
transfer_or_disposition (Some (ADetach fields)) is = absurd cc
transfer_or_disposition (Some (AnEnd error)) is = absurd cc
transfer_or_disposition (Some (AClose error)) is = absurd cc

-- nothing is owed for a transfer or a disposition without fault
pub nothing_owed : (rules : RuleSet) (e : Event) (past : List Event) → e.fault ≡ None → is_some (in_transfer e) || is_some (in_disposition e) ≡ true → answer rules e past ≡ []
nothing_owed rules e past none is = nothing_at rules e past none e.moment (transfer_or_disposition (in_meaning e) is)
