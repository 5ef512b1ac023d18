-- What an answer keeps: the law, the limit of the client, and the duties of a router (own rules).
use Rattle.std.specs.Prelude.{◌≡◌, ◌≤◌, ◌<◌, ◌^◌, ℕ, Bool, true, false, ◌&&◌, ◌||◌, not, List, [], ◌∷◌, length, None, is_some}
use Rattle.capture_form.specs.Rules.{RuleSet}
use Rattle.trace_events.specs.Frame.{Spoken}
use Rattle.trace_events.specs.Event.{Event, Moment, Opened, Out, is_lost}
use Rattle.trace_events.specs.Said.{in_transfer, in_disposition}
use Rattle.trace_events.specs.Connection.{has_event, is_over, was_opened, has_in_open, has_out_frame, frame_limit}
use Rattle.trace_events.specs.Clauses.{broken_clause, first_broken}
use Rattle.trace_events.specs.Written.{spoken_octets}
use Rattle.trace_duties.specs.Answer.{answer}
use Rattle.trace_duties.specs.Diligent.{moment_keeps, is_answered}
use Rattle.trace_duties.specs.Turn.{stands_in_turn}
use Rattle.route_answers.specs.Writing.{writing, behind}

-- ---- before an input

-- the device of the connection ended or failed
abbrev pub was_lost : ℕ → List Event → Bool
was_lost c past = has_event c (λ e. is_lost e.moment) past

-- what a client may do: open a connection, or use one that was opened and is not lost
abbrev pub may_happen : ℕ → Moment → List Event → Bool
may_happen c Opened past = true
may_happen c (Out frame) past = false
may_happen c m past = was_opened c past && not (was_lost c past)

-- a client's transfer or disposition, without fault
abbrev pub is_sound_transfer_or_disposition : Event → Bool
is_sound_transfer_or_disposition e = not (is_some e.fault) && (is_some (in_transfer e) || is_some (in_disposition e))

-- on each connection that is not over, a frame was written just where an open of the client stands
abbrev pub AreOpensAnswered : List Event → Type 0
AreOpensAnswered past = (c : ℕ) → is_over c past ≡ false → has_out_frame c past ≡ has_in_open c past

-- no record breaks a clause, opens are answered, and a record's number has 64 bits
pub record IsReady (rules : RuleSet) (past : List Event) : Type 0 where
  pub lawful : first_broken rules past ≡ None
  pub opens : AreOpensAnswered past
  pub short : length past < 2 ^ 64

-- ---- the frames of an answer

-- it breaks no clause, is due, stands in turn, and is no longer than the client takes
pub record IsInOrder (rules : RuleSet) (c : ℕ) (past : List Event) (spoken : Spoken) : Type 0 where
  pub lawful : broken_clause rules (writing rules c past spoken) past ≡ None
  pub due : moment_keeps rules (writing rules c past spoken) past (writing rules c past spoken).moment ≡ true
  pub turn : stands_in_turn rules (writing rules c past spoken) past (writing rules c past spoken).moment ≡ true
  pub fits : length (spoken_octets spoken) ≤ frame_limit c past

-- each of them, in its place
abbrev pub AreInOrder : RuleSet → ℕ → List Spoken → List Event → Type 0
AreInOrder rules c [] past = Unit {0}
AreInOrder rules c (spoken ∷ more) past = IsInOrder rules c past spoken × AreInOrder rules c more (writing rules c past spoken ∷ past)

-- ---- the answer to an event, by those before it

abbrev pub answered_past : RuleSet → Event → List Event → List Event
answered_past rules e past = behind rules e.connection (answer rules e (e ∷ past)) (e ∷ past)

-- each of its frames is in order; behind the last one the event is answered, and all is as before it
pub record IsAnswerInOrder (rules : RuleSet) (e : Event) (past : List Event) : Type 0 where
  pub frames : AreInOrder rules e.connection (answer rules e (e ∷ past)) (e ∷ past)
  pub answered : is_answered rules (answered_past rules e past) ≡ true
  pub lawful : first_broken rules (answered_past rules e past) ≡ None
  pub opens : AreOpensAnswered (answered_past rules e past)
