-- The answer to whatever a client does.
use Rattle.std.proofs.Common.{◌≡◌, refl, sym, ◌∙◌, ℕ, Bool, true, false, ◌&&◌, ◌||◌, not, List, [], ◌∷◌, Some, None, IsTrue, if◌then◌else◌, ◌==◌, eq-eqb}
use Rattle.amqp_perf.specs.declared.condition.ErrorCondition.{ErrorCondition}
use Rattle.amqp_perf.specs.declared.condition.ErrorCondition.TheVariants.{FramingError, DecodeError}
use Rattle.pairing_cert.specs.declared.note.Note.TheVariants as notes
use Rattle.capture_form.specs.Rules.{RuleSet}
use Rattle.trace_events.specs.declared.fault.Fault.TheVariants.{Close}
use Rattle.trace_events.specs.Frame.{Body, NoFrame, Empty, NoPerformative, Says}
use Rattle.trace_events.specs.Event.{Event, Moment, Opened, In, Out, Lost, Broken, is_out}
use Rattle.trace_events.specs.Connection.{is_over, was_opened, was_finished, has_out_frame, has_in_open, has_out_close}
use Rattle.trace_events.specs.Heard.{is_passed_over}
use Rattle.trace_events.specs.History.{judge_moment, placed}
use Rattle.trace_events.specs.Clauses.{first_broken}
use Rattle.trace_duties.specs.Answer.{answer, closing, unread_answer}
use Rattle.route_answers.specs.Answering.{IsReady, IsAnswerInOrder, may_happen, was_lost}
use Rattle.route_answers.proofs.Words.{or_left}
use Rattle.route_answers.proofs.Connections.{not_finished, unfinished}
use Rattle.route_answers.proofs.Goes.{Goes, goes_none, goes_closing, opens_answered}
use Rattle.route_answers.proofs.Spoken.{said_goes}
use Rattle.route_answers.proofs.Order.{in_order}

module _ (rules : RuleSet) (c : ℕ) (past : List Event) (ready : IsReady rules past) where
  abbrev at : Moment → Event
  at m = judge_moment rules past c m notes.None

  -- an input breaks no clause
  pub lawful_at : (m : Moment) → is_out m ≡ false → first_broken rules (at m ∷ past) ≡ None
  lawful_at (Out frame) input = absurd cc
  lawful_at (In frame) input = rw ready.lawful refl
  lawful_at Opened input = rw ready.lawful refl
  lawful_at Lost input = rw ready.lawful refl
  lawful_at Broken input = rw ready.lawful refl

  module _ (opened : was_opened c past ≡ true) where
    -- octets that are no frame, or say nothing
    module _ (octets : List ℕ) (body : Body) where
      abbrev m : Moment
      m = In (record { octets = octets; body = body })

      unread_by : (over passed : Bool) (condition : ErrorCondition) → is_over c past ≡ over → (is_over c (at m ∷ past) ≡ false → has_out_frame c (at m ∷ past) ≡ has_in_open c (at m ∷ past))
          → was_finished c (at m ∷ past) ≡ was_finished c past → was_opened c (at m ∷ past) ≡ true
          → Goes rules c (unread_answer (at m) (if not (over || passed) then Some (Close condition) else None) (at m ∷ past)) (at m ∷ past)
      unread_by true passed condition over own same there = goes_none rules c (at m ∷ past) own
      unread_by false true condition over own same there = goes_none rules c (at m ∷ past) own
      unread_by false false condition over own same there =
          goes_closing rules c (at m ∷ past) there (same ∙ not_finished c past over) (lawful_at m refl) (Some condition)

      nothing_by : (b : Bool) → (is_over c (at m ∷ past) ≡ false → has_out_frame c (at m ∷ past) ≡ has_in_open c (at m ∷ past))
          → Goes rules c (unread_answer (at m) (if b then None else None) (at m ∷ past)) (at m ∷ past)
      nothing_by true own = goes_none rules c (at m ∷ past) own
      nothing_by false own = goes_none rules c (at m ∷ past) own

    body_goes : (octets : List ℕ) (body : Body) → (let e = at (In (record { octets = octets; body = body })) in Goes rules c (answer rules e (e ∷ past)) (e ∷ past))
    body_goes octets NoFrame = unread_by octets NoFrame (is_over c past) false FramingError refl (ready.opens c) refl opened
    body_goes octets (NoPerformative channel) =
        unread_by octets (NoPerformative channel) (is_over c past) (is_passed_over (placed past c (m octets (NoPerformative channel)) notes.None) (NoPerformative channel) past) DecodeError refl (ready.opens c) refl opened
    body_goes octets (Empty channel) = nothing_by octets (Empty channel) (at (m octets (Empty channel))).is_heard (ready.opens c)
    body_goes octets (Says spoken) = said_goes rules c spoken.channel past octets spoken.payload ready opened spoken.meaning

    broken_by : was_lost c past ≡ false → (b : Bool) → has_out_close c past ≡ b → Goes rules c (if b then [] else closing c (Some FramingError) (at Broken ∷ past)) (at Broken ∷ past)
    broken_by lost true is = goes_none rules c (at Broken ∷ past) (λ over. let never : true ≡ false = sym (or_left (c == c) (is_over c past) (eq-eqb c c refl)) ∙ over in absurd cc)
    broken_by lost false is = goes_closing rules c (at Broken ∷ past) opened (unfinished c past lost is) (lawful_at Broken refl) (Some FramingError)

  pub allowed : (a b : Bool) → a && not b ≡ true → (a ≡ true) × (b ≡ false)
  allowed true false is = (refl, refl)
  allowed true true is = absurd cc
  allowed false b is = absurd cc

  goes : (m : Moment) → may_happen c m past ≡ true → Goes rules c (answer rules (at m) (at m ∷ past)) (at m ∷ past)
  goes Opened may = goes_none rules c (at Opened ∷ past) (ready.opens c)
  goes (In frame) may = body_goes (allowed (was_opened c past) (was_lost c past) may).0 frame.octets frame.body
  goes (Out frame) may = absurd cc
  goes Lost may = goes_none rules c (at Lost ∷ past) (λ over. let never : true ≡ false = sym (or_left (c == c) (is_over c past) (eq-eqb c c refl)) ∙ over in absurd cc)
  goes Broken may = let h = allowed (was_opened c past) (was_lost c past) may in broken_by h.0 h.1 (has_out_close c past) refl

  input : (m : Moment) → may_happen c m past ≡ true → is_out m ≡ false
  input (Out frame) may = absurd cc
  input (In frame) may = refl
  input Opened may = refl
  input Lost may = refl
  input Broken may = refl

  pub answers_in_order : (m : Moment) → IsTrue (may_happen c m past) → IsAnswerInOrder rules (at m) past
  answers_in_order m may =
      let went = goes m may in
      let h = in_order rules (at m) past (input m may) went.fine (lawful_at m (input m may)) in
      record {
        frames = h.frames;
        answered = h.answered;
        lawful = h.lawful;
        opens = opens_answered rules (at m) past ready.opens (answer rules (at m) (at m ∷ past)) went;
      }
