-- Frames that break no clause: opens, closes, begins, ends, detaches, attaches and flows, each by what it needs of the
-- events before it.
use Rattle.std.proofs.Common.{◌≡◌, refl, ap, ◌∙◌, ℕ, ◌≤◌, Bool, true, false, ◌&&◌, ◌||◌, List, [], ◌∷◌, length, Option, Some, None, is_some, option_and_then, nat_le, eq-eqb, le-leb}
use Rattle.amqp_perf.specs.declared.condition.ErrorCondition.{ErrorCondition}
use Rattle.amqp_perf.specs.declared.flow.Flow.{Flow}
use Rattle.amqp_perf.specs.Meaning.{Meaning, AnOpen, ABegin, AnAttach, AFlow, ADetach, AnEnd, AClose, AttachFields}
use Rattle.amqp_perf.specs.Router.{router_open, begin_answer, detach_with}
use Rattle.capture_form.specs.Rules.{RuleSet}
use Rattle.trace_events.specs.Words.{is_some_and, is_number}
use Rattle.trace_events.specs.Frame.{Spoken}
use Rattle.trace_events.specs.Event.{Event}
use Rattle.trace_events.specs.declared.session.Session.{Session}
use Rattle.trace_events.specs.Said.{as_transfer}
use Rattle.trace_events.specs.Connection.{was_opened, was_finished, has_out_frame, frame_limit}
use Rattle.trace_events.specs.Session.{live_session, has_unanswered_begin, owes_end}
use Rattle.trace_events.specs.Link.{session_link, owes_detach}
use Rattle.trace_events.specs.declared.clause.Clause.{Clause}
use Rattle.trace_events.specs.declared.clause.Clause.TheVariants.{L1, L2, L3, L10, L13, L14}
use Rattle.trace_events.specs.Written.{spoken_octets, says, written_begin, written_detach}
use Rattle.trace_events.specs.ConnectionClause.{may_be_written}
use Rattle.trace_events.specs.LinkClause.{answers_attach}
use Rattle.trace_events.specs.FlowClause.{tells_counts}
use Rattle.trace_events.specs.Clauses.{spoken_meets, meaning_meets, broken_clause, clauses}
use Rattle.route_answers.specs.Writing.{frame_of, writing}
use Rattle.route_answers.proofs.Words.{none_broken}
use Rattle.route_answers.proofs.Connections.{Speaks, speaks_written, close_written}

-- a frame that breaks no clause, fits, and is no transfer
pub record IsFine (rules : RuleSet) (c : ℕ) (past : List Event) (spoken : Spoken) : Type 0 where
  pub lawful : broken_clause rules (writing rules c past spoken) past ≡ None
  pub fits : length (spoken_octets spoken) ≤ frame_limit c past
  pub plain : as_transfer spoken.meaning ≡ None

abbrev pub AreFine : RuleSet → ℕ → List Spoken → List Event → Type 0
AreFine rules c [] past = Unit {0}
AreFine rules c (spoken ∷ more) past = IsFine rules c past spoken × AreFine rules c more (writing rules c past spoken ∷ past)

module _ (rules : RuleSet) (c channel : ℕ) (past : List Event) where
  -- by the first clause, and those of its kind
  module _ (m : Meaning) (may : may_be_written c m past ≡ true) (fits : length (spoken_octets (says channel m)) ≤ frame_limit c past) where
    abbrev e : Event
    e = writing rules c past (says channel m)

    module _ (meets : (clause : Clause) → meaning_meets rules e (says channel m) past m clause ≡ true) where
      each : (clause : Clause) → spoken_meets rules e (frame_of (says channel m)) past (says channel m) clause ≡ true
      each L1 =
          ap (λ b. b && nat_le (length (spoken_octets (says channel m))) (frame_limit c past)) may
          ∙ le-leb (length (spoken_octets (says channel m))) (frame_limit c past) fits
      each clause = meets clause

      pub fine_by : as_transfer m ≡ None → IsFine rules c past (says channel m)
      fine_by plain = record {
        lawful = none_broken (spoken_meets rules e (frame_of (says channel m)) past (says channel m)) each clauses;
        fits = fits;
        plain = plain;
      }

  -- ---- opens and closes

  open_meets : (clause : Clause) → meaning_meets rules (writing rules c past (says channel (AnOpen router_open))) (says channel (AnOpen router_open)) past (AnOpen router_open) clause ≡ true
  open_meets L14 = refl
  open_meets clause = refl

  pub open_fine : was_opened c past ≡ true → was_finished c past ≡ false → has_out_frame c past ≡ false → length (spoken_octets (says channel (AnOpen router_open))) ≤ frame_limit c past
      → IsFine rules c past (says channel (AnOpen router_open))
  open_fine opened running first fits = fine_by (AnOpen router_open) (rw (opened, running, first) refl) fits open_meets refl

  close_meets : (error : Option (List ℕ)) (clause : Clause)
      → meaning_meets rules (writing rules c past (says channel (AClose error))) (says channel (AClose error)) past (AClose error) clause ≡ true
  close_meets error L14 = refl
  close_meets error clause = refl

  pub close_fine : was_opened c past ≡ true → was_finished c past ≡ false → has_out_frame c past ≡ true → (error : Option (List ℕ))
      → length (spoken_octets (says channel (AClose error))) ≤ frame_limit c past → IsFine rules c past (says channel (AClose error))
  close_fine opened running framed error fits = fine_by (AClose error) (close_written c past opened running framed error) fits (close_meets error) refl

  -- ---- the rest, where the router has spoken

  module _ (speaks : Speaks past c) where
    begin_meets : has_unanswered_begin c channel past ≡ true → (clause : Clause)
        → meaning_meets rules (writing rules c past (written_begin channel)) (written_begin channel) past (ABegin (begin_answer channel)) clause ≡ true
    begin_meets asked L2 = ap (λ b. b && is_number (Some channel) channel && true) asked ∙ ap (λ b. b && true) (eq-eqb channel channel refl)
    begin_meets asked L14 = refl
    begin_meets asked clause = refl

    pub begin_fine : has_unanswered_begin c channel past ≡ true → length (spoken_octets (written_begin channel)) ≤ frame_limit c past → IsFine rules c past (written_begin channel)
    begin_fine asked fits = fine_by (ABegin (begin_answer channel)) (speaks_written c past speaks (ABegin (begin_answer channel)) refl) fits (begin_meets asked) refl

    end_meets : (error : Option (List ℕ)) → is_some (live_session c channel past) || owes_end c channel past ≡ true → (clause : Clause)
        → meaning_meets rules (writing rules c past (says channel (AnEnd error))) (says channel (AnEnd error)) past (AnEnd error) clause ≡ true
    end_meets error may L13 = may
    end_meets error may L14 = refl
    end_meets error may clause = refl

    pub end_fine : (error : Option (List ℕ)) → is_some (live_session c channel past) || owes_end c channel past ≡ true
        → length (spoken_octets (says channel (AnEnd error))) ≤ frame_limit c past → IsFine rules c past (says channel (AnEnd error))
    end_fine error may fits = fine_by (AnEnd error) (speaks_written c past speaks (AnEnd error) refl) fits (end_meets error may) refl

    module _ (s : Session) (live : live_session c channel past ≡ Some s) (handle : ℕ) (closed : Bool) (condition : Option ErrorCondition)
        (may : is_some (session_link s handle past) || owes_detach s handle past ≡ true) where
      detach_may : is_some (option_and_then (λ (t : Session). session_link t handle past) (live_session c channel past)) || is_some_and (live_session c channel past) (λ t. owes_detach t handle past) ≡ true
      detach_may = ap (λ o. is_some (option_and_then (λ (t : Session). session_link t handle past) o) || is_some_and o (λ t. owes_detach t handle past)) live ∙ may

      detach_meets : (clause : Clause)
          → meaning_meets rules (writing rules c past (written_detach channel handle closed condition)) (written_detach channel handle closed condition) past (ADetach (detach_with handle closed condition)) clause ≡ true
      detach_meets L13 = detach_may
      detach_meets L14 = refl
      detach_meets clause = refl

      pub detach_fine : length (spoken_octets (written_detach channel handle closed condition)) ≤ frame_limit c past → IsFine rules c past (written_detach channel handle closed condition)
      detach_fine fits =
          fine_by (ADetach (detach_with handle closed condition)) (speaks_written c past speaks (ADetach (detach_with handle closed condition)) refl) fits detach_meets refl

    module _ (s : Session) (live : live_session c channel past ≡ Some s) (fields : AttachFields) (answers : answers_attach fields past s ≡ true) where
      attach_meets : (clause : Clause) → meaning_meets rules (writing rules c past (says channel (AnAttach fields))) (says channel (AnAttach fields)) past (AnAttach fields) clause ≡ true
      attach_meets L3 = ap (λ o. is_some_and o (answers_attach fields past)) live ∙ answers
      attach_meets L14 = refl
      attach_meets clause = refl

      pub attach_fine : length (spoken_octets (says channel (AnAttach fields))) ≤ frame_limit c past → IsFine rules c past (says channel (AnAttach fields))
      attach_fine fits = fine_by (AnAttach fields) (speaks_written c past speaks (AnAttach fields) refl) fits attach_meets refl

    flow_meets : (flow : Flow) → tells_counts rules (writing rules c past (says channel (AFlow flow))) flow past ≡ true → (clause : Clause)
        → meaning_meets rules (writing rules c past (says channel (AFlow flow))) (says channel (AFlow flow)) past (AFlow flow) clause ≡ true
    flow_meets flow tells L10 = tells
    flow_meets flow tells L14 = refl
    flow_meets flow tells clause = refl

    pub flow_fine : (flow : Flow) → tells_counts rules (writing rules c past (says channel (AFlow flow))) flow past ≡ true
        → length (spoken_octets (says channel (AFlow flow))) ≤ frame_limit c past → IsFine rules c past (says channel (AFlow flow))
    flow_fine flow tells fits = fine_by (AFlow flow) (speaks_written c past speaks (AFlow flow) refl) fits (flow_meets flow tells) refl
