-- Frames of an answer, and whether opens are answered behind them.
use Rattle.std.proofs.Common.{◌≡◌, refl, sym, subst, ◌∙◌, ℕ, Bool, true, false, ◌&&◌, List, [], ◌∷◌, Option, None, is_some, ◌==◌, eq-eqb, eqb-true}
use Rattle.amqp_perf.specs.declared.condition.ErrorCondition.{ErrorCondition}
use Rattle.capture_form.specs.Rules.{RuleSet}
use Rattle.trace_events.specs.Frame.{Spoken}
use Rattle.trace_events.specs.Event.{Event, is_out}
use Rattle.trace_events.specs.Said.{in_open}
use Rattle.trace_events.specs.Connection.{is_final, is_over, was_opened, was_finished, has_out_frame, has_in_open}
use Rattle.trace_events.proofs.OverConnections.{has_event-other}
use Rattle.trace_events.specs.Clauses.{first_broken}
use Rattle.trace_duties.specs.Answer.{closing}
use Rattle.route_answers.specs.Writing.{writing, behind}
use Rattle.route_answers.specs.Answering.{AreOpensAnswered}
use Rattle.route_answers.proofs.Words.{or_left, neither}
use Rattle.route_answers.proofs.Fine.{IsFine, AreFine}
use Rattle.route_answers.proofs.Closing.{closing_fine, closing_over}

-- they break no clause, and if the connection isn't over then, opens are answered on it
pub record Goes (rules : RuleSet) (c : ℕ) (frames : List Spoken) (past : List Event) : Type 0 where
  pub fine : AreFine rules c frames past
  pub own : is_over c (behind rules c frames past) ≡ false → has_out_frame c (behind rules c frames past) ≡ has_in_open c past

module _ (rules : RuleSet) (c : ℕ) (past : List Event) where
  pub goes_none : (is_over c past ≡ false → has_out_frame c past ≡ has_in_open c past) → Goes rules c [] past
  goes_none own = record { fine = tt; own = own }

  before : (s : Spoken) → is_over c (writing rules c past s ∷ past) ≡ false → is_over c past ≡ false
  before s over = (neither (is_final (writing rules c past s).moment && (c == c)) (is_over c past) over).1

  framed : (s : Spoken) → has_out_frame c (writing rules c past s ∷ past) ≡ true
  framed s = or_left (c == c) (has_out_frame c past) (eq-eqb c c refl)

  pub goes_one : (s : Spoken) → IsFine rules c past s → (is_over c past ≡ false → has_in_open c past ≡ true) → Goes rules c (s ∷ []) past
  goes_one s fine opened = record { fine = (fine, tt); own = λ over. framed s ∙ sym (opened (before s over)) }

  module _ (s t : Spoken) where
    abbrev next : List Event
    next = writing rules c past s ∷ past

    pub goes_two : IsFine rules c past s → IsFine rules c next t → (is_over c past ≡ false → has_in_open c past ≡ true) → Goes rules c (s ∷ t ∷ []) past
    goes_two fine other opened = record {
      fine = (fine, (other, tt));
      own = λ over.
          or_left (c == c) (has_out_frame c next) (eq-eqb c c refl)
          ∙ sym (opened (before s ((neither (is_final (writing rules c next t).moment && (c == c)) (is_over c next) over).1)));
    }

  pub goes_closing : was_opened c past ≡ true → was_finished c past ≡ false → first_broken rules past ≡ None → (condition : Option ErrorCondition) → Goes rules c (closing c condition past) past
  goes_closing opened running lawful condition = record {
    fine = closing_fine rules c past opened running lawful condition;
    own = λ over. let never : true ≡ false = sym (closing_over rules c past opened running lawful condition) ∙ over in absurd cc;
  }

-- ---- what is written on a connection leaves the others as they were

pub behind_over : (rules : RuleSet) (c d : ℕ) (frames : List Spoken) (past : List Event) → (c == d) ≡ false → is_over d (behind rules c frames past) ≡ is_over d past
behind_over rules c d [] past other = refl
behind_over rules c d (s ∷ more) past other =
    behind_over rules c d more (writing rules c past s ∷ past) other ∙ has_event-other d (λ e. is_final e.moment) (writing rules c past s) past other

pub behind_framed : (rules : RuleSet) (c d : ℕ) (frames : List Spoken) (past : List Event) → (c == d) ≡ false → has_out_frame d (behind rules c frames past) ≡ has_out_frame d past
behind_framed rules c d [] past other = refl
behind_framed rules c d (s ∷ more) past other =
    behind_framed rules c d more (writing rules c past s ∷ past) other ∙ has_event-other d (λ e. is_out e.moment) (writing rules c past s) past other

-- and no open of a client comes by it
pub behind_opened : (rules : RuleSet) (c d : ℕ) (frames : List Spoken) (past : List Event) → has_in_open d (behind rules c frames past) ≡ has_in_open d past
behind_opened rules c d [] past = refl
behind_opened rules c d (s ∷ more) past = behind_opened rules c d more (writing rules c past s ∷ past)

-- behind an input and the frames of its answer opens are answered
module _ (rules : RuleSet) (e : Event) (past : List Event) (opens : AreOpensAnswered past) (frames : List Spoken) (goes : Goes rules e.connection frames (e ∷ past)) where
  at : (d : ℕ) (b : Bool) → (e.connection == d) ≡ b → is_over d (behind rules e.connection frames (e ∷ past)) ≡ false
      → has_out_frame d (behind rules e.connection frames (e ∷ past)) ≡ has_in_open d (behind rules e.connection frames (e ∷ past))
  at d false other over =
      let still : is_over d past ≡ false =
      sym (has_event-other d (λ e. is_final e.moment) e past other) ∙ (sym (behind_over rules e.connection d frames (e ∷ past) other) ∙ over) in
      behind_framed rules e.connection d frames (e ∷ past) other
      ∙ (has_event-other d (λ e. is_out e.moment) e past other
      ∙ (opens d still ∙ (sym (has_event-other d (λ e. is_some (in_open e)) e past other) ∙ sym (behind_opened rules e.connection d frames (e ∷ past)))))
  at d true same over =
      let here : e.connection ≡ d = eqb-true e.connection d same in
      subst (λ n. has_out_frame n (behind rules e.connection frames (e ∷ past)) ≡ has_in_open n (behind rules e.connection frames (e ∷ past))) here
      (goes.own (subst (λ n. is_over n (behind rules e.connection frames (e ∷ past)) ≡ false) (sym here) over) ∙ sym (behind_opened rules e.connection e.connection frames (e ∷ past)))

  pub opens_answered : AreOpensAnswered (behind rules e.connection frames (e ∷ past))
  opens_answered d over = at d (e.connection == d) refl over
