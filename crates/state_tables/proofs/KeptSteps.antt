-- An event that was taken stands in the tables.
use Rattle.std.proofs.Common.{◌≡◌, refl, sym, ap, ◌∙◌, ℕ, Bool, true, false, ◌&&◌, List, ◌∷◌, Option, Some, None, if◌then◌else◌, ◌==◌, eqb-true}
use Rattle.std.proofs.lemmas.Bool.{eq-eqb}
use Rattle.capture_form.specs.Rules.{RuleSet}
use Rattle.trace_events.specs.Words.{is_number}
use Rattle.trace_events.specs.Event.{Event, channel_of, is_on_channel}
use Rattle.trace_events.specs.Clauses.{first_broken}
use Rattle.trace_events.proofs.Judged.{AreJudged}
use Rattle.state_tables.specs.Connections.{AreSeen, AreKept, TakesOne, seen_in, session_in, unanswered_in, connection_at, seen_next}
use Rattle.state_counts.specs.Sessions.{session_at, session_behind}
use Rattle.state_tables.specs.Unanswered.{unanswered_at, unanswered_next}
use Rattle.state_tables.specs.declared.connections.Connections.{Connections}
use Rattle.state_tables.proofs.ConnectionSteps.{next_connection}
use Rattle.state_counts.proofs.SessionSteps.{session-other, session-behind}
use Rattle.state_tables.proofs.UnansweredSteps.{unanswered-elsewhere, unanswered-here}

-- whether a connection is seen or not, and however the capture is judged
pub taken-seen : (e : Event) (past : List Event) (old new : Connections) → TakesOne e old new → AreSeen old past → AreSeen new (e ∷ past)
taken-seen e past old new takes seen c = takes.seen c ∙ by (e.connection == c) refl
  where
    by : (b : Bool) → (e.connection == c) ≡ b → (if b then seen_next e (seen_in old c) else seen_in old c) ≡ connection_at c (e ∷ past)
    by true own =
        ap (λ n. seen_next e (seen_in old n)) (sym (eqb-true e.connection c own))
        ∙ (ap (λ b. if b then seen_next e (seen_in old e.connection) else seen_in old c) (sym own) ∙ next_connection e past (seen_in old) seen c)
    by false other = ap (λ b. if b then seen_next e (seen_in old e.connection) else seen_in old c) (sym other) ∙ next_connection e past (seen_in old) seen c

is_some_number : (o : Option ℕ) (n : ℕ) → is_number o n ≡ true → o ≡ Some n
is_some_number None n is = absurd cc
is_some_number (Some m) n is = ap Some (eqb-true m n is)

module _ (rules : RuleSet) (e : Event) (past : List Event) (are : AreJudged rules (e ∷ past)) (lawful : first_broken rules (e ∷ past) ≡ None)
    (old new : Connections) (takes : TakesOne e old new) (kept : AreKept old past) where
  sessions : (c channel : ℕ) → session_in new c channel ≡ session_at c channel (e ∷ past)
  sessions c channel = takes.sessions c channel ∙ by (e.connection == c) refl
    where
      by : (b : Bool) → (e.connection == c) ≡ b → (if b then session_behind e channel (session_in old c channel) else session_in old c channel) ≡ session_at c channel (e ∷ past)
      by true own =
          ap (session_behind e channel) (kept.sessions c channel ∙ ap (λ n. session_at n channel past) (sym (eqb-true e.connection c own)))
          ∙ (sym (session-behind rules e past are lawful channel) ∙ ap (λ n. session_at n channel (e ∷ past)) (eqb-true e.connection c own))
      by false other = kept.sessions c channel ∙ sym (session-other rules e past are lawful c channel other)

  unanswered : (c channel : ℕ) → unanswered_in new c channel ≡ unanswered_at c channel (e ∷ past)
  unanswered c channel = takes.unanswered c channel ∙ by (e.connection == c) (is_number (channel_of e.moment) channel) refl refl
    where
      off : (a b : Bool) → (e.connection == c) ≡ a → is_number (channel_of e.moment) channel ≡ b → a && b ≡ false → is_on_channel c channel e ≡ false
      off true false own at none = ap (λ x. x && (e.connection == c)) at
      off false true own at none = ap (λ x. x && (e.connection == c)) at ∙ own
      off false false own at none = ap (λ x. x && (e.connection == c)) at
      off true true own at none = absurd cc

      by : (a b : Bool) → (e.connection == c) ≡ a → is_number (channel_of e.moment) channel ≡ b
          → (if a && b then unanswered_next e (unanswered_in old c channel) else unanswered_in old c channel) ≡ unanswered_at c channel (e ∷ past)
      by true true own at =
          let same = eqb-true e.connection c own in
          ap (unanswered_next e) (kept.unanswered c channel ∙ ap (λ n. unanswered_at n channel past) (sym same))
          ∙ (sym (unanswered-here rules e past are lawful channel (is_some_number (channel_of e.moment) channel at) (eq-eqb e.connection e.connection refl) (eq-eqb channel channel refl))
          ∙ ap (λ n. unanswered_at n channel (e ∷ past)) same)
      by true false own at = kept.unanswered c channel ∙ sym (unanswered-elsewhere c channel e past (off true false own at refl))
      by false b own at = kept.unanswered c channel ∙ sym (unanswered-elsewhere c channel e past (off false b own at refl))

  pub taken-kept : AreKept new (e ∷ past)
  taken-kept = record { connections = taken-seen e past old new takes kept.connections; sessions = sessions; unanswered = unanswered }
