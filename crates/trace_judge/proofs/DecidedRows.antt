-- The row of an outcome asks of the consumer's decision its terminal state alone.
use Rattle.std.proofs.Common.{◌≡◌, refl, ap, ◌∙◌, List, Option, Some, None, option_map}
use Rattle.amqp_perf.specs.Meaning.{DispositionFields}
use Rattle.pairing_cert.specs.declared.note.Why.{Why}
use Rattle.pairing_cert.specs.declared.note.Why.TheVariants.{C, Z, S, L, N, M}
use Rattle.trace_events.specs.Event.{Event, Incoming, Outgoing}
use Rattle.trace_events.specs.Disposition.{terminal_state}
use Rattle.trace_events.specs.Outgoing.{decision}
use Rattle.trace_events.specs.Outcome.{paired_row}
use Rattle.trace_judge.specs.Told.{decided_view}
use Rattle.trace_events.specs.View.{decision_view}
use Rattle.trace_events.specs.declared.disposition.Decision.{Decision}
use Rattle.trace_events.specs.declared.disposition.Decision.TheVariants as decisions

same_some : {A : Type 0} (a b : A) → Some a ≡ Some b → a ≡ b
same_some a b is = cc

module _ (d : Incoming) (j : Outgoing) (past : List Event) where
  by_state : (why : Why) (a b : DispositionFields) → terminal_state a ≡ terminal_state b → paired_row d j past (Some a) why ≡ paired_row d j past (Some b) why
  by_state C a b same = rw same refl
  by_state Z a b same = rw same refl
  by_state S a b same = refl
  by_state L a b same = refl
  by_state N a b same = refl
  by_state M a b same = refl

  by_decision : (why : Why) (a b : Option DispositionFields) → option_map terminal_state a ≡ option_map terminal_state b → paired_row d j past a why ≡ paired_row d j past b why
  by_decision why None None same = refl
  by_decision why None (Some b) same = absurd cc
  by_decision why (Some a) None same = absurd cc
  by_decision why (Some a) (Some b) same = by_state why a b (same_some (terminal_state a) (terminal_state b) same)

  decided-state : (own : Decision) → terminal_state (decided_view own) ≡ decision_view own
  decided-state decisions.Settled = refl
  decided-state (decisions.Terminal outcome octets) = refl

  decided-states : (own : Option Decision) → option_map terminal_state (option_map decided_view own) ≡ option_map decision_view own
  decided-states None = refl
  decided-states (Some own) = ap Some (decided-state own)

  pub row_decided : (why : Why) (own : Option Decision) → option_map decision_view own ≡ option_map terminal_state (decision j past)
      → paired_row d j past (option_map decided_view own) why ≡ paired_row d j past (decision j past) why
  row_decided why own same = by_decision why (option_map decided_view own) (decision j past) (decided-states own ∙ same)
