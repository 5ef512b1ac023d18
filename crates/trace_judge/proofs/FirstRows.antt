-- The first row that applies to a delivery, by the rows of the delivery that carries it.
use Rattle.std.proofs.Common.{◌≡◌, refl, sym, ap, ◌∙◌, Bool, true, false, List, Option, Some, None, is_some, option_map, if◌then◌else◌}
use Rattle.std.specs.List.{list_any}
use Rattle.pairing_cert.specs.declared.note.Why.{Why}
use Rattle.pairing_cert.specs.declared.note.Why.TheVariants.{C, Z, S, L, N, M}
use Rattle.capture_form.specs.Rules.{RuleSet}
use Rattle.amqp_perf.specs.declared.descriptor.Outcome.TheVariants.{Released}
use Rattle.trace_events.specs.Event.{Event, Incoming, Outgoing}
use Rattle.trace_events.specs.Disposition.{terminal_state}
use Rattle.trace_events.specs.Outgoing.{pairing, decision}
use Rattle.trace_events.specs.Waiting.{is_gone, is_of_multicast}
use Rattle.trace_events.specs.BestVerdict.{told_octets, whole_verdict, multicast_row}
use Rattle.trace_events.specs.Outcome.{anycast_row, bare_octets, paired_row, reasons, row}
use Rattle.trace_events.specs.View.{decision_view}
use Rattle.trace_events.specs.declared.disposition.Decision.{Decision}
use Rattle.trace_judge.specs.Told.{asks_pairing, decided_view}
use Rattle.trace_judge.proofs.DecidedRows.{row_decided}

module _ (d : Incoming) (past : List Event) where
  -- a row of a delivery that another one carries, by the decision of that
  pub carried-row : (j : Outgoing) (why : Why) (own : Option Decision) → Some j ≡ pairing d past → option_map decision_view own ≡ option_map terminal_state (decision j past)
      → anycast_row d past why (pairing d past) ≡ paired_row d j past (option_map decided_view own) why
  carried-row j why own carried same = ap (anycast_row d past why) (sym carried) ∙ sym (row_decided d j past why own same)

module _ (rules : RuleSet) (d : Incoming) (past : List Event) where
  six-none : (f : Why → Bool) → f C ≡ false → f Z ≡ false → f S ≡ false → f L ≡ false → f N ≡ false → f M ≡ false → list_any f reasons ≡ false
  six-none f c z s l n m = rw (c, z, s, l, n, m) refl

  -- where none of them applies, nor the two others, none does
  pub none-applies : ((why : Why) → asks_pairing why ≡ true → row rules d past why ≡ None) → false ≡ is_gone rules d past → multicast_row rules d past ≡ None
      → list_any (λ why. is_some (row rules d past why)) reasons ≡ false
  none-applies none kept untold =
      six-none (λ why. is_some (row rules d past why)) (ap is_some (none C refl)) (ap is_some (none Z refl)) (ap is_some (none S refl)) (ap is_some (none L refl))
      (ap (λ b. is_some (if b then Some (Some (bare_octets Released)) else None)) (sym kept))
      (ap is_some untold)

  -- one of anycast has no row of multicast, nor has one of multicast that lacks a verdict
  pub anycast-untold : false ≡ is_of_multicast rules d past → multicast_row rules d past ≡ None
  anycast-untold anycast = ap (λ b. if b then option_map (λ outcome. Some (told_octets outcome)) (whole_verdict rules d past) else None) (sym anycast)

  pub whole-untold : None ≡ option_map (λ outcome. Some (told_octets outcome)) (whole_verdict rules d past) → multicast_row rules d past ≡ None
  whole-untold none = by (is_of_multicast rules d past)
    where
      by : (b : Bool) → (if b then option_map (λ outcome. Some (told_octets outcome)) (whole_verdict rules d past) else None) ≡ None
      by true = sym none
      by false = refl
