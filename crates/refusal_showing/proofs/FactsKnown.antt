-- Facts by what can be told are facts by anything that tells no more.
use Rattle.std.proofs.Common.{ℕ, List, Option, Some, None, IfSome}
use Rattle.capture_form.specs.Rules.{RuleSet}
use Rattle.pairing_cert.specs.declared.note.Note.{Note}
use Rattle.pairing_cert.specs.declared.note.Note.TheVariants as notes
use Rattle.trace_events.specs.Event.{Event}
use Rattle.refusal_facts.specs.Facts.{AreFacts, IsReasonOf}
use Rattle.refusal_facts.specs.TransferFacts.{IsNamed, IsNamedAt, IsNamedBy}
use Rattle.refusal_facts.specs.declared.reason.Facts.{Facts}
use Rattle.refusal_facts.specs.declared.reason.Facts.TheVariants as kinds
use Rattle.refusal_facts.specs.declared.reason.Reason.{Reason}
use Rattle.refusal_facts.specs.declared.transfer.Named.{Named}
use Rattle.refusal_facts.specs.declared.transfer.Named.TheVariants as named

module _ (rules : RuleSet) (knows less : ℕ → Type 0) (known : (n : ℕ) → less n → knows n) (e : Event) (past : List Event) where
  at-less : (n : ℕ) (stands : Named) → IsNamedAt rules knows past n stands → IsNamedAt rules less past n stands
  at-less n named.Nothing h = h
  at-less n (named.Carried delivery) h = h
  at-less n (named.Kept delivery complete gone) h = λ l. h (known n l)
  at-less n (named.Unknown number) h = (h.0, λ l. h.1 (known n l))

  by-less : (says : Note) (stands : Named) → IsNamedBy rules knows past says stands → IsNamedBy rules less past says stands
  by-less (notes.Pair n) stands h = at-less n stands h
  by-less notes.None stands h = h
  by-less (notes.Told why) stands h = h

  named-less : (says : Note) (stands : Named) → IsNamed rules knows past says stands → IsNamed rules less past says stands
  named-less says (named.Carried delivery) h = h
  named-less says named.Nothing h = (h.0, by-less says named.Nothing h.1)
  named-less says (named.Kept delivery complete gone) h = (h.0, by-less says (named.Kept delivery complete gone) h.1)
  named-less says (named.Unknown number) h = (h.0, by-less says (named.Unknown number) h.1)

  facts-less : (facts : Facts) → AreFacts rules knows e past facts → AreFacts rules less e past facts
  facts-less (kinds.Carrying facts) h = (h.0, h.1, named-less e.note facts.named h.2, h.3, h.4, h.5, h.6)
  facts-less _ h = h

  -- a reason
  pub reason-less : (o : Option Reason) → IfSome o (IsReasonOf rules knows e past) → IfSome o (IsReasonOf rules less e past)
  reason-less None h = h
  reason-less (Some reason) h = (h.0, h.1, h.2, h.3, facts-less reason.facts h.4, h.5)
