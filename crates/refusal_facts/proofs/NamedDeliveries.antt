-- What a note names, where that may not be carried.
use Rattle.std.proofs.Common.{◌≡◌, ℕ, List, None}
use Rattle.capture_form.specs.Rules.{RuleSet}
use Rattle.pairing_cert.specs.declared.note.Note.{Note}
use Rattle.pairing_cert.specs.declared.note.Note.TheVariants as notes
use Rattle.trace_events.specs.Event.{Event}
use Rattle.trace_events.specs.TransferClause.{to_carry}
use Rattle.trace_events.specs.declared.event.Incoming.{Incoming}
use Rattle.refusal_facts.specs.TransferFacts.{IsNamed, IsNamedBy}
use Rattle.refusal_facts.specs.declared.transfer.Named.{Named}
use Rattle.refusal_facts.specs.declared.transfer.Named.TheVariants as named

not-carried : (rules : RuleSet) (knows : ℕ → Type 0) (past : List Event) (says : Note) (delivery : Incoming)
    → IsNamedBy rules knows past says (named.Carried delivery) → ⊥
not-carried rules knows past (notes.Pair n) delivery by = by
not-carried rules knows past notes.None delivery by = cc
not-carried rules knows past (notes.Told why) delivery by = cc

-- it stands for what the note names
pub uncarried_named : (rules : RuleSet) (knows : ℕ → Type 0) (past : List Event) (says : Note) (stands : Named)
    → to_carry rules says past ≡ None → IsNamedBy rules knows past says stands → IsNamed rules knows past says stands
uncarried_named rules knows past says named.Nothing none by = (none, by)
uncarried_named rules knows past says (named.Carried delivery) none by = absurd (not-carried rules knows past says delivery by)
uncarried_named rules knows past says (named.Kept delivery complete gone) none by = (none, by)
uncarried_named rules knows past says (named.Unknown number) none by = (none, by)
