-- What the tables can tell was not let go, and of nothing that was let go another carrier begins.
use Rattle.std.proofs.Common.{◌≡◌, refl, sym, ap, ◌∙◌, ℕ, false, not, ◌&&◌, List, [], ◌∷◌, Option, Some, None, IfSome, option_map}
use Rattle.pairing_cert.specs.declared.note.Note.{Note}
use Rattle.pairing_cert.specs.declared.note.Note.TheVariants as notes
use Rattle.capture_form.specs.Rules.{RuleSet}
use Rattle.trace_events.specs.Words.{is_some_and}
use Rattle.trace_events.specs.Event.{Event, Incoming, Outgoing}
use Rattle.trace_events.specs.Incoming.{is_complete}
use Rattle.trace_events.specs.Outgoing.{noted, outgoing_begun}
use Rattle.trace_events.specs.Waiting.{is_gone}
use Rattle.trace_events.proofs.Judged.{AreJudged}
use Rattle.trace_events.specs.Clauses.{first_broken}
use Rattle.trace_events.specs.TransferClause.{to_carry}
use Rattle.trace_events.proofs.OneConsumer.{passes-some}
use Rattle.trace_events.proofs.OutgoingProgress.{noted_pair}
use Rattle.state_tables.specs.LetGo.{is_let_go, names_let_go}
use Rattle.state_incoming.specs.EntryAnswers.{Knows}
use Rattle.state_incoming.specs.Held.{Held, held_at}
use Rattle.state_incoming.specs.HeldTables.{AreHeld, AreOver, held_in}
use Rattle.state_incoming.specs.declared.deliveries.Deliveries.{Deliveries}
use Rattle.state_incoming.proofs.OverKnown.{kept-law}
use Rattle.state_incoming.proofs.OverLasts.{begins-kept}
use Rattle.state_outgoing.specs.LastBegun.{is_last_let_go, last_on}

-- where nothing was let go no note names such a one
pub nothing-named : (gone : List (ℕ × Unit {0})) → gone ≡ [] → (note : Note) → names_let_go gone note ≡ false
nothing-named gone none (notes.Pair n) = ap (λ (items : List (ℕ × Unit {0})). is_let_go items n) none
nothing-named gone none notes.None = refl
nothing-named gone none (notes.Told why) = refl

-- so what the last one on a link carries was not let go
pub nothing-last : (gone : List (ℕ × Unit {0})) → gone ≡ [] → (link : ℕ) (past : List Event) → is_last_let_go gone link past ≡ false
nothing-last gone none link past = by (last_on link past)
  where
    by : (o : Option Outgoing) → is_some_and o (λ j. names_let_go gone j.note) ≡ false
    by None = refl
    by (Some j) = nothing-named gone none j.note

-- what the table of deliveries from clients can tell of, neither table let go
pub known-kept : (rules : RuleSet) (past : List Event) (table : Deliveries) → AreHeld rules table past → (d : Incoming) → Knows table d → (gone : List (ℕ × Unit {0})) → gone ≡ table.let_go.items
    → is_let_go gone d.number ≡ false
known-kept rules past table were d knows gone alike = ap (λ (items : List (ℕ × Unit {0})). is_let_go items d.number) alike ∙ by (held_in table d.number) refl knows
  where
    by : (o : Option Held) → held_in table d.number ≡ o → option_map (λ (x : Held). x.delivery) o ≡ Some d → is_let_go table.let_go.items d.number ≡ false
    by None is knows = absurd cc
    by (Some x) is knows = (kept-law (is_let_go table.let_go.items d.number) (held_at rules d.number past) x (sym (were d.number) ∙ is)).0

-- nor does a note name one that was let go where the table can tell of what it names
pub noted-kept : (rules : RuleSet) (past : List Event) → AreJudged rules past → (table : Deliveries) → AreHeld rules table past → (note : Note) (d : Incoming) → to_carry rules note past ≡ Some d
    → Knows table d → names_let_go table.let_go.items note ≡ false
noted-kept rules past are table were note d is knows =
    let named = noted_pair rules past are note d (passes-some (λ x. is_complete x past && not (is_gone rules x past)) (noted note past) d is).0 in
    ap (names_let_go table.let_go.items) named.0 ∙ known-kept rules past table were d knows table.let_go.items refl

-- what is so of whatever is there
pub if-some : {A : Type 0} (P : A → Type 0) (o : Option A) → ((x : A) → o ≡ Some x → P x) → IfSome o P
if-some P None each = tt
if-some P (Some x) each = each x refl

-- what a lawful next event begins carries none that was let go
pub begins-apart : (rules : RuleSet) (e : Event) (past : List Event) → AreJudged rules (e ∷ past) → first_broken rules (e ∷ past) ≡ None → (table : Deliveries) → AreOver rules table past
    → (gone : List (ℕ × Unit {0})) → gone ≡ table.let_go.items → is_some_and (outgoing_begun e) (λ j. names_let_go gone j.note) ≡ false
begins-apart rules e past are lawful table over gone alike = by (outgoing_begun e) refl
  where
    by : (o : Option Outgoing) → outgoing_begun e ≡ o → is_some_and o (λ j. names_let_go gone j.note) ≡ false
    by None none = refl
    by (Some j) begun = ap (λ (items : List (ℕ × Unit {0})). names_let_go items j.note) alike ∙ begins-kept rules e past are lawful table over j begun
