-- What a next record carries is known to whoever has the table of deliveries from clients, and knows of each delivery to a
-- client that begins, or is in progress on a live link.
use Rattle.std.proofs.Common.{◌≡◌, ℕ, true, List, Option, Some, None, IfSome}
use Rattle.pairing_cert.specs.declared.note.Note.{Note}
use Rattle.capture_form.specs.Rules.{RuleSet}
use Rattle.trace_events.specs.Event.{Event, Outgoing, Moment}
use Rattle.trace_events.specs.History.{judge_unopened, IsHistory}
use Rattle.trace_events.specs.Known.{CarriesKnown}
use Rattle.state_incoming.specs.EntryAnswers.{has_entry}
use Rattle.state_incoming.specs.HeldTables.{IsTable}
use Rattle.state_incoming.specs.declared.deliveries.Deliveries.{Deliveries}
use Rattle.state_answers.proofs.ToldKnown.{told-known}
use Rattle.state_answers.proofs.OutgoingKnown.{BeginsOrGoesOn, outgoing-known}

each-such : {A : Type 0} (P Q : A → Type 0) (o : Option A) → ((x : A) → P x → Q x) → IfSome o P → IfSome o Q
each-such P Q None so h = tt
each-such P Q (Some x) so h = so x h

pub carries-known : (rules : RuleSet) (past : List Event) (table : Deliveries) (Sent : Outgoing → Type 0) → IsHistory rules past → IsTable rules table past
    → ((j : Outgoing) → BeginsOrGoesOn past j → Sent j) → (c : ℕ) (moment : Moment) (note : Note)
    → CarriesKnown (λ n. has_entry table n ≡ true) Sent (judge_unopened rules past c moment note)
carries-known rules past table Sent are is sent c moment note = (
  told-known rules past table are is c moment note,
  each-such (BeginsOrGoesOn past) Sent (judge_unopened rules past c moment note).outgoing sent (outgoing-known rules past c moment note),
)
