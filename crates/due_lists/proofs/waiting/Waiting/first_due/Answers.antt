use Rattle.std.proofs.Common.{◌≡◌, refl, sym, ap, subst, ◌∙◌, ◌≤◌, ◌+◌, inl, inr, Bool, false, true, not, List, Option, Some, None, IfSome}
use Rattle.capture_form.specs.Rules.{RuleSet}
use Rattle.capture_form.specs.declared.records.Record.{Record}
use Rattle.trace_events.specs.Event.{Event, Link, Incoming}
use Rattle.trace_events.specs.History.{history}
use Rattle.trace_events.specs.Incoming.{address_of, completed_before}
use Rattle.trace_events.proofs.Judged.{AreJudged, history-judged}
use Rattle.trace_events.specs.View.{incoming_view}
use Rattle.state_incoming.specs.EntryAnswers.{Knows}
use Rattle.state_incoming.specs.HeldTables.{IsTable}
use Rattle.state_incoming.specs.declared.deliveries.Deliveries.{Deliveries}
use Rattle.state_answers.specs.Tables.{TellsOf}
use Rattle.due_lists.specs.AddressesToTry.{is_among_first}
use Rattle.due_lists.specs.Waiting.{HasWaiting, IsDueWaiting, IsEarliest, is_ahead}
use Rattle.due_lists.specs.Waking.{MayBegin}
use Rattle.due_lists.specs.declared.begin.DueBegin.{DueBegin}
use Rattle.due_lists.proofs.AwakeMoves.{all-first}
use Rattle.due_lists.proofs.Chosen.{next-waits, waiting-known}
use Rattle.due_lists.proofs.EarliestDue.{ahead-more}
use Rattle.due_lists.proofs.InVain.{none-in-vain}
use Rattle.due_lists.proofs.waiting.Waiting.first_due.Goals as goal

found : {A : Type 0} (P : A → Type 0) (o : Option A) (x : A) → o ≡ Some x → IfSome o P → P x
found P o x is h = subst (λ (p : Option _). IfSome p P) is h

each-more : {A : Type 0} (P Q : A → Type 0) (o : Option A) → ((x : A) → P x → Q x) → IfSome o P → IfSome o Q
each-more P Q None all one = tt
each-more P Q (Some x) all one = all x one

off : (b : Bool) → not b ≡ true → b ≡ false
off false is = refl
off true is = absurd cc

-- the table knows what is due
due-known : (rules : RuleSet) (past : List Event) → AreJudged rules past → (table : Deliveries) → IsTable rules table past → (due : DueBegin) → IsDueWaiting rules due past → Knows table (incoming_view due.delivery)
due-known rules past judged table is_table due is = waiting-known rules past judged table is_table (incoming_view due.delivery) is.found (next-waits rules past (incoming_view due.delivery) is.next)

pub loop-index-preserved-in-Some : goal.loop-index-preserved-in-Some
loop-index-preserved-in-Some c =
    let rules = c.args.rules.now in
    let table = c.args.tables.now.deliveries.now in
    let inv = c.loop-index.invariant in
    let due = c.in-Some.due in (
      λ records are has. c.look.ensures.kept records are (inv.0 records are has),
      λ records are has. elim c.earlier.ensures.one [
        | inl first ↦ found _ c.loop-index.first c.earlier.result first inv.1 records are has
        | inr other ↦ subst (λ (x : DueBegin). IsDueWaiting rules x (history rules records)) other (c.in-Some.ensures.due records are (inv.0 records are has))
      ],
      λ records are has d l h among.
          let past = history rules records in
          let judged = history-judged rules records in
          let is = c.in-Some.ensures.due records are (inv.0 records are has) in
          let first = each-more _ (λ (x : DueBegin). Knows table (incoming_view x.delivery)) c.loop-index.first (λ x one. due-known rules past judged table are.1.1.1.1.0 x (one records are has)) inv.1 in
          let order = c.earlier.ensures.order rules past are first (due-known rules past judged table are.1.1.1.1.0 due is) in
          subst (λ (x : DueBegin). is_ahead past (Some x) d ≡ true) (sym order)
          (ahead-more rules past judged c.loop-index.first due is d l h (is_among_first c.loop-index.self.to_try c.loop-index.index (address_of d past))
          (is_among_first c.look.new.self.to_try (c.loop-index.index + 1) (address_of d past)) (c.in-Some.ensures.here records are (inv.0 records are has) (address_of d past)) (inv.2 records are has d l h) among),
    )

-- what is ahead of all that may begin is the earliest
earliest-of : (rules : RuleSet) (Are Has : List Record → Type 0) (first : Option DueBegin)
    → ((records : List Record) → Are records → Has records → (d : Incoming) (l : Link) → MayBegin rules (history rules records) d l → is_ahead (history rules records) first d ≡ true)
    → IfSome first (λ due. (records : List Record) → Are records → Has records → IsEarliest rules due (history rules records))
earliest-of rules Are Has None ahead = tt
earliest-of rules Are Has (Some due) ahead = λ records are has d l h. off (completed_before d (incoming_view due.delivery) (history rules records)) (ahead records are has d l h)

pub returns-clause-earliest : goal.returns-clause-earliest
returns-clause-earliest c =
    let rules = c.args.rules.now in
    let keys = c.loop-index.self.to_try.addresses.keys in
    let le = subst (λ k. k ≤ c.loop-index.index) c.count.ensures c.loop-index-test.false in
    earliest-of rules (λ records. TellsOf rules c.args.tables.now (history rules records)) (λ records. HasWaiting rules c.args.self.now (history rules records)) c.loop-index.first
    (λ records are has d l h. c.loop-index.invariant.2 records are has d l h (all-first keys c.loop-index.index le (address_of d (history rules records)) ∙ (c.loop-index.invariant.0 records are has).to_try d l h))

pub returns-clause-quiet : goal.returns-clause-quiet
returns-clause-quiet c = λ records are has none.
    let rules = c.args.rules.now in
    let past = history rules records in
    let keys = c.loop-index.self.to_try.addresses.keys in
    let le = subst (λ k. k ≤ c.loop-index.index) c.count.ensures c.loop-index-test.false in
    none-in-vain rules past (history-judged rules records)
    (λ d l h.
    let ahead = c.loop-index.invariant.2 records are has d l h (all-first keys c.loop-index.index le (address_of d past) ∙ (c.loop-index.invariant.0 records are has).to_try d l h) in
    let never : false ≡ true = ap (λ o. is_ahead past o d) (sym none) ∙ ahead in
    absurd cc)
