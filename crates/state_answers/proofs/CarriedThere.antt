-- What a lawful transfer carries was not let go, so that the table of deliveries can tell of it.
use Rattle.std.proofs.Common.{◌≡◌, refl, sym, ap, subst, ◌∙◌, inl, inr, ◌<◌, Bool, true, false, ◌||◌, List, ◌∷◌, length, Option, Some, None, IfSome, if◌then◌else◌, ◌==◌, arith, eq-eqb, ne_eqb}
use Rattle.amqp_perf.specs.Meaning.{TransferFields}
use Rattle.pairing_cert.specs.declared.note.Note.TheVariants as notes
use Rattle.capture_form.specs.Rules.{RuleSet}
use Rattle.trace_events.specs.declared.clause.Clause.TheVariants.{L6}
use Rattle.trace_events.specs.Words.{is_some_and, where_passes}
use Rattle.trace_events.specs.Event.{Event, Incoming, Outgoing}
use Rattle.trace_events.specs.Said.{out_transfer}
use Rattle.trace_events.specs.Credit.{begins_outgoing}
use Rattle.trace_events.specs.Outgoing.{noted, outgoing_begun}
use Rattle.trace_events.proofs.Along.{and_last, some_such}
use Rattle.trace_events.proofs.Judged.{AreJudged, IsTransfer, judged-number, judged-transfer}
use Rattle.trace_events.specs.Clauses.{first_broken, meaning_meets}
use Rattle.trace_events.specs.TransferClause.{goes_on_with, is_same_note, to_carry}
use Rattle.trace_events.proofs.ClausesMet.{met, lawful-past}
use Rattle.trace_events.proofs.JudgedHistories.{judged-keeps}
use Rattle.trace_events.proofs.OutgoingProgress.{IsPartOf, judged-outgoing_part, judged-carrying, same_note}
use Rattle.state_tables.specs.LetGo.{names_let_go}
use Rattle.state_incoming.specs.EntryAnswers.{Knows}
use Rattle.state_incoming.specs.HeldTables.{AreHeld, AreOver}
use Rattle.state_incoming.specs.declared.deliveries.Deliveries.{Deliveries}
use Rattle.state_incoming.proofs.KnownEntries.{known-carried, knows-carried}
use Rattle.state_incoming.proofs.OverKnown.{carrier-kept}
use Rattle.state_incoming.proofs.OverLasts.{begins-kept}
use Rattle.state_outgoing.proofs.LastBegun.{progress-unsent}
use Rattle.state_outgoing.proofs.SentKept.{found-contained, unsent-unfinished}

or-other : (b c : Bool) → b ≡ false → b || c ≡ true → c ≡ true
or-other true c none is = absurd cc
or-other false c none is = is

known : {A : Type 0} (P : A → Type 0) (o : Option A) (x : A) → o ≡ Some x → IfSome o P → P x
known P o x is h = subst (λ (p : Option _). IfSome p P) is h

module _ (rules : RuleSet) (e : Event) (past : List Event) (are : AreJudged rules (e ∷ past)) (lawful : first_broken rules (e ∷ past) ≡ None)
    (table : Deliveries) (over : AreOver rules table past) where
  number : e.number ≡ length past
  number = judged-number rules e past are

  module _ (j : Outgoing) (is : e.outgoing ≡ Some j) where
    transfer : IsTransfer e.moment
    transfer = known (λ (k : Outgoing). IsTransfer e.moment) e.outgoing j is (judged-transfer rules e past are)

    six : begins_outgoing e || is_some_and e.outgoing (λ k. goes_on_with k e.note transfer.fields) ≡ true
    six =
        let t = transfer in
        sym (ap (λ m. meaning_meets rules e t.spoken past m L6) t.means) ∙ met rules e past lawful t.frame t.written t.spoken t.says L6

    -- of one that goes on the note is the same
    later-note : j.number < length past → is_same_note e.note j.note ≡ true
    later-note below =
        let later : (j.number == e.number) ≡ false = ne_eqb j.number e.number (λ same. absurd (omega (arith, same, number, below))) in
        let none : begins_outgoing e ≡ false = ap (λ (o : Option Outgoing). is_some_and o (λ k. k.number == e.number)) is ∙ later in
        let goes : is_some_and e.outgoing (λ k. goes_on_with k e.note transfer.fields) ≡ true = or-other (begins_outgoing e) _ none six in
        let here : goes_on_with j e.note transfer.fields ≡ true = sym (ap (λ (o : Option Outgoing). is_some_and o (λ k. goes_on_with k e.note transfer.fields)) is) ∙ goes in
        and_last _ (is_same_note e.note j.note) here

    part-kept : IsPartOf e past j → names_let_go table.let_go.items e.note ≡ false
    -- what is in progress is not finished
    part-kept (inl (l, on, goes)) =
        let c = (judged-carrying rules past are.1 (lawful-past rules e past lawful) l j goes).1 in
        let same : is_same_note e.note (notes.Pair c.delivery.number) ≡ true = sym (ap (λ note. is_same_note e.note note) c.named) ∙ later-note c.below in
        let note : e.note ≡ j.note = same_note e.note c.delivery.number same ∙ sym c.named in
        let there = found-contained past j.number j c.at in
        ap (names_let_go table.let_go.items) note ∙ carrier-kept rules past table over j there (unsent-unfinished past j (progress-unsent rules past are.1 l j goes))
    -- and what begins carries none that is over
    part-kept (inr (new, note, on)) =
        let begun : outgoing_begun e ≡ Some j =
        ap (λ (o : Option Outgoing). where_passes (λ x. x.number == e.number) o) is ∙ ap (λ b. if b then Some j else None) (eq-eqb j.number e.number (new ∙ sym number)) in
        sym (ap (names_let_go table.let_go.items) note) ∙ begins-kept rules e past are lawful table over j begun

  -- the note of a transfer names none that was let go
  pub names-kept : (fields : TransferFields) → out_transfer e ≡ Some fields → names_let_go table.let_go.items e.note ≡ false
  names-kept fields is =
      let keeps = judged-keeps rules (e ∷ past) are lawful in
      let d = some_such _ (noted e.note past) (known _ (out_transfer e) fields is keeps.carried.0) in
      let j = some_such _ e.outgoing d.2 in
      part-kept j.0 j.1 (known (IsPartOf e past) e.outgoing j.0 j.1 (judged-outgoing_part rules e past are))

  -- so the table can tell of what it carries
  pub names-known : AreHeld rules table past → IfSome (out_transfer e) (λ fields. IfSome (to_carry rules e.note past) (Knows table))
  names-known held = by (out_transfer e) refl
    where
      by : (o : Option TransferFields) → out_transfer e ≡ o → IfSome o (λ fields. IfSome (to_carry rules e.note past) (Knows table))
      by None none = tt
      by (Some fields) is =
          subst (λ (o : Option Incoming). IfSome o (Knows table)) (known-carried rules past table held e.note (names-kept fields is)) (knows-carried rules past table held e.note)
