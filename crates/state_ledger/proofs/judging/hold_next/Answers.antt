use Rattle.std.proofs.lemmas.Result.{err_from_is_err_and}
use Rattle.std.proofs.Common.{◌≡◌, refl, sym, ap, subst, ◌∙◌, true, Option, Some, None, IfSome, is_some}
use Rattle.trace_events.specs.declared.clause.Clause.{Clause}
use Rattle.trace_events.specs.Clauses.{broken_clause}
use Rattle.trace_events.specs.TransferClause.{to_carry}
use Rattle.trace_events.specs.Said.{out_transfer}
use Rattle.trace_events.specs.Event.{Event}
use Rattle.trace_events.specs.History.{moment_of}
use Rattle.trace_events.specs.Known.{CarriesKnown, OpensKnown}
use Rattle.trace_events.specs.View.{event_view}
use Rattle.state_ledger.specs.HeldEvents.{has_parts, parts_of}
use Rattle.state_ledger.specs.NextEvents.{unopened}
use Rattle.state_ledger.proofs.UnopenedRecords.{stands-live, names-live, number-is, broken-is, opened-is, at-moment}
use Rattle.state_ledger.proofs.judging.hold_next.Goals as goal

-- what is found broken is broken, where it would be found lawful if it were
breaks : (law : Option Clause) (clause : Clause) → (law ≡ None → Some clause ≡ law) → is_some law ≡ true
breaks None clause found = let never : Some clause ≡ None = found refl in absurd cc
breaks (Some other) clause found = refl

pub returns-in-Some-clause-answer : goal.returns-in-Some-clause-answer
returns-in-Some-clause-answer g c = λ past stands whole numbered carries opens.
    let rules = c.args.rules.now in
    let r = c.args.entry.now in
    let e = event_view c.judge_unopened-event.result in
    let is = c.judge_unopened-event.ensures past stands numbered in
    let Carries : Event → Type 0 = λ x. CarriesKnown (λ n. g.P.History.knows_number c.args.past.now n past) (λ j. g.P.History.knows_outgoing c.args.past.now j past) x in
    let broken = c.in-Some.ensures.whole past stands whole (stands-live rules past r e is) (names-live rules past r e is) (number-is rules past r e is) (subst Carries (sym is) carries) in
    sym (broken ∙ broken-is rules past r e is)

pub returns-in_ok-keep-in-None-clause-answer : goal.returns-in_ok-keep-in-None-clause-answer
returns-in_ok-keep-in-None-clause-answer g c = λ past stands whole numbered carries opens.
    let rules = c.args.rules.now in
    let r = c.args.entry.now in
    let e = event_view c.judge_unopened-event.result in
    let is = c.judge_unopened-event.ensures past stands numbered in
    let Carries : Event → Type 0 = λ x. CarriesKnown (λ n. g.P.History.knows_number c.args.past.now n past) (λ j. g.P.History.knows_outgoing c.args.past.now j past) x in
    let Opens : Event → Type 0 = λ x. OpensKnown (λ n channel. g.P.History.knows_begin c.args.past.now n channel past) (λ s handle. g.P.History.knows_attach c.args.past.now s handle past) x in
    let unbroken = c.in-None.ensures.whole past stands whole (stands-live rules past r e is) (names-live rules past r e is) (number-is rules past r e is) (subst Carries (sym is) carries) in
    let known = opens (sym (unbroken ∙ ap (λ (x : Event). broken_clause rules x past) is)) in
    let opened = c.open.ensures rules past stands (stands-live rules past r e is) (subst Opens (sym is) known) ∙ opened-is rules past r e is in
    (c.in_ok-keep-in-None.ensures.copied (moment_of r.what) ∙ at-moment rules past r (event_view c.open.new.event) opened, sym (unbroken ∙ broken-is rules past r e is))

pub returns-in_err-keep-in-None-clause-answer : goal.returns-in_err-keep-in-None-clause-answer
returns-in_err-keep-in-None-clause-answer g c = λ past stands whole numbered carries opens.
    let rules = c.args.rules.now in
    let r = c.args.entry.now in
    let e = event_view c.judge_unopened-event.result in
    let is = c.judge_unopened-event.ensures past stands numbered in
    let Carries : Event → Type 0 = λ x. CarriesKnown (λ n. g.P.History.knows_number c.args.past.now n past) (λ j. g.P.History.knows_outgoing c.args.past.now j past) x in
    let Opens : Event → Type 0 = λ x. OpensKnown (λ n channel. g.P.History.knows_begin c.args.past.now n channel past) (λ s handle. g.P.History.knows_attach c.args.past.now s handle past) x in
    let unbroken = c.in-None.ensures.whole past stands whole (stands-live rules past r e is) (names-live rules past r e is) (number-is rules past r e is) (subst Carries (sym is) carries) in
    let known = opens (sym (unbroken ∙ ap (λ (x : Event). broken_clause rules x past) is)) in
    let opened = c.open.ensures rules past stands (stands-live rules past r e is) (subst Opens (sym is) known) ∙ opened-is rules past r e is in
    let HasParts : Event → Type 0 = λ x. has_parts (parts_of x) ≡ true in
    let p = err_from_is_err_and c.from_residual.result c.from_residual.ensures.1 in
    rw (p.1, p.2) (subst HasParts opened c.in_err-keep-in-None.ensures.refused, sym (unbroken ∙ broken-is rules past r e is))

pub returns-in_ok-keep-in-None-clause-last : goal.returns-in_ok-keep-in-None-clause-last
returns-in_ok-keep-in-None-clause-last g c = λ past stands keeps numbered carries opens.
    let rules = c.args.rules.now in
    let r = c.args.entry.now in
    let e = event_view c.judge_unopened-event.result in
    let is = c.judge_unopened-event.ensures past stands numbered in
    let Carries : Event → Type 0 = λ x. CarriesKnown (λ n. g.P.History.knows_number c.args.past.now n past) (λ j. g.P.History.knows_outgoing c.args.past.now j past) x in
    let Opens : Event → Type 0 = λ x. OpensKnown (λ n channel. g.P.History.knows_begin c.args.past.now n channel past) (λ s handle. g.P.History.knows_attach c.args.past.now s handle past) x in
    let unbroken = c.in-None.ensures.last past stands keeps (stands-live rules past r e is) (names-live rules past r e is) (number-is rules past r e is) (subst Carries (sym is) carries) refl in
    let known = opens (sym (ap (λ (x : Event). broken_clause rules x past) is) ∙ unbroken) in
    let opened = c.open.ensures rules past stands (stands-live rules past r e is) (subst Opens (sym is) known) ∙ opened-is rules past r e is in
    (c.in_ok-keep-in-None.ensures.copied (moment_of r.what) ∙ at-moment rules past r (event_view c.open.new.event) opened, sym (broken-is rules past r e is) ∙ unbroken)

pub returns-in-Some-clause-broken : goal.returns-in-Some-clause-broken
returns-in-Some-clause-broken g c = λ not_memory past stands keeps numbered carries names.
    let rules = c.args.rules.now in
    let r = c.args.entry.now in
    let e = event_view c.judge_unopened-event.result in
    let is = c.judge_unopened-event.ensures past stands numbered in
    let Carries : Event → Type 0 = λ x. CarriesKnown (λ n. g.P.History.knows_number c.args.past.now n past) (λ j. g.P.History.knows_outgoing c.args.past.now j past) x in
    let Names : Event → Type 0 = λ x. IfSome (out_transfer x) (λ fields. IfSome (to_carry rules x.note past) (λ d. g.P.History.knows_incoming c.args.past.now d past)) in
    breaks (broken_clause rules (unopened rules past r) past) c.in-Some.clause (λ none.
    c.in-Some.ensures.known past stands keeps (stands-live rules past r e is) (names-live rules past r e is) (number-is rules past r e is) (subst Carries (sym is) carries) (subst Names (sym is) (names none))
    ∙ ap (λ (x : Event). broken_clause rules x past) is)
