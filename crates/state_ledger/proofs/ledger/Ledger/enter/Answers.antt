use Rattle.std.proofs.Common.{◌≡◌, ap, subst, [], ◌∷◌, ◌++◌, None, is_some, true}
use Rattle.std.proofs.lemmas.Result.{err_from_is_err_and}
use Rattle.capture_form.specs.declared.records.Record.{Record}
use Rattle.trace_events.specs.declared.tally.Tally.{Tally}
use Rattle.state_ledger.specs.Ledger.{IsReason, Stands, broken_behind}
use Rattle.state_ledger.proofs.ledger.Ledger.enter.Goals as goal

-- what was read is the record

pub returns-clause-met : goal.returns-clause-met
returns-clause-met c = λ records stands.
    subst (λ (r : Record). broken_behind c.args.rules.now records r ≡ None) c.of-entry.ensures
    (c.in_ok-hold_event.ensures.met records stands.0 stands.1.1.1 (ap (λ (x : Tally). x.records) stands.1.0))

pub returns-clause-entered : goal.returns-clause-entered
returns-clause-entered c = λ records stands.
    subst (λ (r : Record). Stands c.args.rules.now c.follow.new.self (records ++ r ∷ [])) c.of-entry.ensures
    (c.in_ok-follow.ensures.stand c.requires.few records (c.in_ok-hold_event.ensures.lawful records stands.0 stands.1.1.1 (ap (λ (x : Tally). x.records) stands.1.0)) stands)

pub returns-in_err-hold_event-clause-reason : goal.returns-in_err-hold_event-clause-reason
returns-in_err-hold_event-clause-reason c =
    let p = err_from_is_err_and c.from_residual.result c.from_residual.ensures.1 in
    rw (p.1, p.2) (λ keeps records stands.
    subst (λ (r : Record). IsReason c.args.rules.now records r c.in_err-hold_event.field-0.0) c.of-entry.ensures
    (c.in_err-hold_event.ensures.reason records stands.0 (stands.1.1.0 keeps) (ap (λ (x : Tally). x.records) stands.1.0)))

pub returns-in_err-hold_event-clause-broken : goal.returns-in_err-hold_event-clause-broken
returns-in_err-hold_event-clause-broken c =
    let p = err_from_is_err_and c.from_residual.result c.from_residual.ensures.1 in
    rw (p.1, p.2) (λ not_memory records stands.
    subst (λ (r : Record). is_some (broken_behind c.args.rules.now records r) ≡ true) c.of-entry.ensures
    (c.in_err-hold_event.ensures.broken not_memory records stands.0 stands.1.1.1 (ap (λ (x : Tally). x.records) stands.1.0)))
