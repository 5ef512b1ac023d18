use Rattle.std.proofs.Common.{◌≡◌, refl, sym, ap, ◌∙◌, subst, true, Some, None, is_some}
use Rattle.std.specs.List.{list_any}
use Rattle.trace_events.specs.Event.{Incoming}
use Rattle.trace_events.specs.History.{history}
use Rattle.trace_events.specs.Incoming.{incoming_at}
use Rattle.trace_events.specs.Outcome.{may_be_told, reasons, row}
use Rattle.trace_events.specs.View.{incoming_view}
use Rattle.state_incoming.specs.EntryAnswers.{has_entry}
use Rattle.state_incoming.proofs.KnownEntries.{knows-at}
use Rattle.due_outcomes.proofs.OutcomeTables.{begun-at, knows-has, unless-told}
use Rattle.due_outcomes.proofs.outcome.outcome_of.Goals as goal

same_some : {A : Type 0} (a b : A) → Some a ≡ Some b → a ≡ b
same_some a b is = cc

pub returns-in_err-delivery-clause-none : goal.returns-in_err-delivery-clause-none
returns-in_err-delivery-clause-none c = λ none records stands d there number.
    let rules = c.args.rules.now in
    let past = history rules records in
    unless-told rules past c.args.tables.now stands d there
    (λ knows may rows.
    let has = subst (λ n. has_entry c.args.tables.now.deliveries.now n ≡ true) number (knows-has c.args.tables.now.deliveries.now d knows) in
    let at : incoming_at c.args.number past ≡ Some d = subst (λ n. incoming_at n past ≡ Some d) number (begun-at rules past c.args.tables.now stands d there) in
    let given : None ≡ incoming_at c.args.number past = c.in_err-delivery.ensures.value rules past stands.1.1.1.1.0.0 has in
    absurd cc)

pub returns-then-not-may_be_told-clause-none : goal.returns-then-not-may_be_told-clause-none
returns-then-not-may_be_told-clause-none c = λ none records stands d there number.
    let rules = c.args.rules.now in
    let past = history rules records in
    let own = incoming_view c.in_ok-delivery.delivery in
    unless-told rules past c.args.tables.now stands d there
    (λ knows may rows.
    let has = subst (λ n. has_entry c.args.tables.now.deliveries.now n ≡ true) number (knows-has c.args.tables.now.deliveries.now d knows) in
    let at : incoming_at c.args.number past ≡ Some d = subst (λ n. incoming_at n past ≡ Some d) number (begun-at rules past c.args.tables.now stands d there) in
    let given : Some own ≡ incoming_at c.args.number past = c.in_ok-delivery.ensures.value rules past stands.1.1.1.1.0.0 has in
    let same : own ≡ d = same_some own d (given ∙ at) in
    let asked = c.may_be_told.ensures rules past stands (c.in_ok-delivery.ensures.known rules past stands.1.1.1.1.0.0) in
    sym may ∙ (ap (λ (x : Incoming). may_be_told x past) (sym same) ∙ (sym asked ∙ c.if-not-may_be_told.true)))

pub returns-in_err-why-clause-none : goal.returns-in_err-why-clause-none
returns-in_err-why-clause-none c = λ none records stands d there number.
    let rules = c.args.rules.now in
    let past = history rules records in
    let own = incoming_view c.in_ok-delivery.delivery in
    unless-told rules past c.args.tables.now stands d there
    (λ knows may rows.
    let has = subst (λ n. has_entry c.args.tables.now.deliveries.now n ≡ true) number (knows-has c.args.tables.now.deliveries.now d knows) in
    let at : incoming_at c.args.number past ≡ Some d = subst (λ n. incoming_at n past ≡ Some d) number (begun-at rules past c.args.tables.now stands d there) in
    let given : Some own ≡ incoming_at c.args.number past = c.in_ok-delivery.ensures.value rules past stands.1.1.1.1.0.0 has in
    let same : own ≡ d = same_some own d (given ∙ at) in
    let none_applies = c.in_err-why.ensures.none past stands (c.in_ok-delivery.ensures.known rules past stands.1.1.1.1.0.0) refl in
    sym rows ∙ (ap (λ (x : Incoming). list_any (λ why. is_some (row rules x past why)) reasons) (sym same) ∙ none_applies))

pub returns-clause-due : goal.returns-clause-due
returns-clause-due c = λ records stands.
    let rules = c.args.rules.now in
    let past = history rules records in
    let knows = c.in_ok-delivery.ensures.known rules past stands.1.1.1.1.0.0 in
    record {
      at = knows-at rules past c.args.tables.now.deliveries.now stands.1.1.1.1.0.0 (incoming_view c.in_ok-delivery.delivery) knows;
      may = sym (c.may_be_told.ensures rules past stands knows) ∙ c.if-not-may_be_told.false;
      tells = c.in_ok-why.ensures.tells past stands knows;
    }
