use Rattle.std.proofs.Common.{◌∙◌, Option, Some, None, IfSome}
use Rattle.trace_events.specs.View.{incoming_view, outgoing_view}
use Rattle.trace_judge.proofs.FirstRows.{carried-row}
use Rattle.trace_judge.proofs.outcome.first_paired_row.Goals as goal

if_some : {A : Type 0} (o : Option A) (P Q : A → Type 0) → IfSome o P → ((x : A) → P x → Q x) → IfSome o Q
if_some None P Q one all = tt
if_some (Some x) P Q one all = all x one

pub returns-in-Some-clause-tells : goal.returns-in-Some-clause-tells
returns-in-Some-clause-tells g c = λ rules history stands knows.
    let d = incoming_view c.args.delivery.now in
    let j = outgoing_view c.in_ok-outgoing.outgoing in
    carried-row d history j c.decided_row.result.0 (Some c.in-Some.own) (c.in_ok-outgoing.ensures.value rules history stands knows)
    (c.in-Some.ensures rules history stands (c.in_ok-outgoing.ensures.known rules history stands knows)) ∙ c.decided_row.ensures.tells rules history j stands

pub returns-in-None-clause-tells : goal.returns-in-None-clause-tells
returns-in-None-clause-tells g c = λ rules history stands knows.
    let d = incoming_view c.args.delivery.now in
    let j = outgoing_view c.in_ok-outgoing.outgoing in
    let known = c.in_ok-outgoing.ensures.known rules history stands knows in
    if_some c.undecided_row.result _ _ (c.undecided_row.ensures.tells rules history d stands known)
    (λ x tells. carried-row d history j x.0 None (c.in_ok-outgoing.ensures.value rules history stands knows) (c.in-None.ensures rules history stands known) ∙ tells)

pub returns-in-None-clause-none : goal.returns-in-None-clause-none
returns-in-None-clause-none g c = λ rules history stands knows none why.
    let d = incoming_view c.args.delivery.now in
    let j = outgoing_view c.in_ok-outgoing.outgoing in
    let known = c.in_ok-outgoing.ensures.known rules history stands knows in
    carried-row d history j why None (c.in_ok-outgoing.ensures.value rules history stands knows) (c.in-None.ensures rules history stands known)
    ∙ c.undecided_row.ensures.none rules history d stands known none why
