use Rattle.std.proofs.Common.{◌<◌, sym, subst, ap, ◌∙◌, length, take, get_or, arith}
use Rattle.audit_core.specs.Auditor.{Follows}
use Rattle.audit_core.specs.Stops.{StopsAudit}
use Rattle.audit_core.proofs.Recorded.{pushed, refused, so_many, took_all}
use Rattle.audit_core.proofs.judging.follow_records.Goals as goal

pub follow-requires : goal.follow-requires
follow-requires c =
    let value = c.records-entry-items.ensures.value in
    let lt : c.loop-number.number < length c.args.capture.now.records = subst (λ rs. c.loop-number.number < length rs) value c.loop-number-test.true in
    omega (arith, so_many c.args.capture.now c.loop-number.number c.loop-number.auditor lt c.loop-number.invariant.0, c.loop-number-test.true, c.records-entry-items.type_inv)

pub returns-in-Err-clause-stopped : goal.returns-in-Err-clause-stopped
returns-in-Err-clause-stopped c =
    let value = c.records-entry-items.ensures.value in
    let lt : c.loop-number.number < length c.args.capture.now.records = subst (λ rs. c.loop-number.number < length rs) value c.loop-number-test.true in
    let is = c.entry-item.is ∙ ap (λ rs. get_or rs c.loop-number.number c.entry-item.result) value in
    subst (StopsAudit c.args.capture.now) (sym c.of_refusal.ensures)
    (refused c.args.capture.now c.loop-number.number c.loop-number.auditor c.entry-item.result c.entry-item.result lt is c.loop-number.invariant.0 c.in-Err.refusal (c.in-Err.ensures.refused c.loop-number.invariant.1))

pub loop-number-preserved : goal.loop-number-preserved
loop-number-preserved c =
    let value = c.records-entry-items.ensures.value in
    let lt : c.loop-number.number < length c.args.capture.now.records = subst (λ rs. c.loop-number.number < length rs) value c.loop-number-test.true in
    let is = c.entry-item.is ∙ ap (λ rs. get_or rs c.loop-number.number c.entry-item.result) value in (
      subst (λ rs. Follows c.follow.new.self c.args.capture.now.rules rs) (pushed c.args.capture.now.records c.loop-number.number c.entry-item.result c.entry-item.result lt is)
          (c.in_default.ensures.taken c.args.capture.now.rules (take c.loop-number.number c.args.capture.now.records) c.loop-number.invariant.0),
      c.in_default.ensures.kind ∙ c.loop-number.invariant.1,
    )

pub returns-clause-accepted : goal.returns-clause-accepted
returns-clause-accepted c =
    let value = c.records-entry-items.ensures.value in
    took_all c.args.capture.now c.loop-number.number c.loop-number.auditor (omega (arith, c.loop-number-test.false, ap length value)) c.loop-number.invariant.0
