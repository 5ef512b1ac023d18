use Rattle.std.proofs.Common.{ap, sym, ◌∙◌, arith}
use Rattle.amqp_types.specs.declared.code.Code.{Code}
use Rattle.flow_counts.specs.declared.profile.TheConstants.{MAX_DEPTH}
use Rattle.amqp_types.specs.Reading.{data_at}
use Rattle.amqp_types.specs.Items.{is_read, behind}
use Rattle.amqp_types.proofs.Levels.{data_nested}
use Rattle.amqp_types.proofs.PassedOver.{passed_here}
use Rattle.amqp_types.proofs.ReadBefore.{data_known, behind_data}
use Rattle.amqp_types.proofs.known.known_behind.Goals as goal

pub returns-in-Some : goal.returns-in-Some
returns-in-Some c = passed_here MAX_DEPTH 0 c.args.bytes.now c.in-Some.rest.now (omega arith) c.in-Some.ensures

pub known_nested-requires : goal.known_nested-requires
known_nested-requires c =
    let arm = c.in-Nested in
    let front = c.in-Some-split_first in
    sym (ap is_read (ap (λ (code : Code). data_at MAX_DEPTH 0 code 0 front.data.now) arm.is ∙ data_nested MAX_DEPTH arm.kind arm.width 0 front.data.now (omega arith)))
    ∙ data_known c.args.bytes.now front.first.now c.in-Some-of.code front.data.now c.requires front.ensures.cases.0 (sym c.in-Some-of.ensures)

pub returns-in-Nested : goal.returns-in-Nested
returns-in-Nested c =
    let arm = c.in-Nested in
    let front = c.in-Some-split_first in
    behind_data c.args.bytes.now front.first.now c.in-Some-of.code front.data.now c.known_nested.result.1.now front.ensures.cases.0 (sym c.in-Some-of.ensures)
    (ap behind (ap (λ (code : Code). data_at MAX_DEPTH 0 code 0 front.data.now) arm.is ∙ data_nested MAX_DEPTH arm.kind arm.width 0 front.data.now (omega arith) ∙ c.known_nested.ensures))
