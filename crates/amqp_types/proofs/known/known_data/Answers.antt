use Rattle.std.proofs.Common.{ap, sym, ◌∙◌, arith}
use Rattle.amqp_types.specs.declared.code.Code.{Code}
use Rattle.flow_counts.specs.declared.profile.TheConstants.{MAX_DEPTH}
use Rattle.amqp_types.specs.Reading.{data_at}
use Rattle.amqp_types.specs.Items.{is_read}
use Rattle.amqp_types.proofs.Levels.{data_nested, data_described}
use Rattle.amqp_types.proofs.known.known_data.Goals as goal

pub known_nested-requires : goal.known_nested-requires
known_nested-requires c =
    let arm = c.in-Nested in
    sym (ap is_read (ap (λ (code : Code). data_at MAX_DEPTH 0 code 0 c.args.bytes.now) arm.is ∙ data_nested MAX_DEPTH arm.kind arm.width 0 c.args.bytes.now (omega arith))) ∙ c.requires

pub returns-in-Nested : goal.returns-in-Nested
returns-in-Nested c =
    let arm = c.in-Nested in
    ap (λ (code : Code). data_at MAX_DEPTH 0 code 0 c.args.bytes.now) arm.is ∙ data_nested MAX_DEPTH arm.kind arm.width 0 c.args.bytes.now (omega arith) ∙ c.known_nested.ensures

pub known_described-requires : goal.known_described-requires
known_described-requires c =
    let arm = c.in-Described in
    sym (ap is_read (ap (λ (code : Code). data_at MAX_DEPTH 0 code 0 c.args.bytes.now) arm.is ∙ data_described MAX_DEPTH 0 c.args.bytes.now (omega arith))) ∙ c.requires

pub returns-in-Described : goal.returns-in-Described
returns-in-Described c =
    let arm = c.in-Described in
    ap (λ (code : Code). data_at MAX_DEPTH 0 code 0 c.args.bytes.now) arm.is ∙ data_described MAX_DEPTH 0 c.args.bytes.now (omega arith) ∙ c.known_described.ensures
