use Rattle.std.proofs.Common.{rules, Bor, length, ◌≡◌, ℕ, ◌+◌, ◌-◌, List, drop, slice_index, Some, None, sym, ap, subst, ◌∙◌, arith}
use Rattle.std.proofs.lemmas.Result.{err_from_is_err_and}
use Rattle.std.proofs.lemmas.List.{nil_from_length, length-drop, length-take}
use Rattle.amqp_types.specs.declared.constructor.Tag.{Tag}
use Rattle.amqp_types.specs.declared.code.Code.TheVariants as codes
use Rattle.amqp_types.specs.Codes.{code_of}
use Rattle.amqp_types.specs.Reading.{seen_at, data_at}
use Rattle.amqp_types.specs.Items.{form_of}
use Rattle.amqp_types.specs.Form.{constructor_of, form}
use Rattle.amqp_types.specs.View.{view, part_of}
use Rattle.amqp_types.proofs.Steps.{some_is, done}
use Rattle.amqp_types.proofs.Octets.{counted_lengths}
use Rattle.amqp_types.proofs.Values.{data_shorter}
use Rattle.amqp_types.proofs.Levels.{data_nested, data_array, data_described, described_is, constructor_tagged}
use Rattle.amqp_types.proofs.Held.{held_value, held_items, constructor_kept}
use Rattle.amqp_types.proofs.Constructors.{constructor_lengths, constructor_tags, constructor_form, tagged_is}
use Rattle.amqp_types.specs.declared.code.Code.{Code}
use Rattle.amqp_types.specs.Part.{Part}
use Rattle.flow_counts.specs.Words.{Gives}
use Rattle.amqp_types.specs.Items.{behind}
use Rattle.amqp_types.proofs.PassedOver.{passes_element, value_shorter, front_held, descriptor_fault, described_fault, described_passed}
use Rattle.amqp_types.proofs.Loop.{seen_lengths, behind_shorter, goes_past, stops, is_done, plains_shorter, plains_read, plains_all}
use Rattle.amqp_types.proofs.reading.+reader.Goals as goal

pub pass_data-returns-in-Ok-read_nested : goal.pass_data-returns-in-Ok-read_nested
pass_data-returns-in-Ok-read_nested t c =
    let arm = c.in-Nested in
    ap (behind {A = Part}) (ap (λ (code : Code). data_at c.args.levels 0 code c.args.at c.args.bytes.now) arm.is ∙ data_nested c.args.levels arm.kind arm.width c.args.at c.args.bytes.now c.requires.some ∙ c.in-Ok-read_nested.ensures)

pub read_data-returns-in-Ok : goal.read_data-returns-in-Ok
read_data-returns-in-Ok t c =
    let arm = c.in-Nested in
    ap (λ (code : Code). data_at c.args.levels 0 code c.args.at c.args.bytes.now) arm.is ∙ data_nested c.args.levels arm.kind arm.width c.args.at c.args.bytes.now c.requires.some ∙ c.in-Ok.ensures

pub pass_data-returns-in-Err-read_nested : goal.pass_data-returns-in-Err-read_nested
pass_data-returns-in-Err-read_nested t c =
    let arm = c.in-Nested in
    ap (behind {A = Part}) (ap (λ (code : Code). data_at c.args.levels 0 code c.args.at c.args.bytes.now) arm.is ∙ data_nested c.args.levels arm.kind arm.width c.args.at c.args.bytes.now c.requires.some ∙ c.in-Err-read_nested.ensures)

pub read_data-returns-in-Err : goal.read_data-returns-in-Err
read_data-returns-in-Err t c =
    let arm = c.in-Nested in
    ap (λ (code : Code). data_at c.args.levels 0 code c.args.at c.args.bytes.now) arm.is ∙ data_nested c.args.levels arm.kind arm.width c.args.at c.args.bytes.now c.requires.some ∙ c.in-Err.ensures

pub pass_data-returns-in-Ok-read_array : goal.pass_data-returns-in-Ok-read_array
pass_data-returns-in-Ok-read_array t c =
    let arm = c.in-Array in
    ap (behind {A = Part}) (ap (λ (code : Code). data_at c.args.levels 0 code c.args.at c.args.bytes.now) arm.is ∙ data_array c.args.levels arm.width c.args.at c.args.bytes.now c.requires.some ∙ c.in-Ok-read_array.ensures)

pub read_data-returns-in-Ok-read_array : goal.read_data-returns-in-Ok-read_array
read_data-returns-in-Ok-read_array t c =
    let arm = c.in-Array in
    ap (λ (code : Code). data_at c.args.levels 0 code c.args.at c.args.bytes.now) arm.is ∙ data_array c.args.levels arm.width c.args.at c.args.bytes.now c.requires.some ∙ c.in-Ok-read_array.ensures

pub pass_data-returns-in-Err-read_array : goal.pass_data-returns-in-Err-read_array
pass_data-returns-in-Err-read_array t c =
    let arm = c.in-Array in
    ap (behind {A = Part}) (ap (λ (code : Code). data_at c.args.levels 0 code c.args.at c.args.bytes.now) arm.is ∙ data_array c.args.levels arm.width c.args.at c.args.bytes.now c.requires.some ∙ c.in-Err-read_array.ensures)

pub read_data-returns-in-Err-read_array : goal.read_data-returns-in-Err-read_array
read_data-returns-in-Err-read_array t c =
    let arm = c.in-Array in
    ap (λ (code : Code). data_at c.args.levels 0 code c.args.at c.args.bytes.now) arm.is ∙ data_array c.args.levels arm.width c.args.at c.args.bytes.now c.requires.some ∙ c.in-Err-read_array.ensures

pub pass_data-returns-in-Ok-read_described : goal.pass_data-returns-in-Ok-read_described
pass_data-returns-in-Ok-read_described t c =
    let arm = c.in-Described in
    ap (behind {A = Part}) (ap (λ (code : Code). data_at c.args.levels 0 code c.args.at c.args.bytes.now) arm.is ∙ data_described c.args.levels c.args.at c.args.bytes.now c.requires.some ∙ c.in-Ok-read_described.ensures)

pub read_data-returns-in-Ok-read_described : goal.read_data-returns-in-Ok-read_described
read_data-returns-in-Ok-read_described t c =
    let arm = c.in-Described in
    ap (λ (code : Code). data_at c.args.levels 0 code c.args.at c.args.bytes.now) arm.is ∙ data_described c.args.levels c.args.at c.args.bytes.now c.requires.some ∙ c.in-Ok-read_described.ensures

pub pass_data-returns-in-Err-read_described : goal.pass_data-returns-in-Err-read_described
pass_data-returns-in-Err-read_described t c =
    let arm = c.in-Described in
    ap (behind {A = Part}) (ap (λ (code : Code). data_at c.args.levels 0 code c.args.at c.args.bytes.now) arm.is ∙ data_described c.args.levels c.args.at c.args.bytes.now c.requires.some ∙ c.in-Err-read_described.ensures)

pub read_data-returns-in-Err-read_described : goal.read_data-returns-in-Err-read_described
read_data-returns-in-Err-read_described t c =
    let arm = c.in-Described in
    ap (λ (code : Code). data_at c.args.levels 0 code c.args.at c.args.bytes.now) arm.is ∙ data_described c.args.levels c.args.at c.args.bytes.now c.requires.some ∙ c.in-Err-read_described.ensures

pub read_described-returns-in_err-described : goal.read_described-returns-in_err-described
read_described-returns-in_err-described t c =
    let p = err_from_is_err_and c.from_residual.result c.from_residual.ensures.1 in
    rw (p.1, p.2) (descriptor_fault c.args.levels c.args.at c.args.bytes.now c.in_err-described.field-0.0 c.in_err-described.ensures)

pub read_described-slice_bounds-descriptor-count : goal.read_described-slice_bounds-descriptor-count
read_described-slice_bounds-descriptor-count t c = value_shorter c.args.levels (c.args.at + 1) c.args.bytes.now c.in_ok-described.described.now c.in_ok-described.ensures

pub read_described-pass_front-requires-2 : goal.read_described-pass_front-requires-2
read_described-pass_front-requires-2 t c =
    let mid = c.in_ok-described in
    let shorter = value_shorter c.args.levels (c.args.at + 1) c.args.bytes.now mid.described.now mid.ensures in
    let front = length-take (length c.args.bytes.now - length mid.described.now) c.args.bytes.now in
    (search rules, (c.requires.levels, omega (arith, c.requires.room, shorter, front)))

pub read_described-returns-in_err-rest : goal.read_described-returns-in_err-rest
read_described-returns-in_err-rest t c =
    let p = err_from_is_err_and c.from_residual-in_err-rest.result c.from_residual-in_err-rest.ensures.1 in
    rw (p.1, p.2) (described_fault c.args.levels c.args.at c.args.bytes.now c.in_ok-described.described.now c.in_err-rest.field-0.0 c.in_ok-described.ensures c.in_err-rest.ensures)

pub read_described-slice_bounds-value-count : goal.read_described-slice_bounds-value-count
read_described-slice_bounds-value-count t c = value_shorter c.args.levels _ c.in_ok-described.described.now c.in_ok-rest.rest.now c.in_ok-rest.ensures

pub read_described-invariant_of-result : goal.read_described-invariant_of-result
read_described-invariant_of-result t c =
    let mid = c.in_ok-described in
    record {
      descriptor_read = front_held c.args.levels (c.args.at + 1) c.args.bytes.now mid.described.now c.requires.levels mid.ensures;
      value_read = front_held c.args.levels _ mid.described.now c.in_ok-rest.rest.now c.requires.levels c.in_ok-rest.ensures;
    }

pub read_described-returns : goal.read_described-returns
read_described-returns t c =
    described_passed c.args.levels c.args.at c.args.bytes.now c.in_ok-described.described.now c.in_ok-rest.rest.now c.in_ok-described.ensures c.in_ok-rest.ensures

pub pass_element-returns : goal.pass_element-returns
pass_element-returns t c =
    subst (Gives (λ (x : Bor (List ℕ)). x.now) c.pass_coded.result) (sym (passes_element c.args.levels (constructor_of c.args.constructor) c.args.at c.args.bytes.now c.requires.tags)) c.pass_coded.ensures

pub read_items-returns-in_err-after : goal.read_items-returns-in_err-after
read_items-returns-in_err-after t c =
    let p = err_from_is_err_and c.from_residual.result c.from_residual.ensures.1 in
    rw (p.1, p.2) (stops c.args.levels (form c.args.constructor) c.args.count c.args.at c.args.bytes.now c.loop.counter c.loop.place c.loop.rest.now c.in_err-after.field-0.0 c.loop-test.true c.in_err-after.ensures c.loop.invariant)

pub read_items-overflow_sub-place : goal.read_items-overflow_sub-place
read_items-overflow_sub-place t c = behind_shorter c.args.levels (form c.args.constructor) c.loop.place c.loop.rest.now c.in_ok-after.after.now c.in_ok-after.ensures

pub read_items-overflow_add-place : goal.read_items-overflow_add-place
read_items-overflow_add-place t c = omega (arith, c.requires.room, c.loop.invariant.room)

pub read_items-loop-preserved : goal.read_items-loop-preserved
read_items-loop-preserved t c =
    goes_past c.args.levels (form c.args.constructor) c.args.count c.args.at c.args.bytes.now c.loop.counter c.loop.place c.loop.rest.now c.in_ok-after.after.now c.loop-test.true c.in_ok-after.ensures c.loop.invariant

pub read_items-returns : goal.read_items-returns
read_items-returns t c = is_done c.args.levels (form c.args.constructor) c.args.count c.args.at c.args.bytes.now c.loop.counter c.loop.place c.loop.rest.now c.loop-test.false c.loop.invariant

pub read_nested-overflow_add-first-2 : goal.read_nested-overflow_add-first-2
read_nested-overflow_add-first-2 t c =
    let counted = c.in_ok-count in
    omega (arith, c.requires.room, c.octets.ensures, counted_lengths c.args.width c.args.at c.args.bytes.now ((counted.count, counted.body.now), counted.rest.now) counted.ensures)

pub read_nested-overflow_add-first-3 : goal.read_nested-overflow_add-first-3
read_nested-overflow_add-first-3 t c =
    let counted = c.in_ok-count in
    omega (arith, c.requires.room, c.octets.ensures, c.octets-2.ensures, counted_lengths c.args.width c.args.at c.args.bytes.now ((counted.count, counted.body.now), counted.rest.now) counted.ensures)

pub read_nested-read_values-requires : goal.read_nested-read_values-requires
read_nested-read_values-requires t c =
    let counted = c.in_ok-count in
    (search rules, (c.requires.levels, (omega (arith, c.requires.room, c.octets.ensures, c.octets-2.ensures, counted_lengths c.args.width c.args.at c.args.bytes.now ((counted.count, counted.body.now), counted.rest.now) counted.ensures))))

pub read_nested-invariant_of-result : goal.read_nested-invariant_of-result
read_nested-invariant_of-result t c =
    let counted = c.in_ok-count in
    let none = nil_from_length c.in-Ok-empty.field-0.now (omega (arith, c.in-Ok-empty.len_below)) in
    record { filled = held_items c.args.levels None counted.count _ counted.body.now c.requires.levels (c.in-Ok-empty.ensures ∙ ap done none) }

pub read_array-read_elements-requires : goal.read_array-read_elements-requires
read_array-read_elements-requires t c =
    let counted = c.in_ok-count in
    (search rules, (c.requires.levels, omega (arith, c.requires.room, counted_lengths c.args.width c.args.at c.args.bytes.now ((counted.count, counted.body.now), counted.rest.now) counted.ensures)))

pub read_elements-read_items-requires : goal.read_elements-read_items-requires
read_elements-read_items-requires t c =
    let constructor = c.in_ok-constructor in
    let lengths = constructor_lengths c.args.levels c.args.at c.args.bytes.now (constructor_of constructor.constructor, constructor.body.now) constructor.ensures in
    let tags = constructor_tags c.args.levels c.args.at c.args.bytes.now (constructor_of constructor.constructor, constructor.body.now) constructor.ensures in
    (search rules, (c.requires.levels, (omega (arith, c.requires.room, lengths), (tags, omega (arith, c.requires.room, lengths)))))

pub read_elements-of-requires : goal.read_elements-of-requires
read_elements-of-requires t c =
    let constructor = c.in_ok-constructor in
    let none = nil_from_length c.in-Ok-empty.field-0.now (omega (arith, c.in-Ok-empty.len_below)) in
    record {
      kept = constructor_kept c.args.levels c.args.at c.args.bytes.now (constructor_of constructor.constructor, constructor.body.now) c.requires.levels constructor.ensures;
      filled = held_items c.args.levels (Some (constructor_of constructor.constructor)) c.args.count _ constructor.body.now c.requires.levels (c.in-Ok-empty.ensures ∙ ap done none);
    }

pub read_constructor-returns-then-is_described : goal.read_constructor-returns-then-is_described
read_constructor-returns-then-is_described t c =
    let code = described_is c.in-Some-of.code (sym c.is_described.ensures ∙ c.if-is_described.true) in
    let known : code_of (slice_index c.args.bytes.now 0) ≡ Some codes.Described =
    ap (λ (t : List ℕ). code_of (slice_index t 0)) c.in-Some.ensures.cases.0 ∙ sym c.in-Some-of.ensures ∙ ap Some code in
    rw (constructor_tagged c.args.levels c.args.at c.args.bytes.now (omega (arith, c.if-levels-eq0.false)) (omega (arith, c.in-Some.ensures.cases.1)) known) c.read_tagged.ensures

pub read_tagged-read_constructor-requires : goal.read_tagged-read_constructor-requires
read_tagged-read_constructor-requires t c =
    let descriptor = c.in_ok-descriptor in
    let read = ap (seen_at c.args.levels c.args.at) (sym c.split_at.ensures.back) ∙ descriptor.ensures in
    let lengths = seen_lengths c.args.levels c.args.at (drop 1 c.args.bytes.now) (view descriptor.descriptor, descriptor.after.now) read in
    (search rules, (omega (arith, c.requires.levels), omega (arith, c.requires.room, lengths, length-drop 1 c.args.bytes.now)))

pub read_tagged-slice_bounds-constructor-count : goal.read_tagged-slice_bounds-constructor-count
read_tagged-slice_bounds-constructor-count t c =
    let descriptor = c.in_ok-descriptor in
    let inner = c.in_ok-inner in
    let read = ap (seen_at c.args.levels c.args.at) (sym c.split_at.ensures.back) ∙ descriptor.ensures in
    let lengths = seen_lengths c.args.levels c.args.at (drop 1 c.args.bytes.now) (view descriptor.descriptor, descriptor.after.now) read in
    let behind = constructor_lengths c.args.levels c.args.at descriptor.after.now (constructor_of inner.inner, inner.rest.now) inner.ensures in
    omega (arith, lengths, behind, length-drop 1 c.args.bytes.now)

pub read_tagged-invariant_of-constructor : goal.read_tagged-invariant_of-constructor
read_tagged-invariant_of-constructor t c =
    let descriptor = c.in_ok-descriptor in
    record { descriptor_read = held_value c.args.levels _ c.split_at.result.1.now (view descriptor.descriptor, descriptor.after.now) (omega (arith, c.requires.levels)) descriptor.ensures }

pub read_tagged-invariant_of-constructor-2 : goal.read_tagged-invariant_of-constructor-2
read_tagged-invariant_of-constructor-2 t c =
    let inner = c.in_ok-inner in
    let tags = constructor_tags c.args.levels c.args.at c.in_ok-descriptor.after.now (constructor_of inner.inner, inner.rest.now) inner.ensures in
    let form = constructor_form c.args.levels c.args.at c.in_ok-descriptor.after.now (constructor_of inner.inner, inner.rest.now) (omega (arith, c.requires.levels)) inner.ensures in
    let fewer : inner.inner.tags ≡ inner.inner.tags + 1 - 1 = omega arith in
    record {
      shallow = omega (arith, tags, c.requires.levels);
      inner = λ x e. subst (λ (y : Tag). form_of y.constructor.now ≡ Some (inner.inner.tags + 1 - 1, inner.inner.code)) (some_is e) (form ∙ ap (λ (n : ℕ). Some (n, inner.inner.code)) fewer);
    }

pub read_tagged-returns : goal.read_tagged-returns
read_tagged-returns t c =
    let descriptor = c.in_ok-descriptor in
    let inner = c.in_ok-inner in
    tagged_is c.args.levels c.args.at c.args.bytes.now (view descriptor.descriptor, descriptor.after.now) (constructor_of inner.inner, inner.rest.now) c.requires.some (ap (seen_at c.args.levels c.args.at) (sym c.split_at.ensures.back) ∙ descriptor.ensures) inner.ensures

pub read_value-slice_bounds-raw-count : goal.read_value-slice_bounds-raw-count
read_value-slice_bounds-raw-count t c =
    let content = c.in_ok-content in
    let shorter = data_shorter c.args.levels c.in-Some-of.code c.args.at c.in-Some.behind.now (part_of content.content, content.rest.now) content.ensures in
    omega (arith, shorter, c.in-Some.ensures.cases.1)

pub read_values-returns-then-left-eq0 : goal.read_values-returns-then-left-eq0
read_values-returns-then-left-eq0 t c =
    plains_all c.args.levels c.args.at c.args.count c.args.bytes.now c.pass_plains-left.result.0 c.pass_plains-left.result.1.now (omega (arith, c.if-levels-eq0.false)) c.if-left-eq0.true c.pass_plains-left.ensures

pub read_values-overflow_sub-bytes : goal.read_values-overflow_sub-bytes
read_values-overflow_sub-bytes t c = plains_shorter c.args.count c.args.bytes.now c.pass_plains-left.result.0 c.pass_plains-left.result.1.now c.pass_plains-left.ensures

pub read_values-read_items-requires-2 : goal.read_values-read_items-requires-2
read_values-read_items-requires-2 t c =
    let shorter = plains_shorter c.args.count c.args.bytes.now c.pass_plains-left.result.0 c.pass_plains-left.result.1.now c.pass_plains-left.ensures in
    (search rules, (c.requires.levels, (omega (arith, c.requires.room, shorter), tt)))

pub read_values-returns : goal.read_values-returns
read_values-returns t c =
    subst (Gives (λ (x : Bor (List ℕ)). x.now) c.read_items-2.result)
    (plains_read c.args.levels c.args.at c.args.count c.args.bytes.now c.pass_plains-left.result.0 c.pass_plains-left.result.1.now (omega (arith, c.if-levels-eq0.false)) c.pass_plains-left.ensures) c.read_items-2.ensures
