-- What the fields of a performative say that were taken one after the other.
use Rattle.std.proofs.Common.{◌≡◌, ℕ, Bool, Option, Some, option_map, refl, ap, ◌∙◌}
use Rattle.std.specs.Option.{option_copied}
use Rattle.amqp_perf.specs.declared.table.FieldType.TheVariants as types
use Rattle.amqp_perf.specs.declared.usual.Usual.{Usual}
use Rattle.amqp_perf.specs.declared.disposition.Disposition.{Disposition}
use Rattle.amqp_perf.specs.declared.transfer.Transfer.{Transfer}
use Rattle.amqp_perf.specs.declared.flow.Flow.{Flow}
use Rattle.amqp_perf.specs.declared.descriptor.PerformativeKind.{PerformativeKind}
use Rattle.amqp_perf.specs.declared.descriptor.PerformativeKind.TheVariants as kinds
use Rattle.amqp_perf.specs.declared.descriptor.Descriptor.TheVariants.{Performative}
use Rattle.amqp_perf.specs.Descriptors.{descriptor_of_code}
use Rattle.amqp_perf.specs.FieldPlaces.{others}
use Rattle.amqp_perf.specs.Tables.{table_of, mandatory, optional}
use Rattle.amqp_perf.specs.Meaning.{ADisposition, ATransfer, AFlow, disposition_of, transfer_of, flow_of}
use Rattle.amqp_perf.specs.Nested.{state_in}
use Rattle.amqp_perf.specs.NestedViews.{state_view}
use Rattle.amqp_perf.specs.View.{disposition_fields, transfer_fields}
use Rattle.amqp_perf.specs.Usual.{IsTaken, AreTaken, IsUsual, usual_left, uint_of, boolean_of, binary_of, number_of, role_said}
use Rattle.amqp_perf.proofs.UsualFields.{and_then, no_more}

-- what a code names
abbrev Names : ℕ → PerformativeKind → Type 0
Names code kind = descriptor_of_code code ≡ Some (Performative kind)

flow_named : (code : ℕ) → code ≡ 0x13 → Names code kinds.Flow
unfolding descriptor_of_code
flow_named code is = rw is refl

transfer_named : (code : ℕ) → code ≡ 0x14 → Names code kinds.Transfer
unfolding descriptor_of_code
transfer_named code is = rw is refl

disposition_named : (code : ℕ) → code ≡ 0x15 → Names code kinds.Disposition
unfolding descriptor_of_code
disposition_named code is = rw is refl

pub disposition_is : (u0 u1 u2 u3 u4 u5 u6 : Usual) (d : Disposition) (a_batchable : Option Bool)
    → IsTaken (mandatory types.Boolean) role_said u0 u1 d.role
    → IsTaken (mandatory types.Uint) number_of u1 u2 d.first
    → IsTaken (optional types.Uint) uint_of u2 u3 d.last
    → IsTaken (optional types.Boolean) boolean_of u3 u4 d.settled
    → IsTaken (optional types.State) state_in u4 u5 (option_map state_view d.state)
    → IsTaken (optional types.Any) boolean_of u5 u6 a_batchable
    → AreTaken (table_of kinds.Disposition) u0 u6 × (disposition_fields d ≡ disposition_of (usual_left u0))
disposition_is u0 u1 u2 u3 u4 u5 u6 d a_batchable role first_id last settled state batchable =
    let e1 : usual_left u1 ≡ others (usual_left u0) = role.left in
    let e2 : usual_left u2 ≡ others (others (usual_left u0)) = first_id.left ∙ ap others e1 in
    let e3 : usual_left u3 ≡ others (others (others (usual_left u0))) = last.left ∙ ap others e2 in
    let e4 : usual_left u4 ≡ others (others (others (others (usual_left u0)))) = settled.left ∙ ap others e3 in (
      and_then _ _ u0 u1 u6 _ _ role (and_then _ _ u1 u2 u6 _ _ first_id (and_then _ _ u2 u3 u6 _ _ last (and_then _ _ u3 u4 u6 _ _ settled (and_then _ _ u4 u5 u6 _ _ state (and_then _ _ u5 u6 u6 _ _ batchable (no_more u6)))))),
      rw (role.value, first_id.value, last.value, settled.value, state.value, e1, e2, e3, e4) refl,
    )

pub disposition_usual : (code : ℕ) (old new : Usual) (d : Disposition) → code ≡ 0x15 → AreTaken (table_of kinds.Disposition) old new × (disposition_fields d ≡ disposition_of (usual_left old))
    → IsUsual code old new (ADisposition (disposition_fields d))
disposition_usual code old new d is taken = record { kind = kinds.Disposition; named = disposition_named code is; taken = taken.0; means = ap (λ x. ADisposition x) taken.1 }

pub transfer_is : (u0 u1 u2 u3 u4 u5 u6 u7 u8 u9 u10 u11 : Usual) (t : Transfer) (a_settle_mode : Option Bool) (a_state : Option Bool) (a_batchable : Option Bool)
    → IsTaken (mandatory types.Uint) number_of u0 u1 t.handle
    → IsTaken (optional types.Uint) uint_of u1 u2 t.delivery_id
    → IsTaken (optional types.Binary) binary_of u2 u3 (option_copied t.delivery_tag)
    → IsTaken (optional types.Uint) uint_of u3 u4 t.message_format
    → IsTaken (optional types.Boolean) boolean_of u4 u5 t.settled
    → IsTaken (optional types.Boolean) boolean_of u5 u6 t.more
    → IsTaken (optional types.Any) boolean_of u6 u7 a_settle_mode
    → IsTaken (optional types.Any) boolean_of u7 u8 a_state
    → IsTaken (optional types.Boolean) boolean_of u8 u9 t.resume
    → IsTaken (optional types.Boolean) boolean_of u9 u10 t.aborted
    → IsTaken (optional types.Any) boolean_of u10 u11 a_batchable
    → AreTaken (table_of kinds.Transfer) u0 u11 × (transfer_fields t ≡ transfer_of (usual_left u0))
transfer_is u0 u1 u2 u3 u4 u5 u6 u7 u8 u9 u10 u11 t a_settle_mode a_state a_batchable handle delivery_id delivery_tag message_format settled more settle_mode state resume aborted batchable =
    let e1 : usual_left u1 ≡ others (usual_left u0) = handle.left in
    let e2 : usual_left u2 ≡ others (others (usual_left u0)) = delivery_id.left ∙ ap others e1 in
    let e3 : usual_left u3 ≡ others (others (others (usual_left u0))) = delivery_tag.left ∙ ap others e2 in
    let e4 : usual_left u4 ≡ others (others (others (others (usual_left u0)))) = message_format.left ∙ ap others e3 in
    let e5 : usual_left u5 ≡ others (others (others (others (others (usual_left u0))))) = settled.left ∙ ap others e4 in
    let e6 : usual_left u6 ≡ others (others (others (others (others (others (usual_left u0)))))) = more.left ∙ ap others e5 in
    let e7 : usual_left u7 ≡ others (others (others (others (others (others (others (usual_left u0))))))) = settle_mode.left ∙ ap others e6 in
    let e8 : usual_left u8 ≡ others (others (others (others (others (others (others (others (usual_left u0)))))))) = state.left ∙ ap others e7 in
    let e9 : usual_left u9 ≡ others (others (others (others (others (others (others (others (others (usual_left u0))))))))) = resume.left ∙ ap others e8 in (
      and_then _ _ u0 u1 u11 _ _ handle (and_then _ _ u1 u2 u11 _ _ delivery_id (and_then _ _ u2 u3 u11 _ _ delivery_tag (and_then _ _ u3 u4 u11 _ _ message_format (and_then _ _ u4 u5 u11 _ _ settled (and_then _ _ u5 u6 u11 _ _ more (and_then _ _ u6 u7 u11 _ _ settle_mode (and_then _ _ u7 u8 u11 _ _ state (and_then _ _ u8 u9 u11 _ _ resume (and_then _ _ u9 u10 u11 _ _ aborted (and_then _ _ u10 u11 u11 _ _ batchable (no_more u11))))))))))),
      rw (handle.value, delivery_id.value, delivery_tag.value, message_format.value, settled.value, more.value, resume.value, aborted.value, e1, e2, e3, e4, e5, e8, e9) refl,
    )

pub transfer_usual : (code : ℕ) (old new : Usual) (t : Transfer) → code ≡ 0x14 → AreTaken (table_of kinds.Transfer) old new × (transfer_fields t ≡ transfer_of (usual_left old))
    → IsUsual code old new (ATransfer (transfer_fields t))
transfer_usual code old new t is taken = record { kind = kinds.Transfer; named = transfer_named code is; taken = taken.0; means = ap (λ x. ATransfer x) taken.1 }

pub flow_is : (u0 u1 u2 u3 u4 u5 u6 u7 u8 u9 u10 u11 : Usual) (f : Flow) (a_available : Option ℕ) (a_properties : Option Bool)
    → IsTaken (optional types.Uint) uint_of u0 u1 f.next_incoming_id
    → IsTaken (mandatory types.Uint) number_of u1 u2 f.incoming_window
    → IsTaken (mandatory types.Uint) number_of u2 u3 f.next_outgoing_id
    → IsTaken (mandatory types.Uint) number_of u3 u4 f.outgoing_window
    → IsTaken (optional types.Uint) uint_of u4 u5 f.handle
    → IsTaken (optional types.Uint) uint_of u5 u6 f.delivery_count
    → IsTaken (optional types.Uint) uint_of u6 u7 f.link_credit
    → IsTaken (optional types.Any) uint_of u7 u8 a_available
    → IsTaken (optional types.Boolean) boolean_of u8 u9 f.drain
    → IsTaken (optional types.Boolean) boolean_of u9 u10 f.echo
    → IsTaken (optional types.Any) boolean_of u10 u11 a_properties
    → AreTaken (table_of kinds.Flow) u0 u11 × (f ≡ flow_of (usual_left u0))
flow_is u0 u1 u2 u3 u4 u5 u6 u7 u8 u9 u10 u11 f a_available a_properties next_incoming_id incoming_window next_outgoing_id outgoing_window handle delivery_count link_credit available drain echo properties =
    let e1 : usual_left u1 ≡ others (usual_left u0) = next_incoming_id.left in
    let e2 : usual_left u2 ≡ others (others (usual_left u0)) = incoming_window.left ∙ ap others e1 in
    let e3 : usual_left u3 ≡ others (others (others (usual_left u0))) = next_outgoing_id.left ∙ ap others e2 in
    let e4 : usual_left u4 ≡ others (others (others (others (usual_left u0)))) = outgoing_window.left ∙ ap others e3 in
    let e5 : usual_left u5 ≡ others (others (others (others (others (usual_left u0))))) = handle.left ∙ ap others e4 in
    let e6 : usual_left u6 ≡ others (others (others (others (others (others (usual_left u0)))))) = delivery_count.left ∙ ap others e5 in
    let e7 : usual_left u7 ≡ others (others (others (others (others (others (others (usual_left u0))))))) = link_credit.left ∙ ap others e6 in
    let e8 : usual_left u8 ≡ others (others (others (others (others (others (others (others (usual_left u0)))))))) = available.left ∙ ap others e7 in
    let e9 : usual_left u9 ≡ others (others (others (others (others (others (others (others (others (usual_left u0))))))))) = drain.left ∙ ap others e8 in (
      and_then _ _ u0 u1 u11 _ _ next_incoming_id (and_then _ _ u1 u2 u11 _ _ incoming_window (and_then _ _ u2 u3 u11 _ _ next_outgoing_id (and_then _ _ u3 u4 u11 _ _ outgoing_window (and_then _ _ u4 u5 u11 _ _ handle (and_then _ _ u5 u6 u11 _ _ delivery_count (and_then _ _ u6 u7 u11 _ _ link_credit (and_then _ _ u7 u8 u11 _ _ available (and_then _ _ u8 u9 u11 _ _ drain (and_then _ _ u9 u10 u11 _ _ echo (and_then _ _ u10 u11 u11 _ _ properties (no_more u11))))))))))),
      rw (next_incoming_id.value, incoming_window.value, next_outgoing_id.value, outgoing_window.value, handle.value, delivery_count.value, link_credit.value, drain.value, echo.value, e1, e2, e3, e4, e5, e6, e8, e9) refl,
    )

pub flow_usual : (code : ℕ) (old new : Usual) (f : Flow) → code ≡ 0x13 → AreTaken (table_of kinds.Flow) old new × (f ≡ flow_of (usual_left old))
    → IsUsual code old new (AFlow f)
flow_usual code old new f is taken = record { kind = kinds.Flow; named = flow_named code is; taken = taken.0; means = ap (λ x. AFlow x) taken.1 }
