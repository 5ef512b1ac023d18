use Rattle.std.proofs.Common.{◌≡◌, sym, ap, subst, ◌∙◌, ◌++◌, List, ℕ, option_map}
use Rattle.std.specs.Option.{option_copied}
use Rattle.amqp_types.specs.Writing.{levels_in_described}
use Rattle.amqp_perf.specs.View.{detach_fields}
use Rattle.amqp_perf.specs.Slots.{CanStand}
use Rattle.amqp_perf.specs.SlotViews.{slot_view, nested_view}
use Rattle.amqp_perf.specs.Writing.{error_octets, error_value, octets_if}
use Rattle.amqp_perf.proofs.NestedAgain.{error_can, error_slot, detach_again}
use Rattle.amqp_perf.proofs.detach.Detach.write.Goals as goal

pub returns-in_err-put_error-clause-again : goal.returns-in_err-put_error-clause-again
returns-in_err-put_error-clause-again c =
    detach_again (detach_fields c.args.self) (c.number-handle.ensures.can 29, (c.flag-closed.ensures.can 29, (error_can (option_copied c.args.self.error) c.requires.fields, tt))) c.requires

pub put_fields-requires-clause-fields : goal.put_fields-requires-clause-fields
put_fields-requires-clause-fields c =
    let error = option_copied c.args.self.error in
    let written : slot_view c.nested.result ≡ option_map error_value error =
    c.nested.ensures.value
    ∙ ap nested_view (c.deref.ensures.value ∙ c.in_ok-put_error.ensures ∙ ap (λ (o : List ℕ). o ++ octets_if error_octets error) c.new-error.ensures.items)
    ∙ error_slot error in (
      subst (CanStand levels_in_described) (sym c.number-handle.ensures.value) (c.number-handle.ensures.can 29),
      (
        subst (CanStand levels_in_described) (sym c.flag-closed.ensures.value) (c.flag-closed.ensures.can 29),
        (subst (CanStand levels_in_described) (sym written) (error_can error c.requires.fields), tt),
      ),
    )

pub returns-clause-again : goal.returns-clause-again
returns-clause-again c =
    detach_again (detach_fields c.args.self) (c.number-handle.ensures.can 29, (c.flag-closed.ensures.can 29, (error_can (option_copied c.args.self.error) c.requires.fields, tt))) c.requires
