use Rattle.std.proofs.Common.{ap, ◌∙◌, ◌||◌, ℕ, Bool}
use Rattle.flow_counts.specs.Serial.{serial_add}
use Rattle.number_groups.specs.Numbers.{is_among}
use Rattle.number_groups.specs.Groups.{is_member}
use Rattle.number_groups.specs.Ids.{same_id}
use Rattle.state_outgoing.proofs.Places.{no-place, one-place-more}
use Rattle.state_outgoing.proofs.touched.add_first_ids.Goals as goal

pub loop-place-init : goal.loop-place-init
loop-place-init c = λ n.
    no-place (λ place. is_member same_id c.args.groups.now (record { session = c.args.ids.session; id = serial_add c.args.ids.first place }) n) (is_among c.args.touched.now n)

pub loop-place-preserved : goal.loop-place-preserved
loop-place-preserved c = λ n.
    one-place-more (λ place. is_member same_id c.args.groups.now (record { session = c.args.ids.session; id = serial_add c.args.ids.first place }) n) c.loop-place.place
    (is_among c.args.touched.now n) (is_among c.loop-place.touched n) _ (c.loop-place.invariant n)
    (c.in_ok-add_group_of_id.ensures n ∙ ap (λ key. is_among c.loop-place.touched n || is_member same_id c.args.groups.now key n) c.id_at.ensures)
