use Rattle.std.proofs.Common.{◌≡◌, ℕ, ◌||◌}
use Rattle.flow_counts.specs.Serial.{serial_add}
use Rattle.number_groups.specs.Numbers.{is_among}
use Rattle.number_groups.specs.Groups.{is_member}
use Rattle.number_groups.specs.Ids.{same_id}
use Rattle.state_outgoing.specs.IdRanges.{some_place}
use Rattle.state_outgoing.proofs.touched.add_first_ids.Given as goal

abbrev pub invariant-loop-place : goal.invariant-loop-place
invariant-loop-place l = (n : ℕ) → is_among l.touched n
    ≡ (is_among l.fn.touched n || some_place (λ place. is_member same_id l.groups (record { session = l.fn.ids.session; id = serial_add l.fn.ids.first place }) n) l.place)
