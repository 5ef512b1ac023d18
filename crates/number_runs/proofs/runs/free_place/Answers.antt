use Rattle.std.proofs.Common.{ap, is_none, refl, slice_get, sym}
use Rattle.number_runs.proofs.Places.{behind_place, missed, not_begun, taken}
use Rattle.number_runs.proofs.runs.free_place.Goals as goal

pub returns-then-begins_by-clause-free : goal.returns-then-begins_by-clause-free
returns-then-begins_by-clause-free g c = λ apart.
    sym (taken c.args.number c.args.runs.now c.place-place.result (c.place-place.ensures.before apart) (c.place-place.ensures.behind apart) (c.if-begins_by.ensures.0 refl))

pub returns-else-begins_by-clause-behind : goal.returns-else-begins_by-clause-behind
returns-else-begins_by-clause-behind g c = λ apart.
    behind_place c.args.number 0 c.args.runs.now c.place-place.result apart (not_begun c.args.number (slice_get c.args.runs.now c.place-place.result) c.if-begins_by.ensures)

pub returns-else-begins_by-clause-free : goal.returns-else-begins_by-clause-free
returns-else-begins_by-clause-free g c = λ apart.
    sym (ap is_none (missed c.args.number 0 c.args.runs.now c.place-place.result apart (c.place-place.ensures.before apart) (not_begun c.args.number (slice_get c.args.runs.now c.place-place.result) c.if-begins_by.ensures)))
