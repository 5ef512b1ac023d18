use Rattle.std.proofs.Common.{subst, sym, ◌∙◌}
use Rattle.amqp_types.specs.Grammar.{IsValue, AreItems}
use Rattle.amqp_types.specs.Writing.{levels_in_described}
use Rattle.amqp_perf.proofs.Slots.{stands_at, absent, there, used_items, used_count}
use Rattle.amqp_perf.proofs.slot.put_fields.Goals as goal
use Rattle.amqp_perf.proofs.slot.put_fields.Goals.{then-is_there, else-is_there}

pub put-requires : goal.put-requires
put-requires c = stands_at levels_in_described c.args.slots.now c.loop-i.i c.loop-i-test.true c.requires.fields

pub loop-i-preserved : goal.loop-i-preserved
loop-i-preserved c = elim c.if-is_there.branch [
  | then-is_there w ↦ rw (w.count-is, w.len-is)
      (there c.args.slots.now c.loop-i.i c.loop-i.fields.items c.put.new.out.items c.loop-i.count c.loop-i.len c.loop-i-test.true (sym c.is_there.ensures ∙ w.if-is_there.true) c.loop-i.invariant c.in_ok-put.ensures w.len-len.result (w.len-len.ensures ∙ c.put.new.out.ok.0))
  | else-is_there w ↦ rw (w.count-is, w.len-is)
      (absent c.args.slots.now c.loop-i.i c.loop-i.fields.items c.put.new.out.items c.loop-i.count c.loop-i.len c.loop-i-test.true (sym c.is_there.ensures ∙ w.if-is_there.false) c.loop-i.invariant c.in_ok-put.ensures)
]

pub overflow_cast-count : goal.overflow_cast-count
overflow_cast-count c = record { fits = used_count c.args.slots.now c.loop-i.i c.loop-i.fields.items c.loop-i.count c.loop-i.len c.requires.count c.loop-i.auto.i-end c.loop-i.invariant }

pub put_described_list-requires-clause-fields : goal.put_described_list-requires-clause-fields
put_described_list-requires-clause-fields c =
    subst (λ o. AreItems (IsValue levels_in_described) c.loop-i.count o) (sym (c.deref.ensures.value ∙ c.truncate.ensures.items))
    (used_items 29 c.args.slots.now c.loop-i.i c.loop-i.fields.items c.loop-i.count c.loop-i.len c.loop-i-test.false c.requires.fields c.loop-i.invariant)
