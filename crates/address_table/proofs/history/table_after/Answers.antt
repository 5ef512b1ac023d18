use Rattle.std.proofs.Common.{sym, subst, take, length, ◌<◌, ◌^◌, arith, rules}
use Rattle.std.proofs.lemmas.List.{length-take-le}
use Rattle.address_table.specs.Links.{IsCount}
use Rattle.address_table.specs.History.{events_of}
use Rattle.address_table.proofs.Histories.{events_of-none, events_of-next, few_undecided}
use Rattle.address_table.proofs.history.table_after.Goals as goal

pub loop-event-init : goal.loop-event-init
loop-event-init c = subst (IsCount c.new-table.result) (sym events_of-none) c.new-table.ensures

pub loop-event-preserved : goal.loop-event-preserved
loop-event-preserved c =
    subst (IsCount c.count.new.self) (sym (events_of-next _ _ _ c.loop-event-test.true))
    (c.in_ok-count.ensures (events_of (take c.loop-event.event-index c.args.events.now)) c.loop-event.invariant)

pub count-requires : goal.count-requires
count-requires c = λ link.
    let few = few_undecided c.loop-event.table (take c.loop-event.event-index c.args.events.now) link c.loop-event.invariant in
    let fits : length c.args.events.now < 2 ^ 64 = search rules in
    let so_many = length-take-le c.loop-event.event-index c.args.events.now c.loop-event.auto.event-index-end in
    omega (arith, few, fits, so_many, c.loop-event-test.true)
