use Rattle.std.proofs.Common.{◌∙◌, ◌<◌, ap, rules, length}
use Rattle.std.specs.Prelude.{slice_set}
use Rattle.std.proofs.lemmas.List.Edits.{map_over_more}
use Rattle.address_table.specs.AddressLinks.{moved_up}
use Rattle.address_table.proofs.address_links.close_up.Goals as goal

pub loop-standing-preserved : goal.loop-standing-preserved
loop-standing-preserved c =
    let within : c.loop-standing.standing-index < length c.args.order.now.items = search rules in
    ap (slice_set c.loop-standing.standing-items c.loop-standing.standing-index) c.move_up.ensures
    ∙ map_over_more (moved_up c.args.gone) c.args.order.now.items c.loop-standing.standing-items c.loop-standing.standing-index _ within c.loop-standing.invariant (search rules)
