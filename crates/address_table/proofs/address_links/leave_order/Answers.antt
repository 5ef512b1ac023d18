use Rattle.std.proofs.Common.{◌∙◌}
use Rattle.address_table.specs.AddressLinks.{closed_up}
use Rattle.address_table.proofs.Places.{nothing_closed}
use Rattle.address_table.proofs.address_links.leave_order.Goals as goal

pub returns-in-Some : goal.returns-in-Some
returns-in-Some c = c.close_up.ensures ∙ (λ j. closed_up (c.in-Some.ensures.taken j) (c.in-Some.ensures.others j))

pub returns-in_default : goal.returns-in_default
returns-in_default c =
    nothing_closed c.take_out.result c.take_out.new.order.items c.in_default.not-Some ∙ (λ j. closed_up (c.take_out.ensures.taken j) (c.take_out.ensures.others j))
