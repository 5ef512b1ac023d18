use Rattle.std.proofs.Common.{◌≡◌, ◌∙◌, ap, rules, of_calls, Some}
use Rattle.std.specs.HashMap.{get_by_text}
use Rattle.address_table.specs.AddressLinks.{line_of}
use Rattle.address_table.specs.Links.{undecided_on}
use Rattle.address_table.proofs.FirstAsked.{first_kept, may_ask}
use Rattle.address_table.proofs.table.Table.first_in_order.Goals as goal

pub returns-in-Some : goal.returns-in-Some
returns-in-Some g c = λ test answers.
    let here : Some c.in_ok-lineup.lineup.now ≡ get_by_text c.args.self.now.addresses c.args.address.now = search rules in
    let order : Some c.in-Some.order.now ≡ (line_of (get_by_text c.args.self.now.addresses c.args.address.now)).1 = c.in-Some.ensures ∙ ap (λ found. (line_of found).1) here in
    let line = c.args.self.now.in_line c.args.address.now in
    c.first_of.ensures test answers
    ∙ first_kept (undecided_on c.args.self.now) test (line_of (get_by_text c.args.self.now.addresses c.args.address.now)).0 _ c.in-Some.order.now order line.2

pub first_of-requires : goal.first_of-requires
first_of-requires g c = search (of_calls, may_ask) parts 8
