use Rattle.std.proofs.Common.{◌≡◌, ◌∙◌, ap, sym, rules, ℕ, List, Some, find, filter}
use Rattle.std.specs.Prelude.{not, ◌==◌}
use Rattle.std.specs.Option.{option_map}
use Rattle.std.proofs.lemmas.Fn.{filter_same}
use Rattle.address_table.specs.declared.address_links.LinkRank.{LinkRank}
use Rattle.address_table.specs.AddressLinks.{closed_up, is_of, items_of, without}
use Rattle.address_table.proofs.address_links.AddressLinks.leave.Goals as goal

pub returns-in-Some : goal.returns-in-Some
returns-in-Some c =
    let others : c.retain.new.self.items ≡ filter (λ on. not (on == c.args.link)) c.args.self.now.links.items =
    filter_same _ (λ (on : ℕ). not (on == c.args.link)) _ (λ x b f' k. search rules) _ _ c.retain.ensures.filtered in
    let change : List LinkRank → List LinkRank = λ order. closed_up (find (is_of c.args.link) order) (without c.args.link order) in
    let order : Some c.leave_order.new.order.items ≡ option_map change (items_of c.args.self.now.order) =
    ap (λ items. Some items) c.leave_order.ensures ∙ ap (λ kept. option_map change (items_of kept)) (sym c.in-Some.is) in
    λ i. (others i, order i)

pub returns-in_default : goal.returns-in_default
returns-in_default c =
    let others : c.retain.new.self.items ≡ filter (λ on. not (on == c.args.link)) c.args.self.now.links.items =
    filter_same _ (λ (on : ℕ). not (on == c.args.link)) _ (λ x b f' k. search rules) _ _ c.retain.ensures.filtered in
    let change : List LinkRank → List LinkRank = λ order. closed_up (find (is_of c.args.link) order) (without c.args.link order) in
    let order : items_of c.args.self.now.order ≡ option_map change (items_of c.args.self.now.order) = search rules in
    λ i. (others i, order i)
