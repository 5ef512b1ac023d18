use Rattle.std.proofs.Common.{◌∙◌, ap, sym, filter}
use Rattle.capture_form.specs.declared.rules.Distribution.TheVariants.{Closest}
use Rattle.flow_counts.specs.Picks.{best}
use Rattle.address_table.specs.Picking.{ranks_below, pick_of}
use Rattle.address_table.specs.Links.{consumer_of}
use Rattle.address_table.proofs.Best.{pick_balanced, pick_closest}
use Rattle.address_table.proofs.table.Table.pick.Goals as goal

pub returns-in-Balanced : goal.returns-in-Balanced
returns-in-Balanced g c = λ test answers past count.
    c.first_in_order.ensures test answers
    ∙ (pick_balanced c.args.self.now past test c.args.address.now count
    ∙ ap (λ by. pick_of by test c.args.address.now past) (sym c.in-Balanced.is))

pub returns-in-Closest : goal.returns-in-Closest
returns-in-Closest g c = λ test answers past count.
    c.first_of_least.ensures test answers ∙ ap (λ links. best (ranks_below Closest (consumer_of c.args.self.now)) (filter test links)) c.consumers.ensures.value
    ∙ (pick_closest c.args.self.now past test c.args.address.now count
    ∙ ap (λ by. pick_of by test c.args.address.now past) (sym c.in-Closest.is))
