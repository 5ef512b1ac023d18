use Rattle.std.proofs.Common.{sym, ap, ◌∙◌, ℕ, ◌∷◌, ◌==◌, Option, nat_eq, option_map, reverse}
use Rattle.indexmap.specs.IndexMap.{get}
use Rattle.number_groups.specs.Numbers.{is_among}
use Rattle.state_outgoing.specs.Carriers.{listed}
use Rattle.state_outgoing.specs.Sent.{Sent}
use Rattle.state_outgoing.specs.SentTables.{last_without}
use Rattle.state_outgoing.specs.SentViews.{sent_view}
use Rattle.state_outgoing.proofs.LeftLinks.{among-first, without-more}
use Rattle.state_outgoing.proofs.deliveries.leave_all.Goals as goal

pub returns-in-Some-clause-on_link : goal.returns-in-Some-clause-on_link
returns-in-Some-clause-on_link c = λ n.
    let carriers = c.in-Some.carriers in
    let kept : ℕ → Option Sent = λ m. option_map sent_view (get nat_eq c.args.entries.now m) in
    let old = get nat_eq c.args.begun.now.on_link n in
    let mid = get nat_eq c.leave_link.new.begun.on_link n in
    without-more kept n old (λ m. m == carriers.last) (is_among carriers.earlier.items) (is_among (carriers.last ∷ reverse carriers.earlier.items)) (among-first carriers.last carriers.earlier.items) mid _
    (c.leave_link.ensures.on_link n) (c.leave_links.ensures.on_link n ∙ ap (λ xs. last_without kept (is_among xs) n mid) c.deref.ensures.value)
    ∙ ap (λ o. last_without kept (is_among (listed o)) n old) (sym c.in-Some.is)
