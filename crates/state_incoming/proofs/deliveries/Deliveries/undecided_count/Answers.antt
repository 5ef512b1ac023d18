use Rattle.std.proofs.Common.{refl, ◌∙◌, nat_eq}
use Rattle.trace_events.specs.Waiting.{is_undecided}
use Rattle.number_groups.specs.Groups.{is_member, numbers}
use Rattle.state_tables.specs.LetGo.{is_let_go}
use Rattle.state_incoming.specs.Grouped.{is_of_link}
use Rattle.state_incoming.specs.HeldTables.{held_in}
use Rattle.state_incoming.proofs.HeldAnswers.{undecided-kept}
use Rattle.state_incoming.proofs.GroupAnswers.{judged-of, count-is}
use Rattle.state_incoming.proofs.OverKnown.{undecided-there}
use Rattle.state_incoming.proofs.deliveries.Deliveries.undecided_count.Goals as goal

pub returns : goal.returns
returns c = λ rules past judged table.
    let link = c.args.link.now.number in
    c.count.ensures.count
    ∙ count-is rules past (judged-of rules past judged) (is_let_go c.args.self.now.let_go.items) (held_in c.args.self.now) table.0 (is_of_link link) (λ d. is_undecided rules d past) (λ x. x.is_undecided)
    (λ d. refl) (undecided-kept rules past) (λ d. undecided-there rules past (judged-of rules past judged) (is_let_go c.args.self.now.let_go.items) table.1.1 d.number d) (is_member nat_eq c.args.self.now.groups.undecided link) (table.1.0.undecided link)
    (numbers nat_eq c.args.self.now.groups.undecided link) c.count.ensures.distinct (λ n. refl)
