use Rattle.std.proofs.Common.{refl, ◌∙◌, bytes_eq}
use Rattle.trace_events.specs.Incoming.{address_of}
use Rattle.trace_events.specs.Waiting.{is_waiting}
use Rattle.number_groups.specs.OctetGroups.{is_member, numbers}
use Rattle.state_tables.specs.LetGo.{is_let_go}
use Rattle.state_incoming.specs.Held.{says_waiting}
use Rattle.state_incoming.specs.HeldTables.{held_in}
use Rattle.state_incoming.proofs.FateSteps.{waiting-fate}
use Rattle.state_incoming.proofs.HeldAnswers.{waiting-kept}
use Rattle.state_incoming.proofs.GroupAnswers.{judged-of, count-is, address-at}
use Rattle.state_incoming.proofs.OverKnown.{waiting-there}
use Rattle.state_incoming.proofs.deliveries.Deliveries.waiting_count.Goals as goal

pub returns : goal.returns
returns c = λ rules past judged table.
    let address = c.args.address.now in
    c.count.ensures.count
    ∙ count-is rules past (judged-of rules past judged) (is_let_go c.args.self.now.let_go.items) (held_in c.args.self.now) table.0 (λ d. bytes_eq (address_of d past) address) (λ d. is_waiting rules d past) (λ x. says_waiting x.fate)
    (λ d. waiting-fate rules d past) (waiting-kept rules past) (λ d. waiting-there rules past (judged-of rules past judged) (is_let_go c.args.self.now.let_go.items) table.1.1 d.number d) (is_member c.args.self.now.groups.waiting address)
    (λ n. table.1.0.waiting address n ∙ address-at rules past (is_let_go c.args.self.now.let_go.items) (held_in c.args.self.now) table.0 address (λ x. says_waiting x.fate) n)
    (numbers c.args.self.now.groups.waiting address) c.count.ensures.distinct (λ n. refl)
