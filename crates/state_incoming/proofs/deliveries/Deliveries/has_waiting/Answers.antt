use Rattle.std.proofs.Common.{◌∙◌, bytes_eq}
use Rattle.trace_events.specs.Incoming.{address_of}
use Rattle.trace_events.specs.Waiting.{is_waiting}
use Rattle.number_groups.specs.OctetGroups.{is_member}
use Rattle.state_tables.specs.LetGo.{is_let_go}
use Rattle.state_incoming.specs.Held.{says_waiting}
use Rattle.state_incoming.specs.HeldTables.{held_in}
use Rattle.state_incoming.proofs.FateSteps.{waiting-fate}
use Rattle.state_incoming.proofs.HeldAnswers.{waiting-kept}
use Rattle.state_incoming.proofs.GroupAnswers.{judged-of, any-is, address-at}
use Rattle.state_incoming.proofs.OverKnown.{waiting-there}
use Rattle.state_incoming.proofs.deliveries.Deliveries.has_waiting.Goals as goal

pub returns : goal.returns
returns c = λ rules past judged table.
    any-is rules past (judged-of rules past judged) (is_let_go c.args.self.now.let_go.items) (held_in c.args.self.now) table.0 (λ d. bytes_eq (address_of d past) c.args.address.now) (λ d. is_waiting rules d past) (λ x. says_waiting x.fate)
    (λ d. waiting-fate rules d past) (waiting-kept rules past) (λ d. waiting-there rules past (judged-of rules past judged) (is_let_go c.args.self.now.let_go.items) table.1.1 d.number d) (is_member c.args.self.now.groups.waiting c.args.address.now)
    (λ n. table.1.0.waiting c.args.address.now n ∙ address-at rules past (is_let_go c.args.self.now.let_go.items) (held_in c.args.self.now) table.0 c.args.address.now (λ x. says_waiting x.fate) n) c.is_empty.result c.is_empty.ensures
