use Rattle.std.proofs.Common.{refl, ◌∙◌, bytes_eq}
use Rattle.std.proofs.lemmas.Slice.Eq.{bytes_eq-Decides}
use Rattle.trace_events.specs.Incoming.{address_of}
use Rattle.trace_events.specs.Waiting.{is_waiting}
use Rattle.number_groups.specs.OctetGroups.{is_member}
use Rattle.state_tables.specs.LetGo.{is_let_go}
use Rattle.state_incoming.specs.Held.{says_waiting}
use Rattle.state_incoming.specs.HeldTables.{held_in}
use Rattle.state_incoming.proofs.FateSteps.{waiting-fate}
use Rattle.state_incoming.proofs.HeldAnswers.{waiting-kept}
use Rattle.state_incoming.proofs.GroupAnswers.{judged-of, member-of, address-at, both}
use Rattle.state_incoming.proofs.OverKnown.{waiting-there}
use Rattle.state_incoming.proofs.deliveries.Deliveries.waiting.Goals as goal

pub returns : goal.returns
returns c = λ rules past judged table d at is.
    let own = address_of d past in
    member-of rules past (judged-of rules past judged) (is_let_go c.args.self.now.let_go.items) (held_in c.args.self.now) table.0 (λ x. bytes_eq (address_of x past) own) (λ x. is_waiting rules x past) (λ x. says_waiting x.fate)
    (λ x. waiting-fate rules x past) (waiting-kept rules past) (λ x. waiting-there rules past (judged-of rules past judged) (is_let_go c.args.self.now.let_go.items) table.1.1 x.number x) (is_member c.args.self.now.groups.waiting own)
    (λ n. table.1.0.waiting own n ∙ address-at rules past (is_let_go c.args.self.now.let_go.items) (held_in c.args.self.now) table.0 own (λ x. says_waiting x.fate) n) d at
    (both (bytes_eq own own) (is_waiting rules d past) ((bytes_eq-Decides own own).1 refl) is)
