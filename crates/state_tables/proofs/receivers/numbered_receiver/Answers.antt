use Rattle.std.proofs.Common.{◌≡◌, ap, sym, ◌∙◌, ℕ, Option, Some, option_and_then, option_map, rules}
use Rattle.trace_events.specs.History.{history}
use Rattle.trace_events.proofs.Judged.{history-judged}
use Rattle.trace_events.specs.View.{link_view}
use Rattle.state_tables.specs.ConsumerLinks.{consumer_at}
use Rattle.state_tables.proofs.ConsumerLinkSteps.{consumer-lives}
use Rattle.state_tables.specs.Receivers.{receiver_at, receiver_on}
use Rattle.state_tables.specs.declared.copies.Receiver.{Receiver}
use Rattle.state_tables.proofs.receivers.numbered_receiver.Goals as goal

pub returns : goal.returns
returns c = λ texts records are linked.
    let past = history texts records in
    let n = c.in_ok-number.field-0 in
    let l = link_view c.in_ok-link.link in
    let at : consumer_at n past ≡ Some l = sym (c.in_ok-link.ensures ∙ are n) in
    let Of : ℕ → Option Receiver = λ credit. Some (record { link = c.in_ok-link.link.number; credit = credit }) in
    let number : c.args.number ≡ Some n = search rules in
    ap Of (c.link_credit.ensures past linked (consumer-lives texts past (history-judged texts records) n l at))
    ∙ sym (ap (option_and_then (λ n. receiver_at n past)) number ∙ ap (option_map (receiver_on past)) at)
