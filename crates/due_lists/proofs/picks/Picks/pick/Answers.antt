use Rattle.std.proofs.Common.{◌≡◌, ◌∙◌, ap, sym, [], None, Some, option_map}
use Rattle.address_table.specs.Links.{listed}
use Rattle.flow_counts.specs.Picks as counts
use Rattle.capture_form.specs.Addresses.{distribution}
use Rattle.trace_events.specs.Event.{Link}
use Rattle.trace_events.specs.History.{history}
use Rattle.trace_events.proofs.Judged.{history-judged}
use Rattle.trace_duties.specs.Consumers.{address_events}
use Rattle.trace_events.specs.View.{link_view}
use Rattle.due_lists.proofs.Texts.{no-text}
use Rattle.due_lists.proofs.Eligible.{takes_at, pick-none, pick-of, picked-same, picked-link, fused}
use Rattle.due_lists.proofs.picks.Picks.pick.Goals as goal

pub returns-in_err-text-clause-picked : goal.returns-in_err-text-clause-picked
returns-in_err-text-clause-picked c = λ records tables picks.
    let rules = c.args.rules.now in
    let past = history rules records in
    let address = c.args.address.now in
    let none : counts.consumers address (address_events past) ≡ [] =
    sym (picks.lists address) ∙ ap listed (no-text address c.in_err-text.ensures c.args.self.now.table.addresses.entries) in
    ap (option_map (λ l. (link_view l).number)) c.from_residual.ensures
    ∙ (sym (pick-none (distribution rules address) (takes_at past) address (address_events past) none) ∙ picked-same rules past (history-judged rules records) address)

pub returns-in_err-number-clause-picked : goal.returns-in_err-number-clause-picked
returns-in_err-number-clause-picked c = λ records tables picks.
    let rules = c.args.rules.now in
    let past = history rules records in
    ap (option_map (λ l. (link_view l).number)) c.from_residual-in_err-number.ensures
    ∙ (pick-of rules past c.args.address.now c.distribution_of-distribution.result c.in_ok-text.text.now c.distribution_of-distribution.ensures c.in_ok-text.ensures None
    (c.in_err-number.ensures (takes_at past) (λ link answer lt post. post rules records tables) (address_events past) picks)
    ∙ picked-same rules past (history-judged rules records) c.args.address.now)

pub returns-clause-picked : goal.returns-clause-picked
returns-clause-picked c = λ records tables picks.
    let rules = c.args.rules.now in
    let past = history rules records in
    let n = c.in_ok-number.number in
    let picked = pick-of rules past c.args.address.now c.distribution_of-distribution.result c.in_ok-text.text.now c.distribution_of-distribution.ensures c.in_ok-text.ensures (Some n)
    (c.in_ok-number.ensures (takes_at past) (λ link answer lt post. post rules records tables) (address_events past) picks) in
    fused link_view (λ (l : Link). l.number) c.get.result
    ∙ (picked-link rules past (history-judged rules records) c.args.address.now n (option_map link_view c.get.result) (sym picked) (c.get.ensures ∙ tables.1.1.1.1.1.0 n)).0

pub returns-clause-known : goal.returns-clause-known
returns-clause-known c = λ records tables picks.
    let rules = c.args.rules.now in
    let past = history rules records in
    let n = c.in_ok-number.number in
    let picked = pick-of rules past c.args.address.now c.distribution_of-distribution.result c.in_ok-text.text.now c.distribution_of-distribution.ensures c.in_ok-text.ensures (Some n)
    (c.in_ok-number.ensures (takes_at past) (λ link answer lt post. post rules records tables) (address_events past) picks) in
    (picked-link rules past (history-judged rules records) c.args.address.now n (option_map link_view c.get.result) (sym picked) (c.get.ensures ∙ tables.1.1.1.1.1.0 n)).1
