use Rattle.std.proofs.Common.{◌≡◌, ap, subst, ◌∙◌, ◌<◌, length, nat_eq, bytes_eq, option_and_then, option_map, true}
use Rattle.number_groups.specs.Groups.{numbers}
use Rattle.trace_events.specs.Event as law
use Rattle.trace_events.specs.Words.{is_some_and}
use Rattle.state_tables.specs.ConsumerLinks.{link_in}
use Rattle.due_lists.specs.AddressesToTry.{is_to_try}
use Rattle.due_lists.proofs.AwakeWoken.{at-once, before, named, one-more}
use Rattle.due_lists.proofs.addresses_to_try.AddressesToTry.wake_session.Goals as goal

pub loop-index-preserved : goal.loop-index-preserved
loop-index-preserved c =
    let all = numbers nat_eq c.args.links.now.numbers c.in-Some.session in
    let below : c.loop-index.index < length all = subst (λ k. c.loop-index.index < k) c.count-index-end.ensures c.loop-index-test.true in
    let own = is_some_and c.address_at.result in (
      λ m among at.
          one-more (is_to_try c.add.new.self m.address ≡ true) all c.loop-index.index m.number below
          (λ was. before (own (λ octets. bytes_eq octets.now m.address)) (is_to_try c.loop-index.self m.address) (is_to_try c.add.new.self m.address) (c.in_ok-add.ensures m.address) (c.loop-index.invariant.0 m was at))
          (λ here. at-once (own (λ octets. bytes_eq octets.now m.address)) (is_to_try c.loop-index.self m.address) (is_to_try c.add.new.self m.address) (c.in_ok-add.ensures m.address)
          (named (λ octets. octets.now) c.address_at.result m.address
          (c.address_at.ensures ∙ (ap (λ o. option_map (λ (l : law.Link). l.address) (option_and_then (link_in c.args.consumer_links.now) o)) (c.get.ensures ∙ here) ∙ ap (option_map (λ (l : law.Link). l.address)) at)))) among,
      λ address was. before (own (λ octets. bytes_eq octets.now address)) (is_to_try c.loop-index.self address) (is_to_try c.add.new.self address) (c.in_ok-add.ensures address) (c.loop-index.invariant.1 address was),
    )
