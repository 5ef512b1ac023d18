use Rattle.std.proofs.Common.{◌∷◌, ◌++◌, ℕ, List, subst, sym, ◌∙◌}
use Rattle.std.specs.List.{filter_map}
use Rattle.flow_counts.specs.Picks.{AddressEvent}
use Rattle.address_table.specs.Links.{IsCount}
use Rattle.trace_events.specs.Link.{own_link}
use Rattle.trace_events.specs.History.{history}
use Rattle.trace_events.proofs.Judged.{AreJudged, history-judged}
use Rattle.trace_events.specs.View.{event_view}
use Rattle.trace_events.specs.declared.event.Link.{Link}
use Rattle.trace_duties.specs.Consumers.{attached_as, begun_by, address_events}
use Rattle.state_outgoing.specs.SentTables.{sent_in}
use Rattle.state_tables.specs.EndedLinks.{AreEnded, views}
use Rattle.due_lists.specs.AddressCounts.{CountsMore, detached_all}
use Rattle.due_lists.specs.Picks.{decided_among, decided_link}
use Rattle.due_lists.proofs.Begins.{are-few}
use Rattle.due_lists.proofs.Sources.{named-source}
use Rattle.due_lists.proofs.Counts.{counted-same}
use Rattle.due_lists.proofs.DetachedLinks.{same-consumers}
use Rattle.due_lists.proofs.EndedConsumers.{ended-same}
use Rattle.due_lists.proofs.DecidedCounts.{among-mapped, as-many}
use Rattle.due_lists.proofs.SentKnown.{known-in}
use Rattle.due_lists.proofs.picks.Picks.follow.Goals as goal

pub returns : goal.returns
returns c = λ rules records r next tables does picks.
    let e = event_view c.args.event.now in
    let past = history rules records in
    let were : AreJudged rules past = history-judged rules records in
    let are : AreJudged rules (e ∷ past) = ((r, next.0), were) in
    let sent = tables.1.1.1.1.1.1.1.1.0 in
    let kept = sent_in c.args.before.now.sent.now in
    let known = known-in c.args.before.now.sent.now past sent in
    let Ended : List Link → Type 0 = λ links. AreEnded e past (views links) in
    let links = views c.ended.result.now in
    let ended = subst Ended (sym c.ended.ensures) does.ended in
    let listed = c.args.effects.now.spoken.items in
    let Decides : List ℕ → Type 0 = λ ns. CountsMore (decided_among e past kept ns) c.begin.new.self.table c.decide.new.self.table in
    let decided = subst Decides c.spoken.ensures (c.decide.ensures past tables.1.1.0) in
    let before : List AddressEvent = begun_by e ++ (attached_as (own_link e) ++ address_events past) in
    let attached = c.in_ok-attach.ensures (named-source rules e past are) (address_events past) picks in
    let begun = c.begin.ensures.counted (attached_as (own_link e) ++ address_events past) (are-few rules e past are c.begin.ensures.number) attached in
    let detached = c.detach.ensures in
    let counted = detached.counted _ (decided before begun) in
    let mapped = among-mapped e past kept listed in
    counted-same e past detached.detached (filter_map (λ n. decided_link e past (kept n)) listed) (λ n. same-consumers detached.detached links detached.same n ∙ ended-same rules e past are links ended n)
    (λ n. as-many rules e past were kept known listed does.distinct does.spoken n)
    c.detach.new.self.table
    (subst (λ (events : List AddressEvent). IsCount c.detach.new.self.table (detached_all detached.detached ++ (events ++ before))) mapped counted)
