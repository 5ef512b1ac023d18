use Rattle.std.proofs.Common.{refl, ap, ◌∙◌, ◌∷◌, ◌&&◌, ◌||◌, not, ℕ, Bool, List, nat_eq}
use Rattle.std.specs.List.{list_any}
use Rattle.number_groups.specs.Groups.{is_member}
use Rattle.number_groups.specs.OctetGroups as octets
use Rattle.number_groups.specs.declared.groups.Groups.{Groups}
use Rattle.trace_events.specs.History.{history}
use Rattle.trace_events.specs.Link.{is_consumer}
use Rattle.trace_events.specs.Words.{is_number}
use Rattle.trace_events.proofs.Judged.{AreJudged, history-judged}
use Rattle.trace_events.specs.View.{event_view, link_view}
use Rattle.state_outgoing.specs.SentAnswers.{carried}
use Rattle.state_outgoing.specs.SentTables.{sent_in}
use Rattle.state_tables.specs.EndedLinks.{views}
use Rattle.number_groups.specs.Ascending.{has}
use Rattle.state_tables.proofs.GroupLists.{any-map}
use Rattle.due_outcomes.specs.Untold.{has_lasting_consumer}
use Rattle.due_outcomes.proofs.LastingConsumers.{lasting-consumer}
use Rattle.due_outcomes.proofs.SpokenCarried.{carried-names, spoken-carried}
use Rattle.due_outcomes.proofs.UntoldFollowed.{followed}
use Rattle.due_outcomes.proofs.UntoldSteps.{untold-next}
use Rattle.due_outcomes.proofs.untold.Untold.follow.Goals as goal

pub returns : goal.returns
returns c = λ records r next stands does was.
    let rules = c.args.rules.now in
    let e = event_view c.args.event.now in
    let past = history rules records in
    let are : AreJudged rules (e ∷ past) = ((r, next.0), history-judged rules records) in
    let u2 = c.pair.new.self in
    let waiting = c.waiting.result.now in
    let items = c.args.effects.now.ended.items in
    let sent = c.args.before.now.sent.now in
    let spoken = c.args.effects.now.spoken.items in
    let keeps : List ℕ → Bool = has_lasting_consumer c.args.before.now.consumers.now c.args.before.now.consumer_links.now e in
    let told : ℕ → Bool = λ n. list_any (λ m. is_number (carried (sent_in sent m)) n) spoken in
    untold-next rules e past are next.1 c.args.self.now (record u2 { candidates = c.add_waiting.new.candidates }) was
    (followed rules e past are c.args.self.now u2
    c.add.new.candidates c.add-2.new.candidates c.add_carried.new.candidates c.add_of_links.new.candidates c.add_of_links-2.new.candidates c.add_waiting.new.candidates
    c.completed_number.result c.carried_number.result told c.on_link.result.now waiting (views items)
    c.in_ok-add.ensures.joined c.completed_number.ensures
    c.in_ok-pair.ensures.begun c.in_ok-pair.ensures.kept c.in_ok-pair.ensures.same
    c.in_ok-add-2.ensures.joined (λ n. ap (λ o. is_number o n) c.carried_number.ensures ∙ carried-names e.outgoing n)
    (λ n. c.in_ok-add_carried.ensures n ∙ ap (λ (numbers : List ℕ). has c.add-2.new.candidates n || list_any (λ m. is_number (carried (sent_in sent m)) n) numbers) c.spoken.ensures)
    (λ j begun opens speaks. spoken-carried rules past (history-judged rules records) sent stands.1.1.1.1.1.1.1.1.0 spoken j begun opens (does.spoken j begun opens speaks))
    (λ n. c.in_ok-add_of_links.ensures.joined n
    ∙ (ap (λ links. has c.add_carried.new.candidates n || list_any (λ l. is_member nat_eq u2.carried (link_view l).number n) links) c.ended-ended.ensures
    ∙ ap (λ b. has c.add_carried.new.candidates n || b) (any-map link_view (λ l. is_member nat_eq u2.carried l.number n) items)))
    (λ n. c.in_ok-add_of_links-2.ensures.joined n
    ∙ (ap (λ links. has c.add_of_links.new.candidates n || list_any (λ l. is_member nat_eq c.on_link.result.now (link_view l).number n) links) c.ended-ended.ensures
    ∙ ap (λ b. has c.add_of_links.new.candidates n || b) (any-map link_view (λ l. is_member nat_eq c.on_link.result.now l.number n) items)))
    (λ link n. ap (λ (groups : Groups ℕ). is_member nat_eq groups link n) c.on_link.ensures ∙ stands.1.1.1.1.1.1.1.1.1.0.awaits link n)
    keeps (λ address. lasting-consumer rules e past are c.args.before.now.consumer_links.now stands.1.1.1.1.1.0 address c.args.before.now.consumers.now)
    (λ n. c.in_ok-add_waiting.ensures n
    ∙ (ap (λ links. has c.add_of_links-2.new.candidates n || list_any (λ l. is_consumer (link_view l) && not (keeps (link_view l).address) && octets.is_member waiting (link_view l).address n) links) c.ended-ended.ensures
    ∙ ap (λ b. has c.add_of_links-2.new.candidates n || b) (any-map link_view (λ l. is_consumer l && not (keeps l.address) && octets.is_member waiting l.address n) items)))
    (c.waiting.ensures rules past (records, refl) stands.1.1.1.1.0)
    does.ended)
