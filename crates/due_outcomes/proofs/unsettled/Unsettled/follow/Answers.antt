use Rattle.std.proofs.Common.{◌∙◌, ◌∷◌, ℕ, List, ap}
use Rattle.number_groups.specs.Ascending.{has}
use Rattle.number_groups.specs.Numbers.{is_among}
use Rattle.trace_events.specs.History.{history}
use Rattle.trace_events.proofs.Judged.{AreJudged, history-judged}
use Rattle.trace_events.proofs.ClausesMet.{lawful-past}
use Rattle.trace_events.specs.View.{event_view}
use Rattle.state_tables.specs.EndedLinks.{views}
use Rattle.due_outcomes.specs.Closings.{may_close}
use Rattle.due_outcomes.proofs.UnderKeys.{or-first, or-last}
use Rattle.due_outcomes.proofs.UnsettledSteps.{unsettled-next}
use Rattle.due_outcomes.proofs.unsettled.Unsettled.follow.Goals as goal

pub returns : goal.returns
returns c = λ rules records r next does was.
    let e = event_view c.args.event.now in
    let past = history rules records in
    let are : AreJudged rules (e ∷ past) = ((r, next.0), history-judged rules records) in
    let first = c.args.self.now.candidates in
    let spoken = c.spoken.result.now in
    unsettled-next rules e past are (lawful-past rules e past next.1) (views c.args.effects.now.ended.items) does.ended c.args.self.now c.release.new.self was
    (λ n there. c.in_ok-release.ensures.grown n (c.in_ok-add_all.ensures.joined n ∙ or-first (has first n) (is_among spoken n) there))
    (λ j there opens speaks. c.in_ok-release.ensures.grown j.number (c.in_ok-add_all.ensures.joined j.number
    ∙ or-last (has first j.number) (is_among spoken j.number) (ap (λ (ns : List ℕ). is_among ns j.number) c.spoken.ensures ∙ does.spoken j there opens speaks)))
    (λ n m closes parked. c.in_ok-release.ensures.released n m (ap (λ links. may_close e links n) (ap views c.ended.ensures) ∙ closes) parked)
    c.in_ok-release.ensures.left
