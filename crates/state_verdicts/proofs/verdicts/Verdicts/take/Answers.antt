use Rattle.std.proofs.Common.{◌≡◌, false, ap, ◌∙◌, ◌&&◌, ◌||◌, ◌==◌, ◌∷◌, not, sym}
use Rattle.std.specs.List.{list_any}
use Rattle.std.proofs.lemmas.Result.{err_from_is_err_and}
use Rattle.amqp_perf.specs.declared.descriptor.Outcome.TheVariants.{Modified}
use Rattle.trace_events.specs.Event as law
use Rattle.trace_events.specs.History.{history}
use Rattle.trace_events.proofs.Along.{and_first}
use Rattle.trace_events.proofs.Judged.{AreJudged, history-judged}
use Rattle.trace_events.proofs.StepWords.{any-by}
use Rattle.trace_events.specs.View.{event_view, link_view}
use Rattle.trace_events.specs.declared.event.Link.{Link}
use Rattle.trace_events.specs.BestVerdict.{is_same_outcome}
use Rattle.state_tables.specs.EndedLinks.{views}
use Rattle.state_tables.specs.LetGo.{is_let_go}
use Rattle.state_verdicts.specs.Verdicts.{awaits_at, awaits_in, comes_now, is_given, is_taken, is_verdict_of, verdict_at}
use Rattle.state_verdicts.proofs.Refused.{grown}
use Rattle.state_verdicts.proofs.TableSteps.{any-map}
use Rattle.state_verdicts.proofs.VerdictsNext.{awaits-next, had-next, modified_at, taken_as}
use Rattle.state_verdicts.proofs.verdicts.Verdicts.take.Goals as goal

pub returns-clause-kept : goal.returns-clause-kept
returns-clause-kept c = λ rules records r next are comes gives all.
    let e = event_view c.args.event.now in
    let past = history rules records in
    let due = c.args.due.now in
    let given = c.args.given.now in
    let judged : AreJudged rules (e ∷ past) = ((r, next.0), history-judged rules records) in
    record {
      awaits = λ link n.
          c.in_ok-end.ensures.awaits link n
          ∙ (ap (λ b. b && not (list_any (λ (l : Link). l.number == link) c.args.ended.now))
          (c.in_ok-give.ensures.awaits link n ∙ ap (λ b. b && not (is_given given link n)) (c.in_ok-come.ensures.awaits link n ∙ ap (λ b. comes_now e due link n || b) (are.awaits link n)))
          ∙ (ap (λ b. ((comes_now e due link n || awaits_at rules past link n) && not (is_given given link n)) && not b) (any-map link_view (λ (l : law.Link). l.number == link) c.args.ended.now)
          ∙ awaits-next rules e past judged next.1 due given (views c.args.ended.now) comes gives all link n));
      mirrored = c.in_ok-end.ensures.mirrored (c.in_ok-give.ensures.mirrored (c.in_ok-come.ensures.mirrored are.mirrored));
      had = λ n outcome there.
          let kept : is_let_go c.args.self.now.let_go.items n ≡ false = ap (λ items. is_let_go items n) (sym (c.end.ensures.gone ∙ (c.give.ensures.gone ∙ c.come.ensures.gone))) ∙ there in
          c.in_ok-end.ensures.had n outcome
          ∙ (ap (λ b. b || is_same_outcome outcome Modified && list_any (λ (l : Link). awaits_in c.give.new.self l.number n) c.args.ended.now)
          (c.in_ok-give.ensures.had n outcome
          ∙ (ap (λ b. b || list_any (is_taken c.come.new.self n outcome) given) (c.in_ok-come.ensures.had n outcome ∙ are.had n outcome kept)
          ∙ ap (λ b. verdict_at rules past n outcome || b)
          (any-by (is_taken c.come.new.self n outcome) (taken_as rules e past judged next.1 due given (views c.args.ended.now) comes gives all n outcome)
          (λ v. ap (λ b. b && is_verdict_of n outcome v) (c.in_ok-come.ensures.awaits v.link v.delivery ∙ ap (λ b. comes_now e due v.link v.delivery || b) (are.awaits v.link v.delivery))) given)))
          ∙ (ap (λ b. (verdict_at rules past n outcome || list_any (taken_as rules e past judged next.1 due given (views c.args.ended.now) comes gives all n outcome) given) || is_same_outcome outcome Modified && b)
          (any-by (λ (l : Link). awaits_in c.give.new.self l.number n) (λ (l : Link). modified_at rules e past judged next.1 due given (views c.args.ended.now) comes gives all n (link_view l))
          (λ l. c.in_ok-give.ensures.awaits l.number n ∙ ap (λ b. b && not (is_given given l.number n)) (c.in_ok-come.ensures.awaits l.number n ∙ ap (λ b. comes_now e due l.number n || b) (are.awaits l.number n)))
          c.args.ended.now
          ∙ any-map link_view (modified_at rules e past judged next.1 due given (views c.args.ended.now) comes gives all n) c.args.ended.now)
          ∙ had-next rules e past judged next.1 due given (views c.args.ended.now) comes gives all n outcome));
    }

pub returns-in_err-end-clause-refused : goal.returns-in_err-end-clause-refused
returns-in_err-end-clause-refused c =
    let e = event_view c.args.event.now in
    let due = c.args.due.now in
    let given = c.args.given.now in
    let p = err_from_is_err_and c.from_residual-in_err-end.result c.from_residual-in_err-end.ensures.1 in
    let m = c.in_err-end.ensures.refused in
    rw p.1 (grown c.args.self.now e due given c.args.ended.now m.0 (λ link. awaits_in c.give.new.self link m.0)
    (λ link waits.
    sym (c.in_ok-come.ensures.awaits link m.0)
    ∙ and_first (awaits_in c.come.new.self link m.0) (not (is_given given link m.0)) (sym (c.in_ok-give.ensures.awaits link m.0) ∙ waits)) m.1)
