use Rattle.std.proofs.Common.{ap, sym, ◌∙◌, IfOk, Result, Ok, Err}
use Rattle.trace_events.specs.History.{history}
use Rattle.trace_events.proofs.Judged.{history-judged}
use Rattle.trace_events.specs.View.{event_view}
use Rattle.state_tables.specs.EndedLinks.{views}
use Rattle.state_tables.proofs.EndedLaw.{found-ended, none-ended, none-ending}
use Rattle.state_tables.proofs.links.Links.ended_by.Goals as goal

if_ok : {A E : Type 0} (r : Result A E) (P Q : A → Type 0) → IfOk r P → ((x : A) → P x → Q x) → IfOk r Q
if_ok (Ok x) P Q p f = f x p
if_ok (Err e) P Q p f = tt

pub returns-then-not-may_end : goal.returns-then-not-may_end
returns-then-not-may_end c = λ rules records r is linked.
    none-ending rules (event_view c.args.event.now) (history rules records) ((r, is), history-judged rules records) (views c.new.result.items)
    (sym c.may_end.ensures ∙ c.if-not-may_end.true) (ap views c.new.ensures.items)

pub returns-in-Some : goal.returns-in-Some
returns-in-Some c =
    if_ok c.ended.result _ _ c.ended.ensures
    (λ links ended rules records r is linked.
    found-ended rules (event_view c.args.event.now) (history rules records) ((r, is), history-judged rules records) c.args.self.now linked (views links.items) c.in-Some.connection.now (sym c.in-Some.ensures.value) ended)

pub returns-in-None : goal.returns-in-None
returns-in-None c = λ rules records r is linked.
    none-ended rules (event_view c.args.event.now) (history rules records) ((r, is), history-judged rules records) c.args.self.now linked (views c.new-in-None.result.items) (sym c.in-None.ensures.value)
    (ap views c.new-in-None.ensures.items)
