use Rattle.std.proofs.Common.{sym, Result, Ok, Err, IfOk, OnOk}
use Rattle.trace_events.specs.View.{event_view}
use Rattle.state_tables.specs.EndedLinks.{views}
use Rattle.state_tables.proofs.EndedTables.{all-over, session-ended}
use Rattle.state_tables.proofs.channels.Channels.ended.Goals as goal

if_ok : {A E : Type 0} (r : Result A E) (P Q : A → Type 0) (R : Type 0) → IfOk r P → OnOk r R → ((x : A) → P x → R → Q x) → IfOk r Q
if_ok (Ok x) P Q R p q f = f x p q
if_ok (Err e) P Q R p q f = tt

on_ok : {A E : Type 0} (r : Result A E) → OnOk r (Unit {0})
on_ok (Ok x) = tt
on_ok (Err e) = tt

pub returns-then-is_final : goal.returns-then-is_final
returns-then-is_final c =
    if_ok c.links.result _ _ _ c.links.ensures.listed c.links.ensures.distinct_handles
    (λ links listed each. all-over (event_view c.args.event.now) c.args.self.now (views links.items) c.links.ensures.distinct each (sym c.if-is_final.ensures) listed)

pub returns-in-Some-get : goal.returns-in-Some-get
returns-in-Some-get c =
    if_ok c.ended.result _ _ (Unit {0}) c.ended.ensures (on_ok c.ended.result)
    (λ links ended _.
    session-ended (event_view c.args.event.now) c.args.self.now (views links.items) (sym c.if-is_final.ensures) c.in-Some.channel (sym c.in-Some.ensures) c.in-Some-get.session.now
    (sym c.in-Some-get.ensures.value) ended)
