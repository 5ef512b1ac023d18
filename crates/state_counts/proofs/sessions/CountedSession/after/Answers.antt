use Rattle.std.proofs.Common.{sym, ap, ◌∙◌, if◌then◌else◌}
use Rattle.flow_counts.specs.Serial.{serial_add}
use Rattle.trace_events.specs.Window.{window_event}
use Rattle.trace_events.specs.View.{event_view}
use Rattle.state_counts.specs.declared.sessions.CountedSession.{CountedSession}
use Rattle.state_counts.specs.Sessions.{moved}
use Rattle.state_counts.proofs.SessionSteps.{counted_next}
use Rattle.state_counts.proofs.sessions.CountedSession.after.Goals as goal

pub returns-then-begins_delivery-clause-known : goal.returns-then-begins_delivery-clause-known
returns-then-begins_delivery-clause-known c = λ history is on.
    let e = event_view c.args.event.now in
    let next = moved c.args.self (window_event e.moment) in
    ap (λ (x : CountedSession). record x { next_delivery_id = serial_add x.next_delivery_id 1 }) c.with_windows-later.ensures
    ∙ (sym (ap (λ b. if b then record next { next_delivery_id = serial_add next.next_delivery_id 1 } else next) (sym c.begins_delivery.ensures ∙ c.if-begins_delivery.true))
    ∙ counted_next e history c.args.self is on)

pub returns-else-begins_delivery-clause-known : goal.returns-else-begins_delivery-clause-known
returns-else-begins_delivery-clause-known c = λ history is on.
    let e = event_view c.args.event.now in
    let next = moved c.args.self (window_event e.moment) in
    c.with_windows-later.ensures
    ∙ (sym (ap (λ b. if b then record next { next_delivery_id = serial_add next.next_delivery_id 1 } else next) (sym c.begins_delivery.ensures ∙ c.if-begins_delivery.false))
    ∙ counted_next e history c.args.self is on)
