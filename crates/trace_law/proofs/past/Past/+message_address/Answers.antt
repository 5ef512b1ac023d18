use Rattle.std.proofs.Common.{◌≡◌, sym, ap, ◌∙◌, subst, ◌∷◌, true, false, []}
use Rattle.std.specs.Prelude.{unwrap_or}
use Rattle.amqp_perf.specs.Message.{to_of}
use Rattle.trace_events.specs.Incoming.{completes, message, message_address}
use Rattle.trace_events.specs.View.{event_view, incoming_view}
use Rattle.trace_law.specs.Messages.{found_octets}
use Rattle.trace_law.specs.OnStack.{events}
use Rattle.trace_law.specs.declared.past.Past.{Past}
use Rattle.trace_law.proofs.Messages.{joined_message, told-here}
use Rattle.trace_law.proofs.past.Past.+message_address.Goals as goal

pub returns : goal.returns
returns t c =
    let d = incoming_view c.args.delivery.now in
    let e = event_view c.in-After.event in
    let earlier = events c.in-After.earlier.now in
    let said = c.completes.ensures in
    let otherwise = c.if-not-completes.false in
    let here : completes d e ≡ true = cc in
    let whole : events c.args.self.now ≡ e ∷ earlier = ap events c.in-After.is in
    ap (λ o. unwrap_or o []) (c.message_to.ensures.exact ∙ ap to_of (joined_message d (events c.args.self.now) ∙ ap (λ past. message d past) whole))
    ∙ (sym (told-here d e earlier here) ∙ ap (message_address d) (sym whole))
