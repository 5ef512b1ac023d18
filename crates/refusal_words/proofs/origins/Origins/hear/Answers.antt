use Rattle.std.proofs.Common.{refl, sym, ap, ◌∙◌}
use Rattle.std.specs.Option.{option_copied_mut}
use Rattle.amqp_perf.specs.View.{view}
use Rattle.refusal_words.specs.Session.{heard_change}
use Rattle.refusal_words.specs.Link.{heard_of_handle}
use Rattle.refusal_words.proofs.Channels.{changed-there, heard-there}
use Rattle.refusal_words.proofs.origins.Origins.hear.Goals as goal

pub returns-in-Some : goal.returns-in-Some
returns-in-Some c =
    let old = c.args.self.now in
    let new = record old { sessions = c.get_mut.follows.lender c.hear.new.self } in
    let performative = c.args.performative.now in
    heard-there c.args.key c.args.number old new performative c.in_default.not-Begin c.in_default.not-End
    (changed-there c.args.key (heard_change c.args.number (view performative)) (λ handle. heard_of_handle handle c.args.number (view performative)) old new
    c.in-Some.session.now c.hear.new.self (sym c.get_mut.ensures.value ∙ ap option_copied_mut c.in-Some.is)
    (c.get_mut.follows.holds c.hear.new.self) refl c.hear.ensures)
