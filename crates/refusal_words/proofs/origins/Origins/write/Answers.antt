use Rattle.std.proofs.Common.{refl, sym, ap, ◌∙◌}
use Rattle.std.specs.Option.{option_copied_mut}
use Rattle.amqp_perf.specs.View.{view}
use Rattle.refusal_words.specs.Session.{written_change}
use Rattle.refusal_words.specs.Link.{written_of_handle}
use Rattle.refusal_words.proofs.Channels.{changed-there, written-there}
use Rattle.refusal_words.proofs.origins.Origins.write.Goals as goal

pub returns-in_ok-write-in_default : goal.returns-in_ok-write-in_default
returns-in_ok-write-in_default c =
    let old = c.args.self.now in
    let new = record old { sessions = c.get_mut.follows.lender c.write.new.self } in
    let performative = c.args.performative.now in
    written-there c.args.key c.args.number old new performative c.in_default.not-Begin c.in_default.not-End
    (changed-there c.args.key (written_change (view performative)) (λ handle. written_of_handle handle c.args.number (view performative)) old new
    c.in-Some.session.now c.write.new.self (sym c.get_mut.ensures.value ∙ ap option_copied_mut c.in-Some.is)
    (c.get_mut.follows.holds c.write.new.self) refl c.in_ok-write-in_default.ensures)
