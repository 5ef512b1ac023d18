use Rattle.std.proofs.Common.{sym, ◌∙◌}
use Rattle.trace_events.proofs.Standing.{live-on}
use Rattle.credit_levels.proofs.Places.{found_lives, on_session}
use Rattle.credit_levels.proofs.asking.link_on.Goals as goal

pub returns-in-Some-clause-value : goal.returns-in-Some-clause-value
returns-in-Some-clause-value g c = λ rules past stands.
    let p = c.args.place in
    let live = sym (c.in-Some.ensures rules past stands) in
    c.session_link.ensures rules past stands (live-on p.connection p.channel past c.in-Some.session live)
    ∙ sym (on_session p.connection p.channel p.handle past c.in-Some.session live)

pub returns-in-Some-clause-live : goal.returns-in-Some-clause-live
returns-in-Some-clause-live g c = λ rules past stands.
    let p = c.args.place in
    let on = live-on p.connection p.channel past c.in-Some.session (sym (c.in-Some.ensures rules past stands)) in
    found_lives c.in-Some.session p.handle past _ on (sym (c.session_link.ensures rules past stands on))
