use Rattle.std.proofs.Common.{sym, ap, ◌∙◌, nat_le, le-leb}
use Rattle.flow_counts.specs.declared.profile.TheConstants.{RENEWAL_MARK}
use Rattle.trace_events.specs.Session.{IsLiveOn}
use Rattle.trace_events.proofs.Standing.{live-on}
use Rattle.due_lists.proofs.windows.lacking.Goals as goal

pub returns-then-given_window-le-RENEWAL_MARK-clause-due : goal.returns-then-given_window-le-RENEWAL_MARK-clause-due
returns-then-given_window-le-RENEWAL_MARK-clause-due c = λ rules past are.
    let s = c.in_ok-session.session in
    let live : IsLiveOn s past = live-on c.args.candidate.connection c.args.candidate.channel past s (sym (c.in_ok-session.ensures rules past are)) in
    (live, ap (λ n. nat_le n RENEWAL_MARK) (sym (c.given_window.ensures rules past are live)) ∙ le-leb c.given_window.result RENEWAL_MARK c.if-given_window-le-RENEWAL_MARK.true)
