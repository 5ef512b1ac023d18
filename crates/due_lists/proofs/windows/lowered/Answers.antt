use Rattle.std.proofs.Common.{◌≡◌, sym, ap, subst, ◌∙◌, ◌+◌, inl, inr, Some, leb-true, arith}
use Rattle.flow_counts.specs.declared.profile.TheConstants.{RENEWAL_MARK}
use Rattle.trace_events.specs.History.{history}
use Rattle.trace_events.specs.Session.{IsLiveOn}
use Rattle.trace_events.specs.Window.{given_window}
use Rattle.trace_events.specs.declared.session.Session.{Session}
use Rattle.trace_events.proofs.Judged.{history-judged}
use Rattle.trace_events.specs.View.{event_view}
use Rattle.due_lists.proofs.LackingWindows.{lacking-before}
use Rattle.due_lists.proofs.windows.lowered.Goals as goal

pub returns-then-given_window-clause-known : goal.returns-then-given_window-clause-known
returns-then-given_window-clause-known c = λ rules records r next are s lacking.
    elim (lacking-before rules (event_view c.args.event.now) (history rules records) ((r, next.0), history-judged rules records) s lacking) [
      | inl low ↦ inl (sym c.in_ok-session.was ∙ low.0)
      | inr earlier ↦ inr earlier
    ]

pub returns-else-given_window-clause-known : goal.returns-else-given_window-clause-known
returns-else-given_window-clause-known c = λ rules records r next are s lacking.
    elim (lacking-before rules (event_view c.args.event.now) (history rules records) ((r, next.0), history-judged rules records) s lacking) [
      | inl low ↦
          let one : c.in_ok-session.session ≡ s = let some : Some c.in_ok-session.session ≡ Some s = sym c.in_ok-session.was ∙ low.0 in cc in
          let given : c.given_window.result ≡ given_window s (history rules records) =
          c.given_window.ensures rules (history rules records) are (subst (λ (t : Session). IsLiveOn t (history rules records)) (sym one) low.1.0) ∙ ap (λ (t : Session). given_window t (history rules records)) one in
          absurd (omega (arith, given, leb-true (given_window s (history rules records)) (RENEWAL_MARK + 1) low.1.1, c.if-given_window.false))
      | inr earlier ↦ inr earlier
    ]
