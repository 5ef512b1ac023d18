use Rattle.std.proofs.Common.{◌∙◌, sym, ap, refl, take, reverse}
use Rattle.session_window.specs.Counters.{opening, counted}
use Rattle.flow_counts.proofs.Newest.{reverse-next, reverse-all}
use Rattle.session_window.proofs.Within.{within_next, within_windows}
use Rattle.session_window.proofs.history.window_after.Goals as goal

pub loop-event-preserved : goal.loop-event-preserved
loop-event-preserved c =
    let begun = opening c.args.next_out c.args.next_in c.args.remote in
    let past = reverse (take c.loop-event.event-index c.args.events.now) in record {
      counted = c.in_ok-window.ensures.counted begun past c.loop-event.invariant.counted ∙ ap (counted begun) (sym (reverse-next _ _ _ c.loop-event-test.true));
      kept = within_next begun _ _ _ c.loop-event-test.true ((c.in_ok-window.ensures.room begun past c.loop-event.invariant.counted).1 refl) c.loop-event.invariant.kept;
    }

pub returns-clause-within : goal.returns-clause-within
returns-clause-within c = within_windows _ _ (rw (← reverse-all c.args.events.now c.loop-event.event-index c.loop-event-test.false) c.loop-event.invariant.kept)
