use Rattle.std.proofs.Common.{◌≡◌, take, reverse, IsTrue}
use Rattle.session_window.specs.Counters.{opening, counted}
use Rattle.session_window.specs.History.{stays_within}
use Rattle.session_window.proofs.history.window_after.Given as goal

abbrev pub invariant-loop-event : goal.invariant-loop-event
invariant-loop-event l = record {
  counted : l.window ≡ counted (opening l.next_out l.next_in l.remote) (reverse (take l.event-index l.events));
  kept : IsTrue (stays_within (opening l.next_out l.next_in l.remote) (reverse (take l.event-index l.events)));
}
