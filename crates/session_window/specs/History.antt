-- Whether the windows of a session had room for what happened on it.
use Rattle.std.specs.Prelude.{◌≤◌, Bool, true, ◌&&◌, List, [], ◌∷◌, nat_lt}
use Rattle.flow_counts.specs.declared.events.WindowEvent.{WindowEvent}
use Rattle.flow_counts.specs.declared.events.WindowEvent.TheVariants.{Sent, Received}
use Rattle.flow_counts.specs.Window.{granted_window, sent_since_flow}
use Rattle.flow_counts.specs.GivenWindow.{received_since_flow}
use Rattle.flow_counts.specs.declared.profile.TheConstants.{INCOMING_WINDOW}
use Rattle.session_window.specs.Counters.{Opening, remote_window, given_left}

-- after these events there is room for one more: a transfer wants at least 1 of the window that it takes from (part 2
-- of the standard, section 2.5.6)
abbrev pub has_room : Opening → List WindowEvent → WindowEvent → Bool
has_room begun past Sent = nat_lt 0 (remote_window begun past)
has_room begun past Received = nat_lt 0 (given_left begun past)
has_room begun past _ = true

-- each event had room when it came
abbrev pub stays_within : Opening → List WindowEvent → Bool
stays_within begun [] = true
stays_within begun (event ∷ past) = has_room begun past event && stays_within begun past

-- no more transfers were sent since the client's last flow than it left room for, and no more received since the last
-- flow to it than that gave
pub record IsWithinWindows (begun : Opening) (past : List WindowEvent) : Type 0 where
  pub sent : sent_since_flow past ≤ granted_window begun.first_outgoing_id begun.their_window past
  pub received : received_since_flow past ≤ INCOMING_WINDOW
