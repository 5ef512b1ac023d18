-- What it means that each transfer had room.
use Rattle.std.proofs.Common.{subst, ℕ, ◌+◌, ◌<◌, IsTrue, List, [], ◌∷◌, ◌++◌, length, take, drop, get_or, reverse, arith}
use Rattle.std.proofs.lemmas.Bool.{and_parts, and_from, ltb-true}
use Rattle.flow_counts.specs.declared.events.WindowEvent.{WindowEvent}
use Rattle.flow_counts.specs.declared.events.WindowEvent.TheVariants.{TheirFlow, Sent, OurFlow, Received}
use Rattle.session_window.specs.Counters.{Opening, remote_window, given_left}
use Rattle.session_window.specs.History.{has_room, stays_within, IsWithinWindows}
use Rattle.flow_counts.proofs.Newest.{reverse-next, reverse-all, reverse-split}

-- the event in front had room, and those behind it stay within
pub room_in_front : (begun : Opening) (event : WindowEvent) (past : List WindowEvent) → IsTrue (stays_within begun (event ∷ past)) → IsTrue (has_room begun past event)
room_in_front begun event past h = (and_parts (has_room begun past event) (stays_within begun past) h).0

pub within_behind : (begun : Opening) (event : WindowEvent) (past : List WindowEvent) → IsTrue (stays_within begun (event ∷ past)) → IsTrue (stays_within begun past)
within_behind begun event past h = (and_parts (has_room begun past event) (stays_within begun past) h).1

-- where each transfer had room, no window is overrun
pub within_windows : (begun : Opening) (past : List WindowEvent) → IsTrue (stays_within begun past) → IsWithinWindows begun past
within_windows begun [] h = record { sent = omega arith; received = omega arith }
within_windows begun (TheirFlow expected window ∷ past) h =
    let earlier = within_windows begun past (within_behind begun (TheirFlow expected window) past h) in record { sent = omega arith; received = earlier.received }
within_windows begun (OurFlow ∷ past) h =
    let earlier = within_windows begun past (within_behind begun OurFlow past h) in record { sent = earlier.sent; received = omega arith }
within_windows begun (Sent ∷ past) h =
    let earlier = within_windows begun past (within_behind begun Sent past h) in
    let room : 0 < remote_window begun past = ltb-true 0 (remote_window begun past) (room_in_front begun Sent past h) in record { sent = omega arith; received = earlier.received }
within_windows begun (Received ∷ past) h =
    let earlier = within_windows begun past (within_behind begun Received past h) in
    let room : 0 < given_left begun past = ltb-true 0 (given_left begun past) (room_in_front begun Received past h) in record { sent = earlier.sent; received = omega arith }

-- what stays within does so up to each event
within_before : (begun : Opening) (later past : List WindowEvent) → IsTrue (stays_within begun (later ++ past)) → IsTrue (stays_within begun past)
within_before begun [] past h = h
within_before begun (event ∷ later) past h = within_before begun later past (within_behind begun event (later ++ past) h)

-- where all stay within, the event at each place had room
pub room_at : (begun : Opening) (events : List WindowEvent) (i : ℕ) (d : WindowEvent) → i < length events → IsTrue (stays_within begun (reverse events))
    → IsTrue (has_room begun (reverse (take i events)) (get_or events i d))
room_at begun events i d lt h =
    let all : IsTrue (stays_within begun (reverse (drop (i + 1) events) ++ reverse (take (i + 1) events))) = subst (λ p. IsTrue (stays_within begun p)) (reverse-split events (i + 1)) h in
    let upto = within_before begun (reverse (drop (i + 1) events)) (reverse (take (i + 1) events)) all in
    room_in_front begun (get_or events i d) (reverse (take i events)) (subst (λ p. IsTrue (stays_within begun p)) (reverse-next events i d lt) upto)

-- one event further
pub within_next : (begun : Opening) (events : List WindowEvent) (i : ℕ) (d : WindowEvent) → i < length events
    → IsTrue (has_room begun (reverse (take i events)) (get_or events i d)) → IsTrue (stays_within begun (reverse (take i events)))
    → IsTrue (stays_within begun (reverse (take (i + 1) events)))
within_next begun events i d lt room earlier = rw (reverse-next events i d lt) (and_from _ _ room earlier)

pub ruleset within = (reverse-next, reverse-all, room_at, within_next, within_windows)
