-- The window that a client is given on a session, counted over the events of that session alone, the newest first
-- (part 2 of the standard, section 2.5.6).
use Rattle.std.specs.Prelude.{ℕ, suc, ◌-◌, List, [], ◌∷◌}
use Rattle.flow_counts.specs.Serial.{serial_add}
use Rattle.flow_counts.specs.declared.events.WindowEvent.{WindowEvent}
use Rattle.flow_counts.specs.declared.events.WindowEvent.TheVariants.{OurFlow, Received}
use Rattle.flow_counts.specs.declared.profile.TheConstants.{INCOMING_WINDOW}

-- how many transfers were received
abbrev pub received_count : List WindowEvent → ℕ
received_count [] = 0
received_count (Received ∷ past) = suc (received_count past)
received_count (_ ∷ past) = received_count past

-- how many were received since the last flow to the client, or since the begin
abbrev pub received_since_flow : List WindowEvent → ℕ
received_since_flow [] = 0
received_since_flow (Received ∷ past) = suc (received_since_flow past)
received_since_flow (OurFlow ∷ past) = 0
received_since_flow (_ ∷ past) = received_since_flow past

-- the id of the client's next transfer, where its first one's is `first` (2.5.6)
abbrev pub next_incoming_id : ℕ → List WindowEvent → ℕ
next_incoming_id first past = serial_add first (received_count past)

-- how many transfers the client may still send
abbrev pub given_window : List WindowEvent → ℕ
given_window past = INCOMING_WINDOW - received_since_flow past
