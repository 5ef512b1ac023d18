-- The window that a client grants on a session, counted over the events of that session alone, the newest first
-- (part 2 of the standard, sections 2.5.6 and 2.7.4).
use Rattle.std.specs.Prelude.{ℕ, suc, ◌-◌, List, [], ◌∷◌, Option, unwrap_or}
use Rattle.flow_counts.specs.Serial.{serial_add, serial_sub}
use Rattle.flow_counts.specs.declared.events.WindowEvent.{WindowEvent}
use Rattle.flow_counts.specs.declared.events.WindowEvent.TheVariants.{TheirFlow, Sent, OurFlow, Received}

-- how many transfers were sent
abbrev pub sent_count : List WindowEvent → ℕ
sent_count [] = 0
sent_count (Sent ∷ past) = suc (sent_count past)
sent_count (_ ∷ past) = sent_count past

-- how many were sent since the client's last flow, or since the begin
abbrev pub sent_since_flow : List WindowEvent → ℕ
sent_since_flow [] = 0
sent_since_flow (Sent ∷ past) = suc (sent_since_flow past)
sent_since_flow (TheirFlow expected window ∷ past) = 0
sent_since_flow (_ ∷ past) = sent_since_flow past

-- the id of the next transfer, where the first one's is `first`
abbrev pub next_id : ℕ → List WindowEvent → ℕ
next_id first past = serial_add first (sent_count past)

-- how many transfers the client had not seen when it expected this id, or none yet, and `next` was the next one's
abbrev pub lag : ℕ → ℕ → Option ℕ → ℕ
lag first next expected = serial_sub next (unwrap_or expected first)

-- what the client's last flow left of its window, after the transfers that it had not seen; without a flow, the
-- window of its begin
abbrev pub granted_window : ℕ → ℕ → List WindowEvent → ℕ
granted_window first begun [] = begun
granted_window first begun (TheirFlow expected window ∷ past) = window - lag first (next_id first past) expected
granted_window first begun (_ ∷ past) = granted_window first begun past

-- how many transfers may still be sent
abbrev pub window : ℕ → ℕ → List WindowEvent → ℕ
window first begun past = granted_window first begun past - sent_since_flow past
