-- The credit that a client gives on the link of a consumer, where deliveries go to the client, counted over the events
-- of that link alone, the newest first (part 2 of the standard, section 2.6.7).
use Rattle.std.specs.Prelude.{ℕ, suc, ◌-◌, ◌==◌, Bool, false, ◌&&◌, List, [], ◌∷◌, Option, Some, None, unwrap_or, if◌then◌else◌}
use Rattle.flow_counts.specs.Serial.{serial_add, serial_sub}

-- What moves the credit of a link: a flow from the client or to it, each with its delivery-count, link-credit and drain
-- flag (2.7.4); a delivery that begins, whichever way the link's deliveries go.
pub data LinkEvent : Type 0 where
  TheirFlow : Option ℕ → Option ℕ → Bool → LinkEvent
  OurFlow : Option ℕ → Option ℕ → Bool → LinkEvent
  Begun : LinkEvent

-- the delivery-count that the client was last told, in a flow or, as `first`, in the attach
abbrev pub told_count : ℕ → List LinkEvent → ℕ
told_count first [] = first
told_count first (OurFlow (Some count) credit drain ∷ past) = count
told_count first (_ ∷ past) = told_count first past

-- how many deliveries began since it was told
abbrev pub begun_since_told : List LinkEvent → ℕ
begun_since_told [] = 0
begun_since_told (OurFlow (Some count) credit drain ∷ past) = 0
begun_since_told (Begun ∷ past) = suc (begun_since_told past)
begun_since_told (_ ∷ past) = begun_since_told past

-- the delivery-count (2.6.7)
abbrev pub delivery_count : ℕ → List LinkEvent → ℕ
delivery_count first past = serial_add (told_count first past) (begun_since_told past)

-- how far the delivery-count, `count`, stands beyond the one that a flow from the client has; a flow without one was
-- written before the attach came, and stands for the attach's
abbrev pub credit_lag : ℕ → ℕ → Option ℕ → ℕ
credit_lag first count known = serial_sub count (unwrap_or known first)

-- a flow to the client that says that all credit is used up, as drain asks (2.6.7)
abbrev pub is_drain_answer : Option ℕ → Bool → Bool
is_drain_answer (Some credit) drain = (credit == 0) && drain
is_drain_answer None drain = false

-- what the client's last flow with a link-credit left of it, after the deliveries that it did not know of; nothing
-- without such a flow, nor behind a drain answer
abbrev pub granted_credit : ℕ → List LinkEvent → ℕ
granted_credit first [] = 0
granted_credit first (TheirFlow known (Some credit) drain ∷ past) = credit - credit_lag first (delivery_count first past) known
granted_credit first (OurFlow count credit drain ∷ past) = if is_drain_answer credit drain then 0 else granted_credit first past
granted_credit first (_ ∷ past) = granted_credit first past

-- how many deliveries began since that flow or drain answer
abbrev pub begun_since_grant : List LinkEvent → ℕ
begun_since_grant [] = 0
begun_since_grant (TheirFlow known (Some credit) drain ∷ past) = 0
begun_since_grant (OurFlow count credit drain ∷ past) = if is_drain_answer credit drain then 0 else begun_since_grant past
begun_since_grant (Begun ∷ past) = suc (begun_since_grant past)
begun_since_grant (_ ∷ past) = begun_since_grant past

-- how many deliveries may still begin
abbrev pub credit : ℕ → List LinkEvent → ℕ
credit first past = granted_credit first past - begun_since_grant past

-- the client's last flow with a link-credit asks to drain
abbrev pub is_draining : List LinkEvent → Bool
is_draining [] = false
is_draining (TheirFlow known (Some credit) drain ∷ past) = drain
is_draining (_ ∷ past) = is_draining past
