-- The credit that a client is given on the link of a producer, where deliveries come from the client, counted over the
-- events of that link alone, the newest first (part 2 of the standard, section 2.6.7).
use Rattle.std.specs.Prelude.{ℕ, suc, ◌-◌, List, [], ◌∷◌, Some}
use Rattle.flow_counts.specs.Serial.{serial_add}
use Rattle.flow_counts.specs.Credit.{LinkEvent, OurFlow, Begun}

-- how many deliveries began
abbrev pub begun_count : List LinkEvent → ℕ
begun_count [] = 0
begun_count (Begun ∷ past) = suc (begun_count past)
begun_count (_ ∷ past) = begun_count past

-- the delivery-count, where the client's attach has `first`
abbrev pub received_delivery_count : ℕ → List LinkEvent → ℕ
received_delivery_count first past = serial_add first (begun_count past)

-- the link-credit of the last flow to the client that has one; nothing before the first
abbrev pub last_given : List LinkEvent → ℕ
last_given [] = 0
last_given (OurFlow count (Some credit) drain ∷ past) = credit
last_given (_ ∷ past) = last_given past

-- how many deliveries began since that flow
abbrev pub begun_since_given : List LinkEvent → ℕ
begun_since_given [] = 0
begun_since_given (OurFlow count (Some credit) drain ∷ past) = 0
begun_since_given (Begun ∷ past) = suc (begun_since_given past)
begun_since_given (_ ∷ past) = begun_since_given past

-- how many deliveries the client may still begin
abbrev pub given_credit : List LinkEvent → ℕ
given_credit past = last_given past - begun_since_given past
