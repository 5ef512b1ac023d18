-- What the credit that is given on a producer's link comes to.
use Rattle.std.specs.Prelude.{ℕ, List}
use Rattle.flow_counts.specs.Credit.{LinkEvent}
use Rattle.flow_counts.specs.GivenCredit.{given_credit, received_delivery_count}

-- what a producer's link has come to: its delivery-count, and how many deliveries the client may still begin
pub record Counters : Type 0 where
  pub rcv : ℕ
  pub left : ℕ

-- ---- the counts over a link's own events, the newest first, where the client's attach had this delivery-count

abbrev pub received_count : ℕ → List LinkEvent → ℕ
received_count first past = received_delivery_count first past

abbrev pub credit_left : ℕ → List LinkEvent → ℕ
credit_left first past = given_credit past

abbrev pub counted : ℕ → List LinkEvent → Counters
counted first past = record { rcv = received_count first past; left = credit_left first past }
