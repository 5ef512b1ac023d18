-- What the credit of a consumer's link comes to.
use Rattle.std.specs.Prelude.{ℕ, Bool, List}
use Rattle.flow_counts.specs.Credit.{LinkEvent, delivery_count, credit, is_draining}

-- What a consumer's link has come to: its delivery-count, how many deliveries may still begin, and whether the client
-- asks to drain. The delivery-count of the attach is kept for flows that have none.
pub record Counters : Type 0 where
  pub first : ℕ
  pub snd : ℕ
  pub left : ℕ
  pub draining : Bool

-- the counts over a link's own events, the newest first, where its attach had this delivery-count
abbrev pub counted : ℕ → List LinkEvent → Counters
counted first past = record { first = first; snd = delivery_count first past; left = credit first past; draining = is_draining past }

abbrev pub asks_drain : ℕ → List LinkEvent → Bool
asks_drain first past = is_draining past
