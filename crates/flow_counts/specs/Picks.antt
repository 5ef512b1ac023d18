-- The consumers of addresses, and which of them a delivery goes to, counted over the links of consumers alone, the
-- newest event first. Own rules, after the message routing of the Qpid Dispatch Router.
use Rattle.std.specs.Prelude.{ℕ, suc, ◌-◌, ◌+◌, ◌==◌, Bool, false, not, ◌&&◌, List, [], ◌∷◌, ◌++◌, Option, Some, None, is_none, unwrap_or, filter, nat_lt, bytes_eq, if◌then◌else◌}
use Rattle.std.specs.Option.{option_map, option_map_or}
use Rattle.std.specs.List.{best_of}

-- What moves the consumers: the link of a number is attached to an address, pre-settled or not; it is detached; a
-- delivery begins on it with the transfer of this number; one of its deliveries is decided.
pub data AddressEvent : Type 0 where
  Attached : ℕ → List ℕ → Bool → AddressEvent
  Detached : ℕ → AddressEvent
  Begun : ℕ → ℕ → AddressEvent
  Decided : ℕ → AddressEvent

-- a link that is attached: its address, whether it is pre-settled, the number of the transfer that began its last
-- delivery, and how many of its deliveries are not decided
pub record Consumer : Type 0 where
  pub address : List ℕ
  pub is_pre_settled : Bool
  pub last_begun : Option ℕ
  pub undecided : ℕ

abbrev pub attached : List ℕ → Bool → Consumer
attached address pre_settled = record { address = address; is_pre_settled = pre_settled; last_begun = None; undecided = 0 }

-- with one delivery more, which on a pre-settled link needs no decision
abbrev pub begun : ℕ → Consumer → Consumer
begun number consumer =
    record consumer { last_begun = Some number; undecided = (if consumer.is_pre_settled then consumer.undecided else consumer.undecided + 1) }

abbrev pub decided : Consumer → Consumer
decided consumer = record consumer { undecided = consumer.undecided - 1 }

-- the link of the number, while it is attached; one that is attached already stays as it is
abbrev pub consumer : ℕ → List AddressEvent → Option Consumer
consumer link [] = None
consumer link (Attached on address pre_settled ∷ past) =
    let earlier = consumer link past in if link == on then Some (unwrap_or earlier (attached address pre_settled)) else earlier
consumer link (Detached on ∷ past) = if link == on then None else consumer link past
consumer link (Begun on number ∷ past) =
    let earlier = consumer link past in if link == on then option_map (begun number) earlier else earlier
consumer link (Decided on ∷ past) = let earlier = consumer link past in if link == on then option_map decided earlier else earlier

-- the link is attached to this address
abbrev pub is_at : List ℕ → Option Consumer → Bool
is_at address None = false
is_at address (Some consumer) = bytes_eq address consumer.address

-- the links that are attached to the address, in the order of their attaches
abbrev pub consumers : List ℕ → List AddressEvent → List ℕ
consumers address [] = []
consumers address (Attached on at pre_settled ∷ past) =
    let earlier = consumers address past in if is_none (consumer on past) && bytes_eq address at then earlier ++ on ∷ [] else earlier
consumers address (Detached on ∷ past) =
    let earlier = consumers address past in
    if is_at address (consumer on past) then filter (λ link. not (link == on)) earlier else earlier
consumers address (Begun on number ∷ past) = consumers address past
consumers address (Decided on ∷ past) = consumers address past

-- ---- which of them a delivery goes to

-- by how much a link comes later for a closest address: the one whose last delivery is oldest comes first, and one
-- without a delivery before all others
abbrev pub closest_rank : Option Consumer → ℕ
closest_rank None = 0
closest_rank (Some consumer) = option_map_or suc consumer.last_begun 0

-- the same for a balanced address: the one with the fewest undecided deliveries comes first
abbrev pub balanced_rank : Option Consumer → ℕ
balanced_rank None = 0
balanced_rank (Some consumer) = consumer.undecided

-- of some, the one that comes before all others; of those that come at the same place the first
abbrev pub best : {A : Type 0} → (A → A → Bool) → List A → Option A
best beats [] = None
best beats (x ∷ xs) = Some (best_of beats x xs)

-- of the links that are attached to the address and pass the test, the one of the least rank; of equal ones the one that
-- was attached first
abbrev pub pick_by : (Option Consumer → ℕ) → (ℕ → Bool) → List ℕ → List AddressEvent → Option ℕ
pick_by rank is_eligible address past =
    best (λ link other. nat_lt (rank (consumer link past)) (rank (consumer other past))) (filter is_eligible (consumers address past))
