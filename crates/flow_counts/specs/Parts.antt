-- The deliveries that are being put together on a session, counted over the parts of that session alone, the newest
-- event first (part 2 of the standard, sections 2.6.14 and 2.7.5).
use Rattle.std.specs.Prelude.{ℕ, ◌==◌, Bool, false, ◌&&◌, ◌||◌, not, List, [], ◌∷◌, ◌++◌, Option, Some, None, if◌then◌else◌}

-- What moves the deliveries of a session: a transfer on a link, with its number, its delivery-id and its payload; on a
-- link, the delivery in progress is aborted, or is complete; the delivery of an id is decided, so that the id is free.
pub data PartEvent : Type 0 where
  Part : ℕ → ℕ → Option ℕ → List ℕ → PartEvent
  Aborted : ℕ → PartEvent
  Completed : ℕ → PartEvent
  Freed : ℕ → PartEvent

-- the payloads of those events of a list that are parts of one delivery, joined in the order in which they came
abbrev pub joined_payload : {A : Type 0} → (A → Bool) → (A → List ℕ) → List A → List ℕ
joined_payload is_part payload_of [] = []
joined_payload is_part payload_of (event ∷ past) =
    let earlier = joined_payload is_part payload_of past in if is_part event then earlier ++ payload_of event else earlier

-- a delivery in progress: the number and the id of its first transfer, and the payloads of its parts, joined
pub record Partial : Type 0 where
  pub number : ℕ
  pub id : Option ℕ
  pub payload : List ℕ

-- with one part more, or begun by it
abbrev pub joined : Option Partial → ℕ → Option ℕ → List ℕ → Partial
joined None number id payload = record { number = number; id = id; payload = payload }
joined (Some partial) number id payload = record partial { payload = partial.payload ++ payload }

-- the delivery in progress on the link
abbrev pub in_progress : ℕ → List PartEvent → Option Partial
in_progress link [] = None
in_progress link (Part on number id payload ∷ past) =
    let earlier = in_progress link past in if link == on then Some (joined earlier number id payload) else earlier
in_progress link (Aborted on ∷ past) = if link == on then None else in_progress link past
in_progress link (Completed on ∷ past) = if link == on then None else in_progress link past
in_progress link (Freed id ∷ past) = in_progress link past

-- it is this id
abbrev pub is_id : ℕ → Option ℕ → Bool
is_id id None = false
is_id id (Some given) = id == given

-- the delivery has this id
abbrev pub has_id : ℕ → Option Partial → Bool
has_id id None = false
has_id id (Some partial) = is_id id partial.id

-- where nothing is in progress, a part with this id begins a delivery
abbrev pub begins : ℕ → Option Partial → Option ℕ → Bool
begins id None given = is_id id given
begins id (Some partial) given = false

-- the id is that of a delivery that began and was not aborted, and it was not freed since
abbrev pub is_in_use : ℕ → List PartEvent → Bool
is_in_use id [] = false
is_in_use id (Part on number given payload ∷ past) = begins id (in_progress on past) given || is_in_use id past
is_in_use id (Aborted on ∷ past) = not (has_id id (in_progress on past)) && is_in_use id past
is_in_use id (Completed on ∷ past) = is_in_use id past
is_in_use id (Freed freed ∷ past) = not (id == freed) && is_in_use id past
