-- Whose outcome a record tells, by the records in front of it, the newest first. An outcome names its delivery by an id alone
-- (part 2, 2.7.6): it is that of the last delivery of this id that began on its channel, unless its outcome was told since, or its
-- session has ended (own rule). The router speaks of a session on the client's channel.
use Rattle.std.specs.Prelude.{◌≡◌, ℕ, Bool, true, false, ◌&&◌, not, List, [], ◌∷◌, ◌++◌, Option, Some, None, nat_eq, option_and_then, option_map, if◌then◌else◌}
use Rattle.std.specs.List.{AllByRecursion}
use Rattle.std.specs.HashMap.{get}
use Rattle.std.specs.HashSet.{contains}
use Rattle.amqp_perf.specs.declared.attach.Role.{Role}
use Rattle.amqp_perf.specs.declared.attach.Role.TheVariants.{Sender, Receiver}
use Rattle.amqp_perf.specs.Meaning.{Meaning, TransferFields, ABegin, ATransfer, ADisposition, ADetach, AnEnd, AClose, flag}
use Rattle.capture_view.specs.Saying.{Saying, Says}
use Rattle.capture_view.specs.Viewed.{Happening, Opened, In, Out, Lost, Broken, Viewed}
use Rattle.capture_view.specs.Named.{is_link}
use Rattle.capture_view.specs.declared.names.LinkKey.{LinkKey}
use Rattle.capture_chart.specs.declared.outcomes.DeliveryKey.{DeliveryKey}
use Rattle.capture_chart.specs.declared.outcomes.Sent.{Sent}
use Rattle.capture_chart.specs.declared.outcomes.Change.{Change}
use Rattle.capture_chart.specs.declared.outcomes.Going.{Going}
use Rattle.capture_chart.specs.declared.outcomes.Ended.{Ended}
use Rattle.capture_chart.specs.declared.outcomes.Outcomes.{Outcomes}

-- ---- keys

abbrev pub is_delivery : DeliveryKey → DeliveryKey → Bool
is_delivery a b = nat_eq a.connection b.connection && (nat_eq a.channel b.channel && nat_eq a.id b.id)

-- without a channel each one ended
abbrev pub is_among : Option ℕ → ℕ → Bool
is_among None channel = true
is_among (Some ended) channel = nat_eq ended channel

abbrev pub is_over : Ended → ℕ → ℕ → Bool
is_over ended connection channel = nat_eq ended.connection connection && is_among ended.channel channel

-- whether this ends what is on a channel
abbrev pub is_ended : Option Ended → ℕ → ℕ → Bool
is_ended None connection channel = false
is_ended (Some ended) connection channel = is_over ended connection channel

-- ---- what a record does

-- the transfer of a client that has an id
abbrev pub sent_in : ℕ → ℕ → TransferFields → Option Sent
sent_in connection channel fields =
    option_map (λ id. record { link = record { connection = connection; channel = channel; handle = fields.handle }; id = id; is_settled = flag fields.settled }) fields.delivery_id

abbrev pub sent_on : ℕ → Saying → Option Sent
sent_on connection (Says channel (ATransfer fields) rest) = sent_in connection channel fields
sent_on connection _ = None

abbrev pub sent_by : ℕ → Happening → Option Sent
sent_by connection (In said) = sent_on connection said
sent_by connection _ = None

abbrev pub key_of : Sent → DeliveryKey
key_of sent = record { connection = sent.link.connection; channel = sent.link.channel; id = sent.id }

-- the id that a client's transfer gives
abbrev pub id_sent : Viewed → Option DeliveryKey
id_sent view = option_map key_of (sent_by view.connection view.happened)

-- the router tells outcomes as the receiver
abbrev pub told_in : ℕ → ℕ → Role → ℕ → Option DeliveryKey
told_in connection channel Receiver first = Some (record { connection = connection; channel = channel; id = first })
told_in connection channel Sender first = None

abbrev pub told_on : ℕ → Saying → Option DeliveryKey
told_on connection (Says channel (ADisposition fields) rest) = told_in connection channel fields.role fields.first
told_on connection _ = None

abbrev pub told_by : ℕ → Happening → Option DeliveryKey
told_by connection (Out said) = told_on connection said
told_by connection _ = None

-- the id whose outcome the router tells
abbrev pub id_told : Viewed → Option DeliveryKey
id_told view = told_by view.connection view.happened

-- what a client's transfer says of the progress of its link, and a detach of either side
abbrev pub goes_in : ℕ → ℕ → Meaning → Option Going
goes_in connection channel (ATransfer fields) =
    Some (record { link = record { connection = connection; channel = channel; handle = fields.handle }; goes_on = flag fields.more && not (flag fields.aborted) })
goes_in connection channel (ADetach fields) = Some (record { link = record { connection = connection; channel = channel; handle = fields.handle }; goes_on = false })
goes_in connection channel _ = None

abbrev pub halts_in : ℕ → ℕ → Meaning → Option Going
halts_in connection channel (ADetach fields) = Some (record { link = record { connection = connection; channel = channel; handle = fields.handle }; goes_on = false })
halts_in connection channel _ = None

abbrev pub goes_on : ℕ → Saying → Option Going
goes_on connection (Says channel meaning rest) = goes_in connection channel meaning
goes_on connection _ = None

abbrev pub halts_on : ℕ → Saying → Option Going
halts_on connection (Says channel meaning rest) = halts_in connection channel meaning
halts_on connection _ = None

abbrev pub goes_by : ℕ → Happening → Option Going
goes_by connection (In said) = goes_on connection said
goes_by connection (Out said) = halts_on connection said
goes_by connection _ = None

-- a begin or an end of either side ends the session that was on the channel, a close those of the connection
abbrev pub ended_in : ℕ → ℕ → Meaning → Option Ended
ended_in connection channel (ABegin fields) = Some (record { connection = connection; channel = Some channel })
ended_in connection channel (AnEnd error) = Some (record { connection = connection; channel = Some channel })
ended_in connection channel (AClose error) = Some (record { connection = connection; channel = None })
ended_in connection channel _ = None

abbrev pub ended_on : ℕ → Saying → Option Ended
ended_on connection (Says channel meaning rest) = ended_in connection channel meaning
ended_on connection _ = None

abbrev pub ended_by : ℕ → Happening → Option Ended
ended_by connection Opened = None
ended_by connection (In said) = ended_on connection said
ended_by connection (Out said) = ended_on connection said
ended_by connection Lost = Some (record { connection = connection; channel = None })
ended_by connection Broken = Some (record { connection = connection; channel = None })

-- ---- the records so far

abbrev pub goes_or : Option Going → LinkKey → Bool → Bool
goes_or None link before = before
goes_or (Some going) link before = if is_link going.link link then going.goes_on else before

-- a delivery of a client is in progress on a handle
abbrev pub in_progress : List Viewed → LinkKey → Bool
in_progress [] link = false
in_progress (view ∷ past) link =
    goes_or (goes_by view.connection view.happened) link (in_progress past link && not (is_ended (ended_by view.connection view.happened) link.connection link.channel))

-- a transfer begins a delivery where none is in progress on its handle; of one that is settled no outcome is to be told
abbrev pub begun_in : ℕ → Sent → Bool → Option Change
begun_in number sent true = None
begun_in number sent false = Some (record { key = key_of sent; begun = if sent.is_settled then None else Some number })

abbrev pub begun_by : List Viewed → ℕ → Option Sent → Option Change
begun_by past number None = None
begun_by past number (Some sent) = begun_in number sent (in_progress past sent.link)

abbrev pub settled_by : Option DeliveryKey → Option Change
settled_by None = None
settled_by (Some key) = Some (record { key = key; begun = None })

-- what a record says of a delivery whose outcome is still to be told: that it begins in it, or that it is none
abbrev pub change_by : List Viewed → ℕ → ℕ → Happening → Option Change
change_by past number connection (In said) = begun_by past number (sent_on connection said)
change_by past number connection (Out said) = settled_by (told_on connection said)
change_by past number connection _ = None

abbrev pub change_of : List Viewed → Viewed → Option Change
change_of past view = change_by past view.number view.connection view.happened

abbrev pub changed_or : Option Change → DeliveryKey → Option ℕ → Option ℕ
changed_or None key before = before
changed_or (Some change) key before = if is_delivery change.key key then change.begun else before

-- the record in which the delivery began whose outcome is still to be told under this id
abbrev pub undecided : List Viewed → DeliveryKey → Option ℕ
undecided [] key = None
undecided (view ∷ past) key =
    changed_or (change_of past view) key (if is_ended (ended_by view.connection view.happened) key.connection key.channel then None else undecided past key)

-- the record in which the delivery began whose outcome a record tells
abbrev pub outcome_told : List Viewed → Viewed → Option ℕ
outcome_told past view = option_and_then (undecided past) (id_told view)

-- ---- what that comes to

-- under this id a client's transfer is the record of this number, behind which no outcome is told under it
pub record IsBegun (past : List Viewed) (key : DeliveryKey) (number : ℕ) : Type 0 where
  pub since : List Viewed
  pub first : Viewed
  pub before : List Viewed
  pub parts : past ≡ since ++ first ∷ before
  pub same : first.number ≡ number
  pub sent : id_sent first ≡ Some key
  pub untold : AllByRecursion (λ view. id_told view ≡ Some key → ⊥) since

-- a record tells the outcome of such a delivery
pub record IsOutcomeOf (past : List Viewed) (view : Viewed) (number : ℕ) : Type 0 where
  pub key : DeliveryKey
  pub told : id_told view ≡ Some key
  pub begun : IsBegun past key number

-- ---- tables

-- the tables have what is undecided of these records, and what is in progress
pub record StandsFor (outcomes : Outcomes) (past : List Viewed) : Type 0 where
  pub begun : (key : DeliveryKey) → get is_delivery outcomes.begun key ≡ undecided past key
  pub going : (link : LinkKey) → contains is_link outcomes.going link ≡ in_progress past link

-- Whichever records came before: where the earlier tables stand for them, the later ones stand for this record in front.
abbrev pub TakesOneMore : Outcomes → Outcomes → Viewed → Type 0
TakesOneMore earlier later view = (past : List Viewed) → StandsFor earlier past → StandsFor later (view ∷ past)
