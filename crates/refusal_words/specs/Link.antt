-- The link on a handle of a channel, by what the records so far do to it, the newest first (AMQP 1.0, 2.6.7: a sender may
-- begin as many deliveries as the link-credit that the receiver told last).
use Rattle.std.specs.Prelude.{ℕ, ◌+◌, Bool, true, false, ◌&&◌, List, [], ◌∷◌, Option, Some, None, filter_map, ◌==◌, if◌then◌else◌}
use Rattle.amqp_perf.specs.declared.flow.Flow.{Flow}
use Rattle.amqp_perf.specs.Meaning.{Meaning, ABegin, AnAttach, AFlow, ATransfer, ADetach, AnEnd, AttachFields, flag}
use Rattle.trace_events.specs.Link.{opens_link}
use Rattle.capture_view.specs.declared.names.ChannelKey.{ChannelKey}
use Rattle.capture_view.specs.Named.{is_channel}
use Rattle.capture_view.specs.Numbers.{most}
use Rattle.capture_view.specs.Saying.{Says}
use Rattle.capture_view.specs.Viewed.{Happening, In, Out, Viewed}
use Rattle.refusal_words.specs.declared.link.Credited.{Credited}
use Rattle.refusal_words.specs.declared.link.Change.{Change}
use Rattle.refusal_words.specs.declared.link.Change.TheVariants.{Credit, Transfer, Drain}
use Rattle.refusal_words.specs.Session.{if_here, lives, session_events}

-- ---- what a record does to the link on a handle (own rule: by the client's and the router's performatives of it)

-- an attach of the router's, in the record of this number, that opens a link of this name; a change of its credit; a detach in either direction, or a
-- begin of the router's on the channel, or an end in either direction
pub data LinkEvent : Type 0 where
  OurAttach : ℕ → List ℕ → LinkEvent
  Changes : Change → LinkEvent
  Over : LinkEvent

abbrev pub is_zero : Option ℕ → Bool
is_zero None = false
is_zero (Some n) = n == 0

-- the credit that a flow in the record of this number tells, where it does (2.7.4)
abbrev pub credit_told : ℕ → Flow → Option ℕ → Option Credited
credit_told number flow None = None
credit_told number flow (Some credit) =
    Some (record { number = number; delivery_count = flow.delivery_count; link_credit = credit; drain = flag flow.drain })

abbrev pub of_handle : Option ℕ → Option Credited → Option (ℕ × Credited)
of_handle (Some handle) (Some credit) = Some (handle, credit)
of_handle _ _ = None

-- the handle with it
abbrev pub credit_granted : ℕ → Flow → Option (ℕ × Credited)
credit_granted number flow = of_handle flow.handle (credit_told number flow flow.link_credit)

-- the handle whose drain a flow of the router's answers: it tells that the credit is used up (2.6.7)
abbrev pub drain_answered : Flow → Option ℕ
drain_answered flow = if flag flow.drain && is_zero flow.link_credit then flow.handle else None

abbrev pub credit_event : ℕ → Option (ℕ × Credited) → Option LinkEvent
credit_event handle None = None
credit_event handle (Some x) = if x.0 == handle then Some (Changes (Credit x.1)) else None

abbrev pub drain_event : ℕ → ℕ → Option ℕ → Option LinkEvent
drain_event handle number None = None
drain_event handle number (Some answered) = if answered == handle then Some (Changes (Drain number)) else None

abbrev pub attach_event : ℕ → ℕ → AttachFields → Option LinkEvent
attach_event handle number fields = if fields.handle == handle && opens_link fields then Some (OurAttach number fields.name) else None

abbrev pub detach_event : ℕ → ℕ → Option LinkEvent
detach_event handle detached = if detached == handle then Some Over else None

-- what the client says of the handle in the record of this number, and what the router says
abbrev pub heard_of_handle : ℕ → ℕ → Meaning → Option LinkEvent
heard_of_handle handle number (AFlow flow) = credit_event handle (credit_granted number flow)
heard_of_handle handle number (ADetach fields) = detach_event handle fields.handle
heard_of_handle handle number _ = None

abbrev pub written_of_handle : ℕ → ℕ → Meaning → Option LinkEvent
written_of_handle handle number (AnAttach fields) = attach_event handle number fields
written_of_handle handle number (ATransfer fields) =
    if fields.handle == handle then Some (Changes (Transfer (flag fields.more))) else None
written_of_handle handle number (AFlow flow) = drain_event handle number (drain_answered flow)
written_of_handle handle number (ADetach fields) = detach_event handle fields.handle
written_of_handle handle number _ = None

-- the same, with what they say of its session: a begin of the router's or an end leaves no link there
abbrev pub heard_of_link : ℕ → ℕ → Meaning → Option LinkEvent
heard_of_link handle number (AnEnd condition) = Some Over
heard_of_link handle number meaning = heard_of_handle handle number meaning

abbrev pub written_of_link : ℕ → ℕ → Meaning → Option LinkEvent
written_of_link handle number (ABegin begin) = Some Over
written_of_link handle number (AnEnd condition) = Some Over
written_of_link handle number meaning = written_of_handle handle number meaning

-- what happens in a record of this number, on this connection
abbrev pub link_by : ChannelKey → ℕ → ℕ → ℕ → Happening → Option LinkEvent
link_by key handle number connection (In (Says channel meaning rest)) =
    if_here (is_channel (record { connection = connection; channel = channel }) key) (heard_of_link handle number meaning)
link_by key handle number connection (Out (Says channel meaning rest)) =
    if_here (is_channel (record { connection = connection; channel = channel }) key) (written_of_link handle number meaning)
link_by key handle number connection _ = None

abbrev pub link_event : ChannelKey → ℕ → Viewed → Option LinkEvent
link_event key handle view = link_by key handle view.number view.connection view.happened

-- the events of a handle
abbrev pub link_events : ChannelKey → ℕ → List Viewed → List LinkEvent
link_events key handle past = filter_map (link_event key handle) past

-- ---- what they come to

-- a link lives on the handle: the router has attached it, and nothing has ended it since (2.6.3, 2.6.4)
abbrev pub attached : List LinkEvent → Bool
attached [] = false
attached (OurAttach number given ∷ past) = true
attached (Over ∷ past) = false
attached (Changes change ∷ past) = attached past

-- the record of that attach, by which the link is named (own rule)
abbrev pub attached_in : List LinkEvent → ℕ
attached_in [] = 0
attached_in (OurAttach number given ∷ past) = number
attached_in (event ∷ past) = attached_in past

-- its name
abbrev pub name : List LinkEvent → List ℕ
name [] = []
name (OurAttach number given ∷ past) = given
name (event ∷ past) = name past

-- the client's last flow with a link-credit since the attach (2.7.4)
abbrev pub credit : List LinkEvent → Option Credited
credit [] = None
credit (Changes (Credit credited) ∷ past) = Some credited
credit (OurAttach number given ∷ past) = None
credit (event ∷ past) = credit past

-- a delivery of which another part is to follow: the router's last transfer since the attach said so (2.6.14, 2.7.5)
abbrev pub in_progress : List LinkEvent → Bool
in_progress [] = false
in_progress (Changes (Transfer more) ∷ past) = more
in_progress (OurAttach number given ∷ past) = false
in_progress (event ∷ past) = in_progress past

-- how many deliveries the router has begun since that flow, or else since the attach: a transfer begins one if none is in
-- progress, and takes one off the credit (2.6.7, 2.6.14)
abbrev pub begun : List LinkEvent → ℕ
begun [] = 0
begun (Changes (Transfer more) ∷ past) = if in_progress past then begun past else begun past + 1
begun (Changes (Credit credited) ∷ past) = 0
begun (OurAttach number given ∷ past) = 0
begun (event ∷ past) = begun past

-- the record in which the router has answered a drain, the last since that flow or else since the attach (2.6.7)
abbrev pub drained : List LinkEvent → Option ℕ
drained [] = None
drained (Changes (Drain number) ∷ past) = Some number
drained (Changes (Credit credited) ∷ past) = None
drained (OurAttach number given ∷ past) = None
drained (event ∷ past) = drained past

-- where the credit of a link comes from: its record and name, and what the credit is counted from
pub record LinkTold : Type 0 where
  pub number : ℕ
  pub name : List ℕ
  pub credit : Option Credited
  pub begun : ℕ
  pub drained : Option ℕ
  pub in_progress : Bool

abbrev pub told : List LinkEvent → LinkTold
told past = record { number = attached_in past; name = name past; credit = credit past; begun = most (begun past); drained = drained past; in_progress = in_progress past }

-- the same of the link that lives
abbrev pub link_of : List LinkEvent → Option LinkTold
link_of past = if attached past then Some (told past) else None

-- the same by the records so far: a link lives only while its session does
abbrev pub link_past : ChannelKey → ℕ → List Viewed → Option LinkTold
link_past key handle past = if lives (session_events key past) then link_of (link_events key handle past) else None

-- of one that is attached in this record, by this name
abbrev pub fresh_link : ℕ → List ℕ → LinkTold
fresh_link number given = record { number = number; name = given; credit = None; begun = 0; drained = None; in_progress = false }
