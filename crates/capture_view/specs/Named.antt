-- Which link a handle names, by the records so far, the newest first (own rule: what its last attach told, in whichever
-- direction, if no begin of its channel stands behind that).
use Rattle.std.specs.Prelude.{ℕ, Bool, ◌&&◌, List, [], ◌∷◌, Option, Some, None, nat_eq, nat_lt, option_map, if◌then◌else◌}
use Rattle.std.specs.String.{string_bytes}
use Rattle.amqp_perf.specs.Meaning.{Meaning, ABegin, AnAttach, AFlow, ATransfer, ADetach}
use Rattle.capture_view.specs.Saying.{Saying, Says}
use Rattle.capture_view.specs.Viewed.{Happening, In, Out, Viewed}
use Rattle.capture_view.specs.declared.told.Writer.{Writer}
use Rattle.capture_view.specs.declared.told.Writer.TheVariants.{Client, Router}
use Rattle.capture_view.specs.declared.link.LinkAddress.{LinkAddress}
use Rattle.capture_view.specs.declared.link.LinkAddress.TheVariants as kept
use Rattle.capture_view.specs.declared.link.Link.{Link}
use Rattle.capture_view.specs.declared.names.LinkKey.{LinkKey}
use Rattle.capture_view.specs.declared.names.ChannelKey.{ChannelKey}
use Rattle.capture_view.specs.Told.{LinkText, LinkAddressText, NoAddress, TextAddress, OtherAddress, DynamicAddress, CoordinatorAddress, link_told}

-- ---- keys

-- the handle that a performative names
abbrev pub handle_in : Meaning → Option ℕ
handle_in (AnAttach fields) = Some fields.handle
handle_in (AFlow fields) = fields.handle
handle_in (ATransfer fields) = Some fields.handle
handle_in (ADetach fields) = Some fields.handle
handle_in _ = None

abbrev pub key_on : ℕ → Saying → Option LinkKey
key_on connection (Says channel meaning rest) =
    option_map (λ handle. record { connection = connection; channel = channel; handle = handle }) (handle_in meaning)
key_on connection _ = None

-- the handle that a record names
abbrev pub key_by : ℕ → Happening → Option LinkKey
key_by connection (In said) = key_on connection said
key_by connection (Out said) = key_on connection said
key_by connection _ = None

abbrev pub key_of : Viewed → Option LinkKey
key_of view = key_by view.connection view.happened

-- the channel on which a record's frame stands
abbrev pub channel_on : ℕ → Saying → Option ChannelKey
channel_on connection (Says channel meaning rest) = Some (record { connection = connection; channel = channel })
channel_on connection _ = None

abbrev pub channel_by : ℕ → Happening → Option ChannelKey
channel_by connection (In said) = channel_on connection said
channel_by connection (Out said) = channel_on connection said
channel_by connection _ = None

abbrev pub channel_of : Viewed → Option ChannelKey
channel_of view = channel_by view.connection view.happened

-- whether keys are one
abbrev pub is_link : LinkKey → LinkKey → Bool
is_link a b = nat_eq a.connection b.connection && (nat_eq a.channel b.channel && nat_eq a.handle b.handle)

abbrev pub is_channel : ChannelKey → ChannelKey → Bool
is_channel a b = nat_eq a.connection b.connection && nat_eq a.channel b.channel

-- ---- what a record tells

-- the attach that a record is: its key, and what it tells
pub record Attaching : Type 0 where
  pub key : LinkKey
  pub link : LinkText

abbrev pub attach_on : Writer → ℕ → Saying → Option Attaching
attach_on writer connection (Says channel (AnAttach fields) rest) =
    Some (record { key = record { connection = connection; channel = channel; handle = fields.handle }; link = link_told writer fields })
attach_on writer connection _ = None

abbrev pub attach_by : ℕ → Happening → Option Attaching
attach_by connection (In said) = attach_on Client connection said
attach_by connection (Out said) = attach_on Router connection said
attach_by connection _ = None

-- the channel on which a record begins a session
abbrev pub begin_on : ℕ → Saying → Option ChannelKey
begin_on connection (Says channel (ABegin fields) rest) = Some (record { connection = connection; channel = channel })
begin_on connection _ = None

abbrev pub begin_by : ℕ → Happening → Option ChannelKey
begin_by connection (In said) = begin_on connection said
begin_by connection (Out said) = begin_on connection said
begin_by connection _ = None

-- ---- what the records so far tell

-- a link, and the record whose attach told it
pub record Attachment : Type 0 where
  pub number : ℕ
  pub link : LinkText

-- this attach, if it is one of the handle, else what is known of it
abbrev pub attached_or : Option Attaching → ℕ → LinkKey → Option Attachment → Option Attachment
attached_or None number key before = before
attached_or (Some attach) number key before =
    if is_link attach.key key then Some (record { number = number; link = attach.link }) else before

-- the last attach of a handle
abbrev pub last_attach : List Viewed → LinkKey → Option Attachment
last_attach [] key = None
last_attach (view ∷ past) key = attached_or (attach_by view.connection view.happened) view.number key (last_attach past key)

abbrev pub begun_or : Option ChannelKey → ℕ → ChannelKey → Option ℕ → Option ℕ
begun_or None number channel before = before
begun_or (Some begun) number channel before = if is_channel begun channel then Some number else before

-- the record of the last begin of a channel
abbrev pub last_begin : List Viewed → ChannelKey → Option ℕ
last_begin [] channel = None
last_begin (view ∷ past) channel = begun_or (begin_by view.connection view.happened) view.number channel (last_begin past channel)

-- an attach tells the link as long as no begin stands behind it
abbrev pub unless_begun : Option Attachment → Option ℕ → Option LinkText
unless_begun None begun = None
unless_begun (Some attach) None = Some attach.link
unless_begun (Some attach) (Some begun) = if nat_lt attach.number begun then None else Some attach.link

-- the link that a handle names
abbrev pub link_named : List Viewed → LinkKey → Option LinkText
link_named past key = unless_begun (last_attach past key) (last_begin past (record { connection = key.connection; channel = key.channel }))

-- ---- values of the code

abbrev pub kept_address : LinkAddress → LinkAddressText
kept_address kept.Absent = NoAddress
kept_address (kept.Text text) = TextAddress (string_bytes text)
kept_address (kept.Other octets) = OtherAddress octets.items
kept_address kept.Dynamic = DynamicAddress
kept_address kept.Coordinator = CoordinatorAddress

abbrev pub link_text : Link → LinkText
link_text link = record { name = string_bytes link.name; role = link.role; address = kept_address link.address }
