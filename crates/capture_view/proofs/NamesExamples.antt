-- Links that handles name, and handles that name none.
use Rattle.std.proofs.Common.{◌≡◌, ℕ, true, false, List, [], ◌∷◌, None, Some, refl}
use Rattle.amqp_perf.specs.declared.attach.Role.TheVariants.{Sender, Receiver}
use Rattle.amqp_perf.specs.Meaning.{AttachFields, TransferFields, AnAttach, ATransfer}
use Rattle.amqp_perf.specs.Nested.{AText, AnOther, ATerminus, ACoordinator}
use Rattle.capture_view.specs.Saying.{NoBody, Says}
use Rattle.capture_view.specs.Viewed.{In, Out, Opened}
use Rattle.capture_view.specs.declared.told.Writer.TheVariants.{Client, Router}
use Rattle.capture_view.specs.declared.told.LinkRole.TheVariants.{Producer, Consumer}
use Rattle.capture_view.specs.declared.names.LinkKey.{LinkKey}
use Rattle.capture_view.specs.declared.names.ChannelKey.{ChannelKey}
use Rattle.capture_view.specs.Named.{Attachment, attach_by, attached_or, begin_by, begun_or, channel_by, is_channel, is_link, key_by, last_attach, last_begin, unless_begun}
use Rattle.capture_view.specs.Told.{LinkText, NoAddress, TextAddress, OtherAddress, DynamicAddress, CoordinatorAddress, address_or_dynamic, link_told, role_told, source_address, target_address}

-- ---- keys

abbrev key : ℕ → ℕ → ℕ → LinkKey
key connection channel handle = record { connection = connection; channel = channel; handle = handle }

same_handle : is_link (key 1 2 3) (key 1 2 3) ≡ true
same_handle = refl

other_connection : is_link (key 1 2 3) (key 4 2 3) ≡ false
other_connection = refl

other_channel : is_link (key 1 2 3) (key 1 4 3) ≡ false
other_channel = refl

other_handle : is_link (key 1 2 3) (key 1 2 4) ≡ false
other_handle = refl

abbrev channel : ℕ → ℕ → ChannelKey
channel connection number = record { connection = connection; channel = number }

one_channel : is_channel (channel 1 2) (channel 1 2) ≡ true
one_channel = refl

channel_of_another : is_channel (channel 1 2) (channel 4 2) ≡ false
channel_of_another = refl

channel_of_other_number : is_channel (channel 1 2) (channel 1 3) ≡ false
channel_of_other_number = refl

-- a transfer names its handle; an empty frame and an opened connection name none
of_transfer : (fields : TransferFields) → key_by 1 (In (Says 2 (ATransfer fields) [])) ≡ Some (key 1 2 fields.handle)
of_transfer fields = refl

of_empty : key_by 1 (In (NoBody 2)) ≡ None
of_empty = refl

of_opened : key_by 1 Opened ≡ None
of_opened = refl

-- a frame stands on its channel, whoever wrote it; one that says nothing, and what is no frame, on none
on_either : (fields : TransferFields) → channel_by 1 (In (Says 2 (ATransfer fields) [])) ∷ channel_by 1 (Out (Says 2 (ATransfer fields) [])) ∷ []
    ≡ Some (channel 1 2) ∷ Some (channel 1 2) ∷ []
on_either fields = refl

on_none : channel_by 1 (In (NoBody 2)) ∷ channel_by 1 (Out (NoBody 2)) ∷ channel_by 1 Opened ∷ [] ≡ None ∷ None ∷ None ∷ []
on_none = refl

-- ---- what an attach tells

roles : role_told Client Sender ∷ role_told Client Receiver ∷ role_told Router Sender ∷ role_told Router Receiver ∷ []
    ≡ Producer ∷ Consumer ∷ Consumer ∷ Producer ∷ []
roles = refl

-- an address that stands there counts, also where one is to be made up
of_text : (text : List ℕ) → address_or_dynamic (Some (AText text)) true ≡ TextAddress text
of_text text = refl

of_octets : (octets : List ℕ) → address_or_dynamic (Some (AnOther octets)) false ≡ OtherAddress octets
of_octets octets = refl

made_up : address_or_dynamic None true ≡ DynamicAddress
made_up = refl

none_told : address_or_dynamic None false ≡ NoAddress
none_told = refl

no_source : source_address None ≡ NoAddress
no_source = refl

of_coordinator : target_address (Some ACoordinator) ≡ CoordinatorAddress
of_coordinator = refl

-- the same attach tells the other end of the link where the router wrote it
by_whom : (fields : AttachFields) → (attach_by 1 (In (Says 2 (AnAttach fields) [])) ≡ Some (record { key = key 1 2 fields.handle; link = link_told Client fields }))
    × (attach_by 1 (Out (Says 2 (AnAttach fields) [])) ≡ Some (record { key = key 1 2 fields.handle; link = link_told Router fields }))
by_whom fields = (refl, refl)

-- a transfer attaches nothing, and begins nothing
no_attach : (fields : TransferFields) → attach_by 1 (In (Says 2 (ATransfer fields) [])) ≡ None
no_attach fields = refl

no_begin : (fields : TransferFields) → begin_by 1 (In (Says 2 (ATransfer fields) [])) ≡ None
no_begin fields = refl

-- ---- the records so far

abbrev attached : LinkText → Attachment
attached link = record { number = 7; link = link }

of_its_handle : (link : LinkText) → attached_or (Some (record { key = key 1 2 3; link = link })) 7 (key 1 2 3) None ≡ Some (attached link)
of_its_handle link = refl

of_another_handle : (link : LinkText) → attached_or (Some (record { key = key 1 2 3; link = link })) 7 (key 1 2 4) None ≡ None
of_another_handle link = refl

of_its_channel : begun_or (Some (channel 1 2)) 7 (channel 1 2) (Some 5) ≡ Some 7
of_its_channel = refl

of_another_channel : begun_or (Some (channel 1 2)) 7 (channel 1 3) (Some 5) ≡ Some 5
of_another_channel = refl

nothing_yet : (last_attach [] (key 1 2 3) ≡ None) × (last_begin [] (channel 1 2) ≡ None)
nothing_yet = (refl, refl)

-- a begin behind the attach forgets it, one in front does not
begun_in_front : (link : LinkText) → unless_begun (Some (attached link)) (Some 6) ≡ Some link
begun_in_front link = refl

never_begun : (link : LinkText) → unless_begun (Some (attached link)) None ≡ Some link
never_begun link = refl

begun_behind : (link : LinkText) → unless_begun (Some (attached link)) (Some 8) ≡ None
begun_behind link = refl
