-- What the code's values stand for.
use Rattle.std.specs.Prelude.{Option, Some, None, option_map, Result, Ok, Err}
use Rattle.std.specs.Option.{option_copied}
use Rattle.amqp_types.specs.declared.value.Value.{Value}
use Rattle.amqp_types.specs.Part.{Seen}
use Rattle.amqp_types.specs.View as values
use Rattle.amqp_perf.specs.declared.fault.PerfFault.{PerfFault}
use Rattle.amqp_perf.specs.declared.attach.Attach.{Attach}
use Rattle.amqp_perf.specs.declared.detach.Detach.{Detach}
use Rattle.amqp_perf.specs.declared.disposition.Disposition.{Disposition}
use Rattle.amqp_perf.specs.declared.opening.Open.{Open}
use Rattle.amqp_perf.specs.declared.performative.Performative.{Performative}
use Rattle.amqp_perf.specs.declared.performative.Performative.TheVariants as performatives
use Rattle.amqp_perf.specs.declared.transfer.Transfer.{Transfer}
use Rattle.amqp_perf.specs.FieldPlaces.{missing}
use Rattle.amqp_perf.specs.NestedViews.{state_view, terminus_view, target_view}
use Rattle.amqp_perf.specs.Meaning.{Meaning, AnOpen, ABegin, AnAttach, AFlow, ATransfer, ADisposition, ADetach, AnEnd, AClose, OpenFields, AttachFields, TransferFields, DispositionFields, DetachFields}

-- a value that may be missing
abbrev pub seen_or_missing : Option Value → Seen
seen_or_missing (Some value) = values.view value
seen_or_missing None = missing

-- an open of the code
abbrev pub open_fields : Open → OpenFields
open_fields o = record {
  container_id = o.container_id.now;
  max_frame_size = o.max_frame_size;
  channel_max = o.channel_max;
  idle_time_out = o.idle_time_out;
}

-- an attach of the code
abbrev pub attach_fields : Attach → AttachFields
attach_fields a = record {
  name = a.name.now;
  handle = a.handle;
  role = a.role;
  snd_settle_mode = a.snd_settle_mode;
  rcv_settle_mode = a.rcv_settle_mode;
  source = option_map terminus_view a.source;
  target = option_map target_view a.target;
  initial_delivery_count = a.initial_delivery_count;
  max_message_size = a.max_message_size;
}

-- a transfer of the code
abbrev pub transfer_fields : Transfer → TransferFields
transfer_fields t = record {
  handle = t.handle;
  delivery_id = t.delivery_id;
  delivery_tag = option_copied t.delivery_tag;
  message_format = t.message_format;
  settled = t.settled;
  more = t.more;
  resume = t.resume;
  aborted = t.aborted;
}

-- a disposition of the code
abbrev pub disposition_fields : Disposition → DispositionFields
disposition_fields d = record {
  role = d.role;
  first = d.first;
  last = d.last;
  settled = d.settled;
  state = option_map state_view d.state;
}

-- a detach of the code
abbrev pub detach_fields : Detach → DetachFields
detach_fields d = record { handle = d.handle; closed = d.closed; error = option_copied d.error }

-- a performative of the code
abbrev pub view : Performative → Meaning
view (performatives.Open o) = AnOpen (open_fields o)
view (performatives.Begin begin) = ABegin begin
view (performatives.Attach attach) = AnAttach (attach_fields attach)
view (performatives.Flow flow) = AFlow flow
view (performatives.Transfer transfer) = ATransfer (transfer_fields transfer)
view (performatives.Disposition disposition) = ADisposition (disposition_fields disposition)
view (performatives.Detach detach) = ADetach (detach_fields detach)
view (performatives.End error) = AnEnd (option_copied error)
view (performatives.Close error) = AClose (option_copied error)

-- the fault of a check, if it has found one
abbrev pub fault_in : {A : Type 0} → Result A PerfFault → Option PerfFault
fault_in (Ok x) = None
fault_in (Err fault) = Some fault
