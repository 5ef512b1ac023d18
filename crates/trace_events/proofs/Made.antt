-- Captures made from what clients and the router say, each in a few words, and what the law computes of them.
use Rattle.std.specs.Prelude.{ℕ, List, Bool, true, false, [], ◌∷◌, ◌++◌, codes, Option, Some, None, if◌then◌else◌}
use Rattle.amqp_perf.specs.declared.attach.Role.{Role}
use Rattle.amqp_perf.specs.declared.attach.Role.TheVariants.{Sender, Receiver}
use Rattle.amqp_perf.specs.declared.attach.SenderSettleMode.{SenderSettleMode}
use Rattle.amqp_perf.specs.declared.attach.SenderSettleMode.TheVariants.{Mixed, Settled}
use Rattle.amqp_perf.specs.declared.attach.ReceiverSettleMode.TheVariants.{First}
use Rattle.amqp_perf.specs.declared.flow.Flow.{Flow}
use Rattle.amqp_perf.specs.Nested.{AText, TerminusFields, ATerminus}
use Rattle.amqp_perf.specs.Meaning.{Meaning, AnOpen, ABegin, AnAttach, AFlow, ATransfer, ADisposition, ADetach, AttachFields, TransferFields, DispositionFields}
use Rattle.pairing_cert.specs.declared.note.Why.{Why}
use Rattle.pairing_cert.specs.declared.note.Why.TheVariants.{C}
use Rattle.capture_form.specs.declared.records.Record.{Record}
use Rattle.capture_form.specs.declared.rules.Distribution.TheVariants.{Multicast}
use Rattle.capture_form.specs.Rules.{RuleText}
use Rattle.flow_counts.specs.declared.profile.TheConstants.{MAX_MESSAGE_SIZE}
use Rattle.trace_events.specs.Frame.{Spoken}
use Rattle.trace_events.specs.Written.{spoken_octets, says, state_of, written_open, written_begin}
use Rattle.amqp_perf.specs.declared.attach.ReceiverSettleMode.{ReceiverSettleMode}
use Rattle.trace_events.proofs.Captures.{opened, client, router, paired, told, rule}

-- ---- who says it, on channel 0

abbrev pub from : ℕ → Meaning → Record
from c meaning = client c (spoken_octets (says 0 meaning))

abbrev pub from_with : ℕ → Meaning → List ℕ → Record
from_with c meaning octets = client c (spoken_octets (record { channel = 0; meaning = meaning; payload = octets }))

abbrev pub write : ℕ → Spoken → Record
write c spoken = router c (spoken_octets spoken)

abbrev pub to : ℕ → Meaning → Record
to c meaning = write c (says 0 meaning)

abbrev pub carry : ℕ → ℕ → TransferFields → List ℕ → Record
carry c n fields octets = paired c n (spoken_octets (record { channel = 0; meaning = ATransfer fields; payload = octets }))

abbrev pub tell : ℕ → Why → DispositionFields → Record
tell c why fields = told c why (spoken_octets (says 0 (ADisposition fields)))

-- ---- what is said

abbrev pub open_of : ℕ → Meaning
open_of limit = AnOpen (record { container_id = codes "c"; max_frame_size = Some limit; channel_max = None; idle_time_out = None })

abbrev pub begin_of : Option ℕ → ℕ → Meaning
begin_of remote window =
    ABegin (record { remote_channel = remote; next_outgoing_id = 0; incoming_window = window; outgoing_window = 100; handle_max = None })

-- an attach of handle 0 with neither source nor target
abbrev pub bare : Role → Option ℕ → AttachFields
bare role count = record {
  name = codes "l";
  handle = 0;
  role = role;
  snd_settle_mode = None;
  rcv_settle_mode = None;
  source = None;
  target = None;
  initial_delivery_count = count;
  max_message_size = None;
}

abbrev pub terminus : Option (List ℕ) → Option Bool → TerminusFields
terminus (Some address) dynamic = record { address = Some (AText address); dynamic = dynamic }
terminus None dynamic = record { address = None; dynamic = dynamic }

abbrev pub node : List ℕ → TerminusFields
node address = terminus (Some address) None

abbrev pub sends_to : List ℕ → AttachFields
sends_to address = let fields = bare Sender (Some 0) in record fields { target = Some (ATerminus (node address)) }

abbrev pub receives_from : List ℕ → AttachFields
receives_from address = let fields = bare Receiver None in record fields { source = Some (node address) }

-- a flow with these numbers: next-incoming-id, incoming-window, next-outgoing-id, outgoing-window
abbrev pub session_flow : ℕ → ℕ → ℕ → ℕ → Flow
session_flow expected window next ours = record {
  next_incoming_id = Some expected;
  incoming_window = window;
  next_outgoing_id = next;
  outgoing_window = ours;
  handle = None;
  delivery_count = None;
  link_credit = None;
  drain = None;
  echo = None;
}

-- of handle 0, with delivery-count and link-credit
abbrev pub with_link : Flow → ℕ → ℕ → Flow
with_link flow count credit = record flow { handle = Some 0; delivery_count = Some count; link_credit = Some credit }

-- a client's flow on handle 0, which has seen so many transfers, and one of the router's
abbrev pub gives : ℕ → ℕ → ℕ → Flow
gives seen count credit = with_link (session_flow seen 100 0 100) count credit

abbrev pub shows : ℕ → ℕ → ℕ → ℕ → Flow
shows expected next count credit = with_link (session_flow expected 2048 next 2147483647) count credit

abbrev pub draining : Flow → Flow
draining flow = record flow { drain = Some true }

abbrev pub echoing : Flow → Flow
echoing flow = record flow { echo = Some true }

-- a first transfer on handle 0, of one frame and unsettled
abbrev pub first : ℕ → TransferFields
first id = record {
  handle = 0;
  delivery_id = Some id;
  delivery_tag = Some (0 ∷ 0 ∷ 0 ∷ id ∷ []);
  message_format = Some 0;
  settled = Some false;
  more = Some false;
  resume = None;
  aborted = None;
}

abbrev pub next : Bool → TransferFields
next more = record {
  handle = 0;
  delivery_id = None;
  delivery_tag = None;
  message_format = None;
  settled = None;
  more = Some more;
  resume = None;
  aborted = None;
}

abbrev pub with_more : TransferFields → TransferFields
with_more fields = record fields { more = Some true }

abbrev pub as_settled : TransferFields → TransferFields
as_settled fields = record fields { settled = Some true }

abbrev pub disposes : Role → ℕ → Bool → Option (List ℕ) → DispositionFields
disposes role id settled state = record { role = role; first = id; last = None; settled = Some settled; state = state_of state }

abbrev pub accepted : Option (List ℕ)
accepted = Some (0x00 ∷ 0x53 ∷ 0x24 ∷ 0x45 ∷ [])

abbrev pub released : Option (List ℕ)
released = Some (0x00 ∷ 0x53 ∷ 0x26 ∷ 0x45 ∷ [])

abbrev pub detach_of : Bool → Meaning
detach_of closed = ADetach (record { handle = 0; closed = Some closed; error = None })

-- ---- what the router says to attaches

-- to a producer, with its settle mode and the address of its target
abbrev pub written_to_producer : ℕ → List ℕ → ℕ → SenderSettleMode → List ℕ → Spoken
written_to_producer channel name handle mode address = says channel (AnAttach (record {
  name = name;
  handle = handle;
  role = Receiver;
  snd_settle_mode = Some mode;
  rcv_settle_mode = Some First;
  source = Some (terminus None None);
  target = Some (ATerminus (terminus (Some address) None));
  initial_delivery_count = None;
  max_message_size = Some MAX_MESSAGE_SIZE;
}))

-- to a consumer, with both settle modes and the address of its source
abbrev pub written_to_consumer : ℕ → List ℕ → ℕ → SenderSettleMode → ReceiverSettleMode → List ℕ → Bool → Spoken
written_to_consumer channel name handle sender receiver address is_dynamic = says channel (AnAttach (record {
  name = name;
  handle = handle;
  role = Sender;
  snd_settle_mode = Some sender;
  rcv_settle_mode = Some receiver;
  source = Some (terminus (Some address) (if is_dynamic then Some true else None));
  target = Some (ATerminus (terminus None None));
  initial_delivery_count = Some 0;
  max_message_size = None;
}))

-- a refused attach: the role is the router's
abbrev pub refusing_count : Role → Option ℕ
refusing_count Sender = Some 0
refusing_count Receiver = None

abbrev pub written_refusal : ℕ → List ℕ → ℕ → Role → Spoken
written_refusal channel name handle role = says channel (AnAttach (record {
  name = name;
  handle = handle;
  role = role;
  snd_settle_mode = None;
  rcv_settle_mode = None;
  source = None;
  target = None;
  initial_delivery_count = refusing_count role;
  max_message_size = None;
}))

-- ---- what most captures begin with

abbrev pub q : List ℕ
q = codes "q"

abbrev pub hi : List ℕ
hi = codes "hi"

-- 3 records: the connection
abbrev pub connect : ℕ → List Record
connect c = opened c ∷ from c (open_of 65536) ∷ write c written_open ∷ []

-- 5 records: and a session
abbrev pub join : ℕ → List Record
join c = connect c ++ (from c (begin_of None 100) ∷ write c (written_begin 0) ∷ [])

-- 7 records: and the link of a producer or a consumer
abbrev pub producer : ℕ → List ℕ → List Record
producer c address =
    join c ++ (from c (AnAttach (sends_to address)) ∷ write c (written_to_producer 0 (codes "l") 0 Mixed address) ∷ [])

abbrev pub consumer : ℕ → SenderSettleMode → List ℕ → List Record
consumer c mode address =
    join c ++ (from c (AnAttach (let fields = receives_from address in record fields { snd_settle_mode = Some mode }))
    ∷ write c (written_to_consumer 0 (codes "l") 0 mode First address false) ∷ [])

-- 15 records: a producer of q on connection 0, which has credit, and a consumer on connection 1
abbrev pub pair_by : SenderSettleMode → List Record
pair_by mode = producer 0 q ++ consumer 1 mode q ++ (to 0 (AFlow (shows 0 0 0 250)) ∷ [])

abbrev pub pair : List Record
pair = pair_by Mixed

-- 17 records: the consumer gives credit, and the producer sends a delivery, in record 16
abbrev pub sent_by : SenderSettleMode → List Record
sent_by mode = pair_by mode ++ (from 1 (AFlow (gives 0 0 10)) ∷ from_with 0 (ATransfer (first 0)) hi ∷ [])

abbrev pub sent : List Record
sent = sent_by Mixed

-- the rules by which q is of multicast
abbrev pub multicast : List RuleText
multicast = rule Multicast q ∷ []

-- 18 records: and a second delivery, in record 17
abbrev pub two_sent_by : SenderSettleMode → List Record
two_sent_by mode = sent_by mode ++ (from_with 0 (ATransfer (first 1)) hi ∷ [])

-- ---- what comes of delivery 16

-- it goes to the consumer, by delivery 17, whose id is 0: whole, or in two parts
abbrev pub whole : Record
whole = carry 1 16 (first 0) hi

abbrev pub half : Record
half = carry 1 16 (with_more (first 0)) (0x68 ∷ [])

abbrev pub rest : Record
rest = carry 1 16 (next false) (0x69 ∷ [])

abbrev pub carried : List Record
carried = sent ++ (whole ∷ [])

abbrev pub half_carried : List Record
half_carried = sent ++ (half ∷ [])

abbrev pub pre_settled : List Record
pre_settled = sent_by Settled ++ (carry 1 16 (as_settled (first 0)) hi ∷ [])

-- the consumer accepts it, settles it, or does both; or leaves; or gives more credit
abbrev pub accepts : Record
accepts = from 1 (ADisposition (disposes Receiver 0 false accepted))

abbrev pub settles : Record
settles = from 1 (ADisposition (disposes Receiver 0 true None))

abbrev pub finishes : Record
finishes = from 1 (ADisposition (disposes Receiver 0 true accepted))

abbrev pub consumer_leaves : Record
consumer_leaves = from 1 (detach_of true)

abbrev pub gives_more : Record
gives_more = from 1 (AFlow (gives 0 0 20))

-- the producer settles it
abbrev pub producer_settles : Record
producer_settles = from 0 (ADisposition (disposes Sender 0 true None))

-- the router tells the producer its outcome, and settles it
abbrev pub tells : Record
tells = tell 0 C (disposes Receiver 0 true accepted)

abbrev pub router_settles : Record
router_settles = to 1 (ADisposition (disposes Sender 0 true None))
