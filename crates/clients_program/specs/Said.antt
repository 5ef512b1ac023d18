-- What the clients say, in the fields of the standard (part 2, section 2.7). A field that they do not write is absent.
use Rattle.std.specs.Prelude.{ℕ, ◌≤◌, true, false, List, ◌++◌, length, Some, None, codes}
use Rattle.flow_counts.specs.declared.profile.TheConstants.{MAX_FRAME_SIZE}
use Rattle.amqp_perf.specs.declared.attach.Role.TheVariants.{Sender, Receiver}
use Rattle.amqp_perf.specs.declared.descriptor.Outcome.{Outcome}
use Rattle.amqp_perf.specs.Nested.{ATerminus}
use Rattle.amqp_perf.specs.Meaning.{Meaning, AnOpen, ABegin, AnAttach, AFlow, ATransfer, ADisposition, AClose}
use Rattle.amqp_perf.specs.Router.{bare_terminus, terminus_at, first_transfer, bare_state}
use Rattle.amqp_perf.specs.Writing.{performative_octets, IsWritable}
use Rattle.amqp_frames.specs.declared.frame.FrameKind.TheVariants as kinds
use Rattle.amqp_frames.specs.Writing.{frame_octets}
use Rattle.clients_program.specs.declared.said.TheConstants.{CHANNEL, HANDLE, WINDOW}

-- it can be written, in few octets
pub record IsSmall (meaning : Meaning) : Type 0 where
  pub writable : IsWritable meaning
  pub few : length (performative_octets meaning) ≤ 4000

-- the frame that says it on the clients' channel, with this payload
abbrev pub frame_said : Meaning → List ℕ → List ℕ
frame_said meaning payload = frame_octets kinds.Amqp CHANNEL (performative_octets meaning ++ payload)

-- 2.7.1
abbrev pub opened : List ℕ → Meaning
opened name = AnOpen (record { container_id = name; max_frame_size = Some MAX_FRAME_SIZE; channel_max = None; idle_time_out = None })

-- 2.7.2
abbrev pub begun : Meaning
begun = ABegin (record { remote_channel = None; next_outgoing_id = 0; incoming_window = WINDOW; outgoing_window = WINDOW; handle_max = None })

-- where greetings go to, and come from
abbrev pub greetings : List ℕ
greetings = codes "greetings"

-- the attach of the consumer (2.7.3)
abbrev pub consuming : Meaning
consuming = AnAttach (record {
  name = codes "greeted";
  handle = HANDLE;
  role = Receiver;
  snd_settle_mode = None;
  rcv_settle_mode = None;
  source = Some (terminus_at greetings);
  target = Some (ATerminus bare_terminus);
  initial_delivery_count = None;
  max_message_size = None;
})

-- the attach of the producer (2.7.3)
abbrev pub producing : Meaning
producing = AnAttach (record {
  name = codes "greeting";
  handle = HANDLE;
  role = Sender;
  snd_settle_mode = None;
  rcv_settle_mode = None;
  source = Some bare_terminus;
  target = Some (ATerminus (terminus_at greetings));
  initial_delivery_count = Some 0;
  max_message_size = None;
})

-- 2.7.4
abbrev pub crediting : ℕ → Meaning
crediting count = AFlow (record {
  next_incoming_id = Some 0;
  incoming_window = WINDOW;
  next_outgoing_id = 0;
  outgoing_window = WINDOW;
  handle = Some HANDLE;
  delivery_count = Some 0;
  link_credit = Some count;
  drain = None;
  echo = None;
})

-- a delivery, whole and not settled (2.7.5)
abbrev pub sending : ℕ → List ℕ → Meaning
sending id tag = ATransfer (first_transfer HANDLE id tag 0 false false)

-- an outcome, settled (2.7.6)
abbrev pub deciding : ℕ → Outcome → Meaning
deciding id outcome = ADisposition (record { role = Receiver; first = id; last = None; settled = Some true; state = Some (bare_state outcome) })

-- 2.7.9
abbrev pub closed : Meaning
closed = AClose None
