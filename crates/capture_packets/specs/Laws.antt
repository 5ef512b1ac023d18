-- What a reader of the format finds in the block of a packet, and what stands there for a record.
use Rattle.std.specs.Prelude.{◌≡◌, ℕ, ◌+◌, ◌-◌, ◌%◌, ◌^◌, List, [], ◌++◌, length, take, drop, true}
use Rattle.std.specs.Int.{w32, w64, from_be_bytes}
use Rattle.capture_form.specs.declared.records.What.{What}
use Rattle.capture_form.specs.declared.records.What.TheVariants.{Opened, In, Out, Lost, Broken}
use Rattle.capture_form.specs.declared.records.Record.{Record}
use Rattle.capture_form.specs.Text.{frame_of}
use Rattle.capture_packets.specs.Conversation.{octets_in, octets_out}
use Rattle.capture_packets.specs.Text.{is_known, sent_with, blocks_at}

-- how many octets the block has, as told in front of its body
abbrev pub told_length : List ℕ → ℕ
told_length octets = from_be_bytes w32 (take 4 (drop 4 octets))

-- and as told behind its body
abbrev pub told_length_again : List ℕ → ℕ
told_length_again octets = from_be_bytes w32 (drop (length octets - 4) octets)

-- the packet's time, in microseconds
abbrev pub time_in : List ℕ → ℕ
time_in octets = from_be_bytes w64 (take 8 (drop 12 octets))

-- how many octets the packet has
abbrev pub packet_length : List ℕ → ℕ
packet_length octets = from_be_bytes w32 (take 4 (drop 20 octets))

-- the sequence number of its segment, and the number that it acknowledges: behind 28 octets of the block, 20 of the IPv4
-- header and the ports
abbrev pub sequence_in : List ℕ → ℕ
sequence_in octets = from_be_bytes w32 (take 4 (drop 52 octets))

abbrev pub acknowledged_in : List ℕ → ℕ
acknowledged_in octets = from_be_bytes w32 (take 4 (drop 56 octets))

-- its payload: what stands behind both headers
abbrev pub payload_in : List ℕ → List ℕ
payload_in octets = take (packet_length octets - 40) (drop 68 octets)

-- the octets of the side that sends the segment of what happened
abbrev pub sender_octets : What → What → ℕ
sender_octets Opened = octets_in
sender_octets (In frame) = octets_in
sender_octets (Out frame) = octets_out
sender_octets Lost = octets_in
sender_octets Broken = octets_in

-- and those of the other side
abbrev pub receiver_octets : What → What → ℕ
receiver_octets Opened = octets_out
receiver_octets (In frame) = octets_out
receiver_octets (Out frame) = octets_in
receiver_octets Lost = octets_out
receiver_octets Broken = octets_out

-- the blocks of a record end with that of its own packet: it has the record's frame, its lengths are right, its time is the
-- record's number, and its two numbers are the octets that both sides sent before, behind a SYN and the AMQP header. In front
-- of it stands something only where no record before is of the connection
pub record EndsWithPacket (before : List Record) (entry : Record) : Type 0 where
  pub opening : List ℕ
  pub packet : List ℕ
  pub parts : blocks_at before entry ≡ opening ++ packet
  pub alone : is_known before entry.connection ≡ true → opening ≡ []
  pub payload : payload_in packet ≡ frame_of entry.what
  pub told : told_length packet ≡ length packet
  pub told_again : told_length_again packet ≡ length packet
  pub time : time_in packet ≡ length before
  pub sequence : sequence_in packet ≡ (9 + sent_with (sender_octets entry.what) before entry.connection) % 2 ^ 32
  pub acknowledged : acknowledged_in packet ≡ (9 + sent_with (receiver_octets entry.what) before entry.connection) % 2 ^ 32
