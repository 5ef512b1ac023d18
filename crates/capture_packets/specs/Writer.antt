-- What a writer of packets has come to, and what a fault leaves.
use Rattle.std.specs.Prelude.{◌≡◌, ℕ, ◌==◌, Bool, true, false, List, Option, Some, nat_eq, if◌then◌else◌}
use Rattle.std.specs.HashMap.{get}
use Rattle.std.specs.Io.KnownBytes.{Keeps}
use Rattle.capture_form.specs.declared.records.Record.{Record}
use Rattle.capture_form.specs.Appending.{IsCut}
use Rattle.capture_packets.specs.declared.conversation.Conversation.{Conversation}
use Rattle.capture_packets.specs.declared.writer.PacketFault.{PacketFault}
use Rattle.capture_packets.specs.declared.writer.PacketFault.TheVariants.{Memory, Write}
use Rattle.capture_packets.specs.declared.writer.PacketWriter.{PacketWriter}
use Rattle.capture_packets.specs.Conversation.{behind, fresh}
use Rattle.capture_packets.specs.Text.{conversation_of}
use Rattle.std.specs.Option.{unwrap_or}

-- whether a write has failed
abbrev pub has_failed : {W : Type 0} → PacketWriter W → Bool
has_failed packets = packets.has_failed

-- the writer that it writes to
abbrev pub writer_of : {W : Type 0} → PacketWriter W → W
writer_of packets = packets.writer

-- what the sequence numbers of a connection have come to
abbrev pub conversation_in : {W : Type 0} → PacketWriter W → ℕ → Option Conversation
conversation_in packets connection = get nat_eq packets.conversations connection

-- the records so far are these
abbrev pub IsBehind : {W : Type 0} → PacketWriter W → List Record → Type 0
IsBehind packets before = (connection : ℕ) → conversation_in packets connection ≡ conversation_of before connection

-- the sequence numbers have come to what they are behind the record, and those of other connections are as before
abbrev pub MovesBehind : {W : Type 0} → PacketWriter W → PacketWriter W → Record → Type 0
MovesBehind old new entry = (connection : ℕ) → conversation_in new connection
    ≡ (if entry.connection == connection then Some (behind (unwrap_or (conversation_in old entry.connection) fresh) entry.what) else conversation_in old connection)

-- nothing has changed that a later call would tell
pub record IsSame {W : Type 0} (old new : PacketWriter W) : Type 0 where
  pub conversations : (connection : ℕ) → conversation_in new connection ≡ conversation_in old connection
  pub writer : writer_of new ≡ writer_of old
  pub failed : has_failed new ≡ has_failed old

-- what a fault of a write leaves of octets: the first ones, or, behind an earlier fault, nothing new
abbrev pub StopsWrite : Bool → Option (List ℕ) → Option (List ℕ) → List ℕ → ℕ → Type 0
StopsWrite false old new octets taken = IsCut old new octets taken
StopsWrite true old new octets taken = Keeps old new × (taken ≡ 0)

-- what a fault leaves of a record's blocks: where memory was refused nothing
abbrev pub StopsPut : Bool → Option (List ℕ) → Option (List ℕ) → List ℕ → PacketFault → Type 0
StopsPut failed old new octets Memory = Keeps old new
StopsPut failed old new octets (Write fault) = StopsWrite failed old new octets fault.taken
