-- The text of a capture as packets. Own choice of packets; the octets are those of pcapng.
use Rattle.std.specs.Prelude.{ℕ, ◌+◌, ◌%◌, ◌^◌, ◌==◌, Bool, List, [], ◌∷◌, ◌++◌, length, sum_by, Option, Some, None, if◌then◌else◌}
use Rattle.std.specs.List.{list_any}
use Rattle.capture_form.specs.declared.records.What.{What}
use Rattle.capture_form.specs.declared.records.Record.{Record}
use Rattle.capture_packets.specs.declared.conversation.Conversation.{Conversation}
use Rattle.capture_packets.specs.Blocks.{file_head}
use Rattle.capture_packets.specs.Conversation.{record_blocks, octets_in, octets_out}

-- some of the records are of the connection
abbrev pub is_known : List Record → ℕ → Bool
is_known records connection = list_any (λ entry. entry.connection == connection) records

-- how many octets one side sent on the connection, where each record has so many of that side
abbrev pub sent_with : (What → ℕ) → List Record → ℕ → ℕ
sent_with octets records connection = sum_by (λ entry. if entry.connection == connection then octets entry.what else 0) records

-- what the sequence numbers have come to behind records: SYN, AMQP header, and the frames of that side, in 32 bits. There are
-- none where no record is of the connection
unfoldable pub conversation_of : List Record → ℕ → Option Conversation
conversation_of records connection =
    if is_known records connection
    then Some (record { client = (9 + sent_with octets_in records connection) % 2 ^ 32; router = (9 + sent_with octets_out records connection) % 2 ^ 32 })
    else None

-- the blocks of a record behind others of the same capture, under the number that it has there
abbrev pub blocks_at : List Record → Record → List ℕ
blocks_at before entry = record_blocks (conversation_of before entry.connection) (length before) entry

-- the blocks of records behind others
abbrev pub blocks_behind : List Record → List Record → List ℕ
blocks_behind before [] = []
blocks_behind before (entry ∷ rest) = blocks_at before entry ++ blocks_behind (before ++ entry ∷ []) rest

-- the text of the records of a capture: the head of the file, and the blocks of each record
unfoldable pub packets_text : List Record → List ℕ
packets_text records = file_head ++ blocks_behind [] records
