use Rattle.capture_packets.proofs.TextLemmas.{stands_among}
use Rattle.capture_packets.proofs.LawLemmas.{payload_read, length_read, length_read_again, ends_differ}
use Rattle.capture_packets.proofs.PacketLemmas.{ends_with}
use Rattle.capture_packets.proofs.laws.laws_of_packets.Goals as goal

pub returns-clause-parts : goal.returns-clause-parts
returns-clause-parts c = stands_among

pub returns-clause-packet : goal.returns-clause-packet
returns-clause-packet c = ends_with

pub returns-clause-block : goal.returns-clause-block
returns-clause-block c time comment segment payload short small =
    (payload_read time comment segment payload small, length_read time comment segment payload short small, length_read_again time comment segment payload short small)

pub returns-clause-apart : goal.returns-clause-apart
returns-clause-apart c = ends_differ
