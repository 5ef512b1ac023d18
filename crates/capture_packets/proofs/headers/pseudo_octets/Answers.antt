use Rattle.capture_packets.proofs.HeaderLemmas.{pseudo_spelled}
use Rattle.capture_packets.proofs.headers.pseudo_octets.Goals as goal

pub returns : goal.returns
returns c = pseudo_spelled c.args.segment c.args.len c.source.result c.target.result c.to_be_bytes.result c.source.ensures c.target.ensures c.to_be_bytes.ensures
