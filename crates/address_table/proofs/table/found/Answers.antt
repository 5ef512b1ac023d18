use Rattle.std.proofs.Common.{◌∙◌, ap, sym, cond, Some, bytes_eq, string_bytes}
use Rattle.std.proofs.lemmas.Map.Text.{hash_map_updates_text}
use Rattle.std.specs.HashMap.{get_by_text}
use Rattle.address_table.specs.AddressLinks.{joined, line_of}
use Rattle.address_table.proofs.Lists.{written}
use Rattle.address_table.proofs.table.found.Goals as goal

pub returns-clause-changed : goal.returns-clause-changed
returns-clause-changed c =
    written line_of c.args.addresses.now c.insert.new.self c.args.address.now (Some c.in_ok-lineup.lineup)
    (λ at. hash_map_updates_text (string_bytes c.in_ok-address.address) c.args.addresses.now c.insert.new.self (Some c.in_ok-lineup.lineup) c.in_ok-insert.ensures.updates at
    ∙ ap (λ key. cond (bytes_eq key at) (Some c.in_ok-lineup.lineup) (get_by_text c.args.addresses.now at)) c.in_ok-address.ensures.ok)
    (joined c.args.is_ordered c.args.link) (c.in_ok-lineup.ensures ∙ ap (λ found. joined c.args.is_ordered c.args.link (line_of found)) (sym c.requires))
