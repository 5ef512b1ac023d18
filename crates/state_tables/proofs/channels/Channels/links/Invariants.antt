use Rattle.std.proofs.Common.{◌≡◌, take, nat_eq}
use Rattle.std.specs.List.{Contains, flat_map}
use Rattle.indexmap.specs.IndexMap.{IsUnique}
use Rattle.state_tables.specs.EndedLinks.{links_on, views}
use Rattle.state_tables.specs.declared.handles.Handles.{Handles}
use Rattle.state_tables.proofs.channels.Channels.links.Given as goal

abbrev pub invariant-loop-session : goal.invariant-loop-session
invariant-loop-session l = record {
  listed : views l.links.items ≡ flat_map links_on (take l.session-index l.session-items);
  distinct : (session : Handles) → Contains (take l.session-index l.session-items) session → IsUnique nat_eq session.entries;
}
