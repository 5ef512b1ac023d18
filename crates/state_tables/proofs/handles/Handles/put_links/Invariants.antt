use Rattle.std.proofs.Common.{◌≡◌, ◌++◌, take}
use Rattle.std.specs.List.{filter_map}
use Rattle.state_tables.specs.EndedLinks.{views}
use Rattle.state_tables.specs.Links.{link_of}
use Rattle.state_tables.proofs.handles.Handles.put_links.Given as goal

abbrev pub invariant-loop-handle : goal.invariant-loop-handle
invariant-loop-handle l = views l.links.items ≡ views l.fn.links.items ++ filter_map link_of (take l.handle-index l.handle-items)
