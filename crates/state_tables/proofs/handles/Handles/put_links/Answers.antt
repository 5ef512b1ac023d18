use Rattle.std.proofs.Common.{ap, ◌∙◌, ◌∷◌, []}
use Rattle.std.proofs.lemmas.List.{map-append}
use Rattle.trace_events.specs.View.{link_view}
use Rattle.state_tables.specs.EndedLinks.{views}
use Rattle.state_tables.specs.Links.{link_of}
use Rattle.state_tables.proofs.EndedMembers.{passed, pushed}
use Rattle.state_tables.proofs.handles.Handles.put_links.Goals.{in-Some+in_ok-push, in_default}
use Rattle.state_tables.proofs.handles.Handles.put_links.Goals as goal

pub loop-handle-preserved : goal.loop-handle-preserved
loop-handle-preserved c =
    let items = c.as_slice-handle-items.result.now in
    let i = c.loop-handle.handle-index in
    let old = views c.args.links.now.items in
    let so_far = views c.loop-handle.links.items in
    elim c.match-link.branch [
      | in-Some+in_ok-push w ↦
          ap (λ v. views v.items) w.links-is
          ∙ (ap views w.in_ok-push.ensures.items
          ∙ (map-append link_view c.loop-handle.links.items (w.in-Some.link ∷ [])
          ∙ pushed link_of items i c.handle-item.result c.loop-handle-test.true c.handle-item.is old so_far c.loop-handle.invariant (link_view w.in-Some.link) w.in-Some.ensures))
      | in_default w ↦
          ap (λ v. views v.items) w.links-is
          ∙ passed link_of items i c.handle-item.result c.loop-handle-test.true c.handle-item.is old so_far c.loop-handle.invariant w.in_default.ensures
    ]
