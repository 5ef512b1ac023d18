use Rattle.std.proofs.Common.{option_map}
use Rattle.amqp_perf.specs.NestedViews.{state_view}
use Rattle.pairing_cert.specs.declared.note.Note.TheVariants as notes
use Rattle.trace_events.specs.Written.{spoken_octets}
use Rattle.trace_judge.specs.Told.{told_view}
use Rattle.trace_events.specs.View.{incoming_view}
use Rattle.route_dues.specs.Outcomes.{outcome_frame}
use Rattle.route_work.specs.Dues.{IsFrameFor}
use Rattle.route_work.proofs.Follow.{appended, outcome_frame_for}
use Rattle.route_work.proofs.writing.put_told.Goals as goal

pub returns-in-Ok : goal.returns-in-Ok
returns-in-Ok c = record {
  frame = λ rules history order is.
      let due = c.args.due.now in
      let d = incoming_view due.delivery in
      let state = option_map state_view c.in-Ok.state in
      let new = c.put_outcome.new.out.items in
      appended c.put_outcome.result c.args.out.now.items new (spoken_octets (outcome_frame d state)) (IsFrameFor rules history d.link.session.connection (notes.Told due.why) new) c.requires.none c.put_outcome.ensures.appended
      (outcome_frame_for rules history order d due.why (told_view due.told) state new is c.in-Ok.ensures.octets c.put_outcome.ensures.again);
}
