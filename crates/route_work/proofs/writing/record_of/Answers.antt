use Rattle.std.proofs.Common.{ap}
use Rattle.capture_form.specs.declared.records.What.TheVariants as whats
use Rattle.route_work.specs.Dues.{connection_of, note_of}
use Rattle.route_work.proofs.Follow.{frame_recorded}
use Rattle.route_work.proofs.writing.record_of.Goals as goal

pub returns-clause-next : goal.returns-clause-next
returns-clause-next g c = λ history stands order is turn.
    let octets = c.put_due.new.out.items in
    frame_recorded c.args.rules.now history (record { connection = c.connection_of.result; what = whats.Out c.in_ok-frame.frame; note = c.note_of.result })
    (connection_of c.args.due.now) (note_of c.args.due.now) octets c.connection_of.ensures c.note_of.ensures
    (ap whats.Out c.in_ok-frame.ensures.value) (c.in_ok-put_due.ensures.frame history stands order is turn)
