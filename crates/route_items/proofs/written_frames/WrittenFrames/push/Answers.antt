use Rattle.std.proofs.Common.{ap, sym, refl, ◌∙◌}
use Rattle.capture_form.specs.declared.records.What.{What}
use Rattle.route_items.specs.Inputs.{is_output}
use Rattle.route_items.specs.WrittenFrames.{numbers_in}
use Rattle.route_items.proofs.Moves.{written, unwritten, none_written, on_ok}
use Rattle.route_items.proofs.written_frames.WrittenFrames.push.Goals as goal

pub returns-in-Out-clause-pushed : goal.returns-in-Out-clause-pushed
returns-in-Out-clause-pushed c =
    on_ok c.add.result (λ added records is are at.
    written at c.args.number records c.args.entry.now (numbers_in c.args.self.now at) (numbers_in c.add.new.self at) is (ap is_output c.in-Out.is) (are at) (added at)) c.add.ensures.added

pub returns-in_default : goal.returns-in_default
returns-in_default c = record {
  pushed = λ records is are at. unwritten at records c.args.entry.now (numbers_in c.args.self.now at) (none_written c.args.entry.now.what c.in_default.not-Out) (are at);
  unchanged = tt;
}
