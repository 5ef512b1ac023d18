use Rattle.std.proofs.Common.{◌≡◌, ◌+◌, ◌++◌, List, length, take}
use Rattle.capture_form.specs.declared.records.Record.{Record}
use Rattle.route_items.specs.WrittenFrames.{AreWritten}
use Rattle.route_items.proofs.written_frames.WrittenFrames.extend.Given as goal

abbrev pub invariant-loop-entry : goal.invariant-loop-entry
invariant-loop-entry l = record {
  count : l.number ≡ l.fn.first + l.entry-index;
  kept : (records : List Record) → l.fn.first ≡ length records → AreWritten l.fn.self records → AreWritten l.self (records ++ take l.entry-index l.fn.group);
}
