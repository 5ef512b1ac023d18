use Rattle.daemon_server.specs.Lines.{frames_to, front_of, inputs_of}
use Rattle.daemon_server.proofs.line.Line.turn.Given as goal

abbrev pub ghosts-serve_beside : goal.ghosts-serve_beside
ghosts-serve_beside g a = record {
  items = inputs_of a.connection a._core.now.journal.records;
  frames = front_of (frames_to a.connection a._core.now.journal.records) a.outbox.items;
  due = a.outbox.items;
}
