use Rattle.std.proofs.Common.{take}
use Rattle.daemon_server.specs.Stepping.{HasStepped}
use Rattle.daemon_server.proofs.stepping.step_inbox.Given as goal

abbrev pub invariant-loop-entry : goal.invariant-loop-entry
invariant-loop-entry g l = HasStepped (take l.entry-index l.inbox) l.fn.core l.core l.given.items
