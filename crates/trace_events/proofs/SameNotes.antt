-- Of notes that are the same, each names the delivery that the other names.
use Rattle.std.proofs.Common.{◌≡◌, subst, true, List, Some, eqb-true}
use Rattle.pairing_cert.specs.declared.note.Note.{Note}
use Rattle.pairing_cert.specs.declared.note.Note.TheVariants as notes
use Rattle.trace_events.specs.Event.{Event, Incoming}
use Rattle.trace_events.specs.Incoming.{incoming_at}
use Rattle.trace_events.specs.Outgoing.{noted}
use Rattle.trace_events.specs.TransferClause.{is_same_note}

pub by_note : (past : List Event) (d : Incoming) (note other : Note) → is_same_note note other ≡ true → noted note past ≡ Some d → noted other past ≡ Some d
by_note past d notes.None other same is = absurd cc
by_note past d (notes.Told why) other same is = absurd cc
by_note past d (notes.Pair n) (notes.Pair m) same is = subst (λ k. incoming_at k past ≡ Some d) (eqb-true n m same) is
by_note past d (notes.Pair n) notes.None same is = absurd cc
by_note past d (notes.Pair n) (notes.Told why) same is = absurd cc
