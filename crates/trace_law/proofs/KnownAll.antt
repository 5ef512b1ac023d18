-- The plain checker knows of all that was.
use Rattle.std.proofs.Common.{Option, Some, None, IfSome}
use Rattle.trace_events.specs.Said.{out_spoken, out_begin, out_attach}
use Rattle.trace_events.specs.Event.{Event}
use Rattle.trace_events.specs.Known.{OpensKnown, CarriesKnown}

each : {A : Type 0} (o : Option A) → IfSome o (λ x. Unit {0})
each None = tt
each (Some x) = tt

nested : {A B : Type 0} (o : Option A) (p : Option B) → IfSome o (λ x. IfSome p (λ y. Unit {0}))
nested None p = tt
nested (Some x) p = each p

pub opens_all : (e : Event) → OpensKnown (λ c channel. Unit {0}) (λ s handle. Unit {0}) e
opens_all e = (nested (out_begin e) (out_spoken e), nested (out_attach e) e.session)

pub carries_all : (e : Event) → CarriesKnown (λ n. Unit {0}) (λ j. Unit {0}) e
carries_all e = (each e.told, each e.outgoing)
