-- What holds of each performative of a kind that a lawful capture has written, from what its clauses say.
use Rattle.std.proofs.Common.{◌≡◌, refl, ap, List, [], ◌∷◌, Option, Some, None, IfSome, option_and_then, option_map}
use Rattle.amqp_perf.specs.Meaning.{Meaning, AnOpen, ABegin, AnAttach, AFlow, ATransfer, ADisposition, ADetach, AnEnd, AClose, TransferFields, DispositionFields}
use Rattle.capture_form.specs.Rules.{RuleSet}
use Rattle.trace_events.specs.Frame.{Frame, Spoken, spoken_in}
use Rattle.trace_events.specs.Event.{Event, Moment, Opened, In, Out, Lost, Broken, out_frame}
use Rattle.trace_events.specs.Said.{as_transfer, as_disposition}
use Rattle.trace_events.specs.Clauses.{first_broken}
use Rattle.trace_events.specs.Kept.{AtEach}
use Rattle.trace_events.proofs.ClausesMet.{lawful-past}

-- of an event, by the kind of what it says
module _ {Fields : Type 0} (kind : Meaning → Option Fields) (e : Event) (P : Fields → Type 0)
    (each : (frame : Frame) (spoken : Spoken) → e.moment ≡ Out frame → spoken_in frame.body ≡ Some spoken → IfSome (kind spoken.meaning) P) where
  of_spoken : (frame : Frame) → e.moment ≡ Out frame → (o : Option Spoken) → spoken_in frame.body ≡ o
      → IfSome (option_and_then kind (option_map (λ (spoken : Spoken). spoken.meaning) o)) P
  of_spoken frame written None says = tt
  of_spoken frame written (Some spoken) says = each frame spoken written says

  of_moment : (m : Moment) → e.moment ≡ m
      → IfSome (option_and_then kind (option_map (λ (spoken : Spoken). spoken.meaning) (option_and_then (λ (frame : Frame). spoken_in frame.body) (out_frame m)))) P
  of_moment (Out frame) written = of_spoken frame written (spoken_in frame.body) refl
  of_moment (In frame) written = tt
  of_moment Opened written = tt
  of_moment Lost written = tt
  of_moment Broken written = tt

  pub of_written : IfSome (option_and_then kind (option_map (λ (spoken : Spoken). spoken.meaning) (option_and_then (λ (frame : Frame). spoken_in frame.body) (out_frame e.moment)))) P
  of_written = of_moment e.moment refl

-- what holds of a fields of a kind holds where an equation says that there are such
pub where_some : {Fields : Type 0} (o : Option Fields) (P : Fields → Type 0) → ((fields : Fields) → o ≡ Some fields → P fields) → IfSome o P
where_some None P each = tt
where_some (Some fields) P each = each fields refl

-- ---- kinds

pub transfer-is : (m : Meaning) (fields : TransferFields) → as_transfer m ≡ Some fields → m ≡ ATransfer fields
transfer-is (ATransfer given) fields is = let same : given ≡ fields = cc in ap ATransfer same
transfer-is (AnOpen given) fields is = absurd cc
transfer-is (ABegin given) fields is = absurd cc
transfer-is (AnAttach given) fields is = absurd cc
transfer-is (AFlow given) fields is = absurd cc
transfer-is (ADisposition given) fields is = absurd cc
transfer-is (ADetach given) fields is = absurd cc
transfer-is (AnEnd error) fields is = absurd cc
transfer-is (AClose error) fields is = absurd cc

pub disposition-is : (m : Meaning) (fields : DispositionFields) → as_disposition m ≡ Some fields → m ≡ ADisposition fields
disposition-is (ADisposition given) fields is = let same : given ≡ fields = cc in ap ADisposition same
disposition-is (AnOpen given) fields is = absurd cc
disposition-is (ABegin given) fields is = absurd cc
disposition-is (AnAttach given) fields is = absurd cc
disposition-is (AFlow given) fields is = absurd cc
disposition-is (ATransfer given) fields is = absurd cc
disposition-is (ADetach given) fields is = absurd cc
disposition-is (AnEnd error) fields is = absurd cc
disposition-is (AClose error) fields is = absurd cc

-- ---- at each event

pub at_each : (rules : RuleSet) (K : Event → List Event → Type 0)
    → ((e : Event) (past : List Event) → first_broken rules (e ∷ past) ≡ None → K e past)
    → (past : List Event) → first_broken rules past ≡ None → AtEach K past
at_each rules K each [] lawful = tt
at_each rules K each (e ∷ past) lawful = (each e past lawful, at_each rules K each past (lawful-past rules e past lawful))
