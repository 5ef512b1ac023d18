-- For which address the delivery is that an event completes.
use Rattle.std.specs.Prelude.{◌≡◌, ℕ, List, ◌∷◌, IfSome}
use Rattle.trace_events.specs.Event.{Event}
use Rattle.trace_events.specs.Incoming.{address_of, completed_by}

-- the delivery that the event completes is for this address; of any other event an address says nothing
abbrev pub IsAddressed : Event → List Event → List ℕ → Type 0
IsAddressed e past address = IfSome (completed_by e) (λ d. address_of d (e ∷ past) ≡ address)
