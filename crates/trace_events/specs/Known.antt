-- What of the past is asked for because of an event, where the one who is asked need not know of all that was.
use Rattle.std.specs.Prelude.{◌≡◌, ℕ, ◌⊎◌, List, length, Some, IfSome}
use Rattle.trace_events.specs.Event.{Event, Incoming, Outgoing}
use Rattle.trace_events.specs.declared.session.Session.{Session}
use Rattle.trace_events.specs.Said.{out_spoken, out_begin, out_attach}
use Rattle.trace_events.specs.Outgoing.{noted}

-- the begin that an Out begin answers, and the attach that an Out attach on a session answers
abbrev pub OpensKnown : (ℕ → ℕ → Type 0) → (Session → ℕ → Type 0) → Event → Type 0
OpensKnown begin attach e =
    IfSome (out_begin e) (λ ours. IfSome (out_spoken e) (λ spoken. begin e.connection spoken.channel))
    × IfSome (out_attach e) (λ ours. IfSome e.session (λ s. attach s ours.handle))

-- the delivery whose outcome is told, by its number, and the one that a transfer begins or goes on with
abbrev pub CarriesKnown : (ℕ → Type 0) → (Outgoing → Type 0) → Event → Type 0
CarriesKnown told sent e = IfSome e.told told × IfSome e.outgoing sent

-- the delivery to a client begins behind these events, or its note names the delivery from a client
abbrev pub IsCarriedBy : Incoming → List Event → Outgoing → Type 0
IsCarriedBy d past j = (j.number ≡ length past) ⊎ (noted j.note past ≡ Some d)
