-- What L13 compares: a detach or an end with what is live, and with what the client has ended.
use Rattle.std.specs.Prelude.{◌≡◌, List, Some, option_map}
use Rattle.trace_events.specs.Event.{Event}
use Rattle.trace_events.specs.Link.{owes_detach}
use Rattle.trace_events.specs.Said.{out_detach, out_spoken}
use Rattle.trace_events.specs.Session.{owes_end}
use Rattle.trace_events.specs.Words.{is_some_and}
use Rattle.trace_events.specs.View.{link_view}
use Rattle.refusal_facts.specs.declared.ending.DetachFacts.{DetachFacts}
use Rattle.refusal_facts.specs.declared.ending.EndFacts.{EndFacts}

abbrev pub AreDetach : Event → List Event → DetachFacts → Type 0
AreDetach e past facts =
    (facts.session ≡ e.session) × (option_map link_view facts.link ≡ e.link)
    × (option_map (λ fields. fields.handle) (out_detach e) ≡ Some facts.handle)
    × (facts.is_owed ≡ is_some_and e.session (λ s. owes_detach s facts.handle past))

abbrev pub AreEnd : Event → List Event → EndFacts → Type 0
AreEnd e past facts =
    (facts.session ≡ e.session) × (option_map (λ spoken. spoken.channel) (out_spoken e) ≡ Some facts.channel)
    × (facts.is_owed ≡ owes_end e.connection facts.channel past)
