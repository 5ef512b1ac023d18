-- The link that an event names lives, before what the event opens is filled in.
use Rattle.std.proofs.Common.{◌≡◌, refl, sym, ap, subst, ◌∙◌, ℕ, List, Option, Some, None, IfSome, option_and_then}
use Rattle.pairing_cert.specs.declared.note.Note.{Note}
use Rattle.trace_events.specs.Frame.{Spoken}
use Rattle.trace_events.specs.Event.{Event, Link, Moment, spoken_of}
use Rattle.trace_events.specs.declared.session.Session.{Session}
use Rattle.trace_events.specs.Said.{handle_in}
use Rattle.trace_events.specs.Session.{IsLiveOn}
use Rattle.trace_events.specs.Link.{session_link, IsLiveLink, NamesLive}
use Rattle.trace_events.specs.History.{placed, named_link, session_of}
use Rattle.trace_events.proofs.Standing.{placed-stands}
use Rattle.trace_events.proofs.Undecided.{link_of_session}

-- the link of a handle on a live session is the live one of its own handle
pub live-link : (s : Session) (handle : ℕ) (past : List Event) (l : Link) → IsLiveOn s past → session_link s handle past ≡ Some l → IsLiveLink l past
live-link s handle past l live is =
    let of = link_of_session s handle past l is in
    (subst (λ t. IsLiveOn t past) (sym of.0) live, ap (λ t. session_link t l.handle past) of.0 ∙ (ap (λ h. session_link s h past) of.1 ∙ is))

found-live : (s : Session) (handle : ℕ) (past : List Event) (o : Option Link) → IsLiveOn s past → session_link s handle past ≡ o → IfSome o (λ l. IsLiveLink l past)
found-live s handle past None live is = tt
found-live s handle past (Some l) live is = live-link s handle past l live is

handle-live : (s : Session) (past : List Event) (o : Option ℕ) → IsLiveOn s past → IfSome (option_and_then (λ handle. session_link s handle past) o) (λ l. IsLiveLink l past)
handle-live s past None live = tt
handle-live s past (Some handle) live = found-live s handle past (session_link s handle past) live refl

spoken-names : (s : Session) (past : List Event) (o : Option Spoken) → IsLiveOn s past → IfSome (option_and_then (λ (spoken : Spoken). named_link s spoken.meaning past) o) (λ l. IsLiveLink l past)
spoken-names s past None live = tt
spoken-names s past (Some spoken) live = handle-live s past (handle_in spoken.meaning) live

session-names : (o : Option Session) (past : List Event) (spoken : Option Spoken) → IfSome o (λ s. IsLiveOn s past)
    → IfSome (option_and_then (λ (s : Session). option_and_then (λ (spoken : Spoken). named_link s spoken.meaning past) spoken) o) (λ l. IsLiveLink l past)
session-names None past spoken live = tt
session-names (Some s) past spoken live = spoken-names s past spoken live

pub placed-names : (past : List Event) (c : ℕ) (moment : Moment) (note : Note) → NamesLive (placed past c moment note) past
placed-names past c moment note = session-names (session_of c moment past) past (spoken_of moment) (placed-stands past c moment note)
