-- The session on which an event stands lives, before what the event opens is filled in.
use Rattle.std.proofs.Common.{◌≡◌, refl, ap, ◌∙◌, ℕ, List, Option, Some, None, IfSome, option_and_then}
use Rattle.pairing_cert.specs.declared.note.Note.{Note}
use Rattle.trace_events.specs.Frame.{Spoken}
use Rattle.trace_events.specs.Event.{Event, Moment, spoken_of}
use Rattle.trace_events.specs.declared.session.Session.{Session}
use Rattle.trace_events.specs.Session.{live_session, IsLiveOn, StandsLive}
use Rattle.trace_events.specs.History.{placed}
use Rattle.trace_events.proofs.LinkLives.{live_session-at}

-- the live session of a channel is the live one of its own channel
pub live-on : (c channel : ℕ) (past : List Event) (s : Session) → live_session c channel past ≡ Some s → IsLiveOn s past
live-on c channel past s is =
    let at = live_session-at c channel past s is in
    ap (λ n. live_session n s.channel past) at.0 ∙ (ap (λ n. live_session c n past) at.1 ∙ is)

found-live : (c channel : ℕ) (past : List Event) (o : Option Session) → live_session c channel past ≡ o → IfSome o (λ s. IsLiveOn s past)
found-live c channel past None is = tt
found-live c channel past (Some s) is = live-on c channel past s is

spoken-live : (c : ℕ) (past : List Event) (o : Option Spoken) → IfSome (option_and_then (λ (spoken : Spoken). live_session c spoken.channel past) o) (λ s. IsLiveOn s past)
spoken-live c past None = tt
spoken-live c past (Some spoken) = found-live c spoken.channel past (live_session c spoken.channel past) refl

pub placed-stands : (past : List Event) (c : ℕ) (moment : Moment) (note : Note) → StandsLive (placed past c moment note) past
placed-stands past c moment note = spoken-live c past (spoken_of moment)
