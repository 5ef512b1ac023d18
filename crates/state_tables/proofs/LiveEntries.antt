-- What the entry of a live session, or of a channel, says.
use Rattle.std.proofs.Common.{◌≡◌, refl, ap, ◌∙◌, ℕ, Bool, true, false, List, Option, Some, None, is_some, option_map, if◌then◌else◌}
use Rattle.trace_events.specs.Event.{Event}
use Rattle.trace_events.specs.declared.session.Session.{Session}
use Rattle.trace_events.specs.Session.{live_session, last_in_begin, has_unanswered_begin}
use Rattle.state_counts.specs.Sessions.{counted, session_at}
use Rattle.state_tables.specs.Unanswered.{begin_to_answer}
use Rattle.state_counts.specs.declared.sessions.CountedSession.{CountedSession}
use Rattle.state_tables.proofs.UnansweredSteps.{asked-some}

pub live_is : (past : List Event) (o : Option Session) (found : Option CountedSession) → found ≡ option_map (λ s. counted s past) o → option_map (λ (x : CountedSession). x.session) found ≡ o
live_is past None found is = ap (option_map (λ (x : CountedSession). x.session)) is
live_is past (Some s) found is = ap (option_map (λ (x : CountedSession). x.session)) is

pub counts_live : (past : List Event) (s : Session) (found : Option CountedSession) → found ≡ session_at s.connection s.channel past → live_session s.connection s.channel past ≡ Some s → found ≡ Some (counted s past)
counts_live past s found is live = is ∙ ap (option_map (λ s. counted s past)) live

-- a begin stands there just where one is to be answered
pub begin_known : (c channel : ℕ) (past : List Event) → is_some (begin_to_answer c channel past) ≡ has_unanswered_begin c channel past
begin_known c channel past = by (has_unanswered_begin c channel past) (asked-some c channel past)
  where
    by : (b : Bool) → (b ≡ true → is_some (last_in_begin c channel past) ≡ true) → is_some (if b then last_in_begin c channel past else None) ≡ b
    by true has = has refl
    by false has = refl

pub begin_last : (c channel : ℕ) (past : List Event) → has_unanswered_begin c channel past ≡ true → begin_to_answer c channel past ≡ last_in_begin c channel past
begin_last c channel past is = ap (λ b. if b then last_in_begin c channel past else None) is
