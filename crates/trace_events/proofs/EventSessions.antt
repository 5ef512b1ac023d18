-- The session on which a judged event stands, by its channel.
use Rattle.std.proofs.Common.{◌≡◌, sym, ap, subst, ◌∙◌, ℕ, true, List, ◌∷◌, Some, None, is_some, option_and_then}
use Rattle.capture_form.specs.Rules.{RuleSet}
use Rattle.trace_events.specs.Frame.{Body, NoFrame, Empty, NoPerformative, Says, Spoken, spoken_in, channel_in}
use Rattle.trace_events.specs.Said.{out_begin}
use Rattle.trace_events.specs.Event.{Event, Moment, Opened, In, Out, Lost, Broken, spoken_of, channel_of, is_on_channel}
use Rattle.trace_events.specs.Session.{live_session, session_begun}
use Rattle.trace_events.specs.History.{judge, judge_unopened, moment_of, session_of}
use Rattle.trace_events.proofs.Judged.{AreJudged}
use Rattle.trace_events.proofs.Opens.{opened-session}
use Rattle.trace_events.proofs.Sessions.{begun_in}

-- ---- what is said is said on the channel

said_on : (body : Body) (spoken : Spoken) → spoken_in body ≡ Some spoken → channel_in body ≡ Some spoken.channel
said_on (Says given) spoken is = let same : given ≡ spoken = cc in ap (λ (s : Spoken). Some s.channel) same
said_on NoFrame spoken is = absurd cc
said_on (Empty channel) spoken is = absurd cc
said_on (NoPerformative channel) spoken is = absurd cc

pub spoken-channel : (m : Moment) (spoken : Spoken) → spoken_of m ≡ Some spoken → channel_of m ≡ Some spoken.channel
spoken-channel (In frame) spoken is = said_on frame.body spoken is
spoken-channel (Out frame) spoken is = said_on frame.body spoken is
spoken-channel Opened spoken is = absurd cc
spoken-channel Lost spoken is = absurd cc
spoken-channel Broken spoken is = absurd cc

-- ---- a begin that is written stands on the session that it begins

module _ (rules : RuleSet) (e : Event) (past : List Event) (are : AreJudged rules (e ∷ past)) where
  pub session-begun : (c channel : ℕ) → is_some (out_begin e) ≡ true → is_on_channel c channel e ≡ true → e.session ≡ session_begun c channel e past
  session-begun c channel begins on =
      let r = are.0.0 in
      let x = judge rules past r in
      let same : x ≡ e = sym are.0.1 in
      subst (λ (y : Event). y.session ≡ session_begun c channel y past) same
      (begun_in x.number c x.connection channel x.moment past (ap (λ (y : Event). is_some (out_begin y)) same ∙ begins) (ap (is_on_channel c channel) same ∙ on))

  -- any other stands on the live session of its channel
  pub session-live : out_begin e ≡ None → e.session ≡ session_of e.connection e.moment past
  session-live none =
      let r = are.0.0 in
      let x = judge rules past r in
      let same : x ≡ e = sym are.0.1 in
      let before : out_begin (judge_unopened rules past r.connection (moment_of r.what) r.note) ≡ None = ap out_begin same ∙ none in
      subst (λ (y : Event). y.session ≡ session_of y.connection y.moment past) same
      (opened-session (judge_unopened rules past r.connection (moment_of r.what) r.note) past before)

-- by what is said
pub said-live : (c : ℕ) (m : Moment) (past : List Event) (spoken : Spoken) → spoken_of m ≡ Some spoken → session_of c m past ≡ live_session c spoken.channel past
said-live c m past spoken is = ap (option_and_then (λ (spoken : Spoken). live_session c spoken.channel past)) is

pub unsaid-nowhere : (c : ℕ) (m : Moment) (past : List Event) → spoken_of m ≡ None → session_of c m past ≡ None
unsaid-nowhere c m past is = ap (option_and_then (λ (spoken : Spoken). live_session c spoken.channel past)) is
