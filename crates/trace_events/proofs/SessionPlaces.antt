-- A record stands on a session of its own connection.
use Rattle.std.proofs.Common.{◌≡◌, refl, sym, ap, subst, ◌∙◌, ℕ, Bool, true, false, ◌||◌, List, [], ◌∷◌, length, Option, Some, None, is_some, option_and_then, option_map, filter_map, find, if◌then◌else◌, ◌==◌}
use Rattle.std.specs.List.{cons_option}
use Rattle.std.proofs.lemmas.Bool.{eq-eqb}
use Rattle.amqp_perf.specs.declared.begin.Begin.{Begin}
use Rattle.capture_form.specs.declared.records.Record.{Record}
use Rattle.capture_form.specs.Rules.{RuleSet}
use Rattle.trace_events.specs.Words.{or_else}
use Rattle.trace_events.specs.Frame.{Frame, Spoken, spoken_in}
use Rattle.trace_events.specs.Said.{as_begin, out_begin}
use Rattle.trace_events.specs.Event.{Event, Moment, Opened, In, Out, Lost, Broken, out_frame, is_out, is_on_channel}
use Rattle.trace_events.specs.declared.session.Session.{Session}
use Rattle.trace_events.specs.Connection.{is_over, has_out_frame}
use Rattle.trace_events.specs.Session.{live_session, last_session, last_in_begin, new_session, session_begun, begins_out, ends_in, ends_out, own_session, session_at}
use Rattle.trace_events.specs.History.{judge, moment_of, session_of}
use Rattle.trace_events.proofs.Along.{and_first, and_last, and_then_some, if_some}
use Rattle.trace_events.proofs.ConnectionSteps.{has_out_frame-here, has_out_frame-stays}
use Rattle.trace_events.proofs.Judged.{AreJudged}
use Rattle.trace_events.proofs.LinkLives.{live_session-at}
use Rattle.trace_events.proofs.Sessions.{begin_in}

-- ---- the session on which an event stands is of the event's connection

new_connection : (number c channel : ℕ) (ours : Begin) (theirs : Option Begin) → (new_session number c channel ours theirs).connection ≡ c
new_connection number c channel ours (Some theirs) = refl
new_connection number c channel ours None = refl

-- of what begins a session, or stands on a live one
begun_or_live : (number c channel : ℕ) (begin : Option Begin) (past : List Event) (s : Session)
    → or_else (option_map (λ (ours : Begin). new_session number c channel ours (last_in_begin c channel past)) begin) (live_session c channel past) ≡ Some s → s.connection ≡ c
begun_or_live number c channel None past s is = (live_session-at c channel past s is).0
begun_or_live number c channel (Some ours) past s is = ap (λ (t : Session). t.connection) (sym some) ∙ new_connection number c channel ours (last_in_begin c channel past)
  where
    some : new_session number c channel ours (last_in_begin c channel past) ≡ s
    some = cc

said_place : (number c : ℕ) (o : Option Spoken) (past : List Event) (s : Session)
    → or_else
    (option_and_then (λ (spoken : Spoken). option_map (λ (ours : Begin). new_session number c spoken.channel ours (last_in_begin c spoken.channel past)) (option_and_then as_begin (option_map (λ (spoken : Spoken). spoken.meaning) o))) o)
    (option_and_then (λ (spoken : Spoken). live_session c spoken.channel past) o) ≡ Some s
    → s.connection ≡ c
said_place number c None past s is = absurd cc
said_place number c (Some spoken) past s is = begun_or_live number c spoken.channel (as_begin spoken.meaning) past s is

moment_place : (number c : ℕ) (m : Moment) (past : List Event) (s : Session)
    → or_else
    (option_and_then (λ (spoken : Spoken). option_map (λ (ours : Begin). new_session number c spoken.channel ours (last_in_begin c spoken.channel past)) (begin_in m)) (option_and_then (λ (frame : Frame). spoken_in frame.body) (out_frame m)))
    (session_of c m past) ≡ Some s
    → s.connection ≡ c
moment_place number c (Out frame) past s is = said_place number c (spoken_in frame.body) past s is
moment_place number c (In frame) past s is =
    let step = and_then_some (λ (spoken : Spoken). live_session c spoken.channel past) (spoken_in frame.body) s is in
    (live_session-at c step.0.channel past s step.2).0
moment_place number c Opened past s is = absurd cc
moment_place number c Lost past s is = absurd cc
moment_place number c Broken past s is = absurd cc

pub session-connection : (rules : RuleSet) (past : List Event) (r : Record) (s : Session) → (judge rules past r).session ≡ Some s → s.connection ≡ r.connection
session-connection rules past r s is = moment_place (length past) r.connection (moment_of r.what) past s is

-- of judged events
pub judged-connection : (rules : RuleSet) (e : Event) (past : List Event) (s : Session) → AreJudged rules (e ∷ past) → e.session ≡ Some s → s.connection ≡ e.connection
judged-connection rules e past s ((r, same), are) is =
    session-connection rules past r s (subst (λ (x : Event). x.session ≡ Some s) same is) ∙ ap (λ (x : Event). x.connection) (sym same)

-- ---- where a session was begun a frame was written

pub begun-out : (m : Moment) → is_some (begin_in m) ≡ true → is_out m ≡ true
begun-out (Out frame) is = refl
begun-out (In frame) is = absurd cc
begun-out Opened is = absurd cc
begun-out Lost is = absurd cc
begun-out Broken is = absurd cc

last_by : (c channel : ℕ) (e : Event) (past : List Event) (s : Session) (ended begun : Bool) → begins_out c channel e ≡ begun → (last_session c channel past ≡ Some s → has_out_frame c past ≡ true)
    → (if ended then None else if begun then session_begun c channel e past else last_session c channel past) ≡ Some s → has_out_frame c (e ∷ past) ≡ true
last_by c channel e past s true begun begins earlier is = absurd cc
last_by c channel e past s false true begins earlier is =
    has_out_frame-here c e past (begun-out e.moment (and_first (is_some (out_begin e)) (is_on_channel c channel e) begins)) (and_last _ (e.connection == c) (and_last (is_some (out_begin e)) (is_on_channel c channel e) begins))
last_by c channel e past s false false begins earlier is = has_out_frame-stays c e past (earlier is)

pub last_session-framed : (c channel : ℕ) (past : List Event) (s : Session) → last_session c channel past ≡ Some s → has_out_frame c past ≡ true
last_session-framed c channel [] s is = absurd cc
last_session-framed c channel (e ∷ past) s is =
    last_by c channel e past s (ends_in c channel e || ends_out c channel e) (begins_out c channel e) refl (last_session-framed c channel past s) is

pub live_session-framed : (c channel : ℕ) (past : List Event) (s : Session) → live_session c channel past ≡ Some s → has_out_frame c past ≡ true
live_session-framed c channel past s is = by (is_over c past) is
  where
    by : (b : Bool) → (if b then None else last_session c channel past) ≡ Some s → has_out_frame c past ≡ true
    by true is = absurd cc
    by false is = last_session-framed c channel past s is

module _ (rules : RuleSet) (e : Event) (past : List Event) (are : AreJudged rules (e ∷ past)) (n : ℕ) (s : Session) (earlier : session_at n past ≡ Some s → has_out_frame s.connection past ≡ true) where
  own_framed : (t : Session) → own_session e ≡ Some t → has_out_frame t.connection (e ∷ past) ≡ true
  own_framed t own =
      let begun = if_some (is_some (out_begin e)) e.session t own in
      has_out_frame-here t.connection e past (begun-out e.moment begun.0) (eq-eqb e.connection t.connection (sym (judged-connection rules e past t are begun.1)))

  found_by : (t : Session) → own_session e ≡ Some t → (b : Bool) → (if b then Some t else session_at n past) ≡ Some s → has_out_frame s.connection (e ∷ past) ≡ true
  found_by t own true is = let same : t ≡ s = cc in subst (λ (x : Session). has_out_frame x.connection (e ∷ past) ≡ true) same (own_framed t own)
  found_by t own false is = has_out_frame-stays s.connection e past (earlier is)

  at_framed : (o : Option Session) → own_session e ≡ o → find (λ (t : Session). t.number == n) (cons_option o (filter_map own_session past)) ≡ Some s → has_out_frame s.connection (e ∷ past) ≡ true
  at_framed None own is = has_out_frame-stays s.connection e past (earlier is)
  at_framed (Some t) own is = found_by t own (t.number == n) is

pub session_at-framed : (rules : RuleSet) (past : List Event) (n : ℕ) (s : Session) → AreJudged rules past → session_at n past ≡ Some s → has_out_frame s.connection past ≡ true
session_at-framed rules [] n s are is = absurd cc
session_at-framed rules (e ∷ past) n s are is = at_framed rules e past are n s (session_at-framed rules past n s are.1) (own_session e) refl is
