-- A connection that is over stays so, and no session or link of it lives or opens any more.
use Rattle.std.proofs.Common.{◌≡◌, refl, ap, subst, ◌∙◌, ℕ, Bool, true, false, ◌&&◌, ◌||◌, List, [], ◌∷◌, length, Option, Some, None, option_and_then, ◌==◌}
use Rattle.amqp_perf.specs.Meaning.{AttachFields}
use Rattle.capture_form.specs.declared.records.Record.{Record}
use Rattle.capture_form.specs.Rules.{RuleSet}
use Rattle.trace_events.specs.Words.{is_some_and, or_else, where_passes}
use Rattle.trace_events.specs.Frame.{Spoken}
use Rattle.trace_events.specs.Said.{out_begin}
use Rattle.trace_events.specs.Event.{Event, Link, Moment, spoken_of}
use Rattle.trace_events.specs.declared.session.Session.{Session}
use Rattle.trace_events.specs.Connection.{has_event, is_over}
use Rattle.trace_events.specs.Session.{live_session, is_live_session}
use Rattle.trace_events.specs.Link.{live_link, is_live, own_link}
use Rattle.trace_events.specs.History.{judge, judge_unopened, continued, moment_of, session_of, link_of, named_link}
use Rattle.trace_events.proofs.StepWords.{and-false, or-true}
use Rattle.trace_events.proofs.Judged.{AreJudged}
use Rattle.trace_events.proofs.Links.{attach_in, opened_by}
use Rattle.trace_events.proofs.Opens.{opened-session}

-- ---- one of a connection's events

module _ (c : ℕ) (test : Event → Bool) (e : Event) (past : List Event) where
  pub has_event-same : test e ≡ false → has_event c test (e ∷ past) ≡ has_event c test past
  has_event-same none = ap (λ b. b && (e.connection == c) || has_event c test past) none

  pub has_event-own : (e.connection == c) ≡ true → has_event c test (e ∷ past) ≡ test e || has_event c test past
  has_event-own own = ap (λ b. b || has_event c test past) (by (test e) (e.connection == c) own)
    where
      by : (a b : Bool) → b ≡ true → a && b ≡ a
      by true b is = is
      by false b is = refl

  pub has_event-other : (e.connection == c) ≡ false → has_event c test (e ∷ past) ≡ has_event c test past
  has_event-other other = rw other (simp and-false)

  pub has_event-stays : has_event c test past ≡ true → has_event c test (e ∷ past) ≡ true
  has_event-stays before = rw before (simp or-true)

pub has_event-continued : (c : ℕ) (test : Event → Bool) (rules : RuleSet) (past : List Event) (rs : List Record) → has_event c test past ≡ true → has_event c test (continued rules past rs) ≡ true
has_event-continued c test rules past [] is = is
has_event-continued c test rules past (r ∷ rs) is = has_event-continued c test rules (judge rules past r ∷ past) rs (has_event-stays c test (judge rules past r) past is)

-- ---- nothing of a connection that is over lives

pub over-no_session : (c channel : ℕ) (past : List Event) → is_over c past ≡ true → live_session c channel past ≡ None
over-no_session c channel past over = rw over refl

pub over-not_live_session : (s : Session) (past : List Event) → is_over s.connection past ≡ true → is_live_session past s ≡ false
over-not_live_session s past over = ap (λ o. is_some_and o (λ (t : Session). t.number == s.number)) (over-no_session s.connection s.channel past over)

pub over-no_link : (c channel handle : ℕ) (past : List Event) → is_over c past ≡ true → live_link c channel handle past ≡ None
over-no_link c channel handle past over = rw over refl

pub over-not_live : (l : Link) (past : List Event) → is_over l.session.connection past ≡ true → is_live past l ≡ false
over-not_live l past over = ap (λ o. is_some_and o (λ (m : Link). m.number == l.number)) (over-no_link l.session.connection l.session.channel l.handle past over)

-- ---- its records stand on no session, and name and open no link

none_said : (c : ℕ) (past : List Event) (o : Option Spoken) → is_over c past ≡ true → option_and_then (λ (spoken : Spoken). live_session c spoken.channel past) o ≡ None
none_said c past None over = refl
none_said c past (Some spoken) over = over-no_session c spoken.channel past over

pub over-session_of : (c : ℕ) (m : Moment) (past : List Event) → is_over c past ≡ true → session_of c m past ≡ None
over-session_of c m past over = none_said c past (spoken_of m) over

module _ (rules : RuleSet) (past : List Event) (r : Record) (over : is_over r.connection past ≡ true) where
  -- but for the session of a begin that is written
  pub over-stands_nowhere : out_begin (judge rules past r) ≡ None → (judge rules past r).session ≡ None
  over-stands_nowhere none =
      opened-session (judge_unopened rules past r.connection (moment_of r.what) r.note) past none ∙ over-session_of r.connection (moment_of r.what) past over

  none_of : (o : Option Session) → o ≡ None → option_and_then (λ (s : Session). option_and_then (λ (spoken : Spoken). named_link s spoken.meaning past) (spoken_of (moment_of r.what))) o ≡ None
  none_of None is = refl
  none_of (Some s) is = absurd cc

  none_opened : (attach : Option AttachFields) (o : Option Session) → o ≡ None → opened_by (length past) attach o past ≡ None
  none_opened None o is = refl
  none_opened (Some fields) None is = refl
  none_opened (Some fields) (Some s) is = absurd cc

  or_none : (o p : Option Link) → o ≡ None → p ≡ None → or_else o p ≡ None
  or_none None p is none = none
  or_none (Some l) p is none = absurd cc

  -- neither does one name or open a link
  pub over-names_none : (judge rules past r).link ≡ None
  over-names_none =
      let m = moment_of r.what in
      let session = session_of r.connection m past in
      let nowhere : session ≡ None = over-session_of r.connection m past over in
      or_none (opened_by (length past) (attach_in m) session past) (link_of m past session) (none_opened (attach_in m) session nowhere) (none_of session nowhere)

-- of judged events
pub over-no_link_here : (rules : RuleSet) (e : Event) (past : List Event) → AreJudged rules (e ∷ past) → is_over e.connection past ≡ true → e.link ≡ None
over-no_link_here rules e past ((r, same), are) over =
    let here : is_over r.connection past ≡ true = subst (λ (x : Event). is_over x.connection past ≡ true) same over in
    ap (λ (x : Event). x.link) same ∙ over-names_none rules past r here

pub over-no_session_here : (rules : RuleSet) (e : Event) (past : List Event) → AreJudged rules (e ∷ past) → is_over e.connection past ≡ true → out_begin e ≡ None → e.session ≡ None
over-no_session_here rules e past ((r, same), are) over none =
    let here : is_over r.connection past ≡ true = subst (λ (x : Event). is_over x.connection past ≡ true) same over in
    ap (λ (x : Event). x.session) same ∙ over-stands_nowhere rules past r here (subst (λ (x : Event). out_begin x ≡ None) same none)

-- so none opens
pub over-opens_none : (rules : RuleSet) (e : Event) (past : List Event) → AreJudged rules (e ∷ past) → is_over e.connection past ≡ true → own_link e ≡ None
over-opens_none rules e past are over = ap (where_passes (λ (l : Link). l.number == e.number)) (over-no_link_here rules e past are over)
