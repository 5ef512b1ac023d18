-- What one more event does to the sessions of channels.
use Rattle.std.proofs.Common.{◌≡◌, refl, ap, ◌∙◌, ℕ, Bool, true, false, ◌&&◌, ◌||◌, List, ◌∷◌, Option, Some, None, is_some, is_none, filter, if◌then◌else◌, ◌==◌}
use Rattle.std.specs.List.{filter_map, cons_option}
use Rattle.trace_events.specs.Words.{is_some_and}
use Rattle.trace_events.specs.Event.{Event}
use Rattle.trace_events.specs.declared.session.Session.{Session}
use Rattle.trace_events.specs.Said.{in_begin}
use Rattle.trace_events.specs.Connection.{is_final, is_over}
use Rattle.trace_events.specs.Session.{last_in_begin, session_begun, last_session, live_session, is_live_session, is_unended, awaits_end, own_session, live_sessions, begins_in, begins_out, ends_in, ends_out, has_unanswered_begin, owes_end}
use Rattle.trace_events.proofs.StepWords.{and-false, or-true, filter-by, filter-both}
use Rattle.trace_events.proofs.ConnectionSteps.{is_over-stays}
use Rattle.trace_events.proofs.Elsewhere.{last_session-other, live_session-other, awaits_end-other}

module _ (c channel : ℕ) (e : Event) (past : List Event) where
  -- ---- the client's last begin

  pub last_in_begin-same : begins_in c channel e ≡ false → last_in_begin c channel (e ∷ past) ≡ last_in_begin c channel past
  last_in_begin-same none = rw none refl

  pub last_in_begin-here : begins_in c channel e ≡ true → last_in_begin c channel (e ∷ past) ≡ in_begin e
  last_in_begin-here begins = rw begins refl

  pub last_in_begin-other : (e.connection == c) ≡ false → last_in_begin c channel (e ∷ past) ≡ last_in_begin c channel past
  last_in_begin-other other = rw other (simp and-false)

  -- ---- the session

  pub last_session-same : ends_in c channel e ≡ false → ends_out c channel e ≡ false → begins_out c channel e ≡ false
      → last_session c channel (e ∷ past) ≡ last_session c channel past
  last_session-same theirs ours begins = rw (theirs, ours, begins) refl

  pub last_session-ended_in : ends_in c channel e ≡ true → last_session c channel (e ∷ past) ≡ None
  last_session-ended_in theirs = rw theirs refl

  pub last_session-ended_out : ends_out c channel e ≡ true → last_session c channel (e ∷ past) ≡ None
  last_session-ended_out ours = rw ours (simp or-true)

  pub last_session-begun : ends_in c channel e ≡ false → ends_out c channel e ≡ false → begins_out c channel e ≡ true
      → last_session c channel (e ∷ past) ≡ session_begun c channel e past
  last_session-begun theirs ours begins = rw (theirs, ours, begins) refl

  pub live_session-same : is_final e.moment ≡ false → ends_in c channel e ≡ false → ends_out c channel e ≡ false → begins_out c channel e ≡ false
      → live_session c channel (e ∷ past) ≡ live_session c channel past
  live_session-same final theirs ours begins = rw (final, theirs, ours, begins) refl

  pub live_session-over : is_final e.moment ≡ true → (e.connection == c) ≡ true → live_session c channel (e ∷ past) ≡ None
  live_session-over final own = rw (final, own) refl

  pub live_session-was_over : is_over c past ≡ true → live_session c channel (e ∷ past) ≡ None
  live_session-was_over over = rw (is_over-stays c e past over) refl

  pub live_session-ended : last_session c channel (e ∷ past) ≡ None → live_session c channel (e ∷ past) ≡ None
  live_session-ended none = by (is_over c (e ∷ past)) (last_session c channel (e ∷ past)) none
    where
      by : (b : Bool) (o : Option Session) → o ≡ None → (if b then None else o) ≡ None
      by true o is = refl
      by false o is = is

  pub live_session-begun : is_over c past ≡ false → is_final e.moment ≡ false → ends_in c channel e ≡ false → ends_out c channel e ≡ false → begins_out c channel e ≡ true
      → live_session c channel (e ∷ past) ≡ session_begun c channel e past
  live_session-begun alive final theirs ours begins = rw (final, theirs, ours, begins, alive) refl

  -- ---- ends that are awaited

  pub is_unended-same : begins_out c channel e ≡ false → ends_in c channel e ≡ false → is_unended c channel (e ∷ past) ≡ is_unended c channel past
  is_unended-same begins theirs = rw (begins, theirs) refl

  pub is_unended-begun : begins_out c channel e ≡ true → is_unended c channel (e ∷ past) ≡ true
  is_unended-begun begins = rw begins refl

  pub is_unended-ended : begins_out c channel e ≡ false → ends_in c channel e ≡ true → is_unended c channel (e ∷ past) ≡ false
  is_unended-ended begins theirs = rw (begins, theirs) refl

  pub is_unended-other : (e.connection == c) ≡ false → is_unended c channel (e ∷ past) ≡ is_unended c channel past
  is_unended-other other = rw other (simp and-false)

  pub awaits_end-same : begins_out c channel e ≡ false → ends_in c channel e ≡ false → ends_out c channel e ≡ false
      → awaits_end c channel (e ∷ past) ≡ awaits_end c channel past
  awaits_end-same begins theirs ours = rw (begins, theirs, ours) refl

  pub awaits_end-begun : begins_out c channel e ≡ true → awaits_end c channel (e ∷ past) ≡ false
  awaits_end-begun begins = rw begins refl

  pub awaits_end-ended_in : ends_in c channel e ≡ true → awaits_end c channel (e ∷ past) ≡ false
  awaits_end-ended_in theirs = rw theirs (simp or-true)

  pub awaits_end-ended_out : begins_out c channel e ≡ false → ends_in c channel e ≡ false → ends_out c channel e ≡ true
      → awaits_end c channel (e ∷ past) ≡ is_unended c channel past
  awaits_end-ended_out begins theirs ours = rw (begins, theirs, ours) refl

  -- ---- begins and ends that are to be answered

  pub has_unanswered_begin-same : begins_out c channel e ≡ false → begins_in c channel e ≡ false
      → has_unanswered_begin c channel (e ∷ past) ≡ has_unanswered_begin c channel past
  has_unanswered_begin-same ours theirs = rw (ours, theirs) refl

  pub has_unanswered_begin-answered : begins_out c channel e ≡ true → has_unanswered_begin c channel (e ∷ past) ≡ false
  has_unanswered_begin-answered ours = rw ours refl

  pub has_unanswered_begin-asked : begins_out c channel e ≡ false → begins_in c channel e ≡ true → e.is_heard ≡ true → is_none e.fault ≡ true
      → has_unanswered_begin c channel (e ∷ past) ≡ true
  has_unanswered_begin-asked ours theirs heard good = rw (ours, theirs, heard, good) refl

  pub has_unanswered_begin-unheard : begins_out c channel e ≡ false → e.is_heard ≡ false → has_unanswered_begin c channel (e ∷ past) ≡ has_unanswered_begin c channel past
  has_unanswered_begin-unheard ours unheard = rw (ours, unheard) (simp and-false)

  pub has_unanswered_begin-faulty : begins_out c channel e ≡ false → is_none e.fault ≡ false → has_unanswered_begin c channel (e ∷ past) ≡ has_unanswered_begin c channel past
  has_unanswered_begin-faulty ours faulty = rw (ours, faulty) (simp and-false)

  pub has_unanswered_begin-other : (e.connection == c) ≡ false → has_unanswered_begin c channel (e ∷ past) ≡ has_unanswered_begin c channel past
  has_unanswered_begin-other other = rw other (simp and-false)

  pub owes_end-same : ends_out c channel e ≡ false → ends_in c channel e ≡ false → owes_end c channel (e ∷ past) ≡ owes_end c channel past
  owes_end-same ours theirs = rw (ours, theirs) refl

  pub owes_end-answered : ends_out c channel e ≡ true → owes_end c channel (e ∷ past) ≡ false
  owes_end-answered ours = rw ours refl

  pub owes_end-ended : ends_out c channel e ≡ false → ends_in c channel e ≡ true → owes_end c channel (e ∷ past) ≡ is_some e.session || owes_end c channel past
  owes_end-ended ours theirs = rw (ours, theirs) refl

  pub owes_end-other : (e.connection == c) ≡ false → owes_end c channel (e ∷ past) ≡ owes_end c channel past
  owes_end-other other = rw other (simp and-false)

-- ---- the sessions that live

module _ (e : Event) (past : List Event) where
  pub is_live_session-same : (s : Session) → live_session s.connection s.channel (e ∷ past) ≡ live_session s.connection s.channel past
      → is_live_session (e ∷ past) s ≡ is_live_session past s
  is_live_session-same s same = ap (λ o. is_some_and o (λ (t : Session). t.number == s.number)) same

  pub live_sessions-same : own_session e ≡ None → ((s : Session) → is_live_session (e ∷ past) s ≡ is_live_session past s)
      → live_sessions (e ∷ past) ≡ live_sessions past
  live_sessions-same none same = rw none (filter-by (is_live_session (e ∷ past)) (is_live_session past) same (filter_map own_session past))

  -- those that pass, where it begins none
  pub live_sessions-fewer : (test : Session → Bool) → own_session e ≡ None → ((s : Session) → is_live_session (e ∷ past) s ≡ is_live_session past s && test s)
      → live_sessions (e ∷ past) ≡ filter test (live_sessions past)
  live_sessions-fewer test none fewer = rw none (filter-both (is_live_session (e ∷ past)) (is_live_session past) test fewer (filter_map own_session past))

  -- one more, where it leaves those before it
  pub live_sessions-begun : (s : Session) → own_session e ≡ Some s → is_live_session (e ∷ past) s ≡ true
      → filter (is_live_session (e ∷ past)) (filter_map own_session past) ≡ live_sessions past → live_sessions (e ∷ past) ≡ s ∷ live_sessions past
  live_sessions-begun s new live same =
      ap (λ o. filter (is_live_session (e ∷ past)) (cons_option o (filter_map own_session past))) new
      ∙ (ap (λ b. if b then s ∷ filter (is_live_session (e ∷ past)) (filter_map own_session past) else filter (is_live_session (e ∷ past)) (filter_map own_session past)) live
      ∙ ap (λ rest. s ∷ rest) same)

pub ruleset session_steps = (
  last_in_begin-same,
  last_in_begin-here,
  last_in_begin-other,
  last_session-same,
  last_session-ended_in,
  last_session-ended_out,
  last_session-begun,
  live_session-same,
  live_session-over,
  live_session-was_over,
  live_session-ended,
  live_session-begun,
  is_unended-same,
  is_unended-begun,
  is_unended-ended,
  is_unended-other,
  awaits_end-same,
  awaits_end-begun,
  awaits_end-ended_in,
  awaits_end-ended_out,
  has_unanswered_begin-same,
  has_unanswered_begin-answered,
  has_unanswered_begin-asked,
  has_unanswered_begin-unheard,
  has_unanswered_begin-faulty,
  has_unanswered_begin-other,
  owes_end-same,
  owes_end-answered,
  owes_end-ended,
  owes_end-other,
  is_live_session-same,
  live_sessions-same,
  live_sessions-fewer,
  live_sessions-begun,
  last_session-other,
  live_session-other,
  awaits_end-other,
)
