-- In a lawful capture what was written stands on a connection that was opened, and whose first frame was an open; so does
-- each session that was begun.
use Rattle.std.proofs.Common.{◌≡◌, refl, sym, ap, ◌∙◌, ℕ, Bool, true, false, not, ◌&&◌, ◌||◌, List, [], ◌∷◌, Option, Some, None, is_some, option_and_then, option_map, if◌then◌else◌, ◌==◌, eqb-true}
use Rattle.std.specs.Prelude.{is_none}
use Rattle.amqp_perf.specs.Meaning.{Meaning, AnOpen, ABegin, AnAttach, AFlow, ATransfer, ADisposition, ADetach, AnEnd, AClose, OpenFields}
use Rattle.capture_form.specs.Rules.{RuleSet}
use Rattle.trace_events.specs.declared.clause.Clause.{Clause}
use Rattle.trace_events.specs.declared.clause.Clause.TheVariants.{L1}
use Rattle.trace_events.specs.Words.{is_some_and}
use Rattle.trace_events.specs.Frame.{Frame, Spoken, spoken_in}
use Rattle.trace_events.specs.Said.{as_open, as_begin, is_close, out_spoken, out_open, out_begin, is_in_close, is_out_close}
use Rattle.trace_events.specs.Event.{Event, Moment, Opened, In, Out, Lost, Broken, in_frame, out_frame, is_out, is_lost, is_broken}
use Rattle.trace_events.specs.declared.session.Session.{Session}
use Rattle.trace_events.specs.Connection.{is_final, is_over, was_opened, was_finished, was_stopped, has_out_frame, has_out_open}
use Rattle.trace_events.specs.Session.{live_session, last_session, own_session, session_at}
use Rattle.trace_events.specs.Heard.{is_of_connection}
use Rattle.trace_events.specs.ConnectionClause.{may_be_written, is_open_in_place, fits_limit}
use Rattle.trace_events.specs.Clauses.{first_broken, broken_by, broken_at}
use Rattle.trace_events.proofs.Along.{and_first, and_last}
use Rattle.trace_events.proofs.ConnectionSteps.{was_opened-stays, has_out_open-stays, has_out_open-here}
use Rattle.trace_events.proofs.Judged.{AreJudged}
use Rattle.trace_events.proofs.SessionPlaces.{begun-out, last_session-framed, live_session-framed, session_at-framed}
use Rattle.trace_events.proofs.ClausesMet.{met, lawful-past, lawful-here}
use Rattle.trace_events.proofs.OneConsumer.{not-true}

-- ---- what is written

-- a performative in its place: of a connection that was opened and is not finished, an open just where it is the first
-- frame, within the limit
pub record IsInPlace (e : Event) (past : List Event) : Type 0 where
  pub frame : Frame
  pub spoken : Spoken
  pub written : e.moment ≡ Out frame
  pub says : spoken_in frame.body ≡ Some spoken
  pub opened : was_opened e.connection past ≡ true
  pub unfinished : was_finished e.connection past ≡ false
  pub in_place : is_open_in_place e.connection spoken.meaning past ≡ true
  pub unstopped : is_of_connection spoken.meaning || not (was_stopped e.connection past) ≡ true
  pub fits : fits_limit e.connection frame past ≡ true

frame_of : (m : Moment) → is_out m ≡ true → (frame : Frame) × (m ≡ Out frame)
frame_of (Out frame) is = (frame, refl)
frame_of (In frame) is = absurd cc
frame_of Opened is = absurd cc
frame_of Lost is = absurd cc
frame_of Broken is = absurd cc

module _ (rules : RuleSet) (e : Event) (past : List Event) (lawful : first_broken rules (e ∷ past) ≡ None) where
  spoken_of : (frame : Frame) → e.moment ≡ Out frame → (o : Option Spoken) → spoken_in frame.body ≡ o → (spoken : Spoken) × (spoken_in frame.body ≡ Some spoken)
  spoken_of frame written None is =
      let never : ◌≡◌ {A = Option Clause} (Some L1) None = sym (ap (broken_by rules e frame past) is) ∙ (sym (ap (broken_at rules e past) written) ∙ lawful-here rules e past lawful) in absurd cc
  spoken_of frame written (Some spoken) is = (spoken, is)

  pub written-in_place : is_out e.moment ≡ true → IsInPlace e past
  written-in_place is =
      let f = frame_of e.moment is in
      let s = spoken_of f.0 f.1 (spoken_in f.0.body) refl in
      let one = met rules e past lawful f.0 f.1 s.0 s.1 L1 in
      let may : may_be_written e.connection s.0.meaning past ≡ true = and_first _ _ one in
      let three = and_first _ _ may in
      let two = and_first _ _ three in
      record {
        frame = f.0;
        spoken = s.0;
        written = f.1;
        says = s.1;
        opened = and_first (was_opened e.connection past) (not (was_finished e.connection past)) two;
        unfinished = not-true (was_finished e.connection past) (and_last (was_opened e.connection past) (not (was_finished e.connection past)) two);
        in_place = and_last (was_opened e.connection past && not (was_finished e.connection past)) (is_open_in_place e.connection s.0.meaning past) three;
        unstopped = and_last _ (is_of_connection s.0.meaning || not (was_stopped e.connection past)) may;
        fits = and_last _ (fits_limit e.connection f.0 past) one;
      }

-- ---- where a frame was written the connection was opened, and an open was written

open_in : (e : Event) (frame : Frame) (spoken : Spoken) → e.moment ≡ Out frame → spoken_in frame.body ≡ Some spoken → out_open e ≡ as_open spoken.meaning
open_in e frame spoken written says =
    let said : out_spoken e ≡ Some spoken = ap (λ m. option_and_then (λ (f : Frame). spoken_in f.body) (out_frame m)) written ∙ says in
    ap (λ o. option_and_then as_open (option_map (λ (spoken : Spoken). spoken.meaning) o)) said

first_is_open : (before : Bool) (opening : Option OpenFields) → before ≡ false → (if before then is_none opening else is_some opening) ≡ true → is_some opening ≡ true
first_is_open true opening is e = absurd cc
first_is_open false opening is e = e

module _ (rules : RuleSet) (c : ℕ) (e : Event) (past : List Event) (lawful : first_broken rules (e ∷ past) ≡ None)
    (earlier : has_out_frame c past ≡ true → (was_opened c past ≡ true) × (has_out_open c past ≡ true)) where
  framed_here : has_out_frame c past ≡ false → is_out e.moment ≡ true → (e.connection == c) ≡ true → (was_opened c (e ∷ past) ≡ true) × (has_out_open c (e ∷ past) ≡ true)
  framed_here none out own =
      let place = written-in_place rules e past lawful out in
      let same : e.connection ≡ c = eqb-true e.connection c own in
      let opened : was_opened c past ≡ true = ap (λ n. was_opened n past) (sym same) ∙ place.opened in
      let before : has_out_frame e.connection past ≡ false = ap (λ n. has_out_frame n past) same ∙ none in
      let opens : is_some (as_open place.spoken.meaning) ≡ true = first_is_open (has_out_frame e.connection past) (as_open place.spoken.meaning) before place.in_place in
      let written : is_some (out_open e) ≡ true = ap is_some (open_in e place.frame place.spoken place.written place.says) ∙ opens in
      (was_opened-stays c e past opened, has_out_open-here c e past written own)

  framed_by : (b : Bool) → has_out_frame c past ≡ b → is_out e.moment && (e.connection == c) || b ≡ true → (was_opened c (e ∷ past) ≡ true) × (has_out_open c (e ∷ past) ≡ true)
  framed_by true before is = let h = earlier before in (was_opened-stays c e past h.0, has_out_open-stays c e past h.1)
  framed_by false none is = let here = or_none (is_out e.moment && (e.connection == c)) is in framed_here none (and_first (is_out e.moment) (e.connection == c) here) (and_last (is_out e.moment) (e.connection == c) here)
    where
      or_none : (b : Bool) → b || false ≡ true → b ≡ true
      or_none true is = refl
      or_none false is = is

pub lawful-framed : (rules : RuleSet) (c : ℕ) (past : List Event) → first_broken rules past ≡ None → has_out_frame c past ≡ true → (was_opened c past ≡ true) × (has_out_open c past ≡ true)
lawful-framed rules c [] lawful is = absurd cc
lawful-framed rules c (e ∷ past) lawful is = framed_by rules c e past lawful (lawful-framed rules c past (lawful-past rules e past lawful)) (has_out_frame c past) refl is

-- ---- so it is of the sessions that were begun

pub last_session-opened : (rules : RuleSet) (c channel : ℕ) (past : List Event) (s : Session) → first_broken rules past ≡ None → last_session c channel past ≡ Some s
    → (was_opened c past ≡ true) × (has_out_open c past ≡ true)
last_session-opened rules c channel past s lawful is = lawful-framed rules c past lawful (last_session-framed c channel past s is)

pub live_session-opened : (rules : RuleSet) (c channel : ℕ) (past : List Event) (s : Session) → first_broken rules past ≡ None → live_session c channel past ≡ Some s
    → (was_opened c past ≡ true) × (has_out_open c past ≡ true)
live_session-opened rules c channel past s lawful is = lawful-framed rules c past lawful (live_session-framed c channel past s is)

pub session_at-opened : (rules : RuleSet) (past : List Event) (n : ℕ) (s : Session) → AreJudged rules past → first_broken rules past ≡ None → session_at n past ≡ Some s
    → (was_opened s.connection past ≡ true) × (has_out_open s.connection past ≡ true)
session_at-opened rules past n s are lawful is = lawful-framed rules s.connection past lawful (session_at-framed rules past n s are is)

-- ---- on a connection that is over nothing is written but opens and closes

-- what ends a connection is one of four
final_by : (m : Moment) → is_final m ≡ true
    → (is_lost m || is_some_and (option_map (λ (spoken : Spoken). spoken.meaning) (option_and_then (λ (f : Frame). spoken_in f.body) (out_frame m))) is_close)
    || (is_broken m || is_some_and (option_map (λ (spoken : Spoken). spoken.meaning) (option_and_then (λ (f : Frame). spoken_in f.body) (in_frame m))) is_close) ≡ true
final_by Lost is = refl
final_by Broken is = refl
final_by Opened is = absurd cc
final_by (In frame) is = by (spoken_in frame.body) is
  where
    by : (o : Option Spoken) → is_some_and o (λ (spoken : Spoken). is_close spoken.meaning) ≡ true → is_some_and (option_map (λ (spoken : Spoken). spoken.meaning) o) is_close ≡ true
    by None is = absurd cc
    by (Some spoken) is = is
final_by (Out frame) is = ap (λ b. b || false) (by (spoken_in frame.body) is)
  where
    by : (o : Option Spoken) → is_some_and o (λ (spoken : Spoken). is_close spoken.meaning) ≡ true → is_some_and (option_map (λ (spoken : Spoken). spoken.meaning) o) is_close ≡ true
    by None is = absurd cc
    by (Some spoken) is = is

none_final : (final own finish stop : Bool) → (final ≡ true → finish || stop ≡ true) → finish && own ≡ false → stop && own ≡ false → final && own ≡ false
none_final false own finish stop h a b = refl
none_final true false finish stop h a b = refl
none_final true true false false h a b = sym (h refl)
none_final true true true stop h a b = a
none_final true true false true h a b = b

or_none : (a b : Bool) → a || b ≡ false → (a ≡ false) × (b ≡ false)
or_none true b is = absurd cc
or_none false b is = (refl, is)

both_none : (a b : Bool) → a ≡ false → b ≡ false → a || b ≡ false
both_none true b is none = absurd cc
both_none false b is none = none

-- a connection that is neither finished nor stopped is not over
pub not-over : (c : ℕ) (past : List Event) → was_finished c past ≡ false → was_stopped c past ≡ false → is_over c past ≡ false
not-over c [] finished stopped = refl
not-over c (e ∷ past) finished stopped =
    let f = or_none ((is_lost e.moment || is_out_close e) && (e.connection == c)) (was_finished c past) finished in
    let s = or_none ((is_broken e.moment || is_in_close e) && (e.connection == c)) (was_stopped c past) stopped in
    both_none (is_final e.moment && (e.connection == c)) (is_over c past)
    (none_final (is_final e.moment) (e.connection == c) (is_lost e.moment || is_out_close e) (is_broken e.moment || is_in_close e) (final_by e.moment) f.0 s.0) (not-over c past f.1 s.1)

begin_apart : (m : Meaning) → is_some (as_begin m) ≡ true → is_of_connection m ≡ false
begin_apart (ABegin begin) is = refl
begin_apart (AnOpen fields) is = absurd cc
begin_apart (AnAttach fields) is = absurd cc
begin_apart (AFlow flow) is = absurd cc
begin_apart (ATransfer fields) is = absurd cc
begin_apart (ADisposition fields) is = absurd cc
begin_apart (ADetach fields) is = absurd cc
begin_apart (AnEnd error) is = absurd cc
begin_apart (AClose error) is = absurd cc

said_in : (e : Event) (frame : Frame) (spoken : Spoken) → e.moment ≡ Out frame → spoken_in frame.body ≡ Some spoken → out_begin e ≡ as_begin spoken.meaning
said_in e frame spoken written says =
    let said : out_spoken e ≡ Some spoken = ap (λ m. option_and_then (λ (f : Frame). spoken_in f.body) (out_frame m)) written ∙ says in
    ap (λ o. option_and_then as_begin (option_map (λ (spoken : Spoken). spoken.meaning) o)) said

unstopped_by : (of stopped : Bool) → of ≡ false → of || not stopped ≡ true → stopped ≡ false
unstopped_by true stopped apart is = absurd cc
unstopped_by false stopped apart is = not-true stopped is

module _ (rules : RuleSet) (e : Event) (past : List Event) (lawful : first_broken rules (e ∷ past) ≡ None) where
  -- what is written and is neither an open nor a close stands on a connection that is not over
  pub written-not_over : (place : IsInPlace e past) → is_of_connection place.spoken.meaning ≡ false → is_over e.connection past ≡ false
  written-not_over place apart =
      not-over e.connection past place.unfinished (unstopped_by (is_of_connection place.spoken.meaning) (was_stopped e.connection past) apart place.unstopped)

  pub begun-not_over : is_some (out_begin e) ≡ true → is_over e.connection past ≡ false
  begun-not_over begins =
      let place = written-in_place rules e past lawful (begun-out e.moment begins) in
      written-not_over place (begin_apart place.spoken.meaning (ap is_some (sym (said_in e place.frame place.spoken place.written place.says)) ∙ begins))

  begun_by : (b : Bool) → is_some (out_begin e) ≡ b → is_over e.connection past ≡ true → (if b then e.session else None) ≡ None
  begun_by true begins over = let never : true ≡ false = sym over ∙ begun-not_over begins in absurd cc
  begun_by false begins over = refl

  -- so one that is over begins no session any more
  pub over-begins_none : is_over e.connection past ≡ true → own_session e ≡ None
  over-begins_none over = begun_by (is_some (out_begin e)) refl over
