-- No more is sent on a session than its client's last flow, or its begin, granted.
use Rattle.std.proofs.Common.{◌≡◌, refl, sym, ap, subst, ◌∙◌, ℕ, ◌<◌, ◌≤◌, Bool, true, false, ◌&&◌, List, [], ◌∷◌, length, Option, Some, None, is_some, option_and_then, option_map, find, if◌then◌else◌, ◌==◌, arith}
use Rattle.std.specs.List.{filter_map, cons_option}
use Rattle.std.proofs.lemmas.Bool.{eqb-true}
use Rattle.amqp_perf.specs.Meaning.{Meaning, AnOpen, ABegin, AnAttach, AFlow, ATransfer, ADisposition, ADetach, AnEnd, AClose, TransferFields}
use Rattle.capture_form.specs.declared.records.Record.{Record}
use Rattle.capture_form.specs.Rules.{RuleSet}
use Rattle.flow_counts.specs.declared.events.WindowEvent.{WindowEvent}
use Rattle.flow_counts.specs.declared.events.WindowEvent.TheVariants.{TheirFlow, Sent, OurFlow, Received}
use Rattle.flow_counts.specs.Window.{sent_since_flow, granted_window, window}
use Rattle.trace_events.specs.Words.{is_some_and}
use Rattle.trace_events.specs.Frame.{Frame, Spoken, spoken_in}
use Rattle.trace_events.specs.Said.{as_begin, out_begin}
use Rattle.trace_events.specs.Event.{Event, Moment, Opened, In, Out, Lost, Broken, is_on_session}
use Rattle.trace_events.specs.declared.session.Session.{Session}
use Rattle.trace_events.specs.Session.{own_session, session_at}
use Rattle.trace_events.specs.Window.{in_window_event, out_window_event, window_event, window_events, session_window}
use Rattle.trace_events.specs.History.{judge, history}
use Rattle.trace_events.specs.Clauses.{first_broken}
use Rattle.trace_events.specs.Laws.{IsWithinWindow}
use Rattle.trace_events.proofs.ClausesMet.{lawful-past}
use Rattle.trace_events.proofs.Within.{in_window}
use Rattle.trace_events.proofs.Along.{some_such, along, and_first, and_then_some, if_some}
use Rattle.trace_events.proofs.Sessions.{begin_in, begun_number, IsKnown, AreKnown, known_still, event_known, known_step, none_known, AreFound, found_step, none_found, not_on}

-- ---- nothing stands on a session before its record

abbrev pub AreUnused : List Event → Type 0
AreUnused past = (s : Session) → length past ≤ s.number → window_events s past ≡ []

unused_step : (rules : RuleSet) (past : List Event) (r : Record) → AreKnown past → AreUnused past → AreUnused (judge rules past r ∷ past)
unused_step rules past r known unused s after =
    let e = judge rules past r in
    let off : is_on_session s e ≡ false =
    ap (λ (b : Bool). b && (e.connection == s.connection)) (not_on s e.session (λ t is. omega (arith, after, (event_known rules past r t known is).before))) in
    rw (off, unused s (omega (arith, after))) refl

-- ---- what an event moves

-- a transfer that is written
pub record Transfers (e : Event) : Type 0 where
  pub frame : Frame
  pub spoken : Spoken
  pub fields : TransferFields
  pub moment_is : e.moment ≡ Out frame
  pub says : spoken_in frame.body ≡ Some spoken
  pub transfer : spoken.meaning ≡ ATransfer fields

out_sent : (meaning : Meaning) → out_window_event meaning ≡ Some Sent → (fields : TransferFields) × (meaning ≡ ATransfer fields)
out_sent (ATransfer fields) e = (fields, refl)
out_sent (AFlow f) e = absurd cc
out_sent (AnOpen o) e = absurd cc
out_sent (ABegin b) e = absurd cc
out_sent (AnAttach a) e = absurd cc
out_sent (ADisposition f) e = absurd cc
out_sent (ADetach f) e = absurd cc
out_sent (AnEnd x) e = absurd cc
out_sent (AClose x) e = absurd cc

in_not_sent : (meaning : Meaning) → in_window_event meaning ≡ Some Sent → ⊥
in_not_sent (ATransfer fields) e = cc
in_not_sent (AFlow f) e = cc
in_not_sent (AnOpen o) e = cc
in_not_sent (ABegin b) e = cc
in_not_sent (AnAttach a) e = cc
in_not_sent (ADisposition f) e = cc
in_not_sent (ADetach f) e = cc
in_not_sent (AnEnd x) e = cc
in_not_sent (AClose x) e = cc

sent_by : (e : Event) (m : Moment) → e.moment ≡ m → window_event m ≡ Some Sent → Transfers e
sent_by e (Out frame) is sent =
    let step = and_then_some (λ (spoken : Spoken). out_window_event spoken.meaning) (spoken_in frame.body) Sent sent in
    let fields = out_sent step.0.meaning step.2 in
    record { frame = frame; spoken = step.0; fields = fields.0; moment_is = is; says = step.1; transfer = fields.1 }
sent_by e (In frame) is sent =
    let step = and_then_some (λ (spoken : Spoken). in_window_event spoken.meaning) (spoken_in frame.body) Sent sent in
    absurd (in_not_sent step.0.meaning step.2)
sent_by e Opened is sent = absurd cc
sent_by e Lost is sent = absurd cc
sent_by e Broken is sent = absurd cc

-- a begin moves no window
begin_moves : (meaning : Meaning) → is_some (as_begin meaning) ≡ true → out_window_event meaning ≡ None
begin_moves (ABegin b) e = refl
begin_moves (ATransfer fields) e = absurd cc
begin_moves (AFlow f) e = absurd cc
begin_moves (AnOpen o) e = absurd cc
begin_moves (AnAttach a) e = absurd cc
begin_moves (ADisposition f) e = absurd cc
begin_moves (ADetach f) e = absurd cc
begin_moves (AnEnd x) e = absurd cc
begin_moves (AClose x) e = absurd cc

begin_moves_none : (o : Option Spoken) → is_some (option_and_then as_begin (option_map (λ (spoken : Spoken). spoken.meaning) o)) ≡ true → option_and_then (λ (spoken : Spoken). out_window_event spoken.meaning) o ≡ None
begin_moves_none None e = absurd cc
begin_moves_none (Some spoken) e = begin_moves spoken.meaning e

begins_still : (m : Moment) → is_some (begin_in m) ≡ true → window_event m ≡ None
begins_still (Out frame) e = begin_moves_none (spoken_in frame.body) e
begins_still (In frame) e = absurd cc
begins_still Opened e = absurd cc
begins_still Lost e = absurd cc
begins_still Broken e = absurd cc

-- ---- a transfer had window

had_window : (rules : RuleSet) (e : Event) (past : List Event) → first_broken rules (e ∷ past) ≡ None → Transfers e → (t : Session) × (e.session ≡ Some t) × (1 ≤ session_window t past)
had_window rules e past lawful t = some_such (λ s. 1 ≤ session_window s past) e.session (in_window rules e past lawful t.frame t.spoken t.moment_is t.says t.fields t.transfer)

-- ---- one more event of a session's own

moves : (first begun : ℕ) (own : List WindowEvent) (o : Option WindowEvent) → (o ≡ Some Sent → 0 < window first begun own)
    → sent_since_flow own ≤ granted_window first begun own → sent_since_flow (cons_option o own) ≤ granted_window first begun (cons_option o own)
moves first begun own None room h = h
moves first begun own (Some (TheirFlow expected granted)) room h = omega arith
moves first begun own (Some Sent) room h = omega (arith, room refl)
moves first begun own (Some OurFlow) room h = h
moves first begun own (Some Received) room h = h

-- ---- one more record

-- a session that was known
older : (rules : RuleSet) (past : List Event) (r : Record) (s : Session) → AreKnown past → IsKnown past s → first_broken rules (judge rules past r ∷ past) ≡ None → IsWithinWindow past (Some s)
    → IsWithinWindow (judge rules past r ∷ past) (Some s)
older rules past r s known is kept h =
    let e = judge rules past r in
    moves s.our_first_id s.their_window (window_events s past) (if is_on_session s e then window_event e.moment else None) room h
  where
    room : (if is_on_session s (judge rules past r) then window_event (judge rules past r).moment else None) ≡ Some Sent → 0 < session_window s past
    room sent =
        let e = judge rules past r in
        let on = if_some (is_on_session s e) (window_event e.moment) Sent sent in
        let there = had_window rules e past kept (sent_by e e.moment refl on.1) in
        let same_number : (there.0.number == s.number) ≡ true = ap (λ (o : Option Session). is_some_and o (λ (t : Session). t.number == s.number)) (sym there.1) ∙ and_first (is_some_and e.session (λ (t : Session). t.number == s.number)) (e.connection == s.connection) on.0 in
        let own = event_known rules past r there.0 known there.1 in
        let other = known_still rules past r s is in
        let same : ◌≡◌ {A = Option Session} (Some there.0) (Some s) =
        sym own.at ∙ ap (λ (n : ℕ). session_at n (e ∷ past)) (eqb-true there.0.number s.number same_number) ∙ other.at in
        let one : there.0 ≡ s = cc in
        subst (λ (t : Session). 0 < session_window t past) one there.2

-- one that begins
newer : (rules : RuleSet) (past : List Event) (r : Record) (s : Session) → AreUnused past → own_session (judge rules past r) ≡ Some s → IsWithinWindow (judge rules past r ∷ past) (Some s)
newer rules past r s unused is =
    let e = judge rules past r in
    let begun = if_some (is_some (out_begin e)) e.session s is in
    let own = begun_number rules past r s begun.0 begun.1 in
    let none : window_events s past ≡ [] = unused s (omega (arith, own)) in
    let still : window_event e.moment ≡ None = begins_still e.moment begun.0 in
    by (is_on_session s e) (window_event e.moment) still (window_events s past) none
  where
    by : (b : Bool) (o : Option WindowEvent) → o ≡ None → (own : List WindowEvent) → own ≡ [] → sent_since_flow (cons_option (if b then o else None) own) ≤ granted_window s.our_first_id s.their_window (cons_option (if b then o else None) own)
    by true o still own none = rw (still, none) (omega arith)
    by false o still own none = rw none (omega arith)

within_by : (rules : RuleSet) (past : List Event) (r : Record) (n : ℕ) (o : Option Session) → own_session (judge rules past r) ≡ o → AreKnown past → AreUnused past
    → ((s : Session) → session_at n past ≡ Some s → IsKnown past s) → first_broken rules (judge rules past r ∷ past) ≡ None → IsWithinWindow past (session_at n past)
    → IsWithinWindow (judge rules past r ∷ past) (find (λ (t : Session). t.number == n) (cons_option o (filter_map own_session past)))
within_by rules past r n None is known unused found kept h = at (session_at n past) refl h
  where
    at : (o : Option Session) → session_at n past ≡ o → IsWithinWindow past o → IsWithinWindow (judge rules past r ∷ past) o
    at None is h = tt
    at (Some s) is h = older rules past r s known (found s is) kept h
within_by rules past r n (Some t) is known unused found kept h = by (t.number == n)
  where
    at : (o : Option Session) → session_at n past ≡ o → IsWithinWindow past o → IsWithinWindow (judge rules past r ∷ past) o
    at None is h = tt
    at (Some s) is h = older rules past r s known (found s is) kept h

    by : (b : Bool) → IsWithinWindow (judge rules past r ∷ past) (if b then Some t else session_at n past)
    by true = newer rules past r t unused is
    by false = at (session_at n past) refl h

pub record Keeps (rules : RuleSet) (past : List Event) : Type 0 where
  pub known : AreKnown past
  pub unused : AreUnused past
  pub found : AreFound past
  pub within : first_broken rules past ≡ None → (n : ℕ) → IsWithinWindow past (session_at n past)

found_known : (past : List Event) → AreFound past → (n : ℕ) (s : Session) → session_at n past ≡ Some s → IsKnown past s
found_known past found n s is =
    let h = found n s is in
    record { at = ap (λ (k : ℕ). session_at k past) h.0 ∙ is; before = omega (arith, h.0, h.1) }

keeps_step : (rules : RuleSet) (past : List Event) (r : Record) → Keeps rules past → Keeps rules (judge rules past r ∷ past)
keeps_step rules past r h = record {
  known = known_step rules past r h.known;
  unused = unused_step rules past r h.known h.unused;
  found = found_step rules past r h.found;
  within = λ lawful n.
      within_by rules past r n (own_session (judge rules past r)) refl h.known h.unused (found_known past h.found n) lawful
      (h.within (lawful-past rules (judge rules past r) past lawful) n);
}

-- of a lawful capture
pub within_window : (rules : RuleSet) (rs : List Record) → first_broken rules (history rules rs) ≡ None → (n : ℕ) → IsWithinWindow (history rules rs) (session_at n (history rules rs))
within_window rules rs = (along rules (Keeps rules) (record { known = none_known; unused = λ s after. refl; found = none_found; within = λ lawful n. tt }) (keeps_step rules) rs).within
