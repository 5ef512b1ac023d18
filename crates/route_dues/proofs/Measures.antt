-- While a step is under way, each frame leaves less to be written.
use Rattle.std.proofs.Common.{◌≡◌, refl, sym, ap, subst, ◌∙◌, ℕ, ◌<◌, Bool, true, false, ◌||◌, List, [], ◌∷◌, ◌++◌, None, append_assoc}
use Rattle.std.specs.Prelude.{option_map}
use Rattle.amqp_perf.specs.Meaning.{Meaning, AnOpen, ABegin, AnAttach, AFlow, ATransfer, ADisposition, ADetach, AnEnd, AClose}
use Rattle.pairing_cert.specs.declared.note.Note.{Note}
use Rattle.capture_form.specs.declared.records.Record.{Record}
use Rattle.capture_form.specs.declared.records.What.{What}
use Rattle.capture_form.specs.declared.records.What.TheVariants as whats
use Rattle.capture_form.specs.Rules.{RuleSet}
use Rattle.trace_events.specs.Words.{or_else}
use Rattle.trace_events.specs.Frame.{Frame, Spoken}
use Rattle.trace_events.specs.Event.{Event, Out}
use Rattle.trace_events.specs.History.{judge, judge_moment, history, moment_of}
use Rattle.trace_events.proofs.Along.{and_last}
use Rattle.trace_events.proofs.Judged.{AreJudged}
use Rattle.trace_events.specs.declared.clause.Clause.{Clause}
use Rattle.trace_events.specs.declared.clause.Clause.TheVariants.{L10}
use Rattle.trace_events.specs.Clauses.{first_broken, broken_clause, spoken_meets}
use Rattle.trace_events.specs.Written.{spoken_octets}
use Rattle.trace_events.proofs.ClausesMet.{met}
use Rattle.trace_events.proofs.Lawful.{history-push}
use Rattle.trace_duties.specs.Diligent.{is_called_for, is_due_frame, is_of_answer, is_picked}
use Rattle.route_answers.specs.Writing.{frame_of}
use Rattle.route_dues.specs.Writing.{spoken_with, writing, IsReadAgain, MayFollow}
use Rattle.route_dues.proofs.Connections.{lawful_judged}
use Rattle.route_dues.specs.Steps.{IsUnderWay}
use Rattle.route_dues.proofs.Answered.{not_of_answer}
use Rattle.route_dues.specs.Work.{work_left}
use Rattle.route_dues.proofs.FlowFrames.{flow-less}
use Rattle.route_dues.proofs.Frames.{transfer-less, disposition-less}

-- ---- each kind

kinds : (rules : RuleSet) (past : List Event) → AreJudged rules past → (c : ℕ) (note : Note) (channel : ℕ) (payload : List ℕ) (m : Meaning) → (let spoken = spoken_with channel m payload in
    is_called_for rules (writing rules past c note spoken) channel past m ≡ true → ((clause : Clause) → spoken_meets rules (writing rules past c note spoken) (frame_of spoken) past spoken clause ≡ true)
    → work_left (writing rules past c note spoken ∷ past) < work_left past)
kinds rules past are c told channel payload (ATransfer fields) called meets = transfer-less rules past are c told channel payload fields meets
kinds rules past are c told channel payload (ADisposition fields) called meets = disposition-less rules past are c told channel payload fields meets
kinds rules past are c told channel payload (AFlow flow) called meets = flow-less rules past are c told channel payload flow called (meets L10)
kinds rules past are c told channel payload (AnOpen fields) called meets = absurd cc
kinds rules past are c told channel payload (ABegin begin) called meets = absurd cc
kinds rules past are c told channel payload (AnAttach fields) called meets = absurd cc
kinds rules past are c told channel payload (ADetach fields) called meets = absurd cc
kinds rules past are c told channel payload (AnEnd error) called meets = absurd cc
kinds rules past are c told channel payload (AClose error) called meets = absurd cc

or-other : (b c : Bool) → b ≡ false → b || c ≡ true → c ≡ true
or-other true c none is = absurd cc
or-other false c none is = is

module _ (rules : RuleSet) (past : List Event) (c : ℕ) (note : Note) (s : Spoken) (way : IsUnderWay rules past) (may : MayFollow rules past c note s) where
  abbrev w : Event
  w = writing rules past c note s

  unbroken : first_broken rules (w ∷ past) ≡ None
  unbroken =
      ap (λ o. or_else o (option_map (λ (clause : Clause). (w.number, clause)) (broken_clause rules w past))) way.order.lawful.unbroken
      ∙ ap (option_map (λ (clause : Clause). (w.number, clause))) may.lawful

  -- it is no part of the answer, since that is written whole
  called : is_called_for rules w s.channel past s.meaning ≡ true
  called =
      or-other (is_of_answer rules past) (is_called_for rules w s.channel past s.meaning) (not_of_answer rules past way.answered)
      (and_last (is_picked rules w past) (is_due_frame rules w (frame_of s) past) may.keeps)

  pub lessens : work_left (w ∷ past) < work_left past
  lessens = kinds rules past (lawful_judged rules past way.order.lawful) c note s.channel s.payload s.meaning called (met rules w past unbroken (frame_of s) refl s refl)

-- ---- as records

-- a record of such a frame leaves less than the records before it
pub record-lessens : (rules : RuleSet) (records : List Record) (r : Record) (s : Spoken) → IsUnderWay rules (history rules records)
    → r.what ≡ whats.Out (spoken_octets s) → MayFollow rules (history rules records) r.connection r.note s → IsReadAgain s
    → work_left (history rules (records ++ r ∷ [])) < work_left (history rules records)
record-lessens rules records r s way what follows again =
    let past = history rules records in
    let is_writing : judge rules past r ≡ writing rules past r.connection r.note s =
    ap (λ (w : What). judge_moment rules past r.connection (moment_of w) r.note) what
    ∙ ap (λ (frame : Frame). judge_moment rules past r.connection (Out frame) r.note) again in
    subst (λ (p : List Event). work_left p < work_left past) (sym (history-push rules records r ∙ ap (λ (e : Event). e ∷ past) is_writing))
    (lessens rules past r.connection r.note s way follows)

-- and so does one more of a step, behind those of a capture
pub written : (rules : RuleSet) (records group : List Record) (r : Record) (s : Spoken) → IsUnderWay rules (history rules (records ++ group))
    → r.what ≡ whats.Out (spoken_octets s) → MayFollow rules (history rules (records ++ group)) r.connection r.note s → IsReadAgain s
    → work_left (history rules (records ++ (group ++ r ∷ []))) < work_left (history rules (records ++ group))
written rules records group r s way what follows again =
    subst (λ (rs : List Record). work_left (history rules rs) < work_left (history rules (records ++ group))) (append_assoc records group (r ∷ []))
    (record-lessens rules (records ++ group) r s way what follows again)
