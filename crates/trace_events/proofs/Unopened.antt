-- No clause reads what a begin or an attach opens: an event breaks the same clause before its last step as after it.
use Rattle.std.proofs.Common.{◌≡◌, refl, ap, ◌∙◌, List, not, Option, Some, None, option_and_then, option_map}
use Rattle.amqp_perf.specs.declared.begin.Begin.{Begin}
use Rattle.amqp_perf.specs.Meaning.{Meaning, AnOpen, ABegin, AnAttach, AFlow, ATransfer, ADisposition, ADetach, AnEnd, AClose, AttachFields}
use Rattle.capture_form.specs.declared.records.Record.{Record}
use Rattle.capture_form.specs.Rules.{RuleSet}
use Rattle.trace_events.specs.declared.clause.Clause.{Clause}
use Rattle.trace_events.specs.declared.clause.Clause.TheVariants.{L1, L2, L3}
use Rattle.trace_events.specs.Words.{is_some_and}
use Rattle.trace_events.specs.Frame.{Frame, Spoken, spoken_in}
use Rattle.trace_events.specs.Event.{Event, Link, Moment, Opened, In, Out, Lost, Broken}
use Rattle.trace_events.specs.declared.session.Session.{Session}
use Rattle.trace_events.specs.Said.{as_begin, as_attach, out_meaning, out_begin, out_attach}
use Rattle.trace_events.specs.History.{opened, judge, judge_unopened, moment_of}
use Rattle.trace_events.proofs.StepWords.{find-by}
use Rattle.trace_events.proofs.Opens.{opened-session, opened-other}
use Rattle.trace_events.specs.LinkClause.{answers_attach}
use Rattle.trace_events.specs.Clauses.{broken_clause, broken_at, broken_by, spoken_meets, meaning_meets, clauses}

-- a begin is read by its connection, channel and note alone
begin_meets : (rules : RuleSet) (e : Event) (session : Option Session) (link : Option Link) (spoken : Spoken) (past : List Event) (begin : Begin) (clause : Clause)
    → meaning_meets rules (record e { session = session; link = link }) spoken past (ABegin begin) clause ≡ meaning_meets rules e spoken past (ABegin begin) clause
begin_meets rules e session link spoken past begin L2 = refl
begin_meets rules e session link spoken past begin clause = refl

-- an attach by its session and note
attach_meets : (rules : RuleSet) (e : Event) (session : Option Session) (link : Option Link) (spoken : Spoken) (past : List Event) (fields : AttachFields) → session ≡ e.session → (clause : Clause)
    → meaning_meets rules (record e { session = session; link = link }) spoken past (AnAttach fields) clause ≡ meaning_meets rules e spoken past (AnAttach fields) clause
attach_meets rules e session link spoken past fields same L3 = ap (λ (s : Option Session). is_some_and s (answers_attach fields past)) same
attach_meets rules e session link spoken past fields same clause = refl

module _ (rules : RuleSet) (e : Event) (past : List Event) where
  says_begin : (m : Meaning) → out_meaning e ≡ Some m → out_begin e ≡ as_begin m
  says_begin m says = ap (option_and_then as_begin) says

  says_attach : (m : Meaning) → out_meaning e ≡ Some m → out_attach e ≡ as_attach m
  says_attach m says = ap (option_and_then as_attach) says

  other_meets : (spoken : Spoken) (m : Meaning) → out_meaning e ≡ Some m → as_begin m ≡ None → as_attach m ≡ None → (clause : Clause)
      → meaning_meets rules (opened past e) spoken past m clause ≡ meaning_meets rules e spoken past m clause
  other_meets spoken m says no_begin no_attach clause =
      ap (λ (x : Event). meaning_meets rules x spoken past m clause) (opened-other e past (says_begin m says ∙ no_begin) (says_attach m says ∙ no_attach))

  opened_meets : (spoken : Spoken) (m : Meaning) → out_meaning e ≡ Some m → (clause : Clause) → meaning_meets rules (opened past e) spoken past m clause ≡ meaning_meets rules e spoken past m clause
  opened_meets spoken (ABegin begin) says clause = begin_meets rules e (opened past e).session (opened past e).link spoken past begin clause
  opened_meets spoken (AnAttach fields) says clause =
      attach_meets rules e (opened past e).session (opened past e).link spoken past fields (opened-session e past (says_begin (AnAttach fields) says)) clause
  opened_meets spoken (AnOpen fields) says clause = other_meets spoken (AnOpen fields) says refl refl clause
  opened_meets spoken (AFlow flow) says clause = other_meets spoken (AFlow flow) says refl refl clause
  opened_meets spoken (ATransfer fields) says clause = other_meets spoken (ATransfer fields) says refl refl clause
  opened_meets spoken (ADisposition fields) says clause = other_meets spoken (ADisposition fields) says refl refl clause
  opened_meets spoken (ADetach fields) says clause = other_meets spoken (ADetach fields) says refl refl clause
  opened_meets spoken (AnEnd error) says clause = other_meets spoken (AnEnd error) says refl refl clause
  opened_meets spoken (AClose error) says clause = other_meets spoken (AClose error) says refl refl clause

  clause_meets : (frame : Frame) (spoken : Spoken) → out_meaning e ≡ Some spoken.meaning → (clause : Clause) → spoken_meets rules (opened past e) frame past spoken clause ≡ spoken_meets rules e frame past spoken clause
  clause_meets frame spoken says L1 = refl
  clause_meets frame spoken says clause = opened_meets spoken spoken.meaning says clause

  broken_in : (frame : Frame) → e.moment ≡ Out frame → (o : Option Spoken) → spoken_in frame.body ≡ o → broken_by rules (opened past e) frame past o ≡ broken_by rules e frame past o
  broken_in frame written None says = refl
  broken_in frame written (Some spoken) says =
      let out : out_meaning e ≡ Some spoken.meaning =
      ap (λ (m : Moment). out_meaning (record e { moment = m })) written ∙ ap (option_map (λ (spoken : Spoken). spoken.meaning)) says in
      find-by (λ (clause : Clause). not (spoken_meets rules (opened past e) frame past spoken clause)) (λ (clause : Clause). not (spoken_meets rules e frame past spoken clause))
      (λ clause. ap not (clause_meets frame spoken out clause)) clauses

  broken_when : (m : Moment) → e.moment ≡ m → broken_at rules (opened past e) past m ≡ broken_at rules e past m
  broken_when (Out frame) written = broken_in frame written (spoken_in frame.body) refl
  broken_when (In frame) written = refl
  broken_when Opened written = refl
  broken_when Lost written = refl
  broken_when Broken written = refl

  pub broken-opened : broken_clause rules (opened past e) past ≡ broken_clause rules e past
  broken-opened = broken_when e.moment refl

-- of a record in its place
pub broken-unopened : (rules : RuleSet) (past : List Event) (r : Record)
    → broken_clause rules (judge rules past r) past ≡ broken_clause rules (judge_unopened rules past r.connection (moment_of r.what) r.note) past
broken-unopened rules past r = broken-opened rules (judge_unopened rules past r.connection (moment_of r.what) r.note) past
