-- In a lawful capture at most one outcome is told of each delivery.
use Rattle.std.proofs.Common.{◌≡◌, refl, sym, ap, ◌∙◌, subst, ℕ, ◌<◌, ◌≤◌, List, [], ◌∷◌, length, Bool, true, false, cond, ◌&&◌, ◌||◌, Option, Some, None, IfSome, filter, option_and_then, arith, eqb-true}
use Rattle.std.specs.List.{list_any}
use Rattle.amqp_perf.specs.declared.attach.Role.{Role}
use Rattle.amqp_perf.specs.declared.attach.Role.TheVariants.{Sender, Receiver}
use Rattle.amqp_perf.specs.Meaning.{Meaning, AnOpen, ABegin, AnAttach, AFlow, ATransfer, ADisposition, ADetach, AnEnd, AClose, DispositionFields}
use Rattle.capture_form.specs.declared.records.Record.{Record}
use Rattle.capture_form.specs.Rules.{RuleSet}
use Rattle.trace_events.specs.declared.clause.Clause.TheVariants.{L11}
use Rattle.trace_events.specs.Words.{is_number}
use Rattle.trace_events.specs.Frame.{Frame, Spoken, spoken_in}
use Rattle.trace_events.specs.Event.{Event, Incoming, Moment, Opened, In, Out, Lost, Broken}
use Rattle.trace_events.specs.declared.session.Session.{Session}
use Rattle.trace_events.specs.Link.{is_live}
use Rattle.trace_events.specs.Incoming.{incoming_at, is_told}
use Rattle.trace_events.specs.History.{history, placed, heard, faulted, moment_of, told_by, told_part, told_by_role}
use Rattle.trace_events.specs.Outcome.{may_be_told}
use Rattle.trace_events.specs.Clauses.{first_broken, meaning_meets, disposition_meets}
use Rattle.trace_events.specs.DispositionClause.{is_outcome, settles_one, is_outcome_of}
use Rattle.trace_events.specs.Kept.{tellings, ToldOnce}
use Rattle.trace_events.proofs.ClausesMet.{met, lawful-past}
use Rattle.trace_events.proofs.Judged.{AreJudged, history-judged, and_then-some, if-some-each}
use Rattle.trace_events.proofs.OneConsumer.{some-and, and-left, not-true, incoming_at-is}

-- ---- only dispositions of a receiver that are written tell

pub record IsOutcome (m : Moment) : Type 0 where
  pub frame : Frame
  pub spoken : Spoken
  pub fields : DispositionFields
  pub written : m ≡ Out frame
  pub says : spoken_in frame.body ≡ Some spoken
  pub means : spoken.meaning ≡ ADisposition fields
  pub receives : fields.role ≡ Receiver

module _ (rules : RuleSet) (e : Event) (past : List Event) (frame : Frame) (spoken : Spoken) (says : spoken_in frame.body ≡ Some spoken) where
  role-outcome : (fields : DispositionFields) → spoken.meaning ≡ ADisposition fields → (role : Role) → fields.role ≡ role → (s : Session) (first : ℕ)
      → IfSome (told_by_role rules s first role past) (λ n. IsOutcome (Out frame))
  role-outcome fields means Receiver is s first =
      if-some-each (IsOutcome (Out frame)) (told_by_role rules s first Receiver past)
      (record { frame = frame; spoken = spoken; fields = fields; written = refl; says = says; means = means; receives = is })
  role-outcome fields means Sender is s first = tt

  meaning-outcome : (meaning : Meaning) → spoken.meaning ≡ meaning → IfSome (told_part rules e meaning past) (λ n. IsOutcome (Out frame))
  meaning-outcome (ADisposition fields) means =
      and_then-some (λ (n : ℕ). IsOutcome (Out frame)) (λ s. told_by_role rules s fields.first fields.role past) e.session
      (λ s. role-outcome fields means fields.role refl s fields.first)
  meaning-outcome (AnOpen fields) means = tt
  meaning-outcome (ABegin fields) means = tt
  meaning-outcome (AnAttach fields) means = tt
  meaning-outcome (AFlow fields) means = tt
  meaning-outcome (ATransfer fields) means = tt
  meaning-outcome (ADetach fields) means = tt
  meaning-outcome (AnEnd error) means = tt
  meaning-outcome (AClose error) means = tt

spoken-outcome : (rules : RuleSet) (e : Event) (past : List Event) (frame : Frame) (o : Option Spoken) → spoken_in frame.body ≡ o
    → IfSome (option_and_then (λ (spoken : Spoken). told_part rules e spoken.meaning past) o) (λ n. IsOutcome (Out frame))
spoken-outcome rules e past frame None is = tt
spoken-outcome rules e past frame (Some spoken) is = meaning-outcome rules e past frame spoken is spoken.meaning refl

told_by-outcome : (rules : RuleSet) (e : Event) (m : Moment) (past : List Event) → IfSome (told_by rules e m past) (λ n. IsOutcome m)
told_by-outcome rules e (Out frame) past = spoken-outcome rules e past frame (spoken_in frame.body) refl
told_by-outcome rules e (In frame) past = tt
told_by-outcome rules e Opened past = tt
told_by-outcome rules e Lost past = tt
told_by-outcome rules e Broken past = tt

judged-outcome : (rules : RuleSet) (e : Event) (past : List Event) → AreJudged rules (e ∷ past) → IfSome e.told (λ n. IsOutcome e.moment)
judged-outcome rules e past ((r, is), are) =
    subst (λ (x : Event). IfSome x.told (λ n. IsOutcome x.moment)) (sym is)
    (told_by-outcome rules (faulted rules past (heard past (placed past r.connection (moment_of r.what) r.note))) (moment_of r.what) past)

-- ---- and what they tell was not told before

none-any : {A : Type 0} (test : A → Bool) (x : A) (xs : List A) (b : Bool) → test x ≡ b → b || list_any test xs ≡ false → (list_any test xs ≡ false → filter test xs ≡ [])
    → cond b (x ∷ filter test xs) (filter test xs) ≡ []
none-any test x xs true is e later = absurd cc
none-any test x xs false is e later = later e

none-passes : {A : Type 0} (test : A → Bool) (xs : List A) → list_any test xs ≡ false → filter test xs ≡ []
none-passes test [] e = refl
none-passes test (x ∷ xs) e = none-any test x xs (test x) refl e (none-passes test xs)

pub and-right : (b c : Bool) → b && c ≡ true → c ≡ true
and-right true c e = e
and-right false c e = absurd cc

pub number-some : (o : Option ℕ) (n : ℕ) → is_number o n ≡ true → o ≡ Some n
number-some None n e = absurd cc
number-some (Some m) n e = ap Some (eqb-true m n e)

module _ (rules : RuleSet) (e : Event) (past : List Event) (are : AreJudged rules (e ∷ past)) (lawful : first_broken rules (e ∷ past) ≡ None)
    (n : ℕ) (tells : e.told ≡ Some n) where
  pub outcome : IsOutcome e.moment
  outcome = subst (λ (o : Option ℕ). IfSome o (λ m. IsOutcome e.moment)) tells (judged-outcome rules e past are)

  pub eleven : is_outcome rules e outcome.fields past ≡ true
  eleven =
      let o = outcome in
      let same : meaning_meets rules e o.spoken past o.spoken.meaning L11 ≡ disposition_meets rules e o.fields past o.fields.role L11 =
      ap (λ m. meaning_meets rules e o.spoken past m L11) o.means in
      let role : disposition_meets rules e o.fields past o.fields.role L11 ≡ is_outcome rules e o.fields past =
      ap (λ r. disposition_meets rules e o.fields past r L11) o.receives in
      sym (same ∙ role) ∙ met rules e past lawful o.frame o.written o.spoken o.says L11

  untold : tellings n past ≡ []
  untold =
      let fields = outcome.fields in
      let h = some-and (option_and_then (λ m. incoming_at m past) e.told) (is_outcome_of rules e fields past) (and-right (settles_one fields) _ eleven) in
      let d = h.0 in
      let found : incoming_at n past ≡ Some d = sym (ap (option_and_then (λ m. incoming_at m past)) tells) ∙ h.1 in
      let at = subst (λ (o : Option Incoming). IfSome o (λ d. (n < length past) × (d.number ≡ n))) found (incoming_at-is rules past n are.1) in
      let may : may_be_told d past ≡ true = and-left (may_be_told d past) _ h.2 in
      let quiet : is_told d past ≡ false = not-true (is_told d past) (and-right _ _ (and-left _ (is_live past d.link) may)) in
      sym (ap (λ m. tellings m past) at.1) ∙ none-passes (λ (x : Event). is_number x.told d.number) past quiet

module _ (rules : RuleSet) (e : Event) (past : List Event) (are : AreJudged rules (e ∷ past)) (lawful : first_broken rules (e ∷ past) ≡ None)
    (n : ℕ) (before : length (tellings n past) ≤ 1) where
  few-by : (b : Bool) → is_number e.told n ≡ b → length (cond b (e ∷ tellings n past) (tellings n past)) ≤ 1
  few-by true is = rw (untold rules e past are lawful n (number-some e.told n is)) (omega arith)
  few-by false is = before

told_once : (rules : RuleSet) (past : List Event) → AreJudged rules past → first_broken rules past ≡ None → ToldOnce past
told_once rules [] are lawful n = omega arith
told_once rules (e ∷ past) are lawful n =
    few-by rules e past are lawful n (told_once rules past are.1 (lawful-past rules e past lawful) n) (is_number e.told n) refl

-- the law of a capture
pub lawful-told-once : (rules : RuleSet) (rs : List Record) → first_broken rules (history rules rs) ≡ None → ToldOnce (history rules rs)
lawful-told-once rules rs lawful = told_once rules (history rules rs) (history-judged rules rs) lawful
