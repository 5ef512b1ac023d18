-- The outcome that a next record tells is of an undecided delivery, and the table of deliveries from clients has it.
use Rattle.std.proofs.Common.{◌≡◌, refl, ap, ◌∙◌, ℕ, true, List, Option, Some, None, IfSome, is_some, option_and_then, option_map, if◌then◌else◌}
use Rattle.amqp_perf.specs.declared.attach.Role.{Role}
use Rattle.amqp_perf.specs.declared.attach.Role.TheVariants.{Sender, Receiver}
use Rattle.amqp_perf.specs.Meaning.{Meaning, ADisposition, DispositionFields}
use Rattle.pairing_cert.specs.declared.note.Note.{Note}
use Rattle.capture_form.specs.Rules.{RuleSet}
use Rattle.trace_events.specs.Words.{where_passes}
use Rattle.trace_events.specs.Frame.{Spoken, spoken_in}
use Rattle.trace_events.specs.Event.{Event, Incoming, Moment, Out}
use Rattle.trace_events.specs.declared.session.Session.{Session}
use Rattle.trace_events.specs.Incoming.{incoming_at, incoming_deliveries}
use Rattle.trace_events.specs.Waiting.{is_undecided, is_undecided_of}
use Rattle.trace_events.specs.Settling.{to_tell}
use Rattle.trace_events.specs.History.{judge_unopened, placed, heard, faulted, told_by, told_part, told_by_role, IsHistory}
use Rattle.trace_events.proofs.Along.{and_last}
use Rattle.trace_events.proofs.Judged.{AreJudged}
use Rattle.trace_events.proofs.IncomingProgress.{judged-kept}
use Rattle.trace_events.proofs.Parts.{IsKept, each_delivery, found_holds}
use Rattle.state_incoming.specs.EntryAnswers.{has_entry}
use Rattle.state_incoming.specs.Held.{held, is_held}
use Rattle.state_incoming.specs.HeldTables.{IsTable}
use Rattle.state_incoming.specs.declared.deliveries.Deliveries.{Deliveries}
use Rattle.state_incoming.proofs.GroupAnswers.{found-passes, judged-of}
use Rattle.state_incoming.proofs.HeldAnswers.{undecided-kept}
use Rattle.state_incoming.proofs.OverKnown as over
use Rattle.state_incoming.proofs.OverKnown.{table-there}

-- whatever holds of each undecided delivery's number holds of the one whose outcome is told
module _ (rules : RuleSet) (past : List Event) (are : AreJudged rules past) (Holds : ℕ → Type 0)
    (undecided : (d : Incoming) → incoming_at d.number past ≡ Some d → is_undecided rules d past ≡ true → Holds d.number) where
  found-holds : (s : Session) (id : ℕ) (o : Option Incoming) → to_tell rules s id past ≡ o → IfSome (option_map (λ (d : Incoming). d.number) o) Holds
  found-holds s id None found = tt
  found-holds s id (Some d) found =
      let kept = found_holds (IsKept past) (is_undecided_of rules s id past) (incoming_deliveries past) d (each_delivery (IsKept past) past (judged-kept rules past are).each) found in
      undecided d kept.at (and_last _ (is_undecided rules d past) (found-passes (is_undecided_of rules s id past) (incoming_deliveries past) d found))

  role-holds : (s : Session) (id : ℕ) (role : Role) → IfSome (told_by_role rules s id role past) Holds
  role-holds s id Receiver = found-holds s id (to_tell rules s id past) refl
  role-holds s id Sender = tt

  session-holds : (fields : DispositionFields) (o : Option Session) → IfSome (option_and_then (λ (s : Session). told_by_role rules s fields.first fields.role past) o) Holds
  session-holds fields None = tt
  session-holds fields (Some s) = role-holds s fields.first fields.role

  meaning-holds : (e : Event) (meaning : Meaning) → IfSome (told_part rules e meaning past) Holds
  meaning-holds e (ADisposition fields) = session-holds fields e.session
  meaning-holds e _ = tt

  spoken-holds : (e : Event) (o : Option Spoken) → IfSome (option_and_then (λ (spoken : Spoken). told_part rules e spoken.meaning past) o) Holds
  spoken-holds e None = tt
  spoken-holds e (Some spoken) = meaning-holds e spoken.meaning

  moment-holds : (e : Event) (m : Moment) → IfSome (told_by rules e m past) Holds
  moment-holds e (Out frame) = spoken-holds e (spoken_in frame.body)
  moment-holds e _ = tt

  pub told-holds : (c : ℕ) (moment : Moment) (note : Note) → IfSome (judge_unopened rules past c moment note).told Holds
  told-holds c moment note = moment-holds (faulted rules past (heard past (placed past c moment note))) moment

module _ (rules : RuleSet) (past : List Event) (table : Deliveries) (are : IsHistory rules past) (is : IsTable rules table past) where
  -- an undecided delivery is in the table
  pub undecided-has : (d : Incoming) → incoming_at d.number past ≡ Some d → is_undecided rules d past ≡ true → has_entry table d.number ≡ true
  undecided-has d at undecided =
      ap is_some
      (table-there rules past table is.0 d.number (over.undecided-kept rules past (judged-of rules past are) table is.1.1 d.number d at undecided)
      ∙ (ap (λ (o : Option Incoming). option_map (held rules past) (where_passes (is_held rules past) o)) at
      ∙ ap (λ b. option_map (held rules past) (if b then Some d else None)) (undecided-kept rules past d undecided)))

  -- so is the one whose outcome the next record tells, before what it opens is filled in
  pub told-known : (c : ℕ) (moment : Moment) (note : Note) → IfSome (judge_unopened rules past c moment note).told (λ n. has_entry table n ≡ true)
  told-known c moment note = told-holds rules past (judged-of rules past are) (λ n. has_entry table n ≡ true) undecided-has c moment note
