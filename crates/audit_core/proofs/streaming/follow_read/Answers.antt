use Rattle.std.proofs.Common.{◌≡◌, refl, sym, subst, ◌∙◌, true, false, length, None, Some, arith}
use Rattle.std.specs.Prelude.{[], ◌≢◌, IfSome, ◌++◌}
use Rattle.capture_form.specs.Reader.{left_of}
use Rattle.capture_form.specs.Text.{record_text, head_text}
use Rattle.capture_form.proofs.TextLemmas.{long_record}
use Rattle.audit_core.specs.Auditor.{Follows, IsRefusalBehind, forgets_by, rules_of}
use Rattle.audit_core.specs.declared.verdict.Refusal.TheVariants.{Memory}
use Rattle.audit_core.specs.declared.verdict.Verdict.{Verdict}
use Rattle.audit_core.specs.Verdict.{AnswersRead, is_sure}
use Rattle.audit_core.specs.Watching.{Watched}
use Rattle.audit_core.proofs.ReadSteps.{found_so, fits_so, moved_so, starts, few, goes_on, ends, refuses, breaks, stops}
use Rattle.audit_core.proofs.Watches.{seen_by, sure_fault, sure_refusal, unsure_refusal, stops_seen, ends_seen, refuses_seen}
use Rattle.audit_core.proofs.Unread.{unread_fault, read_refusal}
use Rattle.audit_core.proofs.streaming.follow_read.Goals as goal

pub records-init : goal.records-init
records-init g c = (
  refl,
  starts g.R.Read.remaining (rules_of c.args.auditor.now) c.args.records.now c.args.auditor.now c.args.offset (λ records. g.W.Watcher.saw c.args.watcher.now c.args.watcher.now (rules_of c.args.auditor.now) [] → g.W.Watcher.saw c.args.watcher.now c.args.watcher.now (rules_of c.args.auditor.now) records) c.requires.rules c.requires.follows c.requires.head c.requires.place
      c.requires.runs (λ unseen. unseen),
)

pub take_watched-requires-clause-few : goal.take_watched-requires-clause-few
take_watched-requires-clause-few g c =
    let some = c.in-Ok-Some in
    let moved = moved_so _ _ some.field-0 some.entry some.field-0-is some.ensures.moved in
    few g.R.Read.remaining (rules_of c.args.auditor.now) _ c.records.records c.records.auditor c.records.offset _ c.records.invariant.1 _ (length (record_text some.entry)) _ moved some.ensures.within (omega (arith, long_record some.entry))

pub take_watched-requires-clause-follows : goal.take_watched-requires-clause-follows
take_watched-requires-clause-follows g c =
    let so_far = c.records.invariant.1 in
    (so_far.records, subst (λ rs. Follows c.records.auditor rs so_far.records) (sym so_far.follows.stands.0) so_far.follows)

pub returns-in-Err-take_watched-clause-answers : goal.returns-in-Err-take_watched-clause-answers
returns-in-Err-take_watched-clause-answers g c = λ sure.
    let some = c.in-Ok-Some in
    let rules = rules_of c.args.auditor.now in
    let next = found_so _ _ some.field-0 (Some some.entry) some.field-0-is some.ensures.next in
    let fits = fits_so some.field-0 some.entry some.field-0-is some.ensures.bounds in
    subst (λ v. IfSome (left_of g.R.Read.remaining c.args.records.now) (λ left. AnswersRead (head_text rules ++ left) v)) (sym c.verdict_of_refusal.ensures)
    (refuses g.R.Read.remaining rules _ c.records.records c.records.auditor c.records.offset _ c.records.invariant.1 some.entry _ c.in-Err-take_watched.refusal fits next
    (λ rs es follows. sure_refusal (forgets_by c.args.auditor.now) c.in-Err-take_watched.refusal c.records.offset (subst (λ v. is_sure (forgets_by c.args.auditor.now) v ≡ true) c.verdict_of_refusal.ensures sure) (λ r. IsRefusalBehind rs es some.entry r) tt
    (λ keeps. c.in-Err-take_watched.ensures.refused (c.records.invariant.0 ∙ keeps) rs es follows)))

pub records-smaller : goal.records-smaller
records-smaller g c =
    let some = c.in-Ok-Some in
    let moved = moved_so _ _ some.field-0 some.entry some.field-0-is some.ensures.moved in
    omega (arith, c.records.invariant.1.at, moved, some.ensures.within, c.len_of_record-len.ensures, long_record some.entry)

pub records-preserved : goal.records-preserved
records-preserved g c =
    let some = c.in-Ok-Some in
    let next = found_so _ _ some.field-0 (Some some.entry) some.field-0-is some.ensures.next in
    let moved = moved_so _ _ some.field-0 some.entry some.field-0-is some.ensures.moved in
    let fits = fits_so some.field-0 some.entry some.field-0-is some.ensures.bounds in (
      c.take_watched.ensures.kind ∙ c.records.invariant.0,
      goes_on g.R.Read.remaining (rules_of c.args.auditor.now) _ c.records.records c.records.auditor c.records.offset _ c.records.invariant.1 some.entry c.next_record.new.self c.take_watched.new.auditor c.len_of_record-len.result (λ records. g.W.Watcher.saw c.args.watcher.now c.args.watcher.now (rules_of c.args.auditor.now) [] → g.W.Watcher.saw c.args.watcher.now c.take_watched.new.watcher (rules_of c.args.auditor.now) records)
          fits c.len_of_record-len.ensures next moved (some.ensures.sound refl) c.in_default.ensures.taken (λ records follows known unseen. c.in_default.ensures.seen c.args.watcher.now (rules_of c.args.auditor.now) records follows (known unseen)),
    )

pub returns-in-Ok-None-clause-answers : goal.returns-in-Ok-None-clause-answers
returns-in-Ok-None-clause-answers g c = λ sure.
    let next = found_so _ _ c.in-Ok-None.field-0 None c.in-Ok-None.field-0-is c.in-Ok-None.ensures.next in
    ends g.R.Read.remaining (rules_of c.args.auditor.now) _ c.records.records c.records.auditor c.records.offset _ c.records.invariant.1 c.tally.result _ c.tally.ensures next

pub returns-in-Err-clause-answers : goal.returns-in-Err-clause-answers
returns-in-Err-clause-answers g c = λ sure.
    let rules = rules_of c.args.auditor.now in
    subst (λ v. IfSome (left_of g.R.Read.remaining c.args.records.now) (λ left. AnswersRead (head_text rules ++ left) v)) (sym c.verdict_of_fault.ensures)
    (stops g.R.Read.remaining rules _ c.records.records c.records.auditor c.records.offset _ c.records.invariant.1 c.in-Err.fault c.in-Err.ensures.place c.in-Err.ensures.exact)

pub returns-in-Ok-None-clause-watched : goal.returns-in-Ok-None-clause-watched
returns-in-Ok-None-clause-watched g c =
    λ sure unseen.
    let so_far = seen_by g.R.Read.remaining (rules_of c.args.auditor.now) _ c.records.records c.records.auditor c.records.offset (g.W.Watcher.saw c.args.watcher.now c.args.watcher.now (rules_of c.args.auditor.now) []) (g.W.Watcher.saw c.args.watcher.now c.records.watcher (rules_of c.args.auditor.now)) c.records.invariant.1 unseen in
    let next = found_so _ _ c.in-Ok-None.field-0 None c.in-Ok-None.field-0-is c.in-Ok-None.ensures.next in
    ends_seen (g.W.Watcher.saw c.args.watcher.now) (g.W.Watcher.saw_refused c.args.watcher.now) g.R.Read.remaining (rules_of c.args.auditor.now) _ c.records.records c.records.auditor c.records.offset c.records.watcher so_far c.tally.result _ next

pub returns-in-Err-clause-watched : goal.returns-in-Err-clause-watched
returns-in-Err-clause-watched g c =
    λ sure unseen.
    let rules = rules_of c.args.auditor.now in
    let so_far = seen_by g.R.Read.remaining rules _ c.records.records c.records.auditor c.records.offset (g.W.Watcher.saw c.args.watcher.now c.args.watcher.now (rules_of c.args.auditor.now) []) (g.W.Watcher.saw c.args.watcher.now c.records.watcher (rules_of c.args.auditor.now)) c.records.invariant.1 unseen in
    subst (λ v. IfSome (left_of g.R.Read.remaining c.args.records.now) (λ left. Watched (g.W.Watcher.saw c.args.watcher.now) (g.W.Watcher.saw_refused c.args.watcher.now) c.records.watcher (head_text rules ++ left) v)) (sym c.verdict_of_fault.ensures)
    (stops_seen (g.W.Watcher.saw c.args.watcher.now) (g.W.Watcher.saw_refused c.args.watcher.now) g.R.Read.remaining rules _ c.records.records c.records.auditor c.records.offset c.records.watcher so_far c.in-Err.fault c.in-Err.ensures.exact)

pub returns-in-Err-take_watched-clause-watched : goal.returns-in-Err-take_watched-clause-watched
returns-in-Err-take_watched-clause-watched g c =
    λ sure unseen.
    let some = c.in-Ok-Some in
    let rules = rules_of c.args.auditor.now in
    let so_far = seen_by g.R.Read.remaining rules _ c.records.records c.records.auditor c.records.offset (g.W.Watcher.saw c.args.watcher.now c.args.watcher.now (rules_of c.args.auditor.now) []) (g.W.Watcher.saw c.args.watcher.now c.records.watcher (rules_of c.args.auditor.now)) c.records.invariant.1 unseen in
    let refusal = c.in-Err-take_watched.refusal in
    let own_sure = subst (λ v. is_sure (forgets_by c.args.auditor.now) v ≡ true) c.verdict_of_refusal.ensures sure in
    let next = found_so _ _ some.field-0 (Some some.entry) some.field-0-is some.ensures.next in
    let fits = fits_so some.field-0 some.entry some.field-0-is some.ensures.bounds in
    subst (λ v. IfSome (left_of g.R.Read.remaining c.args.records.now) (λ left. Watched (g.W.Watcher.saw c.args.watcher.now) (g.W.Watcher.saw_refused c.args.watcher.now) c.take_watched.new.watcher (head_text rules ++ left) v)) (sym c.verdict_of_refusal.ensures)
    (refuses_seen (g.W.Watcher.saw c.args.watcher.now) (g.W.Watcher.saw_refused c.args.watcher.now) g.R.Read.remaining rules _ c.records.records c.records.auditor c.records.offset c.records.watcher so_far c.take_watched.new.watcher some.entry fits refusal _ next
    (sure_refusal (forgets_by c.args.auditor.now) refusal c.records.offset own_sure (λ r. IsRefusalBehind rules so_far.records some.entry r) tt (λ keeps. c.in-Err-take_watched.ensures.refused (c.records.invariant.0 ∙ keeps) rules so_far.records so_far.follows))
    (λ no. sure_refusal (forgets_by c.args.auditor.now) refusal c.records.offset own_sure (λ r. r ≢ Memory → g.W.Watcher.saw_refused c.args.watcher.now c.take_watched.new.watcher rules so_far.records some.entry) (λ want. absurd (want refl)) (λ keeps none. c.in-Err-take_watched.ensures.explained (c.records.invariant.0 ∙ keeps) none c.args.watcher.now rules so_far.records so_far.follows so_far.seen) no))

pub returns-in-Err-clause-unreadable : goal.returns-in-Err-clause-unreadable
returns-in-Err-clause-unreadable g c = λ number is.
    c.in-Err.ensures.unreadable c.records.invariant.1.runs (unread_fault c.in-Err.fault.kind c.in-Err.fault.offset number (sym c.verdict_of_fault.ensures ∙ is))

pub returns-in-Err-take_watched-clause-unreadable : goal.returns-in-Err-take_watched-clause-unreadable
returns-in-Err-take_watched-clause-unreadable g c = λ number is.
    absurd (read_refusal c.in-Err-take_watched.refusal c.records.offset number (sym c.verdict_of_refusal.ensures ∙ is))

pub returns-in-Ok-None-clause-refused : goal.returns-in-Ok-None-clause-refused
returns-in-Ok-None-clause-refused g c = λ unsure. let never : true ≡ false = unsure in absurd cc

pub returns-in-Err-clause-refused : goal.returns-in-Err-clause-refused
returns-in-Err-clause-refused g c = λ unsure.
    let forgets = forgets_by c.args.auditor.now in
    let never : true ≡ false = sym (sure_fault forgets c.in-Err.fault.kind c.in-Err.fault.offset) ∙ subst (λ (v : Verdict). is_sure forgets v ≡ false) c.verdict_of_fault.ensures unsure in
    absurd cc

pub returns-in-Err-take_watched-clause-refused : goal.returns-in-Err-take_watched-clause-refused
returns-in-Err-take_watched-clause-refused g c = λ unsure.
    let some = c.in-Ok-Some in
    let next = found_so _ _ some.field-0 (Some some.entry) some.field-0-is some.ensures.next in
    let fits = fits_so some.field-0 some.entry some.field-0-is some.ensures.bounds in
    let refusal = c.in-Err-take_watched.refusal in
    let wants = unsure_refusal (forgets_by c.args.auditor.now) refusal c.records.offset (subst (λ (v : Verdict). is_sure (forgets_by c.args.auditor.now) v ≡ false) c.verdict_of_refusal.ensures unsure) in
    breaks g.R.Read.remaining (rules_of c.args.auditor.now) _ c.records.records c.records.auditor c.records.offset _ c.records.invariant.1 some.entry _ refusal fits next wants c.in-Err-take_watched.ensures.broken
