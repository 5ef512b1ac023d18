use Rattle.std.proofs.Common.{refl, subst, ◌≡◌, true, ap, ◌∙◌, ◌&&◌, ◌||◌, ◌==◌, not, length, eq-eqb, eqb-true, nat_eq}
use Rattle.std.proofs.lemmas.Result.{err_from_is_err_and}
use Rattle.number_groups.specs.Groups.{numbers}
use Rattle.number_groups.specs.Numbers.{is_among}
use Rattle.amqp_perf.specs.declared.descriptor.Outcome.TheVariants.{Modified}
use Rattle.trace_events.specs.BestVerdict.{is_same_outcome}
use Rattle.state_verdicts.specs.Verdicts.{awaits_in, had_in}
use Rattle.state_verdicts.proofs.TableSteps.{and_true, first-there, gone-modified, none-fewer, one-fewer, same-modified}
use Rattle.state_verdicts.proofs.verdicts.Verdicts.end_first.Goals as goal
use Rattle.state_verdicts.proofs.verdicts.Verdicts.end_first.Goals.{in-Some+in_ok-note, in_default}

pub returns-clause-fewer : goal.returns-clause-fewer
returns-clause-fewer c =
    let link = c.args.link in
    let old = numbers nat_eq c.args.self.now.on_link link in
    elim c.match-first.branch [
      | in-Some+in_ok-note w ↦
          one-fewer old (numbers nat_eq c.match-first.self.on_link link) w.in-Some.delivery c.count.result c.count.ensures.distinct w.in-Some.ensures
          (λ n. ap (λ t. awaits_in t link n) w.self-is ∙ (w.in_ok-note.ensures.awaits link n ∙ (w.remove.ensures.awaits link n ∙ ap (λ b. awaits_in c.args.self.now link n && not (b && (w.in-Some.delivery == n))) (eq-eqb link link refl))))
          c.count.ensures.count
      | in_default w ↦ none-fewer old c.count.result w.in_default.ensures (c.count.ensures.count ∙ ap (λ t. length (numbers nat_eq t.on_link link)) w.self-is)
    ]

pub returns-clause-had : goal.returns-clause-had
returns-clause-had c = λ n outcome.
    let link = c.args.link in
    let old = numbers nat_eq c.args.self.now.on_link link in
    elim c.match-first.branch [
      | in-Some+in_ok-note w ↦
          ap (λ t. had_in t n outcome) w.self-is
          ∙ (w.in_ok-note.ensures.had n outcome
          ∙ (ap (λ b. b || w.in-Some.delivery == n && is_same_outcome outcome Modified) (w.remove.ensures.had n outcome)
          ∙ gone-modified (is_same_outcome outcome Modified) (had_in c.args.self.now n outcome) (awaits_in c.args.self.now link n) (w.in-Some.delivery == n) (awaits_in c.match-first.self link n)
          (λ same. subst (λ m. is_among old m ≡ true) (eqb-true w.in-Some.delivery n same) (first-there old w.in-Some.delivery w.in-Some.ensures))
          (ap (λ t. awaits_in t link n) w.self-is ∙ (w.in_ok-note.ensures.awaits link n ∙ (w.remove.ensures.awaits link n ∙ ap (λ b. awaits_in c.args.self.now link n && not (b && (w.in-Some.delivery == n))) (eq-eqb link link refl))))))
      | in_default w ↦
          ap (λ t. had_in t n outcome) w.self-is
          ∙ same-modified (is_same_outcome outcome Modified) (had_in c.args.self.now n outcome) (awaits_in c.args.self.now link n) (awaits_in c.match-first.self link n) (ap (λ t. awaits_in t link n) w.self-is)
    ]

pub returns-clause-others : goal.returns-clause-others
returns-clause-others c = λ at n other.
    elim c.match-first.branch [
      | in-Some+in_ok-note w ↦
          ap (λ t. awaits_in t at n) w.self-is
          ∙ (w.in_ok-note.ensures.awaits at n
          ∙ (w.remove.ensures.awaits at n
          ∙ (ap (λ b. awaits_in c.args.self.now at n && not (b && (w.in-Some.delivery == n))) other ∙ and_true (awaits_in c.args.self.now at n))))
      | in_default w ↦ ap (λ t. awaits_in t at n) w.self-is
    ]

pub returns-in_err-note-clause-refused : goal.returns-in_err-note-clause-refused
returns-in_err-note-clause-refused c =
    let p = err_from_is_err_and c.from_residual.result c.from_residual.ensures.1 in
    rw p.1 (c.in-Some.delivery, first-there (numbers nat_eq c.args.self.now.on_link c.args.link) c.in-Some.delivery c.in-Some.ensures)
