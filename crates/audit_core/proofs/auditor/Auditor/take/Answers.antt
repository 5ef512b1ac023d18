use Rattle.std.proofs.Common.{◌≡◌, ◌∙◌, [], ◌∷◌, ◌++◌, List, None}
use Rattle.capture_form.specs.declared.records.Record.{Record}
use Rattle.capture_form.specs.Rules.{RuleSet}
use Rattle.state_ledger.specs.Ledger.{broken_behind}
use Rattle.audit_core.specs.Auditor.{Agrees, IsRefusalBehind}
use Rattle.audit_core.proofs.Taken.{if_err, on_ok}
use Rattle.audit_core.proofs.auditor.Auditor.take.Goals as goal

pub returns-clause-met : goal.returns-clause-met
returns-clause-met c =
    on_ok {Q = (rules : RuleSet) (records : List Record) → Agrees c.args.self.now rules records → broken_behind rules records c.args.entry ≡ None} c.follow.result c.follow.ensures.met
    (λ met. λ rules records agrees. met rules records agrees.follows)

pub returns-clause-taken : goal.returns-clause-taken
returns-clause-taken c =
    on_ok {Q = (rules : RuleSet) (records : List Record) → Agrees c.args.self.now rules records → Agrees c.follow.new.self rules (records ++ c.args.entry ∷ [])} c.follow.result c.follow.ensures.taken
    (λ taken. λ rules records agrees. record { follows = taken rules records agrees.follows; keeps = c.follow.ensures.kind ∙ agrees.keeps })

pub returns-clause-refused : goal.returns-clause-refused
returns-clause-refused c =
    if_err {Q = λ refusal. (rules : RuleSet) (records : List Record) → Agrees c.args.self.now rules records → IsRefusalBehind rules records c.args.entry refusal} c.follow.result c.follow.ensures.refused
    (λ refusal refused. λ rules records agrees. refused agrees.keeps rules records agrees.follows)
