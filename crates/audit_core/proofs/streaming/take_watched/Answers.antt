use Rattle.std.proofs.Common.{sym, ap, subst, ◌∙◌, ◌∷◌, ◌++◌, []}
use Rattle.std.specs.Prelude.{◌≢◌}
use Rattle.state_ledger.specs.declared.ledger.Ledger.{Ledger}
use Rattle.audit_core.specs.Auditor.{rules_of}
use Rattle.audit_core.specs.declared.verdict.Refusal.{Refusal}
use Rattle.audit_core.specs.declared.verdict.Refusal.TheVariants.{Memory}
use Rattle.audit_core.proofs.Watches.{explained, held_by, seen_taken}
use Rattle.audit_core.proofs.streaming.take_watched.Goals as goal

pub taken-requires : goal.taken-requires
taken-requires g c =
    let records = c.requires.follows.0 in
    let follows = c.in-Ok.ensures.taken (rules_of c.args.auditor.now) records c.requires.follows.1 in
    (records, held_by c.follow.new.self c.rules.result.now c.ledger.result.now c.rules.ensures c.ledger.ensures (rules_of c.args.auditor.now) (records ++ c.args.entry ∷ []) follows.stands)

pub returns-in-Ok-taken-clause-seen : goal.returns-in-Ok-taken-clause-seen
returns-in-Ok-taken-clause-seen g c = λ first rules records follows seen.
    seen_taken (g.W.Watcher.saw first) (g.W.Watcher.saw_refused first) c.args.watcher.now c.taken.new.self c.follow.new.self c.rules.result.now c.ledger.result.now c.args.entry c.rules.ensures c.ledger.ensures (c.in-Ok-taken.ensures first)
    rules records (c.in-Ok.ensures.taken rules records follows).stands seen

pub returns-in-Ok-refused-clause-explained : goal.returns-in-Ok-refused-clause-explained
returns-in-Ok-refused-clause-explained g c = λ keeps no first rules records follows seen.
    explained (g.W.Watcher.saw first) (g.W.Watcher.saw_refused first) c.args.watcher.now c.refused.new.self c.follow.new.self c.rules-in-Err-Broken.result.now c.ledger-in-Err-Broken.result.now c.args.entry c.rules-in-Err-Broken.ensures c.ledger-in-Err-Broken.ensures (c.in-Ok-refused.ensures first)
    (ap (λ (l : Ledger). l.forgets) c.ledger-in-Err-Broken.ensures ∙ (c.follow.ensures.kind ∙ keeps)) rules records (c.in-Err-Broken.ensures.stands (subst (λ (r : Refusal). r ≢ Memory) (sym c.in-Err-Broken.field-0-is) no) rules records follows.stands) seen
