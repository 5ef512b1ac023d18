use Rattle.std.proofs.Common.{◌≡◌, sym, ap, subst, ◌∙◌, ◌<◌, ℕ, false, length, Option, IfSome}
use Rattle.trace_events.specs.Event.{Incoming}
use Rattle.trace_events.specs.History.{history}
use Rattle.trace_events.specs.Incoming.{incoming_at}
use Rattle.trace_events.proofs.Judged.{AreJudged, history-judged}
use Rattle.trace_events.proofs.OneConsumer.{incoming_at-is}
use Rattle.state_verdicts.specs.Verdicts.{awaits_at}
use Rattle.state_verdicts.proofs.Copied.{all-copied}
use Rattle.state_verdicts.proofs.verdicts.Verdicts.has_all_of.Goals as goal

pub returns-clause-copied : goal.returns-clause-copied
returns-clause-copied c = λ rules records d are lawful at all l live.
    let n = c.args.number in
    let past = history rules records in
    let judged : AreJudged rules past = history-judged rules records in
    let number : d.number ≡ n = (subst (λ (o : Option Incoming). IfSome o (λ x. (n < length past) × (x.number ≡ n))) at (incoming_at-is rules past n judged)).1 in
    let none : (link : ℕ) → awaits_at rules past link d.number ≡ false =
    λ link. ap (awaits_at rules past link) number ∙ (sym (are.mirrored link n ∙ are.awaits link n) ∙ c.is_empty.ensures.0 all link) in
    all-copied rules past judged lawful d (ap (λ m. incoming_at m past) number ∙ at) l live none
