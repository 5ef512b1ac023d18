-- Of judged events: a delivery in progress from a client is of its link, and the payload of a complete one is fixed.
use Rattle.std.proofs.Common.{◌≡◌, refl, sym, ap, ◌∙◌, true, List, [], ◌∷◌, Some}
use Rattle.capture_form.specs.declared.records.Record.{Record}
use Rattle.capture_form.specs.Rules.{RuleSet}
use Rattle.trace_events.specs.Event.{Event, Link, Incoming}
use Rattle.trace_events.specs.Link.{link_at}
use Rattle.trace_events.specs.Incoming.{in_progress, is_complete, payload}
use Rattle.trace_events.specs.History.{judge, continued}
use Rattle.trace_events.proofs.Fates.{complete-stays}
use Rattle.trace_events.proofs.Judged.{AreJudged}
use Rattle.trace_events.proofs.Incomings.{complete-payload, judged-sound}
use Rattle.trace_events.proofs.JudgedHistories.{of_histories}
use Rattle.trace_events.proofs.Parts.{AreKept, IsKept, history_kept, progress_holds}

pub judged-kept : (rules : RuleSet) (past : List Event) → AreJudged rules past → AreKept rules past
judged-kept rules past are = of_histories rules (AreKept rules) (history_kept rules) past are

-- it began before, has an id, is found by its number, and its link is known
pub progress-kept : (rules : RuleSet) (past : List Event) (l : Link) (d : Incoming) → AreJudged rules past → in_progress l past ≡ Some d → IsKept past d
progress-kept rules past l d are is = progress_holds (IsKept past) l past d (judged-kept rules past are).each is

same_some : {A : Type 0} (a b : A) → Some a ≡ Some b → a ≡ b
same_some a b is = cc

-- on a link that is known it is of that link
pub progress-link : (rules : RuleSet) (past : List Event) (l : Link) (d : Incoming) → AreJudged rules past → link_at l.number past ≡ Some l → in_progress l past ≡ Some d → d.link ≡ l
progress-link rules past l d are at is =
    same_some d.link l (sym (progress-kept rules past l d are is).link.at ∙ (ap (λ n. link_at n past) ((judged-sound rules past are).own l d is) ∙ at))

-- whatever is recorded later leaves the payload of a complete delivery as it was
pub complete-payload_stays : (rules : RuleSet) (past : List Event) (rs : List Record) (d : Incoming) → AreJudged rules past → is_complete d past ≡ true → payload d (continued rules past rs) ≡ payload d past
complete-payload_stays rules past [] d are done = refl
complete-payload_stays rules past (r ∷ rs) d are done =
    complete-payload_stays rules (judge rules past r ∷ past) rs d ((r, refl), are) (complete-stays d (judge rules past r) past done)
    ∙ complete-payload rules (judge rules past r) past ((r, refl), are) d done
