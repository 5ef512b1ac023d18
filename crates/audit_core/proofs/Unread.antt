-- When a text could not be read any more, and when there was no room to read it into.
use Rattle.std.proofs.Common.{◌≡◌, ℕ, List, Option, Some, None, refl, subst, inl}
use Rattle.std.specs.Prelude.{IfSome}
use Rattle.std.specs.Io.KnownBytes.{Keeps}
use Rattle.capture_form.specs.declared.records.Record.{Record}
use Rattle.capture_form.specs.declared.fault.FormKind.{FormKind}
use Rattle.capture_form.specs.declared.fault.FormKind.TheVariants as kinds
use Rattle.capture_form.specs.Rules.{RuleSet}
use Rattle.trace_events.specs.declared.tally.Tally.{Tally}
use Rattle.audit_core.specs.declared.verdict.Verdict.TheVariants.{Accepted, NoMemory, Unreadable}
use Rattle.audit_core.specs.declared.verdict.Refusal.{Refusal}
use Rattle.audit_core.specs.declared.verdict.Refusal.TheVariants.{Broken, Memory}
use Rattle.audit_core.specs.Verdict.{AnswersRead, IsKept, verdict_of_fault, verdict_of_refusal}
use Rattle.audit_core.specs.Watching.{Watched}

-- the verdict is that no more could be read only where a read is at fault
pub unread_fault : (kind : FormKind) (offset number : ℕ) → verdict_of_fault kind offset ≡ Unreadable number → kind ≡ kinds.Read
unread_fault kinds.Magic offset number is = absurd cc
unread_fault kinds.Rules offset number is = absurd cc
unread_fault kinds.Kind offset number is = absurd cc
unread_fault kinds.Note offset number is = absurd cc
unread_fault kinds.Length offset number is = absurd cc
unread_fault kinds.Truncated offset number is = absurd cc
unread_fault kinds.Memory offset number is = absurd cc
unread_fault kinds.Read offset number is = refl

pub read_refusal : (refusal : Refusal) (offset number : ℕ) → verdict_of_refusal offset refusal ≡ Unreadable number → ⊥
read_refusal (Broken at clause) offset number is = cc
read_refusal Memory offset number is = cc

-- what holds of the octets that are left holds of those that were known before
pub kept_of : (old new : Option (List ℕ)) (P : List ℕ → Type 0) → Keeps old new → IfSome new P → IfSome old P
kept_of None new P keeps holds = tt
kept_of (Some xs) None P keeps holds = absurd keeps
kept_of (Some xs) (Some ys) P keeps holds = subst P keeps holds

-- without room no octet was read
pub roomless : (known : Option (List ℕ)) → IfSome known (λ octets. AnswersRead octets (NoMemory 0))
roomless None = tt
roomless (Some octets) = inl refl

pub roomless_kept : (known : Option (List ℕ)) → IfSome known (λ octets. (tally : Tally) → NoMemory 0 ≡ Accepted tally → IsKept octets)
roomless_kept None = tt
roomless_kept (Some octets) = λ tally is. absurd cc

pub roomless_seen : {W : Type 0} (saw : W → RuleSet → List Record → Type 0) (refuses : W → RuleSet → List Record → Record → Type 0) (known : Option (List ℕ)) (watcher : W)
    → IfSome known (λ octets. Watched saw refuses watcher octets (NoMemory 0))
roomless_seen saw refuses None watcher = tt
roomless_seen saw refuses (Some octets) watcher = tt
