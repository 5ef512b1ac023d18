-- What a watcher of an audit has seen, and what it has not.
use Rattle.std.proofs.Common.{◌≡◌, refl, sym, ap, ◌∙◌, ℕ, ◌+◌, List, [], ◌∷◌, ◌++◌, length, arith}
use Rattle.std.proofs.lemmas.List.{length-append}
use Rattle.capture_form.specs.declared.records.Record.{Record}
use Rattle.capture_form.specs.Rules.{RuleSet}
use Rattle.capture_form.specs.Text.{Trace, IsCapture, text}
use Rattle.capture_form.specs.declared.fault.FormKind.{FormKind}
use Rattle.capture_form.specs.declared.fault.FormKind.TheVariants as kinds
use Rattle.capture_form.specs.Reading.{announced_at, form_at, head_at, magic_at, reading}
use Rattle.capture_form.proofs.ReadingLaws.{headless, one_capture}
use Rattle.audit_core.specs.declared.verdict.Verdict.TheVariants.{Malformed}
use Rattle.audit_core.specs.Watching.{SawAll, SawRefused, Watched}

-- a watcher that keeps the records of which it is told, and knows just these
abbrev keeps : List Record → RuleSet → List Record → Type 0
keeps kept rules records = kept ≡ records

abbrev keeps_refused : List Record → RuleSet → List Record → Record → Type 0
keeps_refused kept rules before entry = kept ≡ before ++ entry ∷ []

-- it has seen all of a capture where it keeps its records, and not where it keeps others
all_seen : (capture : Trace) → IsCapture capture → SawAll keeps capture.records (text capture)
all_seen capture bounds = record { trace = capture; bounds = bounds; whole = refl; seen = refl }

others_seen : (capture : Trace) (kept : List Record) → IsCapture capture → (kept ≡ capture.records → ⊥) → SawAll keeps kept (text capture) → ⊥
others_seen capture kept bounds others s =
    others (s.seen ∙ ap (λ (t : Trace). t.records) (sym (one_capture capture s.trace bounds s.bounds s.whole)))

-- it has seen the refused record where it keeps those before and then this one, and not where it keeps nothing, or another
-- number of them
refused_seen : (rules : RuleSet) (before : List Record) (entry : Record) (rest : List ℕ) → IsCapture (record { rules = rules; records = before ++ entry ∷ [] })
    → SawRefused keeps_refused (before ++ entry ∷ []) (text (record { rules = rules; records = before ++ entry ∷ [] }) ++ rest) (length before)
refused_seen rules before entry rest bounds = record { rules = rules; before = before; entry = entry; rest = rest; bounds = bounds; begins = refl; place = refl; seen = refl }

as_many_seen : (kept : List Record) (octets : List ℕ) (number : ℕ) → SawRefused keeps_refused kept octets number → length kept ≡ number + 1
as_many_seen kept octets number s =
    omega (arith, ap length s.seen, length-append s.before (s.entry ∷ []), s.place)

nothing_seen : (octets : List ℕ) (number : ℕ) → SawRefused keeps_refused [] octets number → ⊥
nothing_seen octets number s = absurd (omega (arith, as_many_seen [] octets number s))

-- in front of a fault it has seen the records that can be read where it keeps just these, and where there are none, not where
-- it keeps one
front_seen : (octets : List ℕ) (offset : ℕ) (form_kind : FormKind) → Watched keeps keeps_refused (reading octets).records octets (Malformed offset form_kind)
front_seen octets offset form_kind = refl

one_more_seen : (entry : Record) → Watched keeps keeps_refused (entry ∷ []) [] (Malformed 0 kinds.Magic) → ⊥
unfolding head_at announced_at form_at magic_at
one_more_seen entry s =
    let none : entry ∷ [] ≡ [] = s ∙ (headless [] refl).1 in
    absurd cc
