-- A table of deliveries in which an event moved those that it touches has what the law keeps behind the event.
use Rattle.std.proofs.Common.{◌≡◌, refl, sym, ap, subst, ◌∙◌, ◌⊎◌, ℕ, Bool, true, false, ◌&&◌, ◌||◌, not, List, ◌∷◌, Option, Some, None, IfSome, inl, inr, option_and_then, if◌then◌else◌}
use Rattle.capture_form.specs.Rules.{RuleSet}
use Rattle.trace_events.specs.Event.{Event}
use Rattle.trace_events.specs.Address.{has_consumer}
use Rattle.trace_events.specs.Incoming.{is_complete, is_aborted, is_settled, is_told}
use Rattle.trace_events.specs.Link.{is_live}
use Rattle.trace_events.specs.Waiting.{always_had_consumer, is_of_multicast}
use Rattle.trace_events.specs.Outgoing.{is_paired}
use Rattle.trace_events.proofs.Judged.{AreJudged}
use Rattle.trace_events.specs.Clauses.{first_broken}
use Rattle.state_tables.specs.Addressed.{IsAddressed}
use Rattle.state_incoming.specs.Held.{Held, held_at, address_behind, held_begun, is_begun_served, held_on, held_behind, begins_number, says_arriving, says_gone, stands_open}
use Rattle.state_incoming.specs.HeldTouched.{is_touched, is_kept}
use Rattle.state_incoming.proofs.FateSteps.{fate_by}
use Rattle.state_incoming.proofs.HeldAnswers.{held-of}
use Rattle.trace_events.proofs.PartsGoOn.{complete-whole}
use Rattle.state_incoming.proofs.HeldSteps.{held-behind}
use Rattle.state_incoming.proofs.HeldUntouched.{untouched}

-- of what is kept: c: it is complete, m: of multicast, p: paired, a: its address always had a consumer, s: settled, t: told
kept_by : (c m p a s t live aborted : Bool) → (c ≡ true → aborted ≡ false)
    → (if c then not (((not m && c && not p) && not a) && (t || s || not live)) else not aborted && live) ≡ true
    → not (says_gone (fate_by c m p a) && (t || s || not live))
    && ((live && not aborted && (not c || (not m && c && not p) && a || not (s || t))) || not (says_arriving (fate_by c m p a)) && (t || s || not live))
    && (not (live && not aborted && (not c || (not m && c && not p) && a || not (s || t))) || stands_open (fate_by c m p a) (t || s || not live)) ≡ true
kept_by true m p a s t live true whole is = let never : true ≡ false = whole refl in absurd cc
kept_by false m p a s t live true whole is = absurd cc
kept_by false m p a s t false false whole is = absurd cc
kept_by false m p a s t true false whole is = refl
kept_by true true p a true true true false whole is = refl
kept_by true true p a true true false false whole is = refl
kept_by true true p a true false true false whole is = refl
kept_by true true p a true false false false whole is = refl
kept_by true true p a false true true false whole is = refl
kept_by true true p a false true false false whole is = refl
kept_by true true p a false false true false whole is = refl
kept_by true true p a false false false false whole is = refl
kept_by true false true a true true true false whole is = refl
kept_by true false true a true true false false whole is = refl
kept_by true false true a true false true false whole is = refl
kept_by true false true a true false false false whole is = refl
kept_by true false true a false true true false whole is = refl
kept_by true false true a false true false false whole is = refl
kept_by true false true a false false true false whole is = refl
kept_by true false true a false false false false whole is = refl
kept_by true false false true true true true false whole is = refl
kept_by true false false true true true false false whole is = refl
kept_by true false false true true false true false whole is = refl
kept_by true false false true true false false false whole is = refl
kept_by true false false true false true true false whole is = refl
kept_by true false false true false true false false whole is = refl
kept_by true false false true false false true false whole is = refl
kept_by true false false true false false false false whole is = refl
kept_by true false false false true true true false whole is = absurd cc
kept_by true false false false true true false false whole is = absurd cc
kept_by true false false false true false true false whole is = absurd cc
kept_by true false false false true false false false whole is = absurd cc
kept_by true false false false false true true false whole is = absurd cc
kept_by true false false false false true false false whole is = absurd cc
kept_by true false false false false false true false whole is = refl
kept_by true false false false false false false false whole is = absurd cc

pub entry-kept : (rules : RuleSet) (past : List Event) → AreJudged rules past → (n : ℕ) (x : Held) → held_at rules n past ≡ Some x → is_kept x ≡ true
entry-kept rules past are n x entry =
    let of = held-of rules n past x entry in
    let d = x.delivery in
    ap (λ (y : Held). is_kept y) (sym of.is)
    ∙ kept_by (is_complete d past) (is_of_multicast rules d past) (is_paired d past) (always_had_consumer d past) (is_settled d past) (is_told d past) (is_live past d.link) (is_aborted d past)
    (complete-whole rules past are d) of.kept

module _ (rules : RuleSet) (e : Event) (past : List Event) (are : AreJudged rules (e ∷ past)) (lawful : first_broken rules (e ∷ past) ≡ None)
    (to : List ℕ) (addressed : IsAddressed e past to) where
  abbrev has : List ℕ → Bool
  has address = has_consumer address (e ∷ past)

  -- the event neither begins the delivery of this number nor touches it
  abbrev IsApart : ℕ → Option Held → Type 0
  IsApart n o = (begins_number e n ≡ false) × IfSome o (λ (x : Held). is_touched e (has (address_behind e to x)) x ≡ false)

  abbrev on : Held → Option Held
  on x = held_on rules e to has x

  apart-stays : (n : ℕ) → IsApart n (held_at rules n past) → held_behind rules e to has n (held_at rules n past) ≡ held_at rules n past
  apart-stays n off = ap (λ b. if b then held_begun rules e to (is_begun_served e to has) else option_and_then on (held_at rules n past)) off.0 ∙ by (held_at rules n past) refl off.1
    where
      by : (o : Option Held) → held_at rules n past ≡ o → IfSome o (λ (x : Held). is_touched e (has (address_behind e to x)) x ≡ false) → option_and_then on o ≡ o
      by None found none = refl
      by (Some x) found none = untouched rules e to (has (address_behind e to x)) x none (entry-kept rules past are.1 n x found)

  -- of one number, what the table had of it and what it has
  pub moved-held : (n : ℕ) (old new : Option Held) → old ≡ held_at rules n past
      → (new ≡ held_behind rules e to has n old) ⊎ (IsApart n old × (new ≡ old)) → new ≡ held_at rules n (e ∷ past)
  moved-held n old new was moved = elim moved [
    | inl here ↦ here ∙ (ap (held_behind rules e to has n) was ∙ sym (held-behind rules e past are lawful to addressed n))
    | inr apart ↦ apart.1 ∙ (was ∙ (sym (apart-stays n (subst (IsApart n) was apart.0)) ∙ sym (held-behind rules e past are lawful to addressed n)))
  ]
