-- The list of deliveries that wait, behind one more event.
use Rattle.std.proofs.Common.{◌≡◌, refl, sym, ap, subst, ◌∙◌, ◌↔◌, ℕ, Bool, true, false, not, ◌&&◌, bytes_eq, inl, inr, List, ◌∷◌, Option, Some, None, IfSome, if◌then◌else◌}
use Rattle.std.specs.Prelude.{Contains}
use Rattle.std.proofs.lemmas.Slice.Eq.{bytes_eq-Decides}
use Rattle.capture_form.specs.Rules.{RuleSet}
use Rattle.trace_events.specs.Words.{where_passes}
use Rattle.trace_events.specs.Event.{Event, Link, Incoming, Outgoing}
use Rattle.trace_events.specs.Ends.{ends_link}
use Rattle.trace_events.specs.Incoming.{address_of, completed_by, completes}
use Rattle.trace_events.specs.Link.{IsLiveLink, is_consumer, opened_consumer}
use Rattle.trace_events.specs.Waiting.{has_waiting}
use Rattle.trace_events.proofs.IncomingSteps.{address_of-same}
use Rattle.trace_events.proofs.Judged.{AreJudged}
use Rattle.trace_events.specs.Clauses.{first_broken}
use Rattle.state_tables.specs.ConsumerLinks.{consumer_at, has_link}
use Rattle.due_lists.specs.Standing.{goes_on, grants_window}
use Rattle.due_lists.proofs.LiveOnes.{link-before}
use Rattle.due_lists.proofs.PartsDue.{consumer-found}
use Rattle.due_lists.proofs.PartsFollowed.{not-ended}
use Rattle.due_lists.specs.Waking.{MayBegin, IsGranted}
use Rattle.due_lists.proofs.Woken.{IsWoken, completed-now, might-before, other-before}

-- each live link of a consumer stands with its session, and an address at which a delivery may begin is one to try
pub record Have (rules : RuleSet) (stand : ℕ → ℕ → Bool) (wake : List ℕ → Bool) (past : List Event) : Type 0 where
  pub stands : (l : Link) → IsLiveLink l past → is_consumer l ≡ true → stand l.session.number l.number ≡ true
  pub to_try : (d : Incoming) (l : Link) → MayBegin rules past d l → wake (address_of d past) ≡ true

-- the address of what the event completes is one to try, where none waited there
pub completed-wakes : (to_try waits : List ℕ → Bool) (now : List Event) (address : List ℕ) (o : Option Incoming) → IfSome o (λ d. address_of d now ≡ address)
    → ((d : Incoming) → o ≡ Some d → waits address ≡ false → to_try address ≡ true)
    → (d : Incoming) → o ≡ Some d → waits (address_of d now) ≡ false → to_try (address_of d now) ≡ true
completed-wakes to_try waits now address o own wakes d is none =
    let same : address_of d now ≡ address = subst (λ (p : Option Incoming). IfSome p (λ x. address_of x now ≡ address)) is own in
    ap to_try same ∙ wakes d is (sym (ap waits same) ∙ none)

module _ (rules : RuleSet) (e : Event) (past : List Event) (are : AreJudged rules (e ∷ past)) (lawful : first_broken rules (e ∷ past) ≡ None)
    (ended : List Link) (all : (l : Link) → Contains ended l ↔ IsLiveLink l past × (ends_link l e ≡ true))
    (stood stand₁ stand : ℕ → ℕ → Bool) (was_to_try to_try : List ℕ → Bool)
    (completed : (d : Incoming) → completed_by e ≡ Some d → has_waiting rules (address_of d (e ∷ past)) past ≡ false → to_try (address_of d (e ∷ past)) ≡ true)
    (credited : (l : Link) → e.link ≡ Some l → is_consumer l ≡ true → grants_window e ≡ true → to_try l.address ≡ true)
    (freed : (j : Outgoing) → e.outgoing ≡ Some j → goes_on e ≡ false → to_try j.link.address ≡ true)
    (granted : (l : Link) → IsGranted e past l → stood l.session.number l.number ≡ true → consumer_at l.number past ≡ Some l → to_try l.address ≡ true)
    (kept : (address : List ℕ) → was_to_try address ≡ true → to_try address ≡ true)
    (stood₁ : (session n : ℕ) → has_link ended n ≡ false → stood session n ≡ true → stand₁ session n ≡ true)
    (opened : (l : Link) → opened_consumer e ≡ Some l → stand l.session.number l.number ≡ true)
    (stood₂ : (session n : ℕ) → stand₁ session n ≡ true → stand session n ≡ true)
    (has : Have rules stood was_to_try past) where
  stands-on : (l : Link) → IsLiveLink l (e ∷ past) → is_consumer l ≡ true → stand l.session.number l.number ≡ true
  stands-on l live consumer = elim (link-before rules e past are l live) [
    | inl own ↦ opened l (ap (where_passes is_consumer) own ∙ ap (λ b. if b then Some l else None) consumer)
    | inr was ↦ stood₂ l.session.number l.number (stood₁ l.session.number l.number (not-ended rules e past are ended all l was live) (has.stands l was consumer))
  ]

  module _ (d : Incoming) (l : Link) (h : MayBegin rules (e ∷ past) d l) where
    here : to_try l.address ≡ true → to_try (address_of d (e ∷ past)) ≡ true
    here is = ap to_try (sym h.address) ∙ is

    woken-wakes : IsWoken rules e past are lawful d l h → to_try (address_of d (e ∷ past)) ≡ true
    woken-wakes woken = elim woken [
      | inl flow ↦ here (credited l flow.link h.consumer flow.flow)
      | inr more ↦ elim more [
        | inl part ↦ here (ap (λ (m : Link). to_try m.address) (sym part.link) ∙ freed part.delivery part.is part.last)
        | inr window ↦ here (granted l window (has.stands l window.live h.consumer) (consumer-found rules past are.1 l window.live h.consumer))
      ]
    ]

    -- what the event completes, at an address where one waits already, or where none does
    completed-by : (b : Bool) → has_waiting rules (address_of d (e ∷ past)) past ≡ b → completed_by e ≡ Some d → to_try (address_of d (e ∷ past)) ≡ true
    completed-by false none now = completed d now none
    completed-by true waits now = elim (other-before rules e past are lawful d l h waits) [
      | inl woken ↦ woken-wakes woken
      | inr there ↦ ap to_try (sym there.1.1) ∙ kept (address_of there.0 past) (has.to_try there.0 l there.1.0)
    ]

    to_try-by : (b : Bool) → completes d e ≡ b → to_try (address_of d (e ∷ past)) ≡ true
    to_try-by true now = completed-by (has_waiting rules (address_of d (e ∷ past)) past) refl (completed-now rules e past are lawful d l h now)
    to_try-by false none = elim (might-before rules e past are lawful d l h none) [
      | inl woken ↦ woken-wakes woken
      | inr before ↦ ap to_try (address_of-same e past d none) ∙ kept (address_of d past) (has.to_try d l before)
    ]

  pub have-waiting : Have rules stand to_try (e ∷ past)
  have-waiting = record { stands = stands-on; to_try = λ d l h. to_try-by d l h (completes d e) refl }

-- without an address at which none may begin
pub have-dropped : (rules : RuleSet) (past : List Event) (stand : ℕ → ℕ → Bool) (was_to_try to_try : List ℕ → Bool) (gone : List ℕ)
    → ((d : Incoming) (l : Link) → MayBegin rules past d l → address_of d past ≡ gone → ⊥) → ((at : List ℕ) → to_try at ≡ was_to_try at && not (bytes_eq gone at))
    → Have rules stand was_to_try past → Have rules stand to_try past
have-dropped rules past stand was_to_try to_try gone none dropped has = record {
  stands = has.stands;
  to_try = λ d l h. dropped (address_of d past) ∙ by d l h (has.to_try d l h) (bytes_eq gone (address_of d past)) refl;
}
  where
    stays : (b : Bool) → b ≡ true → b && true ≡ true
    stays true is = refl
    stays false is = absurd cc

    by : (d : Incoming) (l : Link) → MayBegin rules past d l → was_to_try (address_of d past) ≡ true → (b : Bool) → bytes_eq gone (address_of d past) ≡ b → was_to_try (address_of d past) && not b ≡ true
    by d l h was false other = stays (was_to_try (address_of d past)) was
    by d l h was true same = absurd (none d l h (sym ((bytes_eq-Decides gone (address_of d past)).0 same)))
