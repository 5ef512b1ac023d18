-- The list of links that drain, behind one more event, and where it is empty.
use Rattle.std.proofs.Common.{◌≡◌, refl, sym, ap, ◌∙◌, ℕ, Bool, true, false, not, ◌&&◌, ◌↔◌, inl, inr, List, ◌∷◌, Some, None, nat_lt, ◌==◌, eqb-true}
use Rattle.std.specs.Prelude.{Contains}
use Rattle.capture_form.specs.Rules.{RuleSet}
use Rattle.trace_events.specs.Event.{Event, Link}
use Rattle.trace_events.specs.Ends.{ends_link}
use Rattle.trace_events.specs.Link.{IsLiveLink, is_consumer, live_links}
use Rattle.trace_events.specs.Credit.{link_credit, is_draining}
use Rattle.trace_events.specs.Clauses.{first_broken}
use Rattle.trace_events.specs.FlowClause.{may_be_drained, nothing_waits}
use Rattle.trace_events.proofs.Judged.{AreJudged}
use Rattle.trace_duties.specs.Quiet.{none_is_undrained}
use Rattle.trace_duties.proofs.QuietLists.{all-each}
use Rattle.state_tables.specs.ConsumerLinks.{has_link, consumer_at}
use Rattle.due_lists.specs.Draining.{IsDraining, IsDrainable, asks_drain, writes_part}
use Rattle.due_lists.proofs.LiveOnes.{live_links-live}
use Rattle.due_lists.proofs.DrainingLinks.{draining-before, nothing-before}
use Rattle.due_lists.proofs.PartsDue.{consumer-found}
use Rattle.due_lists.proofs.PartsFollowed.{not-ended}

-- each link that drains stands with its address, and is a candidate where its drain may be answered
abbrev pub Have : RuleSet → (List ℕ → ℕ → Bool) → (ℕ → Bool) → List Event → Type 0
Have rules stand wait past = (l : Link) → IsDraining l past → (stand l.address l.number ≡ true) × (may_be_drained rules past l ≡ true → wait l.number ≡ true)

pub drained-bits : (draining credit nothing : Bool) → draining && credit && nothing ≡ true → (draining ≡ true) × (credit ≡ true) × (nothing ≡ true)
drained-bits true true true is = (refl, refl, refl)
drained-bits true true false is = absurd cc
drained-bits true false nothing is = absurd (by nothing is)
  where
    by : (b : Bool) → false && b ≡ true → ⊥
    by b is = cc
drained-bits false credit nothing is = absurd cc

drained-all : (draining credit nothing : Bool) → draining ≡ true → credit ≡ true → nothing ≡ true → draining && credit && nothing ≡ true
drained-all true true true p q r = refl
drained-all true true false p q r = absurd cc
drained-all true false nothing p q r = absurd cc
drained-all false credit nothing p q r = absurd cc

module _ (rules : RuleSet) (e : Event) (past : List Event) (are : AreJudged rules (e ∷ past)) (lawful : first_broken rules (e ∷ past) ≡ None)
    (ended : List Link) (all : (l : Link) → Contains ended l ↔ IsLiveLink l past × (ends_link l e ≡ true))
    (stood stand₁ stand₂ stand : List ℕ → ℕ → Bool) (waited wait₁ wait₂ wait : ℕ → Bool)
    (stood₁ : (address : List ℕ) (n : ℕ) → has_link ended n ≡ false → stood address n ≡ true → stand₁ address n ≡ true)
    (waited₁ : (n : ℕ) → wait₁ n ≡ waited n)
    (asked : (l : Link) → e.link ≡ Some l → asks_drain e ≡ true → (stand₂ l.address l.number ≡ true) × (wait₂ l.number ≡ true))
    (stood₂ : (address : List ℕ) (n : ℕ) → stand₁ address n ≡ true → stand₂ address n ≡ true)
    (waited₂ : (n : ℕ) → wait₁ n ≡ true → wait₂ n ≡ true)
    (stood₃ : (address : List ℕ) (n : ℕ) → stand address n ≡ stand₂ address n)
    (waited₃ : (n : ℕ) → wait₂ n ≡ true → wait n ≡ true)
    (woken : (l : Link) → e.link ≡ Some l → writes_part e ≡ true → (n : ℕ) → stand₂ l.address n ≡ true → wait n ≡ true)
    (has : Have rules stood waited past) where
  module _ (l : Link) (now : IsDraining l (e ∷ past)) where
    here : e.link ≡ Some l → asks_drain e ≡ true → (stand l.address l.number ≡ true) × (may_be_drained rules (e ∷ past) l ≡ true → wait l.number ≡ true)
    here on asks = let h = asked l on asks in (stood₃ l.address l.number ∙ h.0, λ may. waited₃ l.number h.1)

    earlier : IsDraining l past → (nat_lt 0 (link_credit l (e ∷ past)) ≡ true → nat_lt 0 (link_credit l past) ≡ true)
        → (stand l.address l.number ≡ true) × (may_be_drained rules (e ∷ past) l ≡ true → wait l.number ≡ true)
    earlier was credit =
        let h = has l was in
        let stands₂ = stood₂ l.address l.number (stood₁ l.address l.number (not-ended rules e past are ended all l was.live now.live) h.0) in (
          stood₃ l.address l.number ∙ stands₂,
          λ may.
              let bits = drained-bits (is_draining l (e ∷ past)) (nat_lt 0 (link_credit l (e ∷ past))) (nothing_waits rules (e ∷ past) l) may in
              elim (nothing-before rules e past are lawful l now.live now.consumer bits.2) [
                | inl written ↦ woken written.link written.on written.written l.number (ap (λ a. stand₂ a l.number) written.address ∙ stands₂)
                | inr nothing ↦
                    waited₃ l.number (waited₂ l.number (waited₁ l.number
                    ∙ h.1 (drained-all (is_draining l past) (nat_lt 0 (link_credit l past)) (nothing_waits rules past l) was.draining (credit bits.1) nothing)))
              ],
        )

  pub have-drains : Have rules stand wait (e ∷ past)
  have-drains l now = elim (draining-before rules e past are l now) [
    | inl asks ↦ here l now asks.0 asks.1
    | inr was ↦ earlier l now was.0 was.1
  ]

-- ---- what may be answered

pub drainable-draining : (rules : RuleSet) (l : Link) (past : List Event) → IsDrainable rules l past → IsDraining l past
drainable-draining rules l past h = record {
  live = h.live;
  consumer = h.consumer;
  draining = (drained-bits (is_draining l past) (nat_lt 0 (link_credit l past)) (nothing_waits rules past l) h.may).0;
}

-- without the candidate whose drain may not be answered
pub have-dropped : (rules : RuleSet) (past : List Event) (stand stand' : List ℕ → ℕ → Bool) (wait wait' : ℕ → Bool) (number : ℕ) → ((address : List ℕ) (n : ℕ) → stand' address n ≡ stand address n)
    → ((n : ℕ) → wait' n ≡ wait n && not (number == n)) → ((l : Link) → l.number ≡ number → IsDrainable rules l past → ⊥) → Have rules stand wait past → Have rules stand' wait' past
have-dropped rules past stand stand' wait wait' number same dropped none has l draining =
    let h = has l draining in
    (same l.address l.number ∙ h.0, λ may. dropped l.number ∙ by (h.1 may) (number == l.number) refl may)
  where
    stays : (b : Bool) → b ≡ true → b && true ≡ true
    stays true is = refl
    stays false is = absurd cc

    by : wait l.number ≡ true → (b : Bool) → (number == l.number) ≡ b → may_be_drained rules past l ≡ true → wait l.number && not b ≡ true
    by waits false other may = stays (wait l.number) waits
    by waits true same may = absurd (none l (sym (eqb-true number l.number same)) (record { live = draining.live; consumer = draining.consumer; may = may }))

-- no candidates
pub none-draining : (rules : RuleSet) (past : List Event) → AreJudged rules past → (stand : List ℕ → ℕ → Bool) (wait : ℕ → Bool) → Have rules stand wait past → ((n : ℕ) → wait n ≡ false)
    → none_is_undrained rules past ≡ true
none-draining rules past are stand wait has none =
    all-each (λ l. not (is_consumer l && may_be_drained rules past l)) (live_links past)
    (λ l there. by l (live_links-live rules past are l there) (is_consumer l) (may_be_drained rules past l) refl refl)
  where
    by : (l : Link) → IsLiveLink l past → (b c : Bool) → is_consumer l ≡ b → may_be_drained rules past l ≡ c → not (b && c) ≡ true
    by l live false c consumer may = refl
    by l live true false consumer may = refl
    by l live true true consumer may =
        let h = drainable-draining rules l past (record { live = live; consumer = consumer; may = may }) in
        let never : false ≡ true = sym (none l.number) ∙ (has l h).1 may in
        cc

-- the link of the number is found
module _ (rules : RuleSet) (past : List Event) (are : AreJudged rules past) (n : ℕ) (l : Link) (own : l.number ≡ n) (h : IsDrainable rules l past) where
  pub drainable-found : consumer_at n past ≡ Some l
  drainable-found = ap (λ m. consumer_at m past) (sym own) ∙ consumer-found rules past are l h.live h.consumer

  pub drainable-same : (m : Link) → Some m ≡ consumer_at n past → may_be_drained rules past m ≡ true
  drainable-same m is = let some : Some m ≡ Some l = is ∙ drainable-found in let one : m ≡ l = cc in ap (may_be_drained rules past) one ∙ h.may
