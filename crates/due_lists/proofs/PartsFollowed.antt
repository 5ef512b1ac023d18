-- The list of deliveries that may go on, behind one more event, and where it is empty.
use Rattle.std.proofs.Common.{◌≡◌, refl, sym, ap, ◌∙◌, ℕ, Bool, true, false, not, ◌&&◌, ◌||◌, ◌↔◌, inl, inr, List, [], ◌∷◌, Some, None, is_some, ◌==◌, eqb-true}
use Rattle.std.specs.Prelude.{Contains}
use Rattle.capture_form.specs.Rules.{RuleSet}
use Rattle.trace_events.specs.Words.{is_some_and}
use Rattle.trace_events.specs.Event.{Event, Link, Outgoing}
use Rattle.trace_events.specs.declared.session.Session.{Session}
use Rattle.trace_events.specs.Ends.{ends_link}
use Rattle.trace_events.specs.Link.{IsLiveLink, is_consumer, is_live, live_links, link_at}
use Rattle.trace_events.specs.Outgoing.{in_progress}
use Rattle.trace_events.proofs.OutgoingSteps.{is_part_on}
use Rattle.trace_events.specs.Clauses.{first_broken}
use Rattle.trace_events.proofs.Judged.{AreJudged}
use Rattle.trace_events.proofs.LinkEnds.{is_live-next}
use Rattle.trace_events.proofs.WaitingQueue.{contains_first, contains_later}
use Rattle.trace_duties.specs.Quiet.{stands_still, none_stands_still}
use Rattle.trace_duties.proofs.QuietLists.{all-each}
use Rattle.state_tables.specs.ConsumerLinks.{has_link}
use Rattle.due_lists.specs.Standing.{IsGoing, IsStill, has_window, goes_on, grants_window}
use Rattle.due_lists.proofs.LiveOnes.{link-found, link-lives, live_links-live}
use Rattle.due_lists.proofs.StandingParts.{IsPartOn, going-before, window-before}

-- ---- links that an event ends

-- a list that has the number has a link of it
numbered : (links : List Link) (n : ℕ) → has_link links n ≡ true → (l : Link) × (Contains links l × (l.number ≡ n))
numbered [] n is = absurd cc
numbered (m ∷ ms) n is = by (m.number == n) refl is (numbered ms n)
  where
    by : (b : Bool) → (m.number == n) ≡ b → b || has_link ms n ≡ true → (has_link ms n ≡ true → (l : Link) × (Contains ms l × (l.number ≡ n)))
        → (l : Link) × (Contains (m ∷ ms) l × (l.number ≡ n))
    by true same is rest = (m, (contains_first m ms, eqb-true m.number n same))
    by false other is rest = let there = rest is in (there.0, (contains_later m ms there.0 there.1.0, there.1.1))

same_some : {A : Type 0} (a b : A) → Some a ≡ Some b → a ≡ b
same_some a b is = cc

never-both : (was ends : Bool) → was && not ends ≡ true → ends ≡ true → ⊥
never-both was true is ends = absurd (by was is)
  where
    by : (was : Bool) → was && false ≡ true → ⊥
    by true is = cc
    by false is = cc
never-both was false is ends = cc

module _ (rules : RuleSet) (e : Event) (past : List Event) (are : AreJudged rules (e ∷ past)) (ended : List Link)
    (all : (l : Link) → Contains ended l ↔ IsLiveLink l past × (ends_link l e ≡ true)) where
  -- one that lived and lives on is none of them
  pub not-ended : (l : Link) → IsLiveLink l past → IsLiveLink l (e ∷ past) → has_link ended l.number ≡ false
  not-ended l was live = by (has_link ended l.number) refl
    where
      by : (b : Bool) → has_link ended l.number ≡ b → b ≡ false
      by false none = refl
      by true has =
          let found = numbered ended l.number has in
          let of = (all found.0).0 found.1.0 in
          let one : found.0 ≡ l = same_some found.0 l (sym (link-found rules past are.1 found.0 of.0) ∙ (ap (λ n. link_at n past) found.1.1 ∙ link-found rules past are.1 l was)) in
          absurd (never-both (is_live past l) (ends_link l e)
          (sym (is_live-next rules e past are l (link-found rules past are.1 l was)) ∙ link-lives (e ∷ past) l live) (ap (λ (m : Link). ends_link m e) (sym one) ∙ of.1))

-- ---- the list

-- each link with a delivery in progress stands with its session, and is a candidate where that has window
abbrev pub Have : (ℕ → ℕ → Bool) → (ℕ → Bool) → List Event → Type 0
Have stand wait past = (l : Link) → IsGoing l past → (stand l.session.number l.number ≡ true) × (has_window l.session past ≡ true → wait l.number ≡ true)

module _ (rules : RuleSet) (e : Event) (past : List Event) (are : AreJudged rules (e ∷ past)) (lawful : first_broken rules (e ∷ past) ≡ None)
    (ended : List Link) (all : (l : Link) → Contains ended l ↔ IsLiveLink l past × (ends_link l e ≡ true))
    (stood stand₁ stand₂ stand : ℕ → ℕ → Bool) (waited wait₁ wait₂ wait : ℕ → Bool)
    (stood₁ : (session n : ℕ) → has_link ended n ≡ false → stood session n ≡ true → stand₁ session n ≡ true)
    (waited₁ : (n : ℕ) → wait₁ n ≡ waited n)
    (part : (j : Outgoing) → e.outgoing ≡ Some j → goes_on e ≡ true → (stand₂ j.link.session.number j.link.number ≡ true) × (wait₂ j.link.number ≡ true))
    (stood₂ : (session n : ℕ) → is_some_and e.outgoing (λ j. j.link.number == n) ≡ false → stand₁ session n ≡ true → stand₂ session n ≡ true)
    (waited₂ : (n : ℕ) → wait₁ n ≡ true → wait₂ n ≡ true)
    (stood₃ : (session n : ℕ) → stand session n ≡ stand₂ session n)
    (waited₃ : (n : ℕ) → wait₂ n ≡ true → wait n ≡ true)
    (woken : (s : Session) → e.session ≡ Some s → grants_window e ≡ true → (n : ℕ) → stand₂ s.number n ≡ true → wait n ≡ true)
    (has : Have stood waited past) where
  begun : (l : Link) → IsPartOn e l → (stand l.session.number l.number ≡ true) × (has_window l.session (e ∷ past) ≡ true → wait l.number ≡ true)
  begun l on =
      let here = part on.delivery on.is on.more in (
        stood₃ l.session.number l.number ∙ (ap (λ (m : Link). stand₂ m.session.number m.number) (sym on.link) ∙ here.0),
        λ window. waited₃ l.number (ap (λ (m : Link). wait₂ m.number) (sym on.link) ∙ here.1),
      )

  earlier : (l : Link) → IsGoing l (e ∷ past) → is_part_on l e ≡ false → IsGoing l past → (stand l.session.number l.number ≡ true) × (has_window l.session (e ∷ past) ≡ true → wait l.number ≡ true)
  earlier l now apart was =
      let h = has l was in
      let stands₂ = stood₂ l.session.number l.number apart (stood₁ l.session.number l.number (not-ended rules e past are ended all l was.live now.live) h.0) in (
        stood₃ l.session.number l.number ∙ stands₂,
        λ window. elim (window-before rules e past are l.session now.live.0 window) [
          | inl flow ↦ woken l.session flow.0 flow.1 l.number stands₂
          | inr had ↦ waited₃ l.number (waited₂ l.number (waited₁ l.number ∙ h.1 had))
        ],
      )

  pub have-parts : Have stand wait (e ∷ past)
  have-parts l now = elim (going-before rules e past are lawful l now) [
    | inl on ↦ begun l on
    | inr was ↦ earlier l now was.0 was.1
  ]

-- ---- what may go on

still-bits : (consumer going window : Bool) → consumer && going && window ≡ true → (consumer ≡ true) × (going ≡ true) × (window ≡ true)
still-bits true true true is = (refl, refl, refl)
still-bits true true false is = absurd cc
still-bits true false window is = absurd (by window is)
  where
    by : (b : Bool) → false && b ≡ true → ⊥
    by b is = cc
still-bits false going window is = absurd cc

pub still-parts : (l : Link) (past : List Event) → IsStill l past → IsGoing l past × (has_window l.session past ≡ true)
still-parts l past h =
    let bits = still-bits (is_consumer l) (is_some (in_progress l past)) (has_window l.session past) h.still in
    (record { live = h.live; consumer = bits.0; going = bits.1 }, bits.2)

-- without the candidate on which nothing may go on
pub have-dropped : (past : List Event) (stand stand' : ℕ → ℕ → Bool) (wait wait' : ℕ → Bool) (number : ℕ) → ((session n : ℕ) → stand' session n ≡ stand session n)
    → ((n : ℕ) → wait' n ≡ wait n && not (number == n)) → ((l : Link) → l.number ≡ number → IsStill l past → ⊥) → Have stand wait past → Have stand' wait' past
have-dropped past stand stand' wait wait' number same dropped none has l going =
    let h = has l going in
    (same l.session.number l.number ∙ h.0, λ window. dropped l.number ∙ by (h.1 window) (number == l.number) refl window)
  where
    stays : (b : Bool) → b ≡ true → b && true ≡ true
    stays true is = refl
    stays false is = absurd cc

    by : wait l.number ≡ true → (b : Bool) → (number == l.number) ≡ b → has_window l.session past ≡ true → wait l.number && not b ≡ true
    by waits false other window = stays (wait l.number) waits
    by waits true same window =
        absurd (none l (sym (eqb-true number l.number same))
        (record { live = going.live; still = ap (λ b. b && is_some (in_progress l past) && has_window l.session past) going.consumer ∙ (ap (λ b. b && has_window l.session past) going.going ∙ window) }))

-- no candidates
pub none-still : (rules : RuleSet) (past : List Event) → AreJudged rules past → (stand : ℕ → ℕ → Bool) (wait : ℕ → Bool) → Have stand wait past → ((n : ℕ) → wait n ≡ false) → none_stands_still past ≡ true
none-still rules past are stand wait has none =
    all-each (λ l. not (stands_still past l)) (live_links past) (λ l there. by l (live_links-live rules past are l there) (stands_still past l) refl)
  where
    by : (l : Link) → IsLiveLink l past → (b : Bool) → stands_still past l ≡ b → not b ≡ true
    by l live false is = refl
    by l live true is =
        let parts = still-parts l past (record { live = live; still = is }) in
        let never : false ≡ true = sym (none l.number) ∙ (has l parts.0).1 parts.1 in
        cc
