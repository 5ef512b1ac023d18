-- An address that loses its last consumer with an event loses it by a link that the event ends.
use Rattle.std.proofs.Common.{◌≡◌, refl, sym, ap, ◌∙◌, ◌<◌, ℕ, Bool, true, false, ◌&&◌, ◌||◌, not, List, [], ◌∷◌, length, Option, Some, None, bytes_eq}
use Rattle.std.specs.List.{AllByRecursion, cons_option, list_any}
use Rattle.std.proofs.lemmas.Slice.Eq.{bytes_eq-Decides}
use Rattle.capture_form.specs.Rules.{RuleSet}
use Rattle.trace_events.specs.Event.{Event, Link}
use Rattle.trace_events.specs.Address.{is_consumer_of, has_consumer}
use Rattle.trace_events.specs.Ends.{ends_link}
use Rattle.trace_events.specs.Link.{IsLiveLink, is_consumer, is_live, own_link, links, link_at}
use Rattle.trace_events.proofs.Judged.{AreJudged}
use Rattle.trace_events.proofs.LinkNumbers.{links-found}
use Rattle.trace_events.proofs.LinkEnds.{is_live-next, lives-live}
use Rattle.due_outcomes.proofs.UnsettledSteps.{and-both}

or-none : (a b : Bool) → a || b ≡ false → (a ≡ false) × (b ≡ false)
or-none false b is = (refl, is)
or-none true b is = absurd cc

-- one that passes the first test and not the second
pub one-of : {A : Type 0} (P : A → Type 0) (p q : A → Bool) (xs : List A) → AllByRecursion P xs → list_any p xs ≡ true → list_any q xs ≡ false → (x : A) × P x × (p x ≡ true) × (q x ≡ false)
one-of P p q [] all is off = absurd cc
one-of {A = A} P p q (x ∷ xs) all is off = by (p x) refl is (λ later. one-of P p q xs all.1 later (or-none (q x) (list_any q xs) off).1)
  where
    none : (q x ≡ false) × (list_any q xs ≡ false)
    none = or-none (q x) (list_any q xs) off

    by : (b : Bool) → p x ≡ b → b || list_any p xs ≡ true → (list_any p xs ≡ true → (y : A) × P y × (p y ≡ true) × (q y ≡ false)) → (y : A) × P y × (p y ≡ true) × (q y ≡ false)
    by true here is among = (x, all.0, here, none.0)
    by false here is among = among is

pub cons-none : {A : Type 0} (q : A → Bool) (o : Option A) (xs : List A) → list_any q (cons_option o xs) ≡ false → list_any q xs ≡ false
cons-none q None xs off = off
cons-none q (Some x) xs off = (or-none (q x) (list_any q xs) off).1

-- live before and not behind
ended-by : (before behind ends : Bool) → behind ≡ before && not ends → before ≡ true → behind ≡ false → ends ≡ true
ended-by true behind true is was off = refl
ended-by true behind false is was off = let never : false ≡ true = sym off ∙ is in absurd cc
ended-by false behind ends is was off = absurd cc

pub record IsLost (e : Event) (past : List Event) (address : List ℕ) : Type 0 where
  pub link : Link
  pub consumes : is_consumer link ≡ true
  pub at : link.address ≡ address
  pub lives : IsLiveLink link past
  pub ends : ends_link link e ≡ true

pub lost-link : (rules : RuleSet) (e : Event) (past : List Event) → AreJudged rules (e ∷ past) → (address : List ℕ) → has_consumer address past ≡ true → has_consumer address (e ∷ past) ≡ false → IsLost e past address
lost-link rules e past are address had lost =
    let gone : list_any (is_consumer_of address (e ∷ past)) (links past) ≡ false = cons-none (is_consumer_of address (e ∷ past)) (own_link e) (links past) lost in
    let one = one-of (λ (l : Link). (link_at l.number past ≡ Some l) × (l.number < length past)) (is_consumer_of address past) (is_consumer_of address (e ∷ past)) (links past) (links-found rules past are.1) had gone in
    let l = one.0 in
    let parts = and-both (is_consumer l && bytes_eq l.address address) (is_live past l) one.2 in
    let over : is_live (e ∷ past) l ≡ false = sym (ap (λ b. b && is_live (e ∷ past) l) parts.0) ∙ one.3 in
    record {
      link = l;
      consumes = (and-both (is_consumer l) (bytes_eq l.address address) parts.0).0;
      at = (bytes_eq-Decides l.address address).0 (and-both (is_consumer l) (bytes_eq l.address address) parts.0).1;
      lives = lives-live rules past are.1 l one.1.0 parts.1;
      ends = ended-by (is_live past l) (is_live (e ∷ past) l) (ends_link l e) (is_live-next rules e past are l one.1.0) parts.1 over;
    }
