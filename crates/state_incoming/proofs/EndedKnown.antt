-- The links that an event ends are those whose deliveries it touches by their end.
use Rattle.std.proofs.Common.{subst, ◌≡◌, refl, sym, ap, ◌∙◌, ◌<◌, ℕ, Bool, true, false, ◌&&◌, ◌||◌, not, List, [], ◌∷◌, length, Option, Some, None, IfSome, bytes_eq, inl, inr, eq-eqb, ◌==◌, if◌then◌else◌}
use Rattle.std.specs.Prelude.{Contains}
use Rattle.std.specs.List.{AllByRecursion, cons_option, list_any}
use Rattle.capture_form.specs.Rules.{RuleSet}
use Rattle.trace_events.specs.Event.{Event, Link, Incoming}
use Rattle.trace_events.specs.Address.{is_consumer_of, has_consumer}
use Rattle.trace_events.specs.Ends.{ends_link}
use Rattle.trace_events.specs.Incoming.{address_of, is_aborted, is_complete, is_settled, is_told}
use Rattle.trace_events.specs.Link.{is_consumer, is_live, own_link, links, link_at}
use Rattle.trace_events.specs.Waiting.{always_had_consumer, is_unpaired, is_waiting, is_undecided}
use Rattle.trace_events.proofs.Judged.{AreJudged}
use Rattle.trace_events.proofs.LinkNumbers.{links-found}
use Rattle.trace_events.proofs.IncomingProgress.{judged-kept}
use Rattle.trace_events.proofs.LinkEnds.{is_live-next, lives-live}
use Rattle.trace_events.proofs.Parts.{IsKept, delivery_kept}
use Rattle.trace_events.proofs.WaitingQueue.{contains_none, contains_cases}
use Rattle.state_incoming.specs.Held.{Held, held_at, says_waiting}
use Rattle.state_incoming.specs.HeldTouched.{EndWith}
use Rattle.state_incoming.specs.Touched.{AreEnded}
use Rattle.state_incoming.proofs.HeldAnswers.{held-of, held-address, held-undecided, held-waiting}

and_both : (a b : Bool) → a && b ≡ true → (a ≡ true) × (b ≡ true)
and_both true b is = (refl, is)
and_both false b is = absurd cc

or_none : (a b : Bool) → a || b ≡ false → (a ≡ false) × (b ≡ false)
or_none false b is = (refl, is)
or_none true b is = absurd cc

or_last : (a b : Bool) → b ≡ true → a || b ≡ true
or_last true b is = refl
or_last false b is = is

not-true : (b : Bool) → not b ≡ true → b ≡ false
not-true false is = refl
not-true true is = absurd cc

-- one that passes the first test and not the second
one-of : {A : Type 0} (P : A → Type 0) (p q : A → Bool) (xs : List A) → AllByRecursion P xs → list_any p xs ≡ true → list_any q xs ≡ false → (x : A) × P x × (p x ≡ true) × (q x ≡ false)
one-of P p q [] all is off = absurd cc
one-of {A = A} P p q (x ∷ xs) all is off = by (p x) refl is (λ later. one-of P p q xs all.1 later (or_none (q x) (list_any q xs) off).1)
  where
    none : (q x ≡ false) × (list_any q xs ≡ false)
    none = or_none (q x) (list_any q xs) off

    by : (b : Bool) → p x ≡ b → b || list_any p xs ≡ true → (list_any p xs ≡ true → (y : A) × P y × (p y ≡ true) × (q y ≡ false)) → (y : A) × P y × (p y ≡ true) × (q y ≡ false)
    by true here is among = (x, all.0, here, none.0)
    by false here is among = among is

-- an element that passes
contained-any : {A : Type 0} (p : A → Bool) (xs : List A) (x : A) → Contains xs x → p x ≡ true → list_any p xs ≡ true
contained-any p [] x has is = contains_none x has
contained-any p (y ∷ ys) x has is = elim (contains_cases y ys x has) [
  | inl same ↦ ap (λ b. b || list_any p ys) (ap p same ∙ is)
  | inr later ↦ or_last (p y) (list_any p ys) (contained-any p ys x later is)
]

cons-none : {A : Type 0} (q : A → Bool) (o : Option A) (xs : List A) → list_any q (cons_option o xs) ≡ false → list_any q xs ≡ false
cons-none q None xs off = off
cons-none q (Some x) xs off = (or_none (q x) (list_any q xs) off).1

-- live before and not behind
ended-by : (before behind ends : Bool) → behind ≡ before && not ends → before ≡ true → behind ≡ false → ends ≡ true
ended-by true behind true is was off = refl
ended-by true behind false is was off = let never : false ≡ true = sym off ∙ is in absurd cc
ended-by false behind ends is was off = absurd cc

had-now : (d : Incoming) (past : List Event) → always_had_consumer d past ≡ true → has_consumer (address_of d past) past ≡ true
had-now d [] is = absurd cc
had-now d (e ∷ past) is = (and_both (has_consumer (address_of d (e ∷ past)) (e ∷ past)) _ is).0

module _ (rules : RuleSet) (e : Event) (past : List Event) (are : AreJudged rules (e ∷ past)) (has : List ℕ → Bool) (same : (address : List ℕ) → has address ≡ has_consumer address (e ∷ past))
    (ended : List Link) (ends : EndWith past e ended) where
  -- a link that lives before the event, and of which it is said by its number
  ended-link : (l : Link) → link_at l.number past ≡ Some l → is_live past l ≡ true → ends_link l e ≡ true → Contains ended l
  ended-link l at live is = ends l (lives-live rules past are.1 l at live) is

  producers : (n : ℕ) (x : Held) → held_at rules n past ≡ Some x → x.is_undecided && ends_link x.delivery.link e ≡ true → list_any (λ (l : Link). l.number == x.delivery.link.number) ended ≡ true
  producers n x entry is =
      let of = held-of rules n past x entry in
      let d = x.delivery in
      let kept : IsKept past d = delivery_kept rules past n d (judged-kept rules past are.1) of.at in
      let both = and_both x.is_undecided (ends_link d.link e) is in
      let opens : is_undecided rules d past ≡ true = held-undecided rules n past x of ∙ both.0 in
      let live = and_both (is_live past d.link) (not (is_aborted d past)) (and_both (is_live past d.link && not (is_aborted d past)) (not (is_complete d past) || is_waiting rules d past || not (is_settled d past || is_told d past)) opens).0 in
      contained-any (λ (l : Link). l.number == d.link.number) ended d.link (ended-link d.link kept.link.at live.0 both.1) (eq-eqb d.link.number d.link.number refl)

  consumers : (n : ℕ) (x : Held) → held_at rules n past ≡ Some x → says_waiting x.fate && not (has x.address) ≡ true
      → list_any (λ (l : Link). bytes_eq l.address x.address) ended ≡ true
  consumers n x entry is =
      let of = held-of rules n past x entry in
      let d = x.delivery in
      let address = x.address in
      let both = and_both (says_waiting x.fate) (not (has address)) is in
      let waits : is_waiting rules d past ≡ true = held-waiting rules n past x of ∙ both.0 in
      let had : has_consumer address past ≡ true =
      ap (λ a. has_consumer a past) (sym (held-address rules n past x of)) ∙ had-now d past (and_both (is_unpaired rules d past) (always_had_consumer d past) waits).1 in
      let lost : has_consumer address (e ∷ past) ≡ false = sym (same address) ∙ not-true (has address) both.1 in
      let gone : list_any (is_consumer_of address (e ∷ past)) (links past) ≡ false = cons-none (is_consumer_of address (e ∷ past)) (own_link e) (links past) lost in
      let one = one-of (λ (l : Link). (link_at l.number past ≡ Some l) × (l.number < length past)) (is_consumer_of address past) (is_consumer_of address (e ∷ past)) (links past) (links-found rules past are.1) had gone in
      let l = one.0 in
      let parts = and_both (is_consumer l && bytes_eq l.address address) (is_live past l) one.2 in
      let over : is_live (e ∷ past) l ≡ false = sym (ap (λ b. b && is_live (e ∷ past) l) parts.0) ∙ one.3 in
      contained-any (λ (m : Link). bytes_eq m.address address) ended l
      (ended-link l one.1.0 parts.1 (ended-by (is_live past l) (is_live (e ∷ past) l) (ends_link l e) (is_live-next rules e past are l one.1.0) parts.1 over))
      (and_both (is_consumer l) (bytes_eq l.address address) parts.0).1

  pub are-ended : AreEnded e has ended (λ n. held_at rules n past)
  are-ended = record {
    producers = λ n. by (λ (x : Held). x.is_undecided && ends_link x.delivery.link e ≡ true → list_any (λ (l : Link). l.number == x.delivery.link.number) ended ≡ true) (held_at rules n past) (producers n);
    consumers = λ n. by (λ (x : Held). says_waiting x.fate && not (has x.address) ≡ true → list_any (λ (l : Link). bytes_eq l.address x.address) ended ≡ true) (held_at rules n past) (consumers n);
  }
    where
      by : (P : Held → Type 0) (o : Option Held) → ((x : Held) → o ≡ Some x → P x) → IfSome o P
      by P None each = tt
      by P (Some x) each = each x refl

if-there : (P : Held → Type 0) (gone : Bool) (o : Option Held) → IfSome o P → IfSome (if gone then None else o) P
if-there P true o each = tt
if-there P false o each = each

-- of a table that has what the law keeps, but for what is gone
pub ended-of : (rules : RuleSet) (e : Event) (past : List Event) (has : List ℕ → Bool) (ended : List Link) (kept : ℕ → Option Held) (gone : ℕ → Bool)
    → ((n : ℕ) → kept n ≡ (if gone n then None else held_at rules n past)) → AreEnded e has ended (λ n. held_at rules n past) → AreEnded e has ended kept
ended-of rules e past has ended kept gone were are = record {
  producers = λ n.
      let P = λ (x : Held). x.is_undecided && ends_link x.delivery.link e ≡ true → list_any (λ (l : Link). l.number == x.delivery.link.number) ended ≡ true in
      subst (λ (o : Option Held). IfSome o P) (sym (were n)) (if-there P (gone n) (held_at rules n past) (are.producers n));
  consumers = λ n.
      let P = λ (x : Held). says_waiting x.fate && not (has x.address) ≡ true → list_any (λ (l : Link). bytes_eq l.address x.address) ended ≡ true in
      subst (λ (o : Option Held). IfSome o P) (sym (were n)) (if-there P (gone n) (held_at rules n past) (are.consumers n));
}
