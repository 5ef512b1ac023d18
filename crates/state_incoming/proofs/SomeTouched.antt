-- Where an event names a delivery, or a group gives one for it, it may touch one.
use Rattle.std.proofs.Common.{◌≡◌, refl, ap, ◌∙◌, ◌<◌, ℕ, Bool, true, false, ◌&&◌, ◌||◌, not, List, Option, Some, None, is_some, nat_eq, option_and_then, eq-eqb}
use Rattle.std.specs.List.{list_any}
use Rattle.number_groups.specs.Groups.{is_member}
use Rattle.number_groups.specs.OctetGroups as octets
use Rattle.trace_events.specs.Words.{is_number, is_some_and}
use Rattle.trace_events.specs.Event.{Event, Link, Incoming}
use Rattle.trace_events.specs.Incoming.{incoming_begun}
use Rattle.trace_events.specs.Outgoing.{carried_number}
use Rattle.capture_form.specs.Rules.{RuleSet}
use Rattle.state_incoming.specs.Held.{Held, held_begun, held_next, unbegun}
use Rattle.state_incoming.specs.Touched.{part_number, settled_session, is_left, may_touch}
use Rattle.state_incoming.specs.declared.groups.HeldGroups.{HeldGroups}

some-number : (o : Option ℕ) → is_some o ≡ true → (n : ℕ) × (is_number o n ≡ true)
some-number None is = absurd cc
some-number (Some n) is = (n, eq-eqb n n refl)

or_true : (a : Bool) → a || true ≡ true
or_true true = refl
or_true false = refl

-- a link that ended leaves the undecided ones of it, and those that wait where no consumer is left
pub left-undecided : (groups : HeldGroups) (has : List ℕ → Bool) (l : Link) → (n : ℕ) × (is_member nat_eq groups.undecided l.number n ≡ true) → (n : ℕ) × (is_left groups has n l ≡ true)
left-undecided groups has l (n, is) = (n, ap (λ b. b || not (has l.address) && octets.is_member groups.waiting l.address n) is)

pub left-waiting : (groups : HeldGroups) (has : List ℕ → Bool) (l : Link) → has l.address ≡ false → (n : ℕ) × (octets.is_member groups.waiting l.address n ≡ true) → (n : ℕ) × (is_left groups has n l ≡ true)
left-waiting groups has l none (n, is) =
    let undecided = is_member nat_eq groups.undecided l.number n in
    (n, ap (λ b. undecided || not b && octets.is_member groups.waiting l.address n) none ∙ (ap (λ b. undecided || b) is ∙ or_true undecided))

module _ (groups : HeldGroups) (has : List ℕ → Bool) (ended : List Link) (e : Event) where
  abbrev Touches : Type 0
  Touches = (n : ℕ) × (may_touch groups has ended e n ≡ true)

  abbrev settled : ℕ → Bool
  settled n = is_some_and (settled_session e) (λ session. is_member nat_eq groups.of_session session n)

  abbrev left : ℕ → Bool
  left n = list_any (is_left groups has n) ended

  pub by-part : is_some (part_number e) ≡ true → Touches
  by-part is =
      let some = some-number (part_number e) is in
      let n = some.0 in
      (n, ap (λ b. b || is_number e.told n || is_number (carried_number e) n || settled n || left n) some.1)

  pub by-told : is_some e.told ≡ true → Touches
  by-told is =
      let some = some-number e.told is in
      let n = some.0 in (
        n,
        ap (λ b. is_number (part_number e) n || b || is_number (carried_number e) n || settled n || left n) some.1
            ∙ ap (λ b. b || is_number (carried_number e) n || settled n || left n) (or_true (is_number (part_number e) n)),
      )

  pub by-carried : is_some (carried_number e) ≡ true → Touches
  by-carried is =
      let some = some-number (carried_number e) is in
      let n = some.0 in
      let before = is_number (part_number e) n || is_number e.told n in
      (n, ap (λ b. before || b || settled n || left n) some.1 ∙ ap (λ b. b || settled n || left n) (or_true before))

  pub by-settled : (n : ℕ) × (settled n ≡ true) → Touches
  by-settled (n, is) =
      let before = is_number (part_number e) n || is_number e.told n || is_number (carried_number e) n in
      (n, ap (λ b. before || b || left n) is ∙ ap (λ b. b || left n) (or_true before))

  pub by-left : (n : ℕ) × (left n ≡ true) → Touches
  by-left (n, is) =
      let before = is_number (part_number e) n || is_number e.told n || is_number (carried_number e) n || settled n in
      (n, ap (λ b. before || b) is ∙ or_true before)

-- what an event begins is a delivery of its own
pub begins-some : (rules : RuleSet) (e : Event) (to : List ℕ) (has : Bool) (x : Held) → held_begun rules e to has ≡ Some x → is_some (incoming_begun e) ≡ true
begins-some rules e to has x is = by (incoming_begun e) is
  where
    by : (o : Option Incoming) → option_and_then (λ d. held_next rules e to has (unbegun d)) o ≡ Some x → is_some o ≡ true
    by None is = absurd cc
    by (Some d) is = refl
