-- The groups fit the deliveries again once the one that moved is put where it belongs.
use Rattle.std.proofs.Common.{◌≡◌, refl, sym, ap, ◌∙◌, ◌<◌, ◌^◌, ℕ, Bool, true, false, ◌&&◌, Option, Some, None, IfSome, subst, if◌then◌else◌, ◌==◌, eqb-true}
use Rattle.trace_events.specs.Words.{is_some_and}
use Rattle.trace_events.specs.Event.{Outgoing}
use Rattle.state_outgoing.specs.Sent.{Sent}
use Rattle.state_outgoing.specs.SentGrouped.{AreGrouped, IsPut, is_of_link, is_of_session, has_id}
use Rattle.state_outgoing.specs.declared.groups.SentGroups.{SentGroups}

-- what stands under a number is this delivery
abbrev pub IsOf : Outgoing → Option Sent → Type 0
IsOf j o = IfSome o (λ (x : Sent). x.delivery ≡ j)

-- the tests of one group: of the delivery's key, and whether it is unsettled
module _ (key : Outgoing → Bool) (j : Outgoing) (old : Option Sent) (new : Sent) (was : IsOf j old) (is : new.delivery ≡ j) where
  abbrev test : Sent → Bool
  test x = key x.delivery && x.is_unsettled

  off_key : key j ≡ false → (o : Option Sent) → IsOf j o → is_some_and o test ≡ false
  off_key off None of = refl
  off_key off (Some x) of = ap (λ y. key y && x.is_unsettled) of ∙ ap (λ b. b && x.is_unsettled) off

  -- of any number: before and behind, and the group before
  pub regrouped : (same : Bool) (o : Option Sent) (g : Bool) → g ≡ is_some_and o test → (same ≡ true → o ≡ old)
      → (if key j && same then new.is_unsettled else g) ≡ is_some_and (if same then Some new else o) test
  regrouped same o g grouped here = by (key j) refl same here
    where
      by : (k : Bool) → key j ≡ k → (same : Bool) → (same ≡ true → o ≡ old) → (if k && same then new.is_unsettled else g) ≡ is_some_and (if same then Some new else o) test
      by true on true here = sym (ap (λ y. key y && new.is_unsettled) is ∙ ap (λ b. b && new.is_unsettled) on)
      by false off true here = grouped ∙ (ap (λ p. is_some_and p test) (here refl) ∙ (off_key off old was ∙ sym (off_key off (Some new) is)))
      by true on false here = grouped
      by false off false here = grouped

module _ (j : Outgoing) (groups later : SentGroups) (kept behind : ℕ → Option Sent) (old : Option Sent) (new : Sent) (was : IsOf j old) (is : new.delivery ≡ j) (at : kept j.number ≡ old)
    (moved : (n : ℕ) → behind n ≡ (if j.number == n then Some new else kept n)) where
  here : (n : ℕ) → (j.number == n) ≡ true → kept n ≡ old
  here n same = sym (ap kept (eqb-true j.number n same)) ∙ at

  -- what holds of the one that moved, and of all before, holds of all
  holds-by : (P : ℕ → Sent → Type 0) → ((n : ℕ) → j.number ≡ n → P n new) → (n : ℕ) → IfSome (kept n) (P n) → IfSome (behind n) (P n)
  holds-by P own n before = subst (λ (o : Option Sent). IfSome o (P n)) (sym (moved n)) (by (j.number == n) refl)
    where
      by : (b : Bool) → (j.number == n) ≡ b → IfSome (if b then Some new else kept n) (P n)
      by true same = own n (eqb-true j.number n same)
      by false other = before

  pub put-grouped : AreGrouped groups kept → IsPut j new.is_unsettled groups later → IfSome j.id (λ id. id < 2 ^ 32) → AreGrouped later behind
  put-grouped grouped put counted = record {
    of_link = λ link n. put.of_link link n
        ∙ (regrouped (is_of_link link) j old new was is (j.number == n) (kept n) _ (grouped.of_link link n) (here n)
        ∙ ap (λ o. is_some_and o (λ x. is_of_link link x.delivery && x.is_unsettled)) (sym (moved n)));
    of_session = λ session n. put.of_session session n
        ∙ (regrouped (is_of_session session) j old new was is (j.number == n) (kept n) _ (grouped.of_session session n) (here n)
        ∙ ap (λ o. is_some_and o (λ x. is_of_session session x.delivery && x.is_unsettled)) (sym (moved n)));
    of_id = λ key n. put.of_id key n
        ∙ (regrouped (has_id key.session key.id) j old new was is (j.number == n) (kept n) _ (grouped.of_id key n) (here n)
        ∙ ap (λ o. is_some_and o (λ x. has_id key.session key.id x.delivery && x.is_unsettled)) (sym (moved n)));
    numbered = λ n. holds-by (λ m x. x.delivery.number ≡ m) (λ m same. ap (λ (k : Outgoing). k.number) is ∙ same) n (grouped.numbered n);
    counted = λ n. holds-by (λ m x. IfSome x.delivery.id (λ id. id < 2 ^ 32)) (λ m same. subst (λ (k : Outgoing). IfSome k.id (λ id. id < 2 ^ 32)) (sym is) counted) n (grouped.counted n);
  }
