-- A table that lets one go of which nothing can come any more has all else as before, and so do its groups.
use Rattle.std.proofs.Common.{◌≡◌, refl, sym, ap, subst, ◌∙◌, ℕ, Bool, true, false, ◌&&◌, ◌||◌, List, [], ◌∷◌, ◌++◌, Option, Some, None, IfSome, if◌then◌else◌, ◌==◌, eqb-true}
use Rattle.std.proofs.lemmas.List.Folds.{list_any-append}
use Rattle.capture_form.specs.Rules.{RuleSet}
use Rattle.trace_events.specs.Words.{is_some_and}
use Rattle.trace_events.specs.Event.{Event}
use Rattle.trace_events.proofs.Judged.{AreJudged}
use Rattle.state_tables.specs.LetGo.{is_let_go}
use Rattle.state_incoming.specs.Grouped.{AreGrouped, has_id, is_for, is_of_link, is_of_session}
use Rattle.state_incoming.specs.Held.{Held, held_at, says_arriving, says_waiting}
use Rattle.state_incoming.specs.LetGo.{IsOver}
use Rattle.state_incoming.specs.declared.groups.HeldGroups.{HeldGroups}
use Rattle.state_incoming.proofs.OverKnown.{kept-law, over-arrived, over-undecided, over-waited}

or_false : (b : Bool) → b || false ≡ b
or_false true = refl
or_false false = refl

or_true : (b : Bool) → b || true ≡ true
or_true true = refl
or_true false = refl

and_off : (a b : Bool) → b ≡ false → a && b ≡ false
and_off true b off = off
and_off false b off = refl

same_some : {A : Type 0} (a b : A) → Some a ≡ Some b → a ≡ b
same_some a b is = cc

pub noted-at : (gone : List (ℕ × Unit {0})) (number n : ℕ) → is_let_go (gone ++ (number, tt) ∷ []) n ≡ is_let_go gone n || (number == n)
noted-at gone number n = list_any-append (λ (p : ℕ × Unit {0}). p.0 == n) gone ((number, tt) ∷ []) ∙ ap (λ b. is_let_go gone n || b) (or_false (number == n))

module _ (rules : RuleSet) (past : List Event) (are : AreJudged rules past) (number : ℕ) (over : IsOver rules number past) (gone later : List (ℕ × Unit {0})) (noted : later ≡ gone ++ (number, tt) ∷ [])
    (old new : ℕ → Option Held) (were : (n : ℕ) → old n ≡ (if is_let_go gone n then None else held_at rules n past)) (removed : (n : ℕ) → new n ≡ (if number == n then None else old n)) where
  later-at : (n : ℕ) → is_let_go later n ≡ is_let_go gone n || (number == n)
  later-at n = ap (λ xs. is_let_go xs n) noted ∙ noted-at gone number n

  pub held-still : (n : ℕ) → new n ≡ (if is_let_go later n then None else held_at rules n past)
  held-still n = by (number == n) refl
    where
      by : (b : Bool) → (number == n) ≡ b → new n ≡ (if is_let_go later n then None else held_at rules n past)
      by true same =
          removed n
          ∙ (ap (λ b. if b then None else old n) same
          ∙ sym (ap (λ b. if b then None else held_at rules n past) (later-at n ∙ (ap (λ b. is_let_go gone n || b) same ∙ or_true (is_let_go gone n)))))
      by false other =
          removed n
          ∙ (ap (λ b. if b then None else old n) other
          ∙ (were n ∙ sym (ap (λ b. if b then None else held_at rules n past) (later-at n ∙ (ap (λ b. is_let_go gone n || b) other ∙ or_false (is_let_go gone n))))))

  pub over-still : ((n : ℕ) → is_let_go gone n ≡ true → IsOver rules n past) → (n : ℕ) → is_let_go later n ≡ true → IsOver rules n past
  over-still all n went = by (number == n) refl
    where
      by : (b : Bool) → (number == n) ≡ b → IsOver rules n past
      by true same = subst (λ m. IsOver rules m past) (eqb-true number n same) over
      by false other = all n (sym (later-at n ∙ (ap (λ b. is_let_go gone n || b) other ∙ or_false (is_let_go gone n))) ∙ went)

  -- its entry, if the table has it
  entry : (x : Held) → old number ≡ Some x → over.entry ≡ x
  entry x is = same_some over.entry x (sym over.at ∙ (kept-law (is_let_go gone number) (held_at rules number past) x (sym (were number) ∙ is)).1)

  -- a test that the one which is over doesn't pass
  tested : (key mark : Held → Bool) → mark over.entry ≡ false → (n : ℕ) → is_some_and (old n) (λ x. key x && mark x) ≡ is_some_and (new n) (λ x. key x && mark x)
  tested key mark off n = by (number == n) refl
    where
      test : Held → Bool
      test x = key x && mark x

      none : (o : Option Held) → old number ≡ o → is_some_and o test ≡ false
      none None is = refl
      none (Some x) is = and_off (key x) (mark x) (ap mark (sym (entry x is)) ∙ off)

      by : (b : Bool) → (number == n) ≡ b → is_some_and (old n) test ≡ is_some_and (new n) test
      by true same =
          sym (ap (λ m. is_some_and (old m) test) (eqb-true number n same))
          ∙ (none (old number) refl ∙ sym (ap (λ o. is_some_and o test) (removed n ∙ ap (λ b. if b then None else old n) same)))
      by false other = sym (ap (λ o. is_some_and o test) (removed n ∙ ap (λ b. if b then None else old n) other))

  numbered-still : (n : ℕ) → IfSome (old n) (λ x. x.delivery.number ≡ n) → IfSome (new n) (λ x. x.delivery.number ≡ n)
  numbered-still n numbered = subst (λ (o : Option Held). IfSome o (λ x. x.delivery.number ≡ n)) (sym (removed n)) (by (number == n))
    where
      by : (b : Bool) → IfSome (if b then None else old n) (λ x. x.delivery.number ≡ n)
      by true = tt
      by false = numbered

  arrived : says_arriving over.entry.fate ≡ false
  arrived = over-arrived rules past are number over

  waited : says_waiting over.entry.fate ≡ false
  waited = over-waited rules past are number over

  decided : over.entry.is_undecided ≡ false
  decided = over-undecided rules past are number over

  pub grouped-still : (groups : HeldGroups) → AreGrouped groups old → AreGrouped groups new
  grouped-still groups grouped = record {
    arriving = λ link n. grouped.arriving link n ∙ tested (λ x. is_of_link link x.delivery) (λ x. says_arriving x.fate) arrived n;
    undecided = λ link n. grouped.undecided link n ∙ tested (λ x. is_of_link link x.delivery) (λ x. x.is_undecided) decided n;
    of_session = λ session n. grouped.of_session session n ∙ tested (λ x. is_of_session session x.delivery) (λ x. x.is_undecided) decided n;
    in_use = λ key n. grouped.in_use key n ∙ tested (λ x. has_id key.session key.id x.delivery) (λ x. x.is_undecided) decided n;
    waiting = λ address n. grouped.waiting address n ∙ tested (is_for address) (λ x. says_waiting x.fate) waited n;
    numbered = λ n. numbered-still n (grouped.numbered n);
  }
