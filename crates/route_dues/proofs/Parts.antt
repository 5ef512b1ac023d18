-- Small facts, and all parts of what is left together.
use Rattle.std.proofs.Common.{◌≡◌, refl, sym, ap, ◌∙◌, ℕ, ◌+◌, ◌*◌, ◌≤◌, ◌<◌, Bool, true, false, not, ◌&&◌, List, [], ◌∷◌, Option, Some, None, is_some, option_map, find, if◌then◌else◌, ◌==◌, eqb-true, eq-eqb, arith}
use Rattle.amqp_perf.specs.declared.attach.Role.{Role}
use Rattle.amqp_perf.specs.declared.attach.Role.TheVariants.{Sender, Receiver}
use Rattle.trace_events.specs.Words.{is_number, where_passes}
use Rattle.trace_events.specs.Event.{Link}
use Rattle.trace_events.specs.Link.{is_sender, is_receiver}

-- ---- small facts

pub both : (a b : Bool) → a ≡ true → b ≡ true → a && b ≡ true
both a b one other = ap (λ x. x && b) one ∙ other

pub not_true : (b : Bool) → not b ≡ true → b ≡ false
not_true true is = absurd cc
not_true false is = refl

pub some_is : {A : Type 0} (o : Option A) → is_some o ≡ true → (x : A) × (o ≡ Some x)
some_is None is = absurd cc
some_is (Some x) is = (x, refl)

pub map_some : {A B : Type 0} (f : A → B) (o : Option A) (y : B) → option_map f o ≡ Some y → (x : A) × (o ≡ Some x) × (f x ≡ y)
map_some f None y is = absurd cc
map_some f (Some x) y is = (x, refl, cc)

pub found_passes : {A : Type 0} (test : A → Bool) (xs : List A) (x : A) → find test xs ≡ Some x → test x ≡ true
found_passes test [] x found = absurd cc
found_passes {A} test (y ∷ ys) x found = by (test y) refl (found_passes test ys x) found
  where
    by : (b : Bool) → test y ≡ b → (find test ys ≡ Some x → test x ≡ true) → (if b then Some y else find test ys) ≡ Some x → test x ≡ true
    by true is later found = let same : y ≡ x = cc in ap test (sym same) ∙ is
    by false is later found = later found

pub number_some : (o : Option ℕ) (n : ℕ) → is_number o n ≡ true → o ≡ Some n
number_some None n is = absurd cc
number_some (Some m) n is = ap Some (eqb-true m n is)

pub is_same_number : (o : Option ℕ) (n : ℕ) → o ≡ Some n → is_number o n ≡ true
is_same_number o n is = ap (λ x. is_number x n) is ∙ eq-eqb n n refl

pub no_both : {A : Type 0} (role : Role) → is_sender role ≡ true → is_receiver role ≡ true → A
no_both Sender sends receives = absurd cc
no_both Receiver sends receives = absurd cc

pub receives : (role : Role) → is_sender role ≡ false → is_receiver role ≡ true
receives Sender is = absurd cc
receives Receiver is = refl

-- the link that is passed on is no one that opens in the record
pub none_opened : (o : Option Link) (n : ℕ) → ((l : Link) → o ≡ Some l → l.number < n) → where_passes (λ (l : Link). l.number == n) o ≡ None
none_opened None n before = refl
none_opened (Some l) n before = by (l.number == n) refl
  where
    by : (b : Bool) → (l.number == n) ≡ b → (if b then Some l else None) ≡ None
    by true same = absurd (let lt = before l refl in let is = eqb-true l.number n same in omega (arith, lt, is))
    by false other = refl

-- ---- all parts together

pub by_transfer : (s s' l l' d d' g g' t t' u u' : ℕ) → s' < s → l' ≤ l → d' ≤ d → g' ≤ g → t' ≤ t → u' ≤ u + 1 → 2 * s' + l' + d' + g' + t' + u' < 2 * s + l + d + g + t + u
by_transfer s s' l l' d d' g g' t t' u u' p q r v w x = omega (arith, p, q, r, v, w, x)

pub by_lacking : (s s' l l' d d' g g' t t' u u' : ℕ) → s' ≤ s → l' < l → d' ≤ d → g' ≤ g → t' ≤ t → u' ≤ u → 2 * s' + l' + d' + g' + t' + u' < 2 * s + l + d + g + t + u
by_lacking s s' l l' d d' g g' t t' u u' p q r v w x = omega (arith, p, q, r, v, w, x)

pub by_drainable : (s s' l l' d d' g g' t t' u u' : ℕ) → s' ≤ s → l' ≤ l → d' < d → g' ≤ g → t' ≤ t → u' ≤ u → 2 * s' + l' + d' + g' + t' + u' < 2 * s + l + d + g + t + u
by_drainable s s' l l' d d' g g' t t' u u' p q r v w x = omega (arith, p, q, r, v, w, x)

pub by_grantable : (s s' l l' d d' g g' t t' u u' : ℕ) → s' ≤ s → l' ≤ l → d' ≤ d → g' < g → t' ≤ t → u' ≤ u → 2 * s' + l' + d' + g' + t' + u' < 2 * s + l + d + g + t + u
by_grantable s s' l l' d d' g g' t t' u u' p q r v w x = omega (arith, p, q, r, v, w, x)

pub by_untold : (s s' l l' d d' g g' t t' u u' : ℕ) → s' ≤ s → l' ≤ l → d' ≤ d → g' ≤ g → t' < t → u' ≤ u → 2 * s' + l' + d' + g' + t' + u' < 2 * s + l + d + g + t + u
by_untold s s' l l' d d' g g' t t' u u' p q r v w x = omega (arith, p, q, r, v, w, x)

pub by_unsettled : (s s' l l' d d' g g' t t' u u' : ℕ) → s' ≤ s → l' ≤ l → d' ≤ d → g' ≤ g → t' ≤ t → u' < u → 2 * s' + l' + d' + g' + t' + u' < 2 * s + l + d + g + t + u
by_unsettled s s' l l' d d' g g' t t' u u' p q r v w x = omega (arith, p, q, r, v, w, x)
