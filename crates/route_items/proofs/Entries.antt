-- What became of a connection, as its entry or its run says.
use Rattle.std.proofs.Common.{◌≡◌, refl, ap, subst, ◌∙◌, ℕ, Bool, true, false, ◌&&◌, cond, Option, Some, None, unwrap_or, nat_eq, if◌then◌else◌, ◌==◌}
use Rattle.std.specs.Bool.{beq}
use Rattle.std.specs.Cmp.{booleans_Decides}
use Rattle.indexmap.specs.IndexMap.{get}
use Rattle.number_runs.specs.Runs.{value_in}
use Rattle.route_items.specs.declared.connection_states.ConnectionState.{ConnectionState}
use Rattle.route_items.specs.declared.connection_states.ConnectionStates.{ConnectionStates}
use Rattle.route_items.specs.ConnectionStates.{IsNow, life_in, no_life}

abbrev said : Option ConnectionState → Option ConnectionState → ConnectionState
said entry run = unwrap_or entry (unwrap_or run no_life)

module _ (old new : ConnectionStates) (c : ℕ) (life : ConnectionState) where
  -- its entry says it
  pub put-now : ((q : ℕ) → get nat_eq new.entries q ≡ cond (nat_eq c q) (Some life) (get nat_eq old.entries q)) → new.over ≡ old.over → IsNow c life old new
  put-now moves over n =
      ap (λ runs. said (get nat_eq new.entries n) (value_in runs n)) over ∙ (ap (λ o. said o (value_in old.over n)) (moves n) ∙ by (nat_eq c n))
    where
      by : (b : Bool) → said (cond b (Some life) (get nat_eq old.entries n)) (value_in old.over n) ≡ (if b then life else life_in old n)
      by true = refl
      by false = refl

  -- its run says it, and it has no entry
  pub left-now : ((q : ℕ) → get nat_eq new.entries q ≡ cond (nat_eq c q) None (get nat_eq old.entries q))
      → ((q : ℕ) → value_in new.over q ≡ (if true && (c == q) then Some life else value_in old.over q)) → IsNow c life old new
  left-now moves runs n = ap (λ o. said o (value_in new.over n)) (moves n) ∙ (ap (said (cond (nat_eq c n) None (get nat_eq old.entries n))) (runs n) ∙ by (nat_eq c n))
    where
      by : (b : Bool) → said (cond b None (get nat_eq old.entries n)) (if b then Some life else value_in old.over n) ≡ (if b then life else life_in old n)
      by true = refl
      by false = refl

  pub now-behind : (mid : ConnectionStates) → ((n : ℕ) → life_in mid n ≡ life_in old n) → IsNow c life mid new → IsNow c life old new
  now-behind mid same now n = now n ∙ ap (λ l. if c == n then life else l) (same n)

-- nothing changed
pub none-put : (old new : ConnectionStates) (c : ℕ) (life : ConnectionState) → new.entries ≡ old.entries → ((q : ℕ) → value_in new.over q ≡ (if false && (c == q) then Some life else value_in old.over q))
    → (n : ℕ) → life_in new n ≡ life_in old n
none-put old new c life entries runs n = ap (λ m. said (get nat_eq m n) (value_in new.over n)) entries ∙ ap (said (get nat_eq old.entries n)) (runs n)

-- the test for equality decides it
both : (a b : Bool) → a && b ≡ true → (a ≡ true) × (b ≡ true)
both true b is = (refl, is)
both false b is = absurd cc

flag : (a b : Bool) → beq a b ≡ true → a ≡ b
flag a b is = (booleans_Decides a b).0 is

own : (a : Bool) → beq a a ≡ true
own true = refl
own false = refl

abbrev pub alike : ConnectionState → ConnectionState → Bool
alike x y = beq x.is_opened y.is_opened && (beq x.is_lost y.is_lost && beq x.is_broken y.is_broken)

abbrev made : Bool → Bool → Bool → ConnectionState
made a b c = record { is_opened = a; is_lost = b; is_broken = c }

made-same : (a b c x y z : Bool) → a ≡ x → b ≡ y → c ≡ z → made a b c ≡ made x y z
made-same a b c x y z p q r = ap (λ a. made a b c) p ∙ (ap (λ b. made x b c) q ∙ ap (λ c. made x y c) r)

pub same : (x y : ConnectionState) → alike x y ≡ true → x ≡ y
same x y is =
    let a = both (beq x.is_opened y.is_opened) _ is in
    let b = both (beq x.is_lost y.is_lost) _ a.1 in
    made-same _ _ _ _ _ _ (flag x.is_opened y.is_opened a.0) (flag x.is_lost y.is_lost b.0) (flag x.is_broken y.is_broken b.1)

alike-own : (x : ConnectionState) → alike x x ≡ true
alike-own x = rw (own x.is_opened, own x.is_lost, own x.is_broken) refl

pub alike-same : (x y : ConnectionState) → x ≡ y → alike x y ≡ true
alike-same x y is = subst (λ z. alike x z ≡ true) is (alike-own x)
