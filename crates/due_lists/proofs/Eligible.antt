-- Of the consumers of an address, those whose live link may take a delivery are those that are eligible.
use Rattle.std.proofs.Common.{◌≡◌, refl, sym, ap, subst, ◌∙◌, inl, inr, ℕ, Bool, true, false, ◌&&◌, List, [], ◌∷◌, filter, Option, Some, None, IfSome, option_and_then, option_map, if◌then◌else◌, ◌==◌, eq-eqb}
use Rattle.std.specs.Prelude.{Contains}
use Rattle.std.specs.List.{best_of}
use Rattle.capture_form.specs.Rules.{RuleSet}
use Rattle.capture_form.specs.declared.rules.Distribution.{Distribution}
use Rattle.capture_form.specs.declared.rules.Distribution.TheVariants.{Closest, Balanced, Multicast}
use Rattle.capture_form.specs.Addresses.{distribution}
use Rattle.flow_counts.specs.Picks.{AddressEvent, Consumer, consumer, consumers, is_at, best}
use Rattle.address_table.specs.Picking.{pick_of}
use Rattle.trace_events.specs.Words.{is_some_and, where_passes}
use Rattle.trace_events.specs.Event.{Event, Link}
use Rattle.trace_events.specs.Link.{IsLiveLink, is_consumer, is_live, link_at}
use Rattle.trace_events.proofs.Judged.{AreJudged}
use Rattle.trace_events.proofs.LinkNumbers.{judged-found}
use Rattle.trace_events.proofs.Links.{passing}
use Rattle.trace_events.proofs.LinkEnds.{lives-live}
use Rattle.trace_events.proofs.WaitingQueue.{contains_first, contains_later, contains_cases, in_filter}
use Rattle.trace_duties.specs.Consumers.{address_events}
use Rattle.trace_events.specs.TransferClause.{may_take}
use Rattle.trace_duties.specs.Pick.{is_eligible, pick}
use Rattle.trace_duties.proofs.ConsumerCounts.{listed-is}
use Rattle.trace_duties.proofs.LinksCounted.{counted, counted_at, consumer-counted}
use Rattle.state_tables.specs.ConsumerLinks.{consumer_at}
use Rattle.due_lists.proofs.EndedConsumers.{any-gives, and_last}

-- ---- lists

filter-same : {A : Type 0} (p q : A → Bool) (xs : List A) → ((x : A) → Contains xs x → p x ≡ q x) → filter p xs ≡ filter q xs
filter-same p q [] same = refl
filter-same p q (x ∷ xs) same =
    ap (λ b. if b then x ∷ filter p xs else filter p xs) (same x (contains_first x xs))
    ∙ ap (λ rest. if q x then x ∷ rest else rest) (filter-same p q xs (λ y there. same y (contains_later x xs y there)))

same_some : {A : Type 0} (a b : A) → Some a ≡ Some b → a ≡ b
same_some a b is = cc

better : {A : Type 0} (b : Bool) (x a : A) (xs : List A) (y : A) → Contains ((if b then x else a) ∷ xs) y → Contains (a ∷ x ∷ xs) y
better true x a xs y there = contains_later a (x ∷ xs) y there
better false x a xs y there = elim (contains_cases a xs y there) [
  | inl same ↦ subst (λ z. Contains (a ∷ x ∷ xs) z) same (contains_first a (x ∷ xs))
  | inr later ↦ contains_later a (x ∷ xs) y (contains_later x xs y later)
]

best_of-in : {A : Type 0} (beats : A → A → Bool) (a : A) (xs : List A) → Contains (a ∷ xs) (best_of beats a xs)
best_of-in beats a [] = contains_first a []
best_of-in beats a (x ∷ xs) = better (beats x a) x a xs (best_of beats a (x ∷ xs)) (best_of-in beats (if beats x a then x else a) xs)

best-in : {A : Type 0} (beats : A → A → Bool) (xs : List A) (x : A) → best beats xs ≡ Some x → Contains xs x
best-in beats [] x is = absurd cc
best-in beats (y ∷ ys) x is = subst (λ z. Contains (y ∷ ys) z) (same_some (best_of beats y ys) x is) (best_of-in beats y ys)

-- ---- a pick by a test

pick-same : (by : Distribution) (p q : ℕ → Bool) (address : List ℕ) (events : List AddressEvent) → ((n : ℕ) → Contains (consumers address events) n → p n ≡ q n)
    → pick_of by p address events ≡ pick_of by q address events
pick-same Closest p q address events same = ap (best _) (filter-same p q (consumers address events) same)
pick-same Balanced p q address events same = ap (best _) (filter-same p q (consumers address events) same)
pick-same Multicast p q address events same = refl

pub pick-passes : (by : Distribution) (test : ℕ → Bool) (address : List ℕ) (events : List AddressEvent) (n : ℕ) → pick_of by test address events ≡ Some n → test n ≡ true
pick-passes Closest test address events n is = (in_filter test (consumers address events) n (best-in _ (filter test (consumers address events)) n is)).1
pick-passes Balanced test address events n is = (in_filter test (consumers address events) n (best-in _ (filter test (consumers address events)) n is)).1
pick-passes Multicast test address events n is = absurd cc

best-none : (beats : ℕ → ℕ → Bool) (test : ℕ → Bool) (xs : List ℕ) → xs ≡ [] → best beats (filter test xs) ≡ None
best-none beats test [] none = refl
best-none beats test (x ∷ xs) none = absurd cc

pub pick-none : (by : Distribution) (test : ℕ → Bool) (address : List ℕ) (events : List AddressEvent) → consumers address events ≡ [] → pick_of by test address events ≡ None
pick-none Closest test address events none = best-none _ test (consumers address events) none
pick-none Balanced test address events none = best-none _ test (consumers address events) none
pick-none Multicast test address events none = refl

pub fused : {A B C : Type 0} (f : A → B) (g : B → C) (o : Option A) → option_map (λ x. g (f x)) o ≡ option_map g (option_map f o)
fused f g None = refl
fused f g (Some x) = refl

-- ---- live links

-- the consumer's live link of the number may take a delivery
abbrev pub takes_at : List Event → ℕ → Bool
takes_at past n = is_some_and (consumer_at n past) (may_take past)

none-at : (address : List ℕ) (o : Option Consumer) → o ≡ None → is_at address o ≡ false
none-at address o none = ap (is_at address) none

takes-by : (address : List ℕ) (past : List Event) (o : Option Link) → is_at address (option_and_then (counted_at past) o) ≡ true
    → is_some_and (where_passes (λ l. is_consumer l && is_live past l) o) (may_take past) ≡ is_some_and o (may_take past)
takes-by address past None listed = refl
takes-by address past (Some l) listed = by (is_consumer l && is_live past l) listed
  where
    by : (b : Bool) → is_at address (if b then Some (counted past l) else None) ≡ true → is_some_and (if b then Some l else None) (may_take past) ≡ may_take past l
    by true listed = refl
    by false listed = absurd cc

pub pick-of : (rules : RuleSet) (past : List Event) (address : List ℕ) (by : Distribution) (text : List ℕ) → by ≡ distribution rules address → text ≡ address → (o : Option ℕ)
    → o ≡ pick_of by (takes_at past) text (address_events past) → o ≡ pick_of (distribution rules address) (takes_at past) address (address_events past)
pick-of rules past address by text ruled same o is =
    is ∙ (ap (λ d. pick_of d (takes_at past) text (address_events past)) ruled ∙ ap (λ a. pick_of (distribution rules address) (takes_at past) a (address_events past)) same)

module _ (rules : RuleSet) (past : List Event) (are : AreJudged rules past) where
  takes-eligible : (address : List ℕ) (n : ℕ) → Contains (consumers address (address_events past)) n → takes_at past n ≡ is_eligible past n
  takes-eligible address n there =
      let listed : is_at address (consumer n (address_events past)) ≡ true =
      sym (listed-is address n (address_events past)) ∙ any-gives (λ x. x == n) (consumers address (address_events past)) n there (eq-eqb n n refl) in
      takes-by address past (link_at n past) (ap (is_at address) (sym (consumer-counted rules past are n)) ∙ listed)

  pub picked-same : (address : List ℕ) → pick_of (distribution rules address) (takes_at past) address (address_events past) ≡ pick rules address past
  picked-same address = pick-same (distribution rules address) (takes_at past) (is_eligible past) address (address_events past) (takes-eligible address)

  -- the link that is picked, by its number
  pub picked-link : (address : List ℕ) (n : ℕ) (l : Option Link) → pick_of (distribution rules address) (takes_at past) address (address_events past) ≡ Some n → l ≡ consumer_at n past
      → (option_map (λ m. m.number) l ≡ pick rules address past) × IfSome l (λ m. link_at m.number past ≡ Some m)
  picked-link address n l is same =
      let passes = pick-passes (distribution rules address) (takes_at past) address (address_events past) n is in
      by (link_at n past) refl (ap (λ o. is_some_and o (may_take past)) same ∙ passes) same
    where
      found : (m : Link) → link_at n past ≡ Some m → (b : Bool) → is_some_and l (may_take past) ≡ true → l ≡ (if b then Some m else None)
          → (option_map (λ m. m.number) l ≡ pick rules address past) × IfSome l (λ m. link_at m.number past ≡ Some m)
      found m at true takes own =
          let number = (judged-found rules past are n m at).0 in
          subst (λ (o : Option Link). (option_map (λ m. m.number) o ≡ pick rules address past) × IfSome o (λ m. link_at m.number past ≡ Some m)) (sym own)
          (ap Some number ∙ (sym is ∙ picked-same address), ap (λ k. link_at k past) number ∙ at)
      found m at false takes own = let never : false ≡ true = ap (λ o. is_some_and o (may_take past)) (sym own) ∙ takes in absurd cc

      by : (o : Option Link) → link_at n past ≡ o → is_some_and l (may_take past) ≡ true → l ≡ where_passes (λ l. is_consumer l && is_live past l) o
          → (option_map (λ m. m.number) l ≡ pick rules address past) × IfSome l (λ m. link_at m.number past ≡ Some m)
      by None at takes own = let never : false ≡ true = ap (λ o. is_some_and o (may_take past)) (sym own) ∙ takes in absurd cc
      by (Some m) at takes own = found m at (is_consumer m && is_live past m) takes own

  -- one that is found by its number lives
  pub taken-lives : (n : ℕ) (l : Link) → consumer_at n past ≡ Some l → IsLiveLink l past
  taken-lives n l is =
      let found = passing (λ l. is_consumer l && is_live past l) (link_at n past) l is in
      lives-live rules past are l (ap (λ m. link_at m past) (judged-found rules past are n l found.0).0 ∙ found.0) (and_last (is_consumer l) (is_live past l) found.1)
