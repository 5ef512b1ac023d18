-- What lists of events do to the consumers that are counted over them.
use Rattle.std.proofs.Common.{◌≡◌, refl, sym, ap, ◌∙◌, ℕ, suc, ◌-◌, Bool, true, false, ◌&&◌, ◌||◌, not, List, [], ◌∷◌, ◌++◌, Option, Some, None, is_none, filter, map, unwrap_or, if◌then◌else◌, ◌==◌, arith}
use Rattle.std.specs.List.{list_any, count_by}
use Rattle.std.specs.Option.{option_map}
use Rattle.std.specs.Str.{bytes_eq}
use Rattle.std.proofs.lemmas.Bool.{eqb-true}
use Rattle.std.proofs.lemmas.List.Folds.{list_any-append}
use Rattle.trace_events.proofs.StepWords.{filter-both, count-passes, count-fails}
use Rattle.trace_events.proofs.LinkNumbers.{same-sym}
use Rattle.flow_counts.specs.Picks.{AddressEvent, Attached, Detached, Begun, Decided, Consumer, attached, begun, decided, consumer, is_at, consumers}

-- ---- numbers without one

any-without : (link on : ℕ) → (link == on) ≡ false → (xs : List ℕ) → list_any (λ x. x == link) (filter (λ x. not (x == on)) xs) ≡ list_any (λ x. x == link) xs
any-without link on other [] = refl
any-without link on other (x ∷ xs) = by (x == on) refl (any-without link on other xs)
  where
    by : (b : Bool) → (x == on) ≡ b → list_any (λ x. x == link) (filter (λ x. not (x == on)) xs) ≡ list_any (λ x. x == link) xs
        → list_any (λ x. x == link) (if not b then x ∷ filter (λ x. not (x == on)) xs else filter (λ x. not (x == on)) xs) ≡ list_any (λ x. x == link) (x ∷ xs)
    by true is rest = rest ∙ sym (ap (λ b. b || list_any (λ x. x == link) xs) (ap (λ y. y == link) (eqb-true x on is) ∙ (same-sym on link ∙ other)))
    by false is rest = ap (λ rest. (x == link) || rest) rest

none-without : (on : ℕ) (xs : List ℕ) → list_any (λ x. x == on) (filter (λ x. not (x == on)) xs) ≡ false
none-without on [] = refl
none-without on (x ∷ xs) = by (x == on) refl (none-without on xs)
  where
    by : (b : Bool) → (x == on) ≡ b → list_any (λ x. x == on) (filter (λ x. not (x == on)) xs) ≡ false
        → list_any (λ x. x == on) (if not b then x ∷ filter (λ x. not (x == on)) xs else filter (λ x. not (x == on)) xs) ≡ false
    by true is rest = rest
    by false is rest = ap (λ b. b || list_any (λ x. x == on) (filter (λ x. not (x == on)) xs)) is ∙ rest

without-none : (on : ℕ) (xs : List ℕ) → list_any (λ x. x == on) xs ≡ false → filter (λ x. not (x == on)) xs ≡ xs
without-none on [] none = refl
without-none on (x ∷ xs) none = by (x == on) none (without-none on xs)
  where
    by : (b : Bool) → b || list_any (λ x. x == on) xs ≡ false → (list_any (λ x. x == on) xs ≡ false → filter (λ x. not (x == on)) xs ≡ xs)
        → (if not b then x ∷ filter (λ x. not (x == on)) xs else filter (λ x. not (x == on)) xs) ≡ x ∷ xs
    by true none rest = absurd cc
    by false none rest = ap (λ rest. x ∷ rest) (rest none)

-- ---- a link is among those of an address while it is attached to it

listed-attached : (address at : List ℕ) (link on : ℕ) (pre_settled : Bool) (earlier other : Option Consumer) (xs : List ℕ)
    → ((link == on) ≡ true → earlier ≡ other) → list_any (λ x. x == link) xs ≡ is_at address earlier
    → list_any (λ x. x == link) (if is_none other && bytes_eq address at then xs ++ on ∷ [] else xs)
    ≡ is_at address (if link == on then Some (unwrap_or earlier (attached at pre_settled)) else earlier)
listed-attached address at link on pre_settled earlier other xs same before = by (link == on) refl earlier other (bytes_eq address at) refl same before
  where
    by : (b : Bool) → (link == on) ≡ b → (earlier other : Option Consumer) (c : Bool) → bytes_eq address at ≡ c → (b ≡ true → earlier ≡ other) → list_any (λ x. x == link) xs ≡ is_at address earlier
        → list_any (λ x. x == link) (if is_none other && c then xs ++ on ∷ [] else xs) ≡ is_at address (if b then Some (unwrap_or earlier (attached at pre_settled)) else earlier)
    by true is None None true at_it same before =
        list_any-append (λ x. x == link) xs (on ∷ [])
        ∙ (ap (λ b. list_any (λ x. x == link) xs || (b || false)) (same-sym on link ∙ is) ∙ (ap (λ b. b || true) before ∙ sym at_it))
    by true is None None false at_it same before = before ∙ sym at_it
    by true is None (Some o) c at_it same before = let never : ◌≡◌ {A = Option Consumer} None (Some o) = same refl in absurd cc
    by true is (Some e) None c at_it same before = let never : ◌≡◌ {A = Option Consumer} (Some e) None = same refl in absurd cc
    by true is (Some e) (Some o) c at_it same before = before
    by false is earlier None true at_it same before =
        list_any-append (λ x. x == link) xs (on ∷ [])
        ∙ (ap (λ b. list_any (λ x. x == link) xs || (b || false)) (same-sym on link ∙ is) ∙ (or-false (list_any (λ x. x == link) xs) ∙ before))
      where
        or-false : (b : Bool) → b || false ≡ b
        or-false true = refl
        or-false false = refl
    by false is earlier None false at_it same before = before
    by false is earlier (Some o) c at_it same before = before

listed-detached : (address : List ℕ) (link on : ℕ) (earlier other : Option Consumer) (xs : List ℕ)
    → ((link == on) ≡ true → earlier ≡ other) → list_any (λ x. x == link) xs ≡ is_at address earlier
    → list_any (λ x. x == link) (if is_at address other then filter (λ x. not (x == on)) xs else xs) ≡ is_at address (if link == on then None else earlier)
listed-detached address link on earlier other xs same before = by (link == on) refl (is_at address other) refl same
  where
    by : (b : Bool) → (link == on) ≡ b → (c : Bool) → is_at address other ≡ c → (b ≡ true → earlier ≡ other)
        → list_any (λ x. x == link) (if c then filter (λ x. not (x == on)) xs else xs) ≡ is_at address (if b then None else earlier)
    by true is true listed same =
        ap (λ n. list_any (λ x. x == n) (filter (λ x. not (x == on)) xs)) (eqb-true link on is) ∙ none-without on xs
    by true is false listed same = before ∙ (ap (is_at address) (same refl) ∙ listed)
    by false is true listed same = any-without link on is xs ∙ before
    by false is false listed same = before

at-kept : (address : List ℕ) (f : Consumer → Consumer) → ((c : Consumer) → (f c).address ≡ c.address) → (b : Bool) (earlier : Option Consumer)
    → is_at address (if b then option_map f earlier else earlier) ≡ is_at address earlier
at-kept address f same true None = refl
at-kept address f same true (Some c) = ap (bytes_eq address) (same c)
at-kept address f same false earlier = refl

pub listed-is : (address : List ℕ) (link : ℕ) (events : List AddressEvent) → list_any (λ x. x == link) (consumers address events) ≡ is_at address (consumer link events)
listed-is address link [] = refl
listed-is address link (Attached on at pre_settled ∷ past) =
    listed-attached address at link on pre_settled (consumer link past) (consumer on past) (consumers address past)
    (λ same. ap (λ n. consumer n past) (eqb-true link on same)) (listed-is address link past)
listed-is address link (Detached on ∷ past) =
    listed-detached address link on (consumer link past) (consumer on past) (consumers address past)
    (λ same. ap (λ n. consumer n past) (eqb-true link on same)) (listed-is address link past)
listed-is address link (Begun on number ∷ past) = listed-is address link past ∙ sym (at-kept address (begun number) (λ c. refl) (link == on) (consumer link past))
listed-is address link (Decided on ∷ past) = listed-is address link past ∙ sym (at-kept address decided (λ c. refl) (link == on) (consumer link past))

-- ---- what events of one kind do to the consumers of an address

pub consumers-detached : (address : List ℕ) (on : ℕ) (past : List AddressEvent) → consumers address (Detached on ∷ past) ≡ filter (λ link. not (link == on)) (consumers address past)
consumers-detached address on past = by (is_at address (consumer on past)) refl
  where
    by : (b : Bool) → is_at address (consumer on past) ≡ b → (if b then filter (λ link. not (link == on)) (consumers address past) else consumers address past) ≡ filter (λ link. not (link == on)) (consumers address past)
    by true is = refl
    by false is = sym (without-none on (consumers address past) (listed-is address on past ∙ is))

keep-all : {A : Type 0} (xs : List A) → filter (λ x. true) xs ≡ xs
keep-all [] = refl
keep-all (x ∷ xs) = ap (λ rest. x ∷ rest) (keep-all xs)

neither : (a b : Bool) → not (a || b) ≡ not b && not a
neither true true = refl
neither true false = refl
neither false true = refl
neither false false = refl

module _ {A : Type 0} (number : A → ℕ) where
  pub consumers-all_detached : (address : List ℕ) (xs : List A) (past : List AddressEvent)
      → consumers address (map (λ x. Detached (number x)) xs ++ past) ≡ filter (λ n. not (list_any (λ x. n == number x) xs)) (consumers address past)
  consumers-all_detached address [] past = sym (keep-all (consumers address past))
  consumers-all_detached address (x ∷ xs) past =
      consumers-detached address (number x) (map (λ x. Detached (number x)) xs ++ past)
      ∙ (ap (filter (λ link. not (link == number x))) (consumers-all_detached address xs past)
      ∙ sym (filter-both (λ n. not (list_any (λ x. n == number x) (x ∷ xs))) (λ n. not (list_any (λ x. n == number x) xs)) (λ n. not (n == number x))
      (λ n. neither (n == number x) (list_any (λ x. n == number x) xs)) (consumers address past)))

  pub consumers-all_decided : (address : List ℕ) (xs : List A) (past : List AddressEvent) → consumers address (map (λ x. Decided (number x)) xs ++ past) ≡ consumers address past
  consumers-all_decided address [] past = refl
  consumers-all_decided address (x ∷ xs) past = consumers-all_decided address xs past

  -- ---- what they do to a consumer

  pub consumer-all_detached : (link : ℕ) (xs : List A) (past : List AddressEvent)
      → consumer link (map (λ x. Detached (number x)) xs ++ past) ≡ (if list_any (λ x. link == number x) xs then None else consumer link past)
  consumer-all_detached link [] past = refl
  consumer-all_detached link (x ∷ xs) past = by (link == number x) (consumer-all_detached link xs past)
    where
      by : (b : Bool) → consumer link (map (λ x. Detached (number x)) xs ++ past) ≡ (if list_any (λ x. link == number x) xs then None else consumer link past)
          → (if b then None else consumer link (map (λ x. Detached (number x)) xs ++ past)) ≡ (if b || list_any (λ x. link == number x) xs then None else consumer link past)
      by true is = refl
      by false is = is

-- with some deliveries of the consumer decided
abbrev pub fewer : ℕ → Consumer → Consumer
fewer count consumer = record consumer { undecided = consumer.undecided - count }

pub none-fewer : (o : Option Consumer) → option_map (fewer 0) o ≡ o
none-fewer None = refl
none-fewer (Some c) = let same : c.undecided - 0 ≡ c.undecided = omega arith in ap (λ n. Some (record c { undecided = n })) same

one-fewer : (count : ℕ) (o : Option Consumer) → option_map decided (option_map (fewer count) o) ≡ option_map (fewer (suc count)) o
one-fewer count None = refl
one-fewer count (Some c) = let same : (c.undecided - count) - 1 ≡ c.undecided - suc count = omega arith in ap (λ n. Some (record c { undecided = n })) same

module _ {A : Type 0} (number : A → ℕ) where
  pub consumer-all_decided : (link : ℕ) (xs : List A) (past : List AddressEvent)
      → consumer link (map (λ x. Decided (number x)) xs ++ past) ≡ option_map (fewer (count_by (λ x. link == number x) xs)) (consumer link past)
  consumer-all_decided link [] past = sym (none-fewer (consumer link past))
  consumer-all_decided link (x ∷ xs) past = by (link == number x) refl (consumer-all_decided link xs past)
    where
      by : (b : Bool) → (link == number x) ≡ b
          → consumer link (map (λ x. Decided (number x)) xs ++ past) ≡ option_map (fewer (count_by (λ x. link == number x) xs)) (consumer link past)
          → (if b then option_map decided (consumer link (map (λ x. Decided (number x)) xs ++ past)) else consumer link (map (λ x. Decided (number x)) xs ++ past))
          ≡ option_map (fewer (count_by (λ x. link == number x) (x ∷ xs))) (consumer link past)
      by true is rest =
          ap (option_map decided) rest
          ∙ (one-fewer (count_by (λ x. link == number x) xs) (consumer link past)
          ∙ ap (λ n. option_map (fewer n) (consumer link past)) (sym (count-passes (λ x. link == number x) x xs is)))
      by false is rest = rest ∙ ap (λ n. option_map (fewer n) (consumer link past)) (sym (count-fails (λ x. link == number x) x xs is))
