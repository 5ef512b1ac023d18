-- What the numbers of an address say of its consumers.
use Rattle.std.proofs.Common.{◌≡◌, refl, sym, ap, ◌∙◌, ◌↔◌, ℕ, ◌≤◌, Bool, true, false, ◌||◌, not, IsTrue, List, [], ◌∷◌, length, map, filter, nat_eq, ◌==◌, if◌then◌else◌, arith}
use Rattle.std.specs.List.{AllByRecursion, IsDistinct, list_any}
use Rattle.std.proofs.lemmas.Bool.{eq-eqb, ne_eqb}
use Rattle.std.proofs.lemmas.Cmp.{nat_eq_equiv}
use Rattle.std.proofs.lemmas.List.{length-map, length-reverse}
use Rattle.std.proofs.lemmas.Map.Made.{length-le_from_is_member}
use Rattle.capture_form.specs.Rules.{RuleSet}
use Rattle.number_groups.specs.Numbers.{is_among}
use Rattle.number_groups.specs.OctetGroups.{numbers}
use Rattle.trace_events.specs.Words.{is_some_and}
use Rattle.trace_events.specs.Event.{Event, Link}
use Rattle.trace_events.specs.Address.{consumers, has_consumer, is_consumer_of}
use Rattle.trace_events.specs.Link.{link_at, links}
use Rattle.trace_events.proofs.Judged.{AreJudged}
use Rattle.trace_events.proofs.LinkNumbers.{AreFalling, any-at, judged-falling}
use Rattle.state_tables.specs.Consumers.{AreConsumers, has_some, is_served}
use Rattle.state_tables.specs.declared.consumers.Consumers.{Consumers}

-- a list in which some pass has one of its own number there
module _ (test : Link → Bool) where
  none-pass : (ls : List Link) (n : ℕ) → list_any test ls ≡ false → list_any (λ l. n == l.number) (filter test ls) ≡ false
  none-pass [] n none = refl
  none-pass (l ∷ ls) n none = by (test l) refl none (none-pass ls n)
    where
      by : (b : Bool) → test l ≡ b → b || list_any test ls ≡ false → (list_any test ls ≡ false → list_any (λ l. n == l.number) (filter test ls) ≡ false)
          → list_any (λ l. n == l.number) (if b then l ∷ filter test ls else filter test ls) ≡ false
      by true is none rest = absurd cc
      by false is none rest = rest none

  some-pass : (ls : List Link) → list_any test ls ≡ true → (n : ℕ) × (list_any (λ l. n == l.number) (filter test ls) ≡ true)
  some-pass [] is = absurd cc
  some-pass (l ∷ ls) is = by (test l) is (some-pass ls)
    where
      by : (b : Bool) → b || list_any test ls ≡ true → (list_any test ls ≡ true → (n : ℕ) × (list_any (λ l. n == l.number) (filter test ls) ≡ true))
          → (n : ℕ) × (list_any (λ l. n == l.number) (if b then l ∷ filter test ls else filter test ls) ≡ true)
      by true is rest = (l.number, ap (λ b. b || list_any (λ m. l.number == m.number) (filter test ls)) (eq-eqb l.number l.number refl))
      by false is rest = rest is

not_true : (b : Bool) → (b ≡ true → ⊥) → b ≡ false
not_true true never = absurd (never refl)
not_true false never = refl

module _ (rules : RuleSet) (past : List Event) (are : AreJudged rules past) (address : List ℕ) (member : ℕ → Bool)
    (of : (n : ℕ) → member n ≡ is_some_and (link_at n past) (is_consumer_of address past)) where
  abbrev test : Link → Bool
  test = is_consumer_of address past

  member-any : (n : ℕ) → member n ≡ list_any (λ l. n == l.number) (filter test (links past))
  member-any n = of n ∙ sym (any-at rules past are test n)

  pub has-consumer : (empty : Bool) → IsTrue empty ↔ ((n : ℕ) → member n ≡ false) → not empty ≡ has_consumer address past
  has-consumer empty is = by (list_any test (links past)) refl
    where
      by : (b : Bool) → list_any test (links past) ≡ b → not empty ≡ b
      by false none = ap not (is.1 (λ n. member-any n ∙ none-pass test (links past) n none))
      by true some =
          let found = some-pass test (links past) some in
          ap not (not_true empty (λ yes. let never : true ≡ false = sym (member-any found.0 ∙ found.1) ∙ is.0 yes found.0 in absurd cc))

first-among : (n : ℕ) (ns : List ℕ) → is_among (n ∷ ns) n ≡ true
first-among n ns = ap (λ b. b || list_any (nat_eq n) ns) (eq-eqb n n refl)

-- an address is served where a number stands there
pub some-among : (ns : List ℕ) (empty : Bool) → IsTrue empty ↔ ((n : ℕ) → is_among ns n ≡ false) → not empty ≡ has_some ns
some-among [] empty is = ap not (is.1 (λ n. refl))
some-among (m ∷ ms) empty is = ap not (not_true empty (λ yes. let never : true ≡ false = sym (first-among m ms) ∙ is.0 yes m in absurd cc))

-- the table tells of each address whether it has a consumer behind these events
pub are-served : (rules : RuleSet) (past : List Event) → AreJudged rules past → (table : Consumers) → AreConsumers table past → (address : List ℕ) → is_served table address ≡ has_consumer address past
are-served rules past are table of address = by (numbers table.groups address) (of address)
  where
    by : (ns : List ℕ) → ((n : ℕ) → is_among ns n ≡ is_some_and (link_at n past) (is_consumer_of address past)) → has_some ns ≡ has_consumer address past
    by [] each = has-consumer rules past are address (λ n. is_among [] n) each true ((λ yes n. refl), (λ none. refl))
    by (m ∷ ms) each =
        has-consumer rules past are address (λ n. is_among (m ∷ ms) n) each false
        ((λ never. absurd cc), (λ none. let never : true ≡ false = sym (first-among m ms) ∙ none m in absurd cc))

-- ---- as many numbers as consumers

-- those that pass have numbers that fall too
passing-apart : (test : Link → Bool) (m n : ℕ) (ls : List Link) → AreFalling n ls → n ≤ m → AllByRecursion (λ y. nat_eq m y ≡ false) (map (λ (l : Link). l.number) (filter test ls))
passing-apart test m n [] falling le = tt
passing-apart test m n (l ∷ ls) falling le = by (test l) (passing-apart test m l.number ls falling.1 (omega (arith, le, falling.0)))
  where
    by : (b : Bool) → AllByRecursion (λ y. nat_eq m y ≡ false) (map (λ (l : Link). l.number) (filter test ls))
        → AllByRecursion (λ y. nat_eq m y ≡ false) (map (λ (l : Link). l.number) (if b then l ∷ filter test ls else filter test ls))
    by true rest = (ne_eqb m l.number (λ same. omega (arith, same, le, falling.0)), rest)
    by false rest = rest

passing-distinct : (test : Link → Bool) (n : ℕ) (ls : List Link) → AreFalling n ls → IsDistinct nat_eq (map (λ (l : Link). l.number) (filter test ls))
unfolding IsDistinct
passing-distinct test n [] falling = tt
passing-distinct test n (l ∷ ls) falling = by (test l) (passing-distinct test l.number ls falling.1)
  where
    by : (b : Bool) → IsDistinct nat_eq (map (λ (l : Link). l.number) (filter test ls)) → IsDistinct nat_eq (map (λ (l : Link). l.number) (if b then l ∷ filter test ls else filter test ls))
    by true rest = (passing-apart test l.number l.number ls falling.1 (omega arith), rest)
    by false rest = rest

among-map : (n : ℕ) (ls : List Link) → list_any (nat_eq n) (map (λ (l : Link). l.number) ls) ≡ list_any (λ l. n == l.number) ls
among-map n [] = refl
among-map n (l ∷ ls) = ap (λ b. (n == l.number) || b) (among-map n ls)

module _ (rules : RuleSet) (past : List Event) (are : AreJudged rules past) (address : List ℕ) (numbers : List ℕ) (distinct : IsDistinct nat_eq numbers)
    (of : (n : ℕ) → list_any (nat_eq n) numbers ≡ is_some_and (link_at n past) (is_consumer_of address past)) where
  abbrev passing : List Link
  passing = filter (is_consumer_of address past) (links past)

  abbrev theirs : List ℕ
  theirs = map (λ (l : Link). l.number) passing

  same-members : (n : ℕ) → list_any (nat_eq n) numbers ≡ list_any (nat_eq n) theirs
  same-members n = of n ∙ (sym (any-at rules past are (is_consumer_of address past) n) ∙ sym (among-map n passing))

  pub consumers-count : length numbers ≡ length (consumers address past)
  consumers-count =
      let most : length numbers ≤ length theirs = length-le_from_is_member nat_eq_equiv numbers theirs distinct (λ q is. sym (same-members q) ∙ is) in
      let least : length theirs ≤ length numbers =
      length-le_from_is_member nat_eq_equiv theirs numbers (passing-distinct (is_consumer_of address past) (length past) (links past) (judged-falling rules past are)) (λ q is. same-members q ∙ is) in
      let same : length numbers ≡ length theirs = omega (arith, most, least) in
      same ∙ (length-map passing (λ (l : Link). l.number) ∙ sym (length-reverse passing))
