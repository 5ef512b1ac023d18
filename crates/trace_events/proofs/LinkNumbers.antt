-- The links of a history by their numbers: those of the records that opened them, each another's.
use Rattle.std.proofs.Common.{◌≡◌, refl, sym, ap, subst, ◌∙◌, ℕ, ◌<◌, ◌≤◌, Bool, true, false, ◌||◌, List, [], ◌∷◌, length, Option, Some, None, filter, find, if◌then◌else◌, ◌==◌, arith}
use Rattle.std.specs.List.{AllByRecursion, cons_option, list_any}
use Rattle.std.proofs.lemmas.Bool.{eqb-true, eq-eqb, ne_eqb}
use Rattle.capture_form.specs.Rules.{RuleSet}
use Rattle.trace_events.specs.Words.{is_some_and}
use Rattle.trace_events.specs.Event.{Event, Link}
use Rattle.trace_events.specs.Link.{own_link, links, link_at}
use Rattle.trace_events.proofs.Judged.{AreJudged, judged-number}
use Rattle.trace_events.proofs.Links.{AreFound, found_step, none_found, link_opened_number}

-- a link that an event opens has the number of events before it
pub own_link-number : (rules : RuleSet) (e : Event) (past : List Event) (l : Link) → AreJudged rules (e ∷ past) → own_link e ≡ Some l → l.number ≡ length past
own_link-number rules e past l are is = (link_opened_number e l is).1 ∙ judged-number rules e past are

-- ---- numbers that fall

-- each number is below the one before it, and the first below this one
abbrev pub AreFalling : ℕ → List Link → Type 0
AreFalling n [] = Unit {0}
AreFalling n (l ∷ ls) = (l.number < n) × AreFalling l.number ls

falling-weaker : (n m : ℕ) (ls : List Link) → n ≤ m → AreFalling n ls → AreFalling m ls
falling-weaker n m [] le h = tt
falling-weaker n m (l ∷ ls) le h = (omega (arith, le, h.0), h.1)

falling-more : (n m : ℕ) (o : Option Link) (ls : List Link) → n < m → ((l : Link) → o ≡ Some l → l.number ≡ n) → AreFalling n ls → AreFalling m (cons_option o ls)
falling-more n m None ls lt own h = falling-weaker n m ls (omega (arith, lt)) h
falling-more n m (Some l) ls lt own h = (omega (arith, lt, own l refl), falling-weaker n l.number ls (omega (arith, own l refl)) h)

pub judged-falling : (rules : RuleSet) (past : List Event) → AreJudged rules past → AreFalling (length past) (links past)
judged-falling rules [] are = tt
judged-falling rules (e ∷ past) are =
    falling-more (length past) (length (e ∷ past)) (own_link e) (links past) (omega arith) (λ l is. own_link-number rules e past l are is) (judged-falling rules past are.1)

-- ---- of falling numbers each is found

-- no link has a number from this one on
pub find-above : (n m : ℕ) (ls : List Link) → AreFalling m ls → m ≤ n → find (λ l. l.number == n) ls ≡ None
find-above n m [] h le = refl
find-above n m (l ∷ ls) h le =
    ap (λ b. if b then Some l else find (λ l. l.number == n) ls) (ne_eqb l.number n (λ same. omega (arith, same, le, h.0)))
    ∙ find-above n l.number ls h.1 (omega (arith, le, h.0))

pub each-weaker : (P Q : Link → Type 0) → ((l : Link) → P l → Q l) → (ls : List Link) → AllByRecursion P ls → AllByRecursion Q ls
each-weaker P Q f [] h = tt
each-weaker P Q f (l ∷ ls) h = (f l h.0, each-weaker P Q f ls h.1)

pub each-found : (n : ℕ) (ls : List Link) → AreFalling n ls → AllByRecursion (λ l. (find (λ m. m.number == l.number) ls ≡ Some l) × (l.number < n)) ls
each-found n [] h = tt
each-found n (l ∷ ls) h = (
  (ap (λ b. if b then Some l else find (λ m. m.number == l.number) ls) (eq-eqb l.number l.number refl), h.0),
  each-weaker (λ k. (find (λ m. m.number == k.number) ls ≡ Some k) × (k.number < l.number)) (λ k. (find (λ m. m.number == k.number) (l ∷ ls) ≡ Some k) × (k.number < n))
      (λ k is.
      (ap (λ b. if b then Some l else find (λ m. m.number == k.number) ls) (ne_eqb l.number k.number (λ same. omega (arith, same, is.1))) ∙ is.0, omega (arith, is.1, h.0)))
      ls (each-found l.number ls h.1),
)

-- ---- of those that pass a test, one has a number where the link of the number passes

pub same-sym : (m n : ℕ) → (m == n) ≡ (n == m)
same-sym m n = by (m == n) refl
  where
    by : (b : Bool) → (m == n) ≡ b → b ≡ (n == m)
    by true is = sym (eq-eqb n m (sym (eqb-true m n is)))
    by false is = sym (ne_eqb n m (λ same. let yes : (m == n) ≡ true = eq-eqb m n (sym same) in absurd cc))

module _ (test : Link → Bool) where
  any-above : (n m : ℕ) (ls : List Link) → AreFalling m ls → m ≤ n → list_any (λ l. n == l.number) (filter test ls) ≡ false
  any-above n m [] h le = refl
  any-above n m (l ∷ ls) h le =
      by (test l) (ne_eqb n l.number (λ same. omega (arith, same, le, h.0))) (any-above n l.number ls h.1 (omega (arith, le, h.0)))
    where
      by : (b : Bool) → (n == l.number) ≡ false → list_any (λ l. n == l.number) (filter test ls) ≡ false
          → list_any (λ l. n == l.number) (if b then l ∷ filter test ls else filter test ls) ≡ false
      by true other rest = ap (λ b. b || list_any (λ l. n == l.number) (filter test ls)) other ∙ rest
      by false other rest = rest

  pub any-found : (n m : ℕ) (ls : List Link) → AreFalling m ls → list_any (λ l. n == l.number) (filter test ls) ≡ is_some_and (find (λ l. l.number == n) ls) test
  any-found n m [] h = refl
  any-found n m (l ∷ ls) h = by (l.number == n) refl (test l) refl (any-found n l.number ls h.1)
    where
      by : (same : Bool) → (l.number == n) ≡ same → (passes : Bool) → test l ≡ passes → list_any (λ l. n == l.number) (filter test ls) ≡ is_some_and (find (λ l. l.number == n) ls) test
          → list_any (λ l. n == l.number) (if passes then l ∷ filter test ls else filter test ls) ≡ is_some_and (if same then Some l else find (λ l. l.number == n) ls) test
      by true is true passes rest = ap (λ b. b || list_any (λ l. n == l.number) (filter test ls)) (same-sym n l.number ∙ is) ∙ sym passes
      by true is false passes rest = any-above n l.number ls h.1 (omega (arith, eqb-true l.number n is)) ∙ sym passes
      by false is true passes rest = ap (λ b. b || list_any (λ l. n == l.number) (filter test ls)) (same-sym n l.number ∙ is) ∙ rest
      by false is false passes rest = rest

module _ (rules : RuleSet) (past : List Event) (are : AreJudged rules past) where
  -- no link is of a record that is still to come
  pub link_at-later : (n : ℕ) → length past ≤ n → link_at n past ≡ None
  link_at-later n le = find-above n (length past) (links past) (judged-falling rules past are) le

  -- each is found by its number
  pub links-found : AllByRecursion (λ l. (link_at l.number past ≡ Some l) × (l.number < length past)) (links past)
  links-found = each-found (length past) (links past) (judged-falling rules past are)

  pub any-at : (test : Link → Bool) (n : ℕ) → list_any (λ l. n == l.number) (filter test (links past)) ≡ is_some_and (link_at n past) test
  any-at test n = any-found test n (length past) (links past) (judged-falling rules past are)

-- the link that is found by a number has it
pub judged-found : (rules : RuleSet) (past : List Event) → AreJudged rules past → AreFound past
judged-found rules [] are = none_found
judged-found rules (e ∷ past) ((r, is), are) = subst (λ (x : Event). AreFound (x ∷ past)) (sym is) (found_step rules past r (judged-found rules past are))
