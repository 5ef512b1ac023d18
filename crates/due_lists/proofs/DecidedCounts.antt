-- What an event decides is counted once for each link, in whichever order it is found.
use Rattle.std.proofs.Common.{◌≡◌, refl, sym, ap, subst, ◌∙◌, ◌+◌, ℕ, Bool, true, false, cond, ◌&&◌, ◌||◌, List, [], ◌∷◌, ◌++◌, map, filter, Option, Some, None, is_some, is_none, find, nat_eq, option_map, if◌then◌else◌, ◌==◌, arith, eqb-true, count_by}
use Rattle.std.specs.Prelude.{Contains}
use Rattle.std.specs.List.{list_any, cons_option, filter_map, AllByRecursion, IsDistinct}
use Rattle.std.proofs.lemmas.List.Sums.{length-filter, sum_by-cons}
use Rattle.capture_form.specs.Rules.{RuleSet}
use Rattle.flow_counts.specs.Picks.{Decided}
use Rattle.number_groups.specs.Numbers.{is_among}
use Rattle.trace_events.specs.Words.{is_some_and}
use Rattle.trace_events.specs.Event.{Event, Outgoing}
use Rattle.trace_events.specs.Disposition.{is_decisive, terminal_state}
use Rattle.trace_events.specs.Link.{is_live}
use Rattle.trace_events.specs.Outgoing.{outgoing_deliveries, outgoing_at, answering, decision}
use Rattle.trace_events.specs.Work.{decides_now}
use Rattle.trace_events.proofs.Judged.{AreJudged}
use Rattle.trace_events.proofs.SettlingSteps.{is_decided-step}
use Rattle.trace_events.proofs.WaitingQueue.{in_filter, filter_has}
use Rattle.trace_duties.specs.Consumers.{decides_outgoing}
use Rattle.trace_duties.proofs.ConsumersCounted.{decided_count}
use Rattle.state_outgoing.specs.Sent.{Sent, sent, is_left_unsettled}
use Rattle.state_outgoing.proofs.SentKept.{found-contained}
use Rattle.due_lists.specs.AddressCounts.{decided_on}
use Rattle.due_lists.specs.Picks.{decided_among, decided_link, decides}
use Rattle.due_lists.proofs.EndedConsumers.{any-gives, any-from, and_first, and_last, and_both, both-ways}
use Rattle.state_outgoing.proofs.OutgoingCounts.{length-counted}
use Rattle.due_lists.proofs.SentKnown.{IsKnown, decided-known, decides-unsettled}

-- ---- on lists

pub among-mapped : (e : Event) (past : List Event) (kept : ℕ → Option Sent) (ns : List ℕ) → decided_among e past kept ns ≡ map (λ x. Decided x) (filter_map (λ n. decided_link e past (kept n)) ns)
among-mapped e past kept [] = refl
among-mapped e past kept (n ∷ ns) = by (decided_link e past (kept n)) (among-mapped e past kept ns)
  where
    by : (o : Option ℕ) → decided_among e past kept ns ≡ map (λ x. Decided x) (filter_map (λ n. decided_link e past (kept n)) ns)
        → decided_on o ++ decided_among e past kept ns ≡ map (λ x. Decided x) (cons_option o (filter_map (λ n. decided_link e past (kept n)) ns))
    by None rest = rest
    by (Some x) rest = ap (λ xs. Decided x ∷ xs) rest

count-mapped : (f : ℕ → Option ℕ) (p : ℕ → Bool) (ns : List ℕ) → count_by p (filter_map f ns) ≡ count_by (λ n. is_some_and (f n) p) ns
count-mapped f p [] = refl
count-mapped f p (n ∷ ns) = by (f n) (count-mapped f p ns) ∙ sym (sum_by-cons (λ n. cond (is_some_and (f n) p) 1 0) n ns)
  where
    by : (o : Option ℕ) → count_by p (filter_map f ns) ≡ count_by (λ n. is_some_and (f n) p) ns
        → count_by p (cons_option o (filter_map f ns)) ≡ cond (is_some_and o p) 1 0 + count_by (λ n. is_some_and (f n) p) ns
    by None rest = rest ∙ omega arith
    by (Some x) rest = sum_by-cons (λ x. cond (p x) 1 0) x (filter_map f ns) ∙ ap (λ n. cond (p x) 1 0 + n) rest

count-filter : {A : Type 0} (p q : A → Bool) (xs : List A) → count_by p (filter q xs) ≡ count_by (λ x. q x && p x) xs
count-filter p q [] = refl
count-filter p q (x ∷ xs) = by (q x) (count-filter p q xs) ∙ sym (sum_by-cons (λ x. cond (q x && p x) 1 0) x xs)
  where
    by : (b : Bool) → count_by p (filter q xs) ≡ count_by (λ x. q x && p x) xs
        → count_by p (if b then x ∷ filter q xs else filter q xs) ≡ cond (b && p x) 1 0 + count_by (λ x. q x && p x) xs
    by true rest = sum_by-cons (λ x. cond (p x) 1 0) x (filter q xs) ∙ ap (λ n. cond (p x) 1 0 + n) rest
    by false rest = rest ∙ omega arith

apart-filter : (q : ℕ → Bool) (n : ℕ) (ns : List ℕ) → AllByRecursion (λ k. nat_eq n k ≡ false) ns → AllByRecursion (λ k. nat_eq n k ≡ false) (filter q ns)
apart-filter q n [] all = tt
apart-filter q n (k ∷ ns) all = by (q k) (apart-filter q n ns all.1)
  where
    by : (b : Bool) → AllByRecursion (λ k. nat_eq n k ≡ false) (filter q ns) → AllByRecursion (λ k. nat_eq n k ≡ false) (if b then k ∷ filter q ns else filter q ns)
    by true rest = (all.0, rest)
    by false rest = rest

distinct-filter : (q : ℕ → Bool) (ns : List ℕ) → IsDistinct nat_eq ns → IsDistinct nat_eq (filter q ns)
unfolding IsDistinct
distinct-filter q [] each = tt
distinct-filter q (n ∷ ns) each = by (q n) (distinct-filter q ns each.1)
  where
    by : (b : Bool) → IsDistinct nat_eq (filter q ns) → IsDistinct nat_eq (if b then n ∷ filter q ns else filter q ns)
    by true rest = (apart-filter q n ns each.0, rest)
    by false rest = rest

any-filter : (q : ℕ → Bool) (ns : List ℕ) (n : ℕ) → list_any (nat_eq n) (filter q ns) ≡ list_any (nat_eq n) ns && q n
any-filter q ns n = both-ways (list_any (nat_eq n) (filter q ns)) (list_any (nat_eq n) ns && q n) there back
  where
    there : list_any (nat_eq n) (filter q ns) ≡ true → list_any (nat_eq n) ns && q n ≡ true
    there is =
        let found = any-from (nat_eq n) (filter q ns) is in
        let of = in_filter q ns found.0 found.1 in
        and_both (list_any (nat_eq n) ns) (q n) (any-gives (nat_eq n) ns found.0 of.0 found.2) (ap q (eqb-true n found.0 found.2) ∙ of.1)

    back : list_any (nat_eq n) ns && q n ≡ true → list_any (nat_eq n) (filter q ns) ≡ true
    back is =
        let found = any-from (nat_eq n) ns (and_first (list_any (nat_eq n) ns) (q n) is) in
        any-gives (nat_eq n) (filter q ns) found.0
        (filter_has q ns found.0 (ap q (sym (eqb-true n found.0 found.2)) ∙ and_last (list_any (nat_eq n) ns) (q n) is) found.1) found.2

-- ---- the deliveries that the event decides

mapped-is : (b p : Bool) (n : ℕ) (test : ℕ → Bool) → test n ≡ p → is_some_and (if b then Some n else None) test ≡ b && p
mapped-is true p n test is = is
mapped-is false p n test is = refl

some-and_some : {A : Type 0} (o : Option A) (test : A → Bool) → is_some_and o test ≡ true → is_some o ≡ true
some-and_some None test is = absurd cc
some-and_some (Some x) test is = refl

some-from : {A : Type 0} (o : Option A) (test : A → Bool) → is_some_and o test ≡ true → (x : A) × (o ≡ Some x) × (test x ≡ true)
some-from None test is = absurd cc
some-from (Some x) test is = (x, refl, is)

-- what is found by its number has it
found-number : (n : ℕ) (js : List Outgoing) (j : Outgoing) → find (λ (x : Outgoing). x.number == n) js ≡ Some j → j.number ≡ n
found-number n [] j found = absurd cc
found-number n (k ∷ js) j found = by (k.number == n) refl found (found-number n js j)
  where
    by : (b : Bool) → (k.number == n) ≡ b → (if b then Some k else find (λ (x : Outgoing). x.number == n) js) ≡ Some j → (find (λ (x : Outgoing). x.number == n) js ≡ Some j → j.number ≡ n) → j.number ≡ n
    by true same found later = let one : k ≡ j = cc in ap (λ (x : Outgoing). x.number) (sym one) ∙ eqb-true k.number n same
    by false other found later = later found

-- by what the table has of a delivery it is decided where the law says so
decides-bits : {A B : Type 0} (f : A → B) (a : Bool) (o : Option A) → is_none (option_map f o) && a ≡ is_none o && (is_some o || a)
decides-bits f a (Some x) = refl
decides-bits f a None = refl

decides-is : (e : Event) (past : List Event) (j : Outgoing) → decides e past (sent past j) ≡ decides_outgoing e past j
decides-is e past j =
    decides-bits terminal_state (is_live past j.link && decides_now e j) (decision j past) ∙ ap (λ b. is_none (decision j past) && b) (sym (is_decided-step e past j))

module _ (rules : RuleSet) (e : Event) (past : List Event) (are : AreJudged rules past) (kept : ℕ → Option Sent) (were : (n : ℕ) → IsKnown past kept n) (ns : List ℕ) (distinct : IsDistinct nat_eq ns)
    (spoken : (j : Outgoing) → Contains (outgoing_deliveries past) j → is_left_unsettled past j ≡ true → is_some (answering j e) ≡ true → is_among ns j.number ≡ true) (link : ℕ) where
  abbrev passes : Outgoing → Bool
  passes j = decides_outgoing e past j && (link == j.link.number)

  abbrev meets : ℕ → Bool
  meets n = is_some_and (decided_link e past (kept n)) (λ x. link == x)

  meets-is : (n : ℕ) → meets n ≡ is_some_and (outgoing_at n past) passes
  meets-is n = ap (λ o. is_some_and o (λ x. link == x)) (decided-known rules e past are kept n (were n)) ∙ by (outgoing_at n past)
    where
      by : (o : Option Outgoing) → is_some_and (decided_link e past (option_map (sent past) o)) (λ x. link == x) ≡ is_some_and o passes
      by None = refl
      by (Some j) =
          mapped-is (decides e past (sent past j)) (link == j.link.number) j.link.number (λ x. link == x) refl ∙ ap (λ b. b && (link == j.link.number)) (decides-is e past j)

  listed : (n : ℕ) → is_some_and (outgoing_at n past) passes ≡ true → list_any (nat_eq n) ns ≡ true
  listed n is =
      let one = some-from (outgoing_at n past) passes is in
      let j = one.0 in
      let decided : decides e past (sent past j) ≡ true = decides-is e past j ∙ and_first (decides_outgoing e past j) (link == j.link.number) one.2 in
      let stood = decides-unsettled rules e past are n j one.1 decided in
      subst (λ m. is_among ns m ≡ true) (found-number n (outgoing_deliveries past) j one.1)
      (spoken j (found-contained past n j one.1) stood.0 (some-and_some (answering j e) is_decisive stood.1))

  pub as-many : count_by (λ x. link == x) (filter_map (λ n. decided_link e past (kept n)) ns) ≡ decided_count link e past
  as-many =
      count-mapped (λ n. decided_link e past (kept n)) (λ x. link == x) ns
      ∙ (sym (length-filter meets ns)
      ∙ (length-counted rules past are passes (filter meets ns) (distinct-filter meets ns distinct)
      (λ n. any-filter meets ns n ∙ both-ways (list_any (nat_eq n) ns && meets n) (is_some_and (outgoing_at n past) passes)
      (λ is. sym (meets-is n) ∙ and_last (list_any (nat_eq n) ns) (meets n) is) (λ is. and_both (list_any (nat_eq n) ns) (meets n) (listed n is) (meets-is n ∙ is)))
      ∙ sym (count-filter (λ (j : Outgoing). link == j.link.number) (decides_outgoing e past) (outgoing_deliveries past))))
