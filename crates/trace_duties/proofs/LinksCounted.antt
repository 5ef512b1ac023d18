-- Each link of a consumer of a capture is, while it lives, as it is counted over the events of the links of consumers.
use Rattle.std.proofs.Common.{◌≡◌, refl, sym, ap, ◌∙◌, ℕ, ◌<◌, ◌+◌, ◌-◌, Bool, true, false, cond, ◌&&◌, not, List, [], ◌∷◌, ◌++◌, length, Option, Some, None, IfSome, is_none, is_some, option_and_then, unwrap_or, filter, find, if◌then◌else◌, ◌==◌, arith}
use Rattle.std.specs.List.{AllByRecursion, cons_option, count_by}
use Rattle.std.specs.Option.{option_map}
use Rattle.std.proofs.lemmas.Bool.{eqb-true, eq-eqb, ne_eqb}
use Rattle.std.proofs.lemmas.List.Sums.{sum_by-cons}
use Rattle.amqp_perf.specs.Meaning.{DispositionFields}
use Rattle.capture_form.specs.Rules.{RuleSet}
use Rattle.flow_counts.specs.Picks.{Attached, Consumer, attached, begun, consumer, balanced_rank}
use Rattle.trace_events.specs.Words.{is_some_and, where_passes}
use Rattle.trace_events.specs.Event.{Event, Link, Outgoing}
use Rattle.trace_events.specs.Link.{is_consumer, is_live, own_link, links, link_at}
use Rattle.trace_events.specs.Outgoing.{is_on, outgoing_deliveries, decision}
use Rattle.trace_events.proofs.StepWords.{and-false, count-fails}
use Rattle.trace_events.proofs.Judged.{AreJudged, judged-number}
use Rattle.trace_events.proofs.LinkLives.{judged-stands, is_live-after, is_live-new}
use Rattle.trace_events.proofs.LinkNumbers.{same-sym, each-weaker, own_link-number, link_at-later, links-found, judged-found}
use Rattle.trace_events.proofs.OutgoingLinks.{IsOnEarlier, AreOnEarlier, judged-on_earlier, deliveries-earlier, deliveries-earlier_now, decision-begun, is_decided-stays}
use Rattle.trace_duties.specs.Consumers.{detaches_consumer, decides_outgoing, attached_as, address_events}
use Rattle.trace_duties.proofs.ConsumerCounts.{fewer, none-fewer}
use Rattle.trace_duties.proofs.ConsumersCounted.{begins_on, with_begun, decided_count, consumer-step, consumer-nothing, consumer-later, consumer-other}

-- its consumer has not decided the delivery, which is on the link
abbrev pub is_undecided_on : Link → List Event → Outgoing → Bool
is_undecided_on l past j = is_on l j && is_none (decision j past)

-- what is counted of a link of a consumer
abbrev pub counted : List Event → Link → Consumer
counted past l = record {
  address = l.address;
  is_pre_settled = l.is_pre_settled;
  last_begun = option_map (λ j. j.number) (find (is_on l) (outgoing_deliveries past));
  undecided = (if l.is_pre_settled then 0 else count_by (is_undecided_on l past) (outgoing_deliveries past));
}

abbrev pub counted_at : List Event → Link → Option Consumer
counted_at past l = if is_consumer l && is_live past l then Some (counted past l) else None

-- ---- lists

module _ {A : Type 0} where
  find-none : (P : A → Type 0) (p : A → Bool) → ((x : A) → P x → p x ≡ false) → (xs : List A) → AllByRecursion P xs → find p xs ≡ None
  find-none P p fails [] all = refl
  find-none P p fails (x ∷ xs) all = ap (λ b. if b then Some x else find p xs) (fails x all.0) ∙ find-none P p fails xs all.1

  count-none : (P : A → Type 0) (p : A → Bool) → ((x : A) → P x → p x ≡ false) → (xs : List A) → AllByRecursion P xs → count_by p xs ≡ 0
  count-none P p fails [] all = refl
  count-none P p fails (x ∷ xs) all = count-fails p x xs (fails x all.0) ∙ count-none P p fails xs all.1

  count-filter : (p q : A → Bool) (xs : List A) → count_by p (filter q xs) ≡ count_by (λ x. q x && p x) xs
  count-filter p q [] = refl
  count-filter p q (x ∷ xs) =
      by (q x) (count-filter p q xs) ∙ sym (sum_by-cons (λ x. cond (q x && p x) 1 0) x xs)
    where
      by : (b : Bool) → count_by p (filter q xs) ≡ count_by (λ x. q x && p x) xs
          → count_by p (if b then x ∷ filter q xs else filter q xs) ≡ cond (b && p x) 1 0 + count_by (λ x. q x && p x) xs
      by true rest = sum_by-cons (λ x. cond (p x) 1 0) x (filter q xs) ∙ ap (λ n. cond (p x) 1 0 + n) rest
      by false rest = rest ∙ omega arith

  count-split : (p q r : A → Bool) → ((x : A) → cond (p x) 1 0 ≡ cond (q x) 1 0 + cond (r x) 1 0) → (xs : List A) → count_by p xs ≡ count_by q xs + count_by r xs
  count-split p q r split [] = refl
  count-split p q r split (x ∷ xs) =
      let a = sum_by-cons (λ x. cond (p x) 1 0) x xs in
      let b = sum_by-cons (λ x. cond (q x) 1 0) x xs in
      let c = sum_by-cons (λ x. cond (r x) 1 0) x xs in
      let rest = count-split p q r split xs in
      sum-up (cond (p x) 1 0) (cond (q x) 1 0) (cond (r x) 1 0) (count_by p xs) (count_by q xs) (count_by r xs) (count_by p (x ∷ xs)) (count_by q (x ∷ xs)) (count_by r (x ∷ xs))
      a b c (split x) rest
    where
      sum-up : (a b c d e f x y z : ℕ) → x ≡ a + d → y ≡ b + e → z ≡ c + f → a ≡ b + c → d ≡ e + f → x ≡ y + z
      sum-up a b c d e f x y z h i j k l = omega (arith, h, i, j, k, l)

-- ---- a link that the event opens

abbrev with_counts : Link → Option ℕ → ℕ → Consumer
with_counts l last undecided = record { address = l.address; is_pre_settled = l.is_pre_settled; last_begun = last; undecided = undecided }

if-zero : (b : Bool) (n : ℕ) → n ≡ 0 → (if b then 0 else n) ≡ 0
if-zero true n is = refl
if-zero false n is = is

other_link : (n : ℕ) (j : Outgoing) → IsOnEarlier n j → (n == j.link.number) ≡ false
other_link n j lt = ne_eqb n j.link.number (λ same. omega (arith, same, lt))

not_on : (l : Link) (n : ℕ) → l.number ≡ n → (j : Outgoing) → IsOnEarlier n j → is_on l j ≡ false
not_on l n own j lt = ne_eqb j.link.number l.number (λ same. omega (arith, same, own, lt))

begins-not : (n m number : ℕ) (o : Option Outgoing) → n ≡ m → IfSome o (IsOnEarlier m) → is_some_and o (λ j. j.number == number) && is_some_and o (λ j. n == j.link.number) ≡ false
begins-not n m number None own lt = refl
begins-not n m number (Some j) own lt = ap (λ b. (j.number == number) && b) (ne_eqb n j.link.number (λ same. omega (arith, same, own, lt))) ∙ and-false (j.number == number)

module _ (rules : RuleSet) (e : Event) (past : List Event) (are : AreJudged rules (e ∷ past)) where
  earlier : AreOnEarlier (e ∷ past)
  earlier = judged-on_earlier rules (e ∷ past) are

  opened-counts : (l : Link) → l.number ≡ length past → attached l.address l.is_pre_settled ≡ counted (e ∷ past) l
  opened-counts l own =
      let ds = outgoing_deliveries (e ∷ past) in
      let before = deliveries-earlier_now e past earlier in
      let last : find (is_on l) ds ≡ None = find-none (IsOnEarlier (length past)) (is_on l) (not_on l (length past) own) ds before in
      let none : count_by (is_undecided_on l (e ∷ past)) ds ≡ 0 =
      count-none (IsOnEarlier (length past)) (is_undecided_on l (e ∷ past)) (λ j lt. ap (λ b. b && is_none (decision j (e ∷ past))) (not_on l (length past) own j lt)) ds before in
      sym (ap (λ o. with_counts l (option_map (λ (j : Outgoing). j.number) o) (if l.is_pre_settled then 0 else count_by (is_undecided_on l (e ∷ past)) ds)) last
      ∙ ap (with_counts l None) (if-zero l.is_pre_settled (count_by (is_undecided_on l (e ∷ past)) ds) none))

  decided-none : (n : ℕ) → n ≡ length past → decided_count n e past ≡ 0
  decided-none n own =
      count-filter (λ j. n == j.link.number) (decides_outgoing e past) (outgoing_deliveries past)
      ∙ count-none (IsOnEarlier (length past)) (λ j. decides_outgoing e past j && (n == j.link.number))
      (λ j lt. ap (λ b. decides_outgoing e past j && b) (ap (λ m. m == j.link.number) own ∙ other_link (length past) j lt) ∙ and-false (decides_outgoing e past j))
      (outgoing_deliveries past) (deliveries-earlier past earlier.1)

  attached-here : (l : Link) (b : Bool) → consumer l.number (address_events past) ≡ None
      → consumer l.number ((if b then Attached l.number l.address l.is_pre_settled ∷ [] else []) ++ address_events past) ≡ (if b then Some (attached l.address l.is_pre_settled) else None)
  attached-here l true none =
      ap (λ b. if b then Some (unwrap_or (consumer l.number (address_events past)) (attached l.address l.is_pre_settled)) else consumer l.number (address_events past)) (eq-eqb l.number l.number refl)
      ∙ ap (λ o. Some (unwrap_or o (attached l.address l.is_pre_settled))) none
  attached-here l false none = none

  opened-is : (l : Link) → own_link e ≡ Some l → consumer l.number (address_events (e ∷ past)) ≡ counted_at (e ∷ past) l
  opened-is l is =
      let own : l.number ≡ length past = own_link-number rules e past l are is in
      let nothing : consumer l.number (address_events past) ≡ None = consumer-later rules past are.1 l.number (omega (arith, own)) in
      let X = consumer l.number (attached_as (own_link e) ++ address_events past) in
      consumer-step rules e past are.1 l.number
      ∙ (ap (λ o. if is_some_and o (detaches_consumer e past) then None else option_map (fewer (decided_count l.number e past)) (with_begun l.number e X)) (link_at-later rules past are.1 l.number (omega (arith, own)))
      ∙ (ap (λ n. option_map (fewer n) (with_begun l.number e X)) (decided-none l.number own)
      ∙ (ap (λ b. option_map (fewer 0) (if b then option_map (begun e.number) X else X)) (begins-not l.number (length past) e.number e.outgoing own earlier.0)
      ∙ (none-fewer X
      ∙ (ap (λ o. consumer l.number (attached_as o ++ address_events past)) is
      ∙ (attached-here l (is_consumer l) nothing
      ∙ by (is_consumer l) (is_live (e ∷ past) l) (is_live-new rules e past l are is) (opened-counts l own)))))))
    where
      by : (a b : Bool) → b ≡ true → attached l.address l.is_pre_settled ≡ counted (e ∷ past) l
          → (if a then Some (attached l.address l.is_pre_settled) else None) ≡ (if a && b then Some (counted (e ∷ past) l) else None)
      by true true is same = ap Some same
      by true false is same = absurd cc
      by false b is same = refl

-- ---- a link that was opened before

last-by : (o : Option Outgoing) (number : ℕ) (l : Link) (js : List Outgoing)
    → (if is_some_and o (λ j. j.number == number) && is_some_and o (λ j. l.number == j.link.number) then Some number else option_map (λ j. j.number) (find (is_on l) js))
    ≡ option_map (λ j. j.number) (find (is_on l) (cons_option (where_passes (λ j. j.number == number) o) js))
last-by None number l js = refl
last-by (Some j) number l js = by (j.number == number) refl (l.number == j.link.number) (same-sym j.link.number l.number)
  where
    by : (b : Bool) → (j.number == number) ≡ b → (c : Bool) → (j.link.number == l.number) ≡ c
        → (if b && c then Some number else option_map (λ j. j.number) (find (is_on l) js)) ≡ option_map (λ j. j.number) (find (is_on l) (cons_option (if b then Some j else None) js))
    by true is true on = sym (ap (λ b. option_map (λ (j : Outgoing). j.number) (if b then Some j else find (is_on l) js)) on ∙ ap Some (eqb-true j.number number is))
    by true is false on = sym (ap (λ b. option_map (λ (j : Outgoing). j.number) (if b then Some j else find (is_on l) js)) on)
    by false is c on = refl

count-begun : (o : Option Outgoing) (number : ℕ) (l : Link) (test : Outgoing → Bool) (js : List Outgoing)
    → ((j : Outgoing) → o ≡ Some j → j.number ≡ number → test j ≡ (l.number == j.link.number))
    → count_by test (cons_option (where_passes (λ j. j.number == number) o) js)
    ≡ (if is_some_and o (λ j. j.number == number) && is_some_and o (λ j. l.number == j.link.number) then 1 else 0) + count_by test js
count-begun None number l test js new = omega arith
count-begun (Some j) number l test js new = by (j.number == number) refl
  where
    by : (b : Bool) → (j.number == number) ≡ b → count_by test (cons_option (if b then Some j else None) js) ≡ (if b && (l.number == j.link.number) then 1 else 0) + count_by test js
    by true is = sum_by-cons (λ x. cond (test x) 1 0) j js ∙ ap (λ b. cond b 1 0 + count_by test js) (new j refl (eqb-true j.number number is))
    by false is = omega arith

undecided-by : (p b : Bool) (before decided after now : ℕ) → before ≡ after + decided → now ≡ (if b then 1 else 0) + after
    → (if b then (if p then (if p then 0 else before) else (if p then 0 else before) + 1) else (if p then 0 else before)) - decided ≡ (if p then 0 else now)
undecided-by true true before decided after now h k = omega arith
undecided-by true false before decided after now h k = omega arith
undecided-by false true before decided after now h k = omega (arith, h, k)
undecided-by false false before decided after now h k = omega (arith, h, k)

counts-by : (b : Bool) (number : ℕ) (l : Link) (last now : Option ℕ) (undecided decided left : ℕ) → (if b then Some number else last) ≡ now
    → (if b then (if l.is_pre_settled then undecided else undecided + 1) else undecided) - decided ≡ left
    → fewer decided (if b then begun number (with_counts l last undecided) else with_counts l last undecided) ≡ with_counts l now left
counts-by true number l last now undecided decided left h k =
    ap (λ x. with_counts l x ((if l.is_pre_settled then undecided else undecided + 1) - decided)) h ∙ ap (with_counts l now) k
counts-by false number l last now undecided decided left h k = ap (λ x. with_counts l x (undecided - decided)) h ∙ ap (with_counts l now) k

step-by : (a c d : Bool) → d ≡ c && d → (b : Bool) (number decided : ℕ) (old new : Consumer) → fewer decided (if b then begun number old else old) ≡ new
    → (if a && c && not d then None else option_map (fewer decided) (if b then option_map (begun number) (if a && c then Some old else None) else (if a && c then Some old else None)))
    ≡ (if a && d then Some new else None)
step-by true true true live true number decided old new is = ap Some is
step-by true true true live false number decided old new is = ap Some is
step-by true true false live b number decided old new is = refl
step-by true false true live b number decided old new is = absurd cc
step-by true false false live true number decided old new is = refl
step-by true false false live false number decided old new is = refl
step-by false c d live true number decided old new is = refl
step-by false c d live false number decided old new is = refl

-- of the deliveries on the link that were not decided the event decides some
left-by : (on same : Bool) → same ≡ on → (before now : Option DispositionFields) → (is_some before ≡ true → is_some now ≡ true)
    → cond (on && is_none before) 1 0 ≡ cond (on && is_none now) 1 0 + cond ((is_none before && is_some now) && same) 1 0
left-by true true is None None stays = refl
left-by true true is None (Some b) stays = refl
left-by true true is (Some a) (Some b) stays = refl
left-by true true is (Some a) None stays = let never : false ≡ true = stays refl in absurd cc
left-by false false is None None stays = refl
left-by false false is None (Some b) stays = refl
left-by false false is (Some a) now stays = refl
left-by true false is before now stays = absurd cc
left-by false true is before now stays = absurd cc

module _ (rules : RuleSet) (e : Event) (past : List Event) (are : AreJudged rules (e ∷ past)) (l : Link) where
  left : count_by (is_undecided_on l past) (outgoing_deliveries past) ≡ count_by (is_undecided_on l (e ∷ past)) (outgoing_deliveries past) + decided_count l.number e past
  left =
      count-split (is_undecided_on l past) (is_undecided_on l (e ∷ past)) (λ j. decides_outgoing e past j && (l.number == j.link.number))
      (λ j. left-by (is_on l j) (l.number == j.link.number) (same-sym l.number j.link.number) (decision j past) (decision j (e ∷ past)) (is_decided-stays e past j))
      (outgoing_deliveries past)
      ∙ ap (λ n. count_by (is_undecided_on l (e ∷ past)) (outgoing_deliveries past) + n) (sym (count-filter (λ j. l.number == j.link.number) (decides_outgoing e past) (outgoing_deliveries past)))

  begun_undecided : (j : Outgoing) → e.outgoing ≡ Some j → j.number ≡ e.number → is_undecided_on l (e ∷ past) j ≡ (l.number == j.link.number)
  begun_undecided j is same =
      ap (λ o. is_on l j && is_none o) (decision-begun rules e past j are same) ∙ (and-true (is_on l j) ∙ same-sym j.link.number l.number)
    where
      and-true : (b : Bool) → b && true ≡ b
      and-true true = refl
      and-true false = refl

  kept-counts : fewer (decided_count l.number e past) (if begins_on l.number e then begun e.number (counted past l) else counted past l) ≡ counted (e ∷ past) l
  kept-counts =
      counts-by (begins_on l.number e) e.number l (option_map (λ j. j.number) (find (is_on l) (outgoing_deliveries past))) (option_map (λ j. j.number) (find (is_on l) (outgoing_deliveries (e ∷ past))))
      (if l.is_pre_settled then 0 else count_by (is_undecided_on l past) (outgoing_deliveries past)) (decided_count l.number e past)
      (if l.is_pre_settled then 0 else count_by (is_undecided_on l (e ∷ past)) (outgoing_deliveries (e ∷ past)))
      (last-by e.outgoing e.number l (outgoing_deliveries past))
      (undecided-by l.is_pre_settled (begins_on l.number e) (count_by (is_undecided_on l past) (outgoing_deliveries past)) (decided_count l.number e past)
      (count_by (is_undecided_on l (e ∷ past)) (outgoing_deliveries past)) (count_by (is_undecided_on l (e ∷ past)) (outgoing_deliveries (e ∷ past)))
      left (count-begun e.outgoing e.number l (is_undecided_on l (e ∷ past)) (outgoing_deliveries past) begun_undecided))

  kept-is : l.number < length past → link_at l.number past ≡ Some l → consumer l.number (attached_as (own_link e) ++ address_events past) ≡ counted_at past l
      → consumer l.number (address_events (e ∷ past)) ≡ counted_at (e ∷ past) l
  kept-is below at before =
      consumer-step rules e past are.1 l.number
      ∙ (ap (λ o. if is_some_and o (detaches_consumer e past) then None else option_map (fewer (decided_count l.number e past)) (with_begun l.number e (consumer l.number (attached_as (own_link e) ++ address_events past)))) at
      ∙ (ap (λ o. if detaches_consumer e past l then None else option_map (fewer (decided_count l.number e past)) (with_begun l.number e o)) before
      ∙ step-by (is_consumer l) (is_live past l) (is_live (e ∷ past) l) (is_live-after e past (judged-stands rules past are.1).no_link (judged-number rules e past are) l below)
      (begins_on l.number e) e.number (decided_count l.number e past) (counted past l) (counted (e ∷ past) l) kept-counts))

-- ---- the links of all numbers

module _ (rules : RuleSet) (e : Event) (past : List Event) (are : AreJudged rules (e ∷ past)) where
  -- a number of which the event opens no link
  number-kept : (n : ℕ) (o : Option Link) → link_at n past ≡ o → consumer n (attached_as (own_link e) ++ address_events past) ≡ option_and_then (counted_at past) o
      → consumer n (address_events (e ∷ past)) ≡ option_and_then (counted_at (e ∷ past)) o
  number-kept n None at before =
      consumer-step rules e past are.1 n
      ∙ consumer-nothing (is_some_and (link_at n past) (detaches_consumer e past)) (decided_count n e past) n e (consumer n (attached_as (own_link e) ++ address_events past)) before
  number-kept n (Some l) at before =
      let found = judged-found rules past are.1 n l at in
      let own : l.number ≡ n = found.0 in
      ap (λ n. consumer n (address_events (e ∷ past))) (sym own)
      ∙ kept-is rules e past are l (omega (arith, own, found.1)) (ap (λ n. link_at n past) own ∙ at) (ap (λ n. consumer n (attached_as (own_link e) ++ address_events past)) own ∙ before)

  number-is : (n : ℕ) (o : Option Link) → own_link e ≡ o → consumer n (address_events past) ≡ option_and_then (counted_at past) (link_at n past)
      → consumer n (address_events (e ∷ past)) ≡ option_and_then (counted_at (e ∷ past)) (find (λ l. l.number == n) (cons_option o (links past)))
  number-is n None is before = number-kept n (link_at n past) refl (ap (λ o. consumer n (attached_as o ++ address_events past)) is ∙ before)
  number-is n (Some l) is before = by (l.number == n) refl
    where
      by : (b : Bool) → (l.number == n) ≡ b → consumer n (address_events (e ∷ past)) ≡ option_and_then (counted_at (e ∷ past)) (if b then Some l else link_at n past)
      by true same = ap (λ n. consumer n (address_events (e ∷ past))) (sym (eqb-true l.number n same)) ∙ opened-is rules e past are l is
      by false other =
          number-kept n (link_at n past) refl
          (ap (λ o. consumer n (attached_as o ++ address_events past)) is ∙ (consumer-other n (Some l) (address_events past) (same-sym n l.number ∙ other) ∙ before))

-- Of each number: the link that opened in this record, as it is counted, if it is a consumer's and lives; else nothing.
pub consumer-counted : (rules : RuleSet) (past : List Event) → AreJudged rules past → (n : ℕ) → consumer n (address_events past) ≡ option_and_then (counted_at past) (link_at n past)
consumer-counted rules [] are n = refl
consumer-counted rules (e ∷ past) are n = number-is rules e past are n (own_link e) refl (consumer-counted rules past are.1 n)

-- ---- of a link that is found by its number

module _ (rules : RuleSet) (past : List Event) (are : AreJudged rules past) (l : Link) (at : link_at l.number past ≡ Some l) where
  pub consumer-is : consumer l.number (address_events past) ≡ counted_at past l
  consumer-is = consumer-counted rules past are l.number ∙ ap (option_and_then (counted_at past)) at

  -- one of no consumer, or that is over, is not counted
  pub consumer-over : is_consumer l && is_live past l ≡ false → consumer l.number (address_events past) ≡ None
  consumer-over over = consumer-is ∙ ap (λ b. if b then Some (counted past l) else None) over

  pub consumer-live : is_consumer l ≡ true → is_live past l ≡ true → consumer l.number (address_events past) ≡ Some (counted past l)
  consumer-live consumes lives = consumer-is ∙ (ap (λ b. if b && is_live past l then Some (counted past l) else None) consumes ∙ ap (λ b. if b then Some (counted past l) else None) lives)

  -- the number of the delivery that last began on it
  pub last_begun-is : is_consumer l ≡ true → is_live past l ≡ true
      → option_and_then (λ (c : Consumer). c.last_begun) (consumer l.number (address_events past)) ≡ option_map (λ j. j.number) (find (is_on l) (outgoing_deliveries past))
  last_begun-is consumes lives = ap (option_and_then (λ (c : Consumer). c.last_begun)) (consumer-live consumes lives)

  -- how many of its deliveries its consumer has not decided
  pub undecided-is : is_consumer l ≡ true → is_live past l ≡ true
      → balanced_rank (consumer l.number (address_events past)) ≡ (if l.is_pre_settled then 0 else count_by (is_undecided_on l past) (outgoing_deliveries past))
  undecided-is consumes lives = ap balanced_rank (consumer-live consumes lives)

-- each link of a history, by its number
pub links-counted : (rules : RuleSet) (past : List Event) → AreJudged rules past → AllByRecursion (λ l. consumer l.number (address_events past) ≡ counted_at past l) (links past)
links-counted rules past are =
    each-weaker (λ l. (link_at l.number past ≡ Some l) × (l.number < length past)) (λ l. consumer l.number (address_events past) ≡ counted_at past l)
    (λ l found. consumer-is rules past are l found.0) (links past) (links-found rules past are)
