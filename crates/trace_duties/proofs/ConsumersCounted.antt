-- The consumers of an address of a capture are those that are counted over the events of their links.
use Rattle.std.proofs.Common.{◌≡◌, refl, sym, ap, ◌∙◌, ℕ, ◌<◌, ◌≤◌, Bool, true, false, ◌&&◌, not, List, [], ◌∷◌, ◌++◌, length, Option, Some, None, is_none, filter, map, reverse, unwrap_or, if◌then◌else◌, ◌==◌, arith}
use Rattle.std.specs.List.{AllByRecursion, cons_option, list_any, count_by}
use Rattle.std.specs.Option.{option_map}
use Rattle.std.specs.Str.{bytes_eq}
use Rattle.std.proofs.lemmas.Bool.{ne_eqb}
use Rattle.std.proofs.lemmas.Cmp.{nat_list_eq_equiv}
use Rattle.std.proofs.lemmas.List.{map-append, reverse-append}
use Rattle.std.proofs.lemmas.List.Elements.{filter-append}
use Rattle.capture_form.specs.Rules.{RuleSet}
use Rattle.flow_counts.specs.Picks.{AddressEvent, Attached, Detached, Begun, Decided, Consumer, attached, begun, consumer}
use Rattle.flow_counts.specs.Picks as picks
use Rattle.trace_events.specs.Words.{is_some_and}
use Rattle.trace_events.specs.Event.{Event, Link, Outgoing}
use Rattle.trace_events.specs.Link.{is_consumer, is_live, own_link, links, link_at}
use Rattle.trace_events.specs.Credit.{begins_outgoing}
use Rattle.trace_events.specs.Outgoing.{outgoing_deliveries}
use Rattle.trace_events.specs.Address.{is_consumer_of, consumers}
use Rattle.trace_events.proofs.Judged.{AreJudged}
use Rattle.trace_events.proofs.StepWords.{filter-both}
use Rattle.trace_events.proofs.LinkLives.{judged-stands, is_live-after, is_live-new}
use Rattle.trace_events.proofs.LinkNumbers.{own_link-number, link_at-later, links-found, any-at}
use Rattle.trace_events.proofs.Judged.{judged-number}
use Rattle.trace_duties.specs.Consumers.{detaches_consumer, decides_outgoing, decided_by, begun_on, begun_by, attached_as, address_events}
use Rattle.trace_duties.proofs.ConsumerCounts.{consumers-all_detached, consumers-all_decided, consumer-all_detached, consumer-all_decided, fewer}

-- ---- lists

filter-where : {A : Type 0} (P : A → Type 0) (p q : A → Bool) → ((x : A) → P x → p x ≡ q x) → (xs : List A) → AllByRecursion P xs → filter p xs ≡ filter q xs
filter-where P p q same [] h = refl
filter-where P p q same (x ∷ xs) h =
    ap (λ b. if b then x ∷ filter p xs else filter p xs) (same x h.0) ∙ ap (λ rest. if q x then x ∷ rest else rest) (filter-where P p q same xs h.1)

filter-map : {A B : Type 0} (f : A → B) (p : B → Bool) (xs : List A) → filter p (map f xs) ≡ map f (filter (λ x. p (f x)) xs)
filter-map f p [] = refl
filter-map f p (x ∷ xs) = by (p (f x)) (filter-map f p xs)
  where
    by : (b : Bool) → filter p (map f xs) ≡ map f (filter (λ x. p (f x)) xs)
        → (if b then f x ∷ filter p (map f xs) else filter p (map f xs)) ≡ map f (if b then x ∷ filter (λ x. p (f x)) xs else filter (λ x. p (f x)) xs)
    by true rest = ap (λ rest. f x ∷ rest) rest
    by false rest = rest

reverse-more : {A : Type 0} (x : A) (xs : List A) → reverse (x ∷ xs) ≡ reverse xs ++ x ∷ []
reverse-more x xs = reverse-append (x ∷ []) xs

append-none : {A : Type 0} (xs : List A) → xs ++ [] ≡ xs
append-none [] = refl
append-none (x ∷ xs) = ap (λ rest. x ∷ rest) (append-none xs)

filter-reverse : {A : Type 0} (p : A → Bool) (xs : List A) → filter p (reverse xs) ≡ reverse (filter p xs)
filter-reverse p [] = refl
filter-reverse p (x ∷ xs) = ap (filter p) (reverse-more x xs) ∙ (filter-append p (reverse xs) (x ∷ []) ∙ by (p x) (filter-reverse p xs))
  where
    by : (b : Bool) → filter p (reverse xs) ≡ reverse (filter p xs) → filter p (reverse xs) ++ (if b then x ∷ [] else []) ≡ reverse (if b then x ∷ filter p xs else filter p xs)
    by true rest = ap (λ rest. rest ++ x ∷ []) rest ∙ sym (reverse-more x (filter p xs))
    by false rest = append-none (filter p (reverse xs)) ∙ rest

-- ---- what an event's parts do to the consumer of a number

consumer-none : (b : Bool) (o : Option Consumer) → o ≡ None → (if b then None else o) ≡ None
consumer-none true o is = refl
consumer-none false o is = is

consumer-mapped_none : (b : Bool) (f : Consumer → Consumer) (o : Option Consumer) → o ≡ None → (if b then option_map f o else o) ≡ None
consumer-mapped_none true f o is = ap (option_map f) is
consumer-mapped_none false f o is = is

consumer-begun : (n : ℕ) (o : Option Outgoing) (number : ℕ) (past : List AddressEvent)
    → consumer n (begun_on o number ++ past) ≡ (if is_some_and o (λ j. n == j.link.number) then option_map (begun number) (consumer n past) else consumer n past)
consumer-begun n None number past = refl
consumer-begun n (Some j) number past = refl

pub consumer-other : (n : ℕ) (o : Option Link) (past : List AddressEvent) → is_some_and o (λ l. n == l.number) ≡ false → consumer n (attached_as o ++ past) ≡ consumer n past
consumer-other n None past other = refl
consumer-other n (Some l) past other = by (is_consumer l)
  where
    by : (b : Bool) → consumer n ((if b then Attached l.number l.address l.is_pre_settled ∷ [] else []) ++ past) ≡ consumer n past
    by true = ap (λ b. if b then Some (unwrap_or (consumer n past) (attached l.address l.is_pre_settled)) else consumer n past) other
    by false = refl

-- an event begins a delivery on the link of the number
abbrev pub begins_on : ℕ → Event → Bool
begins_on n e = begins_outgoing e && is_some_and e.outgoing (λ j. n == j.link.number)

abbrev pub with_begun : ℕ → Event → Option Consumer → Option Consumer
with_begun n e o = if begins_on n e then option_map (begun e.number) o else o

-- how many deliveries on it the event decides
abbrev pub decided_count : ℕ → Event → List Event → ℕ
decided_count n e past = count_by (λ j. n == j.link.number) (filter (decides_outgoing e past) (outgoing_deliveries past))

consumer-begun_by : (n : ℕ) (e : Event) (past : List AddressEvent) → consumer n (begun_by e ++ past) ≡ with_begun n e (consumer n past)
consumer-begun_by n e past = by (begins_outgoing e)
  where
    by : (b : Bool) → consumer n ((if b then begun_on e.outgoing e.number else []) ++ past)
        ≡ (if b && is_some_and e.outgoing (λ j. n == j.link.number) then option_map (begun e.number) (consumer n past) else consumer n past)
    by true = consumer-begun n e.outgoing e.number past
    by false = refl

-- the event as a whole
module _ (rules : RuleSet) (e : Event) (past : List Event) (are : AreJudged rules past) where
  pub consumer-step : (n : ℕ) → consumer n (address_events (e ∷ past))
      ≡ (if is_some_and (link_at n past) (detaches_consumer e past) then None else option_map (fewer (decided_count n e past)) (with_begun n e (consumer n (attached_as (own_link e) ++ address_events past))))
  consumer-step n =
      let before = attached_as (own_link e) ++ address_events past in
      consumer-all_detached (λ (l : Link). l.number) n (filter (detaches_consumer e past) (links past)) (decided_by e past ++ (begun_by e ++ before))
      ∙ (ap (λ b. if b then None else consumer n (decided_by e past ++ (begun_by e ++ before))) (any-at rules past are (detaches_consumer e past) n)
      ∙ ap (λ o. if is_some_and (link_at n past) (detaches_consumer e past) then None else o)
      (consumer-all_decided (λ (j : Outgoing). j.link.number) n (filter (decides_outgoing e past) (outgoing_deliveries past)) (begun_by e ++ before)
      ∙ ap (option_map (fewer (decided_count n e past))) (consumer-begun_by n e before)))

-- ---- the consumer of a record that is still to come

later-attached : (n : ℕ) (e : Event) (past : List Event) (events : List AddressEvent) → length (e ∷ past) ≤ n → (o : Option Link) → ((l : Link) → o ≡ Some l → l.number ≡ length past)
    → consumer n (attached_as o ++ events) ≡ consumer n events
later-attached n e past events le None own = refl
later-attached n e past events le (Some l) own = consumer-other n (Some l) events (ne_eqb n l.number (λ same. omega (arith, same, own l refl, le)))

pub consumer-nothing : (ended : Bool) (count : ℕ) (n : ℕ) (e : Event) (o : Option Consumer) → o ≡ None
    → (if ended then None else option_map (fewer count) (with_begun n e o)) ≡ None
consumer-nothing ended count n e o is = consumer-none ended (option_map (fewer count) (with_begun n e o)) (ap (option_map (fewer count)) (consumer-mapped_none (begins_on n e) (begun e.number) o is))

pub consumer-later : (rules : RuleSet) (past : List Event) → AreJudged rules past → (n : ℕ) → length past ≤ n → consumer n (address_events past) ≡ None
consumer-later rules [] are n le = refl
consumer-later rules (e ∷ past) are n le =
    consumer-step rules e past are.1 n
    ∙ consumer-nothing (is_some_and (link_at n past) (detaches_consumer e past)) (decided_count n e past) n e (consumer n (attached_as (own_link e) ++ address_events past))
    (later-attached n e past (address_events past) le (own_link e) (λ l is. own_link-number rules e past l are is) ∙ consumer-later rules past are.1 n (omega (arith, le)))

-- ---- the consumers of an address

-- the number is of no link that the event ends
abbrev stays : Event → List Event → ℕ → Bool
stays e past n = not (list_any (λ l. n == l.number) (filter (detaches_consumer e past) (links past)))

opened-by : (a b live : Bool) (l : Link) (kept : List Link) (numbers : List ℕ) → map (λ l. l.number) (reverse kept) ≡ numbers → live ≡ true
    → map (λ l. l.number) (reverse (if a && b && live then l ∷ kept else kept)) ≡ (if a && b then numbers ++ l.number ∷ [] else numbers)
opened-by true true true l kept numbers is lives =
    ap (map (λ (l : Link). l.number)) (reverse-more l kept) ∙ (map-append (λ (l : Link). l.number) (reverse kept) (l ∷ []) ∙ ap (λ rest. rest ++ l.number ∷ []) is)
opened-by true true false l kept numbers is lives = absurd cc
opened-by true false live l kept numbers is lives = is
opened-by false b live l kept numbers is lives = is

attached-by : (address : List ℕ) (l : Link) (keep : ℕ → Bool) (events : List AddressEvent) (a b : Bool) → bytes_eq address l.address ≡ b → consumer l.number events ≡ None → keep l.number ≡ true
    → filter keep (picks.consumers address ((if a then Attached l.number l.address l.is_pre_settled ∷ [] else []) ++ events))
    ≡ (if a && b then filter keep (picks.consumers address events) ++ l.number ∷ [] else filter keep (picks.consumers address events))
attached-by address l keep events false b at none kept = refl
attached-by address l keep events true true at none kept =
    ap (λ o. filter keep (if is_none o && bytes_eq address l.address then picks.consumers address events ++ l.number ∷ [] else picks.consumers address events)) none
    ∙ (ap (λ b. filter keep (if b then picks.consumers address events ++ l.number ∷ [] else picks.consumers address events)) at
    ∙ (filter-append keep (picks.consumers address events) (l.number ∷ []) ∙ ap (λ b. filter keep (picks.consumers address events) ++ (if b then l.number ∷ [] else [])) kept))
attached-by address l keep events true false at none kept =
    ap (λ o. filter keep (if is_none o && bytes_eq address l.address then picks.consumers address events ++ l.number ∷ [] else picks.consumers address events)) none
    ∙ ap (λ b. filter keep (if b then picks.consumers address events ++ l.number ∷ [] else picks.consumers address events)) at

consumers-begun : (address : List ℕ) (e : Event) (past : List AddressEvent) → picks.consumers address (begun_by e ++ past) ≡ picks.consumers address past
consumers-begun address e past = by (begins_outgoing e) e.outgoing
  where
    by : (b : Bool) (o : Option Outgoing) → picks.consumers address ((if b then begun_on o e.number else []) ++ past) ≡ picks.consumers address past
    by true (Some j) = refl
    by true None = refl
    by false o = refl

module _ (rules : RuleSet) (e : Event) (past : List Event) (are : AreJudged rules (e ∷ past)) (address : List ℕ) where
  live-step : (l : Link) → l.number < length past → is_live (e ∷ past) l ≡ is_live past l && is_live (e ∷ past) l
  live-step l below = is_live-after e past (judged-stands rules past are.1).no_link (judged-number rules e past are) l below

  consumer_of-step : (l : Link) → (link_at l.number past ≡ Some l) × (l.number < length past)
      → is_consumer_of address (e ∷ past) l ≡ is_consumer_of address past l && stays e past l.number
  consumer_of-step l is =
      regroup (is_consumer l) (bytes_eq l.address address) (is_live past l) (is_live (e ∷ past) l) (live-step l is.1)
      ∙ ap (λ b. is_consumer_of address past l && not b) (sym (any-at rules past are.1 (detaches_consumer e past) l.number ∙ ap (λ o. is_some_and o (detaches_consumer e past)) is.0))
    where
      regroup : (a b c d : Bool) → d ≡ c && d → (a && b && d) ≡ ((a && b && c) && not (a && c && not d))
      regroup true true true true fewer = refl
      regroup true true true false fewer = refl
      regroup true true false d fewer = fewer
      regroup true false c d fewer = refl
      regroup false b c d fewer = refl

  -- those that were, and stay
  kept-step : map (λ l. l.number) (reverse (filter (is_consumer_of address (e ∷ past)) (links past))) ≡ filter (stays e past) (map (λ l. l.number) (consumers address past))
  kept-step =
      ap (λ ls. map (λ (l : Link). l.number) (reverse ls))
      (filter-where (λ l. (link_at l.number past ≡ Some l) × (l.number < length past)) (is_consumer_of address (e ∷ past)) (λ l. is_consumer_of address past l && stays e past l.number)
      consumer_of-step (links past) (links-found rules past are.1)
      ∙ filter-both (λ l. is_consumer_of address past l && stays e past l.number) (is_consumer_of address past) (λ l. stays e past l.number) (λ l. refl) (links past))
      ∙ (ap (map (λ (l : Link). l.number)) (sym (filter-reverse (λ l. stays e past l.number) (filter (is_consumer_of address past) (links past))))
      ∙ sym (filter-map (λ (l : Link). l.number) (stays e past) (consumers address past)))

  stays-new : (l : Link) → l.number ≡ length past → stays e past l.number ≡ true
  stays-new l own =
      ap not (any-at rules past are.1 (detaches_consumer e past) l.number ∙ ap (λ o. is_some_and o (detaches_consumer e past)) (link_at-later rules past are.1 l.number (omega (arith, own))))

  -- with the one that opens, if it is one of the address
  abbrev with_opened : Option Link → List ℕ → List ℕ
  with_opened None numbers = numbers
  with_opened (Some l) numbers = if is_consumer l && bytes_eq l.address address then numbers ++ l.number ∷ [] else numbers

  opened-step : (o : Option Link) → own_link e ≡ o
      → map (λ l. l.number) (reverse (filter (is_consumer_of address (e ∷ past)) (cons_option o (links past)))) ≡ with_opened o (filter (stays e past) (map (λ l. l.number) (consumers address past)))
  opened-step None is = kept-step
  opened-step (Some l) is =
      opened-by (is_consumer l) (bytes_eq l.address address) (is_live (e ∷ past) l) l (filter (is_consumer_of address (e ∷ past)) (links past)) (filter (stays e past) (map (λ l. l.number) (consumers address past)))
      kept-step (is_live-new rules e past l are is)

  law-step : map (λ l. l.number) (consumers address (e ∷ past)) ≡ with_opened (own_link e) (filter (stays e past) (map (λ l. l.number) (consumers address past)))
  law-step = opened-step (own_link e) refl

  -- what the counts come to
  attached-step : (o : Option Link) → own_link e ≡ o → filter (stays e past) (picks.consumers address (attached_as o ++ address_events past)) ≡ with_opened o (filter (stays e past) (picks.consumers address (address_events past)))
  attached-step None is = refl
  attached-step (Some l) is =
      let own : l.number ≡ length past = own_link-number rules e past l are is in
      attached-by address l (stays e past) (address_events past) (is_consumer l) (bytes_eq l.address address) (nat_list_eq_equiv.symm address l.address)
      (consumer-later rules past are.1 l.number (omega (arith, own))) (stays-new l own)

  count-step : picks.consumers address (address_events (e ∷ past)) ≡ with_opened (own_link e) (filter (stays e past) (picks.consumers address (address_events past)))
  count-step =
      let before = attached_as (own_link e) ++ address_events past in
      consumers-all_detached (λ (l : Link). l.number) address (filter (detaches_consumer e past) (links past)) (decided_by e past ++ (begun_by e ++ before))
      ∙ (ap (filter (stays e past)) (consumers-all_decided (λ (j : Outgoing). j.link.number) address (filter (decides_outgoing e past) (outgoing_deliveries past)) (begun_by e ++ before) ∙ consumers-begun address e before)
      ∙ attached-step (own_link e) refl)

-- the consumers that are counted over a capture's events are those of the capture
pub consumers-counted : (rules : RuleSet) (past : List Event) → AreJudged rules past → (address : List ℕ)
    → picks.consumers address (address_events past) ≡ map (λ l. l.number) (consumers address past)
consumers-counted rules [] are address = refl
consumers-counted rules (e ∷ past) are address =
    count-step rules e past are address
    ∙ (ap (λ numbers. with_opened rules e past are address (own_link e) (filter (stays e past) numbers)) (consumers-counted rules past are.1 address)
    ∙ sym (law-step rules e past are address))
