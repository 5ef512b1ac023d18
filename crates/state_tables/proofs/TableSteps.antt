-- What the steps of the table do to its numbers.
use Rattle.std.proofs.Common.{◌≡◌, refl, sym, ap, subst, ◌∙◌, ℕ, ◌+◌, ◌-◌, ◌≤◌, ◌<◌, Bool, true, false, ◌&&◌, ◌||◌, not, List, [], ◌∷◌, ◌++◌, length, take, get_or, Some, None, nat_eq, ◌==◌, arith, add-one, eqb-true, eq-eqb}
use Rattle.std.specs.Prelude.{nat_lt}
use Rattle.std.specs.List.{AllByRecursion, IsDistinct, list_any, slice_get}
use Rattle.std.proofs.Math.Seq.{take-suc}
use Rattle.std.proofs.lemmas.Cmp.{nat_eq_equiv}
use Rattle.std.proofs.lemmas.List.{map-append}
use Rattle.std.proofs.lemmas.List.Folds.{list_any-append, list_any_more}
use Rattle.std.proofs.lemmas.Map.Made.{length-le_from_is_member}
use Rattle.number_groups.specs.Numbers.{is_among}
use Rattle.trace_events.specs.Event as law
use Rattle.trace_events.specs.View.{link_view}
use Rattle.trace_events.specs.declared.event.Link.{Link}
use Rattle.state_tables.specs.EndedLinks.{views}
use Rattle.state_tables.specs.ConsumerLinks.{has_link}
use Rattle.state_tables.specs.Copies.{has_room}
use Rattle.state_tables.specs.declared.copies.Receiver.{Receiver}
use Rattle.state_tables.proofs.CopyNumbers.{and_false, and_true, or_false}

swapped : (m n : ℕ) → nat_eq m n ≡ nat_eq n m
swapped m n = by (nat_eq m n) refl (nat_eq n m) refl
  where
    by : (a : Bool) → nat_eq m n ≡ a → (b : Bool) → nat_eq n m ≡ b → a ≡ b
    by true is true other = refl
    by false is false other = refl
    by true is false other = sym (sym other ∙ eq-eqb n m (sym (eqb-true m n is)))
    by false is true other = sym is ∙ eq-eqb m n (sym (eqb-true n m other))

-- ---- one receiver more

room-bits : (due same at room more was : Bool) → (same ≡ true → room ≡ false → due ≡ more) → due && (same && at) || (at && room || was) ≡ at && (room || same && more) || was
room-bits due false at room more was told = ap (λ b. b || (at && room || was)) (and_false due) ∙ ap (λ b. at && b || was) (sym (or_false room))
room-bits due true false room more was told = ap (λ b. b || was) (and_false due)
room-bits due true true true more was told = last due
  where
    last : (b : Bool) → b && true || true ≡ true
    last true = refl
    last false = refl
room-bits due true true false more was told = ap (λ b. b || was) (and_true due ∙ told refl refl)

module _ (receivers : List Receiver) (i : ℕ) (x : Receiver) (below : i < length receivers) (number : ℕ) (counts : ℕ → ℕ) (old now then_ : ℕ → ℕ → Bool) (due : Bool) where
  abbrev r : Receiver
  r = get_or receivers i x

  pub one-more : ((link n : ℕ) → now link n ≡ (n == number && has_room (take i receivers) link (counts link) || old link n))
      → (((n : ℕ) → now r.link n ≡ old r.link n) → due ≡ nat_lt (counts r.link) r.credit)
      → ((link n : ℕ) → then_ link n ≡ (due && (r.link == link && (number == n)) || now link n))
      → (link n : ℕ) → then_ link n ≡ (n == number && has_room (take (i + 1) receivers) link (counts link) || old link n)
  one-more was told moved link n =
      moved link n
      ∙ (ap (λ b. due && (r.link == link && b) || now link n) (swapped number n)
      ∙ (ap (λ b. due && (r.link == link && (n == number)) || b) (was link n)
      ∙ (room-bits due (r.link == link) (n == number) (has_room (take i receivers) link (counts link)) (nat_lt (counts link) r.credit) (old link n) here
      ∙ ap (λ b. n == number && b || old link n) (sym (list_any_more (λ (y : Receiver). y.link == link && nat_lt (counts link) y.credit) receivers i x below)))))
    where
      unmoved : (k : ℕ) → has_room (take i receivers) k (counts k) ≡ false → (m : ℕ) → now k m ≡ old k m
      unmoved k none m = was k m ∙ (ap (λ b. m == number && b || old k m) none ∙ ap (λ b. b || old k m) (and_false (m == number)))

      here : (r.link == link) ≡ true → has_room (take i receivers) link (counts link) ≡ false → due ≡ nat_lt (counts link) r.credit
      here same none =
          let is = eqb-true r.link link same in
          told (λ m. subst (λ k. now k m ≡ old k m) (sym is) (unmoved link none m)) ∙ ap (λ k. nat_lt (counts k) r.credit) is

-- whose link joins those with room
module _ (receivers : List Receiver) (i : ℕ) (x : Receiver) (below : i < length receivers) (counts : ℕ → ℕ) (link : ℕ) where
  abbrev next : Receiver
  next = get_or receivers i x

  pub room-more : (now then_ room : Bool) → now ≡ has_room (take i receivers) link (counts link) → room ≡ nat_lt (counts next.link) next.credit → then_ ≡ now || room && (next.link == link)
      → then_ ≡ has_room (take (i + 1) receivers) link (counts link)
  room-more now then_ room was told moved =
      moved
      ∙ (ap (λ b. b || room && (next.link == link)) was
      ∙ (by (next.link == link) refl ∙ sym (list_any_more (λ (y : Receiver). y.link == link && nat_lt (counts link) y.credit) receivers i x below)))
    where
      by : (same : Bool) → (next.link == link) ≡ same → has_room (take i receivers) link (counts link) || room && same ≡ has_room (take i receivers) link (counts link) || same && nat_lt (counts link) next.credit
      by true is = ap (λ c. has_room (take i receivers) link (counts link) || c) (and_true room ∙ (told ∙ ap (λ k. nat_lt (counts k) next.credit) (eqb-true next.link link is)))
      by false is = ap (λ c. has_room (take i receivers) link (counts link) || c) (and_false room)

pub joined-any : (link m : ℕ) (ns : List ℕ) → list_any (λ k. k == link) (ns ++ (m ∷ [])) ≡ list_any (λ k. k == link) ns || (m == link)
joined-any link m ns = list_any-append (λ (k : ℕ). k == link) ns (m ∷ []) ∙ ap (λ b. list_any (λ (k : ℕ). k == link) ns || b) (or_false (m == link))

-- ---- one number less

apart : (n : ℕ) (ns : List ℕ) → is_among ns n ≡ false → AllByRecursion (λ y. nat_eq n y ≡ false) ns
apart n [] off = tt
apart n (m ∷ ns) off = by (nat_eq n m) refl off (apart n ns)
  where
    by : (b : Bool) → nat_eq n m ≡ b → b || is_among ns n ≡ false → (is_among ns n ≡ false → AllByRecursion (λ y. nat_eq n y ≡ false) ns) → (nat_eq n m ≡ false) × AllByRecursion (λ y. nat_eq n y ≡ false) ns
    by true is off rest = absurd cc
    by false is off rest = (is, rest off)

added-distinct : (n : ℕ) (ns : List ℕ) → is_among ns n ≡ false → IsDistinct nat_eq ns → IsDistinct nat_eq (n ∷ ns)
unfolding IsDistinct
added-distinct n ns off each = (apart n ns off, each)

first-there : (ns : List ℕ) (n : ℕ) → Some n ≡ slice_get ns 0 → is_among ns n ≡ true
first-there [] n is = absurd cc
first-there (m ∷ ns) n is = let same : n ≡ m = cc in ap (λ b. b || is_among ns n) (eq-eqb n m same)

none-first : (ns : List ℕ) → None ≡ slice_get ns 0 → length ns ≡ 0
none-first [] is = refl
none-first (m ∷ ns) is = absurd cc

pub one-fewer : (old new : List ℕ) (number count : ℕ) → IsDistinct nat_eq new → Some number ≡ slice_get old 0 → ((n : ℕ) → is_among new n ≡ (is_among old n && not (number == n))) → count ≡ length new
    → count ≤ length old - 1
one-fewer old new number count each first left is =
    let gone : is_among new number ≡ false = left number ∙ (ap (λ b. is_among old number && not b) (eq-eqb number number refl) ∙ and_false (is_among old number)) in
    let le : length (number ∷ new) ≤ length old = length-le_from_is_member nat_eq_equiv (number ∷ new) old (added-distinct number new gone each) within in
    omega (arith, le, is)
  where
    of_left : (b : Bool) (n : ℕ) → is_among new n ≡ (is_among old n && b) → is_among new n ≡ true → is_among old n ≡ true
    of_left true n is there = sym (and_true (is_among old n)) ∙ (sym is ∙ there)
    of_left false n is there = let never : true ≡ false = sym there ∙ (is ∙ and_false (is_among old n)) in absurd cc

    by : (n : ℕ) → (b : Bool) → nat_eq n number ≡ b → b || is_among new n ≡ true → is_among old n ≡ true
    by n true same there = ap (is_among old) (eqb-true n number same) ∙ first-there old number first
    by n false other there = of_left (not (number == n)) n (left n) there

    within : (n : ℕ) → is_among (number ∷ new) n ≡ true → is_among old n ≡ true
    within n there = by n (nat_eq n number) refl there

pub none-fewer : (old : List ℕ) (count : ℕ) → None ≡ slice_get old 0 → count ≡ length old → count ≤ length old - 1
none-fewer old count first is = let none = none-first old first in omega (arith, none, is)

-- ---- a link without numbers

pub empty-among : (ns : List ℕ) (n : ℕ) → length ns ≡ 0 → is_among ns n ≡ false
empty-among [] n none = refl
empty-among (m ∷ ns) n none = absurd (omega (arith, none))

pub cleared : (link at : ℕ) (old new : ℕ → Bool) (n : ℕ) → ((link == at) ≡ false → new n ≡ old n) → (link ≡ at → new n ≡ false) → new n ≡ (old n && not (link == at))
cleared link at old new n others own = by (link == at) refl
  where
    by : (b : Bool) → (link == at) ≡ b → new n ≡ (old n && not b)
    by true same = own (eqb-true link at same) ∙ sym (and_false (old n))
    by false other = others other ∙ sym (and_true (old n))

-- ---- one link more that ended

abbrev is_it : ℕ → law.Link → Bool
is_it link l = l.number == link

ended-more : (links : List Link) (i : ℕ) (x : Link) → i < length links → (link : ℕ) → has_link (views (take (i + 1) links)) link ≡ has_link (views (take i links)) link || is_it link (link_view (get_or links i x))
ended-more links i x below link =
    ap (λ k. has_link (views (take k links)) link) (add-one i)
    ∙ (ap (λ xs. has_link (views xs) link) (take-suc links i x below)
    ∙ (ap (λ ls. has_link ls link) (map-append link_view (take i links) (get_or links i x ∷ []))
    ∙ (list_any-append (is_it link) (views (take i links)) (link_view (get_or links i x) ∷ []) ∙ ap (λ b. has_link (views (take i links)) link || b) (or_false (is_it link (link_view (get_or links i x)))))))

pub left-more : (links : List Link) (i : ℕ) (x : Link) → i < length links → (before now then_ : Bool) (link : ℕ) → now ≡ (before && not (has_link (views (take i links)) link))
    → then_ ≡ (now && not ((get_or links i x).number == link)) → then_ ≡ (before && not (has_link (views (take (i + 1) links)) link))
left-more links i x below before now then_ link is next =
    next
    ∙ (ap (λ b. b && not ((get_or links i x).number == link)) is
    ∙ (by before (has_link (views (take i links)) link) ((get_or links i x).number == link) ∙ ap (λ b. before && not b) (sym (ended-more links i x below link))))
  where
    by : (a b c : Bool) → a && not b && not c ≡ a && not (b || c)
    by false b c = refl
    by true true c = refl
    by true false c = refl
