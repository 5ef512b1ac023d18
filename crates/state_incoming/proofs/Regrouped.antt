-- The groups fit the deliveries again once the one that moved is put where it belongs.
use Rattle.std.proofs.Common.{◌≡◌, refl, sym, ap, ◌∙◌, ℕ, Bool, true, false, ◌&&◌, List, Option, Some, None, IfSome, nat_eq, bytes_eq, subst, if◌then◌else◌, ◌==◌, eqb-true}
use Rattle.number_groups.specs.Groups.{is_member}
use Rattle.number_groups.specs.OctetGroups as octets
use Rattle.trace_events.specs.Words.{is_some_and}
use Rattle.trace_events.specs.Event.{Incoming}
use Rattle.state_incoming.specs.Held.{Held, says_arriving, says_waiting}
use Rattle.number_groups.specs.Ids.{same_id}
use Rattle.state_incoming.specs.Grouped.{AreGrouped, IsMarked, IsPut, marks_of, unmarked, is_of_link, is_of_session, has_id, is_for}
use Rattle.state_incoming.specs.declared.groups.HeldGroups.{HeldGroups}
use Rattle.state_incoming.specs.declared.groups.GroupMarks.{GroupMarks}

-- what is kept of a number is this delivery
abbrev pub IsOf : Incoming → Option Held → Type 0
IsOf d o = IfSome o (λ (x : Held). x.delivery ≡ d)

-- what it is found by
abbrev pub marks : Option Held → GroupMarks
marks None = unmarked
marks (Some x) = marks_of x

-- the tests of one group: of the delivery's key, and of what has become of it
module _ (key : Incoming → Bool) (mark : Held → Bool) (d : Incoming) (old new : Option Held) (was : IsOf d old) (is : IsOf d new) where
  abbrev test : Held → Bool
  test x = key x.delivery && mark x

  off_key : key d ≡ false → (o : Option Held) → IsOf d o → is_some_and o test ≡ false
  off_key off None of = refl
  off_key off (Some x) of = ap (λ y. key y && mark x) of ∙ ap (λ b. b && mark x) off

  on_key : key d ≡ true → (o : Option Held) → IsOf d o → is_some_and o mark ≡ is_some_and o test
  on_key on None of = refl
  on_key on (Some x) of = sym (ap (λ y. key y && mark x) of ∙ ap (λ b. b && mark x) on)

  -- of any number: before and behind, and the group before
  pub regrouped : (same : Bool) (o : Option Held) (g : Bool) → g ≡ is_some_and o test → (same ≡ true → o ≡ old)
      → (if key d && same then is_some_and new mark else g) ≡ is_some_and (if same then new else o) test
  regrouped same o g grouped here = by (key d) refl same here
    where
      by : (k : Bool) → key d ≡ k → (same : Bool) → (same ≡ true → o ≡ old) → (if k && same then is_some_and new mark else g) ≡ is_some_and (if same then new else o) test
      by true on true here = on_key on new is
      by false off true here = grouped ∙ (ap (λ p. is_some_and p test) (here refl) ∙ (off_key off old was ∙ sym (off_key off new is)))
      by true on false here = grouped
      by false off false here = grouped

-- one that waits is for this address; so is what has become of it
abbrev pub StandsAt : List ℕ → Option Held → Type 0
StandsAt own o = IfSome o (λ (x : Held). says_waiting x.fate ≡ true → x.address ≡ own)

-- the same tests, of the address
module _ (address own : List ℕ) (old new : Option Held) (was : StandsAt own old) (is : StandsAt own new) where
  abbrev waits_for : Held → Bool
  waits_for x = is_for address x && says_waiting x.fate

  abbrev waits : Held → Bool
  waits x = says_waiting x.fate

  elsewhere : bytes_eq own address ≡ false → (o : Option Held) → StandsAt own o → is_some_and o waits_for ≡ false
  elsewhere off None at = refl
  elsewhere off (Some x) at = by (says_waiting x.fate) refl
    where
      by : (w : Bool) → says_waiting x.fate ≡ w → waits_for x ≡ false
      by true on = ap (λ a. bytes_eq a address && says_waiting x.fate) (at on) ∙ ap (λ b. b && says_waiting x.fate) off
      by false none = ap (λ b. is_for address x && b) none ∙ off_last (is_for address x)
        where
          off_last : (b : Bool) → b && false ≡ false
          off_last true = refl
          off_last false = refl

  here-at : bytes_eq own address ≡ true → (o : Option Held) → StandsAt own o → is_some_and o waits ≡ is_some_and o waits_for
  here-at on None at = refl
  here-at on (Some x) at = by (says_waiting x.fate) refl
    where
      by : (w : Bool) → says_waiting x.fate ≡ w → says_waiting x.fate ≡ waits_for x
      by true waits = sym (ap (λ a. bytes_eq a address && says_waiting x.fate) (at waits) ∙ ap (λ b. b && says_waiting x.fate) on)
      by false none = none ∙ sym (ap (λ b. is_for address x && b) none ∙ off_last (is_for address x))
        where
          off_last : (b : Bool) → b && false ≡ false
          off_last true = refl
          off_last false = refl

  readdressed : (same : Bool) (o : Option Held) (g : Bool) → g ≡ is_some_and o waits_for → (same ≡ true → o ≡ old)
      → (if bytes_eq own address && same then is_some_and new waits else g) ≡ is_some_and (if same then new else o) waits_for
  readdressed same o g grouped here = by (bytes_eq own address) refl same here
    where
      by : (k : Bool) → bytes_eq own address ≡ k → (same : Bool) → (same ≡ true → o ≡ old) → (if k && same then is_some_and new waits else g) ≡ is_some_and (if same then new else o) waits_for
      by true on true here = here-at on new is
      by false off true here = grouped ∙ (ap (λ p. is_some_and p waits_for) (here refl) ∙ (elsewhere off old was ∙ sym (elsewhere off new is)))
      by true on false here = grouped
      by false off false here = grouped

module _ (d : Incoming) (groups later : HeldGroups) (kept behind : ℕ → Option Held) (old new : Option Held) (was : IsOf d old) (is : IsOf d new)
    (own : List ℕ) (stood : StandsAt own old) (stands : StandsAt own new) (at : kept d.number ≡ old)
    (moved : (n : ℕ) → behind n ≡ (if d.number == n then new else kept n)) where
  here : (n : ℕ) → (d.number == n) ≡ true → kept n ≡ old
  here n same = sym (ap kept (eqb-true d.number n same)) ∙ at

  marked : (f : GroupMarks → Bool) (mark : Held → Bool) → f unmarked ≡ false → ((x : Held) → f (marks_of x) ≡ mark x) → (o : Option Held) → f (marks o) ≡ is_some_and o mark
  marked f mark none some None = none
  marked f mark none some (Some x) = some x

  numbered-by : (n : ℕ) → IfSome (kept n) (λ (x : Held). x.delivery.number ≡ n) → IfSome (behind n) (λ (x : Held). x.delivery.number ≡ n)
  numbered-by n numbered = subst (λ (o : Option Held). IfSome o (λ (x : Held). x.delivery.number ≡ n)) (sym (moved n)) (by (d.number == n) refl)
    where
      of : (o : Option Held) → IsOf d o → d.number ≡ n → IfSome o (λ (x : Held). x.delivery.number ≡ n)
      of None none same = none
      of (Some x) one same = ap (λ (y : Incoming). y.number) one ∙ same

      by : (b : Bool) → (d.number == n) ≡ b → IfSome (if b then new else kept n) (λ (x : Held). x.delivery.number ≡ n)
      by true same = of new is (eqb-true d.number n same)
      by false other = numbered

  pub put-grouped : AreGrouped groups kept → IsPut d own (marks new) groups later → AreGrouped later behind
  put-grouped grouped put = record {
    arriving = λ link n. put.arriving link n
        ∙ (ap (λ b. if is_of_link link d && (d.number == n) then b else is_member nat_eq groups.arriving link n) (marked (λ m. m.is_arriving) (λ x. says_arriving x.fate) refl (λ x. refl) new)
        ∙ (regrouped (is_of_link link) (λ x. says_arriving x.fate) d old new was is (d.number == n) (kept n) _ (grouped.arriving link n) (here n)
        ∙ ap (λ o. is_some_and o (λ x. is_of_link link x.delivery && says_arriving x.fate)) (sym (moved n))));
    undecided = λ link n. put.undecided link n
        ∙ (ap (λ b. if is_of_link link d && (d.number == n) then b else is_member nat_eq groups.undecided link n) (marked (λ m. m.is_undecided) (λ x. x.is_undecided) refl (λ x. refl) new)
        ∙ (regrouped (is_of_link link) (λ x. x.is_undecided) d old new was is (d.number == n) (kept n) _ (grouped.undecided link n) (here n)
        ∙ ap (λ o. is_some_and o (λ x. is_of_link link x.delivery && x.is_undecided)) (sym (moved n))));
    of_session = λ session n. put.of_session session n
        ∙ (ap (λ b. if is_of_session session d && (d.number == n) then b else is_member nat_eq groups.of_session session n) (marked (λ m. m.is_undecided) (λ x. x.is_undecided) refl (λ x. refl) new)
        ∙ (regrouped (is_of_session session) (λ x. x.is_undecided) d old new was is (d.number == n) (kept n) _ (grouped.of_session session n) (here n)
        ∙ ap (λ o. is_some_and o (λ x. is_of_session session x.delivery && x.is_undecided)) (sym (moved n))));
    in_use = λ key n. put.in_use key n
        ∙ (ap (λ b. if has_id key.session key.id d && (d.number == n) then b else is_member same_id groups.in_use key n) (marked (λ m. m.is_undecided) (λ x. x.is_undecided) refl (λ x. refl) new)
        ∙ (regrouped (has_id key.session key.id) (λ x. x.is_undecided) d old new was is (d.number == n) (kept n) _ (grouped.in_use key n) (here n)
        ∙ ap (λ o. is_some_and o (λ x. has_id key.session key.id x.delivery && x.is_undecided)) (sym (moved n))));
    waiting = λ address n. put.waiting address n
        ∙ (ap (λ b. if bytes_eq own address && (d.number == n) then b else octets.is_member groups.waiting address n) (marked (λ m. m.is_waiting) (λ x. says_waiting x.fate) refl (λ x. refl) new)
        ∙ (readdressed address own old new stood stands (d.number == n) (kept n) _ (grouped.waiting address n) (here n)
        ∙ ap (λ o. is_some_and o (λ x. is_for address x && says_waiting x.fate)) (sym (moved n))));
    numbered = λ n. numbered-by n (grouped.numbered n);
  }

-- what is kept of a delivery stands where its marks say
module _ (d : Incoming) (groups : HeldGroups) (kept : ℕ → Option Held) (old : Option Held) (was : IsOf d old) (own : List ℕ) (stood : StandsAt own old) (at : kept d.number ≡ old) where
  of-mark : (key : Incoming → Bool) (mark : Held → Bool) (f : GroupMarks → Bool) → f unmarked ≡ false → ((x : Held) → f (marks_of x) ≡ mark x) → key d ≡ true
      → (g : Bool) → g ≡ is_some_and (kept d.number) (λ x. key x.delivery && mark x) → g ≡ f (marks old)
  of-mark key mark f none some on g is = is ∙ (ap (λ o. is_some_and o (λ x. key x.delivery && mark x)) at ∙ by old was)
    where
      by : (o : Option Held) → IsOf d o → is_some_and o (λ x. key x.delivery && mark x) ≡ f (marks o)
      by None of = sym none
      by (Some x) of = ap (λ y. key y && mark x) of ∙ (ap (λ b. b && mark x) on ∙ sym (some x))

  marked-waiting : (o : Option Held) → (marks o).is_waiting ≡ is_some_and o (λ x. says_waiting x.fate)
  marked-waiting None = refl
  marked-waiting (Some x) = refl

  pub grouped-marked : AreGrouped groups kept → IsMarked d own (marks old) groups
  grouped-marked grouped = record {
    arriving = λ link on. of-mark (is_of_link link) (λ x. says_arriving x.fate) (λ m. m.is_arriving) refl (λ x. refl) on _ (grouped.arriving link d.number);
    undecided = λ link on. of-mark (is_of_link link) (λ x. x.is_undecided) (λ m. m.is_undecided) refl (λ x. refl) on _ (grouped.undecided link d.number);
    of_session = λ session on. of-mark (is_of_session session) (λ x. x.is_undecided) (λ m. m.is_undecided) refl (λ x. refl) on _ (grouped.of_session session d.number);
    in_use = λ key on. of-mark (has_id key.session key.id) (λ x. x.is_undecided) (λ m. m.is_undecided) refl (λ x. refl) on _ (grouped.in_use key d.number);
    waiting = λ address on. grouped.waiting address d.number
        ∙ (ap (λ o. is_some_and o (λ x. is_for address x && says_waiting x.fate)) at ∙ (sym (here-at address own old old stood stood on old stood) ∙ sym (marked-waiting old)));
  }
