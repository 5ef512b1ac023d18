-- The receivers of an address, from the numbers of its consumers.
use Rattle.std.proofs.Common.{◌≡◌, refl, sym, ap, ◌∙◌, ℕ, ◌+◌, ◌<◌, Bool, true, false, ◌&&◌, ◌||◌, List, [], ◌∷◌, ◌++◌, add-one, get_or, length, take, option_and_then, Option, Some, None, nat_eq, option_map, if◌then◌else◌, ◌==◌, eqb-true, bytes_eq}
use Rattle.std.specs.List.{cons_option, filter_map, list_any, slice_get}
use Rattle.std.proofs.Math.Seq.{take-suc}
use Rattle.std.proofs.lemmas.List.{append-nil}
use Rattle.std.proofs.lemmas.List.Elements.{filter_map-append}
use Rattle.std.proofs.lemmas.Option.{slice_get-get_or}
use Rattle.capture_form.specs.Rules.{RuleSet}
use Rattle.trace_events.specs.Words.{is_some_and, where_passes}
use Rattle.trace_events.specs.Event.{Event, Link}
use Rattle.trace_events.specs.Address.{is_consumer_of}
use Rattle.trace_events.specs.Credit.{link_credit}
use Rattle.trace_events.specs.Link.{is_consumer, is_live, link_at}
use Rattle.trace_events.proofs.Judged.{AreJudged}
use Rattle.trace_events.proofs.LinkNumbers.{judged-found, same-sym}
use Rattle.state_tables.specs.ConsumerLinks.{consumer_at, is_live_consumer}
use Rattle.state_tables.specs.Copies.{AreReceiversOf}
use Rattle.state_tables.specs.Receivers.{receiver_at, receiver_on}
use Rattle.state_tables.specs.declared.copies.Receiver.{Receiver}
use Rattle.state_tables.proofs.CopyNumbers.{and_false}

-- what a test finds in what a list gives
any-filtered : {X Y : Type 0} (f : X → Option Y) (test : Y → Bool) (xs : List X) → list_any test (filter_map f xs) ≡ list_any (λ x. is_some_and (f x) test) xs
any-filtered f test [] = refl
any-filtered f test (x ∷ xs) = by (f x) (any-filtered f test xs)
  where
    by : (o : Option _) → list_any test (filter_map f xs) ≡ list_any (λ x. is_some_and (f x) test) xs → list_any test (cons_option o (filter_map f xs)) ≡ is_some_and o test || list_any (λ x. is_some_and (f x) test) xs
    by None rest = rest
    by (Some y) rest = ap (λ b. test y || b) rest

any-same : {X : Type 0} (f g : X → Bool) → ((x : X) → f x ≡ g x) → (xs : List X) → list_any f xs ≡ list_any g xs
any-same f g same [] = refl
any-same f g same (x ∷ xs) = ap (λ b. b || list_any f xs) (same x) ∙ ap (λ b. g x || b) (any-same f g same xs)

any-and : (link : ℕ) (c : Bool) (ns : List ℕ) → list_any (λ n. (n == link) && c) ns ≡ list_any (nat_eq link) ns && c
any-and link c [] = refl
any-and link c (n ∷ ns) = ap (λ b. (n == link) && c || b) (any-and link c ns) ∙ (ap (λ b. b && c || (list_any (nat_eq link) ns && c)) (same-sym n link) ∙ bits (nat_eq link n) (list_any (nat_eq link) ns) c)
  where
    bits : (a b c : Bool) → a && c || (b && c) ≡ (a || b) && c
    bits true true true = refl
    bits true true false = refl
    bits true false true = refl
    bits true false false = refl
    bits false b c = refl

module _ (rules : RuleSet) (past : List Event) (are : AreJudged rules past) (address : List ℕ) (numbers : List ℕ)
    (of : (n : ℕ) → list_any (nat_eq n) numbers ≡ is_some_and (link_at n past) (is_consumer_of address past)) where
  module _ (link credit : ℕ) where
    abbrev is_it : Receiver → Bool
    is_it x = x.link == link && (x.credit == credit)

    abbrev has_credit : Link → Bool
    has_credit l = link_credit l past == credit

    abbrev stands : Bool
    stands = is_some_and (consumer_at link past) has_credit

    -- by the link of the number, if there is one
    each-by : (n : ℕ) (o : Option Link) → ((l : Link) → o ≡ Some l → l.number ≡ n)
        → is_some_and (option_map (receiver_on past) (where_passes (is_live_consumer past) o)) is_it ≡ (n == link) && is_some_and (where_passes (is_live_consumer past) o) has_credit
    each-by n None own = sym (and_false (n == link))
    each-by n (Some l) own = by (is_live_consumer past l)
      where
        by : (b : Bool) → is_some_and (option_map (receiver_on past) (if b then Some l else None)) is_it ≡ (n == link) && is_some_and (if b then Some l else None) has_credit
        by true = ap (λ m. (m == link) && has_credit l) (own l refl)
        by false = sym (and_false (n == link))

    there : (n : ℕ) (b : Bool) → (n == link) ≡ b → b && is_some_and (consumer_at n past) has_credit ≡ b && stands
    there n true same = ap (λ m. is_some_and (consumer_at m past) has_credit) (eqb-true n link same)
    there n false other = refl

    each : (n : ℕ) → is_some_and (receiver_at n past) is_it ≡ (n == link) && stands
    each n = each-by n (link_at n past) (λ l at. (judged-found rules past are n l at).0) ∙ there n (n == link) refl

    known : (o : Option Link) → is_some_and o (is_consumer_of address past) && is_some_and (where_passes (is_live_consumer past) o) has_credit ≡ is_some_and o (λ l. is_consumer_of address past l && has_credit l)
    known None = refl
    known (Some l) = bits (is_consumer l) (bytes_eq l.address address) (is_live past l)
      where
        bits : (consumer here lives : Bool) → ((consumer && here) && lives) && is_some_and (if consumer && lives then Some l else None) has_credit ≡ ((consumer && here) && lives) && has_credit l
        bits true true true = refl
        bits true true false = refl
        bits true false lives = refl
        bits false here lives = refl

  -- just the links of these numbers, each with its credit
  pub are-receivers : AreReceiversOf address past (filter_map (λ n. receiver_at n past) numbers)
  are-receivers link credit =
      any-filtered (λ n. receiver_at n past) (is_it link credit) numbers
      ∙ (any-same (λ n. is_some_and (receiver_at n past) (is_it link credit)) (λ n. (n == link) && stands link credit) (each link credit) numbers
      ∙ (any-and link (stands link credit) numbers ∙ (ap (λ b. b && stands link credit) (of link) ∙ known link credit (link_at link past))))

-- ---- one number more

module _ (past : List Event) where
  abbrev found : List ℕ → List Receiver
  found numbers = filter_map (λ n. receiver_at n past) numbers

  pub one-more : (numbers : List ℕ) (i : ℕ) → i < length numbers → (number : Option ℕ) → number ≡ slice_get numbers i
      → (receiver : Option Receiver) → receiver ≡ option_and_then (λ n. receiver_at n past) number → found (take i numbers) ++ cons_option receiver [] ≡ found (take (i + 1) numbers)
  one-more numbers i below number at receiver is =
      ap (λ o. found (take i numbers) ++ cons_option o []) (is ∙ ap (option_and_then (λ n. receiver_at n past)) (at ∙ slice_get-get_or numbers i 0 below))
      ∙ sym
      (ap (λ k. found (take k numbers)) (add-one i)
      ∙ (ap found (take-suc numbers i 0 below) ∙ filter_map-append (λ n. receiver_at n past) (take i numbers) (get_or numbers i 0 ∷ [])))

  pub none-more : (numbers : List ℕ) (i : ℕ) → i < length numbers → (number : Option ℕ) → number ≡ slice_get numbers i
      → None ≡ option_and_then (λ n. receiver_at n past) number → found (take i numbers) ≡ found (take (i + 1) numbers)
  none-more numbers i below number at is = sym (append-nil (found (take i numbers))) ∙ one-more numbers i below number at None is
