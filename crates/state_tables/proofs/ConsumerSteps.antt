-- What one more event makes of the consumers of an address, each by its number.
use Rattle.std.proofs.Common.{◌≡◌, refl, sym, ap, subst, ◌∙◌, ◌↔◌, ℕ, Bool, true, false, ◌&&◌, ◌||◌, not, List, [], ◌∷◌, length, Option, Some, None, find, inl, inr, bytes_eq, if◌then◌else◌, ◌==◌, arith, eqb-true}
use Rattle.std.specs.List.{Contains, cons_option, list_any}
use Rattle.std.proofs.lemmas.Bool.{eq-eqb}
use Rattle.std.proofs.lemmas.List.Elements.{Contains-append_cases, Contains-append_left, Contains-append_right, Contains-push, Contains-push_cases}
use Rattle.capture_form.specs.Rules.{RuleSet}
use Rattle.trace_events.specs.Words.{is_some_and}
use Rattle.trace_events.specs.Event.{Event, Link}
use Rattle.trace_events.specs.Address.{is_consumer_of}
use Rattle.trace_events.specs.Connection.{is_over}
use Rattle.trace_events.specs.Ends.{ends_link}
use Rattle.trace_events.specs.Session.{last_session}
use Rattle.trace_events.specs.declared.session.Session.{Session}
use Rattle.trace_events.specs.Link.{is_consumer, is_live, link_at, links, own_link, IsLiveLink}
use Rattle.trace_events.proofs.Judged.{AreJudged}
use Rattle.trace_events.proofs.LinkLives.{is_live-new, judged-stands}
use Rattle.trace_events.proofs.LinkNumbers.{judged-found, link_at-later, own_link-number}
use Rattle.trace_events.proofs.Links.{IsKnown}
use Rattle.trace_events.proofs.SessionNumbers.{last_session-known}
use Rattle.state_tables.specs.Consumers.{has_link_of, opens_for}
use Rattle.trace_events.proofs.LinkEnds.{is_live-next, lives-live}

-- ---- what a test finds in a list

none_in : {X : Type 0} (y : X) {P : Type 0} → Contains [] y → P
none_in y (k, below, is) = absurd (omega arith)

only : {X : Type 0} (x y : X) → Contains (x ∷ []) y → x ≡ y
only x y in_it = elim (Contains-push_cases [] x y in_it) [ inl none ↦ none_in y none | inr is ↦ is ]

module _ {X : Type 0} (test : X → Bool) where
  pub any-gives : (xs : List X) (x : X) → Contains xs x → test x ≡ true → list_any test xs ≡ true
  any-gives [] x in_it is = none_in x in_it
  any-gives (z ∷ xs) x in_it is = elim (Contains-append_cases (z ∷ []) xs x in_it) [
    | inl first ↦ ap (λ b. b || list_any test xs) (ap test (only z x first) ∙ is)
    | inr later ↦ either (test z) (list_any test xs) (any-gives xs x later is)
  ]
    where
      either : (a b : Bool) → b ≡ true → a || b ≡ true
      either true b is = refl
      either false b is = is

  pub any-from : (xs : List X) → list_any test xs ≡ true → (x : X) × (Contains xs x × (test x ≡ true))
  any-from [] is = absurd cc
  any-from (z ∷ xs) is = by (test z) refl is (any-from xs)
    where
      by : (b : Bool) → test z ≡ b → b || list_any test xs ≡ true → (list_any test xs ≡ true → (x : X) × (Contains xs x × (test x ≡ true))) → (x : X) × (Contains (z ∷ xs) x × (test x ≡ true))
      by true passes any rest = (z, (Contains-append_left (z ∷ []) xs z (Contains-push [] z), passes))
      by false passes any rest = let found = rest any in (found.0, (Contains-append_right (z ∷ []) xs found.0 found.1.0, found.1.1))

-- ---- links that an event ends

and_last : (a b : Bool) → a && b ≡ true → b ≡ true
and_last true b is = is
and_last false b is = absurd cc

and_first : (a b : Bool) → a && b ≡ true → a ≡ true
and_first true b is = refl
and_first false b is = absurd cc

last_of : (over : Bool) (last : Option Session) (s : Session) → (if over then None else last) ≡ Some s → last ≡ Some s
last_of true last s is = absurd cc
last_of false last s is = is

pub same_some : {A : Type 0} (a b : A) → Some a ≡ Some b → a ≡ b
same_some a b is = cc

module _ (rules : RuleSet) (e : Event) (past : List Event) (are : AreJudged rules (e ∷ past)) (ended : List Link)
    (all : (l : Link) → Contains ended l ↔ IsLiveLink l past × (ends_link l e ≡ true)) where
  -- a live link is found by its number, which is one of the history
  pub known : (l : Link) → IsLiveLink l past → IsKnown past l
  known l live =
      let s = l.session in
      let session = last_session-known rules past are.1 s.connection s.channel s (last_of (is_over s.connection past) (last_session s.connection s.channel past) s live.0) in
      (judged-stands rules past are.1).known s l.handle l session live.1

  ended-found : (address : List ℕ) (n : ℕ) → has_link_of ended address n ≡ true → (m : Link) × ((m.number ≡ n) × IsLiveLink m past × (ends_link m e ≡ true))
  ended-found address n is =
      let found = any-from (λ (l : Link). bytes_eq l.address address && (l.number == n)) ended is in
      let m = found.0 in
      let of = (all m).0 found.1.0 in
      (m, (eqb-true m.number n (and_last (bytes_eq m.address address) (m.number == n) found.1.1), of.0, of.1))

  -- of a link that stood
  module _ (address : List ℕ) (n : ℕ) (l : Link) (at : link_at n past ≡ Some l) where
    own : l.number ≡ n
    own = (judged-found rules past are.1 n l at).0

    found : link_at l.number past ≡ Some l
    found = ap (λ m. link_at m past) own ∙ at

    ends-same : is_consumer_of address past l ≡ true → has_link_of ended address n ≡ ends_link l e
    ends-same is = by (has_link_of ended address n) (ends_link l e) refl refl
      where
        live : IsLiveLink l past
        live = lives-live rules past are.1 l found (and_last (is_consumer l && bytes_eq l.address address) (is_live past l) is)

        here : bytes_eq l.address address ≡ true
        here = and_last (is_consumer l) (bytes_eq l.address address) (and_first (is_consumer l && bytes_eq l.address address) (is_live past l) is)

        by : (a b : Bool) → has_link_of ended address n ≡ a → ends_link l e ≡ b → a ≡ b
        by true true is ends = refl
        by false false is ends = refl
        by false true is ends =
            let yes : has_link_of ended address n ≡ true =
            any-gives (λ (m : Link). bytes_eq m.address address && (m.number == n)) ended l ((all l).1 (live, ends))
            (ap (λ b. b && (l.number == n)) here ∙ eq-eqb l.number n own) in
            sym is ∙ yes
        by true false is ends =
            let m = ended-found address n is in
            let same : m.0 ≡ l = same_some m.0 l (sym (known m.0 m.1.1).at ∙ (ap (λ k. link_at k past) m.1.0 ∙ at)) in
            sym m.1.2 ∙ (ap (λ (k : Link). ends_link k e) same ∙ ends)

    stood : is_consumer_of address past l && not (has_link_of ended address n) ≡ is_consumer_of address (e ∷ past) l
    stood =
        by (is_consumer l && bytes_eq l.address address) (is_live past l) (has_link_of ended address n) (ends_link l e) ends-same
        ∙ ap (λ b. is_consumer l && bytes_eq l.address address && b) (sym (is_live-next rules e past are l found))
      where
        by : (a live was ends : Bool) → (a && live ≡ true → was ≡ ends) → a && live && not was ≡ a && (live && not ends)
        by true true was ends same = ap not (same refl)
        by true false was ends same = refl
        by false live was ends same = refl

  -- of one that the event opens
  module _ (address : List ℕ) (k : Link) (own : own_link e ≡ Some k) where
    number : k.number ≡ length past
    number = own_link-number rules e past k are own

    none-stood : link_at k.number past ≡ None
    none-stood = link_at-later rules past are.1 k.number (omega (arith, number))

    none-ended : has_link_of ended address k.number ≡ false
    none-ended = by (has_link_of ended address k.number) refl
      where
        by : (b : Bool) → has_link_of ended address k.number ≡ b → b ≡ false
        by false is = refl
        by true is = let m = ended-found address k.number is in let never : ◌≡◌ {A = Option Link} (Some m.0) None = sym (known m.0 m.1.1).at ∙ (ap (λ n. link_at n past) m.1.0 ∙ none-stood) in absurd cc

  abbrev now : List ℕ → ℕ → Bool → Bool
  now address n before = (opens_for address n e || before) && not (has_link_of ended address n)

  abbrev found_in : ℕ → Option Link → Option Link
  found_in n o = find (λ (l : Link). l.number == n) (cons_option o (links past))

  unopened : (address : List ℕ) (n : ℕ) → opens_for address n e ≡ false → (o : Option Link) → link_at n past ≡ o → now address n (is_some_and o (is_consumer_of address past)) ≡ is_some_and o (is_consumer_of address (e ∷ past))
  unopened address n none None at = ap (λ b. (b || false) && not (has_link_of ended address n)) none
  unopened address n none (Some l) at = ap (λ b. (b || is_consumer_of address past l) && not (has_link_of ended address n)) none ∙ stood address n l at

  abbrev is_for : List ℕ → ℕ → Link → Bool
  is_for address n l = is_consumer l && bytes_eq l.address address && (l.number == n)

  opened : (address : List ℕ) (k : Link) → own_link e ≡ Some k
      → now address k.number (is_some_and (link_at k.number past) (is_consumer_of address past)) ≡ is_consumer_of address (e ∷ past) k
  opened address k own =
      ap (λ o. (is_some_and o (is_for address k.number) || is_some_and (link_at k.number past) (is_consumer_of address past)) && not (has_link_of ended address k.number)) own
      ∙ (ap (λ o. (is_for address k.number k || is_some_and o (is_consumer_of address past)) && not (has_link_of ended address k.number)) (none-stood address k own)
      ∙ (ap (λ b. (is_for address k.number k || false) && not b) (none-ended address k own)
      ∙ (ap (λ b. (is_consumer k && bytes_eq k.address address && b || false) && true) (eq-eqb k.number k.number refl)
      ∙ (still (is_consumer k && bytes_eq k.address address) ∙ ap (λ b. is_consumer k && bytes_eq k.address address && b) (sym (is_live-new rules e past k are own))))))
    where
      still : (c : Bool) → (c && true || false) && true ≡ c && true
      still true = refl
      still false = refl

  and_none : (a b : Bool) → b ≡ false → a && b ≡ false
  and_none true b is = is
  and_none false b is = refl

  pub consumer-next : (address : List ℕ) (n : ℕ) → now address n (is_some_and (link_at n past) (is_consumer_of address past)) ≡ is_some_and (link_at n (e ∷ past)) (is_consumer_of address (e ∷ past))
  consumer-next address n = by (own_link e) refl
    where
      of_another : (k : Link) → own_link e ≡ Some k → (b : Bool) → (k.number == n) ≡ b
          → now address n (is_some_and (link_at n past) (is_consumer_of address past)) ≡ is_some_and (if b then Some k else link_at n past) (is_consumer_of address (e ∷ past))
      of_another k own true same =
          subst (λ m. now address m (is_some_and (link_at m past) (is_consumer_of address past)) ≡ is_consumer_of address (e ∷ past) k) (eqb-true k.number n same) (opened address k own)
      of_another k own false other =
          unopened address n
          (ap (λ o. is_some_and o (is_for address n)) own ∙ and_none (is_consumer k && bytes_eq k.address address) (k.number == n) other)
          (link_at n past) refl

      by : (o : Option Link) → own_link e ≡ o → now address n (is_some_and (link_at n past) (is_consumer_of address past)) ≡ is_some_and (found_in n o) (is_consumer_of address (e ∷ past))
      by None own = unopened address n (ap (λ o. is_some_and o (is_for address n)) own) (link_at n past) refl
      by (Some k) own = of_another k own (k.number == n) refl
