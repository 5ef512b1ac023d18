-- What the numbers of a live link answer of the copies that are to be sent on it.
use Rattle.std.proofs.Common.{◌≡◌, refl, sym, ap, ◌∙◌, ◌↔◌, ℕ, Bool, true, false, ◌||◌, not, IsTrue, List, [], ◌∷◌, length, Option, Some, None, if◌then◌else◌, ◌==◌, eq-eqb, ne_eqb, arith}
use Rattle.capture_form.specs.Rules.{RuleSet}
use Rattle.trace_events.specs.Words.{is_some_and, where_passes}
use Rattle.trace_events.specs.Event.{Event, Link, Incoming}
use Rattle.trace_events.specs.declared.session.Session.{Session}
use Rattle.trace_events.specs.Connection.{is_over}
use Rattle.trace_events.specs.Due.{has_unsent, is_unsent}
use Rattle.trace_events.specs.Incoming.{incoming_at, incoming_deliveries}
use Rattle.trace_events.specs.Link.{is_live, link_at, session_link, IsLiveLink}
use Rattle.trace_events.specs.Session.{last_session}
use Rattle.trace_events.specs.Work.{unsent_copies}
use Rattle.trace_events.proofs.Judged.{AreJudged}
use Rattle.trace_events.proofs.LinkLives.{judged-stands}
use Rattle.trace_events.proofs.SessionNumbers.{last_session-known}
use Rattle.trace_events.proofs.IncomingProgress.{judged-kept}
use Rattle.trace_events.proofs.Parts.{IsKept, each_delivery}
use Rattle.trace_events.proofs.UnsentCopies.{has_unsent_listed, listed_unsent, unsent_listed}
use Rattle.trace_events.proofs.WaitingQueue.{all_contained, find_has}
use Rattle.state_tables.specs.Copies.{copies_on, copies_at, has_delivery}
use Rattle.state_tables.proofs.CopyNumbers.{number-of, number-from}

last_of : (over : Bool) (last : Option Session) (s : Session) → (if over then None else last) ≡ Some s → last ≡ Some s
last_of true last s is = absurd cc
last_of false last s is = is

none-empty : (ds : List Incoming) → ((n : ℕ) → has_delivery n ds ≡ false) → (length ds == 0) ≡ true
none-empty [] none = refl
none-empty (d ∷ ds) none = let never : true ≡ false = sym (ap (λ b. b || has_delivery d.number ds) (eq-eqb d.number d.number refl)) ∙ none d.number in absurd cc

empty-none : (ds : List Incoming) → (length ds == 0) ≡ true → (n : ℕ) → has_delivery n ds ≡ false
empty-none [] is n = refl
empty-none (d ∷ ds) is n = let never : (length (d ∷ ds) == 0) ≡ false = ne_eqb (length (d ∷ ds)) 0 (λ same. omega (arith, same)) in absurd cc

-- a list is empty where nothing has any number
pub empty-is : (ds : List Incoming) (empty : Bool) → IsTrue empty ↔ ((n : ℕ) → has_delivery n ds ≡ false) → empty ≡ (length ds == 0)
empty-is ds true says = sym (none-empty ds (says.0 refl))
empty-is ds false says = by (length ds == 0) refl
  where
    by : (b : Bool) → (length ds == 0) ≡ b → false ≡ b
    by false is = refl
    by true is = let never : false ≡ true = says.1 (empty-none ds is) in never

module _ (rules : RuleSet) (past : List Event) (are : AreJudged rules past) (l : Link) (live : IsLiveLink l past) where
  found : link_at l.number past ≡ Some l
  found =
      let s = l.session in
      let session = last_session-known rules past are s.connection s.channel s (last_of (is_over s.connection past) (last_session s.connection s.channel past) s live.0) in
      ((judged-stands rules past are).known s l.handle l session live.1).at

  lives : is_live past l ≡ true
  lives =
      ap (λ (o : Option Session). is_some_and (on o) (λ (m : Link). m.number == l.number)) live.0
      ∙ (ap (λ (o : Option Link). is_some_and o (λ m. m.number == l.number)) live.1 ∙ eq-eqb l.number l.number refl)
    where
      on : Option Session → Option Link
      on None = None
      on (Some s) = session_link s l.handle past

  -- the numbers of a live link are those of its list
  pub copies-here : copies_at rules l.number past ≡ unsent_copies rules l past
  copies-here = ap (λ o. copies_on rules past (where_passes (is_live past) o)) found ∙ ap (λ b. copies_on rules past (if b then Some l else None)) lives

  pub has-unsent : (empty : Bool) → IsTrue empty ↔ ((n : ℕ) → has_delivery n (copies_at rules l.number past) ≡ false) → not empty ≡ has_unsent rules l past
  has-unsent empty says =
      ap not (empty-is (copies_at rules l.number past) empty says ∙ ap (λ ds. length ds == 0) copies-here) ∙ sym (has_unsent_listed rules l past (judged-kept rules past are))

  -- a delivery of the history stands there just where a copy of it is unsent
  pub unsent-is : (d : Incoming) → incoming_at d.number past ≡ Some d → has_delivery d.number (copies_at rules l.number past) ≡ is_unsent rules d l past
  unsent-is d at = ap (has_delivery d.number) copies-here ∙ by (has_delivery d.number (unsent_copies rules l past)) refl (is_unsent rules d l past) refl
    where
      by : (a : Bool) → has_delivery d.number (unsent_copies rules l past) ≡ a → (b : Bool) → is_unsent rules d l past ≡ b → a ≡ b
      by true listed true unsent = refl
      by false listed false unsent = refl
      by false listed true unsent =
          sym listed
          ∙ number-of (unsent_copies rules l past) d (unsent_listed rules l past (judged-kept rules past are) d (find_has (λ (x : Incoming). x.number == d.number) (incoming_deliveries past) d at) unsent)
      by true listed false unsent =
          let x = number-from d.number (unsent_copies rules l past) listed in
          let of = listed_unsent rules l past (judged-kept rules past are) x.0 x.1.0 in
          let kept = all_contained (IsKept past) (incoming_deliveries past) x.0 (each_delivery (IsKept past) past (judged-kept rules past are).each) of.0 in
          let both : ◌≡◌ {A = Option Incoming} (Some x.0) (Some d) = sym kept.at ∙ (ap (λ n. incoming_at n past) (sym x.1.1) ∙ at) in
          let same : x.0 ≡ d = cc in
          sym of.1 ∙ (ap (λ (y : Incoming). is_unsent rules y l past) same ∙ unsent)
