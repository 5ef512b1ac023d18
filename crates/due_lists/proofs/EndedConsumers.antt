-- The links of consumers among those that an event ends are those that it detaches.
use Rattle.std.proofs.Common.{◌≡◌, refl, sym, ap, ◌∙◌, ◌↔◌, inl, inr, ℕ, Bool, true, false, ◌&&◌, ◌||◌, not, List, [], ◌∷◌, Option, Some, None, filter, option_and_then, if◌then◌else◌, ◌==◌, eqb-true, eq-eqb}
use Rattle.std.specs.Prelude.{Contains}
use Rattle.std.specs.List.{list_any}
use Rattle.capture_form.specs.Rules.{RuleSet}
use Rattle.trace_events.specs.Words.{is_some_and}
use Rattle.trace_events.specs.Event.{Event, Link}
use Rattle.trace_events.specs.declared.session.Session.{Session}
use Rattle.trace_events.specs.Connection.{is_over}
use Rattle.trace_events.specs.Session.{last_session}
use Rattle.trace_events.specs.Ends.{ends_link}
use Rattle.trace_events.specs.Link.{is_consumer, is_live, links, link_at, session_link, IsLiveLink}
use Rattle.trace_events.proofs.Along.{some_passes}
use Rattle.trace_events.proofs.Judged.{AreJudged}
use Rattle.trace_events.proofs.LinkLives.{judged-stands}
use Rattle.trace_events.proofs.Links.{IsKnown}
use Rattle.trace_events.proofs.LinkNumbers.{any-at, judged-found, same-sym}
use Rattle.trace_events.proofs.SessionNumbers.{last_session-known}
use Rattle.trace_events.proofs.LinkEnds.{is_live-next, lives-live}
use Rattle.state_answers.proofs.LiveKnown.{live-known, live-lives}
use Rattle.trace_events.proofs.WaitingQueue.{contains_none, contains_first, contains_later, contains_cases, in_filter, filter_has}
use Rattle.trace_duties.specs.Consumers.{detaches_consumer}

-- ---- what a test finds in a list

or_last : (a b : Bool) → b ≡ true → a || b ≡ true
or_last true b is = refl
or_last false b is = is

pub any-gives : {A : Type 0} (p : A → Bool) (xs : List A) (x : A) → Contains xs x → p x ≡ true → list_any p xs ≡ true
any-gives p [] x there is = contains_none x there
any-gives p (y ∷ ys) x there is = elim (contains_cases y ys x there) [
  | inl same ↦ ap (λ b. b || list_any p ys) (ap p same ∙ is)
  | inr later ↦ or_last (p y) (list_any p ys) (any-gives p ys x later is)
]

pub any-from : {A : Type 0} (p : A → Bool) (xs : List A) → list_any p xs ≡ true → (x : A) × Contains xs x × (p x ≡ true)
any-from p [] is = absurd cc
any-from {A = A} p (y ∷ ys) is = by (p y) refl is (any-from p ys)
  where
    by : (b : Bool) → p y ≡ b → b || list_any p ys ≡ true → (list_any p ys ≡ true → (x : A) × Contains ys x × (p x ≡ true)) → (x : A) × Contains (y ∷ ys) x × (p x ≡ true)
    by true passes any rest = (y, contains_first y ys, passes)
    by false passes any rest = let found = rest any in (found.0, contains_later y ys found.0 found.1, found.2)

pub and_first : (a b : Bool) → a && b ≡ true → a ≡ true
and_first true b is = refl
and_first false b is = absurd cc

pub and_last : (a b : Bool) → a && b ≡ true → b ≡ true
and_last true b is = is
and_last false b is = absurd cc

pub and_both : (a b : Bool) → a ≡ true → b ≡ true → a && b ≡ true
and_both true b first second = second
and_both false b first second = absurd cc

-- two tests that imply each other are one
pub both-ways : (a b : Bool) → (a ≡ true → b ≡ true) → (b ≡ true → a ≡ true) → a ≡ b
both-ways true b there back = sym (there refl)
both-ways false true there back = back refl
both-ways false false there back = refl

-- ---- those that end

not_true : (b : Bool) → not b ≡ true → b ≡ false
not_true true is = absurd cc
not_true false is = refl

ends-by : (ends : Bool) → true && not ends ≡ false → ends ≡ true
ends-by true is = refl
ends-by false is = absurd cc

module _ (rules : RuleSet) (e : Event) (past : List Event) (are : AreJudged rules (e ∷ past)) (ended : List Link)
    (all : (l : Link) → Contains ended l ↔ IsLiveLink l past × (ends_link l e ≡ true)) where
  detached : (n : ℕ) (l : Link) → link_at n past ≡ Some l → is_consumer l ≡ true → IsLiveLink l past → ends_link l e ≡ true → is_some_and (link_at n past) (detaches_consumer e past) ≡ true
  detached n l at consumes live ends =
      let lives = live-lives rules past are.1 l live in
      let over : is_live (e ∷ past) l ≡ false =
      is_live-next rules e past are l (live-known rules past are.1 l live).at ∙ (ap (λ b. b && not (ends_link l e)) lives ∙ ap not ends) in
      ap (λ (o : Option Link). is_some_and o (detaches_consumer e past)) at
      ∙ and_both (is_consumer l && is_live past l) (not (is_live (e ∷ past) l)) (and_both (is_consumer l) (is_live past l) consumes lives) (ap not over)

  there : (n : ℕ) → list_any (λ l. n == l.number) (filter is_consumer ended) ≡ true → is_some_and (link_at n past) (detaches_consumer e past) ≡ true
  there n is =
      let found = any-from (λ (l : Link). n == l.number) (filter is_consumer ended) is in
      let l = found.0 in
      let of = in_filter is_consumer ended l found.1 in
      let ends = (all l).0 of.0 in
      detached n l (ap (λ m. link_at m past) (eqb-true n l.number found.2) ∙ (live-known rules past are.1 l ends.0).at) of.1 ends.0 ends.1

  back : (n : ℕ) → is_some_and (link_at n past) (detaches_consumer e past) ≡ true → list_any (λ l. n == l.number) (filter is_consumer ended) ≡ true
  back n is =
      let found = some_passes (detaches_consumer e past) (link_at n past) is in
      let l = found.0 in
      let own = (judged-found rules past are.1 n l found.1).0 in
      let at : link_at l.number past ≡ Some l = ap (λ m. link_at m past) own ∙ found.1 in
      let stood = and_first (is_consumer l && is_live past l) (not (is_live (e ∷ past) l)) found.2 in
      let lives = and_last (is_consumer l) (is_live past l) stood in
      let over = not_true (is_live (e ∷ past) l) (and_last (is_consumer l && is_live past l) (not (is_live (e ∷ past) l)) found.2) in
      let ends : ends_link l e ≡ true = ends-by (ends_link l e) (ap (λ b. b && not (ends_link l e)) (sym lives) ∙ (sym (is_live-next rules e past are l at) ∙ over)) in
      let in_it = filter_has is_consumer ended l (and_first (is_consumer l) (is_live past l) stood) ((all l).1 (lives-live rules past are.1 l at lives, ends)) in
      any-gives (λ (m : Link). n == m.number) (filter is_consumer ended) l in_it (same-sym n l.number ∙ eq-eqb l.number n own)

  pub ended-same : (n : ℕ) → list_any (λ l. n == l.number) (filter is_consumer ended) ≡ list_any (λ l. n == l.number) (filter (detaches_consumer e past) (links past))
  ended-same n =
      both-ways (list_any (λ (l : Link). n == l.number) (filter is_consumer ended)) (is_some_and (link_at n past) (detaches_consumer e past)) (there n) (back n)
      ∙ sym (any-at rules past are.1 (detaches_consumer e past) n)
