-- An address of whose first two consumers one lasts has a consumer behind the event.
use Rattle.std.proofs.Common.{◌≡◌, refl, sym, ap, subst, ◌∙◌, ℕ, Bool, true, false, ◌&&◌, ◌||◌, not, List, [], ◌∷◌, Option, Some, None, bytes_eq, find, slice_get, eqb-true, if◌then◌else◌, ◌==◌}
use Rattle.std.specs.List.{cons_option, list_any}
use Rattle.capture_form.specs.Rules.{RuleSet}
use Rattle.trace_events.specs.Words.{is_some_and, where_passes}
use Rattle.trace_events.specs.Event.{Event, Link}
use Rattle.trace_events.specs.Address.{has_consumer, is_consumer_of}
use Rattle.trace_events.specs.Ends.{ends_link}
use Rattle.trace_events.specs.Link.{is_consumer, is_live, link_at, links, own_link}
use Rattle.trace_events.proofs.Judged.{AreJudged}
use Rattle.trace_events.proofs.LinkEnds.{is_live-next}
use Rattle.trace_events.proofs.WaitingQueue.{find_has}
use Rattle.state_tables.specs.ConsumerLinks.{AreConsumerLinks, is_live_consumer}
use Rattle.state_tables.specs.Consumers.{numbers_at}
use Rattle.state_tables.specs.declared.consumers.Consumers.{Consumers}
use Rattle.state_tables.specs.declared.consumer_links.ConsumerLinks.{ConsumerLinks}
use Rattle.due_outcomes.specs.Untold.{has_lasting_consumer, is_lasting}
use Rattle.due_outcomes.proofs.Closings.{contained-any}
use Rattle.due_outcomes.proofs.UnderKeys.{or-last}
use Rattle.due_outcomes.proofs.UnsettledSteps.{and-both}

found-number : (xs : List Link) (n : ℕ) (l : Link) → find (λ m. m.number == n) xs ≡ Some l → l.number ≡ n
found-number xs n l found = eqb-true l.number n (passes xs found)
  where
    passes : (ys : List Link) → find (λ m. m.number == n) ys ≡ Some l → (l.number == n) ≡ true
    passes [] is = absurd cc
    passes (y ∷ ys) is = by (y.number == n) refl is (passes ys)
      where
        by : (b : Bool) → (y.number == n) ≡ b → (if b then Some y else find (λ m. m.number == n) ys) ≡ Some l → (find (λ m. m.number == n) ys ≡ Some l → (l.number == n) ≡ true) → (l.number == n) ≡ true
        by true here is later = let same : y ≡ l = cc in subst (λ (m : Link). (m.number == n) ≡ true) same here
        by false here is later = later is

or-either : (a b c : Bool) → a || b ≡ true → (a ≡ true → c ≡ true) → (b ≡ true → c ≡ true) → c ≡ true
or-either true b c is first second = first refl
or-either false b c is first second = second is

module _ (rules : RuleSet) (e : Event) (past : List Event) (are : AreJudged rules (e ∷ past)) (table : ConsumerLinks) (links-are : AreConsumerLinks table past) (address : List ℕ) where
  -- a link that stands there and lasts is one of its consumers
  one-lasts : (n : ℕ) (l : Link) → link_at n past ≡ Some l → is_live_consumer past l ≡ true → bytes_eq l.address address && not (ends_link l e) ≡ true → has_consumer address (e ∷ past) ≡ true
  one-lasts n l at lives lasting =
      let own : link_at l.number past ≡ Some l = ap (λ m. link_at m past) (found-number (links past) n l at) ∙ at in
      let live = and-both (is_consumer l) (is_live past l) lives in
      let there = and-both (bytes_eq l.address address) (not (ends_link l e)) lasting in
      let still : is_live (e ∷ past) l ≡ true = is_live-next rules e past are l own ∙ (ap (λ b. b && not (ends_link l e)) live.1 ∙ there.1) in
      let passes : is_consumer_of address (e ∷ past) l ≡ true = ap (λ b. b && bytes_eq l.address address && is_live (e ∷ past) l) live.0 ∙ (ap (λ b. b && is_live (e ∷ past) l) there.0 ∙ still) in
      among (own_link e) (contained-any (is_consumer_of address (e ∷ past)) (links past) l (find_has (λ m. m.number == n) (links past) l at) passes)
    where
      among : (o : Option Link) → list_any (is_consumer_of address (e ∷ past)) (links past) ≡ true → list_any (is_consumer_of address (e ∷ past)) (cons_option o (links past)) ≡ true
      among None is = is
      among (Some m) is = or-last (is_consumer_of address (e ∷ past) m) (list_any (is_consumer_of address (e ∷ past)) (links past)) is

  lasts-there : (number : Option ℕ) → is_lasting table e address number ≡ true → has_consumer address (e ∷ past) ≡ true
  lasts-there None is = absurd cc
  lasts-there (Some n) is = by (link_at n past) refl (sym (ap (λ o. is_some_and o test) (links-are n)) ∙ is)
    where
      test : Link → Bool
      test l = bytes_eq l.address address && not (ends_link l e)

      by : (o : Option Link) → link_at n past ≡ o → is_some_and (where_passes (is_live_consumer past) o) test ≡ true → has_consumer address (e ∷ past) ≡ true
      by None at is = absurd cc
      by (Some l) at is = live (is_live_consumer past l) refl is
        where
          live : (b : Bool) → is_live_consumer past l ≡ b → is_some_and (if b then Some l else None) test ≡ true → has_consumer address (e ∷ past) ≡ true
          live true lives is = one-lasts n l at lives is
          live false lives is = absurd cc

  pub lasting-consumer : (consumers : Consumers) → has_lasting_consumer consumers table e address ≡ true → has_consumer address (e ∷ past) ≡ true
  lasting-consumer consumers is =
      or-either (is_lasting table e address (slice_get (numbers_at consumers address) 0)) (is_lasting table e address (slice_get (numbers_at consumers address) 1)) (has_consumer address (e ∷ past)) is
      (lasts-there (slice_get (numbers_at consumers address) 0)) (lasts-there (slice_get (numbers_at consumers address) 1))
