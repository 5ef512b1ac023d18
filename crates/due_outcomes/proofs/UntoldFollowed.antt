-- A list that takes an event, part by part, follows it.
use Rattle.std.proofs.Common.{◌≡◌, refl, sym, ap, ◌∙◌, ℕ, Bool, true, false, ◌&&◌, ◌||◌, not, List, ◌∷◌, Option, Some, IfSome, is_some, nat_eq, ◌==◌}
use Rattle.std.specs.Prelude.{Contains}
use Rattle.std.specs.List.{list_any}
use Rattle.number_groups.specs.Groups.{is_member}
use Rattle.number_groups.specs.OctetGroups as octets
use Rattle.number_groups.specs.declared.groups.Groups.{Groups}
use Rattle.number_groups.specs.declared.octet_groups.OctetGroups.{OctetGroups}
use Rattle.capture_form.specs.Rules.{RuleSet}
use Rattle.trace_events.specs.Words.{is_number, is_some_and}
use Rattle.trace_events.specs.Event.{Event, Link, Incoming, Outgoing}
use Rattle.trace_events.specs.Address.{has_consumer, has_multicast}
use Rattle.trace_events.specs.Link.{is_consumer}
use Rattle.trace_events.specs.Incoming.{address_of, completed_by, incoming_at, incoming_deliveries}
use Rattle.trace_events.specs.Outgoing.{answering, names, outgoing_begun, outgoing_deliveries}
use Rattle.trace_events.specs.Waiting.{is_waiting}
use Rattle.trace_events.proofs.Judged.{AreJudged}
use Rattle.trace_events.proofs.IncomingProgress.{judged-kept}
use Rattle.trace_events.proofs.Parts.{IsKept, each_delivery}
use Rattle.trace_events.proofs.WaitingQueue.{all_contained}
use Rattle.state_tables.specs.EndedLinks.{AreEnded}
use Rattle.number_groups.specs.Ascending.{has}
use Rattle.state_outgoing.specs.Sent.{is_left_unsettled}
use Rattle.state_verdicts.specs.Verdicts.{awaits_at}
use Rattle.due_outcomes.specs.Untold.{IsOn, KeepsOn}
use Rattle.number_groups.specs.declared.ascending.Ascending.{Ascending}
use Rattle.due_outcomes.specs.declared.untold.Untold.{Untold}
use Rattle.due_outcomes.proofs.Closings.{contained-any}
use Rattle.due_outcomes.proofs.LostConsumers.{lost-link}
use Rattle.due_outcomes.proofs.UnderKeys.{or-first, or-last}
use Rattle.due_outcomes.proofs.UntoldSteps.{IsFollowed}

module _ (rules : RuleSet) (e : Event) (past : List Event) (are : AreJudged rules (e ∷ past)) (u0 u2 : Untold) (c1 c3 c5 c6 c7 c8 : Ascending) (completed carried : Option ℕ) (told : ℕ → Bool) (on_link : Groups ℕ) (waiting : OctetGroups) (ended : List Link)
    (add1 : (n : ℕ) → has c1 n ≡ (has u0.candidates n || is_number completed n)) (names1 : (n : ℕ) → is_number completed n ≡ is_some_and (completed_by e) (λ d. d.number == n))
    (begun2 : IfSome (outgoing_begun e) (λ j. (n : ℕ) → names n j.note ≡ true → has_multicast rules j.link.address ≡ false → IsOn u2.carried j n))
    (kept2 : KeepsOn u0.carried u2.carried) (same2 : u2.candidates ≡ c1)
    (add3 : (n : ℕ) → has c3 n ≡ (has u2.candidates n || is_number carried n)) (names3 : (n : ℕ) → is_number carried n ≡ is_some_and e.outgoing (λ j. names n j.note))
    (add5 : (n : ℕ) → has c5 n ≡ (has c3 n || told n))
    (spoken5 : (j : Outgoing) → Contains (outgoing_deliveries past) j → is_left_unsettled past j ≡ true → is_some (answering j e) ≡ true → (n : ℕ) → names n j.note ≡ true → told n ≡ true)
    (add6 : (n : ℕ) → has c6 n ≡ (has c5 n || list_any (λ l. is_member nat_eq u2.carried l.number n) ended))
    (add7 : (n : ℕ) → has c7 n ≡ (has c6 n || list_any (λ l. is_member nat_eq on_link l.number n) ended))
    (awaited7 : (link n : ℕ) → is_member nat_eq on_link link n ≡ awaits_at rules past link n)
    (keeps : List ℕ → Bool) (keeps8 : (address : List ℕ) → keeps address ≡ true → has_consumer address (e ∷ past) ≡ true)
    (add8 : (n : ℕ) → has c8 n ≡ (has c7 n || list_any (λ l. is_consumer l && not (keeps l.address) && octets.is_member waiting l.address n) ended))
    (waits8 : (d : Incoming) → incoming_at d.number past ≡ Some d → is_waiting rules d past ≡ true → octets.is_member waiting (address_of d past) d.number ≡ true)
    (over : AreEnded e past ended) where
  -- the list, with all candidates
  abbrev Later : Untold
  Later = record u2 { candidates = c8 }

  from7 : (n : ℕ) → has c7 n ≡ true → has c8 n ≡ true
  from7 n is = add8 n ∙ or-first (has c7 n) (list_any (λ l. is_consumer l && not (keeps l.address) && octets.is_member waiting l.address n) ended) is

  from6 : (n : ℕ) → has c6 n ≡ true → has c8 n ≡ true
  from6 n is = from7 n (add7 n ∙ or-first (has c6 n) (list_any (λ l. is_member nat_eq on_link l.number n) ended) is)

  from5 : (n : ℕ) → has c5 n ≡ true → has c8 n ≡ true
  from5 n is = from6 n (add6 n ∙ or-first (has c5 n) (list_any (λ l. is_member nat_eq u2.carried l.number n) ended) is)

  from3 : (n : ℕ) → has c3 n ≡ true → has c8 n ≡ true
  from3 n is = from5 n (add5 n ∙ or-first (has c3 n) (told n) is)

  from1 : (n : ℕ) → has c1 n ≡ true → has c8 n ≡ true
  from1 n is = from3 n (add3 n ∙ or-first (has u2.candidates n) (is_number carried n) (ap (λ c. has c n) same2 ∙ is))

  both : (a b : Bool) → a ≡ true → b ≡ true → a && b ≡ true
  both a b is so = ap (λ x. x && b) is ∙ so

  not-kept : (b : Bool) → (b ≡ true → true ≡ false) → not b ≡ true
  not-kept false never = refl
  not-kept true never = sym (never refl)

  begun-at : (d : Incoming) → Contains (incoming_deliveries past) d → incoming_at d.number past ≡ Some d
  begun-at d there = (all_contained (IsKept past) (incoming_deliveries past) d (each_delivery (IsKept past) past (judged-kept rules past are.1).each) there).at

  pub followed : IsFollowed rules e past u0 Later
  followed = record {
    grown = λ n is. from1 n (add1 n ∙ or-first (has u0.candidates n) (is_number completed n) is);
    completed = λ d is. from1 d.number (add1 d.number ∙ or-last (has u0.candidates d.number) (is_number completed d.number) (names1 d.number ∙ is));
    named = λ n is. from3 n (add3 n ∙ or-last (has u2.candidates n) (is_number carried n) (names3 n ∙ is));
    begun = begun2;
    kept = kept2;
    over = λ j n is lives ends. from6 n (add6 n ∙ or-last (has c5 n) (list_any (λ l. is_member nat_eq u2.carried l.number n) ended)
        (contained-any (λ (l : Link). is_member nat_eq u2.carried l.number n) ended j.link ((over j.link).1 (lives, ends)) is));
    spoken = λ j begun opens speaks n named. from5 n (add5 n ∙ or-last (has c3 n) (told n) (spoken5 j begun opens speaks n named));
    awaited = λ l n lives ends awaits. from7 n (add7 n ∙ or-last (has c6 n) (list_any (λ m. is_member nat_eq on_link m.number n) ended)
        (contained-any (λ (m : Link). is_member nat_eq on_link m.number n) ended l ((over l).1 (lives, ends)) (awaited7 l.number n ∙ awaits)));
    lost = λ d there so had none. let l = lost-link rules e past are (address_of d past) had none in
        add8 d.number ∙ or-last (has c7 d.number) (list_any (λ m. is_consumer m && not (keeps m.address) && octets.is_member waiting m.address d.number) ended)
        (contained-any (λ (m : Link). is_consumer m && not (keeps m.address) && octets.is_member waiting m.address d.number) ended l.link ((over l.link).1 (l.lives, l.ends))
        (both (is_consumer l.link && not (keeps l.link.address)) (octets.is_member waiting l.link.address d.number)
        (both (is_consumer l.link) (not (keeps l.link.address)) l.consumes (not-kept (keeps l.link.address) (λ is. sym (keeps8 l.link.address is) ∙ (ap (λ a. has_consumer a (e ∷ past)) l.at ∙ none))))
        (ap (λ a. octets.is_member waiting a d.number) l.at ∙ waits8 d (begun-at d there) so)));
  }
