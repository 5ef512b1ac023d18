-- What an event makes of the delivery to a client of a number.
use Rattle.std.proofs.Common.{◌≡◌, refl, sym, ap, ◌∙◌, ℕ, Bool, true, false, ◌||◌, List, ◌∷◌, length, Option, Some, None, find, option_map, if◌then◌else◌, ◌==◌, arith}
use Rattle.std.specs.List.{cons_option}
use Rattle.capture_form.specs.Rules.{RuleSet}
use Rattle.trace_events.specs.Words.{is_some_and}
use Rattle.trace_events.specs.Event.{Event, Outgoing}
use Rattle.trace_events.specs.Outgoing.{outgoing_begun, outgoing_deliveries, outgoing_at, is_settled_by_router}
use Rattle.trace_events.proofs.Judged.{AreJudged, judged-born, judged-number}
use Rattle.trace_events.proofs.Links.{passing}
use Rattle.state_outgoing.specs.Sent.{Sent, sent, sent_at, sent_next, sent_begun, sent_behind, unsent}
use Rattle.state_outgoing.proofs.SentSteps.{IsDecided, sent-moves}
use Rattle.state_outgoing.proofs.SentLinks.{begun-live, begun-lives, begun-number, found-lives}
use Rattle.state_outgoing.proofs.SentBegun.{found-below, at-number, by_consumer-none, by_router-none, unsent-before}
use Rattle.state_outgoing.proofs.SentDecided.{judged-decided}

module _ (rules : RuleSet) (e : Event) (past : List Event) (are : AreJudged rules (e ∷ past)) where
  -- neither side has settled it before
  undecided : (j : Outgoing) → length past ≡ j.number → IsDecided past j
  undecided j number unsettled live is =
      let c = by_consumer-none j rules past are.1 (omega (arith, number)) in
      let r = by_router-none j rules past are.1 (omega (arith, number)) in
      let never : true ≡ false = sym is ∙ (ap (λ b. b || is_settled_by_router j past) c ∙ r) in
      absurd cc

  begun-moves : (j : Outgoing) → outgoing_begun e ≡ Some j → sent (e ∷ past) j ≡ sent_next e (unsent j)
  begun-moves j begun =
      let number = begun-number rules e past are j begun in
      sent-moves e past j (begun-lives rules e past are j begun) (undecided j (sym number))
      ∙ ap (sent_next e) (unsent-before j rules past are.1 (omega (arith, number)) (begun-live rules e past are j begun))

  module _ (n : ℕ) where
    older : option_map (sent (e ∷ past)) (outgoing_at n past) ≡ option_map (sent_next e) (sent_at n past)
    older = by (outgoing_at n past) refl
      where
        by : (o : Option Outgoing) → outgoing_at n past ≡ o → option_map (sent (e ∷ past)) o ≡ option_map (sent_next e) (option_map (sent past) o)
        by None none = refl
        by (Some j) found = ap Some (sent-moves e past j (found-lives rules e past are n j found) (judged-decided rules past are.1 n j found))

    abbrev after : Option Outgoing → Option Sent
    after o = if is_some_and o (λ j. j.number == n) then option_map (λ j. sent_next e (unsent j)) o else option_map (sent_next e) (sent_at n past)

    -- what one event makes of it
    pub sent-behind : sent_at n (e ∷ past) ≡ sent_behind e n (sent_at n past)
    sent-behind = by (outgoing_begun e) refl
      where
        named : (j : Outgoing) → outgoing_begun e ≡ Some j → (b : Bool) → option_map (sent (e ∷ past)) (if b then Some j else outgoing_at n past)
            ≡ (if b then Some (sent_next e (unsent j)) else option_map (sent_next e) (sent_at n past))
        named j begun true = ap Some (begun-moves j begun)
        named j begun false = older

        by : (o : Option Outgoing) → outgoing_begun e ≡ o → sent_at n (e ∷ past) ≡ sent_behind e n (sent_at n past)
        by None none = ap (λ o. option_map (sent (e ∷ past)) (find (λ (j : Outgoing). j.number == n) (cons_option o (outgoing_deliveries past)))) none ∙ (older ∙ sym (ap after none))
        by (Some j) begun =
            ap (λ o. option_map (sent (e ∷ past)) (find (λ (j : Outgoing). j.number == n) (cons_option o (outgoing_deliveries past)))) begun
            ∙ (named j begun (j.number == n) ∙ sym (ap after begun))

  -- the number of the event's own delivery
  pub unbegun : sent_at e.number past ≡ None
  unbegun = by (outgoing_at e.number past) refl
    where
      by : (o : Option Outgoing) → outgoing_at e.number past ≡ o → option_map (sent past) o ≡ None
      by None none = refl
      by (Some j) found =
          let lt = found-below past (judged-born rules past are.1) e.number j found in
          let is = at-number past e.number j found in
          let here = judged-number rules e past are in
          absurd (omega (arith, lt, is, here))

  pub sent-first : sent_at e.number (e ∷ past) ≡ sent_begun e
  sent-first = sent-behind e.number ∙ by (outgoing_begun e) refl
    where
      by : (o : Option Outgoing) → outgoing_begun e ≡ o
          → (if is_some_and o (λ j. j.number == e.number) then option_map (λ j. sent_next e (unsent j)) o else option_map (sent_next e) (sent_at e.number past))
          ≡ option_map (λ j. sent_next e (unsent j)) o
      by None none = ap (option_map (sent_next e)) unbegun
      by (Some j) begun =
          ap (λ b. if b then Some (sent_next e (unsent j)) else option_map (sent_next e) (sent_at e.number past))
          (passing (λ (x : Outgoing). x.number == e.number) e.outgoing j begun).1
