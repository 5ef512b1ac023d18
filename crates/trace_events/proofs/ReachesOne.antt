-- In a lawful capture each anycast delivery reaches at most one consumer.
use Rattle.std.proofs.Common.{◌≡◌, refl, sym, ap, ◌∙◌, subst, ℕ, suc, ◌<◌, ◌≤◌, ◌⊎◌, inl, inr, List, [], ◌∷◌, length, Bool, true, false, cond, ◌||◌, Option, Some, None, find, filter, arith}
use Rattle.std.specs.List.{cons_option}
use Rattle.capture_form.specs.declared.records.Record.{Record}
use Rattle.capture_form.specs.Rules.{RuleSet}
use Rattle.trace_events.specs.Event.{Event, Incoming, Outgoing}
use Rattle.trace_events.specs.Incoming.{completes, is_complete, incoming_begun, incoming_at}
use Rattle.trace_events.specs.Outgoing.{outgoing_begun, outgoing_deliveries, names, pairing, is_paired}
use Rattle.trace_events.specs.Waiting.{is_of_multicast}
use Rattle.trace_events.specs.History.{history}
use Rattle.trace_events.specs.Clauses.{first_broken}
use Rattle.trace_events.specs.Kept.{carriers, ReachesOne}
use Rattle.trace_events.proofs.Judged.{AreJudged, history-judged, judged-number}
use Rattle.trace_events.proofs.WaitingSteps.{is_of_multicast-same}
use Rattle.trace_events.proofs.ClausesMet.{lawful-past}
use Rattle.trace_events.proofs.Incomings.{judged-part, judged-sound, not-again}
use Rattle.trace_events.proofs.OneConsumer.{carried-at, found-at, none-at, none-found, none-named, not-some}

-- ---- nothing carries a delivery that isn't complete

module _ (rules : RuleSet) (e : Event) (past : List Event) (are : AreJudged rules (e ∷ past)) (lawful : first_broken rules (e ∷ past) ≡ None)
    (n : ℕ) (d : Incoming) (found : incoming_at n past ≡ Some d) (incomplete : is_complete d past ≡ false) (before : carriers n past ≡ []) where
  uncarried-by : (j : Outgoing) → outgoing_begun e ≡ Some j → (b : Bool) → names n j.note ≡ b → cond b (j ∷ carriers n past) (carriers n past) ≡ []
  uncarried-by j begun true named =
      let at = carried-at rules e past are lawful j begun n named in
      let both : ◌≡◌ {A = Option Incoming} (Some at.0) (Some d) = sym at.1 ∙ found in
      let same : at.0 ≡ d = cc in
      let done : is_complete d past ≡ true = subst (λ (x : Incoming). is_complete x past ≡ true) same at.5 in
      absurd cc
  uncarried-by j begun false named = before

  uncarried-at : (o : Option Outgoing) → outgoing_begun e ≡ o → filter (λ j. names n j.note) (cons_option o (outgoing_deliveries past)) ≡ []
  uncarried-at None begun = before
  uncarried-at (Some j) begun = uncarried-by j begun (names n j.note) refl

-- nor one that begins with the event
module _ (rules : RuleSet) (e : Event) (past : List Event) (are : AreJudged rules (e ∷ past)) (lawful : first_broken rules (e ∷ past) ≡ None)
    (n : ℕ) (new : n ≡ length past) (before : carriers n past ≡ []) where
  uncarried-new : (o : Option Outgoing) → outgoing_begun e ≡ o → filter (λ j. names n j.note) (cons_option o (outgoing_deliveries past)) ≡ []
  uncarried-new None begun = before
  uncarried-new (Some j) begun = by (names n j.note) refl
    where
      by : (b : Bool) → names n j.note ≡ b → cond b (j ∷ carriers n past) (carriers n past) ≡ []
      by true named = let at = carried-at rules e past are lawful j begun n named in let lt = at.2 in absurd (omega (arith, lt, new))
      by false named = before

or-none : (b c : Bool) → b || c ≡ false → c ≡ false
or-none true c e = absurd cc
or-none false c e = e

uncarried : (rules : RuleSet) (past : List Event) → AreJudged rules past → first_broken rules past ≡ None → (n : ℕ) (d : Incoming) → incoming_at n past ≡ Some d → is_complete d past ≡ false
    → carriers n past ≡ []
uncarried rules [] are lawful n d found incomplete = refl
uncarried rules (e ∷ past) are lawful n d found incomplete = by (uncarried rules past are.1 was_lawful n d) (found-at rules e past are n d (incoming_begun e) refl found)
  where
    was_lawful : first_broken rules past ≡ None
    was_lawful = lawful-past rules e past lawful

    was_incomplete : is_complete d past ≡ false
    was_incomplete = or-none (completes d e) (is_complete d past) incomplete

    by : (incoming_at n past ≡ Some d → is_complete d past ≡ false → carriers n past ≡ []) → (incoming_at n past ≡ Some d) ⊎ (n ≡ length past) → carriers n (e ∷ past) ≡ []
    by earlier (inl old) = uncarried-at rules e past are lawful n d old was_incomplete (earlier old was_incomplete) (outgoing_begun e) refl
    by earlier (inr new) = uncarried-new rules e past are lawful n new (none-named rules past are.1 was_lawful n (omega (arith, new))) (outgoing_begun e) refl

-- ---- one at most

module _ (rules : RuleSet) (e : Event) (past : List Event) (are : AreJudged rules (e ∷ past)) (lawful : first_broken rules (e ∷ past) ≡ None)
    (n : ℕ) (d : Incoming) (anycast : is_of_multicast rules d past ≡ false) (before : ReachesOne rules past) where
  few-before : (incoming_at n past ≡ Some d) ⊎ (n ≡ length past) → length (carriers n past) ≤ 1
  few-before (inl found) = before n d found anycast
  few-before (inr same) =
      let none : carriers n past ≡ [] = none-named rules past are.1 (lawful-past rules e past lawful) n (omega (arith, same)) in
      rw none (omega arith)

  -- the one that begins finds none before it
  first-of : (j : Outgoing) → outgoing_begun e ≡ Some j → names n j.note ≡ true → (incoming_at n past ≡ Some d) ⊎ (n ≡ length past) → carriers n past ≡ []
  first-of j begun named (inr same) =
      let at = carried-at rules e past are lawful j begun n named in let lt = at.2 in absurd (omega (arith, lt, same))
  first-of j begun named (inl found) =
      let at = carried-at rules e past are lawful j begun n named in
      let both : ◌≡◌ {A = Option Incoming} (Some at.0) (Some d) = sym at.1 ∙ found in
      let same : at.0 ≡ d = cc in
      let unpaired : is_paired at.0 past ≡ false = at.4 (ap (λ x. is_of_multicast rules x past) same ∙ anycast) in
      let none : filter (λ k. names at.0.number k.note) (outgoing_deliveries past) ≡ [] =
      none-found (λ (k : Outgoing). names at.0.number k.note) (outgoing_deliveries past) (not-some (pairing at.0 past) unpaired) in
      sym (ap (λ m. carriers m past) at.3) ∙ none

  few-by : (j : Outgoing) → outgoing_begun e ≡ Some j → (incoming_at n past ≡ Some d) ⊎ (n ≡ length past) → (b : Bool) → names n j.note ≡ b
      → length (cond b (j ∷ carriers n past) (carriers n past)) ≤ 1
  few-by j begun found true named = rw (first-of j begun named found) (omega arith)
  few-by j begun found false named = few-before found

  few-at : (o : Option Outgoing) → outgoing_begun e ≡ o → (incoming_at n past ≡ Some d) ⊎ (n ≡ length past)
      → length (filter (λ j. names n j.note) (cons_option o (outgoing_deliveries past))) ≤ 1
  few-at None begun found = few-before found
  few-at (Some j) begun found = few-by j begun found (names n j.note) refl

reaches_one : (rules : RuleSet) (past : List Event) → AreJudged rules past → first_broken rules past ≡ None → ReachesOne rules past
reaches_one rules [] are lawful n d found anycast = omega arith
reaches_one rules (e ∷ past) are lawful n d found anycast = by (reaches_one rules past are.1 was_lawful) (completes d e) refl (found-at rules e past are n d (incoming_begun e) refl found)
  where
    was_lawful : first_broken rules past ≡ None
    was_lawful = lawful-past rules e past lawful

    -- one that the event completes was carried by nothing
    begun_once : carriers n past ≡ [] → (o : Option Outgoing) → length (filter (λ j. names n j.note) (cons_option o (outgoing_deliveries past))) ≤ 1
    begun_once none None = rw none (omega arith)
    begun_once none (Some j) = once (names n j.note)
      where
        once : (b : Bool) → length (cond b (j ∷ carriers n past) (carriers n past)) ≤ 1
        once true = rw none (omega arith)
        once false = rw none (omega arith)

    by : ReachesOne rules past → (b : Bool) → completes d e ≡ b → (incoming_at n past ≡ Some d) ⊎ (n ≡ length past) → length (carriers n (e ∷ past)) ≤ 1
    by before false still at = few-at rules e past are lawful n d (sym (is_of_multicast-same d e past rules still) ∙ anycast) before (outgoing_begun e) refl at
    by before true here (inr new) = begun_once (none-named rules past are.1 was_lawful n (omega (arith, new))) (outgoing_begun e)
    by before true here (inl old) = begun_once (uncarried rules past are.1 was_lawful n d old (undone (is_complete d past) refl)) (outgoing_begun e)
      where
        undone : (c : Bool) → is_complete d past ≡ c → is_complete d past ≡ false
        undone false is = is
        undone true is =
            let never : completes d e ≡ false = not-again e past (judged-number rules e past are) (judged-part rules e past are) (judged-sound rules past are.1) d is in absurd cc

-- the law of a capture
pub lawful-reaches-one : (rules : RuleSet) (rs : List Record) → first_broken rules (history rules rs) ≡ None → ReachesOne rules (history rules rs)
lawful-reaches-one rules rs lawful = reaches_one rules (history rules rs) (history-judged rules rs) lawful
