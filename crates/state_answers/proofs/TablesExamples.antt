-- What is let go, and what is kept of it, at small tables and captures.
use Rattle.std.proofs.Common.{◌≡◌, refl, sym, ap, ◌∙◌, inl, inr, ℕ, ◌+◌, true, false, List, [], ◌∷◌, ◌++◌, length, Some, None, is_some, arith}
use Rattle.std.proofs.lemmas.List.{length-append}
use Rattle.amqp_perf.specs.Meaning.{ATransfer}
use Rattle.capture_form.specs.declared.records.Record.{Record}
use Rattle.capture_form.specs.Rules.{no_rules}
use Rattle.trace_events.specs.History.{history}
use Rattle.trace_events.specs.Words.{is_some_and}
use Rattle.trace_events.proofs.Captures.{broken_of}
use Rattle.trace_events.proofs.Made.{from_with, carry, first, hi, sent}
use Rattle.state_tables.specs.ConsumerLinks.{consumer_at}
use Rattle.state_incoming.specs.HeldTables.{held_in, number_at}
use Rattle.state_incoming.specs.LetGo.{is_spent}
use Rattle.state_outgoing.specs.LastBegun.{is_last_let_go}
use Rattle.state_answers.specs.Tables.{IsReady, IsToGo, IsTurnOfLast, KeepsLast, LetsGoAtMost, is_carried_last}
use Rattle.state_answers.specs.declared.tables.Tables.{Tables}

-- ---- what is carried last on a live link is kept

-- deliveries 16 and 17 of a producer go to the consumer's link 13
abbrev two : List Record
two = sent ++ (from_with 0 (ATransfer (first 1)) hi ∷ carry 1 16 (first 0) hi ∷ carry 1 17 (first 1) hi ∷ [])

lives : is_some (consumer_at 13 (history no_rules two)) ≡ true
unfolding broken_of
lives = refl

last_gone : is_last_let_go ((17, tt) ∷ []) 13 (history no_rules two) ≡ true
unfolding broken_of
last_gone = refl

first_gone : is_last_let_go ((16, tt) ∷ []) 13 (history no_rules two) ≡ false
unfolding broken_of
first_gone = refl

-- the last one of that link was let go
last_is_gone : KeepsLast ((17, tt) ∷ []) (history no_rules two) → ⊥
last_is_gone keeps = let never : true ≡ false = sym last_gone ∙ keeps 13 lives in absurd cc

-- without links nothing is carried last
without_links : KeepsLast ((17, tt) ∷ []) []
without_links link none = absurd cc

-- ---- whose turn it is

module _ (tables : Tables) where
  -- it carries nothing last that is not there
  of_nobody : number_at tables.deliveries tables.turn ≡ None → IsTurnOfLast tables true → ⊥
  of_nobody none told = let is = told.0 refl in let never : None ≡ Some is.0 = sym none ∙ is.1.0 in absurd cc

  no_last : number_at tables.deliveries tables.turn ≡ None → IsTurnOfLast tables false
  no_last none = ((λ yes. let never : false ≡ true = yes in absurd cc), λ no n at spent. let never : None ≡ Some n = sym none ∙ at in absurd cc)

  module _ (at : number_at tables.deliveries tables.turn ≡ Some 16) where
    last : is_carried_last tables 16 ≡ true → IsTurnOfLast tables true
    last carried = ((λ yes. (16, (at, carried))), λ no. let never : true ≡ false = no in absurd cc)

    denied : is_some_and (held_in tables.deliveries 16) is_spent ≡ true → is_carried_last tables 16 ≡ true → IsTurnOfLast tables false → ⊥
    denied spent carried told = let never : true ≡ false = sym carried ∙ told.1 refl 16 at spent in absurd cc

    to_go : IsReady tables 16 → is_carried_last tables 16 ≡ false → IsToGo tables 16
    to_go ready apart = (ready, apart)

    to_stay : is_carried_last tables 16 ≡ true → IsToGo tables 16 → ⊥
    to_stay carried goes = let never : true ≡ false = sym carried ∙ goes.1 in absurd cc

-- ---- one at most, and the one whose turn it is

module _ (earlier later : Tables) where
  none_goes : later.deliveries.let_go.items ≡ earlier.deliveries.let_go.items → LetsGoAtMost earlier later
  none_goes same = inl same

  module _ (more : later.deliveries.let_go.items ≡ earlier.deliveries.let_go.items ++ (16, tt) ∷ []) where
    one_goes : number_at earlier.deliveries earlier.turn ≡ Some 16 → is_some_and (held_in earlier.deliveries 16) is_spent ≡ true → LetsGoAtMost earlier later
    one_goes at spent = inr (16, (at, (spent, more)))

    longer : length later.deliveries.let_go.items ≡ length earlier.deliveries.let_go.items + 1
    longer = ap length more ∙ length-append earlier.deliveries.let_go.items ((16, tt) ∷ [])

    -- out of turn
    nobody_goes : number_at earlier.deliveries earlier.turn ≡ None → LetsGoAtMost earlier later → ⊥
    nobody_goes none (inl same) = absurd (omega (arith, longer, ap length same))
    nobody_goes none (inr (n, (at, rest))) = let never : None ≡ Some n = sym none ∙ at in absurd cc

    -- one that is not spent
    unspent : ((n : ℕ) → is_some_and (held_in earlier.deliveries n) is_spent ≡ false) → LetsGoAtMost earlier later → ⊥
    unspent none (inl same) = absurd (omega (arith, longer, ap length same))
    unspent none (inr (n, (at, (spent, rest)))) = let never : false ≡ true = sym (none n) ∙ spent in absurd cc
