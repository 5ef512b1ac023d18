-- What a ledger stands for and keeps, where it forgets and where it keeps all.
use Rattle.std.proofs.Common.{◌≡◌, sym, ap, ◌∙◌, ℕ, true, false, List, [], ◌∷◌, length, arith}
use Rattle.capture_form.specs.Rules.{no_rules}
use Rattle.trace_events.specs.declared.tally.Tally.{Tally}
use Rattle.trace_events.specs.Event.{Event}
use Rattle.state_answers.specs.Tables.{KeepsLast}
use Rattle.state_ledger.specs.Ledger.{KeepsEnough, Stands, StandsWhole}
use Rattle.state_ledger.specs.declared.ledger.Ledger.{Ledger}

module _ (ledger : Ledger) where
  -- ---- standing, and keeping all

  whole : Stands no_rules ledger [] → ledger.forgets ≡ false → StandsWhole no_rules ledger []
  whole stands keeps = (stands, keeps)

  one_that_forgets : ledger.forgets ≡ true → StandsWhole no_rules ledger [] → ⊥
  one_that_forgets is stands = let never : true ≡ false = sym is ∙ stands.1 in absurd cc

  -- it has counted a record, and there is none
  counted_one : ledger.tally.records ≡ 1 → StandsWhole no_rules ledger [] → ⊥
  counted_one is stands = absurd (omega (arith, is, ap (λ (t : Tally). t.records) stands.0.1.0))

  -- ---- keeping enough

  module _ (past : List Event) where
    -- one that is to keep all let a delivery go
    let_one_go : ledger.forgets ≡ false → ledger.tables.deliveries.let_go.items ≡ (16, tt) ∷ [] → KeepsEnough ledger past → ⊥
    let_one_go keeps gone enough =
        let none : (16, tt) ∷ [] ≡ [] = sym gone ∙ enough.0 keeps in
        absurd (omega (arith, ap (λ (items : List (ℕ × Unit {0})). length items) none))

    -- one that forgets may, but for what is carried last
    may_forget : ledger.forgets ≡ true → KeepsLast ledger.tables.deliveries.let_go.items past → KeepsEnough ledger past
    may_forget forgets last = ((λ keeps. let never : true ≡ false = sym forgets ∙ keeps in absurd cc), last)

    forgot_the_last : (KeepsLast ledger.tables.deliveries.let_go.items past → ⊥) → KeepsEnough ledger past → ⊥
    forgot_the_last lost enough = lost enough.1
