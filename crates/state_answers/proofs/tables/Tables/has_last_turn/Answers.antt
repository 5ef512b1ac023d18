use Rattle.std.proofs.Common.{◌≡◌, sym, ap, ◌∙◌, ℕ, Bool, true, false}
use Rattle.trace_events.specs.Words.{is_some_and}
use Rattle.state_incoming.specs.HeldTables.{held_in, number_at}
use Rattle.state_incoming.specs.LetGo.{is_spent}
use Rattle.state_answers.specs.Tables.{is_carried_last}
use Rattle.state_answers.proofs.LetGoNext.{at-place, nobody-passes, placed}
use Rattle.state_answers.proofs.tables.Tables.has_last_turn.Goals as goal

pub returns-in-Some : goal.returns-in-Some
returns-in-Some c =
    let tables = c.args.self.now in
    let spent : ℕ → Bool = λ m. is_some_and (held_in tables.deliveries m) is_spent in
    let number = c.in-Some.number in (
      λ yes. (number, (placed spent (number_at tables.deliveries tables.turn) number c.in-Some.ensures.stored, sym c.is_carried_last.ensures.stored ∙ yes)),
      λ none n at is_spent.
          let same : number ≡ n = at-place spent (number_at tables.deliveries tables.turn) number n c.in-Some.ensures.stored at in
          ap (is_carried_last tables) (sym same) ∙ (sym c.is_carried_last.ensures.stored ∙ none),
    )

pub returns-in-None : goal.returns-in-None
returns-in-None c =
    let tables = c.args.self.now in (
      λ yes. let never : false ≡ true = yes in absurd cc,
      λ none n at spent.
          let never : true ≡ false =
          nobody-passes (λ m. is_some_and (held_in tables.deliveries m) is_spent) (number_at tables.deliveries tables.turn) n c.in-None.ensures.stored at spent in
          absurd cc,
    )
