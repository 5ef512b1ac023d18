use Rattle.std.proofs.Common.{◌≡◌, refl, ap, ◌∙◌, None, if◌then◌else◌, nat_eq, ◌==◌, eq-eqb, rules}
use Rattle.indexmap.specs.IndexMap.{get}
use Rattle.trace_events.specs.Words.{is_some_and}
use Rattle.state_verdicts.specs.Verdicts.{says}
use Rattle.state_verdicts.specs.declared.had.Had.{Had}
use Rattle.state_verdicts.proofs.VerdictsLetGo.{stood-before}
use Rattle.state_verdicts.proofs.verdicts.Verdicts.let_go.Goals as goal

pub returns-clause-row : goal.returns-clause-row
returns-clause-row c = λ outcome.
    let removed : get nat_eq c.swap_remove.new.self c.args.number ≡ (if c.args.number == c.args.number then None else get nat_eq c.args.self.now.had c.args.number) = search rules in
    ap (λ o. is_some_and o (λ (x : Had). says x outcome)) (removed ∙ ap (λ b. if b then None else get nat_eq c.args.self.now.had c.args.number) (eq-eqb c.args.number c.args.number refl))

pub returns-clause-others : goal.returns-clause-others
returns-clause-others c = λ n outcome other.
    let removed : get nat_eq c.swap_remove.new.self n ≡ (if c.args.number == n then None else get nat_eq c.args.self.now.had n) = search rules in
    ap (λ o. is_some_and o (λ (x : Had). says x outcome)) (removed ∙ ap (λ b. if b then None else get nat_eq c.args.self.now.had n) other)

pub returns-clause-stands : goal.returns-clause-stands
returns-clause-stands c = λ judging past are.
    record {
      awaits = are.awaits;
      mirrored = are.mirrored;
      had = λ n outcome there.
          let stood = stood-before c.args.self.now.let_go.items c.and-self.result.items c.args.number n c.and-self.ensures there in
          let removed : get nat_eq c.swap_remove.new.self n ≡ (if c.args.number == n then None else get nat_eq c.args.self.now.had n) = search rules in
          ap (λ o. is_some_and o (λ (x : Had). says x outcome)) (removed ∙ ap (λ b. if b then None else get nat_eq c.args.self.now.had n) stood.1) ∙ are.had n outcome stood.0;
    }
