use Rattle.std.proofs.Common.{◌∷◌}
use Rattle.trace_events.specs.History.{judge}
use Rattle.credit_levels.specs.Levels.{levels_of}
use Rattle.credit_levels.proofs.Places.{chosen_next, levels_next}
use Rattle.credit_levels.proofs.levels.Levels.take.Goals as goal

pub returns-clause-taken : goal.returns-clause-taken
returns-clause-taken g c = λ pick history at stands are.
    let rules = c.args.rules.now in
    let entry = c.args.entry.now in
    let now = judge rules history entry ∷ history in
    let place = chosen_next rules history entry pick c.args.self.now.pick c.args.number c.args.self.now.place c.placed-place.result are.asks at are.place (c.placed-place.ensures rules now stands) in
    record {
      asks = are.asks;
      place = place;
      levels = levels_next rules history entry pick c.placed-place.result c.level_of-level.result c.push.new.self place (c.level_of-level.ensures now stands) (c.in_ok-push.ensures.taken (levels_of pick rules history) are.levels);
    }
