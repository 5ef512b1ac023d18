use Rattle.std.proofs.Common.{◌∙◌, [], ◌∷◌, ◌++◌}
use Rattle.std.proofs.lemmas.Result.{on_ok_weaker}
use Rattle.state_answers.specs.Tables.{StandFor}
use Rattle.credit_levels.proofs.Taking.{takes_more}
use Rattle.credit_levels.proofs.watching.WatchingWatcher.taken.Goals as goal

pub returns : goal.returns
returns c =
    let rules = c.args.rules.now in
    let t = c.lent.result in
    on_ok_weaker c.take.result (λ takes first records stands seen pick begins.
    takes_more rules c.args.self.now.levels c.take.new.self (StandFor rules t.connections.now t.links.now t.consumers.now t.deliveries.now t.consumer_links.now t.copies.now t.sent.now t.verdicts.now)
    records c.args.entry.now c.tally.result c.saturating_sub-number.result (c.tally.ensures ∙ stands.1.0) c.saturating_sub-number.ensures
    (c.lent.ensures.stand rules (records ++ c.args.entry.now ∷ []) stands) takes pick (seen pick begins)) c.take.ensures.taken
