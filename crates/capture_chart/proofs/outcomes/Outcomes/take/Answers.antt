use Rattle.capture_view.specs.Viewed.{viewed}
use Rattle.capture_chart.proofs.Following.{outcome_so, takes_one}
use Rattle.capture_chart.proofs.outcomes.Outcomes.take.Goals as goal

pub returns-clause-tables : goal.returns-clause-tables
returns-clause-tables c =
    takes_one c.args.self.now c.end.new.self c.change.new.self c.go.new.self (viewed c.args.view.now) c.ended_by.result c.change_of-change.result c.goes_by.result c.ended_by.ensures c.goes_by.ensures
    c.change_of-change.ensures c.end.ensures.begun c.end.ensures.going c.in_ok-change.ensures.begun c.change.ensures.going c.go.ensures.begun c.in_ok-go.ensures.going

pub returns-clause-sound : goal.returns-clause-sound
returns-clause-sound c = λ past stands. outcome_so past (viewed c.args.view.now) c.outcome_told-told.result (c.outcome_told-told.ensures past stands)
