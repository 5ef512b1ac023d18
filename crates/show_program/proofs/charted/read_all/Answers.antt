use Rattle.std.proofs.Common.{subst, sym}
use Rattle.std.specs.Prelude.{IfSome}
use Rattle.capture_form.specs.Reading.{reading}
use Rattle.capture_words.specs.Shown.{EndsText}
use Rattle.capture_words.specs.Taken.{TakesAll}
use Rattle.capture_words.proofs.Heads.{ends_behind_head, ends_in_head, taken_behind_head, taken_in_head}
use Rattle.show_program.specs.Charts.{HasAsked}
use Rattle.show_program.proofs.charted.read_all.Goals as goal

pub returns-in-Ok-clause-ending : goal.returns-in-Ok-clause-ending
returns-in-Ok-clause-ending g c =
    ends_behind_head (g.R.Read.remaining c.args.input) _ _ _ c.take_records.result c.in-Ok.ensures.head c.in-Ok.ensures.place c.take_records.ensures.ending

pub returns-in-Ok-clause-taken : goal.returns-in-Ok-clause-taken
returns-in-Ok-clause-taken g c =
    taken_behind_head (HasAsked c.args.charted.now.asked.choice c.args.charted.now.also.now) _ _ (g.R.Read.remaining c.args.input) _ _ _ c.take_records.result c.in-Ok.ensures.head c.in-Ok.ensures.place
    c.take_records.ensures.taken

pub returns-clause-ending : goal.returns-clause-ending
returns-clause-ending g c =
    let known = g.R.Read.remaining c.args.input in
    let charted = c.args.charted.now in
    subst (λ e. IfSome known (λ octets. EndsText octets e)) (sym c.from.ensures)
    (ends_in_head (HasAsked charted.asked.choice charted.also.now) charted known c.in-Err.fault c.in-Err.ensures.exact)

pub returns-clause-taken : goal.returns-clause-taken
returns-clause-taken g c =
    let known = g.R.Read.remaining c.args.input in
    let charted = c.args.charted.now in
    let agrees = HasAsked charted.asked.choice charted.also.now in
    subst (λ e. IfSome known (λ octets. TakesAll agrees (reading octets).records e charted charted)) (sym c.from.ensures)
    (taken_in_head agrees charted known c.in-Err.fault c.in-Err.ensures.exact)
