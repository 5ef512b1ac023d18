use Rattle.std.proofs.Common.{subst, sym}
use Rattle.std.proofs.lemmas.Result.{IfOk-weaker}
use Rattle.std.specs.Prelude.{IfSome}
use Rattle.capture_form.specs.Reading.{reading}
use Rattle.capture_words.specs.Shown.{EndsText}
use Rattle.capture_words.specs.Taken.{TakesAll}
use Rattle.capture_words.proofs.Heads.{ends_behind_head, ends_in_head, taken_behind_head, taken_in_head}
use Rattle.capture_words.proofs.stream.show_capture.Goals as goal

pub returns-in-Ok-begin-clause-ending : goal.returns-in-Ok-begin-clause-ending
returns-in-Ok-begin-clause-ending g c =
    let known = g.R.Read.remaining c.args.input in
    IfOk-weaker c.show_records.result _ _ (λ ending ends. ends_behind_head known _ _ _ ending c.in-Ok.ensures.head c.in-Ok.ensures.place ends)
    c.show_records.ensures.ending

pub returns-in-Ok-begin-clause-taken : goal.returns-in-Ok-begin-clause-taken
returns-in-Ok-begin-clause-taken g c =
    let known = g.R.Read.remaining c.args.input in
    IfOk-weaker c.show_records.result _ _ (λ ending takes. taken_behind_head g.V.View.agrees _ _ known _ _ _ ending c.in-Ok.ensures.head c.in-Ok.ensures.place takes)
    c.show_records.ensures.taken

pub returns-in-Err-clause-ending : goal.returns-in-Err-clause-ending
returns-in-Err-clause-ending g c =
    let known = g.R.Read.remaining c.args.input in
    subst (λ e. IfSome known (λ octets. EndsText octets e)) (sym c.from.ensures)
    (ends_in_head g.V.View.agrees c.args.view.now known c.in-Err.fault c.in-Err.ensures.exact)

pub returns-in-Err-clause-taken : goal.returns-in-Err-clause-taken
returns-in-Err-clause-taken g c =
    let known = g.R.Read.remaining c.args.input in
    let view = c.args.view.now in
    subst (λ e. IfSome known (λ octets. TakesAll g.V.View.agrees (reading octets).records e view view)) (sym c.from.ensures)
    (taken_in_head g.V.View.agrees view known c.in-Err.fault c.in-Err.ensures.exact)
