use Rattle.std.proofs.Common.{sym, ◌∙◌, arith}
use Rattle.amqp_cuts.specs.Passing.{past_item}
use Rattle.amqp_cuts.proofs.Items.{items_stop, items_on, items_done, data_behind}
use Rattle.amqp_cuts.proofs.passing.+passing.Goals as goal

pub pass_element-returns-clause-exact : goal.pass_element-returns-clause-exact
pass_element-returns-clause-exact g t c =
    c.pass_data.ensures.exact ∙ sym (data_behind (g.C.Cuts.octets c.args.payload.now) c.args.levels c.args.form.tags c.args.form.layout c.args.at c.args.to c.requires.tags)

pub pass_items-returns-in_err-place-clause-exact : goal.pass_items-returns-in_err-place-clause-exact
pass_items-returns-in_err-place-clause-exact g t c =
    c.from_residual.ensures
    ∙ sym (items_stop (past_item (g.C.Cuts.octets c.args.payload.now) c.args.levels c.args.form) c.args.count c.loop.counter c.loop.place c.args.at c.args.to c.pass_item.result c.loop-test.true
    c.pass_item.ensures.exact c.in_err-place.was c.loop.invariant.2)

pub pass_items-loop-preserved : goal.pass_items-loop-preserved
pass_items-loop-preserved g t c =
    let within = c.in_ok-place.ensures.within in (
      omega (arith, within, c.loop.invariant.0),
      within.1,
      items_on (past_item (g.C.Cuts.octets c.args.payload.now) c.args.levels c.args.form) c.args.count c.loop.counter c.loop.place c.in_ok-place.place c.args.at c.args.to c.pass_item.result c.loop-test.true
          c.pass_item.ensures.exact c.in_ok-place.was c.loop.invariant.2,
    )

pub pass_items-returns-clause-exact : goal.pass_items-returns-clause-exact
pass_items-returns-clause-exact g t c =
    items_done (past_item (g.C.Cuts.octets c.args.payload.now) c.args.levels c.args.form) c.args.count c.loop.counter c.loop.place c.args.at c.args.to c.loop-test.false c.loop.invariant.2
