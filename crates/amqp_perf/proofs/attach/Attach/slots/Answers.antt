use Rattle.std.specs.Prelude.{option_map}
use Rattle.amqp_perf.specs.NestedViews.{terminus_view, target_view}
use Rattle.amqp_perf.proofs.NestedAgain.{source_can, target_can}
use Rattle.amqp_perf.proofs.attach.Attach.slots.Goals as goal

pub returns-clause-each : goal.returns-clause-each
returns-clause-each c = (
  c.text.ensures.can 29,
  (
    c.number.ensures.can 29,
    (
      c.role.ensures.can 29,
      (
        c.sender_mode.ensures.can 29,
        (
          c.receiver_mode.ensures.can 29,
          (
            source_can (option_map terminus_view c.args.self.now.source) c.requires.writable.fields.1,
            (
              target_can (option_map target_view c.args.self.now.target) c.requires.writable.fields.2,
              (tt, (tt, (c.uint.ensures.can 29, (c.ulong.ensures.can 29, tt)))),
            ),
          ),
        ),
      ),
    ),
  ),
)
