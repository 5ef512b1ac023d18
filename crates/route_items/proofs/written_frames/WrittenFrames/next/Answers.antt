use Rattle.std.proofs.Common.{◌∙◌, ap, sym, ◌++◌, None, Some}
use Rattle.route_items.proofs.Found.{next}
use Rattle.route_items.proofs.written_frames.WrittenFrames.next.Goals as goal

pub returns-in-Some : goal.returns-in-Some
returns-in-Some c = λ has.
    c.frame_at.ensures ∙ next c.args.connection c.args.from c.args.records.now has.more (Some c.in-Some.number) (sym c.in-Some.is ∙ c.first.ensures (c.args.records.now ++ has.more) has.are)

pub returns-in-None : goal.returns-in-None
returns-in-None c = λ has.
    next c.args.connection c.args.from c.args.records.now has.more None (sym c.in-None.is ∙ c.first.ensures (c.args.records.now ++ has.more) has.are)
