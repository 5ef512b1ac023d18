use Rattle.std.proofs.Common.{refl, subst, sym}
use Rattle.std.specs.Str.{chars}
use Rattle.svg_text.specs.Drawn.{IsFront}
use Rattle.svg_text.proofs.Reading.{read_pieces, read_same}
use Rattle.svg_text.proofs.Fronts.{front_text}
use Rattle.svg_text.proofs.drawing.Drawing.text.Goals as goal

pub invariant_of-result : goal.invariant_of-result
invariant_of-result c =
    subst (λ t. IsFront t c.self.inside.unclosed.items) (sym c.in_ok-put_text.ensures)
    (front_text _ _ c.self.inside.unclosed.items (chars c.args.text.now) refl c.self.invariant)

pub returns-clause-found : goal.returns-clause-found
returns-clause-found c = read_pieces (chars c.args.text.now)

pub returns-in_err-put_text-clause-found : goal.returns-in_err-put_text-clause-found
returns-in_err-put_text-clause-found c = read_pieces (chars c.args.text.now)

pub returns-clause-same : goal.returns-clause-same
returns-clause-same c all = read_same (chars c.args.text.now) all

pub returns-in_err-put_text-clause-same : goal.returns-in_err-put_text-clause-same
returns-in_err-put_text-clause-same c all = read_same (chars c.args.text.now) all
