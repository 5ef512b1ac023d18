use Rattle.std.proofs.Common.{ap, subst, sym, ◌∙◌}
use Rattle.std.specs.Prelude.{codes}
use Rattle.svg_text.specs.Drawn.{Drawn, IsSvg}
use Rattle.svg_text.proofs.Octets.{end_is, root_ascii}
use Rattle.svg_text.proofs.Fronts.{front_whole}
use Rattle.svg_text.proofs.drawing.Drawing.finish.Goals as goal

pub returns-clause-document : goal.returns-clause-document
returns-clause-document c =
    subst IsSvg (sym c.in_ok-put_end.ensures)
    (front_whole _ _ c.self.inside.unclosed.items (ap (λ (d : Drawn). d.unclosed) c.self.view_is ∙ c.requires) (end_is (codes "svg") root_ascii) c.self.invariant)
