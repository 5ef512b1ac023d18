use Rattle.std.proofs.Common.{List, ap, subst, sym, ◌∙◌}
use Rattle.std.proofs.lemmas.List.{same_from_push}
use Rattle.svg_text.specs.declared.element.Element.{Element}
use Rattle.svg_text.specs.Names.{element_name}
use Rattle.svg_text.specs.Drawn.{Drawn, IsFront, end_line}
use Rattle.svg_text.proofs.Octets.{element_ascii, end_is, end_octets_is}
use Rattle.svg_text.proofs.Fronts.{drawn_more, front_ended}
use Rattle.svg_text.proofs.drawing.Drawing.end.Goals as goal

pub invariant_of-result-2 : goal.invariant_of-result-2
invariant_of-result-2 c =
    subst (λ t. IsFront t c.pop.new.self.items) (sym c.in_ok-put_end.ensures)
    (front_ended _ _ c.self.inside.unclosed.items c.pop.new.self.items c.in-Some.element c.in-Some.ensures.items
    (end_is (element_name c.in-Some.element) (element_ascii c.in-Some.element) ∙ ap end_line (sym c.name.ensures)) c.self.invariant)

pub returns : goal.returns
returns c before element last =
    let same = same_from_push c.pop.new.self.items before c.in-Some.element element (sym c.in-Some.ensures.items ∙ ap (λ (d : Drawn). d.unclosed) c.self.view_is ∙ last) in
    drawn_more _ _ _ _ _ _ c.args.self (λ (u : List Element). before) c.self.view_is c.in_ok-put_end.ensures
    (end_octets_is element ∙ ap end_line (ap element_name (sym same.1) ∙ sym c.name.ensures)) same.0
