use Rattle.std.proofs.Common.{List, ℕ, ◌++◌, ap, refl, subst, sym, ◌∙◌}
use Rattle.std.specs.Prelude.{codes}
use Rattle.svg_text.specs.Names.{element_name}
use Rattle.svg_text.specs.Drawn.{IsFront, tag_front, tag_of, empty_octets}
use Rattle.svg_text.proofs.Octets.{empty_octets_is}
use Rattle.svg_text.proofs.Puts.{joined}
use Rattle.svg_text.proofs.Fronts.{drawn_more, element_tag, front_empty}
use Rattle.svg_text.proofs.drawing.Drawing.empty.Goals as goal

pub invariant_of-result : goal.invariant_of-result
unfolding empty_octets
invariant_of-result c =
    let parts = joined _ _ _ _ _ _ c.in_ok-put_tag.ensures c.in_ok-push_str.ensures.bytes
    (ap (λ (t : List ℕ). tag_front t c.args.attributes.now ++ codes "/>\n") c.name.ensures ∙ sym (empty_octets_is c.args.element c.args.attributes.now)) in
    subst (λ t. IsFront t c.self.inside.unclosed.items) (sym parts)
    (front_empty _ _ c.self.inside.unclosed.items (tag_of (element_name c.args.element) c.args.attributes.now) (element_tag c.args.element c.args.attributes.now c.requires) refl c.self.invariant)

pub returns : goal.returns
returns c =
    let parts = joined _ _ _ _ _ _ c.in_ok-put_tag.ensures c.in_ok-push_str.ensures.bytes
    (ap (λ (t : List ℕ). tag_front t c.args.attributes.now ++ codes "/>\n") c.name.ensures ∙ sym (empty_octets_is c.args.element c.args.attributes.now)) in
    drawn_more _ _ _ _ _ _ c.args.self (λ u. u) c.self.view_is parts refl refl
