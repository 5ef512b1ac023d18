use Rattle.std.proofs.Common.{List, ℕ, ◌++◌, ap, refl, subst, sym, ◌∙◌}
use Rattle.std.specs.Prelude.{codes}
use Rattle.std.specs.String.{string_bytes}
use Rattle.svg_text.specs.Names.{element_name}
use Rattle.svg_text.specs.Drawn.{IsFront, tag_front, tag_of, start_octets}
use Rattle.svg_text.proofs.Octets.{start_octets_is}
use Rattle.svg_text.proofs.Puts.{joined}
use Rattle.svg_text.proofs.Fronts.{drawn_more, element_tag, front_begun}
use Rattle.std.proofs.Common.{[], ◌∷◌}
use Rattle.svg_text.specs.declared.element.Element.{Element}
use Rattle.svg_text.proofs.drawing.Drawing.start.Goals as goal

pub invariant_of-result : goal.invariant_of-result
unfolding start_octets
invariant_of-result c =
    let parts = joined _ _ _ _ _ _ c.in_ok-put_tag.ensures c.in_ok-push_str.ensures.bytes
    (ap (λ (t : List ℕ). tag_front t c.args.attributes.now ++ codes ">") c.name.ensures ∙ sym (start_octets_is c.args.element c.args.attributes.now)) in
    let begins = front_begun _ _ c.self.inside.unclosed.items c.args.element (tag_of (element_name c.args.element) c.args.attributes.now)
    (element_tag c.args.element c.args.attributes.now c.requires) refl refl c.self.invariant in
    subst (λ (u : List Element). IsFront (string_bytes c.push_str.new.self) u) (sym c.in_ok-push.ensures.items)
    (subst (λ t. IsFront t (c.self.inside.unclosed.items ++ c.args.element ∷ [])) (sym parts) begins)

pub returns : goal.returns
returns c =
    let parts = joined _ _ _ _ _ _ c.in_ok-put_tag.ensures c.in_ok-push_str.ensures.bytes
    (ap (λ (t : List ℕ). tag_front t c.args.attributes.now ++ codes ">") c.name.ensures ∙ sym (start_octets_is c.args.element c.args.attributes.now)) in
    drawn_more _ _ _ _ _ _ c.args.self (λ (u : List Element). u ++ c.args.element ∷ []) c.self.view_is parts refl c.in_ok-push.ensures.items
