use Rattle.std.proofs.Common.{List, ℕ, ◌++◌, ap, sym, ◌∙◌}
use Rattle.std.specs.Prelude.{codes}
use Rattle.svg_text.specs.Drawn.{text_octets, value_text}
use Rattle.svg_text.proofs.Octets.{attribute_octets}
use Rattle.svg_text.proofs.Puts.{five_parts}
use Rattle.svg_text.proofs.tags.put_attribute.Goals as goal

pub returns : goal.returns
returns c =
    five_parts _ _ _ _ _ _ _ _ _ _ _ _ _ c.in_ok-push_str.ensures.bytes c.in_ok-push_str-2.ensures.bytes c.in_ok-push_str-3.ensures.bytes c.in_ok-put_value.ensures c.push_str-4.ensures.bytes
    (attribute_octets c.args.attribute.now
    ∙ ap (λ (t : List ℕ). codes " " ++ (t ++ (codes "=\"" ++ (text_octets (value_text c.args.attribute.now.value) ++ codes "\"")))) (sym c.text.ensures))
