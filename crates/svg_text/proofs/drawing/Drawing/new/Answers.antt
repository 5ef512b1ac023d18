use Rattle.std.proofs.Common.{List, ℕ, [], ◌∷◌, ◌++◌, ap, refl, subst, sym, ◌∙◌, ◌≡◌}
use Rattle.std.specs.Prelude.{codes, decimal}
use Rattle.std.specs.Str.{chars}
use Rattle.std.specs.String.{string_bytes}
use Rattle.svg_text.specs.declared.element.Element.{Element}
use Rattle.svg_text.specs.declared.attribute.Name.TheVariants as names
use Rattle.svg_text.specs.Drawn.{Drawn, IsFront, root_octets}
use Rattle.svg_text.proofs.Octets.{made_of, root_octets_is, root_same}
use Rattle.svg_text.proofs.Puts.{joined}
use Rattle.svg_text.proofs.Fronts.{front_new}
use Rattle.svg_text.proofs.drawing.Drawing.new.Goals as goal

pub invariant_of-result : goal.invariant_of-result
unfolding chars root_octets
invariant_of-result c =
    let same = root_same c.attribute.result c.attribute-2.result c.attribute-3.result c.attribute-4.result c.attribute-5.result c.args.width c.args.height
    (made_of c.attribute.result names.Namespace _ (codes "http://www.w3.org/2000/svg") c.attribute.ensures refl)
    (made_of c.attribute-2.result names.Version _ (codes "1.1") c.attribute-2.ensures refl)
    (made_of c.attribute-3.result names.Width _ (decimal c.args.width) c.attribute-3.ensures refl)
    (made_of c.attribute-4.result names.Height _ (decimal c.args.height) c.attribute-4.ensures refl)
    (made_of c.attribute-5.result names.ViewBox _ (codes "0 0 " ++ (decimal c.args.width ++ (codes " " ++ decimal c.args.height))) c.attribute-5.ensures refl) in
    let parts = joined _ _ _ _ _ _ c.in_ok-put_tag.ensures c.in_ok-push_str.ensures.bytes (sym (root_octets_is c.args.width c.args.height (c.attribute.result ∷ c.attribute-2.result ∷ c.attribute-3.result ∷ c.attribute-4.result ∷ c.attribute-5.result ∷ []) same)) in
    let all : string_bytes c.push_str.new.self ≡ root_octets c.args.width c.args.height =
    parts ∙ ap (λ (t : List ℕ). t ++ root_octets c.args.width c.args.height) c.new-text.ensures.bytes in
    subst (λ (u : List Element). IsFront (string_bytes c.push_str.new.self) u) (sym c.new-unclosed.ensures.items) (front_new (string_bytes c.push_str.new.self) c.args.width c.args.height all)

pub returns : goal.returns
unfolding chars
returns c =
    let same = root_same c.attribute.result c.attribute-2.result c.attribute-3.result c.attribute-4.result c.attribute-5.result c.args.width c.args.height
    (made_of c.attribute.result names.Namespace _ (codes "http://www.w3.org/2000/svg") c.attribute.ensures refl)
    (made_of c.attribute-2.result names.Version _ (codes "1.1") c.attribute-2.ensures refl)
    (made_of c.attribute-3.result names.Width _ (decimal c.args.width) c.attribute-3.ensures refl)
    (made_of c.attribute-4.result names.Height _ (decimal c.args.height) c.attribute-4.ensures refl)
    (made_of c.attribute-5.result names.ViewBox _ (codes "0 0 " ++ (decimal c.args.width ++ (codes " " ++ decimal c.args.height))) c.attribute-5.ensures refl) in
    let parts = joined _ _ _ _ _ _ c.in_ok-put_tag.ensures c.in_ok-push_str.ensures.bytes (sym (root_octets_is c.args.width c.args.height (c.attribute.result ∷ c.attribute-2.result ∷ c.attribute-3.result ∷ c.attribute-4.result ∷ c.attribute-5.result ∷ []) same)) in
    let all : string_bytes c.push_str.new.self ≡ root_octets c.args.width c.args.height =
    parts ∙ ap (λ (t : List ℕ). t ++ root_octets c.args.width c.args.height) c.new-text.ensures.bytes in
    ap (λ (t : List ℕ). let d : Drawn = record { octets = t; unclosed = c.new-unclosed.result.items } in d) all
    ∙ ap (λ (u : List Element). let d : Drawn = record { octets = root_octets c.args.width c.args.height; unclosed = u } in d) c.new-unclosed.ensures.items
