-- A document that is written part by part.
use Rattle.std.proofs.Common.{◌≡◌, ℕ, true, List, [], ◌∷◌, ◌++◌, map, refl, sym, ap, ◌∙◌, append_assoc, append-nil}
use Rattle.std.proofs.lemmas.List.{map-append, same_from_push}
use Rattle.std.proofs.lemmas.Str.{encodes-append}
use Rattle.std.specs.Prelude.{codes, decimal}
use Rattle.std.specs.List.{list_all, list_any}
use Rattle.std.specs.Str.{bytes_eq, encode_utf8_all}
use Rattle.svg_text.specs.declared.element.Element.{Element}
use Rattle.svg_text.specs.declared.element.Element.TheVariants as elements
use Rattle.svg_text.specs.declared.attribute.Name.{Name}
use Rattle.svg_text.specs.declared.attribute.Name.TheVariants as names
use Rattle.svg_text.specs.declared.attribute.Attribute.{Attribute}
use Rattle.svg_text.specs.Grammar as grammar
use Rattle.svg_text.specs.Grammar.{Content, EmptyElement, IsContent, IsTag, Nothing, Tag, Text, Character, are_distinct, attribute_names, content_text, empty_text, end_text, is_attribute, is_name, is_value_piece, pieces_text, start_text}
use Rattle.svg_text.specs.Escaping.{pieces_of}
use Rattle.svg_text.specs.Names.{attribute_name, element_name}
use Rattle.svg_text.specs.Drawn.{AreDistinct, Drawn, IsFront, IsOpened, IsSvg, Opened, Whole, Within, attribute_of, opened_names, opened_text, root_attributes, root_name, tag_of, text_octets, value_text}
use Rattle.svg_text.proofs.Pieces.{and_true, data_pieces, value_pieces}
use Rattle.svg_text.proofs.Contents.{IsContent-pieces, IsOpened-added, IsOpened-begun, IsOpened-ended, added, begun, content_text-pieces, ended, last_name, of_pieces, opened_names-added, opened_names-begun, opened_names-ended, opened_text-added, opened_text-begun, opened_text-ended}

-- ---- tags

element_is_name : (element : Element) → is_name (element_name element) ≡ true
element_is_name elements.Title = refl
element_is_name elements.Description = refl
element_is_name elements.Style = refl
element_is_name elements.Definitions = refl
element_is_name elements.Marker = refl
element_is_name elements.Path = refl
element_is_name elements.Group = refl
element_is_name elements.Line = refl
element_is_name elements.Rectangle = refl
element_is_name elements.Text = refl

attribute_is_name : (name : Name) → is_name (attribute_name name) ≡ true
attribute_is_name names.Namespace = refl
attribute_is_name names.Version = refl
attribute_is_name names.Width = refl
attribute_is_name names.Height = refl
attribute_is_name names.ViewBox = refl
attribute_is_name names.Identity = refl
attribute_is_name names.Class = refl
attribute_is_name names.X = refl
attribute_is_name names.Y = refl
attribute_is_name names.X1 = refl
attribute_is_name names.Y1 = refl
attribute_is_name names.X2 = refl
attribute_is_name names.Y2 = refl
attribute_is_name names.Data = refl
attribute_is_name names.RefX = refl
attribute_is_name names.RefY = refl
attribute_is_name names.MarkerWidth = refl
attribute_is_name names.MarkerHeight = refl
attribute_is_name names.Orient = refl

element_is_known : (element : Element) → list_any (bytes_eq (element_name element)) grammar.elements ≡ true
element_is_known elements.Title = refl
element_is_known elements.Description = refl
element_is_known elements.Style = refl
element_is_known elements.Definitions = refl
element_is_known elements.Marker = refl
element_is_known elements.Path = refl
element_is_known elements.Group = refl
element_is_known elements.Line = refl
element_is_known elements.Rectangle = refl
element_is_known elements.Text = refl

attribute_is_known : (name : Name) → list_any (bytes_eq (attribute_name name)) attribute_names ≡ true
attribute_is_known names.Namespace = refl
attribute_is_known names.Version = refl
attribute_is_known names.Width = refl
attribute_is_known names.Height = refl
attribute_is_known names.ViewBox = refl
attribute_is_known names.Identity = refl
attribute_is_known names.Class = refl
attribute_is_known names.X = refl
attribute_is_known names.Y = refl
attribute_is_known names.X1 = refl
attribute_is_known names.Y1 = refl
attribute_is_known names.X2 = refl
attribute_is_known names.Y2 = refl
attribute_is_known names.Data = refl
attribute_is_known names.RefX = refl
attribute_is_known names.RefY = refl
attribute_is_known names.MarkerWidth = refl
attribute_is_known names.MarkerHeight = refl
attribute_is_known names.Orient = refl

are_attributes : (attributes : List Attribute) → list_all is_attribute (map attribute_of attributes) ≡ true
are_attributes [] = refl
are_attributes (attribute ∷ rest) =
    and_true _ _ (and_true _ _ (attribute_is_name attribute.name) (and_true _ _ (attribute_is_known attribute.name) (value_pieces (value_text attribute.value)))) (are_attributes rest)

same_names : (attributes : List Attribute) → map (λ (attribute : grammar.Attribute). attribute.name) (map attribute_of attributes) ≡ map (λ (attribute : Attribute). attribute_name attribute.name) attributes
same_names [] = refl
same_names (attribute ∷ rest) = ap (λ t. attribute_name attribute.name ∷ t) (same_names rest)

pub element_tag : (element : Element) (attributes : List Attribute) → AreDistinct attributes → IsTag (tag_of (element_name element) attributes)
element_tag element attributes distinct = record {
  name = element_is_name element;
  known = element_is_known element;
  attributes = are_attributes attributes;
  distinct = ap are_distinct (same_names attributes) ∙ distinct;
}

root_tag : (width height : ℕ) → IsTag (record { name = root_name; attributes = root_attributes width height })
root_tag width height = record {
  name = refl;
  known = refl;
  attributes =
      and_true _ _ (value_pieces (codes "http://www.w3.org/2000/svg"))
      (and_true _ _ (value_pieces (codes "1.1"))
      (and_true _ _ (value_pieces (decimal width))
      (and_true _ _ (value_pieces (decimal height))
      (and_true _ _ (value_pieces (codes "0 0 " ++ (decimal width ++ (codes " " ++ decimal height)))) refl))));
  distinct = refl;
}

-- ---- fronts

-- characters behind the others
grown : (root inside more later octets behind : List ℕ) → octets ≡ encode_utf8_all (root ++ inside) → encode_utf8_all more ≡ behind → later ≡ inside ++ more
    → octets ++ behind ≡ encode_utf8_all (root ++ later)
grown root inside more later octets behind parts is later_is =
    ap (λ (t : List ℕ). t ++ behind) parts
    ∙ ap (λ (t : List ℕ). encode_utf8_all (root ++ inside) ++ t) (sym is)
    ∙ sym (encodes-append (root ++ inside) more)
    ∙ ap encode_utf8_all (append_assoc root inside more ∙ ap (λ (t : List ℕ). root ++ t) (sym later_is))

-- the root alone
pub front_new : (octets : List ℕ) (width height : ℕ) → octets ≡ encode_utf8_all (start_text (record { name = root_name; attributes = root_attributes width height }))
    → IsFront octets []
front_new octets width height is = record {
  attributes = root_attributes width height;
  inside = Whole Nothing;
  tag = root_tag width height;
  opened = tt;
  names = refl;
  parts = is ∙ ap encode_utf8_all (sym (append-nil (start_text (record { name = root_name; attributes = root_attributes width height }))));
}

-- content in the innermost element
front_added : (octets behind : List ℕ) (unclosed : List Element) (content : Content) → IsContent content → encode_utf8_all (content_text content) ≡ behind
    → IsFront octets unclosed → IsFront (octets ++ behind) unclosed
front_added octets behind unclosed content proper is front = record {
  attributes = front.attributes;
  inside = added front.inside content;
  tag = front.tag;
  opened = IsOpened-added front.inside content front.opened proper;
  names = opened_names-added front.inside content ∙ front.names;
  parts = grown (start_text (record { name = root_name; attributes = front.attributes })) (opened_text front.inside) (content_text content) (opened_text (added front.inside content)) octets behind front.parts is (opened_text-added front.inside content);
}

pub front_text : (octets behind : List ℕ) (unclosed : List Element) (text : List ℕ) → text_octets text ≡ behind → IsFront octets unclosed → IsFront (octets ++ behind) unclosed
front_text octets behind unclosed text is front =
    front_added octets behind unclosed (of_pieces (pieces_of text)) (IsContent-pieces (pieces_of text) (data_pieces text))
    (ap encode_utf8_all (content_text-pieces (pieces_of text)) ∙ is) front

pub front_empty : (octets behind : List ℕ) (unclosed : List Element) (tag : Tag) → IsTag tag → encode_utf8_all (empty_text tag ++ 10 ∷ []) ≡ behind
    → IsFront octets unclosed → IsFront (octets ++ behind) unclosed
front_empty octets behind unclosed tag proper is front =
    front_added octets behind unclosed (EmptyElement tag (Text (Character 10) Nothing)) (proper, (refl, tt)) is front

pub front_begun : (octets behind : List ℕ) (unclosed : List Element) (element : Element) (tag : Tag) → IsTag tag → tag.name ≡ element_name element
    → encode_utf8_all (start_text tag) ≡ behind → IsFront octets unclosed → IsFront (octets ++ behind) (unclosed ++ element ∷ [])
front_begun octets behind unclosed element tag proper named is front = record {
  attributes = front.attributes;
  inside = begun front.inside tag;
  tag = front.tag;
  opened = IsOpened-begun front.inside tag front.opened proper;
  names = opened_names-begun front.inside tag
      ∙ ap (λ (t : List (List ℕ)). t ++ tag.name ∷ []) front.names
      ∙ ap (λ (t : List ℕ). map element_name unclosed ++ t ∷ []) named
      ∙ sym (map-append element_name unclosed (element ∷ []));
  parts = grown (start_text (record { name = root_name; attributes = front.attributes })) (opened_text front.inside) (start_text tag) (opened_text (begun front.inside tag)) octets behind front.parts is (opened_text-begun front.inside tag);
}

nothing_pushed : (xs : List (List ℕ)) (x : List ℕ) → [] ≡ xs ++ x ∷ [] → ⊥
nothing_pushed [] x is = cc
nothing_pushed (y ∷ xs) x is = cc

ended_on : (octets behind : List ℕ) (before : List Element) (element : Element) (attributes : List grammar.Attribute) (inside : Opened)
    → IsTag (record { name = root_name; attributes = attributes }) → IsOpened inside → opened_names inside ≡ map element_name before ++ element_name element ∷ []
    → octets ≡ encode_utf8_all (start_text (record { name = root_name; attributes = attributes }) ++ opened_text inside)
    → encode_utf8_all (end_text (element_name element) ++ 10 ∷ []) ≡ behind → IsFront (octets ++ behind) before
ended_on octets behind before element attributes (Whole content) tag opened named parts is = absurd (nothing_pushed (map element_name before) (element_name element) named)
ended_on octets behind before element attributes (Within outer next inside) tag opened named parts is =
    let same = same_from_push (opened_names (ended outer next inside)) (map element_name before) (last_name next inside) (element_name element) (sym (opened_names-ended outer next inside) ∙ named) in
    record {
      attributes = attributes;
      inside = ended outer next inside;
      tag = tag;
      opened = IsOpened-ended outer next inside opened;
      names = same.0;
      parts = grown (start_text (record { name = root_name; attributes = attributes })) (opened_text (Within outer next inside)) (end_text (last_name next inside) ++ 10 ∷ []) (opened_text (ended outer next inside)) octets behind parts
          (ap (λ (n : List ℕ). encode_utf8_all (end_text n ++ 10 ∷ [])) same.1 ∙ is) (opened_text-ended outer next inside);
    }

pub front_ended : (octets behind : List ℕ) (unclosed before : List Element) (element : Element) → unclosed ≡ before ++ element ∷ []
    → encode_utf8_all (end_text (element_name element) ++ 10 ∷ []) ≡ behind → IsFront octets unclosed → IsFront (octets ++ behind) before
front_ended octets behind unclosed before element last is front =
    ended_on octets behind before element front.attributes front.inside front.tag front.opened
    (front.names ∙ ap (map element_name) last ∙ map-append element_name before (element ∷ [])) front.parts is

whole_on : (octets behind : List ℕ) (attributes : List grammar.Attribute) (inside : Opened)
    → IsTag (record { name = root_name; attributes = attributes }) → IsOpened inside → opened_names inside ≡ []
    → octets ≡ encode_utf8_all (start_text (record { name = root_name; attributes = attributes }) ++ opened_text inside)
    → encode_utf8_all (end_text root_name ++ 10 ∷ []) ≡ behind → IsSvg (octets ++ behind)
whole_on octets behind attributes (Whole content) tag opened named parts is = record {
  text = start_text (record { name = root_name; attributes = attributes }) ++ (content_text content ++ (end_text root_name ++ 10 ∷ []));
  document = record { attributes = attributes; inside = content; tag = tag; content = opened; parts = refl };
  parts = grown (start_text (record { name = root_name; attributes = attributes })) (content_text content) (end_text root_name ++ 10 ∷ []) (content_text content ++ (end_text root_name ++ 10 ∷ [])) octets behind parts is refl;
}
whole_on octets behind attributes (Within outer next inside) tag opened named parts is = absurd (let f : next.name ∷ opened_names inside ≡ [] = named in cc)

pub front_whole : (octets behind : List ℕ) (unclosed : List Element) → unclosed ≡ [] → encode_utf8_all (end_text root_name ++ 10 ∷ []) ≡ behind
    → IsFront octets unclosed → IsSvg (octets ++ behind)
front_whole octets behind unclosed none is front =
    whole_on octets behind front.attributes front.inside front.tag front.opened (front.names ∙ ap (map element_name) none) front.parts is

-- ---- drawings

-- octets behind those of a drawing
pub drawn_more : (octets later behind other : List ℕ) (unclosed left : List Element) (self : Drawn) (f : List Element → List Element)
    → (let before : Drawn = record { octets = octets; unclosed = unclosed } in before) ≡ self → later ≡ octets ++ behind → other ≡ behind → left ≡ f unclosed
    → (let after : Drawn = record { octets = later; unclosed = left } in after) ≡ record { octets = self.octets ++ other; unclosed = f self.unclosed }
drawn_more octets later behind other unclosed left self f is more same shape =
    ap (λ (t : List ℕ). let d : Drawn = record { octets = t; unclosed = left } in d) (more ∙ ap (λ (t : List ℕ). octets ++ t) (sym same))
    ∙ ap (λ (t : List Element). let d : Drawn = record { octets = octets ++ other; unclosed = t } in d) shape
    ∙ ap (λ (s : Drawn). let d : Drawn = record { octets = s.octets ++ other; unclosed = f s.unclosed } in d) is
