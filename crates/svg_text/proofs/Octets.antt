-- The octets of tags and texts.
use Rattle.std.proofs.Common.{◌≡◌, ℕ, ◌+◌, ◌<◌, List, [], ◌∷◌, ◌++◌, map, take, length, get_or, refl, sym, ap, ◌∙◌, append_assoc, append-nil}
use Rattle.std.proofs.lemmas.List.{map-append, map_more}
use Rattle.std.proofs.lemmas.Str.{encodes-append}
use Rattle.std.specs.Prelude.{codes, decimal}
use Rattle.std.specs.Str.{encode_utf8_all}
use lib.Utf8.{encode}
use Rattle.svg_text.specs.declared.element.Element.{Element}
use Rattle.svg_text.specs.declared.element.Element.TheVariants as elements
use Rattle.svg_text.specs.declared.attribute.Name.{Name}
use Rattle.svg_text.specs.declared.attribute.Name.TheVariants as names
use Rattle.svg_text.specs.declared.attribute.Attribute.{Attribute}
use Rattle.svg_text.specs.Grammar as grammar
use Rattle.svg_text.specs.Grammar.{Piece, attribute_text, attributes_text, empty_text, end_text, piece_text, pieces_text, start_text}
use Rattle.svg_text.specs.Escaping.{piece_of, pieces_of}
use Rattle.svg_text.specs.Names.{attribute_name, element_name}
use Rattle.svg_text.specs.declared.attribute.Value.{Value}
use Rattle.svg_text.specs.Drawn.{attribute_of, empty_octets, end_line, end_octets, root_attributes, root_name, root_octets, start_octets, tag_front, tag_of, text_octets, value_text}

-- ---- texts

pieces_text-append : (a b : List Piece) → pieces_text (a ++ b) ≡ pieces_text a ++ pieces_text b
pieces_text-append [] b = refl
pieces_text-append (piece ∷ a) b = ap (λ t. piece_text piece ++ t) (pieces_text-append a b) ∙ sym (append_assoc (piece_text piece) (pieces_text a) (pieces_text b))

pub text_octets-append : (a b : List ℕ) → text_octets (a ++ b) ≡ text_octets a ++ text_octets b
text_octets-append a b =
    ap (λ (t : List Piece). encode_utf8_all (pieces_text t)) (map-append piece_of a b)
    ∙ ap encode_utf8_all (pieces_text-append (pieces_of a) (pieces_of b))
    ∙ encodes-append (pieces_text (pieces_of a)) (pieces_text (pieces_of b))

-- of one more character
pub text_octets-push : (a : List ℕ) (c : ℕ) → text_octets (a ++ c ∷ []) ≡ text_octets a ++ encode_utf8_all (piece_text (piece_of c))
text_octets-push a c = text_octets-append a (c ∷ []) ∙ ap (λ (t : List ℕ). text_octets a ++ encode_utf8_all t) (append-nil (piece_text (piece_of c)))

pub map_same : (xs : List ℕ) → map (λ c. c) xs ≡ xs
map_same [] = refl
map_same (x ∷ xs) = ap (λ t. x ∷ t) (map_same xs)

-- ---- names

pub element_ascii : (element : Element) → encode_utf8_all (element_name element) ≡ element_name element
unfolding encode
element_ascii elements.Title = refl
element_ascii elements.Description = refl
element_ascii elements.Style = refl
element_ascii elements.Definitions = refl
element_ascii elements.Marker = refl
element_ascii elements.Path = refl
element_ascii elements.Group = refl
element_ascii elements.Line = refl
element_ascii elements.Rectangle = refl
element_ascii elements.Text = refl

attribute_ascii : (name : Name) → encode_utf8_all (attribute_name name) ≡ attribute_name name
unfolding encode
attribute_ascii names.Namespace = refl
attribute_ascii names.Version = refl
attribute_ascii names.Width = refl
attribute_ascii names.Height = refl
attribute_ascii names.ViewBox = refl
attribute_ascii names.Identity = refl
attribute_ascii names.Class = refl
attribute_ascii names.X = refl
attribute_ascii names.Y = refl
attribute_ascii names.X1 = refl
attribute_ascii names.Y1 = refl
attribute_ascii names.X2 = refl
attribute_ascii names.Y2 = refl
attribute_ascii names.Data = refl
attribute_ascii names.RefX = refl
attribute_ascii names.RefY = refl
attribute_ascii names.MarkerWidth = refl
attribute_ascii names.MarkerHeight = refl
attribute_ascii names.Orient = refl

pub root_ascii : encode_utf8_all (codes "svg") ≡ codes "svg"
unfolding encode
root_ascii = refl

-- ---- attributes

quoted : (name value : List ℕ) → encode_utf8_all name ≡ name
    → encode_utf8_all (codes " " ++ (name ++ (codes "=\"" ++ (value ++ codes "\"")))) ≡ codes " " ++ (name ++ (codes "=\"" ++ (encode_utf8_all value ++ codes "\"")))
unfolding encode
quoted name value ascii =
    ap (λ t. 32 ∷ t) (encodes-append name (61 ∷ 34 ∷ (value ++ 34 ∷ []))
    ∙ ap (λ (t : List ℕ). t ++ (61 ∷ 34 ∷ encode_utf8_all (value ++ 34 ∷ []))) ascii
    ∙ ap (λ (t : List ℕ). name ++ (61 ∷ 34 ∷ t)) (encodes-append value (34 ∷ [])))

-- what is written of an attribute
pub attribute_octets : (attribute : Attribute) → encode_utf8_all (attribute_text (attribute_of attribute))
    ≡ codes " " ++ (attribute_name attribute.name ++ (codes "=\"" ++ (encode_utf8_all (pieces_text (attribute_of attribute).value) ++ codes "\"")))
attribute_octets attribute = quoted (attribute_name attribute.name) (pieces_text (attribute_of attribute).value) (attribute_ascii attribute.name)

attributes_text-append : (a b : List grammar.Attribute) → attributes_text (a ++ b) ≡ attributes_text a ++ attributes_text b
attributes_text-append [] b = refl
attributes_text-append (x ∷ a) b = ap (λ t. attribute_text x ++ t) (attributes_text-append a b) ∙ sym (append_assoc (attribute_text x) (attributes_text a) (attributes_text b))

-- one more attribute of a list
pub attributes_more : (attributes : List Attribute) (i : ℕ) (d : Attribute) → i < length attributes
    → encode_utf8_all (attributes_text (map attribute_of (take (i + 1) attributes)))
    ≡ encode_utf8_all (attributes_text (map attribute_of (take i attributes))) ++ encode_utf8_all (attribute_text (attribute_of (get_or attributes i d)))
attributes_more attributes i d below =
    let here = attribute_text (attribute_of (get_or attributes i d)) in
    let front = map attribute_of (take i attributes) in
    ap (λ (t : List grammar.Attribute). encode_utf8_all (attributes_text t)) (map_more attribute_of attributes i d below)
    ∙ ap encode_utf8_all (attributes_text-append front (attribute_of (get_or attributes i d) ∷ []) ∙ ap (λ (t : List ℕ). attributes_text front ++ t) (append-nil here))
    ∙ encodes-append (attributes_text front) here

-- ---- tags

between : (name attributes behind : List ℕ) → encode_utf8_all name ≡ name
    → encode_utf8_all (name ++ (attributes ++ behind)) ≡ (name ++ encode_utf8_all attributes) ++ encode_utf8_all behind
between name attributes behind ascii =
    encodes-append name (attributes ++ behind)
    ∙ ap (λ (t : List ℕ). t ++ encode_utf8_all (attributes ++ behind)) ascii
    ∙ ap (λ (t : List ℕ). name ++ t) (encodes-append attributes behind)
    ∙ sym (append_assoc name (encode_utf8_all attributes) (encode_utf8_all behind))

pub start_is : (name : List ℕ) (attributes : List Attribute) → encode_utf8_all name ≡ name
    → encode_utf8_all (start_text (tag_of name attributes)) ≡ tag_front name attributes ++ codes ">"
unfolding encode
start_is name attributes ascii = ap (λ t. 60 ∷ t) (between name (attributes_text (map attribute_of attributes)) (62 ∷ []) ascii)

pub empty_is : (name : List ℕ) (attributes : List Attribute) → encode_utf8_all name ≡ name
    → encode_utf8_all (empty_text (tag_of name attributes) ++ 10 ∷ []) ≡ tag_front name attributes ++ codes "/>\n"
unfolding encode
empty_is name attributes ascii =
    let all = attributes_text (map attribute_of attributes) in
    ap (λ t. 60 ∷ t) (ap encode_utf8_all (append_assoc name (all ++ codes "/>") (10 ∷ []) ∙ ap (λ (t : List ℕ). name ++ t) (append_assoc all (codes "/>") (10 ∷ [])))
    ∙ between name all (codes "/>\n") ascii)

pub end_is : (name : List ℕ) → encode_utf8_all name ≡ name → encode_utf8_all (end_text name ++ 10 ∷ []) ≡ end_line name
unfolding encode
end_is name ascii =
    ap (λ (t : List ℕ). 60 ∷ 47 ∷ t) (ap encode_utf8_all (append_assoc name (62 ∷ []) (10 ∷ []))
    ∙ encodes-append name (62 ∷ 10 ∷ [])
    ∙ ap (λ (t : List ℕ). t ++ 62 ∷ 10 ∷ []) ascii)

-- ---- what a drawing tells of them

pub start_octets_is : (element : Element) (attributes : List Attribute) → start_octets element attributes ≡ tag_front (element_name element) attributes ++ codes ">"
unfolding start_octets
start_octets_is element attributes = start_is (element_name element) attributes (element_ascii element)

pub empty_octets_is : (element : Element) (attributes : List Attribute) → empty_octets element attributes ≡ tag_front (element_name element) attributes ++ codes "/>\n"
unfolding empty_octets
empty_octets_is element attributes = empty_is (element_name element) attributes (element_ascii element)

pub end_octets_is : (element : Element) → end_octets element ≡ end_line (element_name element)
unfolding end_octets
end_octets_is element = end_is (element_name element) (element_ascii element)

-- an attribute that was made of a name and a value
pub made_of : (attribute : Attribute) (name : Name) (value : Value) (text : List ℕ) → attribute ≡ record { name = name; value = value } → value_text value ≡ text
    → attribute_of attribute ≡ record { name = attribute_name name; value = pieces_of text }
made_of attribute name value text is same =
    ap attribute_of is ∙ ap (λ (t : List ℕ). let a : grammar.Attribute = record { name = attribute_name name; value = pieces_of t } in a) same

pub root_octets_is : (width height : ℕ) (attributes : List Attribute) → map attribute_of attributes ≡ root_attributes width height
    → root_octets width height ≡ tag_front root_name attributes ++ codes ">"
unfolding root_octets
root_octets_is width height attributes same =
    ap (λ (t : List grammar.Attribute). encode_utf8_all (start_text (record { name = root_name; attributes = t }))) (sym same)
    ∙ start_is root_name attributes root_ascii

-- a size, written part by part
pub area_octets : (width height : ℕ) (space zeros : List ℕ) → zeros ≡ codes "0 0 " → space ≡ codes " "
    → ((text_octets zeros ++ text_octets (decimal width)) ++ text_octets space) ++ text_octets (decimal height)
    ≡ text_octets (codes "0 0 " ++ (decimal width ++ (codes " " ++ decimal height)))
area_octets width height space zeros z s =
    append_assoc (text_octets zeros ++ text_octets (decimal width)) (text_octets space) (text_octets (decimal height))
    ∙ append_assoc (text_octets zeros) (text_octets (decimal width)) (text_octets space ++ text_octets (decimal height))
    ∙ ap (λ (t : List ℕ). text_octets t ++ (text_octets (decimal width) ++ (text_octets space ++ text_octets (decimal height)))) z
    ∙ ap (λ (t : List ℕ). text_octets (codes "0 0 ") ++ (text_octets (decimal width) ++ (text_octets t ++ text_octets (decimal height)))) s
    ∙ ap (λ (t : List ℕ). text_octets (codes "0 0 ") ++ (text_octets (decimal width) ++ t)) (sym (text_octets-append (codes " ") (decimal height)))
    ∙ ap (λ (t : List ℕ). text_octets (codes "0 0 ") ++ t) (sym (text_octets-append (decimal width) (codes " " ++ decimal height)))
    ∙ sym (text_octets-append (codes "0 0 ") (decimal width ++ (codes " " ++ decimal height)))

-- one more attribute of a tag
pub front_more : (name before more after : List ℕ) → after ≡ before ++ more → (codes "<" ++ (name ++ before)) ++ more ≡ codes "<" ++ (name ++ after)
front_more name before more after is = ap (λ t. 60 ∷ t) (append_assoc name before more ∙ ap (λ (t : List ℕ). name ++ t) (sym is))

cons_same : (x y : grammar.Attribute) (xs ys : List grammar.Attribute) → x ≡ y → xs ≡ ys → x ∷ xs ≡ y ∷ ys
cons_same x y xs ys h k = ap (λ (t : grammar.Attribute). t ∷ xs) h ∙ ap (λ (t : List grammar.Attribute). y ∷ t) k

-- the attributes of the root
pub root_same : (a b c d e : Attribute) (width height : ℕ)
    → attribute_of a ≡ record { name = codes "xmlns"; value = pieces_of (codes "http://www.w3.org/2000/svg") }
    → attribute_of b ≡ record { name = codes "version"; value = pieces_of (codes "1.1") }
    → attribute_of c ≡ record { name = codes "width"; value = pieces_of (decimal width) }
    → attribute_of d ≡ record { name = codes "height"; value = pieces_of (decimal height) }
    → attribute_of e ≡ record { name = codes "viewBox"; value = pieces_of (codes "0 0 " ++ (decimal width ++ (codes " " ++ decimal height))) }
    → map attribute_of (a ∷ b ∷ c ∷ d ∷ e ∷ []) ≡ root_attributes width height
root_same a b c d e width height p q r s t = cons_same _ _ _ _ p (cons_same _ _ _ _ q (cons_same _ _ _ _ r (cons_same _ _ _ _ s (cons_same _ _ _ _ t refl))))
