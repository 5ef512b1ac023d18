-- The text of a drawing, while it is written.
use Rattle.std.specs.Prelude.{◌≡◌, ℕ, true, List, [], ◌∷◌, ◌++◌, map, codes, decimal}
use Rattle.std.specs.Str.{chars, encode_utf8_all}
use Rattle.svg_text.specs.declared.element.Element.{Element}
use Rattle.svg_text.specs.declared.attribute.Value.{Value}
use Rattle.svg_text.specs.declared.attribute.Value.TheVariants as values
use Rattle.svg_text.specs.declared.attribute.Attribute.{Attribute}
use Rattle.svg_text.specs.Grammar as grammar
use Rattle.svg_text.specs.Grammar.{Content, IsContent, IsTag, Piece, Tag, attributes_text, are_distinct, content_text, empty_text, end_text, pieces_text, start_text}
use Rattle.svg_text.specs.Escaping.{pieces_of}
use Rattle.svg_text.specs.Names.{attribute_name, element_name}

-- ---- attributes and tags

-- what a value says, as characters
abbrev pub value_text : Value → List ℕ
value_text (values.Text text) = chars text.now
value_text (values.Number number) = decimal number
value_text (values.Area width height) = codes "0 0 " ++ (decimal width ++ (codes " " ++ decimal height))

abbrev pub attribute_of : Attribute → grammar.Attribute
attribute_of attribute = record { name = attribute_name attribute.name; value = pieces_of (value_text attribute.value) }

-- no attribute is told twice
abbrev pub AreDistinct : List Attribute → Type 0
AreDistinct attributes = are_distinct (map (λ (attribute : Attribute). attribute_name attribute.name) attributes) ≡ true

-- the name of the root
abbrev pub root_name : List ℕ
root_name = codes "svg"

-- a tag with these attributes
abbrev pub tag_of : List ℕ → List Attribute → Tag
tag_of name attributes = record { name = name; attributes = map attribute_of attributes }

-- octets of a tag of this name, up to what ends it
abbrev pub tag_front : List ℕ → List Attribute → List ℕ
tag_front name attributes = codes "<" ++ (name ++ encode_utf8_all (attributes_text (map attribute_of attributes)))

-- octets of an end tag of this name, and of the end of the line
abbrev pub end_line : List ℕ → List ℕ
end_line name = codes "</" ++ (name ++ codes ">\n")

-- octets of characters
unfoldable pub start_octets : Element → List Attribute → List ℕ
start_octets element attributes = encode_utf8_all (start_text (tag_of (element_name element) attributes))

-- an empty element, and the end of the line
unfoldable pub empty_octets : Element → List Attribute → List ℕ
empty_octets element attributes = encode_utf8_all (empty_text (tag_of (element_name element) attributes) ++ 10 ∷ [])

abbrev pub text_octets : List ℕ → List ℕ
text_octets text = encode_utf8_all (pieces_text (pieces_of text))

-- the end of an element, and of the line
unfoldable pub end_octets : Element → List ℕ
end_octets element = encode_utf8_all (end_text (element_name element) ++ 10 ∷ [])

-- the start tag of the root: its name space, the version, and its size
abbrev pub root_attributes : ℕ → ℕ → List grammar.Attribute
root_attributes width height =
    record { name = codes "xmlns"; value = pieces_of (codes "http://www.w3.org/2000/svg") }
    ∷ record { name = codes "version"; value = pieces_of (codes "1.1") }
    ∷ record { name = codes "width"; value = pieces_of (decimal width) }
    ∷ record { name = codes "height"; value = pieces_of (decimal height) }
    ∷ record { name = codes "viewBox"; value = pieces_of (codes "0 0 " ++ (decimal width ++ (codes " " ++ decimal height))) }
    ∷ []

unfoldable pub root_octets : ℕ → ℕ → List ℕ
root_octets width height = encode_utf8_all (start_text (record { name = root_name; attributes = root_attributes width height }))

abbrev pub root_end : List ℕ
root_end = encode_utf8_all (end_text root_name ++ 10 ∷ [])

-- ---- elements that are open

-- what stands in the root: the content so far, in which an element may be open behind some of it, and so on
pub data Opened : Type 0 where
  Whole : Content → Opened
  Within : Content → Tag → Opened → Opened

abbrev pub opened_text : Opened → List ℕ
opened_text (Whole content) = content_text content
opened_text (Within before tag inside) = content_text before ++ (start_text tag ++ opened_text inside)

-- the names of the elements that are open, the outermost first
abbrev pub opened_names : Opened → List (List ℕ)
opened_names (Whole content) = []
opened_names (Within before tag inside) = tag.name ∷ opened_names inside

abbrev pub IsOpened : Opened → Type 0
IsOpened (Whole content) = IsContent content
IsOpened (Within before tag inside) = IsContent before × IsTag tag × IsOpened inside

-- octets of which a document has become these so far, with these elements open in its root
pub record IsFront (octets : List ℕ) (unclosed : List Element) : Type 0 where
  pub attributes : List grammar.Attribute
  pub inside : Opened
  pub tag : IsTag (record { name = root_name; attributes = attributes })
  pub opened : IsOpened inside
  pub names : opened_names inside ≡ map element_name unclosed
  pub parts : octets ≡ encode_utf8_all (start_text (record { name = root_name; attributes = attributes }) ++ opened_text inside)

-- a drawing: its octets so far, and the elements that are open in its root, the outermost first
pub record Drawn : Type 0 where
  pub octets : List ℕ
  pub unclosed : List Element

-- the octets of a document that is an SVG
pub record IsSvg (octets : List ℕ) : Type 0 where
  pub text : List ℕ
  pub document : grammar.IsDocument root_name text
  pub parts : octets ≡ encode_utf8_all text
