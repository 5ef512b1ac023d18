-- What a well-formed document is (XML 1.0, fifth edition; the numbers are its productions, or sections), with elements and
-- attributes of SVG 1.1 alone. A document is read as characters. Where the standard allows more than a chart needs, only a
-- part of it is allowed, which is said there.
use Rattle.std.specs.Prelude.{◌≡◌, ℕ, Bool, true, false, not, ◌&&◌, ◌||◌, ◌==◌, List, [], ◌∷◌, ◌++◌, map, codes, decimal}
use Rattle.std.specs.Char.{is_ascii_alphabetic, is_ascii_digit}
use Rattle.std.specs.Int.{is_in_range}
use Rattle.std.specs.List.{list_all, list_any}
use Rattle.std.specs.Str.{bytes_eq}

-- ---- characters and names

-- [2] a character that may stand in a document
abbrev pub is_char : ℕ → Bool
is_char c = c == 0x9 || (c == 0xA || (c == 0xD || (is_in_range 0x20 0xD7FF c || (is_in_range 0xE000 0xFFFD c || is_in_range 0x1_0000 0x10_FFFF c))))

-- [5] a name, of ASCII alone: a letter, and then letters, digits and `-`
abbrev pub is_name_character : ℕ → Bool
is_name_character c = is_ascii_alphabetic c || (is_ascii_digit c || c == 45)

abbrev pub is_name : List ℕ → Bool
is_name [] = false
is_name (c ∷ rest) = is_ascii_alphabetic c && list_all is_name_character rest

-- ---- texts

-- a character that stands there as it is; a reference to an entity, by its name; or one to a character, by its number
pub data Piece : Type 0 where
  Character : ℕ → Piece
  Entity : List ℕ → Piece
  Number : ℕ → Piece

-- [68] &name; and [66] &#number;
abbrev pub piece_text : Piece → List ℕ
piece_text (Character c) = c ∷ []
piece_text (Entity name) = codes "&" ++ (name ++ codes ";")
piece_text (Number number) = codes "&#" ++ (decimal number ++ codes ";")

abbrev pub pieces_text : List Piece → List ℕ
pieces_text [] = []
pieces_text (piece ∷ rest) = piece_text piece ++ pieces_text rest

-- the entities that each document has (4.6; 4.1, Entity Declared)
abbrev pub entities : List (List ℕ)
entities = codes "amp" ∷ codes "lt" ∷ codes "gt" ∷ codes "apos" ∷ codes "quot" ∷ []

-- a piece of a text: a character is neither < nor & ([14]); nor >, so that no ]]> stands there. The number of a reference is
-- that of a character (4.1, Legal Character)
abbrev pub is_data_piece : Piece → Bool
is_data_piece (Character c) = is_char c && (not (c == 60) && (not (c == 38) && not (c == 62)))
is_data_piece (Entity name) = list_any (bytes_eq name) entities
is_data_piece (Number number) = is_char number

-- a piece of an attribute's value: a character is neither < nor & nor a quote ([10])
abbrev pub is_value_piece : Piece → Bool
is_value_piece (Character c) = is_char c && (not (c == 60) && (not (c == 38) && not (c == 34)))
is_value_piece (Entity name) = list_any (bytes_eq name) entities
is_value_piece (Number number) = is_char number

-- ---- what an SVG may have

-- the elements of SVG 1.1 that a chart may have: none of them holds a script, or fetches anything
abbrev pub elements : List (List ℕ)
elements =
    codes "svg" ∷ codes "title" ∷ codes "desc" ∷ codes "style" ∷ codes "defs" ∷ codes "marker" ∷ codes "path" ∷ codes "g" ∷ codes "line" ∷ codes "rect"
    ∷ codes "text" ∷ []

-- and the attributes: none of them holds a script, or names anything outside
abbrev pub attribute_names : List (List ℕ)
attribute_names =
    codes "xmlns" ∷ codes "version" ∷ codes "width" ∷ codes "height" ∷ codes "viewBox" ∷ codes "id" ∷ codes "class" ∷ codes "x" ∷ codes "y" ∷ codes "x1"
    ∷ codes "y1" ∷ codes "x2" ∷ codes "y2" ∷ codes "d" ∷ codes "refX" ∷ codes "refY" ∷ codes "markerWidth" ∷ codes "markerHeight" ∷ codes "orient" ∷ []

-- ---- tags

pub record Attribute : Type 0 where
  pub name : List ℕ
  pub value : List Piece

-- [41], with the space in front of it: name="value"
abbrev pub attribute_text : Attribute → List ℕ
attribute_text attribute = codes " " ++ (attribute.name ++ (codes "=\"" ++ (pieces_text attribute.value ++ codes "\"")))

abbrev pub attributes_text : List Attribute → List ℕ
attributes_text [] = []
attributes_text (attribute ∷ rest) = attribute_text attribute ++ attributes_text rest

abbrev pub is_attribute : Attribute → Bool
is_attribute attribute = is_name attribute.name && (list_any (bytes_eq attribute.name) attribute_names && list_all is_value_piece attribute.value)

abbrev pub are_distinct : List (List ℕ) → Bool
are_distinct [] = true
are_distinct (name ∷ rest) = not (list_any (bytes_eq name) rest) && are_distinct rest

-- a start tag, or that of an empty element
pub record Tag : Type 0 where
  pub name : List ℕ
  pub attributes : List Attribute

-- no attribute stands there twice (3.1, Unique Att Spec)
pub record IsTag (tag : Tag) : Type 0 where
  pub name : is_name tag.name ≡ true
  pub known : list_any (bytes_eq tag.name) elements ≡ true
  pub attributes : list_all is_attribute tag.attributes ≡ true
  pub distinct : are_distinct (map (λ (attribute : Attribute). attribute.name) tag.attributes) ≡ true

-- [40] <name attributes>
abbrev pub start_text : Tag → List ℕ
start_text tag = codes "<" ++ (tag.name ++ (attributes_text tag.attributes ++ codes ">"))

-- [44] <name attributes/>
abbrev pub empty_text : Tag → List ℕ
empty_text tag = codes "<" ++ (tag.name ++ (attributes_text tag.attributes ++ codes "/>"))

-- [42] </name>
abbrev pub end_text : List ℕ → List ℕ
end_text name = codes "</" ++ (name ++ codes ">")

-- ---- elements

-- [43] what stands in an element: nothing, or a piece of a text, an element, or an empty one, and what stands behind it. An
-- element has a start tag, what stands in it, and the name of its end tag
pub data Content : Type 0 where
  Nothing : Content
  Text : Piece → Content → Content
  Element : Tag → Content → List ℕ → Content → Content
  EmptyElement : Tag → Content → Content

abbrev pub content_text : Content → List ℕ
content_text Nothing = []
content_text (Text piece rest) = piece_text piece ++ content_text rest
content_text (Element tag inside name rest) = start_text tag ++ (content_text inside ++ (end_text name ++ content_text rest))
content_text (EmptyElement tag rest) = empty_text tag ++ content_text rest

-- the name of an end tag is that of its start tag (3, Element Type Match)
abbrev pub IsContent : Content → Type 0
IsContent Nothing = Unit {0}
IsContent (Text piece rest) = (is_data_piece piece ≡ true) × IsContent rest
IsContent (Element tag inside name rest) = IsTag tag × IsContent inside × (name ≡ tag.name) × IsContent rest
IsContent (EmptyElement tag rest) = IsTag tag × IsContent rest

-- ---- documents

-- [1] a document: here one element of this name, and the end of its line ([27], [3])
pub record IsDocument (name text : List ℕ) : Type 0 where
  pub attributes : List Attribute
  pub inside : Content
  pub tag : IsTag (record { name = name; attributes = attributes })
  pub content : IsContent inside
  pub parts : text ≡ start_text (record { name = name; attributes = attributes }) ++ (content_text inside ++ (end_text name ++ 10 ∷ []))
