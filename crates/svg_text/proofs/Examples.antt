-- Of each part of the definitions something that meets it, and something that fails it alone.
use Rattle.std.proofs.Common.{◌≡◌, true, false, [], ◌∷◌, refl}
use Rattle.std.specs.Prelude.{codes}
use Rattle.svg_text.specs.Grammar.{Character, Content, Element, EmptyElement, Entity, IsContent, IsDocument, IsTag, Nothing, Number, Tag, Text, content_text, empty_text, is_char, is_data_piece, is_name, is_value_piece, pieces_text}
use Rattle.svg_text.specs.Escaping.{pieces_of, read}

-- ---- characters

a_letter : is_char 65 ≡ true
a_letter = refl

a_tab : is_char 9 ≡ true
a_tab = refl

no_nul : is_char 0 ≡ false
no_nul = refl

no_escape : is_char 27 ≡ false
no_escape = refl

last_of_two_octets : is_char 0xD7FF ≡ true
last_of_two_octets = refl

no_surrogate : is_char 0xD800 ≡ false
no_surrogate = refl

a_replacement : is_char 0xFFFD ≡ true
a_replacement = refl

no_noncharacter : is_char 0xFFFE ≡ false
no_noncharacter = refl

last_of_all : is_char 0x10_FFFF ≡ true
last_of_all = refl

none_behind : is_char 0x11_0000 ≡ false
none_behind = refl

-- ---- names

a_name : is_name (codes "x1") ≡ true
a_name = refl

no_empty_name : is_name [] ≡ false
no_empty_name = refl

no_digit_first : is_name (codes "1x") ≡ false
no_digit_first = refl

no_space : is_name (codes "x y") ≡ false
no_space = refl

-- ---- pieces

a_data_piece : is_data_piece (Character 34) ≡ true
a_data_piece = refl

no_less : is_data_piece (Character 60) ≡ false
no_less = refl

no_ampersand : is_data_piece (Character 38) ≡ false
no_ampersand = refl

no_greater : is_data_piece (Character 62) ≡ false
no_greater = refl

no_control : is_data_piece (Character 1) ≡ false
no_control = refl

an_entity : is_data_piece (Entity (codes "lt")) ≡ true
an_entity = refl

no_such_entity : is_data_piece (Entity (codes "nbsp")) ≡ false
no_such_entity = refl

a_number : is_data_piece (Number 10) ≡ true
a_number = refl

no_number_of_nul : is_data_piece (Number 0) ≡ false
no_number_of_nul = refl

a_value_piece : is_value_piece (Character 62) ≡ true
a_value_piece = refl

no_quote : is_value_piece (Character 34) ≡ false
no_quote = refl

no_less_in_value : is_value_piece (Character 60) ≡ false
no_less_in_value = refl

no_ampersand_in_value : is_value_piece (Character 38) ≡ false
no_ampersand_in_value = refl

no_control_in_value : is_value_piece (Character 1) ≡ false
no_control_in_value = refl

-- ---- tags

line : Tag
line = record { name = codes "line"; attributes = record { name = codes "x1"; value = Character 49 ∷ [] } ∷ record { name = codes "y1"; value = Entity (codes "quot") ∷ [] } ∷ [] }

is_line : IsTag line
unfolding line
is_line = record { name = refl; known = refl; attributes = refl; distinct = refl }

line_text : empty_text line ≡ codes "<line x1=\"1\" y1=\"&quot;\"/>"
unfolding line
line_text = refl

nameless : Tag
nameless = record { name = []; attributes = [] }

no_nameless : IsTag nameless → ⊥
unfolding nameless
no_nameless h = let f : false ≡ true = h.name in cc

-- an element that holds a script
script : Tag
script = record { name = codes "script"; attributes = [] }

no_script : IsTag script → ⊥
unfolding script
no_script h = let f : false ≡ true = h.known in cc

-- an attribute that holds one
onload : Tag
onload = record { name = codes "line"; attributes = record { name = codes "onload"; value = Character 49 ∷ [] } ∷ [] }

no_onload : IsTag onload → ⊥
unfolding onload
no_onload h = let f : false ≡ true = h.attributes in cc

-- a quote in a value
broken : Tag
broken = record { name = codes "line"; attributes = record { name = codes "x1"; value = Character 34 ∷ [] } ∷ [] }

no_broken : IsTag broken → ⊥
unfolding broken
no_broken h = let f : false ≡ true = h.attributes in cc

-- an attribute twice
twice : Tag
twice = record { name = codes "line"; attributes = record { name = codes "x1"; value = [] } ∷ record { name = codes "x1"; value = [] } ∷ [] }

no_twice : IsTag twice → ⊥
unfolding twice
no_twice h = let f : false ≡ true = h.distinct in cc

-- ---- elements

group : Tag
group = record { name = codes "g"; attributes = [] }

is_group : IsTag group
unfolding group
is_group = record { name = refl; known = refl; attributes = refl; distinct = refl }

nested : Content
nested = Text (Character 65) (Element group (EmptyElement line Nothing) (codes "g") Nothing)

is_nested : IsContent nested
unfolding nested group
is_nested = (refl, (is_group, (is_line, tt), refl, tt))

nested_text : content_text nested ≡ codes "A<g><line x1=\"1\" y1=\"&quot;\"/></g>"
unfolding nested group line
nested_text = refl

-- the end tag of another element
crossed : Content
crossed = Element group Nothing (codes "text") Nothing

no_crossed : IsContent crossed → ⊥
unfolding crossed group
no_crossed h = let f : codes "text" ≡ codes "g" = h.2 in cc

-- markup in a text
bare : Content
bare = Element group (Text (Character 60) Nothing) (codes "g") Nothing

no_bare : IsContent bare → ⊥
unfolding bare group
no_bare h = let f : false ≡ true = h.1.0 in cc

-- a tag within that is none
within : Content
within = Element group (EmptyElement twice Nothing) (codes "g") Nothing

no_within : IsContent within → ⊥
unfolding within
no_within h = no_twice h.1.0

-- behind an element too
behind : Content
behind = Element group Nothing (codes "g") (Text (Character 60) Nothing)

no_behind : IsContent behind → ⊥
unfolding behind group
no_behind h = let f : false ≡ true = h.3.0 in cc

-- ---- documents

small : IsDocument (codes "svg") (codes "<svg><g></g></svg>\n")
unfolding group
small = record {
  attributes = [];
  inside = Element group Nothing (codes "g") Nothing;
  tag = record { name = refl; known = refl; attributes = refl; distinct = refl };
  content = (is_group, tt, refl, tt);
  parts = refl;
}

-- ---- escaping

escaped : pieces_text (pieces_of (codes "</title><a b='&\">")) ≡ codes "&lt;/title&gt;&lt;a b=&apos;&amp;&quot;&gt;"
escaped = refl

control : pieces_text (pieces_of (65 ∷ 0 ∷ 66 ∷ [])) ≡ 65 ∷ 0xFFFD ∷ 66 ∷ []
control = refl

-- ---- reading

found : read (codes "a &lt;&#10;b&amp;lt;") ≡ codes "a <\nb&lt;"
found = refl

-- a line end that stands there bare is a space in a value
found_blank : read (10 ∷ []) ≡ 32 ∷ []
found_blank = refl

-- a reference to nothing says nothing
found_nothing : read (codes "a&nbsp;b") ≡ codes "ab"
found_nothing = refl
