-- Any text as pieces of a document's text, and what a reader finds there.
use Rattle.std.specs.Prelude.{ℕ, ◌+◌, ◌-◌, ◌*◌, Bool, ◌||◌, ◌==◌, List, [], ◌∷◌, ◌++◌, map, codes, Option, Some, None, if◌then◌else◌}
use Rattle.std.specs.Str.{bytes_eq}
use Rattle.svg_text.specs.Grammar.{Piece, Character, Entity, Number, is_char}

-- what stands for a character that no document may have: U+FFFD, the replacement character
abbrev pub replacement : ℕ
replacement = 0xFFFD

-- the character itself, where a document may have it
abbrev pub shown : ℕ → ℕ
shown c = if is_char c then c else replacement

-- a tab and the ends of lines, which a reader takes for a space in an attribute's value (XML 1.0, 3.3.3), and of which one is
-- taken for another anywhere (2.11)
abbrev pub is_blank : ℕ → Bool
is_blank c = c == 9 || (c == 10 || c == 13)

-- what stands for a character: a reference for one that is markup, or is not read as itself
abbrev pub piece_of : ℕ → Piece
piece_of c =
    if c == 38 then Entity (codes "amp")
    else (if c == 60 then Entity (codes "lt")
    else (if c == 62 then Entity (codes "gt")
    else (if c == 34 then Entity (codes "quot")
    else (if c == 39 then Entity (codes "apos")
    else (if is_blank c then Number c
    else Character (shown c))))))

abbrev pub pieces_of : List ℕ → List Piece
pieces_of text = map piece_of text

-- ---- reading

-- the number that digits write
abbrev pub number_read : ℕ → List ℕ → ℕ
number_read front [] = front
number_read front (digit ∷ rest) = number_read (10 * front + (digit - 48)) rest

-- the character that a reference names: by # and its number, or by the name of an entity (4.1, 4.6)
abbrev pub entity_named : List ℕ → List ℕ
entity_named name =
    if bytes_eq name (codes "amp") then 38 ∷ []
    else (if bytes_eq name (codes "lt") then 60 ∷ []
    else (if bytes_eq name (codes "gt") then 62 ∷ []
    else (if bytes_eq name (codes "quot") then 34 ∷ []
    else (if bytes_eq name (codes "apos") then 39 ∷ []
    else []))))

abbrev pub character_named : List ℕ → List ℕ
character_named [] = []
character_named (first ∷ rest) = if first == 35 then number_read 0 rest ∷ [] else entity_named (first ∷ rest)

-- a character that stands there as it is; a tab or the end of a line is taken for a space
abbrev pub literal : ℕ → ℕ
literal c = if is_blank c then 32 else c

-- what a reader finds in a text, between & and ; where some of a name was read
abbrev pub read_on : Option (List ℕ) → List ℕ → List ℕ
read_on name [] = []
read_on None (c ∷ rest) = if c == 38 then read_on (Some []) rest else literal c ∷ read_on None rest
read_on (Some name) (c ∷ rest) = if c == 59 then character_named name ++ read_on None rest else read_on (Some (name ++ c ∷ [])) rest

abbrev pub read : List ℕ → List ℕ
read text = read_on None text
