-- What parts of a chart add to a drawing.
use Rattle.std.specs.Prelude.{◌≡◌, ℕ, List, [], ◌∷◌, ◌++◌, codes, decimal}
use Rattle.std.specs.Str.{chars, encode_utf8_all}
use Rattle.svg_text.specs.declared.element.Element.{Element}
use Rattle.svg_text.specs.declared.element.Element.TheVariants.{Text}
use Rattle.svg_text.specs.Grammar.{Tag, empty_text, start_text}
use Rattle.svg_text.specs.Escaping.{pieces_of}
use Rattle.svg_text.specs.Drawn.{Drawn, end_octets, start_octets, text_octets}

-- ---- elements

-- an element with a text in it
abbrev pub element_octets : Element → List ℕ → List ℕ
element_octets element text = start_octets element [] ++ (text_octets (chars text) ++ end_octets element)

-- a line of this class
abbrev pub line_tag : List ℕ → ℕ × ℕ → ℕ × ℕ → Tag
line_tag class from to = record {
  name = codes "line";
  attributes = record { name = codes "class"; value = pieces_of (chars class) }
      ∷ record { name = codes "x1"; value = pieces_of (decimal from.0) }
      ∷ record { name = codes "y1"; value = pieces_of (decimal from.1) }
      ∷ record { name = codes "x2"; value = pieces_of (decimal to.0) }
      ∷ record { name = codes "y2"; value = pieces_of (decimal to.1) }
      ∷ [];
}

unfoldable pub line_octets : List ℕ → ℕ × ℕ → ℕ × ℕ → List ℕ
line_octets class from to = encode_utf8_all (empty_text (line_tag class from to) ++ 10 ∷ [])

-- a path of this class, along this data
abbrev pub path_tag : List ℕ → List ℕ → Tag
path_tag class along = record {
  name = codes "path";
  attributes = record { name = codes "class"; value = pieces_of (chars class) } ∷ record { name = codes "d"; value = pieces_of (chars along) } ∷ [];
}

unfoldable pub path_octets : List ℕ → List ℕ → List ℕ
path_octets class along = encode_utf8_all (empty_text (path_tag class along) ++ 10 ∷ [])

-- words at a place
abbrev pub label_tag : ℕ × ℕ → Tag
label_tag at = record {
  name = codes "text";
  attributes = record { name = codes "x"; value = pieces_of (decimal at.0) } ∷ record { name = codes "y"; value = pieces_of (decimal at.1) } ∷ [];
}

unfoldable pub label_octets : ℕ × ℕ → List ℕ → List ℕ
label_octets at words = encode_utf8_all (start_text (label_tag at)) ++ (text_octets (chars words) ++ end_octets Text)

-- ---- drawings

-- a drawing has octets more, and as many elements open
pub record Draws (before after : Drawn) (more : List ℕ) : Type 0 where
  pub octets : after.octets ≡ before.octets ++ more
  pub unclosed : after.unclosed ≡ before.unclosed

-- it has something more
pub record DrawsSome (before after : Drawn) : Type 0 where
  pub more : List ℕ
  pub draws : Draws before after more
