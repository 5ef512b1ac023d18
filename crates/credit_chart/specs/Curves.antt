-- What is drawn of levels.
use Rattle.std.specs.Prelude.{◌≡◌, ℕ, ◌+◌, ◌-◌, List, [], ◌∷◌, ◌++◌, length, codes, decimal, Option}
use Rattle.std.specs.Str.{chars, encode_utf8_all}
use Rattle.svg_text.specs.declared.element.Element.TheVariants.{Group, Title}
use Rattle.svg_text.specs.Grammar.{start_text}
use Rattle.svg_text.specs.Escaping.{pieces_of}
use Rattle.svg_text.specs.Drawn.{end_octets, root_end, root_octets}
use Rattle.svg_text.specs.Parts.{element_octets, label_octets, line_octets, path_octets}
use Rattle.credit_chart.specs.declared.level.Level.{Level}
use Rattle.credit_chart.specs.declared.level.Quantity.{Quantity}
use Rattle.credit_chart.specs.declared.level.Quantity.TheVariants.{Credit, Window, Waiting, Unsettled, Draining}
use Rattle.credit_chart.specs.declared.scale.TheConstants.{ABOVE, BELOW, HEIGHT, LEFT, RIGHT, WIDTH}
use Rattle.credit_chart.specs.Levels.{class_of, name_of}
use Rattle.credit_chart.specs.Thinning.{top_of}
use Rattle.credit_chart.specs.Places.{bottom_of, count_of, height_of, scale_of}
use Rattle.credit_chart.specs.Paths.{path_text}

-- ---- panels

-- what stands above a panel
abbrev pub heading : Quantity → ℕ → List ℕ
heading quantity top = name_of quantity ++ (codes ", from 0 to " ++ decimal top)

-- what begins the group of a panel
unfoldable pub group_octets : Quantity → List ℕ
group_octets quantity =
    encode_utf8_all (start_text (record { name = codes "g"; attributes = record { name = codes "class"; value = pieces_of (chars (class_of quantity)) } ∷ [] }))

-- the whole curve of a quantity
unfoldable pub curve_text : List (Option Level) → Quantity → List ℕ
curve_text levels quantity = path_text quantity levels (scale_of (length levels)) (top_of quantity levels) (count_of (length levels))

-- the panel of a quantity whose highest value is this and whose curve is this: a group with its name as its title, its heading, the line
-- on which the value 0 stands, and the curve
unfoldable pub panel_with : Quantity → ℕ → List ℕ → List ℕ
panel_with quantity top along = group_octets quantity
    ++ (element_octets Title (name_of quantity)
    ++ (label_octets (LEFT, bottom_of quantity - (height_of quantity + 8)) (heading quantity top)
    ++ (line_octets (codes "axis") (LEFT, bottom_of quantity) (RIGHT, bottom_of quantity)
    ++ (path_octets (codes "curve") along ++ end_octets Group))))

abbrev pub panel_octets : List (Option Level) → Quantity → List ℕ
panel_octets levels quantity = panel_with quantity (top_of quantity levels) (curve_text levels quantity)

abbrev pub panels_octets : List (Option Level) → List ℕ
panels_octets levels =
    panel_octets levels Credit ++ (panel_octets levels Window ++ (panel_octets levels Waiting ++ (panel_octets levels Unsettled ++ panel_octets levels Draining)))

-- ---- documents

abbrev pub records_words : ℕ → List ℕ
records_words records = decimal records ++ codes " records, the first on the left"

-- octets of a document with this title, which stands above the panel of each quantity of these levels, and with how many records they
-- are; behind the title stands how it looks
pub record HasCurves (title : List ℕ) (levels : List (Option Level)) (octets : List ℕ) : Type 0 where
  pub looks : List ℕ
  pub parts : octets
      ≡ (root_octets WIDTH HEIGHT
      ++ (element_octets Title title
      ++ (looks ++ (label_octets (LEFT, ABOVE) title ++ (panels_octets levels ++ label_octets (LEFT, BELOW) (records_words (length levels))))))) ++ root_end
