-- A curve and its panel, drawn part by part.
use Rattle.std.proofs.Common.{◌≡◌, ℕ, ◌+◌, ◌-◌, Bool, List, [], ◌∷◌, ◌++◌, length, Option, is_some, Result, sym, ap, subst, ◌∙◌, append_assoc, add-one}
use Rattle.std.proofs.lemmas.Result.{IfOk-weaker}
use Rattle.std.specs.Prelude.{IfOk, codes}
use Rattle.std.specs.Borrow.{Bor}
use Rattle.std.specs.Str.{chars, encode_utf8_all}
use Rattle.svg_text.specs.declared.element.Element.TheVariants.{Group, Style, Title}
use Rattle.svg_text.specs.declared.attribute.Attribute.{Attribute}
use Rattle.svg_text.specs.declared.attribute.Name.TheVariants.{Class}
use Rattle.svg_text.specs.declared.attribute.Value.TheVariants as values
use Rattle.svg_text.specs.Grammar as grammar
use Rattle.svg_text.specs.Grammar.{start_text}
use Rattle.svg_text.specs.Escaping.{pieces_of}
use Rattle.svg_text.specs.Drawn.{Drawn, end_octets, root_end, root_octets, start_octets}
use Rattle.svg_text.specs.Parts.{Draws, DrawsSome, element_octets, label_octets, line_octets, path_octets}
use Rattle.svg_text.proofs.Drawings.{Ends, closed, draws_then, if_some_then, some_then}
use Rattle.credit_chart.specs.declared.level.Level.{Level}
use Rattle.credit_chart.specs.declared.level.Quantity.{Quantity}
use Rattle.credit_chart.specs.declared.level.Quantity.TheVariants.{Credit, Draining, Unsettled, Waiting, Window}
use Rattle.credit_chart.specs.declared.scale.Scale.{Scale}
use Rattle.credit_chart.specs.declared.scale.TheConstants.{ABOVE, BELOW, HEIGHT, LEFT, RIGHT, WIDTH}
use Rattle.credit_chart.specs.declared.thinning.Extent.{Extent}
use Rattle.credit_chart.specs.Levels.{class_of, name_of}
use Rattle.credit_chart.specs.Thinning.{column_of, top_of}
use Rattle.credit_chart.specs.Places.{bottom_of, height_of, scale_of, span_of}
use Rattle.credit_chart.specs.Paths.{column_text, comes_to, path_text}
use Rattle.credit_chart.specs.Curves.{HasCurves, curve_text, group_octets, heading, panel_octets, panel_with, panels_octets, records_words}

-- ---- curves

pub path_more : (quantity : Quantity) (levels : List (Option Level)) (scale : Scale) (top column : ℕ) (before after : List ℕ) (is_down : Bool) (extent : Option Extent)
    → before ≡ path_text quantity levels scale top column → is_down ≡ comes_to quantity levels scale column → extent ≡ column_of quantity scale.span levels column
    → after ≡ before ++ column_text quantity scale top is_down column extent → after ≡ path_text quantity levels scale top (column + 1)
path_more quantity levels scale top column before after is_down extent text down is more =
    more
    ∙ ap (λ (t : List ℕ). t ++ column_text quantity scale top is_down column extent) text
    ∙ ap (λ (b : Bool). path_text quantity levels scale top column ++ column_text quantity scale top b column extent) down
    ∙ ap (λ (e : Option Extent). path_text quantity levels scale top column ++ column_text quantity scale top (comes_to quantity levels scale column) column e) is
    ∙ ap (path_text quantity levels scale top) (sym (add-one column))

pub comes_more : (quantity : Quantity) (levels : List (Option Level)) (scale : Scale) (column : ℕ) (extent : Option Extent) (is_down : Bool)
    → extent ≡ column_of quantity scale.span levels column → is_down ≡ is_some extent → is_down ≡ comes_to quantity levels scale (column + 1)
comes_more quantity levels scale column extent is_down is down =
    down ∙ ap (λ (e : Option Extent). is_some e) is ∙ ap (comes_to quantity levels scale) (sym (add-one column))

-- ---- panels

-- what begins the group of a panel
pub group_is : (class : Bor (List ℕ)) (quantity : Quantity) → class.now ≡ class_of quantity
    → start_octets Group ((let a : Attribute = record { name = Class; value = values.Text class } in a) ∷ []) ≡ group_octets quantity
unfolding start_octets group_octets
group_is class quantity is =
    ap (λ (t : List ℕ). encode_utf8_all (start_text (record { name = codes "g"; attributes = (let a : grammar.Attribute = record { name = codes "class"; value = pieces_of (chars t) } in a) ∷ [] }))) is

panel_assoc : (s t h l p e : List ℕ) → s ++ ((t ++ (h ++ (l ++ p))) ++ e) ≡ s ++ (t ++ (h ++ (l ++ (p ++ e))))
panel_assoc s t h l p e = simp append_assoc

pub panel_drawn : {E : Type 0} (r : Result Drawn E) (quantity : Quantity) (top : ℕ) (along : List ℕ) (a opened titled headed ruled drawn : Drawn) (start name words curve : List ℕ) (bottom height : ℕ)
    → opened ≡ record { octets = a.octets ++ start; unclosed = a.unclosed ++ Group ∷ [] } → start ≡ group_octets quantity
    → bottom ≡ bottom_of quantity → height ≡ bottom - (height_of quantity + 8)
    → Draws opened titled (element_octets Title name) → name ≡ name_of quantity
    → Draws titled headed (label_octets (LEFT, height) words) → words ≡ heading quantity top
    → Draws headed ruled (line_octets (codes "axis") (LEFT, bottom) (RIGHT, bottom))
    → Draws ruled drawn (path_octets (codes "curve") curve) → curve ≡ along → Ends r drawn
    → IfOk r (λ after. Draws a after (panel_with quantity top along))
unfolding panel_with
panel_drawn r quantity top along a opened titled headed ruled drawn start name words curve bottom height is start_is bottom_is height_is first name_is second words_is third fourth along_is ends =
    let label = label_octets (LEFT, height) words in
    let line = line_octets (codes "axis") (LEFT, bottom) (RIGHT, bottom) in
    let path = path_octets (codes "curve") curve in
    let inside = element_octets Title name ++ (label ++ (line ++ path)) in
    let draws : Draws opened drawn inside =
    draws_then opened titled drawn (element_octets Title name) _ first
    (draws_then titled headed drawn label _ second
    (draws_then headed ruled drawn line path third fourth)) in
    let label_is : label ≡ label_octets (LEFT, bottom_of quantity - (height_of quantity + 8)) (heading quantity top) =
    ap (λ (n : ℕ). label_octets (LEFT, n) words) (height_is ∙ ap (λ (n : ℕ). n - (height_of quantity + 8)) bottom_is)
    ∙ ap (label_octets (LEFT, bottom_of quantity - (height_of quantity + 8))) words_is in
    let line_is : line ≡ line_octets (codes "axis") (LEFT, bottom_of quantity) (RIGHT, bottom_of quantity) =
    ap (λ (n : ℕ). line_octets (codes "axis") (LEFT, n) (RIGHT, n)) bottom_is in
    let parts : start ++ (inside ++ end_octets Group) ≡ panel_with quantity top along =
    panel_assoc start (element_octets Title name) label line path (end_octets Group)
    ∙ ap (λ (t : List ℕ). t ++ (element_octets Title name ++ (label ++ (line ++ (path ++ end_octets Group))))) start_is
    ∙ ap (λ (t : List ℕ). group_octets quantity ++ (element_octets Title t ++ (label ++ (line ++ (path ++ end_octets Group))))) name_is
    ∙ ap (λ (t : List ℕ). group_octets quantity ++ (element_octets Title (name_of quantity) ++ (t ++ (line ++ (path ++ end_octets Group))))) label_is
    ∙ ap (λ (t : List ℕ). group_octets quantity ++ (element_octets Title (name_of quantity) ++ (label_octets (LEFT, bottom_of quantity - (height_of quantity + 8)) (heading quantity top) ++ (t ++ (path ++ end_octets Group))))) line_is
    ∙ ap (λ (t : List ℕ). group_octets quantity ++ (element_octets Title (name_of quantity) ++ (label_octets (LEFT, bottom_of quantity - (height_of quantity + 8)) (heading quantity top) ++ (line_octets (codes "axis") (LEFT, bottom_of quantity) (RIGHT, bottom_of quantity) ++ (path_octets (codes "curve") t ++ end_octets Group))))) along_is in
    IfOk-weaker r _ _ (λ after drawn_so. subst (Draws a after) parts drawn_so) (closed r a opened drawn Group start inside is draws ends)

-- where its highest value and its curve are those of levels, it is the panel of these
pub panel_of : (levels : List (Option Level)) (quantity : Quantity) (top : ℕ) (along : List ℕ) → top ≡ top_of quantity levels → along ≡ curve_text levels quantity → panel_with quantity top along ≡ panel_octets levels quantity
panel_of levels quantity top along top_is along_is = ap (λ n. panel_with quantity n along) top_is ∙ ap (panel_with quantity (top_of quantity levels)) along_is

pub some_panels : {E : Type 0} (r : Result Drawn E) (a credit window waiting unsettled : Drawn)
    → DrawsSome a credit → DrawsSome credit window → DrawsSome window waiting → DrawsSome waiting unsettled → IfOk r (λ after. DrawsSome unsettled after) → IfOk r (λ after. DrawsSome a after)
some_panels r a credit window waiting unsettled first second third fourth last =
    if_some_then r a unsettled (some_then a waiting unsettled (some_then a window waiting (some_then a credit window first second) third) fourth) last

pub five_panels : (levels : List (Option Level)) (a credit window waiting unsettled after : Drawn)
    → Draws a credit (panel_octets levels Credit) → Draws credit window (panel_octets levels Window) → Draws window waiting (panel_octets levels Waiting)
    → Draws waiting unsettled (panel_octets levels Unsettled) → Draws unsettled after (panel_octets levels Draining) → Draws a after (panels_octets levels)
five_panels levels a credit window waiting unsettled after first second third fourth last =
    draws_then a credit after _ _ first
    (draws_then credit window after _ _ second (draws_then window waiting after _ _ third (draws_then waiting unsettled after _ _ fourth last)))

-- ---- documents

-- the scale of as many records as there are
pub drawn_scale : (scale : Scale) (records span many : ℕ) → (span ≡ span_of records → scale ≡ scale_of records) → records ≡ many → span ≡ span_of many → scale ≡ scale_of many
drawn_scale scale records span many computed counts is = computed (is ∙ ap span_of (sym counts)) ∙ ap scale_of counts

document_of : {A : Type 0} (text_of : A → List ℕ) (title style words : List ℕ) (levels : List (Option Level)) (started titled styled headed drawn labelled : Drawn)
    → started ≡ record { octets = root_octets WIDTH HEIGHT; unclosed = [] } → Draws started titled (element_octets Title title) → Draws titled styled (element_octets Style style)
    → Draws styled headed (label_octets (LEFT, ABOVE) title)
    → Draws headed drawn (panels_octets levels) → Draws drawn labelled (label_octets (LEFT, BELOW) words) → words ≡ records_words (length levels)
    → (text : A) → text_of text ≡ labelled.octets ++ root_end → HasCurves title levels (text_of text)
document_of text_of title style words levels started titled styled headed drawn labelled is first second third fourth fifth words_is text is_text =
    let heads = element_octets Title title in
    let looks = element_octets Style style in
    let above = label_octets (LEFT, ABOVE) title in
    let panels = panels_octets levels in
    let draws : Draws started labelled (heads ++ (looks ++ (above ++ (panels ++ label_octets (LEFT, BELOW) words)))) =
    draws_then started titled labelled heads _ first
    (draws_then titled styled labelled looks _ second
    (draws_then styled headed labelled above _ third
    (draws_then headed drawn labelled panels _ fourth fifth))) in
    record {
      looks = looks;
      parts = is_text
          ∙ ap (λ (t : List ℕ). t ++ root_end) (draws.octets ∙ ap (λ (d : Drawn). d.octets ++ (heads ++ (looks ++ (above ++ (panels ++ label_octets (LEFT, BELOW) words))))) is)
          ∙ ap (λ (t : List ℕ). (root_octets WIDTH HEIGHT ++ (heads ++ (looks ++ (above ++ (panels ++ label_octets (LEFT, BELOW) t))))) ++ root_end) words_is;
    }

pub document_drawn : {A E : Type 0} (text_of : A → List ℕ) (r : Result A E) (title style words : List ℕ) (Are : List (Option Level) → Type 0) (started titled styled headed drawn labelled : Drawn)
    → started ≡ record { octets = root_octets WIDTH HEIGHT; unclosed = [] } → Draws started titled (element_octets Title title) → Draws titled styled (element_octets Style style)
    → Draws styled headed (label_octets (LEFT, ABOVE) title)
    → ((levels : List (Option Level)) → Are levels → Draws headed drawn (panels_octets levels)) → Draws drawn labelled (label_octets (LEFT, BELOW) words)
    → ((levels : List (Option Level)) → Are levels → words ≡ records_words (length levels))
    → IfOk r (λ text. text_of text ≡ labelled.octets ++ root_end) → IfOk r (λ text. (levels : List (Option Level)) → Are levels → HasCurves title levels (text_of text))
document_drawn text_of r title style words Are started titled styled headed drawn labelled is first second third panels_are fifth words_are end =
    IfOk-weaker r _ _ (λ text is_text levels are. document_of text_of title style words levels started titled styled headed drawn labelled is first second third (panels_are levels are) fifth (words_are levels are) text is_text) end
