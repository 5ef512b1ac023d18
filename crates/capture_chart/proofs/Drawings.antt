-- Arrows and charts, drawn part by part.
use Rattle.std.proofs.Common.{◌≡◌, ℕ, ◌+◌, ◌-◌, ◌<◌, ◌≤◌, List, [], ◌∷◌, ◌++◌, length, map, take, get_or, arith, suc, Result, refl, sym, subst, ap, ◌∙◌, append_assoc, append-nil}
use Rattle.std.proofs.lemmas.List.{length-map, length-take, map_more, take_all}
use Rattle.std.proofs.lemmas.Result.{IfOk-weaker}
use Rattle.std.specs.Prelude.{IfOk}
use Rattle.svg_text.specs.declared.element.Element.TheVariants.{Description, Group, Title}
use Rattle.svg_text.specs.declared.attribute.Attribute.{Attribute}
use Rattle.svg_text.specs.declared.attribute.Name.TheVariants.{Class}
use Rattle.svg_text.specs.declared.attribute.Value.TheVariants as values
use Rattle.svg_text.specs.Grammar as grammar
use Rattle.svg_text.specs.Grammar.{start_text}
use Rattle.svg_text.specs.Escaping.{pieces_of}
use Rattle.svg_text.specs.Drawn.{Drawn, end_octets, root_end, root_octets, start_octets}
use Rattle.std.specs.Prelude.{codes}
use Rattle.std.specs.Borrow.{Bor}
use Rattle.std.specs.Str.{chars, encode_utf8_all}
use Rattle.svg_text.proofs.Drawings.{Ends, closed, draws_then}
use Rattle.capture_chart.specs.Marks.{Marking, class_of}
use Rattle.capture_chart.specs.declared.arrow.Arrow.{Arrow}
use Rattle.capture_chart.specs.Shown.{Shown, Worded, shown, shown_in, title_text, worded}
use Rattle.capture_chart.specs.declared.places.ArrowPlace.{ArrowPlace}
use Rattle.capture_chart.specs.declared.places.TheConstants.{ROUTER}
use Rattle.capture_chart.specs.Places.{between, lanes_of, place_at, row_place}
use Rattle.svg_text.specs.Parts.{Draws, DrawsSome, element_octets, label_octets, line_octets}
use Rattle.capture_chart.specs.Drawn.{HasArrows, all_lanes, arrow_octets, arrows_octets, chart_octets, group_octets, height_of, outcome_octets, shaft_octets, start_of, tie_octets, told_octets, width_of}

-- ---- arrows

group_assoc : (s t d k o h m e : List ℕ) → s ++ ((t ++ (d ++ (k ++ (o ++ (h ++ m))))) ++ e) ≡ s ++ (t ++ (d ++ (k ++ (o ++ (h ++ (m ++ e))))))
group_assoc s t d k o h m e = simp append_assoc

-- what begins a group of this class
pub group_is : (class : Bor (List ℕ)) (words : List ℕ) → class.now ≡ words
    → start_octets Group ((let a : Attribute = record { name = Class; value = values.Text class } in a) ∷ []) ≡ group_octets words
unfolding start_octets group_octets
group_is class words is =
    ap (λ (t : List ℕ). encode_utf8_all (start_text (record { name = codes "g"; attributes = (let a : grammar.Attribute = record { name = codes "class"; value = pieces_of (chars t) } in a) ∷ [] }))) is

pub arrow_drawn : {E : Type 0} (r : Result Drawn E) (a opened titled described tied told shot seen : Drawn) (start title : List ℕ) (arrow : Worded) (place : ArrowPlace)
    → opened ≡ record { octets = a.octets ++ start; unclosed = a.unclosed ++ Group ∷ [] } → start ≡ group_octets (class_of place.mark)
    → Draws opened titled (element_octets Title title) → title ≡ title_text place.mark arrow.shows → Draws titled described (element_octets Description arrow.words)
    → Draws described tied (tie_octets place) → Draws tied told (told_octets place arrow.shows) → Draws told shot (shaft_octets arrow.shows.course place)
    → Draws shot seen (label_octets (ROUTER + 8, place.row - 4) arrow.label) → Ends r seen
    → IfOk r (λ after. Draws a after (arrow_octets place arrow))
unfolding arrow_octets
arrow_drawn r a opened titled described tied told shot seen start title arrow place is start_is first title_is second third fourth fifth sixth ends =
    let heads = element_octets Title title in
    let words = element_octets Description arrow.words in
    let tie = tie_octets place in
    let outcome = told_octets place arrow.shows in
    let shaft = shaft_octets arrow.shows.course place in
    let label = label_octets (ROUTER + 8, place.row - 4) arrow.label in
    let inside = heads ++ (words ++ (tie ++ (outcome ++ (shaft ++ label)))) in
    let draws : Draws opened seen inside =
    draws_then opened titled seen heads _ first
    (draws_then titled described seen words _ second
    (draws_then described tied seen tie _ third
    (draws_then tied told seen outcome _ fourth
    (draws_then told shot seen shaft label fifth sixth)))) in
    let parts : start ++ (inside ++ end_octets Group) ≡ arrow_octets place arrow =
    group_assoc start heads words tie outcome shaft label (end_octets Group)
    ∙ ap (λ (t : List ℕ). start ++ (element_octets Title t ++ (words ++ (tie ++ (outcome ++ (shaft ++ (label ++ end_octets Group))))))) title_is
    ∙ ap (λ (t : List ℕ). t ++ (element_octets Title (title_text place.mark arrow.shows) ++ (words ++ (tie ++ (outcome ++ (shaft ++ (label ++ end_octets Group))))))) start_is in
    IfOk-weaker r _ _ (λ after drawn. subst (Draws a after) parts drawn) (closed r a opened seen Group start inside is draws ends)

-- the line of an outcome
pub outcome_drawn : {E : Type 0} (r : Result Drawn E) (a opened titled lined : Drawn) (start title : List ℕ) (place : ArrowPlace) (delivery : ℕ × ℕ) (at : ℕ)
    → opened ≡ record { octets = a.octets ++ start; unclosed = a.unclosed ++ Group ∷ [] } → start ≡ group_octets (codes "outcome")
    → Draws opened titled (element_octets Title title) → Draws titled lined (line_octets (codes "tells") (at, delivery.1) (place.lane, place.row)) → at ≡ between ROUTER delivery.0 → Ends r lined
    → IfOk r (λ after. Draws a after (outcome_octets place delivery title))
unfolding outcome_octets
outcome_drawn r a opened titled lined start title place delivery at is start_is first second at_is ends =
    let inside : ℕ → List ℕ = λ n. element_octets Title title ++ line_octets (codes "tells") (n, delivery.1) (place.lane, place.row) in
    let parts : start ++ (inside at ++ end_octets Group) ≡ outcome_octets place delivery title =
    ap (λ (t : List ℕ). t ++ (inside at ++ end_octets Group)) start_is ∙ ap (λ (n : ℕ). group_octets (codes "outcome") ++ (inside n ++ end_octets Group)) at_is in
    IfOk-weaker r _ _ (λ after drawn. subst (Draws a after) parts drawn)
    (closed r a opened lined Group start (inside at) is (draws_then opened titled lined _ _ first second) ends)

arrows_push : (marks : Marking) (lanes : List ℕ) (all : List Shown) (row : ℕ) (arrows : List Worded) (arrow : Worded)
    → arrows_octets marks lanes all row (arrows ++ arrow ∷ []) ≡ arrows_octets marks lanes all row arrows ++ arrow_octets (place_at marks lanes all (row + length arrows) arrow.shows) arrow
arrows_push marks lanes all row [] arrow =
    append-nil _ ∙ ap (λ (n : ℕ). arrow_octets (place_at marks lanes all n arrow.shows) arrow) (let e : row ≡ row + 0 = omega arith in e)
arrows_push marks lanes all row (x ∷ xs) arrow =
    let first = arrow_octets (place_at marks lanes all row x.shows) x in
    ap (λ (t : List ℕ). first ++ t)
    (arrows_push marks lanes all (row + 1) xs arrow
    ∙ ap (λ (n : ℕ). arrows_octets marks lanes all (row + 1) xs ++ arrow_octets (place_at marks lanes all n arrow.shows) arrow)
    (let e : (row + 1) + length xs ≡ row + suc (length xs) = omega arith in e))
    ∙ sym (append_assoc first (arrows_octets marks lanes all (row + 1) xs) _)

-- one arrow more
pub arrows_more : (marks : Marking) (lanes : List ℕ) (all : List Shown) (a b c : Drawn) (arrows : List Arrow) (i : ℕ) (arrow : Arrow) (place : ArrowPlace) → i < length arrows → arrow ≡ get_or arrows i arrow
    → place ≡ place_at marks lanes all i (shown arrow)
    → Draws a b (arrows_octets marks lanes all 0 (map worded (take i arrows))) → Draws b c (arrow_octets place (worded arrow))
    → Draws a c (arrows_octets marks lanes all 0 (map worded (take (i + 1) arrows)))
arrows_more marks lanes all a b c arrows i arrow place below is placed before one =
    let same : map worded (take (i + 1) arrows) ≡ map worded (take i arrows) ++ worded arrow ∷ [] =
    map_more worded arrows i arrow below ∙ ap (λ (x : Arrow). map worded (take i arrows) ++ worded x ∷ []) (sym is) in
    let count : 0 + length (map worded (take i arrows)) ≡ i = simp (length-map, length-take) (omega arith) in
    let front = arrows_octets marks lanes all 0 (map worded (take i arrows)) in
    let whole : arrows_octets marks lanes all 0 (map worded (take (i + 1) arrows)) ≡ front ++ arrow_octets place (worded arrow) =
    ap (arrows_octets marks lanes all 0) same
    ∙ arrows_push marks lanes all 0 (map worded (take i arrows)) (worded arrow)
    ∙ ap (λ (n : ℕ). front ++ arrow_octets (place_at marks lanes all n (shown arrow)) (worded arrow)) count
    ∙ ap (λ (p : ArrowPlace). front ++ arrow_octets p (worded arrow)) (sym placed) in
    subst (Draws a c) (sym whole) (draws_then a b c front _ before one)

pub all_arrows : (marks : Marking) (lanes : List ℕ) (all : List Shown) (a b : Drawn) (arrows : List Arrow) (i : ℕ) → length arrows ≤ i
    → Draws a b (arrows_octets marks lanes all 0 (map worded (take i arrows))) → Draws a b (arrows_octets marks lanes all 0 (map worded arrows))
all_arrows marks lanes all a b arrows i end h = subst (λ (xs : List Arrow). Draws a b (arrows_octets marks lanes all 0 (map worded xs))) (take_all i arrows end) h

-- ---- documents

pub shown_worded : (arrows : List Arrow) → shown_in (map worded arrows) ≡ map shown arrows
shown_worded [] = refl
shown_worded (x ∷ xs) = ap (λ (t : List Shown). shown x ∷ t) (shown_worded xs)

-- a document of some size, with these lanes
sized : (title : List ℕ) (marks : Marking) (all : List Shown) (arrows : List Worded) (lanes : List ℕ) (width height : ℕ) (looks octets : List ℕ)
    → lanes ≡ lanes_of all → width ≡ width_of lanes → height ≡ height_of all
    → octets ≡ root_octets width height ++ (element_octets Title title ++ (looks ++ (all_lanes height lanes ++ arrows_octets marks lanes all 0 arrows)))
    → octets ≡ start_of title (width_of (lanes_of all)) (height_of all) ++ (looks ++ chart_octets marks all arrows)
sized title marks all arrows lanes width height looks octets lanes_are width_is height_is parts =
    let heads = element_octets Title title in
    let high = height_of all in
    let wide = width_of (lanes_of all) in
    parts
    ∙ ap (λ (n : ℕ). root_octets n height ++ (heads ++ (looks ++ (all_lanes height lanes ++ arrows_octets marks lanes all 0 arrows)))) (width_is ∙ ap width_of lanes_are)
    ∙ ap (λ (n : ℕ). root_octets wide n ++ (heads ++ (looks ++ (all_lanes n lanes ++ arrows_octets marks lanes all 0 arrows)))) height_is
    ∙ ap (λ (ls : List ℕ). root_octets wide high ++ (heads ++ (looks ++ (all_lanes high ls ++ arrows_octets marks ls all 0 arrows)))) lanes_are
    ∙ sym (append_assoc (root_octets wide high) heads (looks ++ chart_octets marks all arrows))

-- a document, drawn part by part
pub document_drawn : {A E : Type 0} (text_of : A → List ℕ) (r : Result A E) (title : List ℕ) (marks : Marking) (arrows : List Arrow) (lanes : List ℕ) (width height : ℕ)
    (started titled headed ruled drawn : Drawn) → lanes ≡ lanes_of (map shown arrows) → width ≡ width_of lanes → height ≡ row_place (length arrows)
    → started ≡ record { octets = root_octets width height; unclosed = [] } → Draws started titled (element_octets Title title) → DrawsSome titled headed
    → Draws headed ruled (all_lanes height lanes) → Draws ruled drawn (arrows_octets marks lanes (map shown arrows) 0 (map worded arrows))
    → IfOk r (λ text. text_of text ≡ drawn.octets ++ root_end) → IfOk r (λ text. HasArrows title marks (map worded arrows) (text_of text))
document_drawn text_of r title marks arrows lanes width height started titled headed ruled drawn lanes_are width_is height_is is first looks second third end =
    let all = map shown arrows in
    let heads = element_octets Title title in
    let ruling = all_lanes height lanes in
    let group = arrows_octets marks lanes all 0 (map worded arrows) in
    let high : height ≡ height_of all = height_is ∙ ap row_place (sym (let e : length (map shown arrows) ≡ length arrows = simp length-map in e)) in
    let draws : Draws started drawn (heads ++ (looks.more ++ (ruling ++ group))) =
    draws_then started titled drawn heads _ first
    (draws_then titled headed drawn looks.more _ looks.draws
    (draws_then headed ruled drawn ruling group second third)) in
    let octets = sized title marks all (map worded arrows) lanes width height looks.more drawn.octets lanes_are width_is high
    (draws.octets ∙ ap (λ (d : Drawn). d.octets ++ (heads ++ (looks.more ++ (ruling ++ group)))) is) in
    let shows = shown_worded arrows in
    IfOk-weaker r _ _ (λ text is_text. record {
      looks = looks.more;
      parts = is_text
          ∙ ap (λ (t : List ℕ). t ++ root_end) octets
          ∙ ap (λ (s : List Shown). (start_of title (width_of (lanes_of s)) (height_of s) ++ (looks.more ++ chart_octets marks s (map worded arrows))) ++ root_end) (sym shows);
    }) end
