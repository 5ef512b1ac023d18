-- Lanes and rows, found one by one.
use Rattle.std.proofs.Common.{◌≡◌, ℕ, ◌+◌, ◌<◌, ◌≤◌, Bool, true, false, List, [], ◌∷◌, ◌++◌, length, map, take, drop, get_or, Some, None, refl, sym, ap, ◌∙◌, arith, suc, append_assoc, append-nil}
use Rattle.std.proofs.Math.Seq.{drop-cons}
use Rattle.std.proofs.lemmas.List.{length-take, take_more, at_drop_all, at_drop_more, drop_all, get_or-map, length-map, map_more}
use Rattle.capture_chart.specs.Drawn.{connection_words, lane_octets, lanes_octets}
use Rattle.std.specs.Prelude.{◌==◌, if◌then◌else◌}
use Rattle.capture_chart.specs.declared.arrow.Arrow.{Arrow}
use Rattle.capture_chart.specs.declared.places.TheConstants.{FIRST_LANE, LANE, ROUTER}
use Rattle.capture_chart.specs.Shown.{Shown, shown}
use Rattle.capture_chart.specs.Places.{connection_place, count_place, found_lane, found_place, lanes_after, lanes_of, row_place, with_lane}

lanes_push : (lanes : List ℕ) (arrows : List Shown) (arrow : Shown) → lanes_after lanes (arrows ++ arrow ∷ []) ≡ with_lane (lanes_after lanes arrows) arrow.connection
lanes_push lanes [] arrow = refl
lanes_push lanes (x ∷ xs) arrow = lanes_push (with_lane lanes x.connection) xs arrow

-- the lanes of one arrow more
pub lanes_more : (arrows : List Arrow) (i : ℕ) (arrow : Arrow) → i < length arrows → arrow ≡ get_or arrows i arrow
    → lanes_of (map shown (take (i + 1) arrows)) ≡ with_lane (lanes_of (map shown (take i arrows))) arrow.connection
lanes_more arrows i arrow below is =
    ap lanes_of (map_more shown arrows i arrow below ∙ ap (λ (x : Arrow). map shown (take i arrows) ++ shown x ∷ []) (sym is))
    ∙ lanes_push [] (map shown (take i arrows)) (shown arrow)

-- what is found from a row on, by the arrow there
pub found_here : (lanes : List ℕ) (number : ℕ) (arrows : List Arrow) (i : ℕ) (arrow : Arrow) → i < length arrows → arrow ≡ get_or arrows i arrow
    → found_place lanes number i (drop i (map shown arrows))
    ≡ (if arrow.number == number then Some (connection_place lanes arrow.connection, row_place i) else found_place lanes number (i + 1) (drop (i + 1) (map shown arrows)))
found_here lanes number arrows i arrow below is =
    let many : i < length (map shown arrows) = simp length-map below in
    let here : get_or (map shown arrows) i (shown arrow) ≡ shown arrow = get_or-map shown arrows i arrow (shown arrow) below ∙ ap shown (sym is) in
    let rest : drop (suc i) (map shown arrows) ≡ drop (i + 1) (map shown arrows) = ap (λ (n : ℕ). drop n (map shown arrows)) (let e : suc i ≡ i + 1 = omega arith in e) in
    ap (found_place lanes number i)
    (drop-cons (map shown arrows) i (shown arrow) many
    ∙ ap (λ (x : Shown). x ∷ drop (suc i) (map shown arrows)) here
    ∙ ap (λ (t : List Shown). shown arrow ∷ t) rest)

pub chosen_true : {A : Type 0} (b : Bool) (x y : A) → b ≡ true → (if b then x else y) ≡ x
chosen_true true x y h = refl
chosen_true false x y h = absurd (let f : false ≡ true = h in cc)

pub chosen_false : {A : Type 0} (b : Bool) (x y : A) → b ≡ false → (if b then x else y) ≡ y
chosen_false true x y h = absurd (let f : true ≡ false = h in cc)
chosen_false false x y h = refl

pub none_left : (lanes : List ℕ) (number : ℕ) (arrows : List Arrow) (i : ℕ) → length arrows ≤ i → found_place lanes number i (drop i (map shown arrows)) ≡ None
none_left lanes number arrows i end =
    let many : length (map shown arrows) ≤ i = simp length-map end in
    ap (found_place lanes number i) (drop_all i (map shown arrows) many)

-- what is found from a lane on, by the connection there
pub lane_here : (connection : ℕ) (lanes : List ℕ) (i : ℕ) → i < length lanes
    → found_lane connection i (drop i lanes) ≡ (if get_or lanes i 0 == connection then count_place FIRST_LANE LANE i else found_lane connection (i + 1) (drop (i + 1) lanes))
lane_here connection lanes i below = at_drop_more (found_lane connection i) lanes i 0 below

pub no_lane : (connection : ℕ) (lanes : List ℕ) (i : ℕ) → length lanes ≤ i → found_lane connection i (drop i lanes) ≡ ROUTER
no_lane connection lanes i end = at_drop_all (found_lane connection i) lanes i end

-- ---- lanes, drawn

lanes_drawn_push : (bottom lane : ℕ) (lanes : List ℕ) (connection : ℕ)
    → lanes_octets bottom lane (lanes ++ connection ∷ []) ≡ lanes_octets bottom lane lanes ++ lane_octets bottom (count_place FIRST_LANE LANE (lane + length lanes)) (connection_words connection)
lanes_drawn_push bottom lane [] connection =
    append-nil _ ∙ ap (λ (n : ℕ). lane_octets bottom (count_place FIRST_LANE LANE n) (connection_words connection)) (let e : lane ≡ lane + 0 = omega arith in e)
lanes_drawn_push bottom lane (x ∷ xs) connection =
    let first = lane_octets bottom (count_place FIRST_LANE LANE lane) (connection_words x) in
    ap (λ (t : List ℕ). first ++ t)
    (lanes_drawn_push bottom (lane + 1) xs connection
    ∙ ap (λ (n : ℕ). lanes_octets bottom (lane + 1) xs ++ lane_octets bottom (count_place FIRST_LANE LANE n) (connection_words connection))
    (let e : (lane + 1) + length xs ≡ lane + suc (length xs) = omega arith in e))
    ∙ sym (append_assoc first (lanes_octets bottom (lane + 1) xs) _)

-- one lane more
pub lanes_drawn_more : (bottom : ℕ) (lanes : List ℕ) (i : ℕ) → i < length lanes
    → lanes_octets bottom 0 (take (i + 1) lanes) ≡ lanes_octets bottom 0 (take i lanes) ++ lane_octets bottom (count_place FIRST_LANE LANE i) (connection_words (get_or lanes i 0))
lanes_drawn_more bottom lanes i below =
    ap (lanes_octets bottom 0) (take_more lanes i 0 below)
    ∙ lanes_drawn_push bottom 0 (take i lanes) (get_or lanes i 0)
    ∙ ap (λ (n : ℕ). lanes_octets bottom 0 (take i lanes) ++ lane_octets bottom (count_place FIRST_LANE LANE n) (connection_words (get_or lanes i 0)))
    (let e : 0 + length (take i lanes) ≡ i = simp length-take (omega arith) in e)
