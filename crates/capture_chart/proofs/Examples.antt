-- What is shown and drawn of small records, worked out by hand.
use Rattle.std.proofs.Common.{◌≡◌, ◌<◌, ℕ, ◌+◌, List, [], ◌∷◌, ◌++◌, length, get_or, arith, ap, refl}
use Rattle.std.proofs.lemmas.List.{length-append}
use Rattle.std.specs.Prelude.{None, Some, codes}
use Rattle.std.specs.Fmt.{digits}
use Rattle.std.specs.Str.{chars}
use lib.Utf8.{encode}
use Rattle.pairing_cert.specs.declared.note.Note.TheVariants as notes
use Rattle.pairing_cert.specs.declared.note.Why.TheVariants as rows
use Rattle.amqp_perf.specs.Meaning.{ADisposition, AnEnd, DispositionFields}
use Rattle.capture_view.specs.Saying.{NoBody, Says}
use Rattle.capture_view.specs.Viewed.{Viewed}
use Rattle.capture_view.specs.Viewed as happenings
use Rattle.svg_text.specs.declared.element.Element.TheVariants.{Description, Group, Title}
use Rattle.svg_text.specs.Drawn.{end_octets, root_end, root_octets, start_octets}
use Rattle.capture_chart.specs.declared.places.ArrowPlace.{ArrowPlace}
use Rattle.capture_chart.specs.declared.topic.Course.TheVariants.{Beside, ToClient, ToRouter}
use Rattle.capture_chart.specs.declared.topic.Topic.TheVariants as topics
use Rattle.capture_chart.specs.declared.marks.Mark.TheVariants.{Compared, Plain, Refused}
use Rattle.capture_chart.specs.Marks.{Marking, mark_of}
use Rattle.capture_chart.specs.Shown.{Shown, Worded, shown_of, title_text, told_text}
use Rattle.capture_chart.specs.Places.{connection_place, lanes_of, place_at, record_place, row_place}
use Rattle.svg_text.specs.Parts.{element_octets, label_octets, line_octets}
use Rattle.capture_chart.specs.Drawn.{HasArrows, all_lanes, arrow_octets, arrows_octets, connection_words, group_octets, lane_octets, outcome_octets, shaft_octets, start_of, tie_octets, told_octets}

-- ---- what is shown

-- an end that a client sent
ending : Viewed
ending = record { number = 3; connection = 7; happened = happenings.In (Says 0 (AnEnd None) []); note = notes.None }

ending_arrow : Shown
ending_arrow = record { number = 3; connection = 7; course = ToRouter; topic = topics.End; carried = None; told = None }

ending_shown : shown_of ending None ≡ ending_arrow
unfolding ending ending_arrow
ending_shown = refl

-- the same, written to a client
ending_written : shown_of (record { number = 3; connection = 7; happened = happenings.Out (Says 0 (AnEnd None) []); note = notes.Pair 2 }) None
    ≡ record { number = 3; connection = 7; course = ToClient; topic = topics.End; carried = Some 2; told = None }
ending_written = refl

empty_shown : shown_of (record { number = 4; connection = 0; happened = happenings.Out (NoBody 0); note = notes.Told rows.N }) None
    ≡ record { number = 4; connection = 0; course = ToClient; topic = topics.EmptyFrame; carried = None; told = None }
empty_shown = refl

-- an outcome of the delivery of record 2
outcome_shown : (fields : DispositionFields) → shown_of (record { number = 6; connection = 1; happened = happenings.Out (Says 0 (ADisposition fields) []); note = notes.Told rows.C }) (Some 2)
    ≡ record { number = 6; connection = 1; course = ToClient; topic = topics.Disposition; carried = None; told = Some 2 }
outcome_shown fields = refl

lost_shown : shown_of (record { number = 5; connection = 1; happened = happenings.Lost; note = notes.None }) None
    ≡ record { number = 5; connection = 1; course = Beside; topic = topics.Lost; carried = None; told = None }
lost_shown = refl

ending_title : title_text Plain ending_arrow ≡ codes "3 connection 7 to router: end"
unfolding ending_arrow title_text digits
ending_title = refl

ending_refused : title_text Refused ending_arrow ≡ codes "3 connection 7 to router: end, refused"
unfolding ending_arrow title_text digits
ending_refused = refl

outcome_title : told_text 2 ending_arrow ≡ codes "3 tells the outcome of 2"
unfolding ending_arrow told_text digits
outcome_title = refl

-- ---- marks

marks : Marking
marks = record { refused = Some 5; compared = 2 ∷ 5 ∷ [] }

unmarked : mark_of marks 3 ≡ Plain
unfolding marks
unmarked = refl

compared : mark_of marks 2 ≡ Compared
unfolding marks
compared = refl

-- the one that is refused is not shown as one that it is compared with
refused : mark_of marks 5 ≡ Refused
unfolding marks
refused = refl

none_marked : mark_of (record { refused = None; compared = [] }) 0 ≡ Plain
none_marked = refl

-- ---- where it stands

one : Shown
one = record { number = 10; connection = 7; course = ToRouter; topic = topics.Transfer; carried = None; told = None }

other : Shown
other = record { number = 12; connection = 4; course = ToClient; topic = topics.Transfer; carried = Some 10; told = None }

lanes : lanes_of (one ∷ other ∷ one ∷ []) ≡ 7 ∷ 4 ∷ []
unfolding one other
lanes = refl

first_lane : connection_place (7 ∷ 4 ∷ []) 7 ≡ 360
first_lane = refl

second_lane : connection_place (7 ∷ 4 ∷ []) 4 ≡ 520
second_lane = refl

-- the router's, where a connection has no lane
no_lane : connection_place (7 ∷ 4 ∷ []) 5 ≡ 60
no_lane = refl

second_row : row_place 1 ≡ 88
second_row = refl

-- the delivery is in the first row of the two
carried_first : record_place (7 ∷ 4 ∷ []) (one ∷ other ∷ []) (Some 10) ≡ Some (360, 60)
unfolding one other
carried_first = refl

-- it is not shown, or none is named
carried_unseen : record_place (7 ∷ 4 ∷ []) (one ∷ other ∷ []) (Some 11) ≡ None
unfolding one other
carried_unseen = refl

none_named : record_place (7 ∷ 4 ∷ []) (one ∷ other ∷ []) None ≡ None
none_named = refl

-- which is carried, and whose outcome is told
both_placed : place_at marks (7 ∷ 4 ∷ []) (one ∷ other ∷ []) 1 (record other { told = Some 12 })
    ≡ record { lane = 520; row = 88; carried = Some (360, 60); told = Some (520, 88); mark = Plain }
unfolding one other marks
both_placed = refl

-- ---- what is drawn

a_line : line_octets (codes "shaft") (340, 60) (60, 60) ≡ codes "<line class=\"shaft\" x1=\"340\" y1=\"60\" x2=\"60\" y2=\"60\"/>\n"
unfolding line_octets chars digits encode
a_line = refl

a_label : label_octets (68, 56) (codes "a<b") ≡ codes "<text x=\"68\" y=\"56\">a&lt;b</text>\n"
unfolding label_octets end_octets chars digits encode
a_label = refl

-- two lanes of connections, and the router's
three_lanes : all_lanes 90 (7 ∷ 4 ∷ [])
    ≡ lane_octets 90 60 (codes "router") ++ (lane_octets 90 360 (connection_words 7) ++ (lane_octets 90 520 (connection_words 4) ++ []))
three_lanes = refl

fourth_name : connection_words 4 ≡ codes "connection 4"
unfolding digits
fourth_name = refl

here : ArrowPlace
here = record { lane = 360; row = 60; carried = None; told = None; mark = Plain }

to_router : shaft_octets ToRouter here ≡ line_octets (codes "shaft") (360, 60) (60, 60)
unfolding here
to_router = refl

to_client : shaft_octets ToClient here ≡ line_octets (codes "shaft") (60, 60) (360, 60)
unfolding here
to_client = refl

nowhere : shaft_octets Beside here ≡ []
nowhere = refl

untied : tie_octets here ≡ []
unfolding here
untied = refl

tied : tie_octets (record { lane = 620; row = 88; carried = Some (340, 60); told = None; mark = Plain }) ≡ line_octets (codes "carries") (200, 60) (340, 88)
tied = refl

untold : told_octets here ending_arrow ≡ []
unfolding here ending_arrow
untold = refl

-- an outcome of which delivery is known, and where it stands
outcome : Shown
outcome = record { number = 6; connection = 7; course = ToClient; topic = topics.Disposition; carried = None; told = Some 2 }

outcome_there : ArrowPlace
outcome_there = record { lane = 620; row = 88; carried = None; told = Some (340, 60); mark = Plain }

told_there : told_octets outcome_there outcome
    ≡ group_octets (codes "outcome") ++ ((element_octets Title (codes "6 tells the outcome of 2") ++ line_octets (codes "tells") (200, 60) (620, 88)) ++ end_octets Group)
unfolding outcome_octets outcome_there outcome told_text digits
told_there = refl

a_group : group_octets (codes "outcome") ≡ codes "<g class=\"outcome\">"
unfolding group_octets chars encode
a_group = refl

-- the delivery is not shown
told_unseen : told_octets here outcome ≡ []
unfolding here outcome
told_unseen = refl

-- an arrow with this line and this label
ending_worded : List ℕ → List ℕ → Worded
ending_worded words label = record { shows = ending_arrow; words = words; label = label }

-- its title, its line, its shaft, and its label
an_arrow : arrow_octets here (ending_worded (codes "a") (codes "b"))
    ≡ group_octets (codes "arrow")
    ++ (element_octets Title (codes "3 connection 7 to router: end")
    ++ (element_octets Description (codes "a") ++ ([] ++ ([] ++ (line_octets (codes "shaft") (360, 60) (60, 60) ++ (label_octets (68, 56) (codes "b") ++ end_octets Group))))))
unfolding arrow_octets here ending_worded ending_arrow title_text digits
an_arrow = refl

other_words : arrow_octets here (ending_worded (codes "a") (codes "b")) ≡ arrow_octets here (ending_worded (codes "b") (codes "b")) → ⊥
unfolding arrow_octets here ending_worded ending_arrow title_text group_octets start_octets end_octets chars digits encode
other_words is = let f : ◌≡◌ {A = ℕ} 97 98 = ap (λ (octets : List ℕ). get_or octets 68 0) is in omega arith

other_label : arrow_octets here (ending_worded (codes "a") (codes "a")) ≡ arrow_octets here (ending_worded (codes "a") (codes "b")) → ⊥
unfolding arrow_octets here ending_worded ending_arrow title_text group_octets start_octets end_octets line_octets label_octets chars digits encode
other_label is = let f : ◌≡◌ {A = ℕ} 97 98 = ap (λ (octets : List ℕ). get_or octets 152 0) is in omega arith

-- each stands in a row of its own, in order
two_arrows : (words label : List ℕ) → arrows_octets marks (7 ∷ 4 ∷ []) (one ∷ other ∷ []) 0 (record { shows = one; words = words; label = label } ∷ record { shows = other; words = words; label = label } ∷ [])
    ≡ arrow_octets (place_at marks (7 ∷ 4 ∷ []) (one ∷ other ∷ []) 0 one) (record { shows = one; words = words; label = label })
    ++ (arrow_octets (place_at marks (7 ∷ 4 ∷ []) (one ∷ other ∷ []) 1 other) (record { shows = other; words = words; label = label }) ++ [])
two_arrows words label = refl

-- ---- documents

no_marks : Marking
no_marks = record { refused = None; compared = [] }

-- a document without arrows, with this title and height, and lanes down to this bottom
bare_document : List ℕ → ℕ → ℕ → List ℕ
bare_document title height bottom = (start_of title 360 height ++ ([] ++ (all_lanes bottom [] ++ []))) ++ root_end

a_document : HasArrows (codes "t") no_marks [] (bare_document (codes "t") 60 60)
unfolding bare_document
a_document = record { looks = []; parts = refl }

-- how it looks stands in front of the lanes
looking : (looks : List ℕ) → HasArrows (codes "t") no_marks [] ((start_of (codes "t") 360 60 ++ (looks ++ (all_lanes 60 [] ++ []))) ++ root_end)
looking looks = record { looks = looks; parts = refl }

another_title : HasArrows (codes "u") no_marks [] (bare_document (codes "t") 60 60) → ⊥
unfolding bare_document root_octets start_octets chars digits encode
another_title h = let f : ◌≡◌ {A = ℕ} 116 117 = ap (λ (octets : List ℕ). get_or octets 106 0) h.parts in omega arith

another_height : HasArrows (codes "t") no_marks [] (bare_document (codes "t") 88 60) → ⊥
unfolding bare_document root_octets chars digits encode
another_height h = let f : ◌≡◌ {A = ℕ} 56 54 = ap (λ (octets : List ℕ). get_or octets 74 0) h.parts in omega arith

-- octets that are more than there are
too_long : (a b c d more : List ℕ) → length b < length d + length more → (a ++ b) ++ c ≡ (a ++ (more ++ d)) ++ c → ⊥
too_long a b c d more long is =
    omega (arith, long, ap length is, length-append (a ++ b) c, length-append a b, length-append (a ++ (more ++ d)) c, length-append a (more ++ d), length-append more d)

-- lanes that go further down than the arrows do
ending_elsewhere : (looks : List ℕ) → bare_document (codes "t") 60 88 ≡ (start_of (codes "t") 360 60 ++ (looks ++ (all_lanes 60 [] ++ []))) ++ root_end → ⊥
unfolding bare_document root_octets start_octets end_octets line_octets label_octets chars digits encode
ending_elsewhere [] is = let f : ◌≡◌ {A = ℕ} 56 54 = ap (λ (octets : List ℕ). get_or octets 163 0) is in omega arith
ending_elsewhere (x ∷ xs) is =
    let less : length ([] ++ (all_lanes 88 [] ++ [])) ≡ 87 = refl in
    let more : length (all_lanes 60 [] ++ []) ≡ 87 = refl in
    too_long (start_of (codes "t") 360 60) ([] ++ (all_lanes 88 [] ++ [])) root_end (all_lanes 60 [] ++ []) (x ∷ xs) (omega (arith, less, more)) is

another_bottom : HasArrows (codes "t") no_marks [] (bare_document (codes "t") 60 88) → ⊥
another_bottom h = ending_elsewhere h.looks h.parts

-- a document of one arrow
one_arrow : List ℕ → List ℕ
one_arrow groups = (start_of (codes "t") 520 88 ++ ([] ++ (all_lanes 88 (7 ∷ []) ++ groups))) ++ root_end

with_arrow : HasArrows (codes "t") no_marks (ending_worded (codes "a") (codes "b") ∷ []) (one_arrow (arrow_octets here (ending_worded (codes "a") (codes "b")) ++ []))
unfolding one_arrow ending_worded ending_arrow here no_marks
with_arrow = record { looks = []; parts = refl }

-- it is left out
left_out : HasArrows (codes "t") no_marks (ending_worded (codes "a") (codes "b") ∷ []) (one_arrow []) → ⊥
unfolding one_arrow ending_worded ending_arrow arrow_octets title_text group_octets start_octets end_octets line_octets label_octets chars digits encode no_marks
left_out h =
    let lanes = all_lanes 88 (7 ∷ []) in
    let arrow = arrow_octets (place_at no_marks (7 ∷ []) (ending_arrow ∷ []) 0 ending_arrow) (ending_worded (codes "a") (codes "b")) in
    let less : length ([] ++ (lanes ++ [])) ≡ 183 = refl in
    let more : length (lanes ++ (arrow ++ [])) ≡ 349 = refl in
    too_long (start_of (codes "t") 520 88) ([] ++ (lanes ++ [])) root_end (lanes ++ (arrow ++ [])) h.looks (omega (arith, less, more)) h.parts
