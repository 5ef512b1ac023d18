-- The order in which the links of one address are asked: the one with the fewest undecided deliveries first, of equal
-- ones the one that was attached first.
use Rattle.std.specs.Prelude.{ℕ, ◌≡◌, ◌+◌, ◌-◌, ◌==◌, Bool, true, false, not, ◌&&◌, List, [], ◌∷◌, ◌++◌, length, map, filter, find, Option, None, Some, nat_lt, nat_le, bytes_eq, if◌then◌else◌, ⊤}
use Rattle.std.specs.List.{list_any, list_all}
use Rattle.std.specs.Option.{option_map}
use Rattle.std.specs.declared.vec.Vec.{Vec}
use Rattle.flow_counts.specs.Picks.{Consumer, balanced_rank, is_at}
use Rattle.address_table.specs.declared.address_links.LinkRank.{LinkRank}
use Rattle.address_table.specs.declared.address_links.AddressLinks.{AddressLinks}

-- the first is asked before the other
abbrev pub comes_before : LinkRank → LinkRank → Bool
comes_before one other =
    if one.undecided == other.undecided then (if one.place == other.place then nat_le one.link other.link else nat_lt one.place other.place)
    else nat_lt one.undecided other.undecided

-- at its place among those that stand in order
abbrev pub put : LinkRank → List LinkRank → List LinkRank
put one [] = one ∷ []
put one (other ∷ rest) = if comes_before one other then one ∷ other ∷ rest else other ∷ put one rest

abbrev pub in_order : List LinkRank → List LinkRank
in_order [] = []
in_order (one ∷ rest) = put one (in_order rest)

-- links as they were attached one after the other, where so many were attached before
abbrev pub standings : (ℕ → ℕ) → ℕ → List ℕ → List LinkRank
standings undecided before [] = []
standings undecided before (link ∷ links) = record { undecided = undecided link; place = before; link = link } ∷ standings undecided (before + 1) links

abbrev pub order_of : (ℕ → ℕ) → List ℕ → List LinkRank
order_of undecided links = in_order (standings undecided 0 links)

abbrev pub are_distinct : List ℕ → Bool
are_distinct [] = true
are_distinct (link ∷ links) = not (list_any (λ other. other == link) links) && are_distinct links

-- ---- the links of an address in the order of their attaches, and in that in which they are asked

-- in the order in which they are asked only where one is kept
abbrev pub Line : Type 0
Line = List ℕ × Option (List LinkRank)

abbrev pub items_of : {A : Type 0} → Option (Vec LinkRank A) → Option (List LinkRank)
items_of order = option_map (λ standings. standings.items) order

abbrev pub line_of : Option AddressLinks → Line
line_of None = ([], Some [])
line_of (Some lineup) = (lineup.links.items, items_of lineup.order)

-- the line is that of consumers of the address
abbrev pub IsLine : (ℕ → Option Consumer) → List ℕ → Line → Type 0
IsLine consumer address line =
    (list_all (λ link. is_at address (consumer link)) line.0 ≡ true) × (are_distinct line.0 ≡ true)
    × (line.1 ≡ option_map (λ order. order_of (λ link. balanced_rank (consumer link)) line.0) line.1)

-- A test may be asked of these links one after the other: of the first, and of each other where it answered false at all
-- in front.
abbrev pub MayAsk : (ℕ → Type 0) → (ℕ → Bool → Type 0) → List LinkRank → Type 0
MayAsk may answers [] = ⊤
MayAsk may answers (one ∷ rest) = may one.link × (answers one.link false → MayAsk may answers rest)

-- ---- what happens to a line

abbrev pub is_of : ℕ → LinkRank → Bool
is_of link standing = standing.link == link

-- without the first standing of the link
abbrev pub without : ℕ → List LinkRank → List LinkRank
without link [] = []
without link (one ∷ rest) = if is_of link one then rest else one ∷ without link rest

-- a link that has left is no more before the others
abbrev pub moved_up : ℕ → LinkRank → LinkRank
moved_up place one = record { undecided = one.undecided; place = (if nat_lt place one.place then one.place - 1 else one.place); link = one.link }

abbrev pub closed_up : Option LinkRank → List LinkRank → List LinkRank
closed_up None rest = rest
closed_up (Some gone) rest = map (moved_up gone.place) rest

abbrev pub put_back : ℕ → Option LinkRank → List LinkRank → List LinkRank
put_back undecided None rest = rest
put_back undecided (Some one) rest = put (record { undecided = undecided; place = one.place; link = one.link }) rest

-- it has nothing undecided in this place
abbrev pub at_first : ℕ → ℕ → LinkRank
at_first link place = record { undecided = 0; place = place; link = link }

-- the link comes last, with nothing undecided; an order is kept if there was one and it is asked for
abbrev pub joined : Bool → ℕ → Line → Line
joined is_ordered link line = (line.0 ++ link ∷ [], option_map (put (at_first link (length line.0))) (if is_ordered then line.1 else None))

abbrev pub left : ℕ → Line → Line
left link line = (filter (λ on. not (on == link)) line.0, option_map (λ order. closed_up (find (is_of link) order) (without link order)) line.1)

-- where no link is left, the address is as if there had been none
abbrev pub emptied : Line → Line
emptied ([], order) = ([], Some [])
emptied (link ∷ links, order) = (link ∷ links, order)

-- so many of its deliveries are undecided
abbrev pub stood : ℕ → ℕ → Line → Line
stood link undecided line = (line.0, option_map (λ order. put_back undecided (find (is_of link) order) (without link order)) line.1)

-- ---- what happens to the lines of all addresses

-- the line of this address has changed so, and no other
abbrev pub ChangesAt : (List ℕ → Option AddressLinks) → (List ℕ → Option AddressLinks) → List ℕ → (Line → Line) → Type 0
ChangesAt earlier later address change = (at : List ℕ) → line_of (later at) ≡ (if bytes_eq at address then change (line_of (earlier at)) else line_of (earlier at))

-- no line has changed
abbrev pub AreSameLines : (List ℕ → Option AddressLinks) → (List ℕ → Option AddressLinks) → Type 0
AreSameLines earlier later = (at : List ℕ) → line_of (later at) ≡ line_of (earlier at)
