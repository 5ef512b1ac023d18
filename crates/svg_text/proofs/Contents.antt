-- Content that is written piece by piece.
use Rattle.std.proofs.Common.{◌≡◌, ℕ, Bool, true, false, ◌&&◌, List, [], ◌∷◌, ◌++◌, refl, sym, ap, ◌∙◌, append_assoc, append-nil}
use Rattle.std.specs.List.{list_all}
use Rattle.svg_text.specs.Grammar.{Content, EmptyElement, Element, empty_text, IsContent, IsTag, Nothing, Piece, Tag, Text, Character, content_text, end_text, is_data_piece, piece_text, pieces_text, start_text}
use Rattle.svg_text.specs.Drawn.{IsOpened, Opened, Whole, Within, opened_names, opened_text}

-- ---- content behind content

abbrev pub joined : Content → Content → Content
joined Nothing more = more
joined (Text piece rest) more = Text piece (joined rest more)
joined (Element tag inside name rest) more = Element tag inside name (joined rest more)
joined (EmptyElement tag rest) more = EmptyElement tag (joined rest more)

element_assoc : (a b c d e : List ℕ) → a ++ (b ++ (c ++ (d ++ e))) ≡ (a ++ (b ++ (c ++ d))) ++ e
element_assoc a b c d e = simp append_assoc

pub content_text-joined : (a b : Content) → content_text (joined a b) ≡ content_text a ++ content_text b
content_text-joined Nothing b = refl
content_text-joined (Text piece rest) b =
    ap (λ t. piece_text piece ++ t) (content_text-joined rest b) ∙ sym (append_assoc (piece_text piece) (content_text rest) (content_text b))
content_text-joined (Element tag inside name rest) b =
    ap (λ t. start_text tag ++ (content_text inside ++ (end_text name ++ t))) (content_text-joined rest b)
    ∙ element_assoc (start_text tag) (content_text inside) (end_text name) (content_text rest) (content_text b)
content_text-joined (EmptyElement tag rest) b =
    ap (λ t. empty_text tag ++ t) (content_text-joined rest b) ∙ sym (append_assoc (empty_text tag) (content_text rest) (content_text b))

pub IsContent-joined : (a b : Content) → IsContent a → IsContent b → IsContent (joined a b)
IsContent-joined Nothing b h k = k
IsContent-joined (Text piece rest) b h k = (h.0, IsContent-joined rest b h.1 k)
IsContent-joined (Element tag inside name rest) b h k = (h.0, h.1, h.2, IsContent-joined rest b h.3 k)
IsContent-joined (EmptyElement tag rest) b h k = (h.0, IsContent-joined rest b h.1 k)

-- ---- pieces

abbrev pub of_pieces : List Piece → Content
of_pieces [] = Nothing
of_pieces (piece ∷ rest) = Text piece (of_pieces rest)

pub content_text-pieces : (pieces : List Piece) → content_text (of_pieces pieces) ≡ pieces_text pieces
content_text-pieces [] = refl
content_text-pieces (piece ∷ rest) = ap (λ t. piece_text piece ++ t) (content_text-pieces rest)

split : (a b : Bool) → (a && b) ≡ true → (a ≡ true) × (b ≡ true)
split true b h = (refl, h)
split false b h = absurd (let f : false ≡ true = h in cc)

pub IsContent-pieces : (pieces : List Piece) → list_all is_data_piece pieces ≡ true → IsContent (of_pieces pieces)
IsContent-pieces [] h = tt
IsContent-pieces (piece ∷ rest) h = let s = split (is_data_piece piece) (list_all is_data_piece rest) h in (s.0, IsContent-pieces rest s.1)

-- ---- elements that are open

-- behind what stands in the innermost one
abbrev pub added : Opened → Content → Opened
added (Whole content) more = Whole (joined content more)
added (Within before tag inside) more = Within before tag (added inside more)

pub opened_text-added : (opened : Opened) (more : Content) → opened_text (added opened more) ≡ opened_text opened ++ content_text more
opened_text-added (Whole content) more = content_text-joined content more
opened_text-added (Within before tag inside) more =
    ap (λ t. content_text before ++ (start_text tag ++ t)) (opened_text-added inside more)
    ∙ ap (λ (t : List ℕ). content_text before ++ t) (sym (append_assoc (start_text tag) (opened_text inside) (content_text more)))
    ∙ sym (append_assoc (content_text before) (start_text tag ++ opened_text inside) (content_text more))

pub opened_names-added : (opened : Opened) (more : Content) → opened_names (added opened more) ≡ opened_names opened
opened_names-added (Whole content) more = refl
opened_names-added (Within before tag inside) more = ap (λ t. tag.name ∷ t) (opened_names-added inside more)

pub IsOpened-added : (opened : Opened) (more : Content) → IsOpened opened → IsContent more → IsOpened (added opened more)
IsOpened-added (Whole content) more h k = IsContent-joined content more h k
IsOpened-added (Within before tag inside) more h k = (h.0, h.1, IsOpened-added inside more h.2 k)

-- one more element, in the innermost one
abbrev pub begun : Opened → Tag → Opened
begun (Whole content) tag = Within content tag (Whole Nothing)
begun (Within before outer inside) tag = Within before outer (begun inside tag)

pub opened_text-begun : (opened : Opened) (tag : Tag) → opened_text (begun opened tag) ≡ opened_text opened ++ start_text tag
opened_text-begun (Whole content) tag = ap (λ t. content_text content ++ t) (append-nil (start_text tag))
opened_text-begun (Within before outer inside) tag =
    ap (λ t. content_text before ++ (start_text outer ++ t)) (opened_text-begun inside tag)
    ∙ ap (λ (t : List ℕ). content_text before ++ t) (sym (append_assoc (start_text outer) (opened_text inside) (start_text tag)))
    ∙ sym (append_assoc (content_text before) (start_text outer ++ opened_text inside) (start_text tag))

pub opened_names-begun : (opened : Opened) (tag : Tag) → opened_names (begun opened tag) ≡ opened_names opened ++ tag.name ∷ []
opened_names-begun (Whole content) tag = refl
opened_names-begun (Within before outer inside) tag = ap (λ t. outer.name ∷ t) (opened_names-begun inside tag)

pub IsOpened-begun : (opened : Opened) (tag : Tag) → IsOpened opened → IsTag tag → IsOpened (begun opened tag)
IsOpened-begun (Whole content) tag h k = (h, k, tt)
IsOpened-begun (Within before outer inside) tag h k = (h.0, h.1, IsOpened-begun inside tag h.2 k)

-- the innermost one closed, and the end of the line
abbrev pub line_end : Content
line_end = Text (Character 10) Nothing

abbrev pub ended : Content → Tag → Opened → Opened
ended before tag (Whole content) = Whole (joined before (Element tag content tag.name line_end))
ended before tag (Within inner next inside) = Within before tag (ended inner next inside)

-- its name
abbrev pub last_name : Tag → Opened → List ℕ
last_name tag (Whole content) = tag.name
last_name tag (Within inner next inside) = last_name next inside

four : (a b c d e : List ℕ) → a ++ (b ++ (c ++ (d ++ e))) ≡ (a ++ (b ++ c)) ++ (d ++ e)
four a b c d e = simp append_assoc

inner_assoc : (a b c d : List ℕ) → a ++ (b ++ (c ++ d)) ≡ (a ++ (b ++ c)) ++ d
inner_assoc a b c d = simp append_assoc

pub opened_text-ended : (before : Content) (tag : Tag) (inside : Opened)
    → opened_text (ended before tag inside) ≡ opened_text (Within before tag inside) ++ (end_text (last_name tag inside) ++ 10 ∷ [])
opened_text-ended before tag (Whole content) =
    content_text-joined before (Element tag content tag.name line_end)
    ∙ four (content_text before) (start_text tag) (content_text content) (end_text tag.name) (10 ∷ [])
opened_text-ended before tag (Within inner next inside) =
    ap (λ (t : List ℕ). content_text before ++ (start_text tag ++ t)) (opened_text-ended inner next inside)
    ∙ inner_assoc (content_text before) (start_text tag) (opened_text (Within inner next inside)) (end_text (last_name next inside) ++ 10 ∷ [])

pub opened_names-ended : (before : Content) (tag : Tag) (inside : Opened)
    → opened_names (Within before tag inside) ≡ opened_names (ended before tag inside) ++ last_name tag inside ∷ []
opened_names-ended before tag (Whole content) = refl
opened_names-ended before tag (Within inner next inside) = ap (λ (t : List (List ℕ)). tag.name ∷ t) (opened_names-ended inner next inside)

pub IsOpened-ended : (before : Content) (tag : Tag) (inside : Opened) → IsOpened (Within before tag inside) → IsOpened (ended before tag inside)
IsOpened-ended before tag (Whole content) h = IsContent-joined before (Element tag content tag.name line_end) h.0 (h.1, h.2, refl, (refl, tt))
IsOpened-ended before tag (Within inner next inside) h = (h.0, h.1, IsOpened-ended inner next inside h.2)
