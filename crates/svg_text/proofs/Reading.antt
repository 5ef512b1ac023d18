-- What a reader finds in a text that was escaped.
use Rattle.std.proofs.Common.{◌≡◌, ℕ, Bool, true, false, ◌&&◌, ◌||◌, List, [], ◌∷◌, ◌++◌, map, refl, sym, subst, ap, ◌∙◌}
use Rattle.std.proofs.lemmas.Bool.{eqb-true}
use Rattle.std.specs.Prelude.{◌==◌, codes, Some, None, if◌then◌else◌}
use Rattle.std.specs.Fmt.{digits}
use Rattle.std.specs.List.{list_all}
use Rattle.svg_text.specs.Grammar.{Piece, Character, Entity, Number, is_char, piece_text, pieces_text}
use Rattle.svg_text.specs.Escaping.{is_blank, literal, piece_of, pieces_of, read, read_on, replacement, shown}

-- a piece is read as a character
IsReadAs : Piece → ℕ → Type 0
IsReadAs piece c = (rest : List ℕ) → read_on None (piece_text piece ++ rest) ≡ c ∷ read_on None rest

chosen : (c : ℕ) (b : Bool) (x y : Piece) → (b ≡ true → IsReadAs x c) → (b ≡ false → IsReadAs y c) → IsReadAs (if b then x else y) c
chosen c true x y h k = h refl
chosen c false x y h k = k refl

-- a character that is markup, or blank
known : (c k : ℕ) (piece : Piece) → (c == k) ≡ true → IsReadAs piece (shown k) → IsReadAs piece (shown c)
known c k piece is reads = subst (λ d. IsReadAs piece (shown d)) (sym (eqb-true c k is)) reads

number_of : (c k : ℕ) → (c == k) ≡ true → IsReadAs (Number k) (shown k) → IsReadAs (Number c) (shown c)
number_of c k is reads = subst (λ d. IsReadAs (Number d) (shown d)) (sym (eqb-true c k is)) reads

amp_read : IsReadAs (Entity (codes "amp")) (shown 38)
unfolding IsReadAs
amp_read rest = refl

lt_read : IsReadAs (Entity (codes "lt")) (shown 60)
unfolding IsReadAs
lt_read rest = refl

gt_read : IsReadAs (Entity (codes "gt")) (shown 62)
unfolding IsReadAs
gt_read rest = refl

quot_read : IsReadAs (Entity (codes "quot")) (shown 34)
unfolding IsReadAs
quot_read rest = refl

apos_read : IsReadAs (Entity (codes "apos")) (shown 39)
unfolding IsReadAs
apos_read rest = refl

tab_read : IsReadAs (Number 9) (shown 9)
unfolding IsReadAs digits
tab_read rest = refl

line_read : IsReadAs (Number 10) (shown 10)
unfolding IsReadAs digits
line_read rest = refl

return_read : IsReadAs (Number 13) (shown 13)
unfolding IsReadAs digits
return_read rest = refl

blank_read : (c : ℕ) (a b d : Bool) → (c == 9) ≡ a → (c == 10) ≡ b → (c == 13) ≡ d → (a || (b || d)) ≡ true → IsReadAs (Number c) (shown c)
blank_read c true b d x y z h = number_of c 9 x tab_read
blank_read c false true d x y z h = number_of c 10 y line_read
blank_read c false false true x y z h = number_of c 13 z return_read
blank_read c false false false x y z h = absurd (let f : false ≡ true = h in cc)

-- one that is neither
plain_read : (c : ℕ) (a b : Bool) → (c == 38) ≡ a → is_blank c ≡ b → a ≡ false → b ≡ false → IsReadAs (Character c) c
unfolding IsReadAs
plain_read c a b x y m n rest =
    let first : (if (c == 38) then read_on (Some []) rest else literal c ∷ read_on None rest) ≡ literal c ∷ read_on None rest =
    ap (λ (t : Bool). if t then read_on (Some []) rest else literal c ∷ read_on None rest) (x ∙ m) in
    first ∙ ap (λ (t : Bool). (if t then 32 else c) ∷ read_on None rest) (y ∙ n)

replacement_read : IsReadAs (Character replacement) replacement
unfolding IsReadAs
replacement_read rest = refl

shown_read : (c : ℕ) (b : Bool) → (c == 38) ≡ false → is_blank c ≡ false → IsReadAs (Character (if b then c else replacement)) (if b then c else replacement)
shown_read c true x y = plain_read c _ _ refl refl x y
shown_read c false x y = replacement_read

piece_read : (c : ℕ) → IsReadAs (piece_of c) (shown c)
piece_read c =
    chosen (shown c) (c == 38) _ _ (λ is. known c 38 _ is amp_read) (λ a.
    chosen (shown c) (c == 60) _ _ (λ is. known c 60 _ is lt_read) (λ b.
    chosen (shown c) (c == 62) _ _ (λ is. known c 62 _ is gt_read) (λ d.
    chosen (shown c) (c == 34) _ _ (λ is. known c 34 _ is quot_read) (λ e.
    chosen (shown c) (c == 39) _ _ (λ is. known c 39 _ is apos_read) (λ f.
    chosen (shown c) (is_blank c) _ _ (λ is. blank_read c _ _ _ refl refl refl is) (λ g.
    shown_read c (is_char c) a g))))))

-- each character is read, in order
pub read_pieces : (text : List ℕ) → read (pieces_text (pieces_of text)) ≡ map shown text
unfolding IsReadAs
read_pieces [] = refl
read_pieces (c ∷ rest) = piece_read c (pieces_text (pieces_of rest)) ∙ ap (λ t. shown c ∷ t) (read_pieces rest)

shown_same : (c : ℕ) (b : Bool) → b ≡ true → (if b then c else replacement) ≡ c
shown_same c true is = refl
shown_same c false is = absurd (let f : false ≡ true = is in cc)

split : (a b : Bool) → (a && b) ≡ true → (a ≡ true) × (b ≡ true)
split true b h = (refl, h)
split false b h = absurd (let f : false ≡ true = h in cc)

all_shown : (text : List ℕ) → list_all is_char text ≡ true → map shown text ≡ text
all_shown [] all = refl
all_shown (c ∷ rest) all =
    let s = split (is_char c) (list_all is_char rest) all in
    ap (λ (x : ℕ). x ∷ map shown rest) (shown_same c (is_char c) s.0) ∙ ap (λ (t : List ℕ). c ∷ t) (all_shown rest s.1)

-- a text whose characters a document may have is read as it was handed in
pub read_same : (text : List ℕ) → list_all is_char text ≡ true → read (pieces_text (pieces_of text)) ≡ text
read_same text all = read_pieces text ∙ all_shown text all
