-- Any text, escaped, is text of a document, and is read as itself where it may stand there.
use Rattle.std.proofs.Common.{◌≡◌, ℕ, Bool, true, false, not, ◌&&◌, ◌||◌, List, [], ◌∷◌, refl, ap}
use Rattle.std.specs.Prelude.{◌==◌, codes, if◌then◌else◌}
use Rattle.std.specs.List.{list_all}
use Rattle.svg_text.specs.Grammar.{Piece, Character, Entity, Number, is_char, is_data_piece, is_value_piece}
use Rattle.svg_text.specs.Escaping.{is_blank, piece_of, pieces_of, replacement}

pub and_true : (a b : Bool) → a ≡ true → b ≡ true → (a && b) ≡ true
and_true true b h k = k
and_true false b h k = h

not_false : (a : Bool) → a ≡ false → not a ≡ true
not_false a h = ap not h

-- a choice passes where both sides do
chosen : (P : Piece → Bool) (b : Bool) (x y : Piece) → (b ≡ true → P x ≡ true) → (b ≡ false → P y ≡ true) → P (if b then x else y) ≡ true
chosen P true x y h k = h refl
chosen P false x y h k = k refl

-- a tab and the ends of lines are characters
blank_more : (a b c d : Bool) → (a || (b || c)) ≡ true → (a || (b || (c || d))) ≡ true
blank_more true b c d h = refl
blank_more false true c d h = refl
blank_more false false true d h = refl
blank_more false false false d h = absurd (let f : false ≡ true = h in cc)

-- a test of pieces, which each reference passes that stands for a character, and each character that is no markup
record IsTest (P : Piece → Bool) : Type 0 where
  amp : P (Entity (codes "amp")) ≡ true
  lt : P (Entity (codes "lt")) ≡ true
  gt : P (Entity (codes "gt")) ≡ true
  quot : P (Entity (codes "quot")) ≡ true
  apos : P (Entity (codes "apos")) ≡ true
  number : (n : ℕ) → is_char n ≡ true → P (Number n) ≡ true
  unknown : P (Character replacement) ≡ true
  plain : (c : ℕ) → is_char c ≡ true → (c == 38) ≡ false → (c == 60) ≡ false → (c == 62) ≡ false → (c == 34) ≡ false → P (Character c) ≡ true

shown_passes : (P : Piece → Bool) (c : ℕ) (b : Bool) → IsTest P → is_char c ≡ b → (c == 38) ≡ false → (c == 60) ≡ false → (c == 62) ≡ false → (c == 34) ≡ false
    → P (Character (if b then c else replacement)) ≡ true
shown_passes P c true test is a b d e = test.plain c is a b d e
shown_passes P c false test is a b d e = test.unknown

passes : (P : Piece → Bool) (c : ℕ) → IsTest P → P (piece_of c) ≡ true
passes P c test =
    chosen P (c == 38) _ _ (λ _. test.amp) (λ a.
    chosen P (c == 60) _ _ (λ _. test.lt) (λ b.
    chosen P (c == 62) _ _ (λ _. test.gt) (λ d.
    chosen P (c == 34) _ _ (λ _. test.quot) (λ e.
    chosen P (c == 39) _ _ (λ _. test.apos) (λ f.
    chosen P (is_blank c) _ _ (λ g. test.number c (blank_more (c == 9) (c == 10) (c == 13) _ g)) (λ g.
    shown_passes P c (is_char c) test refl a b d e))))))

data_test : IsTest is_data_piece
data_test = record {
  amp = refl;
  lt = refl;
  gt = refl;
  quot = refl;
  apos = refl;
  number = λ n is. is;
  unknown = refl;
  plain = λ c is a b d e. and_true _ _ is (and_true _ _ (not_false _ b) (and_true _ _ (not_false _ a) (not_false _ d)));
}

value_test : IsTest is_value_piece
value_test = record {
  amp = refl;
  lt = refl;
  gt = refl;
  quot = refl;
  apos = refl;
  number = λ n is. is;
  unknown = refl;
  plain = λ c is a b d e. and_true _ _ is (and_true _ _ (not_false _ b) (and_true _ _ (not_false _ a) (not_false _ e)));
}

pub data_pieces : (text : List ℕ) → list_all is_data_piece (pieces_of text) ≡ true
data_pieces [] = refl
data_pieces (c ∷ rest) = and_true _ _ (passes is_data_piece c data_test) (data_pieces rest)

pub value_pieces : (text : List ℕ) → list_all is_value_piece (pieces_of text) ≡ true
value_pieces [] = refl
value_pieces (c ∷ rest) = and_true _ _ (passes is_value_piece c value_test) (value_pieces rest)
