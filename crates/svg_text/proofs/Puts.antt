-- What a call appends.
use Rattle.std.proofs.Common.{◌≡◌, ℕ, List, ◌++◌, Result, Ok, Err, refl, sym, subst, ap, ◌∙◌, append_assoc}
use Rattle.std.specs.Prelude.{OnOk, codes, is_ok, if◌then◌else◌}
use Rattle.std.specs.Fmt.{digits}
use Rattle.std.specs.Str.{encode_utf8_all}
use lib.Utf8.{encode}
use Rattle.svg_text.specs.Grammar.{piece_text}
use Rattle.svg_text.specs.Escaping.{piece_of}

-- octets that are told in other words
pub put_as : {E : Type 0} (r : Result (Unit {0}) E) (old new octets other : List ℕ) → new ≡ (if is_ok r then old ++ octets else old) → octets ≡ other → OnOk r (new ≡ old ++ other)
put_as (Ok x) old new octets other is same = is ∙ ap (λ (t : List ℕ). old ++ t) same
put_as (Err e) old new octets other is same = tt

-- what was put, told in other words
pub told_as : {E : Type 0} (r : Result (Unit {0}) E) (old new octets other : List ℕ) → OnOk r (new ≡ old ++ octets) → octets ≡ other → OnOk r (new ≡ old ++ other)
told_as (Ok x) old new octets other is same = is ∙ ap (λ (t : List ℕ). old ++ t) same
told_as (Err e) old new octets other is same = tt

-- octets behind others
pub behind_others : {E : Type 0} (r : Result (Unit {0}) E) (old mid new a b c : List ℕ) → mid ≡ old ++ a → OnOk r (new ≡ mid ++ b) → a ++ b ≡ c → OnOk r (new ≡ old ++ c)
behind_others (Ok x) old mid new a b c first is same = is ∙ ap (λ (t : List ℕ). t ++ b) first ∙ append_assoc old a b ∙ ap (λ (t : List ℕ). old ++ t) same
behind_others (Err e) old mid new a b c first is same = tt

-- the same, where nothing failed
pub joined : (old mid new a b c : List ℕ) → mid ≡ old ++ a → new ≡ mid ++ b → a ++ b ≡ c → new ≡ old ++ c
joined old mid new a b c first second same = second ∙ ap (λ (t : List ℕ). t ++ b) first ∙ append_assoc old a b ∙ ap (λ (t : List ℕ). old ++ t) same

-- five parts
pub five_parts : {E : Type 0} (r : Result (Unit {0}) E) (s0 s1 s2 s3 s4 s5 a b c d e whole : List ℕ) → s1 ≡ s0 ++ a → s2 ≡ s1 ++ b → s3 ≡ s2 ++ c → s4 ≡ s3 ++ d
    → s5 ≡ (if is_ok r then s4 ++ e else s4) → whole ≡ a ++ (b ++ (c ++ (d ++ e))) → OnOk r (s5 ≡ s0 ++ whole)
five_parts (Ok x) s0 s1 s2 s3 s4 s5 a b c d e whole e1 e2 e3 e4 e5 same =
    joined s0 s4 s5 (((a ++ b) ++ c) ++ d) e whole
    (joined s0 s3 s4 ((a ++ b) ++ c) d _ (joined s0 s2 s3 (a ++ b) c _ (joined s0 s1 s2 a b _ e1 e2 refl) e3 refl) e4 refl) e5
    (simp append_assoc (sym same))
five_parts (Err x) s0 s1 s2 s3 s4 s5 a b c d e whole e1 e2 e3 e4 e5 same = tt

pub tab_octets : (c : ℕ) → c ≡ 9 → codes "&#9;" ≡ encode_utf8_all (piece_text (piece_of c))
unfolding encode digits
tab_octets c is = subst (λ d. codes "&#9;" ≡ encode_utf8_all (piece_text (piece_of d))) (sym is) refl

pub line_octets : (c : ℕ) → c ≡ 10 → codes "&#10;" ≡ encode_utf8_all (piece_text (piece_of c))
unfolding encode digits
line_octets c is = subst (λ d. codes "&#10;" ≡ encode_utf8_all (piece_text (piece_of d))) (sym is) refl

pub return_octets : (c : ℕ) → c ≡ 13 → codes "&#13;" ≡ encode_utf8_all (piece_text (piece_of c))
unfolding encode digits
return_octets c is = subst (λ d. codes "&#13;" ≡ encode_utf8_all (piece_text (piece_of d))) (sym is) refl
