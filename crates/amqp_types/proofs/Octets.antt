-- Sizes, counts and the octets behind them.
use Rattle.std.proofs.Common.{◌≡◌, ℕ, ◌+◌, ◌≤◌, false, cond, ltb, List, ◌++◌, length, take, drop, Ok, refl, sym, ap, subst, ◌∙◌, append_assoc, arith}
use Rattle.std.proofs.lemmas.Bool.{ltb-false, le-ltb}
use Rattle.std.proofs.lemmas.List.{take_at, drop_at, take-append-drop, length-append, length-take}
use Rattle.byteorder.specs.Endian.{big_number}
use Rattle.byteorder.specs.Numbers.{big_from-append}
use Rattle.amqp_types.specs.declared.fault.ValueFaultKind.TheVariants.{Short, BadSize}
use Rattle.amqp_types.specs.declared.code.SizeWidth.{SizeWidth}
use Rattle.amqp_types.specs.Codes.{size_len}
use Rattle.amqp_types.specs.Reading.{fault, octets_at, sized_at, counted_at}
use Rattle.amqp_types.specs.Grammar.{IsSized, IsCounted}
use Rattle.amqp_types.proofs.Steps.{bind_ok, guard_ok, ok_is, Takes}

-- so many octets at the front
pub record IsCut (n : ℕ) (bytes : List ℕ) (x : List ℕ × List ℕ) : Type 0 where
  pub len : length x.0 ≡ n
  pub parts : bytes ≡ x.0 ++ x.1

pub octets_found : (n at : ℕ) (bytes : List ℕ) (x : List ℕ × List ℕ) → octets_at n at bytes ≡ Ok x → IsCut n bytes x
unfolding octets_at
octets_found n at bytes x e =
    let g = guard_ok (ltb (length bytes) n) (record { kind = Short; at = at }) (Ok (take n bytes, drop n bytes)) x e in
    let long : n ≤ length bytes = ltb-false _ _ g.0 in
    subst (IsCut n bytes) (ok_is (take n bytes, drop n bytes) x g.1) (record { len = omega (arith, length-take n bytes); parts = sym (take-append-drop n bytes) })

pub octets_again : (n at : ℕ) (front rest : List ℕ) → length front ≡ n → octets_at n at (front ++ rest) ≡ Ok (front, rest)
unfolding octets_at
octets_again n at front rest len =
    let long : ltb (length (front ++ rest)) n ≡ false = le-ltb _ _ (omega (arith, length-append front rest)) in
    rw (long, take_at front rest n len, drop_at front rest n len) refl

pub sized_found : (width : SizeWidth) (at : ℕ) (bytes : List ℕ) (x : List ℕ × List ℕ) → sized_at width at bytes ≡ Ok x → Takes (IsSized width) bytes x
unfolding sized_at
sized_found width at bytes x e =
    let a = bind_ok (octets_at (size_len width) at bytes) (λ size. octets_at (big_number (size_len width) size.0) at size.1) x e in
    let size = octets_found (size_len width) at bytes a.0 a.1 in
    let content = octets_found (big_number (size_len width) a.0.0) at a.0.1 x a.2 in
    record {
      front = a.0.0 ++ x.0;
      parts = size.parts ∙ ap (λ (t : List ℕ). a.0.0 ++ t) content.parts ∙ sym (append_assoc a.0.0 x.0 x.1);
      is = record { size = a.0.0; says = record { len = size.len; says = sym content.len }; parts = refl };
    }

pub sized_again : (width : SizeWidth) (at : ℕ) (octets content rest : List ℕ) → IsSized width octets content → sized_at width at (octets ++ rest) ≡ Ok (content, rest)
unfolding sized_at
sized_again width at octets content rest is =
    let regrouped : octets ++ rest ≡ is.size ++ (content ++ rest) = ap (λ (t : List ℕ). t ++ rest) is.parts ∙ append_assoc is.size content rest in
    ap (sized_at width at) regrouped
    ∙ rw (octets_again (size_len width) at is.size (content ++ rest) is.says.len) (octets_again (big_number (size_len width) is.size) at content rest (sym is.says.says))

-- the number in the octets of a count reads none of the octets behind it
number_of_front : (n : ℕ) (count body : List ℕ) → length count ≡ n → big_number n (count ++ body) ≡ big_number n count
number_of_front n count body len = big_from-append n count body (omega arith)

-- a list's size holds its count
abbrev Counted : SizeWidth → List ℕ → ℕ × List ℕ → Type 0
Counted width octets c = IsCounted width octets c.0 c.1

pub counted_found : (width : SizeWidth) (at : ℕ) (bytes : List ℕ) (x : (ℕ × List ℕ) × List ℕ) → counted_at width at bytes ≡ Ok x → Takes (λ octets c. IsCounted width octets c.0 c.1) bytes x
unfolding counted_at
counted_found width at bytes x e =
    let n = size_len width in
    let a = bind_ok (sized_at width at bytes) (λ whole. cond (ltb (length whole.0) n) (fault BadSize at) (cond (ltb (length whole.0) (big_number n whole.0)) (fault BadSize at) (Ok ((big_number n whole.0, drop n whole.0), whole.1)))) x e in
    let whole = a.0.0 in
    let g = guard_ok (ltb (length whole) n) (record { kind = BadSize; at = at }) _ x a.2 in
    let h = guard_ok (ltb (length whole) (big_number n whole)) (record { kind = BadSize; at = at }) _ x g.1 in
    let holds : n ≤ length whole = ltb-false _ _ g.0 in
    let few : big_number n whole ≤ length whole = ltb-false _ _ h.0 in
    let sized = sized_found width at bytes a.0 a.1 in
    let split : take n whole ++ drop n whole ≡ whole = take-append-drop n whole in
    let len : length (take n whole) ≡ n = omega (arith, length-take n whole) in
    let says : big_number n (take n whole) ≡ big_number n whole = sym (number_of_front n (take n whole) (drop n whole) len) ∙ ap (big_number n) split in
    let is : IsCounted width sized.front (big_number n whole) (drop n whole) = record {
      count = take n whole;
      says = record { len = len; says = says };
      sized = subst (IsSized width sized.front) (sym split) sized.is;
      few = subst (λ (t : List ℕ). big_number n whole ≤ length t) (sym split) few;
    } in
    subst (Takes (λ octets c. IsCounted width octets c.0 c.1) bytes) (ok_is ((big_number n whole, drop n whole), a.0.1) x h.1) (record { front = sized.front; parts = sized.parts; is = is })

pub counted_again : (width : SizeWidth) (at n : ℕ) (octets body rest : List ℕ) → IsCounted width octets n body → counted_at width at (octets ++ rest) ≡ Ok ((n, body), rest)
unfolding counted_at
counted_again width at n octets body rest is =
    let whole = is.count ++ body in
    let len : length whole ≡ length is.count + length body = length-append is.count body in
    let says : big_number (size_len width) whole ≡ n = number_of_front (size_len width) is.count body is.says.len ∙ is.says.says in
    let holds : ltb (length whole) (size_len width) ≡ false = le-ltb _ _ (omega (arith, is.says.len)) in
    let few : ltb (length whole) n ≡ false = le-ltb _ _ is.few in
    rw (sized_again width at octets whole rest is.sized, holds, says, few, drop_at is.count body (size_len width) is.says.len) refl

-- two sizes, the items and the rest are what was there
pub counted_lengths : (width : SizeWidth) (at : ℕ) (bytes : List ℕ) (x : (ℕ × List ℕ) × List ℕ) → counted_at width at bytes ≡ Ok x → size_len width + size_len width + length x.0.1 + length x.1 ≡ length bytes
counted_lengths width at bytes x e =
    let takes = counted_found width at bytes x e in
    let is = takes.is in
    let all : length bytes ≡ length takes.front + length x.1 = ap length takes.parts ∙ length-append takes.front x.1 in
    let front : length takes.front ≡ length is.sized.size + length (is.count ++ x.0.1) = ap length is.sized.parts ∙ length-append is.sized.size (is.count ++ x.0.1) in
    omega (arith, all, front, is.sized.says.len, is.says.len, length-append is.count x.0.1)
