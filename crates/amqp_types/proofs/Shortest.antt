-- No octets that say the same are fewer than those that are written.
use Rattle.std.proofs.Common.{◌≡◌, ℕ, zero, suc, ◌+◌, ◌<◌, ◌≤◌, ◌^◌, Bool, true, false, cond, eqb, ◌&&◌, List, [], ◌∷◌, ◌++◌, length, refl, ap, subst, ◌∙◌, inl, inr, arith, lit≤}
use Rattle.std.proofs.lemmas.Bool.{lt-ltb}
use Rattle.std.proofs.lemmas.List.{length-append}
use Rattle.byteorder.specs.Endian.{big_number, big_bytes}
use Rattle.byteorder.specs.Numbers.{length-bytes_high_first, big_from-append, big_from-lt}
use Rattle.amqp_types.specs.declared.code.Scalar.{Scalar}
use Rattle.amqp_types.specs.declared.code.Scalar.TheVariants as scalars
use Rattle.amqp_types.specs.declared.code.Text.{Text}
use Rattle.amqp_types.specs.declared.code.Kind.TheVariants as kinds
use Rattle.amqp_types.specs.declared.code.SizeWidth.{SizeWidth}
use Rattle.amqp_types.specs.declared.code.SizeWidth.TheVariants.{One, Four}
use Rattle.amqp_types.specs.declared.code.Code.{Code}
use Rattle.amqp_types.specs.declared.code.Code.TheVariants as codes
use Rattle.amqp_types.specs.Part.{Part, Null, Boolean, Ubyte, Ushort, Uint, Ulong, Sized, Nested}
use Rattle.amqp_types.specs.Grammar.{IsNumber, IsScalar, IsSized, IsCounted, IsData, IsValue}
use Rattle.amqp_types.specs.Writing.{AreOctets, IsShortest, fits_octet, uint_octets, ulong_octets, text_code, text_octets, list_octets}

-- how many octets are written for what has a writer
unfoldable pub least : Part → ℕ
least Null = 1
least (Boolean truth) = 1
least (Ubyte n) = 2
least (Ushort n) = 3
least (Uint n) = length (uint_octets n)
least (Ulong n) = length (ulong_octets n)
least (Sized text content) = length (text_octets text content)
least (Nested kinds.List n body) = length (list_octets n body)
least other = 0

-- a number in few octets is small
number_fits : (width n : ℕ) (front rest octets : List ℕ) → octets ≡ front ++ rest → AreOctets octets → IsNumber width front n → n < 256 ^ width
number_fits width n front rest octets parts are is =
    let same : big_number width octets ≡ n = ap (big_number width) parts ∙ big_from-append width front rest (omega (arith, is.len)) ∙ is.says in
    subst (λ (m : ℕ). m < 256 ^ width) same (big_from-lt 0 width octets are)

octet_fits : (n : ℕ) (octets : List ℕ) → AreOctets octets → IsNumber 1 octets n → n < 256
octet_fits n octets are is = subst (λ (m : ℕ). m < 256) is.says (big_from-lt 0 1 octets are)

-- ---- how long the written forms are

uint_by : (n : ℕ) (none one : Bool) → length (cond none (0x43 ∷ []) (cond one (0x52 ∷ n ∷ []) (0x70 ∷ big_bytes 4 n))) ≤ 5
uint_by n true one = lit≤ tt
uint_by n false true = lit≤ tt
uint_by n false false = lit≤ tt

pub uint_long : (n : ℕ) → length (uint_octets n) ≤ 5
unfolding uint_octets
uint_long n = uint_by n (eqb n 0) (fits_octet n)

uint_small : (n : ℕ) (none : Bool) → length (cond none (0x43 ∷ []) (0x52 ∷ n ∷ [])) ≤ 2
uint_small n true = lit≤ tt
uint_small n false = lit≤ tt

uint_short : (n : ℕ) → n < 256 → length (uint_octets n) ≤ 2
unfolding uint_octets
uint_short n fits = rw (lt-ltb n 256 fits) (uint_small n (eqb n 0))

ulong_by : (n : ℕ) (none one : Bool) → length (cond none (0x44 ∷ []) (cond one (0x53 ∷ n ∷ []) (0x80 ∷ big_bytes 8 n))) ≤ 9
ulong_by n true one = lit≤ tt
ulong_by n false true = lit≤ tt
ulong_by n false false = lit≤ tt

pub ulong_long : (n : ℕ) → length (ulong_octets n) ≤ 9
unfolding ulong_octets
ulong_long n = ulong_by n (eqb n 0) (fits_octet n)

ulong_small : (n : ℕ) (none : Bool) → length (cond none (0x44 ∷ []) (0x53 ∷ n ∷ [])) ≤ 2
ulong_small n true = lit≤ tt
ulong_small n false = lit≤ tt

ulong_short : (n : ℕ) → n < 256 → length (ulong_octets n) ≤ 2
unfolding ulong_octets
ulong_short n fits = rw (lt-ltb n 256 fits) (ulong_small n (eqb n 0))

text_by : (text : Text) (content : List ℕ) (one : Bool) → length (cond one (text_code text One ∷ length content ∷ content) (text_code text Four ∷ (big_bytes 4 (length content) ++ content))) ≤ 5 + length content
text_by text content true = omega arith
text_by text content false = omega (arith, length-append (big_bytes 4 (length content)) content, length-bytes_high_first 4 (length content))

pub text_long : (text : Text) (content : List ℕ) → length (text_octets text content) ≤ 5 + length content
unfolding text_octets
text_long text content = text_by text content (fits_octet (length content))

text_short : (text : Text) (content : List ℕ) → length content < 256 → length (text_octets text content) ≤ 2 + length content
unfolding text_octets
text_short text content fits = rw (lt-ltb (length content) 256 fits) (omega arith)

list_by : (n : ℕ) (body : List ℕ) (none one : Bool) → length (cond none (0x45 ∷ []) (cond one (0xC0 ∷ (length body + 1) ∷ n ∷ body) (0xD0 ∷ (big_bytes 4 (length body + 4) ++ (big_bytes 4 n ++ body))))) ≤ 9 + length body
list_by n body true one = omega arith
list_by n body false true = omega arith
list_by n body false false =
    omega (arith, length-append (big_bytes 4 (length body + 4)) (big_bytes 4 n ++ body), length-append (big_bytes 4 n) body, length-bytes_high_first 4 (length body + 4), length-bytes_high_first 4 n)

pub list_long : (n : ℕ) (body : List ℕ) → length (list_octets n body) ≤ 9 + length body
unfolding list_octets
list_long n body = list_by n body (eqb n 0) (fits_octet (length body + 1) && fits_octet n)

list_small : (n : ℕ) (body : List ℕ) (none : Bool) → length (cond none (0x45 ∷ []) (0xC0 ∷ (length body + 1) ∷ n ∷ body)) ≤ 3 + length body
list_small n body true = omega arith
list_small n body false = omega arith

list_short : (n : ℕ) (body : List ℕ) → length body + 1 < 256 → n < 256 → length (list_octets n body) ≤ 3 + length body
unfolding list_octets
list_short n body size count = rw (lt-ltb (length body + 1) 256 size, lt-ltb n 256 count) (list_small n body (eqb n 0))

-- ---- what other octets say the same

scalar_least : (scalar : Scalar) (octets : List ℕ) (part : Part) → AreOctets octets → IsScalar scalar octets part → least part ≤ 1 + length octets
unfolding least uint_octets ulong_octets
scalar_least scalars.Null octets part are h = rw h.1 (omega arith)
scalar_least scalars.True octets part are h = rw h.1 (omega arith)
scalar_least scalars.False octets part are h = rw h.1 (omega arith)
scalar_least scalars.Boolean octets part are (inl h) = rw h.1 (omega arith)
scalar_least scalars.Boolean octets part are (inr h) = rw h.1 (omega arith)
scalar_least scalars.Ubyte octets part are h = rw h.2 (omega (arith, h.1.len))
scalar_least scalars.Ushort octets part are h = rw h.2 (omega (arith, h.1.len))
scalar_least scalars.UintZero octets part are h = rw h.1 (omega arith)
scalar_least scalars.UintOctet octets part are h = rw h.2 (omega (arith, h.1.len, uint_short h.0 (octet_fits h.0 octets are h.1)))
scalar_least scalars.Uint octets part are h = rw h.2 (omega (arith, h.1.len, uint_long h.0))
scalar_least scalars.UlongZero octets part are h = rw h.1 (omega arith)
scalar_least scalars.UlongOctet octets part are h = rw h.2 (omega (arith, h.1.len, ulong_short h.0 (octet_fits h.0 octets are h.1)))
scalar_least scalars.Ulong octets part are h = rw h.2 (omega (arith, h.1.len, ulong_long h.0))
scalar_least scalars.Byte octets part are h = rw h.2 (omega arith)
scalar_least scalars.Short octets part are h = rw h.2 (omega arith)
scalar_least scalars.IntOctet octets part are h = rw h.2 (omega arith)
scalar_least scalars.Int octets part are h = rw h.2 (omega arith)
scalar_least scalars.LongOctet octets part are h = rw h.2 (omega arith)
scalar_least scalars.Long octets part are h = rw h.2 (omega arith)
scalar_least (scalars.Opaque opaque) octets part are h = rw h.1 (omega arith)

text_least : (text : Text) (width : SizeWidth) (octets content : List ℕ) → AreOctets octets → IsSized width octets content → length (text_octets text content) ≤ 1 + length octets
text_least text One octets content are is =
    let fits = number_fits 1 (length content) is.size content octets is.parts are is.says in
    omega (arith, text_short text content fits, ap length is.parts, length-append is.size content, is.says.len)
text_least text Four octets content are is =
    omega (arith, text_long text content, ap length is.parts, length-append is.size content, is.says.len)

list_least : (width : SizeWidth) (n : ℕ) (octets body : List ℕ) → AreOctets octets → IsCounted width octets n body → length (list_octets n body) ≤ 1 + length octets
list_least One n octets body are is =
    let sized = is.sized in
    let all = length-append is.count body in
    let fits = number_fits 1 (length (is.count ++ body)) sized.size (is.count ++ body) octets sized.parts are sized.says in
    let short = list_short n body (omega (arith, fits, all, is.says.len)) (omega (arith, fits, is.few)) in
    omega (arith, short, ap length sized.parts, length-append sized.size (is.count ++ body), all, sized.says.len, is.says.len)
list_least Four n octets body are is =
    let sized = is.sized in
    omega (arith, list_long n body, ap length sized.parts, length-append sized.size (is.count ++ body), length-append is.count body, sized.says.len, is.says.len)

data_least : (levels : ℕ) (code : Code) (octets : List ℕ) (part : Part) → AreOctets octets → IsData levels zero code octets part → least part ≤ 1 + length octets
unfolding IsData least list_octets
data_least zero code octets part are is = absurd is
data_least (suc levels) (codes.Fixed scalar) octets part are is = scalar_least scalar octets part are is
data_least (suc levels) (codes.Sized text width) octets part are is = rw is.3 (text_least text width octets is.0 are is.1)
data_least (suc levels) codes.EmptyList octets part are is = rw is.1 (omega arith)
data_least (suc levels) (codes.Nested kinds.List width) octets part are is = rw is.is (list_least width is.n octets is.body are is.counted)
data_least (suc levels) (codes.Nested kinds.Map width) octets part are is = rw is.is (omega arith)
data_least (suc levels) (codes.Array width) octets part are is =
    elim is.elements [ inl none ↦ rw none.2 (omega arith) | inr some ↦ rw some.is (omega arith) ]
data_least (suc levels) codes.Described octets part are is = rw is.is (omega arith)

value_least : (levels : ℕ) (octets : List ℕ) (part : Part) → AreOctets octets → IsValue levels octets part → least part ≤ length octets
unfolding IsValue
value_least levels [] part are is = absurd is
value_least levels (b ∷ octets) part are is = omega (arith, data_least levels is.0 octets part (λ i. are (suc i)) is.2)

pub shortest : (octets : List ℕ) (part : Part) → length octets ≡ least part → IsShortest octets part
shortest octets part len = λ levels other are is. omega (arith, len, value_least levels other part are is)

pub list_shortest : (n : ℕ) (body : List ℕ) → IsShortest (list_octets n body) (Nested kinds.List n body)
unfolding least
list_shortest n body = shortest (list_octets n body) (Nested kinds.List n body) refl
