-- How long transfers are: as long whether more follows or not, so that what is filled fits the client's limit; and how many octets
-- those without payload have.
use Rattle.std.proofs.Common.{◌≡◌, refl, sym, ap, ◌∙◌, ℕ, ◌+◌, ◌≤◌, ◌<◌, Bool, true, false, ◌&&◌, List, [], ◌∷◌, ◌++◌, length, nat_lt, ◌==◌, eqb-true, ltb-true, lit≤, arith, if◌then◌else◌}
use Rattle.std.specs.Int.{w32, to_be_bytes}
use Rattle.std.proofs.lemmas.Bool.{lt-ltb}
use Rattle.std.proofs.lemmas.List.{length-append, length-take}
use Rattle.byteorder.specs.Endian.{big_bytes}
use Rattle.byteorder.specs.Numbers.{length-bytes_high_first}
use Rattle.amqp_types.specs.declared.code.Text.TheVariants as texts
use Rattle.amqp_types.specs.Writing.{fits_octet, list_octets, uint_octets, boolean_octets, null_octets, text_octets}
use Rattle.amqp_types.proofs.Shortest.{list_long, uint_long}
use Rattle.amqp_perf.specs.Meaning.{ATransfer, TransferFields}
use Rattle.amqp_perf.specs.Writing.{performative_octets}
use Rattle.amqp_perf.proofs.Lengths.{flag_long}
use Rattle.trace_events.specs.Event.{Event, Link}
use Rattle.trace_events.specs.Connection.{frame_limit}
use Rattle.trace_events.specs.Written.{spoken_octets, written_transfer, first_part, next_part}
use Rattle.route_dues.specs.Transfers.{room_on, filled_on}
use Rattle.route_answers.proofs.Lengths.{spoken_long}
use Rattle.route_dues.proofs.Lengths.{limit_least}

-- ---- a list, by how long its items are

abbrev size_by : Bool → Bool → ℕ → ℕ
size_by none one body = if none then 1 else if one then 3 + body else 9 + body

sized_by : (none one : Bool) (count : ℕ) (body : List ℕ)
    → length (if none then 0x45 ∷ [] else if one then 0xC0 ∷ (length body + 1) ∷ count ∷ body else 0xD0 ∷ (big_bytes 4 (length body + 4) ++ (big_bytes 4 count ++ body))) ≡ size_by none one (length body)
sized_by true one count body = refl
sized_by false true count body = omega arith
sized_by false false count body =
    omega (arith, length-append (big_bytes 4 (length body + 4)) (big_bytes 4 count ++ body), length-append (big_bytes 4 count) body, length-bytes_high_first 4 (length body + 4), length-bytes_high_first 4 count)

list_sized : (count : ℕ) (body : List ℕ) → length (list_octets count body) ≡ size_by (count == 0) (fits_octet (length body + 1) && fits_octet count) (length body)
unfolding list_octets
list_sized count body = sized_by (count == 0) (fits_octet (length body + 1) && fits_octet count) count body

list_same : (count : ℕ) (xs ys : List ℕ) → length xs ≡ length ys → length (list_octets count xs) ≡ length (list_octets count ys)
list_same count xs ys same =
    list_sized count xs ∙ (ap (λ n. size_by (count == 0) (fits_octet (n + 1) && fits_octet count) n) same ∙ sym (list_sized count ys))

-- ---- a transfer's fields, up to more

described_same : (xs ys : List ℕ) → length xs ≡ length ys → length (0x00 ∷ 0x53 ∷ 0x14 ∷ list_octets 6 xs) ≡ length (0x00 ∷ 0x53 ∷ 0x14 ∷ list_octets 6 ys)
described_same xs ys same = let h = list_same 6 xs ys same in omega (arith, h)

behind_same : (front xs ys : List ℕ) → length xs ≡ length ys → length (front ++ xs) ≡ length (front ++ ys)
behind_same front xs ys same = length-append front xs ∙ (ap (λ n. length front + n) same ∙ sym (length-append front ys))

flag_same : (b : Bool) → length (boolean_octets b ++ []) ≡ length (boolean_octets true ++ [])
unfolding boolean_octets
flag_same true = refl
flag_same false = refl

module _ (l : Link) where
  abbrev first_body : ℕ → ℕ → Bool → List ℕ
  first_body id format more =
      uint_octets l.handle ++ (uint_octets id ++ (text_octets texts.Binary (to_be_bytes w32 id) ++ (uint_octets format ++ (boolean_octets l.is_pre_settled ++ (boolean_octets more ++ [])))))

  abbrev next_body : Bool → List ℕ
  next_body more = uint_octets l.handle ++ (null_octets ++ (null_octets ++ (null_octets ++ (null_octets ++ (boolean_octets more ++ [])))))

  pub first_same : (id format : ℕ) (more : Bool) → length (performative_octets (ATransfer (first_part l id format more))) ≡ length (performative_octets (ATransfer (first_part l id format true)))
  first_same id format more =
      described_same (first_body id format more) (first_body id format true)
      (behind_same (uint_octets l.handle) _ _ (behind_same (uint_octets id) _ _ (behind_same (text_octets texts.Binary (to_be_bytes w32 id)) _ _
      (behind_same (uint_octets format) _ _ (behind_same (boolean_octets l.is_pre_settled) _ _ (flag_same more))))))

  pub next_same : (more : Bool) → length (performative_octets (ATransfer (next_part l more))) ≡ length (performative_octets (ATransfer (next_part l true)))
  next_same more =
      described_same (next_body more) (next_body true)
      (behind_same (uint_octets l.handle) _ _ (behind_same null_octets _ _ (behind_same null_octets _ _ (behind_same null_octets _ _ (behind_same null_octets _ _ (flag_same more))))))

-- ---- they are short

tag_long : (id : ℕ) → length (text_octets texts.Binary (to_be_bytes w32 id)) ≤ 6
unfolding text_octets
tag_long id = lit≤ tt

last_long : (b : Bool) → length (boolean_octets b ++ []) ≤ 5
unfolding boolean_octets
last_long true = omega arith
last_long false = omega arith

null_long : length null_octets ≤ 1
unfolding null_octets
null_long = omega arith

six_long : (a b c d e f : List ℕ) → length (0x00 ∷ 0x53 ∷ 0x14 ∷ list_octets 6 (a ++ (b ++ (c ++ (d ++ (e ++ f)))))) ≤ 12 + (length a + (length b + (length c + (length d + (length e + length f)))))
six_long a b c d e f =
    omega (
      arith,
      list_long 6 (a ++ (b ++ (c ++ (d ++ (e ++ f))))),
      length-append a (b ++ (c ++ (d ++ (e ++ f)))),
      length-append b (c ++ (d ++ (e ++ f))),
      length-append c (d ++ (e ++ f)),
      length-append d (e ++ f),
      length-append e f,
    )

pub first_short : (l : Link) (id format : ℕ) → length (performative_octets (ATransfer (first_part l id format true))) ≤ 100
first_short l id format =
    let h = six_long (uint_octets l.handle) (uint_octets id) (text_octets texts.Binary (to_be_bytes w32 id)) (uint_octets format) (boolean_octets l.is_pre_settled) (boolean_octets true ++ []) in
    omega (arith, h, uint_long l.handle, uint_long id, tag_long id, uint_long format, flag_long l.is_pre_settled, last_long true)

pub next_short : (l : Link) → length (performative_octets (ATransfer (next_part l true))) ≤ 100
next_short l =
    let h = six_long (uint_octets l.handle) null_octets null_octets null_octets null_octets (boolean_octets true ++ []) in
    omega (arith, h, uint_long l.handle, null_long, last_long true)

-- ---- so what is filled fits

pub filled_fits : (past : List Event) (l : Link) (fields : Bool → TransferFields) (octets : List ℕ)
    → ((more : Bool) → length (performative_octets (ATransfer (fields more))) ≡ length (performative_octets (ATransfer (fields true))))
    → length (performative_octets (ATransfer (fields true))) ≤ 100
    → length (spoken_octets (filled_on past l fields octets)) ≤ frame_limit l.session.connection past
filled_fits past l fields octets same short =
    let room = room_on past l fields in
    let more = nat_lt room (length octets) in
    let whole = spoken_long (filled_on past l fields octets) in
    let bare = spoken_long (written_transfer l (fields true) []) in
    omega (arith, whole, bare, same more, short, length-take room octets, limit_least l.session.connection past)

-- ---- how many octets they have without payload

uint_by : (n : ℕ) (none one : Bool) → length (if none then 0x43 ∷ [] else if one then 0x52 ∷ n ∷ [] else 0x70 ∷ big_bytes 4 n) ≡ (if none then 1 else if one then 2 else 5)
uint_by n true one = refl
uint_by n false true = refl
uint_by n false false = ap (λ m. 1 + m) (length-bytes_high_first 4 n)

uint_sized : (n : ℕ) → length (uint_octets n) ≡ (if n == 0 then 1 else if fits_octet n then 2 else 5)
unfolding uint_octets
uint_sized n = uint_by n (n == 0) (fits_octet n)

zero_sized : length (uint_octets 0) ≡ 1
unfolding uint_octets
zero_sized = refl

is_not_zero : (n : ℕ) → (n ≡ 0 → ⊥) → (n == 0) ≡ false
is_not_zero n other = by (n == 0) refl
  where
    by : (b : Bool) → (n == 0) ≡ b → (n == 0) ≡ false
    by true is = absurd (other (eqb-true n 0 is))
    by false is = is

is_not_small : (n : ℕ) → (n < 256 → ⊥) → nat_lt n 256 ≡ false
is_not_small n other = by (nat_lt n 256) refl
  where
    by : (b : Bool) → nat_lt n 256 ≡ b → nat_lt n 256 ≡ false
    by true is = absurd (other (ltb-true n 256 is))
    by false is = is

by_tests : (n : ℕ) (one : Bool) → (n == 0) ≡ false → nat_lt n 256 ≡ one → length (uint_octets n) ≡ (if one then 2 else 5)
by_tests n one other is = uint_sized n ∙ (ap (λ b. if b then 1 else if nat_lt n 256 then 2 else 5) other ∙ ap (λ b. if b then 2 else 5) is)

pub zero_size : (n : ℕ) → n ≡ 0 → length (uint_octets n) ≡ 1
zero_size n is = ap (λ m. length (uint_octets m)) is ∙ zero_sized

pub small_size : (n : ℕ) → (n ≡ 0 → ⊥) → n < 256 → length (uint_octets n) ≡ 2
small_size n other few = by_tests n true (is_not_zero n other) (lt-ltb n 256 few)

pub large_size : (n : ℕ) → (n ≡ 0 → ⊥) → (n < 256 → ⊥) → length (uint_octets n) ≡ 5
large_size n other many = by_tests n false (is_not_zero n other) (is_not_small n many)

short_list : (body : List ℕ) → length body + 1 < 256 → length (list_octets 6 body) ≡ 3 + length body
short_list body fits = list_sized 6 body ∙ ap (λ b. size_by false (b && true) (length body)) (lt-ltb (length body + 1) 256 fits)

six_sized : (a b c d e f : List ℕ) → length a + (length b + (length c + (length d + (length e + length f)))) < 200
    → length (0x00 ∷ 0x53 ∷ 0x14 ∷ list_octets 6 (a ++ (b ++ (c ++ (d ++ (e ++ f)))))) ≡ 6 + (length a + (length b + (length c + (length d + (length e + length f)))))
six_sized a b c d e f few =
    let body = a ++ (b ++ (c ++ (d ++ (e ++ f)))) in
    let long : length body ≡ length a + (length b + (length c + (length d + (length e + length f)))) =
    omega (
      arith,
      length-append a (b ++ (c ++ (d ++ (e ++ f)))),
      length-append b (c ++ (d ++ (e ++ f))),
      length-append c (d ++ (e ++ f)),
      length-append d (e ++ f),
      length-append e f,
    ) in
    let list = short_list body (omega (arith, long, few)) in
    omega (arith, list, long)

pub tag_sized : (id : ℕ) → length (text_octets texts.Binary (to_be_bytes w32 id)) ≡ 6
unfolding text_octets
tag_sized id = refl

flag_sized : (b : Bool) → length (boolean_octets b) ≡ 1
unfolding boolean_octets
flag_sized b = refl

last_sized : length (boolean_octets true ++ []) ≡ 1
unfolding boolean_octets
last_sized = refl

null_sized : length null_octets ≡ 1
unfolding null_octets
null_sized = refl

pub first_sized : (l : Link) (id format : ℕ)
    → length (spoken_octets (written_transfer l (first_part l id format true) [])) ≡ 22 + (length (uint_octets l.handle) + length (uint_octets id) + length (uint_octets format))
first_sized l id format =
    let few : length (uint_octets l.handle) + (length (uint_octets id) + (length (text_octets texts.Binary (to_be_bytes w32 id)) + (length (uint_octets format) + (length (boolean_octets l.is_pre_settled) + length (boolean_octets true ++ []))))) < 200 =
    omega (arith, uint_long l.handle, uint_long id, tag_sized id, uint_long format, flag_sized l.is_pre_settled, last_sized) in
    let h = six_sized (uint_octets l.handle) (uint_octets id) (text_octets texts.Binary (to_be_bytes w32 id)) (uint_octets format) (boolean_octets l.is_pre_settled) (boolean_octets true ++ []) few in
    omega (arith, h, spoken_long (written_transfer l (first_part l id format true) []), tag_sized id, flag_sized l.is_pre_settled, last_sized)

pub later_sized : (l : Link) → length (spoken_octets (written_transfer l (next_part l true) [])) ≡ 19 + length (uint_octets l.handle)
later_sized l =
    let few : length (uint_octets l.handle) + (length null_octets + (length null_octets + (length null_octets + (length null_octets + length (boolean_octets true ++ []))))) < 200 =
    omega (arith, uint_long l.handle, null_sized, last_sized) in
    let h = six_sized (uint_octets l.handle) null_octets null_octets null_octets null_octets (boolean_octets true ++ []) few in
    omega (arith, h, spoken_long (written_transfer l (next_part l true) []), null_sized, last_sized)
