-- Flows of the same octets have the same link-credit.
use Rattle.std.proofs.Common.{◌≡◌, refl, sym, ap, ◌∙◌, ℕ, ◌+◌, ◌<◌, Bool, true, false, ◌&&◌, List, [], ◌∷◌, ◌++◌, length, Option, Some, None, ◌==◌, if◌then◌else◌, append_assoc, arith, eqb-true}
use Rattle.byteorder.specs.Endian.{big_bytes}
use Rattle.byteorder.specs.Numbers.{length-bytes_high_first}
use Rattle.amqp_types.specs.Part.{Seen}
use Rattle.amqp_types.specs.Writing.{uint_octets, list_octets, fits_octet, null_octets, boolean_octets}
use Rattle.amqp_frames.specs.declared.frame.FrameKind.TheVariants as kinds
use Rattle.amqp_frames.specs.Writing.{frame_octets, frame_size}
use Rattle.amqp_frames.specs.Frame.{code_of}
use Rattle.amqp_perf.specs.declared.flow.Flow.{Flow}
use Rattle.amqp_perf.specs.Meaning.{AFlow}
use Rattle.amqp_perf.specs.Slots.{values_of, octets_of}
use Rattle.amqp_perf.specs.Writing.{flow_slots, performative_octets}
use Rattle.trace_events.specs.Written.{spoken_octets}
use Rattle.std.proofs.lemmas.Bool.{lt-ltb}

-- ---- lists that are joined

heads : (m n : ℕ) (xs ys : List ℕ) → m ∷ xs ≡ n ∷ ys → m ≡ n
heads m n xs ys is = cc

tails : (m n : ℕ) (xs ys : List ℕ) → m ∷ xs ≡ n ∷ ys → xs ≡ ys
tails m n xs ys is = cc

-- first parts of the same length are the same, and so is what stands behind them
parted : (xs ys more other : List ℕ) → length xs ≡ length ys → xs ++ more ≡ ys ++ other → (xs ≡ ys) × (more ≡ other)
parted [] [] more other long is = (refl, is)
parted (x ∷ xs) (y ∷ ys) more other long is =
    let rest = parted xs ys more other (omega (arith, long)) (tails x y (xs ++ more) (ys ++ other) is) in
    (ap (λ n. n ∷ xs) (heads x y (xs ++ more) (ys ++ other) is) ∙ ap (λ zs. y ∷ zs) rest.0, rest.1)
parted [] (y ∷ ys) more other long is = absurd (omega (arith, long))
parted (x ∷ xs) [] more other long is = absurd (omega (arith, long))

big_long : (width m n : ℕ) → length (big_bytes width m) ≡ length (big_bytes width n)
big_long width m n = length-bytes_high_first width m ∙ sym (length-bytes_high_first width n)

-- ---- numbers

abbrev number : Bool → Bool → ℕ → List ℕ
number zero small n = if zero then 0x43 ∷ [] else if small then 0x52 ∷ n ∷ [] else 0x70 ∷ big_bytes 4 n

numbers_parted : (zero small zero' small' : Bool) (m n : ℕ) (more other : List ℕ) → number zero small m ++ more ≡ number zero' small' n ++ other
    → (number zero small m ≡ number zero' small' n) × (more ≡ other)
numbers_parted true small true small' m n more other is = (refl, tails 0x43 0x43 more other is)
numbers_parted true small false true m n more other is = absurd (let h = heads 0x43 0x52 more (n ∷ other) is in omega (arith, h))
numbers_parted true small false false m n more other is = absurd (let h = heads 0x43 0x70 more (big_bytes 4 n ++ other) is in omega (arith, h))
numbers_parted false true true small' m n more other is = absurd (let h = heads 0x52 0x43 (m ∷ more) other is in omega (arith, h))
numbers_parted false true false true m n more other is =
    let rest = tails 0x52 0x52 (m ∷ more) (n ∷ other) is in
    (ap (λ k. 0x52 ∷ k ∷ []) (heads m n more other rest), tails m n more other rest)
numbers_parted false true false false m n more other is = absurd (let h = heads 0x52 0x70 (m ∷ more) (big_bytes 4 n ++ other) is in omega (arith, h))
numbers_parted false false true small' m n more other is = absurd (let h = heads 0x70 0x43 (big_bytes 4 m ++ more) other is in omega (arith, h))
numbers_parted false false false true m n more other is = absurd (let h = heads 0x70 0x52 (big_bytes 4 m ++ more) (n ∷ other) is in omega (arith, h))
numbers_parted false false false false m n more other is =
    let rest = parted (big_bytes 4 m) (big_bytes 4 n) more other (big_long 4 m n) (tails 0x70 0x70 (big_bytes 4 m ++ more) (big_bytes 4 n ++ other) is) in
    (ap (λ xs. 0x70 ∷ xs) rest.0, rest.1)

uints_parted : (m n : ℕ) (more other : List ℕ) → uint_octets m ++ more ≡ uint_octets n ++ other → (uint_octets m ≡ uint_octets n) × (more ≡ other)
unfolding uint_octets
uints_parted m n more other is = numbers_parted (m == 0) (fits_octet m) (n == 0) (fits_octet n) m n more other is

-- with something behind both
next_parted : (m n : ℕ) (more other left right : List ℕ) → (uint_octets m ++ more) ++ left ≡ (uint_octets n ++ other) ++ right
    → (uint_octets m ≡ uint_octets n) × (more ++ left ≡ other ++ right)
next_parted m n more other left right is =
    uints_parted m n (more ++ left) (other ++ right) (sym (append_assoc (uint_octets m) more left) ∙ (is ∙ append_assoc (uint_octets n) other right))

-- a number of one octet is said by no others
number_one : (zero small zero' small' : Bool) (m n : ℕ) → (m == 0) ≡ zero → (n == 0) ≡ zero' → small' ≡ true → number zero small m ≡ number zero' small' n → m ≡ n
number_one true small true small' m n none none' few is = eqb-true m 0 none ∙ sym (eqb-true n 0 none')
number_one true small false true m n none none' few is = absurd (let h = heads 0x43 0x52 [] (n ∷ []) is in omega (arith, h))
number_one false true true small' m n none none' few is = absurd (let h = heads 0x52 0x43 (m ∷ []) [] is in omega (arith, h))
number_one false true false true m n none none' few is = heads m n [] [] (tails 0x52 0x52 (m ∷ []) (n ∷ []) is)
number_one false false true small' m n none none' few is = absurd (let h = heads 0x70 0x43 (big_bytes 4 m) [] is in omega (arith, h))
number_one false false false true m n none none' few is = absurd (let h = heads 0x70 0x52 (big_bytes 4 m) (n ∷ []) is in omega (arith, h))
number_one zero small false false m n none none' few is = absurd cc

pub same_number : (m n : ℕ) → n < 256 → uint_octets m ≡ uint_octets n → m ≡ n
unfolding uint_octets
same_number m n few is = number_one (m == 0) (fits_octet m) (n == 0) (fits_octet n) m n refl refl (lt-ltb n 256 few) is

-- ---- lists and frames

abbrev listed : Bool → ℕ → List ℕ → List ℕ
listed short count body = if short then 0xC0 ∷ (length body + 1) ∷ count ∷ body else 0xD0 ∷ (big_bytes 4 (length body + 4) ++ (big_bytes 4 count ++ body))

long_parted : (a b c d : ℕ) (xs ys more other : List ℕ) → (big_bytes 4 a ++ (big_bytes 4 b ++ xs)) ++ more ≡ (big_bytes 4 c ++ (big_bytes 4 d ++ ys)) ++ other → xs ++ more ≡ ys ++ other
long_parted a b c d xs ys more other is =
    let first = parted (big_bytes 4 a) (big_bytes 4 c) ((big_bytes 4 b ++ xs) ++ more) ((big_bytes 4 d ++ ys) ++ other) (big_long 4 a c)
    (sym (append_assoc (big_bytes 4 a) (big_bytes 4 b ++ xs) more) ∙ (is ∙ append_assoc (big_bytes 4 c) (big_bytes 4 d ++ ys) other)) in
    (parted (big_bytes 4 b) (big_bytes 4 d) (xs ++ more) (ys ++ other) (big_long 4 b d)
    (sym (append_assoc (big_bytes 4 b) xs more) ∙ (first.1 ∙ append_assoc (big_bytes 4 d) ys other))).1

bodies_parted : (short short' : Bool) (count count' : ℕ) (xs ys more other : List ℕ) → listed short count xs ++ more ≡ listed short' count' ys ++ other → xs ++ more ≡ ys ++ other
bodies_parted true true count count' xs ys more other is =
    tails count count' (xs ++ more) (ys ++ other)
    (tails (length xs + 1) (length ys + 1) (count ∷ (xs ++ more)) (count' ∷ (ys ++ other)) (tails 0xC0 0xC0 _ _ is))
bodies_parted true false count count' xs ys more other is = absurd (let h = heads 0xC0 0xD0 _ _ is in omega (arith, h))
bodies_parted false true count count' xs ys more other is = absurd (let h = heads 0xD0 0xC0 _ _ is in omega (arith, h))
bodies_parted false false count count' xs ys more other is =
    long_parted (length xs + 4) count (length ys + 4) count' xs ys more other (tails 0xD0 0xD0 _ _ is)

lists_parted : (count count' : ℕ) (xs ys more other : List ℕ) → (count == 0) ≡ false → (count' == 0) ≡ false → list_octets count xs ++ more ≡ list_octets count' ys ++ other → xs ++ more ≡ ys ++ other
unfolding list_octets
lists_parted count count' xs ys more other some some' is =
    bodies_parted (fits_octet (length xs + 1) && fits_octet count) (fits_octet (length ys + 1) && fits_octet count') count count' xs ys more other
    (sym (ap (λ b. (if b then 0x45 ∷ [] else listed (fits_octet (length xs + 1) && fits_octet count) count xs) ++ more) some)
    ∙ (is ∙ ap (λ b. (if b then 0x45 ∷ [] else listed (fits_octet (length ys + 1) && fits_octet count') count' ys) ++ other) some'))

frames_parted : (channel channel' : ℕ) (xs ys : List ℕ) → frame_octets kinds.Amqp channel xs ≡ frame_octets kinds.Amqp channel' ys → xs ≡ ys
unfolding frame_octets
frames_parted channel channel' xs ys is =
    let kind = code_of kinds.Amqp in
    let head = parted (big_bytes 4 (frame_size xs)) (big_bytes 4 (frame_size ys)) (2 ∷ kind ∷ (big_bytes 2 channel ++ xs)) (2 ∷ kind ∷ (big_bytes 2 channel' ++ ys)) (big_long 4 (frame_size xs) (frame_size ys)) is in
    (parted (big_bytes 2 channel) (big_bytes 2 channel') xs ys (big_long 2 channel channel')
    (tails kind kind (big_bytes 2 channel ++ xs) (big_bytes 2 channel' ++ ys) (tails 2 2 (kind ∷ (big_bytes 2 channel ++ xs)) (kind ∷ (big_bytes 2 channel' ++ ys)) head.1))).1

-- ---- flows of links

-- a flow has all the numbers of a link
pub record NamesLink (flow : Flow) : Type 0 where
  pub expected : ℕ
  pub handle : ℕ
  pub count : ℕ
  pub credit : ℕ
  pub expected_is : flow.next_incoming_id ≡ Some expected
  pub handle_is : flow.handle ≡ Some handle
  pub count_is : flow.delivery_count ≡ Some count
  pub credit_is : flow.link_credit ≡ Some credit

-- its fields begin with seven numbers
record BeginWith (values : List Seen) (a b c d e f g : ℕ) : Type 0 where
  pub tail : List ℕ
  pub some : (length values == 0) ≡ false
  pub is : octets_of values ≡ uint_octets a ++ (uint_octets b ++ (uint_octets c ++ (uint_octets d ++ (uint_octets e ++ (uint_octets f ++ (uint_octets g ++ tail))))))

begin_with : (a b c d e f g : ℕ) (drain echo : Option Bool) → BeginWith (values_of (flow_slots (record {
  next_incoming_id = Some a;
  incoming_window = b;
  next_outgoing_id = c;
  outgoing_window = d;
  handle = Some e;
  delivery_count = Some f;
  link_credit = Some g;
  drain = drain;
  echo = echo;
}))) a b c d e f g
begin_with a b c d e f g None None = record { tail = []; some = refl; is = refl }
begin_with a b c d e f g (Some drain) None = record { tail = null_octets ++ (boolean_octets drain ++ []); some = refl; is = refl }
begin_with a b c d e f g None (Some echo) = record { tail = null_octets ++ (null_octets ++ (boolean_octets echo ++ [])); some = refl; is = refl }
begin_with a b c d e f g (Some drain) (Some echo) = record { tail = null_octets ++ (boolean_octets drain ++ (boolean_octets echo ++ [])); some = refl; is = refl }

flow_begins : (flow : Flow) (has : NamesLink flow)
    → BeginWith (values_of (flow_slots flow)) has.expected flow.incoming_window flow.next_outgoing_id flow.outgoing_window has.handle has.count has.credit
flow_begins flow has =
    rw (has.expected_is, has.handle_is, has.count_is, has.credit_is)
    (begin_with has.expected flow.incoming_window flow.next_outgoing_id flow.outgoing_window has.handle has.count has.credit flow.drain flow.echo)

pub same_credit : (channel channel' : ℕ) (flow flow' : Flow) (payload payload' : List ℕ) (has : NamesLink flow) (has' : NamesLink flow')
    → spoken_octets (record { channel = channel; meaning = AFlow flow; payload = payload }) ≡ spoken_octets (record { channel = channel'; meaning = AFlow flow'; payload = payload' })
    → uint_octets has.credit ≡ uint_octets has'.credit
unfolding spoken_octets
same_credit channel channel' flow flow' payload payload' has has' is =
    let values = values_of (flow_slots flow) in
    let values' = values_of (flow_slots flow') in
    let begin = flow_begins flow has in
    let begin' = flow_begins flow' has' in
    let said = frames_parted channel channel' (performative_octets (AFlow flow) ++ payload) (performative_octets (AFlow flow') ++ payload') is in
    let lists = tails 0x13 0x13 _ _ (tails 0x53 0x53 _ _ (tails 0x00 0x00 _ _ said)) in
    let bodies = lists_parted (length values) (length values') (octets_of values) (octets_of values') payload payload' begin.some begin'.some lists in
    let one = next_parted has.expected has'.expected _ _ payload payload' (sym (ap (λ xs. xs ++ payload) begin.is) ∙ (bodies ∙ ap (λ xs. xs ++ payload') begin'.is)) in
    let two = next_parted flow.incoming_window flow'.incoming_window _ _ payload payload' one.1 in
    let three = next_parted flow.next_outgoing_id flow'.next_outgoing_id _ _ payload payload' two.1 in
    let four = next_parted flow.outgoing_window flow'.outgoing_window _ _ payload payload' three.1 in
    let five = next_parted has.handle has'.handle _ _ payload payload' four.1 in
    let six = next_parted has.count has'.count _ _ payload payload' five.1 in
    (next_parted has.credit has'.credit _ _ payload payload' six.1).0
