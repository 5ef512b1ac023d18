-- What captures say of the last delivery that began on a link, and of those that carry a delivery.
use Rattle.std.specs.Prelude.{◌≡◌, ℕ, Bool, true, false, List, [], ◌∷◌, ◌++◌, Option, Some, None, refl}
use Rattle.std.specs.Fmt.{digits}
use Rattle.amqp_perf.specs.declared.attach.SenderSettleMode.TheVariants.{Mixed}
use Rattle.amqp_perf.specs.Meaning.{AFlow, ATransfer}
use Rattle.amqp_perf.proofs.Opened.{read, written}
use Rattle.amqp_frames.specs.Writing.{frame_octets}
use Rattle.amqp_frames.specs.Reading.{whole_frame, frame_at, sized_frame, headed_frame}
use Rattle.capture_form.specs.declared.records.Record.{Record}
use Rattle.capture_form.specs.Rules.{no_rules}
use Rattle.trace_events.specs.Frame.{frame_read}
use Rattle.trace_events.specs.History.{history, judge}
use Rattle.trace_events.specs.Written.{spoken_octets}
use Rattle.trace_events.proofs.Made.{from, from_with, carry, gives, first, hi, q, consumer, sent, half, rest}
use Rattle.state_outgoing.specs.LastBegun.{last_number, is_last_carrying, is_last_let_go, begins_on, carrier_number, carrier_numbers, begins_carrier, carriers_next}

unfoldable last_in : List (ℕ × Unit {0}) → List Record → ℕ → Option ℕ
unfolding frame_read whole_frame frame_at sized_frame headed_frame read digits spoken_octets frame_octets written
last_in gone records link = last_number gone link (history no_rules records)

unfoldable let_go_in : List (ℕ × Unit {0}) → List Record → ℕ → Bool
unfolding frame_read whole_frame frame_at sized_frame headed_frame read digits spoken_octets frame_octets written
let_go_in gone records link = is_last_let_go gone link (history no_rules records)

unfoldable carrying_in : List Record → ℕ → ℕ → Bool
unfolding frame_read whole_frame frame_at sized_frame headed_frame read digits spoken_octets frame_octets written
carrying_in records n link = is_last_carrying n link (history no_rules records)

unfoldable begins_in : List Record → Record → ℕ → Bool
unfolding frame_read whole_frame frame_at sized_frame headed_frame read digits spoken_octets frame_octets written
begins_in records r link = begins_on (judge no_rules (history no_rules records) r) link

unfoldable carrier_in : List Record → ℕ → Option ℕ
unfolding frame_read whole_frame frame_at sized_frame headed_frame read digits spoken_octets frame_octets written
carrier_in records n = carrier_number n (history no_rules records)

unfoldable all_in : List Record → ℕ → List ℕ
unfolding frame_read whole_frame frame_at sized_frame headed_frame read digits spoken_octets frame_octets written
all_in records n = carrier_numbers n (history no_rules records)

unfoldable next_in : List Record → Record → ℕ → List ℕ → List ℕ
unfolding frame_read whole_frame frame_at sized_frame headed_frame read digits spoken_octets frame_octets written
next_in records r n earlier = carriers_next (judge no_rules (history no_rules records) r) n earlier

unfoldable carries_in : List Record → Record → ℕ → Bool
unfolding frame_read whole_frame frame_at sized_frame headed_frame read digits spoken_octets frame_octets written
carries_in records r n = begins_carrier (judge no_rules (history no_rules records) r) n

-- ---- captures: delivery 16 of the producer's link 6 goes to the consumer's link 13, in two parts, and delivery 17 too

abbrev in_parts : List Record
in_parts = sent ++ (half ∷ rest ∷ [])

abbrev two : List Record
two = sent ++ (from_with 0 (ATransfer (first 1)) hi ∷ carry 1 16 (first 0) hi ∷ carry 1 17 (first 1) hi ∷ [])

-- the same delivery goes to a consumer twice, which isn't lawful
abbrev again : List Record
again = sent ++ (carry 1 16 (first 0) hi ∷ carry 1 16 (first 1) hi ∷ [])

-- to another consumer's link 23
abbrev elsewhere : List Record
elsewhere = sent ++ consumer 2 Mixed q ++ (from 2 (AFlow (gives 0 0 10)) ∷ carry 2 16 (first 0) hi ∷ [])

-- to both
abbrev pub both : List Record
both = sent ++ consumer 2 Mixed q ++ (from 2 (AFlow (gives 0 0 10)) ∷ carry 1 16 (first 0) hi ∷ carry 2 16 (first 0) hi ∷ [])

-- ---- on a link

last-none : last_in [] sent 13 ≡ None
unfolding last_in
last-none = refl

-- a later part begins nothing
last-first_part : last_in [] in_parts 13 ≡ Some 17
unfolding last_in
last-first_part = refl

last-of_producer : last_in [] in_parts 6 ≡ None
unfolding last_in
last-of_producer = refl

last-of_two : last_in [] two 13 ≡ Some 19
unfolding last_in
last-of_two = refl

last-elsewhere : last_in [] elsewhere 23 ≡ Some 25
unfolding last_in
last-elsewhere = refl

last-not_elsewhere : last_in [] elsewhere 13 ≡ None
unfolding last_in
last-not_elsewhere = refl

-- where it carries one that was let go, there is none, and not the one before it
last-let_go : last_in ((17, tt) ∷ []) two 13 ≡ None
unfolding last_in
last-let_go = refl

last-other_let_go : last_in ((16, tt) ∷ []) two 13 ≡ Some 19
unfolding last_in
last-other_let_go = refl

-- the last one's, and not that of the one before it
let_go-last : let_go_in ((17, tt) ∷ []) two 13 ≡ true
unfolding let_go_in
let_go-last = refl

let_go-earlier : let_go_in ((16, tt) ∷ []) two 13 ≡ false
unfolding let_go_in
let_go-earlier = refl

let_go-elsewhere : let_go_in ((17, tt) ∷ []) two 6 ≡ false
unfolding let_go_in
let_go-elsewhere = refl

carrying-last : carrying_in two 17 13 ≡ true
unfolding carrying_in
carrying-last = refl

carrying-earlier : carrying_in two 16 13 ≡ false
unfolding carrying_in
carrying-earlier = refl

-- on each link the last one
carrying-on_two_links : carrying_in both 16 13 ≡ true
unfolding carrying_in
carrying-on_two_links = refl

carrying-elsewhere : carrying_in elsewhere 16 13 ≡ false
unfolding carrying_in
carrying-elsewhere = refl

begins-there : begins_in sent half 13 ≡ true
unfolding begins_in
begins-there = refl

begins-not_there : begins_in sent half 6 ≡ false
unfolding begins_in
begins-not_there = refl

goes-on_there : begins_in (sent ++ (half ∷ [])) rest 13 ≡ false
unfolding begins_in
goes-on_there = refl

-- ---- of those that carry a delivery

carrier-none : carrier_in sent 16 ≡ None
unfolding carrier_in
carrier-none = refl

carrier-first_part : carrier_in in_parts 16 ≡ Some 17
unfolding carrier_in
carrier-first_part = refl

carrier-of_two : carrier_in two 16 ≡ Some 18
unfolding carrier_in
carrier-of_two = refl

carrier-of_other : carrier_in two 17 ≡ Some 19
unfolding carrier_in
carrier-of_other = refl

carrier-last : carrier_in again 16 ≡ Some 18
unfolding carrier_in
carrier-last = refl

carries-it : carries_in sent half 16 ≡ true
unfolding carries_in
carries-it = refl

carries-other : carries_in sent half 15 ≡ false
unfolding carries_in
carries-other = refl

carries-on : carries_in (sent ++ (half ∷ [])) rest 16 ≡ false
unfolding carries_in
carries-on = refl

-- ---- all of them

all-none : all_in sent 16 ≡ []
unfolding all_in
all-none = refl

-- a later part begins none
all-one : all_in in_parts 16 ≡ 17 ∷ []
unfolding all_in
all-one = refl

-- what carries another is none of them
all-of_two : all_in two 16 ≡ 18 ∷ []
unfolding all_in
all-of_two = refl

all-last_first : all_in again 16 ≡ 18 ∷ 17 ∷ []
unfolding all_in
all-last_first = refl

all-on_two_links : all_in both 16 ≡ 26 ∷ 25 ∷ []
unfolding all_in
all-on_two_links = refl

next-begun : next_in sent half 16 (3 ∷ []) ≡ 17 ∷ 3 ∷ []
unfolding next_in
next-begun = refl

next-other : next_in sent half 15 (3 ∷ []) ≡ 3 ∷ []
unfolding next_in
next-other = refl

next-part : next_in (sent ++ (half ∷ [])) rest 16 (17 ∷ []) ≡ 17 ∷ []
unfolding next_in
next-part = refl
