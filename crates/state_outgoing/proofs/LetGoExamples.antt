-- What captures say of deliveries to clients that are finished, and what a table keeps of them where some were let go.
use Rattle.std.specs.Prelude.{◌≡◌, ℕ, Bool, true, false, List, [], ◌∷◌, ◌++◌, None, is_some, refl}
use Rattle.std.specs.Fmt.{digits}
use Rattle.std.specs.List.{list_all}
use Rattle.amqp_perf.specs.declared.attach.Role.TheVariants.{Receiver}
use Rattle.amqp_perf.specs.Meaning.{ADisposition}
use Rattle.amqp_perf.proofs.Opened.{read, written}
use Rattle.amqp_frames.specs.Writing.{frame_octets}
use Rattle.amqp_frames.specs.Reading.{whole_frame, frame_at, sized_frame, headed_frame}
use Rattle.pairing_cert.specs.declared.note.Note.TheVariants as notes
use Rattle.pairing_cert.specs.declared.note.Why.TheVariants.{C}
use Rattle.capture_form.specs.declared.records.Record.{Record}
use Rattle.capture_form.specs.Rules.{no_rules}
use Rattle.trace_events.specs.Frame.{frame_read}
use Rattle.trace_events.specs.Words.{is_some_and}
use Rattle.trace_events.specs.Outgoing.{outgoing_at}
use Rattle.trace_events.specs.History.{history}
use Rattle.trace_events.specs.Written.{spoken_octets}
use Rattle.trace_events.specs.Kept.{carriers}
use Rattle.trace_events.proofs.Made.{from, disposes, sent, half_carried, carried, pre_settled, settles, consumer_leaves}
use Rattle.state_tables.specs.LetGo.{is_let_go, names_let_go}
use Rattle.state_outgoing.specs.LastBegun.{carrier_numbers}
use Rattle.state_outgoing.specs.LetGo.{kept_at, is_finished, is_done}
use Rattle.state_outgoing.specs.Sent.{sent_at}
use Rattle.state_outgoing.proofs.LastExamples.{both}

unfoldable done_in : List Record → ℕ → Bool
unfolding frame_read whole_frame frame_at sized_frame headed_frame read digits spoken_octets frame_octets written
done_in records n = is_some_and (sent_at n (history no_rules records)) is_done

unfoldable finished_in : List Record → ℕ → Bool
unfolding frame_read whole_frame frame_at sized_frame headed_frame read digits spoken_octets frame_octets written
finished_in records n = let past = history no_rules records in is_some_and (outgoing_at n past) (is_finished past)

-- all that carry a delivery are finished: by the law, and by their entries
unfoldable all_finished_in : List Record → ℕ → Bool
unfolding frame_read whole_frame frame_at sized_frame headed_frame read digits spoken_octets frame_octets written
all_finished_in records n = let past = history no_rules records in list_all (is_finished past) (carriers n past)

unfoldable all_done_in : List Record → ℕ → Bool
unfolding frame_read whole_frame frame_at sized_frame headed_frame read digits spoken_octets frame_octets written
all_done_in records n = let past = history no_rules records in list_all (λ m. is_some_and (sent_at m past) is_done) (carrier_numbers n past)

-- there is an entry, where these were let go
unfoldable kept_in : List (ℕ × Unit {0}) → List Record → ℕ → Bool
unfolding frame_read whole_frame frame_at sized_frame headed_frame read digits spoken_octets frame_octets written
kept_in gone records n = is_some (kept_at gone n (history no_rules records))

-- ---- captures: delivery 17 goes to the consumer, and carries delivery 16

-- deliveries 25 and 26 carry it to two consumers, of which the second settles it
abbrev other_settles : Record
other_settles = from 2 (ADisposition (disposes Receiver 0 true None))

-- ---- whether it is finished

settled_is_done : done_in (carried ++ (settles ∷ [])) 17 ≡ true
unfolding done_in
settled_is_done = refl

settled_is_finished : finished_in (carried ++ (settles ∷ [])) 17 ≡ true
unfolding finished_in
settled_is_finished = refl

pre_settled_is_done : done_in pre_settled 17 ≡ true
unfolding done_in
pre_settled_is_done = refl

without_its_link : done_in (carried ++ (consumer_leaves ∷ [])) 17 ≡ true
unfolding done_in
without_its_link = refl

-- all is sent, and it is unsettled still
unsettled_still : done_in carried 17 ≡ false
unfolding done_in
unsettled_still = refl

unsettled_unfinished : finished_in carried 17 ≡ false
unfolding finished_in
unsettled_unfinished = refl

-- it is settled, and more of it follows
more_follows : done_in (half_carried ++ (settles ∷ [])) 17 ≡ false
unfolding done_in
more_follows = refl

more_unfinished : finished_in (half_carried ++ (settles ∷ [])) 17 ≡ false
unfolding finished_in
more_unfinished = refl

-- ---- whether all are that carry a delivery

none_carries : all_finished_in sent 16 ≡ true
unfolding all_finished_in
none_carries = refl

both_finished : all_finished_in (both ++ (settles ∷ other_settles ∷ [])) 16 ≡ true
unfolding all_finished_in
both_finished = refl

both_done : all_done_in (both ++ (settles ∷ other_settles ∷ [])) 16 ≡ true
unfolding all_done_in
both_done = refl

-- one of them alone
first_alone : all_finished_in (both ++ (settles ∷ [])) 16 ≡ false
unfolding all_finished_in
first_alone = refl

last_alone : all_finished_in (both ++ (other_settles ∷ [])) 16 ≡ false
unfolding all_finished_in
last_alone = refl

last_alone_done : all_done_in (both ++ (other_settles ∷ [])) 16 ≡ false
unfolding all_done_in
last_alone_done = refl

-- ---- what was let go

let_go_first : is_let_go ((16, tt) ∷ (20, tt) ∷ []) 16 ≡ true
let_go_first = refl

let_go_last : is_let_go ((16, tt) ∷ (20, tt) ∷ []) 20 ≡ true
let_go_last = refl

not_let_go : is_let_go ((16, tt) ∷ (20, tt) ∷ []) 17 ≡ false
not_let_go = refl

named : names_let_go ((16, tt) ∷ []) (notes.Pair 16) ≡ true
named = refl

another_named : names_let_go ((16, tt) ∷ []) (notes.Pair 17) ≡ false
another_named = refl

none_named : names_let_go ((16, tt) ∷ []) notes.None ≡ false
none_named = refl

told_named : names_let_go ((16, tt) ∷ []) (notes.Told C) ≡ false
told_named = refl

-- the delivery that carries it is kept no more; where another was let go, by the number of a delivery to a client even, it is kept
of_its_own : kept_in ((16, tt) ∷ []) carried 17 ≡ false
unfolding kept_in
of_its_own = refl

of_nothing : kept_in [] carried 17 ≡ true
unfolding kept_in
of_nothing = refl

of_another : kept_in ((17, tt) ∷ []) carried 17 ≡ true
unfolding kept_in
of_another = refl

-- so it is with each that carries it
first_of_two : kept_in ((16, tt) ∷ []) both 25 ≡ false
unfolding kept_in
first_of_two = refl

last_of_two : kept_in ((16, tt) ∷ []) both 26 ≡ false
unfolding kept_in
last_of_two = refl
