-- Whose verdicts were let go; and where a copy awaits its verdict, and where it is still to begin.
use Rattle.std.specs.Prelude.{◌≡◌, ℕ, Bool, true, false, List, [], ◌∷◌, ◌++◌, refl}
use Rattle.std.specs.Fmt.{digits}
use Rattle.amqp_frames.specs.Writing.{frame_octets}
use Rattle.amqp_frames.specs.Reading.{whole_frame, frame_at, sized_frame, headed_frame}
use Rattle.amqp_perf.proofs.Opened.{read, written}
use Rattle.capture_form.specs.declared.records.Record.{Record}
use Rattle.trace_events.specs.Due.{is_unsent}
use Rattle.trace_events.specs.Frame.{frame_read}
use Rattle.trace_events.specs.History.{history}
use Rattle.trace_events.specs.Incoming.{incoming_at}
use Rattle.trace_events.specs.Link.{link_at}
use Rattle.trace_events.specs.Words.{is_some_and}
use Rattle.trace_events.specs.Written.{spoken_octets}
use Rattle.trace_events.proofs.Captures.{unmarked}
use Rattle.trace_events.proofs.Made.{from, detach_of, multicast, finishes}
use Rattle.trace_events.proofs.Copies.{due, copy_to}
use Rattle.state_tables.specs.LetGo.{is_let_go}
use Rattle.state_verdicts.specs.Verdicts.{awaits_at}

-- ---- which were let go

abbrev gone : List (ℕ × Unit {0})
gone = (24, tt) ∷ (30, tt) ∷ []

first_is_gone : is_let_go gone 24 ≡ true
first_is_gone = refl

last_is_gone : is_let_go gone 30 ≡ true
last_is_gone = refl

other_is_not : is_let_go gone 26 ≡ false
other_is_not = refl

none_is : is_let_go [] 24 ≡ false
none_is = refl

-- ---- delivery 24, of which copies are due to the links of records 13 and 20

-- the copy on the link of this number awaits its verdict; and it is still to begin
unfoldable stands_in : List Record → ℕ → Bool × Bool
unfolding frame_read whole_frame frame_at sized_frame headed_frame read digits spoken_octets frame_octets written
stands_in records m =
    let past = history (unmarked multicast) records in (
      awaits_at (unmarked multicast) past m 24,
      is_some_and (link_at m past) (λ l. is_some_and (incoming_at 24 past) (λ d. is_unsent (unmarked multicast) d l past)),
    )

to_begin : stands_in due 13 ≡ (true, true)
unfolding stands_in
to_begin = refl

has_begun : stands_in (due ++ (copy_to 1 ∷ [])) 13 ≡ (true, false)
unfolding stands_in
has_begun = refl

other_has_not : stands_in (due ++ (copy_to 1 ∷ [])) 20 ≡ (true, true)
unfolding stands_in
other_has_not = refl

has_its_verdict : stands_in (due ++ (copy_to 1 ∷ finishes ∷ [])) 13 ≡ (false, false)
unfolding stands_in
has_its_verdict = refl

-- one that never began has its verdict by the end of its link, and awaits none
ends_with_its_link : stands_in (due ++ (from 1 (detach_of true) ∷ [])) 13 ≡ (false, true)
unfolding stands_in
ends_with_its_link = refl
