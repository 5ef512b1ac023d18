-- Which events end a link: the producer's link of record 6, on connection 0.
use Rattle.std.specs.Prelude.{ℕ, ◌≡◌, Bool, List, true, false, [], ◌∷◌, ◌++◌, codes, None, refl}
use Rattle.std.specs.Fmt.{digits}
use Rattle.amqp_frames.specs.Writing.{frame_octets}
use Rattle.amqp_frames.specs.Reading.{whole_frame, frame_at, sized_frame, headed_frame}
use Rattle.amqp_perf.proofs.Opened.{read, written}
use Rattle.amqp_perf.specs.declared.attach.Role.TheVariants.{Receiver}
use Rattle.amqp_perf.specs.declared.attach.SenderSettleMode.TheVariants.{Mixed}
use Rattle.amqp_perf.specs.Meaning.{AFlow, AnEnd}
use Rattle.capture_form.specs.declared.records.Record.{Record}
use Rattle.capture_form.specs.Rules.{no_rules}
use Rattle.trace_events.specs.Words.{is_some_and}
use Rattle.trace_events.specs.Frame.{frame_read}
use Rattle.trace_events.specs.Event.{Event}
use Rattle.trace_events.specs.Link.{link_at}
use Rattle.trace_events.specs.Ends.{ends_link}
use Rattle.trace_events.specs.History.{history}
use Rattle.trace_events.specs.Written.{spoken_octets, written_begin}
use Rattle.trace_events.proofs.Captures.{lost}
use Rattle.trace_events.proofs.Made.{from, to, write, detach_of, gives, pair, q, written_to_producer, written_refusal}

abbrev ends_by : ℕ → List Event → Bool
ends_by n [] = false
ends_by n (e ∷ past) = is_some_and (link_at n past) (λ l. ends_link l e)

-- whether a record behind the pair ends the link of this number
unfoldable ends_with : Record → ℕ → Bool
unfolding frame_read whole_frame frame_at sized_frame headed_frame read digits spoken_octets frame_octets written
ends_with r n = ends_by n (history no_rules (pair ++ (r ∷ [])))

-- the end of the connection, and of no other
by_loss : ends_with (lost 0) 6 ≡ true
unfolding ends_with
by_loss = refl

not_by_another_loss : ends_with (lost 1) 6 ≡ false
unfolding ends_with
not_by_another_loss = refl

-- an end of the session in either direction, and another session's begin on its channel
by_their_end : ends_with (from 0 (AnEnd None)) 6 ≡ true
unfolding ends_with
by_their_end = refl

by_our_end : ends_with (to 0 (AnEnd None)) 6 ≡ true
unfolding ends_with
by_our_end = refl

by_a_begin : ends_with (write 0 (written_begin 0)) 6 ≡ true
unfolding ends_with
by_a_begin = refl

not_by_another_begin : ends_with (write 0 (written_begin 1)) 6 ≡ false
unfolding ends_with
not_by_another_begin = refl

-- a detach in either direction
by_their_detach : ends_with (from 0 (detach_of true)) 6 ≡ true
unfolding ends_with
by_their_detach = refl

by_our_detach : ends_with (to 0 (detach_of true)) 6 ≡ true
unfolding ends_with
by_our_detach = refl

-- an attach that opens another link on its handle, but not a refusal
by_an_attach : ends_with (write 0 (written_to_producer 0 (codes "m") 0 Mixed q)) 6 ≡ true
unfolding ends_with
by_an_attach = refl

not_by_a_refusal : ends_with (write 0 (written_refusal 0 (codes "m") 0 Receiver)) 6 ≡ false
unfolding ends_with
not_by_a_refusal = refl

not_by_another_handle : ends_with (write 0 (written_to_producer 0 (codes "m") 1 Mixed q)) 6 ≡ false
unfolding ends_with
not_by_another_handle = refl

-- nor a flow
not_by_a_flow : ends_with (from 0 (AFlow (gives 0 0 10))) 6 ≡ false
unfolding ends_with
not_by_a_flow = refl
