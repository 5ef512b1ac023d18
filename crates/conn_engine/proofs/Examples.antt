-- Connections with known answers.
use Rattle.std.proofs.Common.{◌≡◌, ℕ, Bool, true, false, List, [], ◌∷◌, ◌++◌, Some, None, Ok, Err, refl, inl}
use Rattle.capture_form.specs.declared.records.What.{What}
use Rattle.capture_form.specs.declared.records.What.TheVariants as happened
use Rattle.route_items.specs.declared.fault.StepFault.TheVariants.{Full}
use Rattle.stream_reading.specs.declared.step.Phase.TheVariants.{FirstHeader, Exchange, SecondHeader, Open}
use Rattle.stream_reading.specs.declared.step.Event.TheVariants.{SaslHeader, AnonymousInit, AmqpHeader, AmqpFrame}
use Rattle.stream_reading.specs.Steps.{Ahead, StepText}
use Rattle.amqp_frames.specs.Reading.{frame_at, headed_frame, sized_frame, whole_frame}
use Rattle.amqp_perf.specs.declared.fault.PerfFault.TheVariants.{NotPerformative}
use Rattle.amqp_perf.specs.Meaning.{AClose, AnEnd, AnOpen}
use Rattle.conn_engine.specs.declared.fault.EngineFault.TheVariants as faults
use Rattle.conn_engine.specs.declared.engine_state.Loss.TheVariants.{Untold, Told, Refused}
use Rattle.conn_engine.specs.declared.engine_state.EngineState.TheVariants.{Reading, Closing, Over}
use Rattle.conn_engine.specs.Closing.{place_given}
use Rattle.conn_engine.specs.FrameEnds.{first_at, frame_ends_after, left_of, no_frame_ends}
use Rattle.conn_engine.specs.Said.{is_close, is_close_said, is_open, is_open_said, said_read, time_out_said}
use Rattle.conn_engine.specs.Silence.{empty_frame, is_due, patience, silence_after, silence_given, no_silence, time_out_after}
use Rattle.conn_engine.specs.declared.silence.Silence.{Silence}
use Rattle.conn_engine.specs.Feeding.{and_fed, extent_after, items_at_fault, place_after}
use Rattle.conn_engine.specs.Serving.{EndsAt, Whole, Part, items_at_loss, items_of}
use Rattle.conn_engine.specs.Taking.{is_loss_due}

-- ---- the items of steps

abbrev header : StepText
header = record { event = AmqpHeader; octets = 65 ∷ 77 ∷ 81 ∷ 80 ∷ 0 ∷ 1 ∷ 0 ∷ 0 ∷ [] }

opened_and_frames : items_of (record { event = SaslHeader; octets = 1 ∷ [] } ∷ record { event = AnonymousInit; octets = 2 ∷ [] } ∷ header ∷ record { event = AmqpFrame; octets = 3 ∷ 4 ∷ [] } ∷ record { event = AmqpFrame; octets = 5 ∷ [] } ∷ [])
    ≡ happened.Opened ∷ happened.In (3 ∷ 4 ∷ []) ∷ happened.In (5 ∷ []) ∷ []
opened_and_frames = refl

loss_told : items_at_loss Told ≡ happened.Lost ∷ []
loss_told = refl

loss_untold : items_at_loss Untold ++ items_at_loss Refused ≡ []
loss_untold = refl

-- ---- how the items end where two octets of a frame are ahead

abbrev short_ahead : Ahead
short_ahead = record { phase = Open; octets = 0 ∷ 0 ∷ [] }

-- nothing more is told while it is read, and it may be over then
nothing_more : (last : List What) → EndsAt Reading short_ahead [] last → last ≡ []
nothing_more last ends = ends.0

all_is_kept : (unkept : List ℕ) → EndsAt Reading short_ahead unkept [] → unkept ≡ []
all_is_kept unkept ends = ends.1

broken_once : (last : List What) → EndsAt Closing short_ahead [] last → last ≡ happened.Broken ∷ []
broken_once last ends = ends.0

lost_alone : EndsAt (Over Told) short_ahead [] (happened.Lost ∷ [])
lost_alone = record { broken = []; is_broken = inl refl; parts = refl }

unlost : EndsAt (Over Untold) short_ahead (7 ∷ []) []
unlost = record { broken = []; is_broken = inl refl; parts = refl }

-- ---- where an engine is behind each answer

reads_on : place_after (Ok tt) Open ≡ Reading
reads_on = refl

closes_in_open : place_after (Err faults.Frame) Open ≡ Closing
closes_in_open = refl

over_in_exchange : place_after (Err faults.Frame) Exchange ≡ Over Untold
over_in_exchange = refl

over_behind_header : place_after (Err faults.HeaderRefused) FirstHeader ≡ Over Untold
over_behind_header = refl

over_behind_refusal : place_after (Err (faults.Port Full)) Open ≡ Over Untold
over_behind_refusal = refl

broken_where_frames_are_due : items_at_fault Open ≡ happened.Broken ∷ []
broken_where_frames_are_due = refl

untold_in_exchange : items_at_fault Exchange ≡ []
untold_in_exchange = refl

-- the octets of a feed that answers Over are left out, of every other one they count
left_out : and_fed (Err faults.Over) (1 ∷ []) (2 ∷ []) ≡ 1 ∷ []
left_out = refl

counted : and_fed (Err faults.Memory) (1 ∷ []) (2 ∷ []) ≡ 1 ∷ 2 ∷ []
counted = refl

in_part : extent_after Whole (Err faults.Memory) ≡ Part
in_part = refl

in_whole : extent_after Whole (Err (faults.Port Full)) ≡ Whole
in_whole = refl

-- ---- a loss is due where the connection was opened, once

due_in_open : is_loss_due Open Closing ≡ true
due_in_open = refl

due_before_open : is_loss_due SecondHeader Reading ≡ false
due_before_open = refl

due_once : is_loss_due Open (Over Told) ≡ false
due_once = refl

due_once_though_refused : is_loss_due Open (Over Refused) ≡ false
due_once_though_refused = refl

-- ---- opens and closes

-- a frame is a close by its body, and only where it is of AMQP
a_close : is_close_said (said_read (Ok (AClose None, []))) ≡ true
a_close = refl

an_end : is_close_said (said_read (Ok (AnEnd None, []))) ≡ false
an_end = refl

no_performative : is_close_said (said_read (Err NotPerformative)) ≡ false
no_performative = refl

an_open : is_open_said (said_read (Ok (AnOpen (record { container_id = []; max_frame_size = None; channel_max = None; idle_time_out = None }), []))) ≡ true
an_open = refl

no_open : is_open_said (said_read (Ok (AClose None, []))) ≡ false
no_open = refl

a_sasl_frame : is_close (0 ∷ 0 ∷ 0 ∷ 12 ∷ 2 ∷ 1 ∷ 0 ∷ 0 ∷ 0 ∷ 83 ∷ 24 ∷ 69 ∷ []) ≡ false
unfolding whole_frame frame_at sized_frame headed_frame
a_sasl_frame = refl

no_frame : is_close (1 ∷ 2 ∷ []) ≡ false
unfolding whole_frame frame_at
no_frame = refl

no_close : frame_ends_after no_frame_ends 5 ((1 ∷ 2 ∷ []) ∷ []) ≡ no_frame_ends
unfolding whole_frame frame_at
no_close = refl

first_found : first_at (λ frame. true) None 5 (1 ∷ 2 ∷ []) ≡ Some 7
first_found = refl

first_kept : first_at (λ frame. true) (Some 3) 5 (1 ∷ 2 ∷ []) ≡ Some 3
first_kept = refl

left_of_it : left_of (Some 29) 20 ≡ Some 9
left_of_it = refl

given_whole : left_of (Some 9) 20 ≡ Some 0
given_whole = refl

not_given_yet : place_given Reading (Some 9) 8 ≡ Reading
not_given_yet = refl

given_now : place_given Closing (Some 9) 9 ≡ Over Untold
given_now = refl

still_over : place_given (Over Told) (Some 9) 9 ≡ Over Told
still_over = refl

none_to_give : place_given Closing None 9 ≡ Closing
none_to_give = refl

-- ---- signs of life

asks_for_a_second : time_out_said (said_read (Ok (AnOpen (record { container_id = []; max_frame_size = None; channel_max = None; idle_time_out = Some 1000 }), []))) ≡ Some 1000
asks_for_a_second = refl

asks_for_none : time_out_said (said_read (Ok (AnOpen (record { container_id = []; max_frame_size = None; channel_max = None; idle_time_out = None }), []))) ≡ Some 0
asks_for_none = refl

-- the first open counts
first_open_counts : time_out_after (Some 1000) (record { event = AmqpFrame; octets = 1 ∷ [] } ∷ []) ≡ Some 1000
first_open_counts = refl

half_a_second : patience (Some 1000) ≡ Some 500
half_a_second = refl

half_rounded_down : patience (Some 3) ≡ Some 1
half_rounded_down = refl

one_at_least : patience (Some 1) ≡ Some 1
one_at_least = refl

bears_all : patience (Some 0) ≡ None
bears_all = refl

has_not_said : patience None ≡ None
has_not_said = refl

-- a time-out of one second: the ticks of the moments 0, 499 and 500, then eight octets given, and those of 600, 1099 and 1100
abbrev at_0 : Silence
at_0 = silence_after no_silence false 0

abbrev at_500 : Silence
at_500 = silence_given (silence_after (silence_after at_0 false 499) true 500) 8

abbrev at_600 : Silence
at_600 = silence_after at_500 false 600

first_tick : is_due no_silence true 500 0 ≡ false
first_tick = refl

not_at_499 : is_due at_0 true 500 499 ≡ false
not_at_499 = refl

due_at_500 : is_due (silence_after at_0 false 499) true 500 500 ≡ true
due_at_500 = refl

given_since : is_due at_500 true 500 600 ≡ false
given_since = refl

not_at_1099 : is_due at_600 true 500 1099 ≡ false
not_at_1099 = refl

due_at_1100 : is_due (silence_after at_600 false 1099) true 500 1100 ≡ true
due_at_1100 = refl

-- not while something waits
not_while_it_waits : is_due at_0 false 500 500 ≡ false
not_while_it_waits = refl

-- a moment below the kept one counts as that one
went_back : silence_after at_500 false 400 ≡ record { since = Some 500; is_broken = false }
went_back = refl
