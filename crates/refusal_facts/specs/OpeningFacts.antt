-- What L1, L2 and L3 compare: a frame with what happened on its connection, a begin and an attach with those of the client.
use Rattle.std.specs.Prelude.{◌≡◌, List, length, Some, None, is_some, option_and_then, option_map}
use Rattle.amqp_perf.specs.View.{attach_fields}
use Rattle.capture_form.specs.Rules.{}
use Rattle.trace_events.specs.Connection.{was_opened, was_finished, was_stopped, has_out_frame, frame_limit}
use Rattle.trace_events.specs.Event.{Event, out_frame}
use Rattle.trace_events.specs.Heard.{is_of_connection}
use Rattle.trace_events.specs.Link.{address_at}
use Rattle.trace_events.specs.Said.{as_open, out_attach, out_begin, out_meaning, out_spoken}
use Rattle.trace_events.specs.Session.{has_unanswered_begin}
use Rattle.trace_events.specs.LinkClause.{asking, answering_receiver_mode, is_without_address}
use Rattle.trace_events.specs.Words.{is_some_and}
use Rattle.trace_events.specs.View.{asking_view, frame_view}
use Rattle.refusal_facts.specs.declared.connection.FrameFacts.{FrameFacts}
use Rattle.refusal_facts.specs.declared.connection.WritingFacts.{WritingFacts}
use Rattle.refusal_facts.specs.declared.opening.BeginFacts.{BeginFacts}
use Rattle.refusal_facts.specs.declared.opening.AttachFacts.{AttachFacts}

-- the frame of an event, which is no performative
abbrev pub IsFrame : Event → FrameFacts → Type 0
IsFrame e facts = (out_frame e.moment ≡ Some (frame_view facts.frame)) × (out_spoken e ≡ None)

-- what happened on its connection, how long the frame is, and the limit
abbrev pub AreWriting : Event → List Event → WritingFacts → Type 0
AreWriting e past facts =
    (facts.was_opened ≡ was_opened e.connection past) × (facts.was_finished ≡ was_finished e.connection past)
    × (facts.was_stopped ≡ was_stopped e.connection past) × (facts.has_out_frame ≡ has_out_frame e.connection past)
    × (facts.limit ≡ frame_limit e.connection past) × (option_map (λ frame. length frame.octets) (out_frame e.moment) ≡ Some facts.len)
    × (option_map (λ meaning. is_some (as_open meaning)) (out_meaning e) ≡ Some facts.is_open)
    × (option_map is_of_connection (out_meaning e) ≡ Some facts.is_of_connection)

-- the begin, and whether the client asks for one on its channel
abbrev pub AreBegin : Event → List Event → BeginFacts → Type 0
AreBegin e past facts =
    (option_map (λ spoken. spoken.channel) (out_spoken e) ≡ Some facts.channel) × (facts.is_asked_for ≡ has_unanswered_begin e.connection facts.channel past)
    × (option_map (λ begin. begin.remote_channel) (out_begin e) ≡ Some facts.remote_channel)
    × (option_map (λ begin. begin.incoming_window) (out_begin e) ≡ Some facts.incoming_window)

-- the attach, what the client asks for on its handle, and how an answer settles
abbrev pub AreAttach : Event → List Event → AttachFacts → Type 0
AreAttach e past facts =
    (facts.session ≡ e.session) × (out_attach e ≡ Some (attach_fields facts.ours))
    × (facts.address.now ≡ address_at facts.ours.role (attach_fields facts.ours))
    × (facts.is_without_address ≡ is_some_and (attach_fields facts.ours).target is_without_address)
    × (option_map asking_view facts.asked ≡ option_and_then (λ s. asking s facts.ours.handle past) e.session)
    × (facts.due_sender_mode ≡ option_map (λ asked. asked.sender_mode) (option_map asking_view facts.asked))
    × (facts.due_receiver_mode ≡ option_map (λ asked. answering_receiver_mode asked.receiver_mode asked.role) (option_map asking_view facts.asked))
