-- What a client's octets are, from the first one on: headers, a SASL exchange and frames (part 2 of the standard,
-- sections 2.2 and 2.3; part 5, section 5.3).
use Rattle.std.specs.Prelude.{true, ◌≡◌, ℕ, ◌<◌, ◌≤◌, ◌⊎◌, List, [], ◌++◌, length, take, Option, Some, None, Result, Ok, Err}
use Rattle.flow_counts.specs.declared.profile.TheConstants.{MAX_FRAME_SIZE}
use Rattle.amqp_frames.specs.declared.fault.FrameFault.{FrameFault}
use Rattle.amqp_frames.specs.declared.frame.FrameKind.{FrameKind}
use Rattle.amqp_frames.specs.declared.frame.FrameKind.TheVariants as kinds
use Rattle.amqp_frames.specs.declared.header.ProtocolHeader.{ProtocolHeader}
use Rattle.amqp_frames.specs.declared.header.ProtocolHeader.TheVariants as headers
use Rattle.amqp_frames.specs.Frame.{Frame, IsFrame, IsFront, IsFault, IsPartial}
use Rattle.amqp_frames.specs.Header.{header_octets}
use Rattle.amqp_frames.specs.Sasl.{Saying, AMechanisms, AnInit, AnOutcome, InitFields, anonymous_name}
use Rattle.amqp_frames.specs.SaslGrammar.{IsSaslFront}
use Rattle.amqp_frames.specs.SaslWriting.{sasl_octets}
use Rattle.amqp_frames.specs.Writing.{frame_octets}
use Rattle.stream_reading.specs.declared.step.Phase.{Phase}
use Rattle.stream_reading.specs.declared.step.Phase.TheVariants.{FirstHeader, Exchange, SecondHeader, Open}
use Rattle.stream_reading.specs.declared.step.Event.{Event}
use Rattle.stream_reading.specs.declared.step.Event.TheVariants.{SaslHeader, AnonymousInit, AmqpHeader, AmqpFrame}
use Rattle.stream_reading.specs.declared.step.StreamFault.{StreamFault}
use Rattle.stream_reading.specs.declared.step.StreamFault.TheVariants.{HeaderRefused, BadFrame, SaslRefused}
use Rattle.stream_reading.specs.declared.step.Step.{Step}

-- ---- what may stand at the front of octets

-- all octets of a frame of a kind (part 2, 2.3.1)
abbrev pub IsFrameOf : FrameKind → List ℕ → Type 0
IsFrameOf kind octets = (frame : Frame) × IsFrame MAX_FRAME_SIZE frame × (frame.kind ≡ kind) × (frame.octets ≡ octets)

-- a frame's body is an init that chooses a mechanism (part 5, 5.3.3.2)
abbrev pub IsInit : List ℕ → List ℕ → Type 0
IsInit body mechanism = (init : InitFields) × IsSaslFront body (AnInit init) × (init.mechanism ≡ mechanism)

-- all octets of the init that chooses ANONYMOUS
abbrev pub IsAnonymousInit : List ℕ → Type 0
IsAnonymousInit octets = (frame : Frame) × IsFrame MAX_FRAME_SIZE frame × (frame.kind ≡ kinds.Sasl) × (frame.octets ≡ octets) × IsInit frame.body anonymous_name

-- what a client may send next: either header first (part 2, 2.2; part 5, 5.3.2), the init of a SASL exchange behind the
-- SASL header, the AMQP header behind that, and then frames
abbrev pub MayStand : Phase → Event → List ℕ → Type 0
MayStand FirstHeader SaslHeader octets = octets ≡ header_octets headers.Sasl
MayStand FirstHeader AmqpHeader octets = octets ≡ header_octets headers.Amqp
MayStand Exchange AnonymousInit octets = IsAnonymousInit octets
MayStand SecondHeader AmqpHeader octets = octets ≡ header_octets headers.Amqp
MayStand Open AmqpFrame octets = IsFrameOf kinds.Amqp octets
MayStand phase event octets = ⊥

-- what comes next
abbrev pub phase_after : Event → Phase
phase_after SaslHeader = Exchange
phase_after AnonymousInit = SecondHeader
phase_after AmqpHeader = Open
phase_after AmqpFrame = Open

-- ---- what stands there where nothing of this does

-- octets are missing, and those that are there show no fault: of a header, or of a frame
abbrev pub IsLess : Phase → List ℕ → Type 0
IsLess FirstHeader octets = length octets < 8
IsLess Exchange octets = IsPartial MAX_FRAME_SIZE octets
IsLess SecondHeader octets = length octets < 8
IsLess Open octets = IsPartial MAX_FRAME_SIZE octets

-- a frame stands at the front of octets, and this is so of it
abbrev pub BeginsWithFrame : List ℕ → (Frame → Type 0) → Type 0
BeginsWithFrame octets P = (frame : Frame) × (rest : List ℕ) × IsFront MAX_FRAME_SIZE octets frame rest × P frame

-- a frame that is no init of a SASL exchange
abbrev pub IsNoInit : Frame → Type 0
IsNoInit frame = (frame.kind ≡ kinds.Amqp) ⊎ ((init : InitFields) → ¬ IsSaslFront frame.body (AnInit init))

-- an init that chooses another mechanism than ANONYMOUS
abbrev pub ChoosesAnother : Frame → Type 0
ChoosesAnother frame = (frame.kind ≡ kinds.Sasl) × ((init : InitFields) × IsSaslFront frame.body (AnInit init) × ¬ (init.mechanism ≡ anonymous_name))

-- why the stream does not go on: eight octets are no header that may stand there; the octets begin no frame, or one that
-- may not stand there; an init chooses another mechanism
abbrev pub IsRefused : Phase → List ℕ → StreamFault → Type 0
IsRefused FirstHeader octets HeaderRefused = (8 ≤ length octets) × ((header : ProtocolHeader) → ¬ (take 8 octets ≡ header_octets header))
IsRefused SecondHeader octets HeaderRefused = (8 ≤ length octets) × ¬ (take 8 octets ≡ header_octets headers.Amqp)
IsRefused Exchange octets BadFrame = ((fault : FrameFault) × IsFault MAX_FRAME_SIZE octets fault) ⊎ BeginsWithFrame octets IsNoInit
IsRefused Exchange octets SaslRefused = BeginsWithFrame octets ChoosesAnother
IsRefused Open octets BadFrame = ((fault : FrameFault) × IsFault MAX_FRAME_SIZE octets fault) ⊎ BeginsWithFrame octets (λ frame. frame.kind ≡ kinds.Sasl)
IsRefused phase octets fault = ⊥

-- the step that a header is
abbrev pub event_of : ProtocolHeader → Event
event_of headers.Amqp = AmqpHeader
event_of headers.Sasl = SaslHeader

-- what is answered of the mechanism that an init chooses
abbrev pub AnswersName : List ℕ → Result Unit StreamFault → Type 0
AnswersName mechanism (Ok done) = mechanism ≡ anonymous_name
AnswersName mechanism (Err SaslRefused) = ¬ (mechanism ≡ anonymous_name)
AnswersName mechanism (Err fault) = ⊥

-- what is answered of a SASL frame's body
abbrev pub AnswersBody : List ℕ → Result Unit StreamFault → Type 0
AnswersBody body (Ok done) = IsInit body anonymous_name
AnswersBody body (Err BadFrame) = (init : InitFields) → ¬ IsSaslFront body (AnInit init)
AnswersBody body (Err SaslRefused) = (init : InitFields) × IsSaslFront body (AnInit init) × ¬ (init.mechanism ≡ anonymous_name)
AnswersBody body (Err HeaderRefused) = ⊥

-- what is answered of a frame behind the SASL header
abbrev pub AnswersInit : Frame → Result Unit StreamFault → Type 0
AnswersInit frame (Ok done) = (frame.kind ≡ kinds.Sasl) × IsInit frame.body anonymous_name
AnswersInit frame (Err BadFrame) = IsNoInit frame
AnswersInit frame (Err SaslRefused) = ChoosesAnother frame
AnswersInit frame (Err HeaderRefused) = ⊥

-- octets begin with others
abbrev pub BeginsWith : List ℕ → List ℕ → Type 0
BeginsWith octets front = (rest : List ℕ) × (octets ≡ front ++ rest)

-- what is answered of the front of octets
abbrev pub Answers : Phase → List ℕ → Result (Option Step) StreamFault → Type 0
Answers phase octets (Ok None) = IsLess phase octets
Answers phase octets (Ok (Some step)) = MayStand phase step.event step.octets.now × BeginsWith octets step.octets.now
Answers phase octets (Err fault) = IsRefused phase octets fault

-- ---- what the server says to it

-- a frame of the SASL exchange (part 5, 5.3.1)
abbrev pub sasl_frame : Saying → List ℕ
sasl_frame saying = frame_octets kinds.Sasl 0 (sasl_octets saying)

-- each header is answered by itself, the SASL header also by the mechanisms (part 5, 5.3.2), and the init by the
-- outcome ok (5.3.3.6); own rule: ANONYMOUS is the one mechanism
abbrev pub answer_to : Event → List ℕ
answer_to SaslHeader = header_octets headers.Sasl ++ sasl_frame (AMechanisms true)
answer_to AnonymousInit = sasl_frame (AnOutcome 0)
answer_to AmqpHeader = header_octets headers.Amqp
answer_to AmqpFrame = []

-- other octets than a header are answered by the header that the server speaks (part 2, 2.2), another mechanism by the
-- outcome auth (part 5, 5.3.3.6)
abbrev pub answer_to_fault : StreamFault → List ℕ
answer_to_fault HeaderRefused = header_octets headers.Amqp
answer_to_fault BadFrame = []
answer_to_fault SaslRefused = sasl_frame (AnOutcome 1)
