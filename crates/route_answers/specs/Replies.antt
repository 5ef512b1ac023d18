-- What the code's replies say.
use Rattle.std.specs.Prelude.{◌≡◌, ◌≤◌, ℕ, Bool, true, false, List, [], ◌∷◌, ◌++◌, length, Option, Some, None, IfSome, codes, decimal, if◌then◌else◌}
use Rattle.flow_counts.specs.declared.profile.TheConstants.{MAX_LINK_NAME, MAX_ADDRESS}
use Rattle.amqp_perf.specs.Meaning.{Meaning, AnOpen, ABegin, AnAttach, AFlow, ADetach, AnEnd, AClose}
use Rattle.amqp_perf.specs.Router.{router_open, begin_answer, attach_to_producer, attach_to_consumer, attach_refused, detach_with}
use Rattle.amqp_perf.specs.View.{attach_fields}
use Rattle.capture_form.specs.Rules.{RuleSet}
use Rattle.trace_events.specs.declared.fault.Fault.{Fault}
use Rattle.trace_events.specs.declared.fault.Fault.TheVariants.{Refuse}
use Rattle.trace_events.specs.Frame.{Body, Says, Spoken}
use Rattle.trace_events.specs.Event.{Event, Moment, In, Broken}
use Rattle.trace_events.specs.Connection.{was_finished, has_out_close}
use Rattle.trace_events.specs.Session.{IsLiveOn}
use Rattle.trace_events.specs.Link.{IsLiveLink}
use Rattle.trace_events.specs.Clauses.{first_broken}
use Rattle.trace_events.specs.LinkClause.{asked_address}
use Rattle.trace_events.specs.Written.{says, error_of}
use Rattle.trace_duties.specs.Answer.{attach_to_anonymous, heard_answer, passed_answer}
use Rattle.route_answers.specs.declared.reply.Source.{Source}
use Rattle.route_answers.specs.declared.reply.Source.TheVariants as sources
use Rattle.route_answers.specs.declared.reply.Saying.{Saying}
use Rattle.route_answers.specs.declared.reply.Saying.TheVariants as sayings
use Rattle.route_answers.specs.declared.reply.Reply.{Reply}
use Rattle.route_answers.specs.declared.reply.Answer.{Answer}
use Rattle.route_answers.specs.declared.reply.Answer.TheVariants as answers

-- ---- what a reply says

abbrev pub source_text : Source → List ℕ
source_text (sources.Given text) = text.now
source_text (sources.Made number) = codes "dyn/" ++ decimal number

abbrev pub is_made : Source → Bool
is_made (sources.Given text) = false
is_made (sources.Made number) = true

abbrev pub meaning_of : ℕ → Saying → Meaning
meaning_of channel sayings.Open = AnOpen router_open
meaning_of channel (sayings.Close condition) = AClose (error_of condition)
meaning_of channel sayings.Begin = ABegin (begin_answer channel)
meaning_of channel (sayings.End condition) = AnEnd (error_of condition)
meaning_of channel (sayings.ToProducer theirs address) = AnAttach (attach_to_producer (attach_fields theirs) address.now)
meaning_of channel (sayings.ToAnonymous theirs) = AnAttach (attach_to_anonymous (attach_fields theirs))
meaning_of channel (sayings.ToConsumer theirs source mode) = AnAttach (attach_to_consumer (attach_fields theirs) (source_text source) (is_made source) mode)
meaning_of channel (sayings.Refused theirs) = AnAttach (attach_refused (attach_fields theirs))
meaning_of channel (sayings.Detach handle closed condition) = ADetach (detach_with handle closed condition)
meaning_of channel (sayings.Flow flow) = AFlow flow

abbrev pub reply_view : Reply → Spoken
reply_view reply = says reply.channel (meaning_of reply.channel reply.saying)

abbrev pub answer_view : Answer → List Spoken
answer_view answers.Nothing = []
answer_view (answers.One reply) = reply_view reply ∷ []
answer_view (answers.Two first second) = reply_view first ∷ reply_view second ∷ []

-- ---- what can be written: the texts that it repeats are no longer than a router takes them

abbrev pub CanBeSaid : Saying → Type 0
CanBeSaid (sayings.ToProducer theirs address) = (length theirs.name.now ≤ MAX_LINK_NAME) × (length address.now ≤ MAX_ADDRESS)
CanBeSaid (sayings.ToAnonymous theirs) = length theirs.name.now ≤ MAX_LINK_NAME
CanBeSaid (sayings.ToConsumer theirs source mode) = (length theirs.name.now ≤ MAX_LINK_NAME) × (length (source_text source) ≤ MAX_ADDRESS)
CanBeSaid (sayings.Refused theirs) = length theirs.name.now ≤ MAX_LINK_NAME
CanBeSaid other = Unit {0}

abbrev pub CanBeWritten : Answer → Type 0
CanBeWritten answers.Nothing = Unit {0}
CanBeWritten (answers.One reply) = CanBeSaid reply.saying
CanBeWritten (answers.Two first second) = CanBeSaid first.saying × CanBeSaid second.saying

-- ---- the answer to a performative, heard or passed over

abbrev pub said_answer : RuleSet → Event → ℕ → Meaning → List Event → List Spoken
said_answer rules e channel meaning past =
    if e.is_heard then heard_answer rules e channel meaning e.fault past else passed_answer e meaning past

-- ---- what an event that is to be answered says of the events up to it

-- the session and the link of a flow live
abbrev pub EchoesLive : Event → List Event → Meaning → Type 0
EchoesLive e past (AFlow flow) = IfSome e.session (λ s. IsLiveOn s past) × IfSome e.link (λ l. IsLiveLink l past)
EchoesLive e past other = Unit {0}

-- the name and the address of an attach that is accepted are short, and so is the name of one that is refused
abbrev pub AreShortTexts : ℕ → Option Fault → Meaning → Type 0
AreShortTexts number None (AnAttach theirs) = (length theirs.name ≤ MAX_LINK_NAME) × (length (asked_address number theirs) ≤ MAX_ADDRESS)
AreShortTexts number (Some (Refuse condition)) (AnAttach theirs) = length theirs.name ≤ MAX_LINK_NAME
AreShortTexts number fault other = Unit {0}

abbrev pub IsHeardShort : Bool → ℕ → Option Fault → Meaning → Type 0
IsHeardShort true number fault meaning = AreShortTexts number fault meaning
IsHeardShort false number fault meaning = Unit {0}

abbrev pub IsAnswerableBody : Event → List Event → Body → Type 0
IsAnswerableBody e past (Says spoken) = EchoesLive e past spoken.meaning × IsHeardShort e.is_heard e.number e.fault spoken.meaning
IsAnswerableBody e past other = Unit {0}

-- octets stopped being frames on a connection that is not lost
abbrev pub IsAnswerableAt : Event → List Event → Moment → Type 0
IsAnswerableAt e past (In frame) = IsAnswerableBody e past frame.body
IsAnswerableAt e past Broken = was_finished e.connection past ≡ has_out_close e.connection past
IsAnswerableAt e past other = Unit {0}

-- no record breaks a clause, the event included
pub record IsAnswerable (rules : RuleSet) (e : Event) (past : List Event) : Type 0 where
  pub lawful : first_broken rules past ≡ None
  pub at : IsAnswerableAt e past e.moment
