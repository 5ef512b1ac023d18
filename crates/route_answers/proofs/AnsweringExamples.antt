-- What a client may do, computed: each condition holds, and fails alone. And how an anonymous sender is answered.
use Rattle.std.specs.Prelude.{◌≡◌, ℕ, [], ◌∷◌, ◌++◌, List, codes, Option, Some, None, true, false, refl}
use Rattle.std.specs.Fmt.{digits}
use Rattle.amqp_perf.specs.declared.attach.Role.TheVariants.{Sender, Receiver}
use Rattle.amqp_perf.specs.declared.attach.SenderSettleMode.TheVariants.{Mixed}
use Rattle.amqp_perf.specs.declared.attach.ReceiverSettleMode.TheVariants.{First}
use Rattle.amqp_perf.specs.declared.condition.ErrorCondition.TheVariants.{NotImplemented}
use Rattle.amqp_perf.specs.Nested.{TerminusFields, ATerminus}
use Rattle.amqp_perf.specs.Meaning.{AnAttach}
use Rattle.amqp_perf.proofs.Opened.{read, written}
use Rattle.amqp_frames.specs.Writing.{frame_octets}
use Rattle.amqp_frames.specs.Reading.{whole_frame, frame_at, sized_frame, headed_frame}
use Rattle.capture_form.specs.declared.records.Record.{Record}
use Rattle.capture_form.specs.declared.rules.Form.TheVariants.{Two}
use Rattle.capture_form.specs.Rules.{RuleSet, no_rules}
use Rattle.trace_events.specs.Frame.{NoFrame, Spoken, frame_read}
use Rattle.trace_events.specs.Event.{Event, Opened, In, Out, Lost, Broken}
use Rattle.trace_events.specs.History.{history, judge}
use Rattle.trace_events.specs.declared.clause.Clause.{Clause}
use Rattle.trace_events.specs.declared.clause.Clause.TheVariants.{L3}
use Rattle.trace_events.specs.Clauses.{first_broken}
use Rattle.trace_events.specs.Written.{spoken_octets, says, written_detach}
use Rattle.trace_events.proofs.Captures.{opened, lost}
use Rattle.trace_events.proofs.Made.{from, write, bare, terminus, node, join, written_refusal}
use Rattle.trace_duties.specs.Answer.{answer}
use Rattle.route_answers.specs.Answering.{may_happen}

abbrev open_one : List Event
open_one = history no_rules (opened 0 ∷ [])

abbrev lost_one : List Event
lost_one = history no_rules (opened 0 ∷ lost 0 ∷ [])

-- a client opens a connection
opens_one : may_happen 0 Opened [] ≡ true
opens_one = refl

-- and uses it
uses_one : may_happen 0 (In (record { octets = []; body = NoFrame })) open_one ≡ true
uses_one = refl

breaks_one : may_happen 0 Broken open_one ≡ true
breaks_one = refl

loses_one : may_happen 0 Lost open_one ≡ true
loses_one = refl

-- but none that was not opened
uses_none : may_happen 1 (In (record { octets = []; body = NoFrame })) open_one ≡ false
uses_none = refl

-- nor one that is lost
uses_lost : may_happen 0 Broken lost_one ≡ false
uses_lost = refl

-- what the router writes is not the client's
writes_one : may_happen 0 (Out (record { octets = []; body = NoFrame })) open_one ≡ false
writes_one = refl

-- ---- anonymous senders

-- rules that serve them
abbrev serving : RuleSet
serving = record { form = Two true; list = [] }

-- the frames that answer one more record, and the first clause that is broken
unfoldable answers_to : RuleSet → List Record → Record → List Spoken
unfolding frame_read whole_frame frame_at sized_frame headed_frame read digits spoken_octets frame_octets written
answers_to rules records r = let past = history rules records in let e = judge rules past r in answer rules e (e ∷ past)

unfoldable broken_by : RuleSet → List Record → Option (ℕ × Clause)
unfolding frame_read whole_frame frame_at sized_frame headed_frame read digits spoken_octets frame_octets written
broken_by rules records = first_broken rules (history rules records)

-- one attaches with a target without address
abbrev attaching : Record
attaching = from 0 (AnAttach (let fields = bare Sender (Some 0) in record fields { target = Some (ATerminus (terminus None None)) }))

-- the answer to a producer, with this target
abbrev attached : TerminusFields → Spoken
attached target = says 0 (AnAttach (record {
  name = codes "l";
  handle = 0;
  role = Receiver;
  snd_settle_mode = Some Mixed;
  rcv_settle_mode = Some First;
  source = Some (terminus None None);
  target = Some (ATerminus target);
  initial_delivery_count = None;
  max_message_size = Some 16777216;
}))

-- where it is served, the target of the answer has no address
anonymous_served : answers_to serving (join 0) attaching ≡ attached (terminus None None) ∷ []
unfolding answers_to
anonymous_served = refl

-- where it isn't, it is refused as not implemented
anonymous_refused : answers_to no_rules (join 0) attaching ≡ written_refusal 0 (codes "l") 0 Receiver ∷ written_detach 0 0 true (Some NotImplemented) ∷ []
unfolding answers_to
anonymous_refused = refl

-- the first breaks no clause; the empty text as the target's address breaks one
served_lawful : broken_by serving (join 0 ++ (attaching ∷ write 0 (attached (terminus None None)) ∷ [])) ≡ None
unfolding broken_by
served_lawful = refl

empty_address : broken_by serving (join 0 ++ (attaching ∷ write 0 (attached (node [])) ∷ [])) ≡ Some (6, L3)
unfolding broken_by
empty_address = refl
