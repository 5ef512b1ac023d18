-- Events that leave all deliveries as they were, and with them what waits and what is to be decided.
use Rattle.std.proofs.Common.{◌≡◌, refl, ap, ◌∙◌, ℕ, false, not, ◌&&◌, List, ◌∷◌, Option, Some, None, is_some, is_none, option_and_then, option_map, if◌then◌else◌}
use Rattle.amqp_perf.specs.Meaning.{Meaning, AnOpen, ABegin, AnAttach, AFlow, ATransfer, ADisposition, ADetach, AnEnd, AClose}
use Rattle.pairing_cert.specs.declared.note.Note.{Note}
use Rattle.capture_form.specs.Rules.{RuleSet}
use Rattle.trace_events.specs.Words.{is_some_and}
use Rattle.trace_events.specs.Frame.{Spoken, spoken_in}
use Rattle.trace_events.specs.Event.{Event, Link, Incoming, Outgoing, Moment, Opened, In, Out, Lost, Broken}
use Rattle.trace_events.specs.declared.session.Session.{Session}
use Rattle.trace_events.specs.Said.{as_transfer, as_disposition, in_transfer, out_transfer, in_disposition, out_disposition}
use Rattle.trace_events.specs.Link.{is_live, own_link}
use Rattle.trace_events.specs.Incoming.{address_of, completed_by, completes, is_complete, is_aborted, is_settled, is_told, incoming_begun, incoming_deliveries, incoming_at, settles_part, settles_id}
use Rattle.trace_events.specs.Incoming as incoming
use Rattle.trace_events.specs.Outgoing.{outgoing_begun, outgoing_deliveries, next_delivery_id, answering, noted, pairing, is_paired, is_named_on, is_sent, decision, is_settled_by_consumer, is_settled_by_router}
use Rattle.trace_events.specs.Outgoing as outgoing
use Rattle.trace_events.specs.Waiting.{always_had_consumer, is_waiting, is_gone, is_undecided, undecided_count, has_waiting}
use Rattle.trace_events.specs.Due.{due_count, is_due, is_unsent, has_unsent}
use Rattle.trace_events.specs.Settling.{is_closed, is_to_settle, to_settle, to_tell}
use Rattle.trace_events.specs.History.{placed, heard, faulted, judge_moment, incoming_part, incoming_by, outgoing_part, outgoing_by, told_part, told_by, settled_part, settled_by}
use Rattle.trace_events.proofs.StepWords.{if-none}
use Rattle.trace_events.proofs.EventKinds as kinds
use Rattle.trace_events.proofs.EventKinds.{in_said, out_said}
use Rattle.trace_events.proofs.LinkSteps.{IsSteady, is_live-steady, has_consumer-steady}
use Rattle.trace_events.proofs.IncomingSteps as came
use Rattle.trace_events.proofs.OutgoingSteps as went
use Rattle.trace_events.proofs.WaitingSteps as waits

-- it is of no delivery, and decides none
pub record IsIdle (e : Event) : Type 0 where
  pub incoming : e.incoming ≡ None
  pub outgoing : e.outgoing ≡ None
  pub told : e.told ≡ None
  pub settled : e.settled ≡ None
  pub transfers : out_transfer e ≡ None
  pub disposes : in_disposition e ≡ None

module _ (e : Event) (past : List Event) (idle : IsIdle e) where
  completes-idle : (d : Incoming) → completes d e ≡ false
  completes-idle d = kinds.completes-none e d (kinds.completed_by-apart e idle.incoming)

  incoming_begun-idle : incoming_begun e ≡ None
  incoming_begun-idle = kinds.incoming_begun-none e idle.incoming

  outgoing_begun-idle : outgoing_begun e ≡ None
  outgoing_begun-idle = kinds.outgoing_begun-none e idle.outgoing

  answering-idle : (j : Outgoing) → answering j e ≡ None
  answering-idle j = rw idle.disposes (simp if-none)

  settles_id-idle : (d : Incoming) → settles_id d e ≡ false
  settles_id-idle d = rw idle.disposes refl

  -- ---- from clients

  pub incoming_in_progress-idle : (l : Link) → incoming.in_progress l (e ∷ past) ≡ incoming.in_progress l past
  incoming_in_progress-idle l = came.in_progress-none e past l idle.incoming

  pub incoming_payload-idle : (d : Incoming) → incoming.payload d (e ∷ past) ≡ incoming.payload d past
  incoming_payload-idle d = came.payload-same e past d (kinds.is_incoming_part-none e d idle.incoming)

  pub is_complete-idle : (d : Incoming) → is_complete d (e ∷ past) ≡ is_complete d past
  is_complete-idle d = came.is_complete-same e past d (completes-idle d)

  pub is_aborted-idle : (d : Incoming) → is_aborted d (e ∷ past) ≡ is_aborted d past
  is_aborted-idle d = came.is_aborted-no_part e past d (kinds.is_incoming_part-none e d idle.incoming)

  pub incoming_deliveries-idle : incoming_deliveries (e ∷ past) ≡ incoming_deliveries past
  incoming_deliveries-idle = came.incoming_deliveries-same e past incoming_begun-idle

  pub incoming_at-idle : (n : ℕ) → incoming_at n (e ∷ past) ≡ incoming_at n past
  incoming_at-idle n = came.incoming_at-same e past n incoming_begun-idle

  pub is_settled-idle : (d : Incoming) → is_settled d (e ∷ past) ≡ is_settled d past
  is_settled-idle d = came.is_settled-same e past d (kinds.settles_part-apart e d idle.incoming) (settles_id-idle d)

  pub is_told-idle : (d : Incoming) → is_told d (e ∷ past) ≡ is_told d past
  is_told-idle d = came.is_told-none e past d idle.told

  -- ---- to clients

  pub outgoing_in_progress-idle : (l : Link) → outgoing.in_progress l (e ∷ past) ≡ outgoing.in_progress l past
  outgoing_in_progress-idle l = went.in_progress-none e past l idle.outgoing

  pub outgoing_payload-idle : (j : Outgoing) → outgoing.payload j (e ∷ past) ≡ outgoing.payload j past
  outgoing_payload-idle j = went.payload-same e past j (kinds.is_outgoing_part-none e j idle.outgoing)

  pub is_sent-idle : (j : Outgoing) → is_sent j (e ∷ past) ≡ is_sent j past
  is_sent-idle j = went.is_sent-no_part e past j (kinds.is_outgoing_part-none e j idle.outgoing)

  pub outgoing_deliveries-idle : outgoing_deliveries (e ∷ past) ≡ outgoing_deliveries past
  outgoing_deliveries-idle = went.outgoing_deliveries-same e past outgoing_begun-idle

  pub next_delivery_id-idle : (s : Session) → next_delivery_id s (e ∷ past) ≡ next_delivery_id s past
  next_delivery_id-idle s = went.next_delivery_id-same e past s outgoing_begun-idle

  pub noted-idle : (note : Note) → noted note (e ∷ past) ≡ noted note past
  noted-idle note = went.noted-same e past note incoming_begun-idle

  pub pairing-idle : (d : Incoming) → pairing d (e ∷ past) ≡ pairing d past
  pairing-idle d = went.pairing-same e past d outgoing_begun-idle

  pub is_paired-idle : (d : Incoming) → is_paired d (e ∷ past) ≡ is_paired d past
  is_paired-idle d = went.is_paired-same e past d outgoing_begun-idle

  pub is_named_on-idle : (d : Incoming) (l : Link) → is_named_on d l (e ∷ past) ≡ is_named_on d l past
  is_named_on-idle d l = went.is_named_on-no_transfer e past d l idle.transfers

  pub decision-idle : (j : Outgoing) → decision j (e ∷ past) ≡ decision j past
  decision-idle j = went.decision-unanswered e past j (answering-idle j)

  pub is_settled_by_consumer-idle : (j : Outgoing) → is_settled_by_consumer j (e ∷ past) ≡ is_settled_by_consumer j past
  is_settled_by_consumer-idle j = went.is_settled_by_consumer-unanswered e past j (answering-idle j)

  pub is_settled_by_router-idle : (j : Outgoing) → is_settled_by_router j (e ∷ past) ≡ is_settled_by_router j past
  is_settled_by_router-idle j = went.is_settled_by_router-none e past j idle.settled

  -- ---- copies that are due

  pub due_count-idle : (rules : RuleSet) (l : Link) → due_count rules l (e ∷ past) ≡ due_count rules l past
  due_count-idle rules l = waits.due_count-none rules e past l (kinds.completed_by-apart e idle.incoming)

  pub is_due-idle : (rules : RuleSet) (d : Incoming) (l : Link) → is_due rules d l (e ∷ past) ≡ is_due rules d l past
  is_due-idle rules d l = waits.is_due-same rules e past d l (completes-idle d)

  pub is_unsent-idle : (rules : RuleSet) (d : Incoming) (l : Link) → is_unsent rules d l (e ∷ past) ≡ is_unsent rules d l past
  is_unsent-idle rules d l = waits.is_unsent-same rules e past d l (is_due-idle rules d l) (is_named_on-idle d l)

  pub has_unsent-idle : (rules : RuleSet) (l : Link) → has_unsent rules l (e ∷ past) ≡ has_unsent rules l past
  has_unsent-idle rules l = waits.has_unsent-same rules e past l incoming_begun-idle (λ d. is_unsent-idle rules d l)

-- ---- an idle event that leaves all links

module _ (e : Event) (past : List Event) (idle : IsIdle e) (steady : IsSteady e) where
  pub is_closed-idle : (d : Incoming) → is_closed (e ∷ past) d ≡ is_closed past d
  is_closed-idle d = waits.is_closed-same e past d (is_told-idle e past idle d) (is_settled-idle e past idle d) (is_live-steady e past steady d.link)

  pub is_to_settle-idle : (j : Outgoing) → is_to_settle (e ∷ past) j ≡ is_to_settle past j
  is_to_settle-idle j =
      rw (is_live-steady e past steady j.link, decision-idle e past idle j, is_settled_by_consumer-idle e past idle j, is_settled_by_router-idle e past idle j, noted-idle e past idle j.note)
      (ap (λ b. is_live past j.link && is_some (decision j past) && not (is_settled_by_consumer j past) && not (is_settled_by_router j past) && b) (by (noted j.note past)))
    where
      by : (o : Option Incoming) → is_some_and o (is_closed (e ∷ past)) ≡ is_some_and o (is_closed past)
      by None = refl
      by (Some d) = is_closed-idle d

  pub to_settle-idle : (s : Session) (id : ℕ) → to_settle s id (e ∷ past) ≡ to_settle s id past
  to_settle-idle s id = waits.to_settle-same e past s id (outgoing_begun-idle e past idle) is_to_settle-idle

module _ (e : Event) (past : List Event) (idle : IsIdle e) (steady : IsSteady e) (none : own_link e ≡ None) where
  pub always_had_consumer-idle : (d : Incoming) → always_had_consumer d (e ∷ past) ≡ always_had_consumer d past
  always_had_consumer-idle d = waits.always_had_consumer-same d e past (completes-idle e past idle d) (has_consumer-steady e past steady (address_of d past) none)

  pub is_waiting-idle : (rules : RuleSet) (d : Incoming) → is_waiting rules d (e ∷ past) ≡ is_waiting rules d past
  is_waiting-idle rules d = waits.is_waiting-same d e past rules (completes-idle e past idle d) (is_paired-idle e past idle d) (always_had_consumer-idle d)

  pub is_gone-idle : (rules : RuleSet) (d : Incoming) → is_gone rules d (e ∷ past) ≡ is_gone rules d past
  is_gone-idle rules d = waits.is_gone-same d e past rules (completes-idle e past idle d) (is_paired-idle e past idle d) (always_had_consumer-idle d)

  pub is_undecided-idle : (rules : RuleSet) (d : Incoming) → is_undecided rules d (e ∷ past) ≡ is_undecided rules d past
  is_undecided-idle rules d =
      waits.is_undecided-same d e past rules (is_live-steady e past steady d.link) (is_aborted-idle e past idle d) (is_complete-idle e past idle d)
      (is_waiting-idle rules d) (is_settled-idle e past idle d) (is_told-idle e past idle d)

  pub undecided_count-idle : (rules : RuleSet) (l : Link) → undecided_count rules l (e ∷ past) ≡ undecided_count rules l past
  undecided_count-idle rules l = waits.undecided_count-same rules e past l (incoming_begun-idle e past idle) (is_undecided-idle rules)

  pub to_tell-idle : (rules : RuleSet) (s : Session) (id : ℕ) → to_tell rules s id (e ∷ past) ≡ to_tell rules s id past
  to_tell-idle rules s id = waits.to_tell-same rules e past s id (incoming_begun-idle e past idle) (is_undecided-idle rules)

  pub has_waiting-idle : (rules : RuleSet) (address : List ℕ) → has_waiting rules address (e ∷ past) ≡ has_waiting rules address past
  has_waiting-idle rules address = waits.has_waiting-same rules e past address (incoming_begun-idle e past idle) (completes-idle e past idle) (is_waiting-idle rules)

-- ---- which events of a history are idle: neither transfers nor dispositions

incoming_part-none : (e : Event) (m : Meaning) (past : List Event) → as_transfer m ≡ None → incoming_part e m past ≡ None
incoming_part-none e (ATransfer x) past none = absurd cc
incoming_part-none e (AnOpen x) past none = refl
incoming_part-none e (ABegin x) past none = refl
incoming_part-none e (AnAttach x) past none = refl
incoming_part-none e (AFlow x) past none = refl
incoming_part-none e (ADisposition x) past none = refl
incoming_part-none e (ADetach x) past none = refl
incoming_part-none e (AnEnd x) past none = refl
incoming_part-none e (AClose x) past none = refl

outgoing_part-none : (e : Event) (m : Meaning) (past : List Event) → as_transfer m ≡ None → outgoing_part e m past ≡ None
outgoing_part-none e (ATransfer x) past none = absurd cc
outgoing_part-none e (AnOpen x) past none = refl
outgoing_part-none e (ABegin x) past none = refl
outgoing_part-none e (AnAttach x) past none = refl
outgoing_part-none e (AFlow x) past none = refl
outgoing_part-none e (ADisposition x) past none = refl
outgoing_part-none e (ADetach x) past none = refl
outgoing_part-none e (AnEnd x) past none = refl
outgoing_part-none e (AClose x) past none = refl

told_part-none : (rules : RuleSet) (e : Event) (m : Meaning) (past : List Event) → as_disposition m ≡ None → told_part rules e m past ≡ None
told_part-none rules e (ADisposition x) past none = absurd cc
told_part-none rules e (AnOpen x) past none = refl
told_part-none rules e (ABegin x) past none = refl
told_part-none rules e (AnAttach x) past none = refl
told_part-none rules e (AFlow x) past none = refl
told_part-none rules e (ATransfer x) past none = refl
told_part-none rules e (ADetach x) past none = refl
told_part-none rules e (AnEnd x) past none = refl
told_part-none rules e (AClose x) past none = refl

settled_part-none : (e : Event) (m : Meaning) (past : List Event) → as_disposition m ≡ None → settled_part e m past ≡ None
settled_part-none e (ADisposition x) past none = absurd cc
settled_part-none e (AnOpen x) past none = refl
settled_part-none e (ABegin x) past none = refl
settled_part-none e (AnAttach x) past none = refl
settled_part-none e (AFlow x) past none = refl
settled_part-none e (ATransfer x) past none = refl
settled_part-none e (ADetach x) past none = refl
settled_part-none e (AnEnd x) past none = refl
settled_part-none e (AClose x) past none = refl

-- a part of what is said, where what it is of isn't said
part_of-none : {A B : Type 0} (kind : Meaning → Option A) (part : Meaning → Option B) → ((m : Meaning) → kind m ≡ None → part m ≡ None) → (o : Option Spoken)
    → option_and_then kind (option_map (λ (spoken : Spoken). spoken.meaning) o) ≡ None → option_and_then (λ (spoken : Spoken). part spoken.meaning) o ≡ None
part_of-none kind part of None none = refl
part_of-none kind part of (Some spoken) none = of spoken.meaning none

pub incoming_by-none : (e : Event) (moment : Moment) (past : List Event) → option_and_then as_transfer (in_said moment) ≡ None → incoming_by e moment past ≡ None
incoming_by-none e (In frame) past none =
    ap (λ o. if e.is_heard && is_none e.fault then o else None) (part_of-none as_transfer (λ m. incoming_part e m past) (λ m. incoming_part-none e m past) (spoken_in frame.body) none)
    ∙ if-none (e.is_heard && is_none e.fault)
incoming_by-none e (Out frame) past none = refl
incoming_by-none e Opened past none = refl
incoming_by-none e Lost past none = refl
incoming_by-none e Broken past none = refl

pub outgoing_by-none : (e : Event) (moment : Moment) (past : List Event) → option_and_then as_transfer (out_said moment) ≡ None → outgoing_by e moment past ≡ None
outgoing_by-none e (Out frame) past none = part_of-none as_transfer (λ m. outgoing_part e m past) (λ m. outgoing_part-none e m past) (spoken_in frame.body) none
outgoing_by-none e (In frame) past none = refl
outgoing_by-none e Opened past none = refl
outgoing_by-none e Lost past none = refl
outgoing_by-none e Broken past none = refl

pub told_by-none : (rules : RuleSet) (e : Event) (moment : Moment) (past : List Event) → option_and_then as_disposition (out_said moment) ≡ None → told_by rules e moment past ≡ None
told_by-none rules e (Out frame) past none =
    part_of-none as_disposition (λ m. told_part rules e m past) (λ m. told_part-none rules e m past) (spoken_in frame.body) none
told_by-none rules e (In frame) past none = refl
told_by-none rules e Opened past none = refl
told_by-none rules e Lost past none = refl
told_by-none rules e Broken past none = refl

pub settled_by-none : (e : Event) (moment : Moment) (past : List Event) → option_and_then as_disposition (out_said moment) ≡ None → settled_by e moment past ≡ None
settled_by-none e (Out frame) past none = part_of-none as_disposition (λ m. settled_part e m past) (λ m. settled_part-none e m past) (spoken_in frame.body) none
settled_by-none e (In frame) past none = refl
settled_by-none e Opened past none = refl
settled_by-none e Lost past none = refl
settled_by-none e Broken past none = refl

module _ (rules : RuleSet) (past : List Event) (c : ℕ) (moment : Moment) (note : Note) where
  pub incoming-judged : in_transfer (judge_moment rules past c moment note) ≡ None → (judge_moment rules past c moment note).incoming ≡ None
  incoming-judged none = incoming_by-none (faulted rules past (heard past (placed past c moment note))) moment past none

  pub outgoing-judged : out_transfer (judge_moment rules past c moment note) ≡ None → (judge_moment rules past c moment note).outgoing ≡ None
  outgoing-judged none = outgoing_by-none (faulted rules past (heard past (placed past c moment note))) moment past none

  pub told-judged : out_disposition (judge_moment rules past c moment note) ≡ None → (judge_moment rules past c moment note).told ≡ None
  told-judged none = told_by-none rules (faulted rules past (heard past (placed past c moment note))) moment past none

  pub settled-judged : out_disposition (judge_moment rules past c moment note) ≡ None → (judge_moment rules past c moment note).settled ≡ None
  settled-judged none = settled_by-none (faulted rules past (heard past (placed past c moment note))) moment past none

  pub idle-judged : in_transfer (judge_moment rules past c moment note) ≡ None → out_transfer (judge_moment rules past c moment note) ≡ None
      → in_disposition (judge_moment rules past c moment note) ≡ None → out_disposition (judge_moment rules past c moment note) ≡ None
      → IsIdle (judge_moment rules past c moment note)
  idle-judged in_none out_none disposes told = record {
    incoming = incoming-judged in_none;
    outgoing = outgoing-judged out_none;
    told = told-judged told;
    settled = settled-judged told;
    transfers = out_none;
    disposes = disposes;
  }

pub ruleset idle_steps = (
  incoming_in_progress-idle,
  incoming_payload-idle,
  is_complete-idle,
  is_aborted-idle,
  incoming_deliveries-idle,
  incoming_at-idle,
  is_settled-idle,
  is_told-idle,
  outgoing_in_progress-idle,
  outgoing_payload-idle,
  is_sent-idle,
  outgoing_deliveries-idle,
  next_delivery_id-idle,
  noted-idle,
  pairing-idle,
  is_paired-idle,
  is_named_on-idle,
  decision-idle,
  is_settled_by_consumer-idle,
  is_settled_by_router-idle,
  due_count-idle,
  is_due-idle,
  is_unsent-idle,
  has_unsent-idle,
  is_closed-idle,
  is_to_settle-idle,
  to_settle-idle,
  always_had_consumer-idle,
  is_waiting-idle,
  is_gone-idle,
  is_undecided-idle,
  undecided_count-idle,
  to_tell-idle,
  has_waiting-idle,
  incoming_by-none,
  outgoing_by-none,
  told_by-none,
  settled_by-none,
  incoming-judged,
  outgoing-judged,
  told-judged,
  settled-judged,
  idle-judged,
)
