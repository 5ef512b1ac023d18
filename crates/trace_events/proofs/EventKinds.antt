-- What each test on an event says of an event of each kind. A kind is an equation: on what a frame in or out says, as
-- `out_meaning e ≡ Some (ATransfer fields)`, or on the moment, as `e.moment ≡ Lost`. A lemma `-none` is of events that
-- say nothing in the test's direction, `-not` of performatives of another kind, `-is` says what the test gives.
use Rattle.std.proofs.Common.{◌≡◌, refl, ap, ◌∙◌, ℕ, Bool, true, false, ◌&&◌, Option, Some, None, is_some, option_map, option_and_then, ◌==◌}
use Rattle.std.specs.Prelude.{nat_lt}
use Rattle.amqp_perf.specs.declared.begin.Begin.{Begin}
use Rattle.amqp_perf.specs.declared.flow.Flow.{Flow}
use Rattle.amqp_perf.specs.Meaning.{Meaning, AFlow, ATransfer, OpenFields, AttachFields, TransferFields, DispositionFields, DetachFields, flag}
use Rattle.flow_counts.specs.declared.events.WindowEvent.{WindowEvent}
use Rattle.flow_counts.specs.Credit.{LinkEvent, TheirFlow, OurFlow, Begun}
use Rattle.trace_events.specs.Words.{is_some_and, is_number}
use Rattle.trace_events.specs.Frame.{Frame, Body, NoFrame, Empty, NoPerformative, Says, Spoken, spoken_in, channel_in}
use Rattle.trace_events.specs.Event.{Event, Link, Incoming, Outgoing, Moment, Opened, In, Out, Lost, Broken, in_frame, out_frame, channel_of, is_on_channel, is_on_session, is_on_link}
use Rattle.trace_events.specs.declared.session.Session.{Session}
use Rattle.trace_events.specs.Said.{as_open, as_begin, as_attach, as_flow, as_transfer, as_disposition, as_detach, is_end, is_close, in_meaning, out_meaning, in_open, in_begin, in_attach, in_flow, in_transfer, in_disposition, in_detach, out_open, out_begin, out_attach, out_flow, out_transfer, out_disposition, out_detach, is_in_end, is_out_end, is_in_close, is_out_close}
use Rattle.trace_events.specs.Connection.{is_final}
use Rattle.trace_events.specs.Session.{begins_in, begins_out, ends_in, ends_out, own_session}
use Rattle.trace_events.specs.Link.{is_sender, is_receiver, attaches_in, attaches_out, detaches_in, detaches_out, own_link}
use Rattle.trace_events.specs.Window.{in_window_event, out_window_event, window_event}
use Rattle.trace_events.specs.Credit.{begins_incoming, begins_outgoing, in_link_event, out_link_event, link_event}
use Rattle.trace_events.specs.Incoming.{is_last_part, completed_by, completes, settles_part, settles_id, incoming_begun}
use Rattle.trace_events.specs.Incoming as incoming
use Rattle.trace_events.specs.Disposition.{covers_id}
use Rattle.trace_events.specs.Outgoing.{names, answering, outgoing_begun}
use Rattle.trace_events.specs.Outgoing as outgoing
use Rattle.trace_events.proofs.StepWords.{and-false, if-none}

-- ---- what a moment says

-- of either direction
abbrev pub in_said : Moment → Option Meaning
in_said moment = option_map (λ (spoken : Spoken). spoken.meaning) (option_and_then (λ (frame : Frame). spoken_in frame.body) (in_frame moment))

abbrev pub out_said : Moment → Option Meaning
out_said moment = option_map (λ (spoken : Spoken). spoken.meaning) (option_and_then (λ (frame : Frame). spoken_in frame.body) (out_frame moment))

-- a moment that says nothing says so in both directions
pub in_said-out : (moment : Moment) (m : Meaning) → out_said moment ≡ Some m → in_said moment ≡ None
in_said-out (Out frame) m is = refl
in_said-out (In frame) m is = absurd cc
in_said-out Opened m is = absurd cc
in_said-out Lost m is = absurd cc
in_said-out Broken m is = absurd cc

pub out_said-in : (moment : Moment) (m : Meaning) → in_said moment ≡ Some m → out_said moment ≡ None
out_said-in (In frame) m is = refl
out_said-in (Out frame) m is = absurd cc
out_said-in Opened m is = absurd cc
out_said-in Lost m is = absurd cc
out_said-in Broken m is = absurd cc

final_in : (o : Option Spoken) (m : Meaning) → option_map (λ (spoken : Spoken). spoken.meaning) o ≡ Some m → is_some_and o (λ spoken. is_close spoken.meaning) ≡ is_close m
final_in None m is = absurd cc
final_in (Some spoken) m is = let same : spoken.meaning ≡ m = cc in ap is_close same

window_in : (o : Option Spoken) (m : Meaning) → option_map (λ (spoken : Spoken). spoken.meaning) o ≡ Some m → option_and_then (λ spoken. in_window_event spoken.meaning) o ≡ in_window_event m
window_in None m is = absurd cc
window_in (Some spoken) m is = let same : spoken.meaning ≡ m = cc in ap in_window_event same

link_in : (e : Event) (o : Option Spoken) (m : Meaning) → option_map (λ (spoken : Spoken). spoken.meaning) o ≡ Some m → option_and_then (λ spoken. in_link_event e spoken.meaning) o ≡ in_link_event e m
link_in e None m is = absurd cc
link_in e (Some spoken) m is = let same : spoken.meaning ≡ m = cc in ap (in_link_event e) same

pub is_final-said_in : (moment : Moment) (m : Meaning) → in_said moment ≡ Some m → is_final moment ≡ is_close m
is_final-said_in (In frame) m is = final_in (spoken_in frame.body) m is
is_final-said_in (Out frame) m is = absurd cc
is_final-said_in Opened m is = absurd cc
is_final-said_in Lost m is = absurd cc
is_final-said_in Broken m is = absurd cc

pub window_event-said_in : (moment : Moment) (m : Meaning) → in_said moment ≡ Some m → window_event moment ≡ in_window_event m
window_event-said_in (In frame) m is = window_in (spoken_in frame.body) m is
window_event-said_in (Out frame) m is = absurd cc
window_event-said_in Opened m is = absurd cc
window_event-said_in Lost m is = absurd cc
window_event-said_in Broken m is = absurd cc

pub link_event-said_in : (e : Event) (moment : Moment) (m : Meaning) → in_said moment ≡ Some m → link_event e moment ≡ in_link_event e m
link_event-said_in e (In frame) m is = link_in e (spoken_in frame.body) m is
link_event-said_in e (Out frame) m is = absurd cc
link_event-said_in e Opened m is = absurd cc
link_event-said_in e Lost m is = absurd cc
link_event-said_in e Broken m is = absurd cc

final_out : (o : Option Spoken) (m : Meaning) → option_map (λ (spoken : Spoken). spoken.meaning) o ≡ Some m → is_some_and o (λ spoken. is_close spoken.meaning) ≡ is_close m
final_out None m is = absurd cc
final_out (Some spoken) m is = let same : spoken.meaning ≡ m = cc in ap is_close same

window_out : (o : Option Spoken) (m : Meaning) → option_map (λ (spoken : Spoken). spoken.meaning) o ≡ Some m → option_and_then (λ spoken. out_window_event spoken.meaning) o ≡ out_window_event m
window_out None m is = absurd cc
window_out (Some spoken) m is = let same : spoken.meaning ≡ m = cc in ap out_window_event same

link_out : (e : Event) (o : Option Spoken) (m : Meaning) → option_map (λ (spoken : Spoken). spoken.meaning) o ≡ Some m → option_and_then (λ spoken. out_link_event e spoken.meaning) o ≡ out_link_event e m
link_out e None m is = absurd cc
link_out e (Some spoken) m is = let same : spoken.meaning ≡ m = cc in ap (out_link_event e) same

pub is_final-said_out : (moment : Moment) (m : Meaning) → out_said moment ≡ Some m → is_final moment ≡ is_close m
is_final-said_out (Out frame) m is = final_out (spoken_in frame.body) m is
is_final-said_out (In frame) m is = absurd cc
is_final-said_out Opened m is = absurd cc
is_final-said_out Lost m is = absurd cc
is_final-said_out Broken m is = absurd cc

pub window_event-said_out : (moment : Moment) (m : Meaning) → out_said moment ≡ Some m → window_event moment ≡ out_window_event m
window_event-said_out (Out frame) m is = window_out (spoken_in frame.body) m is
window_event-said_out (In frame) m is = absurd cc
window_event-said_out Opened m is = absurd cc
window_event-said_out Lost m is = absurd cc
window_event-said_out Broken m is = absurd cc

pub link_event-said_out : (e : Event) (moment : Moment) (m : Meaning) → out_said moment ≡ Some m → link_event e moment ≡ out_link_event e m
link_event-said_out e (Out frame) m is = link_out e (spoken_in frame.body) m is
link_event-said_out e (In frame) m is = absurd cc
link_event-said_out e Opened m is = absurd cc
link_event-said_out e Lost m is = absurd cc
link_event-said_out e Broken m is = absurd cc

-- a frame that is no performative, and a moment that is no frame
pub record IsSilent (e : Event) : Type 0 where
  pub says_in : in_meaning e ≡ None
  pub says_out : out_meaning e ≡ None
  pub moves_window : window_event e.moment ≡ None
  pub moves_credit : link_event e e.moment ≡ None

silent_by : (e : Event) (moment : Moment) → e.moment ≡ moment → in_said moment ≡ None → out_said moment ≡ None → window_event moment ≡ None → link_event e moment ≡ None → IsSilent e
silent_by e moment is i o w l = record {
  says_in = ap in_said is ∙ i;
  says_out = ap out_said is ∙ o;
  moves_window = ap window_event is ∙ w;
  moves_credit = ap (link_event e) is ∙ l;
}

module _ (e : Event) where
  pub silent-opened : e.moment ≡ Opened → IsSilent e
  silent-opened is = silent_by e Opened is refl refl refl refl

  pub silent-lost : e.moment ≡ Lost → IsSilent e
  silent-lost is = silent_by e Lost is refl refl refl refl

  pub silent-broken : e.moment ≡ Broken → IsSilent e
  silent-broken is = silent_by e Broken is refl refl refl refl

  pub silent-in : (frame : Frame) → e.moment ≡ In frame → spoken_in frame.body ≡ None → IsSilent e
  silent-in frame is none = silent_by e (In frame) is (rw none refl) refl (rw none refl) (rw none refl)

  pub silent-out : (frame : Frame) → e.moment ≡ Out frame → spoken_in frame.body ≡ None → IsSilent e
  silent-out frame is none = silent_by e (Out frame) is refl (rw none refl) (rw none refl) (rw none refl)

  pub is_final-opened : e.moment ≡ Opened → is_final e.moment ≡ false
  is_final-opened is = ap is_final is

  pub is_final-lost : e.moment ≡ Lost → is_final e.moment ≡ true
  is_final-lost is = ap is_final is

  pub is_final-broken : e.moment ≡ Broken → is_final e.moment ≡ true
  is_final-broken is = ap is_final is

  pub is_final-silent_in : (frame : Frame) → e.moment ≡ In frame → spoken_in frame.body ≡ None → is_final e.moment ≡ false
  is_final-silent_in frame is none = ap is_final is ∙ rw none refl

  pub is_final-silent_out : (frame : Frame) → e.moment ≡ Out frame → spoken_in frame.body ≡ None → is_final e.moment ≡ false
  is_final-silent_out frame is none = ap is_final is ∙ rw none refl

  pub in_meaning-silent : IsSilent e → in_meaning e ≡ None
  in_meaning-silent s = s.says_in

  pub out_meaning-silent : IsSilent e → out_meaning e ≡ None
  out_meaning-silent s = s.says_out

  pub window_event-silent : IsSilent e → window_event e.moment ≡ None
  window_event-silent s = s.moves_window

  pub link_event-silent : IsSilent e → link_event e e.moment ≡ None
  link_event-silent s = s.moves_credit

-- ---- the kind of a frame, by its body

module _ (e : Event) (frame : Frame) (spoken : Spoken) (m : Meaning) where
  pub in_meaning-says : e.moment ≡ In frame → spoken_in frame.body ≡ Some spoken → spoken.meaning ≡ m → in_meaning e ≡ Some m
  in_meaning-says is says same = ap in_said is ∙ (ap (option_map (λ (spoken : Spoken). spoken.meaning)) says ∙ ap Some same)

  pub out_meaning-says : e.moment ≡ Out frame → spoken_in frame.body ≡ Some spoken → spoken.meaning ≡ m → out_meaning e ≡ Some m
  out_meaning-says is says same = ap out_said is ∙ (ap (option_map (λ (spoken : Spoken). spoken.meaning)) says ∙ ap Some same)

-- ---- a performative of the client

module _ (e : Event) (m : Meaning) (is : in_meaning e ≡ Some m) where
  pub out_meaning-in : out_meaning e ≡ None
  out_meaning-in = out_said-in e.moment m is

  pub is_final-in : (b : Bool) → is_close m ≡ b → is_final e.moment ≡ b
  is_final-in b same = is_final-said_in e.moment m is ∙ same

  pub window_event-in : (o : Option WindowEvent) → in_window_event m ≡ o → window_event e.moment ≡ o
  window_event-in o same = window_event-said_in e.moment m is ∙ same

  pub link_event-in : (o : Option LinkEvent) → in_link_event e m ≡ o → link_event e e.moment ≡ o
  link_event-in o same = link_event-said_in e e.moment m is ∙ same

  pub in_open-is : (o : Option OpenFields) → as_open m ≡ o → in_open e ≡ o
  in_open-is o same = ap (option_and_then as_open) is ∙ same

  pub in_begin-is : (o : Option Begin) → as_begin m ≡ o → in_begin e ≡ o
  in_begin-is o same = ap (option_and_then as_begin) is ∙ same

  pub in_attach-is : (o : Option AttachFields) → as_attach m ≡ o → in_attach e ≡ o
  in_attach-is o same = ap (option_and_then as_attach) is ∙ same

  pub in_flow-is : (o : Option Flow) → as_flow m ≡ o → in_flow e ≡ o
  in_flow-is o same = ap (option_and_then as_flow) is ∙ same

  pub in_transfer-is : (o : Option TransferFields) → as_transfer m ≡ o → in_transfer e ≡ o
  in_transfer-is o same = ap (option_and_then as_transfer) is ∙ same

  pub in_disposition-is : (o : Option DispositionFields) → as_disposition m ≡ o → in_disposition e ≡ o
  in_disposition-is o same = ap (option_and_then as_disposition) is ∙ same

  pub in_detach-is : (o : Option DetachFields) → as_detach m ≡ o → in_detach e ≡ o
  in_detach-is o same = ap (option_and_then as_detach) is ∙ same

  pub is_in_end-is : (b : Bool) → is_end m ≡ b → is_in_end e ≡ b
  is_in_end-is b same = ap (λ o. is_some_and o is_end) is ∙ same

  pub is_in_close-is : (b : Bool) → is_close m ≡ b → is_in_close e ≡ b
  is_in_close-is b same = ap (λ o. is_some_and o is_close) is ∙ same

  pub begins_in-not : as_begin m ≡ None → (c channel : ℕ) → begins_in c channel e ≡ false
  begins_in-not none c channel = rw (is, none) refl

  pub ends_in-not : is_end m ≡ false → (c channel : ℕ) → ends_in c channel e ≡ false
  ends_in-not none c channel = rw (is, none) refl

  pub attaches_in-not : as_attach m ≡ None → (s : Session) (handle : ℕ) → attaches_in s handle e ≡ false
  attaches_in-not none s handle = rw (is, none) refl

  pub detaches_in-not : as_detach m ≡ None → (s : Session) (handle : ℕ) → detaches_in s handle e ≡ false
  detaches_in-not none s handle = rw (is, none) refl

  pub completed_by-not : as_transfer m ≡ None → completed_by e ≡ None
  completed_by-not none = rw (is, none) refl

  pub settles_id-not : as_disposition m ≡ None → (d : Incoming) → settles_id d e ≡ false
  settles_id-not none d = rw (is, none) refl

  pub answering-not : as_disposition m ≡ None → (j : Outgoing) → answering j e ≡ None
  answering-not none j = rw (is, none) (simp if-none)

-- nothing comes from the client
module _ (e : Event) (is : in_meaning e ≡ None) where
  pub in_open-none : in_open e ≡ None
  in_open-none = ap (option_and_then as_open) is

  pub in_begin-none : in_begin e ≡ None
  in_begin-none = ap (option_and_then as_begin) is

  pub in_attach-none : in_attach e ≡ None
  in_attach-none = ap (option_and_then as_attach) is

  pub in_flow-none : in_flow e ≡ None
  in_flow-none = ap (option_and_then as_flow) is

  pub in_transfer-none : in_transfer e ≡ None
  in_transfer-none = ap (option_and_then as_transfer) is

  pub in_disposition-none : in_disposition e ≡ None
  in_disposition-none = ap (option_and_then as_disposition) is

  pub in_detach-none : in_detach e ≡ None
  in_detach-none = ap (option_and_then as_detach) is

  pub is_in_end-none : is_in_end e ≡ false
  is_in_end-none = ap (λ o. is_some_and o is_end) is

  pub is_in_close-none : is_in_close e ≡ false
  is_in_close-none = ap (λ o. is_some_and o is_close) is

  pub begins_in-none : (c channel : ℕ) → begins_in c channel e ≡ false
  begins_in-none c channel = rw is refl

  pub ends_in-none : (c channel : ℕ) → ends_in c channel e ≡ false
  ends_in-none c channel = rw is refl

  pub attaches_in-none : (s : Session) (handle : ℕ) → attaches_in s handle e ≡ false
  attaches_in-none s handle = rw is refl

  pub detaches_in-none : (s : Session) (handle : ℕ) → detaches_in s handle e ≡ false
  detaches_in-none s handle = rw is refl

  pub completed_by-none : completed_by e ≡ None
  completed_by-none = rw is refl

  pub settles_id-none : (d : Incoming) → settles_id d e ≡ false
  settles_id-none d = rw is refl

  pub answering-none : (j : Outgoing) → answering j e ≡ None
  answering-none j = rw is (simp if-none)

-- ---- a performative that is written

module _ (e : Event) (m : Meaning) (is : out_meaning e ≡ Some m) where
  pub in_meaning-out : in_meaning e ≡ None
  in_meaning-out = in_said-out e.moment m is

  pub is_final-out : (b : Bool) → is_close m ≡ b → is_final e.moment ≡ b
  is_final-out b same = is_final-said_out e.moment m is ∙ same

  pub window_event-out : (o : Option WindowEvent) → out_window_event m ≡ o → window_event e.moment ≡ o
  window_event-out o same = window_event-said_out e.moment m is ∙ same

  pub link_event-out : (o : Option LinkEvent) → out_link_event e m ≡ o → link_event e e.moment ≡ o
  link_event-out o same = link_event-said_out e e.moment m is ∙ same

  pub out_open-is : (o : Option OpenFields) → as_open m ≡ o → out_open e ≡ o
  out_open-is o same = ap (option_and_then as_open) is ∙ same

  pub out_begin-is : (o : Option Begin) → as_begin m ≡ o → out_begin e ≡ o
  out_begin-is o same = ap (option_and_then as_begin) is ∙ same

  pub out_attach-is : (o : Option AttachFields) → as_attach m ≡ o → out_attach e ≡ o
  out_attach-is o same = ap (option_and_then as_attach) is ∙ same

  pub out_flow-is : (o : Option Flow) → as_flow m ≡ o → out_flow e ≡ o
  out_flow-is o same = ap (option_and_then as_flow) is ∙ same

  pub out_transfer-is : (o : Option TransferFields) → as_transfer m ≡ o → out_transfer e ≡ o
  out_transfer-is o same = ap (option_and_then as_transfer) is ∙ same

  pub out_disposition-is : (o : Option DispositionFields) → as_disposition m ≡ o → out_disposition e ≡ o
  out_disposition-is o same = ap (option_and_then as_disposition) is ∙ same

  pub out_detach-is : (o : Option DetachFields) → as_detach m ≡ o → out_detach e ≡ o
  out_detach-is o same = ap (option_and_then as_detach) is ∙ same

  pub is_out_end-is : (b : Bool) → is_end m ≡ b → is_out_end e ≡ b
  is_out_end-is b same = ap (λ o. is_some_and o is_end) is ∙ same

  pub is_out_close-is : (b : Bool) → is_close m ≡ b → is_out_close e ≡ b
  is_out_close-is b same = ap (λ o. is_some_and o is_close) is ∙ same

  pub begins_out-not : as_begin m ≡ None → (c channel : ℕ) → begins_out c channel e ≡ false
  begins_out-not none c channel = rw (is, none) refl

  pub ends_out-not : is_end m ≡ false → (c channel : ℕ) → ends_out c channel e ≡ false
  ends_out-not none c channel = rw (is, none) refl

  pub attaches_out-not : as_attach m ≡ None → (s : Session) (handle : ℕ) → attaches_out s handle e ≡ false
  attaches_out-not none s handle = rw (is, none) refl

  pub detaches_out-not : as_detach m ≡ None → (s : Session) (handle : ℕ) → detaches_out s handle e ≡ false
  detaches_out-not none s handle = rw (is, none) refl

  pub own_session-not : as_begin m ≡ None → own_session e ≡ None
  own_session-not none = rw (is, none) refl

-- nothing is written
module _ (e : Event) (is : out_meaning e ≡ None) where
  pub out_open-none : out_open e ≡ None
  out_open-none = ap (option_and_then as_open) is

  pub out_begin-none : out_begin e ≡ None
  out_begin-none = ap (option_and_then as_begin) is

  pub out_attach-none : out_attach e ≡ None
  out_attach-none = ap (option_and_then as_attach) is

  pub out_flow-none : out_flow e ≡ None
  out_flow-none = ap (option_and_then as_flow) is

  pub out_transfer-none : out_transfer e ≡ None
  out_transfer-none = ap (option_and_then as_transfer) is

  pub out_disposition-none : out_disposition e ≡ None
  out_disposition-none = ap (option_and_then as_disposition) is

  pub out_detach-none : out_detach e ≡ None
  out_detach-none = ap (option_and_then as_detach) is

  pub is_out_end-none : is_out_end e ≡ false
  is_out_end-none = ap (λ o. is_some_and o is_end) is

  pub is_out_close-none : is_out_close e ≡ false
  is_out_close-none = ap (λ o. is_some_and o is_close) is

  pub begins_out-none : (c channel : ℕ) → begins_out c channel e ≡ false
  begins_out-none c channel = rw is refl

  pub ends_out-none : (c channel : ℕ) → ends_out c channel e ≡ false
  ends_out-none c channel = rw is refl

  pub attaches_out-none : (s : Session) (handle : ℕ) → attaches_out s handle e ≡ false
  attaches_out-none s handle = rw is refl

  pub detaches_out-none : (s : Session) (handle : ℕ) → detaches_out s handle e ≡ false
  detaches_out-none s handle = rw is refl

  pub own_session-none : own_session e ≡ None
  own_session-none = rw is refl

-- ---- by the place of an event

-- the channel of a performative, and of a frame that is none
channel_said : (body : Body) (spoken : Spoken) → spoken_in body ≡ Some spoken → channel_in body ≡ Some spoken.channel
channel_said (Says other) spoken is = ap (option_map (λ (spoken : Spoken). spoken.channel)) is
channel_said NoFrame spoken is = absurd cc
channel_said (Empty channel) spoken is = absurd cc
channel_said (NoPerformative channel) spoken is = absurd cc

module _ (e : Event) (frame : Frame) where
  pub channel_of-in : e.moment ≡ In frame → (o : Option ℕ) → channel_in frame.body ≡ o → channel_of e.moment ≡ o
  channel_of-in is o same = ap channel_of is ∙ same

  pub channel_of-out : e.moment ≡ Out frame → (o : Option ℕ) → channel_in frame.body ≡ o → channel_of e.moment ≡ o
  channel_of-out is o same = ap channel_of is ∙ same

  pub channel_of-says_in : (spoken : Spoken) → e.moment ≡ In frame → spoken_in frame.body ≡ Some spoken → channel_of e.moment ≡ Some spoken.channel
  channel_of-says_in spoken is says = ap channel_of is ∙ channel_said frame.body spoken says

  pub channel_of-says_out : (spoken : Spoken) → e.moment ≡ Out frame → spoken_in frame.body ≡ Some spoken → channel_of e.moment ≡ Some spoken.channel
  channel_of-says_out spoken is says = ap channel_of is ∙ channel_said frame.body spoken says

module _ (c channel : ℕ) (e : Event) where
  pub is_on_channel-is : (own : ℕ) → channel_of e.moment ≡ Some own → (own == channel) ≡ true → (e.connection == c) ≡ true → is_on_channel c channel e ≡ true
  is_on_channel-is own is same here = ap (λ o. is_number o channel && (e.connection == c)) is ∙ (ap (λ b. b && (e.connection == c)) same ∙ here)

  pub is_on_channel-another : (own : ℕ) → channel_of e.moment ≡ Some own → (own == channel) ≡ false → is_on_channel c channel e ≡ false
  is_on_channel-another own is other = ap (λ o. is_number o channel && (e.connection == c)) is ∙ ap (λ b. b && (e.connection == c)) other

  pub is_on_channel-other : (e.connection == c) ≡ false → is_on_channel c channel e ≡ false
  is_on_channel-other other = ap (λ b. is_number (channel_of e.moment) channel && b) other ∙ and-false (is_number (channel_of e.moment) channel)

  pub begins_in-here : (begin : Begin) → in_begin e ≡ Some begin → is_on_channel c channel e ≡ true → begins_in c channel e ≡ true
  begins_in-here begin is on = ap (λ o. is_some o && is_on_channel c channel e) is ∙ on

  pub begins_in-elsewhere : is_on_channel c channel e ≡ false → begins_in c channel e ≡ false
  begins_in-elsewhere off = ap (λ b. is_some (in_begin e) && b) off ∙ and-false (is_some (in_begin e))

  pub ends_in-here : is_in_end e ≡ true → is_on_channel c channel e ≡ true → ends_in c channel e ≡ true
  ends_in-here is on = ap (λ b. b && is_on_channel c channel e) is ∙ on

  pub ends_in-elsewhere : is_on_channel c channel e ≡ false → ends_in c channel e ≡ false
  ends_in-elsewhere off = ap (λ b. is_in_end e && b) off ∙ and-false (is_in_end e)

  pub begins_out-here : (begin : Begin) → out_begin e ≡ Some begin → is_on_channel c channel e ≡ true → begins_out c channel e ≡ true
  begins_out-here begin is on = ap (λ o. is_some o && is_on_channel c channel e) is ∙ on

  pub begins_out-elsewhere : is_on_channel c channel e ≡ false → begins_out c channel e ≡ false
  begins_out-elsewhere off = ap (λ b. is_some (out_begin e) && b) off ∙ and-false (is_some (out_begin e))

  pub ends_out-here : is_out_end e ≡ true → is_on_channel c channel e ≡ true → ends_out c channel e ≡ true
  ends_out-here is on = ap (λ b. b && is_on_channel c channel e) is ∙ on

  pub ends_out-elsewhere : is_on_channel c channel e ≡ false → ends_out c channel e ≡ false
  ends_out-elsewhere off = ap (λ b. is_out_end e && b) off ∙ and-false (is_out_end e)

module _ (s : Session) (handle : ℕ) (e : Event) where
  pub attaches_in-here : (fields : AttachFields) → in_attach e ≡ Some fields → (fields.handle == handle) ≡ true → is_on_session s e ≡ true → attaches_in s handle e ≡ true
  attaches_in-here fields is same on =
      ap (λ o. is_some_and o (λ (fields : AttachFields). fields.handle == handle) && is_on_session s e) is ∙ (ap (λ b. b && is_on_session s e) same ∙ on)

  pub attaches_in-another : (fields : AttachFields) → in_attach e ≡ Some fields → (fields.handle == handle) ≡ false → attaches_in s handle e ≡ false
  attaches_in-another fields is other =
      ap (λ o. is_some_and o (λ (fields : AttachFields). fields.handle == handle) && is_on_session s e) is ∙ ap (λ b. b && is_on_session s e) other

  pub attaches_in-elsewhere : is_on_session s e ≡ false → attaches_in s handle e ≡ false
  attaches_in-elsewhere off =
      ap (λ b. is_some_and (in_attach e) (λ fields. fields.handle == handle) && b) off ∙ and-false (is_some_and (in_attach e) (λ fields. fields.handle == handle))

  pub detaches_in-here : (fields : DetachFields) → in_detach e ≡ Some fields → (fields.handle == handle) ≡ true → is_on_session s e ≡ true → detaches_in s handle e ≡ true
  detaches_in-here fields is same on =
      ap (λ o. is_some_and o (λ (fields : DetachFields). fields.handle == handle) && is_on_session s e) is ∙ (ap (λ b. b && is_on_session s e) same ∙ on)

  pub detaches_in-another : (fields : DetachFields) → in_detach e ≡ Some fields → (fields.handle == handle) ≡ false → detaches_in s handle e ≡ false
  detaches_in-another fields is other =
      ap (λ o. is_some_and o (λ (fields : DetachFields). fields.handle == handle) && is_on_session s e) is ∙ ap (λ b. b && is_on_session s e) other

  pub detaches_in-elsewhere : is_on_session s e ≡ false → detaches_in s handle e ≡ false
  detaches_in-elsewhere off =
      ap (λ b. is_some_and (in_detach e) (λ fields. fields.handle == handle) && b) off ∙ and-false (is_some_and (in_detach e) (λ fields. fields.handle == handle))

  pub attaches_out-here : (fields : AttachFields) → out_attach e ≡ Some fields → (fields.handle == handle) ≡ true → is_on_session s e ≡ true → attaches_out s handle e ≡ true
  attaches_out-here fields is same on =
      ap (λ o. is_some_and o (λ (fields : AttachFields). fields.handle == handle) && is_on_session s e) is ∙ (ap (λ b. b && is_on_session s e) same ∙ on)

  pub attaches_out-another : (fields : AttachFields) → out_attach e ≡ Some fields → (fields.handle == handle) ≡ false → attaches_out s handle e ≡ false
  attaches_out-another fields is other =
      ap (λ o. is_some_and o (λ (fields : AttachFields). fields.handle == handle) && is_on_session s e) is ∙ ap (λ b. b && is_on_session s e) other

  pub attaches_out-elsewhere : is_on_session s e ≡ false → attaches_out s handle e ≡ false
  attaches_out-elsewhere off =
      ap (λ b. is_some_and (out_attach e) (λ fields. fields.handle == handle) && b) off ∙ and-false (is_some_and (out_attach e) (λ fields. fields.handle == handle))

  pub detaches_out-here : (fields : DetachFields) → out_detach e ≡ Some fields → (fields.handle == handle) ≡ true → is_on_session s e ≡ true → detaches_out s handle e ≡ true
  detaches_out-here fields is same on =
      ap (λ o. is_some_and o (λ (fields : DetachFields). fields.handle == handle) && is_on_session s e) is ∙ (ap (λ b. b && is_on_session s e) same ∙ on)

  pub detaches_out-another : (fields : DetachFields) → out_detach e ≡ Some fields → (fields.handle == handle) ≡ false → detaches_out s handle e ≡ false
  detaches_out-another fields is other =
      ap (λ o. is_some_and o (λ (fields : DetachFields). fields.handle == handle) && is_on_session s e) is ∙ ap (λ b. b && is_on_session s e) other

  pub detaches_out-elsewhere : is_on_session s e ≡ false → detaches_out s handle e ≡ false
  detaches_out-elsewhere off =
      ap (λ b. is_some_and (out_detach e) (λ fields. fields.handle == handle) && b) off ∙ and-false (is_some_and (out_detach e) (λ fields. fields.handle == handle))

-- ---- by the deliveries that an event is of

module _ (e : Event) where
  pub completed_by-more : (fields : TransferFields) → in_transfer e ≡ Some fields → is_last_part fields ≡ false → completed_by e ≡ None
  completed_by-more fields is more = rw (is, more) refl

  pub completed_by-last : (fields : TransferFields) → in_transfer e ≡ Some fields → is_last_part fields ≡ true → completed_by e ≡ e.incoming
  completed_by-last fields is last = rw (is, last) refl

  pub completed_by-apart : e.incoming ≡ None → completed_by e ≡ None
  completed_by-apart is = rw is (simp if-none)

  pub completes-none : (d : Incoming) → completed_by e ≡ None → completes d e ≡ false
  completes-none d is = ap (λ o. is_some_and o (λ (other : Incoming). other.number == d.number)) is

  pub completes-is : (d other : Incoming) → completed_by e ≡ Some other → (b : Bool) → (other.number == d.number) ≡ b → completes d e ≡ b
  completes-is d other is b same = ap (λ o. is_some_and o (λ (other : Incoming). other.number == d.number)) is ∙ same

  pub completes-here : (d other : Incoming) (fields : TransferFields) → in_transfer e ≡ Some fields → is_last_part fields ≡ true → e.incoming ≡ Some other
      → (b : Bool) → (other.number == d.number) ≡ b → completes d e ≡ b
  completes-here d other fields says last is b same = rw (says, last, is) same

  pub is_incoming_part-none : (d : Incoming) → e.incoming ≡ None → incoming.is_part d e ≡ false
  is_incoming_part-none d is = rw is refl

  pub is_incoming_part-is : (d other : Incoming) → e.incoming ≡ Some other → (b : Bool) → (other.number == d.number) ≡ b → incoming.is_part d e ≡ b
  is_incoming_part-is d other is b same = rw is same

  pub settles_part-apart : (d : Incoming) → e.incoming ≡ None → settles_part d e ≡ false
  settles_part-apart d is = rw is refl

  pub incoming_begun-none : e.incoming ≡ None → incoming_begun e ≡ None
  incoming_begun-none is = rw is refl

  pub incoming_begun-new : (d : Incoming) → e.incoming ≡ Some d → (d.number == e.number) ≡ true → incoming_begun e ≡ Some d
  incoming_begun-new d is new = rw (is, new) refl

  pub incoming_begun-older : (d : Incoming) → e.incoming ≡ Some d → (d.number == e.number) ≡ false → incoming_begun e ≡ None
  incoming_begun-older d is older = rw (is, older) refl

  pub is_outgoing_part-none : (j : Outgoing) → e.outgoing ≡ None → outgoing.is_part j e ≡ false
  is_outgoing_part-none j is = rw is refl

  pub is_outgoing_part-is : (j other : Outgoing) → e.outgoing ≡ Some other → (b : Bool) → (other.number == j.number) ≡ b → outgoing.is_part j e ≡ b
  is_outgoing_part-is j other is b same = rw is same

  pub outgoing_begun-none : e.outgoing ≡ None → outgoing_begun e ≡ None
  outgoing_begun-none is = rw is refl

  pub outgoing_begun-new : (j : Outgoing) → e.outgoing ≡ Some j → (j.number == e.number) ≡ true → outgoing_begun e ≡ Some j
  outgoing_begun-new j is new = rw (is, new) refl

  pub outgoing_begun-older : (j : Outgoing) → e.outgoing ≡ Some j → (j.number == e.number) ≡ false → outgoing_begun e ≡ None
  outgoing_begun-older j is older = rw (is, older) refl

  pub begins_incoming-new : (d : Incoming) → e.incoming ≡ Some d → (d.number == e.number) ≡ true → begins_incoming e ≡ true
  begins_incoming-new d is new = rw (is, new) refl

  pub begins_incoming-older : (d : Incoming) → e.incoming ≡ Some d → (d.number == e.number) ≡ false → begins_incoming e ≡ false
  begins_incoming-older d is older = rw (is, older) refl

  pub begins_outgoing-new : (j : Outgoing) → e.outgoing ≡ Some j → (j.number == e.number) ≡ true → begins_outgoing e ≡ true
  begins_outgoing-new j is new = rw (is, new) refl

  pub begins_outgoing-older : (j : Outgoing) → e.outgoing ≡ Some j → (j.number == e.number) ≡ false → begins_outgoing e ≡ false
  begins_outgoing-older j is older = rw (is, older) refl

  pub begins_incoming-none : e.incoming ≡ None → begins_incoming e ≡ false
  begins_incoming-none is = rw is refl

  pub begins_outgoing-none : e.outgoing ≡ None → begins_outgoing e ≡ false
  begins_outgoing-none is = rw is refl

  pub answering-unheard : (j : Outgoing) → e.is_heard ≡ false → answering j e ≡ None
  answering-unheard j is = rw is refl

  pub settles_part-is : (d other : Incoming) (fields : TransferFields) → e.incoming ≡ Some other → (other.number == d.number) ≡ true → in_transfer e ≡ Some fields
      → (b : Bool) → flag fields.settled ≡ b → settles_part d e ≡ b
  settles_part-is d other fields is same says b settles = rw (is, same, says) settles

  pub settles_part-another : (d other : Incoming) → e.incoming ≡ Some other → (other.number == d.number) ≡ false → settles_part d e ≡ false
  settles_part-another d other is apart = rw (is, apart) refl

  pub settles_id-is : (d : Incoming) (fields : DispositionFields) → in_disposition e ≡ Some fields → is_sender fields.role && flag fields.settled && covers_id fields d.id ≡ true
      → e.is_heard ≡ true → is_on_session d.link.session e ≡ true → nat_lt d.number e.number ≡ true → settles_id d e ≡ true
  settles_id-is d fields says covers heard on behind = rw (says, covers, heard, on, behind) refl

  pub settles_id-uncovered : (d : Incoming) (fields : DispositionFields) → in_disposition e ≡ Some fields → is_sender fields.role && flag fields.settled && covers_id fields d.id ≡ false
      → settles_id d e ≡ false
  settles_id-uncovered d fields says covers = rw (says, covers) refl

  pub settles_id-unheard : (d : Incoming) → e.is_heard ≡ false → settles_id d e ≡ false
  settles_id-unheard d unheard = rw unheard (simp and-false)

  pub settles_id-elsewhere : (d : Incoming) → is_on_session d.link.session e ≡ false → settles_id d e ≡ false
  settles_id-elsewhere d off = rw off (simp and-false)

  pub answering-is : (j : Outgoing) (fields : DispositionFields) → in_disposition e ≡ Some fields → is_receiver fields.role && covers_id fields j.id ≡ true
      → e.is_heard ≡ true → is_on_session j.link.session e ≡ true → nat_lt j.number e.number ≡ true → answering j e ≡ Some fields
  answering-is j fields says covers heard on behind = rw (says, covers, heard, on, behind) refl

  pub answering-uncovered : (j : Outgoing) (fields : DispositionFields) → in_disposition e ≡ Some fields → is_receiver fields.role && covers_id fields j.id ≡ false
      → answering j e ≡ None
  answering-uncovered j fields says covers = rw (says, covers) (simp if-none)

  pub answering-elsewhere : (j : Outgoing) → is_on_session j.link.session e ≡ false → answering j e ≡ None
  answering-elsewhere j off = rw off (simp and-false)

  pub own_link-none : e.link ≡ None → own_link e ≡ None
  own_link-none is = rw is refl

  pub own_link-new : (l : Link) → e.link ≡ Some l → (l.number == e.number) ≡ true → own_link e ≡ Some l
  own_link-new l is new = rw (is, new) refl

  pub own_link-older : (l : Link) → e.link ≡ Some l → (l.number == e.number) ≡ false → own_link e ≡ None
  own_link-older l is older = rw (is, older) refl

  pub is_on_session-none : (s : Session) → e.session ≡ None → is_on_session s e ≡ false
  is_on_session-none s is = rw is refl

  pub is_on_session-another : (s t : Session) → e.session ≡ Some t → (t.number == s.number) ≡ false → is_on_session s e ≡ false
  is_on_session-another s t is other = rw (is, other) refl

  pub is_on_session-is : (s t : Session) → e.session ≡ Some t → (t.number == s.number) ≡ true → (e.connection == s.connection) ≡ true → is_on_session s e ≡ true
  is_on_session-is s t is same own = rw (is, same, own) refl

  pub is_on_link-none : (l : Link) → e.link ≡ None → is_on_link l e ≡ false
  is_on_link-none l is = rw is refl

  pub is_on_link-another : (l k : Link) → e.link ≡ Some k → (k.number == l.number) ≡ false → is_on_link l e ≡ false
  is_on_link-another l k is other = rw (is, other) refl

  pub is_on_link-is : (l k : Link) → e.link ≡ Some k → (k.number == l.number) ≡ true → (e.connection == l.session.connection) ≡ true → is_on_link l e ≡ true
  is_on_link-is l k is same own = rw (is, same, own) refl

  pub in_link_event-begun : (fields : TransferFields) → begins_incoming e ≡ true → in_link_event e (ATransfer fields) ≡ Some Begun
  in_link_event-begun fields begins = rw begins refl

  pub in_link_event-later : (fields : TransferFields) → begins_incoming e ≡ false → in_link_event e (ATransfer fields) ≡ None
  in_link_event-later fields later = rw later refl

  pub link_event-in_flow : (flow : Flow) → in_meaning e ≡ Some (AFlow flow) → (count credit : Option ℕ) (drain : Bool)
      → flow.delivery_count ≡ count → flow.link_credit ≡ credit → flag flow.drain ≡ drain → link_event e e.moment ≡ Some (TheirFlow count credit drain)
  link_event-in_flow flow is count credit drain counts gives drains =
      link_event-in e (AFlow flow) is (Some (TheirFlow count credit drain))
      (ap (λ o. Some (TheirFlow o flow.link_credit (flag flow.drain))) counts ∙ (ap (λ o. Some (TheirFlow count o (flag flow.drain))) gives ∙ ap (λ b. Some (TheirFlow count credit b)) drains))

  pub link_event-out_flow : (flow : Flow) → out_meaning e ≡ Some (AFlow flow) → (count credit : Option ℕ) (drain : Bool)
      → flow.delivery_count ≡ count → flow.link_credit ≡ credit → flag flow.drain ≡ drain → link_event e e.moment ≡ Some (OurFlow count credit drain)
  link_event-out_flow flow is count credit drain counts gives drains =
      link_event-out e (AFlow flow) is (Some (OurFlow count credit drain))
      (ap (λ o. Some (OurFlow o flow.link_credit (flag flow.drain))) counts ∙ (ap (λ o. Some (OurFlow count o (flag flow.drain))) gives ∙ ap (λ b. Some (OurFlow count credit b)) drains))

  pub out_link_event-begun : (fields : TransferFields) → begins_outgoing e ≡ true → out_link_event e (ATransfer fields) ≡ Some Begun
  out_link_event-begun fields begins = rw begins refl

  pub out_link_event-later : (fields : TransferFields) → begins_outgoing e ≡ false → out_link_event e (ATransfer fields) ≡ None
  out_link_event-later fields later = rw later refl

pub ruleset silent_kinds = (
  silent-opened,
  silent-lost,
  silent-broken,
  silent-in,
  silent-out,
  is_final-opened,
  is_final-lost,
  is_final-broken,
  is_final-silent_in,
  is_final-silent_out,
  in_meaning-silent,
  out_meaning-silent,
  window_event-silent,
  link_event-silent,
)

pub ruleset in_kinds = (
  in_meaning-says,
  out_meaning-in,
  is_final-in,
  window_event-in,
  link_event-in,
  in_open-is,
  in_begin-is,
  in_attach-is,
  in_flow-is,
  in_transfer-is,
  in_disposition-is,
  in_detach-is,
  is_in_end-is,
  is_in_close-is,
  begins_in-not,
  ends_in-not,
  attaches_in-not,
  detaches_in-not,
  completed_by-not,
  settles_id-not,
  answering-not,
)

pub ruleset no_in_kinds = (
  in_open-none,
  in_begin-none,
  in_attach-none,
  in_flow-none,
  in_transfer-none,
  in_disposition-none,
  in_detach-none,
  is_in_end-none,
  is_in_close-none,
  begins_in-none,
  ends_in-none,
  attaches_in-none,
  detaches_in-none,
  completed_by-none,
  settles_id-none,
  answering-none,
)

pub ruleset out_kinds = (
  out_meaning-says,
  in_meaning-out,
  is_final-out,
  window_event-out,
  link_event-out,
  out_open-is,
  out_begin-is,
  out_attach-is,
  out_flow-is,
  out_transfer-is,
  out_disposition-is,
  out_detach-is,
  is_out_end-is,
  is_out_close-is,
  begins_out-not,
  ends_out-not,
  attaches_out-not,
  detaches_out-not,
  own_session-not,
)

pub ruleset no_out_kinds = (
  out_open-none,
  out_begin-none,
  out_attach-none,
  out_flow-none,
  out_transfer-none,
  out_disposition-none,
  out_detach-none,
  is_out_end-none,
  is_out_close-none,
  begins_out-none,
  ends_out-none,
  attaches_out-none,
  detaches_out-none,
  own_session-none,
)

pub ruleset place_kinds = (
  channel_of-in,
  channel_of-out,
  channel_of-says_in,
  channel_of-says_out,
  is_on_channel-is,
  is_on_channel-another,
  is_on_channel-other,
  begins_in-here,
  begins_in-elsewhere,
  ends_in-here,
  ends_in-elsewhere,
  begins_out-here,
  begins_out-elsewhere,
  ends_out-here,
  ends_out-elsewhere,
  attaches_in-here,
  attaches_in-another,
  attaches_in-elsewhere,
  detaches_in-here,
  detaches_in-another,
  detaches_in-elsewhere,
  attaches_out-here,
  attaches_out-another,
  attaches_out-elsewhere,
  detaches_out-here,
  detaches_out-another,
  detaches_out-elsewhere,
)

pub ruleset part_kinds = (
  completed_by-more,
  completed_by-last,
  completed_by-apart,
  completes-none,
  completes-is,
  completes-here,
  is_incoming_part-none,
  is_incoming_part-is,
  settles_part-apart,
  incoming_begun-none,
  incoming_begun-new,
  incoming_begun-older,
  is_outgoing_part-none,
  is_outgoing_part-is,
  outgoing_begun-none,
  outgoing_begun-new,
  outgoing_begun-older,
  begins_incoming-new,
  begins_incoming-older,
  begins_outgoing-new,
  begins_outgoing-older,
  begins_incoming-none,
  begins_outgoing-none,
  settles_part-is,
  settles_part-another,
  settles_id-is,
  settles_id-uncovered,
  settles_id-unheard,
  settles_id-elsewhere,
  answering-is,
  answering-uncovered,
  answering-elsewhere,
  answering-unheard,
  own_link-none,
  own_link-new,
  own_link-older,
  is_on_session-none,
  is_on_session-another,
  is_on_session-is,
  is_on_link-none,
  is_on_link-another,
  is_on_link-is,
  link_event-in_flow,
  link_event-out_flow,
  in_link_event-begun,
  in_link_event-later,
  out_link_event-begun,
  out_link_event-later,
)

-- all of them
pub ruleset kinds = (silent_kinds, in_kinds, no_in_kinds, out_kinds, no_out_kinds, place_kinds, part_kinds)
