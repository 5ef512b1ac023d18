-- The steps of all definitions, and what some kinds of event do by them.
use Rattle.std.proofs.Common.{◌≡◌, ℕ, ◌-◌, true, false, List, ◌∷◌, Some, None, ◌==◌}
use Rattle.amqp_perf.specs.declared.flow.Flow.{Flow}
use Rattle.amqp_perf.specs.Meaning.{AFlow, ATransfer, ADisposition, ADetach, TransferFields, DispositionFields, DetachFields, flag}
use Rattle.pairing_cert.specs.declared.note.Note.{Note}
use Rattle.capture_form.specs.Rules.{RuleSet}
use Rattle.flow_counts.specs.Window as windows
use Rattle.trace_events.specs.Frame.{Frame}
use Rattle.trace_events.specs.History.{judge_moment}
use Rattle.trace_events.specs.Address.{consumers}
use Rattle.trace_events.specs.Incoming.{is_last_part, is_complete, incoming_deliveries}
use Rattle.trace_events.specs.Waiting.{is_undecided}
use Rattle.trace_events.specs.Due.{due_count}
use Rattle.trace_events.specs.Event.{Event, Link, Incoming, Outgoing, In, Lost, is_on_session, is_on_link}
use Rattle.trace_events.specs.declared.session.Session.{Session}
use Rattle.trace_events.specs.Said.{in_meaning, out_meaning}
use Rattle.trace_events.specs.Connection.{is_over}
use Rattle.trace_events.specs.Session.{live_session, live_sessions}
use Rattle.trace_events.specs.Link.{session_link, is_live, own_link}
use Rattle.trace_events.specs.Window.{session_window, given_window, next_outgoing_id}
use Rattle.trace_events.specs.Credit.{link_credit, given_credit, is_draining}
use Rattle.trace_events.specs.Outgoing.{outgoing_deliveries, is_paired, is_named_on, decision}
use Rattle.trace_events.proofs.EventKinds.{kinds}
use Rattle.trace_events.proofs.ConnectionSteps.{connection_steps}
use Rattle.trace_events.proofs.SessionSteps.{session_steps}
use Rattle.trace_events.proofs.LinkSteps.{link_steps}
use Rattle.trace_events.proofs.CountSteps.{count_steps}
use Rattle.trace_events.proofs.ListSteps.{list_steps}
use Rattle.trace_events.proofs.IncomingSteps.{incoming_steps}
use Rattle.trace_events.proofs.OutgoingSteps.{outgoing_steps}
use Rattle.trace_events.proofs.WaitingSteps.{waiting_steps}
use Rattle.trace_events.proofs.IdleSteps.{IsIdle, idle_steps}

-- all of them
pub ruleset steps = (
  connection_steps,
  session_steps,
  link_steps,
  count_steps,
  list_steps,
  incoming_steps,
  outgoing_steps,
  waiting_steps,
  idle_steps,
)

-- a transfer that is written
module _ (e : Event) (past : List Event) (fields : TransferFields) (is : out_meaning e ≡ Some (ATransfer fields)) where
  transfer-keeps-connections : (c : ℕ) → is_over c (e ∷ past) ≡ is_over c past
  transfer-keeps-connections c = search (kinds, steps)

  transfer-keeps-sessions : (c channel : ℕ) → live_session c channel (e ∷ past) ≡ live_session c channel past
  transfer-keeps-sessions c channel = search (kinds, steps)

  transfer-keeps-all_sessions : live_sessions (e ∷ past) ≡ live_sessions past
  transfer-keeps-all_sessions = search (kinds, steps)

  transfer-keeps-links : (s : Session) (handle : ℕ) → session_link s handle (e ∷ past) ≡ session_link s handle past
  transfer-keeps-links s handle = search (kinds, steps)

  transfer-keeps-live_links : (l : Link) → is_live (e ∷ past) l ≡ is_live past l
  transfer-keeps-live_links l = search (kinds, steps)

  transfer-takes-window : (s : Session) → is_on_session s e ≡ true → session_window s (e ∷ past) ≡ session_window s past - 1
  transfer-takes-window s on = search (kinds, steps)

  transfer-keeps-other_windows : (s : Session) → is_on_session s e ≡ false → session_window s (e ∷ past) ≡ session_window s past
  transfer-keeps-other_windows s off = search (kinds, steps)

  transfer-takes-credit : (l : Link) (j : Outgoing) → is_on_link l e ≡ true → e.outgoing ≡ Some j → (j.number == e.number) ≡ true → link_credit l (e ∷ past) ≡ link_credit l past - 1
  transfer-takes-credit l j on of new = search (kinds, steps)

  transfer-begins : (j : Outgoing) → e.outgoing ≡ Some j → (j.number == e.number) ≡ true → outgoing_deliveries (e ∷ past) ≡ j ∷ outgoing_deliveries past
  transfer-begins j of new = search (kinds, steps)

-- a flow of the client
module _ (e : Event) (past : List Event) (flow : Flow) (is : in_meaning e ≡ Some (AFlow flow)) where
  flow-sets-draining : (l : Link) (credit : ℕ) → is_on_link l e ≡ true → flow.link_credit ≡ Some credit → is_draining l (e ∷ past) ≡ flag flow.drain
  flow-sets-draining l credit on has = search (kinds, steps)

  flow-keeps-live_links : (l : Link) → is_live (e ∷ past) l ≡ is_live past l
  flow-keeps-live_links l = search (kinds, steps)

  flow-keeps-undecided : (rules : RuleSet) (idle : IsIdle e) (d : Incoming) → own_link e ≡ None → is_undecided rules d (e ∷ past) ≡ is_undecided rules d past
  flow-keeps-undecided rules idle d none = search (kinds, steps)

  flow-keeps-due : (rules : RuleSet) (l : Link) → e.incoming ≡ None → due_count rules l (e ∷ past) ≡ due_count rules l past
  flow-keeps-due rules l none = search (kinds, steps)

  flow-sets-window : (s : Session) → is_on_session s e ≡ true → session_window s (e ∷ past) ≡ flow.incoming_window - windows.lag s.our_first_id (next_outgoing_id s past) flow.next_incoming_id
  flow-sets-window s on = search (kinds, steps)

  flow-keeps-consumers : (address : List ℕ) (k : Link) → e.link ≡ Some k → (k.number == e.number) ≡ false → consumers address (e ∷ past) ≡ consumers address past
  flow-keeps-consumers address k of older = search (kinds, steps)

-- the same, in its place in a history
module _ (rules : RuleSet) (past : List Event) (c : ℕ) (note : Note) (frame : Frame) (flow : Flow)
    (is : in_meaning (judge_moment rules past c (In frame) note) ≡ Some (AFlow flow)) where
  judged_flow-keeps-complete : (d : Incoming) → is_complete d (judge_moment rules past c (In frame) note ∷ past) ≡ is_complete d past
  judged_flow-keeps-complete d = search (kinds, steps)

  judged_flow-keeps-live_links : (l : Link) → is_live (judge_moment rules past c (In frame) note ∷ past) l ≡ is_live past l
  judged_flow-keeps-live_links l = search (kinds, steps)

  judged_flow-keeps-decisions : (j : Outgoing) → decision j (judge_moment rules past c (In frame) note ∷ past) ≡ decision j past
  judged_flow-keeps-decisions j = search (kinds, steps)

-- the end of the device
module _ (e : Event) (past : List Event) (lost : e.moment ≡ Lost) where
  loss-ends-sessions : (c channel : ℕ) → (e.connection == c) ≡ true → live_session c channel (e ∷ past) ≡ None
  loss-ends-sessions c channel own = search (kinds, steps)

  loss-keeps-other_sessions : (c channel : ℕ) → (e.connection == c) ≡ false → live_session c channel (e ∷ past) ≡ live_session c channel past
  loss-keeps-other_sessions c channel other = search (kinds, steps)

  loss-keeps-windows : (s : Session) → session_window s (e ∷ past) ≡ session_window s past
  loss-keeps-windows s = search (kinds, steps)

  loss-ends-links : (l : Link) → (e.connection == l.session.connection) ≡ true → is_live (e ∷ past) l ≡ false
  loss-ends-links l own = search (kinds, steps)

-- a detach that is written
module _ (e : Event) (past : List Event) (fields : DetachFields) (is : out_meaning e ≡ Some (ADetach fields)) where
  detach-ends-link : (s : Session) → (fields.handle == fields.handle) ≡ true → is_on_session s e ≡ true → session_link s fields.handle (e ∷ past) ≡ None
  detach-ends-link s same on = search (kinds, steps)

  detach-keeps-other_handles : (s : Session) (handle : ℕ) → (fields.handle == handle) ≡ false → session_link s handle (e ∷ past) ≡ session_link s handle past
  detach-keeps-other_handles s handle other = search (kinds, steps)

  detach-keeps-sessions : (c channel : ℕ) → live_session c channel (e ∷ past) ≡ live_session c channel past
  detach-keeps-sessions c channel = search (kinds, steps)

  detach-keeps-other_links : (l : Link) → (fields.handle == l.handle) ≡ false → is_live (e ∷ past) l ≡ is_live past l
  detach-keeps-other_links l other = search (kinds, steps)

-- a transfer of the client
module _ (e : Event) (past : List Event) (fields : TransferFields) (is : in_meaning e ≡ Some (ATransfer fields)) where
  delivery-takes-window : (s : Session) → is_on_session s e ≡ true → given_window s (e ∷ past) ≡ given_window s past - 1
  delivery-takes-window s on = search (kinds, steps)

  delivery-takes-credit : (l : Link) (d : Incoming) → is_on_link l e ≡ true → e.incoming ≡ Some d → (d.number == e.number) ≡ true → given_credit l (e ∷ past) ≡ given_credit l past - 1
  delivery-takes-credit l d on of new = search (kinds, steps)

  delivery-begins : (d : Incoming) → e.incoming ≡ Some d → (d.number == e.number) ≡ true → incoming_deliveries (e ∷ past) ≡ d ∷ incoming_deliveries past
  delivery-begins d of new = search (kinds, steps)

  delivery-completes : (d : Incoming) → e.incoming ≡ Some d → (d.number == d.number) ≡ true → is_last_part fields ≡ true → is_complete d (e ∷ past) ≡ true
  delivery-completes d of same last = search (kinds, steps)

  delivery-goes_on : (d other : Incoming) → is_last_part fields ≡ false → is_complete other (e ∷ past) ≡ is_complete other past
  delivery-goes_on d other more = search (kinds, steps)

  delivery-keeps-pairs : (d : Incoming) → e.outgoing ≡ None → is_paired d (e ∷ past) ≡ is_paired d past
  delivery-keeps-pairs d none = search (kinds, steps)

-- a disposition that is written
module _ (e : Event) (past : List Event) (fields : DispositionFields) (is : out_meaning e ≡ Some (ADisposition fields)) where
  disposition-keeps-decisions : (j : Outgoing) → decision j (e ∷ past) ≡ decision j past
  disposition-keeps-decisions j = search (kinds, steps)

  disposition-keeps-named : (d : Incoming) (l : Link) → is_named_on d l (e ∷ past) ≡ is_named_on d l past
  disposition-keeps-named d l = search (kinds, steps)

  disposition-keeps-credit : (l : Link) → link_credit l (e ∷ past) ≡ link_credit l past
  disposition-keeps-credit l = search (kinds, steps)

  disposition-keeps-consumers : (address : List ℕ) → own_link e ≡ None → consumers address (e ∷ past) ≡ consumers address past
  disposition-keeps-consumers address none = search (kinds, steps)
