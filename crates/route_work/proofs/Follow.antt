-- A frame that is due may follow.
use Rattle.std.proofs.Common.{◌≡◌, true, ◌&&◌, sym, ap, subst, ◌∙◌, ℕ, ◌≤◌, List, [], ◌++◌, length, Option, None, Some, IfSome, unwrap_or, Result, Ok, Err, OnOk}
use Rattle.std.specs.declared.alloc.AllocError.{AllocError}
use Rattle.amqp_types.specs.Writing.{Puts}
use Rattle.flow_counts.specs.declared.profile.TheConstants.{MAX_FRAME_SIZE}
use Rattle.pairing_cert.specs.declared.note.Note.{Note}
use Rattle.pairing_cert.specs.declared.note.Note.TheVariants as notes
use Rattle.pairing_cert.specs.declared.note.Why.{Why}
use Rattle.capture_form.specs.Rules.{RuleSet}
use Rattle.capture_form.specs.declared.records.Record.{Record}
use Rattle.capture_form.specs.declared.records.What.TheVariants as whats
use Rattle.amqp_perf.specs.Nested.{StateFields}
use Rattle.trace_events.specs.Frame.{Spoken}
use Rattle.trace_events.specs.Event.{Event, Link, Incoming, Outgoing, Out}
use Rattle.trace_events.proofs.Along.{and_first, and_last}
use Rattle.trace_events.specs.declared.session.Session.{Session}
use Rattle.trace_events.specs.FlowClause.{full_credit, drained_count}
use Rattle.trace_events.specs.Written.{spoken_octets, written_settling, written_session_flow, written_credit, written_count}
use Rattle.trace_judge.specs.Told.{told_view}
use Rattle.trace_events.specs.View.{link_view, incoming_view}
use Rattle.route_dues.specs.Outcomes.{HasState, octets_in, outcome_frame}
use Rattle.route_dues.specs.Transfers.{first_frame, next_frame}
use Rattle.trace_duties.specs.Quiet.{none_is_untold, none_stands_still}
use Rattle.trace_duties.specs.Turn.{is_all_told, is_all_sent, is_all_drained, is_all_credited, is_first_to_begin, stands_in_turn}
use Rattle.route_answers.specs.Writing.{frame_of}
use Rattle.route_dues.specs.Writing.{writing, IsReadAgain, IsInOrder, MayFollow}
use Rattle.route_dues.proofs.FlowsFollow.{window_follows, credit_follows, drain_follows}
use Rattle.route_dues.proofs.OutcomesFollow.{outcome_follows}
use Rattle.route_dues.proofs.SettlingsFollow.{settling_follows}
use Rattle.route_dues.proofs.Sending.{goes_on, next_begins, copy_begins}
use Rattle.route_dues.proofs.Behind.{follows_within}
use Rattle.route_dues.proofs.StatesWritable.{row_state}
use Rattle.route_dues.proofs.Turns.{outcome_in_turn, settling_in_turn, part_in_turn, waiting_in_turn, copy_in_turn, drain_in_turn, credit_in_turn, window_in_turn}
use Rattle.due_outcomes.specs.DueOutcomes.{IsDueOutcome}
use Rattle.due_outcomes.specs.Settlings.{IsDueSettling}
use Rattle.due_outcomes.specs.declared.outcome.DueOutcome.{DueOutcome}
use Rattle.due_lists.specs.Parts.{IsDuePart}
use Rattle.due_lists.specs.Draining.{IsDrainable}
use Rattle.due_lists.specs.Topping.{IsToppable}
use Rattle.due_lists.specs.Lacking.{IsLacking}
use Rattle.due_lists.specs.declared.parts.DuePart.{DuePart}
use Rattle.due_lists.specs.Copies.{IsDueCopy}
use Rattle.due_lists.specs.Waiting.{IsDueWaiting}
use Rattle.due_lists.specs.declared.begin.DueBegin.{DueBegin}
use Rattle.route_work.specs.declared.due.Due.{Due}
use Rattle.route_work.specs.declared.due.Due.TheVariants as dues
use Rattle.route_work.specs.Dues.{IsDue, IsFrameFor, IsNextFrame, is_in_turn, connection_of, note_of}

module _ (rules : RuleSet) (past : List Event) (order : IsInOrder rules past) where
  framed : (c : ℕ) (note : Note) (spoken : Spoken) (octets : List ℕ) → MayFollow rules past c note spoken
      → stands_in_turn rules (writing rules past c note spoken) past (Out (frame_of spoken)) ≡ true → IsReadAgain spoken → octets ≡ spoken_octets spoken → IsFrameFor rules past c note octets
  framed c note spoken octets may turn again is = record {
    spoken = spoken;
    is = is;
    follows = may;
    turn = turn;
    again = again;
    short = follows_within rules past c note spoken order.lawful may;
  }

  pub outcome_frame_for : (d : Incoming) (why : Why) (told : Option (List ℕ)) (state : Option StateFields) (octets : List ℕ) → IsDueOutcome rules past d why told → octets_in state ≡ told
      → (length (spoken_octets (outcome_frame d state)) ≤ MAX_FRAME_SIZE → IsReadAgain (outcome_frame d state))
      → octets ≡ spoken_octets (outcome_frame d state) → IsFrameFor rules past d.link.session.connection (notes.Told why) octets
  outcome_frame_for d why told state octets is states again same =
      let spoken = outcome_frame d state in
      let may = outcome_follows rules past d why state order.lawful is.at is.may (is.tells ∙ ap Some (sym states)) in
      framed d.link.session.connection (notes.Told why) spoken octets may (outcome_in_turn rules past d why state) (again (follows_within rules past d.link.session.connection (notes.Told why) spoken order.lawful may)) same

  -- what is told can be written
  pub state_told : (d : Incoming) (why : Why) (told : Option (List ℕ)) → IsDueOutcome rules past d why told → IfSome told HasState
  state_told d why None is = tt
  state_told d why (Some octets) is = row_state rules past d why octets order.lawful is.tells

  pub settling_frame_for : (j : Outgoing) (octets : List ℕ) → IsDueSettling past j → none_is_untold rules past ≡ true
      → IsReadAgain (written_settling j.link.session.channel (unwrap_or j.id 0)) → octets ≡ spoken_octets (written_settling j.link.session.channel (unwrap_or j.id 0))
      → IsFrameFor rules past j.link.session.connection notes.None octets
  settling_frame_for j octets is turn again same =
      framed j.link.session.connection notes.None (written_settling j.link.session.channel (unwrap_or j.id 0)) octets (settling_follows rules past j order.lawful is.there is.due)
      (settling_in_turn rules past j (unwrap_or j.id 0) turn) again same

  pub part_frame_for : (due : DuePart) (octets : List ℕ) (is : IsDuePart due past) → is_all_told rules past ≡ true
      → IsReadAgain (next_frame past (link_view due.link) is.carried is.delivery) → octets ≡ spoken_octets (next_frame past (link_view due.link) is.carried is.delivery)
      → IsFrameFor rules past (connection_of (dues.Part due)) (note_of (dues.Part due)) octets
  part_frame_for due octets is turn again same =
      let l = link_view due.link in
      subst (λ (note : Note). IsFrameFor rules past l.session.connection note octets) (sym is.note)
      (framed l.session.connection is.delivery.note (next_frame past l is.carried is.delivery) octets
      (goes_on rules past l is.carried is.delivery order.lawful is.live is.still is.going is.named)
      (part_in_turn rules past l is.carried is.live turn is.delivery is.still) again same)

  pub waiting_frame_for : (due : DueBegin) (octets : List ℕ) → IsDueWaiting rules due past → is_in_turn rules past (dues.Waiting due) ≡ true
      → IsReadAgain (first_frame past (link_view due.link) (incoming_view due.delivery)) → octets ≡ spoken_octets (first_frame past (link_view due.link) (incoming_view due.delivery))
      → IsFrameFor rules past (connection_of (dues.Waiting due)) (note_of (dues.Waiting due)) octets
  waiting_frame_for due octets is turn again same =
      let l = link_view due.link in
      let d = incoming_view due.delivery in
      let before = and_first (is_all_told rules past && none_stands_still past) (is_first_to_begin rules past d) turn in
      framed l.session.connection (notes.Pair d.number) (first_frame past l d) octets
      (next_begins rules past l d order.lawful order.keeps is.at is.found is.next is.picked)
      (waiting_in_turn rules past l d is.live (and_first (is_all_told rules past) (none_stands_still past) before) (and_last (is_all_told rules past) (none_stands_still past) before) is.found
      (and_last (is_all_told rules past && none_stands_still past) (is_first_to_begin rules past d) turn)) again same

  pub copy_frame_for : (due : DueBegin) (octets : List ℕ) → IsDueCopy rules due past → is_in_turn rules past (dues.Copy due) ≡ true
      → IsReadAgain (first_frame past (link_view due.link) (incoming_view due.delivery)) → octets ≡ spoken_octets (first_frame past (link_view due.link) (incoming_view due.delivery))
      → IsFrameFor rules past (connection_of (dues.Copy due)) (note_of (dues.Copy due)) octets
  copy_frame_for due octets is turn again same =
      let l = link_view due.link in
      let d = incoming_view due.delivery in
      framed l.session.connection (notes.Pair d.number) (first_frame past l d) octets
      (copy_begins rules past l d order.lawful is.live is.consumer is.found is.takes order.copies is.unsent is.earliest)
      (copy_in_turn rules past l d is.live (and_first (is_all_told rules past) (none_stands_still past) turn) (and_last (is_all_told rules past) (none_stands_still past) turn) is.found
      order.lawful is.unsent) again same

  pub drain_frame_for : (l : Link) (octets : List ℕ) → IsDrainable rules l past → is_all_sent rules past ≡ true
      → IsReadAgain (written_count l (drained_count past l) 0 past) → octets ≡ spoken_octets (written_count l (drained_count past l) 0 past)
      → IsFrameFor rules past l.session.connection notes.None octets
  drain_frame_for l octets is turn again same =
      framed l.session.connection notes.None (written_count l (drained_count past l) 0 past) octets (drain_follows rules past l order.lawful is.live is.consumer is.may)
      (drain_in_turn rules past l is.live is.consumer turn) again same

  pub credit_frame_for : (l : Link) (octets : List ℕ) → IsToppable rules l past → is_all_drained rules past ≡ true
      → IsReadAgain (written_credit l (full_credit rules past l) past) → octets ≡ spoken_octets (written_credit l (full_credit rules past l) past)
      → IsFrameFor rules past l.session.connection notes.None octets
  credit_frame_for l octets is turn again same =
      framed l.session.connection notes.None (written_credit l (full_credit rules past l) past) octets (credit_follows rules past l order.lawful is.live is.producer is.may)
      (credit_in_turn rules past l is.live is.producer turn) again same

  pub window_frame_for : (s : Session) (octets : List ℕ) → IsLacking s past → is_all_credited rules past ≡ true
      → IsReadAgain (written_session_flow s past) → octets ≡ spoken_octets (written_session_flow s past)
      → IsFrameFor rules past s.connection notes.None octets
  window_frame_for s octets is turn again same =
      framed s.connection notes.None (written_session_flow s past) octets (window_follows rules past s order.lawful is.0 is.1)
      (window_in_turn rules past s turn) again same

-- an outcome that is due, whatever else is
pub outcome_told : (rules : RuleSet) (past : List Event) → IsInOrder rules past → (due : Due) (x : DueOutcome) → due ≡ dues.Outcome x → IsDue rules past due → IfSome (told_view x.told) HasState
outcome_told rules past order due x same is =
    state_told rules past order (incoming_view x.delivery) x.why (told_view x.told) (subst (λ (y : Due). IsDue rules past y) same is)

-- ---- as octets that were appended to none

-- where they were, they are what stands there
pub appended : (result : Result (Unit {0}) AllocError) (old new octets : List ℕ) (P : Type 0) → old ≡ [] → Puts old new result octets → (new ≡ octets → P) → OnOk result P
appended (Ok x) old new octets P none puts holds = holds (puts ∙ ap (λ xs. xs ++ octets) none)
appended (Err e) old new octets P none puts holds = tt

-- and are read again
pub appended-again : (result : Result (Unit {0}) AllocError) (old new octets : List ℕ) (P Again : Type 0) → old ≡ [] → Puts old new result octets → OnOk result Again → (Again → new ≡ octets → P) → OnOk result P
appended-again (Ok x) old new octets P Again none puts again holds = holds again (puts ∙ ap (λ xs. xs ++ octets) none)
appended-again (Err e) old new octets P Again none puts again holds = tt

-- where nothing was refused, one thing holds because another does
pub on_ok : {P Q : Type 0} (result : Result (Unit {0}) AllocError) → (P → Q) → OnOk result P → OnOk result Q
on_ok (Ok x) so holds = so holds
on_ok (Err e) so holds = tt

-- of what is due they are the frame
pub frame_of_due : (rules : RuleSet) (past : List Event) (octets : List ℕ) (due other : Due) → due ≡ other → IsFrameFor rules past (connection_of other) (note_of other) octets
    → IsFrameFor rules past (connection_of due) (note_of due) octets
frame_of_due rules past octets due other same is = subst (λ (x : Due). IsFrameFor rules past (connection_of x) (note_of x) octets) (sym same) is

-- ---- as a record

pub frame_recorded : (rules : RuleSet) (past : List Event) (r : Record) (c : ℕ) (certified : Note) (octets : List ℕ) → r.connection ≡ c → r.note ≡ certified → r.what ≡ whats.Out octets → IsFrameFor rules past c certified octets
    → IsNextFrame rules past r
frame_recorded rules past r c certified octets on told written is = record {
  spoken = is.spoken;
  what = written ∙ ap whats.Out is.is;
  follows =
      subst (λ n. MayFollow rules past n r.note is.spoken) (sym on) (subst (λ (x : Note). MayFollow rules past c x is.spoken) (sym told) is.follows);
  turn =
      subst (λ n. stands_in_turn rules (writing rules past n r.note is.spoken) past (Out (frame_of is.spoken)) ≡ true) (sym on)
      (subst (λ (x : Note). stands_in_turn rules (writing rules past c x is.spoken) past (Out (frame_of is.spoken)) ≡ true) (sym told) is.turn);
  again = is.again;
  short = is.short;
}
