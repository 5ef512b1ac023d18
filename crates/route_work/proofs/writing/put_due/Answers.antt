use Rattle.std.proofs.Common.{◌≡◌, true, subst, unwrap_or}
use Rattle.trace_events.specs.FlowClause.{full_credit, drained_count}
use Rattle.trace_events.specs.Written.{spoken_octets, written_settling, written_session_flow, written_credit, written_count}
use Rattle.trace_events.specs.View.{link_view, incoming_view, outgoing_view}
use Rattle.route_dues.specs.Transfers.{first_frame, next_frame}
use Rattle.route_dues.specs.Writing.{IsReadAgain}
use Rattle.route_work.specs.declared.due.Due.TheVariants as dues
use Rattle.route_work.specs.Dues.{IsDue, IsFrameFor, is_in_turn, connection_of, note_of}
use Rattle.route_work.proofs.Follow.{appended, appended-again, frame_of_due, on_ok, outcome_told, settling_frame_for, part_frame_for, waiting_frame_for, copy_frame_for, drain_frame_for, credit_frame_for, window_frame_for}
use Rattle.route_work.proofs.writing.put_due.Goals as goal

pub put_told-requires-clause-told : goal.put_told-requires-clause-told
put_told-requires-clause-told g c =
    let behind = c.requires.due in
    outcome_told c.args.rules.now behind.past behind.order c.args.due.now c.in-Outcome.told c.in-Outcome.is behind.is_due

pub returns-in-Outcome : goal.returns-in-Outcome
returns-in-Outcome g c = record {
  frame = λ history stands order is turn.
      let rules = c.args.rules.now in
      let new = c.put_told.new.out.items in
      let P = IsFrameFor rules history (connection_of c.args.due.now) (note_of c.args.due.now) new in
      let same = c.in-Outcome.is in
      let due = subst (λ due. IsDue rules history due) same is in
      let own = subst (λ due. is_in_turn rules history due ≡ true) same turn in
      let x = c.in-Outcome.told in
      on_ok c.put_told.result (frame_of_due rules history new c.args.due.now (dues.Outcome x) same) (c.put_told.ensures.frame rules history order due);
}

pub returns-in-Settling : goal.returns-in-Settling
returns-in-Settling g c = record {
  frame = λ history stands order is turn.
      let rules = c.args.rules.now in
      let new = c.put_settling.new.out.items in
      let P = IsFrameFor rules history (connection_of c.args.due.now) (note_of c.args.due.now) new in
      let same = c.in-Settling.is in
      let due = subst (λ due. IsDue rules history due) same is in
      let own = subst (λ due. is_in_turn rules history due ≡ true) same turn in
      let x = c.in-Settling.delivery in
      let j = outgoing_view x in
      appended c.put_settling.result c.args.out.now.items new (spoken_octets (written_settling j.link.session.channel (unwrap_or j.id 0))) P c.requires.none c.put_settling.ensures.appended
      (λ here. frame_of_due rules history new c.args.due.now (dues.Settling x) same (settling_frame_for rules history order j new due own c.put_settling.ensures.again here));
}

pub returns-in-Part : goal.returns-in-Part
returns-in-Part g c = record {
  frame = λ history stands order is turn.
      let rules = c.args.rules.now in
      let new = c.put_next.new.out.items in
      let P = IsFrameFor rules history (connection_of c.args.due.now) (note_of c.args.due.now) new in
      let same = c.in-Part.is in
      let due = subst (λ due. IsDue rules history due) same is in
      let own = subst (λ due. is_in_turn rules history due ≡ true) same turn in
      let x = c.in-Part.part in
      let l = link_view x.link in
      appended-again c.put_next.result c.args.out.now.items new (spoken_octets (next_frame history l due.carried due.delivery)) P (IsReadAgain (next_frame history l due.carried due.delivery)) c.requires.none
      (c.put_next.ensures.appended rules history due.carried due.delivery stands due.rest) (c.put_next.ensures.again rules history due.carried due.delivery stands due.rest)
      (λ again here. frame_of_due rules history new c.args.due.now (dues.Part x) same (part_frame_for rules history order x new due own again here));
}

pub returns-in-Drain : goal.returns-in-Drain
returns-in-Drain g c = record {
  frame = λ history stands order is turn.
      let rules = c.args.rules.now in
      let new = c.put_drain.new.out.items in
      let P = IsFrameFor rules history (connection_of c.args.due.now) (note_of c.args.due.now) new in
      let same = c.in-Drain.is in
      let due = subst (λ due. IsDue rules history due) same is in
      let own = subst (λ due. is_in_turn rules history due ≡ true) same turn in
      let x = c.in-Drain.link in
      let l = link_view x in
      appended c.put_drain.result c.args.out.now.items new (spoken_octets (written_count l (drained_count history l) 0 history)) P c.requires.none (c.put_drain.ensures.appended rules history stands due.live)
      (λ here. frame_of_due rules history new c.args.due.now (dues.Drain x) same (drain_frame_for rules history order l new due own (c.put_drain.ensures.again rules history stands due.live) here));
}

pub returns-in-Credit : goal.returns-in-Credit
returns-in-Credit g c = record {
  frame = λ history stands order is turn.
      let rules = c.args.rules.now in
      let new = c.put_credit.new.out.items in
      let P = IsFrameFor rules history (connection_of c.args.due.now) (note_of c.args.due.now) new in
      let same = c.in-Credit.is in
      let due = subst (λ due. IsDue rules history due) same is in
      let own = subst (λ due. is_in_turn rules history due ≡ true) same turn in
      let x = c.in-Credit.link in
      let l = link_view x in
      appended c.put_credit.result c.args.out.now.items new (spoken_octets (written_credit l (full_credit rules history l) history)) P c.requires.none (c.put_credit.ensures.appended history stands due.live)
      (λ here. frame_of_due rules history new c.args.due.now (dues.Credit x) same (credit_frame_for rules history order l new due own (c.put_credit.ensures.again history stands due.live) here));
}

pub returns-in-Window : goal.returns-in-Window
returns-in-Window g c = record {
  frame = λ history stands order is turn.
      let rules = c.args.rules.now in
      let new = c.put_window.new.out.items in
      let P = IsFrameFor rules history (connection_of c.args.due.now) (note_of c.args.due.now) new in
      let same = c.in-Window.is in
      let due = subst (λ due. IsDue rules history due) same is in
      let own = subst (λ due. is_in_turn rules history due ≡ true) same turn in
      let s = c.in-Window.session in
      appended c.put_window.result c.args.out.now.items new (spoken_octets (written_session_flow s history)) P c.requires.none (c.put_window.ensures.appended rules history stands due.0)
      (λ here. frame_of_due rules history new c.args.due.now (dues.Window s) same (window_frame_for rules history order s new due own (c.put_window.ensures.again rules history stands due.0) here));
}

pub returns-in-Waiting : goal.returns-in-Waiting
returns-in-Waiting g c = record {
  frame = λ history stands order is turn.
      let rules = c.args.rules.now in
      let new = c.put_first.new.out.items in
      let P = IsFrameFor rules history (connection_of c.args.due.now) (note_of c.args.due.now) new in
      let same = c.in-Waiting.is in
      let due = subst (λ due. IsDue rules history due) same is in
      let own = subst (λ due. is_in_turn rules history due ≡ true) same turn in
      let x = c.in-Waiting.begin in
      let l = link_view x.link in
      let d = incoming_view x.delivery in
      appended-again c.put_first.result c.args.out.now.items new (spoken_octets (first_frame history l d)) P (IsReadAgain (first_frame history l d)) c.requires.none
      (c.put_first.ensures.appended rules history stands due.live due.payload) (c.put_first.ensures.again rules history stands due.live due.payload)
      (λ again here. frame_of_due rules history new c.args.due.now (dues.Waiting x) same (waiting_frame_for rules history order x new due own again here));
}

pub returns-in-Copy : goal.returns-in-Copy
returns-in-Copy g c = record {
  frame = λ history stands order is turn.
      let rules = c.args.rules.now in
      let new = c.put_first-in-Copy.new.out.items in
      let P = IsFrameFor rules history (connection_of c.args.due.now) (note_of c.args.due.now) new in
      let same = c.in-Copy.is in
      let due = subst (λ due. IsDue rules history due) same is in
      let own = subst (λ due. is_in_turn rules history due ≡ true) same turn in
      let x = c.in-Copy.copy in
      let l = link_view x.link in
      let d = incoming_view x.delivery in
      appended-again c.put_first-in-Copy.result c.args.out.now.items new (spoken_octets (first_frame history l d)) P (IsReadAgain (first_frame history l d)) c.requires.none
      (c.put_first-in-Copy.ensures.appended rules history stands due.live due.payload) (c.put_first-in-Copy.ensures.again rules history stands due.live due.payload)
      (λ again here. frame_of_due rules history new c.args.due.now (dues.Copy x) same (copy_frame_for rules history order x new due own again here));
}
