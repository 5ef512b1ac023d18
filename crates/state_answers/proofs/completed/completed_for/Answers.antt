use Rattle.std.proofs.Common.{◌≡◌, true, [], ◌++◌, Some, unwrap_or, ◌∷◌, rules}
use Rattle.amqp_perf.specs.Message.{to_of}
use Rattle.trace_events.specs.Incoming.{completed_by, part_payload}
use Rattle.trace_events.specs.Link.{is_anonymous}
use Rattle.trace_events.specs.Said.{in_spoken}
use Rattle.trace_events.specs.History.{history}
use Rattle.trace_events.proofs.Judged.{AreJudged, history-judged}
use Rattle.trace_events.specs.View.{event_view, incoming_view}
use Rattle.state_answers.specs.Completed.{octets_of}
use Rattle.state_incoming.specs.EntryAnswers.{payload_of}
use Rattle.state_incoming.specs.HeldTables.{held_in}
use Rattle.state_incoming.proofs.CompletedKnown.{is-addressed}
use Rattle.state_answers.proofs.completed.completed_for.Goals as goal

pub returns-in-Some : goal.returns-in-Some
returns-in-Some c = record {
  addressed = λ given records r next table.
      let e = event_view c.args.event.now in
      let past = history given records in
      let are : AreJudged given (e ∷ past) = ((r, next.0), history-judged given records) in
      let d = incoming_view c.in-Some.delivery in
      let done : completed_by e ≡ Some d = search rules in
      let anonymous : is_anonymous d.link ≡ true = search rules in
      let octets : octets_of c.cut_address.result ≡ unwrap_or (to_of (payload_of (held_in c.args.deliveries.now d.number) ++ part_payload (in_spoken e))) [] = search rules in
      is-addressed given e past are c.args.deliveries.now table.0 table.1.1 d done anonymous (octets_of c.cut_address.result) octets;
}
