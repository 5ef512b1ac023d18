use Rattle.std.proofs.Common.{ap, ◌∙◌}
use Rattle.trace_events.specs.History.{history}
use Rattle.trace_events.proofs.Judged.{history-judged}
use Rattle.state_outgoing.specs.SentTables.{sent_in, sent_count_in}
use Rattle.state_outgoing.specs.Sent as kept
use Rattle.state_outgoing.proofs.AnswersKnown.{knows-begun, told-entry}
use Rattle.state_outgoing.proofs.SentPayload.{table_goes_on}
use Rattle.state_outgoing.proofs.deliveries.SentDeliveries.is_payload_so_far.Goals as goal

pub returns-clause-known : goal.returns-clause-known
returns-clause-known c = λ rules records j d are lawful number knows carries is.
    let table = c.args.self.now in
    let past = history rules records in
    let more = c.args.more in
    let octets = c.args.octets.now in
    let payload = c.args.payload.now in
    c.goes_on_with.ensures.compared
    ∙ (ap (λ n. kept.goes_on_with more payload n octets) (c.sent_count.ensures ∙ ap (λ n. sent_count_in table n) number)
    ∙ table_goes_on rules records lawful j d more (sent_in table j.number) payload octets
    (told-entry rules past (history-judged rules records) table are j knows) (knows-begun table past are j knows) carries is c.goes_on_with.ensures.counted)
