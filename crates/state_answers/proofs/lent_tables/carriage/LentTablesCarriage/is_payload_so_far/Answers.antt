use Rattle.std.proofs.Common.{◌≡◌, refl, sym, subst, List, ◌++◌, None}
use Rattle.trace_events.specs.Event.{Event}
use Rattle.trace_events.specs.Incoming as received
use Rattle.trace_events.specs.Outgoing as law
use Rattle.trace_events.specs.Clauses.{first_broken}
use Rattle.trace_events.specs.TransferClause.{is_payload_so_far}
use Rattle.trace_events.specs.Known.{IsCarriedBy}
use Rattle.trace_events.specs.View.{incoming_view, outgoing_view}
use Rattle.state_outgoing.specs.SentAnswers.{KnowsOrBegins}
use Rattle.state_outgoing.specs.SentTables.{AreSent}
use Rattle.state_answers.proofs.lent_tables.carriage.LentTablesCarriage.is_payload_so_far.Goals as goal

pub returns : goal.returns
returns c = λ rules past stands knows known carries.
    let h = stands.0 in
    let d = incoming_view c.args.delivery.now in
    let j = outgoing_view c.args.outgoing.now in
    let table = c.args.self.now.sent.now in
    let Is : List Event → Type 0 = λ p. c.is_payload_so_far.result ≡ is_payload_so_far c.args.more (received.payload d p) (law.payload j p ++ c.args.octets.now) in
    let Lawful : List Event → Type 0 = λ p. first_broken rules p ≡ None in
    let KnownIn : List Event → Type 0 = λ p. KnowsOrBegins table p j in
    let CarriedIn : List Event → Type 0 = λ p. IsCarriedBy d p j in
    let Payload : List Event → Type 0 = λ p. c.payload-payload.result.now ≡ received.payload d p in
    subst Is (sym h.1)
    (c.is_payload_so_far.ensures.known rules h.0 j d (subst (AreSent table) h.1 stands.1.1.1.1.1.1.1.1.0.entries) (subst Lawful h.1 stands.1.1.1.1.1.1.1.0) refl
    (subst KnownIn h.1 known) (subst CarriedIn h.1 carries)
    (subst Payload h.1 (c.payload-payload.ensures rules past stands.1.1.1.1.0.0 knows)))
