use Rattle.std.proofs.Common.{◌≡◌, sym, ap, subst, ◌∙◌, ℕ, false, List, Option, IfSome, option_and_then}
use Rattle.trace_events.specs.Event.{Event, Incoming}
use Rattle.trace_events.specs.History.{history}
use Rattle.trace_events.specs.Incoming.{incoming_at}
use Rattle.trace_events.specs.TransferClause as transfers
use Rattle.trace_events.specs.View.{link_view}
use Rattle.state_incoming.specs.EntryAnswers.{Knows}
use Rattle.state_incoming.proofs.CarriedHeld.{before-given}
use Rattle.state_incoming.proofs.GroupAnswers.{judged-of}
use Rattle.state_incoming.proofs.KnownEntries.{knows-of}
use Rattle.state_outgoing.specs.LastBegun.{is_last_let_go}
use Rattle.state_outgoing.specs.SentTables.{IsTable}
use Rattle.state_answers.proofs.CarriedLast.{before-last}
use Rattle.state_answers.proofs.LetGoKnown.{nothing-last}
use Rattle.state_answers.proofs.LiveKnown.{live-consumer}
use Rattle.state_answers.proofs.lent_tables.carriage.LentTablesCarriage.carried_before.Goals as goal

pub returns-clause-value : goal.returns-clause-value
returns-clause-value c = λ rules past stands whole live.
    let h = stands.0 in
    let l = link_view c.args.link.now in
    let Is : List Event → Type 0 = λ p. option_and_then (λ n. incoming_at n p) c.carried_before.result ≡ transfers.carried_before l p in
    let none = nothing-last c.args.self.now.sent.now.let_go.items (stands.1.1.1.1.1.1.1.1.1.1.0 ∙ whole) l.number (history rules h.0) in
    let before = subst Is (sym h.1) (c.carried_before.ensures rules h.0 (subst (IsTable c.args.self.now.sent.now) h.1 stands.1.1.1.1.1.1.1.1.0) none) in
    c.kept.ensures ∙ before-given rules past (judged-of rules past h) stands.1.1.1.1.1.1.1.0 c.args.self.now.deliveries.now stands.1.1.1.1.0.0 whole l c.carried_before.result before

pub returns-clause-known : goal.returns-clause-known
returns-clause-known c = λ rules past stands live.
    let table = c.args.self.now.deliveries.now in
    subst (λ (o : Option Incoming). IfSome o (Knows table)) (sym c.kept.ensures) (knows-of rules past table stands.1.1.1.1.0.0 c.carried_before.result)

pub returns-clause-last : goal.returns-clause-last
returns-clause-last c = λ rules past stands keeps live consumer.
    let h = stands.0 in
    let l = link_view c.args.link.now in
    let items = c.args.self.now.deliveries.now.let_go.items in
    let alike = stands.1.1.1.1.1.1.1.1.1.1.0 in
    let stays : is_last_let_go items l.number past ≡ false = keeps l.number (live-consumer rules past (judged-of rules past h) l live consumer) in
    let stays_sent = subst (λ p. is_last_let_go c.args.self.now.sent.now.let_go.items l.number p ≡ false) h.1 (ap (λ (gone : List (ℕ × Unit {0})). is_last_let_go gone l.number past) alike ∙ stays) in
    let Is : List Event → Type 0 = λ p. option_and_then (λ n. incoming_at n p) c.carried_before.result ≡ transfers.carried_before l p in
    let before = subst Is (sym h.1) (c.carried_before.ensures rules h.0 (subst (IsTable c.args.self.now.sent.now) h.1 stands.1.1.1.1.1.1.1.1.0) stays_sent) in
    c.kept.ensures ∙ before-last rules past (judged-of rules past h) stands.1.1.1.1.1.1.1.0 c.args.self.now.deliveries.now stands.1.1.1.1.0.0 l stays c.carried_before.result before
