use Rattle.std.proofs.Common.{◌≡◌, ◌<◌, length, sym, ap, ◌∙◌, ℕ, Option, Some, None, true, false, ◌&&◌, not, ◌==◌}
use Rattle.pairing_cert.specs.declared.note.Note.TheVariants as notes
use Rattle.trace_events.specs.Event.{Incoming}
use Rattle.trace_events.specs.Due.{is_unsent}
use Rattle.trace_events.specs.Incoming.{incoming_at, incoming_deliveries, is_complete}
use Rattle.trace_events.specs.Outgoing.{noted}
use Rattle.trace_events.specs.Waiting.{is_gone}
use Rattle.trace_events.specs.TransferClause.{to_carry}
use Rattle.trace_events.proofs.OneConsumer.{incoming_at-is, passes-some}
use Rattle.trace_events.proofs.Parts.{holds_some}
use Rattle.trace_events.specs.View.{incoming_view, link_view}
use Rattle.state_tables.specs.LetGo.{is_let_go}
use Rattle.state_incoming.proofs.GroupAnswers.{judged-of}
use Rattle.due_lists.proofs.Members.{found-contained}
use Rattle.due_lists.proofs.CopiesDue.{copy-carried, copy-there, found-of}
use Rattle.due_lists.proofs.copies.unsent_copy.Goals as goal

same_some : {A : Type 0} (a b : A) → Some a ≡ Some b → a ≡ b
same_some a b is = cc

pub returns-in_err-delivery-clause-found : goal.returns-in_err-delivery-clause-found
returns-in_err-delivery-clause-found c = λ past are d is h.
    let rules = c.args.rules.now in
    let judged = judged-of rules past are.0 in
    let l = link_view c.args.link.now in
    let table = c.args.tables.now.deliveries.now in
    let own : c.args.number ≡ d.number = sym is in
    let there : is_let_go table.let_go.items c.args.number ≡ false = ap (λ (n : ℕ). is_let_go table.let_go.items n) own ∙ copy-there rules past judged l table are.1.1.1.1.0.1.1 d h in
    let never : ◌≡◌ {A = Option Incoming} None (Some d) =
    c.in_err-delivery.ensures.value rules past are.1.1.1.1.0.0 there
    ∙ (ap (λ (n : ℕ). to_carry rules (notes.Pair n) past) own ∙ copy-carried rules past judged l d h) in
    absurd cc

pub returns-then-is_unsent-clause-copy : goal.returns-then-is_unsent-clause-copy
returns-then-is_unsent-clause-copy c = λ past are live.
    let rules = c.args.rules.now in
    let d = incoming_view c.in_ok-delivery.delivery in
    let known = c.in_ok-delivery.ensures.known rules past are.1.1.1.1.0.0 in
    let carried : to_carry rules (notes.Pair c.args.number) past ≡ Some d = c.in_ok-delivery.ensures.given rules past are.1.1.1.1.0.0 in
    let at : incoming_at c.args.number past ≡ Some d = (passes-some (λ x. is_complete x past && not (is_gone rules x past)) (noted (notes.Pair c.args.number) past) d carried).0 in (
      record {
        known = known;
        found = found-of rules past (judged-of rules past are.0) d (found-contained (λ (x : Incoming). x.number == c.args.number) (incoming_deliveries past) d at);
        unsent = sym (c.is_unsent.ensures past are live known) ∙ c.if-is_unsent.true;
      },
      (holds_some (λ (x : Incoming). (c.args.number < length past) × (x.number ≡ c.args.number)) (incoming_at c.args.number past) d at (incoming_at-is rules past c.args.number (judged-of rules past are.0))).1,
    )

pub returns-then-is_unsent-clause-found : goal.returns-then-is_unsent-clause-found
returns-then-is_unsent-clause-found c = λ past are d is h.
    let rules = c.args.rules.now in
    let own : c.args.number ≡ d.number = sym is in
    sym (c.in_ok-delivery.ensures.given rules past are.1.1.1.1.0.0)
    ∙ (ap (λ (n : ℕ). to_carry rules (notes.Pair n) past) own ∙ copy-carried rules past (judged-of rules past are.0) (link_view c.args.link.now) d h)

pub returns-else-is_unsent-clause-found : goal.returns-else-is_unsent-clause-found
returns-else-is_unsent-clause-found c = λ past are d is h.
    let rules = c.args.rules.now in
    let l = link_view c.args.link.now in
    let x = incoming_view c.in_ok-delivery.delivery in
    let own : c.args.number ≡ d.number = sym is in
    let some : Some x ≡ Some d =
    sym (c.in_ok-delivery.ensures.given rules past are.1.1.1.1.0.0)
    ∙ (ap (λ (n : ℕ). to_carry rules (notes.Pair n) past) own ∙ copy-carried rules past (judged-of rules past are.0) l d h) in
    let one : x ≡ d = same_some x d some in
    let never : false ≡ true =
    sym c.if-is_unsent.false
    ∙ (c.is_unsent.ensures past are h.live (c.in_ok-delivery.ensures.known rules past are.1.1.1.1.0.0) ∙ (ap (λ (y : Incoming). is_unsent rules y l past) one ∙ h.unsent)) in
    absurd cc
