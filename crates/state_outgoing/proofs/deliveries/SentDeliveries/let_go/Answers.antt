use Rattle.std.proofs.Common.{◌≡◌, refl, ap, ◌∙◌, ℕ, None, nat_eq, if◌then◌else◌, rules}
use Rattle.indexmap.specs.IndexMap.{get}
use Rattle.number_groups.specs.Numbers.{is_among}
use Rattle.trace_events.specs.History.{history}
use Rattle.trace_events.proofs.Judged.{history-judged}
use Rattle.state_outgoing.specs.Carriers.{carriers_in, listed}
use Rattle.state_outgoing.specs.SentTables.{last_without, sent_in}
use Rattle.state_outgoing.specs.declared.deliveries.SentDeliveries.{SentDeliveries}
use Rattle.state_outgoing.proofs.LetGoStands.{let-go-stands}
use Rattle.state_outgoing.proofs.deliveries.SentDeliveries.let_go.Goals as goal

pub returns-clause-stands : goal.returns-clause-stands
returns-clause-stands c = λ judging records is_table carries.
    let table = c.args.self.now in
    let later : SentDeliveries = record {
      alloc = table.alloc;
      entries = c.remove_carriers.new.entries;
      groups = table.groups;
      begun = c.leave_all.new.begun;
      let_go = c.and-self.result;
    } in
    let listed-removed : (n : ℕ) → sent_in later n ≡ (if is_among (listed c.let_go-carriers.result) n then None else sent_in table n) = search rules in
    let removed : (n : ℕ) → sent_in later n ≡ (if is_among (carriers_in table.begun c.args.number) n then None else sent_in table n) = λ n.
    listed-removed n ∙ ap (λ xs. if is_among xs n then None else sent_in table n) c.let_go-carriers.ensures.given in
    let left_last : (n : ℕ) → get nat_eq later.begun.on_link n ≡ last_without (sent_in table) (is_among (carriers_in table.begun c.args.number)) n (get nat_eq table.begun.on_link n) = λ n.
    c.leave_all.ensures.on_link n
    ∙ (ap (λ xs. last_without (sent_in table) (is_among xs) n (get nat_eq c.let_go-carriers.new.self.on_link n)) c.let_go-carriers.ensures.given
    ∙ ap (λ m. last_without (sent_in table) (is_among (carriers_in table.begun c.args.number)) n (get nat_eq m n)) c.let_go-carriers.ensures.on_link) in
    let-go-stands judging (history judging records) (history-judged judging records) table is_table c.args.number carries later c.and-self.ensures removed refl left_last
    (λ n. ap (λ m. listed (get nat_eq m n)) c.leave_all.ensures.carriers ∙ c.let_go-carriers.ensures.carriers n)
