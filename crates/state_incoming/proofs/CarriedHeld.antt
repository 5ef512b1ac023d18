-- In a lawful capture what a delivery to a client carries is kept: so the table can tell of it.
use Rattle.std.proofs.Common.{◌≡◌, refl, sym, ap, subst, ◌∙◌, ℕ, Bool, true, false, not, ◌&&◌, List, [], Option, Some, None, IfSome, is_some, find, option_and_then, option_map, if◌then◌else◌, eq-eqb}
use Rattle.pairing_cert.specs.declared.note.Note.TheVariants as notes
use Rattle.capture_form.specs.Rules.{RuleSet}
use Rattle.trace_events.specs.Words.{where_passes}
use Rattle.trace_events.specs.Event.{Event, Link, Incoming, Outgoing}
use Rattle.trace_events.specs.Incoming.{incoming_at, is_complete}
use Rattle.trace_events.specs.Outgoing.{is_on, is_paired, names, noted, outgoing_deliveries}
use Rattle.trace_events.specs.Settling.{is_closed}
use Rattle.trace_events.specs.Waiting.{is_gone}
use Rattle.trace_events.proofs.Along.{and_then_some}
use Rattle.trace_events.proofs.Judged.{AreJudged}
use Rattle.trace_events.specs.Clauses.{first_broken}
use Rattle.trace_events.specs.TransferClause.{carried_before}
use Rattle.trace_events.proofs.BegunDeliveries.{found-begun}
use Rattle.trace_events.proofs.Pairs.{paired-not_gone}
use Rattle.state_tables.specs.LetGo.{is_let_go}
use Rattle.state_incoming.specs.Held.{Held, held, held_at, is_held}
use Rattle.state_incoming.specs.HeldTables.{AreHeld, AreOver, held_in}
use Rattle.state_incoming.specs.EntryAnswers.{Knows, delivery_in, is_shut}
use Rattle.state_incoming.specs.declared.deliveries.Deliveries.{Deliveries}
use Rattle.trace_events.proofs.IdsApart.{found_any}
use Rattle.state_incoming.proofs.GroupAnswers.{find-some}
use Rattle.state_incoming.proofs.HeldAnswers.{held-of}
use Rattle.state_incoming.proofs.OverKnown.{over-closed, table-there, table-none}

-- a delivery from a client, with that it is kept
pub record IsCarried (rules : RuleSet) (past : List Event) (j : Outgoing) : Type 0 where
  pub delivery : Incoming
  pub named : j.note ≡ notes.Pair delivery.number
  pub at : incoming_at delivery.number past ≡ Some delivery
  pub is : is_held rules past delivery ≡ true

-- complete, and not gone
held-bits : (complete gone closed other : Bool) → complete ≡ true → gone ≡ false → (if complete then not (gone && closed) else other) ≡ true
held-bits true false closed other is none = refl
held-bits true true closed other is none = absurd cc
held-bits false gone closed other is none = absurd cc

same_some : {A : Type 0} (a b : A) → Some a ≡ Some b → a ≡ b
same_some a b is = cc

module _ (rules : RuleSet) (past : List Event) (are : AreJudged rules past) (lawful : first_broken rules past ≡ None) where
  paired-by : (test : Outgoing → Bool) (j : Outgoing) (d : Incoming) → find test (outgoing_deliveries past) ≡ Some j → j.note ≡ notes.Pair d.number → is_paired d past ≡ true
  paired-by test j d found named =
      let names_it : names d.number j.note ≡ true = ap (names d.number) named ∙ eq-eqb d.number d.number refl in
      let one = find-some (λ (k : Outgoing). names d.number k.note) (outgoing_deliveries past) (found_any (λ (k : Outgoing). names d.number k.note) test (outgoing_deliveries past) j found names_it) in
      ap is_some one.1

  pub carried-of : (test : Outgoing → Bool) (j : Outgoing) → find test (outgoing_deliveries past) ≡ Some j → IsCarried rules past j
  carried-of test j found =
      let b = found-begun rules past are lawful test j found in
      let gone : is_gone rules b.delivery past ≡ false = paired-not_gone rules b.delivery past (paired-by test j b.delivery found b.named) in
      record {
        delivery = b.delivery;
        named = b.named;
        at = b.kept.at;
        is = held-bits (is_complete b.delivery past) (is_gone rules b.delivery past) (is_closed past b.delivery) _ b.complete gone;
      }

  -- what was carried before on a link is kept
  carried_before-held : (l : Link) (d : Incoming) → carried_before l past ≡ Some d → is_held rules past d ≡ true
  carried_before-held l d is =
      let step = and_then_some (λ (j : Outgoing). noted j.note past) (find (is_on l) (outgoing_deliveries past)) d is in
      let c = carried-of (is_on l) step.0 step.1 in
      let noted_one : noted step.0.note past ≡ Some c.delivery = ap (λ note. noted note past) c.named ∙ c.at in
      subst (λ (x : Incoming). is_held rules past x ≡ true) (same_some c.delivery d (sym noted_one ∙ step.2)) c.is

  module _ (table : Deliveries) (were : AreHeld rules table past) where
    -- the entry of a delivery that is kept, and was not let go
    pub entry-at : (n : ℕ) (d : Incoming) → incoming_at n past ≡ Some d → is_held rules past d ≡ true → is_let_go table.let_go.items n ≡ false → held_in table n ≡ Some (held rules past d)
    entry-at n d at is there =
        table-there rules past table were n there
        ∙ (ap (λ o. option_map (held rules past) (where_passes (is_held rules past) o)) at ∙ ap (λ b. option_map (held rules past) (if b then Some d else None)) is)

    none-at : (n : ℕ) → incoming_at n past ≡ None → held_in table n ≡ None
    none-at n at = table-none rules past table were n (ap (λ o. option_map (held rules past) (where_passes (is_held rules past) o)) at)

    -- whether more is to be told of what a delivery to a client carries: nothing of one that was let go
    pub carried-shut : AreOver rules table past → (j : Outgoing) (c : IsCarried rules past j) → is_shut (held_in table c.delivery.number) ≡ is_closed past c.delivery
    carried-shut over j c = by (is_let_go table.let_go.items c.delivery.number) refl
      where
        n : ℕ
        n = c.delivery.number

        by : (b : Bool) → is_let_go table.let_go.items n ≡ b → is_shut (held_in table n) ≡ is_closed past c.delivery
        by false there = ap is_shut (entry-at n c.delivery c.at c.is there)
        by true went =
            let o = over n went in
            let same : o.entry.delivery ≡ c.delivery = same_some o.entry.delivery c.delivery (sym (held-of rules n past o.entry o.at).at ∙ c.at) in
            ap is_shut (were n ∙ ap (λ b. if b then None else held_at rules n past) went) ∙ (sym (over-closed rules past are n o) ∙ ap (is_closed past) same)

    pub knows-held : (d : Incoming) → incoming_at d.number past ≡ Some d → is_held rules past d ≡ true → is_let_go table.let_go.items d.number ≡ false → Knows table d
    knows-held d at is there = ap (option_map (λ (x : Held). x.delivery)) (entry-at d.number d at is there)

    at-by : (n : ℕ) (o : Option Incoming) → incoming_at n past ≡ o → IfSome o (λ d. is_held rules past d ≡ true) → is_let_go table.let_go.items n ≡ false → delivery_in table n ≡ o
    at-by n None at is there = ap (option_map (λ (x : Held). x.delivery)) (none-at n at)
    at-by n (Some d) at is there = ap (option_map (λ (x : Held). x.delivery)) (entry-at n d at is there)

    -- what the number of the last carried one on a link gives, where nothing was let go
    pub before-given : table.let_go.items ≡ [] → (l : Link) (o : Option ℕ) → option_and_then (λ n. incoming_at n past) o ≡ carried_before l past → option_and_then (delivery_in table) o ≡ carried_before l past
    before-given none l None is = is
    before-given none l (Some n) is = at-by n (carried_before l past) is (by (carried_before l past) refl) (ap (λ items. is_let_go items n) none)
      where
        by : (o : Option Incoming) → carried_before l past ≡ o → IfSome o (λ d. is_held rules past d ≡ true)
        by None none = tt
        by (Some d) before = carried_before-held l d before
