use Rattle.std.proofs.Common.{sym, ap, subst, ◌∙◌, inl, inr}
use Rattle.trace_events.specs.History.{history}
use Rattle.due_outcomes.specs.Settlings.{waits_in}
use Rattle.due_outcomes.specs.Unsettled.{IsParked}
use Rattle.due_outcomes.specs.declared.unsettled.Unsettled.{Unsettled}
use Rattle.due_outcomes.proofs.SettlingsDue.{forgotten, kept-parked, parked-aside}
use Rattle.due_outcomes.proofs.unsettled.Unsettled.sort_lowest.Goals as goal

pub loop-number-preserved : goal.loop-number-preserved
loop-number-preserved c = λ rules records stands was.
    let past = history rules records in
    let number = c.in-Some.number in
    let mid = c.stays.new.self in
    let later : Unsettled = record { candidates = c.remove.new.self; parked = mid.parked } in
    let was_mid = kept-parked rules past c.args.tables.now stands c.loop-number.self mid (c.loop-number.invariant rules records stands was) c.stays.ensures.candidates c.stays.ensures.kept in
    elim (c.stays.ensures.goes c.if-stays.false) [
      | inl gone ↦ forgotten rules past c.args.tables.now stands mid later number was_mid c.remove.ensures.left (sym (ap waits_in c.get.ensures) ∙ gone) (λ n m is. is)
      | inr p ↦ parked-aside rules past c.args.tables.now stands mid later number was_mid c.remove.ensures.left
          (subst (IsParked mid.parked c.args.tables.now.deliveries.now number) c.get.ensures p) (λ n m is. is)
    ]
