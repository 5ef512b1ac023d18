-- What the list of outcomes forgets is none of those that are to be told, and where it is empty none is left.
use Rattle.std.proofs.Common.{◌≡◌, refl, sym, ap, subst, ◌∙◌, ℕ, Bool, true, false, not, ◌&&◌, List, Some, None, ◌==◌, eqb-true}
use Rattle.std.specs.Prelude.{Contains}
use Rattle.capture_form.specs.Rules.{RuleSet}
use Rattle.trace_events.specs.Event.{Event, Incoming, Outgoing}
use Rattle.trace_events.specs.Incoming.{incoming_deliveries}
use Rattle.trace_events.specs.Outgoing.{noted, outgoing_deliveries}
use Rattle.trace_events.specs.Settling.{is_closed}
use Rattle.trace_events.specs.Waiting.{is_of_multicast}
use Rattle.trace_events.proofs.Judged.{AreJudged}
use Rattle.trace_events.specs.Clauses.{first_broken}
use Rattle.trace_events.specs.Outcome.{is_to_tell}
use Rattle.trace_duties.specs.Quiet.{none_is_untold}
use Rattle.trace_duties.proofs.QuietLists.{all-each}
use Rattle.state_incoming.specs.EntryAnswers.{is_shut}
use Rattle.state_incoming.specs.HeldTables.{held_in}
use Rattle.state_incoming.proofs.CarriedHeld.{carried-of, carried-shut}
use Rattle.state_incoming.proofs.GroupAnswers.{judged-of}
use Rattle.state_outgoing.proofs.SentKept.{contained-at}
use Rattle.state_answers.specs.declared.lent_tables.LentTables.{LentTables}
use Rattle.number_groups.specs.Ascending.{has}
use Rattle.state_answers.specs.Tables.{TellsOf}
use Rattle.due_outcomes.specs.Untold.{HasUntold, IsOn}
use Rattle.number_groups.specs.declared.groups.Groups.{Groups}
use Rattle.due_outcomes.specs.declared.untold.Untold.{Untold}

same_some : {A : Type 0} (a b : A) → Some a ≡ Some b → a ≡ b
same_some a b is = cc

module _ (rules : RuleSet) (past : List Event) (tables : LentTables) (stands : TellsOf rules tables past) where
  are : AreJudged rules past
  are = judged-of rules past stands.0

  lawful : first_broken rules past ≡ None
  lawful = stands.1.1.1.1.1.1.1.0

  carried-entry : (j : Outgoing) → Contains (outgoing_deliveries past) j → (d : Incoming) → noted j.note past ≡ Some d → is_shut (held_in tables.deliveries.now d.number) ≡ is_closed past d
  carried-entry j there d at =
      let c = carried-of rules past are lawful (λ (k : Outgoing). k.number == j.number) j (contained-at rules past are j there) in
      let same : c.delivery ≡ d = same_some c.delivery d (sym (ap (λ note. noted note past) c.named ∙ c.at) ∙ at) in
      subst (λ (x : Incoming). is_shut (held_in tables.deliveries.now x.number) ≡ is_closed past x) same (carried-shut rules past are lawful tables.deliveries.now stands.1.1.1.1.0.0 stands.1.1.1.1.0.1.1 j c)

  -- ---- what is forgotten

  module _ (earlier later : Untold) (number : ℕ) (none : (d : Incoming) → Contains (incoming_deliveries past) d → d.number ≡ number → is_to_tell rules past d ≡ false) (was : HasUntold rules earlier past)
      (left : (n : ℕ) → has later.candidates n ≡ (has earlier.candidates n && not (number == n)))
      (carried : (j : Outgoing) (n : ℕ) → (number == n) ≡ false → IsOn earlier.carried j n → IsOn later.carried j n)
      (opens : is_shut (held_in tables.deliveries.now number) ≡ false → later.carried ≡ earlier.carried) where
    another : (d : Incoming) → Contains (incoming_deliveries past) d → is_to_tell rules past d ≡ true → (number == d.number) ≡ false
    another d there is = by (number == d.number) refl
      where
        by : (b : Bool) → (number == d.number) ≡ b → (number == d.number) ≡ false
        by false other = other
        by true same = let never : true ≡ false = sym is ∙ none d there (sym (eqb-true number d.number same)) in absurd cc

    still-carried : (j : Outgoing) → Contains (outgoing_deliveries past) j → (d : Incoming) → noted j.note past ≡ Some d → is_of_multicast rules d past ≡ false → is_closed past d ≡ false → IsOn later.carried j d.number
    still-carried j there d at anycast open_still = by (is_shut (held_in tables.deliveries.now number)) refl
      where
        apart : is_shut (held_in tables.deliveries.now number) ≡ true → (b : Bool) → (number == d.number) ≡ b → (number == d.number) ≡ false
        apart closed false other = other
        apart closed true same =
            let says = ap (λ n. is_shut (held_in tables.deliveries.now n)) (eqb-true number d.number same) ∙ (carried-entry j there d at ∙ open_still) in
            let never : true ≡ false = sym closed ∙ says in
            absurd cc

        by : (b : Bool) → is_shut (held_in tables.deliveries.now number) ≡ b → IsOn later.carried j d.number
        by false says = subst (λ (x : Groups ℕ). IsOn x j d.number) (sym (opens says)) (was.carried j there d at anycast open_still)
        by true says = carried j d.number (apart says (number == d.number) refl) (was.carried j there d at anycast open_still)

    pub forgotten : HasUntold rules later past
    forgotten = record {
      due = λ d there is. left d.number ∙ (ap (λ b. b && not (number == d.number)) (was.due d there is) ∙ ap not (another d there is));
      carried = still-carried;
    }

-- where it has no candidates, nothing is left
pub none-left : (rules : RuleSet) (past : List Event) (untold : Untold) → HasUntold rules untold past → ((n : ℕ) → has untold.candidates n ≡ false) → none_is_untold rules past ≡ true
none-left rules past untold kept none = all-each (λ d. not (is_to_tell rules past d)) (incoming_deliveries past) (λ d there. by d there (is_to_tell rules past d) refl)
  where
    by : (d : Incoming) → Contains (incoming_deliveries past) d → (b : Bool) → is_to_tell rules past d ≡ b → not b ≡ true
    by d there false is = refl
    by d there true is = let never : true ≡ false = sym (kept.due d there is) ∙ none d.number in absurd cc
