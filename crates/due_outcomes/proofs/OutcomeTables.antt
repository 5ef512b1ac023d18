-- The tables can tell of each delivery of which an outcome is to be told.
use Rattle.std.proofs.Common.{◌≡◌, refl, Bool, true, false, not, ◌&&◌, ◌||◌, List, Option, Some, None, is_some, option_map, if◌then◌else◌}
use Rattle.std.specs.Prelude.{Contains}
use Rattle.std.specs.List.{list_any}
use Rattle.capture_form.specs.Rules.{RuleSet}
use Rattle.trace_events.specs.Event.{Event, Incoming}
use Rattle.trace_events.specs.Link.{is_live}
use Rattle.trace_events.specs.Incoming.{incoming_at, incoming_deliveries, is_complete, is_settled, is_told}
use Rattle.trace_events.specs.Waiting.{is_gone}
use Rattle.trace_events.proofs.Judged.{AreJudged}
use Rattle.trace_events.specs.Clauses.{first_broken}
use Rattle.trace_events.specs.Outcome.{is_to_tell, may_be_told, reasons, row}
use Rattle.trace_events.proofs.IncomingProgress.{judged-kept}
use Rattle.trace_events.proofs.Parts.{IsKept, each_delivery}
use Rattle.trace_events.proofs.WaitingQueue.{all_contained}
use Rattle.state_incoming.specs.EntryAnswers.{Knows, has_entry}
use Rattle.state_incoming.specs.Held.{Held}
use Rattle.state_incoming.specs.HeldTables.{held_in}
use Rattle.state_incoming.specs.declared.deliveries.Deliveries.{Deliveries}
use Rattle.state_incoming.proofs.CarriedHeld.{knows-held}
use Rattle.state_incoming.proofs.GroupAnswers.{judged-of}
use Rattle.state_incoming.proofs.OverKnown.{open-kept}
use Rattle.state_answers.specs.declared.lent_tables.LentTables.{LentTables}
use Rattle.state_answers.specs.Tables.{TellsOf}

-- one that may be told is kept
held-bits : (complete settled told live gone other : Bool) → complete && not settled && not told && live ≡ true → (if complete then not (gone && (told || settled || not live)) else other) ≡ true
held-bits true false false true true other is = refl
held-bits true false false true false other is = refl
held-bits true false false false gone other is = absurd cc
held-bits true false true live gone other is = absurd cc
held-bits true true told live gone other is = absurd cc
held-bits false settled told live gone other is = absurd cc

-- and not closed
closed-bits : (complete settled told live : Bool) → complete && not settled && not told && live ≡ true → told || settled || not live ≡ false
closed-bits true false false true is = refl
closed-bits true false false false is = absurd cc
closed-bits true false true live is = absurd cc
closed-bits true true told live is = absurd cc
closed-bits false settled told live is = absurd cc

pub knows-has : (table : Deliveries) (d : Incoming) → Knows table d → has_entry table d.number ≡ true
knows-has table d knows = by (held_in table d.number) knows
  where
    by : (o : Option Held) → option_map (λ (x : Held). x.delivery) o ≡ Some d → is_some o ≡ true
    by None is = absurd cc
    by (Some x) is = refl

module _ (rules : RuleSet) (past : List Event) (tables : LentTables) (stands : TellsOf rules tables past) where
  are : AreJudged rules past
  are = judged-of rules past stands.0

  lawful : first_broken rules past ≡ None
  lawful = stands.1.1.1.1.1.1.1.0

  pub begun-at : (d : Incoming) → Contains (incoming_deliveries past) d → incoming_at d.number past ≡ Some d
  begun-at d there = (all_contained (IsKept past) (incoming_deliveries past) d (each_delivery (IsKept past) past (judged-kept rules past are).each) there).at

  told-known : (d : Incoming) → Contains (incoming_deliveries past) d → may_be_told d past ≡ true → Knows tables.deliveries.now d
  told-known d there may =
      knows-held rules past are lawful tables.deliveries.now stands.1.1.1.1.0.0 d (begun-at d there)
      (held-bits (is_complete d past) (is_settled d past) (is_told d past) (is_live past d.link) (is_gone rules d past) _ may)
      (open-kept rules past are tables.deliveries.now stands.1.1.1.1.0.1.1 d.number d (begun-at d there) (closed-bits (is_complete d past) (is_settled d past) (is_told d past) (is_live past d.link) may))

  -- nothing is to be told of a delivery of which the tables cannot tell, that may not be told, or to which no row applies
  pub unless-told : (d : Incoming) → Contains (incoming_deliveries past) d
      → (Knows tables.deliveries.now d → may_be_told d past ≡ true → list_any (λ why. is_some (row rules d past why)) reasons ≡ true → true ≡ false) → is_to_tell rules past d ≡ false
  unless-told d there never = by (may_be_told d past) refl (list_any (λ why. is_some (row rules d past why)) reasons) refl
    where
      by : (a : Bool) → may_be_told d past ≡ a → (b : Bool) → list_any (λ why. is_some (row rules d past why)) reasons ≡ b → a && b ≡ false
      by false may b rows = refl
      by true may false rows = refl
      by true may true rows = never (told-known d there may) may rows
