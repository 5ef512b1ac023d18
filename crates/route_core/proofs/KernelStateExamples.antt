-- What a step gives out, and what it does not.
use Rattle.std.proofs.Common.{◌≡◌, Bool, ℕ, List, [], ◌∷◌, ◌++◌, length, true, false, refl, ap, sym, ◌∙◌, arith}
use Rattle.std.specs.List.{AllByRecursion}
use Rattle.capture_form.specs.declared.records.Record.{Record}
use Rattle.capture_form.specs.Text.{IsRecord}
use Rattle.route_items.specs.declared.item.Item.{Item}
use Rattle.route_items.specs.declared.item.Item.TheVariants as items
use Rattle.route_items.specs.Items.{record_of}
use Rattle.route_items.specs.Inputs.{is_output}
use Rattle.route_core.specs.KernelState.{HasGiven}

abbrev opens : Item
opens = items.Opened 0

abbrev opened : Record
opened = record_of opens

opened_fits : IsRecord opened
opened_fits = record { connection = omega arith; what = tt; note = refl }

opened_alone : HasGiven opens [] (opened ∷ []) (opened ∷ [])
opened_alone = record { kept = refl; group = []; begins = refl; outputs = tt; bounds = (opened_fits, tt) }

-- a record that stood there is gone
one_lost : HasGiven opens (opened ∷ []) (opened ∷ []) (opened ∷ []) → ⊥
one_lost gives = absurd (omega (arith, ap length gives.kept))

-- another record is given out than stands there
not_recorded : HasGiven opens [] [] (opened ∷ []) → ⊥
not_recorded gives = absurd (omega (arith, ap length gives.kept))

-- nothing is given out, also not the item's
not_given : HasGiven opens [] [] [] → ⊥
not_given gives = absurd (omega (arith, ap length gives.begins))

-- what it writes behind the item's record is no input
input_invented : HasGiven opens [] (opened ∷ opened ∷ []) (opened ∷ opened ∷ []) → ⊥
input_invented gives = invented gives.group gives.begins gives.outputs
  where
    invented : (group : List Record) → opened ∷ opened ∷ [] ≡ opened ∷ group → AllByRecursion (λ r. is_output r.what ≡ true) group → ⊥
    invented [] e are = absurd (omega (arith, ap length e))
    invented (r ∷ rest) e are = let same : opened ≡ r = cc in let never : ◌≡◌ {A = Bool} false true = ap (λ (x : Record). is_output x.what) same ∙ are.0 in absurd cc
