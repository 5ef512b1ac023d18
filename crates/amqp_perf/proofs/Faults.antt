-- The first fault, as a loop over a table finds it.
use Rattle.std.proofs.Common.{◌≡◌, refl, sym, ap, ◌∙◌, ℕ, ◌+◌, ◌<◌, ◌≤◌, List, length, drop, get_or, Option, Some, None, false, add-one}
use Rattle.std.proofs.Math.Seq.{drop-cons}
use Rattle.std.proofs.lemmas.List.{drop_all}
use Rattle.std.specs.Option.{option_or}
use Rattle.amqp_types.specs.Part.{Seen}
use Rattle.amqp_perf.specs.declared.fault.PerfFault.{PerfFault}
use Rattle.amqp_perf.specs.declared.table.Field.{Field}
use Rattle.amqp_perf.specs.declared.table.FieldType.TheVariants.{Any}
use Rattle.amqp_perf.specs.FieldPlaces.{first, others}
use Rattle.amqp_perf.specs.Fields.{field_fault, first_fault}

-- what an index past the end reads
abbrev pub no_field : Field
no_field = record { is_mandatory = false; field_type = Any }

module _ (fs : List Field) (i : ℕ) (ps : List Seen) (whole : Option PerfFault) (so_far : whole ≡ first_fault (i + 1) (drop i fs) ps) where
  -- the next field, and those behind it
  next : (value : Seen) (left : List Seen) → i < length fs → value ≡ first ps → left ≡ others ps
      → whole ≡ option_or (field_fault (i + 1) (get_or fs i no_field) value) (first_fault (i + 1 + 1) (drop (i + 1) fs) left)
  unfolding first_fault
  next value left lt p l = so_far ∙ rw (p, l, add-one, drop-cons fs i no_field) refl

  pub goes_on : (value : Seen) (left : List Seen) → i < length fs → value ≡ first ps → left ≡ others ps
      → None ≡ field_fault (i + 1) (get_or fs i no_field) value → whole ≡ first_fault (i + 1 + 1) (drop (i + 1) fs) left
  goes_on value left lt p l none = next value left lt p l ∙ ap (λ f. option_or f (first_fault (i + 1 + 1) (drop (i + 1) fs) left)) (sym none)

  pub stops : (value : Seen) (left : List Seen) (fault : PerfFault) → i < length fs → value ≡ first ps → left ≡ others ps
      → Some fault ≡ field_fault (i + 1) (get_or fs i no_field) value → whole ≡ Some fault
  stops value left fault lt p l some = next value left lt p l ∙ ap (λ f. option_or f (first_fault (i + 1 + 1) (drop (i + 1) fs) left)) (sym some)

  pub ends : length fs ≤ i → whole ≡ None
  unfolding first_fault
  ends le = so_far ∙ rw (drop_all i fs le) refl
