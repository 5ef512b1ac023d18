-- Which octets are a performative: a list described by its code or its name, whose items fit the table of its fields
-- (part 1 of the standard, section 1.4; part 2, section 2.7).
use Rattle.std.specs.Prelude.{◌≡◌, ℕ, true, false, List, [], ◌∷◌, ◌++◌, Some, ◌⊎◌}
use Rattle.amqp_types.specs.declared.code.Kind.TheVariants as kinds
use Rattle.amqp_types.specs.Part.{Part, Seen, Nested, Described}
use Rattle.amqp_types.specs.Typed.{says_null}
use Rattle.amqp_types.specs.Grammar.{IsValue, AreValuesOf}
use Rattle.flow_counts.specs.declared.profile.TheConstants.{MAX_DEPTH}
use Rattle.amqp_perf.specs.declared.table.Field.{Field}
use Rattle.amqp_perf.specs.declared.descriptor.PerformativeKind.{PerformativeKind}
use Rattle.amqp_perf.specs.declared.descriptor.Descriptor.TheVariants.{Performative}
use Rattle.amqp_perf.specs.Descriptors.{descriptor_named}
use Rattle.amqp_perf.specs.Tables.{table_of, accepts}
use Rattle.amqp_perf.specs.Meaning.{Meaning, meaning_of}

-- null stands for an optional field that is absent; any other value has the field's type
abbrev pub IsField : Field → Seen → Type 0
IsField field value =
    ((says_null value.part ≡ true) × (field.is_mandatory ≡ false)) ⊎ ((says_null value.part ≡ false) × (accepts field.field_type value ≡ true))

-- a value for each field in order; those at the end that are not mandatory may be left out, and nothing may follow
abbrev pub AreFields : List Field → List Seen → Type 0
AreFields [] [] = Unit {0}
AreFields [] (p ∷ ps) = ⊥
AreFields (f ∷ fs) [] = (f.is_mandatory ≡ false) × AreFields fs []
AreFields (f ∷ fs) (p ∷ ps) = IsField f p × AreFields fs ps

-- a performative, and what it says
pub record IsPerformative (octets : List ℕ) (meaning : Meaning) : Type 0 where
  pub descriptor : List ℕ
  pub described : List ℕ
  pub whole : IsValue MAX_DEPTH octets (Described descriptor described)
  pub says : Part
  pub descriptor_is : IsValue MAX_DEPTH descriptor says
  pub kind : PerformativeKind
  pub names : descriptor_named says ≡ Some (Performative kind)
  pub count : ℕ
  pub body : List ℕ
  pub list : IsValue MAX_DEPTH described (Nested kinds.List count body)
  pub values : List Seen
  pub items : AreValuesOf count body values
  pub fit : AreFields (table_of kind) values
  pub means : meaning ≡ meaning_of kind values

-- a performative at the front of the input, and what stands behind it
pub record IsFront (bytes : List ℕ) (meaning : Meaning) (rest : List ℕ) : Type 0 where
  pub front : List ℕ
  pub parts : bytes ≡ front ++ rest
  pub is : IsPerformative front meaning
