-- The fields of a list that are left, and what is taken of them, where octets have the usual form.
use Rattle.std.specs.Prelude.{◌≡◌, ◌≤◌, ◌+◌, ℕ, suc, length, Bool, true, false, List, [], ◌∷◌, Option, Some, unwrap_or, Ok}
use Rattle.amqp_types.specs.Part.{Seen, Ulong}
use Rattle.amqp_types.specs.Items.{seen_in}
use Rattle.amqp_types.specs.Grammar.{AreItems, IsValue, IsFront}
use Rattle.amqp_types.specs.Typed.{uint_in, boolean_in, binary_in}
use Rattle.amqp_types.specs.Reading.{seen_at}
use Rattle.amqp_types.specs.Listed.{listed}
use Rattle.flow_counts.specs.declared.profile.TheConstants.{MAX_DEPTH}
use Rattle.amqp_perf.specs.declared.table.Field.{Field}
use Rattle.amqp_perf.specs.declared.usual.Usual.{Usual}
use Rattle.amqp_perf.specs.declared.attach.Role.{Role}
use Rattle.amqp_perf.specs.declared.descriptor.PerformativeKind.{PerformativeKind}
use Rattle.amqp_perf.specs.declared.descriptor.Descriptor.TheVariants.{Performative}
use Rattle.amqp_perf.specs.Descriptors.{descriptor_of_code}
use Rattle.amqp_perf.specs.Tables.{table_of}
use Rattle.amqp_perf.specs.Meaning.{Meaning, meaning_of}
use Rattle.amqp_perf.specs.FieldPlaces.{first, others}
use Rattle.amqp_perf.specs.Fields.{fits_field, all_fit}
use Rattle.amqp_perf.specs.Nested.{role_of}

-- an item at the front of octets that fits a field and says this, and what is behind it
pub record IsItem {A : Type 0} (field : Field) (says : Seen → A) (octets : List ℕ) (a : A) (rest : List ℕ) : Type 0 where
  pub value : Seen
  pub front : IsFront 30 octets value rest
  pub fits : fits_field field value ≡ true
  pub is : a ≡ says value

-- the fields that are left
abbrev pub usual_left : Usual → List Seen
usual_left fields = seen_in fields.left fields.octets.now

-- the octets that are left are just those of so many values
unfoldable pub AreWhole : Usual → Type 0
AreWhole fields = AreItems (IsValue 30) fields.left fields.octets.now

-- the next field fits its place and says this; the others are left
pub record IsTaken {A : Type 0} (field : Field) (says : Seen → A) (old new : Usual) (a : A) : Type 0 where
  pub value : a ≡ says (first (usual_left old))
  pub left : usual_left new ≡ others (usual_left old)
  pub fits : fits_field field (first (usual_left old)) ≡ true
  pub few : old.left ≤ suc new.left
  pub whole : AreWhole new → AreWhole old

-- the next fields fit a table
pub record AreTaken (table : List Field) (old new : Usual) : Type 0 where
  pub fit : all_fit true table (usual_left old) ≡ true
  pub few : old.left ≤ length table + new.left
  pub whole : AreWhole new → AreWhole old

-- fields behind this code that were taken mean a performative
pub record IsUsual (code : ℕ) (old new : Usual) (meaning : Meaning) : Type 0 where
  pub kind : PerformativeKind
  pub named : descriptor_of_code code ≡ Some (Performative kind)
  pub taken : AreTaken (table_of kind) old new
  pub means : meaning ≡ meaning_of kind (usual_left old)

-- a list at the front of octets that a number describes, if the octets of its fields are whole
pub record IsUsualList (octets : List ℕ) (code : ℕ) (fields : Usual) (rest : List ℕ) : Type 0 where
  pub reads : AreWhole fields
      → listed (seen_at MAX_DEPTH 0 octets) ≡ Ok (Some (record { octets = 0x53 ∷ code ∷ []; part = Ulong code }, usual_left fields), rest)

-- what a value says as a field
abbrev pub uint_of : Seen → Option ℕ
uint_of value = uint_in value.part

abbrev pub boolean_of : Seen → Option Bool
boolean_of value = boolean_in value.part

abbrev pub binary_of : Seen → Option (List ℕ)
binary_of value = binary_in value.part

abbrev pub number_of : Seen → ℕ
number_of value = unwrap_or (uint_in value.part) 0

abbrev pub role_said : Seen → Role
role_said value = role_of (unwrap_or (boolean_in value.part) false)
