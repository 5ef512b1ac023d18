-- What the frames of a SASL exchange say (part 5 of the standard, section 5.3.3).
use Rattle.std.specs.Prelude.{ℕ, Bool, false, List, [], ◌∷◌, Option, Some, None, unwrap_or, option_and_then, codes, ◌==◌, if◌then◌else◌}
use Rattle.std.specs.List.{list_any}
use Rattle.std.specs.Str.{bytes_eq}
use Rattle.amqp_types.specs.Part.{Part, Seen}
use Rattle.amqp_types.specs.Typed.{ubyte_in, ulong_in, binary_in, str_in, symbol_in, array_in}
use Rattle.amqp_perf.specs.declared.table.Field.{Field}
use Rattle.amqp_perf.specs.declared.table.FieldType.TheVariants as types
use Rattle.amqp_perf.specs.FieldPlaces.{field_at}
use Rattle.amqp_perf.specs.Tables.{mandatory, optional}
use Rattle.amqp_frames.specs.declared.sasl.SaslKind.{SaslKind}
use Rattle.amqp_frames.specs.declared.sasl.SaslKind.TheVariants.{Mechanisms, Init, Outcome}

-- an init, without the place of its texts (5.3.3.2)
pub record InitFields : Type 0 where
  pub mechanism : List ℕ
  pub initial_response : Option (List ℕ)
  pub hostname : Option (List ℕ)

abbrev pub init_with : List ℕ → Option (List ℕ) → Option (List ℕ) → InitFields
init_with mechanism response hostname = record { mechanism = mechanism; initial_response = response; hostname = hostname }

-- what a frame of a SASL exchange says
pub data Saying : Type 0 where
  -- whether ANONYMOUS is among the mechanisms that are offered (5.3.3.1)
  AMechanisms : Bool → Saying
  AnInit : InitFields → Saying
  -- the code of how the exchange ended (5.3.3.5 and 5.3.3.6)
  AnOutcome : ℕ → Saying

-- ---- descriptors

-- the code of a descriptor
abbrev pub code_of_kind : SaslKind → ℕ
code_of_kind Mechanisms = 0x40
code_of_kind Init = 0x41
code_of_kind Outcome = 0x44

-- what a descriptor names that is a number
unfoldable pub kind_of_code : ℕ → Option SaslKind
kind_of_code n = if n == 0x40 then Some Mechanisms else if n == 0x41 then Some Init else if n == 0x44 then Some Outcome else None

-- what a descriptor names that is a symbol
unfoldable pub kind_of_name : List ℕ → Option SaslKind
kind_of_name name =
    if bytes_eq name (codes "amqp:sasl-mechanisms:list") then Some Mechanisms else
    if bytes_eq name (codes "amqp:sasl-init:list") then Some Init else
    if bytes_eq name (codes "amqp:sasl-outcome:list") then Some Outcome else None

-- what a descriptor names by its code, or else by its name
abbrev pub kind_by : Option ℕ → Option (List ℕ) → Option SaslKind
kind_by (Some code) name = kind_of_code code
kind_by None name = option_and_then kind_of_name name

-- what a value names that is a descriptor: an ulong or a symbol (part 1, 1.5)
abbrev pub kind_named : Part → Option SaslKind
kind_named part = kind_by (ulong_in part) (symbol_in part)

-- ---- fields

-- the fields of a frame's list
abbrev pub sasl_table : SaslKind → List Field
-- sasl-server-mechanisms; own rule: always an array (5.3.3.1)
sasl_table Mechanisms = mandatory types.Symbols ∷ []
-- mechanism, initial-response, hostname (5.3.3.2)
sasl_table Init = mandatory types.Symbol ∷ optional types.Binary ∷ optional types.Str ∷ []
-- code, additional-data, which is passed over (5.3.3.5)
sasl_table Outcome = mandatory types.Ubyte ∷ optional types.Any ∷ []

-- the name of the mechanism that asks for nothing
abbrev pub anonymous_name : List ℕ
anonymous_name = codes "ANONYMOUS"

abbrev pub is_anonymous : Option (List ℕ) → Bool
is_anonymous (Some name) = bytes_eq name anonymous_name
is_anonymous None = false

-- one of these is the symbol ANONYMOUS
abbrev pub names_anonymous : List Seen → Bool
names_anonymous values = list_any (λ value. is_anonymous (symbol_in value.part)) values

abbrev pub offers_anonymous : Option (List Seen) → Bool
offers_anonymous (Some values) = names_anonymous values
offers_anonymous None = false

-- what fields say that fit the table of their frame
abbrev pub saying_of : SaslKind → List Seen → Saying
saying_of Mechanisms fields = AMechanisms (offers_anonymous (array_in (field_at 0 fields).part))
saying_of Init fields =
    AnInit (init_with (unwrap_or (symbol_in (field_at 0 fields).part) []) (binary_in (field_at 1 fields).part) (str_in (field_at 2 fields).part))
saying_of Outcome fields = AnOutcome (unwrap_or (ubyte_in (field_at 0 fields).part) 0)
