-- What a SASL frame says as it is written (part 5 of the standard, section 5.3.3), and what may be written.
use Rattle.std.specs.Prelude.{ℕ, ◌<◌, ◌^◌, Bool, true, false, List, [], ◌∷◌, Option, Some, option_map, IsAscii}
use Rattle.amqp_types.specs.declared.code.Text.TheVariants as texts
use Rattle.amqp_types.specs.Part.{Seen}
use Rattle.amqp_perf.specs.Slots.{ubyte_value, text_value, kept_value, fields_octets, IsShort, AreShort}
use Rattle.amqp_perf.specs.Writing.{IfThere}
use Rattle.amqp_frames.specs.declared.sasl.SaslKind.{SaslKind}
use Rattle.amqp_frames.specs.declared.sasl.SaslKind.TheVariants.{Mechanisms, Init, Outcome}
use Rattle.amqp_frames.specs.Sasl.{Saying, AMechanisms, AnInit, AnOutcome, InitFields, code_of_kind, anonymous_name}
use Rattle.amqp_frames.specs.Writing.{frame_size}

-- an array of the symbol ANONYMOUS alone, or of nothing (part 1, 1.6.24)
abbrev pub mechanisms_octets : Bool → List ℕ
mechanisms_octets true = 0xE0 ∷ 12 ∷ 1 ∷ 0xA3 ∷ 9 ∷ anonymous_name
mechanisms_octets false = 0xE0 ∷ 1 ∷ 0 ∷ []

abbrev pub mechanisms_slots : Bool → List (Option Seen)
mechanisms_slots anonymous = Some (kept_value (mechanisms_octets anonymous)) ∷ []

abbrev pub init_slots : InitFields → List (Option Seen)
init_slots init =
    Some (text_value texts.Symbol init.mechanism) ∷ option_map (text_value texts.Binary) init.initial_response
    ∷ option_map (text_value texts.Str) init.hostname ∷ []

abbrev pub outcome_slots : ℕ → List (Option Seen)
outcome_slots code = Some (ubyte_value code) ∷ []

abbrev pub kind_of_saying : Saying → SaslKind
kind_of_saying (AMechanisms anonymous) = Mechanisms
kind_of_saying (AnInit init) = Init
kind_of_saying (AnOutcome code) = Outcome

-- the fields, each in its place
abbrev pub sasl_slots : Saying → List (Option Seen)
sasl_slots (AMechanisms anonymous) = mechanisms_slots anonymous
sasl_slots (AnInit init) = init_slots init
sasl_slots (AnOutcome code) = outcome_slots code

-- the body of the frame
abbrev pub sasl_octets : Saying → List ℕ
sasl_octets saying = fields_octets (code_of_kind (kind_of_saying saying)) (sasl_slots saying)

-- a mechanism is a symbol (5.3.3.2)
abbrev pub HasWritableTexts : Saying → Type 0
HasWritableTexts (AnInit init) = IsAscii init.mechanism × IsShort init.mechanism × IfThere IsShort init.initial_response × IfThere IsShort init.hostname
HasWritableTexts other = Unit {0}

-- what can be written: its mechanism is ASCII, and the sizes of its texts, its fields and its frame fit four octets
pub record IsWritableSasl (saying : Saying) : Type 0 where
  pub texts : HasWritableTexts saying
  pub few : AreShort (sasl_slots saying)
  pub fits : frame_size (sasl_octets saying) < 2 ^ 32
