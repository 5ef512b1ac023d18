-- What is written of a SASL frame says the same again.
use Rattle.std.proofs.Common.{◌≡◌, refl, sym, ap, subst, ◌∙◌, ℕ, ◌<◌, ◌^◌, Bool, true, false, List, [], ◌∷◌, map, length, Option, Some, None, Ok, option_map, unwrap_or, IsAscii, arith}
use Rattle.amqp_types.specs.declared.code.Text.TheVariants as texts
use Rattle.amqp_types.specs.declared.code.Kind.TheVariants as kinds_of_lists
use Rattle.amqp_types.specs.declared.code.SizeWidth.TheVariants.{One}
use Rattle.amqp_types.specs.declared.code.Code.TheVariants as codes_of_values
use Rattle.amqp_types.specs.Codes.{code_of, scalar_of_code}
use Rattle.amqp_types.specs.Part.{Part, Ulong, Nested, Array, Seen, code_alone}
use Rattle.amqp_types.specs.Items.{items_in}
use Rattle.amqp_types.specs.Typed.{ubyte_in, binary_in, str_in, symbol_in, array_in}
use Rattle.amqp_types.specs.Grammar.{IsValue}
use Rattle.amqp_types.specs.Reading.{octets_at, sized_at, is_text, text_at, counted_at, items_at, elements_at, array_at, coded_at, value_by, seen_by, data_by, element_by, constructor_by, data_at, constructor_at, value_at, seen_at, element_at, item_at}
use Rattle.flow_counts.specs.declared.profile.TheConstants.{MAX_DEPTH}
use Rattle.amqp_types.specs.Writing.{levels_in_described, ubyte_octets, list_octets, descriptor_octets}
use Rattle.amqp_types.proofs.Deeper.{value_deeper}
use Rattle.amqp_types.proofs.Written.{list_nested, text_written, ubyte_written}
use Rattle.amqp_types.proofs.Nested.{value_is}
use Rattle.amqp_types.proofs.Values.{seen_found}
use Rattle.amqp_perf.specs.declared.table.FieldType.TheVariants as types
use Rattle.amqp_perf.specs.Tables.{mandatory, optional}
use Rattle.amqp_perf.specs.Slots.{text_value, kept_value, or_null, values_of, octets_of, IsShort, AreShort, CanStand, AllCanStand}
use Rattle.amqp_perf.proofs.Slots.{same_at, Suits, AllSuit, fit_values, AreAt, stand_values, are_items, values_long, fields_nested, descriptor_is}
use Rattle.amqp_perf.proofs.Again.{are_values}
use Rattle.amqp_frames.specs.declared.sasl.SaslKind.{SaslKind}
use Rattle.amqp_frames.specs.declared.sasl.SaslKind.TheVariants.{Mechanisms, Init, Outcome}
use Rattle.amqp_frames.specs.Sasl.{Saying, AMechanisms, AnInit, AnOutcome, InitFields, code_of_kind, kind_of_code, kind_named, sasl_table, saying_of, anonymous_name, offers_anonymous}
use Rattle.amqp_frames.specs.SaslGrammar.{IsSasl}
use Rattle.amqp_frames.specs.SaslWriting.{mechanisms_octets, mechanisms_slots, init_slots, outcome_slots, kind_of_saying, sasl_slots, sasl_octets, IsWritableSasl}

-- ---- without the absent fields at the end a frame says the same

trimmed : (kind : SaslKind) (ss : List (Option Seen)) → saying_of kind (values_of ss) ≡ saying_of kind (map or_null ss)
trimmed Mechanisms ss = rw (same_at (λ v. offers_anonymous (array_in v.part)) refl 0 ss) refl
trimmed Init ss =
    rw (same_at (λ v. unwrap_or (symbol_in v.part) []) refl 0 ss, same_at (λ v. binary_in v.part) refl 1 ss, same_at (λ v. str_in v.part) refl 2 ss) refl
trimmed Outcome ss = rw (same_at (λ v. unwrap_or (ubyte_in v.part) 0) refl 0 ss) refl

-- ---- a list that says something

named : (kind : SaslKind) → kind_named (Ulong (code_of_kind kind)) ≡ Some kind
unfolding kind_of_code
named Mechanisms = refl
named Init = refl
named Outcome = refl

-- fields that fit the table of their kind and say something say it again
again_by : (s : Saying) → AllCanStand levels_in_described (sasl_slots s) → AreShort (sasl_slots s) → AllSuit (sasl_table (kind_of_saying s)) (sasl_slots s)
    → s ≡ saying_of (kind_of_saying s) (map or_null (sasl_slots s)) → IsSasl (sasl_octets s) s
again_by s can few suit means =
    let kind = kind_of_saying s in
    let code = code_of_kind kind in
    let vs = values_of (sasl_slots s) in
    let at : AreAt 30 vs = stand_values 29 (sasl_slots s) can in
    let fits : length vs < 2 ^ 32 = omega (arith, values_long 30 vs at) in
    let list : IsValue 31 (list_octets (length vs) (octets_of vs)) (Nested kinds_of_lists.List (length vs) (octets_of vs)) = list_nested (length vs) (octets_of vs) few fits 30 (are_items 30 vs at) in
    record {
      descriptor = descriptor_octets code;
      described = list_octets (length vs) (octets_of vs);
      whole = fields_nested 29 code (sasl_slots s) can few;
      says = Ulong code;
      descriptor_is = descriptor_is 31 code;
      kind = kind;
      names = named kind;
      count = length vs;
      body = octets_of vs;
      list = value_deeper 31 MAX_DEPTH (list_octets (length vs) (octets_of vs)) (Nested kinds_of_lists.List (length vs) (octets_of vs)) (omega arith) list;
      values = vs;
      items = are_values 30 vs (omega arith) at;
      fit = fit_values (sasl_table kind) (sasl_slots s) suit;
      means = means ∙ sym (trimmed kind (sasl_slots s));
    }

-- ---- mechanisms

-- an array of one symbol, or of nothing
abbrev mechanisms_part : Bool → Part
mechanisms_part true = Array (Some (code_alone 0xA3 (codes_of_values.Sized texts.Symbol One))) 1 (9 ∷ anonymous_name)
mechanisms_part false = Array None 0 []

abbrev mechanisms_seen : Bool → Seen
mechanisms_seen anonymous = record { octets = mechanisms_octets anonymous; part = mechanisms_part anonymous }

mechanisms_read : (anonymous : Bool) → seen_at levels_in_described 0 (mechanisms_octets anonymous) ≡ Ok (mechanisms_seen anonymous, [])
unfolding seen_at value_at seen_by value_by coded_at code_of scalar_of_code data_at data_by array_at counted_at sized_at octets_at elements_at items_at element_by text_at is_text constructor_at constructor_by
mechanisms_read true = refl
mechanisms_read false = refl

mechanisms_is : (anonymous : Bool) → IsValue levels_in_described (mechanisms_octets anonymous) (mechanisms_part anonymous)
mechanisms_is anonymous = (seen_found levels_in_described 0 (mechanisms_octets anonymous) (mechanisms_seen anonymous, []) (mechanisms_read anonymous)).is

mechanisms_kept : (anonymous : Bool) → kept_value (mechanisms_octets anonymous) ≡ mechanisms_seen anonymous
mechanisms_kept anonymous =
    ap (λ (x : Seen). record { octets = mechanisms_octets anonymous; part = x.part })
    (value_is (mechanisms_octets anonymous) (mechanisms_part anonymous) (value_deeper levels_in_described MAX_DEPTH (mechanisms_octets anonymous) (mechanisms_part anonymous) (omega arith) (mechanisms_is anonymous)))

part_stands : (anonymous : Bool) → CanStand levels_in_described (Some (mechanisms_seen anonymous))
part_stands true = (mechanisms_is true, tt)
part_stands false = (mechanisms_is false, tt)

part_suits : (anonymous : Bool) → Suits (mandatory types.Symbols) (Some (mechanisms_seen anonymous))
unfolding items_in item_at element_at element_by data_at data_by text_at sized_at octets_at is_text
part_suits true = (refl, refl)
part_suits false = (refl, refl)

part_offers : (anonymous : Bool) → anonymous ≡ offers_anonymous (array_in (mechanisms_part anonymous))
unfolding items_in item_at element_at element_by data_at data_by text_at sized_at octets_at is_text
part_offers true = refl
part_offers false = refl

pub mechanisms_can : (anonymous : Bool) → AllCanStand levels_in_described (mechanisms_slots anonymous)
mechanisms_can anonymous = (subst (λ (v : Seen). CanStand levels_in_described (Some v)) (sym (mechanisms_kept anonymous)) (part_stands anonymous), tt)

pub mechanisms_again : (anonymous : Bool) → AreShort (mechanisms_slots anonymous) → IsSasl (sasl_octets (AMechanisms anonymous)) (AMechanisms anonymous)
mechanisms_again anonymous few =
    let kept = sym (mechanisms_kept anonymous) in
    again_by (AMechanisms anonymous) (mechanisms_can anonymous) few (subst (λ (v : Seen). Suits (mandatory types.Symbols) (Some v)) kept (part_suits anonymous), tt)
    (ap AMechanisms (part_offers anonymous ∙ ap (λ (v : Seen). offers_anonymous (array_in v.part)) kept))

-- ---- an init

pub symbol_can : (symbol : List ℕ) → IsAscii symbol → IsShort symbol → CanStand levels_in_described (Some (text_value texts.Symbol symbol))
symbol_can symbol ascii short = ((text_written texts.Symbol symbol short ascii).is 29, (short, ascii))

response_again : (octets : Option (List ℕ)) → binary_in (or_null (option_map (text_value texts.Binary) octets)).part ≡ octets
response_again None = refl
response_again (Some octets) = refl

response_suits : (octets : Option (List ℕ)) → Suits (optional types.Binary) (option_map (text_value texts.Binary) octets)
response_suits None = refl
response_suits (Some octets) = (refl, refl)

host_again : (text : Option (List ℕ)) → str_in (or_null (option_map (text_value texts.Str) text)).part ≡ text
host_again None = refl
host_again (Some text) = refl

host_suits : (text : Option (List ℕ)) → Suits (optional types.Str) (option_map (text_value texts.Str) text)
host_suits None = refl
host_suits (Some text) = (refl, refl)

pub init_again : (init : InitFields) → AllCanStand levels_in_described (init_slots init) → AreShort (init_slots init) → IsSasl (sasl_octets (AnInit init)) (AnInit init)
init_again init can few =
    again_by (AnInit init) can few ((refl, refl), (response_suits init.initial_response, (host_suits init.hostname, tt)))
    (rw (response_again init.initial_response, host_again init.hostname) refl)

-- ---- an outcome

pub outcome_can : (code : ℕ) → AllCanStand levels_in_described (outcome_slots code)
outcome_can code = (((ubyte_written code).is 29, tt), tt)

pub outcome_again : (code : ℕ) → AreShort (outcome_slots code) → IsSasl (sasl_octets (AnOutcome code)) (AnOutcome code)
outcome_again code few = again_by (AnOutcome code) (outcome_can code) few ((refl, refl), (refl, tt)) refl

-- ---- what can always be written

pub mechanisms_writable : (anonymous : Bool) → IsWritableSasl (AMechanisms anonymous)
unfolding list_octets
mechanisms_writable true = record { texts = tt; few = omega arith; fits = omega arith }
mechanisms_writable false = record { texts = tt; few = omega arith; fits = omega arith }

pub outcome_writable : (code : ℕ) → IsWritableSasl (AnOutcome code)
unfolding ubyte_octets list_octets
outcome_writable code = record { texts = tt; few = omega arith; fits = omega arith }
