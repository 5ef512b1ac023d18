-- What a value of the code stands for.
use Rattle.std.specs.Prelude.{◌≡◌, ℕ, true, false, List, Option, Some, None, Result, Ok, Err}
use Rattle.amqp_types.specs.declared.fault.ValueFaultKind.{ValueFaultKind}
use Rattle.amqp_types.specs.declared.code.Text.{Text}
use Rattle.amqp_types.specs.declared.code.Text.TheVariants as texts
use Rattle.amqp_types.specs.declared.value.Value.{Value}
use Rattle.amqp_types.specs.declared.value.Content.{Content}
use Rattle.amqp_types.specs.declared.value.Content.TheVariants as contents
use Rattle.amqp_types.specs.declared.sequence.Array as code_array
use Rattle.amqp_types.specs.declared.sequence.Items.{Items}
use Rattle.amqp_types.specs.Part as parts
use Rattle.amqp_types.specs.Part.{Part, Null, Boolean, Ubyte, Ushort, Uint, Ulong, Kept, Sized, Nested, Array, Described, Tagged, Seen}
use Rattle.amqp_types.specs.Reading.{is_text}
use Rattle.amqp_types.specs.Items.{items_in}
use Rattle.amqp_types.specs.Form.{kept_form}

-- what an array says
abbrev pub array_part : code_array.Array → Part
array_part array = Array (kept_form array.form) array.count array.body.now

-- what a value says
abbrev pub part_of : Content → Part
part_of contents.Null = Null
part_of (contents.Boolean b) = Boolean b
part_of (contents.Ubyte n) = Ubyte n
part_of (contents.Ushort n) = Ushort n
part_of (contents.Uint n) = Uint n
part_of (contents.Ulong n) = Ulong n
part_of (contents.Byte n) = parts.Byte n
part_of (contents.Short n) = parts.Short n
part_of (contents.Int n) = parts.Int n
part_of (contents.Long n) = parts.Long n
part_of (contents.Opaque opaque octets) = Kept opaque octets.now
part_of (contents.Binary octets) = Sized texts.Binary octets.now
part_of (contents.Str text) = Sized texts.Str text.now
part_of (contents.Symbol text) = Sized texts.Symbol text.now
part_of (contents.Nested kind sequence) = Nested kind sequence.count sequence.body.now
part_of (contents.Array array) = array_part array
part_of (contents.Tagged element) = Tagged element.descriptor.now element.constructor.now element.data.now
part_of (contents.Described pair) = Described pair.descriptor.now pair.value.now

-- a value, apart from where it lies in memory
abbrev pub view : Value → Seen
view value = record { octets = value.raw.now; part = part_of value.content }

-- the values that an iterator has not given yet
abbrev pub items_left : Items → List Seen
items_left items = items_in (kept_form items.form) items.left items.rest.now

-- a value that may be there
abbrev pub view_of : Option Value → Option Seen
view_of None = None
view_of (Some value) = Some (view value)

-- what the data of a type of fixed width was found to say
abbrev pub Says : Result Content ValueFaultKind → Result Part ValueFaultKind → Type 0
Says (Ok content) said = said ≡ Ok (part_of content)
Says (Err kind) said = said ≡ Err kind

-- the octets as a binary, a string or a symbol, where they may stand in one
abbrev pub IsTextOf : Option Content → Text → List ℕ → Type 0
IsTextOf None text octets = is_text text octets ≡ false
IsTextOf (Some content) text octets = (is_text text octets ≡ true) × (part_of content ≡ Sized text octets)
