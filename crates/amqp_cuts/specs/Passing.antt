-- Passing over values, by the offsets behind them.
use Rattle.std.specs.Prelude.{ℕ, zero, suc, ◌+◌, List, Option, Some, None, nat_lt, ◌&&◌, ◌==◌, if◌then◌else◌}
use Rattle.amqp_types.specs.declared.code.Text.{Text}
use Rattle.amqp_types.specs.declared.code.Kind.{Kind}
use Rattle.amqp_types.specs.declared.code.SizeWidth.{SizeWidth}
use Rattle.amqp_types.specs.Reading.{is_text, is_odd}
use Rattle.amqp_cuts.specs.declared.layout.Layout.{Layout}
use Rattle.amqp_cuts.specs.declared.layout.Layout.TheVariants.{Fixed, Boolean, UlongOctet, Ulong, Sized, Nested, Array, Described}
use Rattle.amqp_cuts.specs.declared.layout.ElementForm.{ElementForm}
use Rattle.amqp_cuts.specs.Layout.{layout_of}
use Rattle.amqp_cuts.specs.Offsets.{◌>>=◌, window, octet_in, past, sized_in, counted_in}

-- what reads from an offset up to an end, and gives the offset behind
abbrev pub Passes : Type 0
Passes = ℕ → ℕ → Option ℕ

-- the octet of a boolean is 0 or 1 (part 1, 1.6.2)
unfoldable pub past_boolean : List ℕ → Passes
past_boolean octets at to = do
  octet ← octet_in octets at to
  if nat_lt 1 octet then None else Some (at + 1)

-- a binary, a string or a symbol (part 1, 1.6.19 to 1.6.21)
unfoldable pub past_text : Text → SizeWidth → List ℕ → Passes
past_text text width octets at to = do
  sized ← sized_in width octets at to
  if is_text text (window octets sized.0 sized.1) then Some sized.1 else None

-- so many items, one after the other
unfoldable pub past_items : Passes → ℕ → Passes
past_items item zero at to = Some at
past_items item (suc n) at to = do
  next ← item at to
  past_items item n next to

-- the end, where it was reached
unfoldable pub all_past : Option ℕ → ℕ → Option ℕ
all_past None end = None
all_past (Some next) end = if next == end then Some end else None

-- a list or a map, whose items are passed over by item (part 1, 1.2.3)
unfoldable pub past_nested : Passes → Kind → SizeWidth → List ℕ → Passes
past_nested item kind width octets at to = do
  counted ← counted_in width octets at to
  if is_odd kind counted.0 then None else all_past (past_items item counted.0 counted.1 counted.2) counted.2

-- elements and nothing behind them, from their constructor on (part 1, 1.2.4)
unfoldable pub past_elements : (ℕ → ℕ → Option (ElementForm × ℕ)) → (ElementForm → Passes) → ℕ → Passes
past_elements constructor element n at to =
    if n == 0 && at == to then Some to else (do
      first ← constructor at to
      all_past (past_items (element first.0) n first.1 to) to)

-- an array (part 1, 1.2.4)
unfoldable pub past_array : (ℕ → ℕ → Option (ElementForm × ℕ)) → (ElementForm → Passes) → SizeWidth → List ℕ → Passes
past_array constructor element width octets at to = do
  counted ← counted_in width octets at to
  past_elements constructor element counted.0 counted.1 counted.2

-- a descriptor and the value that it describes (part 1, 1.1.2 and 1.2)
unfoldable pub past_described : Passes → Passes
past_described value at to = do
  described ← value at to
  value described to

-- what is behind the first octet, if that is one of a value
unfoldable pub past_laid : (Layout → Passes) → Option Layout → Passes
past_laid inner None at to = None
past_laid inner (Some layout) at to = inner layout at to

-- a value where so many levels are left: inner passes over what is behind its first octet
unfoldable pub past_value_by : (Layout → Passes) → ℕ → List ℕ → Passes
past_value_by inner zero octets at to = None
past_value_by inner (suc levels) octets at to = do
  first ← octet_in octets at to
  past_laid inner (layout_of first) (at + 1) to

-- what is behind the first octet, where value passes over the values nested in it, and constructor and
-- element over what is nested in an array
unfoldable pub past_data_by : Passes → (ℕ → ℕ → Option (ElementForm × ℕ)) → (ElementForm → Passes) → List ℕ → Layout → Passes
past_data_by value constructor element octets (Fixed width) at to = past width at to
past_data_by value constructor element octets Boolean at to = past_boolean octets at to
past_data_by value constructor element octets UlongOctet at to = past 1 at to
past_data_by value constructor element octets Ulong at to = past 8 at to
past_data_by value constructor element octets (Sized text width) at to = past_text text width octets at to
past_data_by value constructor element octets (Nested kind width) at to = past_nested value kind width octets at to
past_data_by value constructor element octets (Array width) at to = past_array constructor element width octets at to
past_data_by value constructor element octets Described at to = past_described value at to

-- how elements lie that have one descriptor more
abbrev pub one_tag_more : ElementForm × ℕ → ElementForm × ℕ
one_tag_more x = (record { tags = x.0.tags + 1; layout = x.0.layout }, x.1)

-- a descriptor and the constructor behind it (part 1, 1.2)
unfoldable pub tagged_in : Passes → (ℕ → ℕ → Option (ElementForm × ℕ)) → ℕ → ℕ → Option (ElementForm × ℕ)
tagged_in value inner at to = do
  described ← value at to
  behind ← inner described to
  Some (one_tag_more behind)

-- a constructor by what its first octet says: value passes over a descriptor, and inner reads the constructor behind it
unfoldable pub constructor_by : Passes → (ℕ → ℕ → Option (ElementForm × ℕ)) → Option Layout → ℕ → ℕ → Option (ElementForm × ℕ)
constructor_by value inner None at to = None
constructor_by value inner (Some Described) at to = tagged_in value inner at to
constructor_by value inner (Some layout) at to = Some (record { tags = 0; layout = layout }, at)

unfoldable mutual
  -- what is behind so many descriptors and the first octet of a value, where so many levels are left
  pub past_data : List ℕ → ℕ → ℕ → Layout → Passes
  past_data octets zero tags layout at to = None
  past_data octets (suc levels) zero layout at to =
      past_data_by (past_value_by (past_data octets levels zero) levels octets) (constructor_in octets levels) (λ form. past_data octets levels form.tags form.layout) octets layout at to
  past_data octets (suc levels) (suc tags) layout at to = past_data octets levels tags layout at to

  -- how the elements lie that a constructor describes, and the offset behind it, where so many levels are left (part 1, 1.2)
  pub constructor_in : List ℕ → ℕ → ℕ → ℕ → Option (ElementForm × ℕ)
  constructor_in octets zero at to = None
  constructor_in octets (suc levels) at to = do
    first ← octet_in octets at to
    constructor_by (past_value_by (past_data octets levels zero) levels octets) (constructor_in octets levels) (layout_of first) (at + 1) to

-- a value, where so many levels are left
unfoldable pub past_value : List ℕ → ℕ → Passes
past_value octets levels at to = past_value_by (past_data octets levels zero) levels octets at to

-- an element where it is known how it lies, else a value of its own
unfoldable pub past_item : List ℕ → ℕ → Option ElementForm → Passes
past_item octets levels None at to = past_value octets levels at to
past_item octets levels (Some form) at to = past_data octets levels form.tags form.layout at to
