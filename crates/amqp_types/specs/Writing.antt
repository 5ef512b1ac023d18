-- The shortest octets of each value, and what a writer of them does.
use Rattle.std.specs.Prelude.{◌≡◌, ℕ, suc, ◌+◌, ◌-◌, ◌<◌, ◌≤◌, Bool, List, [], ◌∷◌, ◌++◌, length, slice_index, Result, Ok, nat_lt, ◌==◌, ◌&&◌, if◌then◌else◌}
use Rattle.std.specs.Result.{is_ok}
use Rattle.byteorder.specs.Endian.{big_bytes}
use Rattle.amqp_types.specs.declared.code.Text.{Text}
use Rattle.amqp_types.specs.declared.code.Text.TheVariants as texts
use Rattle.amqp_types.specs.declared.code.Kind.TheVariants as kinds
use Rattle.amqp_types.specs.declared.code.SizeWidth.{SizeWidth}
use Rattle.amqp_types.specs.declared.code.SizeWidth.TheVariants.{One, Four}
use Rattle.amqp_types.specs.Part.{Part, Nested, Described}
use Rattle.amqp_types.specs.Reading.{seen_at}
use Rattle.flow_counts.specs.declared.profile.TheConstants.{MAX_DEPTH}
use Rattle.amqp_types.specs.Grammar.{IsValue, AreItems}

-- the octets were appended whole, or nothing was (own rule)
abbrev pub Puts : {X E : Type 0} → List ℕ → List ℕ → Result X E → List ℕ → Type 0
Puts old new result octets = new ≡ (if is_ok result then old ++ octets else old)

-- octets that are read as this, whatever is behind them
abbrev pub IsReadAs : List ℕ → Part → Type 0
IsReadAs octets part = (rest : List ℕ) → seen_at MAX_DEPTH 0 (octets ++ rest) ≡ Ok (record { octets = octets; part = part }, rest)

-- numbers that are octets
abbrev pub AreOctets : List ℕ → Type 0
AreOctets octets = (i : ℕ) → slice_index octets i < 256

-- no octets that say this are fewer
abbrev pub IsShortest : List ℕ → Part → Type 0
IsShortest octets part = (levels : ℕ) (other : List ℕ) → AreOctets other → IsValue levels other part → length octets ≤ length other

-- octets that say this at any depth, and are read so; and no others that do are fewer
pub record IsWritten (octets : List ℕ) (part : Part) : Type 0 where
  pub is : (levels : ℕ) → IsValue (suc levels) octets part
  pub again : IsReadAs octets part
  pub shortest : IsShortest octets part

-- whether a number fits one octet
abbrev pub fits_octet : ℕ → Bool
fits_octet n = nat_lt n 256

-- null (part 1, 1.6.1)
unfoldable pub null_octets : List ℕ
null_octets = 0x40 ∷ []

-- a boolean, in its code alone (part 1, 1.6.2)
unfoldable pub boolean_octets : Bool → List ℕ
boolean_octets truth = (if truth then 0x41 else 0x42) ∷ []

-- an ubyte (part 1, 1.6.3)
unfoldable pub ubyte_octets : ℕ → List ℕ
ubyte_octets n = 0x50 ∷ n ∷ []

-- an ushort (part 1, 1.6.4)
unfoldable pub ushort_octets : ℕ → List ℕ
ushort_octets n = 0x60 ∷ big_bytes 2 n

-- an uint: none, one or four octets behind the code (part 1, 1.6.5)
unfoldable pub uint_octets : ℕ → List ℕ
uint_octets n = if n == 0 then 0x43 ∷ [] else if fits_octet n then 0x52 ∷ n ∷ [] else 0x70 ∷ big_bytes 4 n

-- an ulong: none, one or eight octets behind the code (part 1, 1.6.6)
unfoldable pub ulong_octets : ℕ → List ℕ
ulong_octets n = if n == 0 then 0x44 ∷ [] else if fits_octet n then 0x53 ∷ n ∷ [] else 0x80 ∷ big_bytes 8 n

-- the code of a binary, a string or a symbol, by how many octets its size has (part 1, 1.6.19 to 1.6.21)
abbrev pub text_code : Text → SizeWidth → ℕ
text_code texts.Binary One = 0xA0
text_code texts.Str One = 0xA1
text_code texts.Symbol One = 0xA3
text_code texts.Binary Four = 0xB0
text_code texts.Str Four = 0xB1
text_code texts.Symbol Four = 0xB3

-- a binary, a string or a symbol: its size takes one octet, where it fits (part 1, 1.2.2)
unfoldable pub text_octets : Text → List ℕ → List ℕ
text_octets text content =
    if fits_octet (length content) then text_code text One ∷ length content ∷ content
    else text_code text Four ∷ (big_bytes 4 (length content) ++ content)

-- a list of so many items: without any it is its code alone; size and count take one octet each, where both fit (part 1, 1.6.22)
unfoldable pub list_octets : ℕ → List ℕ → List ℕ
list_octets count body =
    if count == 0 then 0x45 ∷ [] else
    if fits_octet (length body + 1) && fits_octet count then 0xC0 ∷ (length body + 1) ∷ count ∷ body
    else 0xD0 ∷ (big_bytes 4 (length body + 4) ++ (big_bytes 4 count ++ body))

-- a list lies one level above its items (part 1, 1.2.3)
abbrev pub IsListOf : ℕ → List ℕ → Type 0
IsListOf count body = (levels : ℕ) → AreItems (IsValue levels) count body → IsValue (suc levels) (list_octets count body) (Nested kinds.List count body)

-- how deep the items of a list may be nested
abbrev pub levels_in_list : ℕ
levels_in_list = MAX_DEPTH - 1

-- the descriptor of a performative, a terminus, a state or an error, by its code: an ulong of one octet (part 1, 1.6.6)
abbrev pub descriptor_octets : ℕ → List ℕ
descriptor_octets code = 0x53 ∷ code ∷ []

-- a list that a descriptor describes (part 1, 1.2 and 1.4)
abbrev pub described_list_octets : ℕ → ℕ → List ℕ → List ℕ
described_list_octets code count body = 0x00 ∷ (descriptor_octets code ++ list_octets count body)

-- a described list lies two levels above its fields (part 1, 1.1.2 and 1.2)
abbrev pub IsDescribedListOf : ℕ → ℕ → List ℕ → Type 0
IsDescribedListOf code count body = (levels : ℕ) → AreItems (IsValue levels) count body
    → IsValue (suc (suc levels)) (described_list_octets code count body) (Described (descriptor_octets code) (list_octets count body))

-- how deep the fields of a described list may be nested
abbrev pub levels_in_described : ℕ
levels_in_described = MAX_DEPTH - 2
