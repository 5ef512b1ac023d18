-- Octets by their offsets: what lies from one offset up to another.
use Rattle.std.specs.Prelude.{ℕ, ◌+◌, ◌-◌, List, take, drop, slice_index, Option, Some, None, nat_lt, if◌then◌else◌}
use Rattle.byteorder.specs.Endian.{big_number}
use Rattle.amqp_types.specs.declared.code.SizeWidth.{SizeWidth}
use Rattle.amqp_types.specs.Codes.{size_len}

-- the octets from one offset up to another
abbrev pub window : List ℕ → ℕ → ℕ → List ℕ
window octets at to = take (to - at) (drop at octets)

infixl 10 ◌>>=◌
-- one step after the other, as long as each gives something
abbrev pub ◌>>=◌ : {A B : Type 0} → Option A → (A → Option B) → Option B
(Some x) >>= f = f x
None >>= f = None

-- the octet at an offset in front of an end
unfoldable pub octet_in : List ℕ → ℕ → ℕ → Option ℕ
octet_in octets at to = if nat_lt at to then Some (slice_index octets at) else None

-- the offset behind so many octets in front of an end
unfoldable pub past : ℕ → ℕ → ℕ → Option ℕ
past count at to = if nat_lt (to - at) count then None else Some (at + count)

-- the number in a size or a count
abbrev pub number_in : SizeWidth → List ℕ → ℕ → ℕ
number_in width octets at = big_number (size_len width) (drop at octets)

-- where the octets behind a size begin, and where they end (part 1, 1.2.2)
unfoldable pub sized_in : SizeWidth → List ℕ → ℕ → ℕ → Option (ℕ × ℕ)
sized_in width octets at to = do
  first ← past (size_len width) at to
  end ← past (number_in width octets at) first to
  Some (first, end)

-- how many items there are, where they begin, and where they end (part 1, 1.2.3)
unfoldable pub counted_in : SizeWidth → List ℕ → ℕ → ℕ → Option (ℕ × ℕ × ℕ)
counted_in width octets at to = do
  whole ← sized_in width octets at to
  first ← past (size_len width) whole.0 whole.1
  if nat_lt (whole.1 - whole.0) (number_in width octets whole.0) then None else
      Some (number_in width octets whole.0, first, whole.1)
