-- The frames that were written on a connection, by the numbers of their records (own rules).
use Rattle.std.specs.Prelude.{◌≡◌, ℕ, ◌+◌, Bool, ◌&&◌, List, [], ◌∷◌, ◌++◌, Option, Some, None, nat_le, nat_eq, option_and_then, slice_get, if◌then◌else◌, ◌==◌}
use Rattle.std.specs.declared.vec.Vec.{Vec}
use Rattle.indexmap.specs.IndexMap.{get}
use Rattle.capture_form.specs.declared.records.Record.{Record}
use Rattle.capture_form.specs.declared.records.What.{What}
use Rattle.capture_form.specs.declared.records.What.TheVariants as whats
use Rattle.capture_form.specs.Text.{frame_of}
use Rattle.route_items.specs.declared.written_frames.WrittenFrames.{WrittenFrames}
use Rattle.route_items.specs.Inputs.{is_output}

-- ---- what is asked

-- the record writes a frame on the connection
abbrev pub writes_on : ℕ → Record → Bool
writes_on c r = is_output r.what && (r.connection == c)

-- of records that are counted from n, the first that writes a frame on the connection and has a number of at least `from`
abbrev pub first_out : ℕ → ℕ → ℕ → List Record → Option (ℕ × List ℕ)
first_out c from n [] = None
first_out c from n (r ∷ rs) = if nat_le from n && writes_on c r then Some (n, frame_of r.what) else first_out c from (n + 1) rs

-- the number, with the frame that the record of that number writes
abbrev pub out_of : ℕ → What → Option (ℕ × List ℕ)
out_of m (whats.Out frame) = Some (m, frame)
out_of m other = None

abbrev pub frame_at : ℕ → List Record → Option (ℕ × List ℕ)
frame_at m records = option_and_then (λ r. out_of m r.what) (slice_get records m)

-- ---- what is kept

-- the numbers of all that do
abbrev pub numbers_from : ℕ → ℕ → List Record → List ℕ
numbers_from c n [] = []
numbers_from c n (r ∷ rs) = if writes_on c r then n ∷ numbers_from c (n + 1) rs else numbers_from c (n + 1) rs

abbrev pub listed : {A : Type 0} → Option (Vec ℕ A) → List ℕ
listed None = []
listed (Some numbers) = numbers.items

abbrev pub numbers_in : WrittenFrames → ℕ → List ℕ
numbers_in table c = listed (get nat_eq table.entries c)

-- for each connection the numbers of its frames are kept
abbrev pub AreWritten : WrittenFrames → List Record → Type 0
AreWritten table records = (c : ℕ) → numbers_in table c ≡ numbers_from c 0 records

-- and perhaps those of records that never came behind these
pub record HasWritten (table : WrittenFrames) (records : List Record) : Type 0 where
  pub more : List Record
  pub are : AreWritten table (records ++ more)

-- ---- what changes

abbrev pub AreSame : WrittenFrames → WrittenFrames → Type 0
AreSame earlier later = (c : ℕ) → numbers_in later c ≡ numbers_in earlier c

-- the number has come last for the connection
abbrev pub IsAdded : ℕ → ℕ → WrittenFrames → WrittenFrames → Type 0
IsAdded c number earlier later = (at : ℕ) → numbers_in later at ≡ (if c == at then numbers_in earlier at ++ number ∷ [] else numbers_in earlier at)
