-- What showing a capture leaves, and what its ending says of the octets.
use Rattle.std.specs.Prelude.{◌≡◌, ℕ, List, Option, Some, None, ⊤}
use Rattle.std.specs.Io.KnownBytes.{Appends}
use Rattle.capture_form.specs.declared.fault.FormFault.{FormFault}
use Rattle.capture_form.specs.declared.fault.FormKind.{FormKind}
use Rattle.capture_form.specs.Reading.{reading}
use Rattle.capture_form.specs.Laws.{records_behind}
use Rattle.capture_words.specs.declared.ending.Ending.{Ending}
use Rattle.capture_words.specs.declared.ending.Ending.TheVariants.{Whole, Malformed, NoMemory, Unreadable}

-- the known bytes gained some text
abbrev pub AppendsSome : Option (List ℕ) → Option (List ℕ) → Type 0
AppendsSome before after = (shown : List ℕ) × Appends before after shown

-- the ending that this first fault of a text has: none where the text is whole. Want of memory and a failed read say
-- nothing of the text
abbrev pub EndsBy : Option FormFault → Ending → Type 0
EndsBy fault Whole = fault ≡ None
EndsBy fault (Malformed offset) = (kind : FormKind) × (fault ≡ Some (record { offset = offset; kind = kind }))
EndsBy fault NoMemory = ⊤
EndsBy fault (Unreadable offset) = ⊤

-- the ending of octets that are read as the text of a capture
abbrev pub EndsText : List ℕ → Ending → Type 0
EndsText octets ending = EndsBy (reading octets).fault ending

-- the ending of octets that stand at an offset behind the head of a text, and are read as its records
abbrev pub EndsRecords : ℕ → List ℕ → Ending → Type 0
EndsRecords offset octets ending = EndsBy (records_behind offset octets).fault ending
