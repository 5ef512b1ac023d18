-- What writing the packets of a capture leaves.
use Rattle.std.specs.Prelude.{◌≡◌, ℕ, List, [], ◌++◌, take, Option, Some, IfSome}
use Rattle.capture_form.specs.declared.records.Record.{Record}
use Rattle.capture_form.specs.Laws.{records_behind}
use Rattle.capture_form.specs.Reading.{reading}
use Rattle.capture_packets.specs.Text.{packets_text}
use Rattle.capture_words.specs.declared.ending.Ending.{Ending}
use Rattle.capture_words.specs.declared.ending.Ending.TheVariants.{Whole, Malformed, NoMemory, Unreadable}
use Rattle.capture_words.specs.Shown.{EndsRecords, EndsText}

-- the first ones of records
abbrev pub AreFirstOf : List Record → List Record → Type 0
AreFirstOf all read = (others : List Record) × (all ≡ read ++ others)

-- what was read of the whole records of a text: all of them, or the first ones where the reading was given up
abbrev pub AreReadOf : List Record → List Record → Ending → Type 0
AreReadOf all read Whole = all ≡ read
AreReadOf all read (Malformed offset) = all ≡ read
AreReadOf all read NoMemory = AreFirstOf all read
AreReadOf all read (Unreadable offset) = AreFirstOf all read

-- what a writer held became these octets behind the same front
abbrev pub Turns : Option (List ℕ) → Option (List ℕ) → List ℕ → List ℕ → Type 0
Turns before after held holds = (front : List ℕ) → before ≡ Some (front ++ held) → after ≡ Some (front ++ holds)

-- a writer holds the packets of what was read, behind what it held; the ending is that of all the octets that the reader
-- is known to give
pub record PacksText (known before after : Option (List ℕ)) (ending : Ending) : Type 0 where
  pub read : List Record
  pub text : (front : List ℕ) → before ≡ Some front → after ≡ Some (front ++ packets_text read)
  pub ends : IfSome known (λ octets. EndsText octets ending)
  pub whole : IfSome known (λ octets. AreReadOf (reading octets).records read ending)

-- a write failed: a writer holds the first octets of the packets of the records that were read, behind what it held
pub record StopsText (known before after : Option (List ℕ)) : Type 0 where
  pub read : List Record
  pub taken : ℕ
  pub text : (front : List ℕ) → before ≡ Some front → after ≡ Some (front ++ take taken (packets_text read))
  pub first : IfSome known (λ octets. AreFirstOf (reading octets).records read)

-- the same of records that stand at an offset, behind the head of a text
pub record PacksRecords (offset : ℕ) (left before after : Option (List ℕ)) (ending : Ending) : Type 0 where
  pub read : List Record
  pub text : Turns before after (packets_text []) (packets_text read)
  pub ends : IfSome left (λ octets. EndsRecords offset octets ending)
  pub whole : IfSome left (λ octets. AreReadOf (records_behind offset octets).records read ending)

pub record StopsRecords (offset : ℕ) (left before after : Option (List ℕ)) : Type 0 where
  pub read : List Record
  pub taken : ℕ
  pub text : Turns before after (packets_text []) (take taken (packets_text read))
  pub first : IfSome left (λ octets. AreFirstOf (records_behind offset octets).records read)
