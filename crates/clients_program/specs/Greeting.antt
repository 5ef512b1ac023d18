-- A message, by its number, which counts from 1.
use Rattle.std.specs.Prelude.{ℕ, zero, suc, ◌-◌, ◌%◌, ◌==◌, if◌then◌else◌, List, [], ◌∷◌, ◌++◌, Option, Some, None, Ok, Err, option_and_then, codes, decimal}
use Rattle.std.specs.Int.{w32, to_be_bytes}
use Rattle.flow_counts.specs.declared.profile.TheConstants.{MAX_DEPTH}
use Rattle.amqp_types.specs.declared.code.Text.TheVariants as texts
use Rattle.amqp_types.specs.Part.{Seen}
use Rattle.amqp_types.specs.Items.{descriptor_of, described_of}
use Rattle.amqp_types.specs.Reading.{Read, seen_at}
use Rattle.amqp_types.specs.Typed.{ulong_in, str_in}
use Rattle.amqp_types.specs.Writing.{ulong_octets, text_octets}
use Rattle.amqp_perf.specs.declared.descriptor.Outcome.{Outcome}
use Rattle.amqp_perf.specs.declared.descriptor.Outcome.TheVariants.{Accepted, Rejected, Released, Modified}
use Rattle.clients_program.specs.Said.{sending, frame_said}

-- its text
abbrev pub greeting_text : ℕ → List ℕ
greeting_text number = codes "greeting " ++ decimal number

-- a section that is one value, here a text: what its descriptor is (part 3, 3.2.8)
abbrev pub amqp_value : ℕ
amqp_value = 0x77

abbrev pub section_octets : List ℕ → List ℕ
section_octets text = 0x00 ∷ (ulong_octets amqp_value ++ text_octets texts.Str text)

-- the text of a value that this descriptor describes
abbrev pub text_behind : Option ℕ → Option Seen → Option (List ℕ)
text_behind (Some code) (Some value) = if code == amqp_value then str_in value.part else None
text_behind code value = None

-- the text of a section that was read, where nothing is behind it
abbrev pub text_of_section : Read Seen → Option (List ℕ)
text_of_section (Ok (section, [])) =
    text_behind (option_and_then (λ (descriptor : Seen). ulong_in descriptor.part) (descriptor_of section.part)) (described_of section.part)
text_of_section (Ok (section, b ∷ rest)) = None
text_of_section (Err fault) = None

-- the text that a message is, if it is one section with a text
abbrev pub text_said : List ℕ → Option (List ℕ)
text_said message = text_of_section (seen_at MAX_DEPTH 0 message)

-- the frame that sends it: its delivery-id counts from 0, and is its tag too, in four octets
abbrev pub message_octets : ℕ → List ℕ
message_octets number = frame_said (sending (number - 1) (to_be_bytes w32 (number - 1))) (section_octets (greeting_text number))

-- the consumer rejects each third
abbrev pub decision : ℕ → Outcome
decision number = if number % 3 == 0 then Rejected else Accepted

-- how so many messages are decided, the first one first
abbrev pub decisions : ℕ → List Outcome
decisions zero = []
decisions (suc n) = decisions n ++ decision (suc n) ∷ []

-- an outcome in a word
abbrev pub word_of : Outcome → List ℕ
word_of Accepted = codes "accepted"
word_of Rejected = codes "rejected"
word_of Released = codes "released"
word_of Modified = codes "modified"
