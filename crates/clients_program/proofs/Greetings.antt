-- The texts of messages are short, and are read as they are written.
use Rattle.std.proofs.Common.{◌≡◌, ℕ, ◌+◌, ◌<◌, ◌≤◌, ◌^◌, List, [], ◌∷◌, ◌++◌, length, Some, Ok, IsUtf8, codes, decimal, lit<, refl, sym, ap, arith}
use Rattle.std.proofs.lemmas.Fmt.{length-decimal-le}
use Rattle.std.proofs.lemmas.List.{append-nil, length-append}
use Rattle.flow_counts.specs.declared.profile.TheConstants.{MAX_DEPTH}
use Rattle.amqp_types.specs.declared.code.Code.TheVariants as kinds_of_codes
use Rattle.amqp_types.specs.declared.code.Text.TheVariants as texts
use Rattle.amqp_types.specs.Codes.{code_of}
use Rattle.amqp_types.specs.Grammar.{IsValue, IsData}
use Rattle.amqp_types.specs.Part.{Part, Ulong, Sized, Described}
use Rattle.amqp_types.specs.Reading.{seen_at}
use Rattle.amqp_types.specs.Writing.{IsWritten, ulong_octets, text_octets}
use Rattle.amqp_types.proofs.Front.{front_read}
use Rattle.amqp_types.proofs.Nested.{value_is}
use Rattle.amqp_types.proofs.Shortest.{ulong_long, text_long}
use Rattle.amqp_types.proofs.Written.{ulong_written, text_written}
use Rattle.amqp_perf.specs.Meaning.{Meaning}
use Rattle.amqp_perf.specs.Writing.{performative_octets}
use Rattle.amqp_frames.specs.Writing.{frame_size}
use Rattle.clients_program.specs.Greeting.{greeting_text, amqp_value, section_octets, text_said}
use Rattle.clients_program.specs.Said.{IsSmall}

pub greeting_short : (number : ℕ) → number < 256 → length (greeting_text number) ≤ 20
greeting_short number small =
    omega (arith, length-append (codes "greeting ") (decimal number), length-decimal-le 3 number (omega arith) (omega arith) (omega arith))

-- ---- sections

pub section_long : (text : List ℕ) → length (section_octets text) ≤ 20 + length text
section_long text = omega (arith, length-append (ulong_octets amqp_value) (text_octets texts.Str text), ulong_long amqp_value, text_long texts.Str text)

-- a value behind a descriptor is a value
pair_is : (descriptor octets : List ℕ) (code part : Part) → IsWritten descriptor code → IsWritten octets part → IsValue MAX_DEPTH (0x00 ∷ (descriptor ++ octets)) (Described descriptor octets)
unfolding IsValue IsData code_of
pair_is descriptor octets code part code_is part_is = (
  kinds_of_codes.Described,
  refl,
  record {
    descriptor = descriptor;
    described = octets;
    parts = refl;
    descriptor_says = code;
    descriptor_is = code_is.is 30;
    described_says = part;
    described_is = part_is.is 30;
    is = refl;
  },
)

-- a text that is written as a section is read again
pub section_again : (text : List ℕ) → IsUtf8 text → length text < 2 ^ 32 → text_said (section_octets text) ≡ Some text
section_again text utf8 short =
    let descriptor = ulong_octets amqp_value in
    let octets = text_octets texts.Str text in
    let code_is : IsWritten descriptor (Ulong amqp_value) = ulong_written amqp_value (lit< tt) in
    let text_is : IsWritten octets (Sized texts.Str text) = text_written texts.Str text short utf8 in
    let section = section_octets text in
    let part = Described descriptor octets in
    let read : seen_at MAX_DEPTH 0 section ≡ Ok (record { octets = section; part = part }, []) =
    front_read section (record { octets = section; part = part }) [] (record {
      parts = sym (append-nil section);
      is = pair_is descriptor octets (Ulong amqp_value) (Sized texts.Str text) code_is text_is;
    }) in
    rw (read, value_is descriptor (Ulong amqp_value) (code_is.is 31), value_is octets (Sized texts.Str text) (text_is.is 31)) refl

-- ---- frames

-- a message fits a frame
pub message_fits : (m said : Meaning) (payload text : List ℕ) → m ≡ said → IsSmall said → payload ≡ section_octets text → length text ≤ 20 → frame_size (performative_octets m ++ payload) < 2 ^ 32
message_fits m said payload text same is parts short =
    omega (
      arith,
      length-append (performative_octets m) payload,
      ap (λ (n : Meaning). length (performative_octets n)) same,
      is.few,
      ap length parts,
      section_long text,
    )
