-- Octets, ends, sequence numbers and comments that are known.
use Rattle.std.proofs.Common.{◌≡◌, ℕ, ◌+◌, ◌-◌, ◌^◌, false, [], ◌∷◌, ◌++◌, length, take, List, Some, None, codes, decimal, refl, ap, ◌∙◌, lit<}
use Rattle.std.proofs.lemmas.Fmt.{decimal_digit}
use Rattle.pairing_cert.specs.declared.note.Why.TheVariants.{M}
use Rattle.pairing_cert.specs.declared.note.Note.TheVariants as notes
use Rattle.capture_form.specs.declared.records.What.TheVariants.{Opened, In, Out}
use Rattle.capture_form.specs.declared.records.Record.{Record}
use Rattle.capture_packets.specs.Ends.{client_end}
use Rattle.capture_packets.specs.Headers.{sum_of_words, checksum, ip_header, ip_header_with}
use Rattle.capture_packets.specs.Blocks.{padding, padded, block_option, section_header, file_head}
use Rattle.capture_packets.specs.Comment.{comment_text}
use Rattle.capture_packets.specs.Conversation.{from_client, own_segment, behind}
use Rattle.capture_packets.specs.Text.{conversation_of, packets_text}
use Rattle.capture_packets.specs.Laws.{told_length, told_length_again}

-- ---- checksums

-- the example of RFC 1071: the words 0001, f203, f4f5, f6f7 sum up to ddf2 with the carries
summed : checksum (sum_of_words (0x00 ∷ 0x01 ∷ 0xF2 ∷ 0x03 ∷ 0xF4 ∷ 0xF5 ∷ 0xF6 ∷ 0xF7 ∷ [])) ≡ 0xFFFF - 0xDDF2
summed = refl

-- a last octet alone is the first of its word
alone : sum_of_words (1 ∷ 2 ∷ 3 ∷ []) ≡ 0x0102 + 0x0300
alone = refl

-- a well-known IPv4 header, without its checksum, and with it
known_header : checksum (sum_of_words (0x45 ∷ 0 ∷ 0 ∷ 0x73 ∷ 0 ∷ 0 ∷ 0x40 ∷ 0 ∷ 0x40 ∷ 0x11 ∷ 0 ∷ 0 ∷ 0xC0 ∷ 0xA8 ∷ 0 ∷ 1 ∷ 0xC0 ∷ 0xA8 ∷ 0 ∷ 0xC7 ∷ [])) ≡ 0xB861
known_header = refl

checked_header : checksum (sum_of_words (0x45 ∷ 0 ∷ 0 ∷ 0x73 ∷ 0 ∷ 0 ∷ 0x40 ∷ 0 ∷ 0x40 ∷ 0x11 ∷ 0xB8 ∷ 0x61 ∷ 0xC0 ∷ 0xA8 ∷ 0 ∷ 1 ∷ 0xC0 ∷ 0xA8 ∷ 0 ∷ 0xC7 ∷ [])) ≡ 0
checked_header = refl

-- an octet more, and it no longer fits
other_header : checksum (sum_of_words (0x45 ∷ 0 ∷ 0 ∷ 0x74 ∷ 0 ∷ 0 ∷ 0x40 ∷ 0 ∷ 0x40 ∷ 0x11 ∷ 0xB8 ∷ 0x61 ∷ 0xC0 ∷ 0xA8 ∷ 0 ∷ 1 ∷ 0xC0 ∷ 0xA8 ∷ 0 ∷ 0xC7 ∷ [])) ≡ 0xFFFE
other_header = refl

-- ---- ends

seventy_thousand : client_end 70123 ≡ record { address = 10 ∷ 0 ∷ 0 ∷ 8 ∷ []; port = 40123 }
unfolding client_end
seventy_thousand = refl

last_end : client_end 4294967295 ≡ record { address = 10 ∷ 6 ∷ 141 ∷ 185 ∷ []; port = 47295 }
unfolding client_end
last_end = refl

-- the IPv4 header of a SYN of connection 0
first_header : ip_header (from_client 0 2 0 0) 0 ≡ 0x45 ∷ 0 ∷ 0 ∷ 40 ∷ 0 ∷ 0 ∷ 0x40 ∷ 0 ∷ 64 ∷ 6 ∷ 0x6E ∷ 0xCE ∷ 10 ∷ 0 ∷ 0 ∷ 1 ∷ 192 ∷ 0 ∷ 2 ∷ 1 ∷ []
unfolding ip_header ip_header_with client_end
first_header = refl

-- ---- blocks

padded_five : padded (1 ∷ 2 ∷ 3 ∷ 4 ∷ 5 ∷ []) ≡ 1 ∷ 2 ∷ 3 ∷ 4 ∷ 5 ∷ 0 ∷ 0 ∷ 0 ∷ []
padded_five = refl

padded_eight : padding 8 ≡ 0
padded_eight = refl

comment_option : block_option 1 (codes "hello") ≡ 0 ∷ 1 ∷ 0 ∷ 5 ∷ (codes "hello" ++ 0 ∷ 0 ∷ 0 ∷ [])
comment_option = refl

-- a section's head tells its length twice; cut by an octet it tells another than it has
section_told : told_length section_header ≡ 28
section_told = refl

section_told_again : told_length_again section_header ≡ 28
section_told_again = refl

section_cut : told_length (take 27 section_header) ≡ length (take 27 section_header) → ⊥
section_cut is = cc

-- ---- sequence numbers

abbrev opened : ℕ → Record
opened connection = record { connection = connection; what = Opened; note = notes.None }

abbrev sent : ℕ → List ℕ → Record
sent connection frame = record { connection = connection; what = In frame; note = notes.None }

abbrev written : ℕ → List ℕ → Record
written connection frame = record { connection = connection; what = Out frame; note = notes.Pair 16 }

nothing_yet : conversation_of (opened 1 ∷ []) 0 ≡ None
unfolding conversation_of
nothing_yet = refl

only_opened : conversation_of (opened 0 ∷ []) 0 ≡ Some (record { client = 9; router = 9 })
unfolding conversation_of
only_opened = refl

three_and_two : conversation_of (opened 0 ∷ sent 0 (1 ∷ 2 ∷ 3 ∷ []) ∷ sent 1 (4 ∷ []) ∷ written 0 (5 ∷ 6 ∷ []) ∷ []) 0 ≡ Some (record { client = 12; router = 11 })
unfolding conversation_of
three_and_two = refl

-- behind the last number comes 0
wraps : behind (record { client = 2 ^ 32 - 1; router = 7 }) (In (1 ∷ 2 ∷ 3 ∷ [])) ≡ record { client = 2; router = 7 }
wraps = refl

-- a frame that was written goes from the router, and acknowledges what the client sent
from_the_router : own_segment (record { client = 12; router = 11 }) 0 (Out (5 ∷ [])) ≡ record { connection = 0; is_from_client = false; flags = 24; sequence = 11; acknowledged = 12 }
from_the_router = refl

-- ---- comments

plain : comment_text 7 (sent 1 []) ≡ codes "record 7"
unfolding comment_text
plain = ap (λ (digits : List ℕ). codes "record " ++ (digits ++ [])) (decimal_digit 7 (lit< tt))

carries : comment_text 8 (record { connection = 0; what = Out []; note = notes.Pair 6 }) ≡ codes "record 8, carries record 6"
unfolding comment_text
carries =
    ap (λ (digits : List ℕ). codes "record " ++ (digits ++ (codes ", carries record " ++ decimal 6))) (decimal_digit 8 (lit< tt))
    ∙ ap (λ (digits : List ℕ). codes "record 8, carries record " ++ digits) (decimal_digit 6 (lit< tt))

outcome : comment_text 9 (record { connection = 0; what = Out []; note = notes.Told M }) ≡ codes "record 9, outcome row M, multicast"
unfolding comment_text
outcome = ap (λ (digits : List ℕ). codes "record " ++ (digits ++ codes ", outcome row M, multicast")) (decimal_digit 9 (lit< tt))

-- ---- the text

no_records : packets_text [] ≡ file_head
unfolding packets_text
no_records = refl

head_has : length file_head ≡ 48
head_has = refl
