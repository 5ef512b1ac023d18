-- The packet of a record.
use Rattle.std.proofs.Common.{◌≡◌, ℕ, ◌+◌, ◌%◌, ◌^◌, ◌<◌, ◌≤◌, Bool, true, false, List, [], ◌++◌, length, Some, None, codes, refl, sym, ap, ◌∙◌, arith, if◌then◌else◌, rules}
use Rattle.std.specs.Prelude.{decimal}
use Rattle.std.proofs.lemmas.List.{length-append}
use Rattle.std.proofs.lemmas.Fmt.{length-decimal-le}
use Rattle.pairing_cert.specs.declared.note.Why.{Why}
use Rattle.pairing_cert.specs.declared.note.Why.TheVariants.{C, Z, S, L, N, M}
use Rattle.pairing_cert.specs.declared.note.Note.{Note}
use Rattle.pairing_cert.specs.declared.note.Note.TheVariants as notes
use Rattle.pairing_cert.specs.Notes.{IsNote}
use Rattle.flow_counts.specs.declared.profile.TheConstants.{MAX_FRAME_SIZE}
use Rattle.capture_form.specs.declared.records.What.{What}
use Rattle.capture_form.specs.declared.records.What.TheVariants.{Opened, In, Out, Lost, Broken}
use Rattle.capture_form.specs.declared.records.Record.{Record}
use Rattle.capture_form.specs.Text.{IsRecord, IsHappening, MayNote, frame_of}
use Rattle.capture_packets.specs.declared.blocks.TheConstants.{MOST_COMMENT}
use Rattle.capture_packets.specs.declared.conversation.Conversation.{Conversation}
use Rattle.capture_packets.specs.Comment.{why_told, note_told, what_told, comment_text}
use Rattle.capture_packets.specs.Conversation.{own_segment, own_block, opening_blocks, record_blocks, fresh, octets_in, octets_out}
use Rattle.capture_packets.specs.Text.{is_known, sent_with, conversation_of, blocks_at}
use Rattle.capture_packets.specs.Laws.{EndsWithPacket, sender_octets, receiver_octets}
use Rattle.capture_packets.proofs.TextLemmas.{none_sent}
use Rattle.capture_packets.proofs.LawLemmas.{payload_read, length_read, length_read_again, time_read, sequence_read, acknowledged_read}

-- a number has at most twenty digits
digits_few : (n : ℕ) → n < 2 ^ 64 → length (decimal n) ≤ 20
digits_few n fits = search (rules, length-decimal-le 20)

why_few : (why : Why) → length (why_told why) ≤ 40
why_few C = omega arith
why_few Z = omega arith
why_few S = omega arith
why_few L = omega arith
why_few N = omega arith
why_few M = omega arith

note_few : (note : Note) → IsNote note → length (note_told note) ≤ 60
note_few notes.None bounds = omega arith
note_few (notes.Pair number) bounds = omega (arith, digits_few number bounds, length-append (codes ", carries record ") (decimal number))
note_few (notes.Told why) bounds = omega (arith, why_few why, length-append (codes ", outcome row ") (why_told why))

told_few : (what : What) (told : Note) → MayNote what told → length (what_told what told) ≤ 60
told_few Opened told bounds = omega arith
told_few (In frame) told bounds = omega arith
told_few (Out frame) told bounds = note_few told bounds
told_few Lost told bounds = omega arith
told_few Broken told bounds = omega arith

-- a comment is short
comment_few : (number : ℕ) (entry : Record) → number < 2 ^ 64 → IsRecord entry → length (comment_text number entry) ≤ MOST_COMMENT
unfolding comment_text
comment_few number entry fits bounds =
    omega (arith, digits_few number fits, told_few entry.what entry.note bounds.note, length-append (decimal number) (what_told entry.what entry.note))

-- a frame is small
frame_few : (what : What) → IsHappening what → length (frame_of what) ≤ MAX_FRAME_SIZE
frame_few Opened bounds = omega arith
frame_few (In frame) bounds = bounds.short
frame_few (Out frame) bounds = bounds.short
frame_few Lost bounds = omega arith
frame_few Broken bounds = omega arith

-- what both sides have come to behind a SYN, the AMQP header, and so many octets
abbrev talk_behind : List Record → ℕ → Conversation
talk_behind before connection = record { client = (9 + sent_with octets_in before connection) % 2 ^ 32; router = (9 + sent_with octets_out before connection) % 2 ^ 32 }

own_sequence : (before : List Record) (connection : ℕ) (what : What) → (own_segment (talk_behind before connection) connection what).sequence ≡ (9 + sent_with (sender_octets what) before connection) % 2 ^ 32
own_sequence before connection Opened = refl
own_sequence before connection (In frame) = refl
own_sequence before connection (Out frame) = refl
own_sequence before connection Lost = refl
own_sequence before connection Broken = refl

own_acknowledged : (before : List Record) (connection : ℕ) (what : What) → (own_segment (talk_behind before connection) connection what).acknowledged ≡ (9 + sent_with (receiver_octets what) before connection) % 2 ^ 32
own_acknowledged before connection Opened = refl
own_acknowledged before connection (In frame) = refl
own_acknowledged before connection (Out frame) = refl
own_acknowledged before connection Lost = refl
own_acknowledged before connection Broken = refl

-- where no record is of the connection both sides have sent nothing
abbrev talk_at : ℕ → ℕ → Conversation
talk_at client router = record { client = client; router = router }

talk_fresh : (before : List Record) (connection : ℕ) → is_known before connection ≡ false → fresh ≡ talk_behind before connection
talk_fresh before connection unknown =
    ap (λ (n : ℕ). talk_at ((9 + n) % 2 ^ 32) 9) (sym (none_sent octets_in before connection unknown))
    ∙ ap (λ (n : ℕ). talk_at ((9 + sent_with octets_in before connection) % 2 ^ 32) ((9 + n) % 2 ^ 32)) (sym (none_sent octets_out before connection unknown))

-- the blocks of a record of a connection that is known, or not
known_parts : (before : List Record) (entry : Record) → is_known before entry.connection ≡ true → blocks_at before entry ≡ own_block (talk_behind before entry.connection) (length before) entry
unfolding conversation_of
known_parts before entry is = ap (λ (known : Bool). record_blocks (if known then Some (talk_behind before entry.connection) else None) (length before) entry) is

unknown_parts : (before : List Record) (entry : Record) → is_known before entry.connection ≡ false
    → blocks_at before entry ≡ opening_blocks (length before) (comment_text (length before) entry) entry.connection ++ own_block (talk_behind before entry.connection) (length before) entry
unfolding conversation_of
unknown_parts before entry is =
    ap (λ (known : Bool). record_blocks (if known then Some (talk_behind before entry.connection) else None) (length before) entry) is
    ∙ ap (λ (talk : Conversation). opening_blocks (length before) (comment_text (length before) entry) entry.connection ++ own_block talk (length before) entry) (talk_fresh before entry.connection is)

-- the blocks of a record end with its packet
ends_by : (before : List Record) (entry : Record) (opening : List ℕ) → IsRecord entry → length before < 2 ^ 64
    → blocks_at before entry ≡ opening ++ own_block (talk_behind before entry.connection) (length before) entry → (is_known before entry.connection ≡ true → opening ≡ []) → EndsWithPacket before entry
ends_by before entry opening bounds few parts alone =
    let number = length before in
    let comment = comment_text number entry in
    let segment = own_segment (talk_behind before entry.connection) entry.connection entry.what in
    let frame = frame_of entry.what in
    let short = comment_few number entry few bounds in
    let small = frame_few entry.what bounds.what in
    let sequence = own_sequence before entry.connection entry.what in
    let acknowledged = own_acknowledged before entry.connection entry.what in
    record {
      opening = opening;
      packet = own_block (talk_behind before entry.connection) number entry;
      parts = parts;
      alone = alone;
      payload = payload_read number comment segment frame small;
      told = length_read number comment segment frame short small;
      told_again = length_read_again number comment segment frame short small;
      time = time_read number comment segment frame few;
      sequence = sequence_read number comment segment frame (omega (arith, sequence)) ∙ sequence;
      acknowledged = acknowledged_read number comment segment frame (omega (arith, acknowledged)) ∙ acknowledged;
    }

choose : (before : List Record) (entry : Record) (known : Bool) → is_known before entry.connection ≡ known → IsRecord entry → length before < 2 ^ 64 → EndsWithPacket before entry
choose before entry true is bounds few = ends_by before entry [] bounds few (known_parts before entry is) (λ _. refl)
choose before entry false is bounds few =
    ends_by before entry (opening_blocks (length before) (comment_text (length before) entry) entry.connection) bounds few (unknown_parts before entry is) (λ (known : is_known before entry.connection ≡ true). cc)

pub ends_with : (before : List Record) (entry : Record) → IsRecord entry → length before < 2 ^ 64 → EndsWithPacket before entry
ends_with before entry bounds few = choose before entry (is_known before entry.connection) refl bounds few
