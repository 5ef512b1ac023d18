-- How far the records of a text were read, and their packets written.
use Rattle.std.proofs.Common.{◌≡◌, refl, sym, ap, subst, ◌∙◌, ℕ, ◌+◌, Bool, true, false, List, [], ◌∷◌, ◌++◌, length, take, Option, None, Some, Result, Ok, Err, append_assoc, append-nil, arith}
use Rattle.std.specs.Prelude.{IfOk, IfSome, OnErr}
use Rattle.std.specs.Io.KnownBytes.{Appends, Keeps}
use Rattle.std.proofs.Math.Seq.{take-append-add, take-length}
use Rattle.capture_form.specs.declared.records.Record.{Record}
use Rattle.capture_form.specs.declared.reader.Reader.{Reader}
use Rattle.capture_form.specs.declared.fault.FormKind.{FormKind}
use Rattle.capture_form.specs.declared.fault.FormKind.TheVariants as kinds
use Rattle.capture_form.specs.Rules.{RuleSet}
use Rattle.capture_form.specs.Text.{head_text}
use Rattle.capture_form.specs.Reading.{reading}
use Rattle.capture_form.specs.Laws.{records_behind}
use Rattle.capture_form.specs.Reader.{IsHead, StopsHead, fault_of, left_of, offset_of}
use Rattle.capture_packets.specs.declared.conversation.Conversation.{Conversation}
use Rattle.capture_packets.specs.declared.writer.PacketWriter.{PacketWriter}
use Rattle.capture_packets.specs.Blocks.{file_head}
use Rattle.capture_packets.specs.Conversation.{record_blocks}
use Rattle.capture_packets.specs.Text.{blocks_at, conversation_of, packets_text}
use Rattle.capture_packets.specs.Writer.{IsBehind, StopsWrite, writer_of}
use Rattle.capture_packets.proofs.TextLemmas.{text_grows}
use Rattle.capture_words.specs.declared.ending.Ending.{Ending}
use Rattle.capture_words.specs.declared.ending.Ending.TheVariants.{Whole, Malformed, NoMemory, Unreadable}
use Rattle.capture_words.specs.Ending.{ending_at}
use Rattle.capture_words.proofs.Heads.{behind_head, head_fault}
use Rattle.capture_words.proofs.Streaming.{EndsWith, Follows, IsAllOf}
use Rattle.capture_packets.specs.declared.packing.NotPacked.{NotPacked}
use Rattle.capture_packets.specs.Packed.{AreFirstOf, AreReadOf, PacksText, StopsText, Turns}

-- what holds of a reader and a writer of packets that came so far
pub record PacksOn {R : Type 0} (remaining : R → Option (List ℕ)) {W : Type 0} (contents : W → Option (List ℕ))
    (first now : Reader R) (begun packets : PacketWriter W) (number : ℕ) : Type 0 where
  pub runs : fault_of now ≡ None
  pub read : List Record
  pub many : number ≡ length read
  pub follows : Follows (offset_of first) (left_of remaining first) (offset_of now) (left_of remaining now) read
  pub behind : IsBehind packets read
  pub text : Turns (contents (writer_of begun)) (contents (writer_of packets)) (packets_text []) (packets_text read)

-- ---- which records were read

-- those that were read are the first ones
pub follows_first : (offset : ℕ) (first : Option (List ℕ)) (place : ℕ) (left : Option (List ℕ)) (read : List Record)
    → Follows offset first place left read → IfSome first (λ all. AreFirstOf (records_behind offset all).records read)
follows_first offset None place left read follows = tt
follows_first offset (Some all) place None read follows = absurd follows
follows_first offset (Some all) place (Some rest) read follows = (_, follows.records)

read_by : (all read : List Record) (ending : Ending) → IsAllOf all read ending → AreFirstOf all read → AreReadOf all read ending
read_by all read Whole is first = is
read_by all read (Malformed offset) is first = is
read_by all read NoMemory is first = first
read_by all read (Unreadable offset) is first = first

first_by : (all read : List Record) (ending : Ending) → AreReadOf all read ending → AreFirstOf all read
first_by all read Whole is = ([], is ∙ sym (append-nil read))
first_by all read (Malformed offset) is = ([], is ∙ sym (append-nil read))
first_by all read NoMemory first = first
first_by all read (Unreadable offset) first = first

-- an ending tells which
pub read_with : (offset : ℕ) (known : Option (List ℕ)) (read : List Record) (ending : Ending) → EndsWith offset known read ending
    → IfSome known (λ all. AreFirstOf (records_behind offset all).records read)
    → IfSome known (λ all. AreReadOf (records_behind offset all).records read ending)
read_with offset None read ending ends first = tt
read_with offset (Some all) read ending ends first = read_by (records_behind offset all).records read ending ends.1 first

-- ---- what a writer holds

held_by : (b : Option (List ℕ)) (xs ys : List ℕ) → Appends (Some xs) b ys → b ≡ Some (xs ++ ys)
held_by None xs ys p = absurd p
held_by (Some zs) xs ys p = ap (λ (t : List ℕ). Some t) p

held : (a b : Option (List ℕ)) (xs ys : List ℕ) → a ≡ Some xs → Appends a b ys → b ≡ Some (xs ++ ys)
held a b xs ys known p = held_by b xs ys (subst (λ (t : Option (List ℕ)). Appends t b ys) known p)

kept_by : (b : Option (List ℕ)) (xs : List ℕ) → Keeps (Some xs) b → b ≡ Some xs
kept_by None xs p = absurd p
kept_by (Some zs) xs p = ap (λ (t : List ℕ). Some t) p

pub kept : (a b : Option (List ℕ)) (xs : List ℕ) → a ≡ Some xs → Keeps a b → b ≡ Some xs
kept a b xs known p = kept_by b xs (subst (λ (t : Option (List ℕ)). Keeps t b) known p)

-- the first octets of a text that are taken behind a whole part of it
taken_behind : (front part more : List ℕ) (taken : ℕ) → (front ++ part) ++ take taken more ≡ front ++ take (length part + taken) (part ++ more)
taken_behind front part more taken = append_assoc front part (take taken more) ∙ ap (λ (t : List ℕ). front ++ t) (sym (take-append-add part more taken))

-- what a writer that stopped holds, of a text of two parts
pub cut : (failed : Bool) (a b : Option (List ℕ)) (front part more : List ℕ) (taken : ℕ) → StopsWrite failed a b more taken
    → a ≡ Some (front ++ part) → b ≡ Some (front ++ take (length part + taken) (part ++ more))
cut false a b front part more taken stops known =
    held a b (front ++ part) (take taken more) known stops.part ∙ ap (λ (t : List ℕ). Some t) (taken_behind front part more taken)
cut true a b front part more taken stops known =
    kept a b (front ++ part) known stops.0
    ∙ ap (λ (t : List ℕ). Some t) (sym (append-nil (front ++ part)) ∙ ap (λ n. (front ++ part) ++ take n more) (sym stops.1) ∙ taken_behind front part more taken)

-- the packets of a record were not written whole
pub cut_record : (failed : Bool) (a b : Option (List ℕ)) (front : List ℕ) (before : List Record) (entry : Record) (number : ℕ) (talk : Option Conversation) (taken : ℕ)
    → talk ≡ conversation_of before entry.connection → number ≡ length before → StopsWrite failed a b (record_blocks talk number entry) taken
    → a ≡ Some (front ++ packets_text before)
    → b ≡ Some (front ++ take (length (packets_text before) + taken) (packets_text (before ++ entry ∷ [])))
cut_record failed a b front before entry number talk taken is at stops known =
    let blocks : record_blocks talk number entry ≡ blocks_at before entry =
    ap (λ (t : Option Conversation). record_blocks t number entry) is ∙ ap (λ (n : ℕ). record_blocks (conversation_of before entry.connection) n entry) at in
    cut failed a b front (packets_text before) (blocks_at before entry) taken (subst (λ (t : List ℕ). StopsWrite failed a b t taken) blocks stops) known
    ∙ ap (λ (t : List ℕ). Some (front ++ take (length (packets_text before) + taken) t)) (sym (text_grows before entry))

-- the head of the file was not written whole
pub cut_head : (failed : Bool) (a b : Option (List ℕ)) (front : List ℕ) (taken : ℕ) → StopsWrite failed a b file_head taken → a ≡ Some front
    → b ≡ Some (front ++ take taken (packets_text []))
unfolding packets_text
cut_head failed a b front taken stops known =
    cut failed a b front [] file_head taken stops (known ∙ ap (λ (t : List ℕ). Some t) (sym (append-nil front)))
    ∙ ap (λ (n : ℕ). Some (front ++ take n file_head)) (let e : 0 + taken ≡ taken = omega arith in e)
    ∙ ap (λ (t : List ℕ). Some (front ++ take taken t)) (sym (append-nil file_head))

-- ---- a text, by what stands behind its head

module _ (known left : Option (List ℕ)) (rules : RuleSet) (place : ℕ) where
  abbrev pub Stands : Type 0
  Stands = IfSome known (λ octets. IsHead octets left rules) × (place ≡ length (head_text rules))

behind_so : (P : List Record → Type 0) (known left : Option (List ℕ)) (rules : RuleSet) (place : ℕ) → Stands known left rules place
    → IfSome left (λ octets. P (records_behind place octets).records) → IfSome known (λ octets. P (reading octets).records)
behind_so P None left rules place stands holds = tt
behind_so P (Some octets) left rules place stands holds =
    let head = stands.0 in
    let here : P (records_behind place head.0).records = subst (λ (l : Option (List ℕ)). IfSome l (λ rest. P (records_behind place rest).records)) head.2 holds in
    subst P (behind_head octets rules head.0 place head.1.read head.1.spelled stands.1).1 here

pub read_behind_head : (known left : Option (List ℕ)) (rules : RuleSet) (place : ℕ) (read : List Record) (ending : Ending) → Stands known left rules place
    → IfSome left (λ octets. AreReadOf (records_behind place octets).records read ending) → IfSome known (λ octets. AreReadOf (reading octets).records read ending)
read_behind_head known left rules place read ending stands holds = behind_so (λ all. AreReadOf all read ending) known left rules place stands holds

pub first_behind_head : (known left : Option (List ℕ)) (rules : RuleSet) (place : ℕ) (read : List Record) → Stands known left rules place
    → IfSome left (λ octets. AreFirstOf (records_behind place octets).records read) → IfSome known (λ octets. AreFirstOf (reading octets).records read)
first_behind_head known left rules place read stands holds = behind_so (λ all. AreFirstOf all read) known left rules place stands holds

-- a fault in the head, behind which nothing is read
none_read : (octets : List ℕ) (kind : FormKind) (place : ℕ) → StopsHead kind place octets → AreReadOf (reading octets).records [] (ending_at kind place)
none_read octets kinds.Magic place stops = (head_fault octets kinds.Magic place stops).1
none_read octets kinds.Rules place stops = (head_fault octets kinds.Rules place stops).1
none_read octets kinds.Kind place stops = (head_fault octets kinds.Kind place stops).1
none_read octets kinds.Note place stops = (head_fault octets kinds.Note place stops).1
none_read octets kinds.Length place stops = (head_fault octets kinds.Length place stops).1
none_read octets kinds.Truncated place stops = (head_fault octets kinds.Truncated place stops).1
none_read octets kinds.Memory place stops = ((reading octets).records, refl)
none_read octets kinds.Read place stops = ((reading octets).records, refl)

pub read_in_head : (known : Option (List ℕ)) (fault : FormKind) (place : ℕ) → IfSome known (StopsHead fault place)
    → IfSome known (λ octets. AreReadOf (reading octets).records [] (ending_at fault place))
read_in_head None fault place stops = tt
read_in_head (Some octets) fault place stops = none_read octets fault place stops

-- ---- packets that were not flushed

first_all : (known : Option (List ℕ)) (read : List Record) (ending : Ending) → IfSome known (λ octets. AreReadOf (reading octets).records read ending)
    → IfSome known (λ octets. AreFirstOf (reading octets).records read)
first_all None read ending whole = tt
first_all (Some octets) read ending whole = first_by (reading octets).records read ending whole

pub none_first : (known : Option (List ℕ)) → IfSome known (λ octets. AreFirstOf (reading octets).records [])
none_first None = tt
none_first (Some octets) = ((reading octets).records, refl)

-- a flush keeps what a writer holds
packs_kept : (known a b c : Option (List ℕ)) (ending : Ending) → Keeps b c → PacksText known a b ending → PacksText known a c ending
packs_kept known a b c ending keeps packs = record {
  read = packs.read;
  text = λ front is. kept b c (front ++ packets_text packs.read) (packs.text front is) keeps;
  ends = packs.ends;
  whole = packs.whole;
}

stops_kept : (known a b c : Option (List ℕ)) → Keeps b c → StopsText known a b → StopsText known a c
stops_kept known a b c keeps stops = record {
  read = stops.read;
  taken = stops.taken;
  text = λ front is. kept b c (front ++ take stops.taken (packets_text stops.read)) (stops.text front is) keeps;
  first = stops.first;
}

-- all packets were written, and not flushed
not_flushed : (known a b : Option (List ℕ)) (ending : Ending) → PacksText known a b ending → StopsText known a b
not_flushed known a b ending packs = record {
  read = packs.read;
  taken = length (packets_text packs.read);
  text = λ front is. packs.text front is ∙ ap (λ (t : List ℕ). Some (front ++ t)) (sym (take-length (packets_text packs.read)));
  first = first_all known packs.read ending packs.whole;
}

pub packed_kept : (known a b c : Option (List ℕ)) (packed : Result Ending NotPacked) → Keeps b c → IfOk packed (PacksText known a b) → IfOk packed (PacksText known a c)
packed_kept known a b c (Ok ending) keeps packs = packs_kept known a b c ending keeps packs
packed_kept known a b c (Err fault) keeps packs = tt

pub stopped_kept : (known a b c : Option (List ℕ)) (packed : Result Ending NotPacked) → Keeps b c → OnErr packed (StopsText known a b) → OnErr packed (StopsText known a c)
stopped_kept known a b c (Ok ending) keeps stops = tt
stopped_kept known a b c (Err fault) keeps stops = stops_kept known a b c keeps stops

pub flush_stopped : (known a b c : Option (List ℕ)) (packed : Result Ending NotPacked) → Keeps b c → IfOk packed (PacksText known a b) → OnErr packed (StopsText known a b)
    → StopsText known a c
flush_stopped known a b c (Ok ending) keeps packs stops = stops_kept known a b c keeps (not_flushed known a b ending packs)
flush_stopped known a b c (Err fault) keeps packs stops = stops_kept known a b c keeps stops
