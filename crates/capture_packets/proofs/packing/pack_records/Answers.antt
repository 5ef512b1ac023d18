use Rattle.std.proofs.Common.{None, Some, ◌∷◌, [], ◌++◌, ◌∙◌, ap, arith, length, refl, subst, sym, ◌+◌}
use Rattle.std.proofs.lemmas.List.{length-append}
use Rattle.capture_form.specs.Reader.{left_of, offset_of}
use Rattle.capture_packets.specs.Text.{packets_text}
use Rattle.capture_packets.specs.Conversation.{record_blocks}
use Rattle.capture_packets.specs.Writer.{StopsPut, StopsWrite, conversation_in, has_failed, writer_of}
use Rattle.capture_words.specs.declared.ending.Ending.TheVariants.{NoMemory, Unreadable, Whole}
use Rattle.capture_words.proofs.Streaming.{EndsWith, ends_of, follows_end, follows_fault, follows_next, follows_start, found_so, given_up, moved_so, unread}
use Rattle.capture_packets.proofs.PackLemmas.{cut_record, follows_first, read_with}
use Rattle.capture_packets.proofs.packing.pack_records.Goals as goal

pub loop-number-init : goal.loop-number-init
loop-number-init g c = record {
  runs = c.requires.open;
  read = [];
  many = refl;
  follows = follows_start (offset_of c.args.records) (left_of g.R.Read.remaining c.args.records);
  behind = c.requires.begun;
  text = λ front known. known;
}

pub loop-number-preserved : goal.loop-number-preserved
loop-number-preserved g c =
    let some = c.in-Ok-Some in
    let so = c.loop-number.invariant in
    let next = found_so _ _ some.field-0 (Some some.entry) some.field-0-is some.ensures.next in
    let moved = moved_so _ _ some.field-0 some.entry some.field-0-is some.ensures.moved in
    record {
      runs = some.ensures.sound refl;
      read = so.read ++ some.entry ∷ [];
      many = omega (arith, so.many, length-append so.read (some.entry ∷ []));
      follows = follows_next _ _ _ _ so.read _ _ some.entry so.follows next moved;
      behind = c.in-Ok.ensures.behind so.read so.behind;
      text = λ front known. c.in-Ok.ensures.text front so.read so.behind so.many (so.text front known);
    }

pub returns-in-Err-Write-clause-stops : goal.returns-in-Err-Write-clause-stops
returns-in-Err-Write-clause-stops g c =
    let some = c.in-Ok-Some in
    let so = c.loop-number.invariant in
    let next = found_so _ _ some.field-0 (Some some.entry) some.field-0-is some.ensures.next in
    let moved = moved_so _ _ some.field-0 some.entry some.field-0-is some.ensures.moved in
    let packets = c.loop-number.packets in
    let taken = c.in-Err-Write.field-0-0.taken in
    let before = g.W.Write.contents (writer_of packets) in
    let after = g.W.Write.contents (writer_of c.put.new.self) in
    let talk = conversation_in packets some.entry.connection in
    let stops : StopsWrite (has_failed packets) before after (record_blocks talk c.loop-number.number some.entry) taken =
    subst (StopsPut (has_failed packets) before after (record_blocks talk c.loop-number.number some.entry)) c.in-Err-Write.field-0-is c.in-Err-Write.ensures.part in
    record {
      read = so.read ++ some.entry ∷ [];
      taken = length (packets_text so.read) + taken;
      text = λ front known. cut_record (has_failed packets) before after front so.read some.entry c.loop-number.number talk taken
          (so.behind some.entry.connection) so.many stops (so.text front known);
      first = follows_first _ _ _ _ _ (follows_next _ _ _ _ so.read _ _ some.entry so.follows next moved);
    }

pub returns-in-Ok-None-clause-packs : goal.returns-in-Ok-None-clause-packs
returns-in-Ok-None-clause-packs g c =
    let so = c.loop-number.invariant in
    let first = left_of g.R.Read.remaining c.args.records in
    let offset = offset_of c.args.records in
    let next = found_so _ _ c.in-Ok-None.field-0 None c.in-Ok-None.field-0-is c.in-Ok-None.ensures.next in
    let ends = follows_end offset first _ _ so.read _ so.follows next in
    record {
      read = so.read;
      text = so.text;
      ends = ends_of offset first so.read Whole ends;
      whole = read_with offset first so.read Whole ends (follows_first offset first _ _ so.read so.follows);
    }

pub returns-in-Err-clause-packs : goal.returns-in-Err-clause-packs
returns-in-Err-clause-packs g c =
    let so = c.loop-number.invariant in
    let first = left_of g.R.Read.remaining c.args.records in
    let offset = offset_of c.args.records in
    let at_kind = follows_fault offset first _ _ so.read c.in-Err.fault so.follows (c.in-Err.ensures.place so.runs) (c.in-Err.ensures.exact so.runs) in
    let ends : EndsWith offset first so.read c.from.result = subst (λ e. EndsWith offset first so.read e) (sym c.from.ensures) at_kind in
    record {
      read = so.read;
      text = so.text;
      ends = ends_of offset first so.read c.from.result ends;
      whole = read_with offset first so.read c.from.result ends (follows_first offset first _ _ so.read so.follows);
    }

pub returns-in-Err-Memory-clause-packs : goal.returns-in-Err-Memory-clause-packs
returns-in-Err-Memory-clause-packs g c =
    let so = c.loop-number.invariant in
    let first = left_of g.R.Read.remaining c.args.records in
    let offset = offset_of c.args.records in
    let same = c.in-Err-Memory.ensures.refused c.in-Err-Memory.field-0-is in
    let ends = given_up offset first so.read in
    record {
      read = so.read;
      text = λ front known. ap g.W.Write.contents same.writer ∙ so.text front known;
      ends = ends_of offset first so.read NoMemory ends;
      whole = read_with offset first so.read NoMemory ends (follows_first offset first _ _ so.read so.follows);
    }

pub returns-clause-packs : goal.returns-clause-packs
returns-clause-packs g c =
    let so = c.loop-number.invariant in
    let first = left_of g.R.Read.remaining c.args.records in
    let offset = offset_of c.args.records in
    let ends = unread offset first so.read 0 in
    record {
      read = so.read;
      text = so.text;
      ends = ends_of offset first so.read (Unreadable 0) ends;
      whole = read_with offset first so.read (Unreadable 0) ends (follows_first offset first _ _ so.read so.follows);
    }
