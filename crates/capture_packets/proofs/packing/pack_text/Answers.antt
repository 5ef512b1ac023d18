use Rattle.std.proofs.Common.{[], subst, sym}
use Rattle.std.proofs.lemmas.Result.{IfOk-weaker, on_err_weaker}
use Rattle.std.specs.Prelude.{IfSome, ⊤}
use Rattle.capture_form.specs.Reading.{reading}
use Rattle.capture_packets.specs.Writer.{has_failed}
use Rattle.capture_words.specs.Shown.{EndsText}
use Rattle.capture_words.proofs.Heads.{ends_behind_head, ends_in_head}
use Rattle.capture_packets.specs.Packed.{AreReadOf}
use Rattle.capture_packets.proofs.PackLemmas.{cut_head, first_behind_head, none_first, read_behind_head, read_in_head}
use Rattle.capture_packets.proofs.packing.pack_text.Goals as goal

pub returns-in-Err-clause-stops : goal.returns-in-Err-clause-stops
returns-in-Err-clause-stops g c = record {
  read = [];
  taken = c.in-Err.field-0.taken;
  text = λ front known. cut_head (has_failed c.args.packets.now) _ _ front c.in-Err.field-0.taken c.in-Err.ensures.part known;
  first = none_first (g.R.Read.remaining c.args.input);
}

pub returns-in-Ok-start-clause-packs : goal.returns-in-Ok-start-clause-packs
returns-in-Ok-start-clause-packs g c =
    let known = g.R.Read.remaining c.args.input in
    IfOk-weaker c.pack_records.result _ _ (λ ending packs. record {
      read = packs.read;
      text = λ front is. packs.text front (c.in-Ok.ensures.text front is);
      ends = ends_behind_head known _ _ _ ending c.in-Ok-start.ensures.head c.in-Ok-start.ensures.place packs.ends;
      whole = read_behind_head known _ _ _ packs.read ending (c.in-Ok-start.ensures.head, c.in-Ok-start.ensures.place) packs.whole;
    }) c.pack_records.ensures.packs

pub returns-in-Ok-start-clause-stops : goal.returns-in-Ok-start-clause-stops
returns-in-Ok-start-clause-stops g c =
    let known = g.R.Read.remaining c.args.input in
    on_err_weaker c.pack_records.result (λ stops. record {
      read = stops.read;
      taken = stops.taken;
      text = λ front is. stops.text front (c.in-Ok.ensures.text front is);
      first = first_behind_head known _ _ _ stops.read (c.in-Ok-start.ensures.head, c.in-Ok-start.ensures.place) stops.first;
    }) c.pack_records.ensures.stops

pub returns-clause-packs : goal.returns-clause-packs
returns-clause-packs g c =
    let known = g.R.Read.remaining c.args.input in
    let fault = c.in-Err-start.fault in
    let same = sym c.from.ensures in
    record {
      read = [];
      text = λ front is. c.in-Ok.ensures.text front is;
      ends = subst (λ e. IfSome known (λ octets. EndsText octets e)) same (ends_in_head (λ (x : ⊤) past. ⊤) tt known fault c.in-Err-start.ensures.exact);
      whole = subst (λ e. IfSome known (λ octets. AreReadOf (reading octets).records [] e)) same (read_in_head known fault.kind fault.offset c.in-Err-start.ensures.exact);
    }
