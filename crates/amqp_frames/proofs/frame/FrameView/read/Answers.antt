use Rattle.std.proofs.Common.{◌≡◌, ◌*◌, ◌<◌, ◌⊎◌, inl, inr, length, take, drop, sym, ap, ◌∙◌, arith}
use Rattle.std.proofs.lemmas.List.{length-take, take_rest}
use Rattle.byteorder.specs.Endian.{big_number}
use Rattle.amqp_frames.specs.Frame.{HasHeader, stated_start, stated_size}
use Rattle.amqp_frames.proofs.Fronts.{IsThere, cut_read, only_read, found_at, header_read, bad_offset}
use Rattle.amqp_frames.proofs.frame.FrameView.read.Goals as goal

pub returns-then-start-lt-HEADER_OCTETS-clause-only : goal.returns-then-start-lt-HEADER_OCTETS-clause-only
returns-then-start-lt-HEADER_OCTETS-clause-only c =
    let octets = c.args.octets.now in
    let header : HasHeader c.args.limit octets = record { there = omega arith; large = omega (arith, c.read_u32-size.ensures); within = omega (arith, c.read_u32-size.ensures) } in
    let outside : (stated_start octets < 8) ⊎ (stated_size octets < stated_start octets) = elim c.then-start-lt-HEADER_OCTETS.either [
      | inl small ↦ inl (omega (arith, small, c.from-start.ensures))
      | inr large ↦ inr (omega (arith, large.1, c.from-start.ensures, c.read_u32-size.ensures))
    ] in
    only_read c.args.limit octets _ (header_read c.args.limit octets header ∙ bad_offset octets outside)

pub returns : goal.returns
returns c =
    let limit = c.args.limit in
    let octets = c.args.octets.now in
    let size = c.read_u32-size.result in
    let whole = take size octets in
    let header : HasHeader limit octets = record { there = omega arith; large = omega (arith, c.read_u32-size.ensures); within = omega (arith, c.read_u32-size.ensures) } in
    let there : IsThere limit octets c.in-Some.kind = record {
      header = header;
      from = omega (arith, c.from-start.ensures);
      to = omega (arith, c.from-start.ensures, c.read_u32-size.ensures);
      type = sym c.of.ensures ∙ c.in-Some.is;
      whole = omega (arith, c.read_u32-size.ensures);
    } in
    let channel : c.read_u16.result ≡ big_number 2 (drop 6 whole) = c.read_u16.ensures ∙ ap (big_number 2) (take_rest whole 6) in
    let exact = cut_read limit octets c.in-Some.kind size (4 * c.from-start.result) c.read_u16.result _ there c.read_u32-size.ensures (ap (λ n. 4 * n) c.from-start.ensures) channel (take_rest whole (4 * c.from-start.result)) in
    let len : size ≡ length whole = omega (arith, length-take size octets) in
    record {
      found = (found_at limit octets _ size exact len, len);
      only = λ frame rest front. (only_read limit octets _ exact frame rest front, len);
      partial = tt;
      broken = tt;
      exact = (exact, len);
    }
