use Rattle.std.proofs.Common.{◌≡◌, ◌++◌, ◌+◌, ℕ, List, length, replicate, zero-add, ap, ◌∙◌}
use Rattle.capture_packets.specs.Headers.{ip_header, tcp_header}
use Rattle.capture_packets.specs.Blocks.{padding, option_head, block_head, block_end, block_length}
use Rattle.capture_packets.proofs.Joining.{joined_seven}
use Rattle.capture_packets.proofs.BlockLemmas.{block_spelled}
use Rattle.capture_packets.proofs.blocks.push_packet.Goals as goal

pub returns : goal.returns
returns c =
    let old = c.args.blocks.now.items in
    let time = c.args.number in
    let comment = c.args.comment.now in
    let segment = c.args.segment in
    let payload = c.args.payload.now in
    let len = block_length (length comment) (length payload) in
    let zeros : List ℕ = replicate (padding (40 + length payload)) 0 in
    let behind : List ℕ = replicate (padding (length comment)) 0 in
    let m0 = c.extend_from_slice.new.self.items in
    let m1 = c.extend_from_slice-2.new.self.items in
    let m2 = c.extend_from_slice-3.new.self.items in
    let m3 = c.push_padded.new.block.items in
    let m4 = c.extend_from_slice-4.new.self.items in
    let m5 = c.push_padded-2.new.block.items in
    let m6 = c.extend_from_slice-5.new.self.items in
    let e0 : m0 ≡ old ++ block_head time len (40 + length payload) = c.in_ok-extend_from_slice.ensures.items ∙ ap (λ (t : List ℕ). old ++ t) (c.head_of_block.ensures ∙ ap (λ (n : ℕ). block_head time n (40 + length payload)) c.len_of_block-len.ensures) in
    let e1 : m1 ≡ m0 ++ ip_header segment (length payload) = c.in_ok-extend_from_slice-2.ensures.items ∙ ap (λ (t : List ℕ). m0 ++ t) c.ip_header_of.ensures in
    let e2 : m2 ≡ m1 ++ tcp_header segment payload = c.in_ok-extend_from_slice-3.ensures.items ∙ ap (λ (t : List ℕ). m1 ++ t) c.tcp_header_of.ensures in
    let e3 : m3 ≡ m2 ++ (payload ++ zeros) = c.in_ok-push_padded.ensures in
    let e4 : m4 ≡ m3 ++ option_head 1 (length comment) = c.in_ok-extend_from_slice-4.ensures.items ∙ ap (λ (t : List ℕ). m3 ++ t) c.head_of_comment.ensures in
    let e5 : m5 ≡ m4 ++ (comment ++ behind) = c.in_ok-push_padded-2.ensures ∙ ap (λ (n : ℕ). m4 ++ (comment ++ replicate (padding n) 0)) (zero-add (length comment)) in
    let e6 : m6 ≡ m5 ++ block_end len = c.in_ok-extend_from_slice-5.ensures.items ∙ ap (λ (t : List ℕ). m5 ++ t) (c.end_of_block.ensures ∙ ap block_end c.len_of_block-len.ensures) in
    joined_seven old m0 m1 m2 m3 m4 m5 m6 _ _ _ _ _ _ _ e0 e1 e2 e3 e4 e5 e6 ∙ ap (λ (t : List ℕ). old ++ t) (block_spelled time comment segment payload)
