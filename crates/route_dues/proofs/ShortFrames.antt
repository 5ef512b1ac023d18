-- Short frames: what is written straight is the frame that is spoken, and it is read again.
use Rattle.std.proofs.Common.{unwrap_or, ◌≡◌, refl, sym, ap, ◌∙◌, ℕ, ◌+◌, ◌<◌, ◌≤◌, ◌^◌, Bool, true, false, ◌&&◌, ◌==◌, List, [], ◌∷◌, ◌++◌, length, Option, Some, None, Result, append_assoc, arith, if◌then◌else◌}
use Rattle.std.specs.Int.{w32, to_be_bytes}
use Rattle.std.specs.Result.{is_ok}
use Rattle.std.proofs.lemmas.Bool.{lt-ltb}
use Rattle.std.proofs.lemmas.List.{append-nil, length-append}
use Rattle.byteorder.specs.Endian.{big_bytes}
use Rattle.flow_counts.specs.declared.profile.TheConstants.{MAX_FRAME_SIZE}
use Rattle.amqp_types.specs.declared.code.Text.TheVariants as texts
use Rattle.amqp_types.specs.Writing.{Puts, fits_octet, uint_octets, boolean_octets, null_octets, text_octets, list_octets, described_list_octets}
use Rattle.amqp_perf.specs.Meaning.{Meaning, ATransfer, ADisposition}
use Rattle.amqp_perf.specs.declared.attach.Role.{Role}
use Rattle.amqp_perf.specs.Nested.{StateFields}
use Rattle.amqp_perf.specs.Slots.{uint_value, CanStand}
use Rattle.amqp_perf.specs.Grammar.{IsPerformative}
use Rattle.amqp_perf.specs.Writing.{performative_octets, role_value, IsWritable}
use Rattle.amqp_perf.proofs.SlotValues.{binary_can, flag_can, role_can}
use Rattle.amqp_perf.proofs.Again.{transfer_again}
use Rattle.amqp_perf.proofs.NestedAgain.{state_can, disposition_again}
use Rattle.amqp_perf.proofs.Writable.{first_writable}
use Rattle.amqp_frames.specs.declared.frame.FrameKind.TheVariants as kinds
use Rattle.amqp_frames.specs.Writing.{frame_octets, frame_size}
use Rattle.amqp_frames.proofs.FrameWritten.{frame_again, spoken_again}
use Rattle.trace_events.specs.Frame.{Spoken}
use Rattle.trace_events.specs.Event.{Link}
use Rattle.trace_events.specs.Written.{spoken_octets, written_transfer, first_part, says, state_of}
use Rattle.route_dues.specs.Writing.{spoken_with, IsReadAgain}
use Rattle.route_dues.specs.Short.{front_octets, count_with, decided}
use Rattle.route_dues.proofs.Again.{read_again}
use Rattle.route_answers.proofs.Lengths.{spoken_long}
use Rattle.route_dues.proofs.Lengths.{body_within}
use Rattle.route_dues.proofs.TransferLengths.{first_same, first_sized, tag_sized}

-- ---- read again

pub again_within : (spoken : Spoken) → spoken.channel < 2 ^ 16 → IsPerformative (performative_octets spoken.meaning) spoken.meaning → length (spoken_octets spoken) ≤ MAX_FRAME_SIZE → IsReadAgain spoken
again_within spoken channel is fits =
    let body = performative_octets spoken.meaning ++ spoken.payload in
    let within = body_within spoken fits in
    read_again spoken (frame_again kinds.Amqp spoken.channel body (omega (arith, within)) channel MAX_FRAME_SIZE within) (spoken_again spoken.meaning spoken.payload is)

module _ (l : Link) (id format : ℕ) (more : Bool) (payload : List ℕ) where
  abbrev First : Spoken
  First = written_transfer l (first_part l id format more) payload

  pub first_again : l.session.channel < 2 ^ 16 → CanStand 30 (Some (uint_value l.handle)) → CanStand 30 (Some (uint_value id)) → CanStand 30 (Some (uint_value format))
      → length (spoken_octets First) ≤ MAX_FRAME_SIZE → IsReadAgain First
  first_again fits handle number encoding =
      again_within First fits
      (transfer_again (first_part l id format more)
      (handle, (number, (binary_can (Some (to_be_bytes w32 id)) (omega arith) 29, (encoding, (flag_can (Some l.is_pre_settled) 29, (flag_can (Some more) 29, (tt, (tt, (tt, (tt, tt))))))))))
      (first_writable l.handle id (to_be_bytes w32 id) format l.is_pre_settled more (omega arith)).few)

  -- it has so many octets
  pub first_counted : (h n e : ℕ) → h ≡ length (uint_octets l.handle) → n ≡ length (uint_octets id) → e ≡ length (uint_octets format) → length (spoken_octets First) ≡ 14 + (h + n + e + 8) + length payload
  first_counted h n e handle number encoding =
      omega (arith, handle, number, encoding, spoken_long First, spoken_long (written_transfer l (first_part l id format true) []), first_same l id format more, first_sized l id format)

-- ---- the octets

list_short : (count : ℕ) (fields : List ℕ) → (count == 0) ≡ false → fits_octet count ≡ true → length fields + 1 < 256 → list_octets count fields ≡ 0xC0 ∷ (length fields + 1) ∷ count ∷ fields
unfolding list_octets
list_short count fields some few short =
    ap (λ b. if b then 0x45 ∷ [] else if fits_octet (length fields + 1) && fits_octet count then 0xC0 ∷ (length fields + 1) ∷ count ∷ fields else 0xD0 ∷ (big_bytes 4 (length fields + 4) ++ (big_bytes 4 count ++ fields))) some
    ∙ (ap (λ b. if fits_octet (length fields + 1) && b then 0xC0 ∷ (length fields + 1) ∷ count ∷ fields else 0xD0 ∷ (big_bytes 4 (length fields + 4) ++ (big_bytes 4 count ++ fields))) few
    ∙ ap (λ b. if b && true then 0xC0 ∷ (length fields + 1) ∷ count ∷ fields else 0xD0 ∷ (big_bytes 4 (length fields + 4) ++ (big_bytes 4 count ++ fields))) (lt-ltb (length fields + 1) 256 short))

pub short_spoken : (channel code count : ℕ) (meaning : Meaning) (fields payload : List ℕ) (size len : ℕ) → performative_octets meaning ≡ described_list_octets code count fields
    → (count == 0) ≡ false → fits_octet count ≡ true → len ≡ length fields → len + 1 < 256 → size ≡ 14 + (len + length payload)
    → front_octets size channel code len count ++ (fields ++ payload) ≡ spoken_octets (spoken_with channel meaning payload)
unfolding spoken_octets frame_octets
short_spoken channel code count meaning fields payload size len means some few is short sized =
    let list = list_short count fields some few (omega (arith, is, short)) in
    let whole : size ≡ frame_size ((0x00 ∷ 0x53 ∷ code ∷ 0xC0 ∷ (len + 1) ∷ count ∷ fields) ++ payload) = omega (arith, is, sized, length-append fields payload) in
    ap (λ n. front_octets n channel code len count ++ (fields ++ payload)) whole
    ∙ (ap (λ n. frame_octets kinds.Amqp channel ((0x00 ∷ 0x53 ∷ code ∷ 0xC0 ∷ (n + 1) ∷ count ∷ fields) ++ payload)) is
    ∙ ap (λ octets. frame_octets kinds.Amqp channel (octets ++ payload)) (ap (λ octets. 0x00 ∷ 0x53 ∷ code ∷ octets) (sym list) ∙ sym means))

six_joined : (a b c d e f payload : List ℕ) → a ++ (b ++ (c ++ (d ++ (e ++ (f ++ (payload ++ [])))))) ≡ (a ++ (b ++ (c ++ (d ++ (e ++ (f ++ [])))))) ++ payload
six_joined a b c d e f payload = rw (append-nil payload, append-nil f) (sym (simp append_assoc))

-- the first part of a delivery
module _ (l : Link) (id format : ℕ) (more : Bool) (payload : List ℕ) where
  abbrev Tag : List ℕ
  Tag = text_octets texts.Binary (to_be_bytes w32 id)

  pub first_written : (front handle number tag encoding : List ℕ) (settled flag h n e : ℕ) → front ≡ front_octets (14 + (h + n + e + 8) + length payload) l.session.channel 0x14 (h + n + e + 8) 6
      → handle ≡ uint_octets l.handle → number ≡ uint_octets id → tag ≡ Tag → encoding ≡ uint_octets format → settled ∷ [] ≡ boolean_octets l.is_pre_settled → flag ∷ [] ≡ boolean_octets more
      → h ≡ length (uint_octets l.handle) → n ≡ length (uint_octets id) → e ≡ length (uint_octets format) → h ≤ 5 → n ≤ 5 → e ≤ 5
      → front ++ (handle ++ (number ++ (tag ++ (encoding ++ (settled ∷ flag ∷ (payload ++ [])))))) ≡ spoken_octets (written_transfer l (first_part l id format more) payload)
  first_written front handle number tag encoding settled flag h n e front_is handle_is number_is tag_is encoding_is settled_is flag_is h_is n_is e_is few-h few-n few-e =
      let Front = front_octets (14 + (h + n + e + 8) + length payload) l.session.channel 0x14 (h + n + e + 8) 6 in
      let a = uint_octets l.handle in
      let b = uint_octets id in
      let d = uint_octets format in
      let s = boolean_octets l.is_pre_settled in
      let m = boolean_octets more in
      let fields = a ++ (b ++ (Tag ++ (d ++ (s ++ (m ++ []))))) in
      let len : h + n + e + 8 ≡ length fields = omega (
        arith,
        h_is,
        n_is,
        e_is,
        ap length settled_is,
        ap length flag_is,
        tag_sized id,
        length-append a (b ++ (Tag ++ (d ++ (s ++ (m ++ []))))),
        length-append b (Tag ++ (d ++ (s ++ (m ++ [])))),
        length-append Tag (d ++ (s ++ (m ++ []))),
        length-append d (s ++ (m ++ [])),
        length-append s (m ++ []),
        length-append m [],
      ) in
      ap (λ xs. xs ++ (handle ++ (number ++ (tag ++ (encoding ++ (settled ∷ flag ∷ (payload ++ []))))))) front_is
      ∙ (ap (λ xs. Front ++ (xs ++ (number ++ (tag ++ (encoding ++ (settled ∷ flag ∷ (payload ++ []))))))) handle_is
      ∙ (ap (λ xs. Front ++ (a ++ (xs ++ (tag ++ (encoding ++ (settled ∷ flag ∷ (payload ++ []))))))) number_is
      ∙ (ap (λ xs. Front ++ (a ++ (b ++ (xs ++ (encoding ++ (settled ∷ flag ∷ (payload ++ []))))))) tag_is
      ∙ (ap (λ xs. Front ++ (a ++ (b ++ (Tag ++ (xs ++ (settled ∷ flag ∷ (payload ++ []))))))) encoding_is
      ∙ (ap (λ xs. Front ++ (a ++ (b ++ (Tag ++ (d ++ (xs ++ (flag ∷ (payload ++ [])))))))) settled_is
      ∙ (ap (λ xs. Front ++ (a ++ (b ++ (Tag ++ (d ++ (s ++ (xs ++ (payload ++ [])))))))) flag_is
      ∙ (ap (λ xs. Front ++ xs) (six_joined a b Tag d s m payload)
      ∙ short_spoken l.session.channel 0x14 6 (ATransfer (first_part l id format more)) fields payload (14 + (h + n + e + 8) + length payload) (h + n + e + 8) refl refl refl len (omega (arith, few-h, few-n, few-e)) (omega arith))))))))

-- that a delivery is settled
module _ (channel : ℕ) (role : Role) (id : ℕ) where
  pub decided_again : channel < 2 ^ 16 → CanStand 30 (Some (uint_value id)) → (state : Option StateFields) → IsWritable (ADisposition (decided role id state))
      → length (spoken_octets (says channel (ADisposition (decided role id state)))) ≤ MAX_FRAME_SIZE → IsReadAgain (says channel (ADisposition (decided role id state)))
  decided_again fits number state is =
      again_within (says channel (ADisposition (decided role id state))) fits
      (disposition_again (decided role id state) (role_can role 29, (number, (tt, (flag_can (Some true) 29, (state_can state is.fields, tt))))) is)

  abbrev Fields : List ℕ → List ℕ
  Fields octets = (role_value role).octets ++ (uint_octets id ++ (0x40 ∷ 0x41 ∷ octets))

  decided_fields : (state : Option (List ℕ)) → performative_octets (ADisposition (decided role id (state_of state))) ≡ described_list_octets 0x15 (count_with state) (Fields (unwrap_or state [] ++ []))
  unfolding null_octets boolean_octets
  decided_fields None = refl
  decided_fields (Some octets) = refl

  some_fields : (state : Option (List ℕ)) → (count_with state == 0) ≡ false
  some_fields None = refl
  some_fields (Some octets) = refl

  few_fields : (state : Option (List ℕ)) → fits_octet (count_with state) ≡ true
  few_fields None = refl
  few_fields (Some octets) = refl

  pub decided_written : (state : Option (List ℕ)) (front number octets : List ℕ) (flag n count : ℕ) → front ≡ front_octets (14 + (n + 3 + length octets)) channel 0x15 (n + 3 + length octets) count
      → flag ∷ [] ≡ (role_value role).octets → number ≡ uint_octets id → octets ≡ unwrap_or state [] → count ≡ count_with state → n ≡ length (uint_octets id) → n ≤ 5 → length (unwrap_or state []) ≤ 200
      → front ++ (flag ∷ (number ++ (0x40 ∷ 0x41 ∷ (octets ++ [])))) ≡ spoken_octets (says channel (ADisposition (decided role id (state_of state))))
  decided_written state front number octets flag n count front_is flag_is number_is octets_is count_is n_is few-n short =
      let size = 14 + (n + 3 + length octets) in
      let len = n + 3 + length octets in
      let a = (role_value role).octets in
      let b = uint_octets id in
      let rest = unwrap_or state [] ++ [] in
      let longs : len ≡ length (Fields rest) = omega (
        arith,
        n_is,
        ap length flag_is,
        ap length octets_is,
        length-append a (b ++ (0x40 ∷ 0x41 ∷ rest)),
        length-append b (0x40 ∷ 0x41 ∷ rest),
        length-append (unwrap_or state []) [],
      ) in
      ap (λ xs. xs ++ (flag ∷ (number ++ (0x40 ∷ 0x41 ∷ (octets ++ []))))) (front_is ∙ ap (λ k. front_octets size channel 0x15 len k) count_is)
      ∙ (ap (λ xs. front_octets size channel 0x15 len (count_with state) ++ (xs ++ (number ++ (0x40 ∷ 0x41 ∷ (octets ++ []))))) flag_is
      ∙ (ap (λ xs. front_octets size channel 0x15 len (count_with state) ++ (a ++ (xs ++ (0x40 ∷ 0x41 ∷ (octets ++ []))))) number_is
      ∙ (ap (λ xs. front_octets size channel 0x15 len (count_with state) ++ (a ++ (b ++ (0x40 ∷ 0x41 ∷ (xs ++ []))))) octets_is
      ∙ (ap (λ xs. front_octets size channel 0x15 len (count_with state) ++ xs) (sym (append-nil (Fields rest)))
      ∙ short_spoken channel 0x15 (count_with state) (ADisposition (decided role id (state_of state))) (Fields rest) [] size len (decided_fields state) (some_fields state) (few_fields state) longs
      (omega (arith, few-n, short, ap length octets_is)) (omega arith)))))

-- ---- put behind what was there

pub puts_same : {X E : Type 0} (old new before octets said : List ℕ) (result : Result X E) → before ≡ old → octets ≡ said → Puts before new result octets → Puts old new result said
puts_same old new before octets said result same is put =
    put ∙ (ap (λ b. if is_ok result then b ++ octets else b) same ∙ ap (λ o. if is_ok result then old ++ o else old) is)
