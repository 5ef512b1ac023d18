-- What one more event does to deliveries from clients.
use Rattle.std.proofs.Common.{◌≡◌, refl, ap, ◌∙◌, ℕ, Bool, true, false, ◌&&◌, ◌||◌, List, [], ◌∷◌, ◌++◌, Some, None, option_map, unwrap_or, find, if◌then◌else◌, ◌==◌}
use Rattle.std.specs.List.{cons_option}
use Rattle.amqp_perf.specs.Meaning.{TransferFields, flag}
use Rattle.amqp_perf.specs.Message.{to_of}
use Rattle.trace_events.specs.Words.{is_some_and, is_number}
use Rattle.trace_events.specs.Event.{Event, Link, Incoming}
use Rattle.trace_events.specs.Link.{is_anonymous}
use Rattle.trace_events.specs.Said.{in_spoken, in_transfer}
use Rattle.trace_events.specs.Incoming.{goes_on, in_progress, is_part, part_payload, payload, completes, is_complete, message, message_address, address_of, completion, aborts, is_aborted, incoming_begun, incoming_deliveries, incoming_at, settles_id, settles_part, is_settled, is_told}
use Rattle.trace_events.proofs.StepWords.{or-true}

-- the event is a part of a delivery of the link
abbrev pub is_part_on : Link → Event → Bool
is_part_on l e = is_some_and e.incoming (λ d. d.link.number == l.number)

pub aborts-is : (d : Incoming) (e : Event) (fields : TransferFields) → is_part d e ≡ true → in_transfer e ≡ Some fields → (b : Bool) → flag fields.aborted ≡ b → aborts d e ≡ b
aborts-is d e fields part says b aborted = ap (λ b. b && is_some_and (in_transfer e) (λ fields. flag fields.aborted)) part ∙ (ap (λ o. is_some_and o (λ (fields : TransferFields). flag fields.aborted)) says ∙ aborted)

module _ (e : Event) (past : List Event) where
  -- ---- the delivery in progress

  pub in_progress-same : (l : Link) → is_part_on l e ≡ false → in_progress l (e ∷ past) ≡ in_progress l past
  in_progress-same l none = rw none refl

  pub in_progress-none : (l : Link) → e.incoming ≡ None → in_progress l (e ∷ past) ≡ in_progress l past
  in_progress-none l none = ap (λ o. if is_some_and o (λ (d : Incoming). d.link.number == l.number) then (if is_some_and (in_transfer e) goes_on then o else None) else in_progress l past) none

  pub in_progress-goes_on : (l : Link) (d : Incoming) → e.incoming ≡ Some d → (d.link.number == l.number) ≡ true → is_some_and (in_transfer e) goes_on ≡ true
      → in_progress l (e ∷ past) ≡ Some d
  in_progress-goes_on l d is on more = rw (is, on, more) refl

  pub in_progress-ends : (l : Link) → is_part_on l e ≡ true → is_some_and (in_transfer e) goes_on ≡ false → in_progress l (e ∷ past) ≡ None
  in_progress-ends l on last = rw (on, last) refl

  -- ---- parts, completion and abort

  pub payload-same : (d : Incoming) → is_part d e ≡ false → payload d (e ∷ past) ≡ payload d past
  payload-same d none = ap (λ b. if b then payload d past ++ part_payload (in_spoken e) else payload d past) none

  pub payload-more : (d : Incoming) → is_part d e ≡ true → payload d (e ∷ past) ≡ payload d past ++ part_payload (in_spoken e)
  payload-more d part = ap (λ b. if b then payload d past ++ part_payload (in_spoken e) else payload d past) part

  pub is_complete-same : (d : Incoming) → completes d e ≡ false → is_complete d (e ∷ past) ≡ is_complete d past
  is_complete-same d none = ap (λ b. b || is_complete d past) none

  -- the address that it is for is told by the event that completes it, and by no other
  pub address_of-same : (d : Incoming) → completes d e ≡ false → address_of d (e ∷ past) ≡ address_of d past
  unfolding message_address
  address_of-same d none =
      ap (λ b. if is_anonymous d.link then (if b then unwrap_or (to_of (message d (e ∷ past))) [] else message_address d past) else d.link.address) none

  pub is_complete-here : (d : Incoming) → completes d e ≡ true → is_complete d (e ∷ past) ≡ true
  is_complete-here d here = ap (λ b. b || is_complete d past) here

  pub is_complete-stays : (d : Incoming) → is_complete d past ≡ true → is_complete d (e ∷ past) ≡ true
  is_complete-stays d before = ap (λ b. completes d e || b) before ∙ or-true (completes d e)

  pub completion-same : (d : Incoming) → completes d e ≡ false → completion d (e ∷ past) ≡ completion d past
  completion-same d none = ap (λ b. option_map (λ (e : Event). e.number) (if b then Some e else find (completes d) past)) none

  pub completion-here : (d : Incoming) → completes d e ≡ true → completion d (e ∷ past) ≡ Some e.number
  completion-here d here = ap (λ b. option_map (λ (e : Event). e.number) (if b then Some e else find (completes d) past)) here

  pub is_aborted-same : (d : Incoming) → aborts d e ≡ false → is_aborted d (e ∷ past) ≡ is_aborted d past
  is_aborted-same d none = ap (λ b. b || is_aborted d past) none

  pub is_aborted-no_part : (d : Incoming) → is_part d e ≡ false → is_aborted d (e ∷ past) ≡ is_aborted d past
  is_aborted-no_part d none = is_aborted-same d (ap (λ b. b && is_some_and (in_transfer e) (λ fields. flag fields.aborted)) none)

  pub is_aborted-here : (d : Incoming) → aborts d e ≡ true → is_aborted d (e ∷ past) ≡ true
  is_aborted-here d here = ap (λ b. b || is_aborted d past) here

  pub is_aborted-stays : (d : Incoming) → is_aborted d past ≡ true → is_aborted d (e ∷ past) ≡ true
  is_aborted-stays d before = ap (λ b. aborts d e || b) before ∙ or-true (aborts d e)

  -- ---- the deliveries of a capture

  pub incoming_deliveries-same : incoming_begun e ≡ None → incoming_deliveries (e ∷ past) ≡ incoming_deliveries past
  incoming_deliveries-same none = ap (λ o. cons_option o (incoming_deliveries past)) none

  pub incoming_deliveries-begun : (d : Incoming) → incoming_begun e ≡ Some d → incoming_deliveries (e ∷ past) ≡ d ∷ incoming_deliveries past
  incoming_deliveries-begun d new = ap (λ o. cons_option o (incoming_deliveries past)) new

  pub incoming_at-same : (n : ℕ) → incoming_begun e ≡ None → incoming_at n (e ∷ past) ≡ incoming_at n past
  incoming_at-same n none = ap (find (λ (d : Incoming). d.number == n)) (incoming_deliveries-same none)

  pub incoming_at-begun : (n : ℕ) (d : Incoming) → incoming_begun e ≡ Some d → (d.number == n) ≡ true → incoming_at n (e ∷ past) ≡ Some d
  incoming_at-begun n d new same =
      ap (find (λ (d : Incoming). d.number == n)) (incoming_deliveries-begun d new) ∙ ap (λ b. if b then Some d else incoming_at n past) same

  pub incoming_at-older : (n : ℕ) (d : Incoming) → incoming_begun e ≡ Some d → (d.number == n) ≡ false → incoming_at n (e ∷ past) ≡ incoming_at n past
  incoming_at-older n d new other =
      ap (find (λ (d : Incoming). d.number == n)) (incoming_deliveries-begun d new) ∙ ap (λ b. if b then Some d else incoming_at n past) other

  -- ---- settled, or told

  pub is_settled-same : (d : Incoming) → settles_part d e ≡ false → settles_id d e ≡ false → is_settled d (e ∷ past) ≡ is_settled d past
  is_settled-same d part id = ap (λ b. (b || settles_id d e) || is_settled d past) part ∙ ap (λ b. b || is_settled d past) id

  pub is_settled-by_part : (d : Incoming) → settles_part d e ≡ true → is_settled d (e ∷ past) ≡ true
  is_settled-by_part d part = ap (λ b. (b || settles_id d e) || is_settled d past) part

  pub is_settled-by_id : (d : Incoming) → settles_id d e ≡ true → is_settled d (e ∷ past) ≡ true
  is_settled-by_id d id =
      ap (λ b. (settles_part d e || b) || is_settled d past) id ∙ ap (λ b. b || is_settled d past) (or-true (settles_part d e))

  pub is_settled-stays : (d : Incoming) → is_settled d past ≡ true → is_settled d (e ∷ past) ≡ true
  is_settled-stays d before = ap (λ b. (settles_part d e || settles_id d e) || b) before ∙ or-true (settles_part d e || settles_id d e)

  pub is_told-same : (d : Incoming) → is_number e.told d.number ≡ false → is_told d (e ∷ past) ≡ is_told d past
  is_told-same d none = ap (λ b. b || is_told d past) none

  pub is_told-none : (d : Incoming) → e.told ≡ None → is_told d (e ∷ past) ≡ is_told d past
  is_told-none d none = ap (λ o. is_number o d.number || is_told d past) none

  pub is_told-here : (d : Incoming) → is_number e.told d.number ≡ true → is_told d (e ∷ past) ≡ true
  is_told-here d here = ap (λ b. b || is_told d past) here

  pub is_told-stays : (d : Incoming) → is_told d past ≡ true → is_told d (e ∷ past) ≡ true
  is_told-stays d before = ap (λ b. is_number e.told d.number || b) before ∙ or-true (is_number e.told d.number)

pub ruleset incoming_steps = (
  aborts-is,
  in_progress-same,
  in_progress-none,
  in_progress-goes_on,
  in_progress-ends,
  payload-same,
  payload-more,
  address_of-same,
  is_complete-same,
  is_complete-here,
  is_complete-stays,
  completion-same,
  completion-here,
  is_aborted-same,
  is_aborted-no_part,
  is_aborted-here,
  is_aborted-stays,
  incoming_deliveries-same,
  incoming_deliveries-begun,
  incoming_at-same,
  incoming_at-begun,
  incoming_at-older,
  is_settled-same,
  is_settled-by_part,
  is_settled-by_id,
  is_settled-stays,
  is_told-same,
  is_told-none,
  is_told-here,
  is_told-stays,
)
