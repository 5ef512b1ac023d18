-- The address of the delivery that an event completes, by its parts: those that the table keeps, and the event.
use Rattle.std.proofs.Common.{◌≡◌, ◌+◌, ◌≤◌, arith, nat_lt, refl, sym, ap, subst, ◌∙◌, ◌⊎◌, inl, inr, ℕ, Bool, true, false, ◌&&◌, not, List, [], ◌∷◌, ◌++◌, length, Option, Some, None, IfSome, option_map, option_and_then, unwrap_or, if◌then◌else◌, ◌==◌, eq-eqb}
use Rattle.std.proofs.lemmas.Bool.{ltb-false}
use Rattle.std.proofs.lemmas.List.{length-append, take_all}
use Rattle.amqp_perf.specs.Meaning.{TransferFields, flag}
use Rattle.amqp_perf.specs.Message.{to_of}
use Rattle.flow_counts.specs.declared.profile.TheConstants.{MAX_DELIVERY_TAG, MAX_MESSAGE_SIZE}
use Rattle.capture_form.specs.Rules.{RuleSet}
use Rattle.trace_events.specs.Words.{is_some_and, or_else, where_passes}
use Rattle.trace_events.specs.Frame.{Frame, spoken_in}
use Rattle.trace_events.specs.Event.{Event, Link, Incoming, in_frame}
use Rattle.trace_events.specs.Said.{in_spoken, in_transfer}
use Rattle.trace_events.specs.Link.{is_live, is_anonymous, is_consumer}
use Rattle.trace_events.specs.Incoming.{address_of, message, message_address, in_progress, is_last_part, part_payload, payload, completed_by, is_aborted}
use Rattle.trace_events.specs.History.{judge, new_incoming}
use Rattle.trace_events.specs.Fault.{size_fault, first_part_fault, next_part_fault, part_fault, link_transfer_fault}
use Rattle.trace_events.specs.declared.fault.Fault.{Fault}
use Rattle.trace_events.specs.declared.fault.Fault.TheVariants.{Detach}
use Rattle.amqp_perf.specs.declared.condition.ErrorCondition.TheVariants.{MessageSizeExceeded}
use Rattle.trace_events.specs.Settling.{is_closed}
use Rattle.trace_events.specs.Waiting.{is_gone}
use Rattle.trace_events.proofs.IncomingSteps.{payload-more}
use Rattle.trace_events.proofs.Judged.{AreJudged, judged-number}
use Rattle.trace_events.proofs.IncomingProgress.{judged-kept, progress-kept}
use Rattle.trace_events.proofs.Parts.{EachPart, IsKept, IsPart, judged_is_part, part_allowed}
use Rattle.trace_events.proofs.PartsGoOn.{MayGoOn, part-goes_on, unbegun-payload}
use Rattle.trace_events.proofs.Undecided.{all_before}
use Rattle.state_tables.specs.Addressed.{IsAddressed}
use Rattle.state_incoming.specs.Held.{held, is_held, held_at}
use Rattle.state_incoming.specs.HeldTables.{AreHeld, AreOver, held_in}
use Rattle.state_incoming.specs.EntryAnswers.{payload_of}
use Rattle.state_incoming.specs.declared.deliveries.Deliveries.{Deliveries}
use Rattle.state_incoming.proofs.HeldKnown.{unheld}
use Rattle.state_incoming.proofs.OverKnown.{table-there, table-none, arriving-kept}

-- ---- how long it may be

not-true : (b : Bool) → not b ≡ true → b ≡ false
not-true false is = refl
not-true true is = absurd cc

and_last : (a b : Bool) → a && b ≡ true → b ≡ true
and_last true b is = is
and_last false b is = absurd cc

no-fault : (b : Bool) (fault : Fault) (o : Option Fault) → (if b then Some fault else o) ≡ None → (b ≡ false) × (o ≡ None)
no-fault true fault o is = absurd cc
no-fault false fault o is = (refl, is)

or-none : (o p : Option Fault) → or_else o p ≡ None → p ≡ None
or-none None p is = is
or-none (Some x) p is = absurd cc

size-fits : (fields : TransferFields) (size : ℕ) → flag fields.aborted ≡ false → size_fault fields size ≡ None → size ≤ MAX_MESSAGE_SIZE
size-fits fields size whole none =
    let long : nat_lt MAX_MESSAGE_SIZE size ≡ false =
    sym (ap (λ b. not b && nat_lt MAX_MESSAGE_SIZE size) whole) ∙ (no-fault (not (flag fields.aborted) && nat_lt MAX_MESSAGE_SIZE size) (Detach MessageSizeExceeded) None none).0 in
    ltb-false MAX_MESSAGE_SIZE size long

-- of a delivery that goes on, or of one that begins
part-size : (rules : RuleSet) (l : Link) (fields : TransferFields) (octets : List ℕ) (past : List Event) (o : Option Incoming) → part_fault rules l fields octets past o ≡ None → flag fields.aborted ≡ false
    → length (unwrap_or (option_map (λ d. payload d past) o) []) + length octets ≤ MAX_MESSAGE_SIZE
part-size rules l fields octets past None none whole =
    let fits = size-fits fields (length octets) whole (or-none (first_part_fault rules l fields past) (size_fault fields (length octets)) none) in
    omega (arith, fits)
part-size rules l fields octets past (Some d) none whole =
    size-fits fields (length (payload d past) + length octets) whole (or-none (next_part_fault d fields) (size_fault fields (length (payload d past) + length octets)) none)

-- one that begins has no parts before
first-payload : (rules : RuleSet) (e : Event) (past : List Event) → AreJudged rules (e ∷ past) → (d : Incoming) → d.number ≡ e.number → payload d past ≡ []
first-payload rules e past are d own =
    let number : d.number ≡ length past = own ∙ judged-number rules e past are in
    let apart : EachPart (λ x. (x.number == d.number) ≡ false) past =
    subst (λ n. EachPart (λ x. (x.number == n) ≡ false) past) (sym number) (all_before past (judged-kept rules past are.1).each) in
    unbegun-payload past d apart

part-fits : (rules : RuleSet) (e : Event) (past : List Event) → AreJudged rules (e ∷ past) → (d : Incoming) (p : IsPart e past d) → flag p.fields.aborted ≡ false
    → length (payload d past) + length p.spoken.payload ≤ MAX_MESSAGE_SIZE
part-fits rules e past ((r, is), are) d p whole =
    judged e (sym is) p whole
  where
    none : (x : Event) → judge rules past r ≡ x → (q : IsPart x past d) → link_transfer_fault rules q.part.link q.fields q.spoken.payload past ≡ None
    none x same = subst (λ (y : Event). (q : IsPart y past d) → link_transfer_fault rules q.part.link q.fields q.spoken.payload past ≡ None) same (part_allowed rules past r d)

    judged : (x : Event) → judge rules past r ≡ x → (q : IsPart x past d) → flag q.fields.aborted ≡ false → length (payload d past) + length q.spoken.payload ≤ MAX_MESSAGE_SIZE
    judged x same q whole = by (in_progress q.part.link past) refl q.part.kind
      where
        part : part_fault rules q.part.link q.fields q.spoken.payload past (in_progress q.part.link past) ≡ None
        part =
            (no-fault (is_some_and q.fields.delivery_tag (λ tag. nat_lt MAX_DELIVERY_TAG (length tag))) _ _ (no-fault (flag q.fields.resume) _ _ (no-fault (is_consumer q.part.link) _ _ (none x same q)).1).1).1

        by : (o : Option Incoming) → in_progress q.part.link past ≡ o → (in_progress q.part.link past ≡ Some d) ⊎ ((in_progress q.part.link past ≡ None) × (d ≡ new_incoming x.number q.fields q.part.link))
            → length (payload d past) + length q.spoken.payload ≤ MAX_MESSAGE_SIZE
        by o at (inl on) = part-size rules q.part.link q.fields q.spoken.payload past (Some d) (sym (ap (part_fault rules q.part.link q.fields q.spoken.payload past) on) ∙ part) whole
        by o at (inr new) =
            let empty : payload d past ≡ [] = first-payload rules x past ((r, sym same), are) d (ap (λ (y : Incoming). y.number) new.1) in
            let fits = part-size rules q.part.link q.fields q.spoken.payload past None (sym (ap (part_fault rules q.part.link q.fields q.spoken.payload past) new.0) ∙ part) whole in
            subst (λ (xs : List ℕ). length xs + length q.spoken.payload ≤ MAX_MESSAGE_SIZE) (sym empty) fits

-- ---- what the table has of it

module _ (rules : RuleSet) (e : Event) (past : List Event) (are : AreJudged rules (e ∷ past)) (table : Deliveries) (were : AreHeld rules table past) (over : AreOver rules table past) where
  -- one that goes on is kept, with its parts so far
  going-payload : (d : Incoming) → MayGoOn past d → IsKept past d → payload_of (held_in table d.number) ≡ payload d past
  going-payload d may kept =
      let holds : is_held rules past d ≡ true =
      ap (λ b. if b then not (is_gone rules d past && is_closed past d) else not (is_aborted d past) && is_live past d.link) may.incomplete
      ∙ (ap (λ b. not b && is_live past d.link) may.whole ∙ may.live) in
      ap payload_of
      (table-there rules past table were d.number (arriving-kept rules past are.1 table over d.number d kept.at may.incomplete)
      ∙ (ap (λ o. option_map (held rules past) (where_passes (is_held rules past) o)) kept.at
      ∙ ap (λ b. option_map (held rules past) (if b then Some d else None)) holds))

  -- one that begins is not, and has none
  new-payload : (d : Incoming) → d.number ≡ e.number → payload_of (held_in table d.number) ≡ payload d past
  new-payload d own =
      ap payload_of (table-none rules past table were d.number (ap (λ n. held_at rules n past) own ∙ unheld rules e past are)) ∙ sym (first-payload rules e past are d own)

  part-kept : (d : Incoming) → e.incoming ≡ Some d → payload_of (held_in table d.number) ≡ payload d past
  part-kept d here = by (judged_is_part rules e past are d here).part.kind
    where
      p : IsPart e past d
      p = judged_is_part rules e past are d here

      by : (in_progress p.part.link past ≡ Some d) ⊎ ((in_progress p.part.link past ≡ None) × (d ≡ new_incoming e.number p.fields p.part.link)) → payload_of (held_in table d.number) ≡ payload d past
      by (inl on) = going-payload d (part-goes_on rules e past are d here) (progress-kept rules past p.part.link d are.1 on)
      by (inr new) = new-payload d (ap (λ (x : Incoming). x.number) new.1)

  whole : (d : Incoming) → completed_by e ≡ Some d → e.incoming ≡ Some d
  whole d = by (is_some_and (in_transfer e) is_last_part)
    where
      by : (b : Bool) → (if b then e.incoming else None) ≡ Some d → e.incoming ≡ Some d
      by true is = is
      by false is = absurd cc

  -- with the last part it is no longer than a message may be, since no transfer of it was at fault
  module _ (d : Incoming) (done : completed_by e ≡ Some d) where
    all-parts : payload_of (held_in table d.number) ++ part_payload (in_spoken e) ≡ payload d (e ∷ past)
    all-parts =
        let here = whole d done in
        ap (λ xs. xs ++ part_payload (in_spoken e)) (part-kept d here)
        ∙ sym (payload-more e past d (ap (λ o. is_some_and o (λ (x : Incoming). x.number == d.number)) here ∙ eq-eqb d.number d.number refl))

    all-fit : length (payload d (e ∷ past)) ≤ MAX_MESSAGE_SIZE
    all-fit =
        let here = whole d done in
        let p = judged_is_part rules e past are d here in
        let last : is_last_part p.fields ≡ true = sym (ap (λ o. is_some_and o is_last_part) p.says) ∙ completing done in
        let fits = part-fits rules e past are d p (not-true (flag p.fields.aborted) (and_last (not (flag p.fields.more)) (not (flag p.fields.aborted)) last)) in
        let said : part_payload (in_spoken e) ≡ p.spoken.payload = ap part_payload (ap (λ m. option_and_then (λ (f : Frame). spoken_in f.body) (in_frame m)) p.came ∙ p.said) in
        let more : payload d (e ∷ past) ≡ payload d past ++ p.spoken.payload =
        payload-more e past d (ap (λ o. is_some_and o (λ (x : Incoming). x.number == d.number)) here ∙ eq-eqb d.number d.number refl)
        ∙ ap (λ xs. payload d past ++ xs) said in
        subst (λ n. n ≤ MAX_MESSAGE_SIZE) (sym (ap length more ∙ length-append (payload d past) p.spoken.payload)) fits
      where
        completing : completed_by e ≡ Some d → is_some_and (in_transfer e) is_last_part ≡ true
        completing = by (is_some_and (in_transfer e) is_last_part)
          where
            by : (b : Bool) → (if b then e.incoming else None) ≡ Some d → b ≡ true
            by true is = refl
            by false is = absurd cc

    module _ (anonymous : is_anonymous d.link ≡ true) where
      message-now : message_address d (e ∷ past) ≡ unwrap_or (to_of (message d (e ∷ past))) []
      unfolding message_address
      message-now =
          ap (λ b. if b then unwrap_or (to_of (message d (e ∷ past))) [] else message_address d past)
          (ap (λ o. is_some_and o (λ (x : Incoming). x.number == d.number)) done ∙ eq-eqb d.number d.number refl)

      address-now : address_of d (e ∷ past) ≡ unwrap_or (to_of (payload_of (held_in table d.number) ++ part_payload (in_spoken e))) []
      address-now =
          ap (λ b. if b then message_address d (e ∷ past) else d.link.address) anonymous
          ∙ (message-now ∙ ap (λ xs. unwrap_or (to_of xs) []) (take_all MAX_MESSAGE_SIZE (payload d (e ∷ past)) all-fit ∙ sym all-parts))

      -- so the address in all parts is the one that it is for
      pub is-addressed : (to : List ℕ) → to ≡ unwrap_or (to_of (payload_of (held_in table d.number) ++ part_payload (in_spoken e))) [] → IsAddressed e past to
      is-addressed to is = subst (λ (o : Option Incoming). IfSome o (λ x. address_of x (e ∷ past) ≡ to)) (sym done) (address-now ∙ sym is)
