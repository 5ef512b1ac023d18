-- What nothing can come of any more stays so: nothing begins to carry it, what carries it stays finished, and no copy of it is
-- to begin again.
use Rattle.std.proofs.Common.{◌≡◌, refl, sym, ap, ◌∙◌, ◌⊎◌, inl, inr, ℕ, Bool, true, false, not, ◌&&◌, ◌||◌, List, [], ◌∷◌, Option, Some, None, IfSome, option_map, unwrap_or, if◌then◌else◌, eq-eqb}
use Rattle.std.specs.Prelude.{Contains}
use Rattle.std.specs.List.{cons_option}
use Rattle.pairing_cert.specs.declared.note.Note.{Note}
use Rattle.pairing_cert.specs.declared.note.Note.TheVariants as notes
use Rattle.capture_form.specs.Rules.{RuleSet}
use Rattle.trace_events.specs.Words.{is_some_and}
use Rattle.trace_events.specs.Event.{Event, Incoming, Outgoing}
use Rattle.trace_events.specs.Said.{out_transfer}
use Rattle.trace_events.specs.Address.{has_consumer}
use Rattle.trace_events.specs.Due.{is_unsent}
use Rattle.trace_events.specs.Incoming.{address_of, completed_by}
use Rattle.trace_events.specs.Outgoing.{is_named_on, is_part, is_sent, is_paired, names, outgoing_begun, outgoing_deliveries}
use Rattle.amqp_perf.specs.Meaning.{flag}
use Rattle.trace_events.specs.Waiting.{is_of_multicast}
use Rattle.trace_events.specs.Work.{keeps_unsettled, stands_unsettled}
use Rattle.trace_events.proofs.Judged.{AreJudged}
use Rattle.trace_events.proofs.SettlingSteps.{stands_unsettled-step}
use Rattle.trace_events.specs.Clauses.{first_broken}
use Rattle.trace_events.proofs.BegunDeliveries.{IsBegun, begun-linked, begun-live, judged-begun}
use Rattle.trace_events.proofs.ClausesMet.{lawful-past}
use Rattle.trace_events.proofs.IncomingProgress.{judged-kept}
use Rattle.trace_events.proofs.LinkEnds.{is_live-next, lives-live}
use Rattle.trace_events.proofs.OneConsumer.{carried-at}
use Rattle.trace_events.proofs.Parts.{IsKept, delivery_kept}
use Rattle.trace_events.proofs.VerdictSteps.{due_before, not_named_before}
use Rattle.trace_events.proofs.WaitingQueue.{all_contained, contains_cases}
use Rattle.state_tables.specs.LetGo.{is_let_go, names_let_go}
use Rattle.state_incoming.specs.Held.{Held, address_behind, closed_next, fate_next, held_at, moved, says_copied, says_paired, stays_with}
use Rattle.state_incoming.specs.HeldTables.{AreHeld, AreOver, held_in}
use Rattle.state_incoming.specs.LetGo.{AreFinished, HasAllCopies, IsOver, is_finished, is_spent}
use Rattle.state_incoming.specs.declared.deliveries.Deliveries.{Deliveries}
use Rattle.state_incoming.specs.declared.held.Fate.TheVariants.{Paired, Copied}
use Rattle.state_incoming.proofs.CopiesLast.{copies-last}
use Rattle.state_incoming.proofs.HeldAnswers.{held-of}
use Rattle.state_incoming.proofs.HeldKnown.{held-after}
use Rattle.state_incoming.proofs.OverKnown.{over-before, over-complete, over-paired, over-shut, over-went, table-law}

same_some : {A : Type 0} (a b : A) → Some a ≡ Some b → a ≡ b
same_some a b is = cc

-- now: its last part is written with the event
finished-bits : (now sent settled stood keeps : Bool) → sent && not (not settled && stood) ≡ true → (now || sent) && not (not settled && (stood && keeps)) ≡ true
finished-bits now false settled stood keeps is = absurd cc
finished-bits true true true stood keeps is = refl
finished-bits false true true stood keeps is = refl
finished-bits now true false true keeps is = absurd cc
finished-bits true true false false keeps is = refl
finished-bits false true false false keeps is = refl

module _ (rules : RuleSet) (e : Event) (past : List Event) (are : AreJudged rules (e ∷ past)) (lawful : first_broken rules (e ∷ past) ≡ None) where
  -- a copy that begins was due on its own link, which lives, and unsent there
  begins-unsent : (d : Incoming) → IsKept past d → is_of_multicast rules d past ≡ true → (j : Outgoing) → outgoing_begun e ≡ Some j → names d.number j.note ≡ true → is_unsent rules d j.link past ≡ true
  begins-unsent d kept many j begun named =
      ap (λ b. b && not (is_named_on d j.link past)) (due_before rules e past are lawful j begun d kept named many)
      ∙ ap not (not_named_before rules e past are lawful j begun d kept named many)

  -- what the event begins to send carries another
  begins-other : (n : ℕ) → IsOver rules n past → (j : Outgoing) → outgoing_begun e ≡ Some j → names n j.note ≡ false
  begins-other n over j begun = by (names n j.note) refl
    where
      d : Incoming
      d = over.entry.delivery

      by : (b : Bool) → names n j.note ≡ b → b ≡ false
      by false other = refl
      by true named =
          let c = carried-at rules e past are lawful j begun n named in
          let same : c.0 ≡ d = same_some c.0 d (sym c.1 ∙ (held-of rules n past over.entry over.at).at) in
          by_kind c.0 same c.3 c.4 (is_of_multicast rules d past) refl
        where
          by_kind : (k : Incoming) → k ≡ d → k.number ≡ n → (is_of_multicast rules k past ≡ false → is_paired k past ≡ false) → (many : Bool) → is_of_multicast rules d past ≡ many → true ≡ false
          by_kind k same number first false anycast =
              sym (over-paired rules past are.1 n over anycast) ∙ (sym (ap (λ y. is_paired y past) same) ∙ first (ap (λ y. is_of_multicast rules y past) same ∙ anycast))
          by_kind k same number first true many =
              let own : d.number ≡ n = sym (ap (λ (y : Incoming). y.number) same) ∙ number in
              let kept : IsKept past d = delivery_kept rules past n d (judged-kept rules past are.1) (held-of rules n past over.entry over.at).at in
              let live = lives-live rules past are.1 j.link (begun-linked rules e past are lawful j begun).at (begun-live rules e past are lawful j begun) in
              sym (begins-unsent d kept many j begun (ap (λ m. names m j.note) own ∙ named)) ∙ over.copied j.link live

  -- what it carries was not let go
  pub begins-kept : (table : Deliveries) → AreOver rules table past → (j : Outgoing) → outgoing_begun e ≡ Some j → names_let_go table.let_go.items j.note ≡ false
  begins-kept table over j begun = by j.note refl
    where
      by : (note : Note) → j.note ≡ note → names_let_go table.let_go.items note ≡ false
      by notes.None is = refl
      by (notes.Told why) is = refl
      by (notes.Pair n) is = named (is_let_go table.let_go.items n) refl
        where
          named : (b : Bool) → is_let_go table.let_go.items n ≡ b → b ≡ false
          named false there = refl
          named true went = sym (ap (names n) is ∙ eq-eqb n n refl) ∙ begins-other n (over n went) j begun

  finished-stays : (j : Outgoing) → IsBegun past j → is_finished past j ≡ true → is_finished (e ∷ past) j ≡ true
  finished-stays j b is =
      ap (λ u. is_sent j (e ∷ past) && not (not j.link.is_pre_settled && u)) (stands_unsettled-step e past j (is_live-next rules e past are j.link b.linked.at))
      ∙ finished-bits (is_part j e && is_some_and (out_transfer e) (λ fields. not (flag fields.more))) (is_sent j past) j.link.is_pre_settled (stands_unsettled past j) (keeps_unsettled e j) is

  finished-lasts : (n : ℕ) → IsOver rules n past → AreFinished n (e ∷ past)
  finished-lasts n over j there named = by (outgoing_begun e) refl there
    where
      earlier : Contains (outgoing_deliveries past) j → is_finished (e ∷ past) j ≡ true
      earlier was =
          finished-stays j (all_contained (IsBegun past) (outgoing_deliveries past) j (judged-begun rules past are.1 (lawful-past rules e past lawful)) was) (over.finished j was named)

      by : (o : Option Outgoing) → outgoing_begun e ≡ o → Contains (cons_option o (outgoing_deliveries past)) j → is_finished (e ∷ past) j ≡ true
      by None none was = earlier was
      by (Some k) begun was = elim (contains_cases k (outgoing_deliveries past) j was) [
        | inl same ↦
            let never : true ≡ false = sym named ∙ (ap (λ (y : Outgoing). names n y.note) (sym same) ∙ begins-other n over k begun) in
            absurd cc
        | inr later ↦ earlier later
      ]

  -- the address of what the event completes
  abbrev told : Option Incoming → List ℕ
  told o = unwrap_or (option_map (λ d. address_of d (e ∷ past)) o) []

  told-is : (o : Option Incoming) → IfSome o (λ d. address_of d (e ∷ past) ≡ told o)
  told-is None = tt
  told-is (Some d) = refl

  module _ (n : ℕ) (over : IsOver rules n past) where
    abbrev x : Held
    x = over.entry

    abbrev to : List ℕ
    to = told (completed_by e)

    abbrev behind : List ℕ
    behind = address_behind e to x

    abbrev has : Bool
    has = has_consumer behind (e ∷ past)

    abbrev next : Held
    next = moved rules e to has x

    number : x.delivery.number ≡ n
    number = (over-before rules past are.1 n over).1

    -- it went as it had before
    went : (next.fate ≡ Paired) ⊎ (next.fate ≡ Copied)
    went = elim (over-went rules past are.1 n over) [
      | inl paired ↦ inl (ap (fate_next rules e behind has x.delivery) paired)
      | inr copied ↦ inr (ap (fate_next rules e behind has x.delivery) copied)
    ]

    after : held_at rules n (e ∷ past) ≡ (if stays_with e x.delivery next.is_closed next.fate then Some next else None)
    after =
        sym (ap (λ m. held_at rules m (e ∷ past)) number)
        ∙ held-after rules e past are lawful to (told-is (completed_by e)) x (ap (λ m. held_at rules m past) number ∙ over.at)

    next-at : held_at rules n (e ∷ past) ≡ Some next
    next-at = elim went [
      | inl paired ↦ after ∙ ap (λ f. if stays_with e x.delivery next.is_closed f then Some next else None) paired
      | inr copied ↦ after ∙ ap (λ f. if stays_with e x.delivery next.is_closed f then Some next else None) copied
    ]

    shut : next.is_closed ≡ true
    shut = ap (closed_next e x.delivery) (over-shut rules past are.1 n over)

    next-spent : is_spent next ≡ true
    next-spent = elim went [
      | inl paired ↦ ap (λ f. (says_paired f || says_copied f) && next.is_closed) paired ∙ shut
      | inr copied ↦ ap (λ f. (says_paired f || says_copied f) && next.is_closed) copied ∙ shut
    ]

    pub over-lasts : IsOver rules n (e ∷ past)
    over-lasts = record {
      entry = next;
      at = next-at;
      spent = next-spent;
      finished = finished-lasts n over;
      copied = copies-last rules e past are x.delivery (over-complete rules past are.1 n over) over.copied;
    }

-- ---- of an entry that is spent, once no copy of it is to begin and what carries it is finished

pub over-now : (rules : RuleSet) (past : List Event) → AreJudged rules past → first_broken rules past ≡ None → (table : Deliveries) → AreHeld rules table past → (n : ℕ) (x : Held)
    → held_in table n ≡ Some x → is_spent x ≡ true → HasAllCopies rules x.delivery past → ((j : Outgoing) → Contains (outgoing_deliveries past) j → names n j.note ≡ true → is_finished past j ≡ true) → IsOver rules n past
over-now rules past are lawful table were n x entry spent copied done =
    record { entry = x; at = table-law rules past table were n x entry; spent = spent; finished = done; copied = copied }
