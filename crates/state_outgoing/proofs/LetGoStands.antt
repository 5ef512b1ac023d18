-- A table that lets one go, of which all that carry it are finished, has what the law says of the others.
use Rattle.std.proofs.Common.{◌≡◌, refl, sym, ap, subst, ◌∙◌, ◌⊎◌, inl, inr, ℕ, Bool, true, false, ◌&&◌, ◌||◌, not, List, [], ◌∷◌, ◌++◌, Option, Some, None, IfSome, nat_eq, option_map, if◌then◌else◌, ◌==◌, ◌<◌, ◌^◌}
use Rattle.std.specs.Prelude.{Contains}
use Rattle.std.proofs.lemmas.List.Folds.{list_any-append}
use Rattle.indexmap.specs.IndexMap.{get}
use Rattle.number_groups.specs.Numbers.{is_among}
use Rattle.pairing_cert.specs.declared.note.Note.{Note}
use Rattle.pairing_cert.specs.declared.note.Note.TheVariants as notes
use Rattle.capture_form.specs.Rules.{RuleSet}
use Rattle.trace_events.specs.Words.{is_some_and, where_passes}
use Rattle.trace_events.specs.Event.{Event, Outgoing}
use Rattle.trace_events.specs.Outgoing.{names, outgoing_deliveries, outgoing_at}
use Rattle.trace_events.proofs.Judged.{AreJudged}
use Rattle.trace_events.specs.Kept.{carriers}
use Rattle.trace_events.proofs.WaitingQueue.{filter_has, in_filter}
use Rattle.state_tables.specs.LetGo.{is_let_go, names_let_go}
use Rattle.state_tables.proofs.GroupLists.{swapped}
use Rattle.state_outgoing.specs.Carriers.{carriers_in}
use Rattle.state_outgoing.specs.LastBegun.{carrier_numbers, last_number, last_on}
use Rattle.state_outgoing.specs.LetGo.{where_kept, kept_at, is_finished}
use Rattle.state_outgoing.specs.Sent.{Sent, sent, is_left_unsettled}
use Rattle.state_outgoing.specs.SentGrouped.{AreGrouped, is_of_link, is_of_session, has_id}
use Rattle.state_outgoing.specs.SentTables.{IsTable, last_without, sent_in}
use Rattle.state_outgoing.specs.declared.deliveries.SentDeliveries.{SentDeliveries}
use Rattle.state_outgoing.specs.declared.groups.SentGroups.{SentGroups}
use Rattle.state_outgoing.proofs.CarriersKnown.{among-gives, among-has, named-gone}
use Rattle.state_outgoing.proofs.OutgoingNumbers.{found-at, found-passes}
use Rattle.state_outgoing.proofs.SentBegun.{at-number}
use Rattle.state_outgoing.proofs.SentKept.{contained-at, entry-law, found-contained, none-kept, stays-kept}
use Rattle.state_outgoing.proofs.SentKnown.{sent-of}

same_some : {A : Type 0} (a b : A) → Some a ≡ Some b → a ≡ b
same_some a b is = cc

or_false : (a : Bool) → a || false ≡ a
or_false true = refl
or_false false = refl

or_true : (a : Bool) → a || true ≡ true
or_true true = refl
or_true false = refl

-- ---- one more that was let go

module _ (gone : List (ℕ × Unit {0})) (number : ℕ) where
  abbrev pub more : List (ℕ × Unit {0})
  more = gone ++ (number, tt) ∷ []

  let-go-more : (n : ℕ) → is_let_go more n ≡ is_let_go gone n || (number == n)
  let-go-more n = list_any-append (λ (p : ℕ × Unit {0}). p.0 == n) gone ((number, tt) ∷ []) ∙ ap (λ b. is_let_go gone n || b) (or_false (number == n))

  pub names-more : (note : Note) → names_let_go more note ≡ names_let_go gone note || names number note
  names-more (notes.Pair n) = let-go-more n ∙ ap (λ b. is_let_go gone n || b) (swapped number n)
  names-more notes.None = refl
  names-more (notes.Told why) = refl

-- ---- one entry fewer, of a delivery that is in no group

module _ (groups : SentGroups) (kept later : ℕ → Option Sent)
    (fewer : (n : ℕ) → (later n ≡ kept n) ⊎ ((later n ≡ None) × IfSome (kept n) (λ (x : Sent). x.is_unsettled ≡ false))) where
  closed-test : (key : Outgoing → Bool) (o : Option Sent) → IfSome o (λ (x : Sent). x.is_unsettled ≡ false) → is_some_and o (λ x. key x.delivery && x.is_unsettled) ≡ false
  closed-test key None off = refl
  closed-test key (Some x) off = by (key x.delivery)
    where
      by : (b : Bool) → b && x.is_unsettled ≡ false
      by true = off
      by false = refl

  same-test : (key : Outgoing → Bool) (n : ℕ) → is_some_and (kept n) (λ x. key x.delivery && x.is_unsettled) ≡ is_some_and (later n) (λ x. key x.delivery && x.is_unsettled)
  same-test key n = elim (fewer n) [
    | inl same ↦ ap (λ o. is_some_and o (λ (x : Sent). key x.delivery && x.is_unsettled)) (sym same)
    | inr gone ↦ closed-test key (kept n) gone.1 ∙ ap (λ o. is_some_and o (λ (x : Sent). key x.delivery && x.is_unsettled)) (sym gone.0)
  ]

  still-holds : (P : Sent → Type 0) (n : ℕ) → IfSome (kept n) P → IfSome (later n) P
  still-holds P n holds = elim (fewer n) [
    | inl same ↦ subst (λ (o : Option Sent). IfSome o P) (sym same) holds
    | inr gone ↦ subst (λ (o : Option Sent). IfSome o P) (sym gone.0) tt
  ]

  pub fewer-grouped : AreGrouped groups kept → AreGrouped groups later
  fewer-grouped grouped = record {
    of_link = λ link n. grouped.of_link link n ∙ same-test (is_of_link link) n;
    of_session = λ session n. grouped.of_session session n ∙ same-test (is_of_session session) n;
    of_id = λ at n. grouped.of_id at n ∙ same-test (has_id at.session at.id) n;
    numbered = λ n. still-holds (λ x. x.delivery.number ≡ n) n (grouped.numbered n);
    counted = λ n. still-holds (λ x. IfSome x.delivery.id (λ id. id < 2 ^ 32)) n (grouped.counted n);
  }

-- ---- the table

module _ (rules : RuleSet) (past : List Event) (are : AreJudged rules past) (table : SentDeliveries) (is_table : IsTable table past) (number : ℕ)
    (carries : (j : Outgoing) → Contains (outgoing_deliveries past) j → names number j.note ≡ true → is_finished past j ≡ true) where
  abbrev gone : List (ℕ × Unit {0})
  gone = table.let_go.items

  abbrev has_in : List ℕ
  has_in = carriers_in table.begun number

  abbrev names-it : Outgoing → Bool
  names-it j = names number j.note

  -- what the table has of one that carries it is that of the law
  record IsCarrierAt (n : ℕ) : Type 0 where
    delivery : Outgoing
    at : outgoing_at n past ≡ Some delivery
    named : names number delivery.note ≡ true
    finished : is_finished past delivery ≡ true

  carrier-at : (n : ℕ) → is_among has_in n ≡ true → IsCarrierAt n
  carrier-at n is = by (is_let_go gone number) (is_table.begun.carriers number)
    where
      known : is_among (carrier_numbers number past) n ≡ true → IsCarrierAt n
      known here =
          let found = among-gives (λ (j : Outgoing). j.number) (carriers number past) n here in
          let of = in_filter names-it (outgoing_deliveries past) found.it found.has in
          record {
            delivery = found.it;
            at = ap (λ m. outgoing_at m past) (sym found.number) ∙ contained-at rules past are found.it of.0;
            named = of.1;
            finished = carries found.it of.0 of.1;
          }

      by : (b : Bool) → has_in ≡ (if b then [] else carrier_numbers number past) → IsCarrierAt n
      by true none = let never : false ≡ true = sym (ap (λ xs. is_among xs n) none) ∙ is in absurd cc
      by false has = known (sym (ap (λ xs. is_among xs n) has) ∙ is)

  module _ (later : SentDeliveries) (noted : later.let_go.items ≡ more gone number) (removed : (n : ℕ) → sent_in later n ≡ (if is_among has_in n then None else sent_in table n)) where
    -- one that carries it is kept no more
    none-left : (n : ℕ) (j : Outgoing) → outgoing_at n past ≡ Some j → names number j.note ≡ true → sent_in later n ≡ None
    none-left n j at named = by (is_let_go gone number) refl
      where
        empty : (b : Bool) → sent_in table n ≡ None → (if b then None else sent_in table n) ≡ None
        empty true none = refl
        empty false none = none

        by : (b : Bool) → is_let_go gone number ≡ b → sent_in later n ≡ None
        by true before =
            removed n
            ∙ empty (is_among has_in n)
            (is_table.entries n ∙ (ap (λ o. where_kept gone (option_map (sent past) o)) at ∙ none-kept gone (sent past j) (named-gone gone number j.note named ∙ before)))
        by false stays =
            let all : has_in ≡ carrier_numbers number past = is_table.begun.carriers number ∙ ap (λ b. if b then [] else carrier_numbers number past) stays in
            let among : is_among (carrier_numbers number past) j.number ≡ true =
            among-has (λ (k : Outgoing). k.number) (carriers number past) j (filter_has names-it (outgoing_deliveries past) j named (found-contained past n j at)) in
            removed n ∙ ap (λ b. if b then None else sent_in table n) (ap (λ xs. is_among xs n) all ∙ (ap (is_among (carrier_numbers number past)) (sym (at-number past n j at)) ∙ among))

    -- and every other is kept as it was
    still-kept : (n : ℕ) (j : Outgoing) → outgoing_at n past ≡ Some j → names number j.note ≡ false → sent_in later n ≡ sent_in table n
    still-kept n j at other = removed n ∙ by (is_among has_in n) refl
      where
        by : (b : Bool) → is_among has_in n ≡ b → (if b then None else sent_in table n) ≡ sent_in table n
        by false off = refl
        by true here =
            let c = carrier-at n here in
            let same : c.delivery ≡ j = same_some c.delivery j (sym c.at ∙ at) in
            let never : true ≡ false = sym c.named ∙ (ap names-it same ∙ other) in
            absurd cc

    entries : (n : ℕ) → sent_in later n ≡ kept_at (more gone number) n past
    entries n = by (outgoing_at n past) refl
      where
        empty : (b : Bool) → sent_in table n ≡ None → (if b then None else sent_in table n) ≡ None
        empty true none = refl
        empty false none = none

        either : (j : Outgoing) → outgoing_at n past ≡ Some j → (b : Bool) → names number j.note ≡ b → sent_in later n ≡ where_kept (more gone number) (Some (sent past j))
        either j at true named =
            none-left n j at named
            ∙ sym (none-kept (more gone number) (sent past j) (names-more gone number j.note ∙ (ap (λ b. names_let_go gone j.note || b) named ∙ or_true (names_let_go gone j.note))))
        either j at false other =
            still-kept n j at other
            ∙ (is_table.entries n
            ∙ (ap (λ o. where_kept gone (option_map (sent past) o)) at
            ∙ sym (ap (λ b. if not b then Some (sent past j) else None) (names-more gone number j.note ∙ (ap (λ b. names_let_go gone j.note || b) other ∙ or_false (names_let_go gone j.note))))))

        by : (o : Option Outgoing) → outgoing_at n past ≡ o → sent_in later n ≡ where_kept (more gone number) (option_map (sent past) o)
        by None none = removed n ∙ empty (is_among has_in n) (is_table.entries n ∙ ap (λ o. where_kept gone (option_map (sent past) o)) none)
        by (Some j) at = either j at (names number j.note) refl

    fewer : (n : ℕ) → (sent_in later n ≡ sent_in table n) ⊎ ((sent_in later n ≡ None) × IfSome (sent_in table n) (λ (x : Sent). x.is_unsettled ≡ false))
    fewer n = by (is_among has_in n) refl
      where
        closed-bits : (was opens : Bool) → was && not opens ≡ true → opens ≡ false
        closed-bits true false is = refl
        closed-bits true true is = absurd cc
        closed-bits false opens is = absurd cc

        closed : IsCarrierAt n → (o : Option Sent) → sent_in table n ≡ o → IfSome o (λ (x : Sent). x.is_unsettled ≡ false)
        closed c None none = tt
        closed c (Some x) entry =
            let of = sent-of n past x (entry-law table past is_table.entries n x entry) in
            let same : x.delivery ≡ c.delivery = same_some x.delivery c.delivery (sym of.at ∙ c.at) in
            sym (ap (λ (y : Sent). y.is_unsettled) of.is) ∙ (ap (is_left_unsettled past) same ∙ closed-bits _ (is_left_unsettled past c.delivery) c.finished)

        by : (b : Bool) → is_among has_in n ≡ b → (sent_in later n ≡ sent_in table n) ⊎ ((sent_in later n ≡ None) × IfSome (sent_in table n) (λ (x : Sent). x.is_unsettled ≡ false))
        by true here = inr (removed n ∙ ap (λ b. if b then None else sent_in table n) here, closed (carrier-at n here) (sent_in table n) refl)
        by false off = inl (removed n ∙ ap (λ b. if b then None else sent_in table n) off)

    finished : (j : Outgoing) → Contains (outgoing_deliveries past) j → names_let_go (more gone number) j.note ≡ true → is_finished past j ≡ true
    finished j has named = by (names_let_go gone j.note) refl (sym (names-more gone number j.note) ∙ named)
      where
        by : (b : Bool) → names_let_go gone j.note ≡ b → b || names number j.note ≡ true → is_finished past j ≡ true
        by true before is = is_table.finished j has before
        by false other is = carries j has is

    -- of each link the last one is left, unless it is one of those
    left-last : (link : ℕ) → last_without (sent_in table) (is_among has_in) link (get nat_eq table.begun.on_link link) ≡ last_number (more gone number) link past
    left-last link = ap (last_without (sent_in table) (is_among has_in) link) (is_table.begun.on_link link) ∙ by (last_on link past) refl
      where
        test : Outgoing → Bool
        test j = j.link.number == link

        without : Option ℕ → Option ℕ
        without = last_without (sent_in table) (is_among has_in) link

        numbered : Bool → Outgoing → Option ℕ
        numbered b j = option_map (λ (k : Outgoing). k.number) (if not b then Some j else None)

        -- it is one of them
        goes : (j : Outgoing) → outgoing_at j.number past ≡ Some j → test j ≡ true → names_let_go gone j.note ≡ false → names number j.note ≡ true → without (Some j.number) ≡ None
        goes j at on stays named =
            let all : has_in ≡ carrier_numbers number past =
            is_table.begun.carriers number ∙ ap (λ b. if b then [] else carrier_numbers number past) (sym (named-gone gone number j.note named) ∙ stays) in
            let among : is_among has_in j.number ≡ true =
            ap (λ xs. is_among xs j.number) all ∙ among-has (λ (k : Outgoing). k.number) (carriers number past) j (filter_has names-it (outgoing_deliveries past) j named (found-contained past j.number j at)) in
            let entry : sent_in table j.number ≡ Some (sent past j) =
            is_table.entries j.number ∙ (ap (λ o. where_kept gone (option_map (sent past) o)) at ∙ stays-kept gone (sent past j) stays) in
            ap (λ b. if b && is_some_and (sent_in table j.number) (λ x. is_of_link link x.delivery) then None else Some j.number) among
            ∙ (ap (λ o. if is_some_and o (λ (x : Sent). is_of_link link x.delivery) then None else Some j.number) entry ∙ ap (λ b. if b then None else Some j.number) on)

        -- it is none of them
        stays-last : (j : Outgoing) → outgoing_at j.number past ≡ Some j → names number j.note ≡ false → without (Some j.number) ≡ Some j.number
        stays-last j at other = by_among (is_among has_in j.number) refl
          where
            by_among : (b : Bool) → is_among has_in j.number ≡ b
                → (if b && is_some_and (sent_in table j.number) (λ x. is_of_link link x.delivery) then None else Some j.number) ≡ Some j.number
            by_among false off = refl
            by_among true here =
                let c = carrier-at j.number here in
                let same : c.delivery ≡ j = same_some c.delivery j (sym c.at ∙ at) in
                let never : true ≡ false = sym c.named ∙ (ap names-it same ∙ other) in
                absurd cc

        one : (j : Outgoing) → outgoing_at j.number past ≡ Some j → test j ≡ true → (a b : Bool) → names_let_go gone j.note ≡ a → names number j.note ≡ b
            → without (numbered a j) ≡ numbered (a || b) j
        one j at on true b before named = refl
        one j at on false true stays named = goes j at on stays named
        one j at on false false stays other = stays-last j at other

        by : (o : Option Outgoing) → last_on link past ≡ o
            → without (option_map (λ (k : Outgoing). k.number) (where_passes (λ j. not (names_let_go gone j.note)) o))
            ≡ option_map (λ (k : Outgoing). k.number) (where_passes (λ j. not (names_let_go (more gone number) j.note)) o)
        by None none = refl
        by (Some j) found =
            one j (found-at rules past are test j found) (found-passes test (outgoing_deliveries past) j found) (names_let_go gone j.note) (names number j.note) refl refl
            ∙ ap (λ b. numbered b j) (sym (names-more gone number j.note))

    module _ (groups : later.groups ≡ table.groups)
        (on_link : (n : ℕ) → get nat_eq later.begun.on_link n ≡ last_without (sent_in table) (is_among has_in) n (get nat_eq table.begun.on_link n))
        (left : (n : ℕ) → carriers_in later.begun n ≡ (if number == n then [] else carriers_in table.begun n)) where
      others : (n : ℕ) → carriers_in later.begun n ≡ (if is_let_go (more gone number) n then [] else carrier_numbers n past)
      others n =
          left n
          ∙ (ap (λ xs. if number == n then [] else xs) (is_table.begun.carriers n)
          ∙ (either (is_let_go gone n) (number == n) ∙ sym (ap (λ b. if b then [] else carrier_numbers n past) (let-go-more gone number n))))
        where
          either : (a b : Bool) → (if b then [] else if a then [] else carrier_numbers n past) ≡ (if a || b then [] else carrier_numbers n past)
          either true true = refl
          either true false = refl
          either false true = refl
          either false false = refl

      pub let-go-stands : IsTable later past
      let-go-stands = record {
        entries = λ n. entries n ∙ ap (λ g. kept_at g n past) (sym noted);
        groups = subst (λ (g : SentGroups). AreGrouped g (sent_in later)) (sym groups) (fewer-grouped table.groups (sent_in table) (sent_in later) fewer is_table.groups);
        begun = record {
          on_link = λ n. on_link n ∙ (left-last n ∙ ap (λ (g : List (ℕ × Unit {0})). last_number g n past) (sym noted));
          carriers = λ n. others n ∙ ap (λ (g : List (ℕ × Unit {0})). if is_let_go g n then [] else carrier_numbers n past) (sym noted);
        };
        finished = λ j has named. finished j has (sym (ap (λ (g : List (ℕ × Unit {0})). names_let_go g j.note) noted) ∙ named);
      }
