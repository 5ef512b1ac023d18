-- What the table of deliveries to clients answers is what the law says.
use Rattle.std.proofs.Common.{◌≡◌, refl, sym, ap, subst, ◌∙◌, ◌⊎◌, inl, inr, ℕ, Bool, true, false, ◌&&◌, not, List, length, Option, Some, None, IfSome, is_some, option_and_then, option_map, nat_eq, if◌then◌else◌, ◌==◌, eqb-true, eq-eqb, arith}
use Rattle.std.specs.Prelude.{Contains}
use Rattle.std.specs.List.{list_all, list_any}
use Rattle.indexmap.specs.IndexMap.{get}
use Rattle.pairing_cert.specs.declared.note.Note.{Note}
use Rattle.pairing_cert.specs.declared.note.Note.TheVariants as notes
use Rattle.capture_form.specs.Rules.{RuleSet}
use Rattle.trace_events.specs.declared.session.Session.{Session}
use Rattle.trace_events.specs.Words.{is_number, is_some_and, where_passes}
use Rattle.trace_events.specs.Event.{Event, Link, Incoming, Outgoing}
use Rattle.trace_events.specs.Disposition.{terminal_state}
use Rattle.trace_events.specs.Incoming.{incoming_at}
use Rattle.trace_events.specs.Outgoing as law
use Rattle.trace_events.specs.Outgoing.{first_deciding, noted, noted_number, pairing, outgoing_at}
use Rattle.trace_events.specs.Settling as settling
use Rattle.trace_events.specs.Settling.{is_to_settle}
use Rattle.trace_events.specs.Work.{carries_closed, stands_unsettled}
use Rattle.trace_events.proofs.Judged.{AreJudged, judged-born}
use Rattle.trace_events.proofs.OutgoingLinks.{first_deciding-before}
use Rattle.trace_events.proofs.SettlingSteps.{is_to_settle-parts}
use Rattle.trace_events.specs.TransferClause.{carried_before}
use Rattle.trace_events.proofs.WaitingQueue.{find_has}
use Rattle.number_groups.specs.Groups.{numbers}
use Rattle.state_tables.specs.ConsumerLinks.{link_in}
use Rattle.state_tables.specs.LetGo.{is_let_go, names_let_go}
use Rattle.state_tables.specs.declared.consumer_links.ConsumerLinks.{ConsumerLinks}
use Rattle.state_outgoing.specs.Earliest.{least}
use Rattle.number_groups.specs.Ids.{same_id}
use Rattle.state_outgoing.specs.Carriers.{carriers_in}
use Rattle.state_outgoing.specs.LastBegun.{carrier_number, is_last_carrying, is_last_let_go, last_number, last_on}
use Rattle.state_outgoing.specs.LetGo.{where_kept, kept_at, is_finished}
use Rattle.state_outgoing.specs.Sent.{IsKnownTo, Sent, sent, sent_at, is_left_unsettled}
use Rattle.state_outgoing.specs.SentAnswers.{AreClosings, Knows, KnowsOrBegins, carried, closes, decided, delivery_in, is_settleable, says_sent, unsent}
use Rattle.state_outgoing.specs.SentTables.{AreSent, IsTable, is_done_in, is_last_in, sent_in}
use Rattle.state_outgoing.specs.declared.deliveries.SentDeliveries.{SentDeliveries}
use Rattle.number_groups.specs.declared.id_on.IdOn.{IdOn}
use Rattle.state_outgoing.proofs.CarriersKnown.{carrying-kept, done-each, each-done, named-gone, none-passes, paired-entry, pairing-entry}
use Rattle.state_outgoing.proofs.LastBegun.{carried-entry, progress-entry, progress-known, progress-unsent}
use Rattle.state_outgoing.proofs.OutgoingNumbers.{found-passes}
use Rattle.state_outgoing.proofs.SentKept.{contained-at, entry-law, found-kept, unfinished-entry, unsent-unfinished, unsettled-unfinished}
use Rattle.state_outgoing.proofs.SentBegun.{at-number, found-below, sent-none}
use Rattle.state_outgoing.proofs.SentKnown.{entry_to_settle, sent-of}
use Rattle.state_outgoing.proofs.ToSettle.{to_settle-entry}

same_some : {A : Type 0} (a b : A) → Some a ≡ Some b → a ≡ b
same_some a b is = cc

-- ---- what is given

module _ (table : SentDeliveries) where
  -- by its number, it is that of the entry
  pub given-entry : (o : Option ℕ) → option_and_then (delivery_in table) o ≡ option_map (λ x. x.delivery) (option_and_then (sent_in table) o)
  given-entry None = refl
  given-entry (Some n) = refl

  -- it can be told of
  pub given-known : (past : List Event) → IsTable table past → (o : Option ℕ) → IfSome (option_and_then (delivery_in table) o) (Knows table)
  given-known past is None = tt
  given-known past is (Some n) = by (sent_in table n) refl (is.groups.numbered n)
    where
      by : (o : Option Sent) → sent_in table n ≡ o → IfSome o (λ x. x.delivery.number ≡ n) → IfSome (option_map (λ (x : Sent). x.delivery) o) (Knows table)
      by None none own = tt
      by (Some x) entry own = ap (delivery_in table) own ∙ ap (option_map (λ (x : Sent). x.delivery)) entry

-- what has begun can be told of, where what it carries was not let go
pub begun-knows : (table : SentDeliveries) (past : List Event) → AreSent table past → (j : Outgoing) → outgoing_at j.number past ≡ Some j → names_let_go table.let_go.items j.note ≡ false → Knows table j
begun-knows table past are j at none = ap (option_map (λ (x : Sent). x.delivery)) (found-kept table past are j.number j at none)

-- of what can be told there is the law's entry
pub knows-entry : (table : SentDeliveries) (past : List Event) → AreSent table past → (j : Outgoing) → Knows table j → sent_in table j.number ≡ Some (sent past j)
knows-entry table past are j knows = by (sent_in table j.number) refl knows
  where
    by : (o : Option Sent) → sent_in table j.number ≡ o → option_map (λ (x : Sent). x.delivery) o ≡ Some j → sent_in table j.number ≡ Some (sent past j)
    by None is knows = absurd cc
    by (Some x) is knows =
        let of = sent-of j.number past x (entry-law table past are j.number x is) in
        let own : x.delivery ≡ j = same_some x.delivery j knows in
        is ∙ ap Some (sym of.is ∙ ap (sent past) own)

-- what can be told of has begun, or begins behind these events
pub knows-begun : (table : SentDeliveries) (past : List Event) → AreSent table past → (j : Outgoing) → KnowsOrBegins table past j → IsKnownTo past j
knows-begun table past are j (inr next) = inr next
knows-begun table past are j (inl knows) = inl ((sent-of j.number past (sent past j) (entry-law table past are j.number (sent past j) (knows-entry table past are j knows))).at)

-- ---- the number that a note names

number-noted : (note : Note) (past : List Event) → option_and_then (λ n. incoming_at n past) (noted_number note) ≡ noted note past
number-noted (notes.Pair n) past = refl
number-noted notes.None past = refl
number-noted (notes.Told why) past = refl

carried-noted : (o : Option Sent) (past : List Event) → option_and_then (λ n. incoming_at n past) (carried o) ≡ option_and_then (λ x. noted x.delivery.note past) o
carried-noted None past = refl
carried-noted (Some x) past = number-noted x.delivery.note past

-- ---- one that has begun, or begins behind these events

abbrev IsKnown : List Event → Outgoing → Option Sent → Type 0
IsKnown past j o = (o ≡ Some (sent past j)) ⊎ ((o ≡ None) × (j.number ≡ length past))

module _ (rules : RuleSet) (past : List Event) (are : AreJudged rules past) where
  -- none has the next number
  none-next : outgoing_at (length past) past ≡ None
  none-next = by (outgoing_at (length past) past) refl
    where
      by : (o : Option Outgoing) → outgoing_at (length past) past ≡ o → outgoing_at (length past) past ≡ None
      by None is = is
      by (Some j) is = let lt = found-below past (judged-born rules past are) (length past) j is in let own = at-number past (length past) j is in absurd (omega (arith, lt, own))

  module _ (table : SentDeliveries) (were : AreSent table past) (j : Outgoing) where
    is-known : KnowsOrBegins table past j → IsKnown past j (sent_in table j.number)
    is-known (inr next) = inr (were j.number ∙ (ap (λ n. kept_at table.let_go.items n past) next ∙ ap (λ o. where_kept table.let_go.items (option_map (sent past) o)) none-next), next)
    is-known (inl knows) = inl (knows-entry table past were j knows)

    -- so there is its entry, or none yet
    pub told-entry : KnowsOrBegins table past j → sent_in table j.number ≡ sent_at j.number past
    told-entry (inr next) =
        let none : sent_at j.number past ≡ None = ap (λ n. sent_at n past) next ∙ ap (option_map (sent past)) none-next in
        were j.number ∙ (ap (where_kept table.let_go.items) none ∙ sym none)
    told-entry (inl knows) =
        let entry = knows-entry table past were j knows in
        entry ∙ sym (entry-law table past were j.number (sent past j) entry)

    pub sent-known : KnowsOrBegins table past j → says_sent (sent_in table j.number) ≡ law.is_sent j past
    sent-known knows = elim (is-known knows) [
      | inl entry ↦ ap says_sent entry
      | inr (none, next) ↦ ap says_sent none ∙ sym (sent-none j past (judged-born rules past are) (omega (arith, next)))
    ]

    none-decided : (b : Bool) (o : Option _) → o ≡ None → option_map terminal_state (if b then None else o) ≡ None
    none-decided true o is = refl
    none-decided false o is = ap (option_map terminal_state) is

    pub decision-known : KnowsOrBegins table past j → decided (sent_in table j.number) ≡ option_map terminal_state (law.decision j past)
    decision-known knows = elim (is-known knows) [
      | inl entry ↦ ap decided entry
      | inr (none, next) ↦ ap decided none ∙ sym (none-decided j.link.is_pre_settled (first_deciding j past) (first_deciding-before rules past j are (omega (arith, next))))
    ]

-- ---- what is to be settled

-- what is to be settled is unsettled: nothing is decided on a pre-settled link
unsettled-bits : {A : Type 0} (s stands : Bool) (o : Option A) (closed : Bool) → stands && (is_some (if s then None else o) && closed) ≡ true → not s && stands ≡ true
unsettled-bits true true o closed is = absurd cc
unsettled-bits true false o closed is = absurd cc
unsettled-bits false true o closed is = refl
unsettled-bits false false o closed is = absurd cc

bears-mark : (past : List Event) (j : Outgoing) → is_to_settle past j ≡ true → is_left_unsettled past j ≡ true
bears-mark past j is = unsettled-bits j.link.is_pre_settled (stands_unsettled past j) (first_deciding j past) (carries_closed past j) (sym (is_to_settle-parts past j) ∙ is)

module _ (rules : RuleSet) (past : List Event) (are : AreJudged rules past) (table : SentDeliveries) (is_table : IsTable table past) where
  pub progress-table : (l : Link) (last : Option ℕ) → last ≡ last_number table.let_go.items l.number past → unsent (option_and_then (sent_in table) last) ≡ law.in_progress l past
  progress-table l last is = progress-entry rules past are table.let_go.items (sent_in table) is_table.entries l.number last is is_table.finished l refl

  pub carried-table : (l : Link) → is_last_let_go table.let_go.items l.number past ≡ false → (last : Option ℕ) → last ≡ last_number table.let_go.items l.number past → option_and_then (λ n. incoming_at n past) (carried (option_and_then (sent_in table) last)) ≡ carried_before l past
  carried-table l stays last is =
      carried-noted (option_and_then (sent_in table) last) past ∙ carried-entry rules past are table.let_go.items (sent_in table) is_table.entries l.number last is stays l refl

  module _ (d : Incoming) (stays : is_let_go table.let_go.items d.number ≡ false) (last : Option ℕ)
      (is : last ≡ (if is_let_go table.let_go.items d.number then None else carrier_number d.number past)) where
    pub pairing-table : option_and_then (delivery_in table) last ≡ pairing d past
    pairing-table = given-entry table last ∙ pairing-entry rules past are table.let_go.items (sent_in table) is_table.entries d.number stays last is

    pub paired-table : is_some last ≡ law.is_paired d past
    paired-table = paired-entry rules past are table.let_go.items (sent_in table) is_table.entries d.number stays last is

  -- all that carry it are finished, as the table says it
  module _ (number : ℕ) (stays : is_let_go table.let_go.items number ≡ false) where
    pub finished-each : list_all (is_done_in table) (carriers_in table.begun number) ≡ true
        → (j : Outgoing) → Contains (law.outgoing_deliveries past) j → law.names number j.note ≡ true → is_finished past j ≡ true
    finished-each = done-each rules past are table.let_go.items (sent_in table) is_table.entries number stays (carriers_in table.begun number) (is_table.begun.carriers number)

    pub each-finished : ((j : Outgoing) → Contains (law.outgoing_deliveries past) j → law.names number j.note ≡ true → is_finished past j ≡ true)
        → list_all (is_done_in table) (carriers_in table.begun number) ≡ true
    each-finished = each-done rules past are table.let_go.items (sent_in table) is_table.entries number stays (carriers_in table.begun number) (is_table.begun.carriers number)

    -- where none of those that carry it is last on one of these links, the last one on none of these carries it
    module _ (links : ConsumerLinks) (none : list_any (is_last_in table links) (carriers_in table.begun number) ≡ false)
        (link : ℕ) (lives : is_some (link_in links link) ≡ true) where
      on-number : (j : Outgoing) → last_on link past ≡ Some j → law.names number j.note ≡ true → get nat_eq table.begun.on_link link ≡ Some j.number
      on-number j is named =
          is_table.begun.on_link link
          ∙ (ap (λ o. option_map (λ (k : Outgoing). k.number) (where_passes (λ (k : Outgoing). not (names_let_go table.let_go.items k.note)) o)) is
          ∙ ap (λ b. option_map (λ (k : Outgoing). k.number) (if not b then Some j else None)) (named-gone table.let_go.items number j.note named ∙ stays))

      -- the test of the one that carries it
      last-passes : (j : Outgoing) → last_on link past ≡ Some j → law.names number j.note ≡ true → is_last_in table links j.number ≡ true
      last-passes j is named =
          let there = find_has (λ (k : Outgoing). k.link.number == link) (law.outgoing_deliveries past) j is in
          let on : j.link.number ≡ link = eqb-true j.link.number link (found-passes (λ (k : Outgoing). k.link.number == link) (law.outgoing_deliveries past) j is) in
          let kept = carrying-kept rules past are table.let_go.items (sent_in table) is_table.entries number stays j (contained-at rules past are j there) named in
          ap (λ o. is_some_and o (λ (x : Sent). is_some (link_in links x.delivery.link.number) && is_number (get nat_eq table.begun.on_link x.delivery.link.number) j.number)) kept
          ∙ (ap (λ n. is_some (link_in links n) && is_number (get nat_eq table.begun.on_link n) j.number) on
          ∙ (ap (λ b. b && is_number (get nat_eq table.begun.on_link link) j.number) lives
          ∙ (ap (λ o. is_number o j.number) (on-number j is named) ∙ eq-eqb j.number j.number refl)))

      pub last-apart : is_last_carrying number link past ≡ false
      last-apart = by (last_on link past) refl
        where
          one : (j : Outgoing) → last_on link past ≡ Some j → (b : Bool) → law.names number j.note ≡ b → b ≡ false
          one j is false named = refl
          one j is true named =
              let there = find_has (λ (k : Outgoing). k.link.number == link) (law.outgoing_deliveries past) j is in
              let never : true ≡ false = sym (last-passes j is named)
              ∙ none-passes rules past are table.let_go.items (sent_in table) is_table.entries number stays (carriers_in table.begun number) (is_table.begun.carriers number)
              (is_last_in table links) none j there named in
              absurd cc

          by : (o : Option Outgoing) → last_on link past ≡ o → is_some_and o (λ j. law.names number j.note) ≡ false
          by None is = refl
          by (Some j) is = one j is (law.names number j.note) refl

  asks : (does_close : ℕ → Bool) → AreClosings does_close past → (n : ℕ) → is_settleable does_close (sent_in table n) ≡ is_some_and (sent_in table n) (λ x. is_to_settle past x.delivery)
  asks does_close closes_them n = by (sent_in table n) refl
    where
      by : (o : Option Sent) → sent_in table n ≡ o → is_settleable does_close o ≡ is_some_and o (λ x. is_to_settle past x.delivery)
      by None none = refl
      by (Some x) entry =
          let at : sent_at n past ≡ Some x = entry-law table past is_table.entries n x entry in
          let of = sent-of n past x at in
          let own : x.delivery.number ≡ n = at-number past n x.delivery of.at in
          entry_to_settle past x (ap (λ m. sent_at m past) own ∙ at) (closes does_close x.delivery.note)
          (closes_them x.delivery (ap (λ m. outgoing_at m past) own ∙ of.at))

  pub settle-table : (s : Session) (id : ℕ) (at : IdOn) → at.session ≡ s.number → at.id ≡ id → (does_close : ℕ → Bool) → AreClosings does_close past
      → option_and_then (delivery_in table) (least (λ n. is_settleable does_close (sent_in table n)) (numbers same_id table.groups.of_id at)) ≡ settling.to_settle s id past
  settle-table s id at session own does_close closes_them =
      given-entry table (least (λ n. is_settleable does_close (sent_in table n)) (numbers same_id table.groups.of_id at))
      ∙ to_settle-entry rules past are (sent_in table) (entry-law table past is_table.entries)
      (λ n j found asked. unfinished-entry table past is_table n j found (unsettled-unfinished past j (bears-mark past j asked))) s id (λ x. x.is_unsettled) (bears-mark past) (numbers same_id table.groups.of_id at)
      (λ n. is_table.groups.of_id at n ∙ rw (session, own) refl) (λ n. is_settleable does_close (sent_in table n)) (asks does_close closes_them)

-- ---- the delivery in progress on a link can be told of

known : {A : Type 0} (P : A → Type 0) (o : Option A) (x : A) → o ≡ Some x → IfSome o P → P x
known P o x is h = subst (λ (p : Option _). IfSome p P) is h

pub progress-knows : (rules : RuleSet) (past : List Event) → AreJudged rules past → (table : SentDeliveries) → IsTable table past → (l : Link) (j : Outgoing) → law.in_progress l past ≡ Some j → Knows table j
progress-knows rules past are table is_table l j is =
    ap (option_map (λ (x : Sent). x.delivery))
    (unfinished-entry table past is_table j.number j (known (λ (k : Outgoing). outgoing_at k.number past ≡ Some k) (law.in_progress l past) j is (progress-known rules past are l))
    (unsent-unfinished past j (progress-unsent rules past are l j is)))
