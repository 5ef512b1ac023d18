-- What the table keeps of the deliveries to clients, of which some were let go: it is the law's, and what is not finished is kept.
use Rattle.std.proofs.Common.{◌≡◌, refl, sym, ap, ◌∙◌, inl, inr, ℕ, Bool, true, false, ◌&&◌, ◌||◌, not, List, [], ◌∷◌, Option, Some, None, option_map, if◌then◌else◌, ◌==◌}
use Rattle.std.specs.Prelude.{Contains}
use Rattle.std.specs.List.{cons_option}
use Rattle.pairing_cert.specs.declared.note.Note.{Note}
use Rattle.pairing_cert.specs.declared.note.Note.TheVariants as notes
use Rattle.capture_form.specs.Rules.{RuleSet}
use Rattle.trace_events.specs.Words.{is_some_and, or_else}
use Rattle.trace_events.specs.Event.{Event, Outgoing}
use Rattle.trace_events.specs.Outgoing.{is_sent, outgoing_begun, outgoing_deliveries, outgoing_at}
use Rattle.trace_events.proofs.Judged.{AreJudged}
use Rattle.trace_events.proofs.WaitingQueue.{all_contained, contains_cases, find_has}
use Rattle.state_tables.specs.LetGo.{is_let_go, names_let_go}
use Rattle.state_outgoing.specs.LetGo.{where_kept, kept_at, is_finished, is_done}
use Rattle.state_outgoing.specs.Sent.{Sent, sent, is_left_unsettled, sent_at, sent_next, sent_begun, sent_behind, begins_number, decided_with, ends_delivery, unsent, verdict_of, verdict_said}
use Rattle.state_outgoing.specs.SentTables.{AreSent, IsTable, sent_in}
use Rattle.state_outgoing.specs.declared.deliveries.SentDeliveries.{SentDeliveries}
use Rattle.state_outgoing.proofs.SentBegun.{all-found, found-still}
use Rattle.state_outgoing.proofs.SentFollowed.{sent-behind}
use Rattle.state_outgoing.proofs.SentKnown.{sent-on}

same_some : {A : Type 0} (a b : A) → Some a ≡ Some b → a ≡ b
same_some a b is = cc

-- ---- by what was let go

module _ (gone : List (ℕ × Unit {0})) where
  -- what is kept is the law's
  pub kept-law : (o : Option Sent) (x : Sent) → where_kept gone o ≡ Some x → o ≡ Some x
  kept-law None x is = absurd cc
  kept-law (Some y) x is = by (not (names_let_go gone y.delivery.note)) is
    where
      by : (b : Bool) → (if b then Some y else None) ≡ Some x → Some y ≡ Some x
      by true is = is
      by false is = absurd cc

  -- it is kept where its note names none that was let go, and no other
  pub stays-kept : (x : Sent) → names_let_go gone x.delivery.note ≡ false → where_kept gone (Some x) ≡ Some x
  stays-kept x none = ap (λ b. if not b then Some x else None) none

  pub none-kept : (x : Sent) → names_let_go gone x.delivery.note ≡ true → where_kept gone (Some x) ≡ None
  none-kept x named = ap (λ b. if not b then Some x else None) named

  -- where nothing was let go all is kept
  pub names-none : gone ≡ [] → (note : Note) → names_let_go gone note ≡ false
  names-none none (notes.Pair n) = ap (λ (g : List (ℕ × Unit {0})). is_let_go g n) none
  names-none none notes.None = refl
  names-none none (notes.Told why) = refl

  pub none-let-go : gone ≡ [] → (n : ℕ) → is_let_go gone n ≡ false
  none-let-go none n = ap (λ (g : List (ℕ × Unit {0})). is_let_go g n) none

  -- and what an event begins carries none
  pub none-begun : gone ≡ [] → (e : Event) → is_some_and (outgoing_begun e) (λ j. names_let_go gone j.note) ≡ false
  none-begun none e = by (outgoing_begun e)
    where
      by : (o : Option Outgoing) → is_some_and o (λ j. names_let_go gone j.note) ≡ false
      by None = refl
      by (Some j) = names-none none j.note

  pub all-kept : gone ≡ [] → (o : Option Sent) → where_kept gone o ≡ o
  all-kept none None = refl
  all-kept none (Some x) = stays-kept x (names-none none x.delivery.note)

  -- an event moves what is kept as it moves all, where what it begins carries none that was let go
  module _ (e : Event) (apart : is_some_and (outgoing_begun e) (λ j. names_let_go gone j.note) ≡ false) where
    next-kept : (o : Option Sent) → where_kept gone (option_map (sent_next e) o) ≡ option_map (sent_next e) (where_kept gone o)
    next-kept None = refl
    next-kept (Some x) = by (not (names_let_go gone x.delivery.note))
      where
        by : (b : Bool) → (if b then Some (sent_next e x) else None) ≡ option_map (sent_next e) (if b then Some x else None)
        by true = refl
        by false = refl

    begun-kept : where_kept gone (sent_begun e) ≡ sent_begun e
    begun-kept = by (outgoing_begun e) apart
      where
        by : (o : Option Outgoing) → is_some_and o (λ j. names_let_go gone j.note) ≡ false → where_kept gone (option_map (λ j. sent_next e (unsent j)) o) ≡ option_map (λ j. sent_next e (unsent j)) o
        by None none = refl
        by (Some j) none = stays-kept (sent_next e (unsent j)) none

    behind-kept : (n : ℕ) (o : Option Sent) → where_kept gone (sent_behind e n o) ≡ sent_behind e n (where_kept gone o)
    behind-kept n o = by (begins_number e n)
      where
        by : (b : Bool) → where_kept gone (if b then sent_begun e else option_map (sent_next e) o) ≡ (if b then sent_begun e else option_map (sent_next e) (where_kept gone o))
        by true = begun-kept
        by false = next-kept o

    pub kept-behind : (rules : RuleSet) (past : List Event) → AreJudged rules (e ∷ past) → (n : ℕ) → kept_at gone n (e ∷ past) ≡ sent_behind e n (kept_at gone n past)
    kept-behind rules past are n = ap (where_kept gone) (sent-behind rules e past are n) ∙ behind-kept n (sent_at n past)

-- ---- what has begun is found by its number

pub contained-at : (rules : RuleSet) (past : List Event) → AreJudged rules past → (j : Outgoing) → Contains (outgoing_deliveries past) j → outgoing_at j.number past ≡ Some j
contained-at rules past are j has = all_contained (λ (k : Outgoing). outgoing_at k.number past ≡ Some k) (outgoing_deliveries past) j (all-found rules past are) has

pub found-contained : (past : List Event) (n : ℕ) (j : Outgoing) → outgoing_at n past ≡ Some j → Contains (outgoing_deliveries past) j
found-contained past n j at = find_has (λ (k : Outgoing). k.number == n) (outgoing_deliveries past) j at

-- ---- what is finished stays so

unsettled-bits : (was opens : Bool) → opens ≡ true → was && not opens ≡ false
unsettled-bits true opens is = ap not is
unsettled-bits false opens is = refl

pub unsettled-unfinished : (past : List Event) (j : Outgoing) → is_left_unsettled past j ≡ true → is_finished past j ≡ false
unsettled-unfinished past j is = unsettled-bits (is_sent j past) (is_left_unsettled past j) is

pub unsent-unfinished : (past : List Event) (j : Outgoing) → is_sent j past ≡ false → is_finished past j ≡ false
unsent-unfinished past j is = ap (λ b. b && not (is_left_unsettled past j)) is

done-bits : (ends was opens keeps : Bool) → was && not opens ≡ true → (ends || was) && not (opens && keeps) ≡ true
done-bits true true false keeps is = refl
done-bits false true false keeps is = refl
done-bits ends true true keeps is = absurd cc
done-bits ends false opens keeps is = absurd cc

pub done-next : (e : Event) (x : Sent) → is_done x ≡ true → is_done (sent_next e x) ≡ true
done-next e x is = done-bits _ x.is_sent x.is_unsettled _ is

-- and has the verdict that it had
done-decided : {A : Type 0} (was opens : Bool) (o : Option A) (now : Option A) → was && not opens ≡ true → or_else o (if opens then now else None) ≡ o
done-decided true true o now is = absurd cc
done-decided false opens o now is = absurd cc
done-decided true false None now is = refl
done-decided true false (Some x) now is = refl

done-sent : (ends was opens : Bool) → was && not opens ≡ true → ends || was ≡ was
done-sent true true opens is = refl
done-sent false was opens is = refl
done-sent true false opens is = absurd cc

pub done-verdict : (e : Event) (x : Sent) → is_done x ≡ true → verdict_of (sent_next e x) ≡ verdict_of x
done-verdict e x is =
    ap (λ d. verdict_said d (x.delivery.link.is_pre_settled && (sent_next e x).is_sent)) (done-decided x.is_sent x.is_unsettled x.decision (decided_with e x.delivery) is)
    ∙ ap (λ b. verdict_said x.decision (x.delivery.link.is_pre_settled && b)) (done-sent (ends_delivery e x.delivery) x.is_sent x.is_unsettled is)

-- what one event makes of one that is found
pub sent-moved : (rules : RuleSet) (e : Event) (past : List Event) → AreJudged rules (e ∷ past) → (j : Outgoing) → outgoing_at j.number past ≡ Some j → sent (e ∷ past) j ≡ sent_next e (sent past j)
sent-moved rules e past are j at =
    same_some (sent (e ∷ past) j) (sent_next e (sent past j))
    (sym (ap (option_map (sent (e ∷ past))) (found-still rules e past are j.number j at)) ∙ sent-on rules e past are (sent past j) (ap (option_map (sent past)) at))

-- of what carries one that was let go
module _ (gone : List (ℕ × Unit {0})) where
  abbrev pub IsOver : List Event → Type 0
  IsOver past = (j : Outgoing) → Contains (outgoing_deliveries past) j → names_let_go gone j.note ≡ true → is_finished past j ≡ true

  -- what is not finished carries none
  pub unfinished-names : (past : List Event) → IsOver past → (j : Outgoing) → Contains (outgoing_deliveries past) j → is_finished past j ≡ false → names_let_go gone j.note ≡ false
  unfinished-names past over j has is = by (names_let_go gone j.note) refl
    where
      by : (b : Bool) → names_let_go gone j.note ≡ b → names_let_go gone j.note ≡ false
      by false none = none
      by true named = let never : true ≡ false = sym (over j has named) ∙ is in absurd cc

  module _ (rules : RuleSet) (e : Event) (past : List Event) (are : AreJudged rules (e ∷ past)) (apart : is_some_and (outgoing_begun e) (λ j. names_let_go gone j.note) ≡ false) (over : IsOver past) where
    stays-finished : (j : Outgoing) → Contains (outgoing_deliveries past) j → is_finished past j ≡ true → is_finished (e ∷ past) j ≡ true
    stays-finished j has is = ap is_done (sent-moved rules e past are j (contained-at rules past are.1 j has)) ∙ done-next e (sent past j) is

    pub over-next : IsOver (e ∷ past)
    over-next j has named = by (outgoing_begun e) refl has
      where
        by : (o : Option Outgoing) → outgoing_begun e ≡ o → Contains (cons_option o (outgoing_deliveries past)) j → is_finished (e ∷ past) j ≡ true
        by None none has = stays-finished j has (over j has named)
        by (Some k) begun has = elim (contains_cases k (outgoing_deliveries past) j has) [
          | inl same ↦
              let never : true ≡ false =
              sym named ∙ (sym (ap (λ (i : Outgoing). names_let_go gone i.note) same) ∙ (sym (ap (λ o. is_some_and o (λ (i : Outgoing). names_let_go gone i.note)) begun) ∙ apart)) in
              absurd cc
          | inr later ↦ stays-finished j later (over j later named)
        ]

-- ---- of a table

module _ (table : SentDeliveries) (past : List Event) where
  -- an entry is the law's
  pub entry-law : AreSent table past → (n : ℕ) (x : Sent) → sent_in table n ≡ Some x → sent_at n past ≡ Some x
  entry-law are n x is = kept-law table.let_go.items (sent_at n past) x (sym (are n) ∙ is)

  -- where nothing was let go there is one of each
  pub all-entries : table.let_go.items ≡ [] → AreSent table past → (n : ℕ) → sent_in table n ≡ sent_at n past
  all-entries none are n = are n ∙ all-kept table.let_go.items none (sent_at n past)

  pub entries-all : table.let_go.items ≡ [] → ((n : ℕ) → sent_in table n ≡ sent_at n past) → AreSent table past
  entries-all none are n = are n ∙ sym (all-kept table.let_go.items none (sent_at n past))

  -- what is found, and carries none that was let go, has its entry
  pub found-kept : AreSent table past → (n : ℕ) (j : Outgoing) → outgoing_at n past ≡ Some j → names_let_go table.let_go.items j.note ≡ false → sent_in table n ≡ Some (sent past j)
  found-kept are n j at none = are n ∙ (ap (λ o. where_kept table.let_go.items (option_map (sent past) o)) at ∙ stays-kept table.let_go.items (sent past j) none)

  module _ (is_table : IsTable table past) where
    pub unfinished-kept : (j : Outgoing) → Contains (outgoing_deliveries past) j → is_finished past j ≡ false → names_let_go table.let_go.items j.note ≡ false
    unfinished-kept j has is = unfinished-names table.let_go.items past is_table.finished j has is

    pub contained-kept : (rules : RuleSet) → AreJudged rules past → (j : Outgoing) → Contains (outgoing_deliveries past) j → names_let_go table.let_go.items j.note ≡ false
        → sent_in table j.number ≡ Some (sent past j)
    contained-kept rules are j has none = found-kept is_table.entries j.number j (contained-at rules past are j has) none

    -- so has what is not finished
    pub unfinished-entry : (n : ℕ) (j : Outgoing) → outgoing_at n past ≡ Some j → is_finished past j ≡ false → sent_in table n ≡ Some (sent past j)
    unfinished-entry n j at is = found-kept is_table.entries n j at (unfinished-kept j (found-contained past n j at) is)
