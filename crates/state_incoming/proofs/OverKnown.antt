-- What is known of a delivery of which nothing can come any more, and which deliveries a table didn't let go.
use Rattle.std.proofs.Common.{◌≡◌, refl, sym, ap, subst, ◌∙◌, ◌<◌, ◌⊎◌, inl, inr, ℕ, Bool, true, false, not, ◌&&◌, ◌||◌, List, [], length, Option, Some, None, IfSome, if◌then◌else◌, eq-eqb}
use Rattle.std.specs.Prelude.{Contains}
use Rattle.pairing_cert.specs.declared.note.Note.{Note}
use Rattle.pairing_cert.specs.declared.note.Note.TheVariants as notes
use Rattle.capture_form.specs.Rules.{RuleSet}
use Rattle.trace_events.specs.Due.{is_unsent}
use Rattle.trace_events.specs.Event.{Event, Link, Incoming, Outgoing}
use Rattle.trace_events.specs.Incoming.{is_complete, incoming_at}
use Rattle.trace_events.specs.Link.{IsLiveLink}
use Rattle.trace_events.specs.Outgoing.{is_paired, is_sent, names, outgoing_deliveries}
use Rattle.trace_events.specs.Settling.{is_closed}
use Rattle.trace_events.specs.Waiting.{is_of_multicast, always_had_consumer, is_waiting, is_undecided}
use Rattle.trace_events.specs.Work.{stands_unsettled}
use Rattle.trace_events.proofs.Judged.{AreJudged}
use Rattle.trace_events.proofs.OneConsumer.{incoming_at-is}
use Rattle.state_tables.specs.LetGo.{is_let_go, names_let_go}
use Rattle.state_incoming.specs.Held.{Held, held_at, says_arriving, says_waiting, says_gone, says_paired, says_copied, stands_open}
use Rattle.state_incoming.specs.HeldTables.{AreHeld, AreOver, held_in}
use Rattle.state_incoming.specs.LetGo.{IsOver, is_finished}
use Rattle.state_incoming.specs.declared.deliveries.Deliveries.{Deliveries}
use Rattle.state_incoming.specs.declared.held.Fate.{Fate}
use Rattle.state_incoming.specs.declared.held.Fate.TheVariants.{Arriving, Waiting, Gone, Paired, Copied}
use Rattle.state_incoming.proofs.FateSteps.{fate_by}
use Rattle.state_incoming.proofs.HeldAnswers.{IsHeldOf, held-of, held-closed, held-complete, held-undecided, held-waiting}
use Rattle.state_incoming.proofs.HeldSparse.{entry-kept}

and_both : (a b : Bool) → a && b ≡ true → (a ≡ true) × (b ≡ true)
and_both true b is = (refl, is)
and_both false b is = absurd cc

same_some : {A : Type 0} (a b : A) → Some a ≡ Some b → a ≡ b
same_some a b is = cc

-- ---- one that went to a consumer, or is complete and goes to each

went-either : (fate : Fate) → says_paired fate || says_copied fate ≡ true → (fate ≡ Paired) ⊎ (fate ≡ Copied)
went-either Arriving is = absurd cc
went-either Waiting is = absurd cc
went-either Gone is = absurd cc
went-either Paired is = inl refl
went-either Copied is = inr refl

-- neither arrives nor waits
went-arrived : (fate : Fate) → says_paired fate || says_copied fate ≡ true → says_arriving fate ≡ false
went-arrived Arriving is = absurd cc
went-arrived Waiting is = refl
went-arrived Gone is = refl
went-arrived Paired is = refl
went-arrived Copied is = refl

went-waited : (fate : Fate) → says_paired fate || says_copied fate ≡ true → says_waiting fate ≡ false
went-waited Arriving is = refl
went-waited Waiting is = absurd cc
went-waited Gone is = refl
went-waited Paired is = refl
went-waited Copied is = refl

-- of anycast, it is paired
paired-bits : (c m p a : Bool) → says_paired (fate_by c m p a) || says_copied (fate_by c m p a) ≡ true → m ≡ false → p ≡ true
paired-bits false m p a is anycast = absurd cc
paired-bits true true p a is anycast = absurd cc
paired-bits true false true a is anycast = refl
paired-bits true false false true is anycast = absurd cc
paired-bits true false false false is anycast = absurd cc

-- and of which nothing more is to be told, is decided
decided-by : (fate : Fate) (closed undecided : Bool) → says_paired fate || says_copied fate ≡ true → closed ≡ true
    → not (says_gone fate && closed) && (undecided || not (says_arriving fate) && closed) && (not undecided || stands_open fate closed) ≡ true → undecided ≡ false
decided-by Arriving closed undecided went shut is = absurd cc
decided-by Waiting closed undecided went shut is = absurd cc
decided-by Gone closed undecided went shut is = absurd cc
decided-by Paired true false went shut is = refl
decided-by Paired true true went shut is = absurd cc
decided-by Paired false undecided went shut is = absurd cc
decided-by Copied true false went shut is = refl
decided-by Copied true true went shut is = absurd cc
decided-by Copied false undecided went shut is = absurd cc

-- ---- of one that is over

module _ (rules : RuleSet) (past : List Event) (are : AreJudged rules past) (n : ℕ) (over : IsOver rules n past) where
  abbrev x : Held
  x = over.entry

  abbrev d : Incoming
  d = x.delivery

  of : IsHeldOf rules n past x
  of = held-of rules n past x over.at

  spent : (says_paired x.fate || says_copied x.fate ≡ true) × (x.is_closed ≡ true)
  spent = and_both (says_paired x.fate || says_copied x.fate) x.is_closed over.spent

  pub over-went : (x.fate ≡ Paired) ⊎ (x.fate ≡ Copied)
  over-went = went-either x.fate spent.0

  pub over-arrived : says_arriving x.fate ≡ false
  over-arrived = went-arrived x.fate spent.0

  pub over-waited : says_waiting x.fate ≡ false
  over-waited = went-waited x.fate spent.0

  pub over-shut : x.is_closed ≡ true
  over-shut = spent.1

  -- it began before
  pub over-before : (n < length past) × (d.number ≡ n)
  over-before = subst (λ (o : Option Incoming). IfSome o (λ y. (n < length past) × (y.number ≡ n))) of.at (incoming_at-is rules past n are)

  pub over-paired : is_of_multicast rules d past ≡ false → is_paired d past ≡ true
  over-paired =
      paired-bits (is_complete d past) (is_of_multicast rules d past) (is_paired d past) (always_had_consumer d past)
      (ap (λ (y : Held). says_paired y.fate || says_copied y.fate) of.is ∙ spent.0)

  pub over-complete : is_complete d past ≡ true
  over-complete = held-complete rules n past x of ∙ ap not over-arrived

  pub over-closed : is_closed past d ≡ true
  over-closed = held-closed rules n past x of ∙ spent.1

  pub over-waiting : is_waiting rules d past ≡ false
  over-waiting = held-waiting rules n past x of ∙ over-waited

  pub over-undecided : x.is_undecided ≡ false
  over-undecided = decided-by x.fate x.is_closed x.is_undecided spent.0 spent.1 (entry-kept rules past are n x over.at)

  pub over-decided : is_undecided rules d past ≡ false
  over-decided = held-undecided rules n past x of ∙ over-undecided

-- ---- what a table has

-- it has what the law keeps, and didn't let that go
pub kept-law : (gone : Bool) (o : Option Held) (x : Held) → (if gone then None else o) ≡ Some x → (gone ≡ false) × (o ≡ Some x)
kept-law true o x is = absurd cc
kept-law false o x is = (refl, is)

pub kept-there : (gone : Bool) (o : Option Held) → gone ≡ false → (if gone then None else o) ≡ o
kept-there gone o there = ap (λ b. if b then None else o) there

-- what the law doesn't keep, no table has
pub kept-none : (gone : Bool) (o : Option Held) → o ≡ None → (if gone then None else o) ≡ None
kept-none true o none = refl
kept-none false o none = none

module _ (rules : RuleSet) (past : List Event) (table : Deliveries) (were : AreHeld rules table past) where
  pub table-law : (n : ℕ) (x : Held) → held_in table n ≡ Some x → held_at rules n past ≡ Some x
  table-law n x is = (kept-law (is_let_go table.let_go.items n) (held_at rules n past) x (sym (were n) ∙ is)).1

  pub table-there : (n : ℕ) → is_let_go table.let_go.items n ≡ false → held_in table n ≡ held_at rules n past
  table-there n there = were n ∙ kept-there (is_let_go table.let_go.items n) (held_at rules n past) there

  -- where nothing was let go, it has all
  pub table-whole : table.let_go.items ≡ [] → (n : ℕ) → held_in table n ≡ held_at rules n past
  table-whole none n = table-there n (ap (λ items. is_let_go items n) none)

  pub table-none : (n : ℕ) → held_at rules n past ≡ None → held_in table n ≡ None
  table-none n none = were n ∙ kept-none (is_let_go table.let_go.items n) (held_at rules n past) none

-- ---- what a table didn't let go

module _ (rules : RuleSet) (past : List Event) (are : AreJudged rules past) (gone : ℕ → Bool) (over : (n : ℕ) → gone n ≡ true → IsOver rules n past) (n : ℕ) (d : Incoming) (at : incoming_at n past ≡ Some d) where
  -- what is said of none that is over
  unless : (law : Incoming → Bool) → ((o : IsOver rules n past) → law o.entry.delivery ≡ false) → law d ≡ true → gone n ≡ false
  unless law never is = by (gone n) refl
    where
      by : (b : Bool) → gone n ≡ b → gone n ≡ false
      by false there = there
      by true went =
          let o = over n went in
          let same : o.entry.delivery ≡ d = same_some o.entry.delivery d (sym (held-of rules n past o.entry o.at).at ∙ at) in
          let both : true ≡ false = sym is ∙ (ap law (sym same) ∙ never o) in
          absurd cc

  pub undecided-there : is_undecided rules d past ≡ true → gone n ≡ false
  undecided-there = unless (λ y. is_undecided rules y past) (λ o. over-decided rules past are n o)

  pub waiting-there : is_waiting rules d past ≡ true → gone n ≡ false
  waiting-there = unless (λ y. is_waiting rules y past) (λ o. over-waiting rules past are n o)

  -- a copy of it is still to begin on a link that lives
  pub unsent-there : (l : Link) → IsLiveLink l past → is_unsent rules d l past ≡ true → gone n ≡ false
  unsent-there l live = unless (λ y. is_unsent rules y l past) (λ o. o.copied l live)

  pub open-there : is_closed past d ≡ false → gone n ≡ false
  open-there opens = unless (λ y. not (is_closed past y)) (λ o. ap not (over-closed rules past are n o)) (ap not opens)

  pub arriving-there : is_complete d past ≡ false → gone n ≡ false
  arriving-there incomplete = unless (λ y. not (is_complete y past)) (λ o. ap not (over-complete rules past are n o)) (ap not incomplete)

  -- of anycast
  pub unpaired-there : is_of_multicast rules d past ≡ false → is_paired d past ≡ false → gone n ≡ false
  unpaired-there anycast unpaired =
      unless (λ y. not (is_of_multicast rules y past) && not (is_paired y past)) (λ o. paired-off (is_of_multicast rules o.entry.delivery past) (is_paired o.entry.delivery past) (over-paired rules past are n o))
      (ap (λ b. not b && not (is_paired d past)) anycast ∙ ap not unpaired)
    where
      paired-off : (m p : Bool) → (m ≡ false → p ≡ true) → not m && not p ≡ false
      paired-off true p is = refl
      paired-off false p is = ap not (is refl)

module _ (rules : RuleSet) (past : List Event) (are : AreJudged rules past) (table : Deliveries) (over : AreOver rules table past) where
  module _ (n : ℕ) (d : Incoming) (at : incoming_at n past ≡ Some d) where
    pub unsent-kept : (l : Link) → IsLiveLink l past → is_unsent rules d l past ≡ true → is_let_go table.let_go.items n ≡ false
    unsent-kept = unsent-there rules past are (is_let_go table.let_go.items) over n d at

    pub open-kept : is_closed past d ≡ false → is_let_go table.let_go.items n ≡ false
    open-kept = open-there rules past are (is_let_go table.let_go.items) over n d at

    pub waiting-kept : is_waiting rules d past ≡ true → is_let_go table.let_go.items n ≡ false
    waiting-kept = waiting-there rules past are (is_let_go table.let_go.items) over n d at

    pub undecided-kept : is_undecided rules d past ≡ true → is_let_go table.let_go.items n ≡ false
    undecided-kept = undecided-there rules past are (is_let_go table.let_go.items) over n d at

    pub arriving-kept : is_complete d past ≡ false → is_let_go table.let_go.items n ≡ false
    arriving-kept = arriving-there rules past are (is_let_go table.let_go.items) over n d at

    pub unpaired-kept : is_of_multicast rules d past ≡ false → is_paired d past ≡ false → is_let_go table.let_go.items n ≡ false
    unpaired-kept = unpaired-there rules past are (is_let_go table.let_go.items) over n d at

-- one whose last part is not written isn't finished
pub unsent-unfinished : (past : List Event) (j : Outgoing) → is_sent j past ≡ false → is_finished past j ≡ false
unsent-unfinished past j unsent = ap (λ b. b && not (not j.link.is_pre_settled && stands_unsettled past j)) unsent

-- nor is one that is unsettled
pub unsettled-unfinished : (past : List Event) (j : Outgoing) → j.link.is_pre_settled ≡ false → stands_unsettled past j ≡ true → is_finished past j ≡ false
unsettled-unfinished past j sends stands =
    ap (λ b. is_sent j past && not (not b && stands_unsettled past j)) sends ∙ (ap (λ b. is_sent j past && not b) stands ∙ and-false (is_sent j past))
  where
    and-false : (b : Bool) → b && false ≡ false
    and-false true = refl
    and-false false = refl

-- what one that isn't finished carries
pub carrier-kept : (rules : RuleSet) (past : List Event) (table : Deliveries) → AreOver rules table past → (j : Outgoing) → Contains (outgoing_deliveries past) j → is_finished past j ≡ false
    → names_let_go table.let_go.items j.note ≡ false
carrier-kept rules past table over j there going = by j.note refl
  where
    by : (note : Note) → j.note ≡ note → names_let_go table.let_go.items note ≡ false
    by notes.None is = refl
    by (notes.Told why) is = refl
    by (notes.Pair n) is = named (is_let_go table.let_go.items n) refl
      where
        named : (b : Bool) → is_let_go table.let_go.items n ≡ b → b ≡ false
        named false there = refl
        named true went =
            let done = (over n went).finished j there (ap (names n) is ∙ eq-eqb n n refl) in
            let both : true ≡ false = sym done ∙ going in
            absurd cc
