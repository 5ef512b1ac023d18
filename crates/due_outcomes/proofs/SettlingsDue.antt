-- What the tables say of deliveries to settle is what the law says, and what is forgotten is none of them.
use Rattle.std.proofs.Common.{◌≡◌, refl, sym, ap, subst, ◌∙◌, ◌⊎◌, inl, inr, ℕ, Bool, true, false, not, ◌&&◌, ◌||◌, List, [], ◌∷◌, Option, Some, None, is_some, find, option_map, if◌then◌else◌, ◌==◌, eqb-true}
use Rattle.std.specs.Prelude.{Contains}
use Rattle.capture_form.specs.Rules.{RuleSet}
use Rattle.trace_events.specs.Words.{is_some_and, where_passes}
use Rattle.trace_events.specs.Event.{Event, Incoming, Outgoing}
use Rattle.trace_events.specs.Disposition.{terminal_state}
use Rattle.trace_events.specs.Outgoing.{decision, first_deciding, noted, noted_number, outgoing_deliveries, outgoing_at}
use Rattle.trace_events.specs.Settling.{is_closed, is_to_settle}
use Rattle.trace_events.specs.Work.{carries_closed, stands_unsettled}
use Rattle.trace_events.proofs.Judged.{AreJudged}
use Rattle.trace_events.proofs.SettlingSteps.{is_to_settle-parts}
use Rattle.trace_events.specs.Clauses.{first_broken}
use Rattle.trace_events.proofs.WaitingQueue.{find_has}
use Rattle.trace_duties.specs.Quiet.{none_is_unsettled}
use Rattle.trace_duties.proofs.QuietLists.{all-each}
use Rattle.state_incoming.specs.EntryAnswers.{is_shut}
use Rattle.state_incoming.specs.HeldTables.{held_in}
use Rattle.state_incoming.proofs.CarriedHeld.{IsCarried, carried-of, carried-shut}
use Rattle.state_incoming.proofs.GroupAnswers.{judged-of}
use Rattle.state_outgoing.specs.Sent.{Sent, sent, is_left_unsettled, to_settle}
use Rattle.state_outgoing.specs.SentAnswers.{carried, closes}
use Rattle.state_outgoing.specs.SentTables.{sent_in}
use Rattle.state_outgoing.proofs.SentKept.{contained-at, entry-law, unfinished-entry, unsettled-unfinished}
use Rattle.state_answers.specs.declared.lent_tables.LentTables.{LentTables}
use Rattle.number_groups.specs.Ascending.{has}
use Rattle.state_answers.specs.Tables.{TellsOf}
use Rattle.due_outcomes.specs.Parked.{is_parked}
use Rattle.due_outcomes.specs.Settlings.{IsDueSettling, due_in, waits_in}
use Rattle.due_outcomes.specs.Unsettled.{HasUnsettled, IsParked, is_decided}
use Rattle.due_outcomes.specs.declared.unsettled.Unsettled.{Unsettled}
use Rattle.due_outcomes.proofs.UnderKeys.{or-first, or-last}

same_some : {A : Type 0} (a b : A) → Some a ≡ Some b → a ≡ b
same_some a b is = cc

and-both : (a b : Bool) → a && b ≡ true → (a ≡ true) × (b ≡ true)
and-both true b is = (refl, is)
and-both false b is = absurd cc

found-passes : {A : Type 0} (test : A → Bool) (xs : List A) (x : A) → find test xs ≡ Some x → test x ≡ true
found-passes test [] x found = absurd cc
found-passes test (y ∷ ys) x found = by (test y) refl found (found-passes test ys x)
  where
    by : (b : Bool) → test y ≡ b → (if b then Some y else find test ys) ≡ Some x → (find test ys ≡ Some x → test x ≡ true) → test x ≡ true
    by true is found later = ap test (sym (same_some y x found)) ∙ is
    by false is found later = later found

some-map : {A B : Type 0} (f : A → B) (o : Option A) → is_some (option_map f o) ≡ is_some o
some-map f None = refl
some-map f (Some x) = refl

-- nothing is decided on a pre-settled link
settle-bits : {A : Type 0} (s stands : Bool) (o : Option A) (closed : Bool) → (not s && stands) && is_some (if s then None else o) && closed ≡ stands && (is_some (if s then None else o) && closed)
settle-bits true true o closed = refl
settle-bits true false o closed = refl
settle-bits false true o closed = refl
settle-bits false false o closed = refl

or-cases : (a b : Bool) → a || b ≡ true → (a ≡ true) ⊎ (b ≡ true)
or-cases true b is = inl refl
or-cases false b is = inr is

waits-bits : (a b : Bool) → a ≡ true → b ≡ true → a && b ≡ true
waits-bits a b is so = ap (λ x. x && b) is ∙ so

-- what is to be settled is unsettled and decided, and carries what is closed
settles-as : (past : List Event) (j : Outgoing) → is_left_unsettled past j && is_decided past j && carries_closed past j ≡ is_to_settle past j
settles-as past j = settle-bits j.link.is_pre_settled (stands_unsettled past j) (first_deciding j past) (carries_closed past j) ∙ sym (is_to_settle-parts past j)

pub settled-parts : (past : List Event) (j : Outgoing) → is_to_settle past j ≡ true → (is_left_unsettled past j ≡ true) × (is_decided past j ≡ true) × (carries_closed past j ≡ true)
settled-parts past j is =
    let all = and-both (is_left_unsettled past j && is_decided past j) (carries_closed past j) (settles-as past j ∙ is) in
    let two = and-both (is_left_unsettled past j) (is_decided past j) all.0 in
    (two.0, two.1, all.1)

pub settled-of : (past : List Event) (j : Outgoing) → is_left_unsettled past j ≡ true → is_decided past j ≡ true → carries_closed past j ≡ true → is_to_settle past j ≡ true
settled-of past j opens decides closed = sym (settles-as past j) ∙ all (is_left_unsettled past j) (is_decided past j) (carries_closed past j) opens decides closed
  where
    all : (a b c : Bool) → a ≡ true → b ≡ true → c ≡ true → a && b && c ≡ true
    all a b c is so too = rw (is, so, too) refl

module _ (rules : RuleSet) (past : List Event) (tables : LentTables) (stands : TellsOf rules tables past) where
  are : AreJudged rules past
  are = judged-of rules past stands.0

  lawful : first_broken rules past ≡ None
  lawful = stands.1.1.1.1.1.1.1.0

  -- one that is unsettled has its entry
  entry : (j : Outgoing) → Contains (outgoing_deliveries past) j → is_left_unsettled past j ≡ true → sent_in tables.sent.now j.number ≡ Some (sent past j)
  entry j there opens =
      unfinished-entry tables.sent.now past stands.1.1.1.1.1.1.1.1.0 j.number j (contained-at rules past are j there) (unsettled-unfinished past j opens)

  closings : (j : Outgoing) → outgoing_at j.number past ≡ Some j → closes (λ n. is_shut (held_in tables.deliveries.now n)) j.note ≡ carries_closed past j
  closings j at =
      let c = carried-of rules past are lawful (λ (k : Outgoing). k.number == j.number) j at in
      ap (closes (λ n. is_shut (held_in tables.deliveries.now n))) c.named
      ∙ (carried-shut rules past are lawful tables.deliveries.now stands.1.1.1.1.0.0 stands.1.1.1.1.0.1.1 j c
      ∙ sym (ap (λ note. is_some_and (noted note past) (is_closed past)) c.named ∙ ap (λ (o : Option Incoming). is_some_and o (is_closed past)) c.at))

  -- its entry says so just where the law does
  entry-settles : (j : Outgoing) → outgoing_at j.number past ≡ Some j → to_settle (sent past j) (closes (λ n. is_shut (held_in tables.deliveries.now n)) j.note) ≡ is_to_settle past j
  entry-settles j at =
      ap (λ b. is_left_unsettled past j && is_some (option_map terminal_state (decision j past)) && b) (closings j at)
      ∙ (ap (λ b. is_left_unsettled past j && b && carries_closed past j) (some-map terminal_state (decision j past))
      ∙ (settle-bits j.link.is_pre_settled (stands_unsettled past j) (first_deciding j past) (carries_closed past j) ∙ sym (is_to_settle-parts past j)))

  abbrev settles : Sent → Bool
  settles x = to_settle x (closes (λ n. is_shut (held_in tables.deliveries.now n)) x.delivery.note)

  abbrev given : Option Sent → Option Outgoing
  given o = option_map (λ (x : Sent). x.delivery) (where_passes settles o)

  -- what the tables give is to be settled
  pub due-is : (n : ℕ) (j : Outgoing) → due_in tables.sent.now tables.deliveries.now n ≡ Some j → IsDueSettling past j
  due-is n j due = entered (sent_in tables.sent.now n) refl due
    where
      pass : (k : Outgoing) → outgoing_at n past ≡ Some k → (b : Bool) → is_to_settle past k ≡ b → option_map (λ (x : Sent). x.delivery) (if b then Some (sent past k) else None) ≡ Some j → IsDueSettling past j
      pass k at true is gives =
          let same : k ≡ j = same_some k j gives in
          record {
            there = subst (Contains (outgoing_deliveries past)) same (find_has (λ (x : Outgoing). x.number == n) (outgoing_deliveries past) k at);
            due = ap (is_to_settle past) (sym same) ∙ is;
          }
      pass k at false is gives = absurd cc

      by : (o : Option Outgoing) → outgoing_at n past ≡ o → given (option_map (sent past) o) ≡ Some j → IsDueSettling past j
      by None at gives = absurd cc
      by (Some k) at gives =
          let number : k.number ≡ n = eqb-true k.number n (found-passes (λ (x : Outgoing). x.number == n) (outgoing_deliveries past) k at) in
          let own : settles (sent past k) ≡ is_to_settle past k = entry-settles k (ap (λ m. outgoing_at m past) number ∙ at) in
          pass k at (is_to_settle past k) refl (sym (ap (λ b. option_map (λ (x : Sent). x.delivery) (if b then Some (sent past k) else None)) own) ∙ gives)

      entered : (o : Option Sent) → sent_in tables.sent.now n ≡ o → given o ≡ Some j → IsDueSettling past j
      entered None is gives = absurd cc
      entered (Some x) is gives = by (outgoing_at n past) refl (ap given (entry-law tables.sent.now past stands.1.1.1.1.1.1.1.1.0.entries n x is) ∙ gives)

  -- and all that is to be settled they give
  pub is-due : (j : Outgoing) → Contains (outgoing_deliveries past) j → is_to_settle past j ≡ true → is_some (due_in tables.sent.now tables.deliveries.now j.number) ≡ true
  is-due j there is =
      ap (λ o. is_some (given o)) (entry j there (settled-parts past j is).0)
      ∙ ap (λ b. is_some (option_map (λ (x : Sent). x.delivery) (if b then Some (sent past j) else None))) (entry-settles j (contained-at rules past are j there) ∙ is)

  -- ---- with more that is parked

  pub kept-parked : (earlier later : Unsettled) → HasUnsettled earlier past → later.candidates ≡ earlier.candidates
      → ((n m : ℕ) → is_parked earlier.parked n m ≡ true → is_parked later.parked n m ≡ true) → HasUnsettled later past
  kept-parked earlier later was candidates kept = record {
    due = λ j there is. ap (λ c. has c j.number) candidates ∙ was.due j there is;
    decided = λ j there opens decides d at unclosed. elim (or-cases (has earlier.candidates j.number) (is_parked earlier.parked d.number j.number) (was.decided j there opens decides d at unclosed)) [
      | inl among ↦ or-first (has later.candidates j.number) (is_parked later.parked d.number j.number) (ap (λ c. has c j.number) candidates ∙ among)
      | inr under ↦ or-last (has later.candidates j.number) (is_parked later.parked d.number j.number) (kept d.number j.number under)
    ];
  }

  -- ---- what is no candidate any more

  module _ (earlier later : Unsettled) (number : ℕ) (was : HasUnsettled earlier past)
      (left : (n : ℕ) → has later.candidates n ≡ (has earlier.candidates n && not (number == n))) where
    -- all others are candidates still
    still : (n : ℕ) → (number == n) ≡ false → has earlier.candidates n ≡ true → has later.candidates n ≡ true
    still n another among = left n ∙ (ap (λ b. b && not (number == n)) among ∙ ap not another)

    own-entry : (j : Outgoing) → Contains (outgoing_deliveries past) j → is_left_unsettled past j ≡ true → (number == j.number) ≡ true → sent_in tables.sent.now number ≡ Some (sent past j)
    own-entry j there opens is = ap (sent_in tables.sent.now) (eqb-true number j.number is) ∙ entry j there opens

    -- ---- as it is no decided one that is unsettled

    module _ (gone : waits_in (sent_in tables.sent.now number) ≡ false) (kept : (n m : ℕ) → is_parked earlier.parked n m ≡ true → is_parked later.parked n m ≡ true) where
      another : (j : Outgoing) → Contains (outgoing_deliveries past) j → is_left_unsettled past j ≡ true → is_decided past j ≡ true → (number == j.number) ≡ false
      another j there opens decides = by (number == j.number) refl
        where
          by : (b : Bool) → (number == j.number) ≡ b → (number == j.number) ≡ false
          by false is = is
          by true is =
              let waits : waits_in (sent_in tables.sent.now number) ≡ true =
              ap waits_in (own-entry j there opens is) ∙ waits-bits (is_left_unsettled past j) (is_some (option_map terminal_state (decision j past))) opens (some-map terminal_state (decision j past) ∙ decides) in
              let never : true ≡ false = sym waits ∙ gone in
              absurd cc

      pub forgotten : HasUnsettled later past
      forgotten = record {
        due = λ j there is. let parts = settled-parts past j is in still j.number (another j there parts.0 parts.1) (was.due j there is);
        decided = λ j there opens decides d at unclosed. elim (or-cases (has earlier.candidates j.number) (is_parked earlier.parked d.number j.number) (was.decided j there opens decides d at unclosed)) [
          | inl among ↦ or-first (has later.candidates j.number) (is_parked later.parked d.number j.number) (still j.number (another j there opens decides) among)
          | inr under ↦ or-last (has later.candidates j.number) (is_parked later.parked d.number j.number) (kept d.number j.number under)
        ];
      }

    -- ---- as it is parked

    module _ (p : IsParked later.parked tables.deliveries.now number (sent_in tables.sent.now number)) (kept : (n m : ℕ) → is_parked earlier.parked n m ≡ true → is_parked later.parked n m ≡ true) where
      -- of what it carries more is to be told
      module _ (j : Outgoing) (there : Contains (outgoing_deliveries past) j) (opens : is_left_unsettled past j ≡ true) (is : (number == j.number) ≡ true) where
        c : IsCarried rules past j
        c = carried-of rules past are lawful (λ (k : Outgoing). k.number == j.number) j (contained-at rules past are j there)

        under-it : p.under ≡ c.delivery.number
        under-it = same_some p.under c.delivery.number (sym p.carries ∙ (ap carried (own-entry j there opens is) ∙ ap noted_number c.named))

        more : carries_closed past j ≡ false
        more =
            sym (closings j (contained-at rules past are j there))
            ∙ (ap (closes (λ n. is_shut (held_in tables.deliveries.now n))) c.named ∙ (ap (λ n. is_shut (held_in tables.deliveries.now n)) (sym under-it) ∙ p.opens))

        parked-own : (d : Incoming) → noted j.note past ≡ Some d → is_parked later.parked d.number j.number ≡ true
        parked-own d at =
            let same_delivery : c.delivery ≡ d = same_some c.delivery d (sym (ap (λ note. noted note past) c.named ∙ c.at) ∙ at) in
            subst (λ n. is_parked later.parked n j.number ≡ true) (under-it ∙ ap (λ (x : Incoming). x.number) same_delivery)
            (subst (λ n. is_parked later.parked p.under n ≡ true) (eqb-true number j.number is) p.at)

      due-by : (j : Outgoing) → Contains (outgoing_deliveries past) j → is_to_settle past j ≡ true → (b : Bool) → (number == j.number) ≡ b → has later.candidates j.number ≡ true
      due-by j there is false other = still j.number other (was.due j there is)
      due-by j there is true own = let parts = settled-parts past j is in let never : true ≡ false = sym parts.2 ∙ more j there parts.0 own in absurd cc

      decided-by : (j : Outgoing) → Contains (outgoing_deliveries past) j → is_left_unsettled past j ≡ true → is_decided past j ≡ true → (d : Incoming) → noted j.note past ≡ Some d → is_closed past d ≡ false
          → (b : Bool) → (number == j.number) ≡ b → has later.candidates j.number || is_parked later.parked d.number j.number ≡ true
      decided-by j there opens decides d at unclosed true own = or-last (has later.candidates j.number) (is_parked later.parked d.number j.number) (parked-own j there opens own d at)
      decided-by j there opens decides d at unclosed false other =
          elim (or-cases (has earlier.candidates j.number) (is_parked earlier.parked d.number j.number) (was.decided j there opens decides d at unclosed)) [
            | inl among ↦ or-first (has later.candidates j.number) (is_parked later.parked d.number j.number) (still j.number other among)
            | inr under ↦ or-last (has later.candidates j.number) (is_parked later.parked d.number j.number) (kept d.number j.number under)
          ]

      pub parked-aside : HasUnsettled later past
      parked-aside = record {
        due = λ j there is. due-by j there is (number == j.number) refl;
        decided = λ j there opens decides d at unclosed. decided-by j there opens decides d at unclosed (number == j.number) refl;
      }

  -- ---- where none is given, none is left

  pub none-left : (unsettled : Unsettled) → HasUnsettled unsettled past
      → ((n : ℕ) → has unsettled.candidates n ≡ true → is_some (due_in tables.sent.now tables.deliveries.now n) ≡ false) → none_is_unsettled past ≡ true
  none-left unsettled kept none = all-each (λ j. not (is_to_settle past j)) (outgoing_deliveries past) (λ j there. by j there (is_to_settle past j) refl)
    where
      by : (j : Outgoing) → Contains (outgoing_deliveries past) j → (b : Bool) → is_to_settle past j ≡ b → not b ≡ true
      by j there false is = refl
      by j there true is =
          let never : true ≡ false = sym (is-due j there is) ∙ none j.number (kept.due j there is) in
          absurd cc
