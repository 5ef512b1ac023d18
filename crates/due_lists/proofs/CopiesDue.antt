-- The copy that is due on a link, by the tables, and where none is.
use Rattle.std.proofs.Common.{◌≡◌, refl, sym, ap, subst, ◌∙◌, ◌≤◌, ℕ, Bool, true, false, not, ◌&&◌, ◌||◌, List, [], ◌∷◌, Option, Some, None, is_some, nat_lt, if◌then◌else◌, ◌==◌, arith, eqb-true, eq-eqb, lt-ltb, ◌-◌, bytes_eq}
use Rattle.std.specs.Prelude.{Contains, is_none}
use Rattle.std.specs.List.{list_all}
use Rattle.std.proofs.lemmas.Bool.{le-ltb}
use Rattle.pairing_cert.specs.declared.note.Note.TheVariants as notes
use Rattle.capture_form.specs.Rules.{RuleSet}
use Rattle.trace_events.specs.Words.{is_some_and, where_passes}
use Rattle.trace_events.specs.Event.{Event, Link, Incoming}
use Rattle.trace_events.specs.Credit.{link_credit}
use Rattle.trace_events.specs.Due.{is_due, is_unsent, has_unsent}
use Rattle.trace_events.specs.Incoming.{incoming_at, incoming_deliveries, is_complete, completion, completed_before}
use Rattle.trace_events.specs.Link.{IsLiveLink, is_consumer, link_at, live_links}
use Rattle.trace_events.specs.Outgoing.{in_progress, is_named_on}
use Rattle.trace_events.specs.Waiting.{is_gone}
use Rattle.trace_events.specs.Window.{session_window}
use Rattle.trace_events.proofs.Along.{and_first}
use Rattle.trace_events.proofs.Judged.{AreJudged}
use Rattle.trace_events.proofs.StepWords.{and-false}
use Rattle.trace_events.proofs.FirstSent.{copy_goes_first, due_copy}
use Rattle.trace_events.proofs.IncomingProgress.{judged-kept}
use Rattle.trace_events.proofs.Parts.{IsKept, each_delivery}
use Rattle.trace_events.proofs.UnsentCopies.{unsent_complete}
use Rattle.trace_events.proofs.WaitingQueue.{all_contained, completed_below}
use Rattle.trace_events.specs.TransferClause.{may_take, to_carry}
use Rattle.trace_duties.specs.Quiet.{has_earlier_unsent, is_held_back, copies_are_sent}
use Rattle.trace_duties.proofs.QuietLists.{all-each}
use Rattle.trace_duties.proofs.PicksInOrder.{none-before}
use Rattle.state_tables.specs.LetGo.{is_let_go}
use Rattle.state_incoming.specs.HeldTables.{AreOver}
use Rattle.state_incoming.specs.declared.deliveries.Deliveries.{Deliveries}
use Rattle.state_incoming.proofs.OverKnown.{unsent-kept}
use Rattle.due_lists.proofs.LiveOnes.{link-found, live_links-live}
use Rattle.due_lists.proofs.Members.{some-passes, none-passes, found-contained}
use Rattle.due_lists.proofs.PartsDue.{consumer-found}
use Rattle.due_lists.specs.ByLink.{copy_at}
use Rattle.due_lists.specs.CopyCandidates.{has}
use Rattle.due_lists.specs.declared.by_link.ByLink.{ByLink}
use Rattle.due_lists.specs.declared.copy_candidates.CopyCandidates.{CopyCandidates}
use Rattle.trace_events.specs.Event.{Outgoing}
use Rattle.trace_events.specs.Address.{is_consumer_of}
use Rattle.trace_events.specs.Credit.{begun_count}
use Rattle.trace_events.specs.Due.{is_copied_to, makes_due, due_count}
use Rattle.trace_events.specs.Incoming.{address_of, completed_by, completes}
use Rattle.trace_events.specs.Link.{is_live}
use Rattle.trace_events.specs.Waiting.{is_of_multicast}
use Rattle.trace_events.proofs.Along.{and_last}
use Rattle.trace_events.proofs.OneConsumer.{some-and}
use Rattle.state_tables.specs.ConsumerLinks.{consumer_at}
use Rattle.due_lists.specs.UnsentNumbers.{Waits, copy_on, waits}
use Rattle.due_lists.specs.declared.unsent_numbers.UnsentNumbers.{UnsentNumbers}
use Rattle.due_lists.specs.Copies.{HasUnsent, IsReady, IsUnsentOn}
use Rattle.due_lists.specs.declared.copies.UnsentCopies.{UnsentCopies}
use Rattle.due_lists.proofs.CopiesFollowed.{Have}

same_number : (a b : ℕ) → Some a ≡ Some b → a ≡ b
same_number a b is = cc

same_link : (k l : Link) → Some k ≡ Some l → k ≡ l
same_link k l is = cc

-- live links of one number are one
pub live-same : (rules : RuleSet) (past : List Event) → AreJudged rules past → (k l : Link) → IsLiveLink k past → IsLiveLink l past → k.number ≡ l.number → k ≡ l
live-same rules past are k l one other number =
    same_link k l (sym (link-found rules past are k one) ∙ (ap (λ n. link_at n past) number ∙ link-found rules past are l other))

-- ---- the delivery of a copy is kept

module _ (rules : RuleSet) (past : List Event) (are : AreJudged rules past) where
  pub found-of : (d : Incoming) → Contains (incoming_deliveries past) d → incoming_at d.number past ≡ Some d
  found-of d there = (all_contained (IsKept past) (incoming_deliveries past) d (each_delivery (IsKept past) past (judged-kept rules past are).each) there).at

  module _ (l : Link) where
    pub copy-carried : (d : Incoming) → IsUnsentOn rules l d past → to_carry rules (notes.Pair d.number) past ≡ Some d
    copy-carried d h =
        let goes = copy_goes_first rules past are l d h.found h.unsent in
        ap (where_passes (λ x. is_complete x past && not (is_gone rules x past))) h.found
        ∙ (ap (λ b. if b && not (is_gone rules d past) then Some d else None) goes.complete ∙ ap (λ b. if not b then Some d else None) goes.whole)

    -- and was not let go: its copy is still to begin
    pub copy-there : (table : Deliveries) → AreOver rules table past → (d : Incoming) → IsUnsentOn rules l d past → is_let_go table.let_go.items d.number ≡ false
    copy-there table over d h = unsent-kept rules past are table over d.number d h.found l h.live h.unsent

    -- a link with an unsent copy has one of a delivery that is found
    pub one-unsent : IsLiveLink l past → has_unsent rules l past ≡ true → (d : Incoming) × IsUnsentOn rules l d past
    one-unsent live some =
        let d = some-passes (λ (d : Incoming). is_unsent rules d l past) (incoming_deliveries past) some in
        (d.0, record { live = live; found = found-of d.0 d.1.0; unsent = d.1.1 })

    -- the first that is listed is the earliest
    pub first-earliest : (all : UnsentNumbers) → Have rules all past → IsLiveLink l past → (c : ℕ) → ((other n : ℕ) → copy_on all l.number other ≡ Some n → c ≤ other)
        → (f : Incoming) → copy_on all l.number c ≡ Some f.number → has_earlier_unsent rules past l f ≡ false
    first-earliest all have live c least f listed =
        none-before (λ (x : Incoming). completed_before x f past && is_unsent rules x l past) (incoming_deliveries past) (λ x there. by x there (is_unsent rules x l past) refl)
      where
        later : (x : Incoming) → IsUnsentOn rules l x past → completed_before x f past ≡ false
        later x h =
            let below = completed_below rules past are x (unsent_complete rules past x l h.unsent) in
            ap (λ (o : Option ℕ). is_some_and o (λ m. is_some_and (completion f past) (λ n. nat_lt m n))) below.1
            ∙ ap (λ (o : Option ℕ). is_some_and o (λ n. nat_lt below.0 n)) (have.ranked l.number c f.number listed f refl)
            ∙ le-ltb below.0 c (least below.0 x.number (have.listed l x h below.0 below.1))

        by : (x : Incoming) → Contains (incoming_deliveries past) x → (b : Bool) → is_unsent rules x l past ≡ b → completed_before x f past && b ≡ false
        by x there false unsent = and-false (completed_before x f past)
        by x there true unsent = ap (λ t. t && true) (later x (record { live = live; found = found-of x there; unsent = unsent }))

-- where none is listed none is unsent
pub one-unlisted : (rules : RuleSet) (past : List Event) (are : AreJudged rules past) (l : Link) (all : UnsentNumbers) → Have rules all past → IsLiveLink l past
    → ((c : ℕ) → copy_on all l.number c ≡ None) → has_unsent rules l past ≡ false
one-unlisted rules past are l all have live none = by (has_unsent rules l past) refl
  where
    by : (b : Bool) → has_unsent rules l past ≡ b → b ≡ false
    by false is = refl
    by true is =
        let d = one-unsent rules past are l live is in
        let below = completed_below rules past are d.0 (unsent_complete rules past d.0 l d.1.unsent) in
        let never : ◌≡◌ {A = Option ℕ} None (Some d.0.number) = sym (none below.0) ∙ have.listed l d.0 d.1 below.0 below.1 in
        absurd cc

-- one whose copy is listed, and is not unsent, is listed no more
pub have-passed : (rules : RuleSet) (past : List Event) (are : AreJudged rules past) (l : Link) → IsLiveLink l past → (all : UnsentNumbers) (copies : ByLink) (c n : ℕ)
    → ((link other : ℕ) → copy_at copies link other ≡ (if l.number == link && (c == other) then None else copy_on all link other))
    → copy_on all l.number c ≡ Some n → ((d : Incoming) → d.number ≡ n → IsUnsentOn rules l d past → ⊥)
    → Have rules all past → Have rules (record all { copies = copies }) past
have-passed rules past are l live all copies c n removed at none have = record {
  ranked = λ link other m is. have.ranked link other m (was link other m (l.number == link && (c == other)) (removed link other) is);
  listed = λ k d h other is. removed k.number other ∙ by k d h other is (l.number == k.number && (c == other)) refl;
  stands = have.stands;
  waits = have.waits;
}
  where
    was : (link other m : ℕ) (b : Bool) → copy_at copies link other ≡ (if b then None else copy_on all link other) → copy_at copies link other ≡ Some m → copy_on all link other ≡ Some m
    was link other m true gone is = let never : ◌≡◌ {A = Option ℕ} None (Some m) = sym gone ∙ is in absurd cc
    was link other m false same is = sym same ∙ is

    by : (k : Link) (d : Incoming) → IsUnsentOn rules k d past → (other : ℕ) → completion d past ≡ Some other → (b : Bool) → (l.number == k.number && (c == other)) ≡ b
        → (if b then None else copy_on all k.number other) ≡ Some d.number
    by k d h other is false apart = have.listed k d h other is
    by k d h other is true same =
        let one : k ≡ l = live-same rules past are k l h.live live (sym (eqb-true l.number k.number (and_first (l.number == k.number) (c == other) same))) in
        let place : c ≡ other = eqb-true c other (and_last (l.number == k.number) (c == other) same) in
        let own : Some n ≡ Some d.number = sym at ∙ (ap (λ i. copy_on all l.number i) place ∙ (ap (λ (j : Link). copy_on all j.number other) (sym one) ∙ have.listed k d h other is)) in
        absurd (none d (sym (same_number n d.number own)) (subst (λ (j : Link). IsUnsentOn rules j d past) one h))

-- ---- candidates

some-of : (rules : RuleSet) (past : List Event) (l : Link) (d : Incoming) → IsUnsentOn rules l d past → has_unsent rules l past ≡ true
some-of rules past l d h = by (has_unsent rules l past) refl
  where
    by : (b : Bool) → has_unsent rules l past ≡ b → b ≡ true
    by true is = refl
    by false is =
        sym (none-passes (λ (x : Incoming). is_unsent rules x l past) (incoming_deliveries past) is d (found-contained (λ (x : Incoming). x.number == d.number) (incoming_deliveries past) d h.found))
        ∙ h.unsent

-- without a candidate that may be sent none
pub have-dropped : (rules : RuleSet) (past : List Event) (all : UnsentNumbers) (links : CopyCandidates) (completion number : ℕ)
    → ((c n : ℕ) → has links c n ≡ has all.links c n && not (completion == c && (number == n)))
    → ((l : Link) → l.number ≡ number → IsReady rules l past → ⊥) → Have rules all past → Have rules (record all { links = links }) past
have-dropped rules past all links completion number dropped none have = record {
  ranked = have.ranked;
  listed = have.listed;
  stands = have.stands;
  waits = λ l d h takes. by l d h takes (have.waits l d h takes) (number == l.number) refl;
}
  where
    stays : (a b : Bool) → a ≡ true → a && not (b && false) ≡ true
    stays true true is = refl
    stays true false is = refl
    stays false b is = absurd cc

    by : (l : Link) (d : Incoming) → IsUnsentOn rules l d past → may_take past l ≡ true → Waits all l.number → (b : Bool) → (number == l.number) ≡ b
        → Waits (record all { links = links }) l.number
    by l d h takes waiting false other =
        let c = waiting.0 in
        (c, dropped c l.number ∙ (ap (λ b. has all.links c l.number && not (completion == c && b)) other ∙ stays (has all.links c l.number) (completion == c) waiting.1))
    by l d h takes waiting true same = absurd (none l (sym (eqb-true number l.number same)) (record { live = h.live; takes = takes; some = some-of rules past l d h }))

-- ---- no candidates

positive : (n : ℕ) → (n == 0) ≡ false → nat_lt 0 n ≡ true
positive n other =
    let ne : n ≡ 0 → ⊥ = λ same. let never : true ≡ false = sym (eq-eqb n 0 same) ∙ other in absurd cc in
    lt-ltb 0 n (omega (arith, ne))

held : (earlier : Bool) (o : Option Outgoing) (window credit : ℕ) → nat_lt 0 credit && nat_lt 0 window && is_none o ≡ false → earlier || is_some o || window == 0 || credit == 0 ≡ true
held true o window credit none = refl
held false (Some j) window credit none = refl
held false None window credit none = by (window == 0) (credit == 0) refl refl
  where
    by : (w c : Bool) → (window == 0) ≡ w → (credit == 0) ≡ c → w || c ≡ true
    by true c here there = refl
    by false true here there = refl
    by false false here there =
        let never : false ≡ true = sym none ∙ (ap (λ b. b && nat_lt 0 window && true) (positive credit there) ∙ ap (λ b. b && true) (positive window here)) in
        absurd cc

pub none-due : (rules : RuleSet) (past : List Event) → AreJudged rules past → (all : UnsentNumbers) → Have rules all past → ((c n : ℕ) → waits all c n ≡ false) → copies_are_sent rules past ≡ true
none-due rules past are all have none =
    all-each (λ l. list_all (λ d. not (is_unsent rules d l past) || is_held_back rules past l d) (incoming_deliveries past)) (live_links past)
    (λ l lives. all-each (λ d. not (is_unsent rules d l past) || is_held_back rules past l d) (incoming_deliveries past)
    (λ d there. by l (live_links-live rules past are l lives) d there (is_unsent rules d l past) refl))
  where
    kept-back : (l : Link) (d : Incoming) → IsUnsentOn rules l d past → (b : Bool) → may_take past l ≡ b → is_held_back rules past l d ≡ true
    kept-back l d h true takes =
        let waiting = have.waits l d h takes in
        let never : false ≡ true = sym (none waiting.0 l.number) ∙ waiting.1 in
        absurd cc
    kept-back l d h false stops = held (has_earlier_unsent rules past l d) (in_progress l past) (session_window l.session past) (link_credit l past) stops

    by : (l : Link) → IsLiveLink l past → (d : Incoming) → Contains (incoming_deliveries past) d → (b : Bool) → is_unsent rules d l past ≡ b → not b || is_held_back rules past l d ≡ true
    by l live d there false unsent = refl
    by l live d there true unsent = kept-back l d (record { live = live; found = found-of rules past are d there; unsent = unsent }) (may_take past l) refl

-- ---- the link of a candidate

-- a copy is due to consumers alone
due-consumer : (rules : RuleSet) (past : List Event) (d : Incoming) (l : Link) → is_due rules d l past ≡ true → is_consumer l ≡ true
due-consumer rules [] d l due = absurd cc
due-consumer rules (e ∷ past) d l due = by (completes d e) due (due-consumer rules past d l)
  where
    makes : makes_due rules l e past (due_count rules l past) ≡ true → is_consumer l ≡ true
    makes is =
        let copied = and_first (is_copied_to rules l e past) (nat_lt (due_count rules l past - begun_count l past) (link_credit l past)) is in
        let x = some-and (completed_by e) (λ x. is_of_multicast rules x (e ∷ past) && is_consumer_of (address_of x (e ∷ past)) past l) copied in
        let address = address_of x.0 (e ∷ past) in
        let of = and_last (is_of_multicast rules x.0 (e ∷ past)) (is_consumer_of address past l) x.2 in
        and_first (is_consumer l) (bytes_eq l.address address) (and_first (is_consumer l && bytes_eq l.address address) (is_live past l) of)

    by : (b : Bool) → (if b then makes_due rules l e past (due_count rules l past) else is_due rules d l past) ≡ true → (is_due rules d l past ≡ true → is_consumer l ≡ true) → is_consumer l ≡ true
    by true is rest = makes is
    by false is rest = rest is

module _ (rules : RuleSet) (past : List Event) (are : AreJudged rules past) (n : ℕ) (l : Link) (own : l.number ≡ n) (h : IsReady rules l past) where
  one : (d : Incoming) × IsUnsentOn rules l d past
  one = one-unsent rules past are l h.live h.some

  pub ready-found : consumer_at n past ≡ Some l
  ready-found =
      ap (λ m. consumer_at m past) (sym own)
      ∙ consumer-found rules past are l h.live (due-consumer rules past one.0 l (and_first (is_due rules one.0 l past) (not (is_named_on one.0 l past)) one.1.unsent))

  -- the link that is found is this one
  pub ready-same : (m : Link) → Some m ≡ consumer_at n past → m ≡ l
  ready-same m is = let some : Some m ≡ Some l = is ∙ ready-found in cc

-- ---- the list

pub have-of : (rules : RuleSet) (copies : UnsentCopies) (past : List Event) → HasUnsent rules copies past → Have rules copies.unsent past
have-of rules copies past h = record { ranked = h.ranked; listed = h.listed; stands = h.stands; waits = h.waits }
