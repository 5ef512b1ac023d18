-- The delivery in progress on a live link is the one that arrives there.
use Rattle.std.proofs.Common.{◌≡◌, refl, sym, ap, ◌∙◌, ◌⊎◌, inl, inr, ℕ, Bool, true, false, ◌&&◌, ◌||◌, not, List, [], ◌∷◌, Option, Some, None, option_map, option_and_then, nat_eq, if◌then◌else◌, ◌==◌, eqb-true, eq-eqb}
use Rattle.std.specs.List.{list_any, slice_get}
use Rattle.amqp_perf.specs.Meaning.{TransferFields, flag}
use Rattle.capture_form.specs.Rules.{RuleSet}
use Rattle.trace_events.specs.Words.{is_some_and, where_passes}
use Rattle.trace_events.specs.Connection.{is_over}
use Rattle.trace_events.specs.Session.{last_session}
use Rattle.trace_events.specs.Settling.{is_closed}
use Rattle.trace_events.specs.Waiting.{is_gone}
use Rattle.trace_events.specs.declared.session.Session.{Session}
use Rattle.trace_events.specs.Event.{Event, Link, Incoming}
use Rattle.trace_events.specs.Said.{in_transfer}
use Rattle.trace_events.specs.Ends.{ends_link}
use Rattle.trace_events.specs.Link.{is_live, link_at, session_link, IsLiveLink}
use Rattle.trace_events.specs.Incoming.{in_progress, goes_on, is_part, is_last_part, completes, is_complete, is_aborted, incoming_begun, incoming_at, incoming_deliveries}
use Rattle.trace_events.specs.History.{new_incoming}
use Rattle.trace_events.proofs.Along.{some_passes}
use Rattle.trace_events.proofs.IncomingSteps.{incoming_at-begun, incoming_at-older, incoming_at-same}
use Rattle.trace_events.proofs.LinkLives.{judged-stands}
use Rattle.trace_events.proofs.SessionNumbers.{last_session-known}
use Rattle.trace_events.proofs.Judged.{AreJudged}
use Rattle.trace_events.proofs.Links.{passing}
use Rattle.trace_events.proofs.IncomingProgress.{judged-kept, progress-kept, progress-link}
use Rattle.trace_events.proofs.Incomings.{judged-sound}
use Rattle.trace_events.proofs.LinkEnds.{is_live-next}
use Rattle.trace_events.proofs.Parts.{IsKept, IsPart, delivery_kept, judged_is_part}
use Rattle.trace_events.proofs.PartsGoOn.{judged-whole}
use Rattle.state_incoming.specs.Held.{Held, held, held_at, is_held, fate_of, says_arriving}
use Rattle.state_incoming.proofs.FateSteps.{arriving-fate}
use Rattle.state_incoming.proofs.HeldAnswers.{held-of, held-complete}
use Rattle.state_incoming.proofs.GroupAnswers.{found-passes}
use Rattle.state_incoming.proofs.OverKnown.{kept-law, kept-there}
use Rattle.state_incoming.specs.Grouped.{is_of_link}

or_none : (a b : Bool) → a || b ≡ false → (a ≡ false) × (b ≡ false)
or_none false b is = (refl, is)
or_none true b is = absurd cc

and_first : (a b : Bool) → a && b ≡ true → a ≡ true
and_first true b is = refl
and_first false b is = absurd cc

and_both : (a b : Bool) → a && b ≡ true → (a ≡ true) × (b ≡ true)
and_both true b is = (refl, is)
and_both false b is = absurd cc

not-true : (b : Bool) → not b ≡ true → b ≡ false
not-true false is = refl
not-true true is = absurd cc

last_of : (over : Bool) (last : Option Session) (s : Session) → (if over then None else last) ≡ Some s → last ≡ Some s
last_of true last s is = absurd cc
last_of false last s is = is

same_some : {A : Type 0} (a b : A) → Some a ≡ Some b → a ≡ b
same_some a b is = cc

-- the delivery in progress is asked by the link's number alone
progress-number : (a b : Link) (past : List Event) → a.number ≡ b.number → in_progress a past ≡ in_progress b past
progress-number a b [] same = refl
progress-number a b (e ∷ past) same =
    ap (λ n. if is_some_and e.incoming (λ (d : Incoming). d.link.number == n) then (if is_some_and (in_transfer e) goes_on then e.incoming else None) else in_progress a past) same
    ∙ ap (λ o. if is_some_and e.incoming (λ (d : Incoming). d.link.number == b.number) then (if is_some_and (in_transfer e) goes_on then e.incoming else None) else o) (progress-number a b past same)

-- a part that neither completes its delivery nor gives it up goes on
going-bits : (more aborted : Bool) → not more && not aborted ≡ false → aborted ≡ false → more && not aborted ≡ true
going-bits true true last up = absurd cc
going-bits true false last up = refl
going-bits false aborted last up = let never : not aborted ≡ false = last in absurd (never-both aborted up never)
  where
    never-both : (b : Bool) → b ≡ false → not b ≡ false → ⊥
    never-both true is off = absurd cc
    never-both false is off = absurd cc

going : (o : Option TransferFields) (own : Option Incoming) (d : Incoming) → own ≡ Some d → (fields : TransferFields) → o ≡ Some fields
    → is_some_and (if is_some_and o is_last_part then own else None) (λ (x : Incoming). x.number == d.number) ≡ false
    → is_some_and own (λ (x : Incoming). x.number == d.number) && is_some_and o (λ (f : TransferFields). flag f.aborted) ≡ false → is_some_and o goes_on ≡ true
going o own d is fields says last up =
    let here : is_some_and own (λ (x : Incoming). x.number == d.number) ≡ true = ap (λ p. is_some_and p (λ (x : Incoming). x.number == d.number)) is ∙ eq-eqb d.number d.number refl in
    let whole : flag fields.aborted ≡ false = sym (ap (λ p. is_some_and p (λ (f : TransferFields). flag f.aborted)) says) ∙ (sym (ap (λ b. b && is_some_and o (λ (f : TransferFields). flag f.aborted)) here) ∙ up) in
    ap (λ p. is_some_and p goes_on) says ∙ going-bits (flag fields.more) (flag fields.aborted) (by (is_last_part fields) refl) whole
  where
    by : (b : Bool) → is_last_part fields ≡ b → is_last_part fields ≡ false
    by false not_last = not_last
    by true ends =
        let never : true ≡ false =
        sym (ap (λ p. is_some_and (if is_some_and p is_last_part then own else None) (λ (x : Incoming). x.number == d.number)) says
        ∙ (ap (λ b. is_some_and (if b then own else None) (λ (x : Incoming). x.number == d.number)) ends
        ∙ (ap (λ p. is_some_and p (λ (x : Incoming). x.number == d.number)) is ∙ eq-eqb d.number d.number refl))) ∙ last in
        absurd cc

module _ (rules : RuleSet) (e : Event) (past : List Event) (are : AreJudged rules (e ∷ past)) (d : Incoming) (incomplete : is_complete d (e ∷ past) ≡ false) (whole : is_aborted d (e ∷ past) ≡ false) where
  abbrev on_link : Bool
  on_link = is_some_and e.incoming (λ (x : Incoming). x.link.number == d.link.number)

  -- a part of it goes on
  part-goes : e.incoming ≡ Some d → in_progress d.link (e ∷ past) ≡ Some d
  part-goes is =
      let p = judged_is_part rules e past are d is in
      let on : on_link ≡ true = ap (λ o. is_some_and o (λ (x : Incoming). x.link.number == d.link.number)) is ∙ eq-eqb d.link.number d.link.number refl in
      let goes = going (in_transfer e) e.incoming d is p.fields p.says (or_none (completes d e) (is_complete d past) incomplete).0
      (or_none (is_part d e && is_some_and (in_transfer e) (λ (f : TransferFields). flag f.aborted)) (is_aborted d past) whole).0 in
      ap (λ b. if b then (if is_some_and (in_transfer e) goes_on then e.incoming else None) else in_progress d.link past) on ∙ (ap (λ b. if b then e.incoming else None) goes ∙ is)

  -- it was in progress
  module _ (was : in_progress d.link past ≡ Some d) where
    other-part : (x : Incoming) → e.incoming ≡ Some x → (x.link.number == d.link.number) ≡ true → x ≡ d
    other-part x is same = by (judged_is_part rules e past are x is).part.kind
      where
        p : IsPart e past x
        p = judged_is_part rules e past are x is

        by : (in_progress p.part.link past ≡ Some x) ⊎ ((in_progress p.part.link past ≡ None) × (x ≡ new_incoming e.number p.fields p.part.link)) → x ≡ d
        by (inl on) =
            let number : p.part.link.number ≡ d.link.number = sym ((judged-sound rules past are.1).own p.part.link x on) ∙ eqb-true x.link.number d.link.number same in
            same_some x d (sym on ∙ (progress-number p.part.link d.link past number ∙ was))
        by (inr new) =
            let number : p.part.link.number ≡ d.link.number = sym (ap (λ (y : Incoming). y.link.number) new.1) ∙ eqb-true x.link.number d.link.number same in
            let never : ◌≡◌ {A = Option Incoming} None (Some d) = sym new.0 ∙ (progress-number p.part.link d.link past number ∙ was) in
            absurd cc

    stays-in : in_progress d.link (e ∷ past) ≡ Some d
    stays-in = by on_link refl
      where
        by : (b : Bool) → on_link ≡ b → in_progress d.link (e ∷ past) ≡ Some d
        by false off = ap (λ b. if b then (if is_some_and (in_transfer e) goes_on then e.incoming else None) else in_progress d.link past) off ∙ was
        by true on =
            let one = some_passes (λ (x : Incoming). x.link.number == d.link.number) e.incoming on in
            part-goes (one.1 ∙ ap Some (other-part one.0 one.1 one.2))

  -- it began before the event, or with it
  module _ (at : incoming_at d.number (e ∷ past) ≡ Some d) (live : is_live (e ∷ past) d.link ≡ true) (earlier : incoming_at d.number past ≡ Some d → is_live past d.link ≡ true → in_progress d.link past ≡ Some d) where
    older : incoming_at d.number (e ∷ past) ≡ incoming_at d.number past → in_progress d.link (e ∷ past) ≡ Some d
    older same =
        let found = sym same ∙ at in
        let kept : IsKept past d = delivery_kept rules past d.number d (judged-kept rules past are.1) found in
        stays-in (earlier found (and_first (is_live past d.link) (not (ends_link d.link e)) (sym (is_live-next rules e past are d.link kept.link.at) ∙ live)))

    pub arrives : in_progress d.link (e ∷ past) ≡ Some d
    arrives = by (incoming_begun e) refl
      where
        named : (x : Incoming) → incoming_begun e ≡ Some x → (b : Bool) → (x.number == d.number) ≡ b → in_progress d.link (e ∷ past) ≡ Some d
        named x begun true same =
            let one : x ≡ d = same_some x d (sym (incoming_at-begun e past d.number x begun same) ∙ at) in
            part-goes ((passing (λ (y : Incoming). y.number == e.number) e.incoming x begun).0 ∙ ap Some one)
        named x begun false other = older (incoming_at-older e past d.number x begun other)

        by : (o : Option Incoming) → incoming_begun e ≡ o → in_progress d.link (e ∷ past) ≡ Some d
        by None none = older (incoming_at-same e past d.number none)
        by (Some x) begun = named x begun (x.number == d.number) refl

-- one that arrives on a live link is in progress there
pub arriving-progress : (rules : RuleSet) (past : List Event) → AreJudged rules past → (d : Incoming) → is_complete d past ≡ false → is_aborted d past ≡ false → incoming_at d.number past ≡ Some d
    → is_live past d.link ≡ true → in_progress d.link past ≡ Some d
arriving-progress rules [] are d incomplete whole at live = absurd cc
arriving-progress rules (e ∷ past) are d incomplete whole at live =
    arrives rules e past are d incomplete whole at live
    (arriving-progress rules past are.1 d (or_none (completes d e) (is_complete d past) incomplete).1
    (or_none (is_part d e && is_some_and (in_transfer e) (λ (f : TransferFields). flag f.aborted)) (is_aborted d past) whole).1)

-- ---- by the group of those that arrive

module _ (rules : RuleSet) (past : List Event) (are : AreJudged rules past) (gone : ℕ → Bool) (kept : ℕ → Option Held) (were : (n : ℕ) → kept n ≡ (if gone n then None else held_at rules n past))
    (there : (d : Incoming) → incoming_at d.number past ≡ Some d → is_complete d past ≡ false → gone d.number ≡ false) (l : Link) (on : IsLiveLink l past) (ns : List ℕ) (grouped : (n : ℕ) → list_any (nat_eq n) ns ≡ is_some_and (kept n) (λ x. is_of_link l.number x.delivery && says_arriving x.fate)) where
  known : link_at l.number past ≡ Some l
  known =
      ((judged-stands rules past are).known l.session l.handle l
      (last_session-known rules past are l.session.connection l.session.channel l.session
      (last_of (is_over l.session.connection past) (last_session l.session.connection l.session.channel past) l.session on.0)) on.1).at

  lives : is_live past l ≡ true
  lives =
      ap (λ o. is_some_and (option_and_then (λ s. session_link s l.handle past) o) (λ (m : Link). m.number == l.number)) on.0
      ∙ (ap (λ o. is_some_and o (λ (m : Link). m.number == l.number)) on.1 ∙ eq-eqb l.number l.number refl)

  -- the one in progress is kept, and arrives
  progress-entry : (d : Incoming) → in_progress l past ≡ Some d → list_any (nat_eq d.number) ns ≡ true
  progress-entry d is =
      let of = progress-kept rules past l d are is in
      let link = progress-link rules past l d are known is in
      let incomplete = (judged-sound rules past are).going l d is in
      let whole : is_aborted d past ≡ false = judged-whole rules past are l d is in
      let live : is_live past d.link ≡ true = ap (is_live past) link ∙ lives in
      let holds : is_held rules past d ≡ true =
      ap (λ b. if b then not (is_gone rules d past && is_closed past d) else not (is_aborted d past) && is_live past d.link) incomplete
      ∙ (ap (λ b. not b && is_live past d.link) whole ∙ live) in
      let entry : kept d.number ≡ Some (held rules past d) =
      were d.number
      ∙ (kept-there (gone d.number) (held_at rules d.number past) (there d of.at incomplete)
      ∙ (ap (λ o. option_map (held rules past) (where_passes (is_held rules past) o)) of.at
      ∙ ap (λ b. option_map (held rules past) (if b then Some d else None)) holds)) in
      grouped d.number
      ∙ (ap (λ o. is_some_and o (λ x. is_of_link l.number x.delivery && says_arriving x.fate)) entry
      ∙ (ap (λ (m : Link). (m.number == l.number) && says_arriving (fate_of rules d past)) link
      ∙ (ap (λ b. b && says_arriving (fate_of rules d past)) (eq-eqb l.number l.number refl) ∙ (arriving-fate rules d past ∙ ap not incomplete))))

  -- one of the group is in progress
  entry-progress : (n : ℕ) → list_any (nat_eq n) ns ≡ true → (x : Held) × (kept n ≡ Some x) × (in_progress l past ≡ Some x.delivery)
  entry-progress n among = by (kept n) refl (sym (grouped n) ∙ among)
    where
      by : (o : Option Held) → kept n ≡ o → is_some_and o (λ x. is_of_link l.number x.delivery && says_arriving x.fate) ≡ true → (x : Held) × (kept n ≡ Some x) × (in_progress l past ≡ Some x.delivery)
      by None none is = absurd cc
      by (Some x) some is =
          let of = held-of rules n past x (kept-law (gone n) (held_at rules n past) x (sym (were n) ∙ some)).1 in
          let d = x.delivery in
          let parts = and_both (is_of_link l.number d) (says_arriving x.fate) is in
          let incomplete : is_complete d past ≡ false = held-complete rules n past x of ∙ ap not parts.1 in
          let open_link = and_both (not (is_aborted d past)) (is_live past d.link)
          (sym (ap (λ b. if b then not (is_gone rules d past && is_closed past d) else not (is_aborted d past) && is_live past d.link) incomplete) ∙ of.kept) in
          let number : d.number ≡ n = eqb-true d.number n (found-passes (λ (y : Incoming). y.number == n) (incoming_deliveries past) d of.at) in
          let progress = arriving-progress rules past are d incomplete (not-true (is_aborted d past) open_link.0) (ap (λ m. incoming_at m past) number ∙ of.at) open_link.1 in
          (x, some, sym (progress-number d.link l past (eqb-true d.link.number l.number parts.0)) ∙ progress)

  none-arrives : ns ≡ [] → (o : Option Incoming) → in_progress l past ≡ o → None ≡ o
  none-arrives empty None is = refl
  none-arrives empty (Some d) is = let never : false ≡ true = sym (ap (list_any (nat_eq d.number)) empty) ∙ progress-entry d is in absurd cc

  pub progress-is : (o : Option ℕ) → o ≡ slice_get ns 0 → option_and_then (λ n. option_map (λ x. x.delivery) (kept n)) o ≡ in_progress l past
  progress-is None first = none-arrives (empty ns first) (in_progress l past) refl
    where
      empty : (ms : List ℕ) → None ≡ slice_get ms 0 → ms ≡ []
      empty [] is = refl
      empty (m ∷ ms) is = absurd cc
  progress-is (Some n) first =
      let one = entry-progress n (among ns first) in
      ap (option_map (λ x. x.delivery)) one.1 ∙ sym one.2
    where
      among : (ms : List ℕ) → Some n ≡ slice_get ms 0 → list_any (nat_eq n) ms ≡ true
      among [] is = absurd cc
      among (m ∷ ms) is = let same : n ≡ m = cc in ap (λ k. nat_eq n k || list_any (nat_eq n) ms) (sym same) ∙ ap (λ b. b || list_any (nat_eq n) ms) (eq-eqb n n refl)
