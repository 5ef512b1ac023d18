-- The delivery in progress on a link is the one that is counted over the parts of its session.
use Rattle.std.proofs.Common.{◌≡◌, refl, sym, ap, ◌∙◌, ℕ, ◌⊎◌, inl, inr, List, [], ◌∷◌, ◌++◌, length, map, Bool, true, false, not, ◌&&◌, ◌==◌, Option, Some, None, IfSome, option_map, arith, eqb-true, eq-eqb, ne_eqb}
use Rattle.std.specs.Prelude.{if◌then◌else◌}
use Rattle.amqp_perf.specs.Meaning.{TransferFields, flag}
use Rattle.capture_form.specs.declared.records.Record.{Record}
use Rattle.capture_form.specs.Rules.{RuleSet}
use Rattle.flow_counts.specs.Parts.{PartEvent, Part, Aborted, Completed, Freed, Partial, joined}
use Rattle.flow_counts.specs.Parts as counted
use Rattle.trace_events.specs.Words.{is_some_and}
use Rattle.trace_events.specs.Event.{Event, Link, Incoming}
use Rattle.trace_events.specs.declared.session.Session.{Session}
use Rattle.trace_events.specs.Said.{in_spoken, in_transfer}
use Rattle.trace_events.specs.Link.{link_at}
use Rattle.trace_events.specs.Incoming.{goes_on, in_progress, is_part, part_payload, payload}
use Rattle.trace_events.specs.Parts.{parts_on, parts_of, part_events, partial_of, freed_ids}
use Rattle.trace_events.specs.History.{judge, history, new_incoming}
use Rattle.trace_events.proofs.Along.{along}
use Rattle.trace_events.proofs.IncomingSteps.{is_part_on, in_progress-same, in_progress-goes_on, in_progress-ends, payload-same, payload-more}
use Rattle.trace_events.proofs.Incomings.{judged-part, judged-sound, others}
use Rattle.trace_events.proofs.Parts.{record_part, EachPart, each_such, IsKept, AreKept, kept_step, none_kept, history_kept}

-- ---- what does not move the delivery in progress

freed_same : (link : ℕ) (ids : List ℕ) (rest : List PartEvent) → counted.in_progress link (map Freed ids ++ rest) ≡ counted.in_progress link rest
freed_same link [] rest = refl
freed_same link (id ∷ ids) rest = freed_same link ids rest

pub equal_turned : (m n : ℕ) (b : Bool) → (m == n) ≡ b → (n == m) ≡ b
equal_turned m n true is = eq-eqb n m (sym (eqb-true m n is))
equal_turned m n false is = by (n == m) refl
  where
    by : (b : Bool) → (n == m) ≡ b → b ≡ false
    by false other = refl
    by true same = let yes : (m == n) ≡ true = eq-eqb m n (sym (eqb-true n m same)) in absurd cc

module _ (link : ℕ) (l : Link) (e : Event) (rest : List PartEvent) (other : (link == l.number) ≡ false) where
  elsewhere_by : (fields : TransferFields) (aborted more : Bool) → (let part = Part l.number e.number fields.delivery_id (part_payload (in_spoken e)) in
      counted.in_progress link ((if aborted then Aborted l.number ∷ [] else if more then part ∷ [] else Completed l.number ∷ part ∷ []) ++ rest)
      ≡ counted.in_progress link rest)
  elsewhere_by fields true more = rw other refl
  elsewhere_by fields false true = rw other refl
  elsewhere_by fields false false = rw (other) refl

  elsewhere : (o : Option TransferFields) → counted.in_progress link (parts_on l e o ++ rest) ≡ counted.in_progress link rest
  elsewhere None = refl
  elsewhere (Some fields) = elsewhere_by fields (flag fields.aborted) (flag fields.more)

unchanged : (e : Event) (past : List Event) (o : Option Incoming) → ((d : Incoming) → o ≡ Some d → is_part d e ≡ false) → option_map (partial_of (e ∷ past)) o ≡ option_map (partial_of past) o
unchanged e past None apart = refl
unchanged e past (Some d) apart = ap (λ (octets : List ℕ). Some (record { number = d.number; id = d.id; payload = octets })) (payload-same e past d (apart d refl))

same_number : (l m : Link) (past : List Event) → l.number ≡ m.number → in_progress l past ≡ in_progress m past
same_number l m [] same = refl
same_number l m (e ∷ past) same =
    ap (λ (n : ℕ). if is_some_and e.incoming (λ d. d.link.number == n) then (if is_some_and (in_transfer e) goes_on then e.incoming else None) else in_progress l past) same
    ∙ ap (λ (o : Option Incoming). if is_some_and e.incoming (λ d. d.link.number == m.number) then (if is_some_and (in_transfer e) goes_on then e.incoming else None) else o) (same_number l m past same)

-- ---- nothing is known of a delivery before it begins

apart_of : (n : ℕ) (o : Option Incoming) → IfSome o (λ d. (d.number == n) ≡ false) → is_some_and o (λ d. d.number == n) ≡ false
apart_of n None h = refl
apart_of n (Some d) h = h

begins_empty : (past : List Event) (n : ℕ) → EachPart (λ d. (d.number == n) ≡ false) past → (d : Incoming) → d.number ≡ n → payload d past ≡ []
begins_empty [] n each d same = refl
begins_empty (e ∷ past) n each d same =
    payload-same e past d (ap (λ (m : ℕ). is_some_and e.incoming (λ x. x.number == m)) same ∙ apart_of n e.incoming each.0) ∙ begins_empty past n each.1 d same

-- ---- a part on the link

partial_same : (n m : ℕ) (i j : Option ℕ) (before octets : List ℕ) → m ≡ n → j ≡ i → before ≡ []
    → ◌≡◌ {A = Partial} (record { number = n; id = i; payload = octets }) (record { number = m; id = j; payload = before ++ octets })
partial_same n m i j before octets number id none = rw (number, id, none) refl

-- it is joined to what was in progress, or begins
joined_is : (past : List Event) (d : Incoming) (number : ℕ) (id : Option ℕ) (octets : List ℕ) (before : Option Partial) (o : Option Incoming) → before ≡ option_map (partial_of past) o
    → (o ≡ Some d) ⊎ ((o ≡ None) × (d.number ≡ number) × (d.id ≡ id) × (payload d past ≡ []))
    → joined before number id octets ≡ record { number = d.number; id = d.id; payload = payload d past ++ octets }
joined_is past d number id octets before o is (inl going) =
    ap (λ (p : Option Partial). joined p number id octets) (is ∙ ap (option_map (partial_of past)) going)
joined_is past d number id octets before o is (inr new) =
    ap (λ (p : Option Partial). joined p number id octets) (is ∙ ap (option_map (partial_of past)) new.0)
    ∙ partial_same number d.number id d.id (payload d past) octets new.1 new.2 new.3

goes_on_is : (fields : TransferFields) (o : Option TransferFields) (more aborted : Bool) → o ≡ Some fields → flag fields.more ≡ more → flag fields.aborted ≡ aborted
    → is_some_and o goes_on ≡ more && not aborted
goes_on_is fields o more aborted says m a = ap (λ (o : Option TransferFields). is_some_and o goes_on) says ∙ rw (m, a) refl

module _ (e : Event) (past : List Event) (l : Link) (d : Incoming) (fields : TransferFields) (rest : List PartEvent) (here : e.incoming ≡ Some d) (says : in_transfer e ≡ Some fields)
    (on : d.link.number ≡ l.number) (before : counted.in_progress l.number rest ≡ option_map (partial_of past) (in_progress l past))
    (kind : (in_progress l past ≡ Some d) ⊎ ((in_progress l past ≡ None) × (d.number ≡ e.number) × (d.id ≡ fields.delivery_id) × (payload d past ≡ []))) where
  mine : is_part_on l e ≡ true
  mine = ap (λ (o : Option Incoming). is_some_and o (λ d. d.link.number == l.number)) here ∙ eq-eqb d.link.number l.number on

  after_by : (more aborted : Bool) → flag fields.more ≡ more → flag fields.aborted ≡ aborted
      → (let part = Part l.number e.number fields.delivery_id (part_payload (in_spoken e)) in
      counted.in_progress l.number ((if aborted then Aborted l.number ∷ [] else if more then part ∷ [] else Completed l.number ∷ part ∷ []) ++ rest)
      ≡ option_map (partial_of (e ∷ past)) (in_progress l (e ∷ past)))
  after_by more true m a =
      ap (λ (b : Bool). if b then None else counted.in_progress l.number rest) (eq-eqb l.number l.number refl)
      ∙ sym (ap (option_map (partial_of (e ∷ past))) (in_progress-ends e past l mine (goes_on_is fields (in_transfer e) more true says m a ∙ off more)))
    where
      off : (b : Bool) → b && false ≡ false
      off true = refl
      off false = refl
  after_by false false m a =
      ap (λ (b : Bool). if b then None else counted.in_progress l.number (Part l.number e.number fields.delivery_id (part_payload (in_spoken e)) ∷ rest)) (eq-eqb l.number l.number refl)
      ∙ sym (ap (option_map (partial_of (e ∷ past))) (in_progress-ends e past l mine (goes_on_is fields (in_transfer e) false false says m a)))
  after_by true false m a =
      ap (λ (b : Bool). if b then Some (joined (counted.in_progress l.number rest) e.number fields.delivery_id (part_payload (in_spoken e))) else counted.in_progress l.number rest) (eq-eqb l.number l.number refl)
      ∙ (ap Some (joined_is past d e.number fields.delivery_id (part_payload (in_spoken e)) (counted.in_progress l.number rest) (in_progress l past) before kind)
      ∙ (sym (ap (λ (octets : List ℕ). Some (record { number = d.number; id = d.id; payload = octets })) (payload-more e past d part_of))
      ∙ sym (ap (option_map (partial_of (e ∷ past))) (in_progress-goes_on e past l d here (eq-eqb d.link.number l.number on) (goes_on_is fields (in_transfer e) true false says m a)))))
    where
      part_of : is_part d e ≡ true
      part_of = ap (λ (o : Option Incoming). is_some_and o (λ x. x.number == d.number)) here ∙ eq-eqb d.number d.number refl

  after : counted.in_progress l.number (parts_on l e (Some fields) ++ rest) ≡ option_map (partial_of (e ∷ past)) (in_progress l (e ∷ past))
  after = after_by (flag fields.more) (flag fields.aborted) refl refl

-- ---- one more record

-- a delivery of the link is one of the session
abbrev pub IsOf : Session → Link → Incoming → Type 0
IsOf s l d = d.link.number ≡ l.number → d.link.session.number ≡ s.number

same_parts : (l m : Link) (e : Event) (o : Option TransferFields) → l.number ≡ m.number → parts_on l e o ≡ parts_on m e o
same_parts l m e None same = refl
same_parts l m e (Some fields) same =
    ap (λ (n : ℕ). let part = Part n e.number fields.delivery_id (part_payload (in_spoken e)) in
    if flag fields.aborted then Aborted n ∷ [] else if flag fields.more then part ∷ [] else Completed n ∷ part ∷ []) same

module _ (rules : RuleSet) (s : Session) (l : Link) (past : List Event) (r : Record) (all : AreKept rules past) (rest : List PartEvent)
    (before : counted.in_progress l.number rest ≡ option_map (partial_of past) (in_progress l past)) where
  abbrev now : Event
  now = judge rules past r

  off_link : is_part_on l now ≡ false → option_map (partial_of past) (in_progress l past) ≡ option_map (partial_of (now ∷ past)) (in_progress l (now ∷ past))
  off_link off =
      sym (ap (option_map (partial_of (now ∷ past))) (in_progress-same now past l off)
      ∙ unchanged now past (in_progress l past) (λ d is. apart_of d.number now.incoming
      (others now past refl (judged-part rules now past ((r, refl), all.are)) (judged-sound rules past all.are) l d is now.incoming off (judged-part rules now past ((r, refl), all.are)))))

  kind_on : (fields : TransferFields) (m : Link) (d : Incoming) → d.link.number ≡ l.number
      → (in_progress m past ≡ Some d) ⊎ ((in_progress m past ≡ None) × (d ≡ new_incoming (length past) fields m))
      → (in_progress l past ≡ Some d) ⊎ ((in_progress l past ≡ None) × (d.number ≡ length past) × (d.id ≡ fields.delivery_id) × (payload d past ≡ []))
  kind_on fields m d same (inl going) =
      inl (same_number l m past (sym same ∙ (judged-sound rules past all.are).own m d going) ∙ going)
  kind_on fields m d same (inr new) =
      let number : d.number ≡ length past = ap (λ (x : Incoming). x.number) new.1 in
      inr (
        same_number l m past (sym same ∙ ap (λ (x : Incoming). x.link.number) new.1) ∙ new.0,
        number,
        ap (λ (x : Incoming). x.id) new.1,
        begins_empty past (length past)
            (each_such (IsKept past) (λ x. (x.number == length past) ≡ false) past (λ x kept. ne_eqb x.number (length past) (λ is. let lt = kept.before in absurd (omega (arith, is, lt)))) all.each)
            d number,
      )

  moved_by : (d : Incoming) → now.incoming ≡ Some d → IsOf s l d → (linked : Bool) → (d.link.number == l.number) ≡ linked → (owned : Bool) → (d.link.session.number == s.number) ≡ owned
      → counted.in_progress l.number ((if owned then parts_on d.link now (in_transfer now) else []) ++ rest) ≡ option_map (partial_of (now ∷ past)) (in_progress l (now ∷ past))
  moved_by d here of false on false owned =
      before ∙ off_link (ap (λ (o : Option Incoming). is_some_and o (λ d. d.link.number == l.number)) here ∙ on)
  moved_by d here of false on true owned =
      elsewhere l.number d.link now rest (equal_turned d.link.number l.number false on) (in_transfer now)
      ∙ (before ∙ off_link (ap (λ (o : Option Incoming). is_some_and o (λ d. d.link.number == l.number)) here ∙ on))
  moved_by d here of true on false owned =
      let yes : (d.link.session.number == s.number) ≡ true = eq-eqb d.link.session.number s.number (of (eqb-true d.link.number l.number on)) in
      absurd cc
  moved_by d here of true on true owned =
      let p = record_part rules past r d here in
      let same = eqb-true d.link.number l.number on in
      ap (λ (o : Option TransferFields). counted.in_progress l.number (parts_on d.link now o ++ rest)) p.says
      ∙ (ap (λ (parts : List PartEvent). counted.in_progress l.number (parts ++ rest)) (same_parts d.link l now (Some p.fields) same)
      ∙ after now past l d p.fields rest here p.says same before (kind_on p.fields p.part.link d same p.part.kind))

  moved : (o : Option Incoming) → now.incoming ≡ o → IfSome o (IsOf s l)
      → counted.in_progress l.number (parts_of s now o ++ rest) ≡ option_map (partial_of (now ∷ past)) (in_progress l (now ∷ past))
  moved None here of = before ∙ off_link (ap (λ (o : Option Incoming). is_some_and o (λ d. d.link.number == l.number)) here)
  moved (Some d) here of = moved_by d here of (d.link.number == l.number) refl (d.link.session.number == s.number) refl

-- ---- along a history

pub record IsCounted (rules : RuleSet) (s : Session) (l : Link) (past : List Event) : Type 0 where
  pub kept : AreKept rules past
  pub counts : EachPart (IsOf s l) past → counted.in_progress l.number (part_events rules s past) ≡ option_map (partial_of past) (in_progress l past)

pub counted_step : (rules : RuleSet) (s : Session) (l : Link) (past : List Event) (r : Record) → IsCounted rules s l past → IsCounted rules s l (judge rules past r ∷ past)
counted_step rules s l past r h = record {
  kept = kept_step rules past r h.kept;
  counts = λ of.
      let e = judge rules past r in
      freed_same l.number (freed_ids rules s e past) (parts_of s e e.incoming ++ part_events rules s past)
      ∙ moved rules s l past r h.kept (part_events rules s past) (h.counts of.1) e.incoming refl of.0;
}

pub in_progress_counted_of : (rules : RuleSet) (s : Session) (l : Link) (rs : List Record) → EachPart (IsOf s l) (history rules rs)
    → counted.in_progress l.number (part_events rules s (history rules rs)) ≡ option_map (partial_of (history rules rs)) (in_progress l (history rules rs))
in_progress_counted_of rules s l rs of =
    (along rules (IsCounted rules s l) (record { kept = none_kept rules; counts = λ of. refl }) (counted_step rules s l) rs).counts of

-- the deliveries of a link of a history are of its session
pub link_is_of : (rules : RuleSet) (past : List Event) (l : Link) → AreKept rules past → link_at l.number past ≡ Some l → EachPart (IsOf l.session l) past
link_is_of rules past l all at =
    each_such (IsKept past) (IsOf l.session l) past (λ d kept same.
    let found : ◌≡◌ {A = Option Link} (Some d.link) (Some l) = sym kept.link.at ∙ (ap (λ (n : ℕ). link_at n past) same ∙ at) in
    let one : d.link ≡ l = cc in
    ap (λ (m : Link). m.session.number) one) all.each

-- of each link of a capture: the delivery in progress is the one counted over the parts of the link's session
pub in_progress_counted : (rules : RuleSet) (rs : List Record) (s : Session) (l : Link) → link_at l.number (history rules rs) ≡ Some l → l.session.number ≡ s.number
    → counted.in_progress l.number (part_events rules s (history rules rs)) ≡ option_map (partial_of (history rules rs)) (in_progress l (history rules rs))
in_progress_counted rules rs s l at own =
    in_progress_counted_of rules s l rs
    (each_such (IsOf l.session l) (IsOf s l) (history rules rs) (λ d of same. of same ∙ own) (link_is_of rules (history rules rs) l (history_kept rules rs) at))
