-- Deliveries from clients in a judged history: each number is one delivery's, and what is complete changes no more.
use Rattle.std.proofs.Common.{◌≡◌, refl, sym, ap, ◌∙◌, subst, ℕ, suc, ◌<◌, ◌≤◌, ◌⊎◌, inl, inr, List, [], ◌∷◌, ◌++◌, length, Bool, true, false, cond, not, ◌&&◌, ◌||◌, ◌==◌, Option, Some, None, IfSome, find, option_and_then, arith, eqb-true, eq-eqb, ne_eqb}
use Rattle.std.specs.Prelude.{is_none, if◌then◌else◌}
use Rattle.std.specs.List.{list_any, cons_option}
use Rattle.amqp_perf.specs.Meaning.{Meaning, AnOpen, ABegin, AnAttach, AFlow, ATransfer, ADisposition, ADetach, AnEnd, AClose, TransferFields, flag}
use Rattle.capture_form.specs.declared.records.Record.{Record}
use Rattle.capture_form.specs.Rules.{RuleSet}
use Rattle.trace_events.specs.Words.{is_some_and, or_else, where_passes}
use Rattle.trace_events.specs.Frame.{Frame, Spoken, spoken_in}
use Rattle.trace_events.specs.Event.{Event, Link, Incoming, Moment, Opened, In, Out, Lost, Broken}
use Rattle.trace_events.specs.Said.{in_transfer, in_spoken}
use Rattle.trace_events.specs.Incoming.{address_of, goes_on, in_progress, is_part, is_last_part, completed_by, completes, is_complete, payload, part_payload, incoming_begun, incoming_deliveries, incoming_at}
use Rattle.trace_events.specs.Address.{has_consumer}
use Rattle.trace_events.specs.Outgoing.{is_paired}
use Rattle.trace_events.specs.Waiting.{always_had_consumer, is_of_multicast, is_unpaired, is_waiting, is_gone}
use Rattle.trace_events.specs.History.{history, continued, judge, placed, heard, faulted, moment_of, incoming_by, incoming_part, new_incoming}
use Rattle.trace_events.proofs.Judged.{AreJudged, history-judged, and_then-some, judged-number}
use Rattle.trace_events.proofs.Lawful.{continued-append}
use Rattle.trace_events.proofs.Fates.{complete-stays}
use Rattle.trace_events.proofs.OneConsumer.{passes-some}

-- a part goes on with what is in progress, or begins a delivery of the event's number
abbrev pub IsPartOf : List Event → Incoming → Type 0
IsPartOf past d = ((l : Link) × (in_progress l past ≡ Some d)) ⊎ (d.number ≡ length past)

module _ (e : Event) (past : List Event) (number : e.number ≡ length past) where
  link-part : (fields : TransferFields) (l : Link) (o : Option Incoming) → in_progress l past ≡ o
      → IfSome (or_else o (Some (new_incoming e.number fields l))) (IsPartOf past)
  link-part fields l None is = inr number
  link-part fields l (Some d) is = inl (l, is)

  meaning-part : (meaning : Meaning) → IfSome (incoming_part e meaning past) (IsPartOf past)
  meaning-part (ATransfer fields) =
      and_then-some (IsPartOf past) _ _ (λ l. link-part fields l (in_progress l past) refl)
  meaning-part (AnOpen fields) = tt
  meaning-part (ABegin fields) = tt
  meaning-part (AnAttach fields) = tt
  meaning-part (AFlow fields) = tt
  meaning-part (ADisposition fields) = tt
  meaning-part (ADetach fields) = tt
  meaning-part (AnEnd error) = tt
  meaning-part (AClose error) = tt

  frame-part : (frame : Frame) (b : Bool)
      → IfSome (if b then option_and_then (λ (spoken : Spoken). incoming_part e spoken.meaning past) (spoken_in frame.body) else None) (IsPartOf past)
  frame-part frame true = and_then-some (IsPartOf past) _ (spoken_in frame.body) (λ spoken. meaning-part spoken.meaning)
  frame-part frame false = tt

  incoming_by-part : (m : Moment) → IfSome (incoming_by e m past) (IsPartOf past)
  incoming_by-part (In frame) = frame-part frame (e.is_heard && is_none e.fault)
  incoming_by-part (Out frame) = tt
  incoming_by-part Opened = tt
  incoming_by-part Lost = tt
  incoming_by-part Broken = tt

pub judged-part : (rules : RuleSet) (e : Event) (past : List Event) → AreJudged rules (e ∷ past) → IfSome e.incoming (IsPartOf past)
judged-part rules e past ((r, is), are) =
    subst (λ (x : Event). IfSome x.incoming (IsPartOf past)) (sym is)
    (incoming_by-part (faulted rules past (heard past (placed past r.connection (moment_of r.what) r.note))) past refl (moment_of r.what))

-- ---- what holds of the deliveries in progress, and of numbers that are still to come

pub record AreSound (past : List Event) : Type 0 where
  pub below : (l : Link) (d : Incoming) → in_progress l past ≡ Some d → d.number < length past
  pub own : (l : Link) (d : Incoming) → in_progress l past ≡ Some d → d.link.number ≡ l.number
  pub known : (l : Link) (d : Incoming) → in_progress l past ≡ Some d → incoming_at d.number past ≡ Some d
  pub going : (l : Link) (d : Incoming) → in_progress l past ≡ Some d → is_complete d past ≡ false
  pub fresh : (d : Incoming) → length past ≤ d.number → is_complete d past ≡ false

if-known : {A : Type 0} (P : A → Type 0) (o : Option A) (x : A) → o ≡ Some x → IfSome o P → P x
if-known P o x is h = subst (λ (p : Option _). IfSome p P) is h

-- whether a part of another number completes it
completes-not : (e : Event) (n : ℕ) → IfSome e.incoming (λ d. (d.number == n) ≡ false) → is_some_and (completed_by e) (λ d. d.number == n) ≡ false
completes-not e n h = by-part (is_some_and (in_transfer e) is_last_part) e.incoming h
  where
    by-part : (b : Bool) (o : Option Incoming) → IfSome o (λ d. (d.number == n) ≡ false) → is_some_and (if b then o else None) (λ d. d.number == n) ≡ false
    by-part true None h = refl
    by-part true (Some d) h = h
    by-part false o h = refl

going-not-last : (o : Option TransferFields) → is_some_and o goes_on ≡ true → is_some_and o is_last_part ≡ false
going-not-last None e = refl
going-not-last (Some fields) e = by-flags (flag fields.more) (not (flag fields.aborted)) e
  where
    by-flags : (more whole : Bool) → more && whole ≡ true → not more && whole ≡ false
    by-flags true whole e = refl
    by-flags false whole e = absurd cc

module _ (e : Event) (past : List Event) (number : e.number ≡ length past) (part : IfSome e.incoming (IsPartOf past)) (sound : AreSound past) where
  part-below : (d : Incoming) → IsPartOf past d → d.number < suc (length past)
  part-below d (inl (l, is)) = let lt = sound.below l d is in omega (arith, lt)
  part-below d (inr same) = omega (arith, same)

  -- an event adds no delivery of a number below its own
  by-begun : (n : ℕ) → n < length past → (o : Option Incoming) → incoming_begun e ≡ o → find (λ d. d.number == n) (cons_option o (incoming_deliveries past)) ≡ incoming_at n past
  by-begun n lt None is = refl
  by-begun n lt (Some d) is =
      let here : d.number ≡ e.number = eqb-true d.number e.number (passes-some (λ (x : Incoming). x.number == e.number) e.incoming d is).1 in
      let other : (d.number == n) ≡ false = ne_eqb d.number n (λ same. absurd (omega (arith, same, here, number, lt))) in
      ap (λ b. cond b (Some d) (incoming_at n past)) other

  pub at-step : (n : ℕ) → n < length past → incoming_at n (e ∷ past) ≡ incoming_at n past
  at-step n lt = by-begun n lt (incoming_begun e) refl

  pub at-new : (d : Incoming) → e.incoming ≡ Some d → d.number ≡ length past → incoming_at d.number (e ∷ past) ≡ Some d
  at-new d is same =
      let mine : (d.number == e.number) ≡ true = eq-eqb d.number e.number (same ∙ sym number) in
      let begun : incoming_begun e ≡ Some d = ap (λ o. where_passes (λ (x : Incoming). x.number == e.number) o) is ∙ ap (λ b. if b then Some d else None) mine in
      ap (λ o. find (λ (x : Incoming). x.number == d.number) (cons_option o (incoming_deliveries past))) begun
      ∙ ap (λ b. cond b (Some d) (incoming_at d.number past)) (eq-eqb d.number d.number refl)

  known-part : (d : Incoming) → e.incoming ≡ Some d → IsPartOf past d → incoming_at d.number (e ∷ past) ≡ Some d
  known-part d is (inl (l, going)) = at-step d.number (sound.below l d going) ∙ sound.known l d going
  known-part d is (inr same) = at-new d is same

  fresh-part : (d : Incoming) → IsPartOf past d → is_complete d past ≡ false
  fresh-part d (inl (l, is)) = sound.going l d is
  fresh-part d (inr same) = sound.fresh d (omega (arith, same))

  -- what is in progress then: by this part, or as before
  Here : Link → Incoming → Type 0
  Here l d = (e.incoming ≡ Some d) × (d.link.number ≡ l.number) × (is_some_and (in_transfer e) goes_on ≡ true)

  Before : Link → Incoming → Type 0
  Before l d = (is_some_and e.incoming (λ x. x.link.number == l.number) ≡ false) × (in_progress l past ≡ Some d)

  split-by : (l : Link) (d : Incoming) (b : Bool) → is_some_and e.incoming (λ x. x.link.number == l.number) ≡ b → (c : Bool) → is_some_and (in_transfer e) goes_on ≡ c
      → cond b (cond c e.incoming None) (in_progress l past) ≡ Some d → Here l d ⊎ Before l d
  unfolding Here Before
  split-by l d true on true more is =
      let linked : is_some_and (Some d) (λ x. x.link.number == l.number) ≡ true = sym (ap (λ o. is_some_and o (λ x. x.link.number == l.number)) is) ∙ on in
      inl (is, eqb-true d.link.number l.number linked, more)
  split-by l d true on false more is = absurd cc
  split-by l d false on c more is = inr (on, is)

  split : (l : Link) (d : Incoming) → in_progress l (e ∷ past) ≡ Some d → Here l d ⊎ Before l d
  split l d is = split-by l d _ refl _ refl is

  below-by : (l : Link) (d : Incoming) → Here l d ⊎ Before l d → d.number < suc (length past)
  unfolding Here Before
  below-by l d (inl h) = part-below d (if-known (IsPartOf past) e.incoming d h.0 part)
  below-by l d (inr h) = let lt = sound.below l d h.1 in omega (arith, lt)

  own-by : (l : Link) (d : Incoming) → Here l d ⊎ Before l d → d.link.number ≡ l.number
  unfolding Here Before
  own-by l d (inl h) = h.1
  own-by l d (inr h) = sound.own l d h.1

  known-by : (l : Link) (d : Incoming) → Here l d ⊎ Before l d → incoming_at d.number (e ∷ past) ≡ Some d
  unfolding Here Before
  known-by l d (inl h) = known-part d h.0 (if-known (IsPartOf past) e.incoming d h.0 part)
  known-by l d (inr h) = at-step d.number (sound.below l d h.1) ∙ sound.known l d h.1

  -- a part on another link is of another delivery
  other-part : (l : Link) (d : Incoming) → in_progress l past ≡ Some d → (x : Incoming) → (x.link.number == l.number) ≡ false → IsPartOf past x → (b : Bool) → (x.number == d.number) ≡ b → b ≡ false
  other-part l d is x apart of false same = refl
  other-part l d is x apart (inr new) true same =
      let equal = eqb-true x.number d.number same in let lt = sound.below l d is in absurd (omega (arith, equal, new, lt))
  other-part l d is x apart (inl (m, going)) true same =
      let equal : x.number ≡ d.number = eqb-true x.number d.number same in
      let found : incoming_at d.number past ≡ Some x = sym (ap (λ n. incoming_at n past) equal) ∙ sound.known m x going in
      let both : ◌≡◌ {A = Option Incoming} (Some x) (Some d) = sym found ∙ sound.known l d is in
      let one : x ≡ d = cc in
      let linked : x.link.number ≡ l.number = ap (λ (y : Incoming). y.link.number) one ∙ sound.own l d is in
      let yes : (x.link.number == l.number) ≡ true = eq-eqb x.link.number l.number linked in
      absurd cc

  pub others : (l : Link) (d : Incoming) → in_progress l past ≡ Some d → (o : Option Incoming) → is_some_and o (λ x. x.link.number == l.number) ≡ false → IfSome o (IsPartOf past)
      → IfSome o (λ x. (x.number == d.number) ≡ false)
  others l d is None apart of = tt
  others l d is (Some x) apart of = other-part l d is x apart of (x.number == d.number) refl

  going-by : (l : Link) (d : Incoming) → Here l d ⊎ Before l d → is_complete d (e ∷ past) ≡ false
  unfolding Here Before
  going-by l d (inl h) =
      let last : is_some_and (in_transfer e) is_last_part ≡ false = going-not-last (in_transfer e) h.2 in
      let none : completes d e ≡ false = ap (λ b. is_some_and (if b then e.incoming else None) (λ x. x.number == d.number)) last in
      let before : is_complete d past ≡ false = fresh-part d (if-known (IsPartOf past) e.incoming d h.0 part) in
      rw (none, before) refl
  going-by l d (inr h) =
      let none : completes d e ≡ false = completes-not e d.number (others l d h.1 e.incoming h.0 part) in
      let before : is_complete d past ≡ false = sound.going l d h.1 in
      rw (none, before) refl

  fresh-others : (n : ℕ) → suc (length past) ≤ n → (o : Option Incoming) → IfSome o (IsPartOf past) → IfSome o (λ x. (x.number == n) ≡ false)
  fresh-others n above None of = tt
  fresh-others n above (Some x) of = ne_eqb x.number n (λ same. let lt = part-below x of in absurd (omega (arith, same, lt, above)))

  fresh-step : (d : Incoming) → suc (length past) ≤ d.number → is_complete d (e ∷ past) ≡ false
  fresh-step d above =
      let none : completes d e ≡ false = completes-not e d.number (fresh-others d.number above e.incoming part) in
      let before : is_complete d past ≡ false = sound.fresh d (omega (arith, above)) in
      rw (none, before) refl

  sound-step : AreSound (e ∷ past)
  sound-step = record {
    below = λ l d is. below-by l d (split l d is);
    own = λ l d is. own-by l d (split l d is);
    known = λ l d is. known-by l d (split l d is);
    going = λ l d is. going-by l d (split l d is);
    fresh = fresh-step;
  }

  -- ---- what is complete changes no more

  not-part : (d : Incoming) → is_complete d past ≡ true → (o : Option Incoming) → IfSome o (IsPartOf past) → is_some_and o (λ x. x.number == d.number) ≡ false
  not-part d done None of = refl
  not-part d done (Some x) of =
      ne_eqb x.number d.number (λ same.
      let open_still : is_complete x past ≡ false = fresh-part x of in
      let equal : is_complete x past ≡ is_complete d past = ap (λ n. list_any (λ (y : Event). is_some_and (completed_by y) (λ z. z.number == n)) past) same in
      absurd cc)

  pub payload-final : (d : Incoming) → is_complete d past ≡ true → payload d (e ∷ past) ≡ payload d past
  payload-final d done =
      let none : is_part d e ≡ false = not-part d done e.incoming part in
      ap (λ b. cond b (payload d past ++ part_payload (in_spoken e)) (payload d past)) none

pub judged-sound : (rules : RuleSet) (past : List Event) → AreJudged rules past → AreSound past
judged-sound rules [] are = record {
  below = λ l d is. absurd cc;
  own = λ l d is. absurd cc;
  known = λ l d is. absurd cc;
  going = λ l d is. absurd cc;
  fresh = λ d above. refl;
}
judged-sound rules (e ∷ past) are =
    sound-step e past (judged-number rules e past are) (judged-part rules e past are) (judged-sound rules past are.1)

-- the payload of a complete delivery is that which it had at its completion
pub complete-payload : (rules : RuleSet) (e : Event) (past : List Event) → AreJudged rules (e ∷ past) → (d : Incoming) → is_complete d past ≡ true
    → payload d (e ∷ past) ≡ payload d past
complete-payload rules e past are d done =
    payload-final e past (judged-number rules e past are) (judged-part rules e past are) (judged-sound rules past are.1) d done

payload-continued : (rules : RuleSet) (past : List Event) (rs : List Record) → AreJudged rules past → (d : Incoming) → is_complete d past ≡ true
    → payload d (continued rules past rs) ≡ payload d past
payload-continued rules past [] are d done = refl
payload-continued rules past (r ∷ rs) are d done =
    let now : AreJudged rules (judge rules past r ∷ past) = ((r, refl), are) in
    payload-continued rules (judge rules past r ∷ past) rs now d (complete-stays d (judge rules past r) past done)
    ∙ complete-payload rules (judge rules past r) past now d done

-- whatever is recorded later
pub payload-stays : (rules : RuleSet) (rs qs : List Record) (d : Incoming) → is_complete d (history rules rs) ≡ true
    → payload d (history rules (rs ++ qs)) ≡ payload d (history rules rs)
payload-stays rules rs qs d done =
    ap (payload d) (continued-append rules [] rs qs) ∙ payload-continued rules (history rules rs) qs (history-judged rules rs) d done

-- ---- a delivery that is gone never waits again

module _ (e : Event) (past : List Event) (number : e.number ≡ length past) (part : IfSome e.incoming (IsPartOf past)) (sound : AreSound past) (d : Incoming)
    (done : is_complete d past ≡ true) where
  pub not-again : completes d e ≡ false
  not-again = completes-not e d.number (apart e.incoming (not-part e past number part sound d done e.incoming part))
    where
      apart : (o : Option Incoming) → is_some_and o (λ x. x.number == d.number) ≡ false → IfSome o (λ x. (x.number == d.number) ≡ false)
      apart None is = tt
      apart (Some x) is = is

  and-none : (b : Bool) → b && false ≡ false
  and-none true = refl
  and-none false = refl

  pub lost-stays : always_had_consumer d past ≡ false → always_had_consumer d (e ∷ past) ≡ false
  lost-stays lost =
      ap (λ b. has_consumer (address_of d (e ∷ past)) (e ∷ past) && (b || always_had_consumer d past)) not-again
      ∙ (ap (λ b. has_consumer (address_of d (e ∷ past)) (e ∷ past) && b) lost ∙ and-none (has_consumer (address_of d (e ∷ past)) (e ∷ past)))

lost-continued : (rules : RuleSet) (past : List Event) (rs : List Record) → AreJudged rules past → (d : Incoming) → is_complete d past ≡ true
    → always_had_consumer d past ≡ false → always_had_consumer d (continued rules past rs) ≡ false
lost-continued rules past [] are d done lost = lost
lost-continued rules past (r ∷ rs) are d done lost =
    let e = judge rules past r in
    let now : AreJudged rules (e ∷ past) = ((r, refl), are) in
    lost-continued rules (e ∷ past) rs now d (complete-stays d e past done)
    (lost-stays e past (judged-number rules e past now) (judged-part rules e past now) (judged-sound rules past are) d done lost)

and-one : (b c : Bool) → b && c ≡ true → b ≡ true
and-one true c e = refl
and-one false c e = absurd cc

and-two : (b c : Bool) → b && c ≡ true → c ≡ true
and-two true c e = e
and-two false c e = absurd cc

not-yes : (b : Bool) → not b ≡ true → b ≡ false
not-yes true e = absurd cc
not-yes false e = refl

and-off : (b c : Bool) → c ≡ false → b && c ≡ false
and-off true c e = e
and-off false c e = refl

pub gone-for-good : (rules : RuleSet) (rs qs : List Record) (d : Incoming) → is_gone rules d (history rules rs) ≡ true
    → is_waiting rules d (history rules (rs ++ qs)) ≡ false
gone-for-good rules rs qs d gone =
    let past = history rules rs in
    let done : is_complete d past ≡ true = and-two (not (is_of_multicast rules d past)) _ (and-one _ (not (is_paired d past)) (and-one _ (not (always_had_consumer d past)) gone)) in
    let lost : always_had_consumer d past ≡ false = not-yes (always_had_consumer d past) (and-two _ _ gone) in
    let later : always_had_consumer d (history rules (rs ++ qs)) ≡ false =
    ap (always_had_consumer d) (continued-append rules [] rs qs) ∙ lost-continued rules past qs (history-judged rules rs) d done lost in
    and-off (is_unpaired rules d (history rules (rs ++ qs))) _ later
