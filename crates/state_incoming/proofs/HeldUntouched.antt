-- A delivery that an event doesn't touch stays as it was.
use Rattle.std.proofs.Common.{◌≡◌, refl, ap, ◌∙◌, ℕ, Bool, true, false, ◌&&◌, ◌||◌, not, List, ◌++◌, Option, Some, None, if◌then◌else◌, ◌==◌}
use Rattle.amqp_perf.specs.Meaning.{TransferFields, flag}
use Rattle.capture_form.specs.Rules.{RuleSet}
use Rattle.trace_events.specs.Words.{is_number, is_some_and}
use Rattle.trace_events.specs.Event.{Event, Incoming}
use Rattle.trace_events.specs.Said.{in_spoken, in_transfer}
use Rattle.trace_events.specs.Ends.{ends_link}
use Rattle.trace_events.specs.Link.{is_anonymous}
use Rattle.trace_events.specs.Incoming.{is_part, is_last_part, completes, settles_part, settles_id, part_payload, aborts}
use Rattle.trace_events.specs.Work.{closes_incoming}
use Rattle.trace_events.specs.Queue.{pairs}
use Rattle.state_incoming.specs.Held.{Held, address_behind, stays_with, stays, moved, closed_next, undecided_next, stands_open, fate_completed, fate_next, held_next, says_arriving, says_gone, says_waiting}
use Rattle.state_incoming.specs.HeldTouched.{is_touched, is_kept}
use Rattle.state_incoming.specs.declared.held.Fate.{Fate}
use Rattle.state_incoming.specs.declared.held.Fate.TheVariants.{Arriving, Waiting, Gone, Paired, Copied}

or_none : (a b : Bool) → a || b ≡ false → (a ≡ false) × (b ≡ false)
or_none false b is = (refl, is)
or_none true b is = absurd cc

-- what is no part completes nothing, and neither settles nor gives up
and_first_false : (a b : Bool) → a ≡ false → a && b ≡ false
and_first_false false b is = refl
and_first_false true b is = absurd cc

pub completes_none : (e : Event) (d : Incoming) (o : Option Incoming) → e.incoming ≡ o → is_some_and o (λ (x : Incoming). x.number == d.number) ≡ false → completes d e ≡ false
completes_none e d o is off = by (is_some_and (in_transfer e) is_last_part)
  where
    by : (b : Bool) → is_some_and (if b then e.incoming else None) (λ (x : Incoming). x.number == d.number) ≡ false
    by false = refl
    by true = ap (λ p. is_some_and p (λ (x : Incoming). x.number == d.number)) is ∙ off

record Apart (e : Event) (d : Incoming) (u : Bool) : Type 0 where
  part : is_part d e ≡ false
  completes_it : completes d e ≡ false
  told : is_number e.told d.number ≡ false
  pairs_it : pairs d e ≡ false
  shut : u && (settles_id d e || ends_link d.link e) ≡ false
  settles : settles_part d e ≡ false
  gives : aborts d e ≡ false

apart : (e : Event) (d : Incoming) (u w : Bool) → is_part d e || is_number e.told d.number || pairs d e || u && (settles_id d e || ends_link d.link e) || w ≡ false → Apart e d u × (w ≡ false)
apart e d u w is =
    let a = or_none (is_part d e || is_number e.told d.number || pairs d e || u && (settles_id d e || ends_link d.link e)) w is in
    let b = or_none (is_part d e || is_number e.told d.number || pairs d e) (u && (settles_id d e || ends_link d.link e)) a.0 in
    let f = or_none (is_part d e || is_number e.told d.number) (pairs d e) b.0 in
    let g = or_none (is_part d e) (is_number e.told d.number) f.0 in (
      record {
        part = g.0;
        completes_it = completes_none e d e.incoming refl g.0;
        told = g.1;
        pairs_it = f.1;
        shut = b.1;
        settles = and_first_false (is_part d e) (is_some_and (in_transfer e) (λ (fields : TransferFields). flag fields.settled)) g.0;
        gives = and_first_false (is_part d e) (is_some_and (in_transfer e) (λ (fields : TransferFields). flag fields.aborted)) g.0;
      },
      a.1,
    )

fate_same : (rules : RuleSet) (e : Event) (address : List ℕ) (has : Bool) (d : Incoming) (u : Bool) (f : Fate) → Apart e d u → says_waiting f && not has ≡ false → fate_next rules e address has d f ≡ f
fate_same rules e address has d u Arriving is w = ap (λ b. if b then fate_completed rules address has else Arriving) is.completes_it
fate_same rules e address true d u Waiting is w = ap (λ b. if b then Paired else Waiting) is.pairs_it
fate_same rules e address false d u Waiting is w = absurd cc
fate_same rules e address has d u Gone is w = refl
fate_same rules e address has d u Paired is w = refl
fate_same rules e address has d u Copied is w = refl

-- of one that is undecided, or complete with nothing more to be told
stays_same : (e : Event) (d : Incoming) (closed u : Bool) (f : Fate) → Apart e d u → not (says_gone f && closed) ≡ true → u || not (says_arriving f) && closed ≡ true → stays_with e d closed f ≡ true
stays_same e d closed true Arriving is kept opens = ap (λ b. not b && not (ends_link d.link e)) is.gives ∙ ap not (or_none (settles_id d e) (ends_link d.link e) is.shut).1
stays_same e d closed false Arriving is kept opens = absurd cc
stays_same e d closed u Gone is kept opens = kept
stays_same e d closed u Waiting is kept opens = refl
stays_same e d closed u Paired is kept opens = refl
stays_same e d closed u Copied is kept opens = refl

last_true : (b c : Bool) → b && c ≡ true → c ≡ true
last_true true c is = is
last_true false c is = absurd cc

closed_same : (e : Event) (d : Incoming) (a closed u : Bool) → Apart e d u → u || not a && closed ≡ true → closed || closes_incoming e d ≡ closed
closed_same e d a true u is opens = refl
closed_same e d a false true is opens =
    let shut = or_none (settles_id d e) (ends_link d.link e) is.shut in
    rw (is.told, is.settles, shut.0, shut.1) refl
closed_same e d a false false is opens = let never : false ≡ true = last_true (not a) false opens in absurd cc

undecided_same : (e : Event) (d : Incoming) (f : Fate) (closed u : Bool) → Apart e d u → not u || stands_open f closed ≡ true
    → not (ends_link d.link e) && not (aborts d e) && u && stands_open f closed ≡ u
undecided_same e d f closed true is opens =
    let shut = or_none (settles_id d e) (ends_link d.link e) is.shut in
    ap (λ b. not b && not (aborts d e) && true && stands_open f closed) shut.1 ∙ (ap (λ b. not b && true && stands_open f closed) is.gives ∙ opens)
undecided_same e d f closed false is opens = off (not (ends_link d.link e) && not (aborts d e)) (stands_open f closed)
  where
    off : (b c : Bool) → b && false && c ≡ false
    off true c = refl
    off false c = refl

abbrev made : Incoming → List ℕ → List ℕ → Option ℕ → Bool → Bool → Fate → Held
made d a p c o u f = record { delivery = d; address = a; payload = p; completion = c; is_closed = o; is_undecided = u; fate = f }

made-same : (d : Incoming) (a a' p p' : List ℕ) (c c' : Option ℕ) (o o' u u' : Bool) (f f' : Fate) → a ≡ a' → p ≡ p' → c ≡ c' → o ≡ o' → u ≡ u' → f ≡ f'
    → made d a p c o u f ≡ made d a' p' c' o' u' f'
made-same d a a' p p' c c' o o' u u' f f' b q r v w x = rw (b, q, r, v, w, x) refl

-- what completes nothing tells no address
pub address_same : (e : Event) (to : List ℕ) (x : Held) → completes x.delivery e ≡ false → address_behind e to x ≡ x.address
address_same e to x off = ap (λ b. if is_anonymous x.delivery.link && (says_arriving x.fate && b) then to else x.address) off ∙ by (is_anonymous x.delivery.link) (says_arriving x.fate)
  where
    by : (a b : Bool) → (if a && (b && false) then to else x.address) ≡ x.address
    by true true = refl
    by true false = refl
    by false b = refl

and_both : (a b : Bool) → a && b ≡ true → (a ≡ true) × (b ≡ true)
and_both true b is = (refl, is)
and_both false b is = absurd cc

pub untouched : (rules : RuleSet) (e : Event) (to : List ℕ) (has : Bool) (x : Held) → is_touched e has x ≡ false → is_kept x ≡ true → held_next rules e to has x ≡ Some x
untouched rules e to has x off kept =
    let is = apart e x.delivery x.is_undecided (says_waiting x.fate && not has) off in
    let k = and_both (not (says_gone x.fate && x.is_closed) && (x.is_undecided || not (says_arriving x.fate) && x.is_closed)) (not x.is_undecided || stands_open x.fate x.is_closed) kept in
    let m = and_both (not (says_gone x.fate && x.is_closed)) (x.is_undecided || not (says_arriving x.fate) && x.is_closed) k.0 in
    let closed = closed_same e x.delivery (says_arriving x.fate) x.is_closed x.is_undecided is.0 m.1 in
    let fate = fate_same rules e (address_behind e to x) has x.delivery x.is_undecided x.fate is.0 is.1 in
    let same : moved rules e to has x ≡ x =
    made-same x.delivery _ _ _ _ _ _ _ _ _ _ _ _
    (address_same e to x is.0.completes_it)
    (ap (λ b. if b then x.payload ++ part_payload (in_spoken e) else x.payload) is.0.part)
    (ap (λ b. if b then Some e.number else x.completion) is.0.completes_it)
    closed
    (ap (λ f. undecided_next e x.delivery f (closed_next e x.delivery x.is_closed) x.is_undecided) fate
    ∙ (ap (λ c. undecided_next e x.delivery x.fate c x.is_undecided) closed ∙ undecided_same e x.delivery x.fate x.is_closed x.is_undecided is.0 k.1))
    fate in
    ap (λ y. if stays e y then Some y else None) same
    ∙ ap (λ b. if b then Some x else None) (stays_same e x.delivery x.is_closed x.is_undecided x.fate is.0 m.0 m.1)
