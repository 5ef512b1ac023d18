-- What the law asks of deliveries from clients, answered by those that are kept.
use Rattle.std.proofs.Common.{◌≡◌, refl, sym, ap, ◌∙◌, ℕ, Bool, true, false, not, ◌&&◌, ◌||◌, List, Option, Some, None, option_map, if◌then◌else◌}
use Rattle.std.specs.Prelude.{nat_lt}
use Rattle.pairing_cert.specs.declared.note.Note.TheVariants as notes
use Rattle.capture_form.specs.Rules.{RuleSet}
use Rattle.trace_events.specs.Words.{is_some_and, where_passes}
use Rattle.trace_events.specs.Event.{Event, Incoming}
use Rattle.trace_events.specs.Link.{is_live}
use Rattle.trace_events.specs.Incoming.{address_of, payload, completion, completed_before, is_complete, is_aborted, is_settled, is_told, incoming_at}
use Rattle.trace_events.specs.Outgoing.{is_paired}
use Rattle.trace_events.specs.Waiting.{is_of_multicast, always_had_consumer, is_waiting, is_gone, is_undecided}
use Rattle.trace_events.specs.Settling.{is_closed}
use Rattle.trace_events.specs.Clauses.{first_broken}
use Rattle.trace_events.specs.Outcome.{may_be_told}
use Rattle.trace_events.specs.TransferClause.{to_carry}
use Rattle.trace_events.proofs.Judged.{AreJudged}
use Rattle.state_incoming.specs.Held.{says_arriving, says_waiting, says_gone, says_paired, Held, held, is_held, held_at, may_go, may_tell, comes_before}
use Rattle.state_incoming.proofs.FateSteps.{fate_by, complete-fate, waiting-fate, gone-fate, paired-fate}
use Rattle.state_incoming.proofs.HeldSteps.{paired-complete}

-- ---- one that is kept

pub record IsHeldOf (rules : RuleSet) (n : ℕ) (past : List Event) (x : Held) : Type 0 where
  pub at : incoming_at n past ≡ Some x.delivery
  pub is : held rules past x.delivery ≡ x
  pub kept : is_held rules past x.delivery ≡ true

pub held-of : (rules : RuleSet) (n : ℕ) (past : List Event) (x : Held) → held_at rules n past ≡ Some x → IsHeldOf rules n past x
held-of rules n past x found = by (incoming_at n past) refl found
  where
    same_some : (a b : Held) → Some a ≡ Some b → a ≡ b
    same_some a b is = cc

    kept : (d : Incoming) → incoming_at n past ≡ Some d → (b : Bool) → is_held rules past d ≡ b → option_map (held rules past) (if b then Some d else None) ≡ Some x → IsHeldOf rules n past x
    kept d at true is found =
        let one : held rules past d ≡ x = same_some (held rules past d) x found in
        let same : d ≡ x.delivery = ap (λ (y : Held). y.delivery) one in
        record { at = at ∙ ap Some same; is = sym (ap (held rules past) same) ∙ one; kept = sym (ap (is_held rules past) same) ∙ is }
    kept d at false is found = absurd cc

    by : (o : Option Incoming) → incoming_at n past ≡ o → option_map (held rules past) (where_passes (is_held rules past) o) ≡ Some x → IsHeldOf rules n past x
    by None at found = absurd cc
    by (Some d) at found = kept d at (is_held rules past d) refl found

module _ (rules : RuleSet) (n : ℕ) (past : List Event) (x : Held) (h : IsHeldOf rules n past x) where
  pub held-address : address_of x.delivery past ≡ x.address
  held-address = ap (λ (y : Held). y.address) h.is

  pub held-payload : payload x.delivery past ≡ x.payload
  held-payload = ap (λ (y : Held). y.payload) h.is

  pub held-completion : completion x.delivery past ≡ x.completion
  held-completion = ap (λ (y : Held). y.completion) h.is

  pub held-closed : is_closed past x.delivery ≡ x.is_closed
  held-closed = ap (λ (y : Held). y.is_closed) h.is

  pub held-undecided : is_undecided rules x.delivery past ≡ x.is_undecided
  held-undecided = ap (λ (y : Held). y.is_undecided) h.is

  pub held-complete : is_complete x.delivery past ≡ not (says_arriving x.fate)
  held-complete = complete-fate rules x.delivery past ∙ ap (λ (y : Held). not (says_arriving y.fate)) h.is

  pub held-waiting : is_waiting rules x.delivery past ≡ says_waiting x.fate
  held-waiting = waiting-fate rules x.delivery past ∙ ap (λ (y : Held). says_waiting y.fate) h.is

  pub held-gone : is_gone rules x.delivery past ≡ says_gone x.fate
  held-gone = gone-fate rules x.delivery past ∙ ap (λ (y : Held). says_gone y.fate) h.is

  -- of anycast, in a lawful capture
  pub held-paired : AreJudged rules past → first_broken rules past ≡ None → is_of_multicast rules x.delivery past ≡ false → is_paired x.delivery past ≡ says_paired x.fate
  held-paired are lawful anycast =
      paired-fate rules x.delivery past anycast (paired-complete rules past are lawful x.delivery) ∙ ap (λ (y : Held). says_paired y.fate) h.is

-- of two that are kept
pub held-before : (rules : RuleSet) (n m : ℕ) (past : List Event) (x y : Held) → IsHeldOf rules n past x → IsHeldOf rules m past y
    → completed_before x.delivery y.delivery past ≡ comes_before x y
held-before rules n m past x y hx hy =
    ap (λ (o : Option ℕ). is_some_and o (λ a. is_some_and (completion y.delivery past) (λ b. nat_lt a b))) (held-completion rules n past x hx)
    ∙ ap (λ (o : Option ℕ). is_some_and x.completion (λ a. is_some_and o (λ b. nat_lt a b))) (held-completion rules m past y hy)

-- ---- which of all are kept

-- a test of the law that passes none but what is kept is a test on what is kept
test-kept : (rules : RuleSet) (past : List Event) (law : Incoming → Bool) (test : Held → Bool) → ((d : Incoming) → law d ≡ is_held rules past d && test (held rules past d)) → (o : Option Incoming)
    → where_passes law o ≡ option_map (λ (x : Held). x.delivery) (where_passes test (option_map (held rules past) (where_passes (is_held rules past) o)))
test-kept rules past law test same None = refl
test-kept rules past law test same (Some d) = ap (λ b. if b then Some d else None) (same d) ∙ by (is_held rules past d) (test (held rules past d)) refl
  where
    by : (k t : Bool) → test (held rules past d) ≡ t → (if k && t then Some d else None) ≡ option_map (λ (x : Held). x.delivery) (where_passes test (option_map (held rules past) (if k then Some d else None)))
    by true true is = sym (ap (λ b. option_map (λ (x : Held). x.delivery) (if b then Some (held rules past d) else None)) is)
    by true false is = sym (ap (λ b. option_map (λ (x : Held). x.delivery) (if b then Some (held rules past d) else None)) is)
    by false t is = refl

carry-bits : (c m p a closed aborted live : Bool) → c && not ((not m && c && not p) && not a)
    ≡ (if c then not (((not m && c && not p) && not a) && closed) else not aborted && live) && (not (says_arriving (fate_by c m p a)) && not (says_gone (fate_by c m p a)))
carry-bits false m p a closed true live = refl
carry-bits false m p a closed false true = refl
carry-bits false m p a closed false false = refl
carry-bits true true p a closed aborted live = refl
carry-bits true false true a closed aborted live = refl
carry-bits true false false true closed aborted live = refl
carry-bits true false false false true aborted live = refl
carry-bits true false false false false aborted live = refl

-- what may go to consumers is kept, complete and not gone
pub to_carry-held : (rules : RuleSet) (n : ℕ) (past : List Event)
    → to_carry rules (notes.Pair n) past ≡ option_map (λ (x : Held). x.delivery) (where_passes may_go (held_at rules n past))
to_carry-held rules n past =
    test-kept rules past (λ d. is_complete d past && not (is_gone rules d past)) may_go
    (λ d. carry-bits (is_complete d past) (is_of_multicast rules d past) (is_paired d past) (always_had_consumer d past) (is_closed past d) (is_aborted d past) (is_live past d.link)) (incoming_at n past)

closed-off : (b c : Bool) → false ≡ b && (not c && false)
closed-off true true = refl
closed-off true false = refl
closed-off false c = refl

off : (b : Bool) → false ≡ b && false
off true = refl
off false = refl

told-bits : (c m p a settled told live aborted : Bool) → c && not settled && not told && live
    ≡ (if c then not (((not m && c && not p) && not a) && (told || settled || not live)) else not aborted && live) && (not (says_arriving (fate_by c m p a)) && not (told || settled || not live))
told-bits false m p a settled told live true = refl
told-bits false m p a settled told true false = refl
told-bits false m p a settled told false false = refl
told-bits true true p a true true live aborted = refl
told-bits true false p a true true live aborted = closed-off (not ((not p && not a) && true)) (says_arriving (fate_by true false p a))
told-bits true true p a true false live aborted = refl
told-bits true false p a true false live aborted = closed-off (not ((not p && not a) && true)) (says_arriving (fate_by true false p a))
told-bits true true p a false true live aborted = refl
told-bits true false p a false true live aborted = closed-off (not ((not p && not a) && true)) (says_arriving (fate_by true false p a))
told-bits true true p a false false false aborted = refl
told-bits true false true a false false false aborted = refl
told-bits true false false true false false false aborted = refl
told-bits true false false false false false false aborted = refl
told-bits true true p a false false true aborted = refl
told-bits true false true a false false true aborted = refl
told-bits true false false true false false true aborted = refl
told-bits true false false false false false true aborted = refl

-- what may be told is kept, complete and not closed
pub may_be_told-held : (rules : RuleSet) (n : ℕ) (past : List Event)
    → where_passes (λ d. may_be_told d past) (incoming_at n past) ≡ option_map (λ (x : Held). x.delivery) (where_passes may_tell (held_at rules n past))
may_be_told-held rules n past =
    test-kept rules past (λ d. may_be_told d past) may_tell
    (λ d. told-bits (is_complete d past) (is_of_multicast rules d past) (is_paired d past) (always_had_consumer d past) (is_settled d past) (is_told d past) (is_live past d.link) (is_aborted d past)) (incoming_at n past)

open-bits : (c m p a settled told live aborted : Bool)
    → live && not aborted && (not c || (not m && c && not p) && a || not (settled || told))
    ≡ (if c then not (((not m && c && not p) && not a) && (told || settled || not live)) else not aborted && live)
    && (live && not aborted && (not c || (not m && c && not p) && a || not (settled || told)))
open-bits false m p a settled told true true = refl
open-bits false m p a settled told true false = refl
open-bits false m p a settled told false true = refl
open-bits false m p a settled told false false = refl
open-bits true m p a settled told false aborted = off (not (((not m && true && not p) && not a) && (told || settled || true)))
open-bits true m p a settled told true true = off (not (((not m && true && not p) && not a) && (told || settled || false)))
open-bits true true p a settled told true false = refl
open-bits true false true a settled told true false = refl
open-bits true false false true settled told true false = refl
open-bits true false false false true true true false = refl
open-bits true false false false true false true false = refl
open-bits true false false false false true true false = refl
open-bits true false false false false false true false = refl

-- what is undecided is kept
pub is_undecided-held : (rules : RuleSet) (n : ℕ) (past : List Event)
    → where_passes (λ d. is_undecided rules d past) (incoming_at n past) ≡ option_map (λ (x : Held). x.delivery) (where_passes (λ (x : Held). x.is_undecided) (held_at rules n past))
is_undecided-held rules n past =
    test-kept rules past (λ d. is_undecided rules d past) (λ (x : Held). x.is_undecided)
    (λ d. open-bits (is_complete d past) (is_of_multicast rules d past) (is_paired d past) (always_had_consumer d past) (is_settled d past) (is_told d past) (is_live past d.link) (is_aborted d past)) (incoming_at n past)

implied : (u k : Bool) → u ≡ k && u → u ≡ true → k ≡ true
implied true true same is = refl
implied true false same is = let never : true ≡ false = same in absurd cc
implied false k same is = absurd cc

waiting-bits : (c m p a closed : Bool) → (not m && c && not p) && a ≡ true → (if c then not (((not m && c && not p) && not a) && closed) else false) ≡ true
waiting-bits false true p a closed is = absurd cc
waiting-bits false false p a closed is = absurd cc
waiting-bits true true p a closed is = absurd cc
waiting-bits true false true a closed is = absurd cc
waiting-bits true false false true closed is = refl
waiting-bits true false false false closed is = absurd cc

complete-only : (c k other : Bool) → (if c then k else false) ≡ true → (if c then k else other) ≡ true
complete-only true k other is = is
complete-only false k other is = absurd cc

module _ (rules : RuleSet) (past : List Event) (d : Incoming) where
  pub undecided-kept : is_undecided rules d past ≡ true → is_held rules past d ≡ true
  undecided-kept =
      implied (is_undecided rules d past) (is_held rules past d)
      (open-bits (is_complete d past) (is_of_multicast rules d past) (is_paired d past) (always_had_consumer d past) (is_settled d past) (is_told d past) (is_live past d.link) (is_aborted d past))

  pub waiting-kept : is_waiting rules d past ≡ true → is_held rules past d ≡ true
  waiting-kept is =
      complete-only (is_complete d past) _ (not (is_aborted d past) && is_live past d.link)
      (waiting-bits (is_complete d past) (is_of_multicast rules d past) (is_paired d past) (always_had_consumer d past) (is_closed past d) is)
