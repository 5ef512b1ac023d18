-- What the law asks of a delivery that the table can tell of, by its entry.
use Rattle.std.proofs.Common.{◌≡◌, refl, sym, ap, ◌∙◌, ℕ, if◌then◌else◌, Bool, true, false, List, Option, Some, None, IfSome, is_some, option_map, option_and_then, eqb-true, ◌==◌}
use Rattle.pairing_cert.specs.declared.note.Note.{Note}
use Rattle.pairing_cert.specs.declared.note.Note.TheVariants as notes
use Rattle.capture_form.specs.Rules.{RuleSet}
use Rattle.trace_events.specs.Event.{Event, Incoming}
use Rattle.trace_events.specs.Incoming.{address_of, payload, completed_before, is_complete, incoming_at, incoming_deliveries}
use Rattle.trace_events.specs.Settling.{is_closed}
use Rattle.trace_events.specs.Waiting.{is_gone}
use Rattle.trace_events.specs.TransferClause.{to_carry}
use Rattle.state_tables.specs.LetGo.{names_let_go}
use Rattle.state_incoming.specs.Held.{Held, may_go}
use Rattle.state_incoming.specs.HeldTables.{AreHeld, held_in}
use Rattle.state_incoming.specs.EntryAnswers.{Knows, delivery_in, has_entry, says_complete, says_closed, has_gone, address_in, payload_of, is_before, to_go, to_go_by}
use Rattle.state_incoming.specs.declared.deliveries.Deliveries.{Deliveries}
use Rattle.state_incoming.proofs.HeldAnswers.{IsHeldOf, held-of, held-address, held-payload, held-closed, held-complete, held-gone, held-before, to_carry-held}
use Rattle.state_incoming.proofs.GroupAnswers.{found-passes}
use Rattle.state_incoming.proofs.OverKnown.{table-law, table-there}

-- the entry of a delivery that the table can tell of
pub record IsKnownAs (rules : RuleSet) (past : List Event) (table : Deliveries) (d : Incoming) : Type 0 where
  pub entry : Held
  pub is : held_in table d.number ≡ Some entry
  pub same : entry.delivery ≡ d
  pub of : IsHeldOf rules d.number past entry

module _ (rules : RuleSet) (past : List Event) (table : Deliveries) (are : AreHeld rules table past) where
  pub known-as : (d : Incoming) → Knows table d → IsKnownAs rules past table d
  known-as d knows = by (held_in table d.number) refl knows
    where
      by : (o : Option Held) → held_in table d.number ≡ o → option_map (λ (x : Held). x.delivery) o ≡ Some d → IsKnownAs rules past table d
      by None is knows = absurd cc
      by (Some x) is knows = record { entry = x; is = is; same = cc; of = held-of rules d.number past x (table-law rules past table are d.number x is) }

  -- it is one of the capture
  pub knows-at : (d : Incoming) → Knows table d → incoming_at d.number past ≡ Some d
  knows-at d knows = let k = known-as d knows in k.of.at ∙ ap Some k.same

  pub known-complete : (d : Incoming) → Knows table d → says_complete (held_in table d.number) ≡ is_complete d past
  known-complete d knows =
      let k = known-as d knows in
      ap says_complete k.is ∙ (sym (held-complete rules d.number past k.entry k.of) ∙ ap (λ x. is_complete x past) k.same)

  pub known-closed : (d : Incoming) → Knows table d → says_closed (held_in table d.number) ≡ is_closed past d
  known-closed d knows =
      let k = known-as d knows in
      ap says_closed k.is ∙ (sym (held-closed rules d.number past k.entry k.of) ∙ ap (is_closed past) k.same)

  pub known-gone : (d : Incoming) → Knows table d → has_gone (held_in table d.number) ≡ is_gone rules d past
  known-gone d knows =
      let k = known-as d knows in
      ap has_gone k.is ∙ (sym (held-gone rules d.number past k.entry k.of) ∙ ap (λ x. is_gone rules x past) k.same)

  pub known-address : (d : Incoming) → Knows table d → address_in (held_in table d.number) ≡ address_of d past
  known-address d knows =
      let k = known-as d knows in
      ap address_in k.is ∙ (sym (held-address rules d.number past k.entry k.of) ∙ ap (λ x. address_of x past) k.same)

  pub known-payload : (d : Incoming) → Knows table d → payload_of (held_in table d.number) ≡ payload d past
  known-payload d knows =
      let k = known-as d knows in
      ap payload_of k.is ∙ (sym (held-payload rules d.number past k.entry k.of) ∙ ap (λ x. payload x past) k.same)

  pub known-before : (d other : Incoming) → Knows table d → Knows table other
      → is_before (held_in table d.number) (held_in table other.number) ≡ completed_before d other past
  known-before d other first second =
      let k = known-as d first in
      let m = known-as other second in
      ap (λ o. is_before o (held_in table other.number)) k.is
      ∙ (ap (is_before (Some k.entry)) m.is
      ∙ (sym (held-before rules d.number other.number past k.entry m.entry k.of m.of)
      ∙ (ap (λ x. completed_before x m.entry.delivery past) k.same ∙ ap (λ x. completed_before d x past) m.same)))

  -- the delivery of a number that the table has
  pub known-at : (n : ℕ) → has_entry table n ≡ true → delivery_in table n ≡ incoming_at n past
  known-at n has = by (held_in table n) refl has
    where
      by : (o : Option Held) → held_in table n ≡ o → is_some o ≡ true → option_map (λ (x : Held). x.delivery) (held_in table n) ≡ incoming_at n past
      by None is has = absurd cc
      by (Some x) is has = ap (option_map (λ (x : Held). x.delivery)) is ∙ sym (held-of rules n past x (table-law rules past table are n x is)).at

  number-of : (n : ℕ) (x : Held) → held_in table n ≡ Some x → x.delivery.number ≡ n
  number-of n x is =
      eqb-true x.delivery.number n
      (found-passes (λ (d : Incoming). d.number == n) (incoming_deliveries past) x.delivery (held-of rules n past x (table-law rules past table are n x is)).at)

  knows-entry : (n : ℕ) (x : Held) → held_in table n ≡ Some x → Knows table x.delivery
  knows-entry n x is = ap (delivery_in table) (number-of n x is) ∙ ap (option_map (λ (y : Held). y.delivery)) is

  -- what it gives it can tell of
  pub knows-given : (n : ℕ) → IfSome (delivery_in table n) (Knows table)
  knows-given n = by (held_in table n) refl
    where
      by : (o : Option Held) → held_in table n ≡ o → IfSome (option_map (λ (x : Held). x.delivery) o) (Knows table)
      by None is = tt
      by (Some x) is = knows-entry n x is

  pub knows-of : (o : Option ℕ) → IfSome (option_and_then (delivery_in table) o) (Knows table)
  knows-of None = tt
  knows-of (Some n) = knows-given n

  knows-passing : (n : ℕ) → IfSome (to_go (held_in table n)) (Knows table)
  knows-passing n = by (held_in table n) refl
    where
      pass : (x : Held) → held_in table n ≡ Some x → (b : Bool) → IfSome (option_map (λ (y : Held). y.delivery) (if b then Some x else None)) (Knows table)
      pass x is true = knows-entry n x is
      pass x is false = tt

      by : (o : Option Held) → held_in table n ≡ o → IfSome (to_go o) (Knows table)
      by None is = tt
      by (Some x) is = pass x is (may_go x)

  pub knows-carried : (note : Note) → IfSome (to_go_by table note) (Knows table)
  knows-carried (notes.Pair n) = knows-passing n
  knows-carried notes.None = tt
  knows-carried (notes.Told why) = tt

  -- what it gives, the law gives
  same-given : (law given : Option Incoming) → law ≡ given → IfSome given (λ d. law ≡ Some d)
  same-given law None is = tt
  same-given law (Some d) is = is

  pub given-carried : (note : Note) → IfSome (to_go_by table note) (λ d. to_carry rules note past ≡ Some d)
  given-carried (notes.Pair n) = by (held_in table n) refl
    where
      by : (o : Option Held) → held_in table n ≡ o → IfSome (to_go o) (λ d. to_carry rules (notes.Pair n) past ≡ Some d)
      by None is = tt
      by (Some x) is = same-given (to_carry rules (notes.Pair n) past) (to_go (Some x)) (to_carry-held rules n past ∙ ap to_go (table-law rules past table are n x is))
  given-carried notes.None = tt
  given-carried (notes.Told why) = tt

  -- of one that was not let go
  pub known-carried : (note : Note) → names_let_go table.let_go.items note ≡ false → to_go_by table note ≡ to_carry rules note past
  known-carried (notes.Pair n) there = ap to_go (table-there rules past table are n there) ∙ sym (to_carry-held rules n past)
  known-carried notes.None there = refl
  known-carried (notes.Told why) there = refl
