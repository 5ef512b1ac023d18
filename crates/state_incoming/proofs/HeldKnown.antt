-- The entry of a delivery from a client, followed through a lawful capture.
use Rattle.std.proofs.Common.{◌≡◌, refl, sym, ap, subst, ◌∙◌, ◌<◌, Bool, ◌==◌, List, ◌∷◌, length, Option, Some, None, IfSome, option_map, option_and_then, if◌then◌else◌, arith, not, ◌&&◌, ℕ, true, false}
use Rattle.capture_form.specs.Rules.{RuleSet}
use Rattle.trace_events.specs.Words.{is_some_and, where_passes}
use Rattle.trace_events.specs.Event.{Event, Incoming}
use Rattle.trace_events.specs.Address.{has_consumer}
use Rattle.trace_events.specs.Incoming.{address_of, incoming_begun, incoming_at}
use Rattle.trace_events.specs.History.{history}
use Rattle.trace_events.specs.Incoming.{payload, completion, completed_before, is_complete}
use Rattle.trace_events.specs.Outgoing.{is_paired}
use Rattle.trace_events.specs.Settling.{is_closed}
use Rattle.trace_events.specs.Waiting.{is_of_multicast, is_waiting, is_gone, is_undecided}
use Rattle.trace_events.specs.Clauses.{first_broken}
use Rattle.trace_events.specs.Outcome.{may_be_told}
use Rattle.trace_events.specs.TransferClause.{to_carry}
use Rattle.pairing_cert.specs.declared.note.Note.TheVariants as notes
use Rattle.capture_form.specs.declared.records.Record.{Record}
use Rattle.trace_events.proofs.Judged.{AreJudged, judged-number, history-judged}
use Rattle.trace_events.proofs.Links.{passing}
use Rattle.trace_events.proofs.Incomings.{judged-part, judged-sound, at-step}
use Rattle.trace_events.proofs.OneConsumer.{incoming_at-is}
use Rattle.state_tables.specs.Addressed.{IsAddressed}
use Rattle.state_incoming.specs.Held.{IsEntry, Held, held, is_held, held_at, address_behind, held_next, held_on, unbegun, held_begun, is_begun_served, HeldFollows, HeldBegins}
use Rattle.state_incoming.specs.Held.{says_arriving, says_waiting, says_gone, says_paired, may_go, may_tell, comes_before}
use Rattle.state_incoming.specs.declared.held.Fate.{Fate}
use Rattle.state_incoming.proofs.HeldSteps.{older, held-behind}
use Rattle.state_incoming.proofs.HeldAnswers.{IsHeldOf, held-of, held-address, held-payload, held-completion, held-closed, held-undecided, held-complete, held-waiting, held-gone, held-paired, held-before, may_be_told-held, to_carry-held}

module _ (rules : RuleSet) (e : Event) (past : List Event) (are : AreJudged rules (e ∷ past)) where
  -- before the event nothing has its number
  pub unheld : held_at rules e.number past ≡ None
  unheld = by (incoming_at e.number past) refl (incoming_at-is rules past e.number are.1)
    where
      by : (o : Option Incoming) → incoming_at e.number past ≡ o → IfSome o (λ d. (e.number < length past) × (d.number ≡ e.number)) → held_at rules e.number past ≡ None
      by None none at = ap (λ o. option_map (held rules past) (where_passes (is_held rules past) o)) none
      by (Some d) is at = let lt = at.0 in let number = judged-number rules e past are in absurd (omega (arith, lt, number))

module _ (rules : RuleSet) (e : Event) (past : List Event) (are : AreJudged rules (e ∷ past)) (lawful : first_broken rules (e ∷ past) ≡ None)
    (to : List ℕ) (addressed : IsAddressed e past to) where
  abbrev law : List ℕ → Bool
  law address = has_consumer address (e ∷ past)

  -- one that began before
  pub held-after : (x : Held) → held_at rules x.delivery.number past ≡ Some x → held_at rules x.delivery.number (e ∷ past) ≡ held_on rules e to law x
  held-after x entry =
      let n = x.delivery.number in
      let found = held-of rules n past x entry in
      let at = subst (λ (o : Option Incoming). IfSome o (λ d. (n < length past) × (d.number ≡ n))) found.at (incoming_at-is rules past n are.1) in
      older rules e past are lawful to addressed n (at-step e past (judged-number rules e past are) (judged-part rules e past are) (judged-sound rules past are.1) n at.0)
      ∙ ap (option_and_then (held_on rules e to law)) entry

  abbrev new : Option Incoming → Option Held
  new o = option_and_then (λ d. held_next rules e to (is_some_and o (λ d. law (address_behind e to (unbegun d)))) (unbegun d)) o

  abbrev either : Option Incoming → Option Held
  either o = if is_some_and o (λ d. d.number == e.number) then new o else option_and_then (held_on rules e to law) (held_at rules e.number past)

  -- the one that the event begins has its number
  pub held-first : held_at rules e.number (e ∷ past) ≡ held_begun rules e to (is_begun_served e to law)
  held-first = held-behind rules e past are lawful to addressed e.number ∙ by (incoming_begun e) refl
    where
      by : (o : Option Incoming) → incoming_begun e ≡ o → either (incoming_begun e) ≡ new (incoming_begun e)
      by None none = ap either none ∙ (ap (option_and_then (held_on rules e to law)) (unheld rules e past are) ∙ sym (ap new none))
      by (Some d) begun =
          ap either begun
          ∙ (ap (λ b. if b then new (Some d) else option_and_then (held_on rules e to law) (held_at rules e.number past)) (passing (λ (x : Incoming). x.number == e.number) e.incoming d begun).1
          ∙ sym (ap new begun))

pub follows : (rules : RuleSet) (e : Event) (to : List ℕ) (has : Bool) (earlier : Held) (later : Option Held) → later ≡ held_next rules e to has earlier → HeldFollows rules e to has earlier later
follows rules e to has earlier later is = λ records r next entry addressed same.
    held-after rules e (history rules records) ((r, next.0), history-judged rules records) next.1 to addressed earlier entry ∙ (ap (λ b. held_next rules e to b earlier) (sym same) ∙ sym is)

pub begins : (rules : RuleSet) (e : Event) (to : List ℕ) (has : Bool) (later : Option Held) → later ≡ held_begun rules e to has → HeldBegins rules e to has later
begins rules e to has later is = λ records r next addressed same.
    held-first rules e (history rules records) ((r, next.0), history-judged rules records) next.1 to addressed ∙ (ap (held_begun rules e to) (sym same) ∙ sym is)

-- ---- what the law asks of an entry

abbrev made : Incoming → List ℕ → List ℕ → Option ℕ → Bool → Bool → Fate → Held
made d address payload completion closed undecided fate =
    record { delivery = d; address = address; payload = payload; completion = completion; is_closed = closed; is_undecided = undecided; fate = fate }

some-same : {A : Type 0} (x : A) (a b : Bool) → (if a then Some x else None) ≡ (if b then Some x else None) → a ≡ b
some-same x true true is = refl
some-same x false false is = refl
some-same x true false is = absurd cc
some-same x false true is = absurd cc

module _ (rules : RuleSet) (past : List Event) (d : Incoming) (a p : List ℕ) (c : Option ℕ) (o u : Bool) (f : Fate) (entry : held_at rules d.number past ≡ Some (made d a p c o u f)) where
  abbrev x : Held
  x = made d a p c o u f

  h : IsHeldOf rules d.number past x
  h = held-of rules d.number past x entry

  pub entry_address : a ≡ address_of d past
  entry_address = sym (held-address rules d.number past x h)

  pub entry_payload : p ≡ payload d past
  entry_payload = sym (held-payload rules d.number past x h)

  pub entry_completion : c ≡ completion d past
  entry_completion = sym (held-completion rules d.number past x h)

  pub entry_closed : o ≡ is_closed past d
  entry_closed = sym (held-closed rules d.number past x h)

  pub entry_undecided : u ≡ is_undecided rules d past
  entry_undecided = sym (held-undecided rules d.number past x h)

  pub entry_complete : not (says_arriving f) ≡ is_complete d past
  entry_complete = sym (held-complete rules d.number past x h)

  pub entry_waiting : says_waiting f ≡ is_waiting rules d past
  entry_waiting = sym (held-waiting rules d.number past x h)

  pub entry_gone : says_gone f ≡ is_gone rules d past
  entry_gone = sym (held-gone rules d.number past x h)

  pub entry_may_tell : not (says_arriving f) && not o ≡ may_be_told d past
  entry_may_tell =
      sym (some-same d (may_be_told d past) (may_tell x)
      (ap (where_passes (λ d. may_be_told d past)) (sym h.at) ∙ (may_be_told-held rules d.number past ∙ (ap (λ o. option_map (λ (y : Held). y.delivery) (where_passes may_tell o)) entry ∙ out (may_tell x)))))
    where
      out : (b : Bool) → option_map (λ (y : Held). y.delivery) (if b then Some x else None) ≡ (if b then Some d else None)
      out true = refl
      out false = refl

  pub entry_to_carry : (if not (says_arriving f) && not (says_gone f) then Some d else None) ≡ to_carry rules (notes.Pair d.number) past
  entry_to_carry = sym (to_carry-held rules d.number past ∙ (ap (λ o. option_map (λ (y : Held). y.delivery) (where_passes may_go o)) entry ∙ out (may_go x)))
    where
      out : (b : Bool) → option_map (λ (y : Held). y.delivery) (if b then Some x else None) ≡ (if b then Some d else None)
      out true = refl
      out false = refl

-- in a lawful one, of anycast
pub entry_paired : (rules : RuleSet) (records : List Record) (d : Incoming) (a p : List ℕ) (c : Option ℕ) (o u : Bool) (f : Fate) → held_at rules d.number (history rules records) ≡ Some (made d a p c o u f)
    → first_broken rules (history rules records) ≡ None → is_of_multicast rules d (history rules records) ≡ false → says_paired f ≡ is_paired d (history rules records)
entry_paired rules records d a p c o u f entry lawful anycast =
    let past = history rules records in
    let x = made d a p c o u f in
    sym (held-paired rules d.number past x (held-of rules d.number past x entry) (history-judged rules records) lawful anycast)

-- ---- the same, of an entry as a whole

module _ (rules : RuleSet) (past : List Event) (x : Held) (entry : IsEntry rules past x) where
  pub known_waiting : says_waiting x.fate ≡ is_waiting rules x.delivery past
  known_waiting = sym (held-waiting rules x.delivery.number past x (held-of rules x.delivery.number past x entry))

  pub known_gone : says_gone x.fate ≡ is_gone rules x.delivery past
  known_gone = sym (held-gone rules x.delivery.number past x (held-of rules x.delivery.number past x entry))

  pub known_complete : not (says_arriving x.fate) ≡ is_complete x.delivery past
  known_complete = sym (held-complete rules x.delivery.number past x (held-of rules x.delivery.number past x entry))

  pub known_to_carry : (if may_go x then Some x.delivery else None) ≡ to_carry rules (notes.Pair x.delivery.number) past
  known_to_carry = entry_to_carry rules past x.delivery x.address x.payload x.completion x.is_closed x.is_undecided x.fate entry

  pub known_may_tell : may_tell x ≡ may_be_told x.delivery past
  known_may_tell = entry_may_tell rules past x.delivery x.address x.payload x.completion x.is_closed x.is_undecided x.fate entry

module _ (rules : RuleSet) (records : List Record) (x : Held) (entry : IsEntry rules (history rules records) x) where
  pub known_paired : first_broken rules (history rules records) ≡ None → is_of_multicast rules x.delivery (history rules records) ≡ false → says_paired x.fate ≡ is_paired x.delivery (history rules records)
  known_paired = entry_paired rules records x.delivery x.address x.payload x.completion x.is_closed x.is_undecided x.fate entry

-- of two
pub known_before : (rules : RuleSet) (past : List Event) (x y : Held) → IsEntry rules past x → IsEntry rules past y → comes_before x y ≡ completed_before x.delivery y.delivery past
known_before rules past x y first second =
    sym (held-before rules x.delivery.number y.delivery.number past x y (held-of rules x.delivery.number past x first) (held-of rules y.delivery.number past y second))
