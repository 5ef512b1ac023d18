-- The events so far, as a loop over them meets them, and how many deliveries they leave undecided.
use Rattle.std.proofs.Common.{◌≡◌, refl, sym, ap, subst, ◌∙◌, ℕ, suc, ◌+◌, ◌<◌, ◌≤◌, Bool, true, false, List, [], ◌∷◌, length, take, map, get_or, Option, Some, None, unwrap_or, if◌then◌else◌, ◌==◌, arith}
use Rattle.std.specs.Option.{option_map}
use Rattle.std.proofs.lemmas.List.{length-map, length-reverse}
use Rattle.std.proofs.lemmas.Bool.{eqb-true}
use Rattle.flow_counts.proofs.Newest.{reverse-map-next}
use Rattle.flow_counts.specs.Picks.{AddressEvent, Attached, Detached, Begun, Decided, Consumer, attached, begun, decided, consumer, balanced_rank}
use Rattle.address_table.specs.declared.table.Table.{Table}
use Rattle.address_table.specs.declared.history.AddressEvent as code
use Rattle.address_table.specs.Links.{consumer_of, undecided_on, IsCount}
use Rattle.address_table.specs.History.{address_event, events_of}

-- ---- the events so far

pub events_of-none : events_of [] ≡ []
unfolding events_of
events_of-none = refl

-- one event further
pub events_of-next : (events : List code.AddressEvent) (i : ℕ) (d : code.AddressEvent) → i < length events → events_of (take (i + 1) events) ≡ address_event (get_or events i d) ∷ events_of (take i events)
unfolding events_of
events_of-next events i d lt = reverse-map-next address_event events i d lt

pub events_of-length : (events : List code.AddressEvent) → length (events_of events) ≡ length events
unfolding events_of
events_of-length events = length-reverse (map address_event events) ∙ length-map events address_event

-- ---- undecided deliveries

-- one whose deliveries are all decided stays as it is
decided_none : (o : Option Consumer) → balanced_rank o ≡ 0 → option_map decided o ≡ o
decided_none None none = refl
decided_none (Some x) none = ap (λ (n : ℕ). Some (record x { undecided = n })) (omega (arith, none))

pub nothing_to_decide : (table : Table) (link : ℕ) (past : List AddressEvent) → undecided_on table link ≡ 0 → IsCount table past → IsCount table (Decided link ∷ past)
nothing_to_decide table link past none is = record {
  links = λ on. by on (on == link) refl;
  lists = is.lists;
}
  where
    by : (on : ℕ) (b : Bool) → (on == link) ≡ b → consumer_of table on ≡ (if b then option_map decided (consumer on past) else consumer on past)
    by on true same =
        let here : balanced_rank (consumer on past) ≡ 0 = ap balanced_rank (sym (is.links on)) ∙ ap (λ (k : ℕ). balanced_rank (consumer_of table k)) (eqb-true on link same) ∙ none in
        is.links on ∙ sym (decided_none (consumer on past) here)
    by on false other = is.links on

rank_by : (b : Bool) (o p : Option Consumer) (n : ℕ) → balanced_rank o ≤ n → balanced_rank p ≤ n → balanced_rank (if b then o else p) ≤ n
rank_by true o p n h k = h
rank_by false o p n h k = k

attached_rank : (o : Option Consumer) (address : List ℕ) (pre_settled : Bool) (n : ℕ) → balanced_rank o ≤ n → balanced_rank (Some (unwrap_or o (attached address pre_settled))) ≤ n
attached_rank None address pre_settled n h = omega arith
attached_rank (Some x) address pre_settled n h = h

begun_rank : (o : Option Consumer) (number n : ℕ) → balanced_rank o ≤ n → balanced_rank (option_map (begun number) o) ≤ suc n
begun_rank None number n h = omega arith
begun_rank (Some x) number n h = by x.is_pre_settled
  where
    by : (b : Bool) → (if b then x.undecided else x.undecided + 1) ≤ suc n
    by true = omega (arith, h)
    by false = omega (arith, h)

decided_rank : (o : Option Consumer) (n : ℕ) → balanced_rank o ≤ n → balanced_rank (option_map decided o) ≤ n
decided_rank None n h = h
decided_rank (Some x) n h = omega (arith, h)

-- no more are undecided than there were events
undecided_few : (link : ℕ) (past : List AddressEvent) → balanced_rank (consumer link past) ≤ length past
undecided_few link [] = omega arith
undecided_few link (Attached on address pre_settled ∷ past) =
    let h = undecided_few link past in
    rank_by (link == on) (Some (unwrap_or (consumer link past) (attached address pre_settled))) (consumer link past) (suc (length past))
    (omega (arith, attached_rank (consumer link past) address pre_settled (length past) h)) (omega (arith, h))
undecided_few link (Detached on ∷ past) = rank_by (link == on) None (consumer link past) (suc (length past)) (omega arith) (omega (arith, undecided_few link past))
undecided_few link (Begun on number ∷ past) =
    let h = undecided_few link past in
    rank_by (link == on) (option_map (begun number) (consumer link past)) (consumer link past) (suc (length past)) (begun_rank (consumer link past) number (length past) h) (omega (arith, h))
undecided_few link (Decided on ∷ past) =
    let h = undecided_few link past in
    rank_by (link == on) (option_map decided (consumer link past)) (consumer link past) (suc (length past)) (omega (arith, decided_rank (consumer link past) (length past) h)) (omega (arith, h))

pub few_undecided : (table : Table) (events : List code.AddressEvent) (link : ℕ) → IsCount table (events_of events) → undecided_on table link ≤ length events
few_undecided table events link is =
    subst (λ (n : ℕ). undecided_on table link ≤ n) (events_of-length events)
    (subst (λ (o : Option Consumer). balanced_rank o ≤ length (events_of events)) (sym (is.links link)) (undecided_few link (events_of events)))
