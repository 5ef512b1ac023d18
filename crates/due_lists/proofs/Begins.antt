-- The deliveries of a consumer's link that are not decided are fewer than the records of the capture.
use Rattle.std.proofs.Common.{◌≡◌, refl, sym, subst, ℕ, suc, ◌<◌, ◌-◌, ◌+◌, ◌^◌, Bool, true, false, ◌&&◌, List, [], ◌∷◌, ◌++◌, length, Option, Some, None, IfSome, unwrap_or, if◌then◌else◌, ◌==◌, arith}
use Rattle.std.specs.Option.{option_map}
use Rattle.capture_form.specs.Rules.{RuleSet}
use Rattle.flow_counts.specs.Picks.{AddressEvent, Attached, Consumer, attached, begun, consumer, balanced_rank}
use Rattle.trace_events.specs.Words.{is_some_and, where_passes}
use Rattle.trace_events.specs.Event.{Event, Link, Outgoing}
use Rattle.trace_events.specs.Link.{is_consumer, own_link, link_at}
use Rattle.trace_events.specs.Credit.{begins_outgoing}
use Rattle.trace_events.specs.Outgoing.{outgoing_begun}
use Rattle.trace_events.proofs.Judged.{AreJudged, judged-number}
use Rattle.trace_events.proofs.OutgoingLinks.{IsOnEarlier, judged-on_earlier}
use Rattle.trace_duties.specs.Consumers.{attached_as, address_events, detaches_consumer}
use Rattle.trace_duties.proofs.ConsumerCounts.{fewer}
use Rattle.trace_duties.proofs.ConsumersCounted.{begins_on, decided_count, consumer-step}
use Rattle.due_lists.specs.AddressCounts.{AreFew}

-- fewer than the records, or of a link that is just attached none
abbrev IsBelow : ℕ → Consumer → Type 0
IsBelow m c = c.undecided < m

abbrev IsBelowLater : ℕ → Consumer → Type 0
IsBelowLater m c = (0 < m → c.undecided < m) × (c.undecided < suc m)

attached-below : (n m : ℕ) (o : Option Link) (past : List AddressEvent) → IfSome (consumer n past) (IsBelow m) → IfSome (consumer n (attached_as o ++ past)) (IsBelowLater m)
attached-below n m None past below = older (consumer n past) below
  where
    older : (o : Option Consumer) → IfSome o (IsBelow m) → IfSome o (IsBelowLater m)
    older None below = tt
    older (Some c) below = ((λ some. below), omega (arith, below))
attached-below n m (Some l) past below = by (is_consumer l)
  where
    older : (o : Option Consumer) → IfSome o (IsBelow m) → IfSome o (IsBelowLater m)
    older None below = tt
    older (Some c) below = ((λ some. below), omega (arith, below))

    new : (same : Bool) (o : Option Consumer) → IfSome o (IsBelow m) → IfSome (if same then Some (unwrap_or o (attached l.address l.is_pre_settled)) else o) (IsBelowLater m)
    new true None below = ((λ some. some), omega arith)
    new true (Some c) below = ((λ some. below), omega (arith, below))
    new false o below = older o below

    by : (b : Bool) → IfSome (consumer n ((if b then Attached l.number l.address l.is_pre_settled ∷ [] else []) ++ past)) (IsBelowLater m)
    by true = new (n == l.number) (consumer n past) below
    by false = older (consumer n past) below

begun-below : (m : ℕ) (begins settled : Bool) (undecided : ℕ) → (begins ≡ true → 0 < m) → (0 < m → undecided < m) → undecided < suc m
    → (if begins then (if settled then undecided else undecided + 1) else undecided) < suc m
begun-below m true true undecided some below later = later
begun-below m true false undecided some below later = let lt = below (some refl) in omega (arith, lt)
begun-below m false settled undecided some below later = later

moved-below : (m number count : ℕ) (ended begins : Bool) (o : Option Consumer) → (begins ≡ true → 0 < m) → IfSome o (IsBelowLater m)
    → IfSome (if ended then None else option_map (fewer count) (if begins then option_map (begun number) o else o)) (IsBelow (suc m))
moved-below m number count true begins o some below = tt
moved-below m number count false true None some below = tt
moved-below m number count false false None some below = tt
moved-below m number count false true (Some c) some below =
    let lt = begun-below m true c.is_pre_settled c.undecided some below.0 below.1 in omega (arith, lt)
moved-below m number count false false (Some c) some below = let lt = below.1 in omega (arith, lt)

-- what begins on a link stands behind the record that opened it
begins-later : (n m : ℕ) (o : Option Outgoing) (b : Bool) → IfSome o (IsOnEarlier m) → b && is_some_and o (λ j. n == j.link.number) ≡ true → 0 < m
begins-later n m None true on is = absurd cc
begins-later n m None false on is = absurd cc
begins-later n m (Some j) b on is = omega (arith, on)

pub undecided-below : (rules : RuleSet) (past : List Event) → AreJudged rules past → (n : ℕ) → IfSome (consumer n (address_events past)) (IsBelow (length past))
undecided-below rules [] are n = tt
undecided-below rules (e ∷ past) are n =
    subst (λ (o : Option Consumer). IfSome o (IsBelow (suc (length past)))) (sym (consumer-step rules e past are.1 n))
    (moved-below (length past) e.number (decided_count n e past) (is_some_and (link_at n past) (detaches_consumer e past)) (begins_on n e)
    (consumer n (attached_as (own_link e) ++ address_events past))
    (begins-later n (length past) e.outgoing (begins_outgoing e) (judged-on_earlier rules (e ∷ past) are).0)
    (attached-below n (length past) (own_link e) (address_events past) (undecided-below rules past are.1 n)))

-- so there is room for the one that begins
module _ (rules : RuleSet) (e : Event) (past : List Event) (are : AreJudged rules (e ∷ past)) (small : e.number < 2 ^ 64) where
  rank-below : (o : Option Consumer) → 0 < length past → IfSome o (IsBelowLater (length past)) → balanced_rank o < 2 ^ 64 - 1
  rank-below None some below = omega arith
  rank-below (Some c) some below =
      let lt = below.0 some in
      let number = judged-number rules e past are in
      omega (arith, lt, number, small)

  few-by : (o : Option Outgoing) → IfSome o (IsOnEarlier (length past)) → (b : Outgoing → Bool) → AreFew (attached_as (own_link e) ++ address_events past) (where_passes b o)
  few-by None on b = tt
  few-by (Some j) on b = by (b j)
    where
      by : (c : Bool) → AreFew (attached_as (own_link e) ++ address_events past) (if c then Some j else None)
      by false = tt
      by true =
          rank-below (consumer j.link.number (attached_as (own_link e) ++ address_events past)) (omega (arith, on))
          (attached-below j.link.number (length past) (own_link e) (address_events past) (undecided-below rules past are.1 j.link.number))

  pub are-few : AreFew (attached_as (own_link e) ++ address_events past) (outgoing_begun e)
  are-few = few-by e.outgoing (judged-on_earlier rules (e ∷ past) are).0 (λ j. j.number == e.number)
