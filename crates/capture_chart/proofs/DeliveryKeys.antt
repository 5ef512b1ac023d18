-- Keys that are the same, and what sessions that end take with them.
use Rattle.std.proofs.Common.{◌≡◌, ◌∙◌, ℕ, Bool, true, false, None, Option, ap, nat_eq, not, refl, sym}
use Rattle.std.specs.Prelude.{cond, if◌then◌else◌}
use Rattle.std.specs.Cmp.{IsEquivalence, first_so, second_so}
use Rattle.std.proofs.lemmas.Bool.{eqb-true}
use Rattle.std.proofs.lemmas.Cmp.{and_equiv, nat_eq_equiv, on_equiv}
use Rattle.capture_view.specs.Named.{is_link}
use Rattle.capture_view.specs.declared.names.LinkKey.{LinkKey}
use Rattle.capture_chart.specs.declared.outcomes.DeliveryKey.{DeliveryKey}
use Rattle.capture_chart.specs.declared.outcomes.Ended.{Ended}
use Rattle.capture_chart.specs.Outcomes.{is_delivery, is_over}

pub same_delivery : (key other : DeliveryKey) → is_delivery key other ≡ true → key ≡ other
same_delivery key other h =
    let rest = second_so (nat_eq key.connection other.connection) _ h in
    let connection : key.connection ≡ other.connection = eqb-true _ _ (first_so (nat_eq key.connection other.connection) _ h) in
    let channel : key.channel ≡ other.channel = eqb-true _ _ (first_so (nat_eq key.channel other.channel) _ rest) in
    let id : key.id ≡ other.id = eqb-true _ _ (second_so (nat_eq key.channel other.channel) _ rest) in
    λ i. record { connection = connection i; channel = channel i; id = id i }

-- what is over of one is over of the other
pub over_same : (ended : Ended) (key other : DeliveryKey) → is_delivery key other ≡ true → not (is_over ended other.connection other.channel) ≡ not (is_over ended key.connection key.channel)
over_same ended key other h = ap (λ (k : DeliveryKey). not (is_over ended k.connection k.channel)) (sym (same_delivery key other h))

pub over_link : (ended : Ended) (link other : LinkKey) → is_link link other ≡ true → not (is_over ended link.connection link.channel) ≡ not (is_over ended other.connection other.channel)
over_link ended link other h =
    let rest = second_so (nat_eq link.connection other.connection) _ h in
    let connection : link.connection ≡ other.connection = eqb-true _ _ (first_so (nat_eq link.connection other.connection) _ h) in
    let channel : link.channel ≡ other.channel = eqb-true _ _ (first_so (nat_eq link.channel other.channel) _ rest) in
    ap (λ (n : ℕ). not (is_over ended n link.channel)) connection ∙ ap (λ (n : ℕ). not (is_over ended other.connection n)) channel

pub link_laws : IsEquivalence is_link
link_laws = and_equiv (on_equiv (λ (k : LinkKey). k.connection) nat_eq_equiv) (and_equiv (on_equiv (λ (k : LinkKey). k.channel) nat_eq_equiv) (on_equiv (λ (k : LinkKey). k.handle) nat_eq_equiv))

pub delivery_laws : IsEquivalence is_delivery
delivery_laws =
    and_equiv (on_equiv (λ (k : DeliveryKey). k.connection) nat_eq_equiv) (and_equiv (on_equiv (λ (k : DeliveryKey). k.channel) nat_eq_equiv) (on_equiv (λ (k : DeliveryKey). k.id) nat_eq_equiv))

pub turned : {A : Type 0} (b : Bool) (x : Option A) → cond (not b) x None ≡ (if b then None else x)
turned true x = refl
turned false x = refl
