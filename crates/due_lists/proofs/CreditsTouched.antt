-- What is put among the candidates stays there.
use Rattle.std.proofs.Common.{◌≡◌, refl, ap, ◌∙◌, ℕ, Bool, true, false, ◌||◌, Option, Some, None, is_some, option_map, if◌then◌else◌, eq-eqb}
use Rattle.trace_events.specs.Words.{is_number, where_passes}
use Rattle.trace_events.specs.Event.{Link, Incoming}
use Rattle.trace_events.specs.Link.{is_producer}
use Rattle.state_incoming.specs.EntryAnswers.{Knows, has_entry}
use Rattle.state_incoming.specs.Held.{Held}
use Rattle.state_incoming.specs.HeldTables.{held_in}
use Rattle.state_incoming.specs.declared.deliveries.Deliveries.{Deliveries}

pub put-more : (was now b : Bool) → now ≡ was || b → was ≡ true → now ≡ true
put-more was now b is had = is ∙ ap (λ x. x || b) had

or-right : (a b : Bool) → b ≡ true → a || b ≡ true
or-right true b is = refl
or-right false b is = is

pub put-here : (n : ℕ) (o : Option ℕ) (was now : Bool) → now ≡ was || is_number o n → o ≡ Some n → now ≡ true
put-here n o was now is some = is ∙ or-right was (is_number o n) (ap (λ p. is_number p n) some ∙ eq-eqb n n refl)

pub named-producer : (o : Option Link) (l : Link) → o ≡ Some l → is_producer l ≡ true → option_map (λ (l : Link). l.number) (where_passes is_producer o) ≡ Some l.number
named-producer o l is producer = ap (λ p. option_map (λ (l : Link). l.number) (where_passes is_producer p)) is ∙ ap (λ b. option_map (λ (l : Link). l.number) (if b then Some l else None)) producer

-- what the table can tell of it has by its number
pub knows-number : (table : Deliveries) (d : Incoming) → Knows table d → has_entry table d.number ≡ true
knows-number table d knows = by (held_in table d.number) refl knows
  where
    by : (o : Option Held) → held_in table d.number ≡ o → option_map (λ (x : Held). x.delivery) o ≡ Some d → is_some (held_in table d.number) ≡ true
    by None is knows = absurd cc
    by (Some x) is knows = ap is_some is
