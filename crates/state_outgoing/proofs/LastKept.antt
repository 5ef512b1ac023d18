-- Whether what the last delivery of a link carries was let go: what an event makes of it, and what letting one more go does.
use Rattle.std.proofs.Common.{◌≡◌, refl, ap, ◌∙◌, ◌≤◌, ℕ, Bool, true, false, ◌||◌, ◌++◌, List, [], ◌∷◌, length, Option, Some, None, find, if◌then◌else◌, ◌==◌, ne_eqb, arith}
use Rattle.std.specs.List.{AllByRecursion}
use Rattle.capture_form.specs.Rules.{RuleSet}
use Rattle.trace_events.specs.Words.{is_some_and}
use Rattle.trace_events.specs.Event.{Event, Outgoing}
use Rattle.trace_events.specs.Outgoing.{names, outgoing_begun, outgoing_deliveries}
use Rattle.trace_events.proofs.Judged.{AreJudged}
use Rattle.trace_events.proofs.OutgoingLinks.{IsOnEarlier, deliveries-earlier, judged-on_earlier}
use Rattle.state_tables.specs.LetGo.{names_let_go}
use Rattle.state_outgoing.specs.LastBegun.{begins_on, is_last_carrying, is_last_let_go, last_on}
use Rattle.state_outgoing.proofs.LastBegun.{last_on-step}
use Rattle.state_outgoing.proofs.LetGoStands.{names-more}

-- where one more is let go
pub last-more : (gone : List (ℕ × Unit {0})) (number link : ℕ) (past : List Event)
    → is_last_let_go (gone ++ (number, tt) ∷ []) link past ≡ is_last_let_go gone link past || is_last_carrying number link past
last-more gone number link past = by (last_on link past)
  where
    by : (o : Option Outgoing) → is_some_and o (λ j. names_let_go (gone ++ (number, tt) ∷ []) j.note) ≡ is_some_and o (λ j. names_let_go gone j.note) || is_some_and o (λ j. names number j.note)
    by None = refl
    by (Some j) = names-more gone number j.note

-- an event that begins none which carries what was let go leaves it as it was
pub last-stays : (gone : List (ℕ × Unit {0})) (e : Event) (past : List Event) → is_some_and (outgoing_begun e) (λ j. names_let_go gone j.note) ≡ false → (link : ℕ)
    → is_last_let_go gone link past ≡ false → is_last_let_go gone link (e ∷ past) ≡ false
last-stays gone e past apart link was = ap (λ o. is_some_and o (λ (j : Outgoing). names_let_go gone j.note)) (last_on-step e past link) ∙ by (begins_on e link)
  where
    by : (b : Bool) → is_some_and (if b then outgoing_begun e else last_on link past) (λ j. names_let_go gone j.note) ≡ false
    by true = apart
    by false = was

-- and none began on a link that is not there yet
pub last-unopened : (rules : RuleSet) (past : List Event) → AreJudged rules past → (gone : List (ℕ × Unit {0})) (link : ℕ) → length past ≤ link → is_last_let_go gone link past ≡ false
last-unopened rules past are gone link le =
    ap (λ o. is_some_and o (λ (j : Outgoing). names_let_go gone j.note))
    (none-on (outgoing_deliveries past) (deliveries-earlier past (judged-on_earlier rules past are)))
  where
    none-on : (js : List Outgoing) → AllByRecursion (IsOnEarlier (length past)) js → find (λ (j : Outgoing). j.link.number == link) js ≡ None
    none-on [] were = refl
    none-on (j ∷ js) were =
        ap (λ b. if b then Some j else find (λ (k : Outgoing). k.link.number == link) js) (ne_eqb j.link.number link (λ same. absurd (omega (arith, were.0, le, same))))
        ∙ none-on js were.1
