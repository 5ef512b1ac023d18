-- What a refusal tells of the end of links.
use Rattle.std.proofs.Common.{◌≡◌, refl, sym, ◌∙◌, ◌<◌, ℕ, Bool, true, false, ◌||◌, List, [], ◌∷◌, Option, Some, None, inl, inr, is_some, length, ◌==◌, arith}
use Rattle.std.specs.List.{list_any}
use Rattle.trace_events.specs.Event as law
use Rattle.trace_events.specs.Incoming.{completed_by}
use Rattle.trace_events.specs.Words.{is_some_and}
use Rattle.trace_events.proofs.Along.{and_first, and_last}
use Rattle.trace_events.specs.View.{link_view}
use Rattle.trace_events.specs.declared.event.Link.{Link}
use Rattle.state_tables.specs.EndedLinks.{views}
use Rattle.state_verdicts.specs.Verdicts.{MayGrow, awaits_in, comes_now}
use Rattle.state_verdicts.specs.declared.verdicts.CopyVerdict.{CopyVerdict}
use Rattle.state_verdicts.specs.declared.verdicts.Verdicts.{Verdicts}
use Rattle.state_verdicts.proofs.TableSteps.{any-from, any-gives, any-map}

some_of : (o : Option law.Incoming) (n : ℕ) → is_some_and o (λ d. d.number == n) ≡ true → is_some o ≡ true
some_of None n is = absurd cc
some_of (Some d) n is = refl

longer : (link : ℕ) (due : List ℕ) → list_any (λ m. m == link) due ≡ true → 0 < length due
longer link [] is = absurd cc
longer link (m ∷ due) is = omega (arith)

-- a copy that awaits its verdict with the event, on a link that ends, did before, or it comes due
pub grown : (table : Verdicts) (e : law.Event) (due : List ℕ) (given : List CopyVerdict) (ended : List Link) (n : ℕ) (left : ℕ → Bool) → ((link : ℕ) → left link ≡ true → comes_now e due link n || awaits_in table link n ≡ true)
    → list_any (λ l. left l.number) ended ≡ true → MayGrow table e due given (views ended)
grown table e due given ended n left were some =
    let l = any-from (λ (l : Link). left l.number) ended some in
    by l.0.number (comes_now e due l.0.number n) refl (λ waits. any-gives (λ (m : Link). awaits_in table m.number n) ended l.0 l.1.0 waits) (were l.0.number l.1.1)
  where
    by : (link : ℕ) (b : Bool) → comes_now e due link n ≡ b → (awaits_in table link n ≡ true → list_any (λ m. awaits_in table m.number n) ended ≡ true) → b || awaits_in table link n ≡ true
        → MayGrow table e due given (views ended)
    by link true comes on is =
        inl (
          some_of (completed_by e) n (and_first (is_some_and (completed_by e) (λ d. d.number == n)) (list_any (λ m. m == link) due) comes),
          longer link due (and_last (is_some_and (completed_by e) (λ d. d.number == n)) (list_any (λ m. m == link) due) comes),
        )
    by link false other on is = inr (inr (n, sym (any-map link_view (λ (m : law.Link). awaits_in table m.number n) ended) ∙ on is))
