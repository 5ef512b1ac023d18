-- A table of deliveries to clients in which an event moved those that it touches has what the law says behind the event.
use Rattle.std.proofs.Common.{◌≡◌, refl, sym, ap, ◌∙◌, ◌⊎◌, inl, inr, ℕ, false, List, ◌∷◌, Option, Some, None, IfSome, option_map, if◌then◌else◌}
use Rattle.capture_form.specs.Rules.{RuleSet}
use Rattle.trace_events.specs.Words.{is_some_and}
use Rattle.trace_events.specs.Event.{Event}
use Rattle.trace_events.specs.Outgoing.{outgoing_begun}
use Rattle.trace_events.proofs.Judged.{AreJudged}
use Rattle.state_tables.specs.LetGo.{names_let_go}
use Rattle.state_outgoing.specs.LetGo.{kept_at}
use Rattle.state_outgoing.specs.Sent.{Sent, sent_next, sent_begun, sent_behind, begins_number}
use Rattle.state_outgoing.specs.SentTouched.{touches}
use Rattle.state_outgoing.proofs.SentKept.{kept-behind}
use Rattle.state_outgoing.proofs.SentUntouched.{untouched}

module _ (rules : RuleSet) (e : Event) (past : List Event) (are : AreJudged rules (e ∷ past)) (gone : List (ℕ × Unit {0}))
    (none_begins : is_some_and (outgoing_begun e) (λ j. names_let_go gone j.note) ≡ false) where
  -- the event neither begins the delivery of this number nor touches it
  abbrev IsApart : ℕ → Option Sent → Type 0
  IsApart n o = (begins_number e n ≡ false) × IfSome o (λ (x : Sent). touches e x ≡ false)

  apart-stays : (n : ℕ) (o : Option Sent) → IsApart n o → sent_behind e n o ≡ o
  apart-stays n o off = ap (λ b. if b then sent_begun e else option_map (sent_next e) o) off.0 ∙ by o off.1
    where
      by : (p : Option Sent) → IfSome p (λ (x : Sent). touches e x ≡ false) → option_map (sent_next e) p ≡ p
      by None none = refl
      by (Some x) none = ap Some (untouched e x none)

  pub moved-sent : (old new : ℕ → Option Sent) → ((n : ℕ) → old n ≡ kept_at gone n past)
      → ((n : ℕ) → (new n ≡ sent_behind e n (old n)) ⊎ (IsApart n (old n) × (new n ≡ old n)))
      → (n : ℕ) → new n ≡ kept_at gone n (e ∷ past)
  moved-sent old new were moved n =
      let behind = ap (sent_behind e n) (were n) ∙ sym (kept-behind gone e none_begins rules past are n) in
      elim (moved n) [
        | inl here ↦ here ∙ behind
        | inr apart ↦ apart.1 ∙ (sym (apart-stays n (old n) apart.0) ∙ behind)
      ]
