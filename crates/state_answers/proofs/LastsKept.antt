-- What the last delivery of a live link of a consumer carries is kept: by an event, and where another delivery is let go.
use Rattle.std.proofs.Common.{◌≡◌, refl, sym, ap, subst, ◌∙◌, ◌↔◌, inl, inr, ℕ, Bool, true, false, ◌||◌, ◌++◌, List, [], ◌∷◌, Option, Some, None, is_some, if◌then◌else◌, ◌==◌, eqb-true, arith}
use Rattle.std.specs.Prelude.{Contains}
use Rattle.std.specs.List.{list_any}
use Rattle.capture_form.specs.Rules.{RuleSet}
use Rattle.trace_events.specs.Words.{is_some_and, or_else}
use Rattle.trace_events.specs.Event.{Event, Link}
use Rattle.trace_events.specs.Ends.{ends_link}
use Rattle.trace_events.specs.Link.{IsLiveLink, is_consumer, opened_consumer, own_link}
use Rattle.trace_events.specs.Outgoing.{outgoing_begun}
use Rattle.trace_events.proofs.Judged.{AreJudged}
use Rattle.trace_events.proofs.LinkNumbers.{own_link-number}
use Rattle.trace_events.proofs.OneConsumer.{passes-some}
use Rattle.state_tables.specs.ConsumerLinks.{consumer_at, has_link, opened_at, without}
use Rattle.state_tables.specs.LetGo.{is_let_go, names_let_go}
use Rattle.state_tables.proofs.ConsumerLinkSteps.{links-next}
use Rattle.state_incoming.specs.HeldTables.{held_in, number_at}
use Rattle.state_incoming.specs.LetGo.{is_spent}
use Rattle.state_outgoing.specs.Carriers.{carriers_in}
use Rattle.state_outgoing.specs.LastBegun.{is_last_carrying, is_last_let_go}
use Rattle.state_outgoing.specs.SentTables.{is_last_in}
use Rattle.state_outgoing.proofs.AnswersKnown.{last-apart}
use Rattle.state_outgoing.proofs.LastKept.{last-more, last-stays, last-unopened}
use Rattle.state_answers.specs.Tables.{AreTables, KeepsLast, LetsGoAtMost}
use Rattle.state_answers.specs.declared.tables.Tables.{Tables}
use Rattle.state_answers.proofs.LetGoNext.{spent-kept}

-- behind an event that begins none which carries what was let go
module _ (rules : RuleSet) (e : Event) (past : List Event) (are : AreJudged rules (e ∷ past)) (ended : List Link)
    (all : (l : Link) → Contains ended l ↔ IsLiveLink l past × (ends_link l e ≡ true))
    (gone : List (ℕ × Unit {0})) (apart : is_some_and (outgoing_begun e) (λ j. names_let_go gone j.note) ≡ false) (keeps : KeepsLast gone past) where
  left-some : (b : Bool) (o : Option Link) → is_some (if b then None else o) ≡ true → is_some o ≡ true
  left-some true o is = absurd cc
  left-some false o is = is

  -- of a link that the event does not open, which stood before
  stood : (link : ℕ) → is_some (consumer_at link (e ∷ past)) ≡ true → opened_at link e ≡ None → is_some (consumer_at link past) ≡ true
  stood link lives none =
      left-some (has_link ended link) (consumer_at link past)
      (ap (λ o. is_some (without ended link (or_else o (consumer_at link past)))) (sym none)
      ∙ (ap (λ (o : Option Link). is_some o) (links-next rules e past are ended all link) ∙ lives))

  -- and of one that it opens
  opened : (link : ℕ) (k : Link) → opened_at link e ≡ Some k → is_last_let_go gone link past ≡ false
  opened link k is =
      let own = passes-some (λ (l : Link). l.number == link) (opened_consumer e) k is in
      let number = own_link-number rules e past k are (passes-some is_consumer (own_link e) k own.0).0 in
      let same : k.number ≡ link = eqb-true k.number link own.1 in
      last-unopened rules past are.1 gone link (omega (arith, number, same))

  pub keeps-next : KeepsLast gone (e ∷ past)
  keeps-next link lives = last-stays gone e past apart link (by (opened_at link e) refl)
    where
      by : (o : Option Link) → opened_at link e ≡ o → is_last_let_go gone link past ≡ false
      by None is = keeps link (stood link lives is)
      by (Some k) is = opened link k is

-- where the delivery that has its turn is let go, at most, and is carried last on no live link
module _ (rules : RuleSet) (past : List Event) (are : AreJudged rules past) (earlier later : Tables) (tables : AreTables rules earlier past)
    (apart : (n : ℕ) → number_at earlier.deliveries earlier.turn ≡ Some n → is_some_and (held_in earlier.deliveries n) is_spent ≡ true
    → list_any (is_last_in earlier.sent earlier.consumer_links) (carriers_in earlier.sent.begun n) ≡ false)
    (keeps : KeepsLast earlier.deliveries.let_go.items past) where
  pub keeps-most : LetsGoAtMost earlier later → KeepsLast later.deliveries.let_go.items past
  keeps-most (inl same) = subst (λ (gone : List (ℕ × Unit {0})). KeepsLast gone past) (sym same) keeps
  keeps-most (inr (n, (at, (spent, more)))) = subst (λ (gone : List (ℕ × Unit {0})). KeepsLast gone past) (sym more) kept
    where
      alike : earlier.sent.let_go.items ≡ earlier.deliveries.let_go.items
      alike = tables.1.1.1.1.1.1.1.1.1.1.0

      stays : is_let_go earlier.sent.let_go.items n ≡ false
      stays = spent-kept rules past earlier.deliveries tables.1.1.1.1.0.0 n spent earlier.sent.let_go.items alike

      kept : KeepsLast (earlier.deliveries.let_go.items ++ (n, tt) ∷ []) past
      kept link lives =
          last-more earlier.deliveries.let_go.items n link past
          ∙ (ap (λ b. b || is_last_carrying n link past) (keeps link lives)
          ∙ last-apart rules past are earlier.sent tables.1.1.1.1.1.1.1.1.0 n stays earlier.consumer_links (apart n at spent) link
          (ap (λ (o : Option Link). is_some o) (tables.1.1.1.1.1.0 link) ∙ lives))
