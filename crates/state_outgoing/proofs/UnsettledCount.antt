-- The group of a link has just the numbers of the deliveries on it that are unsettled, each once.
use Rattle.std.proofs.Common.{◌≡◌, refl, sym, ap, ◌∙◌, ℕ, Bool, true, false, ◌&&◌, List, length, Option, Some, None, option_map, nat_eq}
use Rattle.std.specs.List.{IsDistinct}
use Rattle.capture_form.specs.Rules.{RuleSet}
use Rattle.number_groups.specs.Groups.{is_member, numbers}
use Rattle.number_groups.specs.declared.groups.Groups.{Groups}
use Rattle.trace_events.specs.Words.{is_some_and}
use Rattle.trace_events.specs.Event.{Event, Link, Outgoing}
use Rattle.trace_events.specs.Outgoing.{is_on, outgoing_at}
use Rattle.trace_events.proofs.Judged.{AreJudged}
use Rattle.state_outgoing.specs.Sent.{Sent, sent, is_left_unsettled}
use Rattle.state_outgoing.specs.SentGrouped.{is_of_link}
use Rattle.state_outgoing.specs.SentTables.{IsTable, sent_in}
use Rattle.state_outgoing.specs.UnsettledCount.{unsettled_count}
use Rattle.state_outgoing.specs.declared.deliveries.SentDeliveries.{SentDeliveries}
use Rattle.state_outgoing.proofs.OutgoingCounts.{length-counted}
use Rattle.state_outgoing.proofs.SentKept.{entry-law, unfinished-entry, unsettled-unfinished}

same_some : {A : Type 0} (a b : A) → Some a ≡ Some b → a ≡ b
same_some a b is = cc

not-both : (on opens : Bool) → (opens ≡ true → false ≡ true) → false ≡ on && opens
not-both on true never = let both : false ≡ true = never refl in absurd cc
not-both true false never = refl
not-both false false never = refl

module _ (rules : RuleSet) (past : List Event) (are : AreJudged rules past) (table : SentDeliveries) (is_table : IsTable table past) (l : Link) where
  abbrev passes : Outgoing → Bool
  passes j = is_on l j && is_left_unsettled past j

  -- what is kept of a number says it as the law does: what is unsettled is kept
  entry-passes : (n : ℕ) → is_some_and (sent_in table n) (λ x. is_of_link l.number x.delivery && x.is_unsettled) ≡ is_some_and (outgoing_at n past) passes
  entry-passes n = by (outgoing_at n past) refl (sent_in table n) refl
    where
      by : (o : Option Outgoing) → outgoing_at n past ≡ o → (k : Option Sent) → sent_in table n ≡ k
          → is_some_and k (λ (x : Sent). is_of_link l.number x.delivery && x.is_unsettled) ≡ is_some_and o passes
      by None none None empty = refl
      by None none (Some x) entry = let never : None ≡ Some x = sym (ap (option_map (sent past)) none) ∙ entry-law table past is_table.entries n x entry in absurd cc
      by (Some j) at None empty =
          not-both (is_on l j) (is_left_unsettled past j)
          (λ is. let never : None ≡ Some (sent past j) = sym empty ∙ unfinished-entry table past is_table n j at (unsettled-unfinished past j is) in absurd cc)
      by (Some j) at (Some x) entry =
          let own : sent past j ≡ x = same_some (sent past j) x (sym (ap (option_map (sent past)) at) ∙ entry-law table past is_table.entries n x entry) in
          sym (ap (λ (y : Sent). is_of_link l.number y.delivery && y.is_unsettled) own)

  pub count-table : (groups : Groups ℕ) → groups ≡ table.groups.of_link → IsDistinct nat_eq (numbers nat_eq groups l.number) → length (numbers nat_eq groups l.number) ≡ unsettled_count l past
  count-table groups is distinct =
      length-counted rules past are passes (numbers nat_eq groups l.number) distinct
      (λ n. ap (λ (g : Groups ℕ). is_member nat_eq g l.number n) is ∙ (is_table.groups.of_link l.number n ∙ entry-passes n))
