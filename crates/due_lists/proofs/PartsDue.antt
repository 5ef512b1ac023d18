-- The part that is due on a link, by the tables.
use Rattle.std.proofs.Common.{◌≡◌, refl, sym, ap, ◌∙◌, ℕ, ◌<◌, ◌≤◌, ◌%◌, ◌^◌, Bool, true, false, not, ◌&&◌, List, length, Option, Some, None, is_some, option_map, unwrap_or, if◌then◌else◌, arith}
use Rattle.std.proofs.lemmas.List.{length-take}
use Rattle.capture_form.specs.Rules.{RuleSet}
use Rattle.trace_events.specs.Words.{where_passes}
use Rattle.trace_events.specs.Event.{Event, Link, Incoming, Outgoing}
use Rattle.trace_events.specs.Link.{IsLiveLink, is_consumer, is_live, link_at}
use Rattle.trace_events.specs.Incoming as incoming
use Rattle.trace_events.specs.Incoming.{is_complete}
use Rattle.trace_events.specs.Outgoing as outgoing
use Rattle.trace_events.specs.Outgoing.{in_progress, noted, outgoing_at}
use Rattle.trace_events.specs.Waiting.{is_gone}
use Rattle.trace_events.specs.Clauses.{first_broken}
use Rattle.trace_events.specs.Kept.{AreFirst}
use Rattle.trace_events.specs.TransferClause.{to_carry}
use Rattle.trace_events.proofs.Judged.{AreJudged}
use Rattle.trace_events.proofs.OneConsumer.{passes-some}
use Rattle.trace_events.proofs.OutgoingProgress.{judged-carrying, carrying-noted, carrying-not_gone}
use Rattle.state_tables.specs.LetGo.{names_let_go}
use Rattle.state_tables.specs.ConsumerLinks.{consumer_at, is_live_consumer}
use Rattle.state_tables.proofs.ConsumerLinkSteps.{consumer-lives}
use Rattle.state_outgoing.specs.Sent.{Sent}
use Rattle.state_incoming.specs.HeldTables.{AreOver}
use Rattle.state_incoming.specs.declared.deliveries.Deliveries.{Deliveries}
use Rattle.state_incoming.proofs.OverKnown.{carrier-kept}
use Rattle.state_outgoing.specs.LetGo.{is_finished}
use Rattle.state_outgoing.specs.SentTables.{IsTable, sent_count_in}
use Rattle.state_outgoing.specs.declared.deliveries.SentDeliveries.{SentDeliveries}
use Rattle.state_outgoing.proofs.LastBegun.{progress-unsent}
use Rattle.state_outgoing.proofs.SentKept.{found-contained, unfinished-entry, unsent-unfinished}
use Rattle.due_lists.specs.Standing.{IsStill, has_window}
use Rattle.due_lists.proofs.LiveOnes.{link-found, link-lives}
use Rattle.due_lists.proofs.PartsFollowed.{still-parts}

module _ (rules : RuleSet) (past : List Event) (are : AreJudged rules past) where
  -- a consumer's live link is found by its number
  pub consumer-found : (l : Link) → IsLiveLink l past → is_consumer l ≡ true → consumer_at l.number past ≡ Some l
  consumer-found l live consumer =
      ap (where_passes (is_live_consumer past)) (link-found rules past are l live)
      ∙ (ap (λ b. if b && is_live past l then Some l else None) consumer ∙ ap (λ b. if b then Some l else None) (link-lives past l live))

  -- and what is found is one
  pub found-consumer : (n : ℕ) (l : Link) → consumer_at n past ≡ Some l → IsLiveLink l past × (is_consumer l ≡ true)
  found-consumer n l is =
      (consumer-lives rules past are n l is, first (is_consumer l) (is_live past l) (passes-some (is_live_consumer past) (link_at n past) l is).1)
    where
      first : (b c : Bool) → b && c ≡ true → b ≡ true
      first true c is = refl
      first false c is = absurd cc

  module _ (lawful : first_broken rules past ≡ None) (l : Link) (j : Outgoing) (going : in_progress l past ≡ Some j) where
    -- what a delivery in progress carries may go to consumers
    pub carries : (d : Incoming) × (to_carry rules j.note past ≡ Some d)
    carries =
        let c = (judged-carrying rules past are lawful l j going).1 in (
          c.delivery,
          ap (where_passes (λ d. is_complete d past && not (is_gone rules d past))) (carrying-noted past j c)
              ∙ (ap (λ b. if b && not (is_gone rules c.delivery past) then Some c.delivery else None) c.complete
              ∙ ap (λ b. if not b then Some c.delivery else None) (carrying-not_gone rules past j c)),
        )

    -- and is what its note names
    pub carried-noted : (d : Incoming) → to_carry rules j.note past ≡ Some d → noted j.note past ≡ Some d
    carried-noted d is = (passes-some (λ d. is_complete d past && not (is_gone rules d past)) (noted j.note past) d is).0

    first-shorter : (some all : List ℕ) → AreFirst some all → length some ≤ length all
    first-shorter some all first = let e = ap length first ∙ length-take (length some) all in omega (arith, e)

    -- its last part is not written
    going-unfinished : is_finished past j ≡ false
    going-unfinished = unsent-unfinished past j (progress-unsent rules past are l j going)

    going-at : outgoing_at j.number past ≡ Some j
    going-at = (judged-carrying rules past are lawful l j going).1.at

    -- so what it carries was not let go
    pub carrier-there : (deliveries : Deliveries) → AreOver rules deliveries past → names_let_go deliveries.let_go.items j.note ≡ false
    carrier-there deliveries over = carrier-kept rules past deliveries over j (found-contained past j.number j going-at) going-unfinished

    -- so many octets of it were sent
    pub sent-so-far : (table : SentDeliveries) → IsTable table past → (d : Incoming) → to_carry rules j.note past ≡ Some d → length (incoming.payload d past) < 2 ^ 64
        → sent_count_in table j.number ≡ length (outgoing.payload j past)
    sent-so-far table is_table d is short =
        let h = (judged-carrying rules past are lawful l j going).1 in
        let one : h.delivery ≡ d = let some : Some h.delivery ≡ Some d = sym (carrying-noted past j h) ∙ carried-noted d is in cc in
        let le = first-shorter (outgoing.payload j past) (incoming.payload h.delivery past) h.carried in
        let lt : length (outgoing.payload j past) < 2 ^ 64 = omega (arith, le, short, ap (λ (x : Incoming). length (incoming.payload x past)) one) in
        ap (λ o. unwrap_or (option_map (λ (x : Sent). x.sent_count) o) 0) (unfinished-entry table past is_table j.number j going-at going-unfinished) ∙ small (length (outgoing.payload j past)) lt
      where
        small : (n : ℕ) → n < 2 ^ 64 → n % 2 ^ 64 ≡ n
        small n lt = omega (arith, lt)

-- ---- on a link that stands still, everything is found

module _ (rules : RuleSet) (past : List Event) (are : AreJudged rules past) (n : ℕ) (l : Link) (own : l.number ≡ n) (h : IsStill l past) where
  pub still-found : consumer_at n past ≡ Some l
  still-found = ap (λ m. consumer_at m past) (sym own) ∙ consumer-found rules past are l h.live (still-parts l past h).0.consumer

  pub still-link : (o : Option Link) → o ≡ consumer_at n past → o ≡ Some l
  still-link o is = is ∙ still-found

  -- the link that is found is this one
  module _ (m : Link) (is : Some m ≡ consumer_at n past) where
    pub still-same : m ≡ l
    still-same = let some : Some m ≡ Some l = is ∙ still-found in cc

    pub still-going : is_some (in_progress m past) ≡ true
    still-going = ap (λ (k : Link). is_some (in_progress k past)) still-same ∙ (still-parts l past h).0.going

    pub still-window : has_window m.session past ≡ true
    still-window = ap (λ (k : Link). has_window k.session past) still-same ∙ (still-parts l past h).1
