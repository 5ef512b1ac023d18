-- The first delivery of an address and the link that is picked for it; where there is no such link, none may take it.
use Rattle.std.proofs.Common.{◌≡◌, refl, sym, ap, subst, ◌∙◌, inl, inr, ℕ, Bool, true, false, ◌&&◌, not, List, [], ◌∷◌, filter, map, Some, None, option_map, bytes_eq, if◌then◌else◌, ◌==◌, eq-eqb}
use Rattle.std.specs.Prelude.{Contains}
use Rattle.std.specs.List.{list_any}
use Rattle.std.proofs.lemmas.Slice.Eq.{bytes_eq-Decides}
use Rattle.capture_form.specs.Rules.{RuleSet}
use Rattle.capture_form.specs.declared.rules.Distribution.{Distribution}
use Rattle.capture_form.specs.declared.rules.Distribution.TheVariants.{Closest, Balanced, Multicast}
use Rattle.capture_form.specs.Addresses.{distribution}
use Rattle.flow_counts.specs.Picks as picks
use Rattle.flow_counts.specs.Picks.{best}
use Rattle.address_table.specs.Picking.{pick_of}
use Rattle.trace_events.specs.Words.{is_some_and, is_number, where_passes}
use Rattle.trace_events.specs.Event.{Event, Link, Incoming}
use Rattle.trace_events.specs.Address.{consumers, is_consumer_of, is_multicast}
use Rattle.trace_events.specs.Incoming.{address_of, completed_before, incoming_at, incoming_deliveries, is_complete}
use Rattle.trace_events.specs.Link.{IsLiveLink, is_consumer, is_live, link_at, links}
use Rattle.trace_events.specs.Outgoing.{is_paired}
use Rattle.trace_events.specs.Queue.{waiting_queue}
use Rattle.trace_events.specs.Waiting.{always_had_consumer, is_of_multicast, is_waiting}
use Rattle.trace_events.proofs.Along.{and_first, some_passes}
use Rattle.trace_events.proofs.Judged.{AreJudged}
use Rattle.trace_events.proofs.Links.{passing}
use Rattle.trace_events.proofs.IncomingProgress.{judged-kept}
use Rattle.trace_events.proofs.WaitingQueue.{contains_none, contains_cases, contains_first, contains_later, filter_has, reverse_has, waits_queued}
use Rattle.trace_duties.specs.Consumers.{address_events}
use Rattle.trace_duties.specs.Diligent.{is_next_waiting}
use Rattle.trace_events.specs.TransferClause.{may_take}
use Rattle.trace_duties.specs.Pick.{is_eligible, pick}
use Rattle.trace_duties.proofs.ConsumersCounted.{consumers-counted}
use Rattle.state_tables.specs.ConsumerLinks.{consumer_at, is_live_consumer}
use Rattle.state_incoming.specs.EntryAnswers.{Knows}
use Rattle.state_incoming.specs.Held.{Held, held, is_held}
use Rattle.state_incoming.specs.HeldTables.{IsTable}
use Rattle.state_incoming.specs.declared.deliveries.Deliveries.{Deliveries}
use Rattle.state_incoming.proofs.HeldAnswers.{waiting-kept}
use Rattle.state_incoming.proofs.OverKnown as let_go
use Rattle.state_incoming.proofs.OverKnown.{table-there}
use Rattle.due_lists.proofs.LiveOnes.{link-found, link-lives}
use Rattle.due_lists.proofs.Members.{found-contained}
use Rattle.due_lists.proofs.Eligible.{pick-passes, picked-same, taken-lives, takes_at}
use Rattle.due_lists.specs.Waking.{MayBegin}

same_some : {A : Type 0} (a b : A) → Some a ≡ Some b → a ≡ b
same_some a b is = cc

both : (a b : Bool) → a ≡ true → b ≡ true → a && b ≡ true
both true b first second = second
both false b first second = absurd cc

-- ---- what waits goes to one consumer

anycast-of : (m c p a : Bool) → (not m && c && not p) && a ≡ true → m ≡ false
anycast-of false c p a is = refl
anycast-of true c p a is = absurd cc

-- ---- the pick

best-some : (beats : ℕ → ℕ → Bool) (ns : List ℕ) (n : ℕ) → Contains ns n → best beats ns ≡ None → ⊥
best-some beats [] n there none = contains_none n there
best-some beats (m ∷ ns) n there none = cc

map-has : (ls : List Link) (l : Link) → Contains ls l → Contains (map (λ m. m.number) ls) l.number
map-has [] l there = contains_none l there
map-has (m ∷ ms) l there = elim (contains_cases m ms l there) [
  | inl same ↦ subst (λ (k : Link). Contains (m.number ∷ map (λ (x : Link). x.number) ms) k.number) same (contains_first m.number (map (λ (x : Link). x.number) ms))
  | inr later ↦ contains_later m.number (map (λ (x : Link). x.number) ms) l.number (map-has ms l later)
]

picks-some : (by : Distribution) (test : ℕ → Bool) (address : List ℕ) (events : List picks.AddressEvent) (n : ℕ) → is_multicast by ≡ false → Contains (picks.consumers address events) n → test n ≡ true
    → pick_of by test address events ≡ None → ⊥
picks-some Closest test address events n anycast there passes none = best-some _ (filter test (picks.consumers address events)) n (filter_has test (picks.consumers address events) n passes there) none
picks-some Balanced test address events n anycast there passes none = best-some _ (filter test (picks.consumers address events)) n (filter_has test (picks.consumers address events) n passes there) none
picks-some Multicast test address events n anycast there passes none = absurd cc

module _ (rules : RuleSet) (past : List Event) (are : AreJudged rules past) where
  -- where a delivery may begin, a link is picked
  module _ (d : Incoming) (l : Link) (h : MayBegin rules past d l) where
    of-address : is_consumer_of (address_of d past) past l ≡ true
    of-address =
        both (is_consumer l && bytes_eq l.address (address_of d past)) (is_live past l)
        (both (is_consumer l) (bytes_eq l.address (address_of d past)) h.consumer ((bytes_eq-Decides l.address (address_of d past)).1 h.address)) (link-lives past l h.live)

    listed : Contains (consumers (address_of d past) past) l
    listed =
        reverse_has (filter (is_consumer_of (address_of d past) past) (links past)) l
        (filter_has (is_consumer_of (address_of d past) past) (links past) l of-address (found-contained (λ (k : Link). k.number == l.number) (links past) l (link-found rules past are l h.live)))

    pub pick-some : pick rules (address_of d past) past ≡ None → ⊥
    pick-some =
        picks-some (distribution rules (address_of d past)) (is_eligible past) (address_of d past) (address_events past) l.number
        (anycast-of (is_of_multicast rules d past) (is_complete d past) (is_paired d past) (always_had_consumer d past) h.waits)
        (subst (λ ns. Contains ns l.number) (sym (consumers-counted rules past are (address_of d past))) (map-has (consumers (address_of d past) past) l listed))
        (ap (λ o. is_some_and o (may_take past)) (link-found rules past are l h.live) ∙ h.takes)

    -- and a delivery waits there
    pub queue-some : waiting_queue rules (address_of d past) past ≡ [] → ⊥
    queue-some empty =
        contains_none d (subst (λ ds. Contains ds d) empty (waits_queued rules (address_of d past) past (judged-kept rules past are) d
        (found-contained (λ (x : Incoming). x.number == d.number) (incoming_deliveries past) d h.found)
        (both (bytes_eq (address_of d past) (address_of d past)) (is_waiting rules d past) ((bytes_eq-Decides (address_of d past) (address_of d past)).1 refl) h.waits)))

  -- the link that is picked lives
  pub picked-lives : (address : List ℕ) (l : Link) → pick rules address past ≡ Some l.number → link_at l.number past ≡ Some l → IsLiveLink l past
  picked-lives address l picked at =
      let takes = pick-passes (distribution rules address) (takes_at past) address (address_events past) l.number (picked-same rules past are address ∙ picked) in
      let m = some_passes (may_take past) (consumer_at l.number past) takes in
      let found = passing (is_live_consumer past) (link_at l.number past) m.0 m.1 in
      let one : m.0 ≡ l = same_some m.0 l (sym found.0 ∙ at) in
      taken-lives rules past are l.number l (m.1 ∙ ap Some one)

  pub picked-link : (d : Incoming) (address : List ℕ) (n : ℕ) → address_of d past ≡ address → Some n ≡ pick rules address past → is_number (pick rules (address_of d past) past) n ≡ true
  picked-link d address n of picked = ap (λ a. is_number (pick rules a past) n) of ∙ (ap (λ o. is_number o n) (sym picked) ∙ eq-eqb n n refl)

-- ---- the delivery

pub next-waits : (rules : RuleSet) (past : List Event) (d : Incoming) → is_next_waiting rules past d ≡ true → is_waiting rules d past ≡ true
next-waits rules past d next =
    and_first (is_waiting rules d past) (not (list_any (λ other. bytes_eq (address_of other past) (address_of d past) && is_waiting rules other past && completed_before other d past) (incoming_deliveries past))) next

-- the table knows one that waits: it is kept, and was not let go
pub waiting-known : (rules : RuleSet) (past : List Event) → AreJudged rules past → (table : Deliveries) → IsTable rules table past → (d : Incoming) → incoming_at d.number past ≡ Some d
    → is_waiting rules d past ≡ true → Knows table d
waiting-known rules past are table is_table d found waits =
    ap (option_map (λ (x : Held). x.delivery)) (table-there rules past table is_table.0 d.number (let_go.waiting-kept rules past are table is_table.1.1 d.number d found waits))
    ∙ (ap (λ o. option_map (λ (x : Held). x.delivery) (option_map (held rules past) (where_passes (is_held rules past) o))) found
    ∙ ap (λ b. option_map (λ (x : Held). x.delivery) (option_map (held rules past) (if b then Some d else None))) (waiting-kept rules past d waits))
