-- Where no delivery may begin, none waits in vain; and which is the first that may.
use Rattle.std.proofs.Common.{◌≡◌, refl, sym, ap, subst, Bool, true, false, not, ◌&&◌, ◌||◌, List, [], ◌∷◌, length, filter, bytes_eq, ◌==◌}
use Rattle.std.specs.Prelude.{Contains}
use Rattle.std.proofs.lemmas.Slice.Eq.{bytes_eq-Decides}
use Rattle.capture_form.specs.Rules.{RuleSet}
use Rattle.trace_events.specs.Event.{Event, Link, Incoming}
use Rattle.trace_events.specs.Address.{consumers, is_consumer_of}
use Rattle.trace_events.specs.Incoming.{address_of, completed_before, incoming_deliveries}
use Rattle.trace_events.specs.Link.{is_consumer, is_live, links}
use Rattle.trace_events.specs.Waiting.{is_waiting}
use Rattle.trace_events.proofs.Along.{and_first, and_last}
use Rattle.trace_events.proofs.Judged.{AreJudged}
use Rattle.trace_events.proofs.IncomingProgress.{judged-kept}
use Rattle.trace_events.proofs.Parts.{IsKept, each_delivery}
use Rattle.trace_events.proofs.WaitingQueue.{all_contained, contains_first, filter_has, in_filter, in_reverse}
use Rattle.trace_events.specs.TransferClause.{may_take}
use Rattle.trace_duties.specs.Pick.{eligible}
use Rattle.trace_duties.specs.Quiet.{none_waits_in_vain}
use Rattle.trace_duties.specs.Turn.{is_first_to_begin}
use Rattle.trace_duties.proofs.QuietLists.{all-each}
use Rattle.due_lists.proofs.LiveOnes.{live_links-live}
use Rattle.due_lists.specs.Waking.{MayBegin}

or-last : (a b : Bool) → b ≡ true → a || b ≡ true
or-last true b is = refl
or-last false b is = is

empty : (ls : List Link) → ((l : Link) → Contains ls l → ⊥) → (length ls == 0) ≡ true
empty [] none = refl
empty (l ∷ ls) none = absurd (none l (contains_first l ls))

module _ (rules : RuleSet) (past : List Event) (are : AreJudged rules past) where
  -- a delivery that waits may begin on each link that is eligible
  eligible-begins : (d : Incoming) → Contains (incoming_deliveries past) d → is_waiting rules d past ≡ true → (l : Link) → Contains (eligible (address_of d past) past) l → MayBegin rules past d l
  eligible-begins d listed waits l there =
      let takes = in_filter (may_take past) (consumers (address_of d past) past) l there in
      let of = in_filter (is_consumer_of (address_of d past) past) (links past) l (in_reverse (filter (is_consumer_of (address_of d past) past) (links past)) l takes.0) in
      let both = and_first (is_consumer l && bytes_eq l.address (address_of d past)) (is_live past l) of.1 in
      let lives = and_last (is_consumer l && bytes_eq l.address (address_of d past)) (is_live past l) of.1 in
      record {
        found = (all_contained (IsKept past) (incoming_deliveries past) d (each_delivery (IsKept past) past (judged-kept rules past are).each) listed).at;
        waits = waits;
        live = live_links-live rules past are l (filter_has (is_live past) (links past) l lives of.0);
        consumer = and_first (is_consumer l) (bytes_eq l.address (address_of d past)) both;
        address = (bytes_eq-Decides l.address (address_of d past)).0 (and_last (is_consumer l) (bytes_eq l.address (address_of d past)) both);
        takes = takes.1;
      }

  pub none-in-vain : ((d : Incoming) (l : Link) → MayBegin rules past d l → ⊥) → none_waits_in_vain rules past ≡ true
  none-in-vain none =
      all-each (λ d. not (is_waiting rules d past) || length (eligible (address_of d past) past) == 0) (incoming_deliveries past) (λ d there. by d there (is_waiting rules d past) refl)
    where
      by : (d : Incoming) → Contains (incoming_deliveries past) d → (b : Bool) → is_waiting rules d past ≡ b → not b || length (eligible (address_of d past) past) == 0 ≡ true
      by d there false waits = refl
      by d there true waits = empty (eligible (address_of d past) past) (λ l eligible. none d l (eligible-begins d there waits l eligible))

  -- one before which none was completed that may begin is the first
  pub first-begins : (x : Incoming) → ((d : Incoming) (l : Link) → MayBegin rules past d l → completed_before d x past ≡ false) → is_first_to_begin rules past x ≡ true
  first-begins x first =
      all-each (λ d. not (is_waiting rules d past) || length (eligible (address_of d past) past) == 0 || not (completed_before d x past)) (incoming_deliveries past) (λ d there. by d there (is_waiting rules d past) refl)
    where
      one : (d : Incoming) → Contains (incoming_deliveries past) d → is_waiting rules d past ≡ true → (ls : List Link) → eligible (address_of d past) past ≡ ls → length ls == 0 || not (completed_before d x past) ≡ true
      one d there waits [] is = refl
      one d there waits (l ∷ ls) is = or-last (length (l ∷ ls) == 0) (not (completed_before d x past)) (ap not (first d l (eligible-begins d there waits l (subst (λ ks. Contains ks l) (sym is) (contains_first l ls)))))

      by : (d : Incoming) → Contains (incoming_deliveries past) d → (b : Bool) → is_waiting rules d past ≡ b → not b || length (eligible (address_of d past) past) == 0 || not (completed_before d x past) ≡ true
      by d there false waits = refl
      by d there true waits = one d there waits (eligible (address_of d past) past) refl
