-- What happens on a producer's link, and whether its credit allows it.
use Rattle.std.specs.Prelude.{ℕ, ◌≡◌, ◌+◌, ◌-◌, ◌≤◌, Bool, true, false, ◌&&◌, List, [], ◌∷◌, Some, nat_lt, nat_le}
use Rattle.flow_counts.specs.Credit as links
use Rattle.flow_counts.specs.Credit.{LinkEvent}
use Rattle.flow_counts.specs.GivenCredit.{given_credit, received_delivery_count, begun_since_given, last_given}
use Rattle.flow_counts.specs.declared.profile.TheConstants.{CAPACITY, LOW_MARK}
use Rattle.link_credit.specs.declared.history.ProducerEvent.{ProducerEvent}
use Rattle.link_credit.specs.declared.history.ProducerEvent.TheVariants.{TheirFlow, Begun, Told, ToppedUp}
use Rattle.link_credit.specs.GivenCounts.{Counters, counted}

-- the link's event that it is after these: a flow to the client has the delivery-count that the link has come to, and
-- the credit left, or what fills it up to the capacity (own rule)
abbrev pub link_event : ℕ → List LinkEvent → ProducerEvent → LinkEvent
link_event first past (TheirFlow known given drain) = links.TheirFlow known given drain
link_event first past Begun = links.Begun
link_event first past Told = links.OurFlow (Some (received_delivery_count first past)) (Some (given_credit past)) false
link_event first past (ToppedUp undecided) = links.OurFlow (Some (received_delivery_count first past)) (Some (CAPACITY - undecided)) false

-- the link's events, the newest first
abbrev pub link_events : ℕ → List ProducerEvent → List LinkEvent
link_events first [] = []
link_events first (event ∷ earlier) = let past = link_events first earlier in link_event first past event ∷ past

-- a delivery wants credit to begin, and credit is given again only where little is left (own rule)
abbrev pub is_allowed : ℕ → List LinkEvent → ProducerEvent → Bool
is_allowed first past Begun = nat_lt 0 (given_credit past)
is_allowed first past (ToppedUp undecided) = nat_le (given_credit past + undecided) LOW_MARK
is_allowed first past _ = true

-- each event was allowed when it happened
abbrev pub stays_within : ℕ → List ProducerEvent → Bool
stays_within first [] = true
stays_within first (event ∷ earlier) = is_allowed first (link_events first earlier) event && stays_within first earlier

-- Whichever events came before: where the earlier counters are their counts, the later ones are the counts with this
-- event in front.
abbrev pub CountsEvent : Counters → Counters → ProducerEvent → Type 0
CountsEvent earlier later event =
    (first : ℕ) (past : List LinkEvent) → earlier ≡ counted first past → later ≡ counted first (link_event first past event ∷ past)

-- no more deliveries began since credit was last given than that gave
pub record IsWithinCredit (past : List LinkEvent) : Type 0 where
  pub begun : begun_since_given past ≤ last_given past
