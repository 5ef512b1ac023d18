-- What happens on a consumer's link, and whether its credit allows it.
use Rattle.std.specs.Prelude.{ℕ, ◌≡◌, ◌≤◌, Bool, true, ◌&&◌, List, [], ◌∷◌, Some, nat_lt}
use Rattle.flow_counts.specs.Serial.{serial_add}
use Rattle.flow_counts.specs.Credit as links
use Rattle.flow_counts.specs.Credit.{LinkEvent, delivery_count, credit, is_draining, granted_credit, begun_since_grant}
use Rattle.link_credit.specs.declared.history.ConsumerEvent.{ConsumerEvent}
use Rattle.link_credit.specs.declared.history.ConsumerEvent.TheVariants.{TheirFlow, Begun, Told, DrainAnswer}
use Rattle.link_credit.specs.SenderCounts.{Counters, counted}

-- the link's event that it is after these: a flow to the client has the numbers that the link has come to, and a drain
-- answer those to which the credit left would take it (part 2 of the standard, section 2.6.7)
abbrev pub link_event : ℕ → List LinkEvent → ConsumerEvent → LinkEvent
link_event first past (TheirFlow known given drain) = links.TheirFlow known given drain
link_event first past Begun = links.Begun
link_event first past Told = links.OurFlow (Some (delivery_count first past)) (Some (credit first past)) (is_draining past)
link_event first past DrainAnswer = links.OurFlow (Some (serial_add (delivery_count first past) (credit first past))) (Some 0) true

-- the link's events, the newest first
abbrev pub link_events : ℕ → List ConsumerEvent → List LinkEvent
link_events first [] = []
link_events first (event ∷ earlier) = let past = link_events first earlier in link_event first past event ∷ past

-- a delivery wants credit to begin, and a drain answer credit to give back and a client that asks for it
abbrev pub is_allowed : ℕ → List LinkEvent → ConsumerEvent → Bool
is_allowed first past Begun = nat_lt 0 (credit first past)
is_allowed first past DrainAnswer = is_draining past && nat_lt 0 (credit first past)
is_allowed first past _ = true

-- each event was allowed when it happened
abbrev pub stays_within : ℕ → List ConsumerEvent → Bool
stays_within first [] = true
stays_within first (event ∷ earlier) = is_allowed first (link_events first earlier) event && stays_within first earlier

-- Whichever events came before: where the earlier counters are their counts, the later ones are the counts with this
-- event in front.
abbrev pub CountsEvent : Counters → Counters → ConsumerEvent → Type 0
CountsEvent earlier later event =
    (first : ℕ) (past : List LinkEvent) → earlier ≡ counted first past → later ≡ counted first (link_event first past event ∷ past)

-- no more deliveries began since the client's last grant, or since its drain was answered, than that left
pub record IsWithinCredit (first : ℕ) (past : List LinkEvent) : Type 0 where
  pub begun : begun_since_grant past ≤ granted_credit first past
