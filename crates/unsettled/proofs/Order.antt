-- The events so far, as a loop over them meets them.
use Rattle.std.proofs.Common.{◌≡◌, refl, ap, ℕ, ◌+◌, ◌<◌, ◌≤◌, List, [], ◌∷◌, length, take, get_or}
use Rattle.std.proofs.lemmas.List.{take_all}
use Rattle.flow_counts.proofs.Newest.{reverse-map-next}
use Rattle.unsettled.specs.declared.history.PartEvent.{PartEvent}
use Rattle.unsettled.specs.History.{part_event, parts_of}

pub parts_of-none : parts_of [] ≡ []
unfolding parts_of
parts_of-none = refl

-- one event further
pub parts_of-next : (events : List PartEvent) (i : ℕ) (d : PartEvent) → i < length events → parts_of (take (i + 1) events) ≡ part_event (get_or events i d) ∷ parts_of (take i events)
unfolding parts_of
parts_of-next events i d lt = reverse-map-next part_event events i d lt

-- all of them
pub parts_of-all : (events : List PartEvent) (i : ℕ) → length events ≤ i → parts_of (take i events) ≡ parts_of events
parts_of-all events i le = ap parts_of (take_all i events le)
