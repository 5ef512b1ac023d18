-- What the deliveries that come in from a client come to.
use Rattle.std.specs.Prelude.{ℕ, ◌≡◌, ◌==◌, Bool, ◌||◌, List, ◌∷◌, Option, Some, nat_eq, if◌then◌else◌}
use Rattle.indexmap.specs.IndexMap.{get}
use Rattle.indexmap.specs.IndexSet.{contains}
use Rattle.flow_counts.specs.Parts.{PartEvent, Partial, is_id, in_progress, is_in_use}
use Rattle.unsettled.specs.declared.inbound.Inbound.{Inbound}

-- the delivery in progress on a link
abbrev pub partial_on : Inbound → ℕ → Option Partial
partial_on inbound link = get nat_eq inbound.deliveries link

-- the id is in use
abbrev pub is_taken : Inbound → ℕ → Bool
is_taken inbound id = contains nat_eq inbound.ids id

-- it has come to what these events left
pub record IsCount (inbound : Inbound) (past : List PartEvent) : Type 0 where
  pub deliveries : (link : ℕ) → partial_on inbound link ≡ in_progress link past
  pub ids : (id : ℕ) → is_taken inbound id ≡ is_in_use id past

-- Whichever events came before: where the earlier one is what they left, the later one is what they left with this event
-- in front.
abbrev pub CountsOneMore : Inbound → Inbound → PartEvent → Type 0
CountsOneMore earlier later event = (past : List PartEvent) → IsCount earlier past → IsCount later (event ∷ past)

-- the deliveries and the ids are the same
pub record IsSame (earlier later : Inbound) : Type 0 where
  pub deliveries : (link : ℕ) → partial_on later link ≡ partial_on earlier link
  pub ids : (id : ℕ) → is_taken later id ≡ is_taken earlier id

-- the delivery has begun on the link, and its id is in use
pub record Begins (earlier later : Inbound) (link : ℕ) (partial : Partial) : Type 0 where
  pub deliveries : (on : ℕ) → partial_on later on ≡ (if on == link then Some partial else partial_on earlier on)
  pub ids : (id : ℕ) → is_taken later id ≡ (is_id id partial.id || is_taken earlier id)
