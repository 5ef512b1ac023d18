-- Which addresses are to be looked at.
use Rattle.std.specs.Prelude.{◌≡◌, ◌&&◌, ℕ, Bool, true, List, Option, bytes_eq, option_map, slice_get, take}
use Rattle.std.specs.List.{list_any}
use Rattle.indexmap.specs.IndexSet.{contains_by, index_set_len}
use Rattle.trace_events.specs.Link.{is_consumer}
use Rattle.trace_events.specs.View.{link_view}
use Rattle.trace_events.specs.declared.event.Link as values
use Rattle.due_lists.specs.declared.addresses_to_try.AddressesToTry.{AddressesToTry}

-- the address is one of them
abbrev pub is_to_try : AddressesToTry → List ℕ → Bool
is_to_try to_try address = contains_by (λ kept. bytes_eq address kept.items) to_try.addresses

abbrev pub count_of : AddressesToTry → ℕ
count_of to_try = index_set_len to_try.addresses

-- the one at the index
abbrev pub address_at : AddressesToTry → ℕ → Option (List ℕ)
address_at to_try index = option_map (λ kept. kept.items) (slice_get to_try.addresses.keys index)

-- the address is one of the first so many
abbrev pub is_among_first : AddressesToTry → ℕ → List ℕ → Bool
is_among_first to_try n address = list_any (λ kept. bytes_eq address kept.items) (take n to_try.addresses.keys)

-- the link is a consumer's of this address
abbrev pub is_consumer_to : List ℕ → values.Link → Bool
is_consumer_to address link = is_consumer (link_view link) && bytes_eq (link_view link).address address

-- none went
abbrev pub IsKept : AddressesToTry → AddressesToTry → Type 0
IsKept earlier later = (address : List ℕ) → is_to_try earlier address ≡ true → is_to_try later address ≡ true
