-- What ports took and gave, beside the one capture of a router.
use Rattle.std.specs.Prelude.{◌≡◌, ℕ, ◌+◌, Bool, true, ◌&&◌, ◌||◌, not, List, [], ◌∷◌, length, map, filter, nat_lt, ◌==◌}
use Rattle.std.specs.List.{list_all}
use Rattle.capture_form.specs.declared.records.What.{What}
use Rattle.capture_form.specs.declared.records.Record.{Record}
use Rattle.capture_form.specs.Rules.{RuleSet}
use Rattle.capture_form.specs.Text.{Trace, frame_of}
use Rattle.address_table.specs.Served.{AreSameRules}
use Rattle.trace_events.specs.Kept.{AreFirst}
use Rattle.route_items.specs.Inputs.{is_output}
use Rattle.route_items.specs.WrittenFrames.{writes_on}
use Rattle.core_exchange.specs.declared.seat.Seat.{Seat}

-- ---- what a capture has of a connection

-- the record is an input on the connection
abbrev pub is_input_on : ℕ → Record → Bool
is_input_on c r = (r.connection == c) && not (is_output r.what)

-- what its inputs were, in order
abbrev pub inputs_on : ℕ → List Record → List What
inputs_on c records = map (λ r. r.what) (filter (is_input_on c) records)

-- the frames that were written to it, in order
abbrev pub outs_on : ℕ → List Record → List (List ℕ)
outs_on c records = map (λ r. frame_of r.what) (filter (writes_on c) records)

-- the record is of one of the first connections, or writes a frame
abbrev pub is_owned_below : ℕ → Record → Bool
is_owned_below n r = is_output r.what || nat_lt r.connection n

-- all inputs are of the first connections
abbrev pub owned_below : ℕ → List Record → Bool
owned_below n records = list_all (is_owned_below n) records

-- ---- what seats tell of it

-- the seat is of connection k, and tells what the records have of it
pub record SeatAgrees (records : List Record) (k : ℕ) (seat : Seat) : Type 0 where
  pub conn : seat.conn ≡ k
  pub items : inputs_on k records ≡ seat.items.items
  pub frames : AreFirst seat.frames.items (outs_on k records)

-- the seats are those of connections k and up, and tell what the records have of them
abbrev pub SeatsAgree : List Record → ℕ → List Seat → Type 0
SeatsAgree records k [] = Unit {0}
SeatsAgree records k (seat ∷ seats) = SeatAgrees records k seat × SeatsAgree records (k + 1) seats

-- seat k is connection k's, there are no other inputs, and the rules are these
pub record Agrees (rules : RuleSet) (capture : Trace) (seats : List Seat) : Type 0 where
  pub rules_are : AreSameRules capture.rules rules
  pub each : SeatsAgree capture.records 0 seats
  pub owned : owned_below (length seats) capture.records ≡ true
