-- What lies on the desk of a connection (own rules).
use Rattle.std.specs.Prelude.{◌≡◌, ℕ, Bool, true, false, List, [], ◌∷◌, ◌++◌, map, All}
use Rattle.pairing_cert.specs.declared.note.Note.TheVariants as notes
use Rattle.capture_form.specs.declared.records.Record.{Record}
use Rattle.capture_form.specs.declared.records.What.{What}
use Rattle.capture_form.specs.Text.{IsRecord}
use Rattle.route_items.specs.Inputs.{is_output}

-- a desk as it is seen: the items that it took and the frames that it gave, in order; of these items those that lie in the inbox;
-- and the frames that lie in the outbox
pub record Laid : Type 0 where
  pub connection : ℕ
  pub items : List What
  pub frames : List (List ℕ)
  pub inbox : List Record
  pub due : List (List ℕ)

-- what happened, by the records that tell it
abbrev pub told_by : List Record → List What
told_by records = map (λ r. r.what) records

-- the frames of a log
abbrev pub logged : List (List ℕ × Unit {0}) → List (List ℕ)
logged items = map (λ p. p.0) items

-- what was taken and given before, with what lies there and what was given since
abbrev pub laid : List What → List (List ℕ) → ℕ → List Record → List (List ℕ) → List (List ℕ × Unit {0}) → Laid
laid items frames connection inbox outbox given =
    record { connection = connection; items = items ++ told_by inbox; frames = frames ++ logged given; inbox = inbox; due = outbox }

-- the record tells an item of the connection, which may be taken
pub record IsEntry (connection : ℕ) (entry : Record) : Type 0 where
  pub own : entry.connection ≡ connection
  pub input : is_output entry.what ≡ false
  pub bare : entry.note ≡ notes.None
  pub bounds : IsRecord entry

-- the inbox has records of items, and what was given and what lies in the outbox is what was due
pub record IsLaid (due : List (List ℕ)) (connection : ℕ) (inbox : List Record) (outbox : List (List ℕ)) (given : List (List ℕ × Unit {0})) : Type 0 where
  pub entries : All (IsEntry connection) inbox
  pub frames : logged given ++ outbox ≡ due

-- nothing lies there
abbrev pub is_empty : List (List ℕ) → Bool
is_empty [] = true
is_empty (frame ∷ frames) = false
