-- Deliveries from clients that a table has let go, by their numbers.
use Rattle.std.specs.Prelude.{ℕ, Bool, false, List, ◌==◌}
use Rattle.std.specs.List.{list_any}
use Rattle.pairing_cert.specs.declared.note.Note.{Note}
use Rattle.pairing_cert.specs.declared.note.Note.TheVariants as notes

-- the delivery of this number is one of those that were let go
abbrev pub is_let_go : List (ℕ × Unit {0}) → ℕ → Bool
is_let_go gone n = list_any (λ p. p.0 == n) gone

-- the note names one of them
abbrev pub names_let_go : List (ℕ × Unit {0}) → Note → Bool
names_let_go gone (notes.Pair n) = is_let_go gone n
names_let_go gone notes.None = false
names_let_go gone (notes.Told why) = false
