-- Words for contracts of any crate, over std alone.
use Rattle.std.specs.Prelude.{◌≡◌, Result, Ok, Err}

-- what a function returned, seen by view, is what the definition gives: the same value, or the same fault
abbrev pub Gives : {X Y E : Type 0} → (X → Y) → Result X E → Result Y E → Type 0
Gives view (Ok x) read = read ≡ Ok (view x)
Gives view (Err fault) read = read ≡ Err fault
