-- What a value says that is null, a boolean or a number without a sign.
use Rattle.std.specs.Prelude.{ℕ, Bool, List, [], ◌∷◌, Option, Some, None, option_map, option_and_then, is_some, Ok, Err, if◌then◌else◌}
use Rattle.amqp_types.specs.declared.simple.Simple.{Simple}
use Rattle.amqp_types.specs.declared.simple.Simple.TheVariants as simples
use Rattle.amqp_types.specs.Part.{Part, Null, Boolean, Ubyte, Ushort, Uint, Ulong, Seen}
use Rattle.amqp_types.specs.Reading.{Read}

-- what such a value says (part 1, 1.6.1 to 1.6.6)
abbrev pub simple_in : Part → Option Simple
simple_in Null = Some simples.Null
simple_in (Boolean b) = Some (simples.Boolean b)
simple_in (Ubyte n) = Some (simples.Ubyte n)
simple_in (Ushort n) = Some (simples.Ushort n)
simple_in (Uint n) = Some (simples.Uint n)
simple_in (Ulong n) = Some (simples.Ulong n)
simple_in other = None

-- what the first of some values says, if it is such a one
abbrev pub simple_first : List Seen → Option Simple
simple_first [] = None
simple_first (value ∷ others) = simple_in value.part

-- the values behind the first, if it is such a one, else all
abbrev pub behind_simple : List Seen → List Seen
behind_simple [] = []
behind_simple (value ∷ others) = if is_some (simple_in value.part) then others else value ∷ others

-- what the data says that was read, if it is such a one's, and what is behind it
abbrev pub simple_data : Read Part → Option (Simple × List ℕ)
simple_data (Ok x) = option_map (λ simple. (simple, x.1)) (simple_in x.0)
simple_data (Err fault) = None

-- what the value says that was read, if it is such a one, and what is behind it
abbrev pub simple_value : Read Seen → Option (Simple × List ℕ)
simple_value (Ok x) = option_map (λ simple. (simple, x.1)) (simple_in x.0.part)
simple_value (Err fault) = None

-- the number of a null or an uint: none of null
abbrev pub uint_said : Simple → Option (Option ℕ)
uint_said simples.Null = Some None
uint_said (simples.Uint n) = Some (Some n)
uint_said other = None

-- the boolean of a null or a boolean: none of null
abbrev pub boolean_said : Simple → Option (Option Bool)
boolean_said simples.Null = Some None
boolean_said (simples.Boolean b) = Some (Some b)
boolean_said other = None

-- what is wanted of what was read, and what is behind it
abbrev pub wanted : {A : Type 0} → (Simple → Option A) → Option (Simple × List ℕ) → Option (A × List ℕ)
wanted says None = None
wanted says (Some x) = option_map (λ a. (a, x.1)) (says x.0)

-- what is wanted of the first of some values, if it says it
abbrev pub first_wanted : {A : Type 0} → (Simple → Option A) → List Seen → Option A
first_wanted says values = option_and_then says (simple_first values)

-- the values behind the first, if it says what is wanted, else all
abbrev pub behind_wanted : {A : Type 0} → (Simple → Option A) → List Seen → List Seen
behind_wanted says [] = []
behind_wanted says (value ∷ others) = if is_some (option_and_then says (simple_in value.part)) then others else value ∷ others
