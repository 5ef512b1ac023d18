-- A value as what its octets say: for what is nested in it stand the octets that it has there.
use Rattle.std.specs.Prelude.{ℕ, suc, ℤ, Bool, List, [], ◌∷◌, ◌++◌, Option, Some, None}
use Rattle.amqp_types.specs.declared.code.Text.{Text}
use Rattle.amqp_types.specs.declared.code.Kind.{Kind}
use Rattle.amqp_types.specs.declared.code.Opaque.{Opaque}
use Rattle.amqp_types.specs.declared.code.Code.{Code}

-- a descriptor in front of a constructor: the octets of both
pub record Tag : Type 0 where
  pub descriptor : List ℕ
  pub constructor : List ℕ

-- the constructor of an array's elements: its octets, how many descriptors stand in front of its
-- format code, that code, and the first descriptor, if there is one, with the constructor behind it
pub record Constructor : Type 0 where
  pub octets : List ℕ
  pub tags : ℕ
  pub code : Code
  pub tag : Option Tag

pub data Part : Type 0 where
  Null : Part
  Boolean : Bool → Part
  Ubyte : ℕ → Part
  Ushort : ℕ → Part
  Uint : ℕ → Part
  Ulong : ℕ → Part
  Byte : ℤ → Part
  Short : ℤ → Part
  Int : ℤ → Part
  Long : ℤ → Part
  -- a value whose data is kept as it is
  Kept : Opaque → List ℕ → Part
  -- a binary, a string or a symbol, and its octets
  Sized : Text → List ℕ → Part
  -- how many items, and their octets
  Nested : Kind → ℕ → List ℕ → Part
  -- the elements' constructor, if there is one, how many elements, and the octets of their data
  Array : Option Constructor → ℕ → List ℕ → Part
  -- the descriptor's octets, and those of the value that it describes
  Described : List ℕ → List ℕ → Part
  -- an element that its array's constructor describes: the descriptor's octets, those of the
  -- constructor behind it, and the data
  Tagged : List ℕ → List ℕ → List ℕ → Part

-- a value in the input: its own octets, and what they say
pub record Seen : Type 0 where
  pub octets : List ℕ
  pub part : Part

-- what an element says whose data says a part: the first descriptor of its array's constructor describes it
abbrev pub tagged : Option Tag → List ℕ → Part → Part
tagged None octets part = part
tagged (Some tag) octets part = Tagged tag.descriptor tag.constructor octets

-- a constructor that is a format code alone (part 1, 1.2)
abbrev pub code_alone : ℕ → Code → Constructor
code_alone first code = record { octets = first ∷ []; tags = 0; code = code; tag = None }

-- a constructor with a descriptor in front (part 1, 1.2)
abbrev pub code_behind : ℕ → List ℕ → Constructor → Constructor
code_behind first descriptor inner = record {
  octets = first ∷ (descriptor ++ inner.octets);
  tags = suc inner.tags;
  code = inner.code;
  tag = Some (record { descriptor = descriptor; constructor = inner.octets });
}
