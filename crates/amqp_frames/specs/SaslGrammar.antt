-- Which octets say something in a SASL exchange: a list described by its code or its name, whose items fit the table of
-- its fields (part 1 of the standard, section 1.4; part 5, section 5.3.3).
use Rattle.std.specs.Prelude.{◌≡◌, ℕ, List, ◌++◌, Some}
use Rattle.amqp_types.specs.declared.code.Kind.TheVariants as kinds
use Rattle.amqp_types.specs.Part.{Part, Seen, Nested, Described}
use Rattle.amqp_types.specs.Grammar.{IsValue, AreValuesOf}
use Rattle.flow_counts.specs.declared.profile.TheConstants.{MAX_DEPTH}
use Rattle.amqp_perf.specs.Grammar.{AreFields}
use Rattle.amqp_frames.specs.declared.sasl.SaslKind.{SaslKind}
use Rattle.amqp_frames.specs.Sasl.{Saying, kind_named, sasl_table, saying_of}

-- a described list, and what it says
pub record IsSasl (octets : List ℕ) (saying : Saying) : Type 0 where
  pub descriptor : List ℕ
  pub described : List ℕ
  pub whole : IsValue MAX_DEPTH octets (Described descriptor described)
  pub says : Part
  pub descriptor_is : IsValue MAX_DEPTH descriptor says
  pub kind : SaslKind
  pub names : kind_named says ≡ Some kind
  pub count : ℕ
  pub body : List ℕ
  pub list : IsValue MAX_DEPTH described (Nested kinds.List count body)
  pub values : List Seen
  pub items : AreValuesOf count body values
  pub fit : AreFields (sasl_table kind) values
  pub means : saying ≡ saying_of kind values

-- such a list at the front of a frame's body; what stands behind it is passed over (own rule)
pub record IsSaslFront (body : List ℕ) (saying : Saying) : Type 0 where
  pub front : List ℕ
  pub rest : List ℕ
  pub parts : body ≡ front ++ rest
  pub is : IsSasl front saying
