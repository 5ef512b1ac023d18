-- The octets of the address of what an event completes.
use Rattle.std.specs.Prelude.{ℕ, List}
use Rattle.amqp_cuts.specs.Address.{address_octets}
use Rattle.state_answers.specs.declared.completed.CompletedAddress.{CompletedAddress}
use Rattle.state_answers.specs.declared.completed.CompletedAddress.TheVariants.{Lent, Copied}

-- those that are lent, or of its own
abbrev pub octets_of : CompletedAddress → List ℕ
octets_of (Lent octets) = octets.now
octets_of (Copied address) = address_octets address
