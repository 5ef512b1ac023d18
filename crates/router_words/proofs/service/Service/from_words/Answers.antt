use Rattle.std.proofs.Common.{refl}
use Rattle.router_words.proofs.service.Service.from_words.Goals as goal

pub returns-in_default-clause-address : goal.returns-in_default-clause-address
returns-in_default-clause-address c = (λ same has. c.in_default.ensures.value has.0 has.1, λ none. refl)

pub returns-in_default-clause-fault : goal.returns-in_default-clause-fault
returns-in_default-clause-fault c = λ has. c.in_default.ensures.value has.0 has.1
