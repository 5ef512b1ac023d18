use Rattle.std.proofs.Common.{sym, ap, ◌∙◌, List, ℕ, Some, option_map}
use Rattle.amqp_cuts.specs.Address.{address_octets}
use Rattle.amqp_cuts.proofs.Listed.{lying}
use Rattle.amqp_cuts.proofs.ToOf.{to_of_is}
use Rattle.amqp_cuts.proofs.message.message_to.Goals as goal

pub returns-in_err-first : goal.returns-in_err-first
returns-in_err-first g c =
    let all = g.C.Cuts.octets c.args.payload.now in
    record {
      exact = ap (option_map address_octets) c.from_residual.ensures
          ∙ sym (ap (lying all) (sym c.find_address.ensures.exact ∙ c.in_err-first.was)) ∙ to_of_is all;
    }

pub returns : goal.returns
returns g c =
    let all = g.C.Cuts.octets c.args.payload.now in
    record {
      exact = ap (λ (octets : List ℕ). Some octets) c.copied.ensures
          ∙ sym (ap (lying all) (sym c.find_address.ensures.exact ∙ c.in_ok-first.was)) ∙ to_of_is all;
    }
