use Rattle.std.proofs.Common.{ap}
use Rattle.number_groups.specs.Numbers.{is_among}
use Rattle.state_outgoing.proofs.groups.SentGroups.new.Goals as goal

pub returns : goal.returns
returns c = record {
  of_id = λ key n. ap (λ xs. is_among xs n) (c.new.ensures key);
  of_session = λ session n. ap (λ xs. is_among xs n) (c.new-2.ensures session);
  of_link = λ link n. ap (λ xs. is_among xs n) (c.new-3.ensures link);
  numbered = λ n. tt;
  counted = λ n. tt;
}
