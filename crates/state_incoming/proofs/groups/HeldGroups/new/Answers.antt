use Rattle.std.proofs.Common.{ap}
use Rattle.number_groups.specs.Numbers.{is_among}
use Rattle.state_incoming.proofs.groups.HeldGroups.new.Goals as goal

pub returns : goal.returns
returns c = record {
  arriving = λ link n. ap (λ xs. is_among xs n) (c.new.ensures link);
  undecided = λ link n. ap (λ xs. is_among xs n) (c.new-2.ensures link);
  of_session = λ session n. ap (λ xs. is_among xs n) (c.new-3.ensures session);
  in_use = λ key n. ap (λ xs. is_among xs n) (c.new-4.ensures key);
  waiting = λ address n. ap (λ xs. is_among xs n) (c.new-5.ensures address);
  numbered = λ n. tt;
}
