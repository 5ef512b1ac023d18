use Rattle.std.proofs.Common.{rules, of_calls, sym, nat_lt}
use Rattle.std.proofs.lemmas.List.Sorted.{IsPartitionPoint-from_clause}
use Rattle.number_runs.proofs.Places.{all_before, parted, point-before, point-from}
use Rattle.number_runs.proofs.runs.place.Goals as goal

pub returns-in-Some-clause-before : goal.returns-in-Some-clause-before
returns-in-Some-clause-before g c = λ apart.
    let runs = c.args.runs.now in
    let number = c.args.number in
    let point = IsPartitionPoint-from_clause (λ run. nat_lt run.last number) runs c.partition_point.result c.partition_point.ensures.partitioned (parted number 0 runs apart) (λ a r f k. search (rules, of_calls)) in
    point-before number runs c.partition_point.result point c.partition_point.ensures.bound

pub returns-in-Some-clause-behind : goal.returns-in-Some-clause-behind
returns-in-Some-clause-behind g c = λ apart.
    let runs = c.args.runs.now in
    let number = c.args.number in
    let point = IsPartitionPoint-from_clause (λ run. nat_lt run.last number) runs c.partition_point.result c.partition_point.ensures.partitioned (parted number 0 runs apart) (λ a r f k. search (rules, of_calls)) in
    point-from number runs c.partition_point.result point

pub returns-in_default-clause-before : goal.returns-in_default-clause-before
returns-in_default-clause-before g c = λ apart.
    all_before c.args.number c.args.runs.now c.in-Some.run'.now apart (sym c.in-Some.ensures.value) c.if-number-run.false
