use Rattle.std.proofs.Common.{sym, ap, ◌∙◌, None, nat_eq, if◌then◌else◌}
use Rattle.indexmap.specs.IndexMap.{get}
use Rattle.number_groups.specs.Numbers.{is_among}
use Rattle.state_outgoing.specs.Carriers.{listed}
use Rattle.state_outgoing.proofs.Removed.{with-first}
use Rattle.state_outgoing.proofs.deliveries.remove_carriers.Goals as goal

pub returns-in-Some : goal.returns-in-Some
returns-in-Some c = λ n.
    let carriers = c.in-Some.carriers in
    let old = get nat_eq c.args.entries.now n in
    let now = get nat_eq c.remove.new.entries n in
    with-first old carriers.last carriers.earlier.items n now _ (c.remove.ensures n) (c.remove_all.ensures n ∙ ap (λ xs. if is_among xs n then None else now) c.deref.ensures.value)
    ∙ ap (λ o. if is_among (listed o) n then None else old) (sym c.in-Some.is)
