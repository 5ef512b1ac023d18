use Rattle.std.proofs.Common.{◌≡◌, IfSome, Some, ap, is_some, slice_get, subst, sym, ◌∙◌}
use Rattle.indexmap.specs.IndexMap.{get, index_of, values}
use Rattle.indexmap.proofs.MapLemmas.{some_index, value_index}
use Rattle.number_map.proofs.Found.{index_at}
use Rattle.number_map.proofs.map.NumberMap.index_of.Goals as goal

pub returns-in-Some-clause-index : goal.returns-in-Some-clause-index
returns-in-Some-clause-index g c =
    let eq = g.K.PartialEq.eq in
    let at = index_at eq g.met.K.Eq.laws c.self.inside.entries.entries c.place-place.result c.args.key c.in-Some.found.now c.in-Some.field-0-1.now c.len-len.ensures.unique (sym c.in-Some.ensures.entry) (sym c.eq.ensures ∙ c.if-eq.true) in
    sym (subst (λ m. index_of eq m c.args.key ≡ Some c.place-place.result) c.self.view_is at)

pub returns-in-Some-clause-value : goal.returns-in-Some-clause-value
returns-in-Some-clause-value g c =
    let t = g.K.PartialEq.eq c.args.key in
    subst (λ r. IfSome r (λ i. slice_get (values c.args.self.now) i ≡ get g.K.PartialEq.eq c.args.self.now c.args.key)) (sym (returns-in-Some-clause-index g c)) (value_index t c.args.self.now.entries)

pub returns-in_default-clause-value : goal.returns-in_default-clause-value
returns-in_default-clause-value g c =
    let t = g.K.PartialEq.eq c.args.key in
    subst (λ r. IfSome r (λ i. slice_get (values c.args.self.now) i ≡ get g.K.PartialEq.eq c.args.self.now c.args.key)) (sym c.sought.ensures) (value_index t c.args.self.now.entries)

pub returns-in_default-clause-found : goal.returns-in_default-clause-found
returns-in_default-clause-found g c = ap is_some c.sought.ensures ∙ some_index (g.K.PartialEq.eq c.args.key) c.args.self.now.entries
