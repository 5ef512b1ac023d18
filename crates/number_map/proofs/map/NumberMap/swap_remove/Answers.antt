use Rattle.std.proofs.Common.{IfSome, ap, is_some, refl, slice_get, subst, swap_remove, sym, ◌≡◌, ◌∙◌}
use Rattle.indexmap.proofs.MapLemmas.{swap_remove_entry-found}
use Rattle.indexmap.proofs.RemoveLemmas.{Out, none_out, swap_out}
use Rattle.number_map.proofs.Found.{some_at}
use Rattle.number_map.proofs.map.NumberMap.swap_remove.Given.{Over}
use Rattle.number_map.proofs.map.NumberMap.swap_remove.Goals as goal

pub returns-in_default-clause-updates : goal.returns-in_default-clause-updates
returns-in_default-clause-updates g c =
    let eq = g.K.PartialEq.eq in
    let laws = g.met.K.Eq.laws in
    none_out eq laws (eq c.args.key.now) (laws.congr c.args.key.now) c.args.self.now.entries c.args.self.now.entries (sym c.in_default.ensures.index) refl

pub unwrap-value-requires : goal.unwrap-value-requires
unwrap-value-requires g c =
    ap is_some (c.swap_remove_index.ensures.entry ∙ ap (λ m. slice_get m.entries c.in-Some.index) c.self.view_is)
    ∙ some_at c.args.self.now.entries c.in-Some.index c.in-Some.ensures.within

-- the last entry stands in the place of the one that went
left : (g : Over) (c : goal.After-note_moved g) → c.note_moved.new.self.entries ≡ swap_remove c.args.self.now.entries c.in-Some.index c.unwrap-value.result
left g c =
    let old = c.self.inside.entries in
    let after = subst (λ r. IfSome r (λ p. c.swap_remove_index.new.self.entries ≡ swap_remove old.entries c.in-Some.index p)) c.unwrap-value.ensures c.swap_remove_index.ensures.entries in
    ap (λ m. m.entries) c.note_moved.ensures ∙ after ∙ ap (λ m. swap_remove m.entries c.in-Some.index c.unwrap-value.result) c.self.view_is

-- what went, and what is left
went : (g : Over) (c : goal.After-note_moved g)
    → Out g.K.PartialEq.eq g.met.K.Eq.laws (g.K.PartialEq.eq c.args.key.now) c.args.self.now.entries c.note_moved.new.self.entries c.unwrap-value.result
went g c =
    let eq = g.K.PartialEq.eq in
    let laws = g.met.K.Eq.laws in
    let es = c.args.self.now.entries in
    let took = ap (λ m. slice_get m.entries c.in-Some.index) (sym c.self.view_is) ∙ sym c.swap_remove_index.ensures.entry ∙ c.unwrap-value.ensures in
    swap_out eq laws (eq c.args.key.now) (laws.congr c.args.key.now) es c.in-Some.index c.unwrap-value.result (sym c.in-Some.ensures.index) took c.in-Some.ensures.unique c.note_moved.new.self.entries (left g c)

pub returns-clause-value : goal.returns-clause-value
returns-clause-value g c = (went g c).value

pub returns-clause-updates : goal.returns-clause-updates
returns-clause-updates g c = (went g c).updated

pub returns-clause-entries : goal.returns-clause-entries
returns-clause-entries g c =
    left g c ∙ sym (swap_remove_entry-found (g.K.PartialEq.eq c.args.key.now) c.args.self.now.entries c.in-Some.index c.unwrap-value.result (sym c.in-Some.ensures.index))
