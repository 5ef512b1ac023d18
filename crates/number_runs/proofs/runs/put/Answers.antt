use Rattle.std.proofs.Common.{◌∷◌, ◌++◌, OnErr, drop, refl, subst, sym, take, true≢false}
use Rattle.std.proofs.lemmas.Result.{err_from_is_err_and}
use Rattle.number_runs.specs.Runs.{HasBefore, HasBehind, NeedsRun}
use Rattle.number_runs.proofs.Putting.{Is, put_alone, put_before, put_behind, put_between}
use Rattle.number_runs.proofs.Alone.{needs_run}
use Rattle.number_runs.proofs.runs.put.Given.{Over}
use Rattle.number_runs.proofs.runs.put.Goals as goal

pub returns-in_err-insert-in-false-false-clause-full :
    goal.returns-in_err-insert-in-false-false-clause-full
returns-in_err-insert-in-false-false-clause-full g c =
    let p = err_from_is_err_and c.from_residual.result c.from_residual.ensures.1 in
    let before = subst (λ runs. HasBefore c.args.number c.args.value c.args.place runs → ⊥) c.as_slice.ensures.value (λ has. true≢false (sym (c.in-false-false.ensures.1 has))) in
    let behind = subst (λ runs. HasBehind c.args.number c.args.value c.args.place runs → ⊥) c.as_slice-2.ensures.value (λ has. true≢false (sym (c.in-false-false.ensures'.1 has))) in
    subst (λ r. OnErr r (NeedsRun c.args.number c.args.value c.args.runs.now.items)) (sym p.1)
    (needs_run c.args.number c.args.value c.args.runs.now.items c.args.place c.requires.within c.requires.apart c.requires.before c.requires.behind before behind)

between : (g : Over) (c : goal.After-remove g) → Is c.args.number c.args.value 0 c.args.runs.now.items c.remove.new.self.items
between g c =
    let is = put_between c.args.number c.args.value c.args.runs.now.items c.args.place c.requires.apart c.requires.before c.requires.behind (subst (HasBefore c.args.number c.args.value c.args.place) c.as_slice.ensures.value (c.in-true-true.ensures.0 refl)) c.index_mut.result.now c.index_mut.ensures.value
    (subst (HasBehind c.args.number c.args.value c.args.place) c.as_slice-2.ensures.value (c.in-true-true.ensures'.0 refl)) c.index.result.now c.index.ensures in
    subst (Is c.args.number c.args.value 0 c.args.runs.now.items) (sym c.remove.ensures.items) is

pub returns-in-true-true-clause-put : goal.returns-in-true-true-clause-put
returns-in-true-true-clause-put g c = (between g c).puts

pub returns-in-true-true-clause-apart : goal.returns-in-true-true-clause-apart
returns-in-true-true-clause-apart g c = (between g c).apart

pub returns-in-true-false-clause-put : goal.returns-in-true-false-clause-put
returns-in-true-false-clause-put g c =
    (put_behind c.args.number c.args.value c.args.runs.now.items c.args.place c.requires.apart c.requires.before c.requires.behind (subst (HasBefore c.args.number c.args.value c.args.place) c.as_slice.ensures.value (c.in-true-false.ensures.0 refl)) c.index_mut-in-true-false.result.now c.index_mut-in-true-false.ensures.value).puts

pub returns-in-true-false-clause-apart : goal.returns-in-true-false-clause-apart
returns-in-true-false-clause-apart g c =
    (put_behind c.args.number c.args.value c.args.runs.now.items c.args.place c.requires.apart c.requires.before c.requires.behind (subst (HasBefore c.args.number c.args.value c.args.place) c.as_slice.ensures.value (c.in-true-false.ensures.0 refl)) c.index_mut-in-true-false.result.now c.index_mut-in-true-false.ensures.value).apart

pub returns-in-false-true-clause-put : goal.returns-in-false-true-clause-put
returns-in-false-true-clause-put g c =
    (put_before c.args.number c.args.value c.args.runs.now.items c.args.place c.requires.apart c.requires.before c.requires.behind (subst (HasBehind c.args.number c.args.value c.args.place) c.as_slice-2.ensures.value (c.in-false-true.ensures'.0 refl)) c.index_mut-in-false-true.result.now c.index_mut-in-false-true.ensures.value).puts

pub returns-in-false-true-clause-apart : goal.returns-in-false-true-clause-apart
returns-in-false-true-clause-apart g c =
    (put_before c.args.number c.args.value c.args.runs.now.items c.args.place c.requires.apart c.requires.before c.requires.behind (subst (HasBehind c.args.number c.args.value c.args.place) c.as_slice-2.ensures.value (c.in-false-true.ensures'.0 refl)) c.index_mut-in-false-true.result.now c.index_mut-in-false-true.ensures.value).apart

alone : (g : Over) (c : goal.In_ok-insert-in-false-false g) → Is c.args.number c.args.value 0 c.args.runs.now.items c.insert.new.self.items
alone g c =
    let is = put_alone c.args.number c.args.value c.args.runs.now.items c.args.place c.requires.apart c.requires.before c.requires.behind in
    let one = subst (λ x. Is c.args.number c.args.value 0 c.args.runs.now.items (take c.args.place c.args.runs.now.items ++ x ∷ drop c.args.place c.args.runs.now.items)) (sym c.of.ensures) is in
    subst (Is c.args.number c.args.value 0 c.args.runs.now.items) (sym c.in_ok-insert-in-false-false.ensures.items) one

pub returns-in_ok-insert-in-false-false-clause-put :
    goal.returns-in_ok-insert-in-false-false-clause-put
returns-in_ok-insert-in-false-false-clause-put g c = (alone g c).puts

pub returns-in_ok-insert-in-false-false-clause-apart :
    goal.returns-in_ok-insert-in-false-false-clause-apart
returns-in_ok-insert-in-false-false-clause-apart g c = (alone g c).apart
