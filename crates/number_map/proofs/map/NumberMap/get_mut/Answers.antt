use Rattle.std.proofs.Common.{ap, is_some, refl, sym, true≢false, ◌∙◌}
use Rattle.std.proofs.lemmas.Option.{get_or_from_slice_get, slice_get_within}
use Rattle.indexmap.specs.IndexMap.{values}
use Rattle.indexmap.proofs.MapLemmas.{Found-position, Missing-position}
use Rattle.number_map.proofs.Found.{unset, written}
use Rattle.number_map.proofs.map.NumberMap.get_mut.Goals as goal

pub returns-in-Some : goal.returns-in-Some
returns-in-Some g c =
    let eq = g.K.PartialEq.eq in
    let m = c.args.self.now in
    let index = sym c.in-Some.ensures.index in
    let f = Found-position (eq c.args.key.now) m.entries _ index in
    let value = c.value_at.ensures.value in
    let unique = c.index_of.ensures.unique in (
      (refl, written eq g.met.K.Eq.laws m _ c.args.key.now index _ value unique, refl),
      record {
        writes_back = tt;
        value = sym (f.value ∙ value);
        member = (c.in-Some.index, (slice_get_within (values m) c.in-Some.index c.value_at.result.now value, sym (get_or_from_slice_get (values m) c.in-Some.index c.value_at.result.now c.value_at.result.now value)));
        unique = unique;
      },
    )

pub returns-in-None : goal.returns-in-None
returns-in-None g c =
    let eq = g.K.PartialEq.eq in
    let m = Missing-position (eq c.args.key.now) c.args.self.now.entries (sym c.in-None.ensures.index) in
    let unique = c.index_of.ensures.unique in (
      (refl, λ w. (unset _ _ w m.value, refl, refl, (λ s. absurd (true≢false (sym s ∙ ap is_some m.value))), unique, refl, refl), refl),
      record { writes_back = tt; value = sym m.value; member = tt; unique = unique },
    )
