-- One record more of an audit, taken or refused.
use Rattle.std.proofs.Common.{◌≡◌, sym, ap, subst, ◌∙◌, ℕ, ◌+◌, ◌-◌, ◌≤◌, ◌<◌, ◌^◌, List, [], ◌∷◌, ◌++◌, length, arith}
use Rattle.std.specs.Prelude.{min}
use Rattle.std.proofs.Math.Nat.{min-eq_left}
use Rattle.std.proofs.lemmas.List.{length-append}
use Rattle.capture_form.specs.declared.records.Record.{Record}
use Rattle.capture_view.specs.Viewed.{Viewed, view_of}
use Rattle.capture_view.specs.declared.names.Names.{Names}
use Rattle.capture_view.specs.Tables.{StandsFor as NamesStand, TakesOneMore as NamesTake}
use Rattle.capture_words.specs.Taken.{views_of}
use Rattle.capture_words.proofs.Streaming.{views_push}
use Rattle.refusal_words.specs.Tables.{StandsFor as OriginsStand, TakesOneMore as OriginsTake}
use Rattle.refusal_words.specs.declared.origins.Origins.{Origins}
use Rattle.refusal_showing.specs.declared.explaining.Explaining.{Explaining}
use Rattle.refusal_showing.specs.Seen.{HasSeen}

-- what is known behind a record that was taken
pub seen : (before : Explaining) (names : Names) (origins : Origins) (taken : ℕ) (entry : Record) (view : Viewed) → view ≡ view_of before.taken entry
    → NamesTake before.names names view → OriginsTake before.origins origins view → taken ≡ min (before.taken + 1) (2 ^ 64 - 1)
    → (records : List Record) → HasSeen before records → length (records ++ entry ∷ []) < 2 ^ 64
    → (taken ≡ length (records ++ entry ∷ [])) × (NamesStand names (views_of (records ++ entry ∷ [])) × OriginsStand origins (views_of (records ++ entry ∷ [])))
seen before names origins taken entry view is named from counted records known few =
    let longer : length (records ++ entry ∷ []) ≡ length records + 1 = length-append records (entry ∷ []) in
    let have = known (omega (arith, few, longer)) in
    let at : view ≡ view_of (length records) entry = is ∙ ap (λ n. view_of n entry) have.0 in
    let place : length records ≡ 0 + length records = omega arith in
    let pushed : views_of (records ++ entry ∷ []) ≡ view_of (length records) entry ∷ views_of records = views_push [] 0 records entry (length records) place in
    let room : before.taken + 1 ≤ 2 ^ 64 - 1 = omega (arith, few, longer, have.0) in
    let number : taken ≡ length (records ++ entry ∷ []) = omega (arith, counted ∙ min-eq_left room, longer, have.0) in (
      number,
      (
        subst (NamesStand names) (sym pushed) (subst (λ v. NamesStand names (v ∷ views_of records)) at (named (views_of records) have.1.0)),
        subst (OriginsStand origins) (sym pushed) (subst (λ v. OriginsStand origins (v ∷ views_of records)) at (from (views_of records) have.1.1)),
      ),
    )
