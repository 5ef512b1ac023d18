-- The records of a capture, taken one after the other.
use Rattle.std.proofs.Common.{◌≡◌, sym, ap, ◌∙◌, ℕ, suc, ◌+◌, ◌-◌, ◌<◌, ◌≤◌, List, [], ◌∷◌, Some, length, take, drop, slice_range, get_or, add-one, arith}
use Rattle.std.specs.List.{slice_get}
use Rattle.std.proofs.Math.Seq.{drop-cons}
use Rattle.capture_form.specs.declared.records.Record.{Record}
use Rattle.capture_form.specs.Rules.{RuleSet}
use Rattle.trace_events.specs.Event.{Event}
use Rattle.trace_events.specs.History.{judge, continued}
use Rattle.trace_events.specs.Clauses.{broken_clause}
use Rattle.trace_law.specs.Check.{broken_by_first}

module _ (rules : RuleSet) (past : List Event) (records : List Record) (from end : ℕ) (r : Record) (e : Event) (same : r ≡ get_or records from r) (judged : e ≡ judge rules past r) where
  first : from < length records → drop from records ≡ r ∷ drop (from + 1) records
  first lt = drop-cons records from r lt ∙ ap (λ n. get_or records from r ∷ drop n records) (sym (add-one from)) ∙ ap (λ x. x ∷ drop (from + 1) records) (sym same)

  split : from < end → end ≤ length records → slice_range records from end ≡ r ∷ slice_range records (from + 1) end
  split lt le =
      let one : end - from ≡ suc (end - (from + 1)) = omega (arith, lt) in
      ap (λ n. take n (drop from records)) one ∙ ap (take (suc (end - (from + 1)))) (first (omega (arith, lt, le)))

  -- one record further
  pub events-next : end ≤ length records → from < end → continued rules (e ∷ past) (slice_range records (from + 1) end) ≡ continued rules past (slice_range records from end)
  events-next le lt =
      ap (λ x. continued rules (x ∷ past) (slice_range records (from + 1) end)) judged ∙ sym (ap (continued rules past) (split lt le))

-- the record that is asked of is the first of those that are left
pub broken-next : (rules : RuleSet) (past : List Event) (rs : List Record) (r : Record) → Some r ≡ slice_get rs 0 → broken_clause rules (judge rules past r) past ≡ broken_by_first rules past rs
broken-next rules past [] r is = absurd cc
broken-next rules past (x ∷ rs) r is =
    let same : r ≡ x = cc in
    ap (λ (y : Record). broken_clause rules (judge rules past y) past) same
