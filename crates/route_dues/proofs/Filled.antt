-- A transfer that is filled carries the next octets of its delivery, and says whether more follow.
use Rattle.std.proofs.Common.{◌≡◌, refl, sym, ap, ◌∙◌, ℕ, ◌+◌, ◌<◌, Bool, true, false, List, ◌++◌, length, take, drop, take_all, ltb-true, arith, nat_lt}
use Rattle.std.proofs.lemmas.Bool.{ltb-false}
use Rattle.std.proofs.lemmas.List.{take-append-drop, length-append, length-take-le}
use Rattle.std.proofs.Math.Seq.{take-append-add}
use lib.Pointwise.{bytes_decides}
use Rattle.trace_events.specs.TransferClause.{is_payload_so_far}

module _ (room : ℕ) (whole so_far : List ℕ) (first : so_far ≡ take (length so_far) whole) where
  abbrev rest : List ℕ
  rest = drop (length so_far) whole

  joined : so_far ++ rest ≡ whole
  joined = ap (λ xs. xs ++ rest) first ∙ take-append-drop (length so_far) whole

  in_front : room < length rest → so_far ++ take room rest ≡ take (length (so_far ++ take room rest)) whole
  in_front lt =
      let long : length (so_far ++ take room rest) ≡ length so_far + room =
      length-append so_far (take room rest) ∙ ap (λ n. length so_far + n) (length-take-le room rest (omega (arith, lt))) in
      sym (take-append-add so_far rest room) ∙ (ap (take (length so_far + room)) joined ∙ ap (λ n. take n whole) (sym long))

  filled_by : (more : Bool) → nat_lt room (length rest) ≡ more → is_payload_so_far more whole (so_far ++ take room rest) ≡ true
  filled_by true is =
      (bytes_decides (so_far ++ take room rest) (take (length (so_far ++ take room rest)) whole)).1 (in_front (ltb-true room (length rest) is))
  filled_by false is =
      (bytes_decides whole (so_far ++ take room rest)).1
      (sym (ap (λ xs. so_far ++ xs) (take_all room rest (ltb-false room (length rest) is)) ∙ joined))

  pub filled_carries : is_payload_so_far (nat_lt room (length rest)) whole (so_far ++ take room rest) ≡ true
  filled_carries = filled_by (nat_lt room (length rest)) refl
