-- What lists keep, step by step.
use Rattle.std.proofs.Common.{◌≡◌, sym, ap, ◌∙◌, ◌<◌, ◌+◌, ℕ, Bool, true, false, ◌||◌, inl, inr, ◌⊎◌, List, length, take, get_or, Some, nat_eq, ◌==◌, eqb-true}
use Rattle.std.specs.List.{list_any, slice_get}
use Rattle.std.proofs.lemmas.List.Folds.{list_any_more}
use Rattle.std.proofs.lemmas.Option.{slice_get-get_or}
use Rattle.state_tables.specs.declared.copies.Receiver.{Receiver}
use Rattle.due_lists.specs.UnsentNumbers.{AreWith, IsIn, IsKept, IsKeptBut, Stays, receives}
use Rattle.due_lists.specs.declared.unsent_numbers.UnsentNumbers.{UnsentNumbers}

pub kept-later : (a b c : UnsentNumbers) → IsKept a b → IsKept b c → IsKept a c
kept-later a b c first second = record {
  listed = λ link k. second.listed link k ∙ first.listed link k;
  stood = λ session n. second.stood session n ∙ first.stood session n;
  waited = λ k n is. second.waited k n (first.waited k n is);
}

either : (a b : Bool) → a || b ≡ true → (a ≡ true) ⊎ (b ≡ true)
either true b is = inl is
either false b is = inr is

-- of the numbers up to this one each is before it, or the one that is found
pub among-more : (xs : List ℕ) (i n : ℕ) → i < length xs → list_any (nat_eq n) (take (i + 1) xs) ≡ true
    → (list_any (nat_eq n) (take i xs) ≡ true) ⊎ (slice_get xs i ≡ Some n)
among-more xs i n lt is = elim (either (list_any (nat_eq n) (take i xs)) (nat_eq n (get_or xs i 0)) (sym (list_any_more (nat_eq n) xs i 0 lt) ∙ is)) [
  | inl before ↦ inl before
  | inr here ↦ inr (slice_get-get_or xs i 0 lt ∙ ap Some (sym (eqb-true n (get_or xs i 0) here)))
]

-- ---- one delivery to the links of its receivers, one after the other

pub kept_but-later : (completion : ℕ) (a b c : UnsentNumbers) → IsKeptBut completion a b → IsKeptBut completion b c → IsKeptBut completion a c
kept_but-later completion a b c first second = record {
  listed = λ link k other. second.listed link k other ∙ first.listed link k other;
  stood = λ session n is. second.stood session n (first.stood session n is);
  waited = λ k n is. second.waited k n (first.waited k n is);
}

pub with-later : (completion number : ℕ) (a b c : UnsentNumbers) → AreWith completion number a b → AreWith completion number b c → AreWith completion number a c
with-later completion number a b c first second link k n is = elim (second link k n is) [
  | inl was ↦ first link k n was
  | inr own ↦ inr own
]

pub in-later : (session link completion n : ℕ) (a b : UnsentNumbers) → IsKeptBut completion a b → Stays completion n a b → IsIn a session link completion n → IsIn b session link completion n
in-later session link completion n a b kept stays there = record {
  listed = stays link there.listed;
  stands = kept.stood session link there.stands;
  waits = (there.waits.0, kept.waited there.waits.0 link there.waits.1);
}

pub receives-more : (receivers : List Receiver) (i : ℕ) (d : Receiver) (n : ℕ) → i < length receivers → receives (take (i + 1) receivers) n ≡ true
    → (receives (take i receivers) n ≡ true) ⊎ ((get_or receivers i d).link ≡ n)
receives-more receivers i d n lt is =
    elim (either (receives (take i receivers) n) ((get_or receivers i d).link == n) (sym (list_any_more (λ (x : Receiver). x.link == n) receivers i d lt) ∙ is)) [
      | inl before ↦ inl before
      | inr here ↦ inr (eqb-true (get_or receivers i d).link n here)
    ]
