-- The links of each address, after those of one have changed.
use Rattle.std.proofs.Common.{◌≡◌, ◌∙◌, ap, sym, subst, refl, ℕ, Bool, true, false, cond, List, Option, String, Result, Ok, Err, OnErr, bytes_eq}
use Rattle.std.specs.HashMap.{HashMap, get_by_text}
use Rattle.std.proofs.lemmas.Cmp.{nat_list_eq_equiv}
use Rattle.std.proofs.lemmas.Slice.Eq.{bytes_eq-Decides}

pub on_err : {A E : Type 0} {P : Type 0} (r : Result A E) → P → OnErr r P
on_err (Ok x) p = tt
on_err (Err e) p = p

same : (xs ys : List ℕ) → bytes_eq xs ys ≡ true → xs ≡ ys
same xs ys e = (bytes_eq-Decides xs ys).0 e

module _ {Y V B S : Type 0} (seen : Option V → B) (m n : HashMap (String Y) V S) (address : List ℕ) (w : Option V)
    (updates : (at : List ℕ) → get_by_text n at ≡ cond (bytes_eq address at) w (get_by_text m at)) where
  pub written : (g : B → B) → seen w ≡ g (seen (get_by_text m address)) → (at : List ℕ)
      → seen (get_by_text n at) ≡ cond (bytes_eq at address) (g (seen (get_by_text m at))) (seen (get_by_text m at))
  written g is at = ap seen (updates at) ∙ by (bytes_eq address at) refl
    where
      by : (b : Bool) → bytes_eq address at ≡ b → seen (cond b w (get_by_text m at)) ≡ cond (bytes_eq at address) (g (seen (get_by_text m at))) (seen (get_by_text m at))
      by true e =
          subst (λ k. seen w ≡ cond (bytes_eq k address) (g (seen (get_by_text m k))) (seen (get_by_text m k))) (same address at e)
          (is ∙ ap (λ b. cond b (g (seen (get_by_text m address))) (seen (get_by_text m address))) (sym (nat_list_eq_equiv.refl address)))
      by false e = ap (λ b. cond b (g (seen (get_by_text m at))) (seen (get_by_text m at))) (sym (sym (nat_list_eq_equiv.symm address at) ∙ e))

  pub kept : seen w ≡ seen (get_by_text m address) → (at : List ℕ) → seen (get_by_text n at) ≡ seen (get_by_text m at)
  kept is at = ap seen (updates at) ∙ by (bytes_eq address at) refl
    where
      by : (b : Bool) → bytes_eq address at ≡ b → seen (cond b w (get_by_text m at)) ≡ seen (get_by_text m at)
      by true e = subst (λ k. seen w ≡ seen (get_by_text m k)) (same address at e) is
      by false e = refl

-- a second change at the same address
pub twice : {A : Type 0} (b : Bool) (w v x : A) → cond b w (cond b v x) ≡ cond b w x
twice true w v x = refl
twice false w v x = refl
