-- A part that goes on with the delivery in progress.
use Rattle.std.proofs.Common.{◌≡◌, ◌∙◌, ap, sym, subst, refl, ℕ, Bool, true, false, cond, List, Option, Some, ◌||◌, nat_eq, arith}
use Rattle.std.proofs.lemmas.Bool.{eqb-true}
use Rattle.std.proofs.lemmas.Bool.Decides.{nat_tests}
use Rattle.flow_counts.specs.Parts.{Partial, Part, joined, begins, in_progress, is_in_use}
use Rattle.unsettled.specs.declared.inbound.Inbound.{Inbound}
use Rattle.unsettled.specs.Deliveries.{partial_on, is_taken, CountsOneMore}

eq_refl : (x : ℕ) → nat_eq x x ≡ true
eq_refl x = grind (arith, nat_tests)

eq_false : (x y : ℕ) → nat_eq x y ≡ false → nat_eq y x ≡ false
eq_false x y e = grind (arith, nat_tests)

-- what is written at a link, read at any
at : (link q : ℕ) (f : ℕ → Option Partial) (w : Option Partial → Option Partial) (v : Option Partial) → v ≡ w (f link) → (b : Bool) → nat_eq link q ≡ b
    → cond b v (f q) ≡ cond (nat_eq q link) (w (f q)) (f q)
at link q f w v is true e =
    subst (λ k. v ≡ cond (nat_eq k link) (w (f k)) (f k)) (eqb-true link q e) (is ∙ ap (λ b. cond b (w (f link)) (f link)) (sym (eq_refl link)))
at link q f w v is false e = ap (λ b. cond b (w (f q)) (f q)) (sym (eq_false link q e))

pub goes_on : (earlier later : Inbound) (link number : ℕ) (id : Option ℕ) (payload : List ℕ) (partial next : Partial)
    → ((q : ℕ) → partial_on later q ≡ cond (nat_eq link q) (Some next) (partial_on earlier q)) → partial_on earlier link ≡ Some partial
    → next ≡ joined (Some partial) number id payload → ((q : ℕ) → is_taken later q ≡ is_taken earlier q)
    → CountsOneMore earlier later (Part link number id payload)
goes_on earlier later link number id payload partial next writes there is same = λ past count.
    let before : in_progress link past ≡ Some partial = sym (count.deliveries link) ∙ there in
    let w : Option Partial → Option Partial = λ d. Some (joined d number id payload) in
    record {
      deliveries = λ q. writes q ∙ ap (λ d. cond (nat_eq link q) (Some next) d) (count.deliveries q)
          ∙ at link q (λ k. in_progress k past) w (Some next) (ap (λ p. Some p) is ∙ ap w (sym before)) (nat_eq link q) refl;
      ids = λ q. same q ∙ count.ids q ∙ ap (λ d. begins q d id || is_in_use q past) (sym before);
    }
