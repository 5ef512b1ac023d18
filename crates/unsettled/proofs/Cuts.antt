-- One cut more.
use Rattle.std.proofs.Common.{◌≡◌, ◌∙◌, ap, ℕ, ◌+◌, ◌<◌, List, [], ◌∷◌, ◌++◌, length, length-append, append-nil}
use Rattle.std.proofs.lemmas.List.Elements.{All-push, All-same}
use Rattle.std.proofs.lemmas.List.Folds.{concat-append}
use Rattle.unsettled.specs.Cuts.{octets_of, AreFilled}

pub octets_of-push : (cuts later : List (List ℕ)) (cut : List ℕ) → later ≡ cuts ++ cut ∷ [] → octets_of later ≡ octets_of cuts ++ cut
octets_of-push cuts later cut is = ap octets_of is ∙ concat-append cuts (cut ∷ []) ∙ ap (λ (t : List ℕ). octets_of cuts ++ t) (append-nil cut)

pub count_of-push : (cuts later : List (List ℕ)) (cut : List ℕ) → later ≡ cuts ++ cut ∷ [] → length (octets_of later) ≡ length (octets_of cuts) + length cut
count_of-push cuts later cut is = ap length (octets_of-push cuts later cut is) ∙ length-append (octets_of cuts) cut

pub AreFilled-push : (cuts later : List (List ℕ)) (cut : List ℕ) → later ≡ cuts ++ cut ∷ [] → AreFilled cuts → 0 < length cut → AreFilled later
AreFilled-push cuts later cut is filled some = All-same (λ c. 0 < length c) later (cuts ++ cut ∷ []) is (All-push (λ c. 0 < length c) cuts cut filled some)
