-- Whether words ask for anonymous senders, as each is looked at; and what words say, at values.
use Rattle.std.proofs.Common.{◌≡◌, refl, ap, ◌∙◌, ℕ, Bool, true, false, ◌||◌, List, [], ◌∷◌, ◌++◌, codes}
use Rattle.std.specs.List.{list_any}
use Rattle.std.proofs.lemmas.List.Folds.{list_any-append}
use Rattle.router_words.specs.RuleWords.{SaysNothing, ask_anonymous, is_anonymous, spelling_words}

last : (b : Bool) → (b || false) ≡ b
last true = refl
last false = refl

-- one word more
pub asked_with : (words : List (List ℕ)) (word : List ℕ) → ask_anonymous (words ++ word ∷ []) ≡ (ask_anonymous words || is_anonymous word)
asked_with words word = list_any-append is_anonymous words (word ∷ []) ∙ ap (λ b. list_any is_anonymous words || b) (last (is_anonymous word))

-- ---- at values

abbrev news : List ℕ
news = codes "multicast:news"

abbrev said : List ℕ
said = codes "anonymous"

-- without the word nobody asks
unasked : ask_anonymous (news ∷ []) ≡ false
unasked = refl

none-asked : ask_anonymous [] ≡ false
none-asked = refl

-- it may stand anywhere, and is no rule
asked : ask_anonymous (news ∷ said ∷ []) ≡ true
asked = refl

asked-in-front : ask_anonymous (said ∷ news ∷ []) ≡ true
asked-in-front = refl

spelled : spelling_words (said ∷ news ∷ []) ≡ news ∷ []
spelled = refl

-- a second one changes nothing
asked-twice : ask_anonymous (said ∷ news ∷ said ∷ []) ≡ true
asked-twice = refl

spelled-twice : spelling_words (said ∷ news ∷ said ∷ []) ≡ news ∷ []
spelled-twice = refl

-- a rule of that prefix, and a word that is not quite it, are not it
unasked-by-a-rule : ask_anonymous (codes "closest:anonymous" ∷ codes "anonymous:" ∷ codes "Anonymous" ∷ []) ≡ false
unasked-by-a-rule = refl

said-is-no-mistake : SaysNothing said → ⊥
said-is-no-mistake mistake = let clash : true ≡ false = mistake.0 in cc
