-- How a rule is spelled, and the word that serves anonymous senders.
use Rattle.std.specs.Prelude.{◌≡◌, ◌≢◌, ℕ, Bool, false, not, List, ◌∷◌, ◌++◌, filter, Option, Some, None, codes, if◌then◌else◌}
use Rattle.std.specs.List.{list_any}
use Rattle.std.specs.Str.{bytes_eq}
use Rattle.capture_form.specs.Rules.{RuleText}
use Rattle.capture_form.specs.declared.rules.Distribution.{Distribution}
use Rattle.capture_form.specs.declared.rules.Distribution.TheVariants.{Closest, Balanced, Multicast}

-- the name of a distribution (own format)
abbrev pub distribution_name : Distribution → List ℕ
distribution_name Closest = codes "closest"
distribution_name Balanced = codes "balanced"
distribution_name Multicast = codes "multicast"

-- the distribution of a name
abbrev pub named_distribution : List ℕ → Option Distribution
named_distribution name =
    if bytes_eq name (codes "closest") then Some Closest
    else (if bytes_eq name (codes "balanced") then Some Balanced
    else (if bytes_eq name (codes "multicast") then Some Multicast else None))

-- the word of a rule: the name of its distribution, a colon (58) and its prefix (own format)
abbrev pub rule_word : Distribution → List ℕ → List ℕ
rule_word distribution prefix = distribution_name distribution ++ 58 ∷ prefix

abbrev pub rule_text : RuleText → List ℕ
rule_text rule = rule_word rule.distribution rule.prefix

-- the word is that of no rule
abbrev pub SpellsNoRule : List ℕ → Type 0
SpellsNoRule word = (distribution : Distribution) (prefix : List ℕ) → word ≢ rule_word distribution prefix

-- the word that says that anonymous senders are served (own format)
abbrev pub is_anonymous : List ℕ → Bool
is_anonymous word = bytes_eq word (codes "anonymous")

-- whether one of the words says so; a second one says nothing more
abbrev pub ask_anonymous : List (List ℕ) → Bool
ask_anonymous words = list_any is_anonymous words

-- the words that are to spell rules: the others, in their order
abbrev pub spelling_words : List (List ℕ) → List (List ℕ)
spelling_words words = filter (λ word. not (is_anonymous word)) words

-- the word is neither of these
abbrev pub SaysNothing : List ℕ → Type 0
SaysNothing word = (is_anonymous word ≡ false) × SpellsNoRule word
