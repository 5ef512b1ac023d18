use Rattle.std.proofs.Common.{◌≡◌, map, take}
use Rattle.router_words.specs.RuleWords.{rule_text, spelling_words}
use Rattle.router_words.proofs.rule_words.rules_in.Given as goal

-- the rules so far are those of the words so far
abbrev pub invariant-loop-word : goal.invariant-loop-word
invariant-loop-word l = map rule_text l.rules.items ≡ spelling_words (map (λ word. word.now) (take l.word-index l.words))
