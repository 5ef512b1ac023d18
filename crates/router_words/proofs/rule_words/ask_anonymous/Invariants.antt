use Rattle.std.proofs.Common.{◌≡◌, map, take}
use Rattle.router_words.specs.RuleWords.{ask_anonymous}
use Rattle.router_words.proofs.rule_words.ask_anonymous.Given as goal

-- whether one of the words so far is it
abbrev pub invariant-loop-word : goal.invariant-loop-word
invariant-loop-word l = l.asked ≡ ask_anonymous (map (λ word. word.now) (take l.word-index l.words))
