-- What the words ask the router to serve, and what is wrong with them.
use Rattle.std.specs.Prelude.{◌≡◌, ℕ, ◌++◌, List, map, Any, Some, codes, decimal}
use Rattle.std.specs.declared.net.socket_addr.SocketAddrV4.{SocketAddrV4}
use Rattle.std.specs.Net.Grammar.{IsSocketV4Text}
use Rattle.capture_form.specs.Rules.{RuleText, serves_anonymous}
use Rattle.address_table.specs.Refusals.{fault_number, rules_fault}
use Rattle.address_table.specs.declared.fault.RulesFault.{RulesFault}
use Rattle.address_table.specs.declared.fault.RulesFault.TheVariants.{Memory}
use Rattle.router_words.specs.declared.fault.WordsFault.{WordsFault}
use Rattle.router_words.specs.declared.fault.WordsFault.TheVariants.{BadAddress, BadRule, RuleRefused, NoMemory}
use Rattle.router_words.specs.declared.service.Service.{Service}
use Rattle.router_words.specs.declared.words.Words.{Words}
use Rattle.router_words.specs.RuleWords.{SaysNothing, ask_anonymous, rule_text, spelling_words}

-- the text is an IPv4 address with its port
abbrev pub HasAddress : List ℕ → Type 0
HasAddress text = (address : SocketAddrV4) × IsSocketV4Text text address

-- the words behind the fourth
abbrev pub said : Words → List (List ℕ)
said words = map (λ word. word.now) words.rules.items

-- the rules that the words spell, in their order
abbrev pub AreSpelled : Words → List RuleText → Type 0
AreSpelled words rules = map rule_text rules ≡ spelling_words (said words)

-- what words ask to serve
pub record IsServiceOf (words : Words) (service : Service) : Type 0 where
  pub address : IsSocketV4Text words.listen.now service.address
  pub capture : service.capture.now ≡ words.capture.now
  pub workers : service.workers ≡ words.workers
  pub connections : service.connections ≡ words.connections
  pub rules : AreSpelled words service.rules.list
  pub anonymous : serves_anonymous service.rules ≡ ask_anonymous (said words)

-- each fault comes only for its cause, in this order (own format)
abbrev pub IsFaultOf : Words → WordsFault → Type 0
IsFaultOf words BadAddress = ¬ (HasAddress words.listen.now)
IsFaultOf words BadRule = HasAddress words.listen.now × Any (λ word. SaysNothing word.now) words.rules.items
IsFaultOf words (RuleRefused refusal) =
    HasAddress words.listen.now × ((rules : List RuleText) × AreSpelled words rules × (rules_fault rules ≡ Some refusal))
IsFaultOf words NoMemory = HasAddress words.listen.now

-- the fault of rules that are refused; want of memory is no refusal
abbrev pub fault_of_rules : RulesFault → WordsFault
fault_of_rules Memory = NoMemory
fault_of_rules refusal = RuleRefused refusal

-- the line of a fault, without its newline (own format)
abbrev pub fault_line : WordsFault → List ℕ
fault_line BadAddress = codes "bad address"
fault_line BadRule = codes "bad rule"
fault_line (RuleRefused refusal) = codes "rule refused number=" ++ decimal (fault_number refusal)
fault_line NoMemory = codes "no memory"
