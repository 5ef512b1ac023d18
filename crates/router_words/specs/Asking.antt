-- What the words of the command line ask for.
use Rattle.std.specs.Prelude.{◌≡◌, ◌⊎◌, ◌≤◌, ℕ, false, List, [], ◌∷◌, map, Result, MatchResult}
use Rattle.std.specs.List.{list_any}
use Rattle.std.specs.Str.Parse.{IsNumeral, digits_value, without_leading_plus}
use Rattle.clap.specs.Words.{kind_of}
use Rattle.clap.specs.declared.error.Error.{Error}
use Rattle.clap.specs.declared.error.kind.ErrorKind.{ErrorKind}
use Rattle.clap.specs.declared.error.kind.ErrorKind.TheVariants.{OutOfMemory, MissingRequiredArgument, ValueValidation}
use Rattle.program_ends.specs.Words.{is_option}
use Rattle.router_words.specs.declared.words.Words.{Words}

-- the word is the number in decimal digits, behind a plus or none
abbrev pub Spells : List ℕ → ℕ → Type 0
Spells word number = IsNumeral 10 (without_leading_plus word) × (digits_value 10 (without_leading_plus word) ≡ number)

-- it is so of a number from the least to the most
pub record SpellsWithin (least most : ℕ) (word : List ℕ) : Type 0 where
  pub number : ℕ
  pub spelled : Spells word number
  pub from : least ≤ number
  pub up_to : number ≤ most

-- what four words and the rules behind them ask for (own format)
pub record AreIn (first second third fourth : List ℕ) (others : List (List ℕ)) (words : Words) : Type 0 where
  pub listen : words.listen.now ≡ first
  pub capture : words.capture.now ≡ second
  pub workers : Spells third words.workers
  pub some_workers : 1 ≤ words.workers
  pub few_workers : words.workers ≤ 64
  pub connections : Spells fourth words.connections
  pub rules : map (λ rule. rule.now) words.rules.items ≡ others

abbrev pub AsksFor : List (List ℕ) → Words → Type 0
AsksFor (first ∷ second ∷ third ∷ fourth ∷ others) words = AreIn first second third fourth others words
AsksFor _ words = ⊥

-- the third and the fourth word are numbers, of workers and of connections
abbrev pub AreNumbers : List ℕ → List ℕ → Type 0
AreNumbers third fourth = SpellsWithin 1 64 third × SpellsWithin 0 65535 fourth

-- why the parser refuses the words: there are fewer than four, or a number is none or out of its range (own format)
abbrev pub IsMistake : List (List ℕ) → ErrorKind → Type 0
IsMistake (first ∷ second ∷ third ∷ fourth ∷ others) kind = (kind ≡ ValueValidation) × ¬ (AreNumbers third fourth)
IsMistake (first ∷ second ∷ third ∷ []) kind =
    ((kind ≡ MissingRequiredArgument) × SpellsWithin 1 64 third) ⊎ ((kind ≡ ValueValidation) × ¬ (SpellsWithin 1 64 third))
IsMistake _ kind = kind ≡ MissingRequiredArgument

-- of words without a hyphen in front: what they ask for, or the mistake in them, unless memory was refused (own format)
abbrev pub AnswersWords : List (List ℕ) → Result Words Error → Type 0
AnswersWords words result = list_any is_option words ≡ false → MatchResult result (AsksFor words)
    (λ error. (kind_of error ≡ OutOfMemory) ⊎ IsMistake words (kind_of error))
