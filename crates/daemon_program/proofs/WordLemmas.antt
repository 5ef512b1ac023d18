-- What the parser makes of no words, and of one that is no option.
use Rattle.std.proofs.Common.{◌≡◌, ◌∙◌, ap, sym, subst, Ok, Err, ℕ, Bool, List, [], ◌∷◌, Option, Some, None, false, true, refl, codes, map}
use Rattle.std.specs.Prelude.{option_map, unwrap_or}
use Rattle.std.specs.Borrow.{Bor}
use Rattle.clap.specs.Walk.{all_of}
use Rattle.clap.specs.Words.{HasKind, fault_of, first_of, is_simple_and_free, matches_of, one_of}
use Rattle.clap.specs.declared.error.kind.ErrorKind.TheVariants.{UnknownArgument}
use Rattle.clap.specs.declared.error.Error.{Error}
use Rattle.clap.proofs.OnLiterals.{clap_on_literals}
use Rattle.program_ends.specs.Words.{is_option}
use Rattle.program_ends.proofs.Parsing.{no_kind, only_kind}
use Rattle.program_ends.proofs.PlainWords.{dashes-plain, strip_byte-plain}
use Rattle.daemon_program.specs.Words.{AnswersWords, IsUsual, command_line, rules_asked}
use Rattle.daemon_program.specs.declared.words.Words.{Words}

pub command_line-is_free : is_simple_and_free command_line ≡ true
unfolding clap_on_literals
command_line-is_free = refl

-- no word: no fault, and no option
fault_of-none : fault_of command_line [] ≡ []
unfolding clap_on_literals
fault_of-none = refl

pub listen-none : first_of (codes "listen") (matches_of command_line []) ≡ None
unfolding clap_on_literals
listen-none = refl

pub capture-none : first_of (codes "capture") (matches_of command_line []) ≡ None
unfolding clap_on_literals
capture-none = refl

pub rules-none : all_of (codes "rule") (matches_of command_line []) ≡ None
unfolding clap_on_literals
rules-none = refl

pub anonymous-none : one_of (codes "anonymous") (matches_of command_line []) ≡ Some (codes "false")
unfolding clap_on_literals
anonymous-none = refl

pub most-none : one_of (codes "max-connections") (matches_of command_line []) ≡ None
unfolding clap_on_literals
most-none = refl

pub until-none : one_of (codes "until-connections") (matches_of command_line []) ≡ None
unfolding clap_on_literals
until-none = refl

pub buffer-none : one_of (codes "buffer") (matches_of command_line []) ≡ None
unfolding clap_on_literals
buffer-none = refl

pub sync-none : one_of (codes "sync") (matches_of command_line []) ≡ Some (codes "false")
unfolding clap_on_literals
sync-none = refl

pub stats-none : one_of (codes "stats") (matches_of command_line []) ≡ None
unfolding clap_on_literals
stats-none = refl

-- a word in front that is no option is not taken
fault_of-word : (word : List ℕ) (more : List (List ℕ)) → is_option word ≡ false → fault_of command_line (word ∷ more) ≡ UnknownArgument ∷ []
unfolding clap_on_literals
fault_of-word word more plain = rw (dashes-plain word plain, strip_byte-plain word plain, strip_byte-plain word plain) refl

-- the parser took the words, and this was read
pub answers_taken : (words : List (List ℕ)) (asked : Words) → fault_of command_line words ≡ [] → (words ≡ [] → IsUsual asked) → AnswersWords words (Ok asked)
answers_taken [] asked taken usual = usual refl
answers_taken (word ∷ more) asked taken usual = λ plain. let clash : [] ≡ UnknownArgument ∷ [] = sym taken ∙ fault_of-word word more plain in cc

-- the parser refused the words with this error
pub answers_refused : (words : List (List ℕ)) (error : Error) → HasKind (fault_of command_line words) error → AnswersWords words (Err error)
answers_refused [] error kind = no_kind error (subst (λ kinds. HasKind kinds error) fault_of-none kind)
answers_refused (word ∷ more) error kind = λ plain.
    only_kind UnknownArgument error (subst (λ kinds. HasKind kinds error) (fault_of-word word more plain) kind)

-- a text that is not there
pub text_unread : (found : Option (Bor (List ℕ))) (none read : Bor (List ℕ)) → read ≡ unwrap_or found none → option_map (λ s. s.now) found ≡ None → read ≡ none
text_unread None none read is absent = is
text_unread (Some text) none read is absent = absurd cc

-- texts that are not there
pub texts_unread : (found : Option (Bor (List (Bor (List ℕ))))) (none read : Bor (List (Bor (List ℕ)))) → read ≡ unwrap_or found none
    → option_map (λ s. map (λ v. v.now) s.now) found ≡ None → read ≡ none
texts_unread None none read is absent = is
texts_unread (Some texts) none read is absent = absurd cc

-- no rules are asked for
pub rules_unread : (rules spelled : List (Bor (List ℕ))) (is_anonymous : Bool) → map (λ w. w.now) rules ≡ rules_asked (map (λ w. w.now) spelled) is_anonymous
    → spelled ≡ [] → is_anonymous ≡ false → rules ≡ []
rules_unread [] spelled is_anonymous are none unasked = refl
rules_unread (rule ∷ rules) spelled is_anonymous are none unasked =
    let clash : map (λ w. w.now) (rule ∷ rules) ≡ [] = are ∙ ap (λ s. rules_asked (map (λ w. w.now) s) is_anonymous) none ∙ ap (rules_asked []) unasked in absurd cc
