-- What the parser makes of words that are no options.
use Rattle.std.proofs.Common.{◌≡◌, ◌∙◌, ap, sym, subst, Ok, Err, ℕ, List, [], ◌∷◌, Option, Some, None, false, true, refl, codes}
use Rattle.clap.specs.Words.{HasKind, fault_of, first_of, is_simple_and_free, matches_of, one_of}
use Rattle.clap.specs.declared.error.kind.ErrorKind.TheVariants.{UnknownArgument}
use Rattle.clap.specs.declared.error.Error.{Error}
use Rattle.clap.proofs.OnLiterals.{clap_on_literals}
use Rattle.program_ends.specs.InputSource.{path_asked, path_of}
use Rattle.program_ends.specs.Words.{is_option}
use Rattle.program_ends.specs.declared.input_source.InputSource.{InputSource}
use Rattle.program_ends.proofs.Sources.{asked-plain}
use Rattle.program_ends.proofs.Parsing.{no_kind, only_kind}
use Rattle.program_ends.proofs.PlainWords.{dashes-plain, strip_byte-plain}
use Rattle.show_program.specs.Words.{AnswersWords, AsksWhy, IsAudit, IsPlain, command_line}
use Rattle.show_program.specs.declared.words.Mode.{Mode}
use Rattle.show_program.specs.declared.words.Words.{Words}

pub command_line-is_free : is_simple_and_free command_line ≡ true
unfolding clap_on_literals
command_line-is_free = refl

-- no word: no fault, and no file
fault_of-none : fault_of command_line [] ≡ []
unfolding clap_on_literals
fault_of-none = refl

file-none : first_of (codes "FILE") (matches_of command_line []) ≡ None
unfolding clap_on_literals
file-none = refl

packets-none : first_of (codes "pcapng") (matches_of command_line []) ≡ None
unfolding clap_on_literals
packets-none = refl

chart-none : first_of (codes "chart") (matches_of command_line []) ≡ None
unfolding clap_on_literals
chart-none = refl

credit-none : first_of (codes "credit") (matches_of command_line []) ≡ None
unfolding clap_on_literals
credit-none = refl

audit-none : one_of (codes "why") (matches_of command_line []) ≡ Some (codes "false")
unfolding clap_on_literals
audit-none = refl

-- the word that asks for an audit: no fault, no file, and neither packets nor a chart nor a credit
fault_of-why : fault_of command_line (codes "--why" ∷ []) ≡ []
unfolding clap_on_literals
fault_of-why = refl

file-why : first_of (codes "FILE") (matches_of command_line (codes "--why" ∷ [])) ≡ None
unfolding clap_on_literals
file-why = refl

packets-why : first_of (codes "pcapng") (matches_of command_line (codes "--why" ∷ [])) ≡ None
unfolding clap_on_literals
packets-why = refl

chart-why : first_of (codes "chart") (matches_of command_line (codes "--why" ∷ [])) ≡ None
unfolding clap_on_literals
chart-why = refl

credit-why : first_of (codes "credit") (matches_of command_line (codes "--why" ∷ [])) ≡ None
unfolding clap_on_literals
credit-why = refl

audit-why : one_of (codes "why") (matches_of command_line (codes "--why" ∷ [])) ≡ Some (codes "true")
unfolding clap_on_literals
audit-why = refl

summary-why : one_of (codes "summary") (matches_of command_line (codes "--why" ∷ [])) ≡ Some (codes "false")
unfolding clap_on_literals
summary-why = refl

-- one word: no fault, and the file that it names
fault_of-one : (word : List ℕ) → is_option word ≡ false → fault_of command_line (word ∷ []) ≡ []
unfolding clap_on_literals
fault_of-one word plain = rw (dashes-plain word plain, strip_byte-plain word plain, strip_byte-plain word plain) refl

file-one : (word : List ℕ) → is_option word ≡ false → first_of (codes "FILE") (matches_of command_line (word ∷ [])) ≡ Some word
unfolding clap_on_literals
file-one word plain = rw (dashes-plain word plain, strip_byte-plain word plain, strip_byte-plain word plain) refl

packets-one : (word : List ℕ) → is_option word ≡ false → first_of (codes "pcapng") (matches_of command_line (word ∷ [])) ≡ None
unfolding clap_on_literals
packets-one word plain = rw (dashes-plain word plain, strip_byte-plain word plain, strip_byte-plain word plain) refl

chart-one : (word : List ℕ) → is_option word ≡ false → first_of (codes "chart") (matches_of command_line (word ∷ [])) ≡ None
unfolding clap_on_literals
chart-one word plain = rw (dashes-plain word plain, strip_byte-plain word plain, strip_byte-plain word plain) refl

credit-one : (word : List ℕ) → is_option word ≡ false → first_of (codes "credit") (matches_of command_line (word ∷ [])) ≡ None
unfolding clap_on_literals
credit-one word plain = rw (dashes-plain word plain, strip_byte-plain word plain, strip_byte-plain word plain) refl

audit-one : (word : List ℕ) → is_option word ≡ false → one_of (codes "why") (matches_of command_line (word ∷ [])) ≡ Some (codes "false")
unfolding clap_on_literals
audit-one word plain = rw (dashes-plain word plain, strip_byte-plain word plain, strip_byte-plain word plain) refl

-- two words: the second is not taken
fault_of-more : (first second : List ℕ) (more : List (List ℕ)) → is_option first ≡ false → is_option second ≡ false
    → fault_of command_line (first ∷ second ∷ more) ≡ UnknownArgument ∷ []
unfolding clap_on_literals
fault_of-more first second more plain plain' =
    rw (
      dashes-plain first plain,
      strip_byte-plain first plain,
      strip_byte-plain first plain,
      dashes-plain second plain',
      strip_byte-plain second plain',
      strip_byte-plain second plain',
    ) refl

-- the parser took the words, and this was read with the file that it met
pub answers_taken : (words : List (List ℕ)) (asked : Words) → fault_of command_line words ≡ []
    → path_of asked.source ≡ path_asked (first_of (codes "FILE") (matches_of command_line words))
    → (first_of (codes "pcapng") (matches_of command_line words) ≡ None → first_of (codes "chart") (matches_of command_line words) ≡ None
    → first_of (codes "credit") (matches_of command_line words) ≡ None
    → one_of (codes "why") (matches_of command_line words) ≡ Some (codes "false") → IsPlain asked.mode)
    → AnswersWords words (Ok asked)
answers_taken [] asked taken met is = (met ∙ ap path_asked file-none, is packets-none chart-none credit-none audit-none)
answers_taken (word ∷ []) asked taken met is = λ plain.
    (met ∙ ap path_asked (file-one word plain) ∙ asked-plain word plain, is (packets-one word plain) (chart-one word plain) (credit-one word plain) (audit-one word plain))
answers_taken (first ∷ second ∷ more) asked taken met is = λ plain plain'.
    let clash : [] ≡ UnknownArgument ∷ [] = sym taken ∙ fault_of-more first second more plain plain' in cc

-- the parser refused the words with this error
pub answers_refused : (words : List (List ℕ)) (error : Error) → HasKind (fault_of command_line words) error
    → AnswersWords words (Err error)
answers_refused [] error kind = no_kind error (subst (λ kinds. HasKind kinds error) fault_of-none kind)
answers_refused (word ∷ []) error kind = λ plain.
    no_kind error (subst (λ kinds. HasKind kinds error) (fault_of-one word plain) kind)
answers_refused (first ∷ second ∷ more) error kind = λ plain plain'.
    only_kind UnknownArgument error (subst (λ kinds. HasKind kinds error) (fault_of-more first second more plain plain') kind)

-- the parser took the word that asks for an audit, and this was read
pub why_taken : (words : List (List ℕ)) (source : InputSource) (mode : Option Mode) → words ≡ codes "--why" ∷ []
    → path_of source ≡ path_asked (first_of (codes "FILE") (matches_of command_line words))
    → (first_of (codes "pcapng") (matches_of command_line words) ≡ None → first_of (codes "chart") (matches_of command_line words) ≡ None
    → first_of (codes "credit") (matches_of command_line words) ≡ None
    → one_of (codes "why") (matches_of command_line words) ≡ Some (codes "true")
    → one_of (codes "summary") (matches_of command_line words) ≡ Some (codes "false") → IsAudit mode)
    → (path_of source ≡ None) × IsAudit mode
why_taken words source mode are met audited = (
  met ∙ ap (λ ws. path_asked (first_of (codes "FILE") (matches_of command_line ws))) are ∙ ap path_asked file-why,
  audited
      (ap (λ ws. first_of (codes "pcapng") (matches_of command_line ws)) are ∙ packets-why)
      (ap (λ ws. first_of (codes "chart") (matches_of command_line ws)) are ∙ chart-why)
      (ap (λ ws. first_of (codes "credit") (matches_of command_line ws)) are ∙ credit-why)
      (ap (λ ws. one_of (codes "why") (matches_of command_line ws)) are ∙ audit-why)
      (ap (λ ws. one_of (codes "summary") (matches_of command_line ws)) are ∙ summary-why),
)

-- the parser refused it with this error
pub why_refused : (words : List (List ℕ)) (error : Error) → words ≡ codes "--why" ∷ [] → HasKind (fault_of command_line words) error → AsksWhy (Err error)
why_refused words error are kind =
    no_kind error (subst (λ kinds. HasKind kinds error) (ap (fault_of command_line) are ∙ fault_of-why) kind)
