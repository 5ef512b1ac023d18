-- What the parser makes of words that are no options, and of the word that asks to follow.
use Rattle.std.proofs.Common.{◌≡◌, ◌∙◌, ap, sym, subst, Ok, Err, ℕ, List, [], ◌∷◌, Some, None, false, true, refl, codes}
use Rattle.clap.specs.Words.{HasKind, fault_of, first_of, is_simple_and_free, matches_of, one_of}
use Rattle.clap.specs.declared.error.kind.ErrorKind.TheVariants.{UnknownArgument}
use Rattle.clap.specs.declared.error.Error.{Error}
use Rattle.clap.proofs.OnLiterals.{clap_on_literals}
use Rattle.program_ends.specs.Words.{is_option}
use Rattle.program_ends.proofs.Parsing.{no_kind, only_kind}
use Rattle.program_ends.proofs.PlainWords.{dashes-plain, strip_byte-plain}
use Rattle.program_ends.proofs.Sources.{asked-plain}
use Rattle.program_ends.specs.InputSource.{path_asked, path_of}
use Rattle.audit_program.specs.declared.words.End.TheVariants.{First, Never}
use Rattle.audit_program.specs.declared.words.Words.{Words}
use Rattle.audit_program.specs.Words.{AnswersWords, AsksToFollow, command_line}

pub command_line-is_free : is_simple_and_free command_line ≡ true
unfolding clap_on_literals
command_line-is_free = refl

-- no word: no fault, no file, and nothing is followed
fault_of-none : fault_of command_line [] ≡ []
unfolding clap_on_literals
fault_of-none = refl

file-none : first_of (codes "FILE") (matches_of command_line []) ≡ None
unfolding clap_on_literals
file-none = refl

follow-none : one_of (codes "follow") (matches_of command_line []) ≡ Some (codes "false")
unfolding clap_on_literals
follow-none = refl

idle-none : one_of (codes "idle") (matches_of command_line []) ≡ None
unfolding clap_on_literals
idle-none = refl

-- one word: no fault, and the file that it names
fault_of-one : (word : List ℕ) → is_option word ≡ false → fault_of command_line (word ∷ []) ≡ []
unfolding clap_on_literals
fault_of-one word plain = rw (dashes-plain word plain, strip_byte-plain word plain, strip_byte-plain word plain) refl

file-one : (word : List ℕ) → is_option word ≡ false → first_of (codes "FILE") (matches_of command_line (word ∷ [])) ≡ Some word
unfolding clap_on_literals
file-one word plain = rw (dashes-plain word plain, strip_byte-plain word plain, strip_byte-plain word plain) refl

follow-one : (word : List ℕ) → is_option word ≡ false → one_of (codes "follow") (matches_of command_line (word ∷ [])) ≡ Some (codes "false")
unfolding clap_on_literals
follow-one word plain = rw (dashes-plain word plain, strip_byte-plain word plain, strip_byte-plain word plain) refl

idle-one : (word : List ℕ) → is_option word ≡ false → one_of (codes "idle") (matches_of command_line (word ∷ [])) ≡ None
unfolding clap_on_literals
idle-one word plain = rw (dashes-plain word plain, strip_byte-plain word plain, strip_byte-plain word plain) refl

-- two words: the second is not taken
fault_of-more : (first second : List ℕ) (more : List (List ℕ)) → is_option first ≡ false → is_option second ≡ false
    → fault_of command_line (first ∷ second ∷ more) ≡ UnknownArgument ∷ []
unfolding clap_on_literals
fault_of-more first second more plain plain' =
    rw (
      dashes-plain first plain,
      strip_byte-plain first plain,
      strip_byte-plain first plain,
      dashes-plain second plain',
      strip_byte-plain second plain',
      strip_byte-plain second plain',
    ) refl

-- the word that asks to follow: no fault, no file, and no number of seconds
fault_of-follow : fault_of command_line (codes "--follow" ∷ []) ≡ []
unfolding clap_on_literals
fault_of-follow = refl

file-follow : first_of (codes "FILE") (matches_of command_line (codes "--follow" ∷ [])) ≡ None
unfolding clap_on_literals
file-follow = refl

follow-follow : one_of (codes "follow") (matches_of command_line (codes "--follow" ∷ [])) ≡ Some (codes "true")
unfolding clap_on_literals
follow-follow = refl

idle-follow : one_of (codes "idle") (matches_of command_line (codes "--follow" ∷ [])) ≡ None
unfolding clap_on_literals
idle-follow = refl

-- the same in front of a file
fault_of-follow_file : (file : List ℕ) → is_option file ≡ false → fault_of command_line (codes "--follow" ∷ file ∷ []) ≡ []
unfolding clap_on_literals
fault_of-follow_file file plain = rw (dashes-plain file plain, strip_byte-plain file plain, strip_byte-plain file plain) refl

file-follow_file : (file : List ℕ) → is_option file ≡ false → first_of (codes "FILE") (matches_of command_line (codes "--follow" ∷ file ∷ [])) ≡ Some file
unfolding clap_on_literals
file-follow_file file plain = rw (dashes-plain file plain, strip_byte-plain file plain, strip_byte-plain file plain) refl

follow-follow_file : (file : List ℕ) → is_option file ≡ false → one_of (codes "follow") (matches_of command_line (codes "--follow" ∷ file ∷ [])) ≡ Some (codes "true")
unfolding clap_on_literals
follow-follow_file file plain = rw (dashes-plain file plain, strip_byte-plain file plain, strip_byte-plain file plain) refl

idle-follow_file : (file : List ℕ) → is_option file ≡ false → one_of (codes "idle") (matches_of command_line (codes "--follow" ∷ file ∷ [])) ≡ None
unfolding clap_on_literals
idle-follow_file file plain = rw (dashes-plain file plain, strip_byte-plain file plain, strip_byte-plain file plain) refl

-- the parser took the words, and this was read with the file that it met
pub answers_taken : (words : List (List ℕ)) (asked : Words) → fault_of command_line words ≡ []
    → path_of asked.source ≡ path_asked (first_of (codes "FILE") (matches_of command_line words))
    → (one_of (codes "follow") (matches_of command_line words) ≡ Some (codes "false") → one_of (codes "idle") (matches_of command_line words) ≡ None → asked.end ≡ First)
    → AnswersWords words (Ok asked)
answers_taken [] asked taken met is = (met ∙ ap path_asked file-none, is follow-none idle-none)
answers_taken (word ∷ []) asked taken met is = λ plain.
    (met ∙ ap path_asked (file-one word plain) ∙ asked-plain word plain, is (follow-one word plain) (idle-one word plain))
answers_taken (first ∷ second ∷ more) asked taken met is = λ plain plain'.
    let clash : [] ≡ UnknownArgument ∷ [] = sym taken ∙ fault_of-more first second more plain plain' in cc

-- the parser refused the words with this error
pub answers_refused : (words : List (List ℕ)) (error : Error) → HasKind (fault_of command_line words) error
    → AnswersWords words (Err error)
answers_refused [] error kind = no_kind error (subst (λ kinds. HasKind kinds error) fault_of-none kind)
answers_refused (word ∷ []) error kind = λ plain.
    no_kind error (subst (λ kinds. HasKind kinds error) (fault_of-one word plain) kind)
answers_refused (first ∷ second ∷ more) error kind = λ plain plain'.
    only_kind UnknownArgument error (subst (λ kinds. HasKind kinds error) (fault_of-more first second more plain plain') kind)

-- the parser took the words, and this was read; where they ask to follow, more may always come
pub following_taken : (words : List (List ℕ)) (asked : Words)
    → path_of asked.source ≡ path_asked (first_of (codes "FILE") (matches_of command_line words))
    → (one_of (codes "follow") (matches_of command_line words) ≡ Some (codes "true") → one_of (codes "idle") (matches_of command_line words) ≡ None → asked.end ≡ Never)
    → AsksToFollow words (Ok asked)
following_taken words asked met is = (
  λ are. (
    met ∙ ap (λ ws. path_asked (first_of (codes "FILE") (matches_of command_line ws))) are ∙ ap path_asked file-follow,
    is
        (ap (λ ws. one_of (codes "follow") (matches_of command_line ws)) are ∙ follow-follow)
        (ap (λ ws. one_of (codes "idle") (matches_of command_line ws)) are ∙ idle-follow),
  ),
  λ file plain are. (
    met ∙ ap (λ ws. path_asked (first_of (codes "FILE") (matches_of command_line ws))) are ∙ ap path_asked (file-follow_file file plain) ∙ asked-plain file plain,
    is
        (ap (λ ws. one_of (codes "follow") (matches_of command_line ws)) are ∙ follow-follow_file file plain)
        (ap (λ ws. one_of (codes "idle") (matches_of command_line ws)) are ∙ idle-follow_file file plain),
  ),
)

-- the parser refused words that ask to follow with this error
pub following_refused : (words : List (List ℕ)) (error : Error) → HasKind (fault_of command_line words) error
    → AsksToFollow words (Err error)
following_refused words error kind = (
  λ are. no_kind error (subst (λ kinds. HasKind kinds error) (ap (fault_of command_line) are ∙ fault_of-follow) kind),
  λ file plain are. no_kind error (subst (λ kinds. HasKind kinds error) (ap (fault_of command_line) are ∙ fault_of-follow_file file plain) kind),
)
