-- What is known of a parse, with the command line written out, and of the error that it gives.
use Rattle.std.proofs.Common.{◌≡◌, ◌∙◌, ◌⊎◌, inl, inr, ap, subst, ℕ, List, [], ◌∷◌, true}
use Rattle.std.proofs.lemmas.Bool.{and_parts}
use Rattle.clap.specs.Faults.{is_free_app}
use Rattle.clap.specs.Words.{App, HasKind, HasMatchesOf, Kinds, built, fault_of, first_of, first_value, found_of, is_simple, is_simple_and_free, kind_of, matches_of, one_of, one_text, rows_of}
use Rattle.clap.specs.declared.error.Error.{Error}
use Rattle.clap.specs.declared.error.kind.ErrorKind.{ErrorKind}
use Rattle.clap.specs.declared.error.kind.ErrorKind.TheVariants.{OutOfMemory}
use Rattle.clap.specs.declared.parser.matches.ArgMatches.{ArgMatches}
use Rattle.clap.proofs.WalkLemmas.{first_value-rows, one_text-rows}

-- where the words have no fault, only memory fails
pub no_kind : (error : Error) → HasKind [] error → kind_of error ≡ OutOfMemory
no_kind error (inl memory) = memory
no_kind error (inr none) = absurd none

-- an error of the only kind
pub only_kind : (kind : ErrorKind) (error : Error) → HasKind (kind ∷ []) error → (kind_of error ≡ OutOfMemory) ⊎ (kind_of error ≡ kind)
only_kind kind error (inl memory) = inl memory
only_kind kind error (inr (inl is)) = inr is
only_kind kind error (inr (inr none)) = absurd none

-- what is known of the faults of a command is known of those of the line that it is
pub faults_of : (app line : App) (words : List (List ℕ)) (P : Kinds → Type 0) → is_simple_and_free line ≡ true → app ≡ line
    → (is_simple_and_free app ≡ true → P (fault_of app words)) → P (fault_of line words)
faults_of app line words P free same known = subst (λ a. P (fault_of a words)) same (known (ap is_simple_and_free same ∙ free))

-- the rows that its matches have
pub rows_are : (app line : App) (words : List (List ℕ)) (matches : ArgMatches) → is_simple_and_free line ≡ true → app ≡ line
    → HasMatchesOf app words matches → rows_of (found_of matches) ≡ matches_of line words
rows_are app line words matches free same known =
    let simple = (and_parts (is_simple line) (is_free_app (built line)) free).0 in
    (known (ap is_simple same ∙ simple)).0 ∙ ap (λ a. matches_of a words) same

-- the word that they have under a name
pub word_of : (name : List ℕ) (app line : App) (words : List (List ℕ)) (matches : ArgMatches) → is_simple_and_free line ≡ true → app ≡ line
    → HasMatchesOf app words matches → first_value (found_of matches) name ≡ first_of name (matches_of line words)
word_of name app line words matches free same known =
    first_value-rows (found_of matches) name ∙ ap (first_of name) (rows_are app line words matches free same known)

-- the text by which they tell a flag of a name
pub flag_of : (name : List ℕ) (app line : App) (words : List (List ℕ)) (matches : ArgMatches) → is_simple_and_free line ≡ true → app ≡ line
    → HasMatchesOf app words matches → one_text (found_of matches) name ≡ one_of name (matches_of line words)
flag_of name app line words matches free same known =
    one_text-rows (found_of matches) name ∙ ap (one_of name) (rows_are app line words matches free same known)
