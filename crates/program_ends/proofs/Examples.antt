-- Lines that are told, kinds of mistake and words.
use Rattle.std.proofs.Common.{◌≡◌, ℕ, List, [], ◌∷◌, None, Some, false, true, refl, codes, arith}
use Rattle.clap.specs.declared.error.kind.ErrorKind.TheVariants.{DisplayHelp, DisplayVersion, MissingRequiredArgument, OutOfMemory, UnknownArgument}
use Rattle.program_ends.specs.Telling.{TellsLine, TellsNoMemory, is_mistake}
use Rattle.program_ends.specs.Words.{is_option}
use Rattle.program_ends.specs.InputSource.{path_asked}

abbrev held : List ℕ
held = codes "held, "

-- ---- lines

line_is_told : TellsLine (codes "done") 5 (Some held) (Some (codes "held, done\n")) 5
line_is_told = record { text = refl; same_status = refl }

-- of a writer of which nothing is known, nothing is said
unknown_output : TellsLine (codes "done") 5 None None 5
unknown_output = record { text = tt; same_status = refl }

no_newline : TellsLine (codes "done") 5 (Some held) (Some (codes "held, done")) 5 → ⊥
no_newline told = let e : codes "held, done" ≡ codes "held, done\n" = told.text in absurd cc

other_status : TellsLine (codes "done") 5 (Some held) (Some (codes "held, done\n")) 0 → ⊥
other_status told = let e : ◌≡◌ {A = ℕ} 0 5 = told.same_status in omega arith

memory_is_told : TellsNoMemory (Some []) (Some (codes "no memory\n")) 3
memory_is_told = record { text = refl; same_status = refl }

-- ---- kinds

mistakes : is_mistake UnknownArgument ∷ is_mistake MissingRequiredArgument ∷ [] ≡ true ∷ true ∷ []
mistakes = refl

no_mistakes : is_mistake OutOfMemory ∷ is_mistake DisplayHelp ∷ is_mistake DisplayVersion ∷ [] ≡ false ∷ false ∷ false ∷ []
no_mistakes = refl

-- ---- words

options : is_option (codes "-") ∷ is_option (codes "--wide") ∷ [] ≡ true ∷ true ∷ []
options = refl

no_options : is_option [] ∷ is_option (codes "a-b.cap") ∷ [] ≡ false ∷ false ∷ []
no_options = refl

-- ---- where a capture is read from

named_file : path_asked (Some (codes "demo.cap")) ≡ Some (codes "demo.cap")
named_file = refl

no_word : path_asked None ≡ None
no_word = refl

-- a dash alone is standard input, and a path that begins with one is a path
dash : path_asked (Some (codes "-")) ≡ None
dash = refl

dashed_file : path_asked (Some (codes "-x")) ≡ Some (codes "-x")
dashed_file = refl
