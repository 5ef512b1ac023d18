-- Ends that are asked for, and that are not.
use Rattle.std.proofs.Common.{◌≡◌, ℕ, List, Option, true, false, [], ◌∷◌, None, Some, Ok, refl, codes}
use Rattle.program_ends.specs.declared.input_source.InputSource.TheVariants.{StandardInput}
use Rattle.audit_program.specs.declared.words.End.{End}
use Rattle.audit_program.specs.declared.words.End.TheVariants.{First, Idle, Never}
use Rattle.audit_program.specs.declared.words.Words.{Words}
use Rattle.audit_program.specs.Words.{AsksFor, AsksToFollow, end_asked}

-- a number of seconds follows too
ends : (end_asked false None ≡ First) × (end_asked true None ≡ Never) × (end_asked true (Some 5) ≡ Idle 5) × (end_asked false (Some 5) ≡ Idle 5)
ends = (refl, refl, refl, refl)

abbrev input_up_to : End → Words
input_up_to end = record { source = StandardInput; end = end }

plain : AsksFor None First (Ok (input_up_to First))
plain = (refl, refl)

another_source : AsksFor (Some (codes "a.cap")) First (Ok (input_up_to First)) → ⊥
another_source asks = let wrong : ◌≡◌ {A = Option (List ℕ)} None (Some (codes "a.cap")) = asks.0 in cc

another_end : AsksFor None First (Ok (input_up_to Never)) → ⊥
another_end asks = let wrong : ◌≡◌ {A = End} Never First = asks.1 in cc

-- to follow is not to end where no more is there
follow_unheard : AsksToFollow (codes "--follow" ∷ []) (Ok (input_up_to First)) → ⊥
follow_unheard asks = let wrong : ◌≡◌ {A = End} First Never = (asks.0 refl).1 in cc

-- nor to leave the file behind it
file_unheard : AsksToFollow (codes "--follow" ∷ codes "a.cap" ∷ []) (Ok (input_up_to Never)) → ⊥
file_unheard asks = let wrong : ◌≡◌ {A = Option (List ℕ)} None (Some (codes "a.cap")) = (asks.1 (codes "a.cap") refl refl).0 in cc
