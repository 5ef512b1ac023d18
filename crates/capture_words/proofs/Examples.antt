-- Endings of texts that are known, and what a view was handed.
use Rattle.std.proofs.Common.{◌≡◌, ℕ, List, [], ◌∷◌, codes, None, Some, refl, ap, arith}
use Rattle.capture_form.specs.declared.records.Record.{Record}
use Rattle.capture_form.specs.declared.fault.FormFault.{FormFault}
use Rattle.capture_form.specs.declared.fault.FormKind.TheVariants as kinds
use Rattle.capture_view.specs.Viewed.{Viewed, view_of}
use Rattle.capture_words.specs.declared.ending.Ending.TheVariants.{Whole, Malformed, NoMemory, Unreadable}
use Rattle.capture_words.specs.Ending.{ending_at, line_of, status_of}
use Rattle.capture_words.specs.Shown.{AppendsSome, EndsBy}
use Rattle.capture_words.specs.Taken.{views_of}

-- ---- endings

abbrev cut : FormFault
cut = record { offset = 28; kind = kinds.Truncated }

whole_ends : EndsBy None Whole
whole_ends = refl

cut_ends : EndsBy (Some cut) (Malformed 28)
cut_ends = (kinds.Truncated, refl)

-- a text with a fault is not whole, a whole one has none, and it stands where it is told
cut_is_not_whole : EndsBy (Some cut) Whole → ⊥
cut_is_not_whole is = let e : Some cut ≡ None = is in absurd cc

whole_has_no_fault : EndsBy None (Malformed 28) → ⊥
whole_has_no_fault is = let none = is.1 in absurd cc

cut_stands_there : ending_at kinds.Truncated 28 ≡ Malformed 28
cut_stands_there = refl

refused : ending_at kinds.Memory 28 ≡ NoMemory
refused = refl

not_read : ending_at kinds.Read 28 ≡ Unreadable 28
not_read = refl

told : line_of NoMemory ≡ codes "no memory"
told = refl

told_nothing : line_of Whole ≡ []
told_nothing = refl

statuses : status_of Whole ∷ status_of (Malformed 0) ∷ status_of NoMemory ∷ status_of (Unreadable 0) ∷ [] ≡ 0 ∷ 2 ∷ 3 ∷ 4 ∷ []
statuses = refl

-- ---- what was written

gained : AppendsSome (Some (1 ∷ [])) (Some (1 ∷ 2 ∷ []))
gained = (2 ∷ [], refl)

changed : AppendsSome (Some (1 ∷ [])) (Some (3 ∷ 2 ∷ [])) → ⊥
changed is = let e : 3 ∷ 2 ∷ [] ≡ 1 ∷ is.0 = is.1 in absurd cc

-- ---- records that were handed over

-- the newest first, numbered from 0
both : (one other : Record) → views_of (one ∷ other ∷ []) ≡ view_of 1 other ∷ view_of 0 one ∷ []
both one other = refl

none : views_of [] ≡ []
none = refl

abbrev first_number : List Viewed → ℕ
first_number [] = 0
first_number (view ∷ past) = view.number

oldest_first : (one other : Record) → views_of (one ∷ other ∷ []) ≡ view_of 0 one ∷ view_of 1 other ∷ [] → ⊥
oldest_first one other is = let e : ◌≡◌ {A = ℕ} 1 0 = ap first_number is in omega arith
