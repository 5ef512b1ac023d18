-- What lies on a desk, and what does not.
use Rattle.std.proofs.Common.{◌≡◌, ℕ, Bool, true, false, List, [], ◌∷◌, refl, All, arith}
use Rattle.std.proofs.lemmas.List.Elements.{All-cons}
use Rattle.pairing_cert.specs.declared.note.Note.{Note}
use Rattle.pairing_cert.specs.declared.note.Note.TheVariants as notes
use Rattle.capture_form.specs.declared.records.Record.{Record}
use Rattle.capture_form.specs.declared.records.What.TheVariants as happened
use Rattle.capture_form.specs.Text.{IsRecord}
use Rattle.daemon_server.specs.Desks.{IsEntry, IsLaid, laid}

abbrev opened : Record
opened = record { connection = 3; what = happened.Opened; note = notes.None }

abbrev lost : Record
lost = record { connection = 3; what = happened.Lost; note = notes.None }

opened_fits : IsRecord opened
opened_fits = record { connection = omega arith; what = tt; note = refl }

an_entry : IsEntry 3 opened
an_entry = record { own = refl; input = refl; bare = refl; bounds = opened_fits }

-- of its own connection alone
not_another_connection : IsEntry 4 opened → ⊥
not_another_connection entry = let wrong : ◌≡◌ {A = ℕ} 3 4 = entry.own in cc

-- a frame that was written is no item
not_an_output : IsEntry 3 (record { connection = 3; what = happened.Out []; note = notes.None }) → ⊥
not_an_output entry = let wrong : ◌≡◌ {A = Bool} true false = entry.input in cc

-- nor is anything that certifies
not_with_a_note : IsEntry 3 (record { connection = 3; what = happened.Opened; note = notes.Pair 0 }) → ⊥
not_with_a_note entry = let wrong : ◌≡◌ {A = Note} (notes.Pair 0) notes.None = entry.bare in cc

-- nor what no capture can tell
not_beyond_bounds : IsEntry 4294967296 (record { connection = 4294967296; what = happened.Opened; note = notes.None }) → ⊥
not_beyond_bounds entry = absurd (omega (arith, entry.bounds.connection))

nothing : All (IsEntry 3) []
nothing = λ k d lt. absurd (omega (arith, lt))

-- one frame was given, and one lies there
one_given : IsLaid ((7 ∷ []) ∷ (8 ∷ []) ∷ []) 3 (opened ∷ []) ((8 ∷ []) ∷ []) ((7 ∷ [], tt) ∷ [])
one_given = record { entries = All-cons (IsEntry 3) opened [] an_entry nothing; frames = refl }

-- not where one was given that lies there
not_given_twice : IsLaid ((7 ∷ []) ∷ (8 ∷ []) ∷ []) 3 [] ((7 ∷ []) ∷ (8 ∷ []) ∷ []) ((7 ∷ [], tt) ∷ []) → ⊥
not_given_twice lies = let wrong : ◌≡◌ {A = List (List ℕ)} ((7 ∷ []) ∷ (7 ∷ []) ∷ (8 ∷ []) ∷ []) ((7 ∷ []) ∷ (8 ∷ []) ∷ []) = lies.frames in cc

-- nor where the first is left out
not_left_out : IsLaid ((7 ∷ []) ∷ (8 ∷ []) ∷ []) 3 [] [] ((8 ∷ [], tt) ∷ []) → ⊥
not_left_out lies = let wrong : ◌≡◌ {A = List (List ℕ)} ((8 ∷ []) ∷ []) ((7 ∷ []) ∷ (8 ∷ []) ∷ []) = lies.frames in cc

-- nor with the record of another connection in the inbox
not_a_strange_entry : IsLaid [] 4 (opened ∷ []) [] [] → ⊥
not_a_strange_entry lies = not_another_connection (lies.entries 0 opened (omega arith))

-- the items are those before and then those of the inbox
in_order : (laid (happened.Opened ∷ []) ((7 ∷ []) ∷ []) 3 (lost ∷ []) [] ((8 ∷ [], tt) ∷ [])).items ≡ happened.Opened ∷ happened.Lost ∷ []
in_order = refl

-- the frames are those before and then those that were given
frames_in_order : (laid (happened.Opened ∷ []) ((7 ∷ []) ∷ []) 3 (lost ∷ []) [] ((8 ∷ [], tt) ∷ [])).frames ≡ (7 ∷ []) ∷ (8 ∷ []) ∷ []
frames_in_order = refl
