-- What a line and a table of lines are, and what they are not.
use Rattle.std.proofs.Common.{◌≡◌, ℕ, Bool, true, false, ◌⊎◌, List, [], ◌∷◌, ◌++◌, Option, Some, None, All, nat_eq, refl, sym, ap, ◌∙◌, subst, arith, Contains, inl, inr, map}
use Rattle.std.proofs.lemmas.List.Elements.{All-nil, Contains-push_cases}
use Rattle.indexmap.specs.IndexMap.{get}
use Rattle.pairing_cert.specs.declared.note.Note.TheVariants as notes
use Rattle.capture_form.specs.declared.records.Record.{Record}
use Rattle.capture_form.specs.declared.records.What.{What}
use Rattle.capture_form.specs.declared.records.What.TheVariants as happened
use Rattle.conn_engine.specs.Pausing.{Paused}
use Rattle.conn_engine.specs.declared.serving.Status.TheVariants.{Ended, Failed}
use Rattle.daemon_server.specs.Desks.{IsEntry}
use Rattle.daemon_server.specs.declared.line.Line.{Line}
use Rattle.daemon_server.specs.declared.table.Table.{Table}
use Rattle.daemon_server.specs.Lines.{AreBelow, AreTakenBut, HasCome, HasSigned, IsGone, IsKnown, IsLine, IsLineOf, IsOver, Serves, frames_to, front_of, inputs_of}

abbrev opened : ℕ → Record
opened n = record { connection = n; what = happened.Opened; note = notes.None }

-- of three records, what is of connection 3
abbrev records : List Record
records = record { connection = 3; what = happened.Opened; note = notes.None } ∷ record { connection = 4; what = happened.Lost; note = notes.None } ∷ record { connection = 3; what = happened.Out (7 ∷ []); note = notes.None }
    ∷ record { connection = 4; what = happened.Out (8 ∷ []); note = notes.None } ∷ []

inputs_of_one : inputs_of 3 records ≡ happened.Opened ∷ []
inputs_of_one = refl

inputs_of_another : inputs_of 4 records ≡ happened.Lost ∷ []
inputs_of_another = refl

frames_to_one : frames_to 3 records ≡ (7 ∷ []) ∷ []
frames_to_one = refl

frames_to_another : frames_to 4 records ≡ (8 ∷ []) ∷ []
frames_to_another = refl

none_of_a_third : inputs_of 5 records ≡ []
none_of_a_third = refl

in_front : front_of ((7 ∷ []) ∷ (8 ∷ []) ∷ []) ((8 ∷ []) ∷ []) ≡ (7 ∷ []) ∷ []
in_front = refl

-- a connection whose engine was given one of two frames, and which stopped, so that nothing is known of its octets
module _ {G : Type 0} (Delivered Took : G → List ℕ → Type 0) (ended : G → Bool) (line : Line G) (engine : Paused) (number : line.number ≡ 3) (status : line.status ≡ Failed) (inbox : line.inbox.items ≡ [])
    (outbox : line.outbox.items ≡ (8 ∷ []) ∷ []) where
  abbrev Is : List What → List (List ℕ) → Line G → Type 0
  Is = IsLine Delivered Took ended

  served : line.engine ≡ Some engine → engine.number ≡ 3 → Is (happened.Opened ∷ []) ((7 ∷ []) ∷ (8 ∷ []) ∷ []) line
  served there own = record {
    engine = engine;
    is_there = there;
    own = own ∙ sym number;
    given = (7 ∷ []) ∷ [];
    is_idle = false;
    holds = rw status tt;
    due = ap (λ (xs : List (List ℕ)). (7 ∷ []) ∷ xs) outbox;
    entries = rw inbox (All-nil (IsEntry line.number));
  }

  -- not without its engine
  not_without_engine : line.engine ≡ None → (taken : List What) (frames : List (List ℕ)) → Is taken frames line → ⊥
  not_without_engine none taken frames is = let never : ◌≡◌ {A = Option Paused} None (Some is.engine) = sym none ∙ is.is_there in cc

  -- nor with that of another connection
  not_of_another : line.engine ≡ Some engine → engine.number ≡ 4 → (taken : List What) (frames : List (List ℕ)) → Is taken frames line → ⊥
  not_of_another there other taken frames is =
      let same : engine ≡ is.engine = some (sym there ∙ is.is_there) in
      let four = sym other ∙ (ap (λ (p : Paused). p.number) same ∙ (is.own ∙ number)) in absurd (omega (arith, four))
    where
      some : {a b : Paused} → Some a ≡ Some b → a ≡ b
      some eq = cc

  -- nor where the frame that is due was never written
  not_another_due : (taken : List What) → Is taken ((7 ∷ []) ∷ []) line → ⊥
  not_another_due taken is = last is.given (ap (λ (xs : List (List ℕ)). is.given ++ xs) (sym outbox) ∙ is.due)
    where
      last : (given : List (List ℕ)) → given ++ (8 ∷ []) ∷ [] ≡ (7 ∷ []) ∷ [] → ⊥
      last [] e = let heads : ◌≡◌ {A = List ℕ} (8 ∷ []) (7 ∷ []) = cc in let eight : ◌≡◌ {A = ℕ} 8 7 = cc in absurd (omega (arith, eight))
      last (a ∷ []) e = cc
      last (a ∷ b ∷ given) e = cc

  -- it is connection 3's
  its_own : Is (inputs_of 3 records) (frames_to 3 records) line → IsLineOf Delivered Took ended records records 3 line
  its_own is = record { number = number; holds = is }

  not_anothers : IsLineOf Delivered Took ended records records 4 line → ⊥
  not_anothers of = let four = sym number ∙ of.number in absurd (omega (arith, four))

-- nor where what lies in the inbox is of another connection
not_an_entry_of_another : {G : Type 0} (Delivered Took : G → List ℕ → Type 0) (ended : G → Bool) (line : Line G) (other : Record) → line.number ≡ 3 → line.inbox.items ≡ other ∷ [] → other.connection ≡ 4
    → (taken : List What) (frames : List (List ℕ)) → IsLine Delivered Took ended taken frames line → ⊥
not_an_entry_of_another Delivered Took ended line other number inbox four taken frames is =
    let entries : All (IsEntry line.number) (other ∷ []) = subst (All (IsEntry line.number)) inbox is.entries in
    let own = (entries 0 other (omega arith)).own in absurd (omega (arith, own, number, four))

-- a connection is over only where it has ended, and the core has taken all of it
module _ {G : Type 0} (Delivered Took : G → List ℕ → Type 0) (ended : G → Bool) (line : Line G) where
  not_over_yet : line.status ≡ Failed → IsOver Delivered Took ended records records line → ⊥
  not_over_yet failed over = let never : Failed ≡ Ended = sym failed ∙ over.status in cc

  not_over_with_items : (entry : Record) → line.inbox.items ≡ entry ∷ [] → IsOver Delivered Took ended records records line → ⊥
  not_over_with_items entry inbox over = let never : ◌≡◌ {A = List Record} (entry ∷ []) [] = sym inbox ∙ over.taken_all in cc

  not_gone_where_open : (table : Table G) → get nat_eq table.lines line.number ≡ Some line → IsGone Delivered Took ended records records table line → ⊥
  not_gone_where_open table at gone = let never : ◌≡◌ {A = Option (Line G)} (Some line) None = sym at ∙ gone.gone in cc

  not_gone_where_to_come : (table : Table G) → table.next ≡ line.number → IsGone Delivered Took ended records records table line → ⊥
  not_gone_where_to_come table next gone = let less = gone.below in absurd (omega (arith, next, less))

-- no records of a connection that is to come
not_of_one_to_come : {G : Type 0} (Delivered Took : G → List ℕ → Type 0) (ended : G → Bool) (table : Table G) → table.next ≡ 3 → Serves Delivered Took ended (opened 3 ∷ []) [] [] table → ⊥
not_of_one_to_come Delivered Took ended table next s = absurd (first s.laid s.parts s.below)
  where
    first : (laid : List Record) → laid ++ [] ≡ opened 3 ∷ [] → AreBelow table.next laid → ⊥
    first [] e below = cc
    first (r ∷ laid) e below =
        let same : r ≡ opened 3 = cc in
        let three : r.connection ≡ 3 = ap (λ (x : Record). x.connection) same in
        let less = below 0 r (omega arith) in absurd (omega (arith, three, less, next))

-- nor inputs of a connection that is neither open nor let go
not_of_a_forgotten_one : {G : Type 0} (Delivered Took : G → List ℕ → Type 0) (ended : G → Bool) (table : Table G) → ((n : ℕ) → get nat_eq table.lines n ≡ None) → table.over.items ≡ []
    → Serves Delivered Took ended (opened 3 ∷ []) [] [] table → ⊥
not_of_a_forgotten_one {G = G} Delivered Took ended table none over s = neither (s.known 0 (opened 3) (omega arith))
  where
    neither : IsKnown table 3 → ⊥
    neither (inl held) = let never : ◌≡◌ {A = Option (Line G)} None (Some held.0) = sym (none 3) ∙ held.1 in cc
    neither (inr gone) = let nothing : Contains {X = ℕ} [] 3 = subst (λ (xs : List (Line G × Unit {0})). Contains (map (λ (p : Line G × Unit {0}). p.0.number) xs) 3) over gone in let less = nothing.1 in absurd (omega (arith, less))

-- nor where an item lies in the inbox of one whose number does not wait
module _ {G : Type 0} (table : Table G) (line : Line G) (entry : Record) (at : get nat_eq table.lines 3 ≡ Some line) (inbox : line.inbox.items ≡ entry ∷ []) where
  not_with_an_item : AreTakenBut (4 ∷ []) table → ⊥
  not_with_an_item taken = either (taken 3 line at)
    where
      either : Contains {X = ℕ} (4 ∷ []) 3 ⊎ (line.inbox.items ≡ []) → ⊥
      either (inl among) = neither (Contains-push_cases [] 4 3 among)
        where
          neither : Contains {X = ℕ} [] 3 ⊎ (◌≡◌ {A = ℕ} 4 3) → ⊥
          neither (inl never) = let less = never.1 in absurd (omega (arith, less))
          neither (inr three) = absurd (omega (arith, three))
      either (inr none) = let never : ◌≡◌ {A = List Record} (entry ∷ []) [] = sym inbox ∙ none in cc

-- a connection that is open and not signed is not signed by doing nothing
not_signed_by_nothing : {G : Type 0} (table : Table G) (line : Line G) → get nat_eq table.lines 3 ≡ Some line → line.is_signed ≡ false → HasSigned 3 table table → ⊥
not_signed_by_nothing table line at unsigned h = let never : false ≡ true = sym unsigned ∙ h.marked line at in cc

-- nor does one come so, where a number is left
none_comes_by_nothing : {G : Type 0} (gate : G) (table : Table G) (number : ℕ) → HasCome gate table table (Some number) → ⊥
none_comes_by_nothing gate table number h = let more = h.next in absurd (omega (arith, more))

none_is_left : {G : Type 0} (gate : G) (table : Table G) → table.next ≡ 4 → HasCome gate table table None → ⊥
none_is_left gate table next h = let none = h.0 in absurd (omega (arith, next, none))
