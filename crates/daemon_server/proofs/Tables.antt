-- All lines, behind what is done with one.
use Rattle.std.proofs.Common.{◌≡◌, refl, sym, ap, ◌∙◌, subst, ℕ, ◌+◌, ◌≤◌, ◌<◌, ◌^◌, Bool, true, false, ◌&&◌, List, [], ◌∷◌, ◌++◌, All, Option, Some, None, ◌==◌, if◌then◌else◌, nat_eq, append_assoc, append-nil, arith, Contains, ◌⊎◌, inl, inr, map}
use Rattle.std.proofs.lemmas.Bool.Decides.{nat_tests}
use Rattle.std.proofs.lemmas.List.{map-append}
use Rattle.std.proofs.lemmas.List.Elements.{All-append, Contains-append_cases, Contains-append_left, Contains-push, Contains-push_cases, All-nil, All-push, All-weaker}
use Rattle.indexmap.specs.IndexMap.{get}
use Rattle.capture_form.specs.declared.records.Record.{Record}
use Rattle.capture_form.specs.declared.records.What.{What}
use Rattle.capture_form.specs.declared.records.What.TheVariants as happened
use Rattle.capture_form.specs.Text.{frame_of}
use Rattle.route_items.specs.Inputs.{inputs, is_output}
use Rattle.route_items.specs.WrittenFrames.{writes_on}
use Rattle.conn_engine.specs.declared.serving.Status.TheVariants.{Ended}
use Rattle.daemon_server.specs.Recordings.{Recording}
use Rattle.daemon_server.specs.Desks.{IsEntry, told_by}
use Rattle.daemon_server.specs.Stepping.{HasStepped}
use Rattle.daemon_server.specs.declared.line.Line.{Line}
use Rattle.daemon_server.specs.declared.table.Table.{Table}
use Rattle.daemon_server.specs.Lines.{AreBelow, AreTakenBut, HasLeft, HasLine, HasSigned, IsGone, IsKnown, IsLine, IsLineOf, IsOver, Serves, frames_to, gate_of, inputs_of, news_of}
use Rattle.daemon_server.proofs.Records.{frames-kept, frames-written, inputs-kept, inputs-stepped, none-before, none-laid}

equal : (c n : ℕ) → (c == n) ≡ true → c ≡ n
equal c n is = grind (arith, nat_tests)

-- a record that writes no frame
pub not-written : (what : What) → ((frame : List ℕ) → what ≡ happened.Out frame → ⊥) → is_output what ≡ false
not-written (happened.Out frame) never = absurd (never frame refl)
not-written happened.Opened never = refl
not-written (happened.In frame) never = refl
not-written happened.Broken never = refl
not-written happened.Lost never = refl

-- writes none to any connection
pub writes-none : (n : ℕ) (r : Record) → is_output r.what ≡ false → writes_on n r ≡ false
writes-none n r none = ap (λ b. b && (r.connection == n)) none

itself : (n : ℕ) → (n == n) ≡ true
itself n = grind (arith, nat_tests)

below-more : (n m : ℕ) (records : List Record) → n ≤ m → AreBelow n records → AreBelow m records
below-more n m records le below = λ k d lt. let less = below k d lt in omega (arith, le, less)

module _ {G : Type 0} (Delivered Took : G → List ℕ → Type 0) (ended : G → Bool) where
  abbrev Of : List Record → List Record → ℕ → Line G → Type 0
  Of = IsLineOf Delivered Took ended

  abbrev Over : List Record → List Record → Line G → Type 0
  Over = IsOver Delivered Took ended

  abbrev Gone : List Record → List Record → Table G → Line G → Type 0
  Gone = IsGone Delivered Took ended

  abbrev Held : List Record → List Record → List ℕ → Table G → Type 0
  Held = Serves Delivered Took ended

  -- the line of this number is another one, and the others are the same
  abbrev MovesTo : ℕ → Line G → Table G → Table G → Type 0
  MovesTo number line table later = (n : ℕ) → get nat_eq later.lines n ≡ (if number == n then Some line else get nat_eq table.lines n)

  -- ---- signs

  -- the line is another one, where its number is looked for
  moved-here : (number : ℕ) (line : Line G) (table later : Table G) → MovesTo number line table later → get nat_eq later.lines number ≡ Some line
  moved-here number line table later moved = moved number ∙ ap (λ b. if b then Some line else get nat_eq table.lines number) (itself number)

  -- the line of this number was signed
  pub has-signed : (table later : Table G) (number : ℕ) (old line : Line G) → get nat_eq table.lines number ≡ Some old → MovesTo number line table later → later.next ≡ table.next → line.is_signed ≡ true
      → line.gate ≡ old.gate → later.signed.items ≡ table.signed.items ++ (if old.is_signed then [] else number ∷ []) → HasSigned number table later
  has-signed table later number old line was moved next marked gate signed = record {
    signed = signed ∙ ap (λ (o : Option (Line G)). table.signed.items ++ news_of number o) (sym was);
    marked = λ x at. subst (λ (y : Line G). y.is_signed ≡ true) (some (sym (moved-here number line table later moved) ∙ at)) marked;
    gates = λ n. ap gate_of (moved n) ∙ by n (number == n) refl;
    next = next;
  }
    where
      some : {a b : Line G} → Some a ≡ Some b → a ≡ b
      some eq = cc

      by : (n : ℕ) (b : Bool) → (number == n) ≡ b → gate_of (if b then Some line else get nat_eq table.lines n) ≡ gate_of (get nat_eq table.lines n)
      by n true is = ap (λ (x : G). Some x) gate ∙ ap gate_of (sym was ∙ ap (get nat_eq table.lines) (equal number n is))
      by n false is = refl

  -- a line came, and was signed
  pub has-line : (gate : G) (table between later : Table G) (number : ℕ) (line : Line G) → number ≡ table.next → number < 2 ^ 32 → MovesTo number line table between → between.next ≡ table.next + 1
      → between.signed ≡ table.signed → line.gate ≡ gate → line.is_signed ≡ false → HasSigned number between later → HasLine gate table later number
  has-line gate table between later number line own left moved next same gate_is unsigned h =
      let here = moved-here number line table between moved in record {
        own = own;
        left = omega (arith, own, left);
        next = h.next ∙ next;
        at = h.gates number ∙ (ap gate_of here ∙ ap (λ (x : G). Some x) gate_is);
        signed =
            h.signed
            ∙ (ap (λ (xs : _). xs.items ++ news_of number (get nat_eq between.lines number)) same
            ∙ (ap (λ (o : Option (Line G)). table.signed.items ++ news_of number o) here
            ∙ ap (λ b. table.signed.items ++ (if b then [] else number ∷ [])) unsigned));
      }

  -- the line of this number, if it had ended, was let go
  pub has-left : (table later : Table G) (number : ℕ) → ((n : ℕ) → get nat_eq later.lines n ≡ (if number == n then None else get nat_eq table.lines n)) → HasLeft number table later
  has-left table later number moved line was status taken_all = moved number ∙ ap (λ b. if b then None else get nat_eq table.lines number) (itself number)

  not-gone : (records laid : List Record) (table : Table G) (number : ℕ) (old x : Line G) → get nat_eq table.lines number ≡ Some old → Gone records laid table x → number ≡ x.number → ⊥
  not-gone records laid table number old x was gone is = let never : ◌≡◌ {A = Option (Line G)} (Some old) None = sym was ∙ (ap (get nat_eq table.lines) is ∙ gone.gone) in cc

  abbrev number_of : Line G × Unit {0} → ℕ
  number_of p = p.0.number

  -- those that were known are
  known-moved : (table later : Table G) (number : ℕ) (line : Line G) → MovesTo number line table later → later.over.items ≡ table.over.items → (n : ℕ) → IsKnown table n → IsKnown later n
  known-moved table later number line moved same n (inr over) =
      inr (subst (λ (xs : List (Line G × Unit {0})). Contains (map (λ (p : Line G × Unit {0}). p.0.number) xs) n) (sym same) over)
  known-moved table later number line moved same n (inl held) = inl (by (number == n) refl)
    where
      by : (b : Bool) → (number == n) ≡ b → (x : Line G) × (get nat_eq later.lines n ≡ Some x)
      by true is = (line, moved n ∙ ap (λ b. if b then Some line else get nat_eq table.lines n) is)
      by false is = (held.0, moved n ∙ (ap (λ b. if b then Some line else get nat_eq table.lines n) is ∙ held.1))

  all-known : (table later : Table G) (records : List Record) → ((n : ℕ) → IsKnown table n → IsKnown later n) → All (λ r. IsKnown table r.connection) records → All (λ r. IsKnown later r.connection) records
  all-known table later records more all = All-weaker (λ (r : Record). IsKnown table r.connection) (λ (r : Record). IsKnown later r.connection) (λ r. more r.connection) records all

  -- ---- what the core has not taken

  -- one of the first number, or of those behind it
  first-or : (number : ℕ) (waiting : List ℕ) (n : ℕ) → Contains (number ∷ waiting) n → (number ≡ n) ⊎ Contains waiting n
  first-or number waiting n among = by (Contains-append_cases (number ∷ []) waiting n among)
    where
      by : Contains (number ∷ []) n ⊎ Contains waiting n → (number ≡ n) ⊎ Contains waiting n
      by (inr later) = inr later
      by (inl first) = alone (Contains-push_cases [] number n first)
        where
          alone : Contains [] n ⊎ (number ≡ n) → (number ≡ n) ⊎ Contains waiting n
          alone (inr is) = inl is
          alone (inl never) = let less = never.1 in absurd (omega (arith, less))

  -- the line of this number is another one, of which this holds, and this of the others
  taken-by : (waiting : List ℕ) (table later : Table G) (number : ℕ) (line : Line G) → MovesTo number line table later → Contains waiting number ⊎ (line.inbox.items ≡ [])
      → ((n : ℕ) (x : Line G) → (number ≡ n → ⊥) → get nat_eq table.lines n ≡ Some x → Contains waiting n ⊎ (x.inbox.items ≡ [])) → AreTakenBut waiting later
  taken-by waiting table later number line moved own others n x at = by (number == n) refl (sym (moved n) ∙ at)
    where
      by : (b : Bool) → (number == n) ≡ b → (if b then Some line else get nat_eq table.lines n) ≡ Some x → Contains waiting n ⊎ (x.inbox.items ≡ [])
      by true is there =
          subst (λ (m : ℕ). Contains waiting m ⊎ (x.inbox.items ≡ [])) (equal number n is) (subst (λ (y : Line G). Contains waiting number ⊎ (y.inbox.items ≡ [])) (some there) own)
        where
          some : {a b : Line G} → Some a ≡ Some b → a ≡ b
          some eq = cc
      by false is there = others n x (λ same. let never : ◌≡◌ {A = Bool} true false = grind (arith, nat_tests) in cc) there

  -- the inbox of the line is as it was
  pub taken-moved : (waiting : List ℕ) (table later : Table G) (number : ℕ) (old line : Line G) → AreTakenBut waiting table → get nat_eq table.lines number ≡ Some old → MovesTo number line table later
      → line.inbox.items ≡ old.inbox.items → AreTakenBut waiting later
  taken-moved waiting table later number old line taken was moved same = taken-by waiting table later number line moved (own (taken number old was)) (λ n x apart at. taken n x at)
    where
      own : Contains waiting number ⊎ (old.inbox.items ≡ []) → Contains waiting number ⊎ (line.inbox.items ≡ [])
      own (inl among) = inl among
      own (inr none) = inr (same ∙ none)

  -- the line has had a turn
  taken-turned : (waiting : List ℕ) (table later : Table G) (number : ℕ) (line : Line G) → AreTakenBut waiting table → MovesTo number line table later → AreTakenBut (waiting ++ number ∷ []) later
  taken-turned waiting table later number line taken moved =
      taken-by (waiting ++ number ∷ []) table later number line moved (inl (Contains-push waiting number)) (λ n x apart at. more n x (taken n x at))
    where
      more : (n : ℕ) (x : Line G) → Contains waiting n ⊎ (x.inbox.items ≡ []) → Contains (waiting ++ number ∷ []) n ⊎ (x.inbox.items ≡ [])
      more n x (inl among) = inl (Contains-append_left waiting (number ∷ []) n among)
      more n x (inr none) = inr none

  -- where the first that waits is another one, it is one of those behind it
  behind-first : (number : ℕ) (waiting : List ℕ) (n : ℕ) (x : Line G) → (number ≡ n → ⊥) → Contains (number ∷ waiting) n ⊎ (x.inbox.items ≡ []) → Contains waiting n ⊎ (x.inbox.items ≡ [])
  behind-first number waiting n x apart (inr none) = inr none
  behind-first number waiting n x apart (inl among) = by (first-or number waiting n among)
    where
      by : (number ≡ n) ⊎ Contains waiting n → Contains waiting n ⊎ (x.inbox.items ≡ [])
      by (inl is) = absurd (apart is)
      by (inr later) = inl later

  -- the core took all that came of the line
  taken-stepped : (waiting : List ℕ) (table later : Table G) (number : ℕ) (line : Line G) → AreTakenBut (number ∷ waiting) table → MovesTo number line table later → line.inbox.items ≡ [] → AreTakenBut waiting later
  taken-stepped waiting table later number line taken moved none =
      taken-by waiting table later number line moved (inr none) (λ n x apart at. behind-first number waiting n x apart (taken n x at))

  -- a number that no line has waits for nothing
  pub taken-without : (waiting : List ℕ) (table : Table G) (number : ℕ) → AreTakenBut (number ∷ waiting) table → get nat_eq table.lines number ≡ None → AreTakenBut waiting table
  taken-without waiting table number taken none n x at =
      behind-first number waiting n x (λ is. let never : ◌≡◌ {A = Option (Line G)} None (Some x) = sym none ∙ (ap (get nat_eq table.lines) is ∙ at) in cc) (taken n x at)

  -- one more may wait
  pub taken-more : (waiting : List ℕ) (table : Table G) (number : ℕ) → AreTakenBut waiting table → AreTakenBut (waiting ++ number ∷ []) table
  taken-more waiting table number taken n x at = by (taken n x at)
    where
      by : Contains waiting n ⊎ (x.inbox.items ≡ []) → Contains (waiting ++ number ∷ []) n ⊎ (x.inbox.items ≡ [])
      by (inl among) = inl (Contains-append_left waiting (number ∷ []) n among)
      by (inr none) = inr none

  -- others wait, of the same lines
  pub serves-waiting : (records given : List Record) (waiting waiting_after : List ℕ) (table later : Table G) → Held records given waiting table → later ≡ table → AreTakenBut waiting_after table
      → Held records given waiting_after later
  serves-waiting records given waiting waiting_after table later s same taken =
      subst (Held records given waiting_after) (sym same) (record { laid = s.laid; parts = s.parts; lines = s.lines; over = s.over; known = s.known; below = s.below; taken = taken })

  -- ---- one line has moved, of records of which perhaps more came or were laid

  pub serves-moved : (records given records_after given_after laid_after : List Record) (waiting waiting_after : List ℕ) (table later : Table G) (number : ℕ) (old line : Line G) (s : Held records given waiting table)
      → get nat_eq table.lines number ≡ Some old → MovesTo number line table later → later.over.items ≡ table.over.items → table.next ≤ later.next → laid_after ++ given_after ≡ records_after
      → (Of records s.laid number old → Of records_after laid_after number line) → ((n : ℕ) (x : Line G) → (number ≡ n → ⊥) → Of records s.laid n x → Of records_after laid_after n x)
      → ((x : Line G) → (number ≡ x.number → ⊥) → Over records s.laid x → Over records_after laid_after x) → All (λ r. IsKnown later r.connection) (inputs records_after) → AreBelow later.next laid_after
      → AreTakenBut waiting_after later → Held records_after given_after waiting_after later
  serves-moved records given records_after given_after laid_after waiting waiting_after table later number old line s was moved same next parts own others over known below taken = record {
    laid = laid_after;
    parts = parts;
    lines = λ n x at. by n x (number == n) refl (sym (moved n) ∙ at);
    over =
        subst (All (λ p. Gone records_after laid_after later p.0)) (sym same)
        (All-weaker (λ p. Gone records s.laid table p.0) (λ p. Gone records_after laid_after later p.0) (λ p g. gone p.0 g) table.over.items s.over);
    known = known;
    below = below;
    taken = taken;
  }
    where
      by : (n : ℕ) (x : Line G) (b : Bool) → (number == n) ≡ b → (if b then Some line else get nat_eq table.lines n) ≡ Some x → (n < later.next) × Of records_after laid_after n x
      by n x true is at =
          let here : number ≡ n = equal number n is in
          let line_is : line ≡ x = some at in
          let held = s.lines number old was in
          let less = held.0 in
          (omega (arith, here, less, next), subst (λ (m : ℕ). Of records_after laid_after m x) here (subst (Of records_after laid_after number) line_is (own held.1)))
        where
          some : {a b : Line G} → Some a ≡ Some b → a ≡ b
          some eq = cc
      by n x false is at =
          let held = s.lines n x at in
          let less = held.0 in
          (omega (arith, less, next), others n x (λ same. let never : ◌≡◌ {A = Bool} true false = grind (arith, nat_tests) in cc) held.1)

      gone : (x : Line G) → Gone records s.laid table x → Gone records_after laid_after later x
      gone x g =
          let apart = not-gone records s.laid table number old x was g in
          let less = g.below in
          record {
            over = over x apart g.over;
            gone = moved x.number ∙ (ap (λ b. if b then Some line else get nat_eq table.lines x.number) (differs (number == x.number) refl apart) ∙ g.gone);
            below = omega (arith, less, next);
          }
        where
          differs : (b : Bool) → (number == x.number) ≡ b → (number ≡ x.number → ⊥) → b ≡ false
          differs true is apart = absurd (apart (equal number x.number is))
          differs false is apart = refl

  -- records and frames as they were
  pub serves-turned : (records given : List Record) (waiting waiting_after : List ℕ) (table later : Table G) (number : ℕ) (old line : Line G) → Held records given waiting table → get nat_eq table.lines number ≡ Some old → MovesTo number line table later
      → later.over.items ≡ table.over.items → later.next ≡ table.next → ((laid : List Record) → laid ++ given ≡ records → Of records laid number old → Of records laid number line) → AreTakenBut waiting_after later
      → Held records given waiting_after later
  serves-turned records given waiting waiting_after table later number old line s was moved same next own taken =
      serves-moved records given records given s.laid waiting waiting_after table later number old line s was moved same (omega (arith, next)) s.parts (own s.laid s.parts) (λ n x apart h. h) (λ x apart h. h)
      (all-known table later (inputs records) (known-moved table later number line moved same) s.known) (subst (λ m. AreBelow m s.laid) (sym next) s.below)
      taken

  -- the core took what came of the line
  pub serves-stepped : (inbox given more : List Record) (earlier after : Recording) (waiting : List ℕ) (table later : Table G) (number : ℕ) (old line : Line G) → Held earlier.journal.records given (number ∷ waiting) table
      → get nat_eq table.lines number ≡ Some old → MovesTo number line table later → later.over.items ≡ table.over.items → later.next ≡ table.next → HasStepped inbox earlier after more → old.inbox.items ≡ inbox
      → line.number ≡ old.number
      → ((taken : List What) (written : List (List ℕ)) → IsLine Delivered Took ended taken written old → IsLine Delivered Took ended (taken ++ told_by old.inbox.items) written line)
      → line.inbox.items ≡ [] → Held after.journal.records (given ++ more) waiting later
  serves-stepped inbox given more earlier after waiting table later number old line s was moved same next stepped is own_number own emptied =
      let held = (s.lines number old was).1 in
      let entries : All (IsEntry number) old.inbox.items = subst (λ n. All (IsEntry n) old.inbox.items) held.number held.holds.entries in
      let mine : All (IsEntry number) inbox = subst (All (IsEntry number)) is entries in
      let grown : after.journal.records ≡ earlier.journal.records ++ more = ap (λ (j : _). j.records) stepped.noted_now in
      serves-moved earlier.journal.records given after.journal.records (given ++ more) s.laid (number ∷ waiting) waiting table later number old line s was moved same (omega (arith, next))
      (sym (append_assoc s.laid given more) ∙ (ap (λ (xs : List Record). xs ++ more) s.parts ∙ sym grown))
      (λ h. record {
        number = own_number ∙ h.number;
        holds =
            subst (λ (xs : List What). IsLine Delivered Took ended xs (frames_to number s.laid) line)
            (ap (λ (xs : List Record). inputs_of number earlier.journal.records ++ told_by xs) is ∙ sym (inputs-stepped number inbox more earlier after stepped mine))
            (own (inputs_of number earlier.journal.records) (frames_to number s.laid) h.holds);
      })
      (λ n x apart h. record {
        number = h.number;
        holds =
            subst (λ (xs : List What). IsLine Delivered Took ended xs (frames_to n s.laid) x) (sym (inputs-kept n number inbox more earlier after apart stepped mine)) h.holds;
      })
      (λ x apart h. record {
        status = h.status;
        taken_all = h.taken_all;
        before = h.before;
        behind = h.behind;
        parts = h.parts;
        holds =
            subst (λ (xs : List What). IsLine Delivered Took ended xs (frames_to x.number h.before) x) (sym (inputs-kept x.number number inbox more earlier after apart stepped mine)) h.holds;
      })
      (subst (All (λ (r : Record). IsKnown later r.connection)) (sym stepped.inputs_now)
      (All-append (λ (r : Record). IsKnown later r.connection) (inputs earlier.journal.records) inbox
      (all-known table later (inputs earlier.journal.records) (known-moved table later number line moved same) s.known)
      (λ k d lt. inl (line, ap (get nat_eq later.lines) (mine k d lt).own ∙ (moved number ∙ ap (λ b. if b then Some line else get nat_eq table.lines number) (itself number))))))
      (subst (λ m. AreBelow m s.laid) (sym next) s.below) (taken-stepped waiting table later number line s.taken moved emptied)

  over-laid : (records laid : List Record) (r : Record) (x : Line G) → Over records laid x → Over records (laid ++ r ∷ []) x
  over-laid records laid r x h = record {
    status = h.status;
    taken_all = h.taken_all;
    before = h.before;
    behind = h.behind ++ r ∷ [];
    parts = ap (λ (xs : List Record). xs ++ r ∷ []) h.parts ∙ append_assoc h.before h.behind (r ∷ []);
    holds = h.holds;
  }

  of-laid : (records laid : List Record) (r : Record) (n : ℕ) (x : Line G) → writes_on n r ≡ false → Of records laid n x → Of records (laid ++ r ∷ []) n x
  of-laid records laid r n x none h =
      record { number = h.number; holds = subst (λ (xs : List (List ℕ)). IsLine Delivered Took ended (inputs_of n records) xs x) (sym (frames-kept n laid r none)) h.holds }

  below-laid : (n m : ℕ) (laid : List Record) (r : Record) → n ≤ m → r.connection < m → AreBelow n laid → AreBelow m (laid ++ r ∷ [])
  below-laid n m laid r le less below = All-push (λ (x : Record). x.connection < m) laid r (below-more n m laid le below) less

  next-laid : (laid rest records : List Record) (r : Record) → laid ++ r ∷ rest ≡ records → (laid ++ r ∷ []) ++ rest ≡ records
  next-laid laid rest records r parts = append_assoc laid (r ∷ []) rest ∙ parts

  -- a frame was laid out for the line
  pub serves-laid : (records rest : List Record) (waiting : List ℕ) (r : Record) (table later : Table G) (number : ℕ) (old line : Line G) (frame : List ℕ) → Held records (r ∷ rest) waiting table
      → get nat_eq table.lines number ≡ Some old → MovesTo number line table later → later.over.items ≡ table.over.items → table.next ≤ later.next → r.connection < later.next
      → r.connection ≡ number → is_output r.what ≡ true → frame_of r.what ≡ frame → line.number ≡ old.number
      → ((taken : List What) (written : List (List ℕ)) → IsLine Delivered Took ended taken written old → IsLine Delivered Took ended taken (written ++ frame ∷ []) line)
      → line.inbox.items ≡ old.inbox.items → Held records rest waiting later
  serves-laid records rest waiting r table later number old line frame s was moved same next less own_connection written frame_is own_number own inbox =
      serves-moved records (r ∷ rest) records rest (s.laid ++ r ∷ []) waiting waiting table later number old line s was moved same next (next-laid s.laid rest records r s.parts)
      (λ h. record {
        number = own_number ∙ h.number;
        holds =
            subst (λ (xs : List (List ℕ)). IsLine Delivered Took ended (inputs_of number records) xs line)
            (ap (λ f. frames_to number s.laid ++ f ∷ []) (sym frame_is) ∙ sym (frames-written number s.laid r written own_connection))
            (own (inputs_of number records) (frames_to number s.laid) h.holds);
      })
      (λ n x apart h. of-laid records s.laid r n x (elsewhere n (λ is. apart (sym own_connection ∙ is))) h) (λ x apart h. over-laid records s.laid r x h)
      (all-known table later (inputs records) (known-moved table later number line moved same) s.known) (below-laid table.next later.next s.laid r next less s.below)
      (taken-moved waiting table later number old line s.taken was moved inbox)
    where
      elsewhere : (n : ℕ) → (r.connection ≡ n → ⊥) → writes_on n r ≡ false
      elsewhere n apart = by (is_output r.what) (r.connection == n) refl
        where
          by : (a b : Bool) → (r.connection == n) ≡ b → (a && b) ≡ false
          by true true is = absurd (apart (equal r.connection n is))
          by true false is = refl
          by false b is = refl

  -- a record that writes no frame to a connection that is open
  pub serves-passed : (records rest : List Record) (waiting : List ℕ) (r : Record) (table later : Table G) → Held records (r ∷ rest) waiting table → later.lines ≡ table.lines → later.over.items ≡ table.over.items → table.next ≤ later.next
      → r.connection < later.next → ((n : ℕ) (x : Line G) → get nat_eq table.lines n ≡ Some x → writes_on n r ≡ false) → Held records rest waiting later
  serves-passed records rest waiting r table later s same over_same next less none = record {
    laid = s.laid ++ r ∷ [];
    parts = next-laid s.laid rest records r s.parts;
    lines = λ n x at.
        let before : get nat_eq table.lines n ≡ Some x = ap (λ m. get nat_eq m n) (sym same) ∙ at in
        let held = s.lines n x before in
        let lower = held.0 in
        (omega (arith, lower, next), of-laid records s.laid r n x (none n x before) held.1);
    over =
        subst (All (λ p. Gone records (s.laid ++ r ∷ []) later p.0)) (sym over_same)
        (All-weaker (λ p. Gone records s.laid table p.0) (λ p. Gone records (s.laid ++ r ∷ []) later p.0)
        (λ p g. let lower = g.below in record { over = over-laid records s.laid r p.0 g.over; gone = ap (λ m. get nat_eq m p.0.number) same ∙ g.gone; below = omega (arith, lower, next) })
        table.over.items s.over);
    known = all-known table later (inputs records) passed s.known;
    below = below-laid table.next later.next s.laid r next less s.below;
    taken = λ n x at. s.taken n x (ap (λ m. get nat_eq m n) (sym same) ∙ at);
  }
    where
      passed : (n : ℕ) → IsKnown table n → IsKnown later n
      passed n (inl held) = inl (held.0, ap (λ m. get nat_eq m n) same ∙ held.1)
      passed n (inr over) = inr (subst (λ (xs : List (Line G × Unit {0})). Contains (map (λ (p : Line G × Unit {0}). p.0.number) xs) n) (sym over_same) over)

  -- a connection came
  pub serves-admitted : (records : List Record) (waiting : List ℕ) (table later : Table G) (line : Line G) → Held records [] waiting table → MovesTo table.next line table later → later.over.items ≡ table.over.items
      → later.next ≡ table.next + 1 → line.number ≡ table.next → IsLine Delivered Took ended [] [] line → line.inbox.items ≡ [] → Held records [] waiting later
  serves-admitted records waiting table later line s moved same next number fresh empty =
      let laid_is : s.laid ≡ records = sym (append-nil s.laid) ∙ s.parts in
      record {
        laid = s.laid;
        parts = s.parts;
        lines = λ n x at. by laid_is n x (table.next == n) refl (sym (moved n) ∙ at);
        over =
            subst (All (λ p. Gone records s.laid later p.0)) (sym same)
            (All-weaker (λ p. Gone records s.laid table p.0) (λ p. Gone records s.laid later p.0) (λ p g. gone p.0 g) table.over.items s.over);
        known = all-known table later (inputs records) (known-moved table later table.next line moved same) s.known;
        below = below-more table.next later.next s.laid (omega (arith, next)) s.below;
        taken = taken-by waiting table later table.next line moved (inr empty) (λ n x apart at. s.taken n x at);
      }
    where
      by : s.laid ≡ records → (n : ℕ) (x : Line G) (b : Bool) → (table.next == n) ≡ b → (if b then Some line else get nat_eq table.lines n) ≡ Some x → (n < later.next) × Of records s.laid n x
      by laid_is n x true is at =
          let here : table.next ≡ n = equal table.next n is in
          let line_is : line ≡ x = some at in (
            omega (arith, here, next),
            subst (λ (m : ℕ). Of records s.laid m x) here (subst (Of records s.laid table.next) line_is (record {
              number = number;
              holds =
                  subst (λ (xs : List (List ℕ)). IsLine Delivered Took ended (inputs_of table.next records) xs line) (sym (none-laid table.next s.laid s.below))
                  (subst (λ (xs : List What). IsLine Delivered Took ended xs [] line) (sym (none-before table.next records (subst (AreBelow table.next) laid_is s.below))) fresh);
            })),
          )
        where
          some : {a b : Line G} → Some a ≡ Some b → a ≡ b
          some eq = cc
      by laid_is n x false is at =
          let held = s.lines n x at in
          let less = held.0 in
          (omega (arith, less, next), held.1)

      gone : (x : Line G) → Gone records s.laid table x → Gone records s.laid later x
      gone x g =
          let less = g.below in
          record {
            over = g.over;
            gone = moved x.number ∙ (ap (λ b. if b then Some line else get nat_eq table.lines x.number) (differs (table.next == x.number) refl less) ∙ g.gone);
            below = omega (arith, less, next);
          }
        where
          differs : (b : Bool) → (table.next == x.number) ≡ b → x.number < table.next → b ≡ false
          differs true is lower = let here = equal table.next x.number is in absurd (omega (arith, here, lower))
          differs false is lower = refl

  -- a line was let go
  pub serves-left : (records given : List Record) (waiting : List ℕ) (table later : Table G) (number : ℕ) (line : Line G) → Held records given waiting table → get nat_eq table.lines number ≡ Some line
      → ((n : ℕ) → get nat_eq later.lines n ≡ (if number == n then None else get nat_eq table.lines n)) → later.over.items ≡ table.over.items ++ (line, tt) ∷ [] → later.next ≡ table.next
      → line.status ≡ Ended → line.inbox.items ≡ [] → Held records given waiting later
  serves-left records given waiting table later number line s was moved more next status taken_all = record {
    laid = s.laid;
    parts = s.parts;
    lines = λ n x at. by n x (number == n) refl (sym (moved n) ∙ at);
    over =
        subst (All (λ p. Gone records s.laid later p.0)) (sym more)
        (All-push (λ p. Gone records s.laid later p.0) table.over.items (line, tt)
        (All-weaker (λ p. Gone records s.laid table p.0) (λ p. Gone records s.laid later p.0) (λ p g. gone p.0 g) table.over.items s.over) own);
    known = all-known table later (inputs records) left s.known;
    below = subst (λ m. AreBelow m s.laid) (sym next) s.below;
    taken = λ n x at. still n x (number == n) (sym (moved n) ∙ at);
  }
    where
      still : (n : ℕ) (x : Line G) (b : Bool) → (if b then None else get nat_eq table.lines n) ≡ Some x → Contains waiting n ⊎ (x.inbox.items ≡ [])
      still n x true at = absurd cc
      still n x false at = s.taken n x at

      all-over : map number_of later.over.items ≡ map number_of table.over.items ++ line.number ∷ []
      all-over = ap (λ (xs : List (Line G × Unit {0})). map number_of xs) more ∙ map-append number_of table.over.items ((line, tt) ∷ [])

      left : (n : ℕ) → IsKnown table n → IsKnown later n
      left n (inr over) = inr (subst (λ (xs : List ℕ). Contains xs n) (sym all-over) (Contains-append_left (map number_of table.over.items) (line.number ∷ []) n over))
      left n (inl held) = by-number (number == n) refl
        where
          by-number : (b : Bool) → (number == n) ≡ b → IsKnown later n
          by-number true is =
              inr (subst (λ (xs : List ℕ). Contains xs n) (sym all-over)
              (subst (λ (m : ℕ). Contains (map number_of table.over.items ++ line.number ∷ []) m) ((s.lines number line was).1.number ∙ equal number n is) (Contains-push (map number_of table.over.items) line.number)))
          by-number false is = inl (held.0, moved n ∙ (ap (λ b. if b then None else get nat_eq table.lines n) is ∙ held.1))

      by : (n : ℕ) (x : Line G) (b : Bool) → (number == n) ≡ b → (if b then None else get nat_eq table.lines n) ≡ Some x → (n < later.next) × Of records s.laid n x
      by n x true is at = absurd cc
      by n x false is at = let held = s.lines n x at in let less = held.0 in (omega (arith, less, next), held.1)

      without : (n : ℕ) (b : Bool) → get nat_eq table.lines n ≡ None → (if b then None else get nat_eq table.lines n) ≡ None
      without n true none = refl
      without n false none = none

      gone : (x : Line G) → Gone records s.laid table x → Gone records s.laid later x
      gone x g =
          let less = g.below in
          record { over = g.over; gone = moved x.number ∙ without x.number (number == x.number) g.gone; below = omega (arith, less, next) }

      own : Gone records s.laid later line
      own =
          let held = s.lines number line was in
          let less = held.0 in
          let number_is = held.1.number in
          record {
            over = record {
              status = status;
              taken_all = taken_all;
              before = s.laid;
              behind = [];
              parts = sym (append-nil s.laid);
              holds =
                  subst (λ n. IsLine Delivered Took ended (inputs_of n records) (frames_to n s.laid) line) (sym number_is) held.1.holds;
            };
            gone = moved line.number ∙ here (number == line.number) refl;
            below = omega (arith, less, next, number_is);
          }
        where
          here : (b : Bool) → (number == line.number) ≡ b → (if b then None else get nat_eq table.lines line.number) ≡ None
          here true is = refl
          here false is =
              let number_is = (s.lines number line was).1.number in
              let never : ◌≡◌ {A = Bool} true false = grind (arith, nat_tests) in cc

  -- no lines
  pub serves-none : (table : Table G) → ((n : ℕ) → get nat_eq table.lines n ≡ None) → table.over.items ≡ [] → Held [] [] [] table
  serves-none table none over_none = record {
    laid = [];
    parts = refl;
    lines = λ n x at. let never : ◌≡◌ {A = Option (Line G)} None (Some x) = sym (none n) ∙ at in cc;
    over = subst (All (λ p. Gone [] [] table p.0)) (sym over_none) (All-nil (λ p. Gone [] [] table p.0));
    known = All-nil (λ (r : Record). IsKnown table r.connection);
    below = All-nil (λ (r : Record). r.connection < table.next);
    taken = λ n x at. let never : ◌≡◌ {A = Option (Line G)} None (Some x) = sym (none n) ∙ at in cc;
  }

  -- ---- one turn

  laid-all : (records laid : List Record) → laid ++ [] ≡ records → laid ≡ records
  laid-all records laid parts = sym (append-nil laid) ∙ parts

  -- a line is as its core has it
  pub line-before : (records : List Record) (waiting : List ℕ) (table : Table G) (number : ℕ) (line : Line G) → Held records [] waiting table → get nat_eq table.lines number ≡ Some line
      → IsLine Delivered Took ended (inputs_of line.number records) (frames_to line.number records) line
  line-before records waiting table number line s was =
      let held = (s.lines number line was).1 in
      subst (λ n. IsLine Delivered Took ended (inputs_of n records) (frames_to n records) line) (sym held.number)
      (subst (λ (xs : List Record). IsLine Delivered Took ended (inputs_of number records) (frames_to number xs) line) (laid-all records s.laid s.parts) held.holds)

  -- and so it is behind its turn
  pub line-behind : (records : List Record) (waiting : List ℕ) (table later : Table G) (number : ℕ) (old line : Line G) → Held records [] waiting table → get nat_eq table.lines number ≡ Some old → MovesTo number line table later
      → later.over.items ≡ table.over.items → later.next ≡ table.next → line.number ≡ old.number → IsLine Delivered Took ended (inputs_of old.number records) (frames_to old.number records) line
      → Held records [] (waiting ++ number ∷ []) later
  line-behind records waiting table later number old line s was moved same next own after =
      serves-turned records [] waiting (waiting ++ number ∷ []) table later number old line s was moved same next
      (λ laid parts h. record {
        number = own ∙ h.number;
        holds =
            subst (λ (xs : List Record). IsLine Delivered Took ended (inputs_of number records) (frames_to number xs) line) (sym (laid-all records laid parts))
            (subst (λ n. IsLine Delivered Took ended (inputs_of n records) (frames_to n records) line) h.number after);
      })
      (taken-turned waiting table later number line s.taken moved)

  -- what lies in the inbox of a line is of its connection
  pub line-entries : (records given : List Record) (waiting : List ℕ) (table : Table G) (number : ℕ) (line : Line G) → Held records given waiting table → get nat_eq table.lines number ≡ Some line → All (IsEntry line.number) line.inbox.items
  line-entries records given waiting table number line s was = (s.lines number line was).1.holds.entries

  -- where a connection has no line, nothing is written to one that has
  pub none-to : (r : Record) (table : Table G) → get nat_eq table.lines r.connection ≡ None → (n : ℕ) (x : Line G) → get nat_eq table.lines n ≡ Some x → writes_on n r ≡ false
  none-to r table none n x at = by (is_output r.what) (r.connection == n) refl
    where
      by : (a b : Bool) → (r.connection == n) ≡ b → (a && b) ≡ false
      by true true is = let never : ◌≡◌ {A = Option (Line G)} None (Some x) = sym none ∙ (ap (get nat_eq table.lines) (equal r.connection n is) ∙ at) in cc
      by true false is = refl
      by false b is = refl
