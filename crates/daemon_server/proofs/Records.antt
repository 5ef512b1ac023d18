-- What the records of a core have of a connection, where more follow.
use Rattle.std.proofs.Common.{◌≡◌, refl, sym, ap, ◌∙◌, ℕ, ◌<◌, Bool, true, false, ◌&&◌, List, [], ◌∷◌, ◌++◌, All, not, map, filter, ◌==◌, if◌then◌else◌, append-nil, arith}
use Rattle.std.proofs.lemmas.Bool.Decides.{nat_tests}
use Rattle.std.proofs.lemmas.List.{map-append}
use Rattle.std.proofs.lemmas.List.Elements.{filter-append, All-filter, All-head, All-tail}
use Rattle.capture_form.specs.declared.records.Record.{Record}
use Rattle.capture_form.specs.Text.{frame_of}
use Rattle.route_items.specs.Inputs.{inputs, is_output}
use Rattle.route_items.specs.WrittenFrames.{writes_on}
use Rattle.daemon_server.specs.Recordings.{Recording}
use Rattle.daemon_server.specs.Desks.{IsEntry, told_by}
use Rattle.daemon_server.specs.Stepping.{HasStepped, IsInput}
use Rattle.daemon_server.specs.Lines.{AreBelow, frames_to, inputs_of}

same : (c n : ℕ) → c ≡ n → (c == n) ≡ true
same c n is = grind (arith, nat_tests)

differ : (c n : ℕ) → (c ≡ n → ⊥) → (c == n) ≡ false
differ c n not = by (c == n) refl
  where
    by : (b : Bool) → (c == n) ≡ b → b ≡ false
    by true is = absurd (not (grind (arith, nat_tests)))
    by false is = refl

less : (c n : ℕ) → c < n → c ≡ n → ⊥
less c n lt is = omega (arith, lt, is)

-- it is of the connection
abbrev is_of : ℕ → Record → Bool
is_of n r = r.connection == n

all-own : (n : ℕ) (inbox : List Record) → All (IsEntry n) inbox → filter (is_of n) inbox ≡ inbox
all-own n [] all = refl
all-own n (r ∷ rs) all =
    ap (λ b. if b then r ∷ filter (is_of n) rs else filter (is_of n) rs) (same r.connection n (All-head (IsEntry n) r rs all).own)
    ∙ ap (λ (xs : List Record). r ∷ xs) (all-own n rs (All-tail (IsEntry n) r rs all))

none-of : (c : ℕ) (records : List Record) → All (λ r. r.connection ≡ c → ⊥) records → filter (is_of c) records ≡ []
none-of c [] all = refl
none-of c (r ∷ rs) all =
    ap (λ b. if b then r ∷ filter (is_of c) rs else filter (is_of c) rs) (differ r.connection c (All-head (λ (x : Record). x.connection ≡ c → ⊥) r rs all))
    ∙ none-of c rs (All-tail (λ (x : Record). x.connection ≡ c → ⊥) r rs all)

none-written : (c : ℕ) (records : List Record) → All (λ r. r.connection ≡ c → ⊥) records → filter (writes_on c) records ≡ []
none-written c [] all = refl
none-written c (r ∷ rs) all =
    ap (λ b. if b then r ∷ filter (writes_on c) rs else filter (writes_on c) rs) (never (is_output r.what) (differ r.connection c (All-head (λ (x : Record). x.connection ≡ c → ⊥) r rs all)))
    ∙ none-written c rs (All-tail (λ (x : Record). x.connection ≡ c → ⊥) r rs all)
  where
    never : (b : Bool) {t : Bool} → t ≡ false → (b && t) ≡ false
    never true is = is
    never false is = refl

not-of : (c n : ℕ) (inbox : List Record) → (n ≡ c → ⊥) → All (IsEntry n) inbox → All (λ r. r.connection ≡ c → ⊥) inbox
not-of c n inbox not all = λ k d lt is. not (sym (all k d lt).own ∙ is)

-- ---- inputs

more : (n : ℕ) (earlier later inbox : List Record) → inputs later ≡ inputs earlier ++ inbox → inputs_of n later ≡ inputs_of n earlier ++ told_by (filter (is_of n) inbox)
more n earlier later inbox is =
    ap (λ (xs : List Record). told_by (filter (is_of n) xs)) is
    ∙ (ap told_by (filter-append (is_of n) (inputs earlier) inbox)
    ∙ map-append (λ (r : Record). r.what) (filter (is_of n) (inputs earlier)) (filter (is_of n) inbox))

-- those of the connection whose inbox it was
pub inputs-stepped : (n : ℕ) (inbox given : List Record) (earlier later : Recording) → HasStepped inbox earlier later given → All (IsEntry n) inbox
    → inputs_of n later.journal.records ≡ inputs_of n earlier.journal.records ++ told_by inbox
inputs-stepped n inbox given earlier later stepped all =
    more n earlier.journal.records later.journal.records inbox stepped.inputs_now
    ∙ ap (λ (xs : List Record). inputs_of n earlier.journal.records ++ told_by xs) (all-own n inbox all)

-- and of each other one
pub inputs-kept : (c n : ℕ) (inbox given : List Record) (earlier later : Recording) → (n ≡ c → ⊥) → HasStepped inbox earlier later given → All (IsEntry n) inbox
    → inputs_of c later.journal.records ≡ inputs_of c earlier.journal.records
inputs-kept c n inbox given earlier later not stepped all =
    more c earlier.journal.records later.journal.records inbox stepped.inputs_now
    ∙ (ap (λ (xs : List Record). inputs_of c earlier.journal.records ++ told_by xs) (none-of c inbox (not-of c n inbox not all))
    ∙ append-nil (inputs_of c earlier.journal.records))

-- an inbox has inputs that may be taken
pub inputs-are : (n : ℕ) (inbox : List Record) → All (IsEntry n) inbox → All IsInput inbox
inputs-are n inbox all = λ k d lt. let entry = all k d lt in record { input = entry.input; bare = entry.bare; bounds = entry.bounds }

-- ---- frames

-- a record that writes one
pub frames-written : (n : ℕ) (laid : List Record) (r : Record) → is_output r.what ≡ true → r.connection ≡ n → frames_to n (laid ++ r ∷ []) ≡ frames_to n laid ++ frame_of r.what ∷ []
frames-written n laid r written own =
    ap (map (λ (x : Record). frame_of x.what)) (filter-append (writes_on n) laid (r ∷ []))
    ∙ (map-append (λ (x : Record). frame_of x.what) (filter (writes_on n) laid) (filter (writes_on n) (r ∷ []))
    ∙ ap (λ b. frames_to n laid ++ map (λ (x : Record). frame_of x.what) (if b then r ∷ [] else [])) (both (is_output r.what) (r.connection == n) written (same r.connection n own)))
  where
    both : (a b : Bool) → a ≡ true → b ≡ true → (a && b) ≡ true
    both true b one is = is
    both false b one is = let never : ◌≡◌ {A = Bool} false true = one in cc

-- one that writes none to it
pub frames-kept : (n : ℕ) (laid : List Record) (r : Record) → writes_on n r ≡ false → frames_to n (laid ++ r ∷ []) ≡ frames_to n laid
frames-kept n laid r none =
    ap (map (λ (x : Record). frame_of x.what)) (filter-append (writes_on n) laid (r ∷ []))
    ∙ (map-append (λ (x : Record). frame_of x.what) (filter (writes_on n) laid) (filter (writes_on n) (r ∷ []))
    ∙ (ap (λ b. frames_to n laid ++ map (λ (x : Record). frame_of x.what) (if b then r ∷ [] else [])) none
    ∙ append-nil (frames_to n laid)))

-- ---- a connection that comes

pub none-before : (n : ℕ) (records : List Record) → AreBelow n records → inputs_of n records ≡ []
none-before n records below = ap told_by (none-of n (inputs records) (All-filter (λ (r : Record). not (is_output r.what)) (λ (r : Record). r.connection ≡ n → ⊥) records (λ k d lt. less _ n (below k d lt))))

pub none-laid : (n : ℕ) (records : List Record) → AreBelow n records → frames_to n records ≡ []
none-laid n records below = ap (map (λ (x : Record). frame_of x.what)) (none-written n records (λ k d lt. less _ n (below k d lt)))
