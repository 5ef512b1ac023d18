-- What the words ask for, by what the parser makes of them.
use Rattle.std.proofs.Common.{◌≡◌, ◌∙◌, ◌⊎◌, inl, inr, ap, sym, subst, ℕ, ◌<◌, ◌≤◌, ◌^◌, false, refl, arith, codes, map, List, [], ◌∷◌, Option, Some, None, Result}
use Rattle.std.proofs.lemmas.Bool.{or_parts}
use Rattle.std.specs.Prelude.{option_map, unwrap_or}
use Rattle.std.specs.List.{list_any}
use Rattle.std.specs.Borrow.{Bor}
use Rattle.std.specs.Str.Parse.{ParsesUnsigned}
use Rattle.clap.specs.Faults.{fault_of}
use Rattle.clap.specs.Kinds.{HasKind, Kinds, or_else}
use Rattle.clap.specs.Matches.{ReadsOne}
use Rattle.clap.specs.Simple.{matches_of}
use Rattle.clap.specs.Values.{kind_of}
use Rattle.clap.specs.Walk.{Row, all_of, first_of, one_of}
use Rattle.clap.specs.declared.error.Error.{Error}
use Rattle.clap.specs.declared.error.kind.ErrorKind.{ErrorKind}
use Rattle.clap.specs.declared.error.kind.ErrorKind.TheVariants.{MissingRequiredArgument, OutOfMemory, ValueValidation}
use Rattle.program_ends.specs.Words.{is_option}
use Rattle.program_ends.proofs.Parsing.{no_kind, only_kind}
use Rattle.program_ends.proofs.PlainWords.{without_minus-plain}
use Rattle.router_words.specs.declared.words.Words.{Words}
use Rattle.router_words.specs.Asking.{AsksFor, IsMistake, Spells, SpellsWithin}
use Rattle.router_words.specs.Words.{command_line}
use Rattle.router_words.proofs.Numbers.{number_cases, read_number}
use Rattle.router_words.proofs.WordLemmas.{connections_kinds, fault_of-four, fault_of-none, fault_of-one, fault_of-three, fault_of-two, matches_of-four, rows_of_words, workers_kinds}

-- a number that is read of a row
pub record ReadsNumber (least most : ℕ) (row : Option (List ℕ)) (number : ℕ) : Type 0 where
  pub read : (word : List ℕ) → row ≡ Some word → SpellsWithin least most word → Spells word number × (least ≤ number) × (number ≤ most)

pub number_read : (E : Type 0) (G : List ℕ → Result ℕ E → Type 0) (k least most : ℕ) (found : Option ℕ) (none number : ℕ) (row : Option (List ℕ))
    → ((u : List ℕ) (x : Result ℕ E) → G u x → ParsesUnsigned k 10 u x) → most < 2 ^ k → number ≡ unwrap_or found none
    → ((word : List ℕ) → row ≡ Some word → ReadsOne G word found) → ReadsNumber least most row number
number_read E G k least most found none number row only fits is reads = record {
  read = λ word has within.
      let got = read_number E G k least most word found only fits within (reads word has) in
      let same : got.0 ≡ number = sym (is ∙ ap (λ o. unwrap_or o none) got.1) in
      subst (λ v. Spells word v × (least ≤ v) × (v ≤ most)) same (got.2, got.3, got.4);
}

-- what is read of the rows
pub record AreRead (rows : List Row) (asked : Words) : Type 0 where
  pub listen : (word : List ℕ) → first_of (codes "LISTEN") rows ≡ Some word → asked.listen.now ≡ word
  pub capture : (word : List ℕ) → first_of (codes "CAPTURE") rows ≡ Some word → asked.capture.now ≡ word
  pub workers : ReadsNumber 1 64 (one_of (codes "WORKERS") rows) asked.workers
  pub connections : ReadsNumber 0 65535 (one_of (codes "CONNECTIONS") rows) asked.connections
  pub rules : map (λ rule. rule.now) asked.rules.items ≡ unwrap_or (all_of (codes "RULE") rows) []

pub text_read : (found : Option (Bor (List ℕ))) (none read : Bor (List ℕ)) (word : List ℕ) → read ≡ unwrap_or found none
    → option_map (λ s. s.now) found ≡ Some word → read.now ≡ word
text_read (Some text) none read word is has =
    let same : text.now ≡ word = cc in
    ap (λ s. s.now) is ∙ same
text_read None none read word is has = absurd cc

pub texts_read : (found : Option (Bor (List (Bor (List ℕ))))) (none read : Bor (List (Bor (List ℕ)))) (words : Option (List (List ℕ)))
    → read ≡ unwrap_or found none → none.now ≡ [] → option_map (λ s. map (λ v. v.now) s.now) found ≡ words
    → map (λ v. v.now) read.now ≡ unwrap_or words []
texts_read (Some texts) none read words is empty has = ap (λ s. map (λ v. v.now) s.now) is ∙ ap (λ w. unwrap_or w []) has
texts_read None none read words is empty has =
    ap (λ s. map (λ v. v.now) s.now) is ∙ ap (map (λ v. v.now)) empty ∙ ap (λ w. unwrap_or w []) has

workers-row : (a b w n : List ℕ) (rules : List (List ℕ)) → is_option w ≡ false → one_of (codes "WORKERS") (rows_of_words a b w n rules) ≡ Some w
workers-row a b w n rules plain = ap Some (without_minus-plain w plain)

connections-row : (a b w n : List ℕ) (rules : List (List ℕ)) → is_option n ≡ false → one_of (codes "CONNECTIONS") (rows_of_words a b w n rules) ≡ Some n
connections-row a b w n rules plain = ap Some (without_minus-plain n plain)

rules-row : (a b w n : List ℕ) (rules : List (List ℕ)) → unwrap_or (all_of (codes "RULE") (rows_of_words a b w n rules)) [] ≡ rules
rules-row a b w n [] = refl
rules-row a b w n (r ∷ rs) = refl

none_left : (first : Kinds) (last : ErrorKind) → or_else first (last ∷ []) ≡ [] → ⊥
none_left [] last e = cc
none_left (k ∷ ks) last e = cc

both_empty : (first second : Kinds) → or_else first second ≡ [] → (first ≡ []) × (second ≡ [])
both_empty [] second e = (refl, e)
both_empty (k ∷ ks) second e = absurd cc

-- the number is in its range, since there is no mistake
is_right : (least most : ℕ) (word : List ℕ) (kinds : Kinds)
    → ((kinds ≡ []) × SpellsWithin least most word) ⊎ ((kinds ≡ ValueValidation ∷ []) × ¬ (SpellsWithin least most word)) → kinds ≡ []
    → SpellsWithin least most word
is_right least most word kinds (inl right) none = right.1
is_right least most word kinds (inr wrong) none = let clash : ValueValidation ∷ [] ≡ [] = sym wrong.0 ∙ none in absurd cc

-- the parser took the words, and this was read of them
pub answers_taken : (words : List (List ℕ)) (rows : List Row) (asked : Words) → rows ≡ matches_of command_line words → AreRead rows asked
    → fault_of command_line words ≡ [] → list_any is_option words ≡ false → AsksFor words asked
answers_taken [] rows asked are got none plain = let clash : MissingRequiredArgument ∷ [] ≡ [] = sym fault_of-none ∙ none in absurd cc
answers_taken (a ∷ []) rows asked are got none plain =
    let clash : MissingRequiredArgument ∷ [] ≡ [] = sym (fault_of-one a (or_parts (is_option a) false plain).0) ∙ none in absurd cc
answers_taken (a ∷ b ∷ []) rows asked are got none plain =
    let pa = or_parts (is_option a) (list_any is_option (b ∷ [])) plain in
    let clash : MissingRequiredArgument ∷ [] ≡ [] = sym (fault_of-two a b pa.0 (or_parts (is_option b) false pa.1).0) ∙ none in absurd cc
answers_taken (a ∷ b ∷ w ∷ []) rows asked are got none plain =
    let pa = or_parts (is_option a) (list_any is_option (b ∷ w ∷ [])) plain in
    let pb = or_parts (is_option b) (list_any is_option (w ∷ [])) pa.1 in
    absurd (none_left (workers_kinds w) MissingRequiredArgument (sym (fault_of-three a b w pa.0 pb.0 (or_parts (is_option w) false pb.1).0) ∙ none))
answers_taken (a ∷ b ∷ w ∷ n ∷ rules) rows asked are got none plain =
    let pa = or_parts (is_option a) (list_any is_option (b ∷ w ∷ n ∷ rules)) plain in
    let pb = or_parts (is_option b) (list_any is_option (w ∷ n ∷ rules)) pa.1 in
    let pw = or_parts (is_option w) (list_any is_option (n ∷ rules)) pb.1 in
    let pn = or_parts (is_option n) (list_any is_option rules) pw.1 in
    let is : rows ≡ rows_of_words a b w n rules = are ∙ matches_of-four a b w n rules plain in
    let mistakes = both_empty (workers_kinds w) (connections_kinds n) (sym (fault_of-four a b w n rules plain) ∙ none) in
    let workers = got.workers.read w (ap (one_of (codes "WORKERS")) is ∙ workers-row a b w n rules pw.0)
    (is_right 1 64 w (workers_kinds w) (number_cases 1 64 w pw.0 (omega arith)) mistakes.0) in
    let connections = got.connections.read n (ap (one_of (codes "CONNECTIONS")) is ∙ connections-row a b w n rules pn.0)
    (is_right 0 65535 n (connections_kinds n) (number_cases 0 65535 n pn.0 (omega arith)) mistakes.1) in
    record {
      listen = got.listen a (ap (first_of (codes "LISTEN")) is);
      capture = got.capture b (ap (first_of (codes "CAPTURE")) is);
      workers = workers.0;
      some_workers = workers.1;
      few_workers = workers.2;
      connections = connections.0;
      rules = got.rules ∙ ap (λ rs. unwrap_or (all_of (codes "RULE") rs) []) is ∙ rules-row a b w n rules;
    }

-- the parser refused three words
refused_three : (w : List ℕ) (error : Error)
    → ((workers_kinds w ≡ []) × SpellsWithin 1 64 w) ⊎ ((workers_kinds w ≡ ValueValidation ∷ []) × ¬ (SpellsWithin 1 64 w))
    → HasKind (or_else (workers_kinds w) (MissingRequiredArgument ∷ [])) error
    → (kind_of error ≡ OutOfMemory)
    ⊎ (((kind_of error ≡ MissingRequiredArgument) × SpellsWithin 1 64 w) ⊎ ((kind_of error ≡ ValueValidation) × ¬ (SpellsWithin 1 64 w)))
refused_three w error (inl right) kind =
    elim (only_kind MissingRequiredArgument error (subst (λ k. HasKind (or_else k (MissingRequiredArgument ∷ [])) error) right.0 kind)) [
      | inl memory ↦ inl memory
      | inr missing ↦ inr (inl (missing, right.1))
    ]
refused_three w error (inr wrong) kind =
    elim (only_kind ValueValidation error (subst (λ k. HasKind (or_else k (MissingRequiredArgument ∷ [])) error) wrong.0 kind)) [
      | inl memory ↦ inl memory
      | inr invalid ↦ inr (inr (invalid, wrong.1))
    ]

-- the parser refused four words or more
refused_four : (w n : List ℕ) (error : Error)
    → ((workers_kinds w ≡ []) × SpellsWithin 1 64 w) ⊎ ((workers_kinds w ≡ ValueValidation ∷ []) × ¬ (SpellsWithin 1 64 w))
    → ((connections_kinds n ≡ []) × SpellsWithin 0 65535 n) ⊎ ((connections_kinds n ≡ ValueValidation ∷ []) × ¬ (SpellsWithin 0 65535 n))
    → HasKind (or_else (workers_kinds w) (connections_kinds n)) error
    → (kind_of error ≡ OutOfMemory) ⊎ ((kind_of error ≡ ValueValidation) × ¬ (SpellsWithin 1 64 w × SpellsWithin 0 65535 n))
refused_four w n error (inl right) (inl right') kind =
    let none : or_else (workers_kinds w) (connections_kinds n) ≡ [] = rw (right.0, right'.0) refl in
    inl (no_kind error (subst (λ k. HasKind k error) none kind))
refused_four w n error (inl right) (inr wrong) kind =
    let one : or_else (workers_kinds w) (connections_kinds n) ≡ ValueValidation ∷ [] = rw (right.0, wrong.0) refl in
    elim (only_kind ValueValidation error (subst (λ k. HasKind k error) one kind)) [
      | inl memory ↦ inl memory
      | inr invalid ↦ inr (invalid, λ both. wrong.1 both.1)
    ]
refused_four w n error (inr wrong) other kind =
    let one : or_else (workers_kinds w) (connections_kinds n) ≡ ValueValidation ∷ [] = rw wrong.0 refl in
    elim (only_kind ValueValidation error (subst (λ k. HasKind k error) one kind)) [
      | inl memory ↦ inl memory
      | inr invalid ↦ inr (invalid, λ both. wrong.1 both.0)
    ]

-- the parser refused the words with this error
pub answers_refused : (words : List (List ℕ)) (error : Error) → HasKind (fault_of command_line words) error → list_any is_option words ≡ false
    → (kind_of error ≡ OutOfMemory) ⊎ IsMistake words (kind_of error)
answers_refused [] error kind plain = only_kind MissingRequiredArgument error (subst (λ k. HasKind k error) fault_of-none kind)
answers_refused (a ∷ []) error kind plain =
    only_kind MissingRequiredArgument error (subst (λ k. HasKind k error) (fault_of-one a (or_parts (is_option a) false plain).0) kind)
answers_refused (a ∷ b ∷ []) error kind plain =
    let pa = or_parts (is_option a) (list_any is_option (b ∷ [])) plain in
    only_kind MissingRequiredArgument error (subst (λ k. HasKind k error) (fault_of-two a b pa.0 (or_parts (is_option b) false pa.1).0) kind)
answers_refused (a ∷ b ∷ w ∷ []) error kind plain =
    let pa = or_parts (is_option a) (list_any is_option (b ∷ w ∷ [])) plain in
    let pb = or_parts (is_option b) (list_any is_option (w ∷ [])) pa.1 in
    let pw = (or_parts (is_option w) false pb.1).0 in
    refused_three w error (number_cases 1 64 w pw (omega arith)) (subst (λ k. HasKind k error) (fault_of-three a b w pa.0 pb.0 pw) kind)
answers_refused (a ∷ b ∷ w ∷ n ∷ rules) error kind plain =
    let pa = or_parts (is_option a) (list_any is_option (b ∷ w ∷ n ∷ rules)) plain in
    let pb = or_parts (is_option b) (list_any is_option (w ∷ n ∷ rules)) pa.1 in
    let pw = or_parts (is_option w) (list_any is_option (n ∷ rules)) pb.1 in
    let pn = or_parts (is_option n) (list_any is_option rules) pw.1 in
    refused_four w n error (number_cases 1 64 w pw.0 (omega arith)) (number_cases 0 65535 n pn.0 (omega arith))
    (subst (λ k. HasKind k error) (fault_of-four a b w n rules plain) kind)
