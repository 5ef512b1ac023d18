-- What the parser makes of words that are no options: which rows it keeps of them, and which kind of mistake it finds.
use Rattle.std.proofs.Common.{◌≡◌, ◌∙◌, ap, ap₂, sym, subst, ℕ, ◌++◌, append_assoc, true, false, refl, codes, List, [], ◌∷◌, Some, None}
use Rattle.std.proofs.lemmas.Bool.{or_parts}
use Rattle.std.specs.Prelude.{pos, fold}
use Rattle.std.specs.List.{list_any}
use Rattle.clap.specs.Faults.{built_fault, check_fault, defaults_fault, fault_of, is_simple_and_free, settle_fault, turn_fault, walk_fault}
use Rattle.clap.specs.Kinds.{Kinds, or_else, values_kinds}
use Rattle.clap.specs.Simple.{Shape, built, matches_of}
use Rattle.clap.specs.Walk.{Row, Text, Waiting, Walk, idle, nothing_held, positional, settled, walk, walk_from, walked, with_default}
use Rattle.clap.specs.declared.builder.value_parser.Reading.{Reading}
use Rattle.clap.specs.declared.builder.value_parser.Reading.TheVariants.{AsWritten, WithoutMinus}
use Rattle.clap.specs.declared.builder.value_parser.ValueParser.TheVariants.{Signed}
use Rattle.clap.specs.declared.error.kind.ErrorKind.TheVariants.{MissingRequiredArgument}
use Rattle.clap.specs.declared.parser.matches.ValueSource.TheVariants.{CommandLine}
use Rattle.clap.proofs.OnLiterals.{clap_on_literals}
use Rattle.program_ends.specs.Words.{is_option}
use Rattle.program_ends.proofs.PlainWords.{dashes-plain, strip_byte-plain}
use Rattle.router_words.specs.Words.{command_line}

pub command_line-is_free : is_simple_and_free command_line ≡ true
unfolding clap_on_literals
command_line-is_free = refl

-- ---- the walk

abbrev shape : Shape
shape = (built command_line).top

abbrev row : Text → Reading → List Text → Row
row id how values = record { id = id; values = values; count = None; source = Some CommandLine; reading = how }

abbrev at : List Row → Text → Text → Waiting → ℕ → Walk
at rows id word waiting position = record {
  held = record { rows = rows; pending = Some (id, word ∷ []); skip = 0 };
  waiting = waiting;
  position = position;
  is_trailing = false;
  stopped = None;
}

abbrev listen_row : Text → Row
listen_row word = row (codes "LISTEN") AsWritten (word ∷ [])

abbrev capture_row : Text → Row
capture_row word = row (codes "CAPTURE") AsWritten (word ∷ [])

abbrev workers_row : Text → Row
workers_row word = row (codes "WORKERS") WithoutMinus (word ∷ [])

abbrev connections_row : Text → Row
connections_row word = row (codes "CONNECTIONS") WithoutMinus (word ∷ [])

-- the rows of rules, where there are some
abbrev rule_rows : List Text → List Row
rule_rows [] = []
rule_rows (rule ∷ rules) = row (codes "RULE") AsWritten (rule ∷ rules) ∷ []

-- the rows of four words and the rules behind them
abbrev pub rows_of_words : Text → Text → Text → Text → List Text → List Row
rows_of_words a b w n rules = listen_row a ∷ capture_row b ∷ workers_row w ∷ connections_row n ∷ rule_rows rules

abbrev walk_1 : Text → Walk
walk_1 a = at [] (codes "LISTEN") a idle 2

abbrev walk_2 : Text → Text → Walk
walk_2 a b = at (listen_row a ∷ []) (codes "CAPTURE") b idle 3

abbrev walk_3 : Text → Text → Text → Walk
walk_3 a b w = at (listen_row a ∷ capture_row b ∷ []) (codes "WORKERS") w idle 4

abbrev walk_4 : Text → Text → Text → Text → Walk
walk_4 a b w n = at (listen_row a ∷ capture_row b ∷ workers_row w ∷ []) (codes "CONNECTIONS") n idle 5

-- behind some rules and one more
abbrev walk_on : Text → Text → Text → Text → List Text → Text → Walk
walk_on a b w n rules rule = at (rows_of_words a b w n rules) (codes "RULE") rule positional 5

step_1 : (a : Text) → is_option a ≡ false → walked shape.rules [] (walk_from nothing_held) a ≡ walk_1 a
unfolding clap_on_literals
step_1 a plain = rw (dashes-plain a plain, strip_byte-plain a plain, strip_byte-plain a plain) refl

step_2 : (a b : Text) → is_option b ≡ false → walked shape.rules [] (walk_1 a) b ≡ walk_2 a b
unfolding clap_on_literals
step_2 a b plain = rw (dashes-plain b plain, strip_byte-plain b plain, strip_byte-plain b plain) refl

step_3 : (a b w : Text) → is_option w ≡ false → walked shape.rules [] (walk_2 a b) w ≡ walk_3 a b w
unfolding clap_on_literals
step_3 a b w plain = rw (dashes-plain w plain, strip_byte-plain w plain, strip_byte-plain w plain) refl

step_4 : (a b w n : Text) → is_option n ≡ false → walked shape.rules [] (walk_3 a b w) n ≡ walk_4 a b w n
unfolding clap_on_literals
step_4 a b w n plain = rw (dashes-plain n plain, strip_byte-plain n plain, strip_byte-plain n plain) refl

step_5 : (a b w n r : Text) → is_option r ≡ false → walked shape.rules [] (walk_4 a b w n) r ≡ walk_on a b w n [] r
unfolding clap_on_literals
step_5 a b w n r plain = rw (dashes-plain r plain, strip_byte-plain r plain, strip_byte-plain r plain) refl

step_on : (a b w n : Text) (rules : List Text) (rule next : Text) → is_option next ≡ false
    → walked shape.rules [] (walk_on a b w n rules rule) next ≡ walk_on a b w n (rules ++ rule ∷ []) next
unfolding clap_on_literals
step_on a b w n [] rule next plain = rw (dashes-plain next plain, strip_byte-plain next plain, strip_byte-plain next plain) refl
step_on a b w n (r ∷ rs) rule next plain = rw (dashes-plain next plain, strip_byte-plain next plain, strip_byte-plain next plain) refl

-- ---- the mistakes in the walk

-- the kinds of mistake of a word that is to be a number
abbrev pub workers_kinds : Text → Kinds
workers_kinds w = values_kinds false (Signed (pos 1) (pos 64)) (w ∷ [])

abbrev pub connections_kinds : Text → Kinds
connections_kinds n = values_kinds false (Signed (pos 0) (pos 65535)) (n ∷ [])

turn_1 : (a : Text) → is_option a ≡ false → turn_fault shape [] (walk_from nothing_held) a ≡ []
unfolding clap_on_literals
turn_1 a plain = rw (dashes-plain a plain, strip_byte-plain a plain, strip_byte-plain a plain) refl

turn_2 : (a b : Text) → is_option b ≡ false → turn_fault shape [] (walk_1 a) b ≡ []
unfolding clap_on_literals
turn_2 a b plain = rw (dashes-plain b plain, strip_byte-plain b plain, strip_byte-plain b plain) refl

turn_3 : (a b w : Text) → is_option w ≡ false → turn_fault shape [] (walk_2 a b) w ≡ []
unfolding clap_on_literals
turn_3 a b w plain = rw (dashes-plain w plain, strip_byte-plain w plain, strip_byte-plain w plain) refl

turn_4 : (a b w n : Text) → is_option n ≡ false → turn_fault shape [] (walk_3 a b w) n ≡ workers_kinds w
unfolding clap_on_literals
turn_4 a b w n plain = rw (dashes-plain n plain, strip_byte-plain n plain, strip_byte-plain n plain) refl

turn_5 : (a b w n r : Text) → is_option r ≡ false → turn_fault shape [] (walk_4 a b w n) r ≡ connections_kinds n
unfolding clap_on_literals
turn_5 a b w n r plain = rw (dashes-plain r plain, strip_byte-plain r plain, strip_byte-plain r plain) refl

turn_on : (a b w n : Text) (rules : List Text) (rule next : Text) → is_option next ≡ false
    → turn_fault shape [] (walk_on a b w n rules rule) next ≡ []
unfolding clap_on_literals
turn_on a b w n [] rule next plain = rw (dashes-plain next plain, strip_byte-plain next plain, strip_byte-plain next plain) refl
turn_on a b w n (r ∷ rs) rule next plain = rw (dashes-plain next plain, strip_byte-plain next plain, strip_byte-plain next plain) refl

-- ---- the end of a walk

-- a walk met no subcommand; these are its rows once the word that waits is used, and this is the mistake in that word
record Ends (end : Walk) (rows : List Row) (kinds : Kinds) : Type 0 where
  stopped : end.stopped ≡ None
  used : (settled shape.rules end.held).rows ≡ rows
  mistake : settle_fault shape.rules shape.args_override_self end.held ≡ kinds

ends_0 : Ends (walk_from nothing_held) [] []
unfolding clap_on_literals
ends_0 = record { stopped = refl; used = refl; mistake = refl }

ends_1 : (a : Text) → Ends (walk_1 a) (listen_row a ∷ []) []
unfolding clap_on_literals
ends_1 a = record { stopped = refl; used = refl; mistake = refl }

ends_2 : (a b : Text) → Ends (walk_2 a b) (listen_row a ∷ capture_row b ∷ []) []
unfolding clap_on_literals
ends_2 a b = record { stopped = refl; used = refl; mistake = refl }

ends_3 : (a b w : Text) → Ends (walk_3 a b w) (listen_row a ∷ capture_row b ∷ workers_row w ∷ []) (workers_kinds w)
unfolding clap_on_literals
ends_3 a b w = record { stopped = refl; used = refl; mistake = refl }

ends_4 : (a b w n : Text) → Ends (walk_4 a b w n) (rows_of_words a b w n []) (connections_kinds n)
unfolding clap_on_literals
ends_4 a b w n = record { stopped = refl; used = refl; mistake = refl }

ends_on : (a b w n : Text) (rules : List Text) (rule : Text)
    → Ends (walk_on a b w n rules rule) (rows_of_words a b w n (rules ++ rule ∷ [])) []
unfolding clap_on_literals
ends_on a b w n [] rule = record { stopped = refl; used = refl; mistake = refl }
ends_on a b w n (r ∷ rs) rule = record { stopped = refl; used = refl; mistake = refl }

-- what stands behind the walk: arguments that are lacking
lacking : List Row → Kinds
lacking rows = or_else (defaults_fault rows shape.rules) (check_fault shape (fold with_default rows shape.rules) false)

lacking-0 : lacking [] ≡ MissingRequiredArgument ∷ []
unfolding lacking clap_on_literals
lacking-0 = refl

lacking-1 : (a : Text) → lacking (listen_row a ∷ []) ≡ MissingRequiredArgument ∷ []
unfolding lacking clap_on_literals
lacking-1 a = refl

lacking-2 : (a b : Text) → lacking (listen_row a ∷ capture_row b ∷ []) ≡ MissingRequiredArgument ∷ []
unfolding lacking clap_on_literals
lacking-2 a b = refl

lacking-3 : (a b w : Text) → lacking (listen_row a ∷ capture_row b ∷ workers_row w ∷ []) ≡ MissingRequiredArgument ∷ []
unfolding lacking clap_on_literals
lacking-3 a b w = refl

lacking-4 : (a b w n : Text) (rules : List Text) → lacking (rows_of_words a b w n rules) ≡ []
unfolding lacking clap_on_literals
lacking-4 a b w n [] = refl
lacking-4 a b w n (r ∷ rs) = refl

with_defaults : (a b w n : Text) (rules : List Text) → fold with_default (rows_of_words a b w n rules) shape.rules ≡ rows_of_words a b w n rules
unfolding clap_on_literals
with_defaults a b w n [] = refl
with_defaults a b w n (r ∷ rs) = refl

-- ---- all words

-- the walk over the words comes to an end with these rows, and this is the first mistake in them
record IsRead (words : List Text) (rows : List Row) (kinds : Kinds) : Type 0 where
  end : Walk
  settling : Kinds
  reading : Kinds
  walked_to : walk shape.rules [] nothing_held words ≡ end
  ends : Ends end rows settling
  mistake : walk_fault shape [] (walk_from nothing_held) words ≡ reading
  kinds_are : or_else reading settling ≡ kinds

fault_none : (walk : Walk) → walk_fault shape [] walk [] ≡ []
unfolding clap_on_literals
fault_none walk = refl

fault_cons : (s : Shape) (w next : Walk) (word : Text) (rest : List Text) (kinds : Kinds) → walked s.rules [] w word ≡ next
    → turn_fault s [] w word ≡ kinds → walk_fault s [] w (word ∷ rest) ≡ or_else kinds (walk_fault s [] next rest)
unfolding walk_fault
fault_cons s w next word rest kinds step turn = ap₂ (λ k v. or_else k (walk_fault s [] v rest)) turn step

or_else-nil : (kinds : Kinds) → or_else kinds [] ≡ kinds
or_else-nil [] = refl
or_else-nil (k ∷ ks) = refl

or_else_assoc : (a b c : Kinds) → or_else (or_else a b) c ≡ or_else a (or_else b c)
or_else_assoc [] b c = refl
or_else_assoc (k ∷ ks) b c = refl

-- the walk over rules, behind some and one more
record IsOver (a b w n : Text) (all : List Text) (from : Walk) (rest : List Text) : Type 0 where
  ends : Ends (fold (walked shape.rules []) from rest) (rows_of_words a b w n all) []
  mistake : walk_fault shape [] from rest ≡ []

over : (a b w n : Text) (rules : List Text) (rule : Text) (rest : List Text) → list_any is_option rest ≡ false
    → IsOver a b w n (rules ++ rule ∷ rest) (walk_on a b w n rules rule) rest
over a b w n rules rule [] plain = record { ends = ends_on a b w n rules rule; mistake = fault_none (walk_on a b w n rules rule) }
over a b w n rules rule (next ∷ rest) plain =
    let parts = or_parts (is_option next) (list_any is_option rest) plain in
    let on = over a b w n (rules ++ rule ∷ []) next rest parts.1 in
    let step = step_on a b w n rules rule next parts.0 in
    let all : (rules ++ rule ∷ []) ++ next ∷ rest ≡ rules ++ rule ∷ next ∷ rest = append_assoc rules (rule ∷ []) (next ∷ rest) in
    let reached : Ends (fold (walked shape.rules []) (walk_on a b w n (rules ++ rule ∷ []) next) rest) (rows_of_words a b w n (rules ++ rule ∷ next ∷ rest)) [] =
    subst (λ rs. Ends (fold (walked shape.rules []) (walk_on a b w n (rules ++ rule ∷ []) next) rest) (rows_of_words a b w n rs) []) all on.ends in
    record {
      ends = subst (λ v. Ends (fold (walked shape.rules []) v rest) (rows_of_words a b w n (rules ++ rule ∷ next ∷ rest)) []) (sym step) reached;
      mistake = fault_cons shape (walk_on a b w n rules rule) (walk_on a b w n (rules ++ rule ∷ []) next) next rest [] step (turn_on a b w n rules rule next parts.0) ∙ on.mistake;
    }

-- the walk over four words comes to those behind them
over_four : (a b w n : Text) (rest : List Text) → is_option a ≡ false → is_option b ≡ false → is_option w ≡ false → is_option n ≡ false
    → (walk shape.rules [] nothing_held (a ∷ b ∷ w ∷ n ∷ rest) ≡ fold (walked shape.rules []) (walk_4 a b w n) rest)
    × (walk_fault shape [] (walk_from nothing_held) (a ∷ b ∷ w ∷ n ∷ rest) ≡ or_else (workers_kinds w) (walk_fault shape [] (walk_4 a b w n) rest))
over_four a b w n rest pa pb pw pn = (
  ap (λ v. fold (walked shape.rules []) v (b ∷ w ∷ n ∷ rest)) (step_1 a pa)
      ∙ ap (λ v. fold (walked shape.rules []) v (w ∷ n ∷ rest)) (step_2 a b pb)
      ∙ ap (λ v. fold (walked shape.rules []) v (n ∷ rest)) (step_3 a b w pw)
      ∙ ap (λ v. fold (walked shape.rules []) v rest) (step_4 a b w n pn),
  fault_cons shape (walk_from nothing_held) (walk_1 a) a (b ∷ w ∷ n ∷ rest) [] (step_1 a pa) (turn_1 a pa)
      ∙ fault_cons shape (walk_1 a) (walk_2 a b) b (w ∷ n ∷ rest) [] (step_2 a b pb) (turn_2 a b pb)
      ∙ fault_cons shape (walk_2 a b) (walk_3 a b w) w (n ∷ rest) [] (step_3 a b w pw) (turn_3 a b w pw)
      ∙ fault_cons shape (walk_3 a b w) (walk_4 a b w n) n rest (workers_kinds w) (step_4 a b w n pn) (turn_4 a b w n pn),
)

-- four words and more are read
read_four : (a b w n : Text) (rules : List Text) → list_any is_option (a ∷ b ∷ w ∷ n ∷ rules) ≡ false
    → IsRead (a ∷ b ∷ w ∷ n ∷ rules) (rows_of_words a b w n rules) (or_else (workers_kinds w) (connections_kinds n))
read_four a b w n rules plain =
    let pa = or_parts (is_option a) (list_any is_option (b ∷ w ∷ n ∷ rules)) plain in
    let pb = or_parts (is_option b) (list_any is_option (w ∷ n ∷ rules)) pa.1 in
    let pw = or_parts (is_option w) (list_any is_option (n ∷ rules)) pb.1 in
    let pn = or_parts (is_option n) (list_any is_option rules) pw.1 in
    go rules (over_four a b w n rules pa.0 pb.0 pw.0 pn.0) pn.1
  where
    go : (rs : List Text)
        → (walk shape.rules [] nothing_held (a ∷ b ∷ w ∷ n ∷ rs) ≡ fold (walked shape.rules []) (walk_4 a b w n) rs)
        × (walk_fault shape [] (walk_from nothing_held) (a ∷ b ∷ w ∷ n ∷ rs) ≡ or_else (workers_kinds w) (walk_fault shape [] (walk_4 a b w n) rs))
        → list_any is_option rs ≡ false
        → IsRead (a ∷ b ∷ w ∷ n ∷ rs) (rows_of_words a b w n rs) (or_else (workers_kinds w) (connections_kinds n))
    go [] four none = record {
      end = walk_4 a b w n;
      settling = connections_kinds n;
      reading = or_else (workers_kinds w) [];
      walked_to = four.0;
      ends = ends_4 a b w n;
      mistake = four.1 ∙ ap (or_else (workers_kinds w)) (fault_none (walk_4 a b w n));
      kinds_are = ap (λ k. or_else k (connections_kinds n)) (or_else-nil (workers_kinds w));
    }
    go (r ∷ rs) four more =
        let parts = or_parts (is_option r) (list_any is_option rs) more in
        let rest = over a b w n [] r rs parts.1 in
        record {
          end = fold (walked shape.rules []) (walk_on a b w n [] r) rs;
          settling = [];
          reading = or_else (workers_kinds w) (or_else (connections_kinds n) []);
          walked_to = four.0 ∙ ap (λ v. fold (walked shape.rules []) v rs) (step_5 a b w n r parts.0);
          ends = rest.ends;
          mistake = four.1 ∙ ap (or_else (workers_kinds w)) (
              fault_cons shape (walk_4 a b w n) (walk_on a b w n [] r) r rs (connections_kinds n) (step_5 a b w n r parts.0) (turn_5 a b w n r parts.0)
              ∙ ap (or_else (connections_kinds n)) rest.mistake);
          kinds_are = or_else-nil (or_else (workers_kinds w) (or_else (connections_kinds n) [])) ∙ ap (or_else (workers_kinds w)) (or_else-nil (connections_kinds n));
        }

read_none : IsRead [] [] []
read_none = record {
  end = walk_from nothing_held;
  settling = [];
  reading = [];
  walked_to = refl;
  ends = ends_0;
  mistake = fault_none (walk_from nothing_held);
  kinds_are = refl;
}

read_one : (a : Text) → is_option a ≡ false → IsRead (a ∷ []) (listen_row a ∷ []) []
read_one a pa = record {
  end = walk_1 a;
  settling = [];
  reading = [];
  walked_to = step_1 a pa;
  ends = ends_1 a;
  mistake = fault_cons shape (walk_from nothing_held) (walk_1 a) a [] [] (step_1 a pa) (turn_1 a pa) ∙ fault_none (walk_1 a);
  kinds_are = refl;
}

read_two : (a b : Text) → is_option a ≡ false → is_option b ≡ false → IsRead (a ∷ b ∷ []) (listen_row a ∷ capture_row b ∷ []) []
read_two a b pa pb = record {
  end = walk_2 a b;
  settling = [];
  reading = [];
  walked_to = ap (λ v. fold (walked shape.rules []) v (b ∷ [])) (step_1 a pa) ∙ step_2 a b pb;
  ends = ends_2 a b;
  mistake = fault_cons shape (walk_from nothing_held) (walk_1 a) a (b ∷ []) [] (step_1 a pa) (turn_1 a pa)
      ∙ fault_cons shape (walk_1 a) (walk_2 a b) b [] [] (step_2 a b pb) (turn_2 a b pb) ∙ fault_none (walk_2 a b);
  kinds_are = refl;
}

read_three : (a b w : Text) → is_option a ≡ false → is_option b ≡ false → is_option w ≡ false
    → IsRead (a ∷ b ∷ w ∷ []) (listen_row a ∷ capture_row b ∷ workers_row w ∷ []) (workers_kinds w)
read_three a b w pa pb pw = record {
  end = walk_3 a b w;
  settling = workers_kinds w;
  reading = [];
  walked_to = ap (λ v. fold (walked shape.rules []) v (b ∷ w ∷ [])) (step_1 a pa) ∙ ap (λ v. fold (walked shape.rules []) v (w ∷ [])) (step_2 a b pb) ∙ step_3 a b w pw;
  ends = ends_3 a b w;
  mistake = fault_cons shape (walk_from nothing_held) (walk_1 a) a (b ∷ w ∷ []) [] (step_1 a pa) (turn_1 a pa)
      ∙ fault_cons shape (walk_1 a) (walk_2 a b) b (w ∷ []) [] (step_2 a b pb) (turn_2 a b pb)
      ∙ fault_cons shape (walk_2 a b) (walk_3 a b w) w [] [] (step_3 a b w pw) (turn_3 a b w pw) ∙ fault_none (walk_3 a b w);
  kinds_are = refl;
}

-- ---- what it comes to

-- the kinds of mistake of words that are read
built_kinds : (s : Shape) (words : List Text) (end : Walk) (reading : Kinds) → walk s.rules [] nothing_held words ≡ end → end.stopped ≡ None
    → walk_fault s [] (walk_from nothing_held) words ≡ reading
    → built_fault (record { top = s; subs = [] }) nothing_held words
    ≡ or_else reading (or_else (settle_fault s.rules s.args_override_self end.held)
    (or_else (defaults_fault (settled s.rules end.held).rows s.rules) (check_fault s (fold with_default (settled s.rules end.held).rows s.rules) false)))
built_kinds s words end reading walked_to stopped mistake = rw (walked_to, stopped, mistake) refl

one_shape : built command_line ≡ record { top = shape; subs = [] }
unfolding clap_on_literals
one_shape = refl

kinds_of_words : (words : List Text) (rows : List Row) (kinds last : Kinds) → IsRead words rows kinds → lacking rows ≡ last
    → fault_of command_line words ≡ or_else kinds last
unfolding lacking
kinds_of_words words rows kinds last got behind =
    let whole = built_kinds shape words got.end got.reading got.walked_to got.ends.stopped got.mistake in
    let front : or_else (settle_fault shape.rules shape.args_override_self got.end.held) (lacking (settled shape.rules got.end.held).rows) ≡ or_else got.settling last =
    ap₂ or_else got.ends.mistake (ap lacking got.ends.used ∙ behind) in
    whole ∙ ap (or_else got.reading) front ∙ sym (or_else_assoc got.reading got.settling last) ∙ ap (λ k. or_else k last) got.kinds_are

-- four words and rules behind them: the first number that is none or out of its range
pub fault_of-four : (a b w n : Text) (rules : List Text) → list_any is_option (a ∷ b ∷ w ∷ n ∷ rules) ≡ false
    → fault_of command_line (a ∷ b ∷ w ∷ n ∷ rules) ≡ or_else (workers_kinds w) (connections_kinds n)
fault_of-four a b w n rules plain =
    kinds_of_words (a ∷ b ∷ w ∷ n ∷ rules) (rows_of_words a b w n rules) (or_else (workers_kinds w) (connections_kinds n)) [] (read_four a b w n rules plain) (lacking-4 a b w n rules)
    ∙ or_else-nil (or_else (workers_kinds w) (connections_kinds n))

-- fewer words
pub fault_of-none : fault_of command_line [] ≡ MissingRequiredArgument ∷ []
fault_of-none = kinds_of_words [] [] [] (MissingRequiredArgument ∷ []) read_none lacking-0

pub fault_of-one : (a : Text) → is_option a ≡ false → fault_of command_line (a ∷ []) ≡ MissingRequiredArgument ∷ []
fault_of-one a pa = kinds_of_words (a ∷ []) (listen_row a ∷ []) [] (MissingRequiredArgument ∷ []) (read_one a pa) (lacking-1 a)

pub fault_of-two : (a b : Text) → is_option a ≡ false → is_option b ≡ false → fault_of command_line (a ∷ b ∷ []) ≡ MissingRequiredArgument ∷ []
fault_of-two a b pa pb = kinds_of_words (a ∷ b ∷ []) (listen_row a ∷ capture_row b ∷ []) [] (MissingRequiredArgument ∷ []) (read_two a b pa pb) (lacking-2 a b)

pub fault_of-three : (a b w : Text) → is_option a ≡ false → is_option b ≡ false → is_option w ≡ false
    → fault_of command_line (a ∷ b ∷ w ∷ []) ≡ or_else (workers_kinds w) (MissingRequiredArgument ∷ [])
fault_of-three a b w pa pb pw =
    kinds_of_words (a ∷ b ∷ w ∷ []) (listen_row a ∷ capture_row b ∷ workers_row w ∷ []) (workers_kinds w) (MissingRequiredArgument ∷ []) (read_three a b w pa pb pw) (lacking-3 a b w)

-- the rows of four words and the rules behind them
pub matches_of-four : (a b w n : Text) (rules : List Text) → list_any is_option (a ∷ b ∷ w ∷ n ∷ rules) ≡ false
    → matches_of command_line (a ∷ b ∷ w ∷ n ∷ rules) ≡ rows_of_words a b w n rules
matches_of-four a b w n rules plain =
    let got = read_four a b w n rules plain in
    let ended : (settled shape.rules (walk shape.rules [] nothing_held (a ∷ b ∷ w ∷ n ∷ rules)).held).rows ≡ rows_of_words a b w n rules =
    ap (λ v. (settled shape.rules v.held).rows) got.walked_to ∙ got.ends.used in
    ap (λ rows. fold with_default rows shape.rules) ended ∙ with_defaults a b w n rules
