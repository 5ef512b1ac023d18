-- Each session of a history is the one that its own record began.
use Rattle.std.proofs.Common.{◌≡◌, refl, sym, ap, ◌∙◌, ℕ, suc, ◌<◌, Bool, true, false, ◌&&◌, ◌||◌, List, [], ◌∷◌, length, Option, Some, None, is_some, option_and_then, option_map, find, if◌then◌else◌, ◌==◌, inl, inr, ◌⊎◌, arith}
use Rattle.std.specs.List.{filter_map, cons_option}
use Rattle.std.proofs.lemmas.Bool.{eqb-true, eq-eqb}
use Rattle.amqp_perf.specs.declared.begin.Begin.{Begin}
use Rattle.capture_form.specs.declared.records.Record.{Record}
use Rattle.capture_form.specs.Rules.{RuleSet}
use Rattle.trace_events.specs.Words.{is_number, is_some_and, or_else}
use Rattle.trace_events.specs.Frame.{Frame, Body, NoFrame, Empty, NoPerformative, Says, Spoken, spoken_in, channel_in}
use Rattle.trace_events.specs.Said.{as_begin, out_begin}
use Rattle.trace_events.specs.Event.{Event, Moment, Opened, In, Out, Lost, Broken, out_frame, channel_of, is_on_channel}
use Rattle.trace_events.specs.declared.session.Session.{Session}
use Rattle.trace_events.specs.Connection.{is_over}
use Rattle.trace_events.specs.Session.{last_in_begin, new_session, last_session, live_session, begins_out, ends_in, ends_out, session_begun, own_session, session_at}
use Rattle.trace_events.specs.History.{judge, moment_of, session_of}
use Rattle.trace_events.proofs.Along.{and_first, and_last, and_then_some, if_some}

-- ---- the session that a record begins

new_number : (number c channel : ℕ) (ours : Begin) (theirs : Option Begin) → (new_session number c channel ours theirs).number ≡ number
new_number number c channel ours (Some theirs) = refl
new_number number c channel ours None = refl

-- the begin that a moment writes
abbrev pub begin_in : Moment → Option Begin
begin_in m = option_and_then as_begin (option_map (λ (spoken : Spoken). spoken.meaning) (option_and_then (λ (frame : Frame). spoken_in frame.body) (out_frame m)))

abbrev begin_of : Option Spoken → Option Begin
begin_of o = option_and_then as_begin (option_map (λ (spoken : Spoken). spoken.meaning) o)

abbrev pub begun_on : ℕ → ℕ → ℕ → Option Begin → List Event → Option Session
begun_on number c channel begin past = option_map (λ (ours : Begin). new_session number c channel ours (last_in_begin c channel past)) begin

-- the session of what is written, and of any moment
abbrev session_said : ℕ → ℕ → Option Spoken → List Event → Option Session
session_said number c o past =
    or_else (option_and_then (λ (spoken : Spoken). begun_on number c spoken.channel (begin_of o) past) o) (option_and_then (λ (spoken : Spoken). live_session c spoken.channel past) o)

abbrev pub session_in : ℕ → ℕ → Moment → List Event → Option Session
session_in number c m past =
    or_else (option_and_then (λ (spoken : Spoken). begun_on number c spoken.channel (begin_in m) past) (option_and_then (λ (frame : Frame). spoken_in frame.body) (out_frame m)))
    (session_of c m past)

begun_on-number : (number c channel : ℕ) (begin : Option Begin) (live : Option Session) (past : List Event) (t : Session) → is_some begin ≡ true
    → or_else (begun_on number c channel begin past) live ≡ Some t → t.number ≡ number
begun_on-number number c channel None live past t is e = absurd cc
begun_on-number number c channel (Some b) live past t is e = ap (λ (s : Session). s.number) (sym some) ∙ new_number number c channel b (last_in_begin c channel past)
  where
    some : new_session number c channel b (last_in_begin c channel past) ≡ t
    some = cc

said_number : (number c : ℕ) (o : Option Spoken) (past : List Event) (t : Session) → is_some (begin_of o) ≡ true → session_said number c o past ≡ Some t → t.number ≡ number
said_number number c None past t is e = absurd cc
said_number number c (Some spoken) past t is e = begun_on-number number c spoken.channel (as_begin spoken.meaning) (live_session c spoken.channel past) past t is e

begun_number_by : (number c : ℕ) (m : Moment) (past : List Event) (t : Session) → is_some (begin_in m) ≡ true → session_in number c m past ≡ Some t → t.number ≡ number
begun_number_by number c (Out frame) past t is e = said_number number c (spoken_in frame.body) past t is e
begun_number_by number c (In frame) past t is e = absurd cc
begun_number_by number c Opened past t is e = absurd cc
begun_number_by number c Lost past t is e = absurd cc
begun_number_by number c Broken past t is e = absurd cc

-- a session has the number of the record that begins it
pub begun_number : (rules : RuleSet) (past : List Event) (r : Record) (t : Session) → is_some (out_begin (judge rules past r)) ≡ true → (judge rules past r).session ≡ Some t → t.number ≡ length past
begun_number rules past r t is e = begun_number_by (length past) r.connection (moment_of r.what) past t is e

-- ---- it is the one that is found on its channel

first : (number c channel : ℕ) (begin : Option Begin) (live : Option Session) (past : List Event) → is_some begin ≡ true
    → or_else (begun_on number c channel begin past) live ≡ begun_on number c channel begin past
first number c channel None live past is = absurd cc
first number c channel (Some begin) live past is = refl

said_begun : (number c own channel : ℕ) (body : Body) (past : List Event) → is_some (begin_of (spoken_in body)) ≡ true → is_number (channel_in body) channel && (own == c) ≡ true
    → session_said number own (spoken_in body) past ≡ begun_on number c channel (begin_of (spoken_in body)) past
said_begun number c own channel NoFrame past begins on = absurd cc
said_begun number c own channel (Empty other) past begins on = absurd cc
said_begun number c own channel (NoPerformative other) past begins on = absurd cc
said_begun number c own channel (Says spoken) past begins on =
    let same_channel : spoken.channel ≡ channel = eqb-true spoken.channel channel (and_first (spoken.channel == channel) (own == c) on) in
    let same : own ≡ c = eqb-true own c (and_last (spoken.channel == channel) (own == c) on) in
    first number own spoken.channel (as_begin spoken.meaning) (live_session own spoken.channel past) past begins
    ∙ (ap (λ n. begun_on number n spoken.channel (as_begin spoken.meaning) past) same ∙ ap (λ n. begun_on number c n (as_begin spoken.meaning) past) same_channel)

pub begun_in : (number c own channel : ℕ) (m : Moment) (past : List Event) → is_some (begin_in m) ≡ true → is_number (channel_of m) channel && (own == c) ≡ true
    → session_in number own m past ≡ begun_on number c channel (begin_in m) past
begun_in number c own channel (Out frame) past begins on = said_begun number c own channel frame.body past begins on
begun_in number c own channel (In frame) past begins on = absurd cc
begun_in number c own channel Opened past begins on = absurd cc
begun_in number c own channel Lost past begins on = absurd cc
begun_in number c own channel Broken past begins on = absurd cc

own_is : (rules : RuleSet) (past : List Event) (r : Record) (c channel : ℕ) (s : Session) → begins_out c channel (judge rules past r) ≡ true → session_begun c channel (judge rules past r) past ≡ Some s
    → (judge rules past r).session ≡ Some s
own_is rules past r c channel s begins e =
    let x = judge rules past r in
    begun_in (length past) c r.connection channel (moment_of r.what) past (and_first (is_some (out_begin x)) (is_on_channel c channel x) begins) (and_last (is_some (out_begin x)) (is_on_channel c channel x) begins) ∙ e

-- ---- the sessions that are known

-- the session of a number that is another's is not found at the head
pub record IsKnown (past : List Event) (s : Session) : Type 0 where
  pub at : session_at s.number past ≡ Some s
  pub before : s.number < length past

abbrev pub AreKnown : List Event → Type 0
AreKnown past = (c channel : ℕ) (s : Session) → last_session c channel past ≡ Some s → IsKnown past s

self_is : (n : ℕ) → (n == n) ≡ true
self_is n = eq-eqb n n refl

at_by : (s t : Session) (past : List Event) → t.number ≡ length past → IsKnown past s → (if t.number == s.number then Some t else session_at s.number past) ≡ Some s
at_by s t past own known = by (t.number == s.number) refl
  where
    by : (b : Bool) → (t.number == s.number) ≡ b → (if b then Some t else session_at s.number past) ≡ Some s
    by true same = absurd (omega (arith, own, eqb-true t.number s.number same, known.before))
    by false other = known.at

known_by : (rules : RuleSet) (past : List Event) (r : Record) (s : Session) (o : Option Session) → own_session (judge rules past r) ≡ o → IsKnown past s
    → find (λ (t : Session). t.number == s.number) (cons_option o (filter_map own_session past)) ≡ Some s
known_by rules past r s None is known = known.at
known_by rules past r s (Some t) is known =
    let begun = if_some (is_some (out_begin (judge rules past r))) (judge rules past r).session t is in
    at_by s t past (begun_number rules past r t begun.0 begun.1) known

-- one that is known stays so
pub known_still : (rules : RuleSet) (past : List Event) (r : Record) (s : Session) → IsKnown past s → IsKnown (judge rules past r ∷ past) s
known_still rules past r s known = record { at = known_by rules past r s (own_session (judge rules past r)) refl known; before = omega (arith, known.before) }

-- one that begins is known
pub known_begun : (rules : RuleSet) (past : List Event) (r : Record) (s : Session) → is_some (out_begin (judge rules past r)) ≡ true → (judge rules past r).session ≡ Some s → IsKnown (judge rules past r ∷ past) s
known_begun rules past r s is e =
    let own = begun_number rules past r s is e in
    let begun : own_session (judge rules past r) ≡ Some s = ap (λ (b : Bool). if b then (judge rules past r).session else None) is ∙ e in
    record {
      at = ap (λ (o : Option Session). find (λ (t : Session). t.number == s.number) (cons_option o (filter_map own_session past))) begun
          ∙ ap (λ (b : Bool). if b then Some s else session_at s.number past) (self_is s.number);
      before = omega (arith, own);
    }

last_by : (rules : RuleSet) (past : List Event) (r : Record) (c channel : ℕ) (s : Session) (ended begun : Bool) → begins_out c channel (judge rules past r) ≡ begun → AreKnown past
    → (if ended then None else if begun then session_begun c channel (judge rules past r) past else last_session c channel past) ≡ Some s → IsKnown (judge rules past r ∷ past) s
last_by rules past r c channel s true begun is known e = absurd cc
last_by rules past r c channel s false true is known e =
    known_begun rules past r s (and_first (is_some (out_begin (judge rules past r))) (is_on_channel c channel (judge rules past r)) is) (own_is rules past r c channel s is e)
last_by rules past r c channel s false false is known e = known_still rules past r s (known c channel s e)

pub known_step : (rules : RuleSet) (past : List Event) (r : Record) → AreKnown past → AreKnown (judge rules past r ∷ past)
known_step rules past r known c channel s e =
    last_by rules past r c channel s (ends_in c channel (judge rules past r) || ends_out c channel (judge rules past r)) (begins_out c channel (judge rules past r)) refl known e

pub none_known : AreKnown []
none_known c channel s e = absurd cc

-- ---- the session on which an event stands

live_known : (past : List Event) (c channel : ℕ) (s : Session) → AreKnown past → live_session c channel past ≡ Some s → IsKnown past s
live_known past c channel s known e = by (is_over c past) e
  where
    by : (b : Bool) → (if b then None else last_session c channel past) ≡ Some s → IsKnown past s
    by true e = absurd cc
    by false e = known c channel s e

-- it begins one, or stands on a live one
abbrev StandsOn : ℕ → Moment → List Event → Session → Type 0
StandsOn c m past s = (is_some (begin_in m) ≡ true) ⊎ ((channel : ℕ) × (live_session c channel past ≡ Some s))

begun_or_live : (number c channel : ℕ) (begin : Option Begin) (past : List Event) (s : Session) → or_else (begun_on number c channel begin past) (live_session c channel past) ≡ Some s
    → (is_some begin ≡ true) ⊎ (live_session c channel past ≡ Some s)
begun_or_live number c channel (Some b) past s e = inl refl
begun_or_live number c channel None past s e = inr e

said_on : (number c : ℕ) (o : Option Spoken) (past : List Event) (s : Session) → session_said number c o past ≡ Some s
    → (is_some (begin_of o) ≡ true) ⊎ ((channel : ℕ) × (live_session c channel past ≡ Some s))
said_on number c None past s e = absurd cc
said_on number c (Some spoken) past s e = elim (begun_or_live number c spoken.channel (as_begin spoken.meaning) past s e) [
  | inl begins ↦ inl begins
  | inr live ↦ inr (spoken.channel, live)
]

stands_on : (number c : ℕ) (m : Moment) (past : List Event) (s : Session) → session_in number c m past ≡ Some s → StandsOn c m past s
stands_on number c (Out frame) past s e = said_on number c (spoken_in frame.body) past s e
stands_on number c (In frame) past s e =
    let step = and_then_some (λ (spoken : Spoken). live_session c spoken.channel past) (spoken_in frame.body) s e in
    inr (step.0.channel, step.2)
stands_on number c Opened past s e = absurd cc
stands_on number c Lost past s e = absurd cc
stands_on number c Broken past s e = absurd cc

-- the session of an event is known
pub event_known : (rules : RuleSet) (past : List Event) (r : Record) (s : Session) → AreKnown past → (judge rules past r).session ≡ Some s → IsKnown (judge rules past r ∷ past) s
event_known rules past r s known e = elim (stands_on (length past) r.connection (moment_of r.what) past s e) [
  | inl begins ↦ known_begun rules past r s begins e
  | inr live ↦ known_still rules past r s (live_known past r.connection live.0 s known live.1)
]

-- ---- found by its number

find_kinds : {A : Type 0} (p : A → Bool) (x : A) (xs : List A) (y : A) → find p (x ∷ xs) ≡ Some y → ((p x ≡ true) × (x ≡ y)) ⊎ (find p xs ≡ Some y)
find_kinds p x xs y e = by (p x) refl e
  where
    by : (b : Bool) → p x ≡ b → (if b then Some x else find p xs) ≡ Some y → ((p x ≡ true) × (x ≡ y)) ⊎ (find p xs ≡ Some y)
    by true is same = inl (is, cc)
    by false is same = inr same

abbrev pub AreFound : List Event → Type 0
AreFound past = (n : ℕ) (s : Session) → session_at n past ≡ Some s → (s.number ≡ n) × (n < length past)

found_by : (rules : RuleSet) (past : List Event) (r : Record) (n : ℕ) (s : Session) (o : Option Session) → own_session (judge rules past r) ≡ o → AreFound past
    → find (λ (t : Session). t.number == n) (cons_option o (filter_map own_session past)) ≡ Some s → (s.number ≡ n) × (n < suc (length past))
found_by rules past r n s None is found e = let h = found n s e in (h.0, omega (arith, h.1))
found_by rules past r n s (Some t) is found e =
    let begun = if_some (is_some (out_begin (judge rules past r))) (judge rules past r).session t is in
    let own = begun_number rules past r t begun.0 begun.1 in
    elim (find_kinds (λ (t : Session). t.number == n) t (filter_map own_session past) s e) [
      | inl here ↦
          let same : t.number ≡ n = eqb-true t.number n here.0 in
          (ap (λ (x : Session). x.number) (sym here.1) ∙ same, omega (arith, same, own))
      | inr before ↦ let h = found n s before in (h.0, omega (arith, h.1))
    ]

pub found_step : (rules : RuleSet) (past : List Event) (r : Record) → AreFound past → AreFound (judge rules past r ∷ past)
found_step rules past r found n s e = found_by rules past r n s (own_session (judge rules past r)) refl found e

pub none_found : AreFound []
none_found n s e = absurd cc

-- ---- other sessions

pub not_on : (s : Session) (o : Option Session) → ((t : Session) → o ≡ Some t → t.number < s.number) → is_some_and o (λ t. t.number == s.number) ≡ false
not_on s None below = refl
not_on s (Some t) below = by (t.number == s.number) refl
  where
    by : (b : Bool) → (t.number == s.number) ≡ b → b ≡ false
    by true same = absurd (omega (arith, eqb-true t.number s.number same, below t refl))
    by false other = refl
