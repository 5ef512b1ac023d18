-- What is written behind an answer leaves it an answer, and is no part of it.
use Rattle.std.proofs.Common.{◌≡◌, refl, sym, ap, ◌∙◌, ℕ, ◌≤◌, Bool, true, false, ◌&&◌, ◌||◌, List, [], ◌∷◌, ◌++◌, length, reverse, Option, Some, None, is_some, arith, if◌then◌else◌}
use Rattle.std.proofs.lemmas.List.{reverse-append, length-reverse}
use Rattle.std.proofs.lemmas.Bool.{le-ltb}
use Rattle.amqp_perf.specs.declared.attach.Role.TheVariants.{Sender, Receiver}
use Rattle.amqp_perf.specs.Meaning.{Meaning, AnOpen, ABegin, AnAttach, AFlow, ATransfer, ADisposition, ADetach, AnEnd, AClose}
use Rattle.capture_form.specs.Rules.{RuleSet}
use Rattle.pairing_cert.specs.declared.note.Note.{Note}
use Rattle.trace_events.specs.Frame.{Spoken}
use Rattle.trace_events.specs.Event.{Event, is_out}
use Rattle.trace_events.specs.Said.{as_open, out_open}
use Rattle.trace_duties.specs.Diligent.{group, up_to_input, last_answer, begin_with, is_answered, is_of_answer, is_on_connection_of, writes, is_picked, is_due_frame, is_called_for, moment_keeps}
use Rattle.route_answers.specs.Writing.{frame_of}
use Rattle.route_dues.specs.Writing.{writing}

-- ---- events behind those that begin with an answer

more_behind : (from : List Event) (answer : List Spoken) (events more : List Event) → begin_with from answer events ≡ true → begin_with from answer (events ++ more) ≡ true
more_behind from [] events more is = refl
more_behind from (s ∷ answer) [] more is = absurd cc
more_behind from (s ∷ answer) (e ∷ events) more is = by (is_on_connection_of from e && writes e s) is (λ rest. more_behind from answer events more rest)
  where
    by : (b : Bool) → b && begin_with from answer events ≡ true → (begin_with from answer events ≡ true → begin_with from answer (events ++ more) ≡ true)
        → b && begin_with from answer (events ++ more) ≡ true
    by true is rest = rest is
    by false is rest = absurd cc

pub answered_more : (rules : RuleSet) (e : Event) (past : List Event) → is_out e.moment ≡ true → is_answered rules past ≡ true → is_answered rules (e ∷ past) ≡ true
answered_more rules e past out is =
    let from : up_to_input (e ∷ past) ≡ up_to_input past = ap (λ b. if b then up_to_input past else e ∷ past) out in
    let begins : begin_with (up_to_input (e ∷ past)) (last_answer rules (e ∷ past)) (reverse (group past) ++ e ∷ []) ≡ true =
    rw from (more_behind (up_to_input past) (last_answer rules past) (reverse (group past)) (e ∷ []) is) in
    let events : reverse (group (e ∷ past)) ≡ reverse (group past) ++ e ∷ [] =
    ap (λ b. reverse (if b then e ∷ group past else [])) out ∙ reverse-append (e ∷ []) (group past) in
    ap (λ xs. begin_with (up_to_input (e ∷ past)) (last_answer rules (e ∷ past)) xs) events
    ∙ begins

-- ---- where the answer stands, no more of it is written

as_long : (from : List Event) (answer : List Spoken) (events : List Event) → begin_with from answer events ≡ true → length answer ≤ length events
as_long from [] events is = omega (arith)
as_long from (s ∷ answer) [] is = absurd cc
as_long from (s ∷ answer) (e ∷ events) is = by (is_on_connection_of from e && writes e s) is (λ rest. as_long from answer events rest)
  where
    by : (b : Bool) → b && begin_with from answer events ≡ true → (begin_with from answer events ≡ true → length answer ≤ length events) → length (s ∷ answer) ≤ length (e ∷ events)
    by true is rest = omega (arith, rest is)
    by false is rest = absurd cc

pub not_of_answer : (rules : RuleSet) (past : List Event) → is_answered rules past ≡ true → is_of_answer rules past ≡ false
not_of_answer rules past is =
    le-ltb (length (group past)) (length (last_answer rules past))
    (omega (arith, as_long (up_to_input past) (last_answer rules past) (reverse (group past)) is, length-reverse (group past)))

-- ---- a frame that is called for is no open

no_open : (rules : RuleSet) (e : Event) (channel : ℕ) (past : List Event) (m : Meaning) → is_called_for rules e channel past m ≡ true → is_some (as_open m) ≡ false
no_open rules e channel past (AnOpen fields) is = absurd cc
no_open rules e channel past (ABegin begin) is = refl
no_open rules e channel past (AnAttach fields) is = refl
no_open rules e channel past (AFlow flow) is = refl
no_open rules e channel past (ATransfer fields) is = refl
no_open rules e channel past (ADisposition fields) is = refl
no_open rules e channel past (ADetach fields) is = refl
no_open rules e channel past (AnEnd error) is = refl
no_open rules e channel past (AClose error) is = refl

second : (a b : Bool) → a && b ≡ true → b ≡ true
second true b is = is
second false b is = absurd cc

other : (a b : Bool) → a ≡ false → a || b ≡ true → b ≡ true
other true b none is = absurd cc
other false b none is = is

pub due-no_open : (rules : RuleSet) (past : List Event) (c : ℕ) (note : Note) (s : Spoken) → is_answered rules past ≡ true
    → moment_keeps rules (writing rules past c note s) past (writing rules past c note s).moment ≡ true → is_some (out_open (writing rules past c note s)) ≡ false
due-no_open rules past c note s answered keeps =
    let e = writing rules past c note s in
    let due : is_due_frame rules e (frame_of s) past ≡ true = second (is_picked rules e past) (is_due_frame rules e (frame_of s) past) keeps in
    no_open rules e s.channel past s.meaning (other (is_of_answer rules past) (is_called_for rules e s.channel past s.meaning) (not_of_answer rules past answered) due)
