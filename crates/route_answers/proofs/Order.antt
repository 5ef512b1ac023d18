-- Frames that break no clause and are the answer to the last input are due, and answer it.
use Rattle.std.proofs.Common.{◌≡◌, refl, sym, ap, ◌∙◌, ℕ, Bool, true, false, ◌&&◌, List, [], ◌∷◌, ◌++◌, length, reverse, None, append_assoc, append-nil, arith, if◌then◌else◌, ◌==◌, eq-eqb, lt-ltb}
use Rattle.std.proofs.lemmas.List.{reverse-append, length-append, length-reverse}
use Rattle.amqp_perf.specs.Meaning.{Meaning, AnOpen, ABegin, AnAttach, AFlow, ATransfer, ADisposition, ADetach, AnEnd, AClose}
use Rattle.capture_form.specs.Rules.{RuleSet}
use Rattle.trace_events.specs.Frame.{Spoken}
use Rattle.trace_events.specs.Event.{Event, is_out}
use Rattle.trace_events.specs.Said.{as_transfer}
use Rattle.trace_events.specs.Clauses.{first_broken}
use Rattle.trace_events.specs.Written.{spoken_octets}
use Rattle.trace_duties.specs.Answer.{answer}
use Rattle.trace_duties.specs.Diligent.{group, up_to_input, last_answer, input_answer, begin_with, is_answered, is_of_answer, is_on_connection_of, writes, is_picked, is_due_frame, moment_keeps}
use Rattle.route_answers.specs.Writing.{frame_of, writing, behind}
use Rattle.route_answers.specs.Answering.{AreInOrder}
use Rattle.route_answers.proofs.Words.{or_left, both, same_octets}
use Rattle.route_answers.proofs.Fine.{AreFine}

-- so far these frames were written behind an input, of those that it is owed
record IsAnswering (rules : RuleSet) (input : Event) (before : List Event) (left : List Spoken) (past : List Event) : Type 0 where
  from : up_to_input past ≡ input ∷ before
  done : List Spoken
  parts : last_answer rules past ≡ done ++ left
  begins : begin_with (input ∷ before) done (reverse (group past)) ≡ true
  count : length (group past) ≡ length done

-- one more frame behind as many events as there were frames
begins_more : (from : List Event) (done : List Spoken) (events : List Event) (s : Spoken) (e : Event) → length events ≡ length done → begin_with from done events ≡ true
    → is_on_connection_of from e && writes e s ≡ true → begin_with from (done ++ s ∷ []) (events ++ e ∷ []) ≡ true
begins_more from [] [] s e same earlier now = ap (λ b. b && true) now
begins_more from [] (x ∷ events) s e same earlier now = absurd (omega (arith, same))
begins_more from (d ∷ done) [] s e same earlier now = absurd cc
begins_more from (d ∷ done) (x ∷ events) s e same earlier now =
    by (is_on_connection_of from x && writes x d) earlier (λ rest. begins_more from done events s e (omega (arith, same)) rest now)
  where
    by : (b : Bool) → b && begin_with from done events ≡ true → (begin_with from done events ≡ true → begin_with from (done ++ s ∷ []) (events ++ e ∷ []) ≡ true)
        → b && begin_with from (done ++ s ∷ []) (events ++ e ∷ []) ≡ true
    by true is rest = rest is
    by false is rest = absurd cc

-- a frame that is no transfer carries no delivery
picked : (rules : RuleSet) (past : List Event) (c channel : ℕ) (m : Meaning) (payload : List ℕ) → as_transfer m ≡ None
    → is_picked rules (writing rules c past (record { channel = channel; meaning = m; payload = payload })) past ≡ true
picked rules past c channel (ATransfer x) payload none = absurd cc
picked rules past c channel (AnOpen x) payload none = refl
picked rules past c channel (ABegin x) payload none = refl
picked rules past c channel (AnAttach x) payload none = refl
picked rules past c channel (AFlow x) payload none = refl
picked rules past c channel (ADisposition x) payload none = refl
picked rules past c channel (ADetach x) payload none = refl
picked rules past c channel (AnEnd x) payload none = refl
picked rules past c channel (AClose x) payload none = refl

module _ (rules : RuleSet) (input : Event) (before : List Event) (s : Spoken) (left : List Spoken) (past : List Event) (is : IsAnswering rules input before (s ∷ left) past)
    (plain : as_transfer s.meaning ≡ None) where
  abbrev e : Event
  e = writing rules input.connection past s

  of_answer : is_of_answer rules past ≡ true
  of_answer = lt-ltb (length (group past)) (length (last_answer rules past)) (omega (arith, ap length is.parts ∙ length-append is.done (s ∷ left), is.count))

  is_due : moment_keeps rules e past e.moment ≡ true
  is_due =
      both (is_picked rules e past) (is_due_frame rules e (frame_of s) past)
      (picked rules past input.connection s.channel s.meaning s.payload plain) (or_left (is_of_answer rules past) _ of_answer)

  answers_more : IsAnswering rules input before left (e ∷ past)
  answers_more = record {
    from = is.from;
    done = is.done ++ s ∷ [];
    parts = is.parts ∙ sym (append_assoc is.done (s ∷ []) left);
    begins =
        ap (begin_with (input ∷ before) (is.done ++ s ∷ [])) (reverse-append (e ∷ []) (group past))
        ∙ begins_more (input ∷ before) is.done (reverse (group past)) s e (length-reverse (group past) ∙ is.count) is.begins
        (both (input.connection == input.connection) (writes e s) (eq-eqb input.connection input.connection refl) (same_octets (spoken_octets s)));
    count = omega (arith, is.count, length-append is.done (s ∷ []));
  }

-- where nothing is left it is answered
all_answered : (rules : RuleSet) (input : Event) (before past : List Event) → IsAnswering rules input before [] past → is_answered rules past ≡ true
all_answered rules input before past is =
    ap (λ from. begin_with from (last_answer rules past) (reverse (group past))) is.from
    ∙ (ap (λ answer. begin_with (input ∷ before) answer (reverse (group past))) (is.parts ∙ append-nil is.done) ∙ is.begins)

pub record AreAnswered (rules : RuleSet) (c : ℕ) (left : List Spoken) (past : List Event) : Type 0 where
  pub frames : AreInOrder rules c left past
  pub answered : is_answered rules (behind rules c left past) ≡ true
  pub lawful : first_broken rules (behind rules c left past) ≡ None

written : (rules : RuleSet) (input : Event) (before : List Event) (left : List Spoken) (past : List Event) → IsAnswering rules input before left past → AreFine rules input.connection left past
    → first_broken rules past ≡ None → AreAnswered rules input.connection left past
written rules input before [] past is fine lawful = record { frames = tt; answered = all_answered rules input before past is; lawful = lawful }
written rules input before (s ∷ left) past is fine lawful =
    let e = writing rules input.connection past s in
    let h = written rules input before left (e ∷ past) (answers_more rules input before s left past is fine.0.plain) fine.1 (rw (lawful, fine.0.lawful) refl) in
    record {
      frames = (record { lawful = fine.0.lawful; due = is_due rules input before s left past is fine.0.plain; turn = or_left (is_of_answer rules past) _ (of_answer rules input before s left past is fine.0.plain); fits = fine.0.fits }, h.frames);
      answered = h.answered;
      lawful = h.lawful;
    }

-- the answer to an input, frame by frame
module _ (rules : RuleSet) (e : Event) (past : List Event) (input : is_out e.moment ≡ false) where
  from_here : up_to_input (e ∷ past) ≡ e ∷ past
  from_here = ap (λ b. if b then up_to_input past else e ∷ past) input

  entered : IsAnswering rules e past (answer rules e (e ∷ past)) (e ∷ past)
  entered = record {
    from = from_here;
    done = [];
    parts = ap (input_answer rules) from_here;
    begins = refl;
    count = ap (λ b. length (if b then e ∷ group past else [])) input;
  }

  pub in_order : AreFine rules e.connection (answer rules e (e ∷ past)) (e ∷ past) → first_broken rules (e ∷ past) ≡ None → AreAnswered rules e.connection (answer rules e (e ∷ past)) (e ∷ past)
  in_order fine lawful = written rules e past (answer rules e (e ∷ past)) (e ∷ past) entered fine lawful
