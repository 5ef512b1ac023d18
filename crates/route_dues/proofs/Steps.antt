-- What each part of a step keeps.
use Rattle.std.proofs.Common.{◌≡◌, refl, sym, ap, subst, ◌∙◌, ℕ, ◌≤◌, ◌<◌, ◌^◌, Bool, true, false, ◌&&◌, List, [], ◌∷◌, ◌++◌, length, Option, Some, None, IsTrue, option_map, is_some}
use Rattle.flow_counts.specs.declared.profile.TheConstants.{MAX_FRAME_SIZE}
use Rattle.pairing_cert.specs.declared.note.Note.{Note}
use Rattle.pairing_cert.specs.declared.note.Note.TheVariants as notes
use Rattle.capture_form.specs.Rules.{RuleSet}
use Rattle.capture_form.specs.declared.records.Record.{Record}
use Rattle.trace_events.specs.Words.{or_else}
use Rattle.trace_events.specs.Frame.{Frame, Spoken}
use Rattle.trace_events.specs.Event.{Event, Moment, Opened, In, Out, Lost, Broken, is_out}
use Rattle.trace_events.specs.Said.{as_transfer}
use Rattle.trace_events.specs.Credit.{begins_outgoing}
use Rattle.trace_events.specs.History.{judge, judge_moment, history, moment_of}
use Rattle.trace_events.specs.declared.clause.Clause.{Clause}
use Rattle.trace_events.specs.Clauses.{first_broken, broken_clause}
use Rattle.trace_events.specs.Written.{spoken_octets}
use Rattle.trace_events.proofs.Lawful.{history-push}
use Rattle.trace_duties.specs.Answer.{answer}
use Rattle.trace_duties.specs.Diligent.{moment_keeps, all_keep, is_answered, is_diligent}
use Rattle.trace_duties.specs.Quiet.{is_quiet}
use Rattle.trace_duties.specs.Order.{CopiesInOrder, is_earliest}
use Rattle.trace_duties.specs.Turn.{stands_in_turn, are_in_turn, is_ordered}
use Rattle.trace_duties.proofs.CopyOrder.{copies_in_order-step, copies_in_order-none, earliest-none}
use Rattle.route_answers.specs.Answering.{IsReady, AreOpensAnswered, IsAnswerInOrder, AreInOrder, may_happen}
use Rattle.route_answers.specs.Writing.{frame_of, behind}
use Rattle.route_answers.proofs.Inputs.{answers_in_order}
use Rattle.route_answers.proofs.Kept.{none_answered, opens_stay}
use Rattle.route_dues.specs.Writing.{writing, IsReadAgain, IsLawful, IsInOrder, MayFollow}
use Rattle.route_dues.proofs.Behind.{stays_in_order}
use Rattle.route_dues.proofs.Connections.{lawful_judged}
use Rattle.route_dues.proofs.Lengths.{within}
use Rattle.route_dues.specs.Steps.{IsUnderWay, IsAtRest, AreNoTransfers, IsAnswering}
use Rattle.route_dues.proofs.NoTransfers.{begins_nothing, answer_plain}
use Rattle.route_dues.proofs.Answered.{answered_more, due-no_open}

both : (a b : Bool) → a ≡ true → b ≡ true → a && b ≡ true
both a b left right = rw (left, right) refl

-- ---- before the first step

pub start : (rules : RuleSet) → IsAtRest rules []
start rules = record {
  under_way = record {
    order = record {
      lawful = record { records = []; is = refl; unbroken = refl };
      keeps = refl;
      copies = copies_in_order-none rules;
    };
    turns = refl;
    opens = none_answered;
    answered = refl;
  };
  quiet = refl;
}

-- ---- an input

-- earlier events of lawful ones are lawful
unbroken_before : (rules : RuleSet) (e : Event) (past : List Event) → first_broken rules (e ∷ past) ≡ None → first_broken rules past ≡ None
unbroken_before rules e past is = by (first_broken rules past) is
  where
    by : (o : Option (ℕ × Clause)) → or_else o (option_map (λ (clause : Clause). (e.number, clause)) (broken_clause rules e past)) ≡ None → o ≡ None
    by None is = refl
    by (Some x) is = absurd cc

unbroken_at : (rules : RuleSet) (e : Event) (past : List Event) → first_broken rules (e ∷ past) ≡ None → broken_clause rules e past ≡ None
unbroken_at rules e past is = by (first_broken rules past) (broken_clause rules e past) is
  where
    by : (o : Option (ℕ × Clause)) (p : Option Clause) → or_else o (option_map (λ (clause : Clause). (e.number, clause)) p) ≡ None → p ≡ None
    by None None is = refl
    by None (Some x) is = absurd cc
    by (Some x) p is = absurd cc

unbroken_behind : (rules : RuleSet) (c : ℕ) (frames : List Spoken) (past : List Event) → first_broken rules (behind rules c frames past) ≡ None → first_broken rules past ≡ None
unbroken_behind rules c [] past is = is
unbroken_behind rules c (s ∷ more) past is =
    let e = writing rules past c notes.None s in
    unbroken_before rules e past (unbroken_behind rules c more (e ∷ past) is)

-- what a client does is written by no one, and begins no delivery to a client
input_keeps : (rules : RuleSet) (past : List Event) (c : ℕ) (m : Moment) → IsTrue (may_happen c m past) → IsAtRest rules past
    → moment_keeps rules (judge_moment rules past c m notes.None) past m ≡ true
input_keeps rules past c Opened may rest = both (is_quiet rules past) (is_answered rules past) rest.quiet rest.under_way.answered
input_keeps rules past c (In frame) may rest = both (is_quiet rules past) (is_answered rules past) rest.quiet rest.under_way.answered
input_keeps rules past c Lost may rest = both (is_quiet rules past) (is_answered rules past) rest.quiet rest.under_way.answered
input_keeps rules past c Broken may rest = both (is_quiet rules past) (is_answered rules past) rest.quiet rest.under_way.answered
input_keeps rules past c (Out frame) may rest = absurd cc

input_turn : (rules : RuleSet) (past : List Event) (c : ℕ) (m : Moment) → IsTrue (may_happen c m past) → stands_in_turn rules (judge_moment rules past c m notes.None) past m ≡ true
input_turn rules past c Opened may = refl
input_turn rules past c (In frame) may = refl
input_turn rules past c Lost may = refl
input_turn rules past c Broken may = refl
input_turn rules past c (Out frame) may = absurd cc

input_begins : (rules : RuleSet) (past : List Event) (c : ℕ) (m : Moment) → IsTrue (may_happen c m past) → begins_outgoing (judge_moment rules past c m notes.None) ≡ false
input_begins rules past c Opened may = refl
input_begins rules past c (In frame) may = refl
input_begins rules past c Lost may = refl
input_begins rules past c Broken may = refl
input_begins rules past c (Out frame) may = absurd cc

module _ (rules : RuleSet) (past : List Event) (r : Record) (rest : IsAtRest rules past) (short : length past < 2 ^ 64) (may : IsTrue (may_happen r.connection (moment_of r.what) past))
    (unnoted : r.note ≡ notes.None) where
  abbrev m : Moment
  m = moment_of r.what

  abbrev e : Event
  e = judge_moment rules past r.connection m notes.None

  is_judged : judge rules past r ≡ e
  is_judged = ap (λ note. judge_moment rules past r.connection m note) unnoted

  order_before : IsInOrder rules past
  order_before = rest.under_way.order

  h : IsAnswerInOrder rules e past
  h = answers_in_order rules r.connection past (record { lawful = order_before.lawful.unbroken; opens = rest.under_way.opens; short = short }) m may

  unbroken : first_broken rules (e ∷ past) ≡ None
  unbroken = unbroken_behind rules r.connection (answer rules e (e ∷ past)) (e ∷ past) h.lawful

  lawful_now : IsLawful rules (e ∷ past)
  lawful_now = record {
    records = order_before.lawful.records ++ r ∷ [];
    is =
        ap (λ (x : Event). x ∷ past) (sym is_judged)
        ∙ (ap (λ (xs : List Event). judge rules xs r ∷ xs) order_before.lawful.is ∙ sym (history-push rules order_before.lawful.records r));
    unbroken = unbroken;
  }

  order_now : IsInOrder rules (e ∷ past)
  order_now = record {
    lawful = lawful_now;
    keeps = both (moment_keeps rules e past m) (all_keep rules past) (input_keeps rules past r.connection m may rest) order_before.keeps;
    copies = copies_in_order-step rules e past (lawful_judged rules (e ∷ past) lawful_now) unbroken (earliest-none rules e past (input_begins rules past r.connection m may)) order_before.copies;
  }

  answering : IsAnswering rules r.connection (e ∷ past) (answer rules e (e ∷ past))
  answering = record {
    order = order_now;
    turns = both (stands_in_turn rules e past m) (are_in_turn rules past) (input_turn rules past r.connection m may) rest.under_way.turns;
    frames = h.frames;
    plain = answer_plain rules e (e ∷ past);
    opens = h.opens;
    answered = h.answered;
  }

  pub input : (broken_clause rules (judge rules past r) past ≡ None) × IsAnswering rules r.connection (judge rules past r ∷ past) (answer rules (judge rules past r) (judge rules past r ∷ past))
  input =
      subst (λ (x : Event). (broken_clause rules x past ≡ None) × IsAnswering rules r.connection (x ∷ past) (answer rules x (x ∷ past))) (sym is_judged)
      (unbroken_at rules e past unbroken, answering)

-- ---- its answer

module _ (rules : RuleSet) (past : List Event) (c : ℕ) (s : Spoken) (left : List Spoken) (is : IsAnswering rules c past (s ∷ left)) where
  abbrev w : Event
  w = writing rules past c notes.None s

  pub fits : (broken_clause rules w past ≡ None) × (length (spoken_octets s) ≤ MAX_FRAME_SIZE)
  fits = (is.frames.0.lawful, within (spoken_octets s) c past is.frames.0.fits)

  may_follow : MayFollow rules past c notes.None s
  may_follow = record {
    lawful = is.frames.0.lawful;
    keeps = is.frames.0.due;
    earliest = earliest-none rules w past (begins_nothing rules past c notes.None s.channel s.meaning s.payload is.plain.0);
  }

  pub reply : IsReadAgain s → IsAnswering rules c (w ∷ past) left
  reply again = record {
    order = stays_in_order rules past c notes.None s is.order may_follow again;
    turns = both (stands_in_turn rules w past w.moment) (are_in_turn rules past) is.frames.0.turn is.turns;
    frames = is.frames.1;
    plain = is.plain.1;
    opens = is.opens;
    answered = is.answered;
  }

pub answered : (rules : RuleSet) (past : List Event) (c : ℕ) → IsAnswering rules c past [] → IsUnderWay rules past
answered rules past c is = record { order = is.order; turns = is.turns; opens = is.opens; answered = is.answered }

-- ---- what is due

pub due : (rules : RuleSet) (past : List Event) (c : ℕ) (note : Note) (s : Spoken) → IsUnderWay rules past → MayFollow rules past c note s
    → stands_in_turn rules (writing rules past c note s) past (Out (frame_of s)) ≡ true → IsReadAgain s → IsUnderWay rules (writing rules past c note s ∷ past)
due rules past c note s way may turn again =
    let w = writing rules past c note s in
    let order = stays_in_order rules past c note s way.order may again in
    record {
      order = order;
      turns = both (stands_in_turn rules w past w.moment) (are_in_turn rules past) turn way.turns;
      opens = opens_stay rules w past order.lawful.unbroken refl (due-no_open rules past c note s way.answered may.keeps) way.opens;
      answered = answered_more rules w past refl way.answered;
    }

-- ---- at its end

pub rest : (rules : RuleSet) (past : List Event) → IsUnderWay rules past → is_quiet rules past ≡ true → IsAtRest rules past
rest rules past way quiet = record { under_way = way; quiet = quiet }

pub diligent : (rules : RuleSet) (records : List Record) → IsAtRest rules (history rules records) → is_diligent rules records ≡ true
diligent rules records at =
    let past = history rules records in
    both (all_keep rules past && is_quiet rules past) (is_answered rules past)
    (both (all_keep rules past) (is_quiet rules past) at.under_way.order.keeps at.quiet) at.under_way.answered

pub ordered : (rules : RuleSet) (records : List Record) → IsAtRest rules (history rules records) → is_ordered rules records ≡ true
ordered rules records at = at.under_way.turns
