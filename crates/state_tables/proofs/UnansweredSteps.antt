-- What an event does to what is still to be answered on a channel.
use Rattle.std.proofs.Common.{◌≡◌, refl, sym, ap, ◌∙◌, ℕ, Bool, true, false, not, ◌&&◌, ◌||◌, List, [], ◌∷◌, Option, Some, None, is_some, is_none, if◌then◌else◌, ◌==◌}
use Rattle.amqp_perf.specs.declared.begin.Begin.{Begin}
use Rattle.capture_form.specs.Rules.{RuleSet}
use Rattle.trace_events.specs.Said.{in_begin, out_begin, is_in_end, is_out_end}
use Rattle.trace_events.specs.Event.{Event, channel_of, is_on_channel}
use Rattle.trace_events.specs.Session.{begins_in, begins_out, ends_in, ends_out, last_in_begin, has_unanswered_begin, owes_end, awaits_end, is_unended}
use Rattle.trace_events.specs.Clauses.{first_broken}
use Rattle.trace_events.proofs.Judged.{AreJudged}
use Rattle.state_tables.specs.Unanswered.{nothing, is_nothing, begin_to_answer, unanswered_at, begin_next, owes_end_next, awaits_end_next, unanswered_next}
use Rattle.state_tables.specs.declared.unanswered.Unanswered.{Unanswered}
use Rattle.trace_events.proofs.EndedSessions.{ended-was_unended}

abbrev made : Option Begin → Bool → Bool → Unanswered
made begin owes awaits = record { begin = begin; owes_end = owes; awaits_end = awaits }

made-same : (a a' : Option Begin) (b b' c c' : Bool) → a ≡ a' → b ≡ b' → c ≡ c' → made a b c ≡ made a' b' c'
made-same a a' b b' c c' p q r = rw (p, q, r) refl

-- one in which nothing stands is that
pub is_nothing-is : (x : Unanswered) → is_nothing x ≡ true → x ≡ nothing
is_nothing-is x is = by x.begin x.owes_end x.awaits_end is
  where
    by : (begin : Option Begin) (owes awaits : Bool) → is_none begin && not owes && not awaits ≡ true → made begin owes awaits ≡ nothing
    by None false false is = refl
    by (Some begin) owes awaits is = absurd cc
    by None true awaits is = absurd cc
    by None false true is = absurd cc

-- ---- an event of another channel

and_none : (a b : Bool) → b ≡ false → a && b ≡ false
and_none true b is = is
and_none false b is = refl

module _ (c channel : ℕ) (e : Event) (past : List Event) (off : is_on_channel c channel e ≡ false) where
  unbegun : begins_out c channel e ≡ false
  unbegun = and_none (is_some (out_begin e)) (is_on_channel c channel e) off

  unasked : begins_in c channel e ≡ false
  unasked = and_none (is_some (in_begin e)) (is_on_channel c channel e) off

  unended_in : ends_in c channel e ≡ false
  unended_in = and_none (is_in_end e) (is_on_channel c channel e) off

  unended_out : ends_out c channel e ≡ false
  unended_out = and_none (is_out_end e) (is_on_channel c channel e) off

  pub unanswered-elsewhere : unanswered_at c channel (e ∷ past) ≡ unanswered_at c channel past
  unanswered-elsewhere = made-same _ _ _ _ _ _ begins owes awaits
    where
      begins : begin_to_answer c channel (e ∷ past) ≡ begin_to_answer c channel past
      begins = rw (unbegun, unasked) refl

      owes : owes_end c channel (e ∷ past) ≡ owes_end c channel past
      owes = rw (unended_out, unended_in) refl

      awaits : awaits_end c channel (e ∷ past) ≡ awaits_end c channel past
      awaits = rw (unbegun, unended_in, unended_out) refl

-- ---- one of the channel

and_all : (a b : Bool) → b ≡ true → a && b ≡ a
and_all true b is = is
and_all false b is = refl

begin_by : (begun asked fine earlier : Bool) (new last : Option Begin) → asked ≡ is_some new → (earlier ≡ true → is_some last ≡ true)
    → (if (if begun then false else asked && fine || earlier) then (if asked then new else last) else None)
    ≡ (if begun then None else if asked && (is_some (if earlier then last else None) || fine) then new else (if earlier then last else None))
begin_by true asked fine earlier new last of has = refl
begin_by false true true true new last of has = by (is_some last)
  where
    by : (b : Bool) → new ≡ (if b || true then new else last)
    by true = refl
    by false = refl
begin_by false true true false new last of has = refl
begin_by false true false true new last of has = ap (λ b. if b || false then new else last) (sym (has refl))
begin_by false true false false new last of has = refl
begin_by false false fine true new last of has = refl
begin_by false false fine false new last of has = refl

-- where a begin is to be answered there is one
asked_by : (begun asked fine before : Bool) (new last : Option Begin) → asked ≡ is_some new → (before ≡ true → is_some last ≡ true)
    → (if begun then false else asked && fine || before) ≡ true → is_some (if asked then new else last) ≡ true
asked_by true asked fine before new last of has is = absurd cc
asked_by false true fine before new last of has is = sym of
asked_by false false fine before new last of has is = has is

begins_by : (c channel : ℕ) (e : Event) → begins_in c channel e ≡ true → is_some (in_begin e) ≡ true
begins_by c channel e is = by (is_some (in_begin e)) (is_on_channel c channel e) is
  where
    by : (a b : Bool) → a && b ≡ true → a ≡ true
    by true b is = refl
    by false b is = absurd cc

pub asked-some : (c channel : ℕ) (past : List Event) → has_unanswered_begin c channel past ≡ true → is_some (last_in_begin c channel past) ≡ true
asked-some c channel [] is = absurd cc
asked-some c channel (e ∷ past) is =
    by (begins_out c channel e) (begins_in c channel e) refl (asked-some c channel past) is
  where
    by : (begun asked : Bool) → begins_in c channel e ≡ asked → (has_unanswered_begin c channel past ≡ true → is_some (last_in_begin c channel past) ≡ true)
        → (if begun then false else asked && e.is_heard && is_none e.fault || has_unanswered_begin c channel past) ≡ true
        → is_some (if asked then in_begin e else last_in_begin c channel past) ≡ true
    by true asked of has is = absurd cc
    by false true of has is = begins_by c channel e of
    by false false of has is = has is

awaits_by : (begun ended_in ended_out earlier unended met : Bool) → (ended_out ≡ true → unended ≡ met)
    → (if begun || ended_in then false else if ended_out then unended else earlier) ≡ (if begun || ended_in then false else if ended_out then met else earlier)
awaits_by true ended_in ended_out earlier unended met same = refl
awaits_by false true ended_out earlier unended met same = refl
awaits_by false false true earlier unended met same = same refl
awaits_by false false false earlier unended met same = refl

module _ (rules : RuleSet) (e : Event) (past : List Event) (are : AreJudged rules (e ∷ past)) (lawful : first_broken rules (e ∷ past) ≡ None)
    (channel : ℕ) (on : channel_of e.moment ≡ Some channel) (own : (e.connection == e.connection) ≡ true) (same : (channel == channel) ≡ true) where
  abbrev c : ℕ
  c = e.connection

  here : is_on_channel c channel e ≡ true
  here = rw (on, same) own

  pub unanswered-here : unanswered_at c channel (e ∷ past) ≡ unanswered_next e (unanswered_at c channel past)
  unanswered-here = made-same _ _ _ _ _ _ begins owes awaits
    where
      begun : begins_out c channel e ≡ is_some (out_begin e)
      begun = and_all (is_some (out_begin e)) (is_on_channel c channel e) here

      asked : begins_in c channel e ≡ is_some (in_begin e)
      asked = and_all (is_some (in_begin e)) (is_on_channel c channel e) here

      ended_in : ends_in c channel e ≡ is_in_end e
      ended_in = and_all (is_in_end e) (is_on_channel c channel e) here

      ended_out : ends_out c channel e ≡ is_out_end e
      ended_out = and_all (is_out_end e) (is_on_channel c channel e) here

      begins : begin_to_answer c channel (e ∷ past) ≡ begin_next e (begin_to_answer c channel past)
      begins =
          ap (λ b. if (if b then false else begins_in c channel e && e.is_heard && is_none e.fault || has_unanswered_begin c channel past) then (if begins_in c channel e then in_begin e else last_in_begin c channel past) else None) begun
          ∙ (ap (λ b. if (if is_some (out_begin e) then false else b && e.is_heard && is_none e.fault || has_unanswered_begin c channel past) then (if b then in_begin e else last_in_begin c channel past) else None) asked
          ∙ begin_flat (is_some (out_begin e)) (is_some (in_begin e)) e.is_heard (is_none e.fault) (has_unanswered_begin c channel past) (in_begin e) (last_in_begin c channel past) refl (asked-some c channel past))
        where
          begin_flat : (begun asked heard fine earlier : Bool) (new last : Option Begin) → asked ≡ is_some new → (earlier ≡ true → is_some last ≡ true)
              → (if (if begun then false else asked && heard && fine || earlier) then (if asked then new else last) else None)
              ≡ (if begun then None else if asked && (is_some (if earlier then last else None) || heard && fine) then new else (if earlier then last else None))
          begin_flat begun true heard fine earlier new last of has = begin_by begun true (heard && fine) earlier new last of has
          begin_flat begun false heard fine earlier new last of has = begin_by begun false (heard && fine) earlier new last of has

      owes : owes_end c channel (e ∷ past) ≡ owes_end_next e (owes_end c channel past)
      owes =
          ap (λ b. if b then false else ends_in c channel e && is_some e.session || owes_end c channel past) ended_out
          ∙ ap (λ b. if is_out_end e then false else b && is_some e.session || owes_end c channel past) ended_in

      awaits : awaits_end c channel (e ∷ past) ≡ awaits_end_next e (awaits_end c channel past)
      awaits =
          ap (λ b. if b || ends_in c channel e then false else if ends_out c channel e then is_unended c channel past else awaits_end c channel past) begun
          ∙ (ap (λ b. if is_some (out_begin e) || b then false else if ends_out c channel e then is_unended c channel past else awaits_end c channel past) ended_in
          ∙ (ap (λ b. if is_some (out_begin e) || is_in_end e then false else if b then is_unended c channel past else awaits_end c channel past) ended_out
          ∙ awaits_by (is_some (out_begin e)) (is_in_end e) (is_out_end e) (awaits_end c channel past) (is_unended c channel past) (is_some e.session)
          (λ ends. ended-was_unended rules e past are lawful ends channel on)))
