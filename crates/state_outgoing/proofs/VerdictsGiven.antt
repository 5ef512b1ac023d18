-- Of the copies that await their verdict with an event, those that it touches or begins tell what stands behind it.
use Rattle.std.proofs.Common.{◌≡◌, refl, sym, ap, ◌∙◌, inl, inr, ℕ, Bool, true, false, ◌&&◌, ◌||◌, ◌==◌, List, [], ◌∷◌, Option, Some, None, nat_eq, option_and_then, option_map, if◌then◌else◌, eqb-true}
use Rattle.std.specs.List.{list_any}
use Rattle.amqp_perf.specs.declared.descriptor.Outcome.{Outcome}
use Rattle.amqp_perf.specs.Meaning.{DispositionFields}
use Rattle.capture_form.specs.Rules.{RuleSet}
use Rattle.number_groups.specs.Numbers.{is_among}
use Rattle.trace_events.specs.Words.{is_some_and}
use Rattle.trace_events.specs.Event.{Event, Link, Incoming, Outgoing}
use Rattle.trace_events.specs.Disposition.{terminal_state}
use Rattle.trace_events.specs.Incoming.{incoming_at, incoming_deliveries}
use Rattle.trace_events.specs.Link.{link_at, links}
use Rattle.trace_events.specs.Outgoing.{outgoing_deliveries, outgoing_at, decision, names}
use Rattle.trace_events.proofs.Judged.{AreJudged}
use Rattle.trace_events.specs.Clauses.{first_broken}
use Rattle.trace_events.specs.Outcome.{is_sent_settled}
use Rattle.trace_events.specs.BestVerdict.{is_same_outcome}
use Rattle.trace_events.specs.CopyVerdict.{awaits_now, begun_verdict, copy_on, sent_verdict}
use Rattle.trace_events.proofs.OneCopy.{awaits-many, fresh-copy, one-copy}
use Rattle.state_outgoing.specs.Given.{gives}
use Rattle.state_outgoing.specs.LetGo.{where_kept, kept_at, is_finished}
use Rattle.state_outgoing.specs.Sent.{Sent, sent, sent_at, sent_begun, sent_next, verdict_of, verdict_said}
use Rattle.state_outgoing.specs.SentTouched.{touches}
use Rattle.state_outgoing.proofs.OutgoingNumbers.{begun-number, found-at, found-passes}
use Rattle.state_outgoing.proofs.SentBegun.{at-number, begun-once, found-own}
use Rattle.state_outgoing.proofs.SentFollowed.{sent-behind, sent-first}
use Rattle.state_outgoing.proofs.SentKept.{IsOver, done-verdict, found-contained, kept-law, sent-moved, stays-kept, unfinished-names}
use Rattle.state_outgoing.proofs.SentKnown.{sent-of}
use Rattle.state_outgoing.proofs.SentTaken.{on}
use Rattle.state_outgoing.proofs.SentUntouched.{untouched}

same_some : {A : Type 0} (a b : A) → Some a ≡ Some b → a ≡ b
same_some a b is = cc

and_both : (a b : Bool) → a && b ≡ true → (a ≡ true) × (b ≡ true)
and_both true b is = (refl, is)
and_both false b is = absurd cc

or_first : (a b : Bool) → a ≡ true → a || b ≡ true
or_first true b is = refl
or_first false b is = absurd cc

or_last : (a b : Bool) → b ≡ true → a || b ≡ true
or_last true b is = refl
or_last false b is = is

both-ways : (a b : Bool) → (a ≡ true → b ≡ true) → (b ≡ true → a ≡ true) → a ≡ b
both-ways true b forth back = sym (forth refl)
both-ways false true forth back = back refl
both-ways false false forth back = refl

-- one that passes tells it, and one of these that passes makes some pass
any-tells : (f : ℕ → Bool) (b : Bool) → ((m : ℕ) → f m ≡ true → b ≡ true) → (ms : List ℕ) → list_any f ms ≡ true → b ≡ true
any-tells f b each [] is = absurd cc
any-tells f b each (m ∷ ms) is = by (f m) refl (any-tells f b each ms) is
  where
    by : (t : Bool) → f m ≡ t → (list_any f ms ≡ true → b ≡ true) → t || list_any f ms ≡ true → b ≡ true
    by true here later is = each m here
    by false other later is = later is

pub any-at : (f : ℕ → Bool) (k : ℕ) → f k ≡ true → (ms : List ℕ) → is_among ms k ≡ true → list_any f ms ≡ true
any-at f k passes [] is = absurd cc
any-at f k passes (m ∷ ms) is = by (nat_eq k m) refl (any-at f k passes ms) is
  where
    by : (t : Bool) → nat_eq k m ≡ t → (is_among ms k ≡ true → list_any f ms ≡ true) → t || is_among ms k ≡ true → f m || list_any f ms ≡ true
    by true same later is = or_first (f m) (list_any f ms) (ap f (sym (eqb-true k m same)) ∙ passes)
    by false other later is = or_last (f m) (list_any f ms) (later is)

-- ---- what came of a delivery

verdict-law : (o : Option DispositionFields) (settled : Bool) → verdict_said (option_map terminal_state o) settled ≡ sent_verdict o settled
verdict-law None settled = refl
verdict-law (Some fields) settled = refl

-- of the law and of its entry it is the same
same-verdict : (past : List Event) (j : Outgoing) → verdict_of (sent past j) ≡ sent_verdict (decision j past) (is_sent_settled j past)
same-verdict past j = verdict-law (decision j past) (is_sent_settled j past)

module _ (rules : RuleSet) (e : Event) (past : List Event) (are : AreJudged rules (e ∷ past)) (lawful : first_broken rules (e ∷ past) ≡ None)
    (d : Incoming) (found : incoming_at d.number (e ∷ past) ≡ Some d) (l : Link) (awaits : awaits_now rules e past d l ≡ true) (outcome : Outcome) where
  abbrev Verdict : Option Outgoing → Bool
  Verdict o = is_some_and (option_and_then (λ (k : Outgoing). sent_verdict (decision k (e ∷ past)) (is_sent_settled k (e ∷ past))) o) (is_same_outcome outcome)

  abbrev stands : Bool
  stands = Verdict (copy_on d l (e ∷ past))

  abbrev tells : Option Sent → Bool
  tells o = gives l.number d.number outcome o

  abbrev is_copy : Outgoing → Bool
  is_copy j = j.link.number == l.number && names d.number j.note

  -- ---- what an entry behind the event tells is the copy's

  tells-copy : (m : ℕ) → tells (sent_at m (e ∷ past)) ≡ true → stands ≡ true
  tells-copy m = by (outgoing_at m (e ∷ past)) refl
    where
      by : (o : Option Outgoing) → outgoing_at m (e ∷ past) ≡ o → tells (option_map (sent (e ∷ past)) o) ≡ true → stands ≡ true
      by None none is = absurd cc
      by (Some j) at is =
          let such : Bool = is_some_and (verdict_of (sent (e ∷ past) j)) (is_same_outcome outcome) in
          let one = and_both (j.link.number == l.number) (names d.number j.note && such) is in
          let two = and_both (names d.number j.note) such one.1 in
          let own : outgoing_at j.number (e ∷ past) ≡ Some j = ap (λ n. outgoing_at n (e ∷ past)) (at-number (e ∷ past) m j at) ∙ at in
          let keys : is_copy j ≡ true = ap (λ b. b && names d.number j.note) one.0 ∙ two.0 in
          let copy : copy_on d l (e ∷ past) ≡ Some j = one-copy rules (e ∷ past) are lawful d found (awaits-many rules e past are lawful d found l awaits) l.number j keys own in
          ap Verdict copy ∙ (sym (ap (λ o. is_some_and o (is_same_outcome outcome)) (same-verdict (e ∷ past) j)) ∙ two.1)

  -- and the entry of the copy tells it
  copy-tells : (j : Outgoing) → copy_on d l (e ∷ past) ≡ Some j → Verdict (Some j) ≡ true → tells (Some (sent (e ∷ past) j)) ≡ true
  copy-tells j copy is =
      let keys = and_both (j.link.number == l.number) (names d.number j.note) (found-passes is_copy (outgoing_deliveries (e ∷ past)) j copy) in
      let such : Bool = is_some_and (verdict_of (sent (e ∷ past) j)) (is_same_outcome outcome) in
      ap (λ b. b && (names d.number j.note && such)) keys.0 ∙ (ap (λ b. b && such) keys.1 ∙ (ap (λ o. is_some_and o (is_same_outcome outcome)) (same-verdict (e ∷ past) j) ∙ is))

  -- ---- a table of all that are not let go, of which these are touched

  module _ (gone : List (ℕ × Unit {0})) (over : IsOver gone past) (old : ℕ → Option Sent) (were : (n : ℕ) → old n ≡ kept_at gone n past) (touched : List ℕ) (off : (n : ℕ) (x : Sent) → old n ≡ Some x → is_among touched n ≡ false → touches e x ≡ false) where
    abbrev told : ℕ → Bool
    told m = tells (on e (old m))

    on-behind : (m : ℕ) (x : Sent) → old m ≡ Some x → on e (old m) ≡ sent_at m (e ∷ past)
    on-behind m x at =
        let entry : sent_at m past ≡ Some x = kept-law gone (sent_at m past) x (sym (were m) ∙ at) in
        let of = sent-of m past x entry in
        ap (on e) (at ∙ sym entry)
        ∙ sym (sent-behind rules e past are m ∙ ap (λ b. if b then sent_begun e else option_map (sent_next e) (sent_at m past)) (begun-once rules e past are m x.delivery of.at))

    forth : list_any told touched || tells (sent_begun e) ≡ true → stands ≡ true
    forth is = either (list_any told touched) refl is
      where
        one : (m : ℕ) → told m ≡ true → stands ≡ true
        one m = by (old m) refl
          where
            by : (o : Option Sent) → old m ≡ o → tells (on e o) ≡ true → stands ≡ true
            by None none is = absurd cc
            by (Some x) at is = tells-copy m (ap tells (sym (on-behind m x at) ∙ ap (on e) at) ∙ is)

        either : (b : Bool) → list_any told touched ≡ b → b || tells (sent_begun e) ≡ true → stands ≡ true
        either true some is = any-tells told stands one touched some
        either false none is = tells-copy e.number (ap tells (sent-first rules e past are) ∙ is)

    -- one that stood without a verdict has it by a touch
    stood : (j : Outgoing) → copy_on d l (e ∷ past) ≡ Some j → Verdict (Some j) ≡ true → copy_on d l past ≡ Some j → begun_verdict d l past ≡ None → list_any told touched ≡ true
    stood j copy is before none = kept-or (is_finished past j) refl
      where
        at : outgoing_at j.number past ≡ Some j
        at = found-at rules past are.1 is_copy j before

        moved : sent (e ∷ past) j ≡ sent_next e (sent past j)
        moved = sent-moved rules e past are j at

        unsaid : sent_verdict (decision j past) (is_sent_settled j past) ≡ None
        unsaid = sym (ap (option_and_then (λ (k : Outgoing). sent_verdict (decision k past) (is_sent_settled k past))) before) ∙ none

        -- behind the event it has one
        not-still : verdict_of (sent_next e (sent past j)) ≡ verdict_of (sent past j) → list_any told touched ≡ true
        not-still same =
            let still : sent_verdict (decision j (e ∷ past)) (is_sent_settled j (e ∷ past)) ≡ None =
            sym (same-verdict (e ∷ past) j) ∙ (ap verdict_of moved ∙ (same ∙ (same-verdict past j ∙ unsaid))) in
            let never : false ≡ true = sym (ap (λ o. is_some_and o (is_same_outcome outcome)) still) ∙ is in
            absurd cc

        by : old j.number ≡ Some (sent past j) → (b : Bool) → is_among touched j.number ≡ b → list_any told touched ≡ true
        by was true inside = any-at told j.number (ap tells (ap (on e) was ∙ ap Some (sym moved)) ∙ copy-tells j copy is) touched inside
        by was false out = not-still (ap verdict_of (untouched e (sent past j) (off j.number (sent past j) was out)))

        -- what is finished has its verdict, or none for ever
        kept-or : (b : Bool) → is_finished past j ≡ b → list_any told touched ≡ true
        kept-or true finished = not-still (done-verdict e (sent past j) finished)
        kept-or false going =
            by (were j.number
            ∙ (ap (λ o. where_kept gone (option_map (sent past) o)) at ∙ stays-kept gone (sent past j) (unfinished-names gone past over j (found-contained past j.number j at) going)))
            (is_among touched j.number) refl

    back : stands ≡ true → list_any told touched || tells (sent_begun e) ≡ true
    back = by (copy_on d l (e ∷ past)) refl
      where
        by : (o : Option Outgoing) → copy_on d l (e ∷ past) ≡ o → Verdict o ≡ true → list_any told touched || tells (sent_begun e) ≡ true
        by None none is = absurd cc
        by (Some j) copy is = elim (fresh-copy rules e past are lawful d found l awaits j copy) [
          | inl begun ↦
              let entry : sent_begun e ≡ Some (sent (e ∷ past) j) =
              sym (sent-first rules e past are)
              ∙ (ap (λ n. sent_at n (e ∷ past)) (sym (begun-number e j begun)) ∙ ap (option_map (sent (e ∷ past))) (found-own rules e past are j begun)) in
              or_last (list_any told touched) (tells (sent_begun e)) (ap tells entry ∙ copy-tells j copy is)
          | inr (before, none) ↦ or_first (list_any told touched) (tells (sent_begun e)) (stood j copy is before none)
        ]

    pub given-stands : list_any told touched || tells (sent_begun e) ≡ is_some_and (begun_verdict d l (e ∷ past)) (is_same_outcome outcome)
    given-stands = both-ways (list_any told touched || tells (sent_begun e)) stands forth back

-- ---- what is told of both

pub told-both : (all given begun touched first : Bool) → all ≡ given || begun → given ≡ touched → begun ≡ first → all ≡ touched || first
told-both all given begun touched first is one two = rw (is, one, two) refl

-- ---- by the numbers

pub link-number : (past : List Event) (n : ℕ) (l : Link) → link_at n past ≡ Some l → l.number ≡ n
link-number past n l at = eqb-true l.number n (found-passes (λ (m : Link). m.number == n) (links past) l at)

pub incoming-number : (past : List Event) (n : ℕ) (d : Incoming) → incoming_at n past ≡ Some d → d.number ≡ n
incoming-number past n d at = eqb-true d.number n (found-passes (λ (x : Incoming). x.number == n) (incoming_deliveries past) d at)
