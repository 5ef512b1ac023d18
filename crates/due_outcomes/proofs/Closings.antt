-- What closes a delivery from a client shows in the kind of the event, or in the number of the delivery.
use Rattle.std.proofs.Common.{◌≡◌, refl, ap, ◌∙◌, inl, inr, Bool, true, false, ◌&&◌, ◌||◌, not, List, [], ◌∷◌, Option, Some, None, nat_lt, ◌==◌}
use Rattle.std.specs.Prelude.{Contains}
use Rattle.std.specs.List.{list_any}
use Rattle.amqp_perf.specs.Meaning.{DispositionFields, flag}
use Rattle.capture_form.specs.Rules.{RuleSet}
use Rattle.trace_events.specs.Words.{is_number, is_some_and}
use Rattle.trace_events.specs.Event.{Event, Incoming, Link, is_on_session}
use Rattle.trace_events.specs.Said.{in_disposition, in_transfer}
use Rattle.trace_events.specs.Disposition.{covers_id}
use Rattle.trace_events.specs.Ends.{ends_link}
use Rattle.trace_events.specs.Incoming.{is_part, is_settled, is_told, settles_id, settles_part}
use Rattle.trace_events.specs.Link.{is_live, is_producer, is_sender}
use Rattle.trace_events.specs.Settling.{is_closed}
use Rattle.trace_events.specs.Work.{closes_incoming}
use Rattle.trace_events.proofs.Judged.{AreJudged}
use Rattle.trace_events.proofs.LinkEnds.{lives-live}
use Rattle.trace_events.proofs.Parts.{IsKept}
use Rattle.trace_events.proofs.WaitingQueue.{contains_none, contains_cases}
use Rattle.state_tables.specs.EndedLinks.{AreEnded}
use Rattle.due_outcomes.specs.Closings.{may_close, settles_ids, settles_sent}
use Rattle.due_outcomes.proofs.ProducerLinks.{judged-producer}
use Rattle.due_outcomes.proofs.UnderKeys.{or-first, or-last}

pub contained-any : {A : Type 0} (p : A → Bool) (xs : List A) (x : A) → Contains xs x → p x ≡ true → list_any p xs ≡ true
contained-any p [] x there is = contains_none x there
contained-any p (y ∷ ys) x there is = elim (contains_cases y ys x there) [
  | inl same ↦ or-first (p y) (list_any p ys) (ap p same ∙ is)
  | inr later ↦ or-last (p y) (list_any p ys) (contained-any p ys x later is)
]

and-both : (a b : Bool) → a && b ≡ true → (a ≡ true) × (b ≡ true)
and-both true b is = (refl, is)
and-both false b is = absurd cc

-- t: the event tells it, p: a part settles it, i: its id is settled, x: its link ends
closes-by : (t p i x : Bool) (P : Type 0) → (t ≡ true → P) → (p ≡ true → P) → (i ≡ true → P) → (x ≡ true → P) → t || (p || i) || x ≡ true → P
closes-by true p i x P told part id over is = told refl
closes-by false true i x P told part id over is = part refl
closes-by false false true x P told part id over is = id refl
closes-by false false false x P told part id over is = over is

lives-by : (told settled live : Bool) → told || settled || not live ≡ false → live ≡ true
lives-by false false true is = refl
lives-by false false false is = absurd cc
lives-by false true live is = absurd cc
lives-by true settled live is = absurd cc

settles-by : (o : Option DispositionFields) (d : Incoming) → is_some_and o (λ fields. is_sender fields.role && flag fields.settled && covers_id fields d.id) ≡ true → is_some_and o settles_sent ≡ true
settles-by None d is = absurd cc
settles-by (Some fields) d is = (and-both (is_sender fields.role && flag fields.settled) (covers_id fields d.id) is).0

id-settles : (e : Event) (d : Incoming) → settles_id d e ≡ true → settles_ids e ≡ true
id-settles e d is =
    let says = is_some_and (in_disposition e) (λ fields. is_sender fields.role && flag fields.settled && covers_id fields d.id) in
    settles-by (in_disposition e) d
    (and-both says e.is_heard (and-both (says && e.is_heard) (is_on_session d.link.session e) (and-both (says && e.is_heard && is_on_session d.link.session e) (nat_lt d.number e.number) is).0).0).0

-- of one of which something may be told before the event
pub closing : (rules : RuleSet) (e : Event) (past : List Event) → AreJudged rules (e ∷ past) → (d : Incoming) → IsKept past d → is_closed past d ≡ false
    → (ended : List Link) → AreEnded e past ended → closes_incoming e d ≡ true → may_close e ended d.number ≡ true
closing rules e past are d kept opens ended over =
    closes-by (is_number e.told d.number) (settles_part d e) (settles_id d e) (ends_link d.link e) (may_close e ended d.number ≡ true)
    (λ told. or-last by_kind by_number (or-first (is_number e.told d.number) part told))
    (λ is. or-last by_kind by_number (or-last (is_number e.told d.number) part (and-both (is_part d e) (is_some_and (in_transfer e) (λ fields. flag fields.settled)) is).0))
    (λ is. or-first by_kind by_number (or-first (settles_ids e) (list_any is_producer ended) (id-settles e d is)))
    (λ ends. or-first by_kind by_number (or-last (settles_ids e) (list_any is_producer ended)
    (contained-any is_producer ended d.link
    ((over d.link).1 (lives-live rules past are.1 d.link kept.link.at (lives-by (is_told d past) (is_settled d past) (is_live past d.link) opens), ends))
    (judged-producer rules past are.1 d kept.at))))
  where
    part : Bool
    part = is_some_and e.incoming (λ x. x.number == d.number)

    by_kind : Bool
    by_kind = settles_ids e || list_any is_producer ended

    by_number : Bool
    by_number = is_number e.told d.number || part
