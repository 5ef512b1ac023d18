-- A part of a delivery from a client comes while the delivery is incomplete, wasn't given up, and its link lives; before its
-- first part nothing is known of a delivery; and one that is complete was not given up.
use Rattle.std.proofs.Common.{◌≡◌, refl, sym, ap, subst, ◌∙◌, ℕ, ◌≤◌, Bool, true, false, not, ◌&&◌, ◌||◌, ◌==◌, List, [], ◌∷◌, length, Option, Some, None, IfSome, find, option_map, if◌then◌else◌, inl, inr, arith, eqb-true}
use Rattle.std.specs.List.{list_any}
use Rattle.std.proofs.lemmas.Bool.{le-ltb}
use Rattle.capture_form.specs.declared.records.Record.{Record}
use Rattle.capture_form.specs.Rules.{RuleSet}
use Rattle.trace_events.specs.Words.{is_some_and}
use Rattle.trace_events.specs.Frame.{Frame}
use Rattle.trace_events.specs.Event.{Event, Link, Incoming, In, is_on_session}
use Rattle.trace_events.specs.declared.session.Session.{Session}
use Rattle.trace_events.specs.Said.{in_transfer, in_disposition}
use Rattle.amqp_perf.specs.Meaning.{TransferFields, flag}
use Rattle.trace_events.specs.Connection.{is_over}
use Rattle.trace_events.specs.Session.{last_session}
use Rattle.trace_events.specs.Link.{is_live, is_sender, IsLiveLink}
use Rattle.trace_events.specs.Disposition.{covers_id}
use Rattle.trace_events.specs.Incoming.{is_part, payload, is_last_part, completed_by, completes, is_complete, completion, is_aborted, settles_part, settles_id, is_settled}
use Rattle.trace_events.specs.History.{judge, moment_of}
use Rattle.trace_events.proofs.Along.{standing, some_passes}
use Rattle.trace_events.proofs.Judged.{AreJudged, judged-number}
use Rattle.trace_events.proofs.IncomingSteps.{payload-same}
use Rattle.trace_events.proofs.Links.{IsKnown}
use Rattle.trace_events.proofs.LinkLives.{judged-stands}
use Rattle.trace_events.proofs.SessionNumbers.{last_session-known}
use Rattle.trace_events.proofs.Incomings.{judged-sound}
use Rattle.trace_events.proofs.IncomingProgress.{judged-kept}
use Rattle.trace_events.proofs.LiveLinks.{placed-names}
use Rattle.trace_events.proofs.Parts.{EachPart, record_part, came_link, holds_some}
use Rattle.trace_events.proofs.Undecided.{AreWhole, whole_step, part_whole, part_link, named_live}

-- what is in progress was not given up
pub judged-whole : (rules : RuleSet) (past : List Event) → AreJudged rules past → AreWhole past
judged-whole rules [] are = λ l d is. absurd cc
judged-whole rules (e ∷ past) ((r, is), are) =
    subst (λ (x : Event). AreWhole (x ∷ past)) (sym is) (whole_step rules past r (judged-kept rules past are) (judged-whole rules past are))

-- ---- the delivery of a part, before it

pub record MayGoOn (past : List Event) (d : Incoming) : Type 0 where
  pub incomplete : is_complete d past ≡ false
  pub whole : is_aborted d past ≡ false
  pub live : is_live past d.link ≡ true
  pub linked : IsKnown past d.link

last_of : (over : Bool) (last : Option Session) (s : Session) → (if over then None else last) ≡ Some s → last ≡ Some s
last_of true last s is = absurd cc
last_of false last s is = is

-- the link that a frame of the client names was opened before
named_linked : (rules : RuleSet) (past : List Event) (r : Record) (frame : Frame) (l : Link) → AreJudged rules past → moment_of r.what ≡ In frame → (judge rules past r).link ≡ Some l → IsKnown past l
named_linked rules past r frame l are came on =
    let live : IsLiveLink l past = holds_some (λ (m : Link). IsLiveLink m past) (standing rules past r).link l (sym (came_link rules past r frame came) ∙ on) (placed-names past r.connection (moment_of r.what) r.note) in
    let s = l.session in
    (judged-stands rules past are).known s l.handle l
    (last_session-known rules past are s.connection s.channel s (last_of (is_over s.connection past) (last_session s.connection s.channel past) s live.0)) live.1

record-goes_on : (rules : RuleSet) (past : List Event) (r : Record) (d : Incoming) → AreJudged rules past → (judge rules past r).incoming ≡ Some d → MayGoOn past d
record-goes_on rules past r d are is =
    let all = judged-kept rules past are in
    let p = record_part rules past r d is in
    let sound = judged-sound rules past are in
    record {
      incomplete = elim p.part.kind [
        | inl going ↦ sound.going p.part.link d going
        | inr new ↦
            let number : d.number ≡ length past = ap (λ (x : Incoming). x.number) new.1 in
            sound.fresh d (omega (arith, number))
      ];
      whole = part_whole rules past r all (judged-whole rules past are) d is p p.part.kind;
      live = subst (λ (l : Link). is_live past l ≡ true) (part_link rules past r d all p p.part.kind) (named_live rules past r p.frame p.part.link p.came p.part.on);
      linked = subst (IsKnown past) (part_link rules past r d all p p.part.kind) (named_linked rules past r p.frame p.part.link are p.came p.part.on);
    }

pub part-goes_on : (rules : RuleSet) (e : Event) (past : List Event) → AreJudged rules (e ∷ past) → (d : Incoming) → e.incoming ≡ Some d → MayGoOn past d
part-goes_on rules e past ((r, is), are) d part = record-goes_on rules past r d are (sym (ap (λ (x : Event). x.incoming) is) ∙ part)

-- ---- a delivery before its first part

off_is : (n : ℕ) (o : Option Incoming) → IfSome o (λ d. (d.number == n) ≡ false) → is_some_and o (λ d. d.number == n) ≡ false
off_is n None h = refl
off_is n (Some d) h = h

no_part : (e : Event) (d : Incoming) → IfSome e.incoming (λ x. (x.number == d.number) ≡ false) → is_part d e ≡ false
no_part e d apart = off_is d.number e.incoming apart

pub unbegun-payload : (past : List Event) (d : Incoming) → EachPart (λ x. (x.number == d.number) ≡ false) past → payload d past ≡ []
unbegun-payload [] d each = refl
unbegun-payload (e ∷ past) d each = payload-same e past d (no_part e d each.0) ∙ unbegun-payload past d each.1

none_found : {A : Type 0} (test : A → Bool) (xs : List A) → list_any test xs ≡ false → find test xs ≡ None
none_found test [] none = refl
none_found test (x ∷ xs) none = by (test x) none (none_found test xs)
  where
    by : (b : Bool) → b || list_any test xs ≡ false → (list_any test xs ≡ false → find test xs ≡ None) → (if b then Some x else find test xs) ≡ None
    by true none rest = absurd cc
    by false none rest = rest none

pub incomplete-completion : (past : List Event) (d : Incoming) → is_complete d past ≡ false → completion d past ≡ None
incomplete-completion past d none = ap (option_map (λ (e : Event). e.number)) (none_found (completes d) past none)

and_off : (b : Bool) → b && false ≡ false
and_off true = refl
and_off false = refl

pub unbegun-settled : (rules : RuleSet) (past : List Event) (d : Incoming) → AreJudged rules past → EachPart (λ x. (x.number == d.number) ≡ false) past → length past ≤ d.number
    → is_settled d past ≡ false
unbegun-settled rules [] d are each above = refl
unbegun-settled rules (e ∷ past) d are each above =
    let number = judged-number rules e past are in
    let part : settles_part d e ≡ false = ap (λ b. b && is_some_and (in_transfer e) (λ fields. flag fields.settled)) (no_part e d each.0) in
    let id : settles_id d e ≡ false =
    ap (λ b. is_some_and (in_disposition e) (λ fields. is_sender fields.role && flag fields.settled && covers_id fields d.id) && e.is_heard && is_on_session d.link.session e && b)
    (le-ltb d.number e.number (omega (arith, number, above)))
    ∙ all_off (is_some_and (in_disposition e) (λ fields. is_sender fields.role && flag fields.settled && covers_id fields d.id)) e.is_heard (is_on_session d.link.session e) in
    ap (λ b. (b || settles_id d e) || is_settled d past) part ∙ (ap (λ b. b || is_settled d past) id ∙ unbegun-settled rules past d are.1 each.1 (omega (arith, above)))
  where
    all_off : (a b c : Bool) → a && b && c && false ≡ false
    all_off true true true = refl
    all_off true true false = refl
    all_off true false c = refl
    all_off false b c = refl

-- ---- what is complete was not given up

last_whole : (o : Option TransferFields) → is_some_and o is_last_part ≡ true → is_some_and o (λ fields. flag fields.aborted) ≡ false
last_whole None last = refl
last_whole (Some fields) last = by (flag fields.more) (flag fields.aborted) last
  where
    by : (more aborted : Bool) → not more && not aborted ≡ true → aborted ≡ false
    by more false is = refl
    by true true is = absurd cc
    by false true is = absurd cc

last_part : (b : Bool) (o : Option Incoming) (n : ℕ) → is_some_and (if b then o else None) (λ x. x.number == n) ≡ true → (b ≡ true) × ((x : Incoming) × (o ≡ Some x) × (x.number ≡ n))
last_part true None n is = absurd cc
last_part true (Some x) n is = (refl, (x, refl, eqb-true x.number n is))
last_part false o n is = absurd cc

same_aborted : (past : List Event) (c d : Incoming) → c.number ≡ d.number → is_aborted c past ≡ is_aborted d past
same_aborted past c d same =
    ap (λ (n : ℕ). list_any (λ (e : Event). is_some_and e.incoming (λ x. x.number == n) && is_some_and (in_transfer e) (λ fields. flag fields.aborted)) past) same

same_complete : (past : List Event) (c d : Incoming) → c.number ≡ d.number → is_complete c past ≡ is_complete d past
same_complete past c d same = ap (λ (n : ℕ). list_any (λ (e : Event). is_some_and (completed_by e) (λ x. x.number == n)) past) same

pub complete-whole : (rules : RuleSet) (past : List Event) → AreJudged rules past → (d : Incoming) → is_complete d past ≡ true → is_aborted d past ≡ false
complete-whole rules [] are d done = absurd cc
complete-whole rules (e ∷ past) are d done = by (completes d e) refl done (complete-whole rules past are.1 d)
  where
    off_part : is_complete d past ≡ true → (b : Bool) → is_part d e ≡ b → b ≡ false
    off_part was false is = refl
    off_part was true is =
        let x = some_passes (λ (x : Incoming). x.number == d.number) e.incoming is in
        let not_yet : is_complete d past ≡ false = sym (same_complete past x.0 d (eqb-true x.0.number d.number x.2)) ∙ (part-goes_on rules e past are x.0 x.1).incomplete in
        absurd cc

    by : (b : Bool) → completes d e ≡ b → b || is_complete d past ≡ true → (is_complete d past ≡ true → is_aborted d past ≡ false) → is_aborted d (e ∷ past) ≡ false
    by true here was earlier =
        let p = last_part (is_some_and (in_transfer e) is_last_part) e.incoming d.number here in
        ap (λ b. (is_part d e && b) || is_aborted d past) (last_whole (in_transfer e) p.0)
        ∙ (ap (λ b. b || is_aborted d past) (and_off (is_part d e))
        ∙ (sym (same_aborted past p.1.0 d p.1.2) ∙ (part-goes_on rules e past are p.1.0 p.1.1).whole))
    by false none was earlier =
        ap (λ b. (b && is_some_and (in_transfer e) (λ fields. flag fields.aborted)) || is_aborted d past) (off_part was (is_part d e) refl) ∙ earlier was
