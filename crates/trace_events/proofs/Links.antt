-- Each link of a history is the one that its own record opened.
use Rattle.std.proofs.Common.{◌≡◌, refl, sym, ap, subst, ◌∙◌, ℕ, suc, ◌<◌, ◌≤◌, Bool, true, false, ◌&&◌, ◌||◌, List, [], ◌∷◌, length, Option, Some, None, is_some, option_and_then, option_map, find, if◌then◌else◌, ◌==◌, inl, inr, ◌⊎◌, arith}
use Rattle.std.specs.List.{filter_map, cons_option}
use Rattle.std.proofs.lemmas.Bool.{eqb-true, eq-eqb}
use Rattle.amqp_perf.specs.Meaning.{Meaning, AnOpen, ABegin, AnAttach, AFlow, ATransfer, ADisposition, ADetach, AnEnd, AClose, AttachFields, DetachFields}
use Rattle.capture_form.specs.declared.records.Record.{Record}
use Rattle.capture_form.specs.Rules.{RuleSet}
use Rattle.trace_events.specs.Words.{is_some_and, or_else, where_passes}
use Rattle.trace_events.specs.Frame.{Frame, Spoken, spoken_in}
use Rattle.trace_events.specs.Said.{as_begin, as_attach, out_begin, out_attach, in_detach, out_detach, handle_in}
use Rattle.trace_events.specs.Event.{Event, Link, Moment, Opened, In, Out, Lost, Broken, out_frame, spoken_of, is_on_session}
use Rattle.trace_events.specs.declared.session.Session.{Session}
use Rattle.trace_events.specs.Link.{last_in_attach, opens_link, new_link, session_link, attaches_out, detaches_in, detaches_out, link_opened, own_link, links, link_at}
use Rattle.trace_events.specs.History.{judge, judge_unopened, moment_of, session_of, link_of, named_link}
use Rattle.trace_events.specs.Session.{own_session, session_at}
use Rattle.trace_events.proofs.Along.{and_first, and_last, and_then_some, if_some, some_passes}
use Rattle.trace_events.proofs.Opens.{opened-session}
use Rattle.trace_events.proofs.Sessions as sessions
use Rattle.trace_events.proofs.Sessions.{not_on, begin_in}

find_kinds : {A : Type 0} (p : A → Bool) (x : A) (xs : List A) (y : A) → find p (x ∷ xs) ≡ Some y → ((p x ≡ true) × (x ≡ y)) ⊎ (find p xs ≡ Some y)
find_kinds p x xs y e = by (p x) refl e
  where
    by : (b : Bool) → p x ≡ b → (if b then Some x else find p xs) ≡ Some y → ((p x ≡ true) × (x ≡ y)) ⊎ (find p xs ≡ Some y)
    by true is same = inl (is, cc)
    by false is same = inr same

-- ---- the link that a record opens

-- the attach that a moment writes
abbrev pub attach_in : Moment → Option AttachFields
attach_in m = option_and_then as_attach (option_map (λ (spoken : Spoken). spoken.meaning) (option_and_then (λ (frame : Frame). spoken_in frame.body) (out_frame m)))

some_is : {A : Type 0} (x y : A) → Some x ≡ Some y → x ≡ y
some_is x y e = cc

abbrev pub opened_by : ℕ → Option AttachFields → Option Session → List Event → Option Link
opened_by number attach session past = option_and_then (λ (fields : AttachFields).
    option_and_then (λ (s : Session). option_map (λ (ours : AttachFields). new_link number s ours (last_in_attach s fields.handle past)) (where_passes opens_link attach)) session
    ) attach

opened_by-number : (number : ℕ) (attach : Option AttachFields) (session : Option Session) (past : List Event) (l : Link) → opened_by number attach session past ≡ Some l → l.number ≡ number
opened_by-number number None session past l e = absurd cc
opened_by-number number (Some a) None past l e = absurd cc
opened_by-number number (Some a) (Some s) past l e = by (opens_link a) e
  where
    by : (b : Bool) → option_map (λ (ours : AttachFields). new_link number s ours (last_in_attach s a.handle past)) (if b then Some a else None) ≡ Some l → l.number ≡ number
    by true e = ap (λ (l : Link). l.number) (sym (some_is (new_link number s a (last_in_attach s a.handle past)) l e))
    by false e = absurd cc

-- an attach names no handle of a link that lives, and begins no session
attach_names : (meaning : Meaning) → is_some (as_attach meaning) ≡ true → (handle_in meaning ≡ None) × (as_begin meaning ≡ None)
attach_names (AnAttach a) is = (refl, refl)
attach_names (ABegin b) is = absurd cc
attach_names (AnOpen o) is = absurd cc
attach_names (AFlow f) is = absurd cc
attach_names (ATransfer f) is = absurd cc
attach_names (ADisposition f) is = absurd cc
attach_names (ADetach f) is = absurd cc
attach_names (AnEnd x) is = absurd cc
attach_names (AClose x) is = absurd cc

attach_said : (o : Option Spoken) → is_some (option_and_then as_attach (option_map (λ (spoken : Spoken). spoken.meaning) o)) ≡ true
    → (option_and_then (λ (spoken : Spoken). handle_in spoken.meaning) o ≡ None) × (option_and_then as_begin (option_map (λ (spoken : Spoken). spoken.meaning) o) ≡ None)
attach_said None is = absurd cc
attach_said (Some spoken) is = attach_names spoken.meaning is

pub attach_begins : (m : Moment) → is_some (attach_in m) ≡ true → begin_in m ≡ None
attach_begins (Out frame) is = (attach_said (spoken_in frame.body) is).1
attach_begins (In frame) is = absurd cc
attach_begins Opened is = absurd cc
attach_begins Lost is = absurd cc
attach_begins Broken is = absurd cc

named_none : (s : Session) (o : Option Spoken) (past : List Event) → option_and_then (λ (spoken : Spoken). handle_in spoken.meaning) o ≡ None → option_and_then (λ (spoken : Spoken). named_link s spoken.meaning past) o ≡ None
named_none s None past none = refl
named_none s (Some spoken) past none = ap (option_and_then (λ (handle : ℕ). session_link s handle past)) none

pub attach_link : (m : Moment) (past : List Event) (session : Option Session) → is_some (attach_in m) ≡ true → link_of m past session ≡ None
attach_link m past None is = refl
attach_link (Out frame) past (Some s) is = named_none s (spoken_in frame.body) past (attach_said (spoken_in frame.body) is).0
attach_link (In frame) past (Some s) is = absurd cc
attach_link Opened past (Some s) is = absurd cc
attach_link Lost past (Some s) is = absurd cc
attach_link Broken past (Some s) is = absurd cc

pub first_of_both : {A : Type 0} (o p : Option A) (x : A) → p ≡ None → or_else o p ≡ Some x → o ≡ Some x
first_of_both None p x none e = let never : ◌≡◌ {A = Option _} None (Some x) = sym none ∙ e in absurd cc
first_of_both (Some y) p x none e = e

-- a link has the number of the record that opens it
pub opened_number : (rules : RuleSet) (past : List Event) (r : Record) (l : Link) → is_some (out_attach (judge rules past r)) ≡ true → (judge rules past r).link ≡ Some l → l.number ≡ length past
opened_number rules past r l is e =
    let m = moment_of r.what in
    let session = session_of r.connection m past in
    opened_by-number (length past) (attach_in m) session past l
    (first_of_both (opened_by (length past) (attach_in m) session past) (link_of m past session) l (attach_link m past session is) e)

-- ---- the links that are known

pub record IsKnown (past : List Event) (l : Link) : Type 0 where
  pub at : link_at l.number past ≡ Some l
  pub before : l.number < length past

abbrev pub AreKnown : List Event → Type 0
AreKnown past = (s : Session) (handle : ℕ) (l : Link) → sessions.IsKnown past s → session_link s handle past ≡ Some l → IsKnown past l

self_is : (n : ℕ) → (n == n) ≡ true
self_is n = eq-eqb n n refl

at_by : (l m : Link) (past : List Event) → m.number ≡ length past → IsKnown past l → (if m.number == l.number then Some m else link_at l.number past) ≡ Some l
at_by l m past own known = by (m.number == l.number) refl
  where
    by : (b : Bool) → (m.number == l.number) ≡ b → (if b then Some m else link_at l.number past) ≡ Some l
    by true same = absurd (omega (arith, own, eqb-true m.number l.number same, known.before))
    by false other = known.at

pub passing : {A : Type 0} (test : A → Bool) (o : Option A) (x : A) → where_passes test o ≡ Some x → (o ≡ Some x) × (test x ≡ true)
passing test None x e = absurd cc
passing test (Some y) x e = by (test y) refl e
  where
    by : (b : Bool) → test y ≡ b → (if b then Some y else None) ≡ Some x → (Some y ≡ Some x) × (test x ≡ true)
    by true is same = let h : y ≡ x = cc in (same, subst (λ z. test z ≡ true) h is)
    by false is same = absurd cc

-- a link that is opened by a record has its number
pub link_opened_number : (e : Event) (l : Link) → own_link e ≡ Some l → (e.link ≡ Some l) × (l.number ≡ e.number)
link_opened_number e l is = let h = passing (λ (l : Link). l.number == e.number) e.link l is in (h.0, eqb-true l.number e.number h.1)

known_by : (rules : RuleSet) (past : List Event) (r : Record) (l : Link) (o : Option Link) → own_link (judge rules past r) ≡ o → IsKnown past l
    → find (λ (m : Link). m.number == l.number) (cons_option o (links past)) ≡ Some l
known_by rules past r l None is known = known.at
known_by rules past r l (Some m) is known = at_by l m past (link_opened_number (judge rules past r) m is).1 known

-- one that is known stays so
pub known_still : (rules : RuleSet) (past : List Event) (r : Record) (l : Link) → IsKnown past l → IsKnown (judge rules past r ∷ past) l
known_still rules past r l known = record { at = known_by rules past r l (own_link (judge rules past r)) refl known; before = omega (arith, known.before) }

-- one that opens is known
pub known_opened : (rules : RuleSet) (past : List Event) (r : Record) (l : Link) → is_some (out_attach (judge rules past r)) ≡ true → (judge rules past r).link ≡ Some l → IsKnown (judge rules past r ∷ past) l
known_opened rules past r l is e =
    let own = opened_number rules past r l is e in
    let same : (l.number == length past) ≡ true = eq-eqb l.number (length past) own in
    let opened : own_link (judge rules past r) ≡ Some l =
    ap (where_passes (λ (l : Link). l.number == length past)) e ∙ ap (λ (b : Bool). if b then Some l else None) same in
    record {
      at = ap (λ (o : Option Link). find (λ (m : Link). m.number == l.number) (cons_option o (links past))) opened
          ∙ ap (λ (b : Bool). if b then Some l else link_at l.number past) (self_is l.number);
      before = omega (arith, own);
    }

is_some_of : {A : Type 0} (o : Option A) (test : A → Bool) → is_some_and o test ≡ true → is_some o ≡ true
is_some_of None test e = absurd cc
is_some_of (Some x) test e = refl

-- ---- a link is the one that is found on its session

-- no link stands on a session before its record
abbrev pub HaveNoLink : List Event → Type 0
HaveNoLink past = (s : Session) (handle : ℕ) → length past ≤ s.number → session_link s handle past ≡ None

and_false : (b : Bool) → (b && false) ≡ false
and_false true = refl
and_false false = refl

off_and : (a b : Bool) → b ≡ false → (a && b) ≡ false
off_and a b e = ap (λ (c : Bool). a && c) e ∙ and_false a

pub no_link_step : (rules : RuleSet) (past : List Event) (r : Record) → sessions.AreKnown past → HaveNoLink past → HaveNoLink (judge rules past r ∷ past)
no_link_step rules past r known none s handle after =
    let e = judge rules past r in
    let off : is_on_session s e ≡ false =
    ap (λ (b : Bool). b && (e.connection == s.connection)) (not_on s e.session (λ t is. omega (arith, after, (sessions.event_known rules past r t known is).before))) in
    rw (
      off_and (is_some_and (in_detach e) (λ (fields : DetachFields). fields.handle == handle)) (is_on_session s e) off,
      off_and (is_some_and (out_detach e) (λ (fields : DetachFields). fields.handle == handle)) (is_on_session s e) off,
      off_and (is_some_and (out_attach e) (λ (fields : AttachFields). fields.handle == handle)) (is_on_session s e) off,
      none s handle (omega (arith, after)),
    ) refl

-- a session was known before, or is the record's own
known_or_own : (rules : RuleSet) (past : List Event) (r : Record) (s : Session) → sessions.AreFound past → sessions.IsKnown (judge rules past r ∷ past) s → sessions.IsKnown past s ⊎ (s.number ≡ length past)
known_or_own rules past r s found known = by (own_session (judge rules past r)) refl known.at
  where
    by : (o : Option Session) → own_session (judge rules past r) ≡ o → find (λ (t : Session). t.number == s.number) (cons_option o (filter_map own_session past)) ≡ Some s → sessions.IsKnown past s ⊎ (s.number ≡ length past)
    by None is e = inl (record { at = e; before = (found s.number s e).1 })
    by (Some t) is e =
        let begun = if_some (is_some (out_begin (judge rules past r))) (judge rules past r).session t is in
        elim (find_kinds (λ (t : Session). t.number == s.number) t (filter_map own_session past) s e) [
          | inl here ↦ inr (sym (eqb-true t.number s.number here.0) ∙ sessions.begun_number rules past r t begun.0 begun.1)
          | inr before ↦ inl (record { at = before; before = (found s.number s before).1 })
        ]

attach_is : (number : ℕ) (s : Session) (handle : ℕ) (attach : Option AttachFields) (past : List Event) (l : Link) → is_some_and attach (λ (fields : AttachFields). fields.handle == handle) ≡ true
    → option_map (λ (ours : AttachFields). new_link number s ours (last_in_attach s handle past)) (where_passes opens_link attach) ≡ Some l → opened_by number attach (Some s) past ≡ Some l
attach_is number s handle None past l same e = absurd cc
attach_is number s handle (Some a) past l same e =
    ap (λ (h : ℕ). option_map (λ (ours : AttachFields). new_link number s ours (last_in_attach s h past)) (where_passes opens_link (Some a))) (eqb-true a.handle handle same) ∙ e

-- the session of an event that stands on this one is this one
session_is : (rules : RuleSet) (past : List Event) (r : Record) (s : Session) → sessions.AreKnown past → sessions.IsKnown (judge rules past r ∷ past) s → is_on_session s (judge rules past r) ≡ true → (judge rules past r).session ≡ Some s
session_is rules past r s known is on =
    let e = judge rules past r in
    let t = some_passes (λ (t : Session). t.number == s.number) e.session (and_first (is_some_and e.session (λ (t : Session). t.number == s.number)) (e.connection == s.connection) on) in
    let own = sessions.event_known rules past r t.0 known t.1 in
    let same : ◌≡◌ {A = Option Session} (Some t.0) (Some s) = sym own.at ∙ ap (λ (n : ℕ). session_at n (e ∷ past)) (eqb-true t.0.number s.number t.2) ∙ is.at in
    t.1 ∙ same

opened_is : (rules : RuleSet) (past : List Event) (r : Record) (s : Session) (handle : ℕ) (l : Link) → sessions.AreKnown past → sessions.IsKnown (judge rules past r ∷ past) s
    → attaches_out s handle (judge rules past r) ≡ true → link_opened s handle (judge rules past r) past ≡ Some l → (judge rules past r).link ≡ Some l
opened_is rules past r s handle l known is attaches e =
    let e' = judge rules past r in
    let same = and_first (is_some_and (out_attach e') (λ (fields : AttachFields). fields.handle == handle)) (is_on_session s e') attaches in
    let on = and_last (is_some_and (out_attach e') (λ (fields : AttachFields). fields.handle == handle)) (is_on_session s e') attaches in
    let m = moment_of r.what in
    let session = session_of r.connection m past in
    let unbegun : session ≡ (judge rules past r).session =
    sym (opened-session (judge_unopened rules past r.connection m r.note) past (attach_begins m (is_some_of (attach_in m) (λ (fields : AttachFields). fields.handle == handle) same))) in
    ap (λ (o : Option Link). or_else o (link_of m past session))
    (ap (λ (o : Option Session). opened_by (length past) (attach_in m) o past) (unbegun ∙ session_is rules past r s known is on) ∙ attach_is (length past) s handle (attach_in m) past l same e)

earlier_known : (rules : RuleSet) (past : List Event) (r : Record) (s : Session) (handle : ℕ) (l : Link) → AreKnown past → HaveNoLink past → sessions.IsKnown past s ⊎ (s.number ≡ length past)
    → session_link s handle past ≡ Some l → IsKnown (judge rules past r ∷ past) l
earlier_known rules past r s handle l known none (inl is) e = known_still rules past r l (known s handle l is e)
earlier_known rules past r s handle l known none (inr own) e =
    let nothing : session_link s handle past ≡ None = none s handle (omega (arith, own)) in
    let never : ◌≡◌ {A = Option Link} None (Some l) = sym nothing ∙ e in
    absurd cc

or_kinds : {A : Type 0} (o p : Option A) (x : A) → or_else o p ≡ Some x → (o ≡ Some x) ⊎ (p ≡ Some x)
or_kinds None p x e = inr e
or_kinds (Some y) p x e = inl e

last_by : (rules : RuleSet) (past : List Event) (r : Record) (s : Session) (handle : ℕ) (l : Link) (detached attached : Bool)
    → attaches_out s handle (judge rules past r) ≡ attached → AreKnown past → HaveNoLink past → sessions.AreKnown past → sessions.AreFound past → sessions.IsKnown (judge rules past r ∷ past) s
    → (if detached then None else if attached then or_else (link_opened s handle (judge rules past r) past) (session_link s handle past) else session_link s handle past) ≡ Some l
    → IsKnown (judge rules past r ∷ past) l
last_by rules past r s handle l true attached is known none all found own e = absurd cc
last_by rules past r s handle l false true is known none all found own e = elim (or_kinds (link_opened s handle (judge rules past r) past) (session_link s handle past) l e) [
  | inl here ↦
      let e' = judge rules past r in
      let there = and_first (is_some_and (out_attach e') (λ (fields : AttachFields). fields.handle == handle)) (is_on_session s e') is in
      known_opened rules past r l (is_some_of (out_attach e') (λ (fields : AttachFields). fields.handle == handle) there) (opened_is rules past r s handle l all own is here)
  | inr before ↦ earlier_known rules past r s handle l known none (known_or_own rules past r s found own) before
]
last_by rules past r s handle l false false is known none all found own e = earlier_known rules past r s handle l known none (known_or_own rules past r s found own) e

pub known_step : (rules : RuleSet) (past : List Event) (r : Record) → sessions.AreKnown past → sessions.AreFound past → HaveNoLink past → AreKnown past → AreKnown (judge rules past r ∷ past)
known_step rules past r all found none known s handle l own e =
    last_by rules past r s handle l (detaches_in s handle (judge rules past r) || detaches_out s handle (judge rules past r)) (attaches_out s handle (judge rules past r)) refl known none all found own e

pub none_known : AreKnown []
none_known s handle l own e = absurd cc

-- ---- the link of an event

abbrev pub Named : List Event → Session → Link → Type 0
Named past s l = (handle : ℕ) × (session_link s handle past ≡ Some l)

named_begins : (meaning : Meaning) (handle : ℕ) → handle_in meaning ≡ Some handle → as_begin meaning ≡ None
named_begins (ABegin b) handle is = absurd cc
named_begins (AnOpen o) handle is = refl
named_begins (AnAttach a) handle is = refl
named_begins (AFlow f) handle is = refl
named_begins (ATransfer f) handle is = refl
named_begins (ADisposition f) handle is = refl
named_begins (ADetach f) handle is = refl
named_begins (AnEnd x) handle is = refl
named_begins (AClose x) handle is = refl

handle_begins : (m : Moment) (spoken : Spoken) (handle : ℕ) → spoken_of m ≡ Some spoken → handle_in spoken.meaning ≡ Some handle → begin_in m ≡ None
handle_begins (Out frame) spoken handle says is =
    ap (λ (o : Option Spoken). option_and_then as_begin (option_map (λ (spoken : Spoken). spoken.meaning) o)) says ∙ named_begins spoken.meaning handle is
handle_begins (In frame) spoken handle says is = refl
handle_begins Opened spoken handle says is = refl
handle_begins Lost spoken handle says is = refl
handle_begins Broken spoken handle says is = refl

-- the link of an event is its own, or one that it names on its session
pub of_kind : (rules : RuleSet) (past : List Event) (r : Record) (l : Link) → (judge rules past r).link ≡ Some l
    → (is_some (attach_in (moment_of r.what)) ≡ true) ⊎ ((s : Session) × ((judge rules past r).session ≡ Some s) × Named past s l)
of_kind rules past r l e = by (attach_in (moment_of r.what)) refl e
  where
    by : (attach : Option AttachFields) → attach_in (moment_of r.what) ≡ attach
        → or_else (opened_by (length past) attach (session_of r.connection (moment_of r.what) past) past) (link_of (moment_of r.what) past (session_of r.connection (moment_of r.what) past)) ≡ Some l
        → (is_some (attach_in (moment_of r.what)) ≡ true) ⊎ ((s : Session) × ((judge rules past r).session ≡ Some s) × Named past s l)
    by (Some a) is e = inl (ap is_some is)
    by None is e =
        let m = moment_of r.what in
        let on = and_then_some (λ (s : Session). option_and_then (λ (spoken : Spoken). named_link s spoken.meaning past) (spoken_of m)) (session_of r.connection m past) l e in
        let says = and_then_some (λ (spoken : Spoken). named_link on.0 spoken.meaning past) (spoken_of m) l on.2 in
        let names = and_then_some (λ (handle : ℕ). session_link on.0 handle past) (handle_in says.0.meaning) l says.2 in
        let unbegun : (judge rules past r).session ≡ session_of r.connection m past =
        opened-session (judge_unopened rules past r.connection m r.note) past (handle_begins m says.0 names.0 says.1 names.1) in
        inr (on.0, unbegun ∙ on.1, (names.0, names.2))

-- what a link of a history stands on
pub record Stands (past : List Event) : Type 0 where
  pub sessions_known : sessions.AreKnown past
  pub sessions_found : sessions.AreFound past
  pub no_link : HaveNoLink past
  pub known : AreKnown past

-- one that an event names without opening it was known
pub named_known : (rules : RuleSet) (past : List Event) (r : Record) (l : Link) → Stands past → (s : Session) → (judge rules past r).session ≡ Some s → Named past s l → IsKnown (judge rules past r ∷ past) l × (l.number < length past)
named_known rules past r l stands s on named = elim (known_or_own rules past r s stands.sessions_found (sessions.event_known rules past r s stands.sessions_known on)) [
  | inl is ↦ let h = stands.known s named.0 l is named.1 in (known_still rules past r l h, h.before)
  | inr own ↦
      let nothing : session_link s named.0 past ≡ None = stands.no_link s named.0 (omega (arith, own)) in
      let never : ◌≡◌ {A = Option Link} None (Some l) = sym nothing ∙ named.1 in
      absurd cc
]

-- the link of an event is known
pub event_known : (rules : RuleSet) (past : List Event) (r : Record) (l : Link) → Stands past → (judge rules past r).link ≡ Some l → IsKnown (judge rules past r ∷ past) l
event_known rules past r l stands e = elim (of_kind rules past r l e) [
  | inl opens ↦ known_opened rules past r l opens e
  | inr named ↦ (named_known rules past r l stands named.0 named.1 named.2).0
]

pub stands_step : (rules : RuleSet) (past : List Event) (r : Record) → Stands past → Stands (judge rules past r ∷ past)
stands_step rules past r h = record {
  sessions_known = sessions.known_step rules past r h.sessions_known;
  sessions_found = sessions.found_step rules past r h.sessions_found;
  no_link = no_link_step rules past r h.sessions_known h.no_link;
  known = known_step rules past r h.sessions_known h.sessions_found h.no_link h.known;
}

pub none_stands : Stands []
none_stands = record { sessions_known = sessions.none_known; sessions_found = sessions.none_found; no_link = λ s handle after. refl; known = none_known }

-- ---- found by its number

abbrev pub AreFound : List Event → Type 0
AreFound past = (n : ℕ) (l : Link) → link_at n past ≡ Some l → (l.number ≡ n) × (n < length past)

found_by : (rules : RuleSet) (past : List Event) (r : Record) (n : ℕ) (l : Link) (o : Option Link) → own_link (judge rules past r) ≡ o → AreFound past
    → find (λ (m : Link). m.number == n) (cons_option o (links past)) ≡ Some l → (l.number ≡ n) × (n < suc (length past))
found_by rules past r n l None is found e = let h = found n l e in (h.0, omega (arith, h.1))
found_by rules past r n l (Some m) is found e =
    let own : m.number ≡ length past = (link_opened_number (judge rules past r) m is).1 in
    elim (find_kinds (λ (m : Link). m.number == n) m (links past) l e) [
      | inl here ↦
          let same : m.number ≡ n = eqb-true m.number n here.0 in
          (ap (λ (x : Link). x.number) (sym here.1) ∙ same, omega (arith, same, own))
      | inr before ↦ let h = found n l before in (h.0, omega (arith, h.1))
    ]

pub found_step : (rules : RuleSet) (past : List Event) (r : Record) → AreFound past → AreFound (judge rules past r ∷ past)
found_step rules past r found n l e = found_by rules past r n l (own_link (judge rules past r)) refl found e

pub none_found : AreFound []
none_found n l e = absurd cc
