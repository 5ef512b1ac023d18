-- A link lives from the record that opens it, and once it is over it stays so.
use Rattle.std.proofs.Common.{◌≡◌, refl, sym, ap, subst, ◌∙◌, ℕ, ◌<◌, Bool, true, false, ◌&&◌, ◌||◌, List, [], ◌∷◌, length, Option, Some, None, is_some, option_and_then, option_map, if◌then◌else◌, ◌==◌, inl, inr, arith}
use Rattle.std.proofs.lemmas.Bool.{eq-eqb, ne_eqb}
use Rattle.amqp_perf.specs.declared.begin.Begin.{Begin}
use Rattle.amqp_perf.specs.Meaning.{Meaning, AnOpen, ABegin, AnAttach, AFlow, ATransfer, ADisposition, ADetach, AnEnd, AClose, AttachFields}
use Rattle.capture_form.specs.declared.records.Record.{Record}
use Rattle.capture_form.specs.Rules.{RuleSet}
use Rattle.trace_events.specs.Words.{is_some_and, or_else, where_passes}
use Rattle.trace_events.specs.Frame.{Spoken}
use Rattle.trace_events.specs.Event.{Event, Link, spoken_of}
use Rattle.trace_events.specs.declared.session.Session.{Session}
use Rattle.trace_events.specs.Said.{as_attach, out_meaning, out_begin, out_attach}
use Rattle.trace_events.specs.Connection.{is_final, is_over}
use Rattle.trace_events.specs.Session.{live_session, last_session, last_in_begin, new_session, session_begun, ends_in, ends_out, begins_out}
use Rattle.trace_events.specs.Link.{opens_link, new_link, link_opened, last_in_attach, session_link, attaches_out, detaches_in, detaches_out, is_live, own_link}
use Rattle.trace_events.specs.History.{judge, judge_unopened, moment_of, session_of, link_of}
use Rattle.trace_events.proofs.Along.{and_then_some}
use Rattle.trace_events.proofs.EventKinds.{kinds, out_said}
use Rattle.trace_events.proofs.Judged.{AreJudged}
use Rattle.trace_events.proofs.Links.{HaveNoLink, Stands, stands_step, none_stands, attach_in, attach_begins, attach_link, opened_by, first_of_both, of_kind, named_known, link_opened_number}
use Rattle.trace_events.proofs.Opens.{opened-session}
use Rattle.trace_events.proofs.LinkSteps.{session_link-opened, live_link-of, is_live-is}
use Rattle.trace_events.proofs.SessionSteps.{live_session-same}

-- sessions and links of judged events are those that their records began
pub judged-stands : (rules : RuleSet) (past : List Event) → AreJudged rules past → Stands past
judged-stands rules [] are = none_stands
judged-stands rules (e ∷ past) ((r, is), are) = subst (λ (x : Event). Stands (x ∷ past)) (sym is) (stands_step rules past r (judged-stands rules past are))

-- ---- a link that is over stays so

-- a link of this number
abbrev is_of : ℕ → Option Link → Bool
is_of n o = is_some_and o (λ m. m.number == n)

opened_apart : (number n : ℕ) (s : Session) (ours : Option AttachFields) (theirs : Option Event) → (number == n) ≡ false
    → is_of n (option_map (λ ours. new_link number s ours theirs) ours) ≡ false
opened_apart number n s None theirs other = refl
opened_apart number n s (Some ours) theirs other = other

link_by : (n : ℕ) (opened earlier : Option Link) (detached attached : Bool) → is_of n opened ≡ false
    → is_of n (if detached then None else if attached then or_else opened earlier else earlier) ≡ true → is_of n earlier ≡ true
link_by n opened earlier true attached apart is = absurd cc
link_by n opened earlier false false apart is = is
link_by n None earlier false true apart is = is
link_by n (Some m) earlier false true apart is = absurd cc

begun_number : (number c channel : ℕ) (ours : Option Begin) (theirs : Option Begin) (s : Session) → option_map (λ ours. new_session number c channel ours theirs) ours ≡ Some s → s.number ≡ number
begun_number number c channel None theirs s is = absurd cc
begun_number number c channel (Some ours) None s is = let same : new_session number c channel ours None ≡ s = cc in ap (λ (s : Session). s.number) (sym same)
begun_number number c channel (Some ours) (Some theirs) s is = let same : new_session number c channel ours (Some theirs) ≡ s = cc in ap (λ (s : Session). s.number) (sym same)

live_by : (n : ℕ) (now before : Session → Option Link) (final over ended begun : Bool) (new earlier : Option Session)
    → ((s : Session) → new ≡ Some s → is_of n (now s) ≡ true → ⊥) → ((s : Session) → is_of n (now s) ≡ true → is_of n (before s) ≡ true)
    → is_of n (option_and_then now (if final || over then None else (if ended then None else (if begun then new else earlier)))) ≡ true
    → is_of n (option_and_then before (if over then None else earlier)) ≡ true
live_by n now before true over ended begun new earlier fresh stays is = absurd cc
live_by n now before false true ended begun new earlier fresh stays is = absurd cc
live_by n now before false false true begun new earlier fresh stays is = absurd cc
live_by n now before false false false true None earlier fresh stays is = absurd cc
live_by n now before false false false true (Some s) earlier fresh stays is = absurd (fresh s refl is)
live_by n now before false false false false new None fresh stays is = absurd cc
live_by n now before false false false false new (Some s) fresh stays is = stays s is

module _ (e : Event) (past : List Event) (none : HaveNoLink past) (number : e.number ≡ length past) where
  link_before : (s : Session) (handle n : ℕ) → (e.number == n) ≡ false → is_of n (session_link s handle (e ∷ past)) ≡ true → is_of n (session_link s handle past) ≡ true
  link_before s handle n other is =
      link_by n (link_opened s handle e past) (session_link s handle past) (detaches_in s handle e || detaches_out s handle e) (attaches_out s handle e)
      (opened_apart e.number n s (where_passes opens_link (out_attach e)) (last_in_attach s handle past) other) is

  fresh_session : (c channel handle n : ℕ) → (e.number == n) ≡ false → (s : Session) → session_begun c channel e past ≡ Some s → is_of n (session_link s handle (e ∷ past)) ≡ true → ⊥
  fresh_session c channel handle n other s begun is =
      let own : s.number ≡ e.number = begun_number e.number c channel (out_begin e) (last_in_begin c channel past) s begun in
      let nothing : session_link s handle past ≡ None = none s handle (omega (arith, own, number)) in
      let never : false ≡ true = sym (ap (is_of n) nothing) ∙ link_before s handle n other is in
      absurd cc

  -- one that lives, and was opened before, lived before
  pub is_live-before : (l : Link) → l.number < length past → is_live (e ∷ past) l ≡ true → is_live past l ≡ true
  is_live-before l below is =
      let other : (e.number == l.number) ≡ false = ne_eqb e.number l.number (λ same. omega (arith, same, number, below)) in
      let c = l.session.connection in
      let channel = l.session.channel in
      live_by l.number (λ s. session_link s l.handle (e ∷ past)) (λ s. session_link s l.handle past) (is_final e.moment && (e.connection == c)) (is_over c past)
      (ends_in c channel e || ends_out c channel e) (begins_out c channel e) (session_begun c channel e past) (last_session c channel past)
      (fresh_session c channel l.handle l.number other) (λ s. link_before s l.handle l.number other) is

  pub is_live-after : (l : Link) → l.number < length past → is_live (e ∷ past) l ≡ is_live past l && is_live (e ∷ past) l
  is_live-after l below = by (is_live past l) (is_live (e ∷ past) l) (is_live-before l below)
    where
      by : (before now : Bool) → (now ≡ true → before ≡ true) → now ≡ before && now
      by true now was = refl
      by false true was = sym (was refl)
      by false false was = refl

-- ---- a link lives from its record on

-- the live session of a channel is one of the channel
abbrev IsAt : ℕ → ℕ → Session → Type 0
IsAt c channel s = (s.connection ≡ c) × (s.channel ≡ channel)

begun_at : (number c channel : ℕ) (ours : Option Begin) (theirs : Option Begin) (s : Session) → option_map (λ ours. new_session number c channel ours theirs) ours ≡ Some s → IsAt c channel s
begun_at number c channel None theirs s is = absurd cc
begun_at number c channel (Some ours) None s is =
    let same : new_session number c channel ours None ≡ s = cc in (ap (λ (s : Session). s.connection) (sym same), ap (λ (s : Session). s.channel) (sym same))
begun_at number c channel (Some ours) (Some theirs) s is =
    let same : new_session number c channel ours (Some theirs) ≡ s = cc in (ap (λ (s : Session). s.connection) (sym same), ap (λ (s : Session). s.channel) (sym same))

last_at : (c channel : ℕ) (past : List Event) (s : Session) → last_session c channel past ≡ Some s → IsAt c channel s
last_at c channel [] s is = absurd cc
last_at c channel (e ∷ past) s is =
    by (ends_in c channel e || ends_out c channel e) (begins_out c channel e) is (last_at c channel past s)
  where
    by : (ended begun : Bool) → (if ended then None else (if begun then session_begun c channel e past else last_session c channel past)) ≡ Some s
        → (last_session c channel past ≡ Some s → IsAt c channel s) → IsAt c channel s
    by true begun is earlier = absurd cc
    by false true is earlier = begun_at e.number c channel (out_begin e) (last_in_begin c channel past) s is
    by false false is earlier = earlier is

pub live_session-at : (c channel : ℕ) (past : List Event) (s : Session) → live_session c channel past ≡ Some s → IsAt c channel s
live_session-at c channel past s is = by (is_over c past) is
  where
    by : (b : Bool) → (if b then None else last_session c channel past) ≡ Some s → IsAt c channel s
    by true is = absurd cc
    by false is = last_at c channel past s is

module _ (e : Event) (past : List Event) (ours : AttachFields) (is : out_meaning e ≡ Some (AnAttach ours)) (s : Session) (on : e.session ≡ Some s)
    (own : (e.connection == s.connection) ≡ true) (live : live_session s.connection s.channel past ≡ Some s) (opens : opens_link ours ≡ true) where
  -- the link that an attach here opens on a handle, and the one that this attach opens
  abbrev new_here : ℕ → AttachFields → Link
  new_here handle fields = new_link e.number s fields (last_in_attach s handle past)

  abbrev opened_here : Link
  opened_here = new_link e.number s ours (last_in_attach s ours.handle past)

  session_now : live_session s.connection s.channel (e ∷ past) ≡ Some s
  session_now =
      live_session-same s.connection s.channel e past (search kinds) (search kinds) (search kinds) (search kinds) ∙ live

  link_now : session_link s ours.handle (e ∷ past) ≡ Some opened_here
  link_now =
      let attached : out_attach e ≡ Some ours = search kinds in
      let here : attaches_out s ours.handle e ≡ true =
      ap (λ o. is_some_and o (λ (fields : AttachFields). fields.handle == ours.handle) && (is_some_and e.session (λ (t : Session). t.number == s.number) && (e.connection == s.connection))) attached
      ∙ (ap (λ b. b && (is_some_and e.session (λ (t : Session). t.number == s.number) && (e.connection == s.connection))) (eq-eqb ours.handle ours.handle refl)
      ∙ (ap (λ o. is_some_and o (λ (t : Session). t.number == s.number) && (e.connection == s.connection)) on
      ∙ (ap (λ b. b && (e.connection == s.connection)) (eq-eqb s.number s.number refl) ∙ own))) in
      let opened : link_opened s ours.handle e past ≡ Some opened_here =
      ap (λ o. option_map (new_here ours.handle) (where_passes opens_link o)) attached ∙ ap (λ b. option_map (new_here ours.handle) (if b then Some ours else None)) opens in
      session_link-opened s ours.handle e past (search kinds) (search kinds) here opened_here opened

  lives_now : is_live (e ∷ past) opened_here ≡ true
  lives_now =
      is_live-is opened_here e past opened_here (live_link-of s.connection s.channel ours.handle e past s session_now ∙ link_now) ∙ eq-eqb e.number e.number refl

-- the link that an attach opens on a session
record Opens (number : ℕ) (attach : Option AttachFields) (session : Option Session) (past : List Event) (l : Link) : Type 0 where
  ours : AttachFields
  on : Session
  says : attach ≡ Some ours
  stands : session ≡ Some on
  opens : opens_link ours ≡ true
  same : new_link number on ours (last_in_attach on ours.handle past) ≡ l

opens_by : (number : ℕ) (attach : Option AttachFields) (session : Option Session) (past : List Event) (l : Link) → opened_by number attach session past ≡ Some l → Opens number attach session past l
opens_by number None session past l e = absurd cc
opens_by number (Some a) None past l e = absurd cc
opens_by number (Some a) (Some s) past l e = by (opens_link a) refl e
  where
    by : (b : Bool) → opens_link a ≡ b → option_map (λ (ours : AttachFields). new_link number s ours (last_in_attach s a.handle past)) (if b then Some a else None) ≡ Some l
        → Opens number (Some a) (Some s) past l
    by true is e = record { ours = a; on = s; says = refl; stands = refl; opens = is; same = cc }
    by false is e = absurd cc

said_attach : (meaning : Meaning) (a : AttachFields) → as_attach meaning ≡ Some a → meaning ≡ AnAttach a
said_attach (AnAttach b) a is = cc
said_attach (ABegin b) a is = absurd cc
said_attach (AnOpen o) a is = absurd cc
said_attach (AFlow f) a is = absurd cc
said_attach (ATransfer f) a is = absurd cc
said_attach (ADisposition f) a is = absurd cc
said_attach (ADetach f) a is = absurd cc
said_attach (AnEnd x) a is = absurd cc
said_attach (AClose x) a is = absurd cc

option_said : (o : Option Meaning) (a : AttachFields) → option_and_then as_attach o ≡ Some a → o ≡ Some (AnAttach a)
option_said None a is = absurd cc
option_said (Some meaning) a is = ap (λ m. Some m) (said_attach meaning a is)

module _ (rules : RuleSet) (past : List Event) (r : Record) where
  opened_lives : (l : Link) → is_some (attach_in (moment_of r.what)) ≡ true → (judge rules past r).link ≡ Some l → is_live (judge rules past r ∷ past) l ≡ true
  opened_lives l attaches is =
      let m = moment_of r.what in
      let c = r.connection in
      let session = session_of c m past in
      let h = opens_by (length past) (attach_in m) session past l
      (first_of_both (opened_by (length past) (attach_in m) session past) (link_of m past session) l (attach_link m past session attaches) is) in
      let found = and_then_some (λ (spoken : Spoken). live_session c spoken.channel past) (spoken_of m) h.on h.stands in
      let at = live_session-at c found.0.channel past h.on found.2 in
      let on : (judge rules past r).session ≡ Some h.on = opened-session (judge_unopened rules past c m r.note) past (attach_begins m attaches) ∙ h.stands in
      let live : live_session h.on.connection h.on.channel past ≡ Some h.on =
      ap (λ n. live_session n h.on.channel past) at.0 ∙ (ap (λ n. live_session c n past) at.1 ∙ found.2) in
      ap (is_live (judge rules past r ∷ past)) (sym h.same)
      ∙ lives_now (judge rules past r) past h.ours (option_said (out_said m) h.ours h.says) h.on on (eq-eqb c h.on.connection (sym at.0)) live h.opens

  judged_lives : (l : Link) → Stands past → own_link (judge rules past r) ≡ Some l → is_live (judge rules past r ∷ past) l ≡ true
  judged_lives l stands is =
      let own = link_opened_number (judge rules past r) l is in
      elim (of_kind rules past r l own.0) [
        | inl opens ↦ opened_lives l opens own.0
        | inr named ↦
            let below : l.number < length past = (named_known rules past r l stands named.0 named.1 named.2).1 in
            let same : l.number ≡ length past = own.1 in
            absurd (omega (arith, below, same))
      ]

-- one that an event opens lives
pub is_live-new : (rules : RuleSet) (e : Event) (past : List Event) (l : Link) → AreJudged rules (e ∷ past) → own_link e ≡ Some l → is_live (e ∷ past) l ≡ true
is_live-new rules e past l ((r, is), are) own =
    subst (λ (x : Event). own_link x ≡ Some l → is_live (x ∷ past) l ≡ true) (sym is) (judged_lives rules past r l (judged-stands rules past are)) own
