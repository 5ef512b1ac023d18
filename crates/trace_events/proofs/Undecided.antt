-- A delivery from a client that is decided once is never undecided again; one in progress on a live link is undecided.
use Rattle.std.proofs.Common.{◌≡◌, refl, sym, ap, ◌∙◌, subst, ℕ, ◌<◌, ◌⊎◌, inl, inr, List, [], ◌∷◌, ◌++◌, length, Bool, true, false, not, ◌&&◌, ◌||◌, ◌==◌, Option, Some, None, IfSome, is_some, option_and_then, option_map, arith, eqb-true, eq-eqb, ne_eqb}
use Rattle.std.specs.Prelude.{if◌then◌else◌}
use Rattle.amqp_perf.specs.declared.begin.Begin.{Begin}
use Rattle.amqp_perf.specs.Meaning.{AttachFields, TransferFields, flag}
use Rattle.capture_form.specs.declared.records.Record.{Record}
use Rattle.capture_form.specs.Rules.{RuleSet}
use Rattle.trace_events.specs.Words.{is_some_and, or_else, where_passes}
use Rattle.trace_events.specs.Frame.{Frame, Spoken, spoken_in}
use Rattle.trace_events.specs.Event.{Event, Link, Incoming, Moment, In, is_on_session}
use Rattle.trace_events.specs.declared.session.Session.{Session}
use Rattle.trace_events.specs.Said.{in_transfer, out_begin, out_attach}
use Rattle.trace_events.specs.Connection.{is_over, is_final}
use Rattle.trace_events.specs.Session.{new_session, last_in_begin, session_begun, last_session, live_session, begins_out, ends_in, ends_out}
use Rattle.trace_events.specs.Link.{opens_link, new_link, last_in_attach, link_opened, session_link, live_link, attaches_out, detaches_in, detaches_out, is_live, link_at}
use Rattle.trace_events.specs.Incoming.{goes_on, in_progress, is_part, is_complete, is_aborted, is_settled, is_told, incoming_at}
use Rattle.trace_events.specs.Waiting.{is_waiting, is_undecided}
use Rattle.trace_events.specs.History.{judge, judge_unopened, continued, history, moment_of, session_of, new_incoming}
use Rattle.trace_events.proofs.Along.{and_then_some, some_passes, and_first}
use Rattle.trace_events.proofs.IncomingSteps.{is_part_on, is_aborted-same, is_aborted-no_part}
use Rattle.trace_events.proofs.Fates.{settled-stays, told-stays, aborted-stays}
use Rattle.trace_events.proofs.Opens.{opened-session}
use Rattle.trace_events.proofs.Sessions.{begin_in}
use Rattle.trace_events.proofs.Links.{known_still, event_known, HaveNoLink, attach_in, of_kind, passing}
use Rattle.trace_events.proofs.Incomings.{judged-part, judged-sound, others}
use Rattle.trace_events.proofs.Decided.{done-stays}
use Rattle.trace_events.proofs.Parts.{IsPart, record_part, EachPart, each_such, progress_holds, IsKept, AreKept, kept_still, kept_step, history_kept, delivery_kept}
use Rattle.trace_events.proofs.Lawful.{continued-append}

-- ---- a link that is not live stays so

mapped : {A B : Type 0} (f : A → B) (o : Option A) (y : B) → option_map f o ≡ Some y → (x : A) × (o ≡ Some x) × (f x ≡ y)
mapped f None y e = absurd cc
mapped f (Some x) y e = (x, refl, cc)

either_some : {A : Type 0} (o p : Option A) (x : A) → or_else o p ≡ Some x → (o ≡ Some x) ⊎ (p ≡ Some x)
either_some None p x e = inr e
either_some (Some y) p x e = inl e

opened_one : (s : Session) (handle : ℕ) (e : Event) (past : List Event) (l : Link) → attaches_out s handle e ≡ true → link_opened s handle e past ≡ Some l
    → (l.number ≡ e.number) × (l.session ≡ s) × (l.handle ≡ handle)
opened_one s handle e past l attaches is =
    let ours = mapped (λ (ours : AttachFields). new_link e.number s ours (last_in_attach s handle past)) (where_passes opens_link (out_attach e)) l is in
    let there = and_first (is_some_and (out_attach e) (λ (fields : AttachFields). fields.handle == handle)) (is_on_session s e) attaches in
    let same : (ours.0.handle == handle) ≡ true = sym (ap (λ (o : Option AttachFields). is_some_and o (λ fields. fields.handle == handle)) (passing opens_link (out_attach e) ours.0 ours.1).0) ∙ there in
    (ap (λ (m : Link). m.number) (sym ours.2), ap (λ (m : Link). m.session) (sym ours.2), ap (λ (m : Link). m.handle) (sym ours.2) ∙ eqb-true ours.0.handle handle same)

-- the link of a handle is that of before, or opens with the event
link_kinds : (s : Session) (handle : ℕ) (e : Event) (past : List Event) (l : Link) (detached attached : Bool) → attaches_out s handle e ≡ attached
    → (if detached then None else if attached then or_else (link_opened s handle e past) (session_link s handle past) else session_link s handle past) ≡ Some l
    → (session_link s handle past ≡ Some l) ⊎ ((l.number ≡ e.number) × (l.session ≡ s) × (l.handle ≡ handle))
link_kinds s handle e past l true attached attaches is = absurd cc
link_kinds s handle e past l false false attaches is = inl is
link_kinds s handle e past l false true attaches is = elim (either_some (link_opened s handle e past) (session_link s handle past) l is) [
  | inl opened ↦ inr (opened_one s handle e past l attaches opened)
  | inr before ↦ inl before
]

link_step : (s : Session) (handle : ℕ) (e : Event) (past : List Event) (l : Link) → session_link s handle (e ∷ past) ≡ Some l
    → (session_link s handle past ≡ Some l) ⊎ ((l.number ≡ e.number) × (l.session ≡ s) × (l.handle ≡ handle))
link_step s handle e past l is = link_kinds s handle e past l (detaches_in s handle e || detaches_out s handle e) (attaches_out s handle e) refl is

-- it is of that session and that handle
pub link_of_session : (s : Session) (handle : ℕ) (past : List Event) (l : Link) → session_link s handle past ≡ Some l → (l.session ≡ s) × (l.handle ≡ handle)
link_of_session s handle [] l is = absurd cc
link_of_session s handle (e ∷ past) l is = elim (link_step s handle e past l is) [
  | inl before ↦ link_of_session s handle past l before
  | inr opened ↦ (opened.1, opened.2)
]

begun_one : (number c channel : ℕ) (ours : Begin) (theirs : Option Begin) → let s = new_session number c channel ours theirs in (s.number ≡ number) × (s.connection ≡ c) × (s.channel ≡ channel)
begun_one number c channel ours None = (refl, refl, refl)
begun_one number c channel ours (Some theirs) = (refl, refl, refl)

-- the session of a channel is that of before, or begins with the event
session_kinds : (c channel : ℕ) (e : Event) (past : List Event) (s : Session) (ended begun : Bool)
    → (if ended then None else if begun then session_begun c channel e past else last_session c channel past) ≡ Some s
    → (last_session c channel past ≡ Some s) ⊎ ((s.number ≡ e.number) × (s.connection ≡ c) × (s.channel ≡ channel))
session_kinds c channel e past s true begun is = absurd cc
session_kinds c channel e past s false false is = inl is
session_kinds c channel e past s false true is =
    let ours = mapped (λ (ours : Begin). new_session e.number c channel ours (last_in_begin c channel past)) (out_begin e) s is in
    inr (subst (λ (t : Session). (t.number ≡ e.number) × (t.connection ≡ c) × (t.channel ≡ channel)) ours.2 (begun_one e.number c channel ours.0 (last_in_begin c channel past)))

session_step : (c channel : ℕ) (e : Event) (past : List Event) (s : Session) → last_session c channel (e ∷ past) ≡ Some s
    → (last_session c channel past ≡ Some s) ⊎ ((s.number ≡ e.number) × (s.connection ≡ c) × (s.channel ≡ channel))
session_step c channel e past s is = session_kinds c channel e past s (ends_in c channel e || ends_out c channel e) (begins_out c channel e) is

-- it is of that channel
last_of_channel : (c channel : ℕ) (past : List Event) (s : Session) → last_session c channel past ≡ Some s → (s.connection ≡ c) × (s.channel ≡ channel)
last_of_channel c channel [] s is = absurd cc
last_of_channel c channel (e ∷ past) s is = elim (session_step c channel e past s is) [
  | inl before ↦ last_of_channel c channel past s before
  | inr begun ↦ (begun.1, begun.2)
]

not_over : (b : Bool) (o : Option Session) (s : Session) → (if b then None else o) ≡ Some s → (b ≡ false) × (o ≡ Some s)
not_over true o s is = absurd cc
not_over false o s is = (refl, is)

pub session_of_channel : (c channel : ℕ) (past : List Event) (s : Session) → live_session c channel past ≡ Some s → (s.connection ≡ c) × (s.channel ≡ channel)
session_of_channel c channel past s is = last_of_channel c channel past s (not_over (is_over c past) (last_session c channel past) s is).1

neither_true : (b c : Bool) → b || c ≡ false → c ≡ false
neither_true true c e = absurd cc
neither_true false c e = e

-- a live session was live before, or begins with the event
live_step : (c channel : ℕ) (e : Event) (past : List Event) (s : Session) → live_session c channel (e ∷ past) ≡ Some s → (live_session c channel past ≡ Some s) ⊎ (s.number ≡ e.number)
live_step c channel e past s is =
    let open_still = not_over (is_over c (e ∷ past)) (last_session c channel (e ∷ past)) s is in
    let open_then : is_over c past ≡ false = neither_true (is_final e.moment && (e.connection == c)) (is_over c past) open_still.0 in
    elim (session_step c channel e past s open_still.1) [
      | inl before ↦ inl (ap (λ (b : Bool). if b then None else last_session c channel past) open_then ∙ before)
      | inr begun ↦ inr begun.0
    ]

-- a live link was live before, unless it opens with the event
live_before : (e : Event) (past : List Event) (l : Link) → e.number ≡ length past → HaveNoLink past → l.number < length past → is_live (e ∷ past) l ≡ true → is_live past l ≡ true
live_before e past l number none before live =
    let c = l.session.connection in
    let channel = l.session.channel in
    let there = some_passes (λ (m : Link). m.number == l.number) (live_link c channel l.handle (e ∷ past)) live in
    let on = and_then_some (λ (s : Session). session_link s l.handle (e ∷ past)) (live_session c channel (e ∷ past)) there.0 there.1 in
    let same : there.0.number ≡ l.number = eqb-true there.0.number l.number there.2 in
    let linked : session_link on.0 l.handle past ≡ Some there.0 = elim (link_step on.0 l.handle e past there.0 on.2) [
      | inl earlier ↦ earlier
      | inr opened ↦ absurd (omega (arith, opened.0, same, number, before))
    ] in
    elim (live_step c channel e past on.0 on.1) [
      | inl earlier ↦
          ap (λ (o : Option Session). is_some_and (option_and_then (λ (s : Session). session_link s l.handle past) o) (λ m. m.number == l.number)) earlier
          ∙ (ap (λ (o : Option Link). is_some_and o (λ m. m.number == l.number)) linked ∙ there.2)
      | inr begun ↦
          let nothing : session_link on.0 l.handle past ≡ None = none on.0 l.handle (omega (arith, begun, number)) in
          let never : ◌≡◌ {A = Option Link} None (Some there.0) = sym nothing ∙ linked in
          absurd cc
    ]

-- ---- what is decided stays decided

undecided_by : (live aborted complete waiting closed live_now aborted_now complete_now waiting_now closed_now : Bool)
    → (live_now ≡ true → live ≡ true) → (aborted ≡ true → aborted_now ≡ true) → (complete ≡ true → waiting ≡ false → (complete_now ≡ true) × (waiting_now ≡ false)) → (closed ≡ true → closed_now ≡ true)
    → live_now && not aborted_now && (not complete_now || waiting_now || not closed_now) ≡ true → live && not aborted && (not complete || waiting || not closed) ≡ true
undecided_by live aborted complete waiting closed false aborted_now complete_now waiting_now closed_now l a d c now = absurd cc
undecided_by live aborted complete waiting closed true true complete_now waiting_now closed_now l a d c now = absurd cc
undecided_by false aborted complete waiting closed true false complete_now waiting_now closed_now l a d c now = let dead : false ≡ true = l refl in absurd cc
undecided_by true true complete waiting closed true false complete_now waiting_now closed_now l a d c now = let gone : false ≡ true = a refl in absurd cc
undecided_by true false false waiting closed true false complete_now waiting_now closed_now l a d c now = refl
undecided_by true false true true closed true false complete_now waiting_now closed_now l a d c now = refl
undecided_by true false true false false true false complete_now waiting_now closed_now l a d c now = refl
undecided_by true false true false true true false complete_now waiting_now closed_now l a d c now =
    let done = d refl refl in
    let never : false ≡ true = sym (rw (done.0, done.1, c refl) refl) ∙ now in
    absurd cc

or_stays : (b c b_now c_now : Bool) → (b ≡ true → b_now ≡ true) → (c ≡ true → c_now ≡ true) → b || c ≡ true → b_now || c_now ≡ true
or_stays true c b_now c_now f g e = ap (λ (x : Bool). x || c_now) (f refl)
or_stays false c b_now c_now f g e = ap (λ (x : Bool). b_now || x) (g e) ∙ on b_now
  where
    on : (b : Bool) → b || true ≡ true
    on true = refl
    on false = refl

-- one that is undecided was undecided before
pub undecided_before : (rules : RuleSet) (past : List Event) (r : Record) (d : Incoming) → AreKept rules past → d.link.number < length past
    → is_undecided rules d (judge rules past r ∷ past) ≡ true → is_undecided rules d past ≡ true
undecided_before rules past r d all before now =
    let e = judge rules past r in
    undecided_by (is_live past d.link) (is_aborted d past) (is_complete d past) (is_waiting rules d past) (is_settled d past || is_told d past)
    (is_live (e ∷ past) d.link) (is_aborted d (e ∷ past)) (is_complete d (e ∷ past)) (is_waiting rules d (e ∷ past)) (is_settled d (e ∷ past) || is_told d (e ∷ past))
    (live_before e past d.link refl all.stands.no_link before)
    (aborted-stays d e past)
    (λ complete quiet. let done = done-stays rules e past ((r, refl), all.are) d (record { complete = complete; quiet = quiet }) in (done.complete, done.quiet))
    (or_stays (is_settled d past) (is_told d past) (is_settled d (e ∷ past)) (is_told d (e ∷ past)) (settled-stays d e past) (told-stays d e past))
    now

not_now : (now before : Bool) → (now ≡ true → before ≡ true) → before ≡ false → now ≡ false
not_now false before undecided decided = refl
not_now true before undecided decided = let yes : before ≡ true = undecided refl in absurd cc

decided_continued : (rules : RuleSet) (past : List Event) (rs : List Record) (d : Incoming) → AreKept rules past → IsKept past d → is_undecided rules d past ≡ false
    → is_undecided rules d (continued rules past rs) ≡ false
decided_continued rules past [] d all kept decided = decided
decided_continued rules past (r ∷ rs) d all kept decided =
    decided_continued rules (judge rules past r ∷ past) rs d (kept_step rules past r all) (kept_still rules past r d all kept)
    (not_now (is_undecided rules d (judge rules past r ∷ past)) (is_undecided rules d past) (undecided_before rules past r d all kept.link.before) decided)

-- of a capture: what is decided stays so, whatever is recorded later
pub decided_stays : (rules : RuleSet) (rs more : List Record) (n : ℕ) (d : Incoming) → incoming_at n (history rules rs) ≡ Some d → is_undecided rules d (history rules rs) ≡ false
    → is_undecided rules d (history rules (rs ++ more)) ≡ false
decided_stays rules rs more n d found decided =
    ap (is_undecided rules d) (continued-append rules [] rs more)
    ∙ decided_continued rules (history rules rs) more d (history_kept rules rs) (delivery_kept rules (history rules rs) n d (history_kept rules rs) found) decided

-- ---- a delivery in progress is not aborted

off_is : (n : ℕ) (o : Option Incoming) → IfSome o (λ d. (d.number == n) ≡ false) → is_some_and o (λ d. d.number == n) ≡ false
off_is n None h = refl
off_is n (Some d) h = h

-- one that is still to begin is neither aborted nor complete
pub begins_whole : (past : List Event) (n : ℕ) → EachPart (λ d. (d.number == n) ≡ false) past → (d : Incoming) → d.number ≡ n → is_aborted d past ≡ false
begins_whole [] n each d same = refl
begins_whole (e ∷ past) n each d same =
    is_aborted-no_part e past d (ap (λ (m : ℕ). is_some_and e.incoming (λ x. x.number == m)) same ∙ off_is n e.incoming each.0) ∙ begins_whole past n each.1 d same

pub all_before : (past : List Event) → EachPart (IsKept past) past → EachPart (λ d. (d.number == length past) ≡ false) past
all_before past each =
    each_such (IsKept past) (λ d. (d.number == length past) ≡ false) past (λ d kept. ne_eqb d.number (length past) (λ is. let lt = kept.before in absurd (omega (arith, is, lt)))) each

going_not_aborted : (o : Option TransferFields) → is_some_and o goes_on ≡ true → is_some_and o (λ fields. flag fields.aborted) ≡ false
going_not_aborted None e = refl
going_not_aborted (Some fields) e = by (flag fields.more) (flag fields.aborted) e
  where
    by : (more aborted : Bool) → more && not aborted ≡ true → aborted ≡ false
    by more false e = refl
    by true true e = absurd cc
    by false true e = absurd cc

off_and : (b c : Bool) → c ≡ false → b && c ≡ false
off_and true c e = e
off_and false c e = refl

progress_kinds : (l : Link) (e : Event) (past : List Event) (d : Incoming) (on more : Bool) → is_part_on l e ≡ on → is_some_and (in_transfer e) goes_on ≡ more
    → (if on then (if more then e.incoming else None) else in_progress l past) ≡ Some d
    → ((e.incoming ≡ Some d) × (is_some_and (in_transfer e) goes_on ≡ true)) ⊎ ((is_part_on l e ≡ false) × (in_progress l past ≡ Some d))
progress_kinds l e past d true true part goes is = inl (is, goes)
progress_kinds l e past d true false part goes is = absurd cc
progress_kinds l e past d false more part goes is = inr (part, is)

abbrev pub AreWhole : List Event → Type 0
AreWhole past = (l : Link) (d : Incoming) → in_progress l past ≡ Some d → is_aborted d past ≡ false

module _ (rules : RuleSet) (past : List Event) (r : Record) (all : AreKept rules past) (whole : AreWhole past) where
  abbrev now : Event
  now = judge rules past r

  -- the delivery of a part was not aborted
  pub part_whole : (d : Incoming) → now.incoming ≡ Some d → (p : IsPart now past d) → (in_progress p.part.link past ≡ Some d) ⊎ ((in_progress p.part.link past ≡ None) × (d ≡ new_incoming (length past) p.fields p.part.link))
      → is_aborted d past ≡ false
  part_whole d here p (inl going) = whole p.part.link d going
  part_whole d here p (inr new) = begins_whole past (length past) (all_before past all.each) d (ap (λ (x : Incoming). x.number) new.1)

  pub whole_step : AreWhole (now ∷ past)
  whole_step l d is = elim (progress_kinds l now past d (is_part_on l now) (is_some_and (in_transfer now) goes_on) refl refl is) [
    | inl here ↦
        let p = record_part rules past r d here.0 in
        is_aborted-same now past d (off_and (is_part d now) (is_some_and (in_transfer now) (λ fields. flag fields.aborted)) (going_not_aborted (in_transfer now) here.1))
        ∙ part_whole d here.0 p p.part.kind
    | inr before ↦
        is_aborted-no_part now past d (off_is d.number now.incoming
        (others now past refl (judged-part rules now past ((r, refl), all.are)) (judged-sound rules past all.are) l d before.1 now.incoming before.0 (judged-part rules now past ((r, refl), all.are))))
        ∙ whole l d before.1
  ]

-- ---- and a link that an event of the client names is live

channel_in_progress : (c : ℕ) (m : Moment) (frame : Frame) (past : List Event) (s : Session) → m ≡ In frame → session_of c m past ≡ Some s → (channel : ℕ) × (live_session c channel past ≡ Some s)
channel_in_progress c m frame past s came is =
    let step = and_then_some (λ (spoken : Spoken). live_session c spoken.channel past) (spoken_in frame.body) s (sym (ap (λ (m : Moment). session_of c m past) came) ∙ is) in
    (step.0.channel, step.2)

live_is : (c channel handle : ℕ) (past : List Event) (s : Session) (l : Link) → live_session c channel past ≡ Some s → session_link s handle past ≡ Some l → is_live past l ≡ true
live_is c channel handle past s l live linked =
    let at = session_of_channel c channel past s live in
    let of = link_of_session s handle past l linked in
    let connection : l.session.connection ≡ c = ap (λ (t : Session). t.connection) of.0 ∙ at.0 in
    let on_channel : l.session.channel ≡ channel = ap (λ (t : Session). t.channel) of.0 ∙ at.1 in
    ap (λ (n : ℕ). is_some_and (live_link n l.session.channel l.handle past) (λ m. m.number == l.number)) connection
    ∙ (ap (λ (n : ℕ). is_some_and (live_link c n l.handle past) (λ m. m.number == l.number)) on_channel
    ∙ (ap (λ (n : ℕ). is_some_and (live_link c channel n past) (λ m. m.number == l.number)) of.1
    ∙ (ap (λ (o : Option Session). is_some_and (option_and_then (λ (t : Session). session_link t handle past) o) (λ m. m.number == l.number)) live
    ∙ (ap (λ (o : Option Link). is_some_and o (λ m. m.number == l.number)) linked ∙ eq-eqb l.number l.number refl))))

pub named_live : (rules : RuleSet) (past : List Event) (r : Record) (frame : Frame) (l : Link) → moment_of r.what ≡ In frame → (judge rules past r).link ≡ Some l → is_live past l ≡ true
named_live rules past r frame l came on = elim (of_kind rules past r l on) [
  | inl opens ↦ let never : false ≡ true = sym (ap (λ (m : Moment). is_some (attach_in m)) came) ∙ opens in absurd cc
  | inr named ↦
      let unbegun = opened-session (judge_unopened rules past r.connection (moment_of r.what) r.note) past (ap (λ (m : Moment). begin_in m) came) in
      let channel = channel_in_progress r.connection (moment_of r.what) frame past named.0 came (sym unbegun ∙ named.1) in
      live_is r.connection channel.0 named.2.0 past named.0 l channel.1 named.2.1
]

-- the link of a part is that of its delivery
pub part_link : (rules : RuleSet) (past : List Event) (r : Record) (d : Incoming) → AreKept rules past → (p : IsPart (judge rules past r) past d)
    → (in_progress p.part.link past ≡ Some d) ⊎ ((in_progress p.part.link past ≡ None) × (d ≡ new_incoming (length past) p.fields p.part.link)) → p.part.link ≡ d.link
part_link rules past r d all p (inr new) = sym (ap (λ (x : Incoming). x.link) new.1)
part_link rules past r d all p (inl going) =
    let e = judge rules past r in
    let kept = progress_holds (IsKept past) p.part.link past d all.each going in
    let mine = known_still rules past r d.link kept.link in
    let named = event_known rules past r p.part.link all.stands p.part.on in
    let same : d.link.number ≡ p.part.link.number = (judged-sound rules past all.are).own p.part.link d going in
    let one : ◌≡◌ {A = Option Link} (Some p.part.link) (Some d.link) = sym named.at ∙ (ap (λ (n : ℕ). link_at n (e ∷ past)) (sym same) ∙ mine.at) in
    cc

undecided_is : (live aborted complete waiting closed : Bool) → live ≡ true → aborted ≡ false → complete ≡ false → live && not aborted && (not complete || waiting || not closed) ≡ true
undecided_is live aborted complete waiting closed l a c = rw (l, a, c) refl

-- a part is of a delivery that was undecided before it, or begins
pub part_undecided : (rules : RuleSet) (past : List Event) (r : Record) (d : Incoming) → AreKept rules past → AreWhole past → (judge rules past r).incoming ≡ Some d → (p : IsPart (judge rules past r) past d)
    → in_progress p.part.link past ≡ Some d → is_undecided rules d past ≡ true
part_undecided rules past r d all whole here p going =
    undecided_is (is_live past d.link) (is_aborted d past) (is_complete d past) (is_waiting rules d past) (is_settled d past || is_told d past)
    (subst (λ (l : Link). is_live past l ≡ true) (part_link rules past r d all p (inl going)) (named_live rules past r p.frame p.part.link p.came p.part.on))
    (whole p.part.link d going)
    ((judged-sound rules past all.are).going p.part.link d going)
