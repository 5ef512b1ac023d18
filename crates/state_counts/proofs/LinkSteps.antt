-- What an event does to the counts of a live link.
use Rattle.std.proofs.Common.{◌≡◌, refl, sym, ap, subst, ◌∙◌, ℕ, Bool, true, false, ◌&&◌, List, [], ◌∷◌, length, Option, Some, None, is_some, inl, inr, option_and_then, option_map, unwrap_or, if◌then◌else◌, ◌==◌, eqb-true, arith}
use Rattle.std.proofs.lemmas.Bool.{eq-eqb, ne_eqb}
use Rattle.amqp_perf.specs.Meaning.{Meaning, AnAttach, AttachFields}
use Rattle.capture_form.specs.declared.records.Record.{Record}
use Rattle.capture_form.specs.Rules.{RuleSet}
use Rattle.flow_counts.specs.Credit.{LinkEvent, TheirFlow, OurFlow, Begun, is_drain_answer}
use Rattle.flow_counts.specs.Serial.{serial_add}
use Rattle.trace_events.specs.Words.{is_some_and, or_else, where_passes}
use Rattle.trace_events.specs.Frame.{Spoken, spoken_in}
use Rattle.trace_events.specs.Event.{Event, Link, Moment, Opened, In, Out, Lost, Broken, spoken_of, is_on_link, is_on_session}
use Rattle.trace_events.specs.declared.session.Session.{Session}
use Rattle.trace_events.specs.Said.{as_attach, handle_in, out_begin, out_attach}
use Rattle.trace_events.specs.Link.{link_at, link_opened, session_link, opens_link, new_link, last_in_attach}
use Rattle.trace_events.specs.Credit.{link_event, link_events}
use Rattle.trace_events.specs.Credit as credits
use Rattle.trace_events.specs.History.{link_of, judge, judge_unopened, moment_of, session_of}
use Rattle.trace_events.proofs.Along.{and_first, and_last, some_passes}
use Rattle.trace_events.proofs.CountSteps as steps
use Rattle.trace_events.proofs.Judged.{AreJudged}
use Rattle.trace_events.proofs.LinkLives.{judged-stands}
use Rattle.trace_events.proofs.Links.{IsKnown, known_still, named_known, of_kind, opened_number, opened_by, attach_in, attach_begins, attach_link}
use Rattle.trace_events.proofs.Opens.{opened-session, opened-link}
use Rattle.trace_events.proofs.StepWords.{or_else-none}
use Rattle.trace_events.proofs.Undecided.{link_of_session}
use Rattle.trace_events.proofs.WithinCredit.{AreUnused, unused_step, opens_still}
use Rattle.state_counts.specs.LinkCounts.{named_handle, link_counts, unmoved, moved}
use Rattle.state_counts.specs.declared.link_counts.LinkCounts.{LinkCounts}

abbrev made : ℕ → ℕ → Bool → ℕ → ℕ → LinkCounts
made a b c d e = record { link_credit = a; delivery_count = b; is_draining = c; given_credit = d; received_count = e }

made-same : (a a' b b' : ℕ) (c c' : Bool) (d d' e e' : ℕ) → a ≡ a' → b ≡ b' → c ≡ c' → d ≡ d' → e ≡ e' → made a b c d e ≡ made a' b' c' d' e'
made-same a a' b b' c c' d d' e e' p q r s t = rw (p, q, r, s, t) refl

module _ (l : Link) (e : Event) (past : List Event) where
  -- an event that isn't the link's, or moves no credit
  pub counts-elsewhere : is_on_link l e ≡ false → link_counts l (e ∷ past) ≡ link_counts l past
  counts-elsewhere off =
      made-same _ _ _ _ _ _ _ _ _ _ (steps.link_credit-elsewhere l e past off) (steps.delivery_count-elsewhere l e past off) (steps.is_draining-elsewhere l e past off)
      (steps.given_credit-elsewhere l e past off) (steps.received_count-elsewhere l e past off)

  counts-still : link_event e e.moment ≡ None → link_counts l (e ∷ past) ≡ link_counts l past
  counts-still none =
      made-same _ _ _ _ _ _ _ _ _ _ (steps.link_credit-same l e past none) (steps.delivery_count-same l e past none) (steps.is_draining-same l e past none)
      (steps.given_credit-same l e past none) (steps.received_count-same l e past none)

  their_flow : is_on_link l e ≡ true → (known credit : Option ℕ) (drain : Bool) → link_event e e.moment ≡ Some (TheirFlow known credit drain)
      → link_counts l (e ∷ past) ≡ moved l.our_first_count (link_counts l past) (Some (TheirFlow known credit drain))
  their_flow on known None drain is =
      made-same _ _ _ _ _ _ _ _ _ _ (steps.link_credit-their_none l e past known drain on is) (steps.delivery_count-their_flow l e past known None drain on is)
      (steps.is_draining-their_none l e past known drain on is) (steps.given_credit-their_flow l e past known None drain on is) (steps.received_count-their_flow l e past known None drain on is)
  their_flow on known (Some credit) drain is =
      made-same _ _ _ _ _ _ _ _ _ _ (steps.link_credit-their_credit l e past known credit drain on is) (steps.delivery_count-their_flow l e past known (Some credit) drain on is)
      (steps.is_draining-their_credit l e past known credit drain on is) (steps.given_credit-their_flow l e past known (Some credit) drain on is) (steps.received_count-their_flow l e past known (Some credit) drain on is)

  our_credit : is_on_link l e ≡ true → (count credit : Option ℕ) (drain : Bool) → link_event e e.moment ≡ Some (OurFlow count credit drain)
      → credits.link_credit l (e ∷ past) ≡ (if is_drain_answer credit drain then 0 else credits.link_credit l past)
  our_credit on count credit drain is = by (is_drain_answer credit drain) refl
    where
      by : (b : Bool) → is_drain_answer credit drain ≡ b → credits.link_credit l (e ∷ past) ≡ (if b then 0 else credits.link_credit l past)
      by true answers = steps.link_credit-drained l e past count credit drain answers on is
      by false none = steps.link_credit-our_flow l e past count credit drain none on is

  our_count : is_on_link l e ≡ true → (count credit : Option ℕ) (drain : Bool) → link_event e e.moment ≡ Some (OurFlow count credit drain)
      → credits.delivery_count l (e ∷ past) ≡ unwrap_or (option_map (λ n. serial_add n 0) count) (credits.delivery_count l past)
  our_count on None credit drain is = steps.delivery_count-our_none l e past credit drain on is
  our_count on (Some count) credit drain is = steps.delivery_count-our_count l e past count credit drain on is

  our_given : is_on_link l e ≡ true → (count credit : Option ℕ) (drain : Bool) → link_event e e.moment ≡ Some (OurFlow count credit drain)
      → credits.given_credit l (e ∷ past) ≡ unwrap_or credit (credits.given_credit l past)
  our_given on count None drain is = steps.given_credit-our_none l e past count drain on is
  our_given on count (Some credit) drain is = steps.given_credit-our_credit l e past count credit drain on is

  our_flow : is_on_link l e ≡ true → (count credit : Option ℕ) (drain : Bool) → link_event e e.moment ≡ Some (OurFlow count credit drain)
      → link_counts l (e ∷ past) ≡ moved l.our_first_count (link_counts l past) (Some (OurFlow count credit drain))
  our_flow on count credit drain is =
      made-same _ _ _ _ _ _ _ _ _ _ (our_credit on count credit drain is) (our_count on count credit drain is) (steps.is_draining-our_flow l e past count credit drain on is)
      (our_given on count credit drain is) (steps.received_count-our_flow l e past count credit drain on is)

  moved-by : is_on_link l e ≡ true → (o : Option LinkEvent) → link_event e e.moment ≡ o → link_counts l (e ∷ past) ≡ moved l.our_first_count (link_counts l past) o
  moved-by on None is = counts-still is
  moved-by on (Some Begun) is =
      made-same _ _ _ _ _ _ _ _ _ _ (steps.link_credit-begun l e past on is) (steps.delivery_count-begun l e past on is) (steps.is_draining-begun l e past on is)
      (steps.given_credit-begun l e past on is) (steps.received_count-begun l e past on is)
  moved-by on (Some (TheirFlow known credit drain)) is = their_flow on known credit drain is
  moved-by on (Some (OurFlow count credit drain)) is = our_flow on count credit drain is

  pub counts-next : is_on_link l e ≡ true → link_counts l (e ∷ past) ≡ moved l.our_first_count (link_counts l past) (link_event e e.moment)
  counts-next on = moved-by on (link_event e e.moment) refl

-- ---- an event that names a link stands on its session

same_some : {A : Type 0} (a b : A) → Some a ≡ Some b → a ≡ b
same_some a b is = cc

module _ (rules : RuleSet) (past : List Event) (are : AreJudged rules past) (l : Link) (known : IsKnown past l) where
  named_here : (e : Event) → AreJudged rules (e ∷ past) → (m : Link) → e.link ≡ Some m → m.number ≡ l.number → e.session ≡ Some l.session
  named_here e judged m is same =
      let r = judged.0.0 in
      let x = judge rules past r in
      let stands = judged-stands rules past are in
      let here : x.link ≡ Some m = ap (λ (y : Event). y.link) (sym judged.0.1) ∙ is in
      elim (of_kind rules past r m here) [
        | inl opens ↦ absurd (omega (arith, opened_number rules past r m opens here, same, known.before))
        | inr named ↦
            let theirs = (named_known rules past r m stands named.0 named.1 named.2).0 in
            let ours = known_still rules past r l known in
            let one : m ≡ l = same_some m l (sym theirs.at ∙ (ap (λ n. link_at n (x ∷ past)) same ∙ ours.at)) in
            let on : named.0 ≡ l.session = sym (link_of_session named.0 named.2.0 past m named.2.1).0 ∙ ap (λ (k : Link). k.session) one in
            ap (λ (y : Event). y.session) judged.0.1 ∙ (named.1 ∙ ap Some on)
      ]

-- one that isn't on the session isn't on the link
pub off-session : (rules : RuleSet) (e : Event) (past : List Event) → AreJudged rules (e ∷ past) → (l : Link) → IsKnown past l → is_on_session l.session e ≡ false → is_on_link l e ≡ false
off-session rules e past are l known off = by (is_on_link l e) refl
  where
    by : (b : Bool) → is_on_link l e ≡ b → b ≡ false
    by false is = refl
    by true is =
        let names = some_passes (λ (m : Link). m.number == l.number) e.link (and_first (is_some_and e.link (λ (m : Link). m.number == l.number)) (e.connection == l.session.connection) is) in
        let on = named_here rules past are.1 l known e are names.0 names.1 (eqb-true names.0.number l.number names.2) in
        let here : is_on_session l.session e ≡ true =
        ap (λ o. is_some_and o (λ (t : Session). t.number == l.session.number) && (e.connection == l.session.connection)) on
        ∙ (ap (λ b. b && (e.connection == l.session.connection)) (eq-eqb l.session.number l.session.number refl)
        ∙ and_last (is_some_and e.link (λ (m : Link). m.number == l.number)) (e.connection == l.session.connection) is) in
        let never : true ≡ false = sym here ∙ off in
        cc

-- ---- the link that an attach opens

pub judged-unused : (rules : RuleSet) (past : List Event) → AreJudged rules past → AreUnused past
judged-unused rules [] are l after = refl
judged-unused rules (e ∷ past) are l after =
    subst (λ (x : Event). link_events l (x ∷ past) ≡ []) (sym are.0.1)
    (unused_step rules past are.0.0 (judged-stands rules past are.1) (judged-unused rules past are.1) l after)

opened-by : (number : ℕ) (s : Session) (handle : ℕ) (attach : Option AttachFields) (past : List Event) → is_some_and attach (λ (fields : AttachFields). fields.handle == handle) ≡ true
    → opened_by number attach (Some s) past ≡ option_map (λ (ours : AttachFields). new_link number s ours (last_in_attach s handle past)) (where_passes opens_link attach)
opened-by number s handle None past same = absurd cc
opened-by number s handle (Some a) past same =
    ap (λ h. option_map (λ (ours : AttachFields). new_link number s ours (last_in_attach s h past)) (where_passes opens_link (Some a))) (eqb-true a.handle handle same)

some_of : {A : Type 0} (o : Option A) (test : A → Bool) → is_some_and o test ≡ true → is_some o ≡ true
some_of None test is = absurd cc
some_of (Some x) test is = refl

module _ (rules : RuleSet) (past : List Event) (r : Record) (s : Session) (handle : ℕ) where
  abbrev here : Event
  here = judge rules past r

  opened-there : is_some_and (out_attach here) (λ (fields : AttachFields). fields.handle == handle) ≡ true → here.session ≡ Some s → here.link ≡ link_opened s handle here past
  opened-there attaches on =
      let m = moment_of r.what in
      let session = session_of r.connection m past in
      let is = some_of (out_attach here) (λ (fields : AttachFields). fields.handle == handle) attaches in
      let stands : session ≡ Some s = sym (opened-session (judge_unopened rules past r.connection m r.note) past (attach_begins m is)) ∙ on in
      ap (or_else (opened_by (length past) (attach_in m) session past)) (attach_link m past session is)
      ∙ (or_else-none (opened_by (length past) (attach_in m) session past)
      ∙ (ap (λ o. opened_by (length past) (attach_in m) o past) stands
      ∙ opened-by (length past) s handle (attach_in m) past attaches))

module _ (rules : RuleSet) (e : Event) (past : List Event) (are : AreJudged rules (e ∷ past)) where
  pub opened-here : (s : Session) (handle : ℕ) → is_some_and (out_attach e) (λ (fields : AttachFields). fields.handle == handle) ≡ true → e.session ≡ Some s → e.link ≡ link_opened s handle e past
  opened-here s handle =
      subst (λ (x : Event). is_some_and (out_attach x) (λ (fields : AttachFields). fields.handle == handle) ≡ true → x.session ≡ Some s → x.link ≡ link_opened s handle x past) (sym are.0.1)
      (opened-there rules past are.0.0 s handle)

  -- it has its first counts
  pub counts-begun : (l : Link) → is_some (out_attach e) ≡ true → e.link ≡ Some l → link_counts l (e ∷ past) ≡ unmoved l
  counts-begun l attaches is =
      let r = are.0.0 in
      let same : judge rules past r ≡ e = sym are.0.1 in
      let number : l.number ≡ length past = opened_number rules past r l (ap (λ (x : Event). is_some (out_attach x)) same ∙ attaches) (ap (λ (x : Event). x.link) same ∙ is) in
      counts-still l e past (opens_still e e.moment attaches)
      ∙ first l past (judged-unused rules past are.1 l (omega (arith, number)))
    where
      first : (l : Link) (past : List Event) → link_events l past ≡ [] → link_counts l past ≡ unmoved l
      first l past none = rw none refl

-- ---- the link that an event names

and_then-twice : {A B C : Type 0} (f : A → Option B) (g : B → Option C) (o : Option A) → option_and_then (λ x. option_and_then g (f x)) o ≡ option_and_then g (option_and_then f o)
and_then-twice f g None = refl
and_then-twice f g (Some x) = refl

-- an attach names none
attach_unnamed : (o : Option Spoken) → is_some (option_and_then as_attach (option_map (λ (spoken : Spoken). spoken.meaning) o)) ≡ true → option_and_then (λ (spoken : Spoken). handle_in spoken.meaning) o ≡ None
attach_unnamed None is = absurd cc
attach_unnamed (Some spoken) is = by spoken.meaning is
  where
    by : (m : Meaning) → is_some (as_attach m) ≡ true → handle_in m ≡ None
    by (AnAttach fields) is = refl
    by _ is = absurd cc

attach_in_unnamed : (m : Moment) → is_some (attach_in m) ≡ true → option_and_then (λ (spoken : Spoken). handle_in spoken.meaning) (spoken_of m) ≡ None
attach_in_unnamed (Out frame) is = attach_unnamed (spoken_in frame.body) is
attach_in_unnamed (In frame) is = absurd cc
attach_in_unnamed Opened is = absurd cc
attach_in_unnamed Lost is = absurd cc
attach_in_unnamed Broken is = absurd cc

module _ (rules : RuleSet) (e : Event) (past : List Event) (are : AreJudged rules (e ∷ past)) where
  pub attach-unnamed : is_some (out_attach e) ≡ true → named_handle e ≡ None
  attach-unnamed is = attach_in_unnamed e.moment is

  -- the one that an attach opens is none of those before
  pub attach-apart : is_some (out_attach e) ≡ true → (l : Link) → IsKnown past l → is_some_and e.link (λ (m : Link). m.number == l.number) ≡ false
  attach-apart attaches l known = by e.link refl
    where
      by : (o : Option Link) → e.link ≡ o → is_some_and o (λ (m : Link). m.number == l.number) ≡ false
      by None is = refl
      by (Some m) is =
          let r = are.0.0 in
          let same : judge rules past r ≡ e = sym are.0.1 in
          let number : m.number ≡ length past = opened_number rules past r m (ap (λ (x : Event). is_some (out_attach x)) same ∙ attaches) (ap (λ (x : Event). x.link) same ∙ is) in
          ne_eqb m.number l.number (λ one. omega (arith, one, number, known.before))

  -- any other names that of the handle on its session
  pub link-named : out_begin e ≡ None → out_attach e ≡ None → (s : Session) → e.session ≡ Some s → e.link ≡ option_and_then (λ h. session_link s h past) (named_handle e)
  link-named begins_none opens_none s on =
      let r = are.0.0 in
      let x = judge rules past r in
      let same : x ≡ e = sym are.0.1 in
      let m = moment_of r.what in
      let before = judge_unopened rules past r.connection m r.note in
      let session = session_of r.connection m past in
      let stands : session ≡ Some s =
      sym (opened-session before past (ap out_begin same ∙ begins_none)) ∙ (ap (λ (y : Event). y.session) same ∙ on) in
      ap (λ (y : Event). y.link) (sym same)
      ∙ (opened-link before past (ap out_attach same ∙ opens_none)
      ∙ (ap (link_of m past) stands
      ∙ (and_then-twice (λ (spoken : Spoken). handle_in spoken.meaning) (λ h. session_link s h past) (spoken_of m)
      ∙ ap (λ (y : Event). option_and_then (λ h. session_link s h past) (named_handle y)) same)))
