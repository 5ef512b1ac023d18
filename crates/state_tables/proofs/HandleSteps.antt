-- What an event does to what stands of a handle.
use Rattle.std.proofs.Common.{◌≡◌, refl, sym, ap, ◌∙◌, ℕ, ◌≤◌, Bool, true, false, ◌&&◌, ◌||◌, List, [], ◌∷◌, length, Option, Some, None, is_some, is_none, option_and_then, option_map, if◌then◌else◌, ◌==◌, eqb-true, arith}
use Rattle.std.proofs.lemmas.Bool.{eq-eqb}
use Rattle.amqp_perf.specs.declared.begin.Begin.{Begin}
use Rattle.amqp_perf.specs.Meaning.{Meaning, ABegin, AttachFields}
use Rattle.capture_form.specs.Rules.{RuleSet}
use Rattle.trace_events.specs.Words.{is_number, is_some_and, or_else}
use Rattle.trace_events.specs.Event.{Event, Link, is_on_link, is_on_session}
use Rattle.trace_events.specs.declared.session.Session.{Session}
use Rattle.trace_events.specs.Said.{out_attach, out_begin, out_meaning, as_begin}
use Rattle.trace_events.specs.Session.{own_session}
use Rattle.trace_events.specs.Link as law
use Rattle.trace_events.specs.Link.{session_link, link_at, link_opened, unanswered_attach}
use Rattle.trace_events.proofs.EventKinds.{kinds}
use Rattle.trace_events.proofs.Judged.{AreJudged}
use Rattle.trace_events.proofs.LinkLives.{judged-stands}
use Rattle.trace_events.proofs.Links as links
use Rattle.trace_events.proofs.LinkSteps as steps
use Rattle.trace_events.proofs.SessionNumbers.{judged-event_session, own_session-number}
use Rattle.trace_events.proofs.Sessions as sessions
use Rattle.trace_events.proofs.Undecided.{link_of_session}
use Rattle.state_tables.specs.Links.{Counted, Asked, HandleState, nothing, counted, begun, asked_in, standing, attaches_in, attaches_out, detaches_in, detaches_out, counted_next, link_next, asked_next, standing_next}
use Rattle.state_counts.specs.LinkCounts.{named_handle}
use Rattle.state_counts.specs.declared.link_counts.LinkCounts.{LinkCounts}
use Rattle.state_counts.proofs.LinkSteps.{link-named, attach-apart, attach-unnamed, counts-elsewhere, counts-next, counts-begun, off-session, opened-here}

abbrev made : Option Counted → Option Asked → Bool → Bool → Bool → HandleState
made a b c d e = record { link = a; asked = b; owes_detach = c; awaits_detach = d; is_undetached = e }

made-same : (a a' : Option Counted) (b b' : Option Asked) (c c' d d' e e' : Bool) → a ≡ a' → b ≡ b' → c ≡ c' → d ≡ d' → e ≡ e' → made a b c d e ≡ made a' b' c' d' e'
made-same a a' b b' c c' d d' e e' p q r s t = rw (p, q, r, s, t) refl

map-same : {A B : Type 0} (f g : A → B) (o : Option A) → ((x : A) → o ≡ Some x → f x ≡ g x) → option_map f o ≡ option_map g o
map-same f g None same = refl
map-same f g (Some x) same = ap Some (same x refl)

map-map : {A B C : Type 0} (f : A → B) (g : B → C) (o : Option A) → option_map g (option_map f o) ≡ option_map (λ x. g (f x)) o
map-map f g None = refl
map-map f g (Some x) = refl

same_some : {A : Type 0} (a b : A) → Some a ≡ Some b → a ≡ b
same_some a b is = cc

and_all : (a b : Bool) → b ≡ true → a && b ≡ a
and_all true b is = is
and_all false b is = refl

and_none : (a b : Bool) → b ≡ false → a && b ≡ false
and_none true b is = is
and_none false b is = refl

abbrev paired : Link → LinkCounts → Counted
paired l x = record { link = l; counts = x }

module _ (rules : RuleSet) (e : Event) (past : List Event) (are : AreJudged rules (e ∷ past)) (s : Session) (known : sessions.IsKnown past s) (handle : ℕ) where
  abbrev earlier : Option Link
  earlier = session_link s handle past

  link-known : (l : Link) → earlier ≡ Some l → links.IsKnown past l
  link-known l is = (judged-stands rules past are.1).known s handle l known is

  link-session : (l : Link) → earlier ≡ Some l → l.session ≡ s
  link-session l is = (link_of_session s handle past l is).0

  -- ---- an event of another session

  still : is_on_session s e ≡ false → (l : Link) → earlier ≡ Some l → counted l (e ∷ past) ≡ counted l past
  still off l is =
      ap (paired l) (counts-elsewhere l e past
      (off-session rules e past are l (link-known l is) (ap (λ (t : Session). is_on_session t e) (link-session l is) ∙ off)))

  pub standing-elsewhere : is_on_session s e ≡ false → standing s handle (e ∷ past) ≡ standing s handle past
  standing-elsewhere off =
      made-same _ _ _ _ _ _ _ _ _ _
      (ap (option_map (λ l. counted l (e ∷ past))) (steps.session_link-elsewhere s handle e past off)
      ∙ map-same (λ l. counted l (e ∷ past)) (λ l. counted l past) earlier (still off))
      (ap (option_and_then asked_in) (steps.unanswered_attach-elsewhere s handle e past off))
      (steps.owes_detach-elsewhere s handle e past off)
      (steps.awaits_detach-elsewhere s handle e past off)
      (steps.is_undetached-elsewhere s handle e past off)

  -- ---- one of the session

  module _ (none : out_begin e ≡ None) (on : e.session ≡ Some s) (own : (e.connection == s.connection) ≡ true) where
    here : is_on_session s e ≡ true
    here = ap (λ o. is_some_and o (λ (t : Session). t.number == s.number) && (e.connection == s.connection)) on
        ∙ (ap (λ b. b && (e.connection == s.connection)) (eq-eqb s.number s.number refl) ∙ own)

    ain : law.attaches_in s handle e ≡ attaches_in handle e
    ain = and_all (attaches_in handle e) (is_on_session s e) here

    aout : law.attaches_out s handle e ≡ attaches_out handle e
    aout = and_all (attaches_out handle e) (is_on_session s e) here

    din : law.detaches_in s handle e ≡ detaches_in handle e
    din = and_all (detaches_in handle e) (is_on_session s e) here

    dout : law.detaches_out s handle e ≡ detaches_out handle e
    dout = and_all (detaches_out handle e) (is_on_session s e) here

    three : {A : Type 0} (f : Bool → Bool → Bool → A) (a a' b b' c c' : Bool) → a ≡ a' → b ≡ b' → c ≡ c' → f a b c ≡ f a' b' c'
    three f a a' b b' c c' p q r = rw (p, q, r) refl

    -- a link that the event doesn't open
    named : (l : Link) → earlier ≡ Some l → is_on_link l e ≡ is_some_and e.link (λ (m : Link). m.number == l.number)
    named l is =
        and_all (is_some_and e.link (λ (m : Link). m.number == l.number)) (e.connection == l.session.connection)
        (ap (λ (t : Session). e.connection == t.connection) (link-session l is) ∙ own)

    -- the link that it names is that of the handle
    linked : out_attach e ≡ None → e.link ≡ option_and_then (λ h. session_link s h past) (named_handle e)
    linked opens_none = link-named rules e past are none opens_none s on

    going_by : (l : Link) → earlier ≡ Some l → out_attach e ≡ None → (o : Option ℕ) → named_handle e ≡ o
        → is_some_and (option_and_then (λ h. session_link s h past) o) (λ (m : Link). m.number == l.number) ≡ is_number o handle
    going_by l is opens_none None names = refl
    going_by l is opens_none (Some h) names = by (h == handle) refl (session_link s h past) refl
      where
        by : (b : Bool) → (h == handle) ≡ b → (o : Option Link) → session_link s h past ≡ o → is_some_and o (λ (m : Link). m.number == l.number) ≡ b
        by true same o found =
            let one : o ≡ Some l = sym found ∙ (ap (λ n. session_link s n past) (eqb-true h handle same) ∙ is) in
            ap (λ p. is_some_and p (λ (m : Link). m.number == l.number)) one ∙ eq-eqb l.number l.number refl
        by false other None found = refl
        by false other (Some m) found = apart (m.number == l.number) refl
          where
            apart : (b : Bool) → (m.number == l.number) ≡ b → b ≡ false
            apart false is' = refl
            apart true is' =
                let theirs = (judged-stands rules past are.1).known s h m known found in
                let one : m ≡ l = same_some m l (sym theirs.at ∙ (ap (λ n. link_at n past) (eqb-true m.number l.number is') ∙ (link-known l is).at)) in
                let at : h ≡ handle = sym (link_of_session s h past m found).1 ∙ (ap (λ (k : Link). k.handle) one ∙ (link_of_session s handle past l is).1) in
                let never : true ≡ false = sym (eq-eqb h handle at) ∙ other in
                cc

    says_by : (l : Link) → earlier ≡ Some l → (o : Option AttachFields) → out_attach e ≡ o
        → is_some_and e.link (λ (m : Link). m.number == l.number) ≡ is_number (named_handle e) handle
    says_by l is None opens = ap (λ o. is_some_and o (λ (m : Link). m.number == l.number)) (linked opens) ∙ going_by l is opens (named_handle e) refl
    says_by l is (Some fields) opens =
        attach-apart rules e past are (ap is_some opens) l (link-known l is)
        ∙ ap (λ o. is_number o handle) (sym (attach-unnamed rules e past are (ap is_some opens)))

    says : (l : Link) → earlier ≡ Some l → is_on_link l e ≡ is_number (named_handle e) handle
    says l is = named l is ∙ says_by l is (out_attach e) refl

    going : option_map (λ l. counted l (e ∷ past)) earlier
        ≡ (if is_number (named_handle e) handle then option_map (counted_next e) (option_map (λ l. counted l past) earlier) else option_map (λ l. counted l past) earlier)
    going = by (is_number (named_handle e) handle) refl
      where
        by : (b : Bool) → is_number (named_handle e) handle ≡ b
            → option_map (λ l. counted l (e ∷ past)) earlier ≡ (if b then option_map (counted_next e) (option_map (λ l. counted l past) earlier) else option_map (λ l. counted l past) earlier)
        by true names =
            map-same (λ l. counted l (e ∷ past)) (λ l. counted_next e (counted l past)) earlier (λ l is. ap (paired l) (counts-next l e past (says l is ∙ names)))
            ∙ sym (map-map (λ l. counted l past) (counted_next e) earlier)
        by false other = map-same (λ l. counted l (e ∷ past)) (λ l. counted l past) earlier (λ l is. ap (paired l) (counts-elsewhere l e past (says l is ∙ other)))

    unnamed : e.link ≡ None → (l : Link) → earlier ≡ Some l → counted l (e ∷ past) ≡ counted l past
    unnamed none l is = ap (paired l) (counts-elsewhere l e past (named l is ∙ ap (λ o. is_some_and o (λ (m : Link). m.number == l.number)) none))

    opening : attaches_out handle e ≡ true → (o : Option Link) → e.link ≡ o
        → option_map (λ l. counted l (e ∷ past)) (or_else o earlier) ≡ or_else (option_map begun o) (option_map (λ l. counted l past) earlier)
    opening attaches None none = map-same (λ l. counted l (e ∷ past)) (λ l. counted l past) earlier (unnamed none)
    opening attaches (Some l) is =
        ap (λ x. Some (paired l x)) (counts-begun rules e past are l (some_of (out_attach e) (λ (fields : AttachFields). fields.handle == handle) attaches) is)
      where
        some_of : {A : Type 0} (o : Option A) (test : A → Bool) → is_some_and o test ≡ true → is_some o ≡ true
        some_of None test is = absurd cc
        some_of (Some x) test is = refl

    link-here : option_map (λ l. counted l (e ∷ past)) (session_link s handle (e ∷ past)) ≡ link_next handle e (option_map (λ l. counted l past) earlier)
    link-here =
        ap (option_map (λ l. counted l (e ∷ past)))
        (three (λ a b c. if a || b then None else if c then or_else (link_opened s handle e past) earlier else earlier) _ _ _ _ _ _ din dout aout)
        ∙ by (detaches_in handle e || detaches_out handle e) (attaches_out handle e) refl
      where
        by : (detached attached : Bool) → attaches_out handle e ≡ attached
            → option_map (λ l. counted l (e ∷ past)) (if detached then None else if attached then or_else (link_opened s handle e past) earlier else earlier)
            ≡ (if detached then None else if attached then or_else (option_map begun e.link) (option_map (λ l. counted l past) earlier)
            else if is_number (named_handle e) handle then option_map (counted_next e) (option_map (λ l. counted l past) earlier) else option_map (λ l. counted l past) earlier)
        by true attached is = refl
        by false true is =
            ap (λ o. option_map (λ l. counted l (e ∷ past)) (or_else o earlier)) (sym (opened-here rules e past are s handle is on))
            ∙ opening is e.link refl
        by false false is = going

    asked-here : option_and_then asked_in (unanswered_attach s handle (e ∷ past)) ≡ asked_next handle e (option_and_then asked_in (unanswered_attach s handle past))
    asked-here =
        ap (option_and_then asked_in)
        (three (λ a b c. if a then None else if b && e.is_heard then Some e else unanswered_attach s handle past) _ _ _ _ true true aout ain refl)
        ∙ by (attaches_out handle e) (attaches_in handle e && e.is_heard)
      where
        by : (answers asks : Bool) → option_and_then asked_in (if answers then None else if asks then Some e else unanswered_attach s handle past)
            ≡ (if answers then None else if asks then asked_in e else option_and_then asked_in (unanswered_attach s handle past))
        by true asks = refl
        by false true = refl
        by false false = refl

    pub standing-here : standing s handle (e ∷ past) ≡ standing_next handle e (standing s handle past)
    standing-here =
        made-same _ _ _ _ _ _ _ _ _ _ link-here asked-here
        (three (λ a b c. if a then false else b && is_some e.link || c && is_none e.link || law.owes_detach s handle past) _ _ _ _ _ _ dout din aout)
        (three (λ a b c. if a || b then false else if c then law.is_undetached s handle past else law.awaits_detach s handle past) _ _ _ _ _ _ aout din dout)
        (three (λ a b c. if a then true else if b then false else law.is_undetached s handle past) _ _ _ _ _ _ aout din dout)

-- ---- nothing stands on a session before its record

pub nothing-before : (rules : RuleSet) (past : List Event) (s : Session) (handle : ℕ) → AreJudged rules past → length past ≤ s.number → standing s handle past ≡ nothing
nothing-before rules [] s handle are after = refl
nothing-before rules (e ∷ past) s handle are after =
    let off : is_on_session s e ≡ false =
    ap (λ b. b && (e.connection == s.connection)) (sessions.not_on s e.session (λ t is. omega (arith, after, (judged-event_session rules e past t are is).before))) in
    let before = nothing-before rules past s handle are.1 (omega (arith, after)) in
    made-same _ _ _ _ _ _ _ _ _ _
    (ap (option_map (λ l. counted l (e ∷ past))) ((judged-stands rules (e ∷ past) are).no_link s handle after))
    (ap (option_and_then asked_in) (steps.unanswered_attach-elsewhere s handle e past off) ∙ ap (λ (x : HandleState). x.asked) before)
    (steps.owes_detach-elsewhere s handle e past off ∙ ap (λ (x : HandleState). x.owes_detach) before)
    (steps.awaits_detach-elsewhere s handle e past off ∙ ap (λ (x : HandleState). x.awaits_detach) before)
    (steps.is_undetached-elsewhere s handle e past off ∙ ap (λ (x : HandleState). x.is_undetached) before)

-- a begin of the router says nothing of a handle
says_begin : (m : Option Meaning) → is_some (option_and_then as_begin m) ≡ true → (begin : Begin) × (m ≡ Some (ABegin begin))
says_begin (Some (ABegin begin)) is = (begin, refl)
says_begin _ is = absurd cc

module _ (s : Session) (handle : ℕ) (e : Event) (past : List Event) (begin : Begin) (said : out_meaning e ≡ Some (ABegin begin)) where
  no_ain : law.attaches_in s handle e ≡ false
  no_ain = search kinds

  no_aout : law.attaches_out s handle e ≡ false
  no_aout = search kinds

  no_din : law.detaches_in s handle e ≡ false
  no_din = search kinds

  no_dout : law.detaches_out s handle e ≡ false
  no_dout = search kinds

  begun-still : session_link s handle past ≡ None → standing s handle past ≡ nothing → standing s handle (e ∷ past) ≡ nothing
  begun-still none before =
      made-same _ _ _ _ _ _ _ _ _ _
      (ap (option_map (λ l. counted l (e ∷ past))) (steps.session_link-same s handle e past no_din no_dout no_aout ∙ none))
      (ap (option_and_then asked_in) (steps.unanswered_attach-same s handle e past no_aout no_ain) ∙ ap (λ (x : HandleState). x.asked) before)
      (steps.owes_detach-same s handle e past no_dout no_din no_aout ∙ ap (λ (x : HandleState). x.owes_detach) before)
      (steps.awaits_detach-same s handle e past no_aout no_din no_dout ∙ ap (λ (x : HandleState). x.awaits_detach) before)
      (steps.is_undetached-same s handle e past no_aout no_din ∙ ap (λ (x : HandleState). x.is_undetached) before)

module _ (rules : RuleSet) (e : Event) (past : List Event) (are : AreJudged rules (e ∷ past)) where
  pub nothing-begun : (s : Session) (handle : ℕ) → is_some (out_begin e) ≡ true → e.session ≡ Some s → standing s handle (e ∷ past) ≡ nothing
  nothing-begun s handle begins on =
      let opens : own_session e ≡ Some s = ap (λ b. if b then e.session else None) begins ∙ on in
      let said = says_begin (out_meaning e) begins in
      let number = own_session-number rules e past s are opens in
      begun-still s handle e past said.0 said.1 ((judged-stands rules past are.1).no_link s handle (omega (arith, number)))
      (nothing-before rules past s handle are.1 (omega (arith, number)))
