-- What the groups don't find for an event, it doesn't touch.
use Rattle.std.proofs.Common.{◌≡◌, refl, sym, ap, ◌∙◌, inl, inr, ◌+◌, ◌-◌, ◌%◌, ◌^◌, ◌<◌, ◌≤◌, ℕ, Bool, true, false, ◌&&◌, ◌||◌, not, List, [], ◌∷◌, length, Option, Some, None, IfSome, is_some, nat_eq, nat_lt, nat_le, option_map, option_and_then, subst, arith, if◌then◌else◌, ◌==◌, eqb-true, eq-eqb, leb-true, ltb-true}
use Rattle.std.proofs.lemmas.Bool.{ltb-false}
use Rattle.std.specs.Prelude.{Contains}
use Rattle.std.specs.List.{list_any}
use Rattle.amqp_perf.specs.Meaning.{DispositionFields, last_id}
use Rattle.flow_counts.specs.Covers.{covers}
use Rattle.flow_counts.specs.Serial.{serial_add, serial_sub}
use Rattle.number_groups.specs.Groups.{is_member, numbers}
use Rattle.capture_form.specs.Rules.{RuleSet}
use Rattle.trace_events.specs.Words.{is_number, is_some_and, where_passes}
use Rattle.trace_events.specs.Event.{Event, Link, Outgoing, is_on_session}
use Rattle.trace_events.specs.declared.session.Session.{Session}
use Rattle.trace_events.specs.Disposition.{covers_id}
use Rattle.trace_events.specs.Said.{in_disposition}
use Rattle.trace_events.specs.Ends.{ends_link}
use Rattle.trace_events.specs.Link.{IsLiveLink, is_live, is_receiver}
use Rattle.trace_events.specs.Outgoing.{is_part, answering, is_settled_by_consumer, is_settled_by_router}
use Rattle.trace_events.proofs.Judged.{AreJudged}
use Rattle.trace_events.proofs.LinkEnds.{lives-live}
use Rattle.trace_events.proofs.WaitingQueue.{contains_none, contains_cases}
use Rattle.state_outgoing.specs.Sent.{Sent, sent_at}
use Rattle.number_groups.specs.Ids.{same_id}
use Rattle.state_outgoing.specs.SentGrouped.{AreGrouped, is_of_link, is_of_session, has_id}
use Rattle.state_outgoing.specs.IdRanges.{IsCounted, are_few, some_place, span, stands_under}
use Rattle.state_outgoing.specs.SentTouched.{finds, is_spoken_of, may_touch, part_number, spoken_ids, touches}
use Rattle.state_outgoing.specs.declared.groups.SentGroups.{SentGroups}
use Rattle.state_outgoing.specs.declared.id_range.IdRange.{IdRange}
use Rattle.number_groups.specs.declared.id_on.IdOn.{IdOn}
use Rattle.state_outgoing.proofs.Places.{at-some, or_last}
use Rattle.state_outgoing.proofs.SentKnown.{sent-of}
use Rattle.state_outgoing.proofs.SentLinks.{found-linked}

or_none : (a b : Bool) → a || b ≡ false → (a ≡ false) × (b ≡ false)
or_none false b is = (refl, is)
or_none true b is = absurd cc

and_both : (a b : Bool) → a && b ≡ true → (a ≡ true) × (b ≡ true)
and_both true b is = (refl, is)
and_both false b is = absurd cc

-- it is false, since it isn't true
unless : (b : Bool) → (b ≡ true → true ≡ false) → b ≡ false
unless false never = refl
unless true never = never refl

same-sym : (m n : ℕ) → (m == n) ≡ true → (n == m) ≡ true
same-sym m n same = eq-eqb n m (sym (eqb-true m n same))

part-none : (o : Option Outgoing) (n : ℕ) → is_number (option_map (λ (j : Outgoing). j.number) o) n ≡ false → is_some_and o (λ (j : Outgoing). j.number == n) ≡ false
part-none None n off = refl
part-none (Some j) n off = off

-- ---- an id that a range covers stands at one of its places

-- it stands at its place behind the first
placed : (first id : ℕ) → first < 2 ^ 32 → id < 2 ^ 32 → (first + ((id + 2 ^ 32) - first) % 2 ^ 32) % 2 ^ 32 ≡ id
placed first id small own = omega (arith, small, own)

-- at the place of the last it is the last
is-last : (first last id : ℕ) → first < 2 ^ 32 → last < 2 ^ 32 → id < 2 ^ 32 → ((id + 2 ^ 32) - first) % 2 ^ 32 ≡ ((last + 2 ^ 32) - first) % 2 ^ 32 → id ≡ last
is-last first last id small most own same = omega (arith, small, most, own, same)

equal-by : (a b : ℕ) → a ≤ b → b ≤ a → a ≡ b
equal-by a b le ge = omega (arith, le, ge)

-- ---- one that stands under its number

module _ (groups : SentGroups) (kept : ℕ → Option Sent) (grouped : AreGrouped groups kept) (n : ℕ) (x : Sent) (at : kept n ≡ Some x) where
  abbrev j : Outgoing
  j = x.delivery

  number : j.number ≡ n
  number = subst (λ (o : Option Sent). IfSome o (λ (y : Sent). y.delivery.number ≡ n)) at (grouped.numbered n)

  own-id : IfSome j.id (λ id. id < 2 ^ 32)
  own-id = subst (λ (o : Option Sent). IfSome o (λ (y : Sent). IfSome y.delivery.id (λ id. id < 2 ^ 32))) at (grouped.counted n)

  in-session : (s : ℕ) → (j.link.session.number == s) ≡ true → x.is_unsettled ≡ true → is_member nat_eq groups.of_session s n ≡ true
  in-session s same opens =
      grouped.of_session s n ∙ (ap (λ o. is_some_and o (λ (y : Sent). is_of_session s y.delivery && y.is_unsettled)) at ∙ (ap (λ b. b && x.is_unsettled) same ∙ opens))

  pub on-link : (l : ℕ) → (j.link.number == l) ≡ true → x.is_unsettled ≡ true → is_member nat_eq groups.of_link l n ≡ true
  on-link l same opens =
      grouped.of_link l n ∙ (ap (λ o. is_some_and o (λ (y : Sent). is_of_link l y.delivery && y.is_unsettled)) at ∙ (ap (λ b. b && x.is_unsettled) same ∙ opens))

  with-id : (key : IdOn) → (j.link.session.number == key.session) ≡ true → is_number j.id key.id ≡ true → x.is_unsettled ≡ true → is_member same_id groups.of_id key n ≡ true
  with-id key same named opens =
      grouped.of_id key n
      ∙ (ap (λ o. is_some_and o (λ (y : Sent). has_id key.session key.id y.delivery && y.is_unsettled)) at
      ∙ (ap (λ b. b && is_number j.id key.id && x.is_unsettled) same ∙ (ap (λ b. b && x.is_unsettled) named ∙ opens)))

  -- its consumer speaks of it: it is looked up by its id, or it is one of its session
  module _ (opens : x.is_unsettled ≡ true) where
    module _ (ids : IdRange) (small : IsCounted ids) (on : (j.link.session.number == ids.session) ≡ true) where
      abbrev stands_at : ℕ → Bool
      stands_at place = is_member same_id groups.of_id (record { session = ids.session; id = serial_add ids.first place }) n

      under-id : (id : ℕ) → is_number j.id id ≡ true → id < 2 ^ 32 → covers ids.first ids.last id ≡ true → stands_under groups.of_id ids n ≡ true
      under-id id named own is = by (nat_lt (serial_sub id ids.first) (span ids)) refl
        where
          last_member : Bool
          last_member = is_member same_id groups.of_id (record { session = ids.session; id = ids.last }) n

          by : (b : Bool) → nat_lt (serial_sub id ids.first) (span ids) ≡ b → some_place stands_at (span ids) || last_member ≡ true
          by true before =
              let named_there = subst (λ i. is_number j.id i ≡ true) (sym (placed ids.first id small.0 own)) named in
              ap (λ b. b || last_member)
              (at-some stands_at (serial_sub id ids.first) (span ids) (ltb-true (serial_sub id ids.first) (span ids) before)
              (with-id (record { session = ids.session; id = serial_add ids.first (serial_sub id ids.first) }) on named_there opens))
          by false behind =
              let le = leb-true (serial_sub id ids.first) (span ids) (and_both (nat_le (serial_sub id ids.first) (span ids)) (nat_lt (span ids) (2 ^ 31)) is).0 in
              let ge = ltb-false (serial_sub id ids.first) (span ids) behind in
              let same : serial_sub id ids.first ≡ span ids = equal-by (serial_sub id ids.first) (span ids) le ge in
              let last = is-last ids.first ids.last id small.0 small.1 own same in
              or_last (some_place stands_at (span ids)) last_member
              (with-id (record { session = ids.session; id = ids.last }) on (subst (λ i. is_number j.id i ≡ true) last named) opens)

      under : (o : Option ℕ) → j.id ≡ o → IfSome o (λ id. id < 2 ^ 32) → is_some_and o (covers ids.first ids.last) ≡ true → stands_under groups.of_id ids n ≡ true
      under None known own is = absurd cc
      under (Some id) known own is = under-id id (ap (λ o. is_number o id) known ∙ eq-eqb id id refl) own is

      found-by : is_some_and j.id (covers ids.first ids.last) ≡ true → finds groups ids n ≡ true
      found-by is = by (are_few (span ids) (length (numbers nat_eq groups.of_session ids.session)))
        where
          by : (few : Bool) → (if few then stands_under groups.of_id ids n else is_member nat_eq groups.of_session ids.session n) ≡ true
          by true = under j.id refl own-id is
          by false = in-session ids.session on opens

    abbrev spoken_by : Option DispositionFields → Option Session → Option IdRange
    spoken_by o s =
        option_and_then
        (λ (f : DispositionFields). if is_receiver f.role then option_map (λ (t : Session). record { session = t.number; first = f.first; last = last_id f }) s else None)
        o

    speaks-by : (o : Option DispositionFields) (s : Option Session) → is_some_and s (λ (t : Session). t.number == j.link.session.number) ≡ true
        → is_some (where_passes (λ (f : DispositionFields). is_receiver f.role && covers_id f j.id) o) ≡ true → IfSome (spoken_by o s) IsCounted
        → is_some_and (spoken_by o s) (λ ids. finds groups ids n) ≡ true
    speaks-by None s on says small = absurd cc
    speaks-by (Some f) None on says small = absurd cc
    speaks-by (Some f) (Some t) on says small = by (is_receiver f.role) (covers_id f j.id) refl says small
      where
        those : IdRange
        those = record { session = t.number; first = f.first; last = last_id f }

        by : (r c : Bool) → covers_id f j.id ≡ c → is_some (if r && c then Some f else None) ≡ true → IfSome (if r then Some those else None) IsCounted
            → is_some_and (if r then Some those else None) (λ ids. finds groups ids n) ≡ true
        by false c is says small = absurd cc
        by true false is says small = absurd cc
        by true true is says small = found-by those small (same-sym t.number j.link.session.number on) is

    pub speaks : (e : Event) → IfSome (spoken_ids e) IsCounted → is_some (answering j e) ≡ true → is_spoken_of groups e n ≡ true
    speaks e small is = by (e.is_heard && is_on_session j.link.session e && nat_lt j.number e.number) refl is
      where
        by : (b : Bool) → e.is_heard && is_on_session j.link.session e && nat_lt j.number e.number ≡ b
            → is_some (if b then where_passes (λ (f : DispositionFields). is_receiver f.role && covers_id f j.id) (in_disposition e) else None) ≡ true → is_spoken_of groups e n ≡ true
        by false off says = absurd cc
        by true on says =
            let two = and_both e.is_heard (is_on_session j.link.session e) (and_both (e.is_heard && is_on_session j.link.session e) (nat_lt j.number e.number) on).0 in
            speaks-by (in_disposition e) e.session (and_both (is_some_and e.session (λ (t : Session). t.number == j.link.session.number)) (e.connection == j.link.session.connection) two.1).0 says small

  abbrev over : List Link → Bool
  over ended = list_any (λ (l : Link). is_member nat_eq groups.of_link l.number n) ended

  -- where its link stands among those that end
  pub found : (e : Event) (ended : List Link) → IfSome (spoken_ids e) IsCounted → (x.is_unsettled ≡ true → ends_link j.link e ≡ true → over ended ≡ true)
      → may_touch groups ended e n ≡ false → touches e x ≡ false
  found e ended small ends off =
      let a = or_none (is_number (part_number e) n || is_number e.settled n || is_spoken_of groups e n) (over ended) off in
      let b = or_none (is_number (part_number e) n || is_number e.settled n) (is_spoken_of groups e n) a.0 in
      let c = or_none (is_number (part_number e) n) (is_number e.settled n) b.0 in
      let part : is_part j e ≡ false = ap (λ m. is_some_and e.outgoing (λ (k : Outgoing). k.number == m)) number ∙ part-none e.outgoing n c.0 in
      let settles : is_number e.settled j.number ≡ false = ap (is_number e.settled) number ∙ c.1 in
      ap (λ b. b || x.is_unsettled && (is_some (answering j e) || ends_link j.link e || is_number e.settled j.number)) part
      ∙ unless (x.is_unsettled && (is_some (answering j e) || ends_link j.link e || is_number e.settled j.number))
      (λ is. by x.is_unsettled (is_some (answering j e)) (ends_link j.link e) (is_number e.settled j.number) is
      (λ opens says. sym (speaks opens e small says) ∙ b.1) (λ opens over. sym (ends opens over) ∙ a.1) (λ here. sym here ∙ settles))
    where
      by : (u s l r : Bool) → u && (s || l || r) ≡ true → (u ≡ true → s ≡ true → true ≡ false) → (u ≡ true → l ≡ true → true ≡ false) → (r ≡ true → true ≡ false) → true ≡ false
      by true true l r is first second third = first refl refl
      by true false true r is first second third = second refl refl
      by true false false true is first second third = third refl
      by true false false false is first second third = sym is
      by false s l r is first second third = sym is

-- ---- of an entry the link lives while it is unsettled

contained-any : {A : Type 0} (p : A → Bool) (xs : List A) (x : A) → Contains xs x → p x ≡ true → list_any p xs ≡ true
contained-any p [] x has is = contains_none x has
contained-any p (y ∷ ys) x has is = elim (contains_cases y ys x has) [
  | inl same ↦ ap (λ b. b || list_any p ys) (ap p same ∙ is)
  | inr later ↦ or_last (p y) (list_any p ys) (contained-any p ys x later is)
]

lives-by : (s live c r : Bool) → not s && (live && not c && not r) ≡ true → live ≡ true
lives-by s true c r is = refl
lives-by true false c r is = absurd cc
lives-by false false c r is = absurd cc

pub unsettled-live : (rules : RuleSet) (past : List Event) → AreJudged rules past → (n : ℕ) (x : Sent) → sent_at n past ≡ Some x → x.is_unsettled ≡ true → IsLiveLink x.delivery.link past
unsettled-live rules past are n x entry opens =
    let of = sent-of n past x entry in
    let j = x.delivery in
    lives-live rules past are j.link (found-linked rules past are n j of.at).at
    (lives-by j.link.is_pre_settled (is_live past j.link) (is_settled_by_consumer j past) (is_settled_by_router j past) (ap (λ (y : Sent). y.is_unsettled) of.is ∙ opens))

-- so the links that end have it, if the event ends its link
module _ (rules : RuleSet) (past : List Event) (are : AreJudged rules past) (groups : SentGroups) (kept : ℕ → Option Sent) (grouped : AreGrouped groups kept)
    (laws : (n : ℕ) (x : Sent) → kept n ≡ Some x → sent_at n past ≡ Some x) where
  pub ended-among : (e : Event) (ended : List Link) → ((l : Link) → IsLiveLink l past → ends_link l e ≡ true → Contains ended l) → (n : ℕ) (x : Sent) → kept n ≡ Some x → x.is_unsettled ≡ true
      → ends_link x.delivery.link e ≡ true → list_any (λ (l : Link). is_member nat_eq groups.of_link l.number n) ended ≡ true
  ended-among e ended has n x at opens ends =
      let l = x.delivery.link in
      contained-any (λ (m : Link). is_member nat_eq groups.of_link m.number n) ended l (has l (unsettled-live rules past are n x (laws n x at) opens) ends)
      (on-link groups kept grouped n x at l.number (eq-eqb l.number l.number refl) opens)
