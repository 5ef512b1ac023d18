-- The links of producers that may be given more credit behind one more event.
use Rattle.std.proofs.Common.{◌≡◌, refl, sym, ap, subst, ◌∙◌, ℕ, ◌<◌, ◌≤◌, ◌+◌, Bool, true, false, cond, not, ◌&&◌, ◌||◌, ◌⊎◌, inl, inr, List, [], ◌∷◌, length, Option, Some, None, option_and_then, nat_le, nat_lt, bytes_eq, if◌then◌else◌, ◌==◌, eqb-true, leb-true, le-leb, arith}
use Rattle.std.specs.Prelude.{Contains}
use Rattle.std.specs.List.{list_any, count_by, cons_option}
use Rattle.std.proofs.lemmas.Slice.Eq.{bytes_eq-Decides}
use Rattle.std.proofs.lemmas.List.Sums.{sum_by-cons}
use Rattle.amqp_perf.specs.Meaning.{TransferFields, DispositionFields, flag}
use Rattle.flow_counts.specs.declared.profile.TheConstants.{LOW_MARK}
use Rattle.pairing_cert.specs.declared.note.Note.{Note}
use Rattle.pairing_cert.specs.declared.note.Note.TheVariants as notes
use Rattle.capture_form.specs.Rules.{RuleSet}
use Rattle.trace_events.specs.Words.{is_number, is_some_and, where_passes}
use Rattle.trace_events.specs.Event.{Event, Link, Incoming, Outgoing, is_on_link, is_on_session}
use Rattle.trace_events.specs.declared.session.Session.{Session}
use Rattle.trace_events.specs.Said.{in_transfer, in_disposition}
use Rattle.trace_events.specs.Address.{has_consumer, has_multicast, is_consumer_of}
use Rattle.trace_events.specs.Link.{IsLiveLink, is_anonymous, is_consumer, is_sender, is_live, links, link_at, own_link}
use Rattle.trace_events.specs.Credit.{link_event, link_events, given_credit}
use Rattle.flow_counts.specs.GivenCredit as given
use Rattle.trace_events.specs.Incoming.{address_of, message_address, completes, is_aborted, is_complete, is_from, is_last_part, is_part, is_settled, is_told, incoming_at, incoming_deliveries, settles_id}
use Rattle.trace_events.specs.Outgoing.{carried_number, outgoing_begun, names, noted_number, is_paired}
use Rattle.trace_events.specs.Decided.{decides, decided_count, begins_undecided}
use Rattle.trace_events.specs.Disposition.{covers_id}
use Rattle.trace_events.specs.Ends.{ends_link}
use Rattle.trace_events.specs.History.{judge}
use Rattle.trace_events.specs.Waiting.{is_of_multicast, is_undecided, is_unpaired, is_waiting, always_had_consumer, undecided_count}
use Rattle.trace_events.specs.Clauses.{first_broken}
use Rattle.trace_events.specs.FlowClause.{may_be_topped_up}
use Rattle.trace_events.proofs.Along.{and_first, and_last, some_passes}
use Rattle.trace_events.proofs.Judged.{AreJudged, judged-number}
use Rattle.trace_events.proofs.LinkNumbers.{links-found}
use Rattle.trace_events.proofs.Links.{passing}
use Rattle.trace_events.proofs.IncomingProgress.{judged-kept, progress-kept}
use Rattle.trace_events.proofs.LinkEnds.{is_live-next, lives-live}
use Rattle.trace_events.proofs.Parts.{IsKept, IsPart, record_part, each_delivery}
use Rattle.trace_events.proofs.Undecided.{part_link}
use Rattle.trace_events.proofs.UndecidedCount.{undecided_count_moves}
use Rattle.trace_events.proofs.WaitingQueue.{all_contained, contains_cases, contains_first, contains_later}
use Rattle.due_lists.specs.Topping.{IsDecidedOn, IsServedFirst, EndsWaited, settles}
use Rattle.due_lists.proofs.LiveOnes.{all-contained, event-session, link-found, link-lives}
use Rattle.due_lists.proofs.DrainingLinks.{on-link, waits-on}
use Rattle.due_lists.proofs.Members.{contains-more, some-passes, none-passes}

same_some : {A : Type 0} (a b : A) → Some a ≡ Some b → a ≡ b
same_some a b is = cc

-- ---- lists

module _ {A : Type 0} where
  contains-one : (o : Option A) (xs : List A) (x : A) → Contains (cons_option o xs) x → (o ≡ Some x) ⊎ Contains xs x
  contains-one None xs x there = inr there
  contains-one (Some y) xs x there = elim (contains_cases y xs x there) [
    | inl same ↦ inl (ap Some same)
    | inr later ↦ inr later
  ]

  -- of those that are counted there is one, or the count is none
  counted-some : (p : A → Bool) (xs : List A) → (count_by p xs ≡ 0) ⊎ ((x : A) × (Contains xs x × (p x ≡ true)))
  counted-some p [] = inl refl
  counted-some p (x ∷ xs) = by (p x) refl (counted-some p xs)
    where
      by : (b : Bool) → p x ≡ b → (count_by p xs ≡ 0) ⊎ ((y : A) × (Contains xs y × (p y ≡ true))) → (count_by p (x ∷ xs) ≡ 0) ⊎ ((y : A) × (Contains (x ∷ xs) y × (p y ≡ true)))
      by true is rest = inr (x, (contains_first x xs, is))
      by false is (inl none) = inl (sum_by-cons (λ y. cond (p y) 1 0) x xs ∙ (ap (λ b. cond b 1 0 + count_by p xs) is ∙ ap (λ n. 0 + n) none))
      by false is (inr some) = inr (some.0, (contains_later x xs some.0 some.1.0, some.1.1))

  pub some-any : (p : A → Bool) (xs : List A) (x : A) → Contains xs x → p x ≡ true → list_any p xs ≡ true
  some-any p xs x there is = by (list_any p xs) refl
    where
      by : (b : Bool) → list_any p xs ≡ b → b ≡ true
      by true any = refl
      by false none = sym (none-passes p xs none x there) ∙ is

-- ---- what may bring a link there

-- the event names the link, or opens it; tells or carries a delivery of it; is a producer's disposition on its session; opens
-- the first consumer's link of its address; or, where the link has none, ends a consumer's link at whose address deliveries wait
pub data Touches (rules : RuleSet) (e : Event) (past : List Event) (l : Link) : Type 0 where
  Names : e.link ≡ Some l → Touches rules e past l
  Tells : IsDecidedOn rules past l e.told → Touches rules e past l
  Carries : IsDecidedOn rules past l (carried_number e) → Touches rules e past l
  Settles : e.session ≡ Some l.session → settles e ≡ true → Touches rules e past l
  Serves : IsServedFirst e past l → Touches rules e past l
  Frees : is_anonymous l ≡ true → EndsWaited rules e past → Touches rules e past l

-- ---- one delivery

and-none : (a b : Bool) → a ≡ false → a && b ≡ false
and-none false b is = refl
and-none true b is = absurd cc

completes-none : (e : Event) (d : Incoming) → is_part d e ≡ false → completes d e ≡ false
completes-none e d off = by (is_some_and (in_transfer e) is_last_part)
  where
    by : (b : Bool) → is_some_and (if b then e.incoming else None) (λ (x : Incoming). x.number == d.number) ≡ false
    by false = refl
    by true = off

-- u: it was told before, s: settled; t, i: now; w, v: it waited, or waits
-- before the event it waited, or was neither told nor settled; behind it not: it was told or settled now, or waits no more
open-cases : (c w v s u i t : Bool) → not c || w || not (s || u) ≡ true → not c || v || not ((i || s) || (t || u)) ≡ false → (t ≡ true) ⊎ ((i ≡ true) ⊎ ((w ≡ true) × (v ≡ false)))
open-cases false w v s u i t was now = absurd cc
open-cases true w true s u i t was now = absurd cc
open-cases true true false s u i t was now = inr (inr (refl, refl))
open-cases true false false true u i t was now = absurd cc
open-cases true false false false true i t was now = absurd cc
open-cases true false false false false i true was now = inl refl
open-cases true false false false false true false was now = inr (inl refl)
open-cases true false false false false false false was now = absurd cc

undecided-parts : (live aborted unshut : Bool) → live && not aborted && unshut ≡ true → (live ≡ true) × (aborted ≡ false) × (unshut ≡ true)
undecided-parts true false true is = (refl, refl, refl)
undecided-parts true false false is = absurd cc
undecided-parts true true unshut is = absurd (by unshut is)
  where
    by : (b : Bool) → false && b ≡ true → ⊥
    by b is = cc
undecided-parts false aborted unshut is = absurd cc

decided-open : (live aborted unshut : Bool) → live ≡ true → aborted ≡ false → live && not aborted && unshut ≡ false → unshut ≡ false
decided-open true false unshut p q is = is
decided-open true true unshut p q is = absurd cc
decided-open false aborted unshut p q is = absurd cc

names-named : (n : ℕ) (note : Note) → names n note ≡ true → noted_number note ≡ Some n
names-named n (notes.Pair m) is = ap Some (eqb-true m n is)
names-named n notes.None is = absurd cc
names-named n (notes.Told why) is = absurd cc

number-some : (o : Option ℕ) (n : ℕ) → is_number o n ≡ true → o ≡ Some n
number-some None n is = absurd cc
number-some (Some m) n is = ap Some (eqb-true m n is)

not-multicast : (m c p a : Bool) → (not m && c && not p) && a ≡ true → m ≡ false
not-multicast false c p a is = refl
not-multicast true c p a is = absurd cc

-- at its address there is a consumer while it waits
waits-has : (d : Incoming) (past : List Event) → always_had_consumer d past ≡ true → has_consumer (address_of d past) past ≡ true
waits-has d [] is = absurd cc
waits-has d (e ∷ past) is = and_first (has_consumer (address_of d (e ∷ past)) (e ∷ past)) _ is

-- live before and not behind
ended-by : (was behind ends : Bool) → behind ≡ was && not ends → was ≡ true → behind ≡ false → ends ≡ true
ended-by true behind true is before off = refl
ended-by true behind false is before off = let never : false ≡ true = sym off ∙ is in absurd cc
ended-by false behind ends is before off = absurd cc

consumer-bits : (consumer same live : Bool) → consumer && same && live ≡ true → (consumer ≡ true) × (same ≡ true) × (live ≡ true)
consumer-bits true true true is = (refl, refl, refl)
consumer-bits true true false is = absurd cc
consumer-bits true false live is = absurd (none live is)
  where
    none : (b : Bool) → false && b ≡ true → ⊥
    none b is = cc
consumer-bits false same live is = absurd (none same live is)
  where
    none : (b c : Bool) → false && b && c ≡ true → ⊥
    none b c is = cc

or-other : (b c : Bool) → b ≡ false → b || c ≡ true → c ≡ true
or-other true c none is = absurd cc
or-other false c none is = is

module _ (rules : RuleSet) (e : Event) (past : List Event) (are : AreJudged rules (e ∷ past)) (lawful : first_broken rules (e ∷ past) ≡ None)
    (l : Link) (now : IsLiveLink l (e ∷ past)) (was : IsLiveLink l past) where
  number : e.number ≡ length past
  number = judged-number rules e past are

  on : (o : Option Session) → e.session ≡ o → is_some_and o (λ t. t.number == l.session.number) ≡ true → e.session ≡ Some l.session
  on None is same = absurd cc
  on (Some t) is same = is ∙ ap Some (event-session rules e past are l.session t now.0 is same)

  module _ (d : Incoming) (there : Contains (incoming_deliveries past) d) (from : is_from l d ≡ true) where
    kept : IsKept past d
    kept = all_contained (IsKept past) (incoming_deliveries past) d (each_delivery (IsKept past) past (judged-kept rules past are.1).each) there

    of-link : d.link ≡ l
    of-link = same_some d.link l (sym kept.link.at ∙ (ap (λ n. link_at n past) (eqb-true d.link.number l.number from) ∙ link-found rules past are.1 l was))

    -- a part of it stands on the link
    part-named : is_part d e ≡ true → e.link ≡ Some l
    part-named part =
        let x = some_passes (λ (x : Incoming). x.number == d.number) e.incoming part in
        let r = are.0.0 in
        let all = judged-kept rules past are.1 in
        let p = record_part rules past r x.0 (sym (ap (λ (y : Event). y.incoming) are.0.1) ∙ x.1) in
        let one : x.0 ≡ d = same x.0 (eqb-true x.0.number d.number x.2) p in
        ap (λ (y : Event). y.link) are.0.1 ∙ (p.part.on ∙ ap Some (part_link rules past r x.0 all p p.part.kind ∙ (ap (λ (y : Incoming). y.link) one ∙ of-link)))
      where
        same : (x : Incoming) → x.number ≡ d.number → IsPart (judge rules past are.0.0) past x → x ≡ d
        same x number_is p = elim p.part.kind [
          | inl going ↦ same_some x d (sym (progress-kept rules past p.part.link x are.1 going).at ∙ (ap (λ n. incoming_at n past) number_is ∙ kept.at))
          | inr new ↦
              let fresh : x.number ≡ length past = ap (λ (y : Incoming). y.number) new.1 in
              let before = kept.before in
              absurd (omega (arith, fresh, number_is, before))
        ]

    module _ (served : is_anonymous l || has_multicast rules l.address || has_consumer l.address (e ∷ past) ≡ true) (undecided : is_undecided rules d past ≡ true) (decided : is_undecided rules d (e ∷ past) ≡ false) where
      -- it waited, and waits no more: it is paired, or has lost the last consumer of its address
      module _ (waited : is_waiting rules d past ≡ true) (stops : is_waiting rules d (e ∷ past) ≡ false) where
        carried : has_consumer (address_of d past) (e ∷ past) ≡ true → Touches rules e past l
        carried has =
            let pairs_it = waits-on rules e past are lawful l now d there has waited stops in
            let j = some_passes (λ (j : Outgoing). names d.number j.note) (outgoing_begun e) pairs_it in
            let begun = (passing (λ (x : Outgoing). x.number == e.number) e.outgoing j.0 j.1).0 in
            Carries (record {
              delivery = d;
              is = ap (option_and_then (λ (x : Outgoing). noted_number x.note)) begun ∙ names-named d.number j.0.note j.2;
              at = kept.at;
              undecided = undecided;
              link = of-link;
            })

        lost : has_consumer (address_of d past) (e ∷ past) ≡ false → EndsWaited rules e past
        lost none =
            let had = waits-has d past (and_last (is_unpaired rules d past) (always_had_consumer d past) waited) in
            let k = some-passes (is_consumer_of (address_of d past) past) (links past) had in
            let before = consumer-bits (is_consumer k.0) (bytes_eq k.0.address (address_of d past)) (is_live past k.0) k.1.1 in
            let off = none-passes (is_consumer_of (address_of d past) (e ∷ past)) (links (e ∷ past)) none k.0 (contains-more (own_link e) (links past) k.0 k.1.0) in
            let over : is_live (e ∷ past) k.0 ≡ false =
            sym (ap (λ b. b && bytes_eq k.0.address (address_of d past) && is_live (e ∷ past) k.0) before.0 ∙ ap (λ b. b && is_live (e ∷ past) k.0) before.1) ∙ off in
            let at = (all-contained (λ k. (link_at k.number past ≡ Some k) × (k.number < length past)) (links past) k.0 (links-found rules past are.1) k.1.0).0 in
            let own : address_of d past ≡ k.0.address = sym ((bytes_eq-Decides k.0.address (address_of d past)).0 before.1) in
            record {
              link = k.0;
              live = lives-live rules past are.1 k.0 at before.2;
              ends = ended-by (is_live past k.0) (is_live (e ∷ past) k.0) (ends_link k.0 e) (is_live-next rules e past are k.0 at) before.2 over;
              consumer = before.0;
              waits = some-any (λ (x : Incoming). bytes_eq (address_of x past) k.0.address && is_waiting rules x past) (incoming_deliveries past) d there
                  (ap (λ b. b && is_waiting rules d past) ((bytes_eq-Decides (address_of d past) k.0.address).1 own) ∙ waited);
            }

        -- on a link with an address it is that of the delivery, and has a consumer
        stays-served : is_anonymous l ≡ false → has_consumer (address_of d past) (e ∷ past) ≡ true
        stays-served addressed =
            let own : address_of d past ≡ l.address =
            ap (λ (m : Link). if is_anonymous m then message_address d past else m.address) of-link ∙ ap (λ b. if b then message_address d past else l.address) addressed in
            let single : is_anonymous l || has_multicast rules l.address ≡ false =
            ap (λ b. b || has_multicast rules l.address) addressed
            ∙ (ap (has_multicast rules) (sym own) ∙ not-multicast (is_of_multicast rules d past) (is_complete d past) (is_paired d past) (always_had_consumer d past) waited) in
            ap (λ a. has_consumer a (e ∷ past)) own ∙ or-other (is_anonymous l || has_multicast rules l.address) (has_consumer l.address (e ∷ past)) single served

        paired : Touches rules e past l
        paired = by (is_anonymous l) refl (has_consumer (address_of d past) (e ∷ past)) refl
          where
            by : (b : Bool) → is_anonymous l ≡ b → (c : Bool) → has_consumer (address_of d past) (e ∷ past) ≡ c → Touches rules e past l
            by b anonymous true has = carried has
            by true anonymous false none = Frees anonymous (lost none)
            by false addressed false none = let never : true ≡ false = sym (stays-served addressed) ∙ none in absurd cc

      settled : settles_id d e ≡ true → Touches rules e past l
      settled is =
          let fields = λ (fields : DispositionFields). is_sender fields.role && flag fields.settled && covers_id fields d.id in
          let first = and_first (is_some_and (in_disposition e) fields && e.is_heard && is_on_session d.link.session e) (nat_lt d.number e.number) is in
          let stands = and_last (is_some_and (in_disposition e) fields && e.is_heard) (is_on_session d.link.session e) first in
          let says = and_first (is_some_and (in_disposition e) fields) e.is_heard (and_first (is_some_and (in_disposition e) fields && e.is_heard) (is_on_session d.link.session e) first) in
          let given = some_passes fields (in_disposition e) says in
          let sends = and_first (is_sender given.0.role) (flag given.0.settled) (and_first (is_sender given.0.role && flag given.0.settled) (covers_id given.0 d.id) given.2) in
          let here : is_on_session l.session e ≡ true = ap (λ (m : Link). is_on_session m.session e) (sym of-link) ∙ stands in
          Settles (on e.session refl (and_first (is_some_and e.session (λ t. t.number == l.session.number)) (e.connection == l.session.connection) here))
          (ap (λ o. is_some_and o (λ (f : DispositionFields). is_sender f.role)) given.1 ∙ sends)

      apart : is_part d e ≡ false → Touches rules e past l
      apart off =
          let whole : is_aborted d (e ∷ past) ≡ is_aborted d past = ap (λ b. b || is_aborted d past) (and-none (is_part d e) (is_some_and (in_transfer e) (λ (f : TransferFields). flag f.aborted)) off) in
          let complete : is_complete d (e ∷ past) ≡ is_complete d past = ap (λ b. b || is_complete d past) (completes-none e d off) in
          let settles_is : is_settled d (e ∷ past) ≡ settles_id d e || is_settled d past =
          ap (λ b. (b || settles_id d e) || is_settled d past) (and-none (is_part d e) (is_some_and (in_transfer e) (λ (f : TransferFields). flag f.settled)) off) in
          let before = undecided-parts (is_live past d.link) (is_aborted d past) (not (is_complete d past) || is_waiting rules d past || not (is_settled d past || is_told d past)) undecided in
          let lives : is_live (e ∷ past) d.link ≡ true = ap (is_live (e ∷ past)) of-link ∙ link-lives (e ∷ past) l now in
          let behind = decided-open (is_live (e ∷ past) d.link) (is_aborted d (e ∷ past)) (not (is_complete d (e ∷ past)) || is_waiting rules d (e ∷ past) || not (is_settled d (e ∷ past) || is_told d (e ∷ past)))
          lives (whole ∙ before.1) decided in
          let shut : not (is_complete d past) || is_waiting rules d (e ∷ past) || not ((settles_id d e || is_settled d past) || (is_number e.told d.number || is_told d past)) ≡ false =
          sym (ap (λ b. not b || is_waiting rules d (e ∷ past) || not (is_settled d (e ∷ past) || is_told d (e ∷ past))) complete
          ∙ ap (λ b. not (is_complete d past) || is_waiting rules d (e ∷ past) || not (b || is_told d (e ∷ past))) settles_is) ∙ behind in
          elim (open-cases (is_complete d past) (is_waiting rules d past) (is_waiting rules d (e ∷ past)) (is_settled d past) (is_told d past) (settles_id d e) (is_number e.told d.number) before.2 shut) [
            | inl told ↦ Tells (record { delivery = d; is = number-some e.told d.number told; at = kept.at; undecided = undecided; link = of-link })
            | inr (inl is) ↦ settled is
            | inr (inr waits) ↦ paired waits.0 waits.1
          ]

      decided-touches : Touches rules e past l
      decided-touches = by (is_part d e) refl
        where
          by : (b : Bool) → is_part d e ≡ b → Touches rules e past l
          by true part = Names (part-named part)
          by false off = apart off

  -- ---- the consumers of its address

  served-before : has_consumer l.address (e ∷ past) ≡ true → Touches rules e past l ⊎ (has_consumer l.address past ≡ true)
  served-before has = by (has_consumer l.address past) refl
    where
      found : (k : Link) × (Contains (cons_option (own_link e) (links past)) k × (is_consumer_of l.address (e ∷ past) k ≡ true))
      found = some-passes (is_consumer_of l.address (e ∷ past)) (links (e ∷ past)) has

      is : (is_consumer found.0 ≡ true) × (bytes_eq found.0.address l.address ≡ true) × (is_live (e ∷ past) found.0 ≡ true)
      is = consumer-bits (is_consumer found.0) (bytes_eq found.0.address l.address) (is_live (e ∷ past) found.0) found.1.1

      opened : has_consumer l.address past ≡ false → own_link e ≡ Some found.0 → Touches rules e past l
      opened none own = Serves (record {
        consumer = found.0;
        opened = ap (where_passes is_consumer) own ∙ ap (λ b. if b then Some found.0 else None) is.0;
        address = (bytes_eq-Decides found.0.address l.address).0 is.1;
        unserved = none;
      })

      lived : Contains (links past) found.0 → has_consumer l.address past ≡ true
      lived there =
          let at = (all-contained (λ k. (link_at k.number past ≡ Some k) × (k.number < length past)) (links past) found.0 (links-found rules past are.1) there).0 in
          let alive : is_live past found.0 ≡ true = and_first (is_live past found.0) (not (ends_link found.0 e)) (sym (is_live-next rules e past are found.0 at) ∙ is.2) in
          some-any (is_consumer_of l.address past) (links past) found.0 there
          (ap (λ b. b && bytes_eq found.0.address l.address && is_live past found.0) is.0 ∙ (ap (λ b. b && is_live past found.0) is.1 ∙ alive))

      by : (b : Bool) → has_consumer l.address past ≡ b → Touches rules e past l ⊎ (b ≡ true)
      by true had = inr refl
      by false none = elim (contains-one (own_link e) (links past) found.0 found.1.0) [
        | inl own ↦ inl (opened none own)
        | inr there ↦ let never : true ≡ false = sym (lived there) ∙ none in absurd cc
      ]

  -- ---- its credit and its undecided deliveries

  given-same : is_on_link l e ≡ false → given_credit l (e ∷ past) ≡ given_credit l past
  given-same off = ap (λ b. given.given_credit (cons_option (if b then link_event e e.moment else None) (link_events l past))) off

  low-before : (count count' : ℕ) → count ≤ count' → given_credit l (e ∷ past) ≡ given_credit l past → nat_le (given_credit l (e ∷ past) + count') LOW_MARK ≡ true → nat_le (given_credit l past + count) LOW_MARK ≡ true
  low-before count count' le same low =
      let low_is = leb-true (given_credit l (e ∷ past) + count') LOW_MARK low in
      le-leb (given_credit l past + count) LOW_MARK (omega (arith, le, same, low_is))

  or-both : (m c : Bool) → m || c ≡ true → (m ≡ true) ⊎ (c ≡ true)
  or-both true c is = inl refl
  or-both false c is = inr is

  or-left : (m c : Bool) → m ≡ true → m || c ≡ true
  or-left true c is = refl
  or-left false c is = absurd cc

  or-right : (m c : Bool) → c ≡ true → m || c ≡ true
  or-right true c is = refl
  or-right false c is = is

  both : (b c : Bool) → b ≡ true → c ≡ true → b && c ≡ true
  both true c p q = q
  both false c p q = absurd cc

  -- someone takes its deliveries, or they say for whom they are; and so it was before
  takers-before : is_anonymous l || has_multicast rules l.address || has_consumer l.address (e ∷ past) ≡ true
      → Touches rules e past l ⊎ (is_anonymous l || has_multicast rules l.address || has_consumer l.address past ≡ true)
  takers-before takes = elim (or-both (is_anonymous l || has_multicast rules l.address) (has_consumer l.address (e ∷ past)) takes) [
    | inl always ↦ inr (or-left (is_anonymous l || has_multicast rules l.address) (has_consumer l.address past) always)
    | inr has ↦ elim (served-before has) [
      | inl touched ↦ inl touched
      | inr had ↦ inr (or-right (is_anonymous l || has_multicast rules l.address) (has_consumer l.address past) had)
    ]
  ]

  counts-before : is_on_link l e ≡ false → may_be_topped_up rules (e ∷ past) l ≡ true → Touches rules e past l ⊎ (may_be_topped_up rules past l ≡ true)
  counts-before off may =
      let low = and_first (nat_le (given_credit l (e ∷ past) + undecided_count rules l (e ∷ past)) LOW_MARK) (is_anonymous l || has_multicast rules l.address || has_consumer l.address (e ∷ past)) may in
      let takes = and_last (nat_le (given_credit l (e ∷ past) + undecided_count rules l (e ∷ past)) LOW_MARK) (is_anonymous l || has_multicast rules l.address || has_consumer l.address (e ∷ past)) may in
      elim (counted-some (λ d. is_from l d && decides rules e past d) (incoming_deliveries past)) [
        | inr some ↦
            let from = and_first (is_from l some.0) (decides rules e past some.0) some.1.1 in
            let decides_it = and_last (is_from l some.0) (decides rules e past some.0) some.1.1 in
            inl (decided-touches some.0 some.1.0 from takes (and_first (is_undecided rules some.0 past) (not (is_undecided rules some.0 (e ∷ past))) decides_it)
            (not-true (is_undecided rules some.0 (e ∷ past)) (and_last (is_undecided rules some.0 past) (not (is_undecided rules some.0 (e ∷ past))) decides_it)))
        | inl none ↦ elim (takers-before takes) [
          | inl touched ↦ inl touched
          | inr took ↦ inr (both (nat_le (given_credit l past + undecided_count rules l past) LOW_MARK) (is_anonymous l || has_multicast rules l.address || has_consumer l.address past)
              (low-before (undecided_count rules l past) (undecided_count rules l (e ∷ past)) (more none) (given-same off) low) took)
        ]
      ]
    where
      not-true : (b : Bool) → not b ≡ true → b ≡ false
      not-true true is = absurd cc
      not-true false is = refl

      more : decided_count rules l e past ≡ 0 → undecided_count rules l past ≤ undecided_count rules l (e ∷ past)
      more none =
          let step : undecided_count rules l (e ∷ past) + decided_count rules l e past ≡ cond (begins_undecided rules l e past) 1 0 + undecided_count rules l past =
          subst (λ (x : Event). undecided_count rules l (x ∷ past) + decided_count rules l x past ≡ cond (begins_undecided rules l x past) 1 0 + undecided_count rules l past) (sym are.0.1)
          (undecided_count_moves rules l past are.0.0 (judged-kept rules past are.1)) in
          at-least (undecided_count rules l (e ∷ past)) (decided_count rules l e past) (undecided_count rules l past) (begins_undecided rules l e past) none step
        where
          at-least : (a b c : ℕ) (begins : Bool) → b ≡ 0 → a + b ≡ cond begins 1 0 + c → c ≤ a
          at-least a b c true none step = omega (arith, none, step)
          at-least a b c false none step = omega (arith, none, step)

  pub lived-before : may_be_topped_up rules (e ∷ past) l ≡ true → Touches rules e past l ⊎ (may_be_topped_up rules past l ≡ true)
  lived-before may = by (is_on_link l e) refl
    where
      by : (b : Bool) → is_on_link l e ≡ b → Touches rules e past l ⊎ (may_be_topped_up rules past l ≡ true)
      by true stands = inl (Names (on-link rules e past are l now stands))
      by false off = counts-before off may
