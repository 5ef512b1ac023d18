-- What one more event makes of the copies that are to be sent, by the numbers of their links and deliveries.
use Rattle.std.proofs.Common.{◌≡◌, refl, sym, ap, subst, ◌∙◌, ◌↔◌, ℕ, suc, ◌-◌, ◌≤◌, Bool, true, false, ◌&&◌, ◌||◌, not, List, [], ◌∷◌, length, filter, reverse, find, nat_eq, Option, Some, None, IfSome, is_some, inl, inr, bytes_eq, if◌then◌else◌, ◌==◌, arith, eqb-true, eq-eqb}
use Rattle.std.specs.Prelude.{Contains, nat_lt}
use Rattle.std.specs.List.{IsDistinct, cons_option, list_any}
use Rattle.capture_form.specs.Rules.{RuleSet}
use Rattle.trace_events.specs.Words.{is_some_and, where_passes}
use Rattle.trace_events.specs.Event.{Event, Link, Incoming, is_on_link}
use Rattle.trace_events.specs.declared.session.Session.{Session}
use Rattle.trace_events.specs.Said.{out_transfer}
use Rattle.trace_events.specs.Address.{has_multicast, is_consumer_of}
use Rattle.trace_events.specs.Connection.{is_over}
use Rattle.trace_events.specs.Credit.{link_credit, begun_count}
use Rattle.trace_events.specs.Due.{is_copied_to, due_count, is_due, is_unsent}
use Rattle.trace_events.specs.Ends.{ends_link}
use Rattle.trace_events.specs.Incoming.{address_of, completed_by, completes}
use Rattle.trace_events.specs.Link.{is_consumer, is_live, live_link, session_link, link_at, own_link, IsLiveLink}
use Rattle.trace_events.specs.Link as law
use Rattle.trace_events.specs.Outgoing.{names, is_named_on}
use Rattle.trace_events.specs.Queue.{completed_deliveries}
use Rattle.trace_events.specs.Session.{live_session, last_session}
use Rattle.trace_events.specs.Waiting.{is_of_multicast}
use Rattle.trace_events.specs.Work.{unsent_copies, comes_due}
use Rattle.trace_events.proofs.Along.{and_first, and_last, and_then_some, some_passes}
use Rattle.trace_events.proofs.Judged.{AreJudged}
use Rattle.trace_events.proofs.LinkLives.{judged-stands}
use Rattle.trace_events.proofs.LinkNumbers.{judged-found, link_at-later, own_link-number}
use Rattle.trace_events.proofs.Links as links
use Rattle.trace_events.proofs.OutgoingSteps.{names_on}
use Rattle.trace_events.proofs.SessionNumbers.{last_session-known}
use Rattle.trace_events.proofs.SessionPlaces.{session-connection}
use Rattle.trace_events.specs.Clauses.{first_broken}
use Rattle.trace_events.proofs.ClausesMet.{lawful-past}
use Rattle.trace_events.proofs.CopiesCounted.{HaveOwnNumbers, comes_due_listed, unsent_apart}
use Rattle.trace_events.proofs.LinkEnds.{is_live-next, lives-live}
use Rattle.trace_events.proofs.OneConsumer.{passes-some}
use Rattle.trace_events.proofs.Undecided.{link_of_session}
use Rattle.trace_events.proofs.UnsentCopies.{completes-written_none, unsent_copies_move}
use Rattle.trace_events.proofs.WaitingQueue.{contains_first, contains_later, contains_cases, contains_none}
use Rattle.number_groups.specs.Numbers.{is_among}
use Rattle.state_tables.specs.Addressed.{IsAddressed}
use Rattle.state_tables.specs.ConsumerLinks.{has_link}
use Rattle.state_tables.specs.Copies.{copies_on, copies_at, has_delivery, copied_by, AreReceiversOf, AreReceivers, has_room, comes_to, names_at}
use Rattle.state_tables.specs.declared.copies.Receiver.{Receiver}
use Rattle.state_tables.proofs.CopyNumbers.{and_false, and_true, or_false, number-left, number-join, numbers-counted}

same_some : {A : Type 0} (a b : A) → Some a ≡ Some b → a ≡ b
same_some a b is = cc

-- ---- what a test finds in a list

module _ {X : Type 0} (test : X → Bool) where
  any-gives : (xs : List X) (x : X) → Contains xs x → test x ≡ true → list_any test xs ≡ true
  any-gives [] x there is = contains_none x there
  any-gives (y ∷ xs) x there is = elim (contains_cases y xs x there) [
    | inl same ↦ ap (λ b. b || list_any test xs) (ap test same ∙ is)
    | inr later ↦ last (test y) (list_any test xs) (any-gives xs x later is)
  ]
    where
      last : (a b : Bool) → b ≡ true → a || b ≡ true
      last true b is = refl
      last false b is = is

  any-from : (xs : List X) → list_any test xs ≡ true → (x : X) × (Contains xs x × (test x ≡ true))
  any-from [] is = absurd cc
  any-from (y ∷ xs) is = by (test y) refl is (any-from xs)
    where
      by : (b : Bool) → test y ≡ b → b || list_any test xs ≡ true → (list_any test xs ≡ true → (x : X) × (Contains xs x × (test x ≡ true))) → (x : X) × (Contains (y ∷ xs) x × (test x ≡ true))
      by true passes any rest = (y, (contains_first y xs, passes))
      by false passes any rest = let found = rest any in (found.0, (contains_later y xs found.0 found.1.0, found.1.1))

-- two answers that follow from each other are the same
both-ways : (a b : Bool) → (a ≡ true → b ≡ true) → (b ≡ true → a ≡ true) → a ≡ b
both-ways true b there back = sym (there refl)
both-ways false true there back = back refl
both-ways false false there back = refl

-- ---- receivers

module _ (address : List ℕ) (past : List Event) (receivers : List Receiver) (are : AreReceiversOf address past receivers) (link count : ℕ) where
  abbrev is_room : Receiver → Bool
  is_room x = x.link == link && nat_lt count x.credit

  module _ (x : Receiver) (there : Contains receivers x) (is : is_room x ≡ true) where
    -- its own link and credit are given
    given : is_some_and (link_at link past) (λ l. is_consumer_of address past l && (link_credit l past == x.credit)) ≡ true
    given =
        sym (are link x.credit)
        ∙ any-gives (λ (y : Receiver). y.link == link && (y.credit == x.credit)) receivers x there
        (ap (λ b. b && (x.credit == x.credit)) (and_first (x.link == link) (nat_lt count x.credit) is) ∙ eq-eqb x.credit x.credit refl)

  -- where no link has the number, none of them has
  pub room-none : link_at link past ≡ None → has_room receivers link count ≡ false
  room-none none = by (has_room receivers link count) refl
    where
      by : (b : Bool) → has_room receivers link count ≡ b → b ≡ false
      by false is = refl
      by true is =
          let x = any-from is_room receivers is in
          let never : false ≡ true = sym (ap (λ o. is_some_and o (λ (l : Link). is_consumer_of address past l && (link_credit l past == x.0.credit))) none) ∙ given x.0 x.1.0 x.1.1 in
          absurd cc

  -- else it is that link
  pub room-is : (l : Link) → link_at link past ≡ Some l → has_room receivers link count ≡ is_consumer_of address past l && nat_lt count (link_credit l past)
  room-is l at = both-ways (has_room receivers link count) (is_consumer_of address past l && nat_lt count (link_credit l past)) there back
    where
      there : has_room receivers link count ≡ true → is_consumer_of address past l && nat_lt count (link_credit l past) ≡ true
      there is =
          let x = any-from is_room receivers is in
          let of = sym (ap (λ o. is_some_and o (λ (l : Link). is_consumer_of address past l && (link_credit l past == x.0.credit))) at) ∙ given x.0 x.1.0 x.1.1 in
          let credit = eqb-true (link_credit l past) x.0.credit (and_last (is_consumer_of address past l) (link_credit l past == x.0.credit) of) in
          ap (λ b. b && nat_lt count (link_credit l past)) (and_first (is_consumer_of address past l) (link_credit l past == x.0.credit) of)
          ∙ (ap (nat_lt count) credit ∙ and_last (x.0.link == link) (nat_lt count x.0.credit) x.1.1)

      back : is_consumer_of address past l && nat_lt count (link_credit l past) ≡ true → has_room receivers link count ≡ true
      back is =
          let consumer = and_first (is_consumer_of address past l) (nat_lt count (link_credit l past)) is in
          let one : list_any (λ (y : Receiver). y.link == link && (y.credit == link_credit l past)) receivers ≡ true =
          are link (link_credit l past)
          ∙ (ap (λ o. is_some_and o (λ (m : Link). is_consumer_of address past m && (link_credit m past == link_credit l past))) at
          ∙ (ap (λ b. b && (link_credit l past == link_credit l past)) consumer ∙ eq-eqb (link_credit l past) (link_credit l past) refl)) in
          let x = any-from (λ (y : Receiver). y.link == link && (y.credit == link_credit l past)) receivers one in
          let credit = eqb-true x.0.credit (link_credit l past) (and_last (x.0.link == link) (x.0.credit == link_credit l past) x.1.1) in
          any-gives is_room receivers x.0 x.1.0
          (ap (λ b. b && nat_lt count x.0.credit) (and_first (x.0.link == link) (x.0.credit == link_credit l past) x.1.1)
          ∙ (ap (nat_lt count) credit ∙ and_last (is_consumer_of address past l) (nat_lt count (link_credit l past)) is))

-- ---- a link before its record

last_of : (over : Bool) (last : Option Session) (s : Session) → (if over then None else last) ≡ Some s → last ≡ Some s
last_of true last s is = absurd cc
last_of false last s is = is

module _ (rules : RuleSet) (past : List Event) (are : AreJudged rules past) (l : Link) (later : length past ≤ l.number) where
  unborn_by : (b : Bool) → is_live past l ≡ b → b ≡ false
  unborn_by false is = refl
  unborn_by true is =
      let found = some_passes (λ (m : Link). m.number == l.number) (live_link l.session.connection l.session.channel l.handle past) is in
      let on = and_then_some (λ (s : Session). session_link s l.handle past) (live_session l.session.connection l.session.channel past) found.0 found.1 in
      let known = last_session-known rules past are l.session.connection l.session.channel on.0
      (last_of (is_over l.session.connection past) (last_session l.session.connection l.session.channel past) on.0 on.1) in
      let lt = ((judged-stands rules past are).known on.0 l.handle found.0 known on.2).before in
      absurd (omega (arith, lt, later, eqb-true found.0.number l.number found.2))

  unborn : is_live past l ≡ false
  unborn = unborn_by (is_live past l) refl

none-due : (rules : RuleSet) (past : List Event) → AreJudged rules past → (l : Link) → length past ≤ suc l.number → (d : Incoming) → is_due rules d l past ≡ false
none-due rules [] are l later d = refl
none-due rules (e ∷ past) are l later d =
    ap (λ b. if completes d e then b else is_due rules d l past) (off (completed_by e))
    ∙ (ap (λ b. if completes d e then false else b) (none-due rules past are.1 l (omega (arith, later)) d) ∙ both-off (completes d e))
  where
    both-off : (b : Bool) → (if b then false else false) ≡ false
    both-off true = refl
    both-off false = refl

    over : is_live past l ≡ false
    over = unborn rules past are.1 l (omega (arith, later))

    off : (o : Option Incoming) → is_some_and o (λ d. is_of_multicast rules d (e ∷ past) && is_consumer_of (address_of d (e ∷ past)) past l) && nat_lt (due_count rules l past - begun_count l past) (link_credit l past) ≡ false
    off None = refl
    off (Some d) =
        ap (λ b. (is_of_multicast rules d (e ∷ past) && (is_consumer l && bytes_eq l.address (address_of d (e ∷ past)) && b)) && nat_lt (due_count rules l past - begun_count l past) (link_credit l past)) over
        ∙ (ap (λ b. (is_of_multicast rules d (e ∷ past) && b) && nat_lt (due_count rules l past - begun_count l past) (link_credit l past)) (and_false (is_consumer l && bytes_eq l.address (address_of d (e ∷ past))))
        ∙ ap (λ b. b && nat_lt (due_count rules l past - begun_count l past) (link_credit l past)) (and_false (is_of_multicast rules d (e ∷ past))))

filter-nothing : (p : Incoming → Bool) (xs : List Incoming) → ((x : Incoming) → p x ≡ false) → filter p xs ≡ []
filter-nothing p [] off = refl
filter-nothing p (x ∷ xs) off = ap (λ b. if b then x ∷ filter p xs else filter p xs) (off x) ∙ filter-nothing p xs off

-- nothing is to be sent on a link that the last event opened
none-unsent : (rules : RuleSet) (past : List Event) → AreJudged rules past → (l : Link) → length past ≤ suc l.number → unsent_copies rules l past ≡ []
none-unsent rules past are l later =
    ap reverse (filter-nothing (λ d. is_unsent rules d l past) (completed_deliveries past) (λ d. ap (λ b. b && not (is_named_on d l past)) (none-due rules past are l later d)))

-- ---- as many numbers as copies

pub copies-counted : (rules : RuleSet) (past : List Event) → AreJudged rules past → (link : ℕ) (ns : List ℕ) → IsDistinct nat_eq ns → ((n : ℕ) → is_among ns n ≡ has_delivery n (copies_at rules link past))
    → length ns ≡ length (copies_at rules link past)
copies-counted rules past are link ns each same = numbers-counted (copies_at rules link past) (apart (where_passes (is_live past) (link_at link past))) ns each same
  where
    apart : (o : Option Link) → HaveOwnNumbers (copies_on rules past o)
    apart None = λ i j d lt within. absurd (omega (arith, within))
    apart (Some l) = unsent_apart rules l past are

-- ---- a step

module _ (rules : RuleSet) (e : Event) (past : List Event) (are : AreJudged rules (e ∷ past)) (lawful : first_broken rules (e ∷ past) ≡ None) where
  -- the link that the event names, where it is one that was known, is one of the event's connection
  on_link-is : (l : Link) → link_at l.number past ≡ Some l → is_on_link l e ≡ is_some_and e.link (λ m. m.number == l.number)
  on_link-is l at = by e.link refl
    where
      known : links.IsKnown past l
      known = record { at = at; before = (judged-found rules past are.1 l.number l at).1 }

      same_link : (m : Link) → e.link ≡ Some m → (m.number == l.number) ≡ true → m ≡ l
      same_link m is same =
          let now = subst (λ (x : Event). links.IsKnown (x ∷ past) m) (sym are.0.1)
          (links.event_known rules past are.0.0 m (judged-stands rules past are.1) (subst (λ (x : Event). x.link ≡ Some m) are.0.1 is)) in
          let still = subst (λ (x : Event). links.IsKnown (x ∷ past) l) (sym are.0.1) (links.known_still rules past are.0.0 l known) in
          same_some m l (sym now.at ∙ (ap (λ n. link_at n (e ∷ past)) (eqb-true m.number l.number same) ∙ still.at))

      on_connection : e.link ≡ Some l → l.session.connection ≡ e.connection
      on_connection is = elim (links.of_kind rules past are.0.0 l (subst (λ (x : Event). x.link ≡ Some l) are.0.1 is)) [
        | inl opens ↦
            let own = links.opened_number rules past are.0.0 l opens (subst (λ (x : Event). x.link ≡ Some l) are.0.1 is) in
            let lt = known.before in
            absurd (omega (arith, own, lt))
        | inr named ↦
            ap (λ (s : Session). s.connection) (link_of_session named.0 named.2.0 past l named.2.1).0
            ∙ (session-connection rules past are.0.0 named.0 named.1 ∙ sym (ap (λ (x : Event). x.connection) are.0.1))
      ]

      with_number : (m : Link) → e.link ≡ Some m → (b : Bool) → (m.number == l.number) ≡ b → b && (e.connection == l.session.connection) ≡ b
      with_number m is false other = refl
      with_number m is true same = eq-eqb e.connection l.session.connection (sym (on_connection (is ∙ ap Some (same_link m is same))))

      by : (o : Option Link) → e.link ≡ o → is_some_and o (λ (m : Link). m.number == l.number) && (e.connection == l.session.connection) ≡ is_some_and o (λ (m : Link). m.number == l.number)
      by None is = refl
      by (Some m) is = with_number m is (m.number == l.number) refl

  -- ---- what is named now

  names-is : (l : Link) (link : ℕ) → l.number ≡ link → link_at l.number past ≡ Some l → (n : ℕ) → is_some (out_transfer e) && names n e.note && is_on_link l e ≡ names_at link n e
  names-is l link own at n =
      ap (λ b. is_some (out_transfer e) && names n e.note && b) (on_link-is l at)
      ∙ (ap (λ (k : ℕ). is_some (out_transfer e) && names n e.note && is_some_and e.link (λ (m : Link). m.number == k)) own
      ∙ turned (is_some (out_transfer e)) (names n e.note) (is_some_and e.link (λ (m : Link). m.number == link)))
    where
      turned : (a b c : Bool) → a && b && c ≡ a && c && b
      turned false b c = refl
      turned true true c = sym (and_true c)
      turned true false c = sym (and_false c)

  -- what completes a delivery names none
  names-none : (d : Incoming) → completed_by e ≡ Some d → (link n : ℕ) → names_at link n e ≡ false
  names-none d is link n =
      ap (λ o. is_some o && is_some_and e.link (λ (l : Link). l.number == link) && names n e.note)
      (completes-written_none d e (ap (λ (o : Option Incoming). is_some_and o (λ x. x.number == d.number)) is ∙ eq-eqb d.number d.number refl))

  -- ---- what comes due

  module _ (address : List ℕ) (addressed : IsAddressed e past address) (receivers : List Receiver) (given : AreReceivers rules address e past receivers) where
    -- what the event completes is for this address
    by-address : (l : Link) (o : Option Incoming) → IfSome o (λ d. address_of d (e ∷ past) ≡ address)
        → is_some_and o (λ d. is_of_multicast rules d (e ∷ past) && is_consumer_of (address_of d (e ∷ past)) past l) ≡ is_some_and o (λ d. has_multicast rules address && is_consumer_of address past l)
    by-address l None for = refl
    by-address l (Some d) for = ap (λ a. has_multicast rules a && is_consumer_of a past l) for

    copied-by : (l : Link) → is_copied_to rules l e past ≡ is_some_and (completed_by e) (λ d. has_multicast rules address && is_consumer_of address past l)
    copied-by l = by-address l (completed_by e) addressed

    comes-none : (count link n : ℕ) → link_at link past ≡ None → comes_to rules address e receivers count link n ≡ false
    comes-none count link n none = by (copied_by rules address e) given
      where
        by : (o : Option Incoming) → IfSome o (λ d. AreReceiversOf address past receivers) → is_some_and o (λ d. n == d.number && has_room receivers link count) ≡ false
        by None of = refl
        by (Some d) of = ap (λ b. n == d.number && b) (room-none address past receivers of link count none) ∙ and_false (n == d.number)

    comes-over : (count link n : ℕ) (l : Link) → link_at link past ≡ Some l → is_live past l ≡ false → comes_to rules address e receivers count link n ≡ false
    comes-over count link n l at over = by (copied_by rules address e) given
      where
        by : (o : Option Incoming) → IfSome o (λ d. AreReceiversOf address past receivers) → is_some_and o (λ d. n == d.number && has_room receivers link count) ≡ false
        by None of = refl
        by (Some d) of =
            ap (λ b. n == d.number && b)
            (room-is address past receivers of link count l at
            ∙ (ap (λ b. is_consumer l && bytes_eq l.address address && b && nat_lt count (link_credit l past)) over
            ∙ ap (λ b. b && nat_lt count (link_credit l past)) (and_false (is_consumer l && bytes_eq l.address address))))
            ∙ and_false (n == d.number)

    -- of a link that was known, what the law adds to its list
    comes-added : (l : Link) (link n : ℕ) → l.number ≡ link → link_at link past ≡ Some l
        → has_delivery n (if comes_due rules l e past then cons_option (completed_by e) [] else []) ≡ comes_to rules address e receivers (length (unsent_copies rules l past)) link n
    comes-added l link n own at =
        ap (λ b. has_delivery n (if b then cons_option (completed_by e) [] else [])) (comes_due_listed rules e past are.1 (lawful-past rules e past lawful) l (ap (λ k. link_at k past) own ∙ at)
        ∙ ap (λ b. b && nat_lt (length (unsent_copies rules l past)) (link_credit l past)) (copied-by l))
        ∙ by (length (unsent_copies rules l past)) (completed_by e) given
      where
        of_one : (count : ℕ) (d : Incoming) (many : Bool) → IfSome (if many then Some d else None) (λ d. AreReceiversOf address past receivers)
            → has_delivery n (if (many && is_consumer_of address past l) && nat_lt count (link_credit l past) then d ∷ [] else [])
            ≡ is_some_and (if many then Some d else None) (λ d. n == d.number && has_room receivers link count)
        of_one count d false of = refl
        of_one count d true of =
            added (is_consumer_of address past l && nat_lt count (link_credit l past))
            ∙ sym (ap (λ b. n == d.number && b) (room-is address past receivers of link count l at))
          where
            added : (b : Bool) → has_delivery n (if b then d ∷ [] else []) ≡ n == d.number && b
            added true = or_false (n == d.number) ∙ sym (and_true (n == d.number))
            added false = sym (and_false (n == d.number))

        none : (b : Bool) → has_delivery n (if b then [] else []) ≡ false
        none true = refl
        none false = refl

        by : (count : ℕ) (o : Option Incoming) → IfSome (where_passes (λ (d : Incoming). has_multicast rules address) o) (λ d. AreReceiversOf address past receivers)
            → has_delivery n (if is_some_and o (λ d. has_multicast rules address && is_consumer_of address past l) && nat_lt count (link_credit l past) then cons_option o [] else [])
            ≡ is_some_and (where_passes (λ (d : Incoming). has_multicast rules address) o) (λ d. n == d.number && has_room receivers link count)
        by count None of = refl
        by count (Some d) of = of_one count d (has_multicast rules address) of

    -- just to those with room a copy comes due
    module _ (link : ℕ) (l : Link) (at : link_at link past ≡ Some l) where
      room-one : (count : ℕ) (d : Incoming) (many : Bool) → IfSome (if many then Some d else None) (λ d. AreReceiversOf address past receivers)
          → is_some_and (if many then Some d else None) (λ d. has_room receivers link count) ≡ (many && is_consumer_of address past l) && nat_lt count (link_credit l past)
      room-one count d false of = refl
      room-one count d true of = room-is address past receivers of link count l at

      room-to : (count : ℕ) (o : Option Incoming) → IfSome (where_passes (λ (d : Incoming). has_multicast rules address) o) (λ d. AreReceiversOf address past receivers)
          → is_some_and (where_passes (λ (d : Incoming). has_multicast rules address) o) (λ d. has_room receivers link count)
          ≡ is_some_and o (λ d. has_multicast rules address && is_consumer_of address past l) && nat_lt count (link_credit l past)
      room-to count None of = refl
      room-to count (Some d) of = room-one count d (has_multicast rules address) of

      due-listed : comes_due rules l e past ≡ is_some_and (completed_by e) (λ d. has_multicast rules address && is_consumer_of address past l) && nat_lt (length (unsent_copies rules l past)) (link_credit l past)
      due-listed = comes_due_listed rules e past are.1 (lawful-past rules e past lawful) l (ap (λ k. link_at k past) (judged-found rules past are.1 link l at).0 ∙ at)
          ∙ ap (λ b. b && nat_lt (length (unsent_copies rules l past)) (link_credit l past)) (copied-by l)

      due-over : is_live past l ≡ false → (o : Option Incoming) → is_some_and o (λ d. has_multicast rules address && is_consumer_of address past l) ≡ false
      due-over gone None = refl
      due-over gone (Some d) =
          ap (λ b. has_multicast rules address && (is_consumer l && bytes_eq l.address address && b)) gone
          ∙ (ap (λ b. has_multicast rules address && b) (and_false (is_consumer l && bytes_eq l.address address)) ∙ and_false (has_multicast rules address))

      room-due : (live : Bool) → is_live past l ≡ live
          → is_some_and (copied_by rules address e) (λ d. has_room receivers link (length (copies_on rules past (if live then Some l else None)))) ≡ comes_due rules l e past
      room-due true live = room-to (length (unsent_copies rules l past)) (completed_by e) given ∙ sym due-listed
      room-due false gone =
          room-to 0 (completed_by e) given
          ∙ (ap (λ b. b && nat_lt 0 (link_credit l past)) (due-over gone (completed_by e))
          ∙ sym (due-listed ∙ ap (λ b. b && nat_lt (length (unsent_copies rules l past)) (link_credit l past)) (due-over gone (completed_by e))))

    pub comes-room : (link : ℕ) → is_some_and (copied_by rules address e) (λ d. has_room receivers link (length (copies_at rules link past))) ≡ is_some_and (link_at link past) (λ l. comes_due rules l e past)
    comes-room link = of_link (link_at link past) refl
      where
        no_link : (count : ℕ) → link_at link past ≡ None → (o : Option Incoming) → IfSome o (λ d. AreReceiversOf address past receivers) → is_some_and o (λ d. has_room receivers link count) ≡ false
        no_link count none None of = refl
        no_link count none (Some d) of = room-none address past receivers of link count none

        of_link : (o : Option Link) → link_at link past ≡ o
            → is_some_and (copied_by rules address e) (λ d. has_room receivers link (length (copies_on rules past (where_passes (is_live past) o)))) ≡ is_some_and o (λ l. comes_due rules l e past)
        of_link None none = no_link 0 none (copied_by rules address e) given
        of_link (Some l) at = room-due link l at (is_live past l) refl

    -- what comes due is not named
    comes-unnamed : (count link n : ℕ) → comes_to rules address e receivers count link n ≡ true → names_at link n e ≡ false
    comes-unnamed count link n comes =
        let d = some_passes (λ (d : Incoming). n == d.number && has_room receivers link count) (copied_by rules address e) comes in
        names-none d.0 (passes-some (λ (d : Incoming). has_multicast rules address) (completed_by e) d.0 d.1).0 link n

    -- ---- what goes with its link

    module _ (ended : List Link) (all : (l : Link) → Contains ended l ↔ IsLiveLink l past × (ends_link l e ≡ true)) where
      -- a live link is found by its number, which is one of the history
      found-live : (l : Link) → IsLiveLink l past → links.IsKnown past l
      found-live l live =
          let s = l.session in
          let session = last_session-known rules past are.1 s.connection s.channel s (last_of (is_over s.connection past) (last_session s.connection s.channel past) s live.0) in
          (judged-stands rules past are.1).known s l.handle l session live.1

      ended-is : (l : Link) (link : ℕ) → l.number ≡ link → link_at link past ≡ Some l → is_live past l ≡ true → has_link ended link ≡ ends_link l e
      ended-is l link own at live = both-ways (has_link ended link) (ends_link l e) there back
        where
          there : has_link ended link ≡ true → ends_link l e ≡ true
          there is =
              let m = any-from (λ (m : Link). m.number == link) ended is in
              let of = (all m.0).0 m.1.0 in
              let same : m.0 ≡ l = same_some m.0 l (sym (found-live m.0 of.0).at ∙ (ap (λ k. link_at k past) (eqb-true m.0.number link m.1.1) ∙ at)) in
              ap (λ (k : Link). ends_link k e) (sym same) ∙ of.1

          back : ends_link l e ≡ true → has_link ended link ≡ true
          back ends = any-gives (λ (m : Link). m.number == link) ended l ((all l).1 (lives-live rules past are.1 l (ap (λ k. link_at k past) own ∙ at) live, ends)) (eq-eqb l.number link own)

      -- ---- all together

      abbrev now : ℕ → ℕ → ℕ → Bool → Bool
      now count link n before = ((comes_to rules address e receivers count link n || before) && not (names_at link n e)) && not (has_link ended link)

      quiet : (count link n : ℕ) → comes_to rules address e receivers count link n ≡ false → now count link n false ≡ false
      quiet count link n none = ap (λ b. ((b || false) && not (names_at link n e)) && not (has_link ended link)) none

      stayed : (l : Link) (link n : ℕ) → l.number ≡ link → link_at link past ≡ Some l → (live : Bool) → is_live past l ≡ live
          → now (length (copies_on rules past (if live then Some l else None))) link n (has_delivery n (copies_on rules past (if live then Some l else None)))
          ≡ has_delivery n (copies_on rules (e ∷ past) (if is_live (e ∷ past) l then Some l else None))
      stayed l link n own at false over =
          quiet 0 link n (comes-over 0 link n l at over)
          ∙ sym (ap (λ b. has_delivery n (copies_on rules (e ∷ past) (if b then Some l else None))) (is_live-next rules e past are l (ap (λ k. link_at k past) own ∙ at) ∙ ap (λ b. b && not (ends_link l e)) over))
      stayed l link n own at true live =
          let found = ap (λ k. link_at k past) own ∙ at in
          let next : is_live (e ∷ past) l ≡ not (ends_link l e) = is_live-next rules e past are l found ∙ ap (λ b. b && not (ends_link l e)) live in
          let moved : has_delivery n (unsent_copies rules l (e ∷ past)) ≡ has_delivery n (unsent_copies rules l past) && not (names_at link n e) || comes_to rules address e receivers (length (unsent_copies rules l past)) link n =
          ap (has_delivery n) (unsent_copies_move rules l e past are (lawful-past rules e past lawful))
          ∙ (number-join n (filter (λ d. not (names_on d l e)) (unsent_copies rules l past)) (if comes_due rules l e past then cons_option (completed_by e) [] else [])
          ∙ (ap (λ b. b || has_delivery n (if comes_due rules l e past then cons_option (completed_by e) [] else []))
          (number-left (λ k. is_some (out_transfer e) && names k e.note && is_on_link l e) n (unsent_copies rules l past)
          ∙ ap (λ b. has_delivery n (unsent_copies rules l past) && not b) (names-is l link own found n))
          ∙ ap (λ b. has_delivery n (unsent_copies rules l past) && not (names_at link n e) || b) (comes-added l link n own at))) in
          ap (λ b. ((comes_to rules address e receivers (length (unsent_copies rules l past)) link n || has_delivery n (unsent_copies rules l past)) && not (names_at link n e)) && not b) (ended-is l link own at live)
          ∙ (by (comes_to rules address e receivers (length (unsent_copies rules l past)) link n) (has_delivery n (unsent_copies rules l past)) (names_at link n e) (ends_link l e)
          (comes-unnamed (length (unsent_copies rules l past)) link n) moved
          ∙ sym (ap (λ b. has_delivery n (copies_on rules (e ∷ past) (if b then Some l else None))) next))
        where
          swapped : (due before named : Bool) → (due ≡ true → named ≡ false) → (due || before) && not named ≡ before && not named || due
          swapped true before true unnamed = let never : true ≡ false = unnamed refl in absurd cc
          swapped true true false unnamed = refl
          swapped true false false unnamed = refl
          swapped false before named unnamed = sym (or_false (before && not named))

          by : (due before named ends : Bool) → (due ≡ true → named ≡ false) → has_delivery n (unsent_copies rules l (e ∷ past)) ≡ before && not named || due
              → ((due || before) && not named) && not ends ≡ has_delivery n (copies_on rules (e ∷ past) (if not ends then Some l else None))
          by due before named true unnamed is = and_false ((due || before) && not named)
          by due before named false unnamed is = and_true ((due || before) && not named) ∙ (swapped due before named unnamed ∙ sym is)

      -- of a link that was not opened by the event
      unopened : (link n : ℕ) → (o : Option Link) → link_at link past ≡ o
          → now (length (copies_on rules past (where_passes (is_live past) o))) link n (has_delivery n (copies_on rules past (where_passes (is_live past) o)))
          ≡ has_delivery n (copies_on rules (e ∷ past) (where_passes (is_live (e ∷ past)) o))
      unopened link n None at = quiet 0 link n (comes-none 0 link n at)
      unopened link n (Some l) at = stayed l link n (judged-found rules past are.1 link l at).0 at (is_live past l) refl

      abbrev before : ℕ → ℕ → Bool
      before link n = now (length (copies_at rules link past)) link n (has_delivery n (copies_at rules link past))

      opened : (k : Link) → own_link e ≡ Some k → (n : ℕ) → before k.number n ≡ has_delivery n (copies_on rules (e ∷ past) (where_passes (is_live (e ∷ past)) (Some k)))
      opened k own n =
          let number = own_link-number rules e past k are own in
          let none : link_at k.number past ≡ None = link_at-later rules past are.1 k.number (omega (arith, number)) in
          ap (λ o. now (length (copies_on rules past (where_passes (is_live past) o))) k.number n (has_delivery n (copies_on rules past (where_passes (is_live past) o)))) none
          ∙ (quiet 0 k.number n (comes-none 0 k.number n none) ∙ sym (by (is_live (e ∷ past) k)))
        where
          empty : unsent_copies rules k (e ∷ past) ≡ []
          empty = let number = own_link-number rules e past k are own in none-unsent rules (e ∷ past) are k (omega (arith, number))

          by : (b : Bool) → has_delivery n (copies_on rules (e ∷ past) (if b then Some k else None)) ≡ false
          by true = ap (has_delivery n) empty
          by false = refl

      -- whatever the event is, the numbers move so
      pub copies-next : (link n : ℕ) → before link n ≡ has_delivery n (copies_at rules link (e ∷ past))
      copies-next link n = by (own_link e) refl
        where
          of_another : (k : Link) → own_link e ≡ Some k → (b : Bool) → (k.number == link) ≡ b
              → before link n ≡ has_delivery n (copies_on rules (e ∷ past) (where_passes (is_live (e ∷ past)) (if b then Some k else link_at link past)))
          of_another k own true same =
              subst (λ m. before m n ≡ has_delivery n (copies_on rules (e ∷ past) (where_passes (is_live (e ∷ past)) (Some k)))) (eqb-true k.number link same) (opened k own n)
          of_another k own false other = unopened link n (link_at link past) refl

          by : (o : Option Link) → own_link e ≡ o
              → before link n ≡ has_delivery n (copies_on rules (e ∷ past) (where_passes (is_live (e ∷ past)) (find (λ (l : Link). l.number == link) (cons_option o (law.links past)))))
          by None own = unopened link n (link_at link past) refl
          by (Some k) own = of_another k own (k.number == link) refl
