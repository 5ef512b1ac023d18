-- What the groups don't find for an event, it doesn't touch.
use Rattle.std.proofs.Common.{◌≡◌, refl, sym, ap, ◌∙◌, ℕ, Bool, true, false, ◌&&◌, ◌||◌, not, List, [], ◌∷◌, Option, Some, None, IfSome, nat_eq, bytes_eq, nat_lt, option_map, option_and_then, subst, if◌then◌else◌, ◌==◌, eqb-true, eq-eqb}
use Rattle.std.specs.List.{list_any}
use Rattle.std.proofs.lemmas.Slice.Eq.{bytes_eq-Decides}
use Rattle.amqp_perf.specs.Meaning.{DispositionFields, flag}
use Rattle.number_groups.specs.Groups.{is_member}
use Rattle.number_groups.specs.OctetGroups as octets
use Rattle.pairing_cert.specs.declared.note.Note.{Note}
use Rattle.pairing_cert.specs.declared.note.Note.TheVariants as notes
use Rattle.trace_events.specs.Words.{is_number, is_some_and, where_passes}
use Rattle.trace_events.specs.Event.{Event, Link, Incoming, Outgoing, is_on_session}
use Rattle.trace_events.specs.Disposition.{covers_id}
use Rattle.trace_events.specs.Said.{in_disposition}
use Rattle.trace_events.specs.Link.{is_sender}
use Rattle.trace_events.specs.Ends.{ends_link}
use Rattle.trace_events.specs.Incoming.{is_part, settles_id}
use Rattle.trace_events.specs.Outgoing.{carried_number, names, noted_number, outgoing_begun}
use Rattle.trace_events.specs.Queue.{pairs}
use Rattle.trace_events.specs.declared.session.Session.{Session}
use Rattle.state_incoming.specs.Held.{Held, address_behind, says_waiting}
use Rattle.state_incoming.specs.HeldTouched.{is_touched}
use Rattle.state_incoming.specs.Grouped.{AreGrouped, is_of_session, is_of_link, is_for}
use Rattle.state_incoming.specs.Touched.{AreEnded, part_number, settled_session, is_left, may_touch}
use Rattle.state_incoming.proofs.HeldUntouched.{completes_none, address_same}
use Rattle.state_incoming.specs.declared.groups.HeldGroups.{HeldGroups}

or_none : (a b : Bool) → a || b ≡ false → (a ≡ false) × (b ≡ false)
or_none false b is = (refl, is)
or_none true b is = absurd cc

-- it is false, since it isn't true
unless : (b : Bool) → (b ≡ true → true ≡ false) → b ≡ false
unless false never = refl
unless true never = never refl

any_of : {A : Type 0} (p q : A → Bool) → ((x : A) → p x ≡ true → q x ≡ true) → (xs : List A) → list_any p xs ≡ true → list_any q xs ≡ true
any_of p q each [] is = is
any_of p q each (x ∷ xs) is = by (p x) refl (any_of p q each xs) is
  where
    by : (b : Bool) → p x ≡ b → (list_any p xs ≡ true → list_any q xs ≡ true) → b || list_any p xs ≡ true → q x || list_any q xs ≡ true
    by true on later is = ap (λ b. b || list_any q xs) (each x on)
    by false off later is = last (q x) (later is)
      where
        last : (b : Bool) → list_any q xs ≡ true → b || list_any q xs ≡ true
        last true is = refl
        last false is = is

part-none : (o : Option Incoming) (n : ℕ) → is_number (option_map (λ (d : Incoming). d.number) o) n ≡ false → is_some_and o (λ (d : Incoming). d.number == n) ≡ false
part-none None n off = refl
part-none (Some d) n off = off

named-none : (note : Note) (n : ℕ) → is_number (noted_number note) n ≡ false → names n note ≡ false
named-none (notes.Pair m) n off = off
named-none notes.None n off = refl
named-none (notes.Told why) n off = refl

pairs-none : (o : Option Outgoing) (number n : ℕ) → is_number (option_and_then (λ (j : Outgoing). noted_number j.note) o) n ≡ false
    → is_some_and (where_passes (λ (j : Outgoing). j.number == number) o) (λ (j : Outgoing). names n j.note) ≡ false
pairs-none None number n off = refl
pairs-none (Some j) number n off = by (j.number == number)
  where
    by : (b : Bool) → is_some_and (if b then Some j else None) (λ (j : Outgoing). names n j.note) ≡ false
    by true = named-none j.note n off
    by false = refl

and_first : (a b : Bool) → a && b ≡ true → a ≡ true
and_first true b is = refl
and_first false b is = absurd cc

and_last : (a b : Bool) → a && b ≡ true → b ≡ true
and_last true b is = is
and_last false b is = absurd cc

same-sym : (m n : ℕ) → (m == n) ≡ true → (n == m) ≡ true
same-sym m n same = eq-eqb n m (sym (eqb-true m n same))

module _ (groups : HeldGroups) (kept : ℕ → Option Held) (grouped : AreGrouped groups kept) (n : ℕ) (x : Held) (at : kept n ≡ Some x) where
  abbrev d : Incoming
  d = x.delivery

  number : d.number ≡ n
  number = subst (λ (o : Option Held). IfSome o (λ (y : Held). y.delivery.number ≡ n)) at (grouped.numbered n)

  in-session : (s : ℕ) → (d.link.session.number == s) ≡ true → x.is_undecided ≡ true → is_member nat_eq groups.of_session s n ≡ true
  in-session s same opens =
      grouped.of_session s n ∙ (ap (λ o. is_some_and o (λ (y : Held). is_of_session s y.delivery && y.is_undecided)) at ∙ (ap (λ b. b && x.is_undecided) same ∙ opens))

  on-link : (l : ℕ) → (d.link.number == l) ≡ true → x.is_undecided ≡ true → is_member nat_eq groups.undecided l n ≡ true
  on-link l same opens =
      grouped.undecided l n ∙ (ap (λ o. is_some_and o (λ (y : Held). is_of_link l y.delivery && y.is_undecided)) at ∙ (ap (λ b. b && x.is_undecided) same ∙ opens))

  at-address : (address : List ℕ) → bytes_eq x.address address ≡ true → says_waiting x.fate ≡ true → octets.is_member groups.waiting address n ≡ true
  at-address address same waits =
      grouped.waiting address n ∙ (ap (λ o. is_some_and o (λ (y : Held). is_for address y && says_waiting y.fate)) at ∙ (ap (λ b. b && says_waiting x.fate) same ∙ waits))

  module _ (has : List ℕ → Bool) (ended : List Link) (e : Event) (are : AreEnded e has ended kept) where
    -- a disposition of its producer
    settled-on : (fields : Option DispositionFields) (s : Option Session) → x.is_undecided ≡ true
        → is_some_and fields (λ (f : DispositionFields). is_sender f.role && flag f.settled && covers_id f d.id) ≡ true
        → is_some_and s (λ (t : Session). t.number == d.link.session.number) ≡ true
        → is_some_and (if is_some_and fields (λ (f : DispositionFields). is_sender f.role) then option_map (λ (t : Session). t.number) s else None) (λ session. is_member nat_eq groups.of_session session n) ≡ true
    settled-on None s opens says on = absurd cc
    settled-on (Some f) None opens says on = absurd cc
    settled-on (Some f) (Some t) opens says on =
        ap (λ b. is_some_and (if b then Some t.number else None) (λ session. is_member nat_eq groups.of_session session n)) (and_first (is_sender f.role) (flag f.settled) (and_first (is_sender f.role && flag f.settled) (covers_id f d.id) says))
        ∙ in-session t.number (same-sym t.number d.link.session.number on) opens

    settles : x.is_undecided ≡ true → settles_id d e ≡ true → is_some_and (settled_session e) (λ session. is_member nat_eq groups.of_session session n) ≡ true
    settles opens is =
        let says = is_some_and (in_disposition e) (λ (f : DispositionFields). is_sender f.role && flag f.settled && covers_id f d.id) in
        let three = and_first (says && e.is_heard && is_on_session d.link.session e) (nat_lt d.number e.number) is in
        let two = and_first (says && e.is_heard) (is_on_session d.link.session e) three in
        settled-on (in_disposition e) e.session opens (and_first says e.is_heard two)
        (and_first (is_some_and e.session (λ (t : Session). t.number == d.link.session.number)) (e.connection == d.link.session.connection) (and_last (says && e.is_heard) (is_on_session d.link.session e) three))

    ends : x.is_undecided && ends_link d.link e ≡ true → list_any (is_left groups has n) ended ≡ true
    ends is =
        any_of (λ (l : Link). l.number == d.link.number) (is_left groups has n)
        (λ l same. ap (λ b. b || not (has l.address) && octets.is_member groups.waiting l.address n) (on-link l.number (same-sym l.number d.link.number same) (and_first x.is_undecided (ends_link d.link e) is)))
        ended
        (subst (λ (o : Option Held). IfSome o (λ (y : Held). y.is_undecided && ends_link y.delivery.link e ≡ true → list_any (λ (l : Link). l.number == y.delivery.link.number) ended ≡ true)) at (are.producers n) is)

    loses : says_waiting x.fate && not (has x.address) ≡ true → list_any (is_left groups has n) ended ≡ true
    loses is =
        any_of (λ (l : Link). bytes_eq l.address x.address) (is_left groups has n) each ended
        (subst (λ (o : Option Held). IfSome o (λ (y : Held). says_waiting y.fate && not (has y.address) ≡ true → list_any (λ (l : Link). bytes_eq l.address y.address) ended ≡ true)) at (are.consumers n) is)
      where
        each : (l : Link) → bytes_eq l.address x.address ≡ true → is_left groups has n l ≡ true
        each l same =
            let one : l.address ≡ x.address = (bytes_eq-Decides l.address x.address).0 same in
            let here = at-address l.address (subst (λ a. bytes_eq a l.address ≡ true) one ((bytes_eq-Decides l.address l.address).1 refl)) (and_first (says_waiting x.fate) (not (has x.address)) is) in
            let none : not (has l.address) ≡ true = ap (λ a. not (has a)) one ∙ and_last (says_waiting x.fate) (not (has x.address)) is in
            last (is_member nat_eq groups.undecided l.number n) (ap (λ b. b && octets.is_member groups.waiting l.address n) none ∙ here)
          where
            last : (a : Bool) {b : Bool} → b ≡ true → a || b ≡ true
            last true is = refl
            last false is = is

    pub found : (to : List ℕ) → may_touch groups has ended e n ≡ false → is_touched e (has (address_behind e to x)) x ≡ false
    found to off =
        let a = or_none (is_number (part_number e) n || is_number e.told n || is_number (carried_number e) n || is_some_and (settled_session e) (λ session. is_member nat_eq groups.of_session session n)) (list_any (is_left groups has n) ended) off in
        let b = or_none (is_number (part_number e) n || is_number e.told n || is_number (carried_number e) n) (is_some_and (settled_session e) (λ session. is_member nat_eq groups.of_session session n)) a.0 in
        let c = or_none (is_number (part_number e) n || is_number e.told n) (is_number (carried_number e) n) b.0 in
        let f = or_none (is_number (part_number e) n) (is_number e.told n) c.0 in
        let part : is_part d e ≡ false = ap (λ m. is_some_and e.incoming (λ (y : Incoming). y.number == m)) number ∙ part-none e.incoming n f.0 in
        let told : is_number e.told d.number ≡ false = ap (is_number e.told) number ∙ f.1 in
        let pair : pairs d e ≡ false = ap (λ m. is_some_and (outgoing_begun e) (λ (j : Outgoing). names m j.note)) number ∙ pairs-none e.outgoing e.number n c.1 in
        let shut : x.is_undecided && (settles_id d e || ends_link d.link e) ≡ false =
        unless (x.is_undecided && (settles_id d e || ends_link d.link e)) (λ is. either is b.1 a.1) in
        let stood : address_behind e to x ≡ x.address = address_same e to x (completes_none e d e.incoming refl part) in
        let waits : says_waiting x.fate && not (has (address_behind e to x)) ≡ false =
        ap (λ a. says_waiting x.fate && not (has a)) stood ∙ unless (says_waiting x.fate && not (has x.address)) (λ is. sym (loses is) ∙ a.1) in
        rw (part, told, pair, shut, waits) refl
      where
        by : (u s l : Bool) → u && (s || l) ≡ true → (u ≡ true → s ≡ true → true ≡ false) → (u && l ≡ true → true ≡ false) → true ≡ false
        by true true l is first second = first refl refl
        by true false true is first second = second refl
        by true false false is first second = sym is
        by false s l is first second = sym is

        either : x.is_undecided && (settles_id d e || ends_link d.link e) ≡ true → is_some_and (settled_session e) (λ session. is_member nat_eq groups.of_session session n) ≡ false
            → list_any (is_left groups has n) ended ≡ false → true ≡ false
        either is none empty = by x.is_undecided (settles_id d e) (ends_link d.link e) is (λ opens says. sym (settles opens says) ∙ none) (λ over. sym (ends over) ∙ empty)
