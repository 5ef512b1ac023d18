-- The deliveries to clients that carry a delivery from a client are told by their numbers.
use Rattle.std.proofs.Common.{◌≡◌, refl, sym, ap, ◌∙◌, inl, inr, ℕ, Bool, true, false, ◌&&◌, ◌||◌, List, [], ◌∷◌, map, filter, find, Option, Some, None, is_some, nat_eq, option_and_then, option_map, if◌then◌else◌, eqb-true, eq-eqb}
use Rattle.std.specs.Prelude.{Contains}
use Rattle.std.specs.List.{cons_option, list_all, list_any, slice_get}
use Rattle.number_groups.specs.Numbers.{is_among}
use Rattle.pairing_cert.specs.declared.note.Note.{Note}
use Rattle.pairing_cert.specs.declared.note.Note.TheVariants as notes
use Rattle.capture_form.specs.Rules.{RuleSet}
use Rattle.trace_events.specs.Words.{is_some_and}
use Rattle.trace_events.specs.Event.{Event, Outgoing}
use Rattle.trace_events.specs.Outgoing.{outgoing_begun, outgoing_deliveries, outgoing_at, names}
use Rattle.trace_events.proofs.Judged.{AreJudged}
use Rattle.trace_events.specs.Kept.{carriers}
use Rattle.trace_events.proofs.WaitingQueue.{contains_cases, contains_first, contains_later, contains_none, filter_has, in_filter}
use Rattle.state_tables.specs.LetGo.{is_let_go, names_let_go}
use Rattle.state_outgoing.specs.LastBegun.{carrier, carrier_number, carrier_numbers, begins_carrier, carriers_next}
use Rattle.state_outgoing.specs.LetGo.{where_kept, kept_at, is_done, is_finished}
use Rattle.state_outgoing.specs.Sent.{Sent, sent}
use Rattle.state_outgoing.proofs.SentKept.{contained-at, stays-kept}
use Rattle.state_outgoing.proofs.OutgoingNumbers.{begun-number, found-passes, found-entry}

-- ---- lists by a test

-- where none of some numbers passes, each of them does not
pub none-gives : (test : ℕ → Bool) (ns : List ℕ) → list_any test ns ≡ false → (n : ℕ) → is_among ns n ≡ true → test n ≡ false
none-gives test [] none n is = absurd cc
none-gives test (m ∷ ms) none n is = by (nat_eq n m) refl is (none-gives test ms (rest (test m) (list_any test ms) none) n)
  where
    first : (a b : Bool) → a || b ≡ false → a ≡ false
    first false b is = refl
    first true b is = absurd cc

    rest : (a b : Bool) → a || b ≡ false → b ≡ false
    rest false b is = is
    rest true b is = absurd cc

    by : (b : Bool) → nat_eq n m ≡ b → b || is_among ms n ≡ true → (is_among ms n ≡ true → test n ≡ false) → test n ≡ false
    by true here is later = ap test (eqb-true n m here) ∙ first (test m) (list_any test ms) none
    by false off is later = later is

module _ {A : Type 0} where
  -- the first that passes is the first of all that pass
  pub first-found : (f : A → ℕ) (test : A → Bool) (xs : List A) → slice_get (map f (filter test xs)) 0 ≡ option_map f (find test xs)
  first-found f test [] = refl
  first-found f test (x ∷ xs) = by (test x) (first-found f test xs)
    where
      by : (b : Bool) → slice_get (map f (filter test xs)) 0 ≡ option_map f (find test xs)
          → slice_get (map f (if b then x ∷ filter test xs else filter test xs)) 0 ≡ option_map f (if b then Some x else find test xs)
      by true later = refl
      by false later = later

  -- all of a list pass, where each does
  pub all-from : (p : A → Bool) (xs : List A) → ((x : A) → Contains xs x → p x ≡ true) → list_all p xs ≡ true
  all-from p [] each = refl
  all-from p (x ∷ xs) each = ap (λ b. b && list_all p xs) (each x (contains_first x xs)) ∙ all-from p xs (λ y has. each y (contains_later x xs y has))

  pub all-gives : (p : A → Bool) (xs : List A) → list_all p xs ≡ true → (x : A) → Contains xs x → p x ≡ true
  all-gives p [] all x has = contains_none x has
  all-gives p (y ∷ ys) all x has = elim (contains_cases y ys x has) [
    | inl same ↦ ap p (sym same) ∙ both-first (p y) (list_all p ys) all
    | inr later ↦ all-gives p ys (both-last (p y) (list_all p ys) all) x later
  ]
    where
      both-first : (a b : Bool) → a && b ≡ true → a ≡ true
      both-first true b is = refl
      both-first false b is = absurd cc

      both-last : (a b : Bool) → a && b ≡ true → b ≡ true
      both-last true b is = is
      both-last false b is = absurd cc

  -- a number that is among those of a list is one of them
  pub record IsAmongThem (f : A → ℕ) (xs : List A) (n : ℕ) : Type 0 where
    pub it : A
    pub has : Contains xs it
    pub number : f it ≡ n

  pub among-gives : (f : A → ℕ) (xs : List A) (n : ℕ) → is_among (map f xs) n ≡ true → IsAmongThem f xs n
  among-gives f [] n is = absurd cc
  among-gives f (x ∷ xs) n is = by (nat_eq n (f x)) refl is (among-gives f xs n)
    where
      by : (b : Bool) → nat_eq n (f x) ≡ b → b || is_among (map f xs) n ≡ true → (is_among (map f xs) n ≡ true → IsAmongThem f xs n) → IsAmongThem f (x ∷ xs) n
      by true here is later = record { it = x; has = contains_first x xs; number = sym (eqb-true n (f x) here) }
      by false off is later = let found = later is in record { it = found.it; has = contains_later x xs found.it found.has; number = found.number }

  pub among-has : (f : A → ℕ) (xs : List A) (x : A) → Contains xs x → is_among (map f xs) (f x) ≡ true
  among-has f [] x has = contains_none x has
  among-has f (y ∷ ys) x has = elim (contains_cases y ys x has) [
    | inl same ↦ ap (λ b. b || is_among (map f ys) (f x)) (ap (λ z. nat_eq (f x) (f z)) same ∙ own (f x))
    | inr later ↦ ap (λ b. nat_eq (f x) (f y) || b) (among-has f ys x later) ∙ or_true (nat_eq (f x) (f y))
  ]
    where
      or_true : (a : Bool) → a || true ≡ true
      or_true true = refl
      or_true false = refl

      own : (n : ℕ) → nat_eq n n ≡ true
      own n = eq-eqb n n refl

-- ---- one more event

-- those that carry it stand behind the one that the event begins, where that carries it
pub carriers-step : (e : Event) (past : List Event) (n : ℕ) → carrier_numbers n (e ∷ past) ≡ carriers_next e n (carrier_numbers n past)
carriers-step e past n = by (outgoing_begun e) refl
  where
    named : (j : Outgoing) → j.number ≡ e.number → (b : Bool) → map (λ (k : Outgoing). k.number) (if b then j ∷ carriers n past else carriers n past)
        ≡ (if b then e.number ∷ carrier_numbers n past else carrier_numbers n past)
    named j number true = ap (λ m. m ∷ carrier_numbers n past) number
    named j number false = refl

    by : (o : Option Outgoing) → outgoing_begun e ≡ o → map (λ (k : Outgoing). k.number) (filter (λ (j : Outgoing). names n j.note) (cons_option o (outgoing_deliveries past)))
        ≡ (if is_some_and o (λ (j : Outgoing). names n j.note) then e.number ∷ carrier_numbers n past else carrier_numbers n past)
    by None none = refl
    by (Some j) begun = named j (begun-number e j begun) (names n j.note)

-- so what a table has of them is moved
pub carriers-moved : (e : Event) (past : List Event) (n : ℕ) (old new : List ℕ) → old ≡ carrier_numbers n past → new ≡ carriers_next e n old → new ≡ carrier_numbers n (e ∷ past)
carriers-moved e past n old new was moved = moved ∙ (ap (carriers_next e n) was ∙ sym (carriers-step e past n))

-- the first of them is the last one
pub carrier-first : (n : ℕ) (past : List Event) → slice_get (carrier_numbers n past) 0 ≡ carrier_number n past
carrier-first n past = first-found (λ (j : Outgoing). j.number) (λ (j : Outgoing). names n j.note) (outgoing_deliveries past)

-- ---- of those that were let go

module _ (gone : List (ℕ × Unit {0})) (n : ℕ) where
  -- a note that names it names one that was let go where it is one
  pub named-gone : (note : Note) → names n note ≡ true → names_let_go gone note ≡ is_let_go gone n
  named-gone (notes.Pair m) named = ap (is_let_go gone) (eqb-true m n named)
  named-gone notes.None named = absurd cc
  named-gone (notes.Told why) named = absurd cc

  -- so an event that begins none of them begins no carrier of it
  module _ (e : Event) (apart : is_some_and (outgoing_begun e) (λ j. names_let_go gone j.note) ≡ false) where
    none-begins : is_let_go gone n ≡ true → begins_carrier e n ≡ false
    none-begins is = by (outgoing_begun e) apart
      where
        other : (j : Outgoing) → names_let_go gone j.note ≡ false → (b : Bool) → names n j.note ≡ b → b ≡ false
        other j none false named = refl
        other j none true named = let never : true ≡ false = sym is ∙ (sym (named-gone j.note named) ∙ none) in absurd cc

        by : (o : Option Outgoing) → is_some_and o (λ j. names_let_go gone j.note) ≡ false → is_some_and o (λ j. names n j.note) ≡ false
        by None none = refl
        by (Some j) none = other j none (names n j.note) refl

    -- what a table has without them is moved
    pub carriers-kept : (past : List Event) (old new : List ℕ) → old ≡ (if is_let_go gone n then [] else carrier_numbers n past) → new ≡ carriers_next e n old
        → new ≡ (if is_let_go gone n then [] else carrier_numbers n (e ∷ past))
    carriers-kept past old new was moved = by (is_let_go gone n) refl
      where
        by : (b : Bool) → is_let_go gone n ≡ b → new ≡ (if b then [] else carrier_numbers n (e ∷ past))
        by true is =
            moved ∙ (ap (λ b. if b then e.number ∷ old else old) (none-begins is) ∙ (was ∙ ap (λ b. if b then [] else carrier_numbers n past) is))
        by false is = carriers-moved e past n old new (was ∙ ap (λ b. if b then [] else carrier_numbers n past) is) moved

  -- and the last one of what it has is the law's
  pub first-kept : (past : List Event) (has : List ℕ) → has ≡ (if is_let_go gone n then [] else carrier_numbers n past) → slice_get has 0 ≡ (if is_let_go gone n then None else carrier_number n past)
  first-kept past has is = ap (λ xs. slice_get xs 0) is ∙ by (is_let_go gone n)
    where
      by : (b : Bool) → slice_get (if b then [] else carrier_numbers n past) 0 ≡ (if b then None else carrier_number n past)
      by true = refl
      by false = carrier-first n past

-- ---- where what is known of each delivery is kept by its number

some-map : {A B : Type 0} (f : A → B) (o : Option A) → is_some o ≡ is_some (option_map f o)
some-map f None = refl
some-map f (Some x) = refl

module _ (rules : RuleSet) (past : List Event) (are : AreJudged rules past) (gone : List (ℕ × Unit {0})) (kept : ℕ → Option Sent) (were : (n : ℕ) → kept n ≡ kept_at gone n past)
    (number : ℕ) (stays : is_let_go gone number ≡ false) where
  -- what is kept of one that carries it
  pub carrying-kept : (j : Outgoing) → outgoing_at j.number past ≡ Some j → names number j.note ≡ true → kept j.number ≡ Some (sent past j)
  carrying-kept j at named =
      were j.number ∙ (ap (λ o. where_kept gone (option_map (sent past) o)) at ∙ stays-kept gone (sent past j) (named-gone gone number j.note named ∙ stays))

  -- and of the last one, by its number
  module _ (last : Option ℕ) (is_last : last ≡ (if is_let_go gone number then None else carrier_number number past)) where
    -- it was not let go
    is-carrier : last ≡ carrier_number number past
    is-carrier = is_last ∙ ap (λ b. if b then None else carrier_number number past) stays

    carrier-entry : option_and_then kept last ≡ option_map (sent past) (carrier number past)
    carrier-entry = ap (option_and_then kept) is-carrier ∙ (found-entry rules past are (λ (j : Outgoing). names number j.note) gone kept were ∙ by (carrier number past) refl)
      where
        by : (o : Option Outgoing) → carrier number past ≡ o → where_kept gone (option_map (sent past) o) ≡ option_map (sent past) o
        by None none = refl
        by (Some j) found =
            stays-kept gone (sent past j) (named-gone gone number j.note (found-passes (λ (k : Outgoing). names number k.note) (outgoing_deliveries past) j found) ∙ stays)

    pub pairing-entry : option_map (λ x. x.delivery) (option_and_then kept last) ≡ carrier number past
    pairing-entry = ap (option_map (λ (x : Sent). x.delivery)) carrier-entry ∙ by (carrier number past)
      where
        by : (o : Option Outgoing) → option_map (λ (x : Sent). x.delivery) (option_map (sent past) o) ≡ o
        by None = refl
        by (Some j) = refl

    pub paired-entry : is_some last ≡ is_some (carrier number past)
    paired-entry = ap is_some is-carrier ∙ sym (some-map (λ (j : Outgoing). j.number) (carrier number past))

  -- and whether all are finished
  abbrev done : ℕ → Bool
  done m = is_some_and (kept m) is_done

  done-finished : (j : Outgoing) → outgoing_at j.number past ≡ Some j → names number j.note ≡ true → done j.number ≡ is_finished past j
  done-finished j at named = ap (λ o. is_some_and o is_done) (carrying-kept j at named)

  module _ (has : List ℕ) (is_all : has ≡ (if is_let_go gone number then [] else carrier_numbers number past)) where
    is-carriers : has ≡ carrier_numbers number past
    is-carriers = is_all ∙ ap (λ b. if b then [] else carrier_numbers number past) stays

    all-done : list_all done has ≡ list_all (λ (j : Outgoing). done j.number) (carriers number past)
    all-done = ap (list_all done) is-carriers ∙ mapped (carriers number past)
      where
        mapped : (js : List Outgoing) → list_all done (map (λ (j : Outgoing). j.number) js) ≡ list_all (λ (j : Outgoing). done j.number) js
        mapped [] = refl
        mapped (j ∷ js) = ap (λ b. done j.number && b) (mapped js)

    pub done-each : list_all done has ≡ true → (j : Outgoing) → Contains (outgoing_deliveries past) j → names number j.note ≡ true → is_finished past j ≡ true
    done-each all j there named =
        sym (done-finished j (contained-at rules past are j there) named)
        ∙ all-gives (λ (k : Outgoing). done k.number) (carriers number past) (sym all-done ∙ all) j (filter_has (λ (k : Outgoing). names number k.note) (outgoing_deliveries past) j named there)

    -- and where no number of them passes a test, that of none does
    pub none-passes : (test : ℕ → Bool) → list_any test has ≡ false → (j : Outgoing) → Contains (outgoing_deliveries past) j → names number j.note ≡ true → test j.number ≡ false
    none-passes test none j there named =
        none-gives test has none j.number
        (ap (λ ns. is_among ns j.number) is-carriers
        ∙ among-has (λ (k : Outgoing). k.number) (carriers number past) j (filter_has (λ (k : Outgoing). names number k.note) (outgoing_deliveries past) j named there))

    pub each-done : ((j : Outgoing) → Contains (outgoing_deliveries past) j → names number j.note ≡ true → is_finished past j ≡ true) → list_all done has ≡ true
    each-done each =
        all-done
        ∙ all-from (λ (k : Outgoing). done k.number) (carriers number past)
        (λ j there.
        let of = in_filter (λ (k : Outgoing). names number k.note) (outgoing_deliveries past) j there in
        done-finished j (contained-at rules past are j of.0) of.1 ∙ each j of.0 of.1)
