-- In a lawful capture a transfer that begins a delivery carries one that is complete, and an anycast one for the first time.
use Rattle.std.proofs.Common.{◌≡◌, refl, sym, ap, ◌∙◌, subst, ℕ, suc, ◌<◌, ◌≤◌, ◌⊎◌, inl, inr, List, [], ◌∷◌, length, Bool, true, false, cond, not, ◌&&◌, ◌||◌, ◌==◌, Option, Some, None, IfSome, is_some, find, filter, arith, eqb-true}
use Rattle.std.specs.Prelude.{if◌then◌else◌}
use Rattle.std.specs.List.{cons_option}
use Rattle.pairing_cert.specs.declared.note.Note.{Note}
use Rattle.pairing_cert.specs.declared.note.Note.TheVariants as notes
use Rattle.capture_form.specs.declared.records.Record.{Record}
use Rattle.capture_form.specs.Rules.{RuleSet}
use Rattle.trace_events.specs.declared.clause.Clause.TheVariants.{L9}
use Rattle.trace_events.specs.Words.{is_some_and, where_passes}
use Rattle.trace_events.specs.Event.{Event, Incoming, Outgoing}
use Rattle.trace_events.specs.Credit.{begins_outgoing}
use Rattle.trace_events.specs.Incoming.{completes, is_complete, incoming_begun, incoming_deliveries, incoming_at}
use Rattle.trace_events.specs.Outgoing.{outgoing_begun, outgoing_deliveries, names, noted, pairing, is_paired}
use Rattle.trace_events.specs.Waiting.{is_of_multicast, is_gone}
use Rattle.trace_events.specs.History.{history}
use Rattle.trace_events.specs.Clauses.{first_broken, meaning_meets}
use Rattle.trace_events.specs.TransferClause.{goes_once_and_in_order, to_carry, goes_to_one_or_is_due, is_in_order}
use Rattle.trace_events.specs.Kept.{carriers}
use Rattle.trace_events.proofs.ClausesMet.{met, lawful-past}
use Rattle.trace_events.proofs.Judged.{AreJudged, IsTransfer, IsBorn, history-judged, judged-born, judged-number, judged-transfer}

-- ---- on options and lists

pub some-and : {A : Type 0} (o : Option A) (test : A → Bool) → is_some_and o test ≡ true → (x : A) × (o ≡ Some x) × (test x ≡ true)
some-and None test e = absurd cc
some-and (Some x) test e = (x, refl, e)

kept : {A : Type 0} (test : A → Bool) (x y : A) (b : Bool) → test x ≡ b → (if b then Some x else None) ≡ Some y → (x ≡ y) × (test y ≡ true)
kept test x y true is e = let same : x ≡ y = cc in (same, subst (λ z. test z ≡ true) same is)
kept test x y false is e = absurd cc

pub passes-some : {A : Type 0} (test : A → Bool) (o : Option A) (y : A) → where_passes test o ≡ Some y → (o ≡ Some y) × (test y ≡ true)
passes-some test None y e = absurd cc
passes-some test (Some x) y e = let h = kept test x y (test x) refl e in (ap Some h.0, h.1)

found-or : {A : Type 0} (P : A → Type 0) (test : A → Bool) (x : A) (xs : List A) (b : Bool) → test x ≡ b → (test x ≡ true → P x) → IfSome (find test xs) P
    → IfSome (cond b (Some x) (find test xs)) P
found-or P test x xs true is here later = here is
found-or P test x xs false is here later = later

found-cons : {A : Type 0} (P : A → Type 0) (test : A → Bool) (o : Option A) (xs : List A) → ((x : A) → o ≡ Some x → test x ≡ true → P x)
    → IfSome (find test xs) P → IfSome (find test (cons_option o xs)) P
found-cons P test None xs here later = later
found-cons P test (Some x) xs here later = found-or P test x xs (test x) refl (here x refl) later

none-kept : {A : Type 0} (test : A → Bool) (x : A) (xs : List A) (b : Bool) → test x ≡ b → cond b (Some x) (find test xs) ≡ None
    → (find test xs ≡ None → filter test xs ≡ []) → cond b (x ∷ filter test xs) (filter test xs) ≡ []
none-kept test x xs true is e later = absurd cc
none-kept test x xs false is e later = later e

pub none-found : {A : Type 0} (test : A → Bool) (xs : List A) → find test xs ≡ None → filter test xs ≡ []
none-found test [] e = refl
none-found test (x ∷ xs) e = none-kept test x xs (test x) refl e (none-found test xs)

pub not-some : {A : Type 0} (o : Option A) → is_some o ≡ false → o ≡ None
not-some None e = refl
not-some (Some x) e = absurd cc

pub and-left : (b c : Bool) → b && c ≡ true → b ≡ true
and-left true c e = refl
and-left false c e = absurd cc

pub or-right : (b c : Bool) → b ≡ true → not b || c ≡ true → c ≡ true
or-right true c is e = e
or-right false c is e = absurd cc

pub not-true : (b : Bool) → not b ≡ true → b ≡ false
not-true true e = absurd cc
not-true false e = refl

names-pair : (n : ℕ) (note : Note) → names n note ≡ true → note ≡ notes.Pair n
names-pair n notes.None e = absurd cc
names-pair n (notes.Pair m) e = ap notes.Pair (eqb-true m n e)
names-pair n (notes.Told why) e = absurd cc

-- ---- incoming deliveries by their number

IsAt : ℕ → ℕ → Incoming → Type 0
IsAt n len d = (n < len) × (d.number ≡ n)

at-later : (n len : ℕ) (o : Option Incoming) → IfSome o (λ d. (n < len) × (d.number ≡ n)) → IfSome o (λ d. (n < suc len) × (d.number ≡ n))
at-later n len None h = tt
at-later n len (Some d) h = let lt = h.0 in (omega (arith, lt), h.1)

pub incoming_at-is : (rules : RuleSet) (past : List Event) (n : ℕ) → AreJudged rules past
    → IfSome (incoming_at n past) (λ d. (n < length past) × (d.number ≡ n))
incoming_at-is rules [] n are = tt
incoming_at-is rules (e ∷ past) n are =
    found-cons (λ (d : Incoming). (n < suc (length past)) × (d.number ≡ n)) (λ d. d.number == n) (incoming_begun e) (incoming_deliveries past)
    (λ d is test. let same : d.number ≡ n = eqb-true d.number n test in
    let here : d.number ≡ e.number = eqb-true d.number e.number (passes-some (λ (x : Incoming). x.number == e.number) e.incoming d is).1 in
    let number : e.number ≡ length past = judged-number rules e past are in
    (omega (arith, same, here, number), same))
    (at-later n (length past) (incoming_at n past) (incoming_at-is rules past n are.1))

-- a delivery that is found was begun before, or has the event's number
module _ (rules : RuleSet) (e : Event) (past : List Event) (are : AreJudged rules (e ∷ past)) (n : ℕ) (d : Incoming) where
  found-by : (x : Incoming) → incoming_begun e ≡ Some x → (b : Bool) → (x.number == n) ≡ b → cond b (Some x) (incoming_at n past) ≡ Some d
      → (incoming_at n past ≡ Some d) ⊎ (n ≡ length past)
  found-by x begun true is found =
      let same : x.number ≡ n = eqb-true x.number n is in
      let here : x.number ≡ e.number = eqb-true x.number e.number (passes-some (λ (y : Incoming). y.number == e.number) e.incoming x begun).1 in
      inr (sym same ∙ (here ∙ judged-number rules e past are))
  found-by x begun false is found = inl found

  pub found-at : (o : Option Incoming) → incoming_begun e ≡ o → find (λ x. x.number == n) (cons_option o (incoming_deliveries past)) ≡ Some d
      → (incoming_at n past ≡ Some d) ⊎ (n ≡ length past)
  found-at None begun found = inl found
  found-at (Some x) begun found = found-by x begun (x.number == n) refl found

-- ---- an event that begins a delivery to a client

pub record Begins (rules : RuleSet) (e : Event) (past : List Event) (j : Outgoing) : Type 0 where
  pub note : j.note ≡ e.note
  pub carried : Incoming
  pub is : noted e.note past ≡ Some carried
  pub complete : is_complete carried past ≡ true
  pub first : is_of_multicast rules carried past ≡ false → is_paired carried past ≡ false

born-here : (n : ℕ) (note : Note) (j : Outgoing) → j.number ≡ n → IsBorn n note j → j.note ≡ note
born-here n note j same (inl lt) = absurd (omega (arith, same, lt))
born-here n note j same (inr (number, is)) = is

otherwise : (b x y : Bool) → b ≡ false → cond b x y ≡ true → y ≡ true
otherwise true x y is e = absurd cc
otherwise false x y is e = e

module _ (rules : RuleSet) (e : Event) (past : List Event) (are : AreJudged rules (e ∷ past)) (lawful : first_broken rules (e ∷ past) ≡ None) (j : Outgoing)
    (begun : outgoing_begun e ≡ Some j) where
  own : (e.outgoing ≡ Some j) × ((j.number == e.number) ≡ true)
  own = passes-some (λ (x : Outgoing). x.number == e.number) e.outgoing j begun

  transfer : IsTransfer e.moment
  transfer = subst (λ (o : Option Outgoing). IfSome o (λ k. IsTransfer e.moment)) own.0 (judged-transfer rules e past are)

  own-note : j.note ≡ e.note
  own-note =
      let born : IsBorn (length past) e.note j = subst (λ (o : Option Outgoing). IfSome o (IsBorn (length past) e.note)) own.0 (judged-born rules (e ∷ past) are).0 in
      born-here (length past) e.note j (eqb-true j.number e.number own.1 ∙ judged-number rules e past are) born

  begins : begins_outgoing e ≡ true
  begins = ap (λ (o : Option Outgoing). is_some_and o (λ k. k.number == e.number)) own.0 ∙ own.1

  goes : is_some_and e.link (goes_once_and_in_order rules e past) ≡ true
  goes =
      let t = transfer in
      let same : meaning_meets rules e t.spoken past t.spoken.meaning L9 ≡ (not (begins_outgoing e) || is_some_and e.link (goes_once_and_in_order rules e past)) =
      ap (λ m. meaning_meets rules e t.spoken past m L9) t.means in
      or-right (begins_outgoing e) (is_some_and e.link (goes_once_and_in_order rules e past)) begins
      (sym same ∙ met rules e past lawful t.frame t.written t.spoken t.says L9)

  begun-facts : Begins rules e past j
  begun-facts =
      let l = some-and e.link (goes_once_and_in_order rules e past) goes in
      let d = some-and (to_carry rules e.note past) (λ x. goes_to_one_or_is_due rules l.0 past x && is_in_order l.0 past x) l.2 in
      record {
        note = own-note;
        carried = d.0;
        is = (passes-some _ (noted e.note past) d.0 d.1).0;
        complete = and-left (is_complete d.0 past) (not (is_gone rules d.0 past)) (passes-some (λ x. is_complete x past && not (is_gone rules x past)) (noted e.note past) d.0 d.1).1;
        first = λ anycast. not-true (is_paired d.0 past)
            (otherwise (is_of_multicast rules d.0 past) _ (not (is_paired d.0 past)) anycast (and-left _ _ d.2));
      }

  -- the delivery that it names was begun before
  pub carried-at : (n : ℕ) → names n j.note ≡ true → (d : Incoming) × (incoming_at n past ≡ Some d) × (n < length past) × (d.number ≡ n) × (is_of_multicast rules d past ≡ false → is_paired d past ≡ false) × (is_complete d past ≡ true)
  carried-at n named =
      let f = begun-facts in
      let note : e.note ≡ notes.Pair n = sym f.note ∙ names-pair n j.note named in
      let found : incoming_at n past ≡ Some f.carried = sym (ap (λ x. noted x past) note) ∙ f.is in
      let at = subst (λ (o : Option Incoming). IfSome o (λ d. (n < length past) × (d.number ≡ n))) found (incoming_at-is rules past n are.1) in
      (f.carried, found, at.0, at.1, f.first, f.complete)

-- ---- nothing carries a delivery that hasn't begun

module _ (rules : RuleSet) (e : Event) (past : List Event) (are : AreJudged rules (e ∷ past)) (lawful : first_broken rules (e ∷ past) ≡ None)
    (n : ℕ) (above : suc (length past) ≤ n) (before : carriers n past ≡ []) where
  none-by : (j : Outgoing) → outgoing_begun e ≡ Some j → (b : Bool) → names n j.note ≡ b → cond b (j ∷ carriers n past) (carriers n past) ≡ []
  none-by j begun true named = let at = carried-at rules e past are lawful j begun n named in let lt = at.2 in absurd (omega (arith, lt, above))
  none-by j begun false named = before

  pub none-at : (o : Option Outgoing) → outgoing_begun e ≡ o → filter (λ j. names n j.note) (cons_option o (outgoing_deliveries past)) ≡ []
  none-at None begun = before
  none-at (Some j) begun = none-by j begun (names n j.note) refl

pub none-named : (rules : RuleSet) (past : List Event) → AreJudged rules past → first_broken rules past ≡ None → (n : ℕ) → length past ≤ n → carriers n past ≡ []
none-named rules [] are lawful n above = refl
none-named rules (e ∷ past) are lawful n above =
    none-at rules e past are lawful n above (none-named rules past are.1 (lawful-past rules e past lawful) n (omega (arith, above))) (outgoing_begun e) refl
