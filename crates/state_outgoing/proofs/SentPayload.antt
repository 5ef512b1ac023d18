-- In a lawful capture each delivery to a client has sent the first octets of the payload that it carries; so what goes on with
-- them is compared with the rest of that payload alone.
use Rattle.std.proofs.Common.{◌≡◌, refl, sym, ap, subst, ◌∙◌, ℕ, ◌%◌, ◌^◌, ◌<◌, ◌≤◌, Bool, true, false, ◌&&◌, ◌||◌, List, [], ◌∷◌, ◌++◌, length, take, drop, Option, Some, None, IfSome, IsSomeAnd, unwrap_or, ◌⊎◌, find, option_and_then, option_map, if◌then◌else◌, ◌==◌, inl, inr, arith, eqb-true, eq-eqb, ne_eqb}
use Rattle.std.specs.List.{cons_option, starts_with}
use Rattle.std.proofs.lemmas.List.{length-append, take-append-drop}
use Rattle.std.proofs.Math.Seq.{take-append-add}
use lib.Pointwise.{pointwise}
use Rattle.pairing_cert.specs.declared.note.Note.{Note}
use Rattle.capture_form.specs.declared.records.Record.{Record}
use Rattle.capture_form.specs.Rules.{RuleSet}
use Rattle.trace_events.specs.declared.clause.Clause.TheVariants.{L6}
use Rattle.trace_events.specs.Words.{is_some_and}
use Rattle.trace_events.specs.Frame.{Frame, Spoken, spoken_in}
use Rattle.trace_events.specs.Event.{Event, Incoming, Outgoing, out_frame}
use Rattle.trace_events.specs.Said.{as_transfer, out_spoken, out_transfer}
use Rattle.trace_events.specs.Credit.{begins_outgoing}
use Rattle.trace_events.specs.History.{history}
use Rattle.trace_events.specs.Incoming as incoming
use Rattle.trace_events.specs.Incoming.{is_complete}
use Rattle.trace_events.specs.Outgoing as law
use Rattle.trace_events.specs.Outgoing.{is_part, outgoing_begun, outgoing_deliveries, outgoing_at, noted}
use Rattle.trace_events.proofs.Along.{and_last, some_such}
use Rattle.trace_events.proofs.Fates.{complete-stays}
use Rattle.trace_events.proofs.Judged.{AreJudged, IsTransfer, judged-born, judged-number, judged-transfer, history-judged}
use Rattle.trace_events.proofs.Links.{passing}
use Rattle.trace_events.proofs.OutgoingSteps.{payload-same}
use Rattle.trace_events.specs.Clauses.{first_broken, meaning_meets}
use Rattle.trace_events.specs.Kept.{AreFirst}
use Rattle.trace_events.specs.TransferClause.{goes_on_with, is_same_note, is_payload_so_far}
use Rattle.trace_events.proofs.ClausesMet.{met, lawful-past}
use Rattle.trace_events.proofs.Incomings.{complete-payload, judged-part, judged-sound, at-step}
use Rattle.trace_events.proofs.JudgedHistories.{judged-keeps}
use Rattle.trace_events.proofs.OutgoingProgress.{IsPartOf, judged-outgoing_part, judged-carrying, noted_pair}
use Rattle.trace_events.specs.Known.{IsCarriedBy}
use Rattle.trace_events.proofs.SameNotes.{by_note}
use Rattle.state_outgoing.specs.Sent.{Sent, sent, sent_at, IsEntry, IsKnownTo}
use Rattle.state_outgoing.specs.Sent as kept
use Rattle.state_outgoing.proofs.SentBegun.{at-number, found-below, payload-none}
use Rattle.state_outgoing.proofs.SentKnown.{sent-of}

known : {A : Type 0} (P : A → Type 0) (o : Option A) (x : A) → o ≡ Some x → IfSome o P → P x
known P o x is h = subst (λ (p : Option _). IfSome p P) is h

known_and : {A : Type 0} (P : A → Type 0) (o : Option A) (x : A) → o ≡ Some x → IsSomeAnd o P → P x
known_and P o x is h = subst (λ (p : Option _). IsSomeAnd p P) is h

same_some : {A : Type 0} (a b : A) → Some a ≡ Some b → a ≡ b
same_some a b is = cc

or_other : (b c : Bool) → b ≡ false → b || c ≡ true → c ≡ true
or_other true c none is = absurd cc
or_other false c none is = is

-- what it carries is complete, and what it has sent are the first octets of that payload
pub record IsFirstOf (past : List Event) (j : Outgoing) : Type 0 where
  pub delivery : Incoming
  pub is : noted j.note past ≡ Some delivery
  pub complete : is_complete delivery past ≡ true
  pub first : AreFirst (law.payload j past) (incoming.payload delivery past)

module _ (rules : RuleSet) (e : Event) (past : List Event) (are : AreJudged rules (e ∷ past)) (lawful : first_broken rules (e ∷ past) ≡ None) where
  number : e.number ≡ length past
  number = judged-number rules e past are

  noted_later : (note : Note) (d : Incoming) → noted note past ≡ Some d → noted note (e ∷ past) ≡ Some d
  noted_later note d is =
      let pair = noted_pair rules past are.1 note d is in
      ap (λ note. noted note (e ∷ past)) pair.0 ∙ (at-step e past number (judged-part rules e past are) (judged-sound rules past are.1) d.number pair.1 ∙ pair.2)

  -- behind the event the payload that is carried is the same
  later : (j : Outgoing) (d : Incoming) → noted j.note past ≡ Some d → is_complete d past ≡ true → AreFirst (law.payload j (e ∷ past)) (incoming.payload d past) → IsFirstOf (e ∷ past) j
  later j d is complete first = record {
    delivery = d;
    is = noted_later j.note d is;
    complete = complete-stays d e past complete;
    first = subst (λ xs. AreFirst (law.payload j (e ∷ past)) xs) (sym (complete-payload rules e past are d complete)) first;
  }

  -- ---- one of which the event is a part

  module _ (j : Outgoing) (is : e.outgoing ≡ Some j) where
    transfer : IsTransfer e.moment
    transfer = known (λ (k : Outgoing). IsTransfer e.moment) e.outgoing j is (judged-transfer rules e past are)

    fields_of : (t : IsTransfer e.moment) → out_transfer e ≡ Some t.fields
    fields_of t =
        let said : out_spoken e ≡ Some t.spoken = ap (λ m. option_and_then (λ (f : Frame). spoken_in f.body) (out_frame m)) t.written ∙ t.says in
        ap (λ o. option_and_then as_transfer (option_map (λ (spoken : Spoken). spoken.meaning) o)) said ∙ ap as_transfer t.means

    six : begins_outgoing e || is_some_and e.outgoing (λ k. goes_on_with k e.note transfer.fields) ≡ true
    six =
        let t = transfer in
        sym (ap (λ m. meaning_meets rules e t.spoken past m L6) t.means) ∙ met rules e past lawful t.frame t.written t.spoken t.says L6

    -- one that goes on has the note of its first transfer
    same_note : j.number < length past → is_same_note e.note j.note ≡ true
    same_note below =
        let at = number in
        let other : (j.number == e.number) ≡ false = ne_eqb j.number e.number (λ same. absurd (omega (arith, same, at, below))) in
        let none : begins_outgoing e ≡ false = ap (λ (o : Option Outgoing). is_some_and o (λ k. k.number == e.number)) is ∙ other in
        let goes = or_other (begins_outgoing e) (is_some_and e.outgoing (λ k. goes_on_with k e.note transfer.fields)) none six in
        let here : goes_on_with j e.note transfer.fields ≡ true = sym (ap (λ (o : Option Outgoing). is_some_and o (λ k. goes_on_with k e.note transfer.fields)) is) ∙ goes in
        and_last _ (is_same_note e.note j.note) here

    own_note : (d : Incoming) → noted e.note past ≡ Some d → IsPartOf e past j → noted j.note past ≡ Some d
    own_note d names (inl (l, on, goes)) =
        by_note past d e.note j.note (same_note (judged-carrying rules past are.1 (lawful-past rules e past lawful) l j goes).1.below) names
    own_note d names (inr (new, note, on)) = ap (λ note. noted note past) note ∙ names

    pub part-first : IsFirstOf (e ∷ past) j
    part-first =
        let t = transfer in
        let keeps = judged-keeps rules (e ∷ past) are lawful in
        let d = some_such _ (noted e.note past) (known _ (out_transfer e) t.fields (fields_of t) keeps.carried.0) in
        let all = known_and _ e.outgoing j is d.2 in
        later j d.0 (own_note d.0 d.1 (known (IsPartOf e past) e.outgoing j is (judged-outgoing_part rules e past are))) all.0 all.1

  -- ---- one that began before

  module _ (j : Outgoing) (found : outgoing_at j.number past ≡ Some j) where
    -- a part with its number is a part of it
    same_part : (k : Outgoing) → e.outgoing ≡ Some k → (k.number == j.number) ≡ true → k ≡ j
    same_part k is same = by (known (IsPartOf e past) e.outgoing k is (judged-outgoing_part rules e past are))
      where
        numbers : k.number ≡ j.number
        numbers = eqb-true k.number j.number same

        by : IsPartOf e past k → k ≡ j
        by (inl (l, on, goes)) =
            let c = (judged-carrying rules past are.1 (lawful-past rules e past lawful) l k goes).1 in
            same_some k j (sym c.at ∙ (ap (λ n. outgoing_at n past) numbers ∙ found))
        by (inr (new, note, on)) =
            let lt = found-below past (judged-born rules past are.1) j.number j found in
            let at = numbers in
            absurd (omega (arith, new, at, lt))

    went_on : IsFirstOf past j → IsFirstOf (e ∷ past) j
    went_on was = by (is_part j e) refl
      where
        among : (o : Option Outgoing) → e.outgoing ≡ o → is_some_and o (λ k. k.number == j.number) ≡ true → IsFirstOf (e ∷ past) j
        among None none is = absurd cc
        among (Some k) is same = subst (IsFirstOf (e ∷ past)) (same_part k is same) (part-first k is)

        by : (b : Bool) → is_part j e ≡ b → IsFirstOf (e ∷ past) j
        by true part = among e.outgoing refl part
        by false none = later j was.delivery was.is was.complete (subst (λ xs. AreFirst xs (incoming.payload was.delivery past)) (sym (payload-same e past j none)) was.first)

  by_begun : (n : ℕ) (j : Outgoing) → ((k : Outgoing) → outgoing_at n past ≡ Some k → IsFirstOf past k) → (o : Option Outgoing) → outgoing_begun e ≡ o
      → find (λ (k : Outgoing). k.number == n) (cons_option o (outgoing_deliveries past)) ≡ Some j → IsFirstOf (e ∷ past) j
  by_begun n j were None none found =
      went_on j (ap (λ m. outgoing_at m past) (at-number past n j found) ∙ found) (were j found)
  by_begun n j were (Some k) begun found = named (k.number == n) found
    where
      named : (b : Bool) → (if b then Some k else outgoing_at n past) ≡ Some j → IsFirstOf (e ∷ past) j
      named true same =
          let own : k ≡ j = same_some k j same in
          subst (IsFirstOf (e ∷ past)) own (part-first k (passing (λ (x : Outgoing). x.number == e.number) e.outgoing k begun).0)
      named false older = went_on j (ap (λ m. outgoing_at m past) (at-number past n j older) ∙ older) (were j older)

pub judged-first : (rules : RuleSet) (past : List Event) → AreJudged rules past → first_broken rules past ≡ None → (n : ℕ) (j : Outgoing) → outgoing_at n past ≡ Some j → IsFirstOf past j
judged-first rules [] are lawful n j found = absurd cc
judged-first rules (e ∷ past) are lawful n j found =
    by_begun rules e past are lawful n j (judged-first rules past are.1 (lawful-past rules e past lawful) n) (outgoing_begun e) refl found

-- ---- behind the first octets, those that follow are compared with the rest

skipped : (first a b : List ℕ) → pointwise ◌==◌ (first ++ a) (first ++ b) ≡ pointwise ◌==◌ a b
skipped [] a b = refl
skipped (x ∷ first) a b = ap (λ c. c && pointwise ◌==◌ (first ++ a) (first ++ b)) (eq-eqb x x refl) ∙ skipped first a b

rest-begins : (first rest octets : List ℕ) → starts_with ◌==◌ (first ++ rest) (first ++ octets) ≡ starts_with ◌==◌ rest octets
rest-begins first rest octets =
    ap (λ n. pointwise ◌==◌ (first ++ octets) (take n (first ++ rest))) (length-append first octets)
    ∙ (ap (pointwise ◌==◌ (first ++ octets)) (take-append-add first rest (length octets)) ∙ skipped first octets (take (length octets) rest))

rest-goes_on : (more : Bool) (first rest octets : List ℕ) → is_payload_so_far more (first ++ rest) (first ++ octets) ≡ is_payload_so_far more rest octets
rest-goes_on true first rest octets = rest-begins first rest octets
rest-goes_on false first rest octets = skipped first rest octets

parts : (whole first : List ℕ) → AreFirst first whole → first ++ drop (length first) whole ≡ whole
parts whole first is = ap (λ xs. xs ++ drop (length first) whole) is ∙ take-append-drop (length first) whole

first-length : (whole first : List ℕ) → AreFirst first whole → length first ≤ length whole
first-length whole first is =
    let both = length-append first (drop (length first) whole) in
    let all = ap length (parts whole first is) in
    omega (arith, both, all)

small : (n m : ℕ) → n ≤ m → m < 2 ^ 64 → n % 2 ^ 64 ≡ n
small n m le lt = omega (arith, le, lt)

pub goes-on : (more : Bool) (whole first octets : List ℕ) → AreFirst first whole → length whole < 2 ^ 64
    → kept.goes_on_with more whole (length first % 2 ^ 64) octets ≡ is_payload_so_far more whole (first ++ octets)
goes-on more whole first octets is lt =
    ap (λ n. is_payload_so_far more (drop n whole) octets) (small (length first) (length whole) (first-length whole first is) lt)
    ∙ (sym (rest-goes_on more first (drop (length first) whole) octets)
    ∙ ap (λ xs. is_payload_so_far more xs (first ++ octets)) (parts whole first is))

-- so of an entry
pub entry_goes_on : (rules : RuleSet) (records : List Record) (x : Sent) (d : Incoming) (more : Bool) (payload octets : List ℕ) → IsEntry (history rules records) x
    → first_broken rules (history rules records) ≡ None → noted x.delivery.note (history rules records) ≡ Some d → payload ≡ incoming.payload d (history rules records) → length payload < 2 ^ 64
    → kept.goes_on_with more payload x.sent_count octets ≡ is_payload_so_far more (incoming.payload d (history rules records)) (law.payload x.delivery (history rules records) ++ octets)
entry_goes_on rules records x d more payload octets entry lawful names is lt =
    let past = history rules records in
    let j = x.delivery in
    let own = sent-of j.number past x entry in
    let f = judged-first rules past (history-judged rules records) lawful j.number j own.at in
    let one : f.delivery ≡ d = same_some f.delivery d (sym f.is ∙ names) in
    let first : AreFirst (law.payload j past) payload =
    subst (λ xs. AreFirst (law.payload j past) xs) (ap (λ (y : Incoming). incoming.payload y past) one ∙ sym is) f.first in
    ap (λ n. kept.goes_on_with more payload n octets) (ap (λ (y : Sent). y.sent_count) (sym own.is))
    ∙ (goes-on more payload (law.payload j past) octets first lt
    ∙ ap (λ xs. is_payload_so_far more xs (law.payload j past ++ octets)) is)

-- ---- of a table

module _ (rules : RuleSet) (records : List Record) (lawful : first_broken rules (history rules records) ≡ None) (j : Outgoing) (d : Incoming) where
  abbrev past : List Event
  past = history rules records

  abbrev judged : AreJudged rules past
  judged = history-judged rules records

  -- nothing has been sent of one that begins now
  new_count : j.number ≡ length past → unwrap_or (option_map (λ (x : Sent). x.sent_count) (sent_at j.number past)) 0 ≡ length (law.payload j past) % 2 ^ 64
  new_count new = by (outgoing_at j.number past) refl
    where
      by : (o : Option Outgoing) → outgoing_at j.number past ≡ o → unwrap_or (option_map (λ (x : Sent). x.sent_count) (option_map (sent past) o)) 0 ≡ length (law.payload j past) % 2 ^ 64
      by None none = sym (ap (λ (xs : List ℕ). length xs % 2 ^ 64) (payload-none j past (judged-born rules past judged) (omega (arith, new))))
      by (Some k) found =
          let lt = found-below past (judged-born rules past judged) j.number k found in
          let is = at-number past j.number k found in
          absurd (omega (arith, new, lt, is))

  first_of : IsCarriedBy d past j → (outgoing_at j.number past ≡ Some j) ⊎ (j.number ≡ length past) → AreFirst (law.payload j past) (incoming.payload d past)
  first_of carries (inr new) =
      subst (λ xs. AreFirst xs (incoming.payload d past)) (sym (payload-none j past (judged-born rules past judged) (omega (arith, new)))) refl
  first_of (inl new) (inl found) =
      let lt = found-below past (judged-born rules past judged) j.number j found in
      absurd (omega (arith, new, lt))
  first_of (inr names) (inl found) =
      let f = judged-first rules past judged lawful j.number j found in
      let one : f.delivery ≡ d = same_some f.delivery d (sym f.is ∙ names) in
      subst (λ (y : Incoming). AreFirst (law.payload j past) (incoming.payload y past)) one f.first

  counted_at : (outgoing_at j.number past ≡ Some j) ⊎ (j.number ≡ length past) → unwrap_or (option_map (λ (x : Sent). x.sent_count) (sent_at j.number past)) 0 ≡ length (law.payload j past) % 2 ^ 64
  counted_at (inr new) = new_count new
  counted_at (inl found) = ap (λ o. unwrap_or (option_map (λ (x : Sent). x.sent_count) (option_map (sent past) o)) 0) found

  pub table_goes_on : (more : Bool) (entry : Option Sent) (payload octets : List ℕ) → entry ≡ sent_at j.number past → IsKnownTo past j → IsCarriedBy d past j → payload ≡ incoming.payload d past
      → length payload < 2 ^ 64
      → kept.goes_on_with more payload (unwrap_or (option_map (λ (x : Sent). x.sent_count) entry) 0) octets ≡ is_payload_so_far more (incoming.payload d past) (law.payload j past ++ octets)
  table_goes_on more entry payload octets at knows carries is lt =
      let first : AreFirst (law.payload j past) payload = subst (λ xs. AreFirst (law.payload j past) xs) (sym is) (first_of carries knows) in
      ap (λ n. kept.goes_on_with more payload n octets)
      (ap (λ o. unwrap_or (option_map (λ (x : Sent). x.sent_count) o) 0) at ∙ counted_at knows)
      ∙ (goes-on more payload (law.payload j past) octets first lt
      ∙ ap (λ xs. is_payload_so_far more xs (law.payload j past ++ octets)) is)
