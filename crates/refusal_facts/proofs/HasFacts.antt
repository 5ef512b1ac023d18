-- Where a clause is the first that an event breaks, the event has what the clause compares.
use Rattle.std.proofs.Common.{◌≡◌, ◌≢◌, refl, sym, ap, ◌∙◌, ℕ, Bool, true, false, not, ◌&&◌, ◌||◌, List, [], ◌∷◌, Option, Some, None, is_some, find, option_and_then, option_map, if◌then◌else◌}
use Rattle.amqp_perf.specs.declared.attach.Role.{Role}
use Rattle.amqp_perf.specs.declared.attach.Role.TheVariants.{Sender, Receiver}
use Rattle.amqp_perf.specs.Meaning.{Meaning, AnOpen, ABegin, AnAttach, AFlow, ATransfer, ADisposition, ADetach, AnEnd, AClose, DispositionFields}
use Rattle.capture_form.specs.Rules.{RuleSet}
use Rattle.trace_events.specs.Credit.{begins_outgoing}
use Rattle.trace_events.specs.Event.{Event, Incoming, Link, Moment, Out, Outgoing, out_frame}
use Rattle.trace_events.specs.Frame.{Frame, Spoken, spoken_in}
use Rattle.trace_events.specs.Link.{is_consumer}
use Rattle.trace_events.specs.Words.{is_some_and}
use Rattle.trace_events.specs.Said.{as_attach, as_begin, as_detach, as_disposition, as_flow, as_transfer, is_end}
use Rattle.trace_events.specs.declared.clause.Clause.{Clause}
use Rattle.trace_events.specs.declared.clause.Clause.TheVariants.{L1, L2, L3, L4, L5, L6, L7, L8, L9, L10, L11, L12, L13, L14}
use Rattle.trace_events.specs.TransferClause.{to_carry}
use Rattle.refusal_facts.specs.Facts.{has_facts}
use Rattle.trace_events.specs.Clauses.{broken_at, broken_by, broken_clause, clauses, disposition_meets, meaning_meets, spoken_meets}

-- by whether the first passes
by-first : {A : Type 0} (p : A → Bool) (y : A) (ys : List A) (x : A) → (find p ys ≡ Some x → p x ≡ true) → (b : Bool) → p y ≡ b → (if b then Some y else find p ys) ≡ Some x → p x ≡ true
by-first p y ys x rest true is e = let same : y ≡ x = cc in rw (sym same) is
by-first p y ys x rest false is e = rest e

-- what is found passes
pub find-passes : {A : Type 0} (p : A → Bool) (xs : List A) (x : A) → find p xs ≡ Some x → p x ≡ true
find-passes p [] x e = cc
find-passes p (y ∷ ys) x e = by-first p y ys x (find-passes p ys x) (p y) refl e

step : {A : Type 0} (p : A → Bool) (y : A) (ys : List A) (x : A) → y ≢ x → (b : Bool) → (if b then Some y else find p ys) ≡ Some x → (b ≡ false) × (find p ys ≡ Some x)
step p y ys x ne true e = absurd (ne cc)
step p y ys x ne false e = (refl, e)

-- what stands before it doesn't
pub find-step : {A : Type 0} (p : A → Bool) (y : A) (ys : List A) (x : A) → y ≢ x → find p (y ∷ ys) ≡ Some x → (p y ≡ false) × (find p ys ≡ Some x)
find-step p y ys x ne e = step p y ys x ne (p y) e

-- a frame is of the kind of which the clause speaks
abbrev pub is_of_kind : Clause → Meaning → Bool
is_of_kind L2 m = is_some (as_begin m)
is_of_kind L3 m = is_some (as_attach m)
is_of_kind L4 m = is_some (as_transfer m)
is_of_kind L5 m = is_some (as_transfer m)
is_of_kind L6 m = is_some (as_transfer m)
is_of_kind L7 m = is_some (as_transfer m)
is_of_kind L8 m = is_some (as_transfer m)
is_of_kind L9 m = is_some (as_transfer m)
is_of_kind L10 m = is_some (as_flow m)
is_of_kind L11 m = is_some (as_disposition m)
is_of_kind L12 m = is_some (as_disposition m)
is_of_kind L13 m = is_some (as_detach m) || is_end m
is_of_kind _ m = true

-- a role speaks of no clause but these
role_meets : (rules : RuleSet) (e : Event) (fields : DispositionFields) (past : List Event) (role : Role) (c : Clause)
    → not (disposition_meets rules e fields past role c) ≡ true → is_of_kind c (ADisposition fields) ≡ true
role_meets rules e fields past role L1 h = refl
role_meets rules e fields past role L11 h = refl
role_meets rules e fields past role L12 h = refl
role_meets rules e fields past role L14 h = refl
role_meets rules e fields past Sender _ h = cc
role_meets rules e fields past Receiver _ h = cc

-- a frame that does not meet a clause is of the kind of which that speaks
pub of_kind : (rules : RuleSet) (e : Event) (spoken : Spoken) (past : List Event) (m : Meaning) (c : Clause)
    → not (meaning_meets rules e spoken past m c) ≡ true → is_of_kind c m ≡ true
of_kind rules e spoken past (AnOpen fields) L1 h = refl
of_kind rules e spoken past (AnOpen fields) L14 h = refl
of_kind rules e spoken past (AnOpen fields) _ h = cc
of_kind rules e spoken past (ABegin begin) L1 h = refl
of_kind rules e spoken past (ABegin begin) L2 h = refl
of_kind rules e spoken past (ABegin begin) L14 h = refl
of_kind rules e spoken past (ABegin begin) _ h = cc
of_kind rules e spoken past (AnAttach fields) L1 h = refl
of_kind rules e spoken past (AnAttach fields) L3 h = refl
of_kind rules e spoken past (AnAttach fields) L14 h = refl
of_kind rules e spoken past (AnAttach fields) _ h = cc
of_kind rules e spoken past (AFlow flow) L1 h = refl
of_kind rules e spoken past (AFlow flow) L10 h = refl
of_kind rules e spoken past (AFlow flow) L14 h = refl
of_kind rules e spoken past (AFlow flow) _ h = cc
of_kind rules e spoken past (ATransfer fields) L1 h = refl
of_kind rules e spoken past (ATransfer fields) L4 h = refl
of_kind rules e spoken past (ATransfer fields) L5 h = refl
of_kind rules e spoken past (ATransfer fields) L6 h = refl
of_kind rules e spoken past (ATransfer fields) L7 h = refl
of_kind rules e spoken past (ATransfer fields) L8 h = refl
of_kind rules e spoken past (ATransfer fields) L9 h = refl
of_kind rules e spoken past (ATransfer fields) L14 h = refl
of_kind rules e spoken past (ATransfer fields) _ h = cc
of_kind rules e spoken past (ADisposition fields) c h = role_meets rules e fields past fields.role c h
of_kind rules e spoken past (ADetach fields) L1 h = refl
of_kind rules e spoken past (ADetach fields) L13 h = refl
of_kind rules e spoken past (ADetach fields) L14 h = refl
of_kind rules e spoken past (ADetach fields) _ h = cc
of_kind rules e spoken past (AnEnd error) L1 h = refl
of_kind rules e spoken past (AnEnd error) L13 h = refl
of_kind rules e spoken past (AnEnd error) L14 h = refl
of_kind rules e spoken past (AnEnd error) _ h = cc
of_kind rules e spoken past (AClose error) L1 h = refl
of_kind rules e spoken past (AClose error) L14 h = refl
of_kind rules e spoken past (AClose error) _ h = cc

-- what a transfer has, apart from its kind
abbrev pub has_parts : RuleSet → Event → List Event → Clause → Bool
has_parts rules e past L5 = is_some e.link
has_parts rules e past L7 = is_some e.link
has_parts rules e past L8 = is_some (to_carry rules e.note past) && is_some e.outgoing
has_parts rules e past L9 = is_some e.link && is_some (to_carry rules e.note past)
has_parts rules e past _ = true

-- ---- what was met before

-- the clauses from the fifth and from the eighth on
abbrev from-5 : List Clause
from-5 = L5 ∷ L6 ∷ L7 ∷ L8 ∷ L9 ∷ L10 ∷ L11 ∷ L12 ∷ L13 ∷ L14 ∷ []

abbrev is-from-5 : Clause → Bool
is-from-5 L1 = false
is-from-5 L2 = false
is-from-5 L3 = false
is-from-5 L4 = false
is-from-5 _ = true

abbrev is-from-8 : Clause → Bool
is-from-8 L1 = false
is-from-8 L2 = false
is-from-8 L3 = false
is-from-8 L4 = false
is-from-8 L5 = false
is-from-8 L6 = false
is-from-8 L7 = false
is-from-8 _ = true

false_true : false ≡ true → ⊥
false_true e = cc

-- clauses that a test tells apart are two
apart : (test : Clause → Bool) (y x : Clause) → test y ≡ false → test x ≡ true → y ≢ x
apart test y x fails passes = λ same. let clash : false ≡ true = sym fails ∙ (ap test same ∙ passes) in absurd (false_true clash)

-- the fourth is met where a later one is the first that is broken
behind-4 : (p : Clause → Bool) (x : Clause) → is-from-5 x ≡ true → find p clauses ≡ Some x → (p L4 ≡ false) × (find p from-5 ≡ Some x)
behind-4 p x late e =
    let at1 = find-step p L1 (L2 ∷ L3 ∷ L4 ∷ from-5) x (apart is-from-5 L1 x refl late) e in
    let at2 = find-step p L2 (L3 ∷ L4 ∷ from-5) x (apart is-from-5 L2 x refl late) at1.1 in
    let at3 = find-step p L3 (L4 ∷ from-5) x (apart is-from-5 L3 x refl late) at2.1 in
    find-step p L4 from-5 x (apart is-from-5 L4 x refl late) at3.1

abbrev from-8 : List Clause
from-8 = L8 ∷ L9 ∷ L10 ∷ L11 ∷ L12 ∷ L13 ∷ L14 ∷ []

-- so are those up to the seventh
behind-7 : (p : Clause → Bool) (x : Clause) → is-from-8 x ≡ true → find p from-5 ≡ Some x → (p L5 ≡ false) × (p L6 ≡ false) × (p L7 ≡ false)
behind-7 p x late e =
    let at5 = find-step p L5 (L6 ∷ L7 ∷ from-8) x (apart is-from-8 L5 x refl late) e in
    let at6 = find-step p L6 (L7 ∷ from-8) x (apart is-from-8 L6 x refl late) at5.1 in
    let at7 = find-step p L7 from-8 x (apart is-from-8 L7 x refl late) at6.1 in
    (at5.0, at6.0, at7.0)

-- a transfer that has a window has a link
has_link : (o : Option Link) (a b c : Bool) → not (is_some_and o is_consumer && a && b && c) ≡ false → is_some o ≡ true
has_link None a b c h = cc
has_link (Some l) a b c h = refl

-- one that names what it carries has a link and that delivery
has_named : (o : Option Link) (d : Option Incoming) (alike : Link → Incoming → Bool)
    → not (is_some_and o (λ l. is_some_and d (alike l))) ≡ false → (is_some o && is_some d) ≡ true
has_named None d alike h = cc
has_named (Some l) None alike h = cc
has_named (Some l) (Some d) alike h = refl

-- one that begins, or goes on with a delivery, has that
has_delivery : (o : Option Outgoing) (begins : Bool) (own goes : Outgoing → Bool) → begins ≡ is_some_and o own
    → not (begins || is_some_and o goes) ≡ false → is_some o ≡ true
has_delivery None true own goes is h = cc
has_delivery None false own goes is h = cc
has_delivery (Some j) begins own goes is h = refl

module _ (rules : RuleSet) (e : Event) (frame : Frame) (past : List Event) (channel : ℕ) (payload : List ℕ) where
  -- a clause that a performative does not meet
  abbrev breaks : Meaning → Clause → Bool
  breaks m c = let spoken : Spoken = record { channel = channel; meaning = m; payload = payload } in not (spoken_meets rules e frame past spoken c)

  parts-5 : (m : Meaning) → is_of_kind L5 m ≡ true → find (breaks m) clauses ≡ Some L5 → has_parts rules e past L5 ≡ true
  parts-5 (ATransfer fields) k f = has_link e.link _ _ _ (behind-4 (breaks (ATransfer fields)) L5 refl f).0
  parts-5 _ k f = cc

  parts-7 : (m : Meaning) → is_of_kind L7 m ≡ true → find (breaks m) clauses ≡ Some L7 → has_parts rules e past L7 ≡ true
  parts-7 (ATransfer fields) k f = has_link e.link _ _ _ (behind-4 (breaks (ATransfer fields)) L7 refl f).0
  parts-7 _ k f = cc

  parts-9 : (m : Meaning) → is_of_kind L9 m ≡ true → find (breaks m) clauses ≡ Some L9 → has_parts rules e past L9 ≡ true
  parts-9 (ATransfer fields) k f =
      let p = breaks (ATransfer fields) in
      has_named e.link (to_carry rules e.note past) _ (behind-7 p L9 refl (behind-4 p L9 refl f).1).2
  parts-9 _ k f = cc

  both : (a b c : Bool) → (a && b) ≡ true → c ≡ true → (b && c) ≡ true
  both true true true h i = refl
  both true true false h i = cc
  both true false c h i = cc
  both false b c h i = cc

  parts-8 : (m : Meaning) → is_of_kind L8 m ≡ true → find (breaks m) clauses ≡ Some L8 → has_parts rules e past L8 ≡ true
  parts-8 (ATransfer fields) k f =
      let p = breaks (ATransfer fields) in
      let met = behind-7 p L8 refl (behind-4 p L8 refl f).1 in
      both (is_some e.link) (is_some (to_carry rules e.note past)) (is_some e.outgoing)
      (has_named e.link (to_carry rules e.note past) _ met.2)
      (has_delivery e.outgoing (begins_outgoing e) _ _ refl met.1)
  parts-8 _ k f = cc

  -- the performative has the parts that the clause compares
  parts : (m : Meaning) (c : Clause) → is_of_kind c m ≡ true → find (breaks m) clauses ≡ Some c → has_parts rules e past c ≡ true
  parts m L5 k f = parts-5 m k f
  parts m L7 k f = parts-7 m k f
  parts m L8 k f = parts-8 m k f
  parts m L9 k f = parts-9 m k f
  parts m _ k f = refl

  -- of what is not met
  kind : (m : Meaning) (c : Clause) → breaks m c ≡ true → is_of_kind c m ≡ true
  kind m L1 h = refl
  kind m L2 h = of_kind rules e (record { channel = channel; meaning = m; payload = payload }) past m L2 h
  kind m L3 h = of_kind rules e (record { channel = channel; meaning = m; payload = payload }) past m L3 h
  kind m L4 h = of_kind rules e (record { channel = channel; meaning = m; payload = payload }) past m L4 h
  kind m L5 h = of_kind rules e (record { channel = channel; meaning = m; payload = payload }) past m L5 h
  kind m L6 h = of_kind rules e (record { channel = channel; meaning = m; payload = payload }) past m L6 h
  kind m L7 h = of_kind rules e (record { channel = channel; meaning = m; payload = payload }) past m L7 h
  kind m L8 h = of_kind rules e (record { channel = channel; meaning = m; payload = payload }) past m L8 h
  kind m L9 h = of_kind rules e (record { channel = channel; meaning = m; payload = payload }) past m L9 h
  kind m L10 h = of_kind rules e (record { channel = channel; meaning = m; payload = payload }) past m L10 h
  kind m L11 h = of_kind rules e (record { channel = channel; meaning = m; payload = payload }) past m L11 h
  kind m L12 h = of_kind rules e (record { channel = channel; meaning = m; payload = payload }) past m L12 h
  kind m L13 h = of_kind rules e (record { channel = channel; meaning = m; payload = payload }) past m L13 h
  kind m L14 h = of_kind rules e (record { channel = channel; meaning = m; payload = payload }) past m L14 h

  pub has : (m : Meaning) (c : Clause) → find (breaks m) clauses ≡ Some c → (is_of_kind c m ≡ true) × (has_parts rules e past c ≡ true)
  has m c f = let k = kind m c (find-passes (breaks m) clauses c f) in (k, parts m c k f)

-- ---- over the events of a capture

-- both hold
all : (a b : Bool) → a ≡ true → b ≡ true → (a && b) ≡ true
all true true h i = refl
all true false h i = cc
all false b h i = cc

-- what a clause compares is there, in what is said
abbrev is_there : RuleSet → Event → List Event → Clause → Option Spoken → Bool
is_there rules e past L1 said = true
is_there rules e past L13 said =
    let m = option_map (λ (x : Spoken). x.meaning) said in is_some (option_and_then as_detach m) || is_some_and m is_end
is_there rules e past L2 said = is_some (option_and_then as_begin (option_map (λ (x : Spoken). x.meaning) said))
is_there rules e past L3 said = is_some (option_and_then as_attach (option_map (λ (x : Spoken). x.meaning) said))
is_there rules e past L4 said = is_some (option_and_then as_transfer (option_map (λ (x : Spoken). x.meaning) said))
is_there rules e past L5 said = is_some (option_and_then as_transfer (option_map (λ (x : Spoken). x.meaning) said)) && is_some e.link
is_there rules e past L6 said = is_some (option_and_then as_transfer (option_map (λ (x : Spoken). x.meaning) said))
is_there rules e past L7 said = is_some (option_and_then as_transfer (option_map (λ (x : Spoken). x.meaning) said)) && is_some e.link
is_there rules e past L8 said = is_some (option_and_then as_transfer (option_map (λ (x : Spoken). x.meaning) said)) && (is_some (to_carry rules e.note past) && is_some e.outgoing)
is_there rules e past L9 said = is_some e.link && is_some (to_carry rules e.note past)
is_there rules e past L10 said = is_some (option_and_then as_flow (option_map (λ (x : Spoken). x.meaning) said))
is_there rules e past L11 said = is_some (option_and_then as_disposition (option_map (λ (x : Spoken). x.meaning) said))
is_there rules e past L12 said = is_some (option_and_then as_disposition (option_map (λ (x : Spoken). x.meaning) said))
is_there rules e past L14 said = true

there : (rules : RuleSet) (e : Event) (past : List Event) (spoken : Spoken) (c : Clause)
    → (is_of_kind c spoken.meaning ≡ true) × (has_parts rules e past c ≡ true) → is_there rules e past c (Some spoken) ≡ true
there rules e past spoken L1 h = refl
there rules e past spoken L5 h = all (is_some (as_transfer spoken.meaning)) (is_some e.link) h.0 h.1
there rules e past spoken L7 h = all (is_some (as_transfer spoken.meaning)) (is_some e.link) h.0 h.1
there rules e past spoken L8 h = all (is_some (as_transfer spoken.meaning)) (is_some (to_carry rules e.note past) && is_some e.outgoing) h.0 h.1
there rules e past spoken L9 h = h.1
there rules e past spoken L14 h = refl
there rules e past spoken _ h = h.0

by-spoken : (rules : RuleSet) (e : Event) (frame : Frame) (past : List Event) (said : Option Spoken) (c : Clause)
    → broken_by rules e frame past said ≡ Some c → is_there rules e past c said ≡ true
by-spoken rules e frame past (Some spoken) c f = there rules e past spoken c (has rules e frame past spoken.channel spoken.payload spoken.meaning c f)
by-spoken rules e frame past None L1 f = refl
by-spoken rules e frame past None _ f = cc

by-moment : (rules : RuleSet) (e : Event) (past : List Event) (moment : Moment) (c : Clause) → broken_at rules e past moment ≡ Some c
    → is_some (out_frame moment) ≡ true × is_there rules e past c (option_and_then (λ (frame : Frame). spoken_in frame.body) (out_frame moment)) ≡ true
by-moment rules e past (Out frame) c f = (refl, by-spoken rules e frame past (spoken_in frame.body) c f)
by-moment rules e past _ c f = cc

-- the event has what the clause compares that it breaks first
pub broken_has : (rules : RuleSet) (e : Event) (past : List Event) (c : Clause) → broken_clause rules e past ≡ Some c → has_facts rules e past c ≡ true
broken_has rules e past L1 f = (by-moment rules e past e.moment L1 f).0
broken_has rules e past L2 f = (by-moment rules e past e.moment L2 f).1
broken_has rules e past L3 f = (by-moment rules e past e.moment L3 f).1
broken_has rules e past L4 f = (by-moment rules e past e.moment L4 f).1
broken_has rules e past L5 f = (by-moment rules e past e.moment L5 f).1
broken_has rules e past L6 f = (by-moment rules e past e.moment L6 f).1
broken_has rules e past L7 f = (by-moment rules e past e.moment L7 f).1
broken_has rules e past L8 f = (by-moment rules e past e.moment L8 f).1
broken_has rules e past L9 f = (by-moment rules e past e.moment L9 f).1
broken_has rules e past L10 f = (by-moment rules e past e.moment L10 f).1
broken_has rules e past L11 f = (by-moment rules e past e.moment L11 f).1
broken_has rules e past L12 f = (by-moment rules e past e.moment L12 f).1
broken_has rules e past L13 f = (by-moment rules e past e.moment L13 f).1
broken_has rules e past L14 f = (by-moment rules e past e.moment L14 f).1
