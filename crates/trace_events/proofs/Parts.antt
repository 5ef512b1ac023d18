-- Each part of a delivery from a client: on which link it came, what it says, and that it had no fault; and what holds of
-- every delivery of a history.
use Rattle.std.proofs.Common.{◌≡◌, refl, sym, ap, ◌∙◌, subst, ℕ, ◌<◌, ◌⊎◌, inl, inr, List, [], ◌∷◌, length, Bool, true, false, not, ◌&&◌, ◌==◌, Option, Some, None, IfSome, is_some, option_and_then, option_map, arith}
use Rattle.std.specs.Prelude.{is_none, find, if◌then◌else◌}
use Rattle.std.specs.List.{cons_option, AllByRecursion}
use Rattle.amqp_perf.specs.Meaning.{Meaning, AnOpen, ABegin, AnAttach, AFlow, ATransfer, ADisposition, ADetach, AnEnd, AClose, TransferFields, flag}
use Rattle.capture_form.specs.declared.records.Record.{Record}
use Rattle.capture_form.specs.Rules.{RuleSet}
use Rattle.trace_events.specs.Words.{is_some_and, or_else, where_passes}
use Rattle.trace_events.specs.Frame.{Frame, Body, NoFrame, Empty, NoPerformative, Says, Spoken, spoken_in}
use Rattle.trace_events.specs.Event.{Event, Link, Incoming, Moment, Opened, In, Out, Lost, Broken, in_frame}
use Rattle.trace_events.specs.declared.fault.Fault.{Fault}
use Rattle.trace_events.specs.declared.session.Session.{Session}
use Rattle.trace_events.specs.Said.{as_transfer, in_transfer}
use Rattle.trace_events.specs.Connection.{has_in_open}
use Rattle.trace_events.specs.Window.{given_window}
use Rattle.trace_events.specs.Link.{is_producer, is_consumer}
use Rattle.trace_events.specs.Incoming.{goes_on, in_progress, incoming_begun, incoming_deliveries, incoming_at}
use Rattle.trace_events.specs.Fault.{body_fault, spoken_fault, opened_fault, channel_fault, on_session_fault, session_fault, attached_fault, link_transfer_fault, part_fault, first_part_fault, size_fault, is_id_in_use}
use Rattle.trace_events.specs.History.{judge, judge_unopened, history, moment_of, heard, placed, fault_by, incoming_part, incoming_by, new_incoming}
use Rattle.trace_events.proofs.Along.{along, and_then_some, if_some, standing}
use Rattle.trace_events.proofs.Judged.{AreJudged}
use Rattle.trace_events.proofs.Opens.{opened-link}
use Rattle.trace_events.proofs.Links.{attach_in, IsKnown, known_still, event_known, Stands, stands_step, none_stands, passing}
use Rattle.trace_events.proofs.Incomings.{judged-part, judged-sound, at-step, at-new}

-- ---- a part

-- it goes on with the delivery in progress on the event's link, or begins one there
pub record IsPartOn (e : Event) (fields : TransferFields) (past : List Event) (d : Incoming) : Type 0 where
  pub link : Link
  pub on : e.link ≡ Some link
  pub kind : (in_progress link past ≡ Some d) ⊎ ((in_progress link past ≡ None) × (d ≡ new_incoming e.number fields link))

some_is : {A : Type 0} (x y : A) → Some x ≡ Some y → x ≡ y
some_is x y e = cc

part_kind : (number : ℕ) (fields : TransferFields) (l : Link) (past : List Event) (d : Incoming) (o : Option Incoming) → in_progress l past ≡ o → or_else o (Some (new_incoming number fields l)) ≡ Some d
    → (in_progress l past ≡ Some d) ⊎ ((in_progress l past ≡ None) × (d ≡ new_incoming number fields l))
part_kind number fields l past d None is same = inr (is, sym (some_is (new_incoming number fields l) d same))
part_kind number fields l past d (Some x) is same = inl (is ∙ same)

part_on : (e : Event) (fields : TransferFields) (past : List Event) (d : Incoming) → incoming_part e (ATransfer fields) past ≡ Some d → IsPartOn e fields past d
part_on e fields past d is =
    let step = and_then_some (λ (l : Link). or_else (in_progress l past) (Some (new_incoming e.number fields l))) (where_passes is_producer e.link) d is in
    record {
      link = step.0;
      on = (passing is_producer e.link step.0 step.1).0;
      kind = part_kind e.number fields step.0 past d (in_progress step.0 past) refl step.2;
    }

-- only transfers are parts
record Means (e : Event) (meaning : Meaning) (past : List Event) (d : Incoming) : Type 0 where
  fields : TransferFields
  means : meaning ≡ ATransfer fields
  part : IsPartOn e fields past d

part_means : (e : Event) (meaning : Meaning) (past : List Event) (d : Incoming) → incoming_part e meaning past ≡ Some d → Means e meaning past d
part_means e (ATransfer fields) past d is = record { fields = fields; means = refl; part = part_on e fields past d is }
part_means e (AnOpen o) past d is = absurd cc
part_means e (ABegin b) past d is = absurd cc
part_means e (AnAttach a) past d is = absurd cc
part_means e (AFlow f) past d is = absurd cc
part_means e (ADisposition f) past d is = absurd cc
part_means e (ADetach f) past d is = absurd cc
part_means e (AnEnd x) past d is = absurd cc
part_means e (AClose x) past d is = absurd cc

-- what a moment says, where it is a client's transfer
pub record IsPart (e : Event) (past : List Event) (d : Incoming) : Type 0 where
  pub frame : Frame
  pub spoken : Spoken
  pub fields : TransferFields
  pub came : e.moment ≡ In frame
  pub said : spoken_in frame.body ≡ Some spoken
  pub means : spoken.meaning ≡ ATransfer fields
  pub says : in_transfer e ≡ Some fields
  pub heard : e.is_heard ≡ true
  pub faultless : e.fault ≡ None
  pub part : IsPartOn e fields past d

none_is : {A : Type 0} (o : Option A) → is_none o ≡ true → o ≡ None
none_is None e = refl
none_is (Some x) e = absurd cc

-- the transfer that a moment says
abbrev said_transfer : Option Spoken → Option TransferFields
said_transfer o = option_and_then as_transfer (option_map (λ (spoken : Spoken). spoken.meaning) o)

both_true : (a b : Bool) → (a && b) ≡ true → (a ≡ true) × (b ≡ true)
both_true true true e = (refl, refl)
both_true true false e = absurd cc
both_true false b e = absurd cc

part_by : (e : Event) (m : Moment) (past : List Event) (d : Incoming) → e.moment ≡ m → incoming_by e m past ≡ Some d → IsPart e past d
part_by e (In frame) past d came is =
    let heard = if_some (e.is_heard && is_none e.fault) (option_and_then (λ (spoken : Spoken). incoming_part e spoken.meaning past) (spoken_in frame.body)) d is in
    let step = and_then_some (λ (spoken : Spoken). incoming_part e spoken.meaning past) (spoken_in frame.body) d heard.1 in
    let m = part_means e step.0.meaning past d step.2 in
    let free = both_true e.is_heard (is_none e.fault) heard.0 in
    record {
      frame = frame;
      spoken = step.0;
      fields = m.fields;
      came = came;
      said = step.1;
      means = m.means;
      says = ap (λ (m : Moment). said_transfer (option_and_then (λ (frame : Frame). spoken_in frame.body) (in_frame m))) came
          ∙ (ap said_transfer step.1 ∙ ap as_transfer m.means);
      heard = free.0;
      faultless = none_is e.fault free.1;
      part = m.part;
    }
part_by e (Out frame) past d came is = absurd cc
part_by e Opened past d came is = absurd cc
part_by e Lost past d came is = absurd cc
part_by e Broken past d came is = absurd cc

-- a frame of the client opens nothing
pub came_link : (rules : RuleSet) (past : List Event) (r : Record) (frame : Frame) → moment_of r.what ≡ In frame → (judge rules past r).link ≡ (standing rules past r).link
came_link rules past r frame came =
    opened-link (judge_unopened rules past r.connection (moment_of r.what) r.note) past (ap (λ (m : Moment). attach_in m) came)

pub record_part : (rules : RuleSet) (past : List Event) (r : Record) (d : Incoming) → (judge rules past r).incoming ≡ Some d → IsPart (judge rules past r) past d
record_part rules past r d is =
    let p = part_by (standing rules past r) (moment_of r.what) past d refl is in
    record {
      frame = p.frame;
      spoken = p.spoken;
      fields = p.fields;
      came = p.came;
      said = p.said;
      means = p.means;
      says = p.says;
      heard = p.heard;
      faultless = p.faultless;
      part = record { link = p.part.link; on = came_link rules past r p.frame p.came ∙ p.part.on; kind = p.part.kind };
    }

pub judged_is_part : (rules : RuleSet) (e : Event) (past : List Event) → AreJudged rules (e ∷ past) → (d : Incoming) → e.incoming ≡ Some d → IsPart e past d
judged_is_part rules e past ((r, is), are) d here =
    subst (λ (x : Event). IsPart x past d) (sym is) (record_part rules past r d (sym (ap (λ (x : Event). x.incoming) is) ∙ here))

-- ---- it had no fault

no_fault : (b : Bool) (fault : Fault) (o : Option Fault) → (if b then Some fault else o) ≡ None → (b ≡ false) × (o ≡ None)
no_fault true fault o e = absurd cc
no_fault false fault o e = (refl, e)

neither : (o p : Option Fault) → or_else o p ≡ None → o ≡ None
neither None p e = refl
neither (Some x) p e = absurd cc

body_is : (body : Body) (spoken : Spoken) → spoken_in body ≡ Some spoken → body ≡ Says spoken
body_is NoFrame spoken e = absurd cc
body_is (Empty channel) spoken e = absurd cc
body_is (NoPerformative channel) spoken e = absurd cc
body_is (Says other) spoken e = ap Says (some_is other spoken e)

module _ (rules : RuleSet) (e : Event) (spoken : Spoken) (fields : TransferFields) (l : Link) (past : List Event) (means : spoken.meaning ≡ ATransfer fields)
    (on : e.link ≡ Some l) where
  session_allows : (o : Option Session) → on_session_fault rules e spoken past o ≡ None → link_transfer_fault rules l fields spoken.payload past ≡ None
  session_allows None none = absurd cc
  session_allows (Some s) none =
      let said : session_fault rules s e spoken (ATransfer fields) past ≡ None = sym (ap (λ m. session_fault rules s e spoken m past) means) ∙ none in
      sym (ap (attached_fault rules fields spoken.payload past) on) ∙ (no_fault (given_window s past == 0) _ _ said).1

  channel_allows : opened_fault rules e spoken past ≡ None → link_transfer_fault rules l fields spoken.payload past ≡ None
  channel_allows none =
      let channel = (no_fault _ _ _ (no_fault (not (has_in_open e.connection past)) _ _ none).1).1 in
      session_allows e.session (sym (ap (λ m. channel_fault rules e spoken m past) means) ∙ channel)

  body_allows : (body : Body) → spoken_in body ≡ Some spoken → body_fault rules e body past ≡ None → link_transfer_fault rules l fields spoken.payload past ≡ None
  body_allows body said none =
      let spoke : spoken_fault rules e spoken spoken.meaning past ≡ None = sym (ap (λ b. body_fault rules e b past) (body_is body spoken said)) ∙ none in
      channel_allows (sym (ap (λ m. spoken_fault rules e spoken m past) means) ∙ spoke)

where_heard : (b : Bool) (o : Option Fault) → b ≡ true → (if b then o else None) ≡ None → o ≡ None
where_heard true o is e = e
where_heard false o is e = absurd cc

pub part_allowed : (rules : RuleSet) (past : List Event) (r : Record) (d : Incoming) (p : IsPart (judge rules past r) past d)
    → link_transfer_fault rules p.part.link p.fields p.spoken.payload past ≡ None
part_allowed rules past r d p =
    let e = heard past (placed past r.connection (moment_of r.what) r.note) in
    let none : fault_by rules e (In p.frame) past ≡ None = sym (ap (λ m. fault_by rules e m past) p.came) ∙ p.faultless in
    body_allows rules e p.spoken p.fields p.part.link past p.means (sym (came_link rules past r p.frame p.came) ∙ p.part.on) p.frame.body p.said
    (where_heard e.is_heard (body_fault rules e p.frame.body past) p.heard none)

first_is : (rules : RuleSet) (l : Link) (fields : TransferFields) (octets : List ℕ) (past : List Event) → in_progress l past ≡ None → link_transfer_fault rules l fields octets past ≡ None
    → first_part_fault rules l fields past ≡ None
first_is rules l fields octets past begins none =
    let part = (no_fault _ _ _ (no_fault (flag fields.resume) _ _ (no_fault (is_consumer l) _ _ none).1).1).1 in
    neither (first_part_fault rules l fields past) (size_fault fields (length octets)) (sym (ap (part_fault rules l fields octets past) begins) ∙ part)

not_none : {A : Type 0} (o : Option A) → is_none o ≡ false → is_some o ≡ true
not_none None e = absurd cc
not_none (Some x) e = refl

-- the first part of a delivery has an id, which is not in use
pub record IsFree (rules : RuleSet) (past : List Event) (d : Incoming) : Type 0 where
  pub given : is_some d.id ≡ true
  pub free : is_some_and d.id (λ id. is_id_in_use rules d.link.session id past) ≡ false

pub first_free : (rules : RuleSet) (past : List Event) (r : Record) (d : Incoming) (p : IsPart (judge rules past r) past d) → in_progress p.part.link past ≡ None
    → d ≡ new_incoming (length past) p.fields p.part.link → IsFree rules past d
first_free rules past r d p begins new =
    let none = no_fault (is_none p.fields.delivery_id) _ _ (first_is rules p.part.link p.fields p.spoken.payload past begins (part_allowed rules past r d p)) in
    subst (IsFree rules past) (sym new) (record { given = not_none p.fields.delivery_id none.0; free = (no_fault _ _ _ none.1).0 })

-- ---- every delivery of a history

-- it holds of each delivery that a part was of
abbrev pub EachPart : (Incoming → Type 0) → List Event → Type 0
EachPart P [] = Unit {0}
EachPart P (e ∷ past) = IfSome e.incoming P × EachPart P past

pub each_such : (P Q : Incoming → Type 0) (past : List Event) → ((d : Incoming) → P d → Q d) → EachPart P past → EachPart Q past
each_such P Q [] more each = tt
each_such P Q (e ∷ past) more each = (if_such e.incoming each.0, each_such P Q past more each.1)
  where
    if_such : (o : Option Incoming) → IfSome o P → IfSome o Q
    if_such None h = tt
    if_such (Some d) h = more d h

some_holds : {A : Type 0} (P : A → Type 0) (o : Option A) → ((x : A) → o ≡ Some x → P x) → IfSome o P
some_holds P None h = tt
some_holds P (Some x) h = h x refl

pub holds_some : {A : Type 0} (P : A → Type 0) (o : Option A) (x : A) → o ≡ Some x → IfSome o P → P x
holds_some P o x is h = subst (λ (p : Option _). IfSome p P) is h

-- the delivery in progress is one of them
going_holds : (P : Incoming → Type 0) (l : Link) (d : Incoming) (on more : Bool) (part before : Option Incoming) → IfSome part P → (before ≡ Some d → P d)
    → (if on then (if more then part else None) else before) ≡ Some d → P d
going_holds P l d true true part before here earlier is = holds_some P part d is here
going_holds P l d true false part before here earlier is = absurd cc
going_holds P l d false more part before here earlier is = earlier is

pub progress_holds : (P : Incoming → Type 0) (l : Link) (past : List Event) (d : Incoming) → EachPart P past → in_progress l past ≡ Some d → P d
progress_holds P l [] d each is = absurd cc
progress_holds P l (e ∷ past) d each is =
    going_holds P l d (is_some_and e.incoming (λ x. x.link.number == l.number)) (is_some_and (in_transfer e) goes_on) e.incoming (in_progress l past) each.0
    (progress_holds P l past d each.1) is

-- it began before, is the one of its number, has an id, and is of the link of its number
pub record IsKept (past : List Event) (d : Incoming) : Type 0 where
  pub before : d.number < length past
  pub at : incoming_at d.number past ≡ Some d
  pub given : is_some d.id ≡ true
  pub link : IsKnown past d.link

pub record AreKept (rules : RuleSet) (past : List Event) : Type 0 where
  pub are : AreJudged rules past
  pub stands : Stands past
  pub each : EachPart (IsKept past) past

pub kept_still : (rules : RuleSet) (past : List Event) (r : Record) (d : Incoming) → AreKept rules past → IsKept past d → IsKept (judge rules past r ∷ past) d
kept_still rules past r d all kept =
    let e = judge rules past r in
    let lt = kept.before in
    record {
      before = omega (arith, lt);
      at = at-step e past refl (judged-part rules e past ((r, refl), all.are)) (judged-sound rules past all.are) d.number kept.before ∙ kept.at;
      given = kept.given;
      link = known_still rules past r d.link kept.link;
    }

kept_part : (rules : RuleSet) (past : List Event) (r : Record) (d : Incoming) → AreKept rules past → (judge rules past r).incoming ≡ Some d → (p : IsPart (judge rules past r) past d)
    → (in_progress p.part.link past ≡ Some d) ⊎ ((in_progress p.part.link past ≡ None) × (d ≡ new_incoming (length past) p.fields p.part.link)) → IsKept (judge rules past r ∷ past) d
kept_part rules past r d all is p (inl going) = kept_still rules past r d all (progress_holds (IsKept past) p.part.link past d all.each going)
kept_part rules past r d all is p (inr new) =
    let e = judge rules past r in
    let number : d.number ≡ length past = ap (λ (x : Incoming). x.number) new.1 in
    record {
      before = omega (arith, number);
      at = at-new e past refl (judged-part rules e past ((r, refl), all.are)) (judged-sound rules past all.are) d is number;
      given = (first_free rules past r d p new.0 new.1).given;
      link = subst (λ (x : Incoming). IsKnown (e ∷ past) x.link) (sym new.1) (event_known rules past r p.part.link all.stands p.part.on);
    }

pub kept_step : (rules : RuleSet) (past : List Event) (r : Record) → AreKept rules past → AreKept rules (judge rules past r ∷ past)
kept_step rules past r all =
    let e = judge rules past r in
    record {
      are = ((r, refl), all.are);
      stands = stands_step rules past r all.stands;
      each = (
        some_holds (IsKept (e ∷ past)) e.incoming (λ d is. let p = record_part rules past r d is in kept_part rules past r d all is p p.part.kind),
        each_such (IsKept past) (IsKept (e ∷ past)) past (λ d kept. kept_still rules past r d all kept) all.each,
      );
    }

pub none_kept : (rules : RuleSet) → AreKept rules []
none_kept rules = record { are = tt; stands = none_stands; each = tt }

pub history_kept : (rules : RuleSet) (rs : List Record) → AreKept rules (history rules rs)
history_kept rules rs = along rules (AreKept rules) (none_kept rules) (kept_step rules) rs

-- ---- the deliveries themselves

pub all_such : {A : Type 0} (P Q : A → Type 0) (xs : List A) → ((x : A) → P x → Q x) → AllByRecursion P xs → AllByRecursion Q xs
all_such P Q [] more h = tt
all_such P Q (x ∷ xs) more h = (more x h.0, all_such P Q xs more h.1)

pub found_holds : {A : Type 0} (P : A → Type 0) (test : A → Bool) (xs : List A) (x : A) → AllByRecursion P xs → find test xs ≡ Some x → P x
found_holds P test [] x h found = absurd cc
found_holds P test (y ∷ ys) x h found = by (test y) (found_holds P test ys x h.1) found
  where
    by : (b : Bool) → (find test ys ≡ Some x → P x) → (if b then Some y else find test ys) ≡ Some x → P x
    by true later found = let same : y ≡ x = cc in subst P same h.0
    by false later found = later found

pub each_delivery : (P : Incoming → Type 0) (past : List Event) → EachPart P past → AllByRecursion P (incoming_deliveries past)
each_delivery P [] each = tt
each_delivery P (e ∷ past) each = by (incoming_begun e) refl (each_delivery P past each.1)
  where
    by : (o : Option Incoming) → incoming_begun e ≡ o → AllByRecursion P (incoming_deliveries past) → AllByRecursion P (cons_option o (incoming_deliveries past))
    by None is earlier = earlier
    by (Some d) is earlier = (holds_some P e.incoming d (passing (λ (x : Incoming). x.number == e.number) e.incoming d is).0 each.0, earlier)

pub delivery_kept : (rules : RuleSet) (past : List Event) (n : ℕ) (d : Incoming) → AreKept rules past → incoming_at n past ≡ Some d → IsKept past d
delivery_kept rules past n d all found =
    found_holds (IsKept past) (λ (x : Incoming). x.number == n) (incoming_deliveries past) d (each_delivery (IsKept past) past all.each) found

-- of a capture: each delivery from a client has an id
pub delivery_has_id : (rules : RuleSet) (rs : List Record) (n : ℕ) (d : Incoming) → incoming_at n (history rules rs) ≡ Some d → is_some d.id ≡ true
delivery_has_id rules rs n d found = (delivery_kept rules (history rules rs) n d (history_kept rules rs) found).given
