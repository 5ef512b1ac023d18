-- What one more event does to the deliveries that are to be settled with their consumers, in one equation for every event.
use Rattle.std.proofs.Common.{◌≡◌, refl, sym, ap, ◌∙◌, ℕ, Bool, true, false, not, ◌&&◌, ◌||◌, List, [], ◌∷◌, Option, Some, None, IfSome, is_some, filter, find, reverse, if◌then◌else◌, ◌==◌}
use Rattle.std.specs.List.{cons_option, AllByRecursion}
use Rattle.amqp_perf.specs.Meaning.{DispositionFields}
use Rattle.trace_events.specs.Words.{is_some_and, is_number, or_else, where_passes}
use Rattle.trace_events.specs.Event.{Event, Incoming, Outgoing}
use Rattle.trace_events.specs.declared.session.Session.{Session}
use Rattle.trace_events.specs.Link.{is_live}
use Rattle.trace_events.specs.Ends.{ends_link}
use Rattle.trace_events.specs.Disposition.{is_decisive}
use Rattle.trace_events.specs.Incoming.{is_settled, is_told, settles_part, settles_id}
use Rattle.trace_events.specs.Outgoing.{outgoing_begun, outgoing_deliveries, noted, answering, first_deciding, decision, is_settled_by_consumer, is_settled_by_router}
use Rattle.trace_events.specs.Settling.{is_closed, is_to_settle, to_settle}
use Rattle.trace_events.specs.Work.{deliveries_to_settle, stands_unsettled, carries_closed, keeps_unsettled, decides_now, closes_incoming, closes_carried, comes_to_settle}
use Rattle.trace_events.proofs.OutgoingSteps.{settles_answering}
use Rattle.trace_events.proofs.QueueSteps.{each-map, filter-each, filter-reverse}
use Rattle.trace_events.proofs.StepWords.{or-false}

-- ---- what is known of a delivery to a client

some-if : {A : Type 0} (b : Bool) (x : A) → is_some (if b then Some x else None) ≡ b
some-if true x = refl
some-if false x = refl

decided-by : (settled live : Bool) (o p : Option DispositionFields)
    → is_some (if settled then None else or_else o (if live then where_passes is_decisive p else None)) ≡ is_some (if settled then None else o) || live && (not settled && is_some_and p is_decisive)
decided-by true true o p = refl
decided-by true false o p = refl
decided-by false live (Some x) p = refl
decided-by false true None None = refl
decided-by false true None (Some fields) = some-if (is_decisive fields) fields
decided-by false false None p = refl

-- x: its link is ended, c: its consumer settles it, r: the router does; by_consumer and by_router: it was settled so before
unsettled-bits : (live x c by_consumer r by_router : Bool)
    → live && not x && not (live && c || by_consumer) && not (r || by_router) ≡ live && not by_consumer && not by_router && (not x && not c && not r)
unsettled-bits true true c true r by_router = refl
unsettled-bits true false true true r by_router = refl
unsettled-bits true false false true r by_router = refl
unsettled-bits true true c false r true = refl
unsettled-bits true false true false r true = refl
unsettled-bits true false false false true true = refl
unsettled-bits true false false false false true = refl
unsettled-bits true true c false r false = refl
unsettled-bits true false true false r false = refl
unsettled-bits true false false false true false = refl
unsettled-bits true false false false false false = refl
unsettled-bits false x c by_consumer r by_router = refl

-- t: the event tells it, p and i: a part or a disposition settles it, x: its link is ended
closed-bits : (t told p i settled live x : Bool) → (t || told) || ((p || i) || settled) || not (live && not x) ≡ told || settled || not live || (t || (p || i) || x)
closed-bits true true p i settled live x = refl
closed-bits true false p i true live x = refl
closed-bits true false p i false true x = refl
closed-bits true false p i false false x = refl
closed-bits false true p i settled live x = refl
closed-bits false false true i true live x = refl
closed-bits false false true i false true x = refl
closed-bits false false true i false false x = refl
closed-bits false false false true true live x = refl
closed-bits false false false true false true x = refl
closed-bits false false false true false false x = refl
closed-bits false false false false true live x = refl
closed-bits false false false false false true true = refl
closed-bits false false false false false true false = refl
closed-bits false false false false false false x = refl

module _ (e : Event) (past : List Event) where
  pub is_decided-step : (j : Outgoing) → is_some (decision j (e ∷ past)) ≡ is_some (decision j past) || is_live past j.link && decides_now e j
  is_decided-step j = decided-by j.link.is_pre_settled (is_live past j.link) (first_deciding j past) (answering j e)

  -- of one whose link lives on unless the event ends it
  pub stands_unsettled-step : (j : Outgoing) → is_live (e ∷ past) j.link ≡ is_live past j.link && not (ends_link j.link e)
      → stands_unsettled (e ∷ past) j ≡ stands_unsettled past j && keeps_unsettled e j
  stands_unsettled-step j live =
      ap (λ b. b && not (is_settled_by_consumer j (e ∷ past)) && not (is_settled_by_router j (e ∷ past))) live
      ∙ unsettled-bits (is_live past j.link) (ends_link j.link e) (settles_answering j e) (is_settled_by_consumer j past) (is_number e.settled j.number) (is_settled_by_router j past)

  pub is_closed-step : (d : Incoming) → is_live (e ∷ past) d.link ≡ is_live past d.link && not (ends_link d.link e)
      → is_closed (e ∷ past) d ≡ is_closed past d || closes_incoming e d
  is_closed-step d live =
      ap (λ b. is_told d (e ∷ past) || is_settled d (e ∷ past) || not b) live
      ∙ closed-bits (is_number e.told d.number) (is_told d past) (settles_part d e) (settles_id d e) (is_settled d past) (is_live past d.link) (ends_link d.link e)

-- ---- whether it is to be settled

-- a delivery that began before the event: its link and that of what it carries live on unless the event ends them, and it
-- carries what it did
pub record StandsOn (e : Event) (past : List Event) (j : Outgoing) : Type 0 where
  pub live : is_live (e ∷ past) j.link ≡ is_live past j.link && not (ends_link j.link e)
  pub noted_still : noted j.note (e ∷ past) ≡ noted j.note past
  pub carried : IfSome (noted j.note past) (λ d. is_live (e ∷ past) d.link ≡ is_live past d.link && not (ends_link d.link e))

carried-by : (e : Event) (past : List Event) (o : Option Incoming) → IfSome o (λ d. is_live (e ∷ past) d.link ≡ is_live past d.link && not (ends_link d.link e))
    → is_some_and o (is_closed (e ∷ past)) ≡ is_some_and o (is_closed past) || is_some_and o (closes_incoming e)
carried-by e past None live = refl
carried-by e past (Some d) live = is_closed-step e past d live

parts-bits : (live decided by_consumer by_router closed : Bool) → live && decided && not by_consumer && not by_router && closed ≡ live && not by_consumer && not by_router && (decided && closed)
parts-bits true true by_consumer by_router closed = refl
parts-bits true false true by_router closed = refl
parts-bits true false false true closed = refl
parts-bits true false false false closed = refl
parts-bits false decided by_consumer by_router closed = refl

live-bits : (live c r stays decided d closed : Bool) → live && c && r && stays && ((decided || live && d) && closed) ≡ live && c && r && stays && ((decided || d) && closed)
live-bits true c r stays decided d closed = refl
live-bits false c r stays decided d closed = refl

-- d and c: it is decided and closed by the event, or was before
comes-bits : (decided d closed c : Bool) → (decided || d) && (closed || c) ≡ decided && closed || (d && (closed || c) || c && (decided || d))
comes-bits true d true c = refl
comes-bits true true false true = refl
comes-bits true false false true = refl
comes-bits true true false false = refl
comes-bits true false false false = refl
comes-bits false true true c = refl
comes-bits false true false true = refl
comes-bits false true false false = refl
comes-bits false false closed true = refl
comes-bits false false closed false = refl

either-bits : (unsettled stays was comes : Bool) → unsettled && stays && (was || comes) ≡ (unsettled && was || unsettled && comes) && stays
either-bits true true true comes = refl
either-bits true false true comes = refl
either-bits true true false true = refl
either-bits true false false true = refl
either-bits true true false false = refl
either-bits true false false false = refl
either-bits false stays was comes = refl

-- it stands unsettled, its consumer has decided it, and what it carries is closed
pub is_to_settle-parts : (past : List Event) (j : Outgoing) → is_to_settle past j ≡ stands_unsettled past j && (is_some (decision j past) && carries_closed past j)
is_to_settle-parts past j = parts-bits (is_live past j.link) (is_some (decision j past)) (is_settled_by_consumer j past) (is_settled_by_router j past) (carries_closed past j)

module _ (e : Event) (past : List Event) where
  pub carries_closed-step : (j : Outgoing) → StandsOn e past j → carries_closed (e ∷ past) j ≡ carries_closed past j || closes_carried e past j
  carries_closed-step j on = ap (λ o. is_some_and o (is_closed (e ∷ past))) on.noted_still ∙ carried-by e past (noted j.note past) on.carried

  -- one that was to be settled, or comes to be, and that the event leaves unsettled
  pub is_to_settle-step : (j : Outgoing) → StandsOn e past j → is_to_settle (e ∷ past) j ≡ (is_to_settle past j || comes_to_settle e past j) && keeps_unsettled e j
  is_to_settle-step j on =
      let stood = stands_unsettled past j in
      let stays = keeps_unsettled e j in
      let decided = is_some (decision j past) in
      let closed = carries_closed past j in
      is_to_settle-parts (e ∷ past) j
      ∙ (ap (λ b. b && (is_some (decision j (e ∷ past)) && carries_closed (e ∷ past) j)) (stands_unsettled-step e past j on.live)
      ∙ (ap (λ b. stood && stays && (b && carries_closed (e ∷ past) j)) (is_decided-step e past j)
      ∙ (ap (λ b. stood && stays && ((decided || is_live past j.link && decides_now e j) && b)) (carries_closed-step j on)
      ∙ (live-bits (is_live past j.link) (not (is_settled_by_consumer j past)) (not (is_settled_by_router j past)) stays decided (decides_now e j) (closed || closes_carried e past j)
      ∙ (ap (λ b. stood && stays && b) (comes-bits decided (decides_now e j) closed (closes_carried e past j))
      ∙ (either-bits stood stays (decided && closed) (decides_now e j && (closed || closes_carried e past j) || closes_carried e past j && (decided || decides_now e j))
      ∙ ap (λ b. (b || comes_to_settle e past j) && stays) (sym (is_to_settle-parts past j))))))))

  -- where it doesn't come to be
  pub is_to_settle-stays : (j : Outgoing) → StandsOn e past j → comes_to_settle e past j ≡ false → is_to_settle (e ∷ past) j ≡ is_to_settle past j && keeps_unsettled e j
  is_to_settle-stays j on none =
      is_to_settle-step j on ∙ ap (λ b. (is_to_settle past j || b) && keeps_unsettled e j) none ∙ ap (λ b. b && keeps_unsettled e j) (or-false (is_to_settle past j))

-- ---- all that are to be settled

filter-old : {A : Type 0} (p : A → Bool) (o : Option A) (xs : List A) → ((x : A) → o ≡ Some x → p x ≡ false) → filter p (cons_option o xs) ≡ filter p xs
filter-old p None xs fails = refl
filter-old p (Some x) xs fails = ap (λ b. if b then x ∷ filter p xs else filter p xs) (fails x refl)

filter-no_more : {A : Type 0} (p q : A → Bool) (xs : List A) → AllByRecursion (λ x. q x ≡ false) xs → filter (λ x. p x || q x) xs ≡ filter p xs
filter-no_more p q [] none = refl
filter-no_more p q (x ∷ xs) none =
    ap (λ b. if p x || b then x ∷ filter (λ x. p x || q x) xs else filter (λ x. p x || q x) xs) none.0
    ∙ (ap (λ b. if b then x ∷ filter (λ x. p x || q x) xs else filter (λ x. p x || q x) xs) (or-false (p x))
    ∙ ap (λ rest. if p x then x ∷ rest else rest) (filter-no_more p q xs none.1))

pub find-both : {A : Type 0} (p q : A → Bool) (xs : List A) → find (λ x. p x && q x) xs ≡ find p (filter q xs)
find-both p q [] = refl
find-both p q (x ∷ xs) = ap (λ o. if p x && q x then Some x else o) (find-both p q xs) ∙ by (p x) (q x) refl
  where
    by : (b c : Bool) → p x ≡ b → (if b && c then Some x else find p (filter q xs)) ≡ find p (if c then x ∷ filter q xs else filter q xs)
    by true true is = ap (λ b. if b then Some x else find p (filter q xs)) (sym is)
    by false true is = ap (λ b. if b then Some x else find p (filter q xs)) (sym is)
    by true false is = refl
    by false false is = refl

module _ (e : Event) (past : List Event) (on : AllByRecursion (StandsOn e past) (outgoing_deliveries past)) (begun : (j : Outgoing) → outgoing_begun e ≡ Some j → is_to_settle (e ∷ past) j ≡ false) where
  -- those that were, and those that come to be, but for those that the event settles
  pub deliveries_to_settle-step : deliveries_to_settle (e ∷ past)
      ≡ filter (keeps_unsettled e) (filter (λ j. is_to_settle past j || comes_to_settle e past j) (reverse (outgoing_deliveries past)))
  deliveries_to_settle-step =
      let were = λ (j : Outgoing). is_to_settle past j || comes_to_settle e past j in
      let js = outgoing_deliveries past in
      sym (filter-reverse (is_to_settle (e ∷ past)) (cons_option (outgoing_begun e) js))
      ∙ (ap reverse (filter-old (is_to_settle (e ∷ past)) (outgoing_begun e) js begun
      ∙ filter-each (is_to_settle (e ∷ past)) were (keeps_unsettled e) js (each-map (StandsOn e past) (λ j. is_to_settle (e ∷ past) j ≡ were j && keeps_unsettled e j) (is_to_settle-step e past) js on))
      ∙ (filter-reverse (keeps_unsettled e) (filter were js) ∙ ap (filter (keeps_unsettled e)) (filter-reverse were js)))

  -- where none comes
  pub deliveries_to_settle-stay : AllByRecursion (λ j. comes_to_settle e past j ≡ false) (outgoing_deliveries past)
      → deliveries_to_settle (e ∷ past) ≡ filter (keeps_unsettled e) (deliveries_to_settle past)
  deliveries_to_settle-stay none =
      deliveries_to_settle-step
      ∙ ap (filter (keeps_unsettled e)) (sym (filter-reverse (λ j. is_to_settle past j || comes_to_settle e past j) (outgoing_deliveries past))
      ∙ (ap reverse (filter-no_more (is_to_settle past) (comes_to_settle e past) (outgoing_deliveries past) none)
      ∙ filter-reverse (is_to_settle past) (outgoing_deliveries past)))

-- the one that a settling names is found among them
pub to_settle-listed : (s : Session) (id : ℕ) (past : List Event) → to_settle s id past ≡ find (λ j. j.link.session.number == s.number && is_number j.id id) (deliveries_to_settle past)
to_settle-listed s id past = find-both (λ (j : Outgoing). j.link.session.number == s.number && is_number j.id id) (is_to_settle past) (reverse (outgoing_deliveries past))

pub ruleset settling_steps = (
  is_decided-step,
  stands_unsettled-step,
  is_closed-step,
  carries_closed-step,
  is_to_settle-step,
  is_to_settle-stays,
  deliveries_to_settle-step,
  deliveries_to_settle-stay,
)
