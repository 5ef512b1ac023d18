-- The ids in use on a session are those counted over the parts of its deliveries.
use Rattle.std.proofs.Common.{◌≡◌, refl, sym, ap, ◌∙◌, subst, ℕ, ◌⊎◌, inl, inr, List, [], ◌∷◌, ◌++◌, length, map, Bool, true, false, not, ◌&&◌, ◌||◌, ◌==◌, Option, Some, None, option_map, filter_map, arith, eqb-true, eq-eqb, ne_eqb}
use Rattle.std.specs.Prelude.{if◌then◌else◌}
use Rattle.std.specs.List.{list_any, cons_option, AllByRecursion}
use Rattle.amqp_perf.specs.Meaning.{TransferFields, flag}
use Rattle.capture_form.specs.declared.records.Record.{Record}
use Rattle.capture_form.specs.Rules.{RuleSet}
use Rattle.flow_counts.specs.Parts.{PartEvent, Part, Aborted, Completed, Freed, Partial, is_id, has_id, begins}
use Rattle.flow_counts.specs.Parts as counted
use Rattle.trace_events.specs.Words.{is_some_and, is_number, where_passes}
use Rattle.trace_events.specs.Event.{Event, Link, Incoming}
use Rattle.trace_events.specs.declared.session.Session.{Session}
use Rattle.trace_events.specs.Said.{in_spoken, in_transfer}
use Rattle.trace_events.specs.Link.{is_live}
use Rattle.trace_events.specs.Incoming.{in_progress, part_payload, incoming_at, incoming_begun, incoming_deliveries, is_part, is_complete, is_aborted, is_settled, is_told, aborts}
use Rattle.trace_events.specs.Waiting.{is_waiting, is_undecided, is_undecided_of}
use Rattle.trace_events.specs.Fault.{is_id_in_use}
use Rattle.trace_events.specs.Parts.{parts_on, parts_of, frees, freed_id, freed_ids, part_events, partial_of}
use Rattle.trace_events.specs.History.{judge, history, new_incoming}
use Rattle.trace_events.proofs.Along.{along}
use Rattle.trace_events.proofs.IncomingSteps.{is_aborted-same, is_aborted-here}
use Rattle.trace_events.proofs.Parts.{IsPart, record_part, each_such, holds_some, kept_still, progress_holds, IsKept, AreKept, kept_step, none_kept, all_such, each_delivery}
use Rattle.trace_events.proofs.PartsCounted.{equal_turned, IsOf, IsCounted, counted_step, link_is_of}
use Rattle.trace_events.proofs.Undecided.{AreWhole, whole_step, part_whole, part_link, part_undecided}
use Rattle.trace_events.proofs.IdsApart.{AtMostOne, Keeps, none_passes, none_but, of_before, all_keep, free_of, begun_free, AreApart, apart_step}

-- ---- on lists

-- what passes the first test passes the second, or the third
record Moves {A : Type 0} (u v f : A → Bool) (x : A) : Type 0 where
  keeps : v x ≡ true → u x ≡ true
  freed : f x ≡ u x && not (v x)

passed_before : {A : Type 0} (u v f : A → Bool) (x : A) → Moves u v f x → f x ≡ true → u x ≡ true
passed_before u v f x moves is = by (u x) (v x) (sym moves.freed ∙ is)
  where
    by : (b c : Bool) → b && not c ≡ true → b ≡ true
    by true c e = refl
    by false c e = absurd cc

-- of at most one that passes: it still passes unless it is freed
one_left : {A : Type 0} (u v f : A → Bool) (xs : List A) → AllByRecursion (Moves u v f) xs → AtMostOne u xs → not (list_any f xs) && list_any u xs ≡ list_any v xs
one_left u v f [] moves one = refl
one_left u v f (x ∷ xs) moves one = by (u x) (v x) (f x) refl refl refl (one_left u v f xs moves.1 one.1)
  where
    nothing : (g : _ → Bool) → AllByRecursion (Keeps u g) xs → u x ≡ true → list_any g xs ≡ false
    nothing g keeps passes = none_passes u g xs keeps (one.0 passes)

    by : (b c d : Bool) → u x ≡ b → v x ≡ c → f x ≡ d → not (list_any f xs) && list_any u xs ≡ list_any v xs → not (d || list_any f xs) && (b || list_any u xs) ≡ c || list_any v xs
    by true true true first second third later = let no : true ≡ false = sym third ∙ (moves.0.freed ∙ rw (first, second) refl) in absurd cc
    by true true false first second third later =
        rw (nothing f (all_such (Moves u v f) (Keeps u f) xs (λ x. passed_before u v f x) moves.1) first) refl
    by true false true first second third later =
        sym (nothing v (all_such (Moves u v f) (Keeps u v) xs (λ x moves. moves.keeps) moves.1) first)
    by true false false first second third later = let no : false ≡ true = sym third ∙ (moves.0.freed ∙ rw (first, second) refl) in absurd cc
    by false true d first second third later = let yes : u x ≡ true = moves.0.keeps second in absurd cc
    by false false true first second third later = let no : true ≡ false = sym third ∙ (moves.0.freed ∙ ap (λ (b : Bool). b && not (v x)) first) in absurd cc
    by false false false first second third later = later

-- ---- ids that are freed

freed_by : (id : ℕ) (ids : List ℕ) (rest : List PartEvent) → counted.is_in_use id (map Freed ids ++ rest) ≡ not (list_any (λ n. id == n) ids) && counted.is_in_use id rest
freed_by id [] rest = refl
freed_by id (n ∷ ids) rest = ap (λ (b : Bool). not (id == n) && b) (freed_by id ids rest) ∙ by (id == n) (list_any (λ n. id == n) ids) (counted.is_in_use id rest)
  where
    by : (b c d : Bool) → not b && (not c && d) ≡ not (b || c) && d
    by true c d = refl
    by false c d = refl

any_filtered : {A : Type 0} (g : A → Option ℕ) (test : ℕ → Bool) (xs : List A) → list_any test (filter_map g xs) ≡ list_any (λ x. is_some_and (g x) test) xs
any_filtered g test [] = refl
any_filtered g test (x ∷ xs) = by (g x) (any_filtered g test xs)
  where
    by : (o : Option ℕ) → list_any test (filter_map g xs) ≡ list_any (λ x. is_some_and (g x) test) xs → list_any test (cons_option o (filter_map g xs)) ≡ is_some_and o test || list_any (λ x. is_some_and (g x) test) xs
    by None later = later
    by (Some n) later = ap (λ (b : Bool). test n || b) later

turned : (m n : ℕ) → (m == n) ≡ (n == m)
turned m n = sym (equal_turned m n (m == n) refl)

id_is : (id : ℕ) (o : Option ℕ) → is_id id o ≡ is_number o id
id_is id None = refl
id_is id (Some n) = turned id n

freed_has : (id : ℕ) (b : Bool) (o : Option ℕ) → is_some_and (if b then o else None) (λ n. id == n) ≡ b && is_number o id
freed_has id true None = refl
freed_has id true (Some n) = turned id n
freed_has id false o = refl

freed_is : (on has before own now aborted : Bool) → own ≡ false → (on ≡ true → has ≡ true → before ≡ true → aborted ≡ false)
    → (on && (before || own) && not now && not aborted) && has ≡ (on && has && before) && not (on && has && now)
freed_is false has before own now aborted older spared = refl
freed_is true false before own now aborted older spared = by (before || own) (not now) (not aborted)
  where
    by : (a b c : Bool) → (a && b && c) && false ≡ false
    by true true true = refl
    by true true false = refl
    by true false c = refl
    by false b c = refl
freed_is true true true own true aborted older spared = by own
  where
    by : (b : Bool) → (true && (true || b) && false && not aborted) && true ≡ false
    by b = refl
freed_is true true true own false aborted older spared = rw (spared refl refl refl) refl
freed_is true true false own now aborted older spared = rw older refl

not_aborted : (live aborted complete waiting closed : Bool) → live && not aborted && (not complete || waiting || not closed) ≡ true → aborted ≡ false
not_aborted live false complete waiting closed is = refl
not_aborted true true complete waiting closed is = absurd cc
not_aborted false true complete waiting closed is = absurd cc

-- ---- one more record

module _ (rules : RuleSet) (s : Session) (id : ℕ) (past : List Event) (r : Record) (all : AreKept rules past) (apart : AreApart rules past)
    (before : counted.is_in_use id (part_events rules s past) ≡ is_id_in_use rules s id past) where
  abbrev now : Event
  now = judge rules past r

  -- undecided before, and with it; and decided by it
  abbrev was : Incoming → Bool
  was d = is_undecided_of rules s id past d

  abbrev is_still : Incoming → Bool
  is_still d = is_undecided_of rules s id (now ∷ past) d

  abbrev is_freed : Incoming → Bool
  is_freed d = is_some_and (freed_id rules s now past d) (λ n. id == n)

  abbrev Spared : Type 0
  Spared = (d : Incoming) → IsKept past d → (d.link.session.number == s.number) ≡ true → is_number d.id id ≡ true → aborts d now ≡ false

  move : Spared → (d : Incoming) → IsKept past d → Moves was is_still is_freed d
  move spared d kept = record {
    keeps = of_before rules past r s id d all kept;
    freed = freed_has id (frees rules s now past d) d.id
        ∙ freed_is (d.link.session.number == s.number) (is_number d.id id) (is_undecided rules d past) (d.number == now.number) (is_undecided rules d (now ∷ past)) (is_aborted d (now ∷ past))
        (ne_eqb d.number (length past) (λ is. let lt = kept.before in absurd (omega (arith, is, lt))))
        (λ on has undecided.
        is_aborted-same now past d (spared d kept on has)
        ∙ not_aborted (is_live past d.link) (is_aborted d past) (is_complete d past) (is_waiting rules d past) (is_settled d past || is_told d past) undecided);
  }

  left : Spared → not (list_any is_freed (incoming_deliveries past)) && list_any was (incoming_deliveries past) ≡ list_any is_still (incoming_deliveries past)
  left spared =
      one_left was is_still is_freed (incoming_deliveries past)
      (all_such (IsKept past) (Moves was is_still is_freed) (incoming_deliveries past) (move spared) (each_delivery (IsKept past) past all.each)) (apart s id)

  -- what is to be shown, where these are the deliveries with it, and the parts leave the id so
  abbrev Left : List Incoming → Bool → Type 0
  Left deliveries parts = not (list_any is_freed deliveries) && parts ≡ list_any is_still deliveries

  settle : (o : Option Incoming) → incoming_begun now ≡ o → (parts : Bool) → counted.is_in_use id (parts_of s now now.incoming ++ part_events rules s past) ≡ parts
      → Left (cons_option o (incoming_deliveries past)) parts → counted.is_in_use id (part_events rules s (now ∷ past)) ≡ is_id_in_use rules s id (now ∷ past)
  settle o begun parts is shown =
      freed_by id (freed_ids rules s now past) (parts_of s now now.incoming ++ part_events rules s past)
      ∙ (ap (λ (b : Bool). not b && counted.is_in_use id (parts_of s now now.incoming ++ part_events rules s past))
      (any_filtered (freed_id rules s now past) (λ n. id == n) (incoming_deliveries (now ∷ past)))
      ∙ (ap (λ (b : Bool). not (list_any is_freed (incoming_deliveries (now ∷ past))) && b) is
      ∙ subst (λ (o : Option Incoming). Left (cons_option o (incoming_deliveries past)) parts) (sym begun) shown))

  -- nothing is begun, or what is begun is neither undecided nor freed
  beside : (o : Option Incoming) → ((d : Incoming) → o ≡ Some d → (is_still d ≡ false) × (is_freed d ≡ false)) → Spared → Left (cons_option o (incoming_deliveries past)) (list_any was (incoming_deliveries past))
  beside None quiet spared = left spared
  beside (Some d) quiet spared = rw ((quiet d refl).0, (quiet d refl).1) (left spared)

-- ---- on tests

and_false : (b : Bool) → b && false ≡ false
and_false true = refl
and_false false = refl

off_last : (b c : Bool) → c ≡ false → b && c ≡ false
off_last b c is = ap (λ (c : Bool). b && c) is ∙ and_false b

still_off_session : (on has now : Bool) → on ≡ false → on && has && now ≡ false
still_off_session on has now is = ap (λ (b : Bool). b && has && now) is

still_off_id : (on has now : Bool) → has ≡ false → on && has && now ≡ false
still_off_id on has now is = ap (λ (b : Bool). b && now) (off_last on has is)

freed_off_session : (on has begun now aborted : Bool) → on ≡ false → (on && begun && not now && not aborted) && has ≡ false
freed_off_session on has begun now aborted is = ap (λ (b : Bool). (b && begun && not now && not aborted) && has) is

freed_off_aborted : (rest has aborted : Bool) → aborted ≡ true → (rest && not aborted) && has ≡ false
freed_off_aborted rest has aborted is = ap (λ (b : Bool). (rest && not b) && has) is ∙ ap (λ (b : Bool). b && has) (and_false rest)

undecided_not_aborted : (live aborted complete waiting closed : Bool) → aborted ≡ true → live && not aborted && (not complete || waiting || not closed) ≡ false
undecided_not_aborted live aborted complete waiting closed is =
    ap (λ (b : Bool). live && not b && (not complete || waiting || not closed)) is ∙ ap (λ (b : Bool). b && (not complete || waiting || not closed)) (and_false live)

-- one that begins with the id, and isn't aborted, is freed unless it is undecided
begun_left : (on has before own now aborted : Bool) → on ≡ true → has ≡ true → own ≡ true → aborted ≡ false → not ((on && (before || own) && not now && not aborted) && has) ≡ on && has && now
begun_left on has before own now aborted o h w a = rw (o, h, w, a) (by before now)
  where
    by : (before now : Bool) → not ((true && (before || true) && not now && true) && true) ≡ true && true && now
    by true true = refl
    by true false = refl
    by false true = refl
    by false false = refl

same_delivery : (past : List Event) (a b : Incoming) → IsKept past a → IsKept past b → a.number ≡ b.number → a ≡ b
same_delivery past a b kept other same =
    let one : ◌≡◌ {A = Option Incoming} (Some a) (Some b) = sym kept.at ∙ (ap (λ (n : ℕ). incoming_at n past) same ∙ other.at) in
    cc

-- what the parts of an event leave of an id that is in use
parts_leave : (id : ℕ) (l : Link) (e : Event) (fields : TransferFields) (rest : List PartEvent) (aborted more : Bool)
    → (let part = Part l.number e.number fields.delivery_id (part_payload (in_spoken e)) in
    counted.is_in_use id ((if aborted then Aborted l.number ∷ [] else if more then part ∷ [] else Completed l.number ∷ part ∷ []) ++ rest)
    ≡ (if aborted then not (has_id id (counted.in_progress l.number rest)) && counted.is_in_use id rest
    else begins id (counted.in_progress l.number rest) fields.delivery_id || counted.is_in_use id rest))
parts_leave id l e fields rest true more = refl
parts_leave id l e fields rest false true = refl
parts_leave id l e fields rest false false = refl

module _ (rules : RuleSet) (s : Session) (id : ℕ) (past : List Event) (r : Record) (all : AreKept rules past) (apart : AreApart rules past)
    (before : counted.is_in_use id (part_events rules s past) ≡ is_id_in_use rules s id past) (whole : AreWhole past) (counts : (l : Link) → IsCounted rules s l past) where
  abbrev e : Event
  e = judge rules past r

  abbrev Stays : Type 0
  Stays = counted.is_in_use id (part_events rules s (e ∷ past)) ≡ is_id_in_use rules s id (e ∷ past)

  abbrev gives_up : Bool
  gives_up = is_some_and (in_transfer e) (λ fields. flag fields.aborted)

  abbrev Spares : Type 0
  Spares = Spared rules s id past r all apart before

  spares_no_part : e.incoming ≡ None → Spares
  spares_no_part none d kept on has = ap (λ (o : Option Incoming). is_some_and o (λ x. x.number == d.number) && gives_up) none

  spares_unless : gives_up ≡ false → Spares
  spares_unless whole_part d kept on has = off_last (is_part d e) gives_up whole_part

  -- a part of another delivery
  spares_others : (x : Incoming) → e.incoming ≡ Some x → ((d : Incoming) → IsKept past d → (d.link.session.number == s.number) ≡ true → is_number d.id id ≡ true → (x.number == d.number) ≡ false) → Spares
  spares_others x here other d kept on has =
      ap (λ (o : Option Incoming). is_some_and o (λ x. x.number == d.number) && gives_up) here ∙ ap (λ (b : Bool). b && gives_up) (other d kept on has)

  kept_here : (x : Incoming) → e.incoming ≡ Some x → IsKept (e ∷ past) x
  kept_here x here = holds_some (IsKept (e ∷ past)) e.incoming x here (kept_step rules past r all).each.0

  -- one without the id, or of another session
  spares_unlike : (x : Incoming) → e.incoming ≡ Some x → x.link.session.number == s.number && is_number x.id id ≡ false → Spares
  spares_unlike x here unlike =
      spares_others x here (λ d kept on has.
      ne_eqb x.number d.number (λ same.
      let one : x ≡ d = same_delivery (e ∷ past) x d (kept_here x here) (kept_still rules past r d all kept) same in
      let alike : d.link.session.number == s.number && is_number d.id id ≡ true = rw (on, has) refl in
      let no : false ≡ true = sym unlike ∙ (ap (λ (y : Incoming). y.link.session.number == s.number && is_number y.id id) one ∙ alike) in
      absurd cc))

  spares_older : (x : Incoming) → e.incoming ≡ Some x → x.number ≡ length past → Spares
  spares_older x here new =
      spares_others x here (λ d kept on has. ne_eqb x.number d.number (λ same. let lt = kept.before in absurd (omega (arith, lt, same, new))))

  -- the delivery in progress is the one that is counted
  progress_is : (x : Incoming) → e.incoming ≡ Some x → (x.link.session.number == s.number) ≡ true → counted.in_progress x.link.number (part_events rules s past) ≡ option_map (partial_of past) (in_progress x.link past)
  progress_is x here on =
      (counts x.link).counts
      (each_such (IsOf x.link.session x.link) (IsOf s x.link) past (λ d of same. of same ∙ eqb-true x.link.session.number s.number on)
      (link_is_of rules (e ∷ past) x.link (kept_step rules past r all) (kept_here x here).link.at).1)

  parts_are : (x : Incoming) → e.incoming ≡ Some x → (p : IsPart e past x) → (x.link.session.number == s.number) ≡ true
      → counted.is_in_use id (parts_of s e e.incoming ++ part_events rules s past)
      ≡ (if flag p.fields.aborted then not (has_id id (option_map (partial_of past) (in_progress x.link past))) && is_id_in_use rules s id past
      else begins id (option_map (partial_of past) (in_progress x.link past)) p.fields.delivery_id || is_id_in_use rules s id past)
  parts_are x here p on =
      ap (λ (o : Option Incoming). counted.is_in_use id (parts_of s e o ++ part_events rules s past)) here
      ∙ (ap (λ (b : Bool). counted.is_in_use id ((if b then parts_on x.link e (in_transfer e) else []) ++ part_events rules s past)) on
      ∙ (ap (λ (o : Option TransferFields). counted.is_in_use id (parts_on x.link e o ++ part_events rules s past)) p.says
      ∙ (parts_leave id x.link e p.fields (part_events rules s past) (flag p.fields.aborted) (flag p.fields.more)
      ∙ (ap (λ (o : Option Partial). if flag p.fields.aborted then not (has_id id o) && counted.is_in_use id (part_events rules s past)
      else begins id o p.fields.delivery_id || counted.is_in_use id (part_events rules s past)) (progress_is x here on)
      ∙ ap (λ (b : Bool). if flag p.fields.aborted then not (has_id id (option_map (partial_of past) (in_progress x.link past))) && b
      else begins id (option_map (partial_of past) (in_progress x.link past)) p.fields.delivery_id || b) before))))

  parts_elsewhere : (x : Incoming) → e.incoming ≡ Some x → (x.link.session.number == s.number) ≡ false → counted.is_in_use id (parts_of s e e.incoming ++ part_events rules s past) ≡ is_id_in_use rules s id past
  parts_elsewhere x here off =
      ap (λ (o : Option Incoming). counted.is_in_use id (parts_of s e o ++ part_events rules s past)) here
      ∙ (ap (λ (b : Bool). counted.is_in_use id ((if b then parts_on x.link e (in_transfer e) else []) ++ part_events rules s past)) off ∙ before)

  -- nothing begins, and the parts leave all as it was
  as_before : incoming_begun e ≡ None → Spares → counted.is_in_use id (parts_of s e e.incoming ++ part_events rules s past) ≡ is_id_in_use rules s id past → Stays
  as_before begun spared is =
      settle rules s id past r all apart before None begun (is_id_in_use rules s id past) is
      (beside rules s id past r all apart before None (λ d never. absurd cc) spared)

  by_none : e.incoming ≡ None → Stays
  by_none none =
      as_before (ap (where_passes (λ (d : Incoming). d.number == e.number)) none) (spares_no_part none)
      (ap (λ (o : Option Incoming). counted.is_in_use id (parts_of s e o ++ part_events rules s past)) none ∙ before)

  -- ---- a part of a delivery that is in progress

  module _ (x : Incoming) (here : e.incoming ≡ Some x) (p : IsPart e past x) (going : in_progress p.part.link past ≡ Some x) where
    kept : IsKept past x
    kept = progress_holds (IsKept past) p.part.link past x all.each going

    none_begun : incoming_begun e ≡ None
    none_begun =
        ap (where_passes (λ (d : Incoming). d.number == e.number)) here
        ∙ ap (λ (b : Bool). if b then Some x else None) (ne_eqb x.number (length past) (λ same. let lt = kept.before in absurd (omega (arith, same, lt))))

    on_link : in_progress x.link past ≡ Some x
    on_link = sym (ap (λ (l : Link). in_progress l past) (part_link rules past r x all p (inl going))) ∙ going

    gives_up_is : gives_up ≡ flag p.fields.aborted
    gives_up_is = ap (λ (o : Option TransferFields). is_some_and o (λ fields. flag fields.aborted)) p.says

    going_parts : (x.link.session.number == s.number) ≡ true → (aborted : Bool) → flag p.fields.aborted ≡ aborted → counted.is_in_use id (parts_of s e e.incoming ++ part_events rules s past)
        ≡ (if aborted then not (is_number x.id id) && is_id_in_use rules s id past else is_id_in_use rules s id past)
    going_parts on aborted is =
        parts_are x here p on
        ∙ (ap (λ (o : Option Incoming). if flag p.fields.aborted then not (has_id id (option_map (partial_of past) o)) && is_id_in_use rules s id past
        else begins id (option_map (partial_of past) o) p.fields.delivery_id || is_id_in_use rules s id past) on_link
        ∙ (ap (λ (b : Bool). if b then not (is_id id x.id) && is_id_in_use rules s id past else is_id_in_use rules s id past) is
        ∙ ap (λ (b : Bool). if aborted then not b && is_id_in_use rules s id past else is_id_in_use rules s id past) (id_is id x.id)))

    -- its own delivery is given up: the only one of its id
    given_up : (x.link.session.number == s.number) ≡ true → is_number x.id id ≡ true → flag p.fields.aborted ≡ true → list_any (is_undecided_of rules s id (e ∷ past)) (incoming_deliveries past) ≡ false
    given_up on has aborted =
        none_but (is_undecided_of rules s id past) (is_undecided_of rules s id (e ∷ past)) (λ d. d.number == x.number) (incoming_deliveries past) x kept.at
        (rw (on, has, part_undecided rules past r x all whole here p going) refl)
        (off_last (x.link.session.number == s.number && is_number x.id id) (is_undecided rules x (e ∷ past))
        (undecided_not_aborted (is_live (e ∷ past) x.link) (is_aborted x (e ∷ past)) (is_complete x (e ∷ past)) (is_waiting rules x (e ∷ past)) (is_settled x (e ∷ past) || is_told x (e ∷ past))
        (is_aborted-here e past x aborts_it)))
        (apart s id) (all_keep rules past r s id all)
      where
        aborts_it : aborts x e ≡ true
        aborts_it =
            ap (λ (o : Option Incoming). is_some_and o (λ d. d.number == x.number) && gives_up) here
            ∙ (ap (λ (b : Bool). b && gives_up) (eq-eqb x.number x.number refl) ∙ (gives_up_is ∙ aborted))

    by_going : (on has aborted : Bool) → (x.link.session.number == s.number) ≡ on → is_number x.id id ≡ has → flag p.fields.aborted ≡ aborted → Stays
    by_going false has aborted owned given up =
        as_before none_begun (spares_unlike x here (ap (λ (b : Bool). b && is_number x.id id) owned)) (parts_elsewhere x here owned)
    by_going true has false owned given up = as_before none_begun (spares_unless (gives_up_is ∙ up)) (going_parts owned false up)
    by_going true false true owned given up =
        as_before none_begun (spares_unlike x here (off_last (x.link.session.number == s.number) (is_number x.id id) given))
        (going_parts owned true up ∙ ap (λ (b : Bool). not b && is_id_in_use rules s id past) given)
    by_going true true true owned given up =
        settle rules s id past r all apart before None none_begun false
        (going_parts owned true up ∙ ap (λ (b : Bool). not b && is_id_in_use rules s id past) given)
        (and_false (not (list_any (is_freed rules s id past r all apart before) (incoming_deliveries past))) ∙ sym (given_up owned given up))

  -- ---- the first part of a delivery

  module _ (x : Incoming) (here : e.incoming ≡ Some x) (p : IsPart e past x) (none : in_progress p.part.link past ≡ None) (new : x ≡ new_incoming (length past) p.fields p.part.link) where
    number : x.number ≡ length past
    number = ap (λ (d : Incoming). d.number) new

    begun : incoming_begun e ≡ Some x
    begun =
        ap (where_passes (λ (d : Incoming). d.number == e.number)) here
        ∙ ap (λ (b : Bool). if b then Some x else None) (eq-eqb x.number (length past) number)

    none_on_link : in_progress x.link past ≡ None
    none_on_link = sym (ap (λ (l : Link). in_progress l past) (part_link rules past r x all p (inr (none, new)))) ∙ none

    up_is : gives_up ≡ flag p.fields.aborted
    up_is = ap (λ (o : Option TransferFields). is_some_and o (λ fields. flag fields.aborted)) p.says

    aborts_is : aborts x e ≡ flag p.fields.aborted
    aborts_is =
        ap (λ (o : Option Incoming). is_some_and o (λ d. d.number == x.number) && gives_up) here
        ∙ (ap (λ (b : Bool). b && gives_up) (eq-eqb x.number x.number refl) ∙ up_is)

    begun_parts : (x.link.session.number == s.number) ≡ true → (aborted : Bool) → flag p.fields.aborted ≡ aborted → counted.is_in_use id (parts_of s e e.incoming ++ part_events rules s past)
        ≡ (if aborted then is_id_in_use rules s id past else is_number x.id id || is_id_in_use rules s id past)
    begun_parts on aborted is =
        parts_are x here p on
        ∙ (ap (λ (o : Option Incoming). if flag p.fields.aborted then not (has_id id (option_map (partial_of past) o)) && is_id_in_use rules s id past
        else begins id (option_map (partial_of past) o) p.fields.delivery_id || is_id_in_use rules s id past) none_on_link
        ∙ (ap (λ (b : Bool). if b then is_id_in_use rules s id past else is_id id p.fields.delivery_id || is_id_in_use rules s id past) is
        ∙ (ap (λ (o : Option ℕ). if aborted then is_id_in_use rules s id past else is_id id o || is_id_in_use rules s id past) (sym (ap (λ (d : Incoming). d.id) new))
        ∙ ap (λ (b : Bool). if aborted then is_id_in_use rules s id past else b || is_id_in_use rules s id past) (id_is id x.id))))

    -- neither undecided, nor freed
    quietly : is_undecided_of rules s id (e ∷ past) x ≡ false → frees rules s e past x && is_number x.id id ≡ false
        → counted.is_in_use id (parts_of s e e.incoming ++ part_events rules s past) ≡ is_id_in_use rules s id past → Stays
    quietly decided held is =
        settle rules s id past r all apart before (Some x) begun (is_id_in_use rules s id past) is
        (beside rules s id past r all apart before (Some x)
        (λ d same.
        let one : x ≡ d = cc in
        subst (λ (d : Incoming). (is_undecided_of rules s id (e ∷ past) d ≡ false) × (is_some_and (freed_id rules s e past d) (λ n. id == n) ≡ false)) one
        (decided, freed_has id (frees rules s e past x) x.id ∙ held))
        (spares_older x here number))

    -- its id, which was free, is in use unless the event decides it
    taken : (x.link.session.number == s.number) ≡ true → is_number x.id id ≡ true → flag p.fields.aborted ≡ false → Stays
    taken on has whole_part =
        settle rules s id past r all apart before (Some x) begun true
        (begun_parts on false whole_part ∙ ap (λ (b : Bool). b || is_id_in_use rules s id past) has)
        (rw (none_freed, none_still) (by (is_some_and (freed_id rules s e past x) (λ n. id == n)) (is_undecided_of rules s id (e ∷ past) x) mine))
      where
        free : list_any (is_undecided_of rules s id past) (incoming_deliveries past) ≡ false
        free = free_of rules past s id x (begun_free rules past r x all begun) on has

        none_still : list_any (is_undecided_of rules s id (e ∷ past)) (incoming_deliveries past) ≡ false
        none_still = none_passes (is_undecided_of rules s id past) (is_undecided_of rules s id (e ∷ past)) (incoming_deliveries past) (all_keep rules past r s id all) free

        none_freed : list_any (is_freed rules s id past r all apart before) (incoming_deliveries past) ≡ false
        none_freed =
            none_passes (is_undecided_of rules s id past) (is_freed rules s id past r all apart before) (incoming_deliveries past)
            (all_such (IsKept past) (Keeps (is_undecided_of rules s id past) (is_freed rules s id past r all apart before)) (incoming_deliveries past)
            (λ d kept. passed_before (is_undecided_of rules s id past) (is_undecided_of rules s id (e ∷ past)) (is_freed rules s id past r all apart before) d
            (move rules s id past r all apart before (spares_older x here number) d kept))
            (each_delivery (IsKept past) past all.each)) free

        mine : not (is_some_and (freed_id rules s e past x) (λ n. id == n)) ≡ is_undecided_of rules s id (e ∷ past) x
        mine =
            ap not (freed_has id (frees rules s e past x) x.id)
            ∙ begun_left (x.link.session.number == s.number) (is_number x.id id) (is_undecided rules x past) (x.number == e.number) (is_undecided rules x (e ∷ past)) (is_aborted x (e ∷ past))
            on has (eq-eqb x.number (length past) number)
            (is_aborted-same e past x (aborts_is ∙ whole_part) ∙ part_whole rules past r all whole x here p (inr (none, new)))

        by : (b c : Bool) → not b ≡ c → not (b || false) && true ≡ c || false
        by true c is = is ∙ sym (or_false c)
          where
            or_false : (c : Bool) → c || false ≡ c
            or_false true = refl
            or_false false = refl
        by false true is = refl
        by false false is = is

    by_begun : (on has aborted : Bool) → (x.link.session.number == s.number) ≡ on → is_number x.id id ≡ has → flag p.fields.aborted ≡ aborted → Stays
    by_begun false has aborted owned given up =
        quietly (still_off_session (x.link.session.number == s.number) (is_number x.id id) (is_undecided rules x (e ∷ past)) owned)
        (freed_off_session (x.link.session.number == s.number) (is_number x.id id) (is_undecided rules x past || x.number == e.number) (is_undecided rules x (e ∷ past)) (is_aborted x (e ∷ past)) owned)
        (parts_elsewhere x here owned)
    by_begun true has true owned given up =
        let given_up = is_aborted-here e past x (aborts_is ∙ up) in
        quietly
        (off_last (x.link.session.number == s.number && is_number x.id id) (is_undecided rules x (e ∷ past))
        (undecided_not_aborted (is_live (e ∷ past) x.link) (is_aborted x (e ∷ past)) (is_complete x (e ∷ past)) (is_waiting rules x (e ∷ past)) (is_settled x (e ∷ past) || is_told x (e ∷ past)) given_up))
        (freed_off_aborted (x.link.session.number == s.number && (is_undecided rules x past || x.number == e.number) && not (is_undecided rules x (e ∷ past))) (is_number x.id id) (is_aborted x (e ∷ past)) given_up)
        (begun_parts owned true up)
    by_begun true false false owned given up =
        quietly (still_off_id (x.link.session.number == s.number) (is_number x.id id) (is_undecided rules x (e ∷ past)) given)
        (off_last (frees rules s e past x) (is_number x.id id) given)
        (begun_parts owned false up ∙ ap (λ (b : Bool). b || is_id_in_use rules s id past) given)
    by_begun true true false owned given up = taken owned given up

  -- ---- each event

  by_part : (x : Incoming) → e.incoming ≡ Some x → (p : IsPart e past x) → (in_progress p.part.link past ≡ Some x) ⊎ ((in_progress p.part.link past ≡ None) × (x ≡ new_incoming (length past) p.fields p.part.link)) → Stays
  by_part x here p (inl going) = by_going x here p going (x.link.session.number == s.number) (is_number x.id id) (flag p.fields.aborted) refl refl refl
  by_part x here p (inr new) = by_begun x here p new.0 new.1 (x.link.session.number == s.number) (is_number x.id id) (flag p.fields.aborted) refl refl refl

  by_incoming : (o : Option Incoming) → e.incoming ≡ o → Stays
  by_incoming None here = by_none here
  by_incoming (Some x) here = let p = record_part rules past r x here in by_part x here p p.part.kind

  in_use_step : Stays
  in_use_step = by_incoming e.incoming refl

-- ---- along a history

record AreUsed (rules : RuleSet) (s : Session) (id : ℕ) (past : List Event) : Type 0 where
  kept : AreKept rules past
  apart : AreApart rules past
  whole : AreWhole past
  counts : (l : Link) → IsCounted rules s l past
  used : counted.is_in_use id (part_events rules s past) ≡ is_id_in_use rules s id past

none_used : (rules : RuleSet) (s : Session) (id : ℕ) → AreUsed rules s id []
none_used rules s id = record {
  kept = none_kept rules;
  apart = λ s id. tt;
  whole = λ l d is. absurd cc;
  counts = λ l. record { kept = none_kept rules; counts = λ of. refl };
  used = refl;
}

used_step : (rules : RuleSet) (s : Session) (id : ℕ) (past : List Event) (r : Record) → AreUsed rules s id past → AreUsed rules s id (judge rules past r ∷ past)
used_step rules s id past r h = record {
  kept = kept_step rules past r h.kept;
  apart = apart_step rules past r h.kept h.apart;
  whole = whole_step rules past r h.kept h.whole;
  counts = λ l. counted_step rules s l past r (h.counts l);
  used = in_use_step rules s id past r h.kept h.apart h.used h.whole h.counts;
}

-- of each session of a capture: the ids in use are those counted over its parts
pub id_in_use_counted : (rules : RuleSet) (rs : List Record) (s : Session) (id : ℕ) → counted.is_in_use id (part_events rules s (history rules rs)) ≡ is_id_in_use rules s id (history rules rs)
id_in_use_counted rules rs s id = (along rules (AreUsed rules s id) (none_used rules s id) (used_step rules s id) rs).used
