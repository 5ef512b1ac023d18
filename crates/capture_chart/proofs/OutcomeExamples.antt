-- Whose outcome is told, of small captures, worked out by hand.
use Rattle.std.proofs.Common.{◌≡◌, ◌∙◌, ◌++◌, ℕ, Bool, true, false, List, [], ◌∷◌, length, None, Option, Some, ap, arith, refl, sym}
use Rattle.std.proofs.lemmas.List.{length-append}
use Rattle.std.specs.List.{AllByRecursion}
use Rattle.pairing_cert.specs.declared.note.Note.TheVariants as notes
use Rattle.amqp_perf.specs.declared.attach.Role.{Role}
use Rattle.amqp_perf.specs.declared.attach.Role.TheVariants.{Sender, Receiver}
use Rattle.amqp_perf.specs.declared.begin.Begin.{Begin}
use Rattle.amqp_perf.specs.Meaning.{DetachFields, DispositionFields, TransferFields, ABegin, AClose, ADetach, ADisposition, AnEnd, ATransfer}
use Rattle.capture_view.specs.Saying.{NoBody, Says}
use Rattle.capture_view.specs.Viewed.{Happening, In, Out, Opened, Lost, Broken, Viewed}
use Rattle.capture_view.specs.declared.names.LinkKey.{LinkKey}
use Rattle.capture_chart.specs.declared.outcomes.DeliveryKey.{DeliveryKey}
use Rattle.capture_chart.specs.declared.outcomes.Ended.{Ended}
use Rattle.capture_chart.specs.Outcomes.{IsBegun, IsOutcomeOf, ended_by, goes_by, id_sent, id_told, in_progress, is_delivery, is_ended, is_over, outcome_told, sent_by, told_by, undecided}

-- ---- keys

abbrev key : ℕ → ℕ → ℕ → DeliveryKey
key connection channel id = record { connection = connection; channel = channel; id = id }

same_id : is_delivery (key 1 2 3) (key 1 2 3) ≡ true
same_id = refl

other_connection : is_delivery (key 1 2 3) (key 4 2 3) ≡ false
other_connection = refl

other_channel : is_delivery (key 1 2 3) (key 1 4 3) ≡ false
other_channel = refl

other_id : is_delivery (key 1 2 3) (key 1 2 4) ≡ false
other_id = refl

session : Ended
session = record { connection = 1; channel = Some 2 }

of_session : is_over session 1 2 ≡ true
unfolding session
of_session = refl

of_another_session : is_over session 1 3 ≡ false
unfolding session
of_another_session = refl

on_another_connection : is_over session 4 2 ≡ false
unfolding session
on_another_connection = refl

-- a connection has all channels
of_connection : is_over (record { connection = 1; channel = None }) 1 3 ≡ true
of_connection = refl

nothing_ended : is_ended None 1 2 ≡ false
nothing_ended = refl

-- ---- what a record does

fields : Option ℕ → Bool → Bool → Bool → TransferFields
fields id settled more aborted = record {
  handle = 5;
  delivery_id = id;
  delivery_tag = None;
  message_format = None;
  settled = Some settled;
  more = Some more;
  resume = None;
  aborted = Some aborted;
}

disposition : Role → ℕ → DispositionFields
disposition role first = record { role = role; first = first; last = None; settled = Some true; state = None }

detach : DetachFields
detach = record { handle = 5; closed = None; error = None }

abbrev link : LinkKey
link = record { connection = 1; channel = 2; handle = 5 }

-- a client's transfer with an id
sends : sent_by 1 (In (Says 2 (ATransfer (fields (Some 3) true false false)) [])) ≡ Some (record { link = link; id = 3; is_settled = true })
unfolding fields
sends = refl

no_id : sent_by 1 (In (Says 2 (ATransfer (fields None true false false)) [])) ≡ None
unfolding fields
no_id = refl

of_router : sent_by 1 (Out (Says 2 (ATransfer (fields (Some 3) true false false)) [])) ≡ None
of_router = refl

-- the router tells as the receiver; as the sender it settles
tells : told_by 1 (Out (Says 2 (ADisposition (disposition Receiver 3)) [])) ≡ Some (key 1 2 3)
unfolding disposition
tells = refl

settles : told_by 1 (Out (Says 2 (ADisposition (disposition Sender 3)) [])) ≡ None
unfolding disposition
settles = refl

of_client : told_by 1 (In (Says 2 (ADisposition (disposition Receiver 3)) [])) ≡ None
of_client = refl

begins_anew : (fields : Begin) → ended_by 1 (In (Says 2 (ABegin fields) [])) ≡ Some (record { connection = 1; channel = Some 2 })
begins_anew fields = refl

ends : ended_by 1 (Out (Says 2 (AnEnd None) [])) ≡ Some (record { connection = 1; channel = Some 2 })
ends = refl

closes : ended_by 1 (In (Says 2 (AClose None) [])) ≡ Some (record { connection = 1; channel = None })
closes = refl

is_lost : ended_by 1 Lost ≡ Some (record { connection = 1; channel = None })
is_lost = refl

breaks : ended_by 1 Broken ≡ Some (record { connection = 1; channel = None })
breaks = refl

opens : ended_by 1 Opened ≡ None
opens = refl

is_empty : ended_by 1 (In (NoBody 2)) ≡ None
is_empty = refl

-- a part follows
goes : goes_by 1 (In (Says 2 (ATransfer (fields None false true false)) [])) ≡ Some (record { link = link; goes_on = true })
unfolding fields
goes = refl

-- it is the last
halts : goes_by 1 (In (Says 2 (ATransfer (fields None false false false)) [])) ≡ Some (record { link = link; goes_on = false })
unfolding fields
halts = refl

-- it is given up
is_given_up : goes_by 1 (In (Says 2 (ATransfer (fields None false true true)) [])) ≡ Some (record { link = link; goes_on = false })
unfolding fields
is_given_up = refl

-- of a link of a consumer a client's deliveries do not come
goes_out : goes_by 1 (Out (Says 2 (ATransfer (fields None false true false)) [])) ≡ None
goes_out = refl

is_detached : goes_by 1 (In (Says 2 (ADetach detach) [])) ≡ Some (record { link = link; goes_on = false })
unfolding detach
is_detached = refl

is_detached_by_router : goes_by 1 (Out (Says 2 (ADetach detach) [])) ≡ Some (record { link = link; goes_on = false })
unfolding detach
is_detached_by_router = refl

-- ---- the records so far

view : ℕ → Happening → Viewed
view number happened = record { number = number; connection = 1; happened = happened; note = notes.None }

-- a transfer of the delivery 3, or of none, behind which another part comes or not
part : ℕ → Option ℕ → Bool → Viewed
part number id more = view number (In (Says 2 (ATransfer (fields id false more false)) []))

told : ℕ → ℕ → Viewed
told number id = view number (Out (Says 2 (ADisposition (disposition Receiver id)) []))

a_delivery : undecided (part 7 (Some 3) false ∷ []) (key 1 2 3) ≡ Some 7
unfolding part view fields
a_delivery = refl

another_id : undecided (part 7 (Some 3) false ∷ []) (key 1 2 4) ≡ None
unfolding part view fields
another_id = refl

-- of one that is settled no outcome is to be told
settled_one : undecided (view 7 (In (Says 2 (ATransfer (fields (Some 3) true false false)) [])) ∷ []) (key 1 2 3) ≡ None
unfolding view fields
settled_one = refl

is_in_progress : in_progress (part 7 (Some 3) true ∷ []) link ≡ true
unfolding part view fields
is_in_progress = refl

-- a later part begins nothing, whether it has the id or not
in_two_parts : undecided (part 8 (Some 3) false ∷ part 7 (Some 3) true ∷ []) (key 1 2 3) ≡ Some 7
unfolding part view fields
in_two_parts = refl

in_three_parts : undecided (part 9 (Some 3) false ∷ part 8 None true ∷ part 7 (Some 3) true ∷ []) (key 1 2 3) ≡ Some 7
unfolding part view fields
in_three_parts = refl

-- the last one that began counts
of_the_same_id : undecided (part 8 (Some 3) false ∷ part 7 (Some 3) false ∷ []) (key 1 2 3) ≡ Some 8
unfolding part view fields
of_the_same_id = refl

-- its outcome is told once
is_told : undecided (told 9 3 ∷ part 7 (Some 3) false ∷ []) (key 1 2 3) ≡ None
unfolding part told view fields disposition
is_told = refl

another_is_told : undecided (told 9 4 ∷ part 7 (Some 3) false ∷ []) (key 1 2 3) ≡ Some 7
unfolding part told view fields disposition
another_is_told = refl

-- its session ends, another one, or its connection
session_ends : undecided (view 9 (In (Says 2 (AnEnd None) [])) ∷ part 7 (Some 3) false ∷ []) (key 1 2 3) ≡ None
unfolding part view fields
session_ends = refl

another_session_ends : undecided (view 9 (In (Says 4 (AnEnd None) [])) ∷ part 7 (Some 3) false ∷ []) (key 1 2 3) ≡ Some 7
unfolding part view fields
another_session_ends = refl

connection_ends : undecided (view 9 Lost ∷ part 7 (Some 3) false ∷ []) (key 1 2 3) ≡ None
unfolding part view fields
connection_ends = refl

-- no delivery goes on behind the end of its session, or behind a detach
in_progress_no_more : in_progress (view 9 (In (Says 2 (AnEnd None) [])) ∷ part 7 (Some 3) true ∷ []) link ≡ false
unfolding part view fields
in_progress_no_more = refl

detached : in_progress (view 9 (In (Says 2 (ADetach detach) [])) ∷ part 7 (Some 3) true ∷ []) link ≡ false
unfolding part view fields detach
detached = refl

of_which : outcome_told (part 7 (Some 3) false ∷ []) (told 9 3) ≡ Some 7
unfolding part told view fields disposition
of_which = refl

of_none : outcome_told (part 7 (Some 3) false ∷ []) (told 9 4) ≡ None
unfolding part told view fields disposition
of_none = refl

tells_nothing : outcome_told (part 7 (Some 3) false ∷ []) (part 9 (Some 3) false) ≡ None
unfolding part view fields
tells_nothing = refl

-- ---- what that comes to

abbrev id_or_0 : Option DeliveryKey → ℕ
id_or_0 None = 0
id_or_0 (Some k) = k.id

abbrev head_or : Viewed → List Viewed → Viewed
head_or d [] = d
head_or d (x ∷ xs) = x

begun_there : IsBegun (told 8 4 ∷ part 7 (Some 3) false ∷ []) (key 1 2 3) 7
unfolding part told view fields disposition
begun_there = record {
  since = told 8 4 ∷ [];
  first = part 7 (Some 3) false;
  before = [];
  parts = refl;
  same = refl;
  sent = refl;
  untold = (λ is. let f : ◌≡◌ {A = ℕ} 4 3 = ap id_or_0 is in omega arith, tt);
}

-- of one record it is the only one
alone : (x : Viewed) (since : List Viewed) (first : Viewed) (before : List Viewed) → x ∷ [] ≡ since ++ first ∷ before → x ≡ first
alone x [] first before is = ap (head_or x) is
alone x (y ∷ ys) first before is = absurd (omega (arith, ap length is, length-append ys (first ∷ before)))

-- it has another number
another_number : IsBegun (part 7 (Some 3) false ∷ []) (key 1 2 3) 6 → ⊥
unfolding part view
another_number h = let f : ◌≡◌ {A = ℕ} 7 6 = ap (λ (v : Viewed). v.number) (alone _ h.since h.first h.before h.parts) ∙ h.same in omega arith

-- it gives no id
nothing_sent : IsBegun (part 7 None false ∷ []) (key 1 2 3) 7 → ⊥
unfolding part view fields
nothing_sent h = let f : ◌≡◌ {A = ℕ} 0 3 = ap (λ (v : Viewed). id_or_0 (id_sent v)) (alone _ h.since h.first h.before h.parts) ∙ ap id_or_0 h.sent in omega arith

-- its outcome is told in between
told_between : (since : List Viewed) (first : Viewed) (before : List Viewed) → told 8 3 ∷ part 7 (Some 3) false ∷ [] ≡ since ++ first ∷ before → id_sent first ≡ Some (key 1 2 3)
    → AllByRecursion (λ view. id_told view ≡ Some (key 1 2 3) → ⊥) since → ⊥
unfolding told part view fields disposition
told_between [] first before is sent untold = let f : ◌≡◌ {A = ℕ} 0 3 = ap (λ (vs : List Viewed). id_or_0 (id_sent (head_or first vs))) is ∙ ap id_or_0 sent in omega arith
told_between (x ∷ xs) first before is sent untold = untold.0 (sym (ap (λ (vs : List Viewed). id_told (head_or x vs)) is))

told_already : IsBegun (told 8 3 ∷ part 7 (Some 3) false ∷ []) (key 1 2 3) 7 → ⊥
told_already h = told_between h.since h.first h.before h.parts h.sent h.untold

-- it is not among the records
not_there : (since : List Viewed) (first : Viewed) (before : List Viewed) → [] ≡ since ++ first ∷ before → ⊥
not_there since first before is = omega (arith, ap length is, length-append since (first ∷ before))

no_record : IsBegun [] (key 1 2 3) 7 → ⊥
no_record h = not_there h.since h.first h.before h.parts

told_of_it : IsOutcomeOf (told 8 4 ∷ part 7 (Some 3) false ∷ []) (told 9 3) 7
unfolding told view disposition
told_of_it = record { key = key 1 2 3; told = refl; begun = begun_there }

-- another id is told
told_of_another : IsOutcomeOf (part 7 (Some 3) false ∷ []) (told 9 4) 7 → ⊥
unfolding told part view fields disposition
told_of_another h =
    let sent : ◌≡◌ {A = ℕ} 3 (h.key.id) = ap (λ (v : Viewed). id_or_0 (id_sent v)) (alone _ h.begun.since h.begun.first h.begun.before h.begun.parts) ∙ ap id_or_0 h.begun.sent in
    let tells : ◌≡◌ {A = ℕ} 4 (h.key.id) = ap id_or_0 h.told in
    omega arith

-- of no delivery that began
told_of_none : IsOutcomeOf [] (told 9 3) 7 → ⊥
told_of_none h = not_there h.begun.since h.begun.first h.begun.before h.begun.parts
