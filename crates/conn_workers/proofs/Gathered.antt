-- Seats and gates, taken from the back.
use Rattle.std.proofs.Common.{◌≡◌, ℕ, ◌+◌, Bool, List, [], ◌∷◌, ◌++◌, length, drop, ap, sym, ◌∙◌, subst, append_assoc, arith}
use mathlib.Core.List.{reverse}
use Rattle.std.specs.List.{concat}
use Rattle.std.proofs.lemmas.List.{reverse-append, take-append-drop}
use Rattle.capture_form.specs.declared.records.Record.{Record}
use Rattle.core_exchange.specs.declared.seat.Seat.{Seat}
use Rattle.trace_events.specs.Kept.{AreFirst}
use Rattle.core_exchange.specs.Seats.{SeatAgrees, SeatsAgree, inputs_on, outs_on}
use Rattle.conn_workers.specs.declared.report.ConnReport.{ConnReport}
use Rattle.conn_engine.specs.Served.{IsServed}
use Rattle.conn_workers.specs.Lines.{IsDone, IsFrom}
use Rattle.conn_workers.specs.Reports.{AreReported, IsReported}
use Rattle.conn_engine.specs.Lacing.{IsLaced}
use Rattle.conn_engine.proofs.LacedOn.{laced_frames}
use Rattle.conn_engine.specs.Streams.{IsWritten}
use Rattle.stream_reading.specs.Steps.{StepText}

-- frames that begin others
begins_parts : (xs ys : List (List ℕ)) → AreFirst xs ys → xs ++ drop (length xs) ys ≡ ys
begins_parts xs ys b = ap (λ (t : List (List ℕ)). t ++ drop (length xs) ys) b ∙ take-append-drop (length xs) ys

-- what was written of them, and the others behind it
written_on : (steps : List StepText) (xs ys : List (List ℕ)) (octets : List ℕ) → AreFirst xs ys → IsWritten steps xs octets → IsWritten steps ys (octets ++ concat (drop (length xs) ys))
written_on steps xs ys octets b is = record {
  count = is.count;
  laced =
      subst (λ (t : List (List ℕ)). IsLaced t is.count (octets ++ concat (drop (length xs) ys))) (begins_parts xs ys b)
      (laced_frames xs (drop (length xs) ys) is.count octets is.laced);
  quiet = is.quiet;
}

agree_split : (records : List Record) (ys : List Seat) (s : Seat) (k : ℕ) → SeatsAgree records k (ys ++ s ∷ []) → SeatsAgree records k ys × SeatAgrees records (k + length ys) s
agree_split records [] s k h = (tt, subst (λ (n : ℕ). SeatAgrees records n s) (omega arith) h.0)
agree_split records (y ∷ ys) s k h =
    let r = agree_split records ys s (k + 1) h.1 in
    ((h.0, r.0), subst (λ (n : ℕ). SeatAgrees records n s) (omega arith) r.1)

-- the last seat is that of the connection of its place
pub agree_pop : (records : List Record) (xs ys : List Seat) (s : Seat) → xs ≡ ys ++ s ∷ [] → SeatsAgree records 0 xs → SeatsAgree records 0 ys × SeatAgrees records (length ys) s
agree_pop records xs ys s e h =
    let r = agree_split records ys s 0 (subst (SeatsAgree records 0) e h) in
    (r.0, subst (λ (n : ℕ). SeatAgrees records n s) (omega arith) r.1)

-- what came of a connection, and frames that begin those that were written to it
told : {G : Type 0} (gates : List G) (Follows : G → G → Type 0) (Delivered Took : G → List ℕ → Type 0) (ended : G → Bool) (records : List Record) (k : ℕ) (frames : List (List ℕ)) (r : ConnReport G)
    → IsServed Delivered Took ended r.gate r.items.items frames r.taken.items → r.conn ≡ k → IsFrom gates Follows k r.gate → inputs_on k records ≡ r.items.items → AreFirst frames (outs_on k records)
    → IsReported gates Follows Delivered Took ended records k r
told gates Follows Delivered Took ended records k frames r served conn from items written =
    let rest = concat (drop (length frames) (outs_on k records)) in
    record {
      conn = conn;
      from = from;
      items = items;
      frames = frames;
      written = written;
      served = served;
      put = served.put ++ rest;
      all = written_on served.stream.steps frames (outs_on k records) served.put written served.written;
      left = served.waiting ++ rest;
      given = sym (append_assoc r.taken.items served.waiting rest) ∙ ap (λ (t : List ℕ). t ++ rest) served.given ∙ append_assoc served.answers served.put rest;
    }

-- a gate that was shut and a seat that agrees make a report
pub reported : {G : Type 0} (gates : List G) (Follows : G → G → Type 0) (Delivered Took : G → List ℕ → Type 0) (ended : G → Bool) (records : List Record) (k : ℕ) (seat : Seat) (r : ConnReport G)
    → IsDone gates Follows Delivered Took ended r.gate r.taken.items seat → SeatAgrees records k seat → r.conn ≡ seat.conn → r.items ≡ seat.items
    → IsReported gates Follows Delivered Took ended records k r
reported gates Follows Delivered Took ended records k seat r done agrees conn items =
    told gates Follows Delivered Took ended records k seat.frames.items r (rw items done.served) (conn ∙ agrees.conn)
    (subst (λ (n : ℕ). IsFrom gates Follows n r.gate) agrees.conn done.from) (agrees.items ∙ ap (λ v. v.items) (sym items)) agrees.frames

-- what is put behind others stands in front of them the other way round
pub reverse_push : {A : Type 0} (xs ys : List A) (x : A) → ys ≡ xs ++ x ∷ [] → reverse ys ≡ x ∷ reverse xs
reverse_push xs ys x is = ap (λ t. reverse t) is ∙ reverse-append xs (x ∷ [])

-- one report more in front
pub more_reported : {G : Type 0} (gates : List G) (Follows : G → G → Type 0) (Delivered Took : G → List ℕ → Type 0) (ended : G → Bool) (records : List Record) (k m n : ℕ) (r : ConnReport G) (rs all : List (ConnReport G))
    → k ≡ m → n ≡ m + 1 → all ≡ r ∷ rs → IsReported gates Follows Delivered Took ended records k r → AreReported gates Follows Delivered Took ended records n rs
    → AreReported gates Follows Delivered Took ended records m all
more_reported gates Follows Delivered Took ended records k m n r rs all same next e here there =
    subst (AreReported gates Follows Delivered Took ended records m) (sym e)
    (subst (λ (j : ℕ). IsReported gates Follows Delivered Took ended records j r) same here, subst (λ (j : ℕ). AreReported gates Follows Delivered Took ended records j rs) next there)
