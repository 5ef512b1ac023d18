-- What a turn leaves, and what it does not.
use Rattle.std.proofs.Common.{◌≡◌, ℕ, Bool, false, List, [], ◌∷◌, ◌++◌, All, refl, arith}
use Rattle.std.proofs.lemmas.List.Elements.{All-cons}
use Rattle.capture_form.specs.declared.records.Record.{Record}
use Rattle.capture_form.specs.declared.records.What.TheVariants as happened
use Rattle.conn_engine.specs.Pausing.{Paused}
use Rattle.conn_engine.specs.declared.serving.Status.TheVariants.{Failed}
use Rattle.daemon_server.specs.Desks.{IsEntry}
use Rattle.daemon_server.specs.Turns.{HasServed}

-- of a connection of which one item was taken, which was given one frame, and to which two are due; of one that stopped nothing is
-- known of its octets
module _ {G : Type 0} (Delivered Took : G → List ℕ → Type 0) (ended : G → Bool) (gate : G) (engine : Paused) (number : engine.number ≡ 3) (lost : Record)
    (entry : IsEntry 3 lost) (is : lost.what ≡ happened.Lost) where
  abbrev Served : List Record → List (List ℕ) → Type 0
  Served inbox outbox = HasServed Delivered Took ended (happened.Opened ∷ []) ((7 ∷ []) ∷ []) ((8 ∷ []) ∷ (9 ∷ []) ∷ []) 3 Failed gate engine inbox outbox

  nothing : All (IsEntry 3) []
  nothing = λ k d lt. absurd (omega (arith, lt))

  -- one more item, and one of the frames was given
  one_of_each : Served (lost ∷ []) ((9 ∷ []) ∷ [])
  one_of_each = record {
    number = number;
    items_now = happened.Opened ∷ happened.Lost ∷ [];
    frames_now = (7 ∷ []) ∷ (8 ∷ []) ∷ [];
    is_idle = false;
    holds = tt;
    taken = rw is refl;
    given = refl;
    entries = All-cons (IsEntry 3) lost [] entry nothing;
  }

  -- none but those that were due is due behind it
  not_another_due : Served [] ((6 ∷ []) ∷ []) → ⊥
  not_another_due served = last served.frames_now served.given
    where
      last : (frames : List (List ℕ)) → frames ++ (6 ∷ []) ∷ [] ≡ (7 ∷ []) ∷ (8 ∷ []) ∷ (9 ∷ []) ∷ [] → ⊥
      last [] e = cc
      last (a ∷ []) e = cc
      last (a ∷ b ∷ []) e = cc
      last (a ∷ b ∷ c ∷ frames) e = absurd (short frames e)
        where
          short : (rest : List (List ℕ)) → a ∷ b ∷ c ∷ (rest ++ (6 ∷ []) ∷ []) ≡ (7 ∷ []) ∷ (8 ∷ []) ∷ (9 ∷ []) ∷ [] → ⊥
          short [] e = cc
          short (r ∷ rest) e = cc

  -- what lies in the inbox is of the connection
  not_of_another : (other : Record) → other.connection ≡ 4 → Served (other ∷ []) [] → ⊥
  not_of_another other where_else served =
      let own : other.connection ≡ 3 = (served.entries 0 other (omega arith)).own in absurd (omega (arith, own, where_else))
