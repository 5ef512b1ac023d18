-- What one event, whatever it is, makes of a delivery to a client.
use Rattle.std.proofs.Common.{◌≡◌, refl, ap, ◌∙◌, ℕ, ◌+◌, ◌%◌, ◌^◌, Bool, true, false, ◌&&◌, ◌||◌, not, List, ◌∷◌, ◌++◌, length, Option, Some, None, is_some, option_map, if◌then◌else◌, arith}
use Rattle.std.proofs.lemmas.List.{length-append}
use Rattle.amqp_perf.specs.Nested.{StateFields}
use Rattle.trace_events.specs.Words.{or_else, where_passes}
use Rattle.trace_events.specs.Event.{Event, Outgoing}
use Rattle.trace_events.specs.Said.{out_spoken}
use Rattle.trace_events.specs.Link.{is_live}
use Rattle.trace_events.specs.Ends.{ends_link}
use Rattle.trace_events.specs.Disposition.{is_decisive, terminal_state}
use Rattle.trace_events.specs.Incoming.{part_payload}
use Rattle.trace_events.specs.Outgoing.{is_part, payload, answering, decision, is_settled_by_consumer, is_settled_by_router}
use Rattle.trace_events.specs.Work.{stands_unsettled, keeps_unsettled}
use Rattle.trace_events.proofs.EveryStep.{decision-step}
use Rattle.trace_events.proofs.SettlingSteps.{stands_unsettled-step}
use Rattle.state_outgoing.specs.Sent.{Sent, sent, sent_next, count_next, decision_next, is_left_unsettled}

abbrev pub made : Outgoing → ℕ → Bool → Option (Option StateFields) → Bool → Sent
made j n s d u = record { delivery = j; sent_count = n; is_sent = s; decision = d; is_unsettled = u }

pub made-same : (j : Outgoing) (n n' : ℕ) (s s' : Bool) (d d' : Option (Option StateFields)) (u u' : Bool) → n ≡ n' → s ≡ s' → d ≡ d' → u ≡ u' → made j n s d u ≡ made j n' s' d' u'
made-same j n n' s s' d d' u u' v w x y = rw (v, w, x, y) refl

counted : (n m : ℕ) → (n + m) % 2 ^ 64 ≡ (n % 2 ^ 64 + m) % 2 ^ 64
counted n m = omega arith

count-by : (b : Bool) (sent part : List ℕ) → length (if b then sent ++ part else sent) % 2 ^ 64 ≡ (if b then (length sent % 2 ^ 64 + length part) % 2 ^ 64 else length sent % 2 ^ 64)
count-by true sent part = ap (λ n. n % 2 ^ 64) (length-append sent part) ∙ counted (length sent) (length part)
count-by false sent part = refl

-- on a live link what either side has settled is decided, unless it was sent settled
abbrev pub IsDecided : List Event → Outgoing → Type 0
IsDecided past j =
    j.link.is_pre_settled ≡ false → is_live past j.link ≡ true → is_settled_by_consumer j past || is_settled_by_router j past ≡ true
    → is_some (decision j past) ≡ true

-- s: it was sent settled, c and r: either side has settled it
decided-by : {A B : Type 0} (f : A → B) (s live c r : Bool) (o now : Option A) → (s ≡ false → live ≡ true → c || r ≡ true → is_some o ≡ true)
    → option_map f (or_else o (if s then None else (if live then now else None))) ≡ or_else (option_map f o) (if not s && (live && not c && not r) then option_map f now else None)
decided-by f s live c r (Some x) now known = refl
decided-by f true live c r None now known = refl
decided-by f false false c r None now known = refl
decided-by f false true true r None now known = let never : false ≡ true = known refl refl refl in absurd cc
decided-by f false true false true None now known = let never : false ≡ true = known refl refl refl in absurd cc
decided-by f false true false false None now known = refl

and_assoc : (a b c : Bool) → a && (b && c) ≡ a && b && c
and_assoc true b c = refl
and_assoc false b c = refl

module _ (e : Event) (past : List Event) (j : Outgoing) where
  count-moves : length (payload j (e ∷ past)) % 2 ^ 64 ≡ count_next e j (length (payload j past) % 2 ^ 64)
  count-moves = count-by (is_part j e) (payload j past) (part_payload (out_spoken e))

  decision-moves : IsDecided past j → option_map terminal_state (decision j (e ∷ past)) ≡ decision_next e j (is_left_unsettled past j) (option_map terminal_state (decision j past))
  decision-moves known =
      ap (option_map terminal_state) (decision-step e past j)
      ∙ decided-by terminal_state j.link.is_pre_settled (is_live past j.link) (is_settled_by_consumer j past) (is_settled_by_router j past) (decision j past) (where_passes is_decisive (answering j e)) known

  unsettled-moves : is_live (e ∷ past) j.link ≡ is_live past j.link && not (ends_link j.link e) → is_left_unsettled (e ∷ past) j ≡ is_left_unsettled past j && keeps_unsettled e j
  unsettled-moves live =
      ap (λ b. not j.link.is_pre_settled && b) (stands_unsettled-step e past j live)
      ∙ and_assoc (not j.link.is_pre_settled) (stands_unsettled past j) (keeps_unsettled e j)

  -- where its link lives on unless the event ends it
  pub sent-moves : is_live (e ∷ past) j.link ≡ is_live past j.link && not (ends_link j.link e) → IsDecided past j → sent (e ∷ past) j ≡ sent_next e (sent past j)
  sent-moves live known = made-same j _ _ _ _ _ _ _ _ count-moves refl (decision-moves known) (unsettled-moves live)
