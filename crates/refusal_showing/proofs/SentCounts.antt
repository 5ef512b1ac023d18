-- How many octets were sent of a delivery to a client that the table has, or that begins behind its events.
use Rattle.std.proofs.Common.{◌≡◌, refl, sym, ap, subst, ◌∙◌, ℕ, suc, ◌%◌, ◌^◌, ◌<◌, ◌≤◌, Bool, true, false, List, [], ◌∷◌, length, Option, Some, None, IfSome, unwrap_or, find, option_map, if◌then◌else◌, ◌==◌, inl, inr, arith, eqb-true, ne_eqb}
use Rattle.capture_form.specs.Rules.{RuleSet}
use Rattle.flow_counts.specs.Parts.{joined_payload}
use Rattle.pairing_cert.specs.declared.note.Note.{Note}
use Rattle.trace_events.specs.Words.{is_some_and}
use Rattle.trace_events.specs.Event.{Event, Outgoing}
use Rattle.trace_events.specs.Incoming.{part_payload}
use Rattle.trace_events.specs.Outgoing.{outgoing_deliveries, outgoing_at, payload}
use Rattle.trace_events.specs.Said.{out_spoken}
use Rattle.trace_events.proofs.Judged.{AreBorn, AreJudged, IsBorn, history-judged, judged-born}
use Rattle.trace_events.proofs.OutgoingSteps.{payload-same}
use Rattle.state_outgoing.specs.Sent.{Sent, sent, sent_at}
use Rattle.state_outgoing.specs.LetGo.{where_kept}
use Rattle.state_outgoing.specs.SentAnswers.{KnowsOrBegins}
use Rattle.state_outgoing.specs.SentTables.{sent_count_in, sent_in}
use Rattle.state_outgoing.specs.declared.deliveries.SentDeliveries.{SentDeliveries}
use Rattle.state_outgoing.proofs.AnswersKnown.{told-entry}
use Rattle.state_incoming.proofs.GroupAnswers.{judged-of}
use Rattle.state_incoming.specs.declared.deliveries.Deliveries.{Deliveries}
use Rattle.refusal_showing.specs.Contents.{TellOf}

-- ---- of one that begins later nothing was sent

born-before : (n : ℕ) (note : Note) (o : Option Outgoing) (m : ℕ) → IfSome o (IsBorn n note) → suc n ≤ m → is_some_and o (λ k. k.number == m) ≡ false
born-before n own None m born le = refl
born-before n own (Some k) m (inl lt) le = ne_eqb k.number m (λ same. absurd (omega (arith, lt, le, same)))
born-before n own (Some k) m (inr (at, named)) le = ne_eqb k.number m (λ same. absurd (omega (arith, at, le, same)))

nothing-sent : (j : Outgoing) (past : List Event) → AreBorn past → length past ≤ j.number → payload j past ≡ []
nothing-sent j [] are le = refl
nothing-sent j (e ∷ past) are le =
    payload-same e past j (born-before (length past) e.note e.outgoing j.number are.0 (omega (arith, le))) ∙ nothing-sent j past are.1 (omega (arith, le))

-- ---- what was sent is told by the number

abbrev payload_at : ℕ → List Event → List ℕ
payload_at n past = joined_payload (λ e. is_some_and e.outgoing (λ other. other.number == n)) (λ e. part_payload (out_spoken e)) past

found-number : (n : ℕ) (js : List Outgoing) (j : Outgoing) → find (λ (x : Outgoing). x.number == n) js ≡ Some j → j.number ≡ n
found-number n [] j found = absurd cc
found-number n (k ∷ js) j found = by (k.number == n) refl found (found-number n js j)
  where
    by : (b : Bool) → (k.number == n) ≡ b → (if b then Some k else find (λ (x : Outgoing). x.number == n) js) ≡ Some j → (find (λ (x : Outgoing). x.number == n) js ≡ Some j → j.number ≡ n) → j.number ≡ n
    by true same found later = let one : k ≡ j = cc in ap (λ (x : Outgoing). x.number) (sym one) ∙ eqb-true k.number n same
    by false other found later = later found

none-apart : (j : Outgoing) → None ≡ Some j → ⊥
none-apart j e = cc

module _ (rules : RuleSet) (past : List Event) (deliveries : Deliveries) (table : SentDeliveries) (tells : TellOf rules deliveries table past) (j : Outgoing) (knows : KnowsOrBegins table past j) where
  born : AreBorn past
  born = subst AreBorn (sym tells.judged.1) (judged-born rules _ (history-judged rules tells.judged.0))

  none-sent : (outgoing_at j.number past ≡ None) → payload j past ≡ []
  none-sent none = by knows
    where
      by : KnowsOrBegins table past j → payload j past ≡ []
      by (inr new) = nothing-sent j past born (omega (arith, new))
      by (inl has) =
          absurd (none-apart j (sym (ap (option_map (λ (x : Sent). x.delivery)) (tells.sent j.number ∙ ap (λ o. where_kept table.let_go.items (option_map (sent past) o)) none)) ∙ has))

  counted : (o : Option Outgoing) → outgoing_at j.number past ≡ o → unwrap_or (option_map (λ (x : Sent). x.sent_count) (option_map (sent past) o)) 0 ≡ length (payload j past) % 2 ^ 64
  counted None none = sym (ap (λ (xs : List ℕ). length xs % 2 ^ 64) (none-sent none))
  counted (Some k) found = ap (λ n. length (payload_at n past) % 2 ^ 64) (found-number j.number (outgoing_deliveries past) k found)

  -- what the table counts is what was sent
  pub count_known : sent_count_in table j.number ≡ length (payload j past) % 2 ^ 64
  count_known =
      ap (λ o. unwrap_or (option_map (λ (x : Sent). x.sent_count) o) 0) (told-entry rules past (judged-of rules past tells.judged) table tells.sent j knows) ∙ counted (outgoing_at j.number past) refl
