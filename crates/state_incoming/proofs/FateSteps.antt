-- What has become of a delivery from a client: what it says of the law's questions, and how one event moves it.
use Rattle.std.proofs.Common.{◌≡◌, refl, sym, ap, ◌∙◌, Bool, true, false, not, ◌&&◌, ◌||◌, ℕ, List, ◌∷◌, if◌then◌else◌}
use Rattle.capture_form.specs.Rules.{RuleSet}
use Rattle.trace_events.specs.Event.{Event, Incoming}
use Rattle.trace_events.specs.Address.{has_multicast, has_consumer}
use Rattle.trace_events.specs.Incoming.{address_of, completes, is_complete}
use Rattle.trace_events.specs.Outgoing.{is_paired}
use Rattle.trace_events.specs.Waiting.{is_of_multicast, always_had_consumer, is_waiting, is_gone}
use Rattle.trace_events.specs.Queue.{pairs}
use Rattle.trace_events.proofs.EveryStep.{is_paired-step}
use Rattle.trace_events.proofs.IncomingSteps.{address_of-same}
use Rattle.state_incoming.specs.Held.{fate_of, fate_next, says_arriving, says_waiting, says_gone, says_paired}
use Rattle.state_incoming.specs.declared.held.Fate.{Fate}
use Rattle.state_incoming.specs.declared.held.Fate.TheVariants.{Arriving, Waiting, Gone, Paired, Copied}

-- c: complete, m: of multicast, p: paired, a: its address always had a consumer
abbrev pub fate_by : Bool → Bool → Bool → Bool → Fate
fate_by c m p a = if not c then Arriving else if m then Copied else if p then Paired else if a then Waiting else Gone

-- ---- what it says

complete-bits : (c m p a : Bool) → c ≡ not (says_arriving (fate_by c m p a))
complete-bits false m p a = refl
complete-bits true true p a = refl
complete-bits true false true a = refl
complete-bits true false false true = refl
complete-bits true false false false = refl

arriving-bits : (c m p a : Bool) → says_arriving (fate_by c m p a) ≡ not c
arriving-bits false m p a = refl
arriving-bits true true p a = refl
arriving-bits true false true a = refl
arriving-bits true false false true = refl
arriving-bits true false false false = refl

waiting-bits : (c m p a : Bool) → (not m && c && not p) && a ≡ says_waiting (fate_by c m p a)
waiting-bits false true p a = refl
waiting-bits false false p a = refl
waiting-bits true true p a = refl
waiting-bits true false true a = refl
waiting-bits true false false true = refl
waiting-bits true false false false = refl

gone-bits : (c m p a : Bool) → (not m && c && not p) && not a ≡ says_gone (fate_by c m p a)
gone-bits false true p a = refl
gone-bits false false p a = refl
gone-bits true true p a = refl
gone-bits true false true a = refl
gone-bits true false false true = refl
gone-bits true false false false = refl

paired-bits : (c m p a : Bool) → m ≡ false → (p ≡ true → c ≡ true) → p ≡ says_paired (fate_by c m p a)
paired-bits c true p a anycast done = absurd cc
paired-bits false false true a anycast done = let never : false ≡ true = done refl in absurd cc
paired-bits false false false a anycast done = refl
paired-bits true false true a anycast done = refl
paired-bits true false false true anycast done = refl
paired-bits true false false false anycast done = refl

module _ (rules : RuleSet) (d : Incoming) (past : List Event) where
  pub complete-fate : is_complete d past ≡ not (says_arriving (fate_of rules d past))
  complete-fate = complete-bits (is_complete d past) (is_of_multicast rules d past) (is_paired d past) (always_had_consumer d past)

  pub arriving-fate : says_arriving (fate_of rules d past) ≡ not (is_complete d past)
  arriving-fate = arriving-bits (is_complete d past) (is_of_multicast rules d past) (is_paired d past) (always_had_consumer d past)

  pub waiting-fate : is_waiting rules d past ≡ says_waiting (fate_of rules d past)
  waiting-fate = waiting-bits (is_complete d past) (is_of_multicast rules d past) (is_paired d past) (always_had_consumer d past)

  pub gone-fate : is_gone rules d past ≡ says_gone (fate_of rules d past)
  gone-fate = gone-bits (is_complete d past) (is_of_multicast rules d past) (is_paired d past) (always_had_consumer d past)

  -- of anycast, since only complete ones are paired
  pub paired-fate : is_of_multicast rules d past ≡ false → (is_paired d past ≡ true → is_complete d past ≡ true) → is_paired d past ≡ says_paired (fate_of rules d past)
  paired-fate = paired-bits (is_complete d past) (is_of_multicast rules d past) (is_paired d past) (always_had_consumer d past)

-- ---- how it moves

-- k: the event completes it, b: the event pairs it, h: its address has a consumer behind the event
abbrev next_by : Bool → Bool → Bool → Bool → Fate → Fate
next_by k m b h Arriving = if k then (if m then Copied else if h then Waiting else Gone) else Arriving
next_by k m b h Waiting = if b then Paired else if h then Waiting else Gone
next_by k m b h Gone = Gone
next_by k m b h Paired = Paired
next_by k m b h Copied = Copied

next-is : (rules : RuleSet) (e : Event) (address : List ℕ) (h : Bool) (d : Incoming) (fate : Fate)
    → fate_next rules e address h d fate ≡ next_by (completes d e) (has_multicast rules address) (pairs d e) h fate
next-is rules e address h d Arriving = refl
next-is rules e address h d Waiting = refl
next-is rules e address h d Gone = refl
next-is rules e address h d Paired = refl
next-is rules e address h d Copied = refl

waits-or-gone : (h : Bool) → (if h && true then Waiting else Gone) ≡ (if h then Waiting else Gone)
waits-or-gone true = refl
waits-or-gone false = refl

gone-still : (h : Bool) → (if h && false then Waiting else Gone) ≡ Gone
gone-still true = refl
gone-still false = refl

paired-still : (b h : Bool) → fate_by true false (b || true) h ≡ Paired
paired-still true h = refl
paired-still false h = refl

move-bits : (c k m p a b h : Bool) → (c ≡ true → k ≡ false) → (p ≡ true → c ≡ true) → (b ≡ true → c ≡ true) → (b ≡ true → (not m && c && not p) && not a ≡ false)
    → fate_by (k || c) m (b || p) (h && (k || a)) ≡ next_by k m b h (fate_by c m p a)
move-bits false k m true a b h once paired pairing whole = let never : false ≡ true = paired refl in absurd cc
move-bits false k m false a true h once paired pairing whole = let never : false ≡ true = pairing refl in absurd cc
move-bits false false m false a false h once paired pairing whole = refl
move-bits false true true false a false h once paired pairing whole = refl
move-bits false true false false a false h once paired pairing whole = waits-or-gone h
move-bits true true m p a b h once paired pairing whole = let never : true ≡ false = once refl in absurd cc
move-bits true false true p a b h once paired pairing whole = refl
move-bits true false false true a b h once paired pairing whole = paired-still b (h && a)
move-bits true false false false true true h once paired pairing whole = refl
move-bits true false false false true false h once paired pairing whole = waits-or-gone h
move-bits true false false false false true h once paired pairing whole = let never : true ≡ false = whole refl in absurd cc
move-bits true false false false false false h once paired pairing whole = gone-still h

-- c: it was complete before; m: of multicast before the event, m': behind it
pub unpaired-same : (c m m' p : Bool) → (c ≡ true → m' ≡ m) → not m' && c && not p ≡ not m && c && not p
unpaired-same true m m' p same = ap (λ b. not b && true && not p) (same refl)
unpaired-same false true true p same = refl
unpaired-same false true false p same = refl
unpaired-same false false true p same = refl
unpaired-same false false false p same = refl

fate-same : (c m m' p a : Bool) → (c ≡ true → m' ≡ m) → fate_by c m' p a ≡ fate_by c m p a
fate-same true m m' p a same = ap (λ b. fate_by true b p a) (same refl)
fate-same false m m' p a same = refl

-- of one that is completed once, and paired when it is complete and not gone
module _ (rules : RuleSet) (d : Incoming) (e : Event) (past : List Event) (once : is_complete d past ≡ true → completes d e ≡ false) where
  -- its address is told, and stays
  pub multicast-same : is_complete d past ≡ true → is_of_multicast rules d (e ∷ past) ≡ is_of_multicast rules d past
  multicast-same done = ap (has_multicast rules) (address_of-same e past d (once done))

  pub fate-moves : (is_paired d past ≡ true → is_complete d past ≡ true) → (pairs d e ≡ true → is_complete d past ≡ true) → (pairs d e ≡ true → is_gone rules d past ≡ false)
      → fate_of rules d (e ∷ past) ≡ fate_next rules e (address_of d (e ∷ past)) (has_consumer (address_of d (e ∷ past)) (e ∷ past)) d (fate_of rules d past)
  fate-moves paired pairing whole =
      let address = address_of d (e ∷ past) in
      let h = has_consumer address (e ∷ past) in
      let c = is_complete d past in
      let m = is_of_multicast rules d past in
      let now = is_of_multicast rules d (e ∷ past) in
      let p = is_paired d past in
      let a = always_had_consumer d past in
      ap (λ p. fate_by (is_complete d (e ∷ past)) now p (always_had_consumer d (e ∷ past))) (is_paired-step e past d)
      ∙ (move-bits c (completes d e) now p a (pairs d e) h once paired pairing (λ is. ap (λ u. u && not a) (unpaired-same c m now p multicast-same) ∙ whole is)
      ∙ (ap (next_by (completes d e) now (pairs d e) h) (fate-same c m now p a multicast-same)
      ∙ sym (next-is rules e address h d (fate_of rules d past))))
