-- What one more event makes of the live links of consumers, each by its number.
use Rattle.std.proofs.Common.{◌≡◌, refl, sym, ap, subst, ◌∙◌, ◌↔◌, ℕ, Bool, true, false, ◌&&◌, not, List, ◌∷◌, Option, Some, None, find, if◌then◌else◌, ◌==◌, arith, eqb-true}
use Rattle.std.specs.List.{Contains, cons_option}
use Rattle.std.proofs.lemmas.Bool.{eq-eqb}
use Rattle.capture_form.specs.Rules.{RuleSet}
use Rattle.trace_events.specs.Words.{or_else, where_passes}
use Rattle.trace_events.specs.Event.{Event, Link}
use Rattle.trace_events.specs.Ends.{ends_link}
use Rattle.trace_events.specs.Link.{is_consumer, is_live, link_at, links, own_link, IsLiveLink}
use Rattle.trace_events.proofs.Along.{and_last}
use Rattle.trace_events.proofs.Judged.{AreJudged}
use Rattle.trace_events.proofs.LinkLives.{is_live-new}
use Rattle.trace_events.proofs.LinkNumbers.{judged-found, link_at-later, own_link-number}
use Rattle.trace_events.proofs.LinkEnds.{is_live-next, lives-live}
use Rattle.trace_events.proofs.OneConsumer.{passes-some}
use Rattle.state_tables.specs.ConsumerLinks.{consumer_at, has_link, is_live_consumer, opened_at, with_opened, without}
use Rattle.state_tables.proofs.ConsumerSteps.{any-from, any-gives, known, same_some}

-- a consumer's link that is found by its number is a live one
pub consumer-lives : (rules : RuleSet) (past : List Event) → AreJudged rules past → (n : ℕ) (l : Link) → consumer_at n past ≡ Some l → IsLiveLink l past
consumer-lives rules past are n l is =
    let found = passes-some (is_live_consumer past) (link_at n past) l is in
    lives-live rules past are l (ap (λ m. link_at m past) (judged-found rules past are n l found.0).0 ∙ found.0) (and_last (is_consumer l) (is_live past l) found.1)

module _ (rules : RuleSet) (e : Event) (past : List Event) (are : AreJudged rules (e ∷ past)) (ended : List Link)
    (all : (l : Link) → Contains ended l ↔ IsLiveLink l past × (ends_link l e ≡ true)) where
  -- of these the one of a number is a live link, and ends
  ended-found : (n : ℕ) → has_link ended n ≡ true → (m : Link) × ((m.number ≡ n) × IsLiveLink m past × (ends_link m e ≡ true))
  ended-found n is =
      let found = any-from (λ (l : Link). l.number == n) ended is in
      let of = (all found.0).0 found.1.0 in
      (found.0, (eqb-true found.0.number n found.1.1, of.0, of.1))

  none-without : (n : ℕ) → without ended n None ≡ None
  none-without n = by (has_link ended n)
    where
      by : (b : Bool) → ◌≡◌ {A = Option Link} (if b then None else None) None
      by true = refl
      by false = refl

  -- of a link that stood
  module _ (n : ℕ) (l : Link) (at : link_at n past ≡ Some l) where
    own : l.number ≡ n
    own = (judged-found rules past are.1 n l at).0

    found : link_at l.number past ≡ Some l
    found = ap (λ m. link_at m past) own ∙ at

    ends-same : is_live past l ≡ true → has_link ended n ≡ ends_link l e
    ends-same lives = by (has_link ended n) (ends_link l e) refl refl
      where
        live : IsLiveLink l past
        live = lives-live rules past are.1 l found lives

        by : (a b : Bool) → has_link ended n ≡ a → ends_link l e ≡ b → a ≡ b
        by true true is ends = refl
        by false false is ends = refl
        by false true is ends = sym is ∙ any-gives (λ (m : Link). m.number == n) ended l ((all l).1 (live, ends)) (eq-eqb l.number n own)
        by true false is ends =
            let m = ended-found n is in
            let same : m.0 ≡ l = same_some m.0 l (sym (known rules e past are ended all m.0 m.1.1).at ∙ (ap (λ k. link_at k past) m.1.0 ∙ at)) in
            sym m.1.2 ∙ (ap (λ (k : Link). ends_link k e) same ∙ ends)

    abbrev if_so : Bool → Option Link
    if_so b = if b then Some l else None

    bits : (consumer ends : Bool) → (if ends then None else if_so (consumer && true)) ≡ if_so (consumer && not ends)
    bits true true = refl
    bits true false = refl
    bits false true = refl
    bits false false = refl

    over : (consumer : Bool) → consumer && false ≡ false
    over true = refl
    over false = refl

    stood-by : (lives : Bool) → is_live past l ≡ lives → without ended n (if_so (is_consumer l && lives)) ≡ if_so (is_consumer l && (lives && not (ends_link l e)))
    stood-by true lives =
        ap (λ b. if b then None else if_so (is_consumer l && true)) (ends-same lives) ∙ bits (is_consumer l) (ends_link l e)
    stood-by false lives =
        ap (λ b. without ended n (if_so b)) (over (is_consumer l)) ∙ (none-without n ∙ sym (ap if_so (over (is_consumer l))))

    stood : without ended n (if_so (is_live_consumer past l)) ≡ if_so (is_live_consumer (e ∷ past) l)
    stood = stood-by (is_live past l) refl ∙ ap (λ b. if_so (is_consumer l && b)) (sym (is_live-next rules e past are l found))

  -- whether a link of the number stood or not, if the event opens none of it
  unopened : (n : ℕ) → opened_at n e ≡ None → (o : Option Link) → link_at n past ≡ o
      → without ended n (with_opened n e (where_passes (is_live_consumer past) o)) ≡ where_passes (is_live_consumer (e ∷ past)) o
  unopened n none None at = ap (λ p. without ended n (or_else p None)) none ∙ none-without n
  unopened n none (Some l) at = ap (λ p. without ended n (or_else p (where_passes (is_live_consumer past) (Some l)))) none ∙ stood n l at

  -- of one that the event opens
  module _ (k : Link) (own : own_link e ≡ Some k) where
    none-stood : link_at k.number past ≡ None
    none-stood = let number = own_link-number rules e past k are own in link_at-later rules past are.1 k.number (omega (arith, number))

    none-ended : has_link ended k.number ≡ false
    none-ended = by (has_link ended k.number) refl
      where
        by : (b : Bool) → has_link ended k.number ≡ b → b ≡ false
        by false is = refl
        by true is = let m = ended-found k.number is in let never : ◌≡◌ {A = Option Link} (Some m.0) None = sym (known rules e past are ended all m.0 m.1.1).at ∙ (ap (λ n. link_at n past) m.1.0 ∙ none-stood) in absurd cc

    opens : (n : ℕ) → opened_at n e ≡ where_passes (λ l. l.number == n) (if is_consumer k then Some k else None)
    opens n = ap (λ o. where_passes (λ (l : Link). l.number == n) (where_passes is_consumer o)) own

    opened-by : (consumer : Bool) → or_else (where_passes (λ l. l.number == k.number) (if consumer then Some k else None)) None ≡ (if consumer && true then Some k else None)
    opened-by true = ap (λ b. or_else (if b then Some k else None) None) (eq-eqb k.number k.number refl)
    opened-by false = refl

    opened : without ended k.number (with_opened k.number e (consumer_at k.number past)) ≡ where_passes (is_live_consumer (e ∷ past)) (Some k)
    opened =
        ap (λ b. if b then None else with_opened k.number e (consumer_at k.number past)) none-ended
        ∙ (ap (λ o. with_opened k.number e (where_passes (is_live_consumer past) o)) none-stood
        ∙ (ap (λ o. or_else o None) (opens k.number)
        ∙ (opened-by (is_consumer k) ∙ ap (λ b. if is_consumer k && b then Some k else None) (sym (is_live-new rules e past k are own)))))

    opens-none : (n : ℕ) → (k.number == n) ≡ false → opened_at n e ≡ None
    opens-none n other = opens n ∙ by (is_consumer k)
      where
        by : (consumer : Bool) → where_passes (λ l. l.number == n) (if consumer then Some k else None) ≡ None
        by true = ap (λ b. if b then Some k else None) other
        by false = refl

  pub links-next : (n : ℕ) → without ended n (with_opened n e (consumer_at n past)) ≡ consumer_at n (e ∷ past)
  links-next n = by (own_link e) refl
    where
      of_one : (k : Link) → own_link e ≡ Some k → (b : Bool) → (k.number == n) ≡ b
          → without ended n (with_opened n e (consumer_at n past)) ≡ where_passes (is_live_consumer (e ∷ past)) (if b then Some k else link_at n past)
      of_one k own true same =
          subst (λ m. without ended m (with_opened m e (consumer_at m past)) ≡ where_passes (is_live_consumer (e ∷ past)) (Some k)) (eqb-true k.number n same) (opened k own)
      of_one k own false other = unopened n (opens-none k own n other) (link_at n past) refl

      by : (o : Option Link) → own_link e ≡ o
          → without ended n (with_opened n e (consumer_at n past)) ≡ where_passes (is_live_consumer (e ∷ past)) (find (λ (l : Link). l.number == n) (cons_option o (links past)))
      by None own = unopened n (ap (λ o. where_passes (λ (l : Link). l.number == n) (where_passes is_consumer o)) own) (link_at n past) refl
      by (Some k) own = of_one k own (k.number == n) refl
