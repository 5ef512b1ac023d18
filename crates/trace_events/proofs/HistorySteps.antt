-- What the steps ask of an event and of those before it, where they are those of a history.
use Rattle.std.proofs.Common.{◌≡◌, refl, ap, ◌∙◌, ℕ, suc, ◌<◌, ◌≤◌, false, ◌||◌, List, ◌∷◌, length, Option, Some, None, is_some, ◌==◌, inl, inr, arith}
use Rattle.std.specs.List.{cons_option, filter_map, list_any}
use Rattle.std.proofs.lemmas.Bool.{ne_eqb}
use Rattle.capture_form.specs.declared.records.Record.{Record}
use Rattle.capture_form.specs.Rules.{RuleSet}
use Rattle.trace_events.specs.Event.{Event, Link}
use Rattle.trace_events.specs.declared.session.Session.{Session}
use Rattle.trace_events.specs.Said.{out_begin, out_attach}
use Rattle.trace_events.specs.Session.{own_session}
use Rattle.trace_events.specs.Link.{own_link, links}
use Rattle.trace_events.specs.History.{judge, moment_of, history}
use Rattle.trace_events.proofs.Along.{along, if_some}
use Rattle.trace_events.proofs.Sessions.{begun_number}
use Rattle.trace_events.proofs.Links.{Stands, stands_step, none_stands, attach_in, of_kind, named_known, link_opened_number}

-- sessions and links of a history are those that its records began
pub stands-history : (rules : RuleSet) (rs : List Record) → Stands (history rules rs)
stands-history rules rs = along rules Stands none_stands (stands_step rules) rs

-- an event that writes no attach opens no link
own_link-by : (rules : RuleSet) (past : List Event) (r : Record) (o : Option Link) → own_link (judge rules past r) ≡ o → Stands past
    → out_attach (judge rules past r) ≡ None → own_link (judge rules past r) ≡ None
own_link-by rules past r None is stands none = is
own_link-by rules past r (Some l) is stands none =
    let own = link_opened_number (judge rules past r) l is in
    elim (of_kind rules past r l own.0) [
      | inl opens ↦ let not_any : is_some (attach_in (moment_of r.what)) ≡ false = ap is_some none in absurd cc
      | inr named ↦
          let below : l.number < length past = (named_known rules past r l stands named.0 named.1 named.2).1 in
          let same : l.number ≡ length past = own.1 in
          absurd (omega (arith, below, same))
    ]

pub own_link-kept : (rules : RuleSet) (past : List Event) (r : Record) → Stands past → out_attach (judge rules past r) ≡ None → own_link (judge rules past r) ≡ None
own_link-kept rules past r stands none = own_link-by rules past r (own_link (judge rules past r)) refl stands none

-- ---- a new number is none of those before

abbrev pub LinksAreBelow : List Event → Type 0
LinksAreBelow past = (n : ℕ) → length past ≤ n → list_any (λ (m : Link). n == m.number) (links past) ≡ false

abbrev pub SessionsAreBelow : List Event → Type 0
SessionsAreBelow past = (n : ℕ) → length past ≤ n → list_any (λ (s : Session). n == s.number) (filter_map own_session past) ≡ false

links_below-by : (rules : RuleSet) (past : List Event) (r : Record) → LinksAreBelow past → (o : Option Link) → own_link (judge rules past r) ≡ o → (n : ℕ) → suc (length past) ≤ n
    → list_any (λ (m : Link). n == m.number) (cons_option o (links past)) ≡ false
links_below-by rules past r below None is n le = below n (omega (arith, le))
links_below-by rules past r below (Some l) is n le =
    let number : l.number ≡ length past = (link_opened_number (judge rules past r) l is).1 in
    ap (λ b. b || list_any (λ (m : Link). n == m.number) (links past)) (ne_eqb n l.number (λ same. omega (arith, same, number, le))) ∙ below n (omega (arith, le))

pub links_below-step : (rules : RuleSet) (past : List Event) (r : Record) → LinksAreBelow past → LinksAreBelow (judge rules past r ∷ past)
links_below-step rules past r below n le = links_below-by rules past r below (own_link (judge rules past r)) refl n le

sessions_below-by : (rules : RuleSet) (past : List Event) (r : Record) → SessionsAreBelow past → (o : Option Session) → own_session (judge rules past r) ≡ o → (n : ℕ) → suc (length past) ≤ n
    → list_any (λ (s : Session). n == s.number) (cons_option o (filter_map own_session past)) ≡ false
sessions_below-by rules past r below None is n le = below n (omega (arith, le))
sessions_below-by rules past r below (Some s) is n le =
    let begins = if_some (is_some (out_begin (judge rules past r))) (judge rules past r).session s is in
    let number : s.number ≡ length past = begun_number rules past r s begins.0 begins.1 in
    ap (λ b. b || list_any (λ (s : Session). n == s.number) (filter_map own_session past)) (ne_eqb n s.number (λ same. omega (arith, same, number, le))) ∙ below n (omega (arith, le))

pub sessions_below-step : (rules : RuleSet) (past : List Event) (r : Record) → SessionsAreBelow past → SessionsAreBelow (judge rules past r ∷ past)
sessions_below-step rules past r below n le = sessions_below-by rules past r below (own_session (judge rules past r)) refl n le

pub links_below-history : (rules : RuleSet) (rs : List Record) → LinksAreBelow (history rules rs)
links_below-history rules rs = along rules LinksAreBelow (λ n le. refl) (links_below-step rules) rs

pub sessions_below-history : (rules : RuleSet) (rs : List Record) → SessionsAreBelow (history rules rs)
sessions_below-history rules rs = along rules SessionsAreBelow (λ n le. refl) (sessions_below-step rules) rs

pub ruleset history_steps = (stands-history, own_link-kept, links_below-history, sessions_below-history)
