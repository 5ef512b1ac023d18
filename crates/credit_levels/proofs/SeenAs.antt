-- What is known of a watcher, as what is drawn of it; and what is drawn of a link.
use Rattle.std.proofs.Common.{◌≡◌, refl, sym, subst, ◌∙◌, ℕ, List, Option, None, Some}
use Rattle.std.specs.Prelude.{IfSome}
use Rattle.capture_form.specs.declared.records.Record.{Record}
use Rattle.capture_form.specs.Rules.{RuleSet}
use Rattle.capture_form.specs.Reading.{reading}
use Rattle.audit_core.specs.declared.verdict.Verdict.{Verdict}
use Rattle.audit_core.specs.declared.verdict.Verdict.TheVariants.{Accepted, Refused, Malformed, NoMemory, Unreadable}
use Rattle.audit_core.specs.Watching.{Watched}
use Rattle.credit_chart.specs.declared.level.Level.{Level}
use Rattle.credit_chart.specs.Curves.{HasCurves}
use Rattle.credit_levels.specs.declared.pick.PickedLink.{PickedLink}
use Rattle.credit_levels.specs.Drawn.{DrawsAt, title_on}

-- what is known of one follows from what is known of another
module _ {V W : Type 0} (saw : V → RuleSet → List Record → Type 0) (refuses : V → RuleSet → List Record → Record → Type 0)
    (drew : W → RuleSet → List Record → Type 0) (v : V) (w : W)
    (one : (rules : RuleSet) (records : List Record) → saw v rules records → drew w rules records)
    (behind : (rules : RuleSet) (records : List Record) (entry : Record) → refuses v rules records entry → drew w rules records) where
  watched_so : (octets : List ℕ) (verdict : Verdict) → Watched saw refuses v octets verdict → Watched drew (λ w' rules before entry. drew w' rules before) w octets verdict
  watched_so octets (Accepted tally) s = record { trace = s.trace; bounds = s.bounds; whole = s.whole; seen = one s.trace.rules s.trace.records s.seen }
  watched_so octets (Refused number clause) s = record {
    rules = s.rules;
    before = s.before;
    entry = s.entry;
    rest = s.rest;
    bounds = s.bounds;
    begins = s.begins;
    place = s.place;
    seen = behind s.rules s.before s.entry s.seen;
  }
  watched_so octets (Malformed offset form_kind) s = one (reading octets).rules (reading octets).records s
  watched_so octets (NoMemory offset) s = tt
  watched_so octets (Unreadable offset) s = tt

  pub known_so : (known : Option (List ℕ)) (verdict : Verdict) → IfSome known (λ octets. Watched saw refuses v octets verdict)
      → IfSome known (λ octets. Watched drew (λ w' rules before entry. drew w' rules before) w octets verdict)
  known_so None verdict s = tt
  known_so (Some octets) verdict s = watched_so octets verdict s

-- ---- a document, where a link is found

pub drawn_at : (title : List ℕ) (found stands : Option PickedLink) (levels : List (Option Level)) (place : PickedLink) (octets : List ℕ) → found ≡ Some place → found ≡ stands
    → HasCurves (title_on title place) levels octets → DrawsAt title stands levels (Some octets)
drawn_at title found stands levels place octets is same drawn = subst (λ o. DrawsAt title o levels (Some octets)) (sym is ∙ same) drawn

pub undrawn : (title : List ℕ) (found stands : Option PickedLink) (levels : List (Option Level)) → found ≡ None → found ≡ stands → DrawsAt title stands levels None
undrawn title found stands levels is same = subst (λ o. DrawsAt title o levels None) (sym is ∙ same) refl
