-- What one event more does to a link.
use Rattle.std.proofs.Common.{◌≡◌, refl, ap, ℕ, ◌+◌, Bool, true, false, List, ◌∷◌, Option, Some, None, option_map, if◌then◌else◌, arith}
use Rattle.std.specs.List.{cons_option}
use Rattle.capture_view.specs.Numbers.{most}
use Rattle.refusal_words.specs.declared.link.Change.{Change}
use Rattle.refusal_words.specs.declared.link.Change.TheVariants.{Credit, Transfer, Drain}
use Rattle.refusal_words.specs.Link.{LinkEvent, LinkTold, Changes, OurAttach, Over, attached, attached_in, begun, credit, drained, in_progress, link_of, name, told}
use Rattle.refusal_words.specs.Tables.{changed, link_next}

pub most-more : (n : ℕ) → most (n + 1) ≡ most (most n + 1)
most-more n = omega arith

begun-more : (b : Bool) (n : ℕ) → most (if b then n else n + 1) ≡ (if b then most n else most (most n + 1))
begun-more true n = refl
begun-more false n = most-more n

told-changed : (change : Change) (events : List LinkEvent) → told (Changes change ∷ events) ≡ changed change (told events)
told-changed (Credit credited) events = refl
told-changed (Transfer more) events =
    let made : ℕ → LinkTold = λ n. record { number = attached_in events; name = name events; credit = credit events; begun = n; drained = drained events; in_progress = more } in
    ap made (begun-more (in_progress events) (begun events))
told-changed (Drain number) events = refl

link-changed : (b : Bool) (change : Change) (events : List LinkEvent)
    → (if b then Some (told (Changes change ∷ events)) else None) ≡ option_map (changed change) (if b then Some (told events) else None)
link-changed true change events = ap (λ x. Some x) (told-changed change events)
link-changed false change events = refl

pub link-step : (event : Option LinkEvent) (events : List LinkEvent) → link_of (cons_option event events) ≡ link_next event (link_of events)
link-step None events = refl
link-step (Some (OurAttach number given)) events = refl
link-step (Some (Changes change)) events = link-changed (attached events) change events
link-step (Some Over) events = refl
