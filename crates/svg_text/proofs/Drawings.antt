-- Drawings that have something more.
use Rattle.std.proofs.Common.{◌≡◌, ℕ, List, [], ◌∷◌, ◌++◌, Result, Ok, Err, refl, sym, ap, ◌∙◌, append_assoc, append-nil}
use Rattle.std.proofs.lemmas.Result.{IfOk-weaker}
use Rattle.std.specs.Prelude.{IfOk}
use Rattle.svg_text.specs.declared.element.Element.{Element}
use Rattle.svg_text.specs.Drawn.{Drawn, end_octets}
use Rattle.svg_text.specs.Parts.{Draws, DrawsSome}

-- ---- one behind the other

pub draws_then : (a b c : Drawn) (m n : List ℕ) → Draws a b m → Draws b c n → Draws a c (m ++ n)
draws_then a b c m n h k = record {
  octets = k.octets ∙ ap (λ (t : List ℕ). t ++ n) h.octets ∙ append_assoc a.octets m n;
  unclosed = k.unclosed ∙ h.unclosed;
}

pub some_of : (a b : Drawn) (m : List ℕ) → Draws a b m → DrawsSome a b
some_of a b m h = record { more = m; draws = h }

pub some_then : (a b c : Drawn) → DrawsSome a b → DrawsSome b c → DrawsSome a c
some_then a b c h k = record { more = h.more ++ k.more; draws = draws_then a b c h.more k.more h.draws k.draws }

pub if_some_then : {E : Type 0} (r : Result Drawn E) (a b : Drawn) → DrawsSome a b → IfOk r (λ c. DrawsSome b c) → IfOk r (λ c. DrawsSome a c)
if_some_then (Ok c) a b h k = some_then a b c h k
if_some_then (Err e) a b h k = tt

-- what was written
pub written : (a b : Drawn) (m : List ℕ) → b ≡ record { octets = a.octets ++ m; unclosed = a.unclosed } → Draws a b m
written a b m is = record { octets = ap (λ (d : Drawn). d.octets) is; unclosed = ap (λ (d : Drawn). d.unclosed) is }

pub draws_nothing : (a : Drawn) → Draws a a []
draws_nothing a = record { octets = sym (append-nil a.octets); unclosed = refl }

-- ---- elements

-- an element that was opened, and closed behind what stands in it
abbrev pub Ends : {E : Type 0} → Result Drawn E → Drawn → Type 0
Ends r inner = (before : List Element) (element : Element) → inner.unclosed ≡ before ++ element ∷ []
    → IfOk r (λ after. after ≡ record { octets = inner.octets ++ end_octets element; unclosed = before })

four_assoc : (a b c d : List ℕ) → ((a ++ b) ++ c) ++ d ≡ a ++ (b ++ (c ++ d))
four_assoc a b c d = simp append_assoc

pub closed : {E : Type 0} (r : Result Drawn E) (a opened inner : Drawn) (element : Element) (start inside : List ℕ)
    → opened ≡ record { octets = a.octets ++ start; unclosed = a.unclosed ++ element ∷ [] } → Draws opened inner inside → Ends r inner
    → IfOk r (λ after. Draws a after (start ++ (inside ++ end_octets element)))
closed r a opened inner element start inside is draws ends =
    IfOk-weaker r _ _ (λ after ended. record {
      octets = ap (λ (d : Drawn). d.octets) ended
          ∙ ap (λ (t : List ℕ). t ++ end_octets element) (draws.octets ∙ ap (λ (d : Drawn). d.octets ++ inside) is)
          ∙ four_assoc a.octets start inside (end_octets element);
      unclosed = ap (λ (d : Drawn). d.unclosed) ended;
    })
    (ends a.unclosed element (draws.unclosed ∙ ap (λ (d : Drawn). d.unclosed) is))

pub closed_some : {E : Type 0} (r : Result Drawn E) (a opened inner : Drawn) (element : Element) (start : List ℕ)
    → opened ≡ record { octets = a.octets ++ start; unclosed = a.unclosed ++ element ∷ [] } → DrawsSome opened inner → Ends r inner
    → IfOk r (λ after. DrawsSome a after)
closed_some r a opened inner element start is some ends =
    IfOk-weaker r _ _ (λ after draws. some_of a after _ draws) (closed r a opened inner element start some.more is some.draws ends)

-- ---- calls that may fail

pub if_draws : {E : Type 0} (r : Result Drawn E) (a : Drawn) (m : List ℕ) → IfOk r (λ b. b ≡ record { octets = a.octets ++ m; unclosed = a.unclosed }) → IfOk r (λ b. Draws a b m)
if_draws (Ok b) a m is = written a b m is
if_draws (Err e) a m is = tt

pub if_draws_then : {E : Type 0} (r : Result Drawn E) (a b : Drawn) (m n : List ℕ) → Draws a b m → IfOk r (λ c. Draws b c n) → IfOk r (λ c. Draws a c (m ++ n))
if_draws_then (Ok c) a b m n h k = draws_then a b c m n h k
if_draws_then (Err e) a b m n h k = tt
