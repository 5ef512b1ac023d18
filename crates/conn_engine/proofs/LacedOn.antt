-- What was put, behind a call more.
use Rattle.std.proofs.Common.{◌≡◌, ℕ, ◌+◌, ◌⊎◌, Bool, true, false, ◌&&◌, ◌||◌, not, List, [], ◌∷◌, ◌++◌, length, refl, sym, ap, ◌∙◌, subst, inl, inr, append_assoc, Option, Some, None, is_some, is_none, if◌then◌else◌}
use Rattle.std.specs.List.{concat, list_any}
use Rattle.std.proofs.lemmas.List.{append-nil}
use Rattle.std.proofs.lemmas.List.Folds.{list_any-append}
use Rattle.conn_engine.specs.declared.frame_ends.FrameEnds.{FrameEnds}
use Rattle.conn_engine.specs.Lacing.{AFrame, AnEmpty, IsLaced, IsPut, Put, empties, frames_put, is_laced, may_rest, octets_put}
use Rattle.conn_engine.specs.FrameEnds.{AreFrameEnds, first_at, frame_ends_after, frame_ends_at, frame_ends_left, left_of, no_frame_ends}
use Rattle.conn_engine.specs.Said.{is_open, is_close}
use Rattle.conn_engine.specs.Silence.{empty_frame}

-- ---- frames more

abbrev and_frames : List Put → List (List ℕ) → List Put
and_frames line [] = line
and_frames line (frame ∷ more) = and_frames (AFrame frame ∷ line) more

octets_on : (line : List Put) (more : List (List ℕ)) → octets_put (and_frames line more) ≡ octets_put line ++ concat more
octets_on line [] = sym (append-nil (octets_put line))
octets_on line (frame ∷ more) = octets_on (AFrame frame ∷ line) more ∙ append_assoc (octets_put line) frame (concat more)

frames_on : (line : List Put) (more : List (List ℕ)) → frames_put (and_frames line more) ≡ frames_put line ++ more
frames_on line [] = sym (append-nil (frames_put line))
frames_on line (frame ∷ more) = frames_on (AFrame frame ∷ line) more ∙ append_assoc (frames_put line) (frame ∷ []) more

empties_on : (line : List Put) (more : List (List ℕ)) → empties (and_frames line more) ≡ empties line
empties_on line [] = refl
empties_on line (frame ∷ more) = empties_on (AFrame frame ∷ line) more

laced_on : (line : List Put) (more : List (List ℕ)) → is_laced (and_frames line more) ≡ is_laced line
laced_on line [] = refl
laced_on line (frame ∷ more) = laced_on (AFrame frame ∷ line) more

pub laced_frames : (frames more : List (List ℕ)) (count : ℕ) (octets : List ℕ) → IsLaced frames count octets → IsLaced (frames ++ more) count (octets ++ concat more)
laced_frames frames more count octets is = record {
  line = and_frames is.line more;
  octets_are = octets_on is.line more ∙ ap (λ (t : List ℕ). t ++ concat more) is.octets_are;
  frames_are = frames_on is.line more ∙ ap (λ (t : List (List ℕ)). t ++ more) is.frames_are;
  count_is = empties_on is.line more ∙ is.count_is;
  stand = laced_on is.line more ∙ is.stand;
}

-- ---- an empty frame more

both : (a b : Bool) → a ≡ true → b ≡ true → (a && b) ≡ true
both a b is_a is_b = ap (λ (x : Bool). x && b) is_a ∙ is_b

laced_empty : (frames : List (List ℕ)) (count : ℕ) (octets : List ℕ) → may_rest is_open is_close frames ≡ true → IsLaced frames count octets → IsLaced frames (count + 1) (octets ++ empty_frame)
laced_empty frames count octets may is = record {
  line = AnEmpty ∷ is.line;
  octets_are = ap (λ (t : List ℕ). t ++ empty_frame) is.octets_are;
  frames_are = is.frames_are;
  count_is = ap (λ (n : ℕ). n + 1) is.count_is;
  stand = both (may_rest is_open is_close (frames_put is.line)) (is_laced is.line) (ap (may_rest is_open is_close) is.frames_are ∙ may) is.stand;
}

-- ---- no frames

nothing_put : (line : List Put) → frames_put line ≡ [] → is_laced line ≡ true → octets_put line ≡ []
nothing_put [] none stand = refl
nothing_put (AFrame frame ∷ line) none stand = absurd (by (frames_put line) none)
  where
    by : (before : List (List ℕ)) → before ++ frame ∷ [] ≡ [] → ⊥
    by [] is = cc
    by (first ∷ before) is = cc
nothing_put (AnEmpty ∷ line) none stand = absurd (by (sym (ap (λ (t : List (List ℕ)). may_rest is_open is_close t && is_laced line) none) ∙ stand))
  where
    by : false ≡ true → ⊥
    by is = cc

-- where there is no frame, nothing was put
pub unlaced : (frames : List (List ℕ)) (count : ℕ) (octets : List ℕ) → frames ≡ [] → IsLaced frames count octets → octets ≡ []
unlaced frames count octets none is = sym is.octets_are ∙ nothing_put is.line (is.frames_are ∙ none) is.stand

-- ---- the ends of the open and the close

or_true : (b : Bool) → (b || true) ≡ true
or_true true = refl
or_true false = refl

or_false : (b : Bool) → (b || false) ≡ b
or_false true = refl
or_false false = refl

first_ends_are : (is : List ℕ → Bool) (end : Option ℕ) (n : ℕ) (frames : List (List ℕ)) (frame : List ℕ) → is_some end ≡ list_any is frames
    → is_some (first_at is end n frame) ≡ list_any is (frames ++ frame ∷ [])
first_ends_are is (Some end) n frames frame ends_are = ap (λ (b : Bool). b || (is frame || false)) ends_are ∙ sym (list_any-append is frames (frame ∷ []))
first_ends_are is None n frames frame ends_are = by (is frame) refl
  where
    by : (b : Bool) → is frame ≡ b → is_some (if b then Some (n + length frame) else None) ≡ list_any is (frames ++ frame ∷ [])
    by true e = sym (list_any-append is frames (frame ∷ []) ∙ ap (λ (b : Bool). list_any is frames || (b || false)) e ∙ or_true (list_any is frames))
    by false e = sym (list_any-append is frames (frame ∷ []) ∙ ap (λ (b : Bool). list_any is frames || (b || false)) e ∙ or_false (list_any is frames) ∙ sym ends_are)

ends_are_at : (frame_ends : FrameEnds) (n : ℕ) (frames : List (List ℕ)) (frame : List ℕ) → AreFrameEnds frame_ends frames → AreFrameEnds (frame_ends_at frame_ends n frame) (frames ++ frame ∷ [])
ends_are_at frame_ends n frames frame is = record { opened = first_ends_are is_open frame_ends.opened n frames frame is.opened; closed = first_ends_are is_close frame_ends.closed n frames frame is.closed }

pub ends_are_after : (frame_ends : FrameEnds) (n : ℕ) (frames more : List (List ℕ)) → AreFrameEnds frame_ends frames → AreFrameEnds (frame_ends_after frame_ends n more) (frames ++ more)
ends_are_after frame_ends n frames [] is = subst (AreFrameEnds frame_ends) (sym (append-nil frames)) is
ends_are_after frame_ends n frames (frame ∷ more) is =
    subst (λ (t : List (List ℕ)). AreFrameEnds (frame_ends_after (frame_ends_at frame_ends n frame) (n + length frame) more) t) (append_assoc frames (frame ∷ []) more)
    (ends_are_after (frame_ends_at frame_ends n frame) (n + length frame) (frames ++ frame ∷ []) more (ends_are_at frame_ends n frames frame is))

left_some : (end : Option ℕ) (n : ℕ) → is_some (left_of end n) ≡ is_some end
left_some None n = refl
left_some (Some end) n = refl

pub ends_are_left : (frame_ends : FrameEnds) (n : ℕ) (frames : List (List ℕ)) → AreFrameEnds frame_ends frames → AreFrameEnds (frame_ends_left frame_ends n) frames
ends_are_left frame_ends n frames is = record { opened = left_some frame_ends.opened n ∙ is.opened; closed = left_some frame_ends.closed n ∙ is.closed }

-- ---- all of it

pub put_none : (asked : Bool) → IsPut [] no_frame_ends asked 0 []
put_none asked = record {
  laced = record { line = []; octets_are = refl; frames_are = refl; count_is = refl; stand = refl };
  ends_are = record { opened = refl; closed = refl };
  quiet = inl refl;
}

pub put_frames : (frames more : List (List ℕ)) (frame_ends : FrameEnds) (asked : Bool) (ticks n : ℕ) (octets : List ℕ) → IsPut frames frame_ends asked ticks octets
    → IsPut (frames ++ more) (frame_ends_after frame_ends n more) asked ticks (octets ++ concat more)
put_frames frames more frame_ends asked ticks n octets is = record {
  laced = laced_frames frames more ticks octets is.laced;
  ends_are = ends_are_after frame_ends n frames more is.ends_are;
  quiet = is.quiet;
}

pub put_left : (frames : List (List ℕ)) (frame_ends : FrameEnds) (asked : Bool) (ticks n : ℕ) (octets : List ℕ) → IsPut frames frame_ends asked ticks octets → IsPut frames (frame_ends_left frame_ends n) asked ticks octets
put_left frames frame_ends asked ticks n octets is = record { laced = is.laced; ends_are = ends_are_left frame_ends n frames is.ends_are; quiet = is.quiet }

pub put_asked : (frames : List (List ℕ)) (frame_ends : FrameEnds) (asked later : Bool) (ticks : ℕ) (octets : List ℕ) → (asked ≡ true → later ≡ true) → IsPut frames frame_ends asked ticks octets → IsPut frames frame_ends later ticks octets
put_asked frames frame_ends asked later ticks octets still is = record { laced = is.laced; ends_are = is.ends_are; quiet = by is.quiet }
  where
    by : (ticks ≡ 0) ⊎ (asked ≡ true) → (ticks ≡ 0) ⊎ (later ≡ true)
    by (inl none) = inl none
    by (inr ask) = inr (still ask)

pub put_empty : (frames : List (List ℕ)) (frame_ends : FrameEnds) (asked : Bool) (ticks : ℕ) (octets : List ℕ) → is_some frame_ends.opened ≡ true → is_some frame_ends.closed ≡ false → asked ≡ true
    → IsPut frames frame_ends asked ticks octets → IsPut frames frame_ends asked (ticks + 1) (octets ++ empty_frame)
put_empty frames frame_ends asked ticks octets opened closed ask is = record {
  laced = laced_empty frames ticks octets (both (list_any is_open frames) (not (list_any is_close frames)) (sym is.ends_are.opened ∙ opened) (ap not (sym is.ends_are.closed ∙ closed))) is.laced;
  ends_are = is.ends_are;
  quiet = inr ask;
}
