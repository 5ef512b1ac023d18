-- Frames that were taken of a port.
use Rattle.std.proofs.Common.{◌≡◌, ℕ, ◌+◌, ◌-◌, ◌<◌, ◌^◌, List, [], ◌∷◌, ◌++◌, length, true, refl, sym, ap, ◌∙◌, append_assoc, arith}
use Rattle.std.specs.List.{concat}
use Rattle.std.proofs.lemmas.List.{append-nil, length-append}
use Rattle.std.proofs.lemmas.List.Folds.{concat-append}
use Rattle.conn_engine.specs.declared.frame_ends.FrameEnds.{FrameEnds}
use Rattle.conn_engine.specs.FrameEnds.{frame_ends_after, frame_ends_at}
use Rattle.conn_engine.specs.Taking.{TookFrame, TookFrames}

-- where the first open and the first close end, behind one frame more
frame_ends_behind : (frame_ends : FrameEnds) (n : ℕ) (more : List (List ℕ)) (frame : List ℕ) → frame_ends_after frame_ends n (more ++ frame ∷ []) ≡ frame_ends_at (frame_ends_after frame_ends n more) (n + length (concat more)) frame
frame_ends_behind frame_ends n [] frame = ap (λ (k : ℕ). frame_ends_at frame_ends k frame) (omega arith)
frame_ends_behind frame_ends n (first ∷ more) frame =
    frame_ends_behind (frame_ends_at frame_ends n first) (n + length first) more frame
    ∙ ap (λ (k : ℕ). frame_ends_at (frame_ends_after (frame_ends_at frame_ends n first) (n + length first) more) k frame) (omega (arith, length-append first (concat more)))

-- none
pub took_none : (frames : List (List ℕ)) (waiting : List ℕ) (frame_ends : FrameEnds) → TookFrames frames frames waiting waiting frame_ends frame_ends
took_none frames waiting frame_ends = record { more = []; given = sym (append-nil frames); put = sym (append-nil waiting); ends_are = refl }

-- one more
pub took_more : (frames mid after : List (List ℕ)) (waiting waiting_mid waiting_after : List ℕ) (frame_ends frame_ends_mid frame_ends_then : FrameEnds) (next next_after : ℕ)
    → TookFrames frames mid waiting waiting_mid frame_ends frame_ends_mid → TookFrame mid after waiting_mid waiting_after frame_ends_mid frame_ends_then next next_after true
    → TookFrames frames after waiting waiting_after frame_ends frame_ends_then
took_more frames mid after waiting waiting_mid waiting_after frame_ends frame_ends_mid frame_ends_then next next_after took one =
    let frame = one.0 in
    record {
      more = took.more ++ frame ∷ [];
      given = one.1 ∙ ap (λ (t : List (List ℕ)). t ++ frame ∷ []) took.given ∙ append_assoc frames took.more (frame ∷ []);
      put =
          one.2 ∙ ap (λ (t : List ℕ). t ++ frame) took.put ∙ append_assoc waiting (concat took.more) frame
          ∙ ap (λ (t : List ℕ). waiting ++ t) (ap (λ (t : List ℕ). concat took.more ++ t) (sym (append-nil frame)) ∙ sym (concat-append took.more (frame ∷ [])));
      ends_are =
          one.3 ∙ ap (λ (t : FrameEnds). frame_ends_at t (length waiting_mid) frame) took.ends_are
          ∙ ap (λ (k : ℕ). frame_ends_at (frame_ends_after frame_ends (length waiting) took.more) k frame) (ap length took.put ∙ length-append waiting (concat took.more))
          ∙ sym (frame_ends_behind frame_ends (length waiting) took.more frame);
    }

-- the next one is asked for from a higher number, and there are no more than this
pub fewer : (next next_then : ℕ) → next < next_then → next_then < 2 ^ 64 → 2 ^ 64 - next_then < 2 ^ 64 - next
fewer next next_then less within = omega (arith, less, within)
