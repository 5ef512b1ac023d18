-- What holds of an engine and of what is noted of it, behind a call more.
use Rattle.std.proofs.Common.{◌≡◌, ℕ, ◌+◌, ◌-◌, ◌≤◌, Bool, false, List, [], ◌++◌, take, drop, length, sym, ap, ◌∙◌, subst, inl, inr, arith, Option, Some, None, Result, Ok, Err}
use Rattle.std.specs.List.{concat}
use Rattle.std.proofs.lemmas.List.{append-nil, drop_at, length-append}
use Rattle.std.proofs.lemmas.List.Folds.{concat-append}
use Rattle.conn_engine.specs.declared.fault.EngineFault.{EngineFault}
use Rattle.conn_engine.specs.declared.engine_state.EngineState.{EngineState}
use Rattle.conn_engine.specs.declared.engine_state.EngineState.TheVariants.{Reading, Closing, Over}
use Rattle.conn_engine.specs.Closing.{is_over, place_given}
use Rattle.conn_engine.specs.FrameEnds.{frame_ends_left}
use Rattle.conn_engine.specs.Silence.{silence_given}
use Rattle.conn_engine.specs.Serving.{Connection}
use Rattle.conn_engine.specs.Feeding.{AfterPiece, AfterSteps, FedAt, FeedState, and_piece, feed_state_of}
use Rattle.conn_engine.specs.Taking.{Refilled}
use Rattle.conn_engine.specs.Ticking.{AfterTick, patience_of, placed}
use Rattle.conn_engine.specs.Served.{IsNoted, stop_of}
use Rattle.conn_engine.proofs.Serves.{serving_fed, serving_given, serving_refilled, serving_ticked}

-- ---- octets behind those that waited

-- octets of the engine's own were noted
abbrev NotesOwn : (Before After : List ℕ → List ℕ → List ℕ → Type 0) → List ℕ → Type 0
NotesOwn Before After said = (framed taken waiting : List ℕ) → Before framed taken waiting → After framed taken (waiting ++ said)

behind_waiting : (waiting said all : List ℕ) (start : ℕ) → all ≡ waiting ++ said → start ≡ length waiting → waiting ++ drop start all ≡ all
behind_waiting waiting said all start is from = ap (λ (t : List ℕ). waiting ++ drop start t) is ∙ ap (λ (t : List ℕ). waiting ++ t) (drop_at waiting said start (sym from)) ∙ sym is

-- what a tick put
tick_put : {E : Type 0} (bears : Option ℕ) (moment : ℕ) (before after : Connection) (result : Result Bool E) → AfterTick bears moment before after result → (said : List ℕ) × (after.waiting ≡ before.waiting ++ said) × (after.frames ≡ before.frames)
tick_put None moment before after result did = ([], ap (λ (c : Connection). c.waiting) did.1 ∙ sym (append-nil before.waiting), ap (λ (c : Connection). c.frames) did.1)
tick_put (Some bears) moment before after (Ok is_placed) did = (placed is_placed, ap (λ (c : Connection). c.waiting) did.1, ap (λ (c : Connection). c.frames) did.1)
tick_put (Some bears) moment before after (Err fault) did = ([], ap (λ (c : Connection). c.waiting) did.1 ∙ sym (append-nil before.waiting), ap (λ (c : Connection). c.frames) did.1)

-- what a feed put
steps_put : (before after : FeedState) (result : Result Unit EngineFault) → AfterSteps before after result → (said : List ℕ) × (after.waiting ≡ before.waiting ++ said)
steps_put before after (Ok done) did = (_, did.0.waiting)
steps_put before after (Err fault) did = (_, did.2.waiting)

piece_put : (before after : FeedState) (piece : List ℕ) (result : Result Unit EngineFault) → AfterPiece before after piece result → (said : List ℕ) × (after.waiting ≡ before.waiting ++ said)
piece_put before after piece result (inl did) = steps_put (and_piece before piece) after result did
piece_put before after piece result (inr did) = ([], ap (λ (t : FeedState). t.waiting) did.1 ∙ sym (append-nil before.waiting))

fed_put : (place : EngineState) (before after : Connection) (piece : List ℕ) (result : Result Unit EngineFault) → FedAt place before after piece result → (said : List ℕ) × (after.waiting ≡ before.waiting ++ said)
fed_put Reading before after piece result did = piece_put (feed_state_of before) (feed_state_of after) piece result did.0
fed_put Closing before after piece result did = ([], ap (λ (c : Connection). c.waiting) did.1 ∙ sym (append-nil before.waiting))
fed_put (Over loss) before after piece result did = ([], ap (λ (c : Connection). c.waiting) did.1 ∙ sym (append-nil before.waiting))

-- ---- calls

stands_behind : (Before After : List ℕ → List ℕ → List ℕ → Type 0) (framed framed_then taken waiting said all : List ℕ) (start : ℕ) → framed_then ≡ framed → all ≡ waiting ++ said → start ≡ length waiting → NotesOwn Before After (drop start all)
    → Before framed taken waiting → After framed_then taken all
stands_behind Before After framed framed_then taken waiting said all start same is from notes stands =
    subst (λ (t : List ℕ). After t taken all) (sym same) (subst (λ (t : List ℕ). After framed taken t) (behind_waiting waiting said all start is from) (notes framed taken waiting stands))

-- frames were taken of its port
pub noted_refilled : (before after : Connection) (Was Is : List ℕ → List ℕ → List ℕ → Type 0) (octets taken : List ℕ) (count : ℕ) → Refilled before after
    → after ≡ record before { frames = after.frames; waiting = after.waiting; is_idle = after.is_idle; frame_ends = after.frame_ends } → count ≡ length after.waiting - length before.waiting
    → ((framed taken waiting more : List ℕ) → length more ≡ count → Was framed taken waiting → Is (framed ++ more) taken (waiting ++ more))
    → IsNoted before Was octets taken → IsNoted after Is octets taken
noted_refilled before after Was Is octets taken count filled same is notes h =
    let more = concat filled.took.more in
    let long : length after.waiting ≡ length before.waiting + length more = ap length filled.took.put ∙ length-append before.waiting more in
    let counted : length more ≡ count = omega (arith, long, is) in
    let framed : concat before.frames ++ more ≡ concat after.frames = sym (concat-append before.frames filled.took.more) ∙ ap concat (sym filled.took.given) in
    record {
      serving = serving_refilled before after octets taken filled same h.serving;
      stands =
          subst (λ (t : List ℕ). Is (concat after.frames) taken t) (sym filled.took.put)
          (subst (λ (t : List ℕ). Is t taken (before.waiting ++ more)) framed (notes (concat before.frames) taken before.waiting more counted h.stands));
    }

-- it was told the moment
pub noted_ticked : {E : Type 0} (moment : ℕ) (before after : Connection) (Was Is : List ℕ → List ℕ → List ℕ → Type 0) (octets taken : List ℕ) (start : ℕ) (result : Result Bool E) → AfterTick (patience_of before) moment before after result → start ≡ length before.waiting
    → NotesOwn Was Is (drop start after.waiting) → IsNoted before Was octets taken → IsNoted after Is octets taken
noted_ticked moment before after Was Is octets taken start result did from notes h =
    let put = tick_put (patience_of before) moment before after result did in
    record {
      serving = serving_ticked moment before after octets taken result did h.serving;
      stands = stands_behind Was Is (concat before.frames) (concat after.frames) taken before.waiting put.0 after.waiting start (ap concat put.2) put.1 from notes h.stands;
    }

-- it was fed a piece
pub noted_fed : (before after : Connection) (Was Is : List ℕ → List ℕ → List ℕ → Type 0) (octets piece taken : List ℕ) (start : ℕ) (result : Result Unit EngineFault) → is_over before.place ≡ false → FedAt before.place before after piece result
    → after.frames ≡ before.frames → after.frame_ends ≡ before.frame_ends → stop_of result ≡ None → start ≡ length before.waiting → NotesOwn Was Is (drop start after.waiting)
    → IsNoted before Was octets taken → IsNoted after Is (octets ++ piece) taken
noted_fed before after Was Is octets piece taken start result going did frames frame_ends goes from notes h =
    let put = fed_put before.place before after piece result did in
    record {
      serving = serving_fed before after octets piece taken result going did frames frame_ends goes h.serving;
      stands = stands_behind Was Is (concat before.frames) (concat after.frames) taken before.waiting put.0 after.waiting start (ap concat frames) put.1 from notes h.stands;
    }

-- the first octets that waited were given
pub noted_given : (before after : Connection) (Was Is : List ℕ → List ℕ → List ℕ → Type 0) (octets taken : List ℕ) (n : ℕ)
    → after ≡ record before { waiting = drop n before.waiting; frame_ends = frame_ends_left before.frame_ends n; place = place_given before.place before.frame_ends.closed n; silence = silence_given before.silence n }
    → n ≤ length before.waiting
    → ((framed taken waiting : List ℕ) → n ≤ length waiting → Was framed taken waiting → Is framed (taken ++ take n waiting) (drop n waiting))
    → IsNoted before Was octets taken → IsNoted after Is octets (taken ++ take n before.waiting)
noted_given before after Was Is octets taken n is fits notes h = record {
  serving = serving_given before after octets taken n is h.serving;
  stands =
      subst (λ (c : Connection). Is (concat c.frames) (taken ++ take n before.waiting) c.waiting) (sym is)
      (notes (concat before.frames) taken before.waiting fits h.stands);
}
