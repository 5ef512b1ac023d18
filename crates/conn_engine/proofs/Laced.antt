-- Octets of frames with own ones between them, behind a call of a script more.
use Rattle.std.proofs.Common.{◌≡◌, ℕ, ◌+◌, ◌-◌, ◌≤◌, ◌<◌, List, [], ◌∷◌, ◌++◌, take, drop, length, set, get_or, refl, sym, ap, ◌∙◌, add-one, append_assoc, arith, true, Result, Ok, Err, OnOk, is_ok}
use Rattle.std.specs.List.{concat}
use Rattle.std.proofs.lemmas.List.{append-nil, take-append-le, drop-append-le, take_all, drop_all, take_at, take_more, take_more_set, length-append, length-drop, length-set}
use Rattle.conn_engine.specs.declared.script.Own.{Own}
use Rattle.conn_engine.specs.declared.script.Script.{Script}
use Rattle.conn_engine.specs.Silence.{empty_frame}
use Rattle.conn_engine.specs.Scripts.{StandsFor, empty_frames, frames_before, laced, octets_taken, own_octets}

-- ---- pieces

-- more octets of frames stand behind all
laced_more : (owns : List Own) (framed more : List ℕ) → frames_before owns ≤ length framed → laced owns (framed ++ more) ≡ laced owns framed ++ more
laced_more [] framed more fits = refl
laced_more (own ∷ owns) framed more fits =
    let here : own.behind ≤ length framed = omega (arith, fits) in
    let there : frames_before owns ≤ length (drop own.behind framed) = rw (length-drop own.behind framed) (omega (arith, fits)) in
    rw (take-append-le own.behind framed more here, drop-append-le own.behind framed more here, laced_more owns (drop own.behind framed) more there)
    (sym (append_assoc (take own.behind framed ++ own_octets own) (laced owns (drop own.behind framed)) more))

-- a piece stands behind all
laced_push : (owns : List Own) (own : Own) (framed : List ℕ) → frames_before owns + own.behind ≡ length framed → laced (owns ++ own ∷ []) framed ≡ laced owns framed ++ own_octets own
laced_push [] own framed fits =
    let all : length framed ≤ own.behind = omega (arith, fits) in
    rw (take_all own.behind framed all, drop_all own.behind framed all) (append-nil (framed ++ own_octets own))
laced_push (first ∷ owns) own framed fits =
    let there : frames_before owns + own.behind ≡ length (drop first.behind framed) = rw (length-drop first.behind framed) (omega (arith, fits)) in
    rw (laced_push owns own (drop first.behind framed) there) (sym (append_assoc (take first.behind framed ++ own_octets first) (laced owns (drop first.behind framed)) (own_octets own)))

frames_push : (owns : List Own) (own : Own) → frames_before (owns ++ own ∷ []) ≡ frames_before owns + own.behind
frames_push [] own = omega arith
frames_push (first ∷ owns) own = rw (frames_push owns own) (omega arith)

-- ---- what a piece has

pub own_is : (own : Own) → own_octets own ≡ own.octets.items ++ empty_frames own.empties
unfolding own_octets
own_is own = refl

-- octets alone
pub octets_alone : (octets : List ℕ) → octets ++ empty_frames 0 ≡ octets
unfolding empty_frames
octets_alone octets = append-nil octets

-- one empty frame alone
pub empty_alone : [] ++ empty_frames 1 ≡ empty_frame
unfolding empty_frames
empty_alone = refl

-- one empty frame more
pub empty_joined : (before after : Own) → after.octets ≡ before.octets → after.empties ≡ before.empties + 1 → own_octets after ≡ own_octets before ++ empty_frame
unfolding own_octets empty_frames
empty_joined before after same more =
    ap (λ v. v.items ++ empty_frames after.empties) same ∙ ap (λ (n : ℕ). before.octets.items ++ empty_frames n) (more ∙ add-one before.empties)
    ∙ sym (append_assoc before.octets.items (empty_frames before.empties) empty_frame)

-- so many empty frames, put one after the other
pub none_put : (out : List ℕ) → out ≡ out ++ empty_frames 0
none_put out = sym (octets_alone out)

pub one_put : (first out now : List ℕ) (n : ℕ) → out ≡ first ++ empty_frames n → now ≡ out ++ empty_frame → now ≡ first ++ empty_frames (n + 1)
unfolding empty_frames
one_put first out now n was is =
    is ∙ ap (λ (t : List ℕ). t ++ empty_frame) was ∙ append_assoc first (empty_frames n) empty_frame
    ∙ ap (λ (m : ℕ). first ++ empty_frames m) (sym (add-one n))

-- a piece, put behind others
pub own_put : (own : Own) (out between now : List ℕ) → between ≡ out ++ own.octets.items → now ≡ between ++ empty_frames own.empties → now ≡ out ++ own_octets own
unfolding own_octets
own_put own out between now first is = is ∙ ap (λ (t : List ℕ). t ++ empty_frames own.empties) first ∙ append_assoc out own.octets.items (empty_frames own.empties)

-- ---- a script

-- what holds where a call was not refused
pub where_ok : {T E : Type 0} (result : Result T E) (P : Type 0) → (is_ok result ≡ true → P) → OnOk result P
where_ok (Ok done) P so = so refl
where_ok (Err fault) P so = tt

pub of_ok : {T E : Type 0} (result : Result T E) (P : Type 0) → OnOk result P → is_ok result ≡ true → P
of_ok (Ok done) P so is = so
of_ok (Err fault) P so is = absurd cc

-- frames were put
pub stands_framed : (before after : Script) (framed taken waiting more : List ℕ) → after.owns ≡ before.owns → after.behind ≡ before.behind + length more → after.taken ≡ before.taken
    → StandsFor before framed taken waiting → StandsFor after (framed ++ more) taken (waiting ++ more)
stands_framed before after framed taken waiting more owns behind count h =
    let items : after.owns.items ≡ before.owns.items = ap (λ v. v.items) owns in
    let fits : frames_before before.owns.items ≤ length framed = omega (arith, h.behind) in
    record {
      all = ap (λ (t : List Own). laced t (framed ++ more)) items ∙ laced_more before.owns.items framed more fits ∙ ap (λ (t : List ℕ). t ++ more) h.all ∙ append_assoc taken waiting more;
      count = count ∙ h.count;
      behind = rw (items, behind, length-append framed more) (omega (arith, h.behind));
    }

-- a piece was begun
pub stands_begun : (before after : Script) (own : Own) (framed taken waiting more : List ℕ) → after.owns.items ≡ before.owns.items ++ own ∷ [] → own_octets own ≡ more → own.behind ≡ before.behind → after.behind ≡ 0
    → after.taken ≡ before.taken → StandsFor before framed taken waiting → StandsFor after framed taken (waiting ++ more)
stands_begun before after own framed taken waiting more items octets place behind count h =
    let fits : frames_before before.owns.items + own.behind ≡ length framed = ap (λ (n : ℕ). frames_before before.owns.items + n) place ∙ h.behind in
    record {
      all =
          ap (λ (t : List Own). laced t framed) items ∙ laced_push before.owns.items own framed fits ∙ ap (λ (t : List ℕ). laced before.owns.items framed ++ t) octets
          ∙ ap (λ (t : List ℕ). t ++ more) h.all ∙ append_assoc taken waiting more;
      count = count ∙ h.count;
      behind = rw (items, behind, frames_push before.owns.items own) (omega (arith, fits));
    }

-- the last of some pieces, and another in its place
last_is : (owns : List Own) (n : ℕ) (last : Own) → n ≡ length owns → 0 < n → last ≡ get_or owns (n - 1) last → owns ≡ take (n - 1) owns ++ last ∷ []
last_is owns n last all some is =
    let within : n - 1 < length owns = omega (arith, all, some) in
    let whole : length owns ≤ n - 1 + 1 = omega (arith, all, some) in
    sym (take_all (n - 1 + 1) owns whole) ∙ take_more owns (n - 1) last within ∙ ap (λ (t : Own). take (n - 1) owns ++ t ∷ []) (sym is)

other_last : (owns : List Own) (n : ℕ) (own : Own) → n ≡ length owns → 0 < n → set owns (n - 1) own ≡ take (n - 1) owns ++ own ∷ []
other_last owns n own all some =
    let within : n - 1 < length owns = omega (arith, all, some) in
    let whole : length (set owns (n - 1) own) ≤ n - 1 + 1 = rw (length-set owns (n - 1) own) (omega (arith, all, some)) in
    sym (take_all (n - 1 + 1) (set owns (n - 1) own) whole) ∙ take_more_set owns (n - 1) own within

-- octets were joined to the last piece
pub stands_joined : (before after : Script) (n : ℕ) (last own : Own) (framed taken waiting more : List ℕ) → n ≡ length before.owns.items → 0 < n → last ≡ get_or before.owns.items (n - 1) last
    → after.owns.items ≡ set before.owns.items (n - 1) own → own.behind ≡ last.behind → own_octets own ≡ own_octets last ++ more → before.behind ≡ 0 → after.behind ≡ before.behind → after.taken ≡ before.taken
    → StandsFor before framed taken waiting → StandsFor after framed taken (waiting ++ more)
stands_joined before after n last own framed taken waiting more all some at set place octets none behind count h =
    let front = take (n - 1) before.owns.items in
    let was : before.owns.items ≡ front ++ last ∷ [] = last_is before.owns.items n last all some at in
    let is : after.owns.items ≡ front ++ own ∷ [] = set ∙ other_last before.owns.items n own all some in
    let ends : frames_before front + last.behind ≡ length framed = by front (ap (λ (t : List Own). frames_before t + before.behind) (sym was) ∙ h.behind) in
    let fits : frames_before front + own.behind ≡ length framed = ap (λ (n : ℕ). frames_before front + n) place ∙ ends in
    let first : laced front framed ++ own_octets last ≡ taken ++ waiting = sym (laced_push front last framed ends) ∙ ap (λ (t : List Own). laced t framed) (sym was) ∙ h.all in
    record {
      all =
          ap (λ (t : List Own). laced t framed) is ∙ laced_push front own framed fits ∙ ap (λ (t : List ℕ). laced front framed ++ t) octets
          ∙ sym (append_assoc (laced front framed) (own_octets last) more) ∙ ap (λ (t : List ℕ). t ++ more) first ∙ append_assoc taken waiting more;
      count = count ∙ h.count;
      behind = rw (is, behind, none, frames_push front own) (omega (arith, fits));
    }
  where
    by : (front : List Own) → frames_before (front ++ last ∷ []) + before.behind ≡ length framed → frames_before front + last.behind ≡ length framed
    by front e = let p : frames_before (front ++ last ∷ []) ≡ frames_before front + last.behind = frames_push front last in omega (arith, e, p, none)

-- the octets that it tells are those that were taken
pub stands_taken : (script : Script) (frames : List (List ℕ)) (taken waiting : List ℕ) → StandsFor script (concat frames) taken waiting → octets_taken script frames ≡ taken
unfolding octets_taken
stands_taken script frames taken waiting h = ap (λ (t : List ℕ). take script.taken t) h.all ∙ take_at taken waiting script.taken (sym h.count)
