-- A splitter gives the frames of the stream that it was fed.
use Rattle.std.proofs.Common.{◌≡◌, ℕ, ◌+◌, ◌<◌, ◌≤◌, List, [], ◌∷◌, ◌++◌, length, take, drop, All, Option, Some, None, Result, Ok, Err, refl, sym, ap, subst, ◌∙◌, append_assoc, arith}
use Rattle.std.proofs.lemmas.List.{drop-drop, take_at, drop_at, append-nil, length-append, length-drop}
use Rattle.std.proofs.lemmas.List.Folds.{concat-append}
use Rattle.std.proofs.lemmas.List.Elements.{All-push, All-head, All-tail}
use Rattle.std.specs.List.{concat}
use Rattle.amqp_frames.specs.declared.fault.FrameFault.{FrameFault}
use Rattle.amqp_frames.specs.Frame.{Frame}
use Rattle.amqp_frames.specs.Reading.{ReadFrame, frame_at}
use Rattle.flow_counts.specs.declared.profile.TheConstants.{MAX_FRAME_SIZE}
use Rattle.amqp_frames.specs.Stream.{IsWhole, IsEnd, AreFramesOf, Ahead, Octets, Broken, IsAfter, answer_of, behind, next_answer, next_ahead, Tells}
use Rattle.amqp_frames.specs.Held.{ahead_of, length_of, length_answer, seen_ahead, looked_ahead}
use Rattle.amqp_frames.proofs.Steps.{one_read}
use Rattle.amqp_frames.proofs.Fronts.{frame_long, found_front, front_read, fault_found, fault_read, partial_found, partial_read}

-- one list more
concat_more : (given : List (List ℕ)) (frame rest : List ℕ) → concat given ++ (frame ++ rest) ≡ concat (given ++ frame ∷ []) ++ rest
concat_more given frame rest = sym (append_assoc (concat given) frame rest) ∙ ap (λ (t : List ℕ). t ++ rest) (ap (λ (t : List ℕ). concat given ++ t) (sym (append-nil frame)) ∙ sym (concat-append given (frame ∷ [])))

read_tells : (stream : List ℕ) (given : List (List ℕ)) (octets : List ℕ) → IsAfter stream given (Octets octets) → (read : ReadFrame) → frame_at MAX_FRAME_SIZE octets ≡ read
    → Tells stream given (answer_of read) (behind octets read)
read_tells stream given octets after (Ok None) e =
    (after, record { rest = octets; parts = after.parts ∙ ap (λ (t : List ℕ). concat given ++ t) after.left; each = after.each; end = partial_found MAX_FRAME_SIZE octets e })
read_tells stream given octets after (Ok (Some frame)) e =
    let front = found_front MAX_FRAME_SIZE octets frame e in
    let rest = drop (length frame.octets) octets in
    let whole : IsWhole MAX_FRAME_SIZE frame.octets = (frame, refl, front.is) in
    record {
      rest = rest;
      parts = after.parts ∙ ap (λ (t : List ℕ). concat given ++ t) (after.left ∙ front.parts) ∙ concat_more given frame.octets rest;
      each = All-push (IsWhole MAX_FRAME_SIZE) given frame.octets after.each whole;
      left = refl;
    }
read_tells stream given octets after (Err fault) e =
    let parts : stream ≡ concat given ++ octets = after.parts ∙ ap (λ (t : List ℕ). concat given ++ t) after.left in
    let is = fault_found MAX_FRAME_SIZE octets fault e in
    (record { rest = octets; parts = parts; each = after.each; left = is }, record { rest = octets; parts = parts; each = after.each; end = is })

-- what the next answer says of the stream
pub next_tells : (stream : List ℕ) (given : List (List ℕ)) (ahead : Ahead) → IsAfter stream given ahead → Tells stream given (next_answer ahead) (next_ahead ahead)
next_tells stream given (Octets octets) after = read_tells stream given octets after (frame_at MAX_FRAME_SIZE octets) refl
next_tells stream given (Broken fault) after = (after, record { rest = after.rest; parts = after.parts; each = after.each; end = after.left })

-- the same of an answer and of what is ahead then
pub told_next : (old new : Ahead) (answer : Result (Option (List ℕ)) FrameFault) → new ≡ next_ahead old → answer ≡ next_answer old
    → (stream : List ℕ) (given : List (List ℕ)) → IsAfter stream given old → Tells stream given answer new
told_next old new answer n a stream given after = rw (n, a) (next_tells stream given old after)

-- ---- by the length of the next frame

-- where no frame is ahead the answer says so, and nothing else changes
err_of : (octets : List ℕ) (read : ReadFrame) (fault : FrameFault) → length_of read ≡ Err fault → (answer_of read ≡ Err fault) × (behind octets read ≡ seen_ahead octets read)
err_of octets (Ok None) fault e = absurd cc
err_of octets (Ok (Some frame)) fault e = absurd cc
err_of octets (Err other) fault e = (cc, refl)

pub err_next : (ahead : Ahead) (fault : FrameFault) → length_answer ahead ≡ Err fault → (next_answer ahead ≡ Err fault) × (next_ahead ahead ≡ looked_ahead ahead)
err_next (Octets octets) fault e = err_of octets (frame_at MAX_FRAME_SIZE octets) fault e
err_next (Broken other) fault e = (cc, refl)

none_of : (octets : List ℕ) (read : ReadFrame) → length_of read ≡ Ok None → (answer_of read ≡ Ok None) × (behind octets read ≡ seen_ahead octets read)
none_of octets (Ok None) e = (refl, refl)
none_of octets (Ok (Some frame)) e = absurd cc
none_of octets (Err other) e = absurd cc

pub none_next : (ahead : Ahead) → length_answer ahead ≡ Ok None → (next_answer ahead ≡ Ok None) × (next_ahead ahead ≡ looked_ahead ahead)
none_next (Octets octets) e = none_of octets (frame_at MAX_FRAME_SIZE octets) e
none_next (Broken other) e = absurd cc

-- a frame of so many octets is given from those that are kept
pub record IsGiven (kept : List ℕ) (given : ℕ) (fault : Option FrameFault) (old : Ahead) (count : ℕ) : Type 0 where
  pub room : given + count ≤ length kept
  pub answer : next_answer old ≡ Ok (Some (take count (drop given kept)))
  pub ahead : next_ahead old ≡ ahead_of kept (given + count) fault

given_of : (kept : List ℕ) (given count : ℕ) (read : ReadFrame) → frame_at MAX_FRAME_SIZE (drop given kept) ≡ read → given ≤ length kept → length_of read ≡ Ok (Some count)
    → (given + count ≤ length kept) × (answer_of read ≡ Ok (Some (take count (drop given kept)))) × (behind (drop given kept) read ≡ Octets (drop (given + count) kept))
given_of kept given count (Ok None) e within len = absurd cc
given_of kept given count (Ok (Some frame)) e within len =
    let front = found_front MAX_FRAME_SIZE (drop given kept) frame e in
    let same : length frame.octets ≡ count = cc in
    let rest = drop (length frame.octets) (drop given kept) in
    let room : given + count ≤ length kept = omega (arith, ap length front.parts, length-append frame.octets rest, length-drop given kept, same, within) in
    let is : take count (drop given kept) ≡ frame.octets = ap (take count) front.parts ∙ take_at frame.octets rest count same in
    (room, ap (λ (t : List ℕ). Ok (Some t)) (sym is), ap Octets (drop-drop (length frame.octets) given kept ∙ ap (λ n. drop (given + n) kept) same))
given_of kept given count (Err other) e within len = absurd cc

seen_of : (octets : List ℕ) (read : ReadFrame) (count : ℕ) → length_of read ≡ Ok (Some count) → seen_ahead octets read ≡ Octets octets
seen_of octets (Ok read) count e = refl
seen_of octets (Err fault) count e = absurd cc

-- what is ahead where no fault was seen
octets_ahead : (kept : List ℕ) (given : ℕ) (fault : Option FrameFault) (octets : List ℕ) → ahead_of kept given fault ≡ Octets octets → (fault ≡ None) × (drop given kept ≡ octets)
octets_ahead kept given None octets e = (refl, cc)
octets_ahead kept given (Some other) octets e = absurd cc

-- where a frame is ahead, its octets are kept
ahead_octets : (old : Ahead) (count : ℕ) → length_answer old ≡ Ok (Some count)
    → (octets : List ℕ) × (old ≡ Octets octets) × (length_of (frame_at MAX_FRAME_SIZE octets) ≡ Ok (Some count)) × (looked_ahead old ≡ Octets octets)
ahead_octets (Octets octets) count e = (octets, refl, e, seen_of octets (frame_at MAX_FRAME_SIZE octets) count e)
ahead_octets (Broken fault) count e = absurd cc

pub given_next : (kept : List ℕ) (given : ℕ) (fault : Option FrameFault) (old : Ahead) (count : ℕ) → given ≤ length kept → ahead_of kept given fault ≡ looked_ahead old → length_answer old ≡ Ok (Some count)
    → IsGiven kept given fault old count
given_next kept given fault old count within view len =
    let read = ahead_octets old count len in
    let octets = read.0 in
    let is = octets_ahead kept given fault octets (view ∙ read.3) in
    let Read : List ℕ → Type 0 = λ t. length_of (frame_at MAX_FRAME_SIZE t) ≡ Ok (Some count) in
    let got = given_of kept given count (frame_at MAX_FRAME_SIZE (drop given kept)) refl within (subst Read (sym is.1) read.2) in
    let old_is : old ≡ Octets (drop given kept) = read.1 ∙ ap Octets (sym is.1) in
    record { room = got.0; answer = ap next_answer old_is ∙ got.1; ahead = ap next_ahead old_is ∙ got.2 ∙ ap (ahead_of kept (given + count)) (sym is.0) }

-- ---- a stream is one list of frames

-- what is read at the end of a stream
abbrev end_read : Option FrameFault → ReadFrame
end_read None = Ok None
end_read (Some fault) = Err fault

end_is : (limit : ℕ) (rest : List ℕ) (fault : Option FrameFault) → IsEnd limit rest fault → frame_at limit rest ≡ end_read fault
end_is limit rest None end = partial_read limit rest end
end_is limit rest (Some fault) end = fault_read limit rest fault end

one_end : (a b : Option FrameFault) → end_read a ≡ end_read b → a ≡ b
one_end None None e = refl
one_end None (Some y) e = absurd cc
one_end (Some x) None e = absurd cc
one_end (Some x) (Some y) e = cc

no_end : (frame : Frame) (fault : Option FrameFault) → Ok (Some frame) ≡ end_read fault → ⊥
no_end frame None e = cc
no_end frame (Some fault) e = cc

-- the first frame of a stream is read
first_read : (limit : ℕ) (first : List ℕ) (others : List (List ℕ)) (rest : List ℕ) → (whole : IsWhole limit first) → frame_at limit (concat (first ∷ others) ++ rest) ≡ Ok (Some whole.0)
first_read limit first others rest whole =
    front_read limit (concat (first ∷ others) ++ rest) whole.0 (concat others ++ rest) (record { parts = append_assoc first (concat others) rest ∙ ap (λ (t : List ℕ). t ++ (concat others ++ rest)) (sym whole.1); is = whole.2 })

-- what follows the same octets is the same
after_same : (first a b : List ℕ) → first ++ a ≡ first ++ b → a ≡ b
after_same first a b e = sym (drop_at first a (length first) refl) ∙ ap (drop (length first)) e ∙ drop_at first b (length first) refl

same_cut : (limit : ℕ) (frames others : List (List ℕ)) (rest rest' : List ℕ) (fault fault' : Option FrameFault) → concat frames ++ rest ≡ concat others ++ rest'
    → All (IsWhole limit) frames → All (IsWhole limit) others → IsEnd limit rest fault → IsEnd limit rest' fault' → (frames ≡ others) × (fault ≡ fault')
same_cut limit [] [] rest rest' fault fault' e each each' end end' =
    (refl, one_end fault fault' (sym (end_is limit rest fault end) ∙ ap (frame_at limit) e ∙ end_is limit rest' fault' end'))
same_cut limit [] (o ∷ os) rest rest' fault fault' e each each' end end' =
    let whole = All-head (IsWhole limit) o os each' in
    absurd (no_end whole.0 fault (sym (first_read limit o os rest' whole) ∙ ap (frame_at limit) (sym e) ∙ end_is limit rest fault end))
same_cut limit (f ∷ fs) [] rest rest' fault fault' e each each' end end' =
    let whole = All-head (IsWhole limit) f fs each in
    absurd (no_end whole.0 fault' (sym (first_read limit f fs rest whole) ∙ ap (frame_at limit) e ∙ end_is limit rest' fault' end'))
same_cut limit (f ∷ fs) (o ∷ os) rest rest' fault fault' e each each' end end' =
    let whole = All-head (IsWhole limit) f fs each in
    let whole' = All-head (IsWhole limit) o os each' in
    let read : frame_at limit (concat (f ∷ fs) ++ rest) ≡ Ok (Some whole'.0) = ap (frame_at limit) e ∙ first_read limit o os rest' whole' in
    let frame = one_read (frame_at limit (concat (f ∷ fs) ++ rest)) whole.0 whole'.0 (first_read limit f fs rest whole) read in
    let first : f ≡ o = sym whole.1 ∙ ap (λ x. x.octets) frame ∙ whole'.1 in
    let behind : concat fs ++ rest ≡ concat os ++ rest' =
    after_same f (concat fs ++ rest) (concat os ++ rest') (sym (append_assoc f (concat fs) rest) ∙ e ∙ append_assoc o (concat os) rest' ∙ ap (λ (t : List ℕ). t ++ (concat os ++ rest')) (sym first)) in
    let others = same_cut limit fs os rest rest' fault fault' behind (All-tail (IsWhole limit) f fs each) (All-tail (IsWhole limit) o os each') end end' in
    (rw (first, others.0) refl, others.1)

-- a stream has no other frames than these, and no other end
pub one_cut : (limit : ℕ) (stream : List ℕ) (frames others : List (List ℕ)) (fault fault' : Option FrameFault) → AreFramesOf limit stream frames fault → AreFramesOf limit stream others fault'
    → (frames ≡ others) × (fault ≡ fault')
one_cut limit stream frames others fault fault' are are' = same_cut limit frames others are.rest are'.rest fault fault' (sym are.parts ∙ are'.parts) are.each are'.each are.end are'.end

-- ---- a loop over the frames

-- how many octets are ahead
abbrev pub left_count : Ahead → ℕ
left_count (Octets octets) = length octets
left_count (Broken fault) = 0

fewer_of : (octets frame : List ℕ) (read : ReadFrame) → frame_at MAX_FRAME_SIZE octets ≡ read → answer_of read ≡ Ok (Some frame) → left_count (behind octets read) < length octets
fewer_of octets frame (Ok None) e given = absurd cc
fewer_of octets frame (Ok (Some read)) e given =
    let front = found_front MAX_FRAME_SIZE octets read e in
    let is = front.is in
    let rest = drop (length read.octets) octets in
    omega (arith, ap length front.parts, length-append read.octets rest, frame_long MAX_FRAME_SIZE read is)
fewer_of octets frame (Err fault) e given = absurd cc

-- each frame that is given leaves fewer
pub fewer_left : (ahead : Ahead) (frame : List ℕ) → next_answer ahead ≡ Ok (Some frame) → left_count (next_ahead ahead) < left_count ahead
fewer_left (Octets octets) frame given = fewer_of octets frame (frame_at MAX_FRAME_SIZE octets) refl given
fewer_left (Broken fault) frame given = absurd cc
