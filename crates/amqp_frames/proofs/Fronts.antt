-- What is read is a frame, and each frame is read, whatever is behind it.
use Rattle.std.proofs.Common.{◌≡◌, ℕ, zero, suc, ◌+◌, ◌-◌, ◌*◌, ◌<◌, ◌≤◌, ◌⊎◌, inl, inr, Bool, true, false, cond, ltb, ◌==◌, List, [], ◌∷◌, ◌++◌, length, take, drop, Option, Some, None, Ok, Err, refl, sym, ap, subst, ◌∙◌, append_assoc, arith, drop-cons, get_or}
use Rattle.std.proofs.lemmas.Bool.{eq-eqb, eqb-true, ne_eqb, ltb-true, ltb-false, lt-ltb, le-ltb}
use Rattle.std.proofs.lemmas.List.{append-nil, get_or-append_right, drop-drop, take_at, drop_at, take-append-drop, length-append, length-drop, length-take, get_or-take}
use Rattle.std.proofs.Math.Bool.{or-true}
use Rattle.byteorder.specs.Endian.{big_number}
use Rattle.amqp_types.specs.Grammar.{IsNumber}
use Rattle.byteorder.specs.Numbers.{big_from-append, big_from-take}
use Rattle.amqp_frames.specs.declared.fault.FrameFault.{FrameFault}
use Rattle.amqp_frames.specs.declared.fault.FrameFault.TheVariants.{TooSmall, TooLarge, BadOffset, WrongType}
use Rattle.amqp_frames.specs.declared.frame.FrameKind.{FrameKind}
use Rattle.amqp_frames.specs.declared.frame.FrameKind.TheVariants.{Amqp, Sasl}
use Rattle.amqp_frames.specs.Frame.{Frame, code_of, IsFrame, IsFront, HasHeader, IsFault, IsPartial, stated_size, stated_start, stated_type}
use Rattle.std.proofs.Common.{◌||◌}
use Rattle.amqp_frames.specs.Reading.{ReadFrame, kind_of, frame_of, typed_frame, headed_frame, sized_frame, frame_at, whole_frame}
use Rattle.amqp_frames.proofs.Steps.{neither, done, apart_err, apart_none, one_fault, one_read}

abbrev pub frame_of_parts : FrameKind → ℕ → List ℕ → List ℕ → Frame
frame_of_parts kind channel body octets = record { kind = kind; channel = channel; body = body; octets = octets }

-- a whole frame of this type is at the front, by its header
pub record IsThere (limit : ℕ) (octets : List ℕ) (kind : FrameKind) : Type 0 where
  pub header : HasHeader limit octets
  pub from : 8 ≤ stated_start octets
  pub to : stated_start octets ≤ stated_size octets
  pub type : kind_of (stated_type octets) ≡ Some kind
  pub whole : stated_size octets ≤ length octets

pub there_read : (limit : ℕ) (octets : List ℕ) (kind : FrameKind) → IsThere limit octets kind → frame_at limit octets ≡ Ok (Some (frame_of kind octets))
unfolding frame_at sized_frame headed_frame
there_read limit octets kind there =
    let header = there.header in
    rw (le-ltb (length octets) 4 (omega (arith, header.there)), le-ltb (stated_size octets) 8 header.large, le-ltb limit (stated_size octets) header.within, le-ltb (length octets) 8 header.there, le-ltb (stated_start octets) 8 there.from, le-ltb (stated_size octets) (stated_start octets) there.to, there.type, le-ltb (length octets) (stated_size octets) there.whole) refl

kind_is : (a b : FrameKind) → Some a ≡ Some b → a ≡ b
kind_is a b e = cc

type_code : (octet : ℕ) (a b : Bool) → (octet == 0) ≡ a → (octet == 1) ≡ b → (kind : FrameKind) → cond a (Some Amqp) (cond b (Some Sasl) None) ≡ Some kind → octet ≡ code_of kind
type_code octet true b is other kind e = eqb-true octet 0 is ∙ ap code_of (kind_is Amqp kind e)
type_code octet false true other is kind e = eqb-true octet 1 is ∙ ap code_of (kind_is Sasl kind e)
type_code octet false false p q kind e = absurd cc

-- the type that is read is the one that the octet names
kind_code : (octet : ℕ) (kind : FrameKind) → kind_of octet ≡ Some kind → octet ≡ code_of kind
kind_code octet kind e = type_code octet (octet == 0) (octet == 1) refl refl kind e

-- a test of the type is passed by its own octet
pub code_kind : (kind : FrameKind) → kind_of (code_of kind) ≡ Some kind
code_kind Amqp = refl
code_kind Sasl = refl

-- so many octets from a place on, and those behind them
cut_at : (i n : ℕ) (octets : List ℕ) → drop i octets ≡ take n (drop i octets) ++ drop (i + n) octets
cut_at i n octets = sym (take-append-drop n (drop i octets)) ∙ ap (λ (t : List ℕ). take n (drop i octets) ++ t) (drop-drop n i octets)

-- two octets from a place on, and those behind them
pair_at : (i : ℕ) (octets : List ℕ) → suc i < length octets → drop i octets ≡ get_or octets i 0 ∷ get_or octets (suc i) 0 ∷ drop (suc (suc i)) octets
pair_at i octets h = drop-cons octets i 0 (omega arith) ∙ ap (λ (t : List ℕ). get_or octets i 0 ∷ t) (drop-cons octets (suc i) 0 h)

-- the parts of some octets: four, one, one, two, those up to a place, and those from there on
parts_of : (octets : List ℕ) (start : ℕ) → 8 ≤ start → start ≤ length octets
    → octets ≡ take 4 octets ++ (get_or octets 4 0 ∷ get_or octets 5 0 ∷ []) ++ take 2 (drop 6 octets) ++ take (start - 8) (drop 8 octets) ++ drop start octets
parts_of octets start from to =
    let more = take (start - 8) (drop 8 octets) in
    let behind : drop 8 octets ≡ more ++ drop start octets = cut_at 8 (start - 8) octets ∙ ap (λ n. more ++ drop n octets) (omega arith) in
    sym (take-append-drop 4 octets)
    ∙ ap (λ (t : List ℕ). take 4 octets ++ t) (pair_at 4 octets (omega arith) ∙ ap (λ (t : List ℕ). get_or octets 4 0 ∷ get_or octets 5 0 ∷ t) (cut_at 6 2 octets ∙ ap (λ (t : List ℕ). take 2 (drop 6 octets) ++ t) behind))
    ∙ simp append_assoc

-- the number in the first octets
number_of_front : (n : ℕ) (octets : List ℕ) → n ≤ length octets → IsNumber n (take n octets) (big_number n octets)
number_of_front n octets long = record { len = omega (arith, length-take n octets); says = big_from-take 0 n n octets (omega arith) }

-- what is there is a frame
there_frame : (limit : ℕ) (octets : List ℕ) (kind : FrameKind) → IsThere limit octets kind → IsFrame limit (frame_of kind octets)
there_frame limit octets kind there =
    let size = stated_size octets in
    let start = stated_start octets in
    let whole = take size octets in
    let len : length whole ≡ size = omega (arith, length-take size octets, there.whole) in
    let offset : get_or whole 4 0 ≡ get_or octets 4 0 = get_or-take size octets 4 0 (omega (arith, there.header.large)) in
    let type : get_or whole 5 0 ≡ code_of kind = get_or-take size octets 5 0 (omega (arith, there.header.large)) ∙ kind_code (get_or octets 5 0) kind there.type in
    record {
      size = take 4 whole;
      offset = get_or octets 4 0;
      channel = take 2 (drop 6 whole);
      extended = take (start - 8) (drop 8 whole);
      parts = parts_of whole start there.from (omega (arith, len, there.to)) ∙ ap (λ (t : List ℕ). take 4 whole ++ t ++ take 2 (drop 6 whole) ++ take (start - 8) (drop 8 whole) ++ drop start whole) (rw (offset, type) refl);
      size_says = subst (IsNumber 4 (take 4 whole)) (big_from-take 0 4 size octets (omega (arith, there.header.large)) ∙ sym len) (number_of_front 4 whole (omega (arith, len, there.header.large)));
      channel_says = number_of_front 2 (drop 6 whole) (omega (arith, len, length-drop 6 whole, there.header.large));
      body_start = omega (arith, len, length-drop 8 whole, length-take (start - 8) (drop 8 whole), there.from, there.to);
      within = omega (arith, len, there.header.within);
    }

same_frame : (kind : FrameKind) (channel channel' : ℕ) (body body' octets octets' : List ℕ) → channel ≡ channel' → body ≡ body' → octets ≡ octets'
    → frame_of_parts kind channel body octets ≡ frame_of_parts kind channel' body' octets'
same_frame kind channel channel' body body' octets octets' c b o = rw (c, b, o) refl

-- a frame has its header
pub frame_long : (limit : ℕ) (frame : Frame) → IsFrame limit frame → 8 ≤ length frame.octets
frame_long limit frame is =
    let head = is.size ++ (is.offset ∷ code_of frame.kind ∷ []) in
    omega (arith, ap length is.parts, length-append (head ++ is.channel ++ is.extended) frame.body, length-append (head ++ is.channel) is.extended, length-append head is.channel, length-append is.size (is.offset ∷ code_of frame.kind ∷ []), is.size_says.len, is.channel_says.len)

-- a frame at the front is there, and is the one that is read
front_there : (limit : ℕ) (octets : List ℕ) (frame : Frame) (rest : List ℕ) → IsFront limit octets frame rest → IsThere limit octets frame.kind × (frame_of frame.kind octets ≡ frame)
front_there limit octets frame rest front =
    let is = front.is in
    let head = is.size ++ (is.offset ∷ code_of frame.kind ∷ []) in
    let behind = is.channel ++ (is.extended ++ frame.body) in
    let regrouped : frame.octets ≡ head ++ behind = is.parts ∙ append_assoc (head ++ is.channel) is.extended frame.body ∙ append_assoc head is.channel (is.extended ++ frame.body) in
    let all : octets ≡ is.size ++ (is.offset ∷ code_of frame.kind ∷ (behind ++ rest)) =
    front.parts ∙ ap (λ (t : List ℕ). t ++ rest) regrouped ∙ append_assoc head behind rest ∙ append_assoc is.size (is.offset ∷ code_of frame.kind ∷ []) (behind ++ rest) in
    let len : length frame.octets ≡ 8 + length is.extended + length frame.body =
    omega (arith, ap length regrouped, length-append head behind, length-append is.size (is.offset ∷ code_of frame.kind ∷ []), length-append is.channel (is.extended ++ frame.body), length-append is.extended frame.body, is.size_says.len, is.channel_says.len) in
    let long : length octets ≡ length frame.octets + length rest = ap length front.parts ∙ length-append frame.octets rest in
    let size : stated_size octets ≡ length frame.octets = ap (big_number 4) all ∙ big_from-append 4 is.size _ (omega (arith, is.size_says.len)) ∙ is.size_says.says in
    let offset : get_or octets 4 0 ≡ is.offset = ap (λ (t : List ℕ). get_or t 4 0) all ∙ get_or-append_right is.size _ 4 4 0 is.size_says.len (omega arith) in
    let type : get_or octets 5 0 ≡ code_of frame.kind = ap (λ (t : List ℕ). get_or t 5 0) all ∙ get_or-append_right is.size _ 4 5 0 is.size_says.len (omega arith) in
    let start : stated_start octets ≡ 8 + length is.extended = ap (λ n. 4 * n) offset ∙ is.body_start in
    let whole : take (stated_size octets) octets ≡ frame.octets = ap (λ n. take n octets) size ∙ ap (take (length frame.octets)) front.parts ∙ take_at frame.octets rest (length frame.octets) refl in
    let channel : big_number 2 (drop 6 (take (stated_size octets) octets)) ≡ frame.channel =
    ap (λ (t : List ℕ). big_number 2 (drop 6 t)) (whole ∙ regrouped)
    ∙ ap (big_number 2) (drop_at head behind 6 (omega (arith, length-append is.size (is.offset ∷ code_of frame.kind ∷ []), is.size_says.len)))
    ∙ big_from-append 2 is.channel (is.extended ++ frame.body) (omega (arith, is.channel_says.len)) ∙ is.channel_says.says in
    let to_body : length (head ++ is.channel ++ is.extended) ≡ stated_start octets =
    omega (arith, start, length-append (head ++ is.channel) is.extended, length-append head is.channel, length-append is.size (is.offset ∷ code_of frame.kind ∷ []), is.size_says.len, is.channel_says.len) in
    let body : drop (stated_start octets) (take (stated_size octets) octets) ≡ frame.body =
    ap (drop (stated_start octets)) (whole ∙ is.parts) ∙ drop_at (head ++ is.channel ++ is.extended) frame.body (stated_start octets) to_body in
    let header : HasHeader limit octets = record { there = omega (arith, len, long); large = omega (arith, size, len); within = omega (arith, size, is.within) } in
    let there : IsThere limit octets frame.kind = record {
      header = header;
      from = omega (arith, start);
      to = omega (arith, start, size, len);
      type = ap kind_of type ∙ code_kind frame.kind;
      whole = omega (arith, size, long);
    } in
    (there, same_frame frame.kind _ frame.channel _ frame.body _ frame.octets channel body whole)

-- each frame at the front is read, whatever is behind it
pub front_read : (limit : ℕ) (octets : List ℕ) (frame : Frame) (rest : List ℕ) → IsFront limit octets frame rest → frame_at limit octets ≡ Ok (Some frame)
front_read limit octets frame rest front =
    let there = front_there limit octets frame rest front in
    there_read limit octets frame.kind there.0 ∙ ap done there.1

-- ---- faults, and octets that are missing

tested : (b : Bool) → (b ≡ true) ⊎ (b ≡ false)
tested true = inl refl
tested false = inr refl

one_of : (a b : Bool) → (a || b) ≡ true → (a ≡ true) ⊎ (b ≡ true)
one_of true b e = inl refl
one_of false b e = inr e

-- no type has an octet over 1
over_none : (octet : ℕ) → 1 < octet → kind_of octet ≡ None
over_none octet over = rw (ne_eqb octet 0 (λ e. absurd (omega (arith, e, over))), ne_eqb octet 1 (λ e. absurd (omega (arith, e, over)))) refl

none_is_not : (kind : FrameKind) → Some kind ≡ None → ⊥
none_is_not kind e = cc

none_over : (octet : ℕ) → kind_of octet ≡ None → 1 < octet
none_over zero e = absurd (none_is_not Amqp e)
none_over (suc zero) e = absurd (none_is_not Sasl e)
none_over (suc (suc octet)) e = omega arith

pub header_read : (limit : ℕ) (octets : List ℕ) → HasHeader limit octets → frame_at limit octets ≡ headed_frame octets
unfolding frame_at sized_frame
header_read limit octets header =
    rw (le-ltb (length octets) 4 (omega (arith, header.there)), le-ltb (stated_size octets) 8 header.large, le-ltb limit (stated_size octets) header.within, le-ltb (length octets) 8 header.there) refl

pub bad_offset : (octets : List ℕ) → (stated_start octets < 8) ⊎ (stated_size octets < stated_start octets) → headed_frame octets ≡ Err BadOffset
unfolding headed_frame
bad_offset octets (inl small) = rw (lt-ltb (stated_start octets) 8 small) refl
bad_offset octets (inr large) = rw (lt-ltb (stated_size octets) (stated_start octets) large, or-true (ltb (stated_start octets) 8)) refl

wrong_type : (octets : List ℕ) → 8 ≤ stated_start octets → stated_start octets ≤ stated_size octets → 1 < stated_type octets → headed_frame octets ≡ Err WrongType
unfolding headed_frame
wrong_type octets from to over = rw (le-ltb (stated_start octets) 8 from, le-ltb (stated_size octets) (stated_start octets) to, over_none (stated_type octets) over) refl

-- each fault is read
pub fault_read : (limit : ℕ) (octets : List ℕ) (fault : FrameFault) → IsFault limit octets fault → frame_at limit octets ≡ Err fault
unfolding frame_at sized_frame
fault_read limit octets TooSmall is = rw (le-ltb (length octets) 4 is.0, lt-ltb (stated_size octets) 8 is.1) refl
fault_read limit octets TooLarge is = rw (le-ltb (length octets) 4 is.0, le-ltb (stated_size octets) 8 is.1, lt-ltb limit (stated_size octets) is.2) refl
fault_read limit octets BadOffset is = header_read limit octets is.0 ∙ bad_offset octets is.1
fault_read limit octets WrongType is = header_read limit octets is.0 ∙ wrong_type octets is.1 is.2 is.3

-- what stands at the front: a fault, less than a frame, or a whole one
pub data Stands (limit : ℕ) (octets : List ℕ) : Type 0 where
  Broken : (fault : FrameFault) → IsFault limit octets fault → Stands limit octets
  Partial : frame_at limit octets ≡ Ok None → IsPartial limit octets → Stands limit octets
  Whole : (kind : FrameKind) → IsThere limit octets kind → Stands limit octets

-- where none is read and the size says that octets are missing
partial_if : (limit : ℕ) (octets : List ℕ) → frame_at limit octets ≡ Ok None → (4 ≤ length octets → length octets < stated_size octets) → Stands limit octets
partial_if limit octets e short = Partial e (record { faultless = λ fault is. apart_err (frame_at limit octets) None fault e (fault_read limit octets fault is); short = short })

outside : (start size : ℕ) → (ltb start 8 ≡ true) ⊎ (ltb size start ≡ true) → (start < 8) ⊎ (size < start)
outside start size (inl e) = inl (ltb-true _ _ e)
outside start size (inr e) = inr (ltb-true _ _ e)

inside_read : (octets : List ℕ) → (ltb (stated_start octets) 8 || ltb (stated_size octets) (stated_start octets)) ≡ false → headed_frame octets ≡ typed_frame octets (kind_of (stated_type octets))
unfolding headed_frame
inside_read octets good = rw good refl

typed_stands : (limit : ℕ) (octets : List ℕ) (kind : Option FrameKind) → kind_of (stated_type octets) ≡ kind → HasHeader limit octets → 8 ≤ stated_start octets → stated_start octets ≤ stated_size octets
    → frame_at limit octets ≡ typed_frame octets kind → Stands limit octets
typed_stands limit octets None type header from to e = Broken WrongType (header, from, to, none_over (stated_type octets) type)
typed_stands limit octets (Some kind) type header from to e = elim (tested (ltb (length octets) (stated_size octets))) [
  | inl short ↦ partial_if limit octets (e ∙ rw short refl) (λ _. ltb-true _ _ short)
  | inr whole ↦ Whole kind (record { header = header; from = from; to = to; type = type; whole = ltb-false _ _ whole })
]

headed_stands : (limit : ℕ) (octets : List ℕ) → HasHeader limit octets → Stands limit octets
headed_stands limit octets header =
    let start = stated_start octets in
    let size = stated_size octets in
    elim (tested (ltb start 8 || ltb size start)) [
      | inl bad ↦ Broken BadOffset (header, outside start size (one_of (ltb start 8) (ltb size start) bad))
      | inr good ↦
          let inside = neither (ltb start 8) (ltb size start) good in
          typed_stands limit octets (kind_of (stated_type octets)) refl header (ltb-false _ _ inside.0) (ltb-false _ _ inside.1) (header_read limit octets header ∙ inside_read octets good)
    ]

pub what_stands : (limit : ℕ) (octets : List ℕ) → Stands limit octets
unfolding frame_at sized_frame
what_stands limit octets =
    let size = stated_size octets in
    elim (tested (ltb (length octets) 4)) [
      | inl short ↦ partial_if limit octets (rw short refl) (λ h. absurd (omega (arith, ltb-true _ _ short, h)))
      | inr sized ↦ elim (tested (ltb size 8)) [
        | inl small ↦ Broken TooSmall (ltb-false _ _ sized, ltb-true _ _ small)
        | inr large ↦ elim (tested (ltb limit size)) [
          | inl over ↦ Broken TooLarge (ltb-false _ _ sized, ltb-false _ _ large, ltb-true _ _ over)
          | inr within ↦ elim (tested (ltb (length octets) 8)) [
            | inl short ↦ partial_if limit octets (rw (sized, large, within, short) refl) (λ _. omega (arith, ltb-true _ _ short, ltb-false _ _ large))
            | inr there ↦ headed_stands limit octets (record { there = ltb-false _ _ there; large = ltb-false _ _ large; within = ltb-false _ _ within })
          ]
        ]
      ]
    ]

-- where octets are missing and there is no fault none is read
pub partial_read : (limit : ℕ) (octets : List ℕ) → IsPartial limit octets → frame_at limit octets ≡ Ok None
partial_read limit octets is = elim (what_stands limit octets) [
  | Broken fault broken ↦ absurd (is.faultless fault broken)
  | Partial e partial ↦ e
  | Whole kind there ↦ absurd (omega (arith, there.whole, there.header.there, is.short (omega (arith, there.header.there))))
]

-- where none is read octets are missing and there is no fault
pub partial_found : (limit : ℕ) (octets : List ℕ) → frame_at limit octets ≡ Ok None → IsPartial limit octets
partial_found limit octets e = elim (what_stands limit octets) [
  | Broken fault broken ↦ absurd (apart_err (frame_at limit octets) None fault e (fault_read limit octets fault broken))
  | Partial _ partial ↦ partial
  | Whole kind there ↦ absurd (apart_none (frame_at limit octets) (frame_of kind octets) (there_read limit octets kind there) e)
]

-- a fault that is read is one
pub fault_found : (limit : ℕ) (octets : List ℕ) (fault : FrameFault) → frame_at limit octets ≡ Err fault → IsFault limit octets fault
fault_found limit octets fault e = elim (what_stands limit octets) [
  | Broken other broken ↦ subst (IsFault limit octets) (one_fault (frame_at limit octets) other fault (fault_read limit octets other broken) e) broken
  | Partial none partial ↦ absurd (apart_err (frame_at limit octets) None fault none e)
  | Whole kind there ↦ absurd (apart_err (frame_at limit octets) (Some (frame_of kind octets)) fault (there_read limit octets kind there) e)
]

-- a frame that is read is there
read_there : (limit : ℕ) (octets : List ℕ) (frame : Frame) → frame_at limit octets ≡ Ok (Some frame) → (kind : FrameKind) × IsThere limit octets kind × (frame_of kind octets ≡ frame)
read_there limit octets frame e = elim (what_stands limit octets) [
  | Broken fault broken ↦ absurd (apart_err (frame_at limit octets) (Some frame) fault e (fault_read limit octets fault broken))
  | Partial none partial ↦ absurd (apart_none (frame_at limit octets) frame e none)
  | Whole kind there ↦ (kind, there, one_read (frame_at limit octets) (frame_of kind octets) frame (there_read limit octets kind there) e)
]

-- what is read is a frame at the front
pub found_front : (limit : ℕ) (octets : List ℕ) (frame : Frame) → frame_at limit octets ≡ Ok (Some frame) → IsFront limit octets frame (drop (length frame.octets) octets)
found_front limit octets frame e =
    let read = read_there limit octets frame e in
    let there = read.1 in
    let size = stated_size octets in
    let len : length (take size octets) ≡ size = omega (arith, length-take size octets, there.whole) in
    let Front : Frame → Type 0 = λ f. IsFront limit octets f (drop (length f.octets) octets) in
    let parts : octets ≡ take size octets ++ drop (length (take size octets)) octets = sym (take-append-drop size octets) ∙ ap (λ n. take size octets ++ drop n octets) (sym len) in
    subst Front read.2 (record { parts = parts; is = there_frame limit octets read.0 there })

-- what the code read is what is there
pub cut_read : (limit : ℕ) (octets : List ℕ) (kind : FrameKind) (size start channel : ℕ) (body : List ℕ) → IsThere limit octets kind → size ≡ stated_size octets → start ≡ stated_start octets
    → channel ≡ big_number 2 (drop 6 (take size octets)) → body ≡ drop start (take size octets) → frame_at limit octets ≡ Ok (Some (frame_of_parts kind channel body (take size octets)))
cut_read limit octets kind size start channel body there s f c b =
    let whole = take (stated_size octets) octets in
    let same : take size octets ≡ whole = ap (λ n. take n octets) s in
    there_read limit octets kind there
    ∙ ap done (sym (same_frame kind channel _ body _ (take size octets) whole (c ∙ ap (λ (t : List ℕ). big_number 2 (drop 6 t)) same) (b ∙ ap (λ n. drop n (take size octets)) f ∙ ap (drop (stated_start octets)) same) same))

-- a frame at the front is what was read
pub only_read : (limit : ℕ) (octets : List ℕ) (read : ReadFrame) → frame_at limit octets ≡ read → (frame : Frame) (rest : List ℕ) → IsFront limit octets frame rest → Ok (Some frame) ≡ read
only_read limit octets read e frame rest front = sym (front_read limit octets frame rest front) ∙ e

-- what was read is at the front, with so many octets
pub found_at : (limit : ℕ) (octets : List ℕ) (frame : Frame) (count : ℕ) → frame_at limit octets ≡ Ok (Some frame) → count ≡ length frame.octets → IsFront limit octets frame (drop count octets)
found_at limit octets frame count e len = subst (λ n. IsFront limit octets frame (drop n octets)) (sym len) (found_front limit octets frame e)

-- each frame is the one that its octets are
pub whole_read : (limit : ℕ) (octets : List ℕ) (frame : Frame) → IsFrame limit frame → frame.octets ≡ octets → whole_frame limit octets ≡ Some frame
unfolding whole_frame
whole_read limit octets frame is all =
    let front : IsFront limit octets frame [] = record { parts = sym all ∙ sym (append-nil frame.octets); is = is } in
    rw (front_read limit octets frame [] front, eq-eqb (length frame.octets) (length octets) (ap length all)) refl
