-- The message of a delivery as it is joined from the parts on the stack is that of the law, and its parts lie in it where they are
-- said to lie.
use Rattle.std.proofs.Common.{◌≡◌, refl, sym, ap, ◌∙◌, ℕ, zero, suc, ◌+◌, ◌-◌, ◌≤◌, ◌<◌, ◌⊎◌, inl, inr, List, [], ◌∷◌, ◌++◌, length, take, drop, Bool, true, false, arith, length-append, length-drop, if◌then◌else◌}
use Rattle.std.specs.Prelude.{min, nat_le, unwrap_or}
use Rattle.amqp_perf.specs.Message.{to_of}
use Rattle.std.proofs.lemmas.List.{length-take, take-append-le, drop-append-le}
use Rattle.std.proofs.lemmas.Bool.Decides.{leb_tells}
use Rattle.std.proofs.Math.Seq.{drop-append-add, take-append-add, take-length}
use Rattle.flow_counts.specs.declared.profile.TheConstants.{MAX_MESSAGE_SIZE}
use Rattle.trace_events.specs.Event.{Event, Incoming}
use Rattle.trace_events.specs.Said.{in_spoken}
use Rattle.trace_events.specs.Incoming.{is_part, part_payload, payload, completes, message, message_address}
use Rattle.trace_events.proofs.JoinedParts.{append-nothing, fills_up, take-of-none, take-all}
use Rattle.trace_law.specs.Messages.{joined}

-- ---- joined up to a bound

joined-test : (test : Bool) (most : ℕ) (part earlier so_far : List ℕ) → so_far ≡ take most earlier
    → so_far ++ take (most - length so_far) (if test then part else []) ≡ take most (if test then earlier ++ part else earlier)
joined-test true most part earlier so_far h = ap (λ xs. xs ++ take (most - length xs) part) h ∙ fills_up most earlier part
joined-test false most part earlier so_far h = ap (λ xs. so_far ++ xs) (take-of-none (most - length so_far)) ∙ (append-nothing so_far ∙ h)

pub joined_message : (d : Incoming) (past : List Event) → joined d.number past ≡ message d past
joined_message d [] = sym (take-of-none MAX_MESSAGE_SIZE)
joined_message d (e ∷ past) =
    joined-test (is_part d e) MAX_MESSAGE_SIZE (part_payload (in_spoken e)) (payload d past) (joined d.number past) (joined_message d past)

-- ---- how long it is

pub joined_length : (most : ℕ) (xs ys : List ℕ) → length (xs ++ take (most - length xs) ys) ≡ length xs + min (most - length xs) (length ys)
joined_length most xs ys = omega (arith, length-append xs (take (most - length xs) ys), length-take (most - length xs) ys)

-- ---- where its parts lie

-- octets that lie at an offset in front of others lie there also where these stand
pub lies-before : (found before behind : List ℕ) (at : ℕ) → at ≤ length before → found ≡ take (length found) (drop at before)
    → found ≡ take (length found) (drop at (before ++ behind))
lies-before found before behind at within is =
    let size : length found ≤ length (drop at before) = omega (arith, ap length is, length-take (length found) (drop at before)) in
    is ∙ sym (ap (λ xs. take (length found) xs) (drop-append-le at before behind within) ∙ take-append-le (length found) (drop at before) behind size)

-- what is behind an offset behind others is what is behind the rest of it
pub lies-behind : (before behind : List ℕ) (at : ℕ) → length before ≤ at → drop at (before ++ behind) ≡ drop (at - length before) behind
lies-behind before behind at past =
    let same : at ≡ length before + (at - length before) = omega (arith, past) in
    ap (λ n. drop n (before ++ behind)) same ∙ drop-append-add before behind (at - length before)

pub whole : (xs : List ℕ) → xs ≡ take (length xs) xs
whole xs = sym (take-length xs)

-- ---- the event that completes it tells its address

pub told-here : (d : Incoming) (e : Event) (past : List Event) → completes d e ≡ true → message_address d (e ∷ past) ≡ unwrap_or (to_of (message d (e ∷ past))) []
unfolding message_address
told-here d e past here = ap (λ b. if b then unwrap_or (to_of (message d (e ∷ past))) [] else message_address d past) here
