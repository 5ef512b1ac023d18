-- The constructor of an array's elements, as it is read.
use Rattle.std.proofs.Common.{◌≡◌, ℕ, suc, ◌+◌, ◌≤◌, ◌<◌, List, [], ◌∷◌, ◌++◌, length, drop, slice_index, Some, Ok, sym, ap, ◌∙◌, append_assoc, arith}
use Rattle.std.proofs.lemmas.List.{length-append}
use Rattle.amqp_types.specs.Part.{Seen, Constructor}
use Rattle.amqp_types.specs.Reading.{tagged_at, constructor_at, seen_at, in_front}
use Rattle.flow_counts.specs.declared.profile.TheConstants.{MAX_DEPTH}
use Rattle.amqp_types.specs.Items.{form_of}
use Rattle.amqp_types.proofs.Steps.{done}
use Rattle.amqp_types.proofs.Pieces.{in_front_is}
use Rattle.amqp_types.proofs.Values.{constructor_found, constructor_shallow, seen_found}
use Rattle.amqp_types.proofs.Held.{constructor_held}

-- a constructor and the rest are as long as what was there
pub constructor_lengths : (levels at : ℕ) (bytes : List ℕ) (x : Constructor × List ℕ) → constructor_at levels at bytes ≡ Ok x → length x.0.octets + length x.1 ≡ length bytes
constructor_lengths levels at bytes x e =
    let found = constructor_found levels at bytes x e in
    omega (arith, ap length found.0, length-append x.0.octets x.1)

-- what was read as a constructor has fewer descriptors than levels were left
pub constructor_tags : (levels at : ℕ) (bytes : List ℕ) (x : Constructor × List ℕ) → constructor_at levels at bytes ≡ Ok x → x.0.tags < levels
constructor_tags levels at bytes x e = constructor_shallow levels x.0.octets x.0 (constructor_found levels at bytes x e).1

-- its octets say its descriptors and its code
pub constructor_form : (levels at : ℕ) (bytes : List ℕ) (x : Constructor × List ℕ) → levels ≤ MAX_DEPTH → constructor_at levels at bytes ≡ Ok x → form_of x.0.octets ≡ Some (x.0.tags, x.0.code)
constructor_form levels at bytes x le e = constructor_held levels x.0.octets x.0 le (constructor_found levels at bytes x e).1

one_more : (n : ℕ) → suc n ≡ n + 1
one_more n = omega arith

octets_behind : (first : ℕ) (descriptor inner rest bytes : List ℕ) → bytes ≡ descriptor ++ (inner ++ rest) → in_front (first ∷ bytes) rest ≡ first ∷ (descriptor ++ inner)
octets_behind first descriptor inner rest bytes e =
    ap (λ (t : List ℕ). in_front (first ∷ t) rest) (e ∙ sym (append_assoc descriptor inner rest)) ∙ in_front_is (first ∷ (descriptor ++ inner)) rest

-- a descriptor and a constructor that were read
pub tagged_is : (levels at : ℕ) (bytes : List ℕ) (d : Seen × List ℕ) (x : Constructor × List ℕ) → 0 < length bytes
    → seen_at levels at (drop 1 bytes) ≡ Ok d → constructor_at levels at d.1 ≡ Ok x
    → tagged_at (seen_at levels) (constructor_at levels) at (slice_index bytes 0) (drop 1 bytes)
    ≡ Ok (record { octets = in_front bytes x.1; tags = x.0.tags + 1; code = x.0.code; tag = Some (record { descriptor = d.0.octets; constructor = x.0.octets }) }, x.1)
unfolding tagged_at
tagged_is levels at [] d x some read behind = absurd (omega (arith, some))
tagged_is levels at (first ∷ bytes) d x some read behind =
    let descriptor = seen_found levels at bytes d read in
    let inner = constructor_found levels at d.1 x behind in
    let octets = octets_behind first d.0.octets x.0.octets x.1 bytes (descriptor.parts ∙ ap (λ (t : List ℕ). d.0.octets ++ t) inner.0) in
    rw (read, behind) (ap (λ (o : List ℕ). done {A = Constructor × List ℕ} (record { octets = o; tags = suc x.0.tags; code = x.0.code; tag = Some (record { descriptor = d.0.octets; constructor = x.0.octets }) }, x.1)) (sym octets)
    ∙ ap (λ (n : ℕ). done {A = Constructor × List ℕ} (record { octets = in_front (first ∷ bytes) x.1; tags = n; code = x.0.code; tag = Some (record { descriptor = d.0.octets; constructor = x.0.octets }) }, x.1)) (one_more x.0.tags))
