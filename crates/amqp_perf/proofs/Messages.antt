-- The address of a message, value after value.
use Rattle.std.proofs.Common.{◌≡◌, ◌<◌, ◌-◌, ◌+◌, ℕ, zero, suc, List, [], ◌∷◌, Ok, Err, Bor, Option, Some, None, option_map, length, refl, sym, ap, ◌∙◌, arith}
use Rattle.std.specs.Prelude.{IfSome}
use Rattle.std.specs.Option.{option_copied}
use Rattle.std.proofs.lemmas.List.{length-append}
use Rattle.flow_counts.specs.declared.profile.TheConstants.{MAX_DEPTH}
use Rattle.amqp_types.specs.declared.sequence.Items.{Items}
use Rattle.amqp_types.specs.Part.{Part, Seen}
use Rattle.amqp_types.specs.Reading.{Read, seen_at}
use Rattle.amqp_types.specs.Grammar.{IsValue, IsFront}
use Rattle.amqp_types.proofs.Values.{seen_found}
use Rattle.amqp_types.proofs.Front.{front_read}
use Rattle.amqp_perf.specs.FieldsLeft.{fields_left}
use Rattle.amqp_perf.specs.Message.{section_in, section_read, address_in_properties, address_past, address_within, to_of, IsForPast, IsFor}

-- what the code gives of a section, apart from where it lies in memory
abbrev pub told : Option (Option Items × Bor (List ℕ)) → Option (Option (List Seen) × List ℕ)
told section = option_map (λ x. (option_map fields_left x.0, x.1.now)) section

-- at first as many values as octets may follow
pub begin : (payload : List ℕ) → to_of payload ≡ address_within (length payload - 0) payload
unfolding to_of
begin payload = ap (λ (n : ℕ). address_within n payload) (omega arith)

-- one value, where so many of all that may follow were passed over
next : (all passed : ℕ) (octets : List ℕ) → passed < all → address_within (all - passed) octets ≡ address_past (section_read (seen_at MAX_DEPTH 0 octets)) (address_within (all - (passed + 1)))
unfolding address_within
next all passed octets more =
    let left : all - passed ≡ suc (all - (passed + 1)) = omega (arith, more) in
    rw left refl

-- it is a section that is passed over
pub passes : (all passed : ℕ) (octets rest : List ℕ) (to : Option (List ℕ)) → passed < all → to ≡ address_within (all - passed) octets → section_read (seen_at MAX_DEPTH 0 octets) ≡ Some (None, rest)
    → to ≡ address_within (all - (passed + 1)) rest
passes all passed octets rest to more is read =
    is ∙ next all passed octets more ∙ ap (λ (o : Option (Option (List Seen) × List ℕ)). address_past o (address_within (all - (passed + 1)))) read

-- it is the properties
pub ends : (all passed : ℕ) (octets rest : List ℕ) (properties : List Seen) (to : Option (List ℕ)) → passed < all → to ≡ address_within (all - passed) octets
    → section_read (seen_at MAX_DEPTH 0 octets) ≡ Some (Some properties, rest) → to ≡ address_in_properties properties
ends all passed octets rest properties to more is read =
    is ∙ next all passed octets more ∙ ap (λ (o : Option (Option (List Seen) × List ℕ)). address_past o (address_within (all - (passed + 1)))) read

-- it is none of these
pub stops : (all passed : ℕ) (octets : List ℕ) (to : Option (List ℕ)) → passed < all → to ≡ address_within (all - passed) octets → section_read (seen_at MAX_DEPTH 0 octets) ≡ None → to ≡ None
stops all passed octets to more is read =
    is ∙ next all passed octets more ∙ ap (λ (o : Option (Option (List Seen) × List ℕ)). address_past o (address_within (all - (passed + 1)))) read

-- no more values may follow
pub none_left : (all passed : ℕ) (octets : List ℕ) (to : Option (List ℕ)) → all - passed ≡ 0 → to ≡ address_within (all - passed) octets → to ≡ None
unfolding address_within
none_left all passed octets to none is = is ∙ ap (λ (n : ℕ). address_within n octets) none

-- ---- the sections in front of the properties, however many

-- a section, as what it says is read
read_by : (n : ℕ) (octets : List ℕ) (value : Seen) (rest : List ℕ) (says : Option (Option (List Seen))) → IsFront MAX_DEPTH octets value rest → section_in value.part ≡ says
    → address_within (suc n) octets ≡ address_past (option_map (λ (o : Option (List Seen)). (o, rest)) says) (address_within n)
unfolding address_within
read_by n octets value rest says front is =
    ap (λ (r : Read Seen). address_past (section_read r) (address_within n)) (front_read octets value rest front)
    ∙ ap (λ (s : Option (Option (List Seen))). address_past (option_map (λ (o : Option (List Seen)). (o, rest)) s) (address_within n)) is

-- one value of those in front of which the address stands, given that it is found behind it
found_at : (n : ℕ) (octets to : List ℕ) → ((rest : List ℕ) → address_within n rest ≡ Some to → IsFor rest to) → (value : Seen) (rest : List ℕ) → IsFront MAX_DEPTH octets value rest
    → (says : Option (Option (List Seen))) → section_in value.part ≡ says → address_past (option_map (λ (o : Option (List Seen)). (o, rest)) says) (address_within n) ≡ Some to → IsFor octets to
found_at n octets to behind value rest front None is e = absurd cc
found_at n octets to behind value rest front (Some None) is e =
    let past = behind rest e in
    (suc past.0, (value, rest, front, is, past.1))
found_at n octets to behind value rest front (Some (Some fields)) is e = (0, (value, rest, fields, front, is, e))

found_by : (n : ℕ) (octets to : List ℕ) → ((rest : List ℕ) → address_within n rest ≡ Some to → IsFor rest to) → (read : Read Seen) → seen_at MAX_DEPTH 0 octets ≡ read
    → address_past (section_read read) (address_within n) ≡ Some to → IsFor octets to
found_by n octets to behind (Err fault) is e = absurd cc
found_by n octets to behind (Ok (value, rest)) is e = found_at n octets to behind value rest (seen_found MAX_DEPTH 0 octets (value, rest) is) (section_in value.part) refl e

pub found_in : (n : ℕ) (octets to : List ℕ) → address_within n octets ≡ Some to → IsFor octets to
unfolding address_within
found_in zero octets to e = absurd cc
found_in (suc n) octets to e = found_by n octets to (λ rest. found_in n rest to) (seen_at MAX_DEPTH 0 octets) refl e

-- what is found is what a message is for
pub is_for : (payload : List ℕ) (result : Option (Bor (List ℕ))) → option_copied result ≡ to_of payload → IfSome result (λ to. IsFor payload to.now)
unfolding to_of
is_for payload None e = tt
is_for payload (Some to) e = found_in (length payload) payload to.now (sym e)

-- no value is without octets
value_long : (octets : List ℕ) (part : Part) → IsValue MAX_DEPTH octets part → 0 < length octets
unfolding IsValue
value_long [] part is = absurd is
value_long (b ∷ octets) part is = omega arith

front_long : (octets : List ℕ) (value : Seen) (rest : List ℕ) → IsFront MAX_DEPTH octets value rest → length rest < length octets
front_long octets value rest front = omega (arith, value_long value.octets value.part front.is, ap length front.parts, length-append value.octets rest)

-- so there are fewer sections than octets
fewer : (n : ℕ) (octets to : List ℕ) → IsForPast n octets to → n < length octets
fewer zero octets to is = omega (arith, front_long octets is.0 is.1 is.3)
fewer (suc n) octets to is = omega (arith, front_long octets is.0 is.1 is.2, fewer n is.1 to is.4)

-- an address is found past fewer values than may follow
past_fewer : (n most : ℕ) (octets to : List ℕ) → n < most → IsForPast n octets to → address_within most octets ≡ Some to
past_fewer n zero octets to less is = absurd (omega (arith, less))
past_fewer zero (suc most) octets to less is = read_by most octets is.0 is.1 (Some (Some is.2)) is.3 is.4 ∙ is.5
past_fewer (suc n) (suc most) octets to less is =
    read_by most octets is.0 is.1 (Some None) is.2 is.3 ∙ past_fewer n most is.1 to (omega (arith, less)) is.4

-- what a message is for is found
pub for_it : (payload to : List ℕ) → IsFor payload to → to_of payload ≡ Some to
unfolding to_of
for_it payload to is = past_fewer is.0 (length payload) payload to (fewer is.0 payload to is.1) is.1
