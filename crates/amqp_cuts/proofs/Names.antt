-- Octets that are a name, or not.
use Rattle.std.proofs.Common.{◌≡◌, ◌≢◌, sym, ap, ◌∙◌, ℕ, ◌+◌, ◌-◌, ◌≤◌, ◌<◌, true, false, List, length, take, drop, get_or, arith}
use Rattle.std.specs.Prelude.{slice_index}
use Rattle.std.specs.Str.{bytes_eq}
use Rattle.std.proofs.lemmas.List.{take_all, get_or-take, get_or-drop}
use Rattle.std.proofs.lemmas.Slice.Eq.{bytes_eq-Decides}
use Rattle.amqp_cuts.proofs.Tests.{refused}
use Rattle.amqp_cuts.specs.Offsets.{window}

-- all octets of a name were found
pub same_name : (octets name : List ℕ) (at to i : ℕ) → to - at ≡ length name → at ≤ to → i ≡ length name → take i name ≡ window octets at (at + i) → true ≡ bytes_eq (window octets at to) name
same_name octets name at to i len order all same =
    let end : at + i ≡ to = omega (arith, len, order, all) in
    let whole : window octets at to ≡ name = sym (sym (take_all i name (omega (arith, all))) ∙ same ∙ ap (window octets at) end) in
    sym ((bytes_eq-Decides (window octets at to) name).1 whole)

-- an octet of it is another
pub other_name : (octets name : List ℕ) (at to i : ℕ) → to - at ≡ length name → i < length name → slice_index octets (at + i) ≢ get_or name i 0 → false ≡ bytes_eq (window octets at to) name
other_name octets name at to i len lt differs =
    sym (refused (bytes_eq (window octets at to) name) (λ t.
    let whole : window octets at to ≡ name = (bytes_eq-Decides (window octets at to) name).0 t in
    let there : get_or (window octets at to) i 0 ≡ slice_index octets (at + i) = get_or-take (to - at) (drop at octets) i 0 (omega (arith, len, lt)) ∙ get_or-drop at octets i 0 in
    differs (sym there ∙ ap (λ (l : List ℕ). get_or l i 0) whole)))
