-- What the groups under keys of any type stand for.
use Rattle.std.specs.Prelude.{◌≡◌, ℕ, Bool, ◌&&◌, ◌||◌, not, ◌==◌, List, is_some}
use Rattle.indexmap.specs.IndexMap.{get}
use Rattle.number_groups.specs.Numbers.{is_among, listed}
use Rattle.number_groups.specs.declared.groups.Groups.{Groups}

module _ {K : Type 0} (eq : K → K → Bool) where
  -- the numbers of a key
  abbrev pub numbers : Groups K → K → List ℕ
  numbers table key = listed (get eq table.entries key)

  abbrev pub is_member : Groups K → K → ℕ → Bool
  is_member table key n = is_among (numbers table key) n

  -- something is kept under the key
  abbrev pub is_kept : Groups K → K → Bool
  is_kept table key = is_some (get eq table.entries key)

  -- two tables say the same
  abbrev pub AreSame : Groups K → Groups K → Type 0
  AreSame earlier later = (key : K) → numbers later key ≡ numbers earlier key

  -- the number has come into the group of the key
  abbrev pub Joined : K → ℕ → Groups K → Groups K → Type 0
  Joined key number earlier later = (at : K) (n : ℕ) → is_member later at n ≡ (eq key at && (number == n) || is_member earlier at n)

  -- it has left it
  abbrev pub Left : K → ℕ → Groups K → Groups K → Type 0
  Left key number earlier later = (at : K) (n : ℕ) → is_member later at n ≡ (is_member earlier at n && not (eq key at && (number == n)))
