-- What the theorems on our own list speak of: which lists are good by 02, ticket [2], and where another one is bad.
use Prim.Native.Char.{code}
use Rattle.std.specs.Prelude.{ℕ, ◌≤◌, ◌<◌, ◌≡◌, Bool, true, ◌&&◌, ◌||◌, List, [], ◌∷◌, ◌++◌, map, leb, length, take, drop}
use Rattle.base_readers.specs.Lines.{lined}
use Rattle.lexis_rules.specs.declared.Class.TheVariants.{Visible}
use Rattle.lexis_rules.specs.Bytes.{in_class}
use Rattle.punycode_rules.specs.Unicode.{scalar, utf8s}
use Rattle.ownlist_rules.specs.OwnList.{entry_limit, longest}

-- something holds of each of some texts
pub data Each (P : List ℕ → Type 0) : List (List ℕ) → Type 0 where
  nil : Each P []
  cons : {e : List ℕ} {es : List (List ℕ)} → P e → Each P es → Each P (e ∷ es)

-- 01, Block and list: entries of bytes 33 to 126; 02, ticket [2]: List entries may now hold valid UTF-8 from 128 up. A code point that an entry
-- may hold: 33 to 126, or a scalar value from 128 up
unfoldable pub entry_point : ℕ → Bool
entry_point x = in_class Visible x || (leb 128 x && scalar x)

abbrev pub all_entry_points : List ℕ → Bool
all_entry_points [] = true
all_entry_points (x ∷ u) = entry_point x && all_entry_points u

-- 01, What the library is handed: entries of 1 to 255 bytes. The code points of an entry
pub record EntryPoints (u : List ℕ) : Type 0 where
  pub points : all_entry_points u ≡ true
  pub some : 1 ≤ length (utf8s u)
  pub short : length (utf8s u) ≤ longest

-- 01, What the library is handed: 64 list entries; Block and list: each ended by LF. A list of such entries in UTF-8
pub record Utf8Entries (list : List ℕ) : Type 0 where
  pub texts : List (List ℕ)
  pub each : Each EntryPoints texts
  pub few : length texts ≤ entry_limit
  pub is : list ≡ lined (map utf8s texts)

-- 01, Answer numbers: 5: the start of its first bad entry. What stands before this place is good entries; something stands there; and where that
-- begins with a good entry, it is the 65th
pub record BadAt (list : List ℕ) (place : ℕ) : Type 0 where
  pub before : Utf8Entries (take place list)
  pub there : place < length list
  pub bad : (u t : List ℕ) → EntryPoints u → drop place list ≡ utf8s u ++ (code "\n" ∷ t) → length before.texts ≡ entry_limit
