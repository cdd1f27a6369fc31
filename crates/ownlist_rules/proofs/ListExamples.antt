-- The entries of our own list at worked examples, computed.
use Prim.Native.Nat.{ℕ, zero, suc}
use mathlib.Core.Path.{◌≡◌, refl}
use mathlib.Core.List.{List, [], ◌∷◌, ◌++◌, map}
use lib.ListN.{length}
use Rattle.base_readers.specs.Texts.{bytes, within, one_of}
use Rattle.base_readers.specs.Readers.{run, many}
use Rattle.base_readers.specs.Walks.{item, refused, Walked, walk}
use Rattle.base_readers.proofs.Cases.{case, Says, copies}
use Rattle.lexis_rules.specs.Bytes.{in_class}
use Rattle.ownlist_rules.specs.Utf8.{lead, second, further, sequence}
use Rattle.ownlist_rules.specs.OwnList.{entry_limit, longest, entry_item, entry, entry_at, own_list}

-- every definition opened at once
unfoldable opened : Unit {0}
unfolding within one_of run many walk in_class lead second further sequence entry_item entry entry_at
opened = tt

-- 01, Block and list: the list may be empty; 5: an empty entry, another byte, an entry without LF. The place is the entry's start
abbrev listed : ℕ → ℕ → List (List ℕ) → Walked (List ℕ)
listed n p l = record { items = l; number = n; place = p }

lists :
    Says own_list
    (case [] (listed 0 0 [])
    ∷ case (bytes "a\nb.c\n") (listed 0 0 (bytes "a" ∷ bytes "b.c" ∷ []))
    ∷ case (bytes "a\na\n") (listed 0 0 (bytes "a" ∷ bytes "a" ∷ []))
    ∷ case (bytes "\n") (listed 5 0 [])
    ∷ case (bytes "a\n\n") (listed 5 2 (bytes "a" ∷ []))
    ∷ case (bytes "a\nb") (listed 5 2 (bytes "a" ∷ []))
    ∷ case (bytes "a\r\n") (listed 5 0 [])
    ∷ case (bytes "a b\n") (listed 5 0 [])
    ∷ case (bytes "ab\nc\nd e\nf\n") (listed 5 5 (bytes "ab" ∷ bytes "c" ∷ []))
    ∷ case (bytes "a") (listed 5 0 [])
    ∷ [])
unfolding opened
lists = refl

-- 02, ticket [2]: valid UTF-8 from 128 up. The first and the last sequence of each form of RFC 3629, section 4, and those next to them
sequences :
    map sequence
    ((0xC2 ∷ 0x80 ∷ [])
    ∷ (0xDF ∷ 0xBF ∷ [])
    ∷ (0xE0 ∷ 0xA0 ∷ 0x80 ∷ [])
    ∷ (0xEC ∷ 0xBF ∷ 0xBF ∷ [])
    ∷ (0xED ∷ 0x9F ∷ 0xBF ∷ [])
    ∷ (0xEE ∷ 0x80 ∷ 0x80 ∷ [])
    ∷ (0xEF ∷ 0xBF ∷ 0xBF ∷ [])
    ∷ (0xF0 ∷ 0x90 ∷ 0x80 ∷ 0x80 ∷ [])
    ∷ (0xF3 ∷ 0xBF ∷ 0xBF ∷ 0xBF ∷ [])
    ∷ (0xF4 ∷ 0x8F ∷ 0xBF ∷ 0xBF ∷ [])
    ∷ [])
    ≡ 2 ∷ 2 ∷ 3 ∷ 3 ∷ 3 ∷ 3 ∷ 3 ∷ 4 ∷ 4 ∷ 4 ∷ []
unfolding opened
sequences = refl

-- a bare tail, forms with more bytes than are needed, surrogates, above 10FFFF, and sequences that lack a tail
no-sequences :
    map sequence
    ((0x80 ∷ 0x80 ∷ [])
    ∷ (0xBF ∷ [])
    ∷ (0xC0 ∷ 0x80 ∷ [])
    ∷ (0xC1 ∷ 0xBF ∷ [])
    ∷ (0xE0 ∷ 0x9F ∷ 0xBF ∷ [])
    ∷ (0xED ∷ 0xA0 ∷ 0x80 ∷ [])
    ∷ (0xED ∷ 0xBF ∷ 0xBF ∷ [])
    ∷ (0xF0 ∷ 0x8F ∷ 0xBF ∷ 0xBF ∷ [])
    ∷ (0xF4 ∷ 0x90 ∷ 0x80 ∷ 0x80 ∷ [])
    ∷ (0xF5 ∷ 0x80 ∷ 0x80 ∷ 0x80 ∷ [])
    ∷ (0xFF ∷ [])
    ∷ (0xC3 ∷ [])
    ∷ (0xC3 ∷ 0xC3 ∷ [])
    ∷ (0xE1 ∷ 0x80 ∷ [])
    ∷ (0xE1 ∷ 0x80 ∷ 0xC0 ∷ [])
    ∷ (0xF1 ∷ 0x80 ∷ 0x80 ∷ [])
    ∷ (0xF1 ∷ 0x80 ∷ 0x80 ∷ 0x7F ∷ [])
    ∷ [])
    ≡ copies 17 0
unfolding opened
no-sequences = refl

abbrev umlaut : List ℕ
umlaut = bytes "b" ++ (0xC3 ∷ 0xBC ∷ bytes "cher.example")

-- a sequence before and behind visible bytes; a bad one makes the whole entry bad
international :
    Says own_list
    (case (umlaut ++ bytes "\n") (listed 0 0 (umlaut ∷ []))
    ∷ case (bytes "a\n" ++ umlaut ++ bytes ".b" ++ umlaut ++ bytes "\n") (listed 0 0 (bytes "a" ∷ (umlaut ++ bytes ".b" ++ umlaut) ∷ []))
    ∷ case (bytes "a\nb" ++ (0xFC ∷ bytes "cher\n")) (listed 5 2 (bytes "a" ∷ []))
    ∷ case (bytes "a" ++ (0xC3 ∷ bytes "\n")) (listed 5 0 [])
    ∷ [])
unfolding opened
international = refl

-- 01, What the library is handed: 64 list entries of 1 to 255 bytes
limits : entry_limit ∷ longest ∷ [] ≡ 64 ∷ 255 ∷ []
limits = refl

-- an entry has 1 to 255 bytes; a sequence counts by its bytes
lengths : map (λ (n : ℕ). entry (copies n 97 ++ bytes "\n")) (0 ∷ 1 ∷ 255 ∷ 256 ∷ []) ≡ 0 ∷ 2 ∷ 256 ∷ 0 ∷ []
unfolding opened
lengths = refl

-- n times the two bytes of one sequence
abbrev twos : ℕ → List ℕ
twos zero = []
twos (suc n) = 0xC3 ∷ 0xBC ∷ twos n

wide_lengths : map (λ (n : ℕ). entry (twos n ++ bytes "a\n")) (127 ∷ 128 ∷ []) ≡ 256 ∷ 0 ∷ []
unfolding opened
wide_lengths = refl

-- the 65th, at the place 9, is bad; the 64th, and one before it, are not. A bad one is bad wherever it stands

entries : map (λ (n : ℕ). entry_at 9 n (bytes "a\n")) (0 ∷ 63 ∷ 64 ∷ 65 ∷ []) ≡ item (bytes "a") 2 ∷ item (bytes "a") 2 ∷ refused 5 9 ∷ refused 5 9 ∷ []
unfolding opened
entries = refl

bad_entries : map (λ (n : ℕ). entry_at 9 n (bytes " a\n")) (0 ∷ 63 ∷ 64 ∷ []) ≡ refused 5 9 ∷ refused 5 9 ∷ refused 5 9 ∷ []
unfolding opened
bad_entries = refl

-- a whole list of 64 entries, and one of 65
abbrev ones : ℕ → List ℕ
ones zero = []
ones (suc n) = 97 ∷ 10 ∷ ones n

whole_lists :
    map (λ (n : ℕ). (own_list (ones n)).number ∷ (own_list (ones n)).place ∷ length (own_list (ones n)).items ∷ []) (64 ∷ 65 ∷ [])
    ≡ (0 ∷ 0 ∷ 64 ∷ []) ∷ (5 ∷ 128 ∷ 64 ∷ []) ∷ []
unfolding opened
whole_lists = refl
