-- 02, ticket [2]: the bytes of a list's entry, and RFC 3629, section 4, byte by byte, computed.
use Prim.Native.Nat.{ℕ}
use mathlib.Core.Path.{◌≡◌, refl}
use mathlib.Core.Bool.{true, false}
use mathlib.Core.List.{[], ◌∷◌, ◌++◌, map}
use lib.Dec.{leb, eqb}
use Rattle.base_readers.specs.Texts.{bytes}
use Rattle.base_readers.proofs.Cases.{copies}
use Rattle.lexis_rules.proofs.ClassExamples.{range, members}
use Rattle.ownlist_rules.specs.Utf8.{lead, tail, second, sequence}
use Rattle.ownlist_rules.specs.OwnList.{visible, entry}
use Rattle.ownlist_rules.proofs.Unfolding.{opened}

-- ==== entries

-- 01, Block and list: bytes 33 to 126, the colon among them
visibles : members (λ b. eqb 1 (visible (b ∷ []))) ≡ range 33 126
unfolding opened
visibles = refl

-- 01, Block and list: entries of bytes 33 to 126
entry_bytes : members (λ b. leb 1 (entry (b ∷ bytes "\n"))) ≡ range 33 126
unfolding opened
entry_bytes = refl

-- each ended by LF
entry_ends : members (λ b. eqb 2 (entry (97 ∷ b ∷ []))) ≡ bytes "\n"
unfolding opened
entry_ends = refl

-- 02, ticket [2]: or valid UTF-8: here the ends of the range of the second byte of a sequence of two
entry_tails : map (λ (b : ℕ). entry (0xC3 ∷ b ∷ bytes "\n")) (0x7F ∷ 0x80 ∷ 0xBF ∷ 0xC0 ∷ []) ≡ 0 ∷ 3 ∷ 3 ∷ 0 ∷ []
unfolding opened
entry_tails = refl

-- ==== sequences

-- how many bytes a sequence has, by its first one: none from 0 to C1, 2 from C2 to DF, 3 from E0 to EF, 4 from F0 to F4, and none above
leads : map lead (range 0 255) ≡ copies 0xC2 0 ++ copies 30 2 ++ copies 16 3 ++ copies 5 4 ++ copies 11 0
unfolding opened
leads = refl

-- UTF8-tail
tails : members tail ≡ range 0x80 0xBF
unfolding opened
tails = refl

-- the second byte, by the first one: four of the first bytes narrow it
narrowed : map (λ (a : ℕ). members (second a)) (0xE0 ∷ 0xED ∷ 0xF0 ∷ 0xF4 ∷ []) ≡ range 0xA0 0xBF ∷ range 0x80 0x9F ∷ range 0x90 0xBF ∷ range 0x80 0x8F ∷ []
unfolding opened
narrowed = refl

-- after every other first byte each tail may stand: at the ends of the ranges between those four
unnarrowed :
    map (λ (a : ℕ). second a 0x7F ∷ second a 0x80 ∷ second a 0xBF ∷ second a 0xC0 ∷ [])
    (0xC2 ∷ 0xDF ∷ 0xE1 ∷ 0xEC ∷ 0xEE ∷ 0xEF ∷ 0xF1 ∷ 0xF3 ∷ [])
    ≡ map (λ (a : ℕ). false ∷ true ∷ true ∷ false ∷ []) (copies 8 0)
unfolding opened
unnarrowed = refl

-- the third and the fourth byte are tails: at the ends of their range
laters :
    map (λ (b : ℕ). sequence (0xE1 ∷ 0x80 ∷ b ∷ []) ∷ sequence (0xF1 ∷ 0x80 ∷ b ∷ 0x80 ∷ []) ∷ sequence (0xF1 ∷ 0x80 ∷ 0x80 ∷ b ∷ []) ∷ [])
    (0x7F ∷ 0x80 ∷ 0xBF ∷ 0xC0 ∷ [])
    ≡ (0 ∷ 0 ∷ 0 ∷ []) ∷ (3 ∷ 4 ∷ 4 ∷ []) ∷ (3 ∷ 4 ∷ 4 ∷ []) ∷ (0 ∷ 0 ∷ 0 ∷ []) ∷ []
unfolding opened
laters = refl
