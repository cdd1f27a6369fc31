-- 02, ticket [2]: RFC 3629, section 4, at every byte behind the first, computed.
use mathlib.Core.Path.{◌≡◌, refl}
use mathlib.Core.List.{[], ◌∷◌}
use lib.Dec.{leb, eqb}
use Rattle.base_readers.specs.Texts.{bytes}
use Rattle.lexis_rules.proofs.ClassExamples.{range, members}
use Rattle.ownlist_rules.specs.Utf8.{sequence}
use Rattle.ownlist_rules.specs.OwnList.{entry}
use Rattle.ownlist_rules.proofs.Unfolding.{opened}

-- the second byte of a sequence of two, in an entry
entry_tails : members (λ b. leb 1 (entry (0xC3 ∷ b ∷ bytes "\n"))) ≡ range 0x80 0xBF
unfolding opened
entry_tails = refl

-- the third and the fourth byte are tails
thirds : members (λ b. eqb 3 (sequence (0xE1 ∷ 0x80 ∷ b ∷ []))) ≡ range 0x80 0xBF
unfolding opened
thirds = refl

fourths : members (λ b. eqb 4 (sequence (0xF1 ∷ 0x80 ∷ 0x80 ∷ b ∷ []))) ≡ range 0x80 0xBF
unfolding opened
fourths = refl

four_thirds : members (λ b. eqb 4 (sequence (0xF1 ∷ 0x80 ∷ b ∷ 0x80 ∷ []))) ≡ range 0x80 0xBF
unfolding opened
four_thirds = refl
