-- What becomes of the text of a first pass.
use Rattle.std.specs.Prelude.{ℕ, true, false, List, ltb, take}
use Rattle.std.proofs.lemmas.List.Edits.{sets}
use Rattle.text_first_pass.specs.declared.Copy.{Copy}
use Rattle.text_first_pass.specs.declared.Copy.TheVariants.{Short, Again, Done}

-- by the room of the first buffer, the length of the text and the room of the lent buffer, which is asked first
unfoldable pub copy_of : ℕ → ℕ → ℕ → Copy
copy_of first size room = elim (ltb room size) [ true ↦ Short | false ↦ (elim (ltb first size) [ true ↦ Again | false ↦ Done ]) ]

-- the lent buffer: the text over its front where it was copied, and else as it was
unfoldable pub copy_leaves : Copy → List ℕ → ℕ → List ℕ → List ℕ
copy_leaves Short first size old = old
copy_leaves Again first size old = old
copy_leaves Done first size old = sets old 0 (take size first)
