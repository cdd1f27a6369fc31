-- The definitions at worked examples, computed.
use mathlib.Core.Path.{refl}
use mathlib.Core.List.{[], ◌∷◌}
use Rattle.base_readers.specs.Texts.{bytes}
use Rattle.base_readers.proofs.Cases.{case, Says, copies}
use Rattle.sample_sums.specs.Sums.{sums, adler, changed}

-- the sums of nothing, of one byte, of "Wikipedia", and of so many bytes that both halves pass 65521
sum : Says adler (case [] 1 ∷ case (bytes "a") 6422626 ∷ case (bytes "Wikipedia") 300286872 ∷ case (copies 300 255) 3104778980 ∷ [])
unfolding sums
sum = refl

count : Says changed (case [] 0 ∷ case (170 ∷ 171 ∷ 170 ∷ 0 ∷ []) 2 ∷ case (copies 20 170) 0 ∷ case (copies 20 169) 20 ∷ [])
unfolding changed
count = refl
