-- Numbers in decimal digits at worked examples, by computing them.
use Prim.Native.Nat.{ℕ}
use mathlib.Core.Path.{◌≡◌, refl}
use mathlib.Core.List.{[], ◌∷◌, map}
use Rattle.base_readers.specs.Texts.{bytes}
use Rattle.base_readers.proofs.Cases.{case, Says}
use Rattle.text_decimals_rules.specs.Decimals.{digits, decimal, told}

-- 0, the last of one digit and the first of two, of two and of three; zeros behind and inside; the largest number that the command has
decimals :
    map decimal (0 ∷ 9 ∷ 10 ∷ 99 ∷ 100 ∷ 1000 ∷ 60506 ∷ 18446744073709551615 ∷ [])
    ≡ bytes "0" ∷ bytes "9" ∷ bytes "10" ∷ bytes "99" ∷ bytes "100" ∷ bytes "1000" ∷ bytes "60506" ∷ bytes "18446744073709551615" ∷ []
unfolding decimal digits
decimals = refl

-- where fewer digits may stand behind the first than there are, the first is what is left of the number
digits-cut : map (λ (k : ℕ). digits k 123) (0 ∷ 1 ∷ 2 ∷ 3 ∷ []) ≡ (171 ∷ []) ∷ (60 ∷ bytes "3") ∷ bytes "123" ∷ bytes "123" ∷ []
unfolding digits
digits-cut = refl

told_back : Says (told 0) (case [] 0 ∷ case (bytes "0") 0 ∷ case (bytes "00120") 120 ∷ case (bytes "18446744073709551615") 18446744073709551615 ∷ [])
unfolding told
told_back = refl
