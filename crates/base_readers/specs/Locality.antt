-- What hangs on what: bounds, and how far what follows can change what is read.
use Rattle.std.specs.Prelude.{ℕ, suc, ◌≤◌, ◌≡◌, Bool, true, List, ◌++◌, length, drop, get_or}
use Rattle.base_readers.specs.Texts.{starts, follows}
use Rattle.base_readers.specs.Readers.{Reader}
use Rattle.base_readers.specs.Parsers.{got, Parser}

-- ==== bounds

-- a reader takes no more than there is
abbrev pub Fits : Reader → Type 0
Fits f = (xs : List ℕ) → f xs ≤ length xs

-- a parser takes no more than there is, and k bytes at least
abbrev pub Within : {A : Type 0} → ℕ → Parser A → Type 0
Within {A} k p = (xs : List ℕ) (a : A) (n : ℕ) → p xs ≡ got a n → (n ≤ length xs) × (k ≤ n)

-- ==== conditions on what comes next

abbrev pub Any : List ℕ → Type 0
Any t = Unit

-- a reader takes nothing there
abbrev pub Ends : Reader → List ℕ → Type 0
Ends f t = f t ≡ 0

-- a byte of the class
abbrev pub Starts : (ℕ → Bool) → List ℕ → Type 0
Starts c t = starts c t ≡ true

-- the end, or a byte of the class
abbrev pub Follows : (ℕ → Bool) → List ℕ → Type 0
Follows c t = follows c t ≡ true

-- ==== locality

-- what a reader takes of p, where it takes something, it takes whatever follows p, as long as F holds of what then comes next.
-- (Taking nothing is never local: one byte more may complete what failed.)
abbrev pub Local : Reader → (List ℕ → Type 0) → Type 0
Local f F = (p x y : List ℕ) (n : ℕ) → f (p ++ x) ≡ suc n → suc n ≤ length p → F (drop (suc n) p ++ y) → f (p ++ y) ≡ suc n

-- F holds of what comes next wherever a reader has taken something: it is the weakest condition under which the reader can be local
abbrev pub Leaves : Reader → (List ℕ → Type 0) → Type 0
Leaves f F = (xs : List ℕ) (n : ℕ) → f xs ≡ suc n → F (drop (suc n) xs)

-- what a parser reads inside w it reads, with the same value, whatever follows w, as long as F holds of what then comes next
abbrev pub Steady : {A : Type 0} → Parser A → (List ℕ → Type 0) → Type 0
Steady {A} p F = (w x y : List ℕ) (a : A) (n : ℕ) → p (w ++ x) ≡ got a n → n ≤ length w → F (drop n w ++ y) → p (w ++ y) ≡ got a n

-- a parser succeeds only where S holds
abbrev pub Opens : {A : Type 0} → Parser A → (List ℕ → Type 0) → Type 0
Opens {A} p S = (xs : List ℕ) (a : A) (n : ℕ) → p xs ≡ got a n → S xs

-- a reader takes nothing at the byte z
abbrev pub Shut : Reader → ℕ → Type 0
Shut f z = (xs : List ℕ) → get_or xs 0 0 ≡ z → f xs ≡ 0
