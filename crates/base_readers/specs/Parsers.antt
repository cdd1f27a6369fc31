-- Parsers. A parser gives a value and how many bytes of the front of a list it takes, or nothing.
use Rattle.std.specs.Prelude.{ℕ, zero, suc, ◌+◌, Bool, true, false, List, [], ◌∷◌, eqb, drop, take}
use Rattle.std.proofs.Math.Option.{Option, none, some}
use Rattle.base_readers.specs.Texts.{follows}
use Rattle.base_readers.specs.Readers.{Reader}

pub data Got (A : Type 0) : Type 0 where
  nothing : Got A
  got : A → ℕ → Got A

abbrev pub Parser : Type 0 → Type 0
Parser A = List ℕ → Got A

-- what was got n bytes further on
unfoldable pub after : {A : Type 0} → ℕ → Got A → Got A
after n nothing = nothing
after n (got a m) = got a (n + m)

-- one after the other
unfoldable pub ◌>>=◌ : {A B : Type 0} → Parser A → (A → Parser B) → Parser B
◌>>=◌ p f xs = elim (p xs) [ nothing ↦ nothing | got a n ↦ after n (f a (drop n xs)) ]

abbrev pub ◌>>◌ : {A B : Type 0} → Parser A → Parser B → Parser B
◌>>◌ p q = ◌>>=◌ p (λ a. q)

-- nothing is taken, and the value is a
unfoldable pub give : {A : Type 0} → A → Parser A
give a xs = got a 0

-- nothing is taken, and the test is passed
unfoldable pub when : Bool → Parser Unit
when t xs = elim t [ true ↦ got tt 0 | false ↦ nothing ]

-- nothing is taken, and the end or a byte of the class comes next
unfoldable pub ahead : (ℕ → Bool) → Parser Unit
ahead c xs = when (follows c xs) xs

unfoldable pub end : Parser Unit
end [] = got tt 0
end (x ∷ xs) = nothing

unfoldable pub byte : ℕ → Parser Unit
byte c [] = nothing
byte c (x ∷ xs) = elim (eqb x c) [ true ↦ got tt 1 | false ↦ nothing ]

-- what a reader takes, which may be nothing
unfoldable pub taken : Reader → Parser (List ℕ)
taken f xs = got (take (f xs) xs) (f xs)

-- the same without its text
unfoldable pub skipping : Reader → Parser Unit
skipping f xs = got tt (f xs)

-- what a reader takes, never empty
unfoldable pub text : Reader → Parser (List ℕ)
text f xs = elim (f xs) [ zero ↦ nothing | suc n ↦ got (take (suc n) xs) (suc n) ]

-- the same without its text
unfoldable pub pass : Reader → Parser Unit
pass f xs = elim (f xs) [ zero ↦ nothing | suc n ↦ got tt (suc n) ]

-- p, or else q
unfoldable pub either : {A : Type 0} → Parser A → Parser A → Parser A
either p q xs = elim (p xs) [ nothing ↦ q xs | got a n ↦ got a n ]

-- p where the test holds, else q
unfoldable pub branch : {A : Type 0} → (List ℕ → Bool) → Parser A → Parser A → Parser A
branch t p q xs = elim (t xs) [ true ↦ p xs | false ↦ q xs ]

-- p, or nothing at all
unfoldable pub optional : {A : Type 0} → Parser A → Parser (Option A)
optional p xs = elim (p xs) [ nothing ↦ got none 0 | got a n ↦ got (some a) n ]

-- a value in front of the others
unfoldable pub cons : {A : Type 0} → A → Got (List A) → Got (List A)
cons a nothing = nothing
cons a (got l n) = got (a ∷ l) n

-- p over and over, as long as it takes something; k bytes of the list belong to what was taken last
unfoldable pub several : {A : Type 0} → Parser A → ℕ → Parser (List A)
several p k [] = got [] k
several p (suc k) (x ∷ xs) = after 1 (several p k xs)
several p zero (x ∷ xs) =
    elim (p (x ∷ xs)) [
      | nothing ↦ got [] 0
      | got a n ↦ elim n [ zero ↦ got [] 0 | suc m ↦ after 1 (cons a (several p m xs)) ]
    ]
