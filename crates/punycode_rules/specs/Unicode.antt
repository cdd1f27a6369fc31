-- RFC 3629: UTF-8.
use Rattle.std.specs.Prelude.{ℕ, ◌+◌, ◌/◌, ◌%◌, Bool, true, false, ◌&&◌, ◌||◌, List, [], ◌∷◌, ◌++◌, ltb}
use Rattle.base_readers.specs.Texts.{within}

-- section 3: the numbers that UTF-8 encodes: up to 10FFFF hex, the surrogates D800 to DFFF left out
unfoldable pub scalar : ℕ → Bool
scalar x = ltb x 0xD800 || within 0xE000 0x10FFFF x

unfoldable pub scalars : List ℕ → Bool
scalars [] = true
scalars (x ∷ xs) = scalar x && scalars xs

-- section 3: one to four bytes
unfoldable pub utf8 : ℕ → List ℕ
utf8 x =
    elim (ltb x 0x80) [
      | true ↦ x ∷ []
      | false ↦ (elim (ltb x 0x800) [
        | true ↦ (0xC0 + x / 64) ∷ (0x80 + x % 64) ∷ []
        | false ↦ (elim (ltb x 0x10000) [
          | true ↦ (0xE0 + x / 4096) ∷ (0x80 + x / 64 % 64) ∷ (0x80 + x % 64) ∷ []
          | false ↦ (0xF0 + x / 262144) ∷ (0x80 + x / 4096 % 64) ∷ (0x80 + x / 64 % 64) ∷ (0x80 + x % 64) ∷ []
        ])
      ])
    ]

unfoldable pub utf8s : List ℕ → List ℕ
utf8s [] = []
utf8s (x ∷ xs) = utf8 x ++ utf8s xs
