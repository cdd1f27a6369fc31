-- Document 01, "How strong the contracts have to be": where a result is put before or after another one.
use Rattle.std.specs.Prelude.{ℕ, ◌+◌, List, [], ◌∷◌, ◌++◌, take, drop}
use Rattle.base_readers.specs.Parsers.{nothing, got, Parser, ◌>>=◌, give, several}
use Rattle.lexis_rules.specs.Pieces.{space}
use Rattle.lexis_rules.specs.Words.{skip}
use Rattle.result_rules.specs.Results.{result}
use Rattle.report_rules.specs.Body.{head}

-- how many bytes p takes
unfoldable pub sized : {A : Type 0} → Parser A → Parser ℕ
sized p xs = elim (p xs) [ nothing ↦ nothing | got a n ↦ got n n ]

-- the sizes of a result and of the space before it
pub record Extent : Type 0 where
  pub before : ℕ
  pub size : ℕ

unfoldable pub extent : Parser Extent
extent = do
  s ← sized skip
  r ← sized result
  give (record { before = s; size = r })

-- of each result of a body, where the part before the first ends at n: the far side of the space before it, its start, its end, and the
-- far side of the space behind it
unfoldable pub places_around : List ℕ → ℕ → List Extent → List ℕ
places_around body n [] = []
places_around body n (z ∷ zs) = let e = n + (z.before + z.size) in n ∷ (n + z.before) ∷ e ∷ (e + space (drop e body)) ∷ places_around body e zs

-- one put before or after it touches it, or stands on the far side of the space next to it
unfoldable pub insertion_places : List ℕ → List ℕ
insertion_places body =
    elim (head body) [
      | nothing ↦ []
      | got h n ↦ (elim (several extent 0 (drop n body)) [ nothing ↦ [] | got zs k ↦ places_around body n zs ])
    ]

-- w put into a body at the place k
unfoldable pub insert_at : ℕ → List ℕ → List ℕ → List ℕ
insert_at k w body = take k body ++ (w ++ drop k body)
