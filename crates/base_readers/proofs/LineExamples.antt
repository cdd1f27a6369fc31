-- Lines at worked examples, computed.
use mathlib.Core.Path.{◌≡◌, refl}
use mathlib.Core.List.{[], ◌∷◌, map}
use Rattle.base_readers.specs.Texts.{bytes}
use Rattle.base_readers.specs.Readers.{run}
use Rattle.base_readers.specs.Lines.{lined, lines_of, feedless, until_feed}
use Rattle.base_readers.proofs.Cases.{case, Says}

-- texts, each ended by LF
lines : map lined ([] ∷ (bytes "a" ∷ []) ∷ (bytes "a" ∷ [] ∷ bytes "b" ∷ []) ∷ []) ≡ [] ∷ bytes "a\n" ∷ bytes "a\n\nb\n" ∷ []
unfolding lined
lines = refl

-- the lines of any bytes
lines_ofs :
    Says lines_of
    (case [] []
    ∷ case (bytes "a\nbc\n") (bytes "a" ∷ bytes "bc" ∷ [])
    ∷ case (bytes "a\nbc") (bytes "a" ∷ bytes "bc" ∷ [])
    ∷ case (bytes "\n\na") ([] ∷ [] ∷ bytes "a" ∷ [])
    ∷ case (bytes "a\r\n") (bytes "a\r" ∷ [])
    ∷ [])
unfolding lines_of
lines_ofs = refl

-- what stands before the next LF, or the end
until_feeds : Says until_feed (case [] 0 ∷ case (bytes "\na") 0 ∷ case (bytes "a\rb\nc") 3 ∷ case (bytes "ab") 2 ∷ [])
unfolding run feedless
until_feeds = refl
