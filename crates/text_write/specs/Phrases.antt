-- One of several phrases that stand in one text, with a bar between each and the next.
use Prim.Native.Char.{code}
use Rattle.std.specs.Prelude.{ℕ, zero, suc, ◌+◌, Bool, cond, not, List, eqb, ltb, length, take, drop}
use Rattle.base_readers.specs.Readers.{run}

-- any byte but a bar
abbrev pub in_phrase : ℕ → Bool
in_phrase x = not (eqb x (code "|"))

-- where the phrase with this number starts, from 0 on; where there are not so many bars, the last one
unfoldable pub start : ℕ → List ℕ → ℕ
start zero l = 0
start (suc n) l = cond (ltb (run in_phrase l) (length l)) (suc (run in_phrase l) + start n (drop (suc (run in_phrase l)) l)) 0

-- a phrase goes on to the next bar, or to the end
unfoldable pub phrase : ℕ → List ℕ → List ℕ
phrase n l = take (run in_phrase (drop (start n l) l)) (drop (start n l) l)
