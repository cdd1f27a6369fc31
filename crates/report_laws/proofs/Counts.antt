-- How many results of a body can be ignored: each takes a byte at least.
use Prim.Native.Nat.{ℕ, ◌+◌, ◌*◌, ◌≤◌}
use native.Mathlib.Omega.{arith}
use mathlib.Core.Path.{◌≡◌, refl}
use mathlib.Core.Bool.{Bool, true, false}
use mathlib.Core.List.{List, ◌∷◌}
use lib.ListN.{length, drop, length-drop}
use Rattle.base_readers.specs.Texts.{follows}
use Rattle.base_readers.specs.Parsers.{Got, nothing, got, several}
use Rattle.base_readers.proofs.Bounds.{end-within}
use Rattle.lexis_rules.specs.declared.Class.TheVariants.{Delimiter}
use Rattle.lexis_rules.specs.Bytes.{in_class}
use Rattle.lexis_rules.specs.Numbers.{number_of, is_one}
use Rattle.result_rules.specs.Results.{Result}
use Rattle.result_rules.specs.Table.{understood}
use Rattle.report_rules.specs.Body.{Head, head, resinfo, resinfos, payload, headed, reading}
use Rattle.report_rules.specs.Report.{ignored_of}
use Rattle.report_rules.specs.ByCase.{count_of}
use Rattle.report_laws.proofs.Readings.{Payload, neither, word, some, payload-cases}
use Rattle.report_laws.proofs.Sequence.{resinfo-within}
use Rattle.report_laws.proofs.Sizes.{resinfos-within}
use Rattle.report_laws.proofs.Weights.{Sized, bind-sized, give-sized, several-sized, within-sized, skip-sized}

ignored-more : (r : Result) (rs : List Result) → ignored_of (r ∷ rs) ≤ 3 + ignored_of rs
unfolding ignored_of
ignored-more r rs = go (understood r) refl
  where
    go : (t : Bool) → understood r ≡ t → ignored_of (r ∷ rs) ≤ 3 + ignored_of rs
    go true e = rw (ignored_of, e) (omega arith)
    go false e = rw (ignored_of, e) (omega arith)

ignored-sized : Sized ignored_of 0 (several resinfo 0)
ignored-sized = several-sized ignored_of (unfold ignored_of in refl) ignored-more (within-sized 1 resinfo-within)

resinfos-ignored : Sized ignored_of 0 resinfos
unfolding resinfos
resinfos-ignored =
    bind-sized ignored-sized
    (λ rs. bind-sized skip-sized (λ u. bind-sized (within-sized 0 end-within) (λ u. give-sized rs (omega arith))))

payload-count : (i xs : List ℕ) → count_of (payload i xs) ≤ 3 * length xs
payload-count i xs = go (payload-cases i xs)
  where
    go : Payload i xs → count_of (payload i xs) ≤ 3 * length xs
    go (neither e) = rw e (omega arith)
    go (word n h e) = rw e (omega arith)
    go (some rs n h e) = rw e (omega (arith, resinfos-ignored.bound xs rs n h, (resinfos-within xs rs n h).0))

headed-count : (h : Head) (xs : List ℕ) → count_of (headed h xs) ≤ 3 * length xs
unfolding headed
headed-count h xs = go (follows (in_class Delimiter) xs) (is_one (number_of h.version)) refl refl
  where
    go : (f v : Bool) → follows (in_class Delimiter) xs ≡ f → is_one (number_of h.version) ≡ v → count_of (headed h xs) ≤ 3 * length xs
    go false v d e = rw (headed, d) (omega arith)
    go true true d e = rw (headed, d, e) (payload-count h.identifier xs)
    go true false d e = rw (headed, d, e) (omega arith)

-- a body counts at most three for each of its bytes
pub count-size : (body : List ℕ) → count_of (reading body) ≤ 3 * length body
unfolding reading
count-size body = go (head body) refl
  where
    go : (g : Got Head) → head body ≡ g → count_of (reading body) ≤ 3 * length body
    go nothing e = rw (reading, e) (omega arith)
    go (got h n) e = rw (reading, e) (omega (arith, headed-count h (drop n body), length-drop n body))
