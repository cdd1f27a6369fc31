-- The results of a body one by one: `Reads` says that a list holds these results and then, after space, the end, and it is what the
-- grammar's `resinfos` reads, by induction on the results.
use Prim.Native.Char.{code}
use Prim.Native.Nat.{ℕ, ◌+◌}
use native.Mathlib.Omega.{arith}
use mathlib.Core.Path.{◌≡◌, refl, sym, ap, ◌∙◌, subst}
use mathlib.Core.List.{List, [], ◌∷◌}
use lib.Dec.{eqb}
use lib.ListN.{drop}
use lib.Seq.{drop-nil, drop-drop}
use Rattle.base_readers.specs.Texts.{starts, follows}
use Rattle.base_readers.specs.Parsers.{nothing, got, Parser, ◌>>◌, give, end, several}
use Rattle.base_readers.specs.Locality.{Within, Ends, Starts, Steady, Opens}
use Rattle.base_readers.proofs.Texts.{starts-follows}
use Rattle.base_readers.proofs.Sequencing.{no-got, bind-stuck, bind-got, bind_inv, give-is, give-inv, end_is, end-inv, skipping-is, skipping-inv}
use Rattle.base_readers.proofs.Bounds.{bind-within₂}
use Rattle.base_readers.proofs.Openings.{opens-weaker}
use Rattle.base_readers.proofs.Steadiness.{then-steady}
use Rattle.base_readers.proofs.Repeats.{several-none, several-again, Turn, stop, turn, several-inv}
use Rattle.lexis_rules.specs.Pieces.{space}
use Rattle.lexis_rules.specs.Words.{skip}
use Rattle.lexis_laws.proofs.Steadiness.{skip-within, skip-steady}
use Rattle.result_rules.specs.Results.{Result, result}
use Rattle.result_laws.proofs.Following.{Closed, solid, shut_out}
use Rattle.result_laws.proofs.Results.{result-within, result-opens, result-steady}
use Rattle.report_rules.specs.Body.{resinfo, resinfos}

-- ==== one result, with the space before it

pub semicolon-solid : (xs : List ℕ) → Starts (λ b. eqb b (code ";")) xs → Ends space xs
semicolon-solid = solid (λ b. eqb b 59) refl

pub result-solid : Opens result (Ends space)
result-solid = opens-weaker result (Starts (λ b. eqb b 59)) (Ends space) semicolon-solid result-opens

pub resinfo-within : Within 1 resinfo
unfolding resinfo
resinfo-within = bind-within₂ 1 skip (λ u. result) skip-within (λ u. result-within)

pub resinfo-steady : Steady resinfo Closed
unfolding resinfo
resinfo-steady = then-steady skip (λ u. result) (Ends space) Closed skip-steady (λ u. result-steady) (λ u. result-solid)

pub resinfo-is : (xs : List ℕ) (a : Result) (s n : ℕ) → space xs ≡ s → result (drop s xs) ≡ got a n → resinfo xs ≡ got a (s + n)
unfolding resinfo
resinfo-is xs a s n z e = bind-got skip (λ u. result) xs tt s a n (skipping-is space xs s z) e

pub resinfo-not : (xs : List ℕ) (s : ℕ) → space xs ≡ s → result (drop s xs) ≡ nothing → resinfo xs ≡ nothing
unfolding resinfo
resinfo-not xs s z e = bind-stuck skip (λ u. result) xs tt s (skipping-is space xs s z) e

-- the space, and the result behind it
pub record Spaced (xs : List ℕ) (a : Result) (n : ℕ) : Type 0 where
  pub size : ℕ
  pub reads : result (drop (space xs) xs) ≡ got a size
  pub sum : space xs + size ≡ n

pub resinfo-inv : (xs : List ℕ) (a : Result) (n : ℕ) → resinfo xs ≡ got a n → Spaced xs a n
unfolding resinfo
resinfo-inv xs a n h =
    let v = bind_inv skip (λ u. result) xs a n h in
    let l : space xs ≡ v.fst = skipping-inv space xs v.val v.fst v.reads in
    record { size = v.snd; reads = rw l v.goes; sum = omega (arith, v.sum) }

pub resinfo-closed : (xs : List ℕ) (a : Result) (n : ℕ) → resinfo xs ≡ got a n → Closed xs
resinfo-closed xs a n h =
    let v = resinfo-inv xs a n h in
    starts-follows (λ b. eqb b 59) (drop (space xs) xs) (result-opens (drop (space xs) xs) a v.size v.reads)

-- ==== all of them

pub data Reads : List ℕ → List Result → Type 0 where
  over : {xs : List ℕ} → drop (space xs) xs ≡ [] → Reads xs []
  more : {xs : List ℕ} {a : Result} {n : ℕ} {rs : List Result} → resinfo xs ≡ got a n → Reads (drop n xs) rs → Reads xs (a ∷ rs)

pub reads-closed : {xs : List ℕ} {rs : List Result} → Reads xs rs → Closed xs
unfolding follows
reads-closed (over e) = rw e
reads-closed (more {xs} {a} {n} e R) = resinfo-closed xs a n e

-- no result stands where there is nothing but space
pub over_none : (xs : List ℕ) → drop (space xs) xs ≡ [] → resinfo xs ≡ nothing
unfolding starts
over_none xs e = resinfo-not xs (space xs) refl (shut_out result (λ b. eqb b 59) result-opens (drop (space xs) xs) (rw e))

-- a result at the front is the first that is read
pub record Rest (xs : List ℕ) (a : Result) (n : ℕ) (rs : List Result) : Type 0 where
  pub others : List Result
  pub whole : rs ≡ a ∷ others
  pub reads : Reads (drop n xs) others

pub reads-rest : {xs : List ℕ} {rs : List Result} → Reads xs rs → (a : Result) (n : ℕ) → resinfo xs ≡ got a n → Rest xs a n rs
reads-rest (over {xs} e) a n h = absurd (no-got (sym (over_none xs e) ∙ h))
reads-rest (more {xs} {a = b} {n = m} {rs} e R) a n h =
    let w : got b m ≡ got a n = sym e ∙ h in
    let p : b ≡ a = cc in
    let q : m ≡ n = cc in
    record { others = rs; whole = ap (λ (c : Result). c ∷ rs) p; reads = subst (λ (k : ℕ). Reads (drop k xs) rs) q R }

-- the space in front of all of them doesn't matter
pub reads-unspaced : {xs : List ℕ} {rs : List Result} → Reads xs rs → Reads (drop (space xs) xs) rs
reads-unspaced (over {xs} e) = over {xs = drop (space xs) xs} (rw e (drop-nil (space [])))
reads-unspaced (more {xs} {a} {n} {rs} e R) =
    let v = resinfo-inv xs a n e in
    let ys = drop (space xs) xs in
    let z : space ys ≡ 0 = result-solid ys a v.size v.reads in
    let d : drop n xs ≡ drop v.size ys = ap (λ (k : ℕ). drop k xs) (sym v.sum) ∙ sym (drop-drop v.size (space xs) xs) in
    let o : v.size ≡ 0 + v.size = omega arith in
    more (resinfo-is ys a 0 v.size z v.reads) (subst (λ (t : List ℕ). Reads t rs) (d ∙ ap (λ (k : ℕ). drop k ys) o) R)

-- ==== the same as the grammar's

-- space, and the end
abbrev close_reader : List Result → Parser (List Result)
close_reader rs = ◌>>◌ skip (◌>>◌ end (give rs))

close-inv : (l rs : List Result) (xs : List ℕ) (n : ℕ) → close_reader l xs ≡ got rs n → (drop (space xs) xs ≡ []) × (l ≡ rs)
close-inv l rs xs n h =
    let v = bind_inv skip (λ u. ◌>>◌ end (give l)) xs rs n h in
    let f : space xs ≡ v.fst = skipping-inv space xs v.val v.fst v.reads in
    let ys = drop v.fst xs in
    let w = bind_inv end (λ u. give l) ys rs v.snd v.goes in
    (rw f (end-inv ys w.val w.fst w.reads).0, (give-inv l (drop w.fst ys) rs w.snd w.goes).0)

close-is : (l : List Result) (xs : List ℕ) → drop (space xs) xs ≡ [] → close_reader l xs ≡ got l (space xs + 0)
close-is l xs e =
    bind-got skip (λ u. ◌>>◌ end (give l)) xs tt (space xs) l 0 (skipping-is space xs (space xs) refl)
    (rw e (bind-got end (λ u. give l) [] tt 0 l 0 end_is (give-is l [])))

several-reads : (rs : List Result) (xs : List ℕ) (n : ℕ) → several resinfo 0 xs ≡ got rs n → drop (space (drop n xs)) (drop n xs) ≡ [] → Reads xs rs
several-reads [] xs n h e = go (several-inv resinfo xs [] n h)
  where
    go : Turn resinfo xs [] n → Reads xs []
    go (stop l z) = over (rw z at e)
    go (turn a m l k p q u v) = absurd (let o : ◌≡◌ {A = ℕ} 0 1 = cc in omega arith)
several-reads (r ∷ rs) xs n h e = go (λ ys k. several-reads rs ys k) (several-inv resinfo xs (r ∷ rs) n h)
  where
    go : ((ys : List ℕ) (k : ℕ) → several resinfo 0 ys ≡ got rs k → drop (space (drop k ys)) (drop k ys) ≡ [] → Reads ys rs)
        → Turn resinfo xs (r ∷ rs) n → Reads xs (r ∷ rs)
    go ih (stop l z) = absurd (let o : ◌≡◌ {A = ℕ} 0 1 = cc in omega arith)
    go ih (turn a m l k p q u v) =
        let i : a ≡ r = cc in
        let j : l ≡ rs = cc in
        let d : drop n xs ≡ drop k (drop m xs) = ap (λ (x : ℕ). drop x xs) v ∙ sym (drop-drop k m xs) in
        more (p ∙ ap (λ (c : Result). got c m) i) (ih (drop m xs) k (q ∙ ap (λ (c : List Result). got c k) j) (rw d at e))

pub reads-inv : (rs : List Result) (xs : List ℕ) (n : ℕ) → resinfos xs ≡ got rs n → Reads xs rs
unfolding resinfos
reads-inv rs xs n h =
    let v = bind_inv (several resinfo 0) close_reader xs rs n h in
    let c = close-inv v.val rs (drop v.fst xs) v.snd v.goes in
    subst (λ (l : List Result). Reads xs l) c.1 (several-reads v.val xs v.fst v.reads c.0)

-- where they end
pub record Ended (xs : List ℕ) (rs : List Result) : Type 0 where
  pub size : ℕ
  pub reads : several resinfo 0 xs ≡ got rs size
  pub closes : drop (space (drop size xs)) (drop size xs) ≡ []

pub reads-several : {xs : List ℕ} {rs : List Result} → Reads xs rs → Ended xs rs
reads-several (over {xs} e) = record { size = 0; reads = several-none resinfo xs (over_none xs e); closes = e }
reads-several (more {xs} {a} {n} {rs} e R) =
    let v = reads-several R in
    let w = resinfo-within xs a n e in
    record {
      size = n + v.size;
      reads = several-again resinfo xs a n rs v.size w.1 w.0 e v.reads;
      closes = rw (← drop-drop v.size n xs) v.closes;
    }

pub record Grammatical (xs : List ℕ) (rs : List Result) : Type 0 where
  pub size : ℕ
  pub reads : resinfos xs ≡ got rs size

pub reads-is : {xs : List ℕ} {rs : List Result} → Reads xs rs → Grammatical xs rs
unfolding resinfos
reads-is {xs} {rs} R =
    let v = reads-several R in
    let ys = drop v.size xs in
    record { size = v.size + (space ys + 0); reads = bind-got (several resinfo 0) close_reader xs rs v.size rs (space ys + 0) v.reads (close-is rs ys v.closes) }
