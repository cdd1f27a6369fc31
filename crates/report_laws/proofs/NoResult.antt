-- The word none with nothing behind it but space begins no result, because what would have to follow is not there.
use Prim.Native.Nat.{ℕ, ◌+◌}
use native.Mathlib.Omega.{arith}
use mathlib.Core.Path.{◌≡◌, refl}
use mathlib.Core.List.{List, []}
use mathlib.Core.Option.{none}
use lib.ListN.{drop}
use lib.Seq.{drop-drop}
use Rattle.base_readers.specs.Texts.{bytes, same, starts}
use Rattle.base_readers.specs.Parsers.{nothing, got, Parser, ◌>>◌, when, end, byte, optional}
use Rattle.base_readers.proofs.Sequencing.{bind-none, bind-stuck, bind_inv, when-inv, end-inv, byte-not, skipping-is, skipping-inv, optional-none}
use Rattle.lexis_rules.specs.Pieces.{space}
use Rattle.lexis_rules.specs.Words.{skip, read_keyword, read_word, read_number}
use Rattle.result_rules.specs.Results.{separator, method_version, methodspec, result}
use Rattle.report_rules.specs.Body.{resinfo, word_none}
use Rattle.report_laws.proofs.Sequence.{resinfo-not}

-- no separator stands where there is nothing but space
separator-over : (c : ℕ) (xs : List ℕ) → drop (space xs) xs ≡ [] → separator c xs ≡ nothing
unfolding separator starts
separator-over c xs e =
    bind-stuck skip (λ u. ◌>>◌ (byte c) skip) xs tt (space xs) (skipping-is space xs (space xs) refl)
    (bind-none (byte c) (λ u. skip) (drop (space xs) xs) (byte-not c (drop (space xs) xs) (rw e)))

-- a keyword alone is no method with its result
methodspec-over : (xs k : List ℕ) (n : ℕ) → read_keyword xs ≡ got k n → drop (space (drop n xs)) (drop n xs) ≡ [] → methodspec xs ≡ nothing
unfolding methodspec method_version
methodspec-over xs k n e z =
    let ys = drop n xs in
    let v : method_version ys ≡ nothing = bind-none (separator 47) (λ u. read_number) ys (separator-over 47 ys z) in
    bind-stuck read_keyword _ xs k n e (bind-stuck (optional method_version) _ ys none 0 (optional-none method_version ys v) (bind-none (separator 61) _ ys (separator-over 61 ys z)))

-- ==== the word none

-- what stands behind the word and the space behind that
none-inv : (xs : List ℕ) (u : Unit {0}) (n : ℕ) → ◌>>◌ (read_word (bytes "none")) (◌>>◌ skip end) xs ≡ got u n → methodspec xs ≡ nothing
unfolding read_word
none-inv xs u n h =
    let w = bytes "none" in
    let v = bind_inv (read_word w) (λ u. ◌>>◌ skip end) xs u n h in
    let k = bind_inv read_keyword (λ k. when (same k w)) xs v.val v.fst v.reads in
    let z : k.snd ≡ 0 = (when-inv (same k.val w) (drop k.fst xs) v.val k.snd k.goes).1 in
    let l : k.fst ≡ v.fst = omega (arith, k.sum) in
    let ys = drop v.fst xs in
    let s = bind_inv skip (λ u. end) ys u v.snd v.goes in
    let f : space ys ≡ s.fst = skipping-inv space ys s.val s.fst s.reads in
    let e : drop (space ys) ys ≡ [] = rw f (end-inv (drop s.fst ys) u s.snd s.goes).0 in
    methodspec-over xs k.val k.fst k.reads (rw l e)

drop-thrice : (xs : List ℕ) (s k b c n : ℕ) → s + k ≡ n → b + c ≡ k → drop n xs ≡ drop c (drop b (drop s xs))
drop-thrice xs s k b c n e f = let o : n ≡ s + (b + c) = omega arith in rw (o, ← drop-drop (b + c) s xs, ← drop-drop c b (drop s xs))

-- so the body has no result there
pub word-no-result : (xs : List ℕ) (u : Unit {0}) (n : ℕ) → word_none xs ≡ got u n → resinfo xs ≡ nothing
unfolding word_none separator result
word-no-result xs u n h =
    let rest : Parser Unit = ◌>>◌ (read_word (bytes "none")) (◌>>◌ skip end) in
    let v = bind_inv (separator 59) (λ u. rest) xs u n h in
    let s = bind_inv skip (λ u. ◌>>◌ (byte 59) skip) xs v.val v.fst v.reads in
    let f : space xs ≡ s.fst = skipping-inv space xs s.val s.fst s.reads in
    let ys = drop s.fst xs in
    let b = bind_inv (byte 59) (λ u. skip) ys v.val s.snd s.goes in
    let zs = drop b.fst ys in
    let d : drop v.fst xs ≡ drop b.snd zs = drop-thrice xs s.fst s.snd b.fst b.snd v.fst s.sum b.sum in
    let m : methodspec (drop b.snd zs) ≡ nothing = none-inv (drop b.snd zs) u v.snd (rw d at v.goes) in
    resinfo-not xs s.fst f
    (bind-stuck (byte 59) _ ys b.val b.fst b.reads (bind-stuck skip _ zs v.val b.snd b.goes (bind-none methodspec _ (drop b.snd zs) m)))
