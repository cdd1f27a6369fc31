-- A result put in where a part ends, or where the space behind a part ends, is read there between the others, which stay as they were:
-- by induction on the parts before that place, because each hangs on nothing behind what closes it.
use Prim.Native.Nat.{ℕ, ◌+◌}
use native.Mathlib.Omega.{arith}
use mathlib.Core.Path.{◌≡◌, refl, sym, ap, ◌∙◌, subst}
use mathlib.Core.List.{List, [], ◌∷◌, ◌++◌, append_assoc, append-nil}
use lib.ListN.{length, drop}
use lib.Seq.{drop-append_seam, drop-append-add}
use Rattle.base_readers.specs.Parsers.{got}
use Rattle.base_readers.specs.Locality.{Ends}
use Rattle.base_readers.proofs.Sequencing.{skipping-is, skipping-inv}
use Rattle.base_readers.proofs.Steadiness.{steady-exact}
use Rattle.lexis_rules.specs.Pieces.{space}
use Rattle.lexis_rules.specs.Words.{skip}
use Rattle.lexis_laws.proofs.Steadiness.{skip-steady}
use Rattle.result_rules.specs.Results.{Result, result}
use Rattle.result_laws.proofs.Following.{Closed}
use Rattle.result_laws.proofs.Results.{result-steady}
use Rattle.report_rules.specs.Body.{resinfo}
use Rattle.report_rules.specs.Newer.{IsResult}
use Rattle.report_laws.proofs.Sequence.{Reads, more, result-solid, resinfo-steady, resinfo-is, reads-closed, reads-rest, reads-unspaced}

-- u ++ t is what stands behind a part (the head, or a result), and u ends where a part or the space behind a part ends
pub data Cut : List ℕ → List ℕ → Type 0 where
  -- where the part ends: touching it, or on the far side of the space before the next result
  touching : {t : List ℕ} → Cut [] t
  -- where the space behind the part ends: on the far side of it, or touching the next result
  spaced : {s t : List ℕ} → space (s ++ t) ≡ length s → Cut s t
  -- behind a result, and on from there
  beyond : (r : List ℕ) {u t : List ℕ} {a : Result} → resinfo (r ++ (u ++ t)) ≡ got a (length r) → Cut u t → Cut (r ++ u) t

-- a space is the same before anything that begins none
space-exact : (s x y : List ℕ) → space (s ++ x) ≡ length s → Ends space y → space (s ++ y) ≡ length s
space-exact s x y e g =
    skipping-inv space (s ++ y) tt (length s) (steady-exact skip (Ends space) skip-steady s x y tt (skipping-is space (s ++ x) (length s) e) g)

-- a result with the bytes named
reads_more : (r t : List ℕ) (a : Result) (rs : List Result) → resinfo (r ++ t) ≡ got a (length r) → Reads t rs → Reads (r ++ t) (a ∷ rs)
reads_more r t a rs e R = more {rs = rs} e (rw (drop-append_seam r t) R)

-- the results rs with a put in somewhere
pub record Put (rs : List Result) (a : Result) (xs : List ℕ) : Type 0 where
  pub before : List Result
  pub behind : List Result
  pub whole : rs ≡ before ++ behind
  pub reads : Reads xs (before ++ (a ∷ behind))

module _ (w : List ℕ) (a : Result) (W : IsResult w a) where
  -- w before what closes it
  placed : (t : List ℕ) → Closed t → result (w ++ t) ≡ got a (length w)
  placed t g = steady-exact result Closed result-steady w [] t a (rw (append-nil w) W) g

  -- behind the space s
  behind-space : (s t : List ℕ) (rs : List Result) → space (s ++ t) ≡ length s → Reads t rs → Reads (s ++ (w ++ t)) (a ∷ rs)
  behind-space s t rs e R =
      let f : result (w ++ t) ≡ got a (length w) = placed t (reads-closed R) in
      let z : space (s ++ (w ++ t)) ≡ length s = space-exact s t (w ++ t) e (result-solid (w ++ t) a (length w) f) in
      let g : resinfo (s ++ (w ++ t)) ≡ got a (length s + length w) = resinfo-is (s ++ (w ++ t)) a (length s) (length w) z (rw (drop-append_seam s (w ++ t)) f) in
      more {rs = rs} g (rw (drop-append-add s (w ++ t) (length w), drop-append_seam w t) R)

  pub put : {u t : List ℕ} → Cut u t → (rs : List Result) → Reads (u ++ t) rs → Put rs a (u ++ (w ++ t))
  put (touching {t}) rs R =
      let f : result (w ++ t) ≡ got a (length w) = placed t (reads-closed R) in
      let g : resinfo (w ++ t) ≡ got a (0 + length w) = resinfo-is (w ++ t) a 0 (length w) (result-solid (w ++ t) a (length w) f) f in
      let o : 0 + length w ≡ length w = omega arith in
      record { before = []; behind = rs; whole = refl; reads = reads_more w t a rs (g ∙ rw o) R }
  put (spaced {s} {t} e) rs R =
      let d : drop (space (s ++ t)) (s ++ t) ≡ t = rw (e, drop-append_seam s t) in
      record { before = []; behind = rs; whole = refl; reads = behind-space s t rs e (subst (λ (l : List ℕ). Reads l rs) d (reads-unspaced R)) }
  put (beyond r {u} {t} {a = b} e C) rs R =
      let U = u ++ (w ++ t) in
      let v = reads-rest (subst (λ (l : List ℕ). Reads l rs) (append_assoc r u t) R) b (length r) e in
      let ih = put C v.others (subst (λ (l : List ℕ). Reads l v.others) (drop-append_seam r (u ++ t)) v.reads) in
      let all = ih.before ++ (a ∷ ih.behind) in
      let f : resinfo (r ++ U) ≡ got b (length r) = steady-exact resinfo Closed resinfo-steady r (u ++ t) U b e (reads-closed ih.reads) in
      record {
        before = b ∷ ih.before;
        behind = ih.behind;
        whole = v.whole ∙ ap (λ (l : List Result). b ∷ l) ih.whole;
        reads = subst (λ (l : List ℕ). Reads l (b ∷ all)) (sym (append_assoc r u (w ++ t))) (reads_more r U b all f ih.reads);
      }
