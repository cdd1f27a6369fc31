-- Every computed place beside a result is where a part of the body or the space behind it ends, and each result has four of them, both
-- by induction on the results.
use Prim.Native.Nat.{ℕ, suc, ◌+◌, ◌*◌}
use native.Mathlib.Omega.{arith}
use mathlib.Core.Path.{◌≡◌, refl, sym, ap, ◌∙◌, subst}
use mathlib.Core.List.Memᴰ
use mathlib.Core.List.{List, [], ◌∷◌, ◌++◌, Memᴰ}
use mathlib.Core.Logic.{◌⊎◌, inl, inr}
use lib.ListN.{length, drop, take, take-append-drop}
use lib.Seq.{drop-drop, take-add, length-take-le}
use Rattle.base_readers.specs.Parsers.{Got, nothing, got, Parser, ◌>>=◌, give, several}
use Rattle.base_readers.proofs.Sequencing.{no-got, bind-got, bind_inv, give-is, give-inv, skipping-is, skipping-inv}
use Rattle.base_readers.proofs.Repeats.{several-none, several-again, several-total, Turn, stop, turn, several-inv}
use Rattle.lexis_rules.specs.Pieces.{space}
use Rattle.lexis_rules.specs.Words.{skip}
use Rattle.lexis_laws.proofs.Pieces.{space-fits}
use Rattle.result_rules.specs.Results.{Result, result}
use Rattle.report_rules.specs.Body.{Head, head, resinfo, word_none}
use Rattle.report_rules.specs.Beside.{sized, Extent, extent, places_around, insertion_places}
use Rattle.report_laws.proofs.Sequence.{resinfo-within, resinfo-is, resinfo-inv, Reads, over, more, over_none}
use Rattle.report_laws.proofs.NoResult.{word-no-result}
use Rattle.report_laws.proofs.Cuts.{Cut, touching, spaced, beyond}

-- ==== extents

module _ {A : Type 0} (p : Parser A) (xs : List ℕ) where
  sized-is : (a : A) (n : ℕ) → p xs ≡ got a n → sized p xs ≡ got n n
  unfolding sized
  sized-is a n e = rw (sized, e)

  sized-not : p xs ≡ nothing → sized p xs ≡ nothing
  unfolding sized
  sized-not e = rw (sized, e)

  record Measured (v n : ℕ) : Type 0 where
    val : A
    reads : p xs ≡ got val n
    is : v ≡ n

  sized-inv : (v n : ℕ) → sized p xs ≡ got v n → Measured v n
  sized-inv v n h = go (p xs) refl
    where
      go : (x : Got A) → p xs ≡ x → Measured v n
      go nothing e = absurd (no-got (sym (sized-not e) ∙ h))
      go (got a m) e =
          let w : got m m ≡ got v n = sym (sized-is a m e) ∙ h in
          let y : m ≡ n = cc in
          let z : m ≡ v = cc in
          record { val = a; reads = e ∙ ap (λ (k : ℕ). got a k) y; is = sym z ∙ y }

abbrev sizes : ℕ → ℕ → Extent
sizes s r = record { before = s; size = r }

-- from the result on
abbrev sizes_reader : ℕ → Parser Extent
sizes_reader s = ◌>>=◌ (sized result) (λ r. give (sizes s r))

-- an extent is that of a result with the space before it
pub record Spanned (xs : List ℕ) (z : Extent) (m : ℕ) : Type 0 where
  pub what : Result
  pub reads : resinfo xs ≡ got what m
  pub gap : z.before ≡ space xs
  pub sum : z.before + z.size ≡ m

pub extent-inv : (xs : List ℕ) (z : Extent) (m : ℕ) → extent xs ≡ got z m → Spanned xs z m
unfolding extent
extent-inv xs z m h =
    let v = bind_inv (sized skip) sizes_reader xs z m h in
    let s = sized-inv skip xs v.val v.fst v.reads in
    let f : space xs ≡ v.fst = skipping-inv space xs s.val v.fst s.reads in
    let ys = drop v.fst xs in
    let w = bind_inv (sized result) (λ r. give (sizes v.val r)) ys z v.snd v.goes in
    let r = sized-inv result ys w.val w.fst w.reads in
    let g = give-inv (sizes v.val w.val) (drop w.fst ys) z w.snd w.goes in
    let b : v.val ≡ z.before = ap (λ (x : Extent). x.before) g.0 in
    let c : w.val ≡ z.size = ap (λ (x : Extent). x.size) g.0 in
    let l : v.fst + w.fst ≡ m = omega (arith, g.1, w.sum, v.sum) in
    record {
      what = r.val;
      reads = resinfo-is xs r.val v.fst w.fst f r.reads ∙ rw l;
      gap = omega (arith, s.is);
      sum = omega (arith, s.is, r.is);
    }

pub extent-is : (xs : List ℕ) (a : Result) (n : ℕ) → resinfo xs ≡ got a n → (z : Extent) × (extent xs ≡ got z n)
unfolding extent
extent-is xs a n h =
    let v = resinfo-inv xs a n h in
    let s = space xs in
    let ys = drop s xs in
    let z = sizes s v.size in
    let f : sizes_reader s ys ≡ got z (v.size + 0) =
    bind-got (sized result) (λ r. give (sizes s r)) ys v.size v.size z 0 (sized-is result ys a v.size v.reads) (give-is z (drop v.size ys)) in
    let l : s + (v.size + 0) ≡ n = omega (arith, v.sum) in
    (z, bind-got (sized skip) sizes_reader xs s s z (v.size + 0) (sized-is skip xs tt s (skipping-is space xs s refl)) f ∙ rw l)

pub extent-not : (xs : List ℕ) → resinfo xs ≡ nothing → extent xs ≡ nothing
extent-not xs h = go (extent xs) refl
  where
    go : (x : Got Extent) → extent xs ≡ x → extent xs ≡ nothing
    go nothing e = e
    go (got z m) e = absurd (no-got (sym h ∙ (extent-inv xs z m e).reads))

-- ==== cuts

-- xs is cut after j bytes
abbrev pub Split : ℕ → List ℕ → Type 0
Split j xs = Cut (take j xs) (drop j xs)

split-spaced : (xs : List ℕ) → Split (space xs) xs
split-spaced xs =
    spaced {s = take (space xs) xs} {t = drop (space xs) xs} (rw (take-append-drop (space xs) xs, length-take-le (space xs) xs (space-fits xs)))

split-beyond : (xs : List ℕ) (a : Result) (m : ℕ) → resinfo xs ≡ got a m → (j : ℕ) → Split j (drop m xs) → Split (m + j) xs
split-beyond xs a m e j C =
    let ys = drop m xs in
    let i : take m xs ++ (take j ys ++ drop j ys) ≡ xs = rw (take-append-drop j ys) (take-append-drop m xs) in
    let l : length (take m xs) ≡ m = length-take-le m xs (resinfo-within xs a m e).0 in
    let f : resinfo (take m xs ++ (take j ys ++ drop j ys)) ≡ got a (length (take m xs)) = rw (i, l) e in
    let D : Cut (take m xs ++ take j ys) (drop j ys) = beyond (take m xs) f C in
    subst (λ (u : List ℕ). Cut u (drop (m + j) xs)) (sym (take-add m j xs)) (subst (λ (t : List ℕ). Cut (take m xs ++ take j ys) t) (drop-drop j m xs) D)

-- the place i of a body is a cut of what stands behind the part that ends at n
pub record Found (b : List ℕ) (n i : ℕ) : Type 0 where
  pub away : ℕ
  pub is : i ≡ n + away
  pub cuts : Split away (drop n b)

later : (b : List ℕ) (n : ℕ) (z : Extent) (m : ℕ) → Spanned (drop n b) z m → (i : ℕ) → Found b (n + (z.before + z.size)) i → Found b n i
later b n z m S i F =
    let d : drop (n + (z.before + z.size)) b ≡ drop m (drop n b) = sym (drop-drop (z.before + z.size) n b) ∙ rw S.sum in
    record {
      away = m + F.away;
      is = F.is ∙ (let s = S.sum in omega arith);
      cuts = split-beyond (drop n b) S.what m S.reads F.away (subst (λ (l : List ℕ). Split F.away l) d F.cuts);
    }

-- one of the four places of a result, or a place beside a later one
sorts : (b : List ℕ) (n : ℕ) (z : Extent) (zs : List Extent) (m : ℕ) → Spanned (drop n b) z m
    → ((i : ℕ) → Memᴰ i (places_around b (n + (z.before + z.size)) zs) → Found b (n + (z.before + z.size)) i)
    → (i : ℕ) → Memᴰ i (places_around b n (z ∷ zs)) → Found b n i
unfolding places_around
sorts b n z zs m S rest i p = first (Memᴰ.cases_cons p)
  where
    e : ℕ
    e = n + (z.before + z.size)

    fourth : (i ≡ e + space (drop e b)) ⊎ Memᴰ i (places_around b e zs) → Found b n i
    fourth (inl q) = later b n z m S i (record { away = space (drop e b); is = q; cuts = split-spaced (drop e b) })
    fourth (inr q) = later b n z m S i (rest i q)

    third : (i ≡ e) ⊎ Memᴰ i ((e + space (drop e b)) ∷ places_around b e zs) → Found b n i
    third (inl q) = later b n z m S i (record { away = 0; is = q ∙ omega arith; cuts = touching })
    third (inr q) = fourth (Memᴰ.cases_cons q)

    second : (i ≡ n + z.before) ⊎ Memᴰ i (e ∷ (e + space (drop e b)) ∷ places_around b e zs) → Found b n i
    second (inl q) = record { away = space (drop n b); is = q ∙ ap (λ (k : ℕ). n + k) S.gap; cuts = split-spaced (drop n b) }
    second (inr q) = third (Memᴰ.cases_cons q)

    first : (i ≡ n) ⊎ Memᴰ i ((n + z.before) ∷ e ∷ (e + space (drop e b)) ∷ places_around b e zs) → Found b n i
    first (inl q) = record { away = 0; is = q ∙ omega arith; cuts = touching }
    first (inr q) = second (Memᴰ.cases_cons q)

around-cut : (b : List ℕ) (zs : List Extent) (n k : ℕ) → several extent 0 (drop n b) ≡ got zs k → (i : ℕ) → Memᴰ i (places_around b n zs) → Found b n i
unfolding places_around
around-cut b [] n k h i p = absurd (Memᴰ.not-nil p)
around-cut b (z ∷ zs) n k h i p = go (λ n k h i p. around-cut b zs n k h i p) (several-inv extent (drop n b) (z ∷ zs) k h)
  where
    go : ((n k : ℕ) → several extent 0 (drop n b) ≡ got zs k → (i : ℕ) → Memᴰ i (places_around b n zs) → Found b n i) → Turn extent (drop n b) (z ∷ zs) k
        → Found b n i
    go ih (stop e q) = absurd (let o : ◌≡◌ {A = ℕ} 0 1 = cc in omega arith)
    go ih (turn z' m l j e f g q) =
        let g₁ : z' ≡ z = cc in
        let g₂ : l ≡ zs = cc in
        let S : Spanned (drop n b) z m = extent-inv (drop n b) z m (e ∙ ap (λ (x : Extent). got x m) g₁) in
        let d : drop m (drop n b) ≡ drop (n + (z.before + z.size)) b = drop-drop m n b ∙ ap (λ (x : ℕ). drop (n + x) b) (sym S.sum) in
        sorts b n z zs m S (ih (n + (z.before + z.size)) j (rw (← d, ← g₂) f)) i p

-- ==== the places beside the results of a body

module _ (b : List ℕ) (h : Head) (n : ℕ) (e : head b ≡ got h n) where
  pub places_is : (zs : List Extent) (k : ℕ) → several extent 0 (drop n b) ≡ got zs k → insertion_places b ≡ places_around b n zs
  unfolding insertion_places
  places_is zs k f = rw (insertion_places, e, f)

  pub places-found : (i : ℕ) → Memᴰ i (insertion_places b) → Found b n i
  places-found i p =
      let t = several-total extent 0 (drop n b) in
      around-cut b t.list n t.size t.is i (rw (places_is t.list t.size t.is) at p)

  around-length : (m : ℕ) (zs : List Extent) → length (places_around b m zs) ≡ 4 * length zs
  unfolding places_around
  around-length m [] = refl
  around-length m (z ∷ zs) = omega (arith, around-length (m + (z.before + z.size)) zs)

  -- as many extents as results
  as_many : {xs : List ℕ} {rs : List Result} → Reads xs rs → (zs : List Extent) (k : ℕ) → several extent 0 xs ≡ got zs k → length zs ≡ length rs
  as_many (over {xs} q) zs k f =
      let w : got [] 0 ≡ got zs k = sym (several-none extent xs (extent-not xs (over_none xs q))) ∙ f in
      let y : [] ≡ zs = cc in
      rw (← y)
  as_many (more {xs} {a} {n = m} {rs} q R) zs k f =
      let x = extent-is xs a m q in
      let t = several-total extent 0 (drop m xs) in
      let i = resinfo-within xs a m q in
      let w : got (x.0 ∷ t.list) (m + t.size) ≡ got zs k = sym (several-again extent xs x.0 m t.list t.size i.1 i.0 x.1 t.is) ∙ f in
      let y : x.0 ∷ t.list ≡ zs = cc in
      rw (← y) (ap suc (as_many R t.list t.size t.is))

  -- four places for each result
  pub places_count : {rs : List Result} → Reads (drop n b) rs → length (insertion_places b) ≡ 4 * length rs
  places_count {rs} R =
      let t = several-total extent 0 (drop n b) in
      rw (places_is t.list t.size t.is) (around-length n t.list ∙ ap (λ (k : ℕ). 4 * k) (as_many R t.list t.size t.is))

  -- and none beside the word none
  pub word-places : (m : ℕ) → word_none (drop n b) ≡ got tt m → insertion_places b ≡ []
  unfolding places_around
  word-places m f = let xs = drop n b in places_is [] 0 (several-none extent xs (extent-not xs (word-no-result xs tt m f)))
