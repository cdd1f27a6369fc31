-- What a parser reads inside w it reads whatever follows w, from the same of its parts, by cutting w where the parts meet; for a repetition by
-- induction on the length of w.
use Prim.Native.Nat.{ℕ, zero, suc, ◌≤◌}
use native.Mathlib.Nat.{le_refl}
use native.Mathlib.Omega.{arith}
use mathlib.Core.Path.{◌≡◌, refl, sym, ap, ◌∙◌}
use mathlib.Core.Bool.{Bool, true, false}
use mathlib.Core.List.{List, [], ◌∷◌, ◌++◌}
use lib.ListN.{length, drop, take, length-drop}
use lib.Seq.{take-append-le, drop-append-le, drop-drop, drop-length}
use Rattle.base_readers.specs.Readers.{Reader}
use Rattle.base_readers.specs.Parsers.{nothing, got, Parser, ◌>>=◌, ◌>>◌, give, when, ahead, end, byte, taken, skipping, text, pass, either, branch, optional, several}
use Rattle.base_readers.specs.Locality.{Within, Any, Follows, Local, Steady, Opens}
use Rattle.base_readers.proofs.Sequencing.{unit-is, bind-got, bind_inv, give-is, give-inv, when-is, when-inv, ahead-is, ahead-inv, end-inv, byte-inv, taken_is, taken-inv, skipping-is, skipping-inv, text-is, text-inv, pass-is, pass-inv, Which, first, second, either_first, either_second, either-inv, branch_yes, branch_no, Perhaps, absent, present, optional-some, optional-none, optional-inv}
use Rattle.base_readers.proofs.Repeats.{several-none, several-again, Turn, stop, turn, several-inv}
use Rattle.base_readers.proofs.Openings.{zero-front, several-front}

-- the case where all of r is read
pub steady-exact : {A : Type 0} (p : Parser A) (F : List ℕ → Type 0) → Steady p F → (r x y : List ℕ) (a : A) → p (r ++ x) ≡ got a (length r) → F y → p (r ++ y) ≡ got a (length r)
steady-exact p F P r x y a h g = P r x y a (length r) h (le_refl _) (rw (drop-length r) g)

-- fewer things may follow
pub steady-weaker : {A : Type 0} (p : Parser A) (F G : List ℕ → Type 0) → ((t : List ℕ) → G t → F t) → Steady p F → Steady p G
steady-weaker p F G i P w x y a n h b g = P w x y a n h b (i (drop n w ++ y) g)

-- ==== one after the other

-- C: where f a has read and what then comes next is right, what comes next after p is right
pub bind-steady : {A B : Type 0} (p : Parser A) (f : A → Parser B) (F G : List ℕ → Type 0)
    → Steady p F → ((a : A) → Steady (f a) G) → ((a : A) (b : B) (xs : List ℕ) (k : ℕ) → f a xs ≡ got b k → G (drop k xs) → F xs) → Steady (◌>>=◌ p f) G
bind-steady p f F G P Q C w x y b n h le g =
    let v = bind_inv p f (w ++ x) b n h in
    let a = v.val in
    let m = v.fst in
    let k = v.snd in
    let l₁ : m ≤ length w = omega (arith, v.sum) in
    let l₂ : k ≤ length (drop m w) = omega (arith, length-drop m w, v.sum) in
    let d : drop k (drop m w) ≡ drop n w = rw (drop-drop k m w, v.sum) in
    let g₁ : G (drop k (drop m w) ++ y) = rw d g in
    let q₁ : f a (drop m w ++ x) ≡ got b k = rw (drop-append-le m w x l₁) at v.goes in
    let q₂ : f a (drop m w ++ y) ≡ got b k = Q a (drop m w) x y b k q₁ l₂ g₁ in
    let c : F (drop m w ++ y) = C a b (drop m w ++ y) k q₂ (rw (drop-append-le k (drop m w) y l₂) g₁) in
    let p₂ : p (w ++ y) ≡ got a m = P w x y a m v.reads l₁ c in
    let q₃ : f a (drop m (w ++ y)) ≡ got b k = rw (drop-append-le m w y l₁) q₂ in
    bind-got p f (w ++ y) a m b k p₂ q₃ ∙ ap (λ (j : ℕ). got b j) v.sum

-- what follows p opens with what may follow p
pub then-steady : {A B : Type 0} (p : Parser A) (f : A → Parser B) (F G : List ℕ → Type 0)
    → Steady p F → ((a : A) → Steady (f a) G) → ((a : A) → Opens (f a) F) → Steady (◌>>=◌ p f) G
then-steady p f F G P Q O = bind-steady p f F G P Q (λ a b xs k h g. O a xs b k h)

-- what comes after p takes nothing
pub zero-steady : {A B : Type 0} (p : Parser A) (f : A → Parser B) (F : List ℕ → Type 0) → Steady p F → ((a : A) → Steady (f a) F)
    → ((a : A) (xs : List ℕ) (b : B) (n : ℕ) → f a xs ≡ got b n → n ≡ 0) → Steady (◌>>=◌ p f) F
zero-steady p f F P Q Z = bind-steady p f F F P Q (λ a b xs k h g. zero-front (f a) F (Z a) xs b k h g)

-- ==== parsers that take nothing

pub give-steady : {A : Type 0} (a : A) (F : List ℕ → Type 0) → Steady (give a) F
give-steady a F w x y b n h le g = give-is a (w ++ y) ∙ (sym (give-is a (w ++ x)) ∙ h)

pub when-steady : (t : Bool) (F : List ℕ → Type 0) → Steady (when t) F
when-steady t F w x y u n h le g = let e = (when-inv t (w ++ x) u n h).0 in when-is t (w ++ y) e ∙ (sym (when-is t (w ++ x) e) ∙ h)

-- where nothing is taken, the condition holds of the whole second list
pub ahead-steady : (c : ℕ → Bool) → Steady (ahead c) (Follows c)
ahead-steady c w x y u n h le g =
    let v = ahead-inv c (w ++ x) u n h in
    let f : Follows c (w ++ y) = rw v.1 at g in
    ahead-is c (w ++ y) f ∙ (sym (ahead-is c (w ++ x) v.0) ∙ h)

pub end-steady : Steady end (λ t. t ≡ [])
end-steady w x y u n h le g =
    let v = end-inv (w ++ x) u n h in
    let f : w ++ y ≡ [] = rw v.1 at g in
    ap end (f ∙ sym v.0) ∙ h

-- p and then a value made of what p gave
pub map-steady : {A B : Type 0} (p : Parser A) (f : A → B) (F : List ℕ → Type 0) → Steady p F → Steady (◌>>=◌ p (λ a. give (f a))) F
map-steady p f F P = zero-steady p (λ a. give (f a)) F P (λ a. give-steady (f a) F) (λ a xs b n h. (give-inv (f a) xs b n h).1)

-- p, a test of what it gave, and a value made of it
pub check-steady : {A B : Type 0} (p : Parser A) (b : A → Bool) (f : A → B) (F : List ℕ → Type 0) → Steady p F → Steady (◌>>=◌ p (λ a. ◌>>◌ (when (b a)) (give (f a)))) F
check-steady {A} {B} p b f F P =
    zero-steady p (λ a. ◌>>◌ (when (b a)) (give (f a))) F P
    (λ a. zero-steady (when (b a)) (λ u. give (f a)) F (when-steady (b a) F) (λ u. give-steady (f a) F) (λ u xs c n h. (give-inv (f a) xs c n h).1)) none-taken
  where
    none-taken : (a : A) (xs : List ℕ) (c : B) (n : ℕ) → ◌>>◌ (when (b a)) (give (f a)) xs ≡ got c n → n ≡ 0
    none-taken a xs c n h =
        let v = bind_inv (when (b a)) (λ u. give (f a)) xs c n h in
        omega (arith, (when-inv (b a) xs v.val v.fst v.reads).1, (give-inv (f a) (drop v.fst xs) c v.snd v.goes).1, v.sum)

-- ==== bytes and readers

pub byte-steady : (c : ℕ) → Steady (byte c) Any
unfolding byte
byte-steady c [] x y u n h le g = absurd (omega (arith, (byte-inv c x u n h).1))
byte-steady c (b ∷ w) x y u n h le g = h

module _ (f : Reader) (F : List ℕ → Type 0) (L : Local f F) where
  pub text-steady : Steady (text f) F
  text-steady w x y a n h le g =
      let v = text-inv f (w ++ x) a n h in
      let m = v.less in
      let l : n ≡ suc m = v.some in
      let e : f (w ++ y) ≡ suc m = L w x y m (v.takes ∙ l) (omega arith) (rw (← l) g) in
      let i : take n (w ++ y) ≡ a = take-append-le n w y le ∙ (sym (take-append-le n w x le) ∙ sym v.is) in
      text-is f (w ++ y) m e ∙ rw (← l, i)

  pub pass-steady : Steady (pass f) F
  pass-steady w x y u n h le g =
      let v = pass-inv f (w ++ x) u n h in
      let m = v.less in
      let l : n ≡ suc m = v.some in
      let e : f (w ++ y) ≡ suc m = L w x y m (v.takes ∙ l) (omega arith) (rw (← l) g) in
      pass-is f (w ++ y) m e ∙ rw (← l, unit-is u)

  module _ (Z : (t : List ℕ) → F t → f t ≡ 0) where
    reader-steady : (w x y : List ℕ) (n : ℕ) → f (w ++ x) ≡ n → n ≤ length w → F (drop n w ++ y) → f (w ++ y) ≡ n
    reader-steady w x y zero e le g = Z (w ++ y) g
    reader-steady w x y (suc n) e le g = L w x y n e le g

    pub taken-steady : Steady (taken f) F
    taken-steady w x y a n h le g =
        let v = taken-inv f (w ++ x) a n h in
        let e : f (w ++ y) ≡ n = reader-steady w x y n v.0 le g in
        let i : take n (w ++ y) ≡ a = take-append-le n w y le ∙ (sym (take-append-le n w x le) ∙ sym v.1) in
        taken_is f (w ++ y) n e ∙ rw i

    pub skipping-steady : Steady (skipping f) F
    skipping-steady w x y u n h le g =
        skipping-is f (w ++ y) n (reader-steady w x y n (skipping-inv f (w ++ x) u n h) le g) ∙ rw (unit-is u)

-- ==== choices

-- where p fails, nothing is taken
pub optional-steady : {A : Type 0} (p : Parser A) (F : List ℕ → Type 0) → Steady p F → Steady (optional p) (λ t. F t × (p t ≡ nothing))
optional-steady {A} p F P w x y o n h le g = go (optional-inv p (w ++ x) o n h)
  where
    go : Perhaps p (w ++ x) o n → optional p (w ++ y) ≡ got o n
    go (absent e i z) = let q : p (w ++ y) ≡ nothing = rw z at g.1 in optional-none p (w ++ y) q ∙ rw (i, z)
    go (present a e i) = optional-some p (w ++ y) a n (P w x y a n e le g.0) ∙ rw i

-- X: where q reads, p fails
pub either-steady : {A : Type 0} (p q : Parser A) (F : List ℕ → Type 0) → Steady p F → Steady q F
    → ((a : A) (xs : List ℕ) (n : ℕ) → q xs ≡ got a n → F (drop n xs) → p xs ≡ nothing) → Steady (either p q) F
either-steady {A} p q F P Q X w x y a n h le g = go (either-inv p q (w ++ x) a n h)
  where
    go : Which p q (w ++ x) a n → either p q (w ++ y) ≡ got a n
    go (first e) = either_first p q (w ++ y) a n (P w x y a n e le g)
    go (second e r) =
        let s : q (w ++ y) ≡ got a n = Q w x y a n r le g in
        either_second p q (w ++ y) (X a (w ++ y) n s (rw (drop-append-le n w y le) g)) ∙ s

-- X, Y: where p or q reads, the test decides for it
pub branch-steady : {A : Type 0} (test : List ℕ → Bool) (p q : Parser A) (F : List ℕ → Type 0) → Steady p F → Steady q F
    → ((a : A) (xs : List ℕ) (n : ℕ) → p xs ≡ got a n → F (drop n xs) → test xs ≡ true)
    → ((a : A) (xs : List ℕ) (n : ℕ) → q xs ≡ got a n → F (drop n xs) → test xs ≡ false) → Steady (branch test p q) F
branch-steady test p q F P Q X Y w x y a n h le g = go (test (w ++ x)) refl
  where
    g' : F (drop n (w ++ y))
    g' = rw (drop-append-le n w y le) g

    go : (b : Bool) → test (w ++ x) ≡ b → branch test p q (w ++ y) ≡ got a n
    go true e =
        let r : p (w ++ y) ≡ got a n = P w x y a n (sym (branch_yes test p q (w ++ x) e) ∙ h) le g in
        branch_yes test p q (w ++ y) (X a (w ++ y) n r g') ∙ r
    go false e =
        let r : q (w ++ y) ≡ got a n = Q w x y a n (sym (branch_no test p q (w ++ x) e) ∙ h) le g in
        branch_no test p q (w ++ y) (Y a (w ++ y) n r g') ∙ r

-- ==== repetition

module _ {A : Type 0} (p : Parser A) (F : List ℕ → Type 0) (P : Steady p F) (O : Opens p F) (K : Within 1 p) where
  -- what is claimed of a list w
  abbrev Again : (x y w : List ℕ) → Type 0
  Again x y w = (l : List A) (n : ℕ) → several p 0 (w ++ x) ≡ got l n → n ≤ length w → F (drop n w ++ y) × (p (drop n w ++ y) ≡ nothing) → several p 0 (w ++ y) ≡ got l n

  module _ (x y : List ℕ) where
    -- one turn, and then what is claimed of a shorter list
    step : (w : List ℕ) → ((m : ℕ) → 1 ≤ m → m ≤ length w → Again x y (drop m w)) → Again x y w
    step w ih l n h le g = go (several-inv p (w ++ x) l n h)
      where
        go : Turn p (w ++ x) l n → several p 0 (w ++ y) ≡ got l n
        go (stop e z) = let q : p (w ++ y) ≡ nothing = rw z at g.1 in several-none p (w ++ y) q ∙ rw (e, z)
        go (turn a m l' k e q u v) =
            let o : 1 ≤ m = (K (w ++ x) a m e).1 in
            let l₁ : m ≤ length w = omega arith in
            let l₂ : k ≤ length (drop m w) = omega (arith, length-drop m w) in
            let d : drop k (drop m w) ≡ drop n w = rw (drop-drop k m w, v) in
            let q₁ : several p 0 (drop m w ++ x) ≡ got l' k = rw (drop-append-le m w x l₁) at q in
            let q₂ : several p 0 (drop m w ++ y) ≡ got l' k = ih m o l₁ l' k q₁ l₂ (rw d g) in
            let c : F (drop m w ++ y) = several-front p F O (drop m w ++ y) l' k q₂ (rw (drop-append-le k (drop m w) y l₂, d) g.0) in
            let p₂ : p (w ++ y) ≡ got a m = P w x y a m e l₁ c in
            let q₃ : several p 0 (drop m (w ++ y)) ≡ got l' k = rw (drop-append-le m w y l₁) q₂ in
            several-again p (w ++ y) a m l' k o (K (w ++ y) a m p₂).0 p₂ q₃ ∙ rw (u, v)

    again : (b : ℕ) (w : List ℕ) → length w ≤ b → Again x y w
    again zero w i = step w (λ m o j. absurd (omega arith))
    again (suc b) w i = step w (λ m o j. again b (drop m w) (omega (arith, length-drop m w)))

  pub several-steady : Steady (several p 0) (λ t. F t × (p t ≡ nothing))
  several-steady w x y l n h le g = again x y (length w) w (le_refl _) l n h le g
