-- Bytes cut where their lines end are their lines: all of them, and those of the first ends. By one line after the other.
use Prim.Native.Nat.{ℕ, zero, suc, ◌+◌, ◌-◌, ◌≤◌, ◌<◌, min}
use native.Mathlib.Omega.{arith}
use mathlib.Core.Path.{◌≡◌, refl, ap, ◌∙◌}
use mathlib.Core.Bool.{Bool, true, false, ◌&&◌, ◌||◌}
use mathlib.Core.List.{List, [], ◌∷◌, ◌++◌}
use lib.Dec.{leb}
use lib.ListN.{length, get_or, take, drop, length-append, length-drop, drop_of_length-le}
use lib.Seq.{drop-drop, length-take-le, take_all, take-nil}
use borrow.Author.Tests.{leb-true, leb-false}
use Rattle.base_readers.specs.Parsers.{Got, nothing, got}
use Rattle.base_readers.proofs.Readers.{run_fits}
use Rattle.lexis_rules.specs.Bytes.{alike}
use Rattle.punycode_rules.specs.Labels.{spelling, spelling_limit}
use Rattle.ownlist_rules.specs.OwnList.{entry_limit, own_list}
use Rattle.ownlist_rules.specs.declared.Own.{Own}
use Rattle.ownlist_rules.specs.declared.Own.TheVariants.{Ours, Others, Unreadable}
use Rattle.ownlist_rules.specs.Listed.{own_if}
use Rattle.base_readers.specs.Lines.{lines_of, feedless, until_feed}
use Rattle.ownlist_rules.specs.Spelled.{spelled_list, among_lines, among_spelled, own_of_spelled}
use Rattle.ownlist_rules.specs.Ends.{ends_from, ends_of, cut_at}
use Rattle.base_sequences.specs.Spans.{span}
use Rattle.base_readers.proofs.Lines.{lines-first}
use Rattle.ownlist_laws.proofs.OwnListLaws.{spelled-few, good-few}

-- ==== one line after the other

pub lines_none : (s : List ℕ) (at : ℕ) → length s ≤ at → lines_of (drop at s) ≡ []
unfolding lines_of
lines_none s at h = rw (drop_of_length-le {A = ℕ} s h)

-- the line at a place ends at e
module _ (s : List ℕ) (at : ℕ) (h : at < length s) (e : ℕ) (q : e ≡ at + until_feed (drop at s)) where
  pub line-inside : (at ≤ e) × (e ≤ length s)
  line-inside = (omega arith, omega (arith, run_fits feedless (drop at s), length-drop at s))

  pub lines_at : lines_of (drop at s) ≡ span s at e ∷ lines_of (drop (suc e) s)
  lines_at =
      let n : e - at ≡ until_feed (drop at s) = omega arith in
      let m : at + suc (until_feed (drop at s)) ≡ suc e = omega arith in
      lines-first (drop at s) (rw length-drop (omega arith)) ∙ rw (n, drop-drop, m)

  pub ends_at : ends_from at (lines_of (drop at s)) ≡ e ∷ ends_from (suc e) (lines_of (drop (suc e) s))
  unfolding ends_from
  ends_at =
      let l : length (span s at e) ≡ e - at = length-take-le (e - at) (drop at s) (rw length-drop (omega (arith, line-inside))) in
      let z : at + (e - at) ≡ e = omega arith in
      rw (lines_at, l, z)

-- ==== places past the end are as good as the end

cut-past : (own : List ℕ) (a b : ℕ) → length own ≤ a → length own ≤ b → (es : List ℕ) → cut_at own a es ≡ cut_at own b es
unfolding cut_at
cut-past own a b h k [] = refl
cut-past own a b h k (e ∷ es) = rw (drop_of_length-le own h, drop_of_length-le own k, take-nil {A = ℕ} (e - a), take-nil {A = ℕ} (e - b))

pub cut_inside : (own : List ℕ) (at x e : ℕ) (es : List ℕ) → e ≡ min x (length own) → cut_at own at (x ∷ es) ≡ span own at e ∷ cut_at own (suc e) es
unfolding cut_at
cut_inside own at x e es q = go (leb x (length own)) refl
  where
    go : (t : Bool) → leb x (length own) ≡ t → span own at x ∷ cut_at own (suc x) es ≡ span own at e ∷ cut_at own (suc e) es
    go true t = let z : e ≡ x = omega (arith, leb-true x (length own) t) in rw z
    go false t =
        let l : length own < x = leb-false x (length own) t in
        let y : take (x - at) (drop at own) ≡ drop at own = take_all (x - at) (drop at own) (omega (arith, length-drop at own)) in
        let z : take (e - at) (drop at own) ≡ drop at own = take_all (e - at) (drop at own) (omega (arith, length-drop at own)) in
        rw (y, z, cut-past own (suc x) (suc e) (omega arith) (omega arith) es)

-- ==== all lines

cut-from : (n : ℕ) (s : List ℕ) (at : ℕ) → length s - at ≤ n → cut_at s at (ends_from at (lines_of (drop at s))) ≡ lines_of (drop at s)
unfolding cut_at ends_from
cut-from zero s at h = rw (lines_none s at (omega arith))
cut-from (suc n) s at h = go (leb (length s) at) refl (cut-from n s)
  where
    go : (t : Bool) → leb (length s) at ≡ t → ((a : ℕ) → length s - a ≤ n → cut_at s a (ends_from a (lines_of (drop a s))) ≡ lines_of (drop a s))
        → cut_at s at (ends_from at (lines_of (drop at s))) ≡ lines_of (drop at s)
    go true t ih = rw (lines_none s at (leb-true (length s) at t))
    go false t ih =
        let l : at < length s = leb-false (length s) at t in
        let e = at + until_feed (drop at s) in
        rw (ends_at s at l e refl, lines_at s at l e refl) (ap (λ (ls : List (List ℕ)). span s at e ∷ ls) (ih (suc e) (omega arith)))

pub cut-ends : (own : List ℕ) → cut_at own 0 (ends_of own) ≡ lines_of own
cut-ends own = cut-from (length own) own 0 (omega arith)

ends-count : (at : ℕ) (ls : List (List ℕ)) → length (ends_from at ls) ≡ length ls
unfolding ends_from
ends-count at [] = refl
ends-count at (l ∷ ls) = ap suc (ends-count (suc (at + length l)) ls)

pub ends-length : (own : List ℕ) → length (ends_of own) ≡ length (lines_of own)
ends-length own = ends-count 0 (lines_of own)

-- those of a list, as it stands and as it is compared, are 64 at most
pub spelled-ends : (list : List ℕ) → length (ends_of (spelled_list (own_list list).items)) ≤ entry_limit
spelled-ends list = rw (ends-length (spelled_list (own_list list).items)) (spelled-few list)

pub good-ends : (list : List ℕ) → (own_list list).number ≡ 0 → length (ends_of list) ≤ entry_limit
good-ends list z = rw (ends-length list) (good-few list z)

-- ==== the first lines

-- where there is an end there is a line
ends_there : (s : List ℕ) (at k : ℕ) → k < length (ends_from at (lines_of (drop at s))) → at < length s
unfolding ends_from
ends_there s at k h = go (leb (length s) at) refl
  where
    go : (t : Bool) → leb (length s) at ≡ t → at < length s
    go true t = absurd (let l : k < 0 = rw (lines_none s at (leb-true (length s) at t)) at h in omega arith)
    go false t = leb-false (length s) at t

part-from : (k : ℕ) (s : List ℕ) (at : ℕ) → k < length (ends_from at (lines_of (drop at s)))
    → lines_of (drop at s) ≡ cut_at s at (take (suc k) (ends_from at (lines_of (drop at s)))) ++ lines_of (drop (suc (get_or (ends_from at (lines_of (drop at s))) k 0)) s)
unfolding cut_at
part-from zero s at h =
    let l = ends_there s at 0 h in
    let e = at + until_feed (drop at s) in
    rw (ends_at s at l e refl) (lines_at s at l e refl)
part-from (suc k) s at h =
    let l = ends_there s at (suc k) h in
    let e = at + until_feed (drop at s) in
    let i : k < length (ends_from (suc e) (lines_of (drop (suc e) s))) = omega (arith, ap length (ends_at s at l e refl)) in
    rw (ends_at s at l e refl) (lines_at s at l e refl ∙ ap (λ (ls : List (List ℕ)). span s at e ∷ ls) (part-from k s (suc e) i))

pub part-ends : (own : List ℕ) (k : ℕ) → k < length (ends_of own) → lines_of own ≡ cut_at own 0 (take (suc k) (ends_of own)) ++ lines_of (drop (suc (get_or (ends_of own) k 0)) own)
part-ends own k h = part-from k own 0 h

cut-length : (own : List ℕ) (at : ℕ) (es : List ℕ) → length (cut_at own at es) ≡ length es
unfolding cut_at
cut-length own at [] = refl
cut-length own at (e ∷ es) = ap suc (cut-length own (suc e) es)

-- an end that is not the last is that of an LF, and there is something behind it
pub part-inside : (own : List ℕ) (k : ℕ) → suc k < length (ends_of own) → suc (get_or (ends_of own) k 0) < length own
part-inside own k h = go (leb (length own) (suc (get_or (ends_of own) k 0))) refl
  where
    l : length (take (suc k) (ends_of own)) ≡ suc k
    l = length-take-le (suc k) (ends_of own) (omega arith)

    n : length (ends_of own) ≡ suc k + length (lines_of (drop (suc (get_or (ends_of own) k 0)) own))
    n =
        let p = part-ends own k (omega arith) in
        ends-length own ∙ (ap length p ∙ (length-append (cut_at own 0 (take (suc k) (ends_of own))) (lines_of (drop (suc (get_or (ends_of own) k 0)) own)) ∙ rw (cut-length own 0 (take (suc k) (ends_of own)), l)))

    go : (t : Bool) → leb (length own) (suc (get_or (ends_of own) k 0)) ≡ t → suc (get_or (ends_of own) k 0) < length own
    go true t = absurd (omega (arith, n, ap length (lines_none own (suc (get_or (ends_of own) k 0)) (leb-true (length own) (suc (get_or (ends_of own) k 0)) t))))
    go false t = leb-false (length own) (suc (get_or (ends_of own) k 0)) t

-- ==== whose an identifier is, by some lines and by further ones

among-both : (ls ms : List (List ℕ)) (t : List ℕ) → among_lines (ls ++ ms) t ≡ (among_lines ls t || among_lines ms t)
unfolding among_lines
among-both [] ms t = refl
among-both (l ∷ ls) ms t = go (alike l t) refl (among-both ls ms t)
  where
    go : (b : Bool) → alike l t ≡ b → among_lines (ls ++ ms) t ≡ (among_lines ls t || among_lines ms t)
        → (alike l t || among_lines (ls ++ ms) t) ≡ ((alike l t || among_lines ls t) || among_lines ms t)
    go true b ih = rw b
    go false b ih = rw b ih

-- the answer by some lines is theirs where they tell, else that of the further ones
abbrev pub or_else : Own → Own → Own
or_else Ours o = Ours
or_else Others o = o
or_else Unreadable o = Unreadable

pub own-both : (ls ms : List (List ℕ)) (g : Got (List ℕ)) → own_of_spelled (ls ++ ms) g ≡ or_else (own_of_spelled ls g) (own_of_spelled ms g)
unfolding among_spelled
own-both ls ms nothing = refl
own-both ls ms (got i n) = go (leb (length (spelling i)) spelling_limit) (among_lines ls (spelling i)) (among_lines ms (spelling i)) refl refl
  where
    go : (b p q : Bool) → leb (length (spelling i)) spelling_limit ≡ b → among_lines ls (spelling i) ≡ p → own_if (leb (length (spelling i)) spelling_limit && among_lines (ls ++ ms) (spelling i))
        ≡ or_else (own_if (leb (length (spelling i)) spelling_limit && among_lines ls (spelling i))) (own_if (leb (length (spelling i)) spelling_limit && among_lines ms (spelling i)))
    go false p q b e = rw b
    go true true q b e = rw (b, among-both ls ms (spelling i), e)
    go true false q b e = rw (b, among-both ls ms (spelling i), e)
