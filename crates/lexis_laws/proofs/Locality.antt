-- How far what follows can change what a piece is: not at all behind a comment or a quoted string; else by what comes next, and the
-- condition on that is the weakest one, for it holds behind every such piece. Each law is one of `base_readers` at the piece's combinators.
use Prim.Native.Char.{code}
use Prim.Native.Nat.{ℕ, zero, suc, ◌≤◌}
use native.Mathlib.Nat.{not-suc-le-zero}
use native.Mathlib.Omega.{arith}
use mathlib.Core.Path.{◌≡◌, refl, ◌∙◌}
use mathlib.Core.Bool.{Bool, true, false, cond, ◌&&◌}
use mathlib.Core.List.{List, [], ◌∷◌}
use lib.ListN.{get_or, drop}
use Rattle.base_readers.specs.Texts.{within, one_of, outside}
use Rattle.base_readers.specs.Readers.{Reader, run, choose}
use Rattle.base_readers.specs.Locality.{Any, Ends, Follows, Local, Leaves, Shut}
use Rattle.base_readers.proofs.Texts.{starts_first, follows-not}
use Rattle.base_readers.proofs.Readers.{many-none, choose_no, passing-inv}
use Rattle.base_readers.proofs.Local.{local-weaker, run-local, many-local, choose-local, between-local, passing-local, choose-shut, between-shut, run-leaves, many-leaves, many-zero}
use Rattle.lexis_rules.specs.declared.Class.{Class}
use Rattle.lexis_rules.specs.declared.Class.TheVariants.{Blank, Opening, Digit, Keyword, Token, Quoted, Comment}
use Rattle.lexis_rules.specs.Bytes.{in_class}
use Rattle.lexis_rules.specs.Pieces.{pair, fold, escapes, item, comment, space, bare_space, token, quoted, value, unhyphened, keyword, digits}
use Rattle.lexis_laws.proofs.Bytes.{class-zero, not-blank, not-opening}
use Rattle.lexis_laws.proofs.Pieces.{item-fits, part-fits}

-- ==== one item: by the bytes that it takes

item-1 : (t u v u' v' : Bool) (n : ℕ) → cond t 1 (cond u 2 (cond v 3 0)) ≡ suc n → suc n ≤ 1 → cond t 1 (cond u' 2 (cond v' 3 0)) ≡ suc n
item-1 true u v u' v' n e h = e
item-1 false true v u' v' n e h = absurd (omega arith)
item-1 false false true u' v' n e h = absurd (omega arith)
item-1 false false false u' v' n e h = absurd (omega arith)

item-2 : (t u v v' : Bool) (n : ℕ) → cond t 1 (cond u 2 (cond v 3 0)) ≡ suc n → suc n ≤ 2 → cond t 1 (cond u 2 (cond v' 3 0)) ≡ suc n
item-2 true u v v' n e h = e
item-2 false true v v' n e h = e
item-2 false false true v' n e h = absurd (omega arith)
item-2 false false false v' n e h = absurd (omega arith)

pub item-local : (c : Class) → Local (item c) Any
unfolding item pair fold
item-local c [] x y n e h g = absurd (not-suc-le-zero h)
item-local c (b₀ ∷ []) x y n e h g =
    item-1 (in_class c b₀) (escapes c && pair (b₀ ∷ x)) (fold (b₀ ∷ x)) (escapes c && pair (b₀ ∷ y)) (fold (b₀ ∷ y)) n e h
item-local c (b₀ ∷ b₁ ∷ []) x y n e h g =
    item-2 (in_class c b₀) (escapes c && pair (b₀ ∷ b₁ ∷ x)) (fold (b₀ ∷ b₁ ∷ x)) (fold (b₀ ∷ b₁ ∷ y)) n e h
item-local c (b₀ ∷ b₁ ∷ b₂ ∷ p) x y n e h g = e

-- ==== comment and quoted: whatever follows

pub quoted-shut : Shut (item Quoted) (code "\"")
unfolding item pair fold in_class within one_of
quoted-shut xs h = rw h

comment-shut : Shut (item Comment) (code ")")
unfolding item pair fold in_class within one_of
comment-shut xs h = rw h

nested-shut : (d : ℕ) → Shut (comment d) (code ")")
unfolding comment
nested-shut zero xs h = refl
nested-shut (suc d) xs h = between-shut (code "(") (code ")") _ (code ")") refl xs h

pub quoted-local : Local quoted Any
quoted-local = between-local (item Quoted) (item-local Quoted) (code "\"") (code "\"") quoted-shut

pub comment-local : (d : ℕ) → Local (comment d) Any
unfolding comment
comment-local zero = λ p x y n e h g. absurd (omega arith)
comment-local (suc d) =
    between-local (choose (code "(") (comment d) (item Comment))
    (choose-local (code "(") (comment d) (item Comment) Any (comment-local d) (item-local Comment))
    (code "(") (code ")")
    (choose-shut (code "(") (comment d) (item Comment) (code ")") (nested-shut d) comment-shut)

-- ==== space: where what comes next begins no blank, fold or comment

part-local : (d : ℕ) (c : Class) → Local (choose (code "(") (comment d) (item c)) Any
part-local d c = choose-local (code "(") (comment d) (item c) Any (comment-local d) (item-local c)

abbrev part : Reader
part = choose (code "(") (comment 16) (item Blank)

pub space-local : Local space (Ends space)
space-local = local-weaker space (Ends part) (Ends space) (many-zero part (part-fits 16 Blank)) (many-local part (part-local 16 Blank))

pub space-leaves : Leaves space (Ends space)
space-leaves xs n e = many-none part (drop (suc n) xs) (many-leaves part (part-fits 16 Blank) xs n e)

-- ==== space, and cursors

-- where the first byte starts none of them, neither an item of space nor a comment is there
pub part-shut : (xs : List ℕ) → in_class Opening (get_or xs 0 0) ≡ false → choose 40 (comment 16) (item Blank) xs ≡ 0
unfolding item fold in_class one_of
part-shut xs e =
    choose_no 40 (comment 16) (item Blank) xs (not-opening 40 (get_or xs 0 0) refl e)
    ∙ rw (not-blank (get_or xs 0 0) e, not-opening 13 (get_or xs 0 0) refl e)

-- ==== space: where what comes next begins no blank, fold or comment

-- so it is where none of space, tab, CR and "(" comes next
pub space-none : (t : List ℕ) → Follows (outside (in_class Opening)) t → Ends space t
space-none t g = many-none part t (part-shut t (starts_first (in_class Opening) (class-zero Opening) t ∙ follows-not (in_class Opening) t g))

pub bare-space-local : Local bare_space (Ends bare_space)
bare-space-local = local-weaker bare_space (Ends (item Blank)) (Ends bare_space) (many-zero (item Blank) (item-fits Blank)) (many-local (item Blank) (item-local Blank))

pub bare-space-leaves : Leaves bare_space (Ends bare_space)
bare-space-leaves xs n e = many-none (item Blank) (drop (suc n) xs) (many-leaves (item Blank) (item-fits Blank) xs n e)

-- ==== token and digit run: where no byte of theirs comes next

pub token-local : Local token (Ends token)
token-local = run-local (in_class Token)

pub token-leaves : Leaves token (Ends token)
token-leaves = run-leaves (in_class Token)

pub digits-local : Local digits (Ends digits)
digits-local = run-local (in_class Digit)

pub digits-leaves : Leaves digits (Ends digits)
digits-leaves = run-leaves (in_class Digit)

-- ==== keyword: where no letter, digit or hyphen comes next

pub keyword-local : Local keyword (Ends (run (in_class Keyword)))
keyword-local = passing-local unhyphened (run (in_class Keyword)) (Ends (run (in_class Keyword))) (run-local (in_class Keyword))

pub keyword-leaves : Leaves keyword (Ends (run (in_class Keyword)))
keyword-leaves xs n e = run-leaves (in_class Keyword) xs n (passing-inv unhyphened (run (in_class Keyword)) xs n e).0

-- ==== value: a quoted one whatever follows, a token where no byte of a token comes next

pub value-local : Local value (Ends token)
value-local = choose-local (code "\"") quoted token (Ends token) (local-weaker quoted Any (Ends token) (λ t g. tt) quoted-local) token-local
