-- The arms of the table: what an arm gives is the entry of each of its bytes, and the last arm's of every byte that is in no other.
use Prim.Native.Nat.{ℕ, zero, suc, ◌+◌, ◌-◌, ◌<◌}
use mathlib.Core.Path.{◌≡◌, refl, sym, ap, ◌∙◌}
use mathlib.Core.Bool.{Bool, true, false, ◌||◌}
use mathlib.Core.Logic.{inl, inr}
use mathlib.Core.List.{List, [], ◌∷◌, ◌++◌, map, head-eq_of_cons-eq, tail-eq_of_cons-eq}
use lib.Dec.{T, eqb, eqb→eq}
use lib.ListN.{length, replicate, get_or}
use mir.Val.{has_key}
use types.Run.{OneOf, hit}
use Rattle.base_sequences.proofs.Tables.{tested}
use Rattle.base_readers.specs.Texts.{within, one_of}
use Rattle.base_readers.proofs.Loops.{unstopped}
use Rattle.lexis_rules.specs.Bytes.{in_class, letter}
use Rattle.lexis_classes.specs.Internal.{bits_of}
use Rattle.lexis_table.specs.Table.{entry_of}

-- an arm: what it gives, and its bytes
abbrev Arm : Type 0
Arm = ℕ × List ℕ

-- ==== an arm whose bytes all have its entry

-- what it gives, once for each of its bytes, and the entries of these
abbrev given_by : Arm → List ℕ
given_by a = replicate (length a.1) a.0

abbrev told_of : Arm → List ℕ
told_of a = map entry_of a.1

gives : (v : ℕ) (ks : List ℕ) (b : ℕ) → given_by (v, ks) ≡ told_of (v, ks) → OneOf ks b → v ≡ entry_of b
gives v [] b e h = absurd h
gives v (k ∷ []) b e h = head-eq_of_cons-eq e ∙ ap entry_of (sym h)
gives v (k ∷ k' ∷ ks) b e (inl h) = head-eq_of_cons-eq e ∙ ap entry_of (sym h)
gives v (k ∷ k' ∷ ks) b e (inr h) = gives v (k' ∷ ks) b (tail-eq_of_cons-eq e) h

abbrev arm_of : List Arm → ℕ → Arm
arm_of rest n = get_or rest n (0, [])

right-at : (rest : List Arm) (n : ℕ) → map given_by rest ≡ map told_of rest → given_by (arm_of rest n) ≡ told_of (arm_of rest n)
right-at [] n e = refl
right-at (a ∷ rest) zero e = head-eq_of_cons-eq e
right-at (a ∷ rest) (suc n) e = right-at rest n (tail-eq_of_cons-eq e)

-- ==== bytes that are in no arm; the lowest arm is told first

abbrev Left : List Arm → ℕ → Type 0
Left [] b = Unit
Left (a ∷ rest) b = Left rest b × (OneOf a.1 b → ⊥)

abbrev is_in : List Arm → ℕ → Bool
is_in [] b = false
is_in (a ∷ rest) b = has_key a.1 b || is_in rest b

not_in : (r r' : Bool) → (T r → ⊥) → r' ≡ false → (r || r') ≡ false
not_in true r' n e = absurd (n tt)
not_in false r' n e = e

left_out : (rest : List Arm) (b : ℕ) → Left rest b → is_in rest b ≡ false
left_out [] b h = refl
left_out (a ∷ rest) b h = not_in (has_key a.1 b) (is_in rest b) (λ (t : T (has_key a.1 b)). h.1 (hit a.1 b t)) (left_out rest b h.0)

gives_left : (v : ℕ) (rest : List Arm) (b : ℕ) → T (tested (λ b. is_in rest b || eqb v (entry_of b)) 0 256) → b < 256 → Left rest b → v ≡ entry_of b
gives_left v rest b t h l = eqb→eq v (entry_of b) (told (unstopped (is_in rest) (λ b. eqb v (entry_of b)) t b h (left_out rest b l)))
  where
    told : eqb v (entry_of b) ≡ true → T (eqb v (entry_of b))
    told e = rw e tt

-- ==== the arms of `lexis_table::table::entry`

-- n bytes, each two more than the one before
abbrev by_twos : ℕ → ℕ → List ℕ
by_twos b zero = []
by_twos b (suc n) = b ∷ by_twos (b + 2) n

-- all but the last, the lowest first
abbrev arms : List Arm
arms =
    (4288, by_twos 129 63)
    ∷ (4288, by_twos 128 64)
    ∷ (5888, 92 ∷ [])
    ∷ (4032, 59 ∷ [])
    ∷ (5568, 58 ∷ [])
    ∷ (6136, by_twos 49 5)
    ∷ (6136, by_twos 50 4)
    ∷ (6140, 48 ∷ [])
    ∷ (6128, 45 ∷ by_twos 65 13 ++ by_twos 97 13)
    ∷ (6128, by_twos 66 13 ++ by_twos 98 13)
    ∷ (6080, 47 ∷ 61 ∷ 63 ∷ 91 ∷ 93 ∷ [])
    ∷ (6080, 44 ∷ by_twos 60 3)
    ∷ (5952, 41 ∷ [])
    ∷ (8002, 40 ∷ [])
    ∷ (6016, 34 ∷ [])
    ∷ (6112, by_twos 33 4 ++ (43 ∷ 95 ∷ 123 ∷ 125 ∷ []))
    ∷ (6112, 36 ∷ 38 ∷ 42 ∷ 46 ∷ 94 ∷ 96 ∷ 124 ∷ 126 ∷ [])
    ∷ (2050, 13 ∷ [])
    ∷ (6595, 9 ∷ 32 ∷ [])
    ∷ (0, by_twos 1 4 ++ (11 ∷ by_twos 15 9 ++ (127 ∷ [])))
    ∷ (0, by_twos 0 16)
    ∷ []

right : map given_by arms ≡ map told_of arms
unfolding in_class letter within one_of bits_of
right = refl

-- the arms by number, from the top
abbrev arm : ℕ → Arm
arm n = arm_of arms (21 - n)

pub given : (n b : ℕ) → OneOf (arm n).1 b → (arm n).0 ≡ entry_of b
given n b h = gives (arm n).0 (arm n).1 b (right-at arms (21 - n) right) h

pub given-last : (b : ℕ) → b < 256 → Left arms b → 4288 ≡ entry_of b
unfolding in_class letter within one_of bits_of
given-last b h l = gives_left 4288 arms b tt h l
