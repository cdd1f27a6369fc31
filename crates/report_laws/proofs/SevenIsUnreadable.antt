-- 01, Answer numbers: 7 is given exactly where the identifier can't be read: whatever stands behind one that was read, the number is another.
use Prim.Native.Nat.{ℕ, ◌+◌}
use native.Mathlib.Omega.{arith}
use mathlib.Core.Path.{◌≡◌, refl}
use mathlib.Core.Bool.{Bool, true, false}
use mathlib.Core.List.{List, [], ◌∷◌}
use mathlib.Core.Option.{Option, none, some}
use lib.ListN.{drop}
use Rattle.base_readers.specs.Texts.{bytes, follows}
use Rattle.base_readers.specs.Parsers.{Got, nothing, got, optional}
use Rattle.base_readers.proofs.Sequencing.{bind-none, bind-got, give-is, optional-some, optional-none}
use Rattle.lexis_rules.specs.declared.Class.TheVariants.{Delimiter}
use Rattle.lexis_rules.specs.Bytes.{in_class}
use Rattle.lexis_rules.specs.Numbers as version
use Rattle.identifier_rules.specs.Identifier.{identifier}
use Rattle.identifier_rules.specs.Version.{stated, header_version}
use Rattle.result_rules.specs.Results.{Result}
use Rattle.report_rules.specs.Body.{Head, resinfos, word_none, head, payload, headed, reading}
use Rattle.report_rules.specs.ByCase.{number_of}
use Rattle.report_rules.proofs.Unfolding.{opened}

module _ (h : Head) (xs : List ℕ) where
  payload-other : number_of (payload h.identifier xs) ≡ 7 → ⊥
  unfolding payload
  payload-other z = go (resinfos xs) refl
    where
      word : resinfos xs ≡ nothing → (w : Got Unit) → word_none xs ≡ w → ⊥
      word e nothing f = let k : ◌≡◌ {A = ℕ} 9 7 = rw (payload, e, f) at z in omega (arith, k)
      word e (got u m) f = let k : ◌≡◌ {A = ℕ} 0 7 = rw (payload, e, f) at z in omega (arith, k)

      go : (g : Got (List Result)) → resinfos xs ≡ g → ⊥
      go nothing e = word e (word_none xs) refl
      go (got [] m) e = let k : ◌≡◌ {A = ℕ} 9 7 = rw (payload, e) at z in omega (arith, k)
      go (got (r ∷ rs) m) e = let k : ◌≡◌ {A = ℕ} 0 7 = rw (payload, e) at z in omega (arith, k)

  headed-other : number_of (headed h xs) ≡ 7 → ⊥
  unfolding headed
  headed-other z = go (follows (in_class Delimiter) xs) (version.is_one (version.number_of h.version)) refl refl
    where
      go : (s t : Bool) → follows (in_class Delimiter) xs ≡ s → version.is_one (version.number_of h.version) ≡ t → ⊥
      go true true a b = payload-other (rw (headed, a, b) at z)
      go true false a b = let k : ◌≡◌ {A = ℕ} 8 7 = rw (headed, a, b) at z in omega (arith, k)
      go false t a b = let k : ◌≡◌ {A = ℕ} 9 7 = rw (headed, a) at z in omega (arith, k)

-- a body whose identifier was read answers another number
read-other : (body i : List ℕ) (n : ℕ) → identifier body ≡ got i n → number_of (reading body) ≡ 7 → ⊥
unfolding reading head
read-other body i n e z = go (stated (drop n body)) refl
  where
    by : (o : Option (List ℕ)) (m : ℕ) → optional stated (drop n body) ≡ got o m → ⊥
    by o m q =
        let h : Head = record { identifier = i; version = header_version o } in
        let r : head body ≡ got h (n + (m + 0)) = bind-got identifier _ body i n h (m + 0) e (bind-got (optional stated) _ (drop n body) o m h 0 q (give-is h (drop m (drop n body)))) in
        headed-other h (drop (n + (m + 0)) body) (rw (reading, r) at z)

    go : (g : Got (List ℕ)) → stated (drop n body) ≡ g → ⊥
    go nothing q = by none 0 (optional-none stated (drop n body) q)
    go (got v m) q = by (some v) m (optional-some stated (drop n body) v m q)

pub seven-when : (body : List ℕ) → number_of (reading body) ≡ 7 → identifier body ≡ nothing
seven-when body z = go (identifier body) refl
  where
    go : (g : Got (List ℕ)) → identifier body ≡ g → identifier body ≡ nothing
    go nothing e = e
    go (got i n) e = absurd (read-other body i n e z)

pub when-seven : (body : List ℕ) → identifier body ≡ nothing → number_of (reading body) ≡ 7
unfolding reading head
when-seven body e = let h : head body ≡ nothing = bind-none identifier _ body e in rw (reading, h)

instance : identifier (bytes " ; none") ≡ nothing
unfolding opened
instance = seven-when (bytes " ; none") refl
