-- Where a method and its result that the code finds stand: in order, inside the slice, and from the place that was asked for on, so that a
-- caller may cut them out and gets on. From what each reader takes being there.
use Prim.Native.Nat.{ℕ, ◌≤◌, ◌<◌}
use native.Mathlib.Omega.{arith}
use mathlib.Core.Path.{◌≡◌, refl, sym, subst}
use mathlib.Core.List.{List}
use lib.ListN.{length}
use Rattle.lexis_rules.specs.declared.VersionNumber.{VersionNumber}
use Rattle.lexis_rules.specs.Pieces.{keyword, digits}
use Rattle.lexis_laws.proofs.Pieces.{keyword-fits}
use Rattle.result_method.specs.declared.MethodVersion.{MethodVersion}
use Rattle.result_method.specs.declared.Method.{Method}
use Rattle.result_method.specs.declared.Method.TheVariants.{Read, Missing}
use Rattle.result_separators.specs.Separators.{separated}
use Rattle.result_method.specs.Methods.{unversioned, method_version_at, result_at, method_at}
use Rattle.result_separators.proofs.Separators.{all-behind, ends-inside}

version-onward : (s : List ℕ) (at : ℕ) → at ≤ (method_version_at s at).end
unfolding method_version_at
version-onward s at =
    all-behind Onward (separated 47) s at (unversioned s at) _ (omega arith)
    (λ a q l. all-behind Onward digits s a (unversioned s at) _ (omega arith) (λ e p m. omega arith))
  where
    Onward : MethodVersion → Type 0
    Onward v = at ≤ v.end

-- a method from a up to e and a result from f up to g, found at a place
pub record MethodPlaces (s : List ℕ) (at a e f g : ℕ) : Type 0 where
  pub start : a ≡ at
  pub method : a < e
  pub after : e < f
  pub result : f < g
  pub inside : g ≤ length s

abbrev MethodStands : List ℕ → ℕ → Method → Type 0
MethodStands s at (Read a e o f g) = MethodPlaces s at a e f g
MethodStands s at Missing = Unit

module _ (s : List ℕ) (at : ℕ) where
  method-stands : MethodStands s at (method_at s at)
  unfolding method_at result_at
  method-stands =
      all-behind (MethodStands s at) keyword s at Missing _ tt
      (λ e p m. all-behind (MethodStands s at) (separated 61) s (method_version_at s e).end Missing _ tt
      (λ f q n. all-behind (MethodStands s at) keyword s f Missing _ tt
      (λ g r l. record {
        start = refl;
        method = m;
        after = omega (arith, version-onward s e);
        result = l;
        inside = ends-inside keyword keyword-fits s f g r l;
      })))

  pub method-places : (a e : ℕ) (v : VersionNumber) (f g : ℕ) → Read a e v f g ≡ method_at s at → MethodPlaces s at a e f g
  method-places a e v f g h = subst (λ (m : Method). MethodStands s at m) (sym h) method-stands
