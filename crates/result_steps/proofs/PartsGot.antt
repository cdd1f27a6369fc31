-- What the code finds by places is what the grammar's parsers yield there, with its texts: one theorem for each reader. Those that are
-- handed where a space ends are asked with the place where it does.
use Prim.Native.Nat.{ℕ}
use mathlib.Core.Path.{◌≡◌}
use mathlib.Core.Bool.{true}
use mathlib.Core.List.{List}
use lib.ListN.{drop}
use Rattle.base_readers.specs.Places.{from}
use Rattle.result_rules.specs.Results.{methodspec, reason, property}
use Rattle.result_steps.specs.declared.Step.TheVariants as step
use Rattle.result_method.specs.Methods.{method_at, method_got}
use Rattle.result_parts.specs.Parts.{reason_at, reason_got, label_at, label_got, names}
use Rattle.result_steps.specs.Steps.{closes, step_at, property_got}
use Rattle.result_method.proofs.Methods as methods
use Rattle.result_parts.proofs.Reasons as reasons
use Rattle.result_parts.proofs.Labels as labels
use Rattle.result_steps.proofs.Steps as steps

-- `result_method::method_at`: a method, its version and its result
pub method-got : (s : List ℕ) (at : ℕ) → method_got s (method_at s at) ≡ from methodspec s at
method-got = methods.method-got

-- `result_parts::reason_from`: a reason
pub reason-got : (s : List ℕ) (at : ℕ) → reason_got s (reason_at s at) ≡ from reason s at
reason-got = reasons.reason-got

-- `result_parts::label_from`: ptype and property
pub label-got : (s : List ℕ) (at : ℕ) → label_got s (label_at s at) ≡ from names s at
label-got = labels.label-got

-- `step_from`: a whole property
pub step-got : (s : List ℕ) (at : ℕ) → property_got s (step_at s at) ≡ from property s at
step-got = steps.step-got

-- and where it says that the result is done, the end or ";" comes after the longest space
pub step-done : (s : List ℕ) (at : ℕ) → step.Done ≡ step_at s at → closes (drop at s) ≡ true
step-done = steps.step-done
