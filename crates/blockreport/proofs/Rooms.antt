-- Texts that are written where there is room for all of them: what a field adds, and in a loop what all fields add.
use Prim.Native.Nat.{ℕ, ◌+◌, ◌≤◌, min}
use native.Mathlib.Omega.{arith}
use mathlib.Core.Path.{◌≡◌, refl, sym, ap, ◌∙◌}
use mathlib.Core.List.{List, [], ◌++◌}
use lib.ListN.{length, length-append}
use lib.Seq.{sets}
use Rattle.base_sequences.specs.Stored.{cap}
use Rattle.base_sequences.proofs.Splices.{sets-append}
use Rattle.base_readers.specs.Parsers.{Got}
use Rattle.lexis_rules.specs.Limits.{byte_limit}
use Rattle.ownlist_rules.specs.declared.Own.{Own}
use Rattle.blockreport_rules.specs.declared.Detail.{Detail}
use Rattle.blockreport_rules.specs.BlockReport.{addition}
use Rattle.blockreport_fields.specs.Addends.{field_addend, place_after, buffer_after}
use Rattle.blockreport_fields.proofs.AddendIsAddition.{all_of, addend-is, addend-fits, addend-long}

-- `text` belongs in `old` from `to` on: where there is room for all of it the buffer then holds `new`, and else only its length is told. `next` is the
-- place after the whole text, at most the largest one
pub record PutIfRoom (old : List ℕ) (to : ℕ) (text new : List ℕ) (next : ℕ) : Type 0 where
  pub place : next ≡ min (to + length text) cap
  pub long : length new ≡ length old
  pub bytes : to + length text ≤ length old → new ≡ sets old to text

-- what a field adds is written
pub addend-put : (detail : Detail) (whose : Got (List ℕ) → Own) (n : ℕ) (name s old : List ℕ) (to : ℕ) (new : List ℕ) (next : ℕ) → length s ≤ byte_limit
    → (next ≡ place_after (field_addend detail whose n name s) to) × (new ≡ buffer_after (field_addend detail whose n name s) old to) → PutIfRoom old to (addition detail whose n name s) new next
addend-put detail whose n name s old to new next l w =
    let a = field_addend detail whose n name s in
    let e : all_of a ≡ addition detail whose n name s = addend-is detail whose n name s l in
    let k : length (addition detail whose n name s) ≡ length a.line + (length a.text + length a.id) =
    ap length (sym e) ∙ (length-append a.line (a.text ++ a.id) ∙ omega (arith, length-append a.text a.id)) in
    record {
      place = omega (arith, w.0, k);
      long = ap length w.1 ∙ addend-long a old to;
      bytes = λ f. w.1 ∙ (addend-fits a old to (omega (arith, f, k)) ∙ ap (sets old to) e);
    }

-- ==== loops: what is still to be written, `text` from `at` on, ends as `whole` from the start would have, where there is room for that

pub record Filling (old whole out : List ℕ) (at : ℕ) (text : List ℕ) : Type 0 where
  pub place : at + length text ≡ length whole
  pub long : length out ≡ length old
  pub bytes : length whole ≤ length old → sets out at text ≡ sets old 0 whole

pub filling-start : (l t : List ℕ) → Filling l t l 0 t
filling-start l t = record { place = omega arith; long = refl; bytes = λ h. refl }

-- a turn writes the text's first part
pub filling_step : {old whole out out' text x rest : List ℕ} {at at' : ℕ} → Filling old whole out at text → text ≡ x ++ rest → at + length x ≤ cap
    → PutIfRoom out at x out' at' → Filling old whole out' at' rest
filling_step {old} {whole} {out} {out'} {text} {x} {rest} {at} {at'} l e h w =
    let n = length-append x rest in
    let m = ap length e in
    let q : at' ≡ at + length x = omega (arith, w.place, h) in
    record {
      place = omega (arith, n, m, l.place, q);
      long = w.long ∙ l.long;
      bytes = λ f.
          rw (w.bytes (omega (arith, n, m, l.place, l.long, f)), q, ← sets-append out at x rest, ← e) (l.bytes f);
    }

pub filling-done : {old whole out text : List ℕ} {at : ℕ} → Filling old whole out at text → text ≡ []
    → (at ≡ length whole) × (length whole ≤ length old → out ≡ sets old 0 whole)
filling-done {old} {whole} {out} {text} {at} l e = (omega (arith, ap length e, l.place), λ f. ap (λ (t : List ℕ). sets out at t) (sym e) ∙ l.bytes f)
