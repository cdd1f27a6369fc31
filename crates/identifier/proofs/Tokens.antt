-- The token of an identifier: any token, and then bytes from 128 up and token bytes.
use Prim.Native.Nat.{ℕ, ◌+◌, ◌≤◌, ◌<◌}
use native.Mathlib.Omega.{arith}
use mathlib.Core.Path.{◌≡◌, refl, sym, ◌∙◌}
use mathlib.Core.Bool.{Bool, true, false}
use mathlib.Core.List.{List}
use lib.Dec.{leb}
use lib.ListN.{get_or, drop}
use lib.Seq.{drop-drop}
use borrow.Author.Tests.{le-leb, lt-leb}
use Rattle.base_sequences.proofs.Booleans.{or_left, or_right, or-none}
use Rattle.base_readers.specs.Places.{Reaches}
use Rattle.base_readers.proofs.Texts.{starts_first, starts-not, follows-not}
use Rattle.base_readers.proofs.Readers.{run_none, run_ends, run-from, run-narrow}
use Rattle.base_readers.proofs.Loops.{reaches-start, reaches-on}
use Rattle.lexis_rules.specs.declared.Class.TheVariants.{Token}
use Rattle.lexis_rules.specs.Bytes.{in_class}
use Rattle.lexis_rules.specs.Pieces.{token}
use Rattle.lexis_laws.proofs.Bytes.{class-zero}
use Rattle.identifier_rules.specs.Identifier.{identifier_byte, identifier_token}

pub byte_high : (b : ℕ) → 128 ≤ b → true ≡ identifier_byte b
unfolding identifier_byte
byte_high b h = rw (le-leb 128 b h) (sym (or_right (in_class Token b) true refl))

pub byte_low : (b : ℕ) → b < 128 → (r : Bool) → r ≡ in_class Token b → r ≡ identifier_byte b
unfolding identifier_byte
byte_low b h r e = rw (lt-leb 128 b h) (e ∙ sym (or-none (in_class Token b)))

byte-zero : identifier_byte 0 ≡ false
unfolding identifier_byte
byte-zero = rw (class-zero Token)

module _ (s : List ℕ) (at e : ℕ) (q : e ≡ at + token (drop at s)) where
  past : Reaches identifier_token s at e
  unfolding identifier_byte
  past = rw q (reaches-on (token (drop at s)) reaches-start (run-from identifier_byte (token (drop at s)) (drop at s) (run-narrow (in_class Token) identifier_byte (λ x t. or_left (in_class Token x) (leb 128 x) t) (drop at s))))

  no-token : in_class Token (get_or (drop e s) 0 0) ≡ false
  no-token =
      let d : drop (token (drop at s)) (drop at s) ≡ drop e s = rw (drop-drop, ← q) in
      starts_first (in_class Token) (class-zero Token) (drop e s) ∙ follows-not (in_class Token) (drop e s) (rw d at (run_ends (in_class Token) (drop at s)))

  pub token-plain : (b : ℕ) → b ≡ get_or (drop e s) 0 0 → b < 128 → e ≡ at + identifier_token (drop at s)
  token-plain b o h =
      let n : identifier_byte (get_or (drop e s) 0 0) ≡ false = sym (byte_low (get_or (drop e s) 0 0) (rw o at h) false (sym no-token)) in
      let z : identifier_token (drop e s) ≡ 0 = run_none identifier_byte (drop e s) (starts-not identifier_byte (drop e s) (sym (starts_first identifier_byte byte-zero (drop e s)) ∙ n)) in
      omega (arith, past.same)

  pub token-past : (r : ℕ) → r ≡ e + identifier_token (drop e s) → r ≡ at + identifier_token (drop at s)
  token-past r g = g ∙ past.same
