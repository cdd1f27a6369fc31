-- The lines of a report as their columns one after another: the columns stored one after another are the line stored. Each line opens by
-- computation to its columns, tabs and LF. The premises are literally what a need is handed.
use Prim.Native.Nat.{ℕ, ◌+◌, ◌-◌, ◌≤◌, ◌<◌, ◌^◌}
use native.Mathlib.Omega.{arith}
use mathlib.Core.Path.{◌≡◌, refl}
use mathlib.Core.Bool.{Bool, true, false}
use mathlib.Core.List.{List, [], ◌∷◌, ◌++◌, map, append_assoc}
use mathlib.Core.Option.{some}
use lib.ListN.{length, drop}
use Rattle.base_sequences.specs.Stored.{cap, Clipped, Put}
use Rattle.base_sequences.proofs.Clips.{clipped-cap, put-clipped}
use Rattle.base_readers.specs.Texts.{bytes}
use Rattle.lexis_rules.specs.Bytes.{lower}
use Rattle.lexis_rules.specs.Words.{quoted_text, keyword_text}
use Rattle.identifier.specs.Answers.{text_of}
use Rattle.result_values.specs.declared.Value as place
use Rattle.result_values.specs.declared.Value.TheVariants as at
use Rattle.result_rules.specs.Results.{Value}
use Rattle.result_values.specs.Values.{value_of}
use Rattle.base_sequences.specs.Spans.{span}
use Rattle.base_sequences.proofs.Spans.{span_none}
use Rattle.report_rules.specs.Report.{escape, line, id_line, version_line, none_line, reason_line, letter_of, property_line}
use Rattle.report_lines.specs.declared.Parts.{Parts}
use Rattle.report_lines.specs.Lines.{value_columns}
use Rattle.report_lines.specs.Internal.{parts_of, domain_text}
use Rattle.report_escape.proofs.Escape.{clipped-two, clipped-three, clipped-four, escape-none, escape-sign, escape-append}

-- ==== the text of a value, quoted or not

module _ (s : List ℕ) (a e : ℕ) (q : Bool) (to : ℕ) (old new : List ℕ) (n : ℕ) where
  pub quoted-put : q ≡ true → Clipped old to (escape (quoted_text (drop a s))) new n → Clipped old to (escape (text_of s a e q)) new n
  quoted-put t w = rw t w

  pub bare-put : q ≡ false → (x : List ℕ) → x ≡ span s a e → Clipped old to (escape x) new n → Clipped old to (escape (text_of s a e q)) new n
  bare-put f x p w = rw (f, ← p) w

-- ==== a tab and a keyword

module _ (s : List ℕ) (a e to : ℕ) (o₀ o₁ o₂ : List ℕ) (n k : ℕ) (h : length o₀ < 2 ^ 64) (w : Clipped o₀ to (9 ∷ []) o₁ n)
    (x : List ℕ) (p : x ≡ span s a e) (u : Put o₁ n (map lower x) o₂ k) where
  pub keyword-put : k < cap - n → Clipped o₀ to (9 ∷ map lower (span s a e)) o₂ (n + k)
  keyword-put l = clipped-two h w (rw p at (put-clipped {next = n + k} u (omega arith)))

  pub keyword-full : cap - n ≤ k → Clipped o₀ to (9 ∷ map lower (span s a e)) o₂ cap
  keyword-full l = clipped-two h w (rw p at (put-clipped {next = cap} u (omega (arith, clipped-cap w))))

-- ==== "@" and a domain, or nothing

module _ (s : List ℕ) (q : Bool) (sign e to : ℕ) (o₀ : List ℕ) where
  pub unsigned-put : q ≡ false → to < 2 ^ 64 → Clipped o₀ to (escape (domain_text s q sign e)) o₀ to
  unsigned-put f h = rw (f, escape-none) (record { place = omega arith; bytes = refl })

  module _ (t : q ≡ true) (o₁ : List ℕ) (n : ℕ) (w : Clipped o₀ to (64 ∷ []) o₁ n) where
    pub domain-put : length o₀ < 2 ^ 64 → (x : List ℕ) (a : ℕ) → x ≡ span s a e → a ≡ sign + 1 → (o₂ : List ℕ) (m : ℕ) → Clipped o₁ n (escape x) o₂ m
        → Clipped o₀ to (escape (domain_text s q sign e)) o₂ m
    domain-put h x a p z o₂ m u = rw (t, escape-sign, ← z, ← p) (clipped-two h w u)

    pub domain-none : e ≤ sign → Clipped o₀ to (escape (domain_text s q sign e)) o₁ n
    domain-none l = rw (t, escape-sign, ← span_none s (sign + 1) e (omega arith), escape-none) w

-- ==== lines

-- the last two columns of a property by the parts of its value
value-opens : (s : List ℕ) (v : place.Value)
    → value_columns (value_of s v) ≡ 9 ∷ (parts_of v).letter ∷ 9 ∷ (escape (text_of s (parts_of v).start (parts_of v).end (parts_of v).quoted)
    ++ (escape (domain_text s (parts_of v).signed (parts_of v).end (parts_of v).last) ++ (10 ∷ [])))
unfolding letter_of
value-opens s (at.Token a e) = rw escape-none
value-opens s (at.Quoted a e) = rw escape-none
value-opens s (at.Mailbox a m e true) = rw (escape-append, append_assoc)
value-opens s (at.Mailbox a m e false) = rw (escape-append, append_assoc)
value-opens s (at.AtDomain a e) = let z : a - a ≡ 0 = omega arith in rw (z, escape-none)

module _ (to : ℕ) (o₀ o₁ o₂ o₃ : List ℕ) (i j k : ℕ) (h : length o₀ < 2 ^ 64) where
  pub reason-put : (t : List ℕ) → Clipped o₀ to (114 ∷ 9 ∷ []) o₁ i → Clipped o₁ i (escape t) o₂ j → Clipped o₂ j (10 ∷ []) o₃ k
      → Clipped o₀ to (reason_line (some t)) o₃ k
  unfolding reason_line line
  reason-put t u v w = clipped-three h u v w

  pub id-put : (t : List ℕ) → Clipped o₀ to (105 ∷ 100 ∷ 9 ∷ []) o₁ i → Clipped o₁ i (escape t) o₂ j → Clipped o₂ j (10 ∷ []) o₃ k
      → Clipped o₀ to (id_line t) o₃ k
  unfolding id_line line
  id-put t u v w = clipped-three h u v w

  pub version-put : (t : List ℕ) → Clipped o₀ to (118 ∷ 9 ∷ []) o₁ i → Clipped o₁ i t o₂ j → Clipped o₂ j (10 ∷ []) o₃ k
      → Clipped o₀ to (version_line t) o₃ k
  unfolding version_line line
  version-put t u v w = clipped-three h u v w

  module _ (o₄ : List ℕ) (l : ℕ) where
    pub value-put : (s : List ℕ) (v : place.Value) (p : Parts) → p ≡ parts_of v → Clipped o₀ to (9 ∷ p.letter ∷ 9 ∷ []) o₁ i
        → Clipped o₁ i (escape (text_of s p.start p.end p.quoted)) o₂ j
        → Clipped o₂ j (escape (domain_text s p.signed p.end p.last)) o₃ k → Clipped o₃ k (10 ∷ []) o₄ l
        → Clipped o₀ to (value_columns (value_of s v)) o₄ l
    value-put s v p e u x w z = rw (value-opens s v, ← e) (clipped-four h u x w z)

    pub method-put : (x y : List ℕ) → Clipped o₀ to (109 ∷ []) o₁ i → Clipped o₁ i (9 ∷ map lower x) o₂ j → Clipped o₂ j (9 ∷ map lower y) o₃ k
        → Clipped o₃ k (10 ∷ []) o₄ l → Clipped o₀ to (line (bytes "m" ∷ keyword_text x ∷ keyword_text y ∷ [])) o₄ l
    unfolding line
    method-put x y u v w p = clipped-four h u v w p

    pub property-put : (x y : List ℕ) (z : Value) → Clipped o₀ to (112 ∷ []) o₁ i → Clipped o₁ i (9 ∷ map lower x) o₂ j
        → Clipped o₂ j (9 ∷ map lower y) o₃ k → Clipped o₃ k (value_columns z) o₄ l
        → Clipped o₀ to (property_line (record { ptype = keyword_text x; property = keyword_text y; value = z })) o₄ l
    unfolding property_line line
    property-put x y z u v w p = clipped-four h u v w p

pub none-put : (old new : List ℕ) (to n : ℕ) → Clipped old to (110 ∷ 111 ∷ 110 ∷ 101 ∷ 10 ∷ []) new n → Clipped old to none_line new n
unfolding none_line line
none-put old new to n w = w
