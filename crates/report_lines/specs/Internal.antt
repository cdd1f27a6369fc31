-- What private functions say: no public contract cites these.
use Prim.Native.Char.{code}
use Rattle.std.specs.Prelude.{ℕ, ◌+◌, Bool, true, false, List, [], ◌∷◌}
use Rattle.result_values.specs.declared.Value as place
use Rattle.result_values.specs.declared.Value.TheVariants as at
use Rattle.base_sequences.specs.Spans.{span}
use Rattle.report_lines.specs.declared.Parts.{Parts}

-- the parts of a property value: a mailbox is a text and then "@" and its domain, an at-domain is the same with no text
abbrev pub parts_of : place.Value → Parts
parts_of (at.Token a e) = record { letter = code "t"; start = a; end = e; quoted = false; signed = false; last = e }
parts_of (at.Quoted a e) = record { letter = code "q"; start = a; end = e; quoted = true; signed = false; last = e }
parts_of (at.Mailbox a m e q) = record { letter = code "m"; start = a; end = m; quoted = q; signed = true; last = e }
parts_of (at.AtDomain a e) = record { letter = code "a"; start = a; end = a; quoted = false; signed = true; last = e }

-- "@" and the domain behind its place up to e, or nothing
abbrev pub domain_text : List ℕ → Bool → ℕ → ℕ → List ℕ
domain_text s true sign e = code "@" ∷ span s (sign + 1) e
domain_text s false sign e = []
