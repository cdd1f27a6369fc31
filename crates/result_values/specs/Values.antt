-- What the code's answers on property values say (document 01, "Results": A property value is one of four kinds).
use Prim.Native.Char.{code}
use Rattle.std.specs.Prelude.{ℕ, zero, suc, ◌+◌, ◌-◌, Bool, true, false, List, ◌∷◌, ◌++◌, eqb, get_or, take, drop, Option, Some, None}
use Rattle.base_sequences.specs.Spans.{span}
use Rattle.base_readers.specs.Readers.{run}
use Rattle.base_readers.specs.Parsers.{Got, nothing, got}
use Rattle.lexis_rules.specs.Pieces.{token, quoted}
use Rattle.lexis_rules.specs.Words.{quoted_text}
use Rattle.result_values.specs.declared.Value as place
use Rattle.result_values.specs.declared.Value.TheVariants as spans
use Rattle.result_values.specs.declared.Found.{Found}
use Rattle.result_rules.specs.Results as results
use Rattle.result_rules.specs.Results.{Value, in_local_part, single_dots, domain}

-- ==== where a property value stands

-- a value that was read, with the place after it
abbrev pub read : place.Value → ℕ → Option Found
read v e = Some (record { value = v; end = e })

-- a value whose last part has n bytes from a place on, with the place after it; where that part is empty there is no value
unfoldable pub up_to : ℕ → ℕ → (ℕ → place.Value) → Option Found
up_to a zero v = None
up_to a (suc n) v = read (v (a + suc n)) (a + suc n)

-- a local part from a place up to its "@", then a domain
abbrev pub mailbox_at : List ℕ → ℕ → ℕ → Bool → Option Found
mailbox_at s start sign q = up_to (sign + 1) (domain (drop (sign + 1) s)) (λ e. spans.Mailbox start sign e q)

-- "@" at a place, then a domain, and no local part
abbrev pub at_domain_at : List ℕ → ℕ → Option Found
at_domain_at s sign = up_to (sign + 1) (domain (drop (sign + 1) s)) (λ e. spans.AtDomain sign e)

-- a run of bytes of a local part with "@" behind it: the run may have no leading, trailing or doubled dot, and an empty run makes an
-- at-domain
unfoldable pub address_at : List ℕ → ℕ → ℕ → Option Found
address_at s start sign =
    elim (eqb sign start) [
      | true ↦ at_domain_at s sign
      | false ↦ (elim (single_dots true (take (sign - start) (drop start s))) [ true ↦ mailbox_at s start sign false | false ↦ None ])
    ]

-- a quoted string up to a place, or a mailbox where "@" is directly behind it
unfoldable pub quoted_to : List ℕ → ℕ → ℕ → Option Found
quoted_to s start e = elim (eqb (get_or (drop e s) 0 0) (code "@")) [ true ↦ mailbox_at s start e true | false ↦ read (spans.Quoted start e) e ]

unfoldable pub quoted_at : List ℕ → ℕ → Option Found
quoted_at s start = elim (quoted (drop start s)) [ zero ↦ None | suc n ↦ quoted_to s start (start + suc n) ]

abbrev pub token_at : List ℕ → ℕ → Option Found
token_at s start = up_to start (token (drop start s)) (λ e. spans.Token start e)

-- where the bytes of a local part are followed by "@", an address; else what the first byte says
unfoldable pub value_from : List ℕ → ℕ → ℕ → Option Found
value_from s start sign =
    elim (eqb (get_or (drop sign s) 0 0) (code "@")) [
      | true ↦ address_at s start sign
      | false ↦ (elim (eqb (get_or (drop start s) 0 0) (code "\"")) [ true ↦ quoted_at s start | false ↦ token_at s start ])
    ]

abbrev pub value_at : List ℕ → ℕ → Option Found
value_at s start = value_from s start (start + run in_local_part (drop start s))

-- ==== kind and text

-- the text of a local part, quoted or not
abbrev pub local_text : List ℕ → ℕ → ℕ → Bool → List ℕ
local_text s a e true = quoted_text (drop a s)
local_text s a e false = span s a e

-- 01, The report: a mailbox's text is the local part's text, "@", domain; an at-domain's is "@", domain
abbrev pub value_of : List ℕ → place.Value → Value
value_of s (spans.Token a e) = record { kind = results.Token; text = span s a e }
value_of s (spans.Quoted a e) = record { kind = results.Quoted; text = quoted_text (drop a s) }
value_of s (spans.Mailbox a m e q) = record { kind = results.Mailbox; text = local_text s a m q ++ (code "@" ∷ span s (m + 1) e) }
value_of s (spans.AtDomain a e) = record { kind = results.AtDomain; text = code "@" ∷ span s (a + 1) e }

-- a property value that was found, and the place after it
abbrev pub value_got : List ℕ → Option Found → Got Value
value_got s (Some f) = got (value_of s f.value) f.end
value_got s None = nothing
