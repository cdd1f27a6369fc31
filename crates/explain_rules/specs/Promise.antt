-- What the theorems on `explained` speak of.
use Prim.Native.Char.{code}
use Rattle.std.specs.Prelude.{ℕ, ◌+◌, Bool, true, false, cond, ◌||◌, List, [], ◌∷◌, eqb}
use Rattle.base_readers.specs.Texts.{within}
use Rattle.explain_rules.specs.declared.Line.{Line}
use Rattle.explain_rules.specs.declared.Line.TheVariants.{Field, Identifier, Version, NoResult, Method, Reason, Property, Other}
use Rattle.explain_rules.specs.Explained.{kind_of_line}

-- LF, or one of 32 to 126
unfoldable pub plain : ℕ → Bool
plain x = eqb x (code "\n") || within 32 126 x

-- the most bytes that a byte of a report's lines is shown with
unfoldable pub weight : ℕ → ℕ
weight x = cond (within 32 126 x) 2 4

unfoldable pub weighed : List ℕ → ℕ
weighed [] = 0
weighed (x ∷ xs) = weight x + weighed xs

-- the most bytes of our own that a line of this kind is said with, the quotes of its texts among them
unfoldable pub most : Line → ℕ
most Field = 175
most Identifier = 27
most Version = 24
most NoResult = 31
most Method = 13
most Reason = 12
most Property = 11
most Other = 0

unfoldable pub added : List (List ℕ) → ℕ
added [] = 0
added (l ∷ ls) = most (kind_of_line l) + added ls

-- how many of these lines are of a field, and how many stand in front of its results
unfoldable pub is_field : Line → Bool
is_field Field = true
is_field Identifier = false
is_field Version = false
is_field NoResult = false
is_field Method = false
is_field Reason = false
is_field Property = false
is_field Other = false

unfoldable pub is_head : Line → Bool
is_head Field = true
is_head Identifier = true
is_head Version = true
is_head NoResult = true
is_head Method = false
is_head Reason = false
is_head Property = false
is_head Other = false

unfoldable pub field_lines : List (List ℕ) → ℕ
field_lines [] = 0
field_lines (l ∷ ls) = cond (is_field (kind_of_line l)) 1 0 + field_lines ls

unfoldable pub head_lines : List (List ℕ) → ℕ
head_lines [] = 0
head_lines (l ∷ ls) = cond (is_head (kind_of_line l)) 1 0 + head_lines ls
