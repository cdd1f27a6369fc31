-- Property values at worked examples, computed: where each stands, and its kind and text.
use mathlib.Core.Path.{◌≡◌, refl}
use mathlib.Core.Bool.{true, false}
use mathlib.Core.List.{[], ◌∷◌, ◌++◌}
use Rattle.base_readers.specs.Texts.{bytes}
use Rattle.base_readers.specs.Parsers.{nothing, got}
use Rattle.base_readers.proofs.Cases.{case, Says, copies}
use Rattle.result_values.specs.declared.Value.TheVariants as at
use Rattle.std.specs.Prelude.{None}
use Rattle.result_rules.specs.Results.{Token, Quoted, Mailbox, AtDomain}
use Rattle.result_values.specs.Values.{read, up_to, address_at, quoted_to, quoted_at, value_from, value_at, value_got}
use Rattle.result_rules.proofs.Unfolding.{opened}

unfoldable placed : Unit {0}
unfolding opened up_to address_at quoted_to quoted_at value_from
placed = tt

-- one of four kinds
kinds :
    Says (λ t. value_at t 0)
    (case (bytes "example.net") (read (at.Token 0 11) 11)
    ∷ case (bytes "a;b") (read (at.Token 0 1) 1)
    ∷ case (bytes "a/b") (read (at.Token 0 1) 1)
    ∷ case (bytes "a..b smtp.x=y") (read (at.Token 0 4) 4)
    ∷ case (bytes "\"a b\" ") (read (at.Quoted 0 5) 5)
    ∷ case (bytes "\"\";") (read (at.Quoted 0 2) 2)
    ∷ case (bytes "a.b@c.example") (read (at.Mailbox 0 3 13 false) 13)
    ∷ case (bytes "a/=?b@c.d;") (read (at.Mailbox 0 5 9 false) 9)
    ∷ case (bytes "\"a\\@b\"@c.d(x)") (read (at.Mailbox 0 6 10 true) 10)
    ∷ case (bytes "@c-d.1e ") (read (at.AtDomain 0 7) 7)
    ∷ [])
unfolding placed
kinds = refl

-- there is nothing else to try
refused :
    Says (λ t. value_at t 0)
    (case [] None
    ∷ case (bytes " a") None
    ∷ case (bytes "=a") None
    ∷ case (bytes "\"a") None
    ∷ case (bytes ".a@b.c") None
    ∷ case (bytes "a.@b.c") None
    ∷ case (bytes "a..b@c.d") None
    ∷ case (bytes ".@b.c") None
    ∷ case (bytes "a@") None
    ∷ case (bytes "a@b") None
    ∷ case (bytes "a@b.") None
    ∷ case (bytes "a@.b") None
    ∷ case (bytes "a@b..c") None
    ∷ case (bytes "a@-b.c") None
    ∷ case (bytes "a@b-.c") None
    ∷ case (bytes "a@b.c-") None
    ∷ case (bytes "@b") None
    ∷ case (bytes "\"a\"@b") None
    ∷ case (bytes "a@\"b\"") None
    ∷ [])
unfolding placed
refused = refl

-- at a place further on, and past the end
further :
    Says (λ t. value_at t 14)
    (case (bytes "smtp.mailfrom=a@b.c;") (read (at.Mailbox 14 15 19 false) 19)
    ∷ case (bytes "smtp.mailfrom=") None
    ∷ case (bytes "a@b.c") None
    ∷ [])
unfolding placed
further = refl

-- kind and text
texts :
    Says (λ t. value_got t (value_at t 1))
    (case (bytes "=a.b ") (got (record { kind = Token; text = bytes "a.b" }) 4)
    ∷ case (bytes "=\"a\\\"\r\n b\"") (got (record { kind = Quoted; text = bytes "a\" b" }) 10)
    ∷ case (bytes "=x@c.d") (got (record { kind = Mailbox; text = bytes "x@c.d" }) 6)
    ∷ case (bytes "=\"x y\"@c.d") (got (record { kind = Mailbox; text = bytes "x y@c.d" }) 10)
    ∷ case (bytes "=@c.d") (got (record { kind = AtDomain; text = bytes "@c.d" }) 5)
    ∷ case (bytes "=@c") nothing
    ∷ [])
unfolding placed
texts = refl

-- a long one
long : value_at (copies 300 97 ++ (64 ∷ (copies 300 98 ++ bytes ".c"))) 0 ≡ read (at.Mailbox 0 300 603 false) 603
unfolding placed
long = refl
