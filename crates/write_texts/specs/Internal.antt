-- What private functions say: no public contract cites these.
use Rattle.std.specs.Prelude.{ℕ, Bool, true, false, List}
use Rattle.write_rules.specs.Bodies.{guarded}

-- a text as it is written between quotes, or bare
unfoldable pub guarded_if : Bool → List ℕ → List ℕ
guarded_if true t = guarded t
guarded_if false t = t
