-- What judging promises beyond its contract. Each theorem is about the definitions that the contract of `arc::judge` cites; the first is
-- demand 2's sentence on chains, with an instance of its use.
use Prim.Native.Nat.{ℕ, ◌≤◌}
use mathlib.Core.Path.{◌≡◌, refl, sym, ap, ◌∙◌}
use mathlib.Core.Bool.{true, false}
use mathlib.Core.List.{List, ◌++◌, Memᴰ}
use lib.ListN.{length}
use borrow.Author.Tests.{le-ltb}
use Rattle.base_readers.specs.Texts.{bytes}
use Rattle.lexis_rules.specs.Limits.{byte_limit}
use Rattle.block_rules.specs.Fields.{Field, fields}
use Rattle.arc_rules.specs.Chain.{built, outcome, valid_for, Answer, blank, judged, judge}
use Rattle.arc_rules.specs.Accepted.{kind_of, is_arc, Accepted}
use Rattle.arc_rules.proofs.Unfolding.{opened}
use Rattle.arc_laws.proofs.Acceptance.{accepted-exactly, none-without}
use Rattle.arc_rules.specs.Terms.{Known, BadVerdicts}
use Rattle.arc_laws.proofs.Numbers.{built-when, when-built, none-when}
use Rattle.arc_laws.proofs.Answering.{judge-is, outcome-none, judge-unread, ten-bad, bad-ten}

-- An ARC structure is accepted exactly when every ARC field reads, and instances 1 to N, N from 1 to 50, each have one field of each kind
-- and the chain values RFC 8617 prescribes.
pub built-exactly : (fs : List Field) (n : ℕ) → (outcome fs ≡ built n → Accepted fs n) × (Accepted fs n → outcome fs ≡ built n)
built-exactly = accepted-exactly

-- `judge` answers built exactly then, where the walk over the block comes to its end and there are N verdicts from 0 to 3.
pub judge-built : (block vs : List ℕ) (n : ℕ) → Known block → valid_for n vs ≡ true
    → (((judge block vs).outcome ≡ 2) × ((judge block vs).instances ≡ n) → Accepted (fields block).items n)
    × (Accepted (fields block).items n → ((judge block vs).outcome ≡ 2) × ((judge block vs).instances ≡ n))
judge-built block vs n k v = (there, back)
  where
    there : ((judge block vs).outcome ≡ 2) × ((judge block vs).instances ≡ n) → Accepted (fields block).items n
    there e =
        let b = built-when block vs e.0 in
        let m : b.0 ≡ n = sym (ap (λ (x : Answer). x.instances) b.1.1.1) ∙ e.1 in
        (built-exactly (fields block).items n).0 (b.1.1.0 ∙ ap built m)

    back : Accepted (fields block).items n → ((judge block vs).outcome ≡ 2) × ((judge block vs).instances ≡ n)
    back a = let e = when-built block vs n k ((built-exactly (fields block).items n).1 a) v in (rw e, rw e)

-- A block with no ARC field is none, whatever the verdicts.
pub none-whatever : (block : List ℕ) → length block ≤ byte_limit → (fields block).number ≡ 0
    → ((f : Field) → Memᴰ f (fields block).items → is_arc (kind_of f) ≡ false) → (verdicts : List ℕ) → judge block verdicts ≡ blank 0 0
unfolding judged
none-whatever block small sound others verdicts =
    judge-is block verdicts (le-ltb byte_limit (length block) small) sound ∙ rw (outcome-none (fields block).items others)

-- None exactly there: the walk comes to its end, and no field is an ARC field.
pub none-exactly : (block vs : List ℕ) → Known block
    → (((judge block vs).number ≡ 0) × ((judge block vs).outcome ≡ 0) → (f : Field) → Memᴰ f (fields block).items → is_arc (kind_of f) ≡ false)
    × (((f : Field) → Memᴰ f (fields block).items → is_arc (kind_of f) ≡ false) → judge block vs ≡ blank 0 0)
none-exactly block vs k =
    ((λ e. none-without (fields block).items (none-when block vs k e.0 e.1)), (λ h. none-whatever block k.0 k.1 h vs))

-- Verdicts are read only where the chain is built.
pub unread-unless-built : (block vs ws : List ℕ) → ((judge block vs).outcome ≡ 2 → ⊥) → ((judge block vs).number ≡ 10 → ⊥) → judge block vs ≡ judge block ws
unread-unless-built = judge-unread

-- The answer is 10 exactly then.
pub ten-exactly : (block vs : List ℕ) → ((judge block vs).number ≡ 10 → BadVerdicts block vs) × (BadVerdicts block vs → (judge block vs).number ≡ 10)
ten-exactly block vs = (there, λ b. bad-ten block vs b.instances b.small b.sound b.chain b.bad)
  where
    there : (judge block vs).number ≡ 10 → BadVerdicts block vs
    there e =
        let b = ten-bad block vs e in
        record { small = b.1.0; sound = b.1.1.0; instances = b.0; chain = b.1.1.1.0; bad = b.1.1.1.1 }

-- ==== an instance

-- one set, in an order of its own, with a field of another name between
abbrev pub one : List ℕ
one =
    bytes "ARC-Seal: i=1; cv=none; a=; b=; d=; s=\r\n"
    ++ (bytes "From: a\r\n" ++ (bytes "arc-authentication-results: (c) i=01; a; none\r\n" ++ bytes "ARC-Message-Signature: i=1; a=;b=;bh=;d=;h=;s=\r\n"))

one-accepted : Accepted (fields one).items 1
unfolding opened
one-accepted = (built-exactly (fields one).items 1).0 refl
