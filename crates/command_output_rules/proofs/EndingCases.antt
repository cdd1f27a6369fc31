-- How a subcommand ends, and how the command does, case by case; and what words leave in a buffer.
use Prim.Native.Nat.{ℕ, ◌≤◌, ◌<◌}
use native.Mathlib.Omega.{arith}
use mathlib.Core.Path.{◌≡◌, refl, sym, ap, ◌∙◌, subst}
use mathlib.Core.Bool.{Bool, true, false}
use mathlib.Core.List.{List, [], ◌∷◌, ◌++◌, append-nil}
use denote.Enum.Declared.{tag_of}
use types.Run.{OneOf, miss}
use lib.Dec.{leb}
use lib.ListN.{length, take, drop, length-append, length-drop, drop_of_length-le}
use lib.Seq.{sets, take_all}
use borrow.Author.Tests.{eq-eqb, ne_eqb, lt-ltb, le-ltb, leb-true, leb-false}
use Rattle.base_sequences.proofs.Splices.{sets-front, put_full}
use Rattle.command_rules.specs.declared.Ending.{Ending}
use Rattle.command_rules.specs.declared.Ending.TheVariants.{Done, Usage, ListClosed, ListUnread, InputUnread, InputTooLong, OutputTooLong, Unwritten, VerdictsRefused, Refused, LinesRefused}
use Rattle.command_rules.specs.contracts.Ending.{the_type}
use Rattle.command_output_rules.specs.declared.Made.{Made}
use Rattle.command_output_rules.specs.Outputs.{front, made_of, said_of, said, worded, ending_after}

module _ (number : ℕ) (refusal : Ending) (size : ℕ) where
  pub made-refused : (number ≡ 0 → ⊥) → record { ending = refusal; written = 0 } ≡ made_of number refusal size
  unfolding made_of
  made-refused h = rw (made_of, ne_eqb number 0 h)

  pub made-done : number ≡ 0 → record { ending = Done; written = size } ≡ made_of number refusal size
  unfolding made_of
  made-done e = rw (made_of, eq-eqb number 0 e)

module _ (size room : ℕ) where
  pub said-long : room < size → record { ending = OutputTooLong; written = 0 } ≡ said_of size room
  unfolding said_of
  said-long h = rw (said_of, lt-ltb room size h)

  pub said_fits : size ≤ room → record { ending = Done; written = size } ≡ said_of size room
  unfolding said_of
  said_fits h = rw (said_of, le-ltb room size h)

-- ==== words

module _ (number : ℕ) (refusal : Ending) (text old : List ℕ) where
  pub worded-refused : (number ≡ 0 → ⊥) → worded number refusal text old ≡ record { made = record { ending = refusal; written = 0 }; left = old }
  unfolding worded
  worded-refused h = rw (worded, ne_eqb number 0 h)

  pub worded-said : number ≡ 0 → worded number refusal text old ≡ said text old
  unfolding worded
  worded-said e = rw (worded, eq-eqb number 0 e)

-- words that are stored from the front on, as far as there is room
pub stored-front : (old text : List ℕ) → sets old 0 text ≡ take (length old) (front text old)
stored-front old text = go (leb (length text) (length old)) refl
  where
    go : (t : Bool) → leb (length text) (length old) ≡ t → sets old 0 text ≡ take (length old) (front text old)
    go true e =
        let h : length text ≤ length old = leb-true (length text) (length old) e in
        let l : length (front text old) ≤ length old = omega (arith, length-append text (drop (length text) old), length-drop (length text) old, h) in
        sets-front old text h ∙ sym (take_all (length old) (front text old) l)
    go false e =
        let h : length old ≤ length text = omega (arith, leb-false (length text) (length old) e) in
        let d : front text old ≡ text = ap (λ (l : List ℕ). text ++ l) (drop_of_length-le old h) ∙ append-nil text in
        put_full {old = old} {text = text} {new = sets old 0 text} {size = length text} {k = length old} (record { count = refl; bytes = refl }) refl h ∙ ap (take (length old)) (sym d)

-- ==== once the output has gone, or not

-- an ending stays as it is, if done does: no other hangs on whether the output went
stays : (made : Made) (went : Bool) → (made.ending ≡ Done → made.ending ≡ ending_after made went) → made.ending ≡ ending_after made went
unfolding ending_after
stays made went done = go made.ending refl
  where
    go : (e : Ending) → made.ending ≡ e → made.ending ≡ ending_after made went
    go Done q = done q
    go Usage q = rw (ending_after, q)
    go ListClosed q = rw (ending_after, q)
    go ListUnread q = rw (ending_after, q)
    go InputUnread q = rw (ending_after, q)
    go InputTooLong q = rw (ending_after, q)
    go OutputTooLong q = rw (ending_after, q)
    go Unwritten q = rw (ending_after, q)
    go (VerdictsRefused sets) q = rw (ending_after, q)
    go (Refused number place) q = rw (ending_after, q)
    go (LinesRefused number place) q = rw (ending_after, q)

-- where the output has gone, the command ends as the subcommand did
pub after-gone : (made : Made) → ending_after made true ≡ made.ending
unfolding ending_after
after-gone made = sym (stays made true (λ q. rw (ending_after, q)))

pub after-done : (made : Made) (went : Bool) → made.ending ≡ Done → went ≡ true → Done ≡ ending_after made went
unfolding ending_after
after-done made went q g = rw (ending_after, q, g)

pub after-unwritten : (made : Made) (went : Bool) → made.ending ≡ Done → went ≡ false → Unwritten ≡ ending_after made went
unfolding ending_after
after-unwritten made went q g = rw (ending_after, q, g)

-- by the place among all endings: those but the first are told as they are
abbrev others : List ℕ
others = 1 ∷ 2 ∷ 3 ∷ 4 ∷ 5 ∷ 6 ∷ 7 ∷ 8 ∷ 9 ∷ 10 ∷ []

pub after-other : (made : Made) (went : Bool) → OneOf others (tag_of the_type made.ending) → made.ending ≡ ending_after made went
after-other made went k = stays made went (λ q. absurd (miss others 0 tt (subst (λ (x : Ending). OneOf others (tag_of the_type x)) q k)))
