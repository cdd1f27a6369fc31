-- The answers, one law for each way out of the code: lines that are refused leave the buffer as it is, and those that are accepted fill its
-- front with exactly their body, copied from the first pass's buffer where it fits that, and else written by a second pass, which is lent as
-- much room as the first one measured.
use Prim.Native.Nat.{ℕ, ◌≤◌, ◌<◌}
use native.Mathlib.Omega.{arith}
use mathlib.Core.Path.{◌≡◌, sym, ap, ◌∙◌}
use mathlib.Core.List.{List, [], ◌++◌, append-nil}
use borrow.Author.Tests.{le-leb, lt-leb}
use lib.ListN.{length, take, drop, drop_of_length-le}
use lib.Seq.{sets, length-take-le, take-append_seam}
use Rattle.base_sequences.specs.Stored.{Clipped}
use Rattle.base_sequences.proofs.Splices.{sets-front}
use Rattle.base_readers.specs.Walks.{Walked}
use Rattle.lexis_rules.specs.Limits.{byte_limit}
use Rattle.write_rules.specs.Entries.{Entry}
use Rattle.write_rules.specs.Bodies.{body_of}
use Rattle.write_rules.specs.Compose.{entries, refusal, sized, answer, compose}
use Rattle.text_first_pass.specs.declared.Copy.{Copy}
use Rattle.text_first_pass.specs.declared.Copy.TheVariants.{Short, Again, Done}
use Rattle.text_first_pass.specs.Copies.{copy_of, copy_leaves}
use Rattle.text_first_pass.proofs.Copying.{when-short, when-again, when-done}
use Rattle.std.specs.Prelude.{Result, Ok, Err}
use Rattle.write_rules.specs.declared.Written.{Written}
use Rattle.write_rules.specs.Answers.{answer_of, leaves}
use Rattle.write.specs.Internal.{LinesWritten, LinesRefused, LinesPut}

module _ (room : ℕ) (w : Walked Entry) where
  answer-refused : w.number ≡ 11 → answer room w ≡ refusal 11 w.place
  unfolding answer
  answer-refused e = rw (answer, e)

  module _ (e : w.number ≡ 0) where
    sized-is : answer room w ≡ sized room (body_of w.items)
    unfolding answer
    sized-is = rw (answer, e)

    answer-long : byte_limit < length (body_of w.items) → answer room w ≡ refusal 1 0
    unfolding sized
    answer-long l = sized-is ∙ rw (sized, lt-leb (length (body_of w.items)) byte_limit l)

    module _ (l : length (body_of w.items) ≤ byte_limit) where
      answer-short : room < length (body_of w.items) → answer room w ≡ refusal 6 (length (body_of w.items))
      unfolding sized
      answer-short h = sized-is ∙ rw (sized, le-leb (length (body_of w.items)) byte_limit l, lt-leb (length (body_of w.items)) room h)

      answer-fits : length (body_of w.items) ≤ room → answer room w ≡ record { number = 0; place = 0; written = body_of w.items }
      unfolding sized
      answer-fits h = sized-is ∙ rw (sized, le-leb (length (body_of w.items)) byte_limit l, le-leb (length (body_of w.items)) room h)

short : {a b : ℕ} → a ≡ b → a ≤ b
short e = omega (arith, e)

-- ==== one law for each way out: m is what the first pass answers, which runs on a buffer of its own

-- an answer, and what it leaves
abbrev pub Answered : List ℕ → List ℕ → List ℕ → Written → Type 0
Answered s old new r = (r ≡ answer_of (compose s (length old))) × (new ≡ leaves (compose s (length old)) old)

module _ (s old : List ℕ) where
  refuses : (n p : ℕ) → compose s (length old) ≡ refusal n p → Answered s old old (record { number = n; place = p; written = 0 })
  refuses n p q = (rw q, rw q)

  pub answer-11 : (own scratch : List ℕ) (n : ℕ) → LinesRefused (entries s) own scratch n → Answered s old old (record { number = 11; place = n; written = 0 })
  unfolding compose
  answer-11 own scratch n k = refuses 11 n (answer-refused (length old) (entries s) k.number ∙ ap (refusal 11) k.place)

  module _ (own scratch : List ℕ) (m : ℕ) (k : LinesWritten (entries s) own scratch m) where
    well : (entries s).number ≡ 0
    well = k.number

    clip : Clipped own 0 (body_of (entries s).items) scratch m
    clip = k.put

    pub answer-1 : byte_limit < m → Answered s old old (record { number = 1; place = 0; written = 0 })
    unfolding compose
    answer-1 z = refuses 1 0 (answer-long (length old) (entries s) well (omega (arith, clip.place, z)))

    module _ (low : m ≤ byte_limit) where
      needed : m ≡ length (body_of (entries s).items)
      needed = omega (arith, clip.place, low)

      short-body : length (body_of (entries s).items) ≤ byte_limit
      short-body = omega (arith, needed, low)

      -- all of it is written over the front
      fills : m ≤ length old → (new : List ℕ) → new ≡ body_of (entries s).items ++ drop (length (body_of (entries s).items)) old
          → Answered s old new (record { number = 0; place = 0; written = m })
      unfolding compose
      fills l new b =
          let q : compose s (length old) ≡ record { number = 0; place = 0; written = body_of (entries s).items } =
          answer-fits (length old) (entries s) well short-body (rw needed at l) in
          (rw (q, needed), rw q b)

      -- c is what became of what the first pass wrote, and `new` what the lent buffer holds then
      module _ (new : List ℕ) (c : Copy) (e : c ≡ copy_of (length scratch) m (length old)) (v : new ≡ copy_leaves c scratch m old) where
        pub answer-6 : c ≡ Short → Answered s old new (record { number = 6; place = m; written = 0 })
        unfolding compose
        answer-6 q =
            let w = when-short scratch m old new c e v q in
            rw w.same (refuses 6 m (answer-short (length old) (entries s) well short-body (rw needed at w.more) ∙ ap (refusal 6) (sym needed)))

        -- it was copied from the first pass's buffer
        pub answer-copied : c ≡ Done → Answered s old new (record { number = 0; place = 0; written = m })
        answer-copied q =
            let w = when-done scratch m old new c e v q in
            let f : length (body_of (entries s).items) ≤ length own = omega (arith, w.whole, k.long, needed) in
            let b : scratch ≡ body_of (entries s).items ++ drop (length (body_of (entries s).items)) own =
            clip.bytes ∙ sets-front own (body_of (entries s).items) f in
            let t : take m scratch ≡ body_of (entries s).items =
            rw (needed, b) (take-append_seam (body_of (entries s).items) (drop (length (body_of (entries s).items)) own)) in
            fills w.fits new (w.text ∙ (ap (sets old 0) t ∙ sets-front old (body_of (entries s).items) (omega (arith, w.fits, needed))))

        -- it is written by a second pass, which is lent as much as it takes
        pub again-fits : c ≡ Again → m ≤ length new
        again-fits q = let w = when-again scratch m old new c e v q in omega (arith, w.fits, ap length w.same)

        pub answer-written : c ≡ Again → (out : List ℕ) (r : Result ℕ ℕ) → LinesPut (entries s) (take m new) out r
            → Answered s old (out ++ drop m new) (record { number = 0; place = 0; written = m })
        answer-written q out (Err n) d = absurd (omega (arith, d.number, well))
        answer-written q out (Ok r) d =
            let w = when-again scratch m old new c e v q in
            let f : length (take m new) ≡ length (body_of (entries s).items) = length-take-le m new (again-fits q) ∙ needed in
            let p : Clipped (take m new) 0 (body_of (entries s).items) out r = d.put in
            let z : drop (length (body_of (entries s).items)) (take m new) ≡ [] = drop_of_length-le (take m new) (short f) in
            let t : out ≡ body_of (entries s).items =
            p.bytes ∙ (sets-front (take m new) (body_of (entries s).items) (omega (arith, f)) ∙ (ap (λ (x : List ℕ). body_of (entries s).items ++ x) z ∙ append-nil (body_of (entries s).items))) in
            fills w.fits (out ++ drop m new) (rw (t, needed, w.same))
