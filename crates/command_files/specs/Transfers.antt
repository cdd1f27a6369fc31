-- What can be said of a transfer, though not what is read or written.
use Rattle.std.specs.Prelude.{ℕ, zero, suc, ◌≤◌, ◌<◌, min, ◌≡◌, Option, Result, Ok, IsOk, IfOk, OnOk, IsErr, IsNone, Bool, true, false, List, eqb, ℤ, pos, negsuc, length, take}
use Rattle.std.specs.Io.KnownBytes.{Consumes, IsAtEnd, Appends}
use Rattle.command_files.specs.declared.Turn.{Turn}
use Rattle.command_files.specs.declared.Turn.TheVariants as turns

-- errno tells that a signal interrupted a call: EINTR
unfoldable pub interrupted : ℤ → Bool
interrupted (pos k) = eqb k 4
interrupted (negsuc k) = false

-- what came of a call that was handed so many bytes, by what it answered and by errno (POSIX, read and write)
unfoldable pub turn_of : ℤ → ℤ → ℕ → Turn
turn_of (pos zero) errno room = turns.Ended
turn_of (pos (suc k)) errno room = turns.Moved (min (suc k) room)
turn_of (negsuc k) errno room = elim (interrupted errno) [ true ↦ turns.Interrupted | false ↦ turns.Failed ]

-- what std answered, by what is told of it
abbrev pub Answered : {E : Type 0} → Result ℕ E → Turn → Type 0
Answered a (turns.Moved n) = a ≡ Ok n
Answered a turns.Ended = a ≡ Ok 0
Answered a turns.Interrupted = IsErr a
Answered a turns.Failed = IsErr a

-- n bytes stand in front of xs. The second part follows from the first; both are stated so that `&buf[..n]` needs no proof file.
abbrev pub IsPrefixLen : ℕ → List ℕ → Type 0
IsPrefixLen n xs = (n ≤ length xs) × (n ≡ length (take n xs))

-- the bytes that were read stand at the front of the buffer
abbrev pub Taken : {E : Type 0} → Result ℕ E → List ℕ → Type 0
Taken r buf = IfOk r (λ n. IsPrefixLen n buf)

-- of a reader that says which bytes it gives (`old` before, `new` after, None where it does not say): an input that was read whole is what it gave,
-- and where it did not fill the buffer, there are no more
abbrev pub Reads : {E : Type 0} → Option (List ℕ) → Option (List ℕ) → Result ℕ E → List ℕ → Type 0
Reads old new r buf = IfOk r (λ n. Consumes old new (take n buf) × (n < length buf → IsAtEnd new))

-- a text of no bytes is written
abbrev pub Gone : {T E : Type 0} → List ℕ → Result T E → Type 0
Gone text r = length text ≡ 0 → IsOk r

-- of a writer that says which bytes it holds (`old` before, `new` after): a text that was written is what it took
abbrev pub Writes : {T E : Type 0} → Option (List ℕ) → Option (List ℕ) → List ℕ → Result T E → Type 0
Writes old new text r = OnOk r (Appends old new text)

-- a path of no bytes is that of no file
abbrev pub Found : {T : Type 0} → List ℕ → Option T → Type 0
Found path r = length path ≡ 0 → IsNone r
