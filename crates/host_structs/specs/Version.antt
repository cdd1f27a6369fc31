-- The library's version, as the file VERSION has it: the gate compares the two.
use Rattle.std.specs.Prelude.{ℕ, ◌+◌, ◌*◌}

abbrev pub major : ℕ
major = 0

abbrev pub minor : ℕ
minor = 1

abbrev pub patch : ℕ
patch = 0

-- one number, so that a later version has a greater one
abbrev pub version_number : ℕ
version_number = 10000 * major + 100 * minor + patch
