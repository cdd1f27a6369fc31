-- The lines of the endings that have no number or place of their own, as one text, for private functions. No public contract cites these.
use Rattle.std.specs.Prelude.{ℕ, List}
use Rattle.base_readers.specs.Texts.{bytes}

abbrev pub tolds : List ℕ
tolds =
    bytes "orbendash: 0: done\n|orbendash: 64: usage: orbendash strip LIST < BLOCK, the same with report or explain, orbendash check LIST, orbendash judge VERDICTS < BLOCK, orbendash write < LINES or orbendash --help\n|orbendash: 66: the list can't be opened\n|orbendash: 66: the list can't be read\n|orbendash: 74: standard input can't be read\n|orbendash: 74: standard input can't be read whole: it has more than 262,144 bytes\n|orbendash: 70: the output is too long\n|orbendash: 74: standard output can't be written\n"
