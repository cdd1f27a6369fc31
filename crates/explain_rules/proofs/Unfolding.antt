-- Every definition of what is said of a report opened at once: `unfolding opened` lets a proof compute with all of them.
use Rattle.base_readers.specs.Texts.{within, one_of, same}
use Rattle.base_readers.specs.Readers.{run}
use Rattle.base_readers.specs.Lines.{lines_of}
use Rattle.write_rules.specs.Entries.{each, is_hex, hex_value}
use Rattle.explain_rules.specs.Texts.{is_code, code_byte, code_more, decoded_past, in_word, is_word, quoted_byte, quoted_bytes, shown_text, quoted_read, quoted_more, read_quoted, read_shown}
use Rattle.explain_rules.specs.Explained.{kind_of, whose_words, answer_words, count_words, field_words, method_words, property_words, words, goes_on, ended, lines_words, explained}

unfoldable pub opened : Unit {0}
unfolding within one_of same run lines_of each is_hex hex_value is_code code_byte code_more decoded_past in_word is_word quoted_byte quoted_bytes shown_text quoted_read
    quoted_more read_quoted read_shown kind_of whose_words answer_words count_words field_words method_words property_words words goes_on ended lines_words explained
opened = tt
