-- The definitions opened all at once, for what is computed.
use Rattle.base_readers.specs.Texts.{within, one_of}
use Rattle.lexis_rules.specs.Bytes.{lower}
use Rattle.punycode_rules.specs.Punycode.{digit_of, scaled, adapt, threshold, numbers, before_last, basic, punycode}
use Rattle.punycode_rules.specs.Unicode.{scalar, scalars, utf8, utf8s}
use Rattle.punycode_rules.specs.Labels.{kept, decoded, prefixed, spelled, labels, joined, spelling, any_prefixed, double_hyphen}

unfoldable pub opened : Unit {0}
unfolding within one_of lower digit_of scaled adapt threshold numbers before_last basic punycode scalar scalars utf8 utf8s kept decoded prefixed spelled labels joined spelling
    any_prefixed double_hyphen
opened = tt
