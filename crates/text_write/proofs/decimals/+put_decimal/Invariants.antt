-- `text_write::decimals::put_decimal` meets its contract: the digits of the tenth and then the last one are the digits of the number. It calls itself for
-- the tenth, which is smaller.
use Rattle.text_write.proofs.decimals.+put_decimal.Given as goal

abbrev pub decreases-put_decimal : goal.decreases-put_decimal
decreases-put_decimal l = l.n
