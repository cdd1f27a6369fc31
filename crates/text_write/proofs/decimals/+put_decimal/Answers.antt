use Rattle.std.proofs.Common.{rules}
use Rattle.text_write.proofs.Digits.{digit-put, digits-put}
use Rattle.text_write.proofs.decimals.+put_decimal.Goals as goal

pub returns-then-n-lt10 : goal.returns-then-n-lt10
returns-then-n-lt10 t c = search digit-put

pub returns : goal.returns
returns t c =
    digits-put c.args.n _ _ c.if-n-lt10.false (search rules) c.put_decimal-at.new.out c.put_decimal-at.result c.put_decimal-at.ensures _ _ c.put_byte-2.ensures
