-- `punycode::utf8::put_point` meets its contract: one to four bytes, by the cases of the definition.
use Rattle.punycode.proofs.Writing.{point-one, point-two, point-three, point-four}
use Rattle.punycode.proofs.utf8.put_point.Goals as goal

pub returns-then-x-lt128 : goal.returns-then-x-lt128
returns-then-x-lt128 c = point-one _ _ _ c.if-x-lt128.true _ c.put_byte.ensures.bytes

pub returns-then-x-lt2048 : goal.returns-then-x-lt2048
returns-then-x-lt2048 c = search point-two

pub returns-then-x-lt65536 : goal.returns-then-x-lt65536
returns-then-x-lt65536 c = search point-three

pub returns : goal.returns
returns c = point-four _ _ _ c.if-x-lt128.false c.if-x-lt2048.false c.if-x-lt65536.false _ _ _ _ c.put_byte-2.ensures.bytes c.put_byte-3.ensures.bytes c.put_byte-4.ensures.bytes c.put_byte-5.ensures.bytes
