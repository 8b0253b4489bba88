use Rattle.hex_lines.proofs.Laws as laws
use Rattle.hex_lines.proofs.print.put_decimal.Goals as goal

pub returns-then-n-lt10 : goal.returns-then-n-lt10
returns-then-n-lt10 c =
    rw (laws.one_place _ c.if-n-lt10.true) c.put_text.ensures

pub returns-then-n-lt100 : goal.returns-then-n-lt100
returns-then-n-lt100 c =
    rw (laws.two-places _ c.if-n-lt10.false c.if-n-lt100.true) c.put_text-then-n-lt100.ensures

pub returns : goal.returns
returns c =
    rw (laws.three-places _ c.if-n-lt100.false) c.put_text-2.ensures
