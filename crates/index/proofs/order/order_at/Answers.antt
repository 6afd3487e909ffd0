-- `order_at` meets its promise. Assumes nothing.
use Rattle.std.proofs.Common.{ap, drop}
use Rattle.index.specs.Listed.{order_of}
use Rattle.index.specs.OrderLaws.{order_is}
use Rattle.index.proofs.NameLaws.{front_is}
use Rattle.index.proofs.order.order_at.Goals as goal

pub returns : goal.returns
returns c =
    let a = c.args in
    rw (front_is (drop a.p a.text.now), front_is (drop a.q a.text.now), order_is, ← c.bytes_from.ensures, ← c.bytes_from-2.ensures) (ap order_of c.order_in_front.ensures)
