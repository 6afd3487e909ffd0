-- `put_root` meets its promise. Assumes nothing.
use Rattle.std.proofs.Common.{◌-◌, ap}
use Rattle.std.proofs.Math.ListN.{set}
use Rattle.naming.proofs.SeekLaws.{seeks_ok, seeks_place}
use Rattle.naming.proofs.roots.put_root.Goals as goal

pub unwrap-index-requires : goal.unwrap-index-requires
unwrap-index-requires c = seeks_ok _ _ c.requires.0.named _ c.seek.ensures

pub returns : goal.returns
returns c = ap (λ i. set c.args.roots.now i (c.args.end - 1)) (seeks_place _ _ c.seek.ensures c.unwrap-index.ensures c.requires.0.ordered)
