-- `root_of` meets its promise. Assumes nothing.
use Rattle.std.proofs.Common.{ap, ◌∙◌}
use Rattle.std.proofs.Math.ListN.{get_or}
use Rattle.naming.proofs.SeekLaws.{seeks_ok, seeks_place}
use Rattle.naming.proofs.roots.root_of.Goals as goal

pub unwrap-index-requires : goal.unwrap-index-requires
unwrap-index-requires c = seeks_ok _ _ c.requires.named _ c.seek.ensures

pub returns : goal.returns
returns c = c.from.ensures ∙ ap (λ i. get_or c.args.roots.now i 0) (seeks_place _ _ c.seek.ensures c.unwrap-index.ensures c.requires.ordered)
