-- `build` meets its promise. Assumes nothing.
use mathlib.Core.Path.{sym, ◌∙◌}
use lib.ListN.{length, replicate}
use lib.Seq.{length-take-le}
use Rattle.compiler.proofs.RuledLaws.{held}
use Rattle.compiler.proofs.FewLaws.{listed_heads}
use Rattle.compiler.proofs.PartLaws.{part_within, part_count, numbered}
use Rattle.compiler.proofs.image.build.Goals as goal

pub slice_bounds-roots-end : goal.slice_bounds-roots-end
slice_bounds-roots-end c = listed_heads c.requires.1

pub slice_bounds-fill_roots-end : goal.slice_bounds-fill_roots-end
slice_bounds-fill_roots-end c = sym (length-take-le (length c.args.heads.now) _ (listed_heads c.requires.1))

pub fill_roots-counted-requires : goal.fill_roots-counted-requires
fill_roots-counted-requires c = let l = c.requires.1 in (
  c.requires.0,
  record {
    productions = l.productions;
    reads = l.passes.reading;
    small = (held l.passes).few_nodes;
    once = (held l.passes).names_once;
    listed = l.heads_are;
    long = length-take-le (length c.args.heads.now) _ (listed_heads l);
  },
)

pub slice_bounds-roots-end-2 : goal.slice_bounds-roots-end-2
slice_bounds-roots-end-2 c = part_within c.fill_roots-counted.new.roots (replicate 512 0) (c.fill_roots-counted.auto.roots ∙ length-take-le (length c.args.heads.now) _ (listed_heads c.requires.1))

pub slice_bounds-names-end : goal.slice_bounds-names-end
slice_bounds-names-end c = part_count c.fill_roots-counted.new.roots (replicate 512 0) (c.fill_roots-counted.auto.roots ∙ length-take-le (length c.args.heads.now) _ (listed_heads c.requires.1))

pub finish-requires : goal.finish-requires
finish-requires c = (c.requires.0, numbered (replicate 512 0) c.requires.1 (c.fill_roots-counted.auto.roots ∙ length-take-le (length c.args.heads.now) _ (listed_heads c.requires.1)) c.fill_roots-counted.ensures)
