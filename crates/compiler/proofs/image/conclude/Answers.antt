-- `conclude` meets its promise. Assumes nothing.
use native.Mathlib.Omega.{arith}
use Rattle.compiler.proofs.AnswerLaws.{refuses}
use Rattle.compiler.proofs.MadeLaws.{head_few, head_small, said_over, whole_short, whole_lent}
use Rattle.compiler.proofs.image.conclude.Goals as goal

pub write_head-base-requires : goal.write_head-base-requires
write_head-base-requires c = let m = c.requires.1 in (omega arith, head_few m, head_small m)

pub lend-requires : goal.lend-requires
lend-requires c = whole_short c.requires.1 c.write_head-base.ensures c.over_image-over.ensures c.requires.0 c.in-None.is

pub returns-in-Some : goal.returns-in-Some
returns-in-Some c = refuses _ (said_over c.requires.1 c.write_head-base.ensures c.over_image-over.ensures c.requires.0 c.in-Some.is _)

pub returns-in-None : goal.returns-in-None
returns-in-None c = whole_lent c.requires.1 c.write_head-base.ensures c.over_image-over.ensures c.requires.0 c.in-None.is
    c.args.image.now c.lend.new.image c.lend.result c.lend.ensures
