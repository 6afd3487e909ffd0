-- `put` meets its promise. Assumes nothing.
use Rattle.index.proofs.PutLaws.{put_down}
use Rattle.index.proofs.list.put.Goals as goal

pub returns : goal.returns
returns c =
    let a = c.args in
    rw c.copy_within.ensures.after (put_down a.at.now a.count a.index a.p c.requires.0 c.requires.1)
