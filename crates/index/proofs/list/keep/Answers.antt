-- `keep` meets its promise. Assumes nothing.
use Rattle.index.proofs.KeepLaws.{keeps_old, keeps_new}
use Rattle.index.proofs.list.keep.Goals as goal

pub returns-in-Ok : goal.returns-in-Ok
returns-in-Ok c =
    let a = c.args in keeps_old a.text.now a.at.now a.count a.p c.in-Ok.index c.requires.0 c.requires.2 c.in-Ok.ensures

pub returns-in-Err : goal.returns-in-Err
returns-in-Err c =
    let a = c.args in keeps_new a.text.now a.at.now a.count a.p c.in-Err.index c.requires.0 c.put.ensures c.in-Err.ensures
