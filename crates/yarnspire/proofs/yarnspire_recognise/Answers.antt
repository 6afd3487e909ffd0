-- `yarnspire_recognise` meets its promise. Assumes nothing.
use Rattle.yarnspire.specs.PromiseLaws.{written}
use Rattle.yarnspire.proofs.yarnspire_recognise.Goals as goal

pub returns : goal.returns
returns c = written c.write.ensures c.recognise-answer.ensures.answers
