-- `bottom` meets its promise: by the token's kind. Assumes nothing.
use Rattle.walker.proofs.ActLaws.{all_ended, next_production, none_to_close}
use Rattle.walker.proofs.act.bottom.Goals as goal

pub returns-in-End : goal.returns-in-End
returns-in-End c = λ s. all_ended s c.in-End.is

pub returns-in-Head : goal.returns-in-Head
returns-in-Head c = λ s. next_production s c.in-Head.is

pub returns-in_default : goal.returns-in_default
returns-in_default c = λ s. none_to_close s c.in_default.not-End c.in_default.not-Head c.requires
