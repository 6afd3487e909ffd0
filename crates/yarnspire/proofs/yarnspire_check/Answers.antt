-- `yarnspire_check` meets its promise. Assumes nothing.
use Rattle.std.proofs.Common.{ap, sym, ◌∙◌}
use Rattle.yarnspire.specs.Answer.{number_of, place_of}
use Rattle.yarnspire.proofs.yarnspire_check.Goals as goal

pub returns-in-Ok : goal.returns-in-Ok
returns-in-Ok c = let v = c.check in
    let e = c.in-Ok.is in
    record { verdict = v.result; checks = v.ensures; number_is = ap number_of (sym e); place_is = ap place_of (sym e) }

pub returns-in-Err : goal.returns-in-Err
returns-in-Err c = let v = c.check in
    let e = c.in-Err.is in
    record { verdict = v.result; checks = v.ensures; number_is = c.number.ensures ∙ ap number_of (sym e); place_is = ap place_of (sym e) }
