-- `write` meets its promise. Assumes nothing.
use mathlib.Core.Path.{◌∙◌}
use native.Mathlib.Omega.{arith}
use Rattle.naming.specs.GatheredLaws.{heads_gathered, tables_gathered, conditions_gathered}
use Rattle.compiler.proofs.ListedLaws.{gathers_listed}
use Rattle.compiler.proofs.RuledLaws.{held}
use Rattle.compiler.proofs.FewLaws.{few_heads, few_defs, few_switches}
use Rattle.compiler.proofs.image.write.Goals as goal

pub gather-named-requires : goal.gather-named-requires
gather-named-requires c = (c.requires.0, omega (arith, few_heads c.requires.1.1))

pub gather-defined-requires : goal.gather-defined-requires
gather-defined-requires c = (c.requires.0, omega (arith, few_defs c.requires.1.1))

pub gather-asked-requires : goal.gather-asked-requires
gather-asked-requires c = (c.requires.0, omega (arith, few_switches c.requires.1.1))

pub build-requires : goal.build-requires
build-requires c = let p = c.requires.1.1 in (
  c.requires.0,
  record {
    productions = c.requires.1.0;
    passes = p;
    heads_are = gathers_listed c.gather-named.ensures ∙ heads_gathered p.reading;
    tables_are = gathers_listed c.gather-defined.ensures ∙ tables_gathered p.reading (held p).names_defined;
    switches_are = gathers_listed c.gather-asked.ensures ∙ conditions_gathered p.reading;
  },
)
