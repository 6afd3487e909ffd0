-- `emit` meets its promise. The loop's invariant: what was taken and what is still to come, come to what the whole comes to. The measure is what the walk has to go. Assumes nothing.
use Rattle.std.proofs.Common.{ap, ◌∙◌, ℕ, arith, replicate}
use Rattle.std.proofs.Math.ListN.{length-replicate}
use Rattle.walker.specs.declared.act.Open.{Open}
use Rattle.walker.specs.declared.act.Open.TheVariants.{Bracket}
use Rattle.emitter.specs.declared.state.Opened.{Opened}
use Rattle.emitter.specs.Shown.{unopened}
use Rattle.emitter.proofs.EmitLaws.{heads_listed, numbered, going_first, going_nodes, going_ends, going_apt, going_on, going_last, last}
use Rattle.emitter.proofs.emit.emit.Goals as goal

pub loop-symbol-init : goal.loop-symbol-init
loop-symbol-init c =
    going_first c.requires.ready c.requires.lengths.0 (c.fill.ensures.after (λ y e. e) ∙ ap (λ n. replicate n 512) c.requires.lengths.1) c.requires.lengths.2
    (length-replicate {A = Open} 65536 Bracket) (length-replicate {A = ℕ} 512 0) (length-replicate {A = Opened} 512 unopened) c.over-w.ensures

pub end_production-requires : goal.end_production-requires
end_production-requires c = let i = c.loop-symbol.invariant in (omega (arith, i.shown.long_ends, going_ends i), omega (arith, i.shown.holds.low, going_nodes i))

pub returns-in_default : goal.returns-in_default
returns-in_default c = let i = c.loop-symbol.invariant in going_last i (last i c.next.ensures c.in_default.not-Symbol) c.end_production.ensures

pub take_symbol-s-requires : goal.take_symbol-s-requires
take_symbol-s-requires c = let i = c.loop-symbol.invariant in
    let g = c.in-Symbol.ensures.nexts in
    record {
      ascending = (heads_listed i.ready, numbered i.ready, g.taken);
      shown = (i.stage, i.shown, i.sane.tabled, going_apt i g);
    }

pub loop-symbol-preserved : goal.loop-symbol-preserved
loop-symbol-preserved c = let i = c.loop-symbol.invariant in
    going_on i c.in-Symbol.ensures.nexts (c.take_symbol-s.ensures i.stage i.shown) c.next.ensures.long
