-- `Packed::opened` meets its promise: by the number's size. Assumes nothing.
use borrow.Author.Tests.{lt-ltb, le-ltb}
use Rattle.parts.specs.Packed.{at_of, held_of, depth_of, steps_of, opened_of}
use Rattle.parts.proofs.outcome.Packed.opened.Goals as goal

pub returns-then-self-lt1152921504606846976 : goal.returns-then-self-lt1152921504606846976
unfolding opened_of at_of held_of depth_of steps_of
returns-then-self-lt1152921504606846976 c =
    rw (c.at-at.ensures, c.held.ensures, c.steps.ensures, c.depth-depth.ensures, lt-ltb c.args.self.bits 1152921504606846976 c.if-self-lt1152921504606846976.true)

pub returns-then-self-lt2305843009213693952 : goal.returns-then-self-lt2305843009213693952
unfolding opened_of depth_of
returns-then-self-lt2305843009213693952 c = let r = c.args.self.bits in
    rw (c.depth-depth.ensures, le-ltb r 1152921504606846976 c.if-self-lt1152921504606846976.false, lt-ltb r 2305843009213693952 c.if-self-lt2305843009213693952.true)

pub returns : goal.returns
unfolding opened_of at_of depth_of
returns c = let r = c.args.self.bits in
    rw (c.of.ensures, c.at-at.ensures, c.depth-depth.ensures, le-ltb r 1152921504606846976 c.if-self-lt1152921504606846976.false, le-ltb r 2305843009213693952 c.if-self-lt2305843009213693952.false)
