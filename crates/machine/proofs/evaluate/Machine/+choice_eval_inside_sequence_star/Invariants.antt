-- The cycle of the evaluator: what falls at each call. The depth left falls from inside to a member; eval hands it to inside, and a member to eval, as
-- it is. And what holds where a round of a Star begins.
use Rattle.std.proofs.Common.{◌+◌, ◌-◌, ◌*◌, length}
use Rattle.parts.specs.Packed.{at_of, held_of, steps_of, depth_of}
use Rattle.machine.specs.Ready.{image_of}
use Rattle.machine.specs.StarLaws.{Rounds}
use Rattle.machine.proofs.evaluate.Machine.+choice_eval_inside_sequence_star.Given as goal

abbrev pub decreases-choice : goal.decreases-choice
decreases-choice l = l.left * 3 + 2

abbrev pub decreases-eval : goal.decreases-eval
decreases-eval l = l.left * 3 + 1

abbrev pub decreases-inside : goal.decreases-inside
decreases-inside l = l.left * 3

abbrev pub decreases-sequence : goal.decreases-sequence
decreases-sequence l = l.left * 3 + 2

abbrev pub decreases-star : goal.decreases-star
decreases-star l = l.left * 3 + 2

abbrev pub invariant-star-loop-next : goal.invariant-star-loop-next
invariant-star-loop-next l =
    Rounds l.self.code.now (image_of l.self.code.now l.self.image.now) l.self.input.now l.initial.slots l.state l.left l.a (at_of l.fn.from) (held_of l.fn.from) (steps_of l.fn.from) (depth_of l.fn.from)
    l.slots (at_of l.here) (held_of l.here) (steps_of l.here) (depth_of l.here)

abbrev pub decreases-star-loop-next : goal.decreases-star-loop-next
decreases-star-loop-next l = length l.self.input.now - at_of l.here
