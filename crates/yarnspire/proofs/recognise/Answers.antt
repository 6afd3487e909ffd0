-- `recognise` meets its promise: the entry checks in their order, then the run. Assumes nothing.
use Prim.Native.Nat.{ℕ, ◌*◌}
use mathlib.Core.List.{List}
use mir.Syntax.{w8}
use mir.Val.{Fits}
use mathlib.Core.Path.{ap, sym, ◌∙◌}
use lib.ListN.{length, replicate, get_or}
use Rattle.image.specs.LoadLaws.{filled_length}
use native.Mathlib.Omega.{arith}
use lib.Seq.{length-take-le}
use Rattle.grammar.specs.Sound.{Bytes}
use Rattle.format.specs.Image.{read_image}
use Rattle.format.proofs.RoundTrip.{exact}
use Rattle.meaning.specs.Demands.{Entered, image_refused, input_refused, slots_refused}
use Rattle.meaning.proofs.Demands.{limits_refused}
use Rattle.yarnspire.specs.PromiseLaws.{found_fault, fault_small, found_good, refuses, permitted, disallowed, run_asks, run_gives}
use Rattle.yarnspire.specs.declared.answer.Refusal.TheVariants.{Image, Input, Limits, Slots}
use Rattle.yarnspire.proofs.recognise.Goals as goal

-- Numbers that fit a byte are bytes.
bytes : (xs : List ℕ) → ((i : ℕ) → Fits w8 (get_or xs i 0)) → Bytes xs
bytes xs f i = omega (arith, f i)

pub overflow_cast-found : goal.overflow_cast-found
overflow_cast-found c = let a = c.args in
    omega (arith, fault_small a.image.now (bytes _ c.type_inv.image) (found_fault (read_image a.image.now) c.in-Err.is c.load.ensures.answer))

pub returns-in-Err : goal.returns-in-Err
returns-in-Err c = let a = c.args in
    let f = found_fault (read_image a.image.now) c.in-Err.is c.load.ensures.answer in
    refuses (Image c.in-Err.found.fault) c.in-Err.found.place (bytes _ c.type_inv.image) c.refuse.ensures
    (image_refused a.image.now a.input.now a.limits.steps a.limits.depth a.limits.room a.slots.now _ _ f)

pub returns-then-input-gt65535 : goal.returns-then-input-gt65535
returns-then-input-gt65535 c = let a = c.args in
    let w = found_good (read_image a.image.now) c.in-Ok.is c.load.ensures.answer in
    refuses Input 0 (bytes _ c.type_inv.image) c.refuse-then-input-gt65535.ensures
    (input_refused a.image.now w.0 a.input.now a.limits.steps a.limits.depth a.limits.room a.slots.now w.1 c.if-input-gt65535.true)

pub returns-then-not-allowed : goal.returns-then-not-allowed
returns-then-not-allowed c = let a = c.args in
    let w = found_good (read_image a.image.now) c.in-Ok.is c.load.ensures.answer in
    refuses Limits 0 (bytes _ c.type_inv.image) c.refuse-then-not-allowed.ensures
    (limits_refused a.image.now w.0 a.input.now a.limits.steps a.limits.depth a.limits.room a.slots.now w.1 c.if-input-gt65535.false
    (disallowed c.allowed.ensures c.if-not-allowed.true-raw))

pub overflow_mul-lent : goal.overflow_mul-lent
overflow_mul-lent c = let a = c.args in let r = permitted {B = a.limits.steps} {D = a.limits.depth} {R = a.limits.room} c.allowed.ensures c.if-not-allowed.false-raw in omega (arith, r.small_room)

pub returns-then-slots-lent : goal.returns-then-slots-lent
returns-then-slots-lent c = let a = c.args in
    let w = found_good (read_image a.image.now) c.in-Ok.is c.load.ensures.answer in
    refuses Slots 0 (bytes _ c.type_inv.image) c.refuse-then-slots-lent.ensures
    (slots_refused a.image.now w.0 a.input.now a.limits.steps a.limits.depth a.limits.room a.slots.now w.1 c.if-input-gt65535.false
    (permitted c.allowed.ensures c.if-not-allowed.false-raw) (omega (arith, c.if-slots-lent.true)))

pub overflow_cast-code : goal.overflow_cast-code
overflow_cast-code c = let a = c.args in
    let w = found_good (read_image a.image.now) c.in-Ok.is c.load.ensures.answer in
    omega (arith, ((exact a.image.now (bytes _ c.type_inv.image) w.0).0 w.1).short)

pub slice_bounds-run-end-2 : goal.slice_bounds-run-end-2
slice_bounds-run-end-2 c = let a = c.args in sym (length-take-le (a.limits.room * 3) a.slots.now (omega (arith, c.if-slots-lent.false)))

pub run-requires : goal.run-requires
run-requires c = let a = c.args in
    let w = found_good (read_image a.image.now) c.in-Ok.is c.load.ensures.answer in
    let E : Entered a.image.now w.0 a.input.now a.limits.steps a.limits.depth a.limits.room a.slots.now = record {
      image_good = w.1;
      input_short = c.if-input-gt65535.false;
      ranges = permitted c.allowed.ensures c.if-not-allowed.false-raw;
      slots_enough = omega (arith, c.if-slots-lent.false);
    } in
    let L = c.load.ensures in
    run_asks w.1 (bytes _ c.type_inv.image) L a.limits.steps a.limits.depth a.limits.room (ap length L.array ∙ filled_length a.image.now (replicate 524 0)) E w.2
    (bytes _ c.type_inv.input)

pub returns : goal.returns
returns c = let a = c.args in
    let w = found_good (read_image a.image.now) c.in-Ok.is c.load.ensures.answer in
    let E : Entered a.image.now w.0 a.input.now a.limits.steps a.limits.depth a.limits.room a.slots.now = record {
      image_good = w.1;
      input_short = c.if-input-gt65535.false;
      ranges = permitted c.allowed.ensures c.if-not-allowed.false-raw;
      slots_enough = omega (arith, c.if-slots-lent.false);
    } in
    let L = c.load.ensures in
    run_gives w.1 (bytes _ c.type_inv.image) L a.limits.steps a.limits.depth a.limits.room (ap length L.array ∙ filled_length a.image.now (replicate 524 0)) E c.run.ensures
