-- `load` meets its promise: by how far the walk came. Assumes nothing.
use Rattle.std.proofs.Common.{ℕ, List, get_or, ◌∙◌, arith, Fits, w8}
use Rattle.grammar.specs.Sound.{Bytes}
use Rattle.image.proofs.WalkLaws.{bad_head, bad_patterns, bad_nodes, trailing, good_image}
use Rattle.image.proofs.walk.load.Goals as goal

-- Numbers that fit a byte are bytes.
bytes : (xs : List ℕ) → ((i : ℕ) → Fits w8 (get_or xs i 0)) → Bytes xs
bytes xs f i = omega (arith, f i)

pub returns-in_err-head : goal.returns-in_err-head
returns-in_err-head c =
    bad_head (bytes _ c.type_inv.image) (omega arith) c.if-image-gt16384.false c.over-reader.ensures c.in_err-head.ensures c.from_residual.ensures.1

pub returns-in_err-fill_patterns : goal.returns-in_err-fill_patterns
returns-in_err-fill_patterns c =
    bad_patterns (bytes _ c.type_inv.image) (omega arith) c.if-image-gt16384.false c.over-reader.ensures c.in_ok-head.ensures
    c.in_err-fill_patterns.ensures c.from_residual-in_err-fill_patterns.ensures.1

pub returns-in_err-fill_nodes : goal.returns-in_err-fill_nodes
returns-in_err-fill_nodes c =
    bad_nodes (bytes _ c.type_inv.image) (omega arith) c.if-image-gt16384.false c.over-reader.ensures c.in_ok-head.ensures
    c.in_ok-fill_patterns.ensures c.in_err-fill_nodes.ensures c.from_residual-in_err-fill_nodes.ensures.1

pub returns-then-stands-image : goal.returns-then-stands-image
returns-then-stands-image c =
    trailing (bytes _ c.type_inv.image) (omega arith) c.if-image-gt16384.false c.over-reader.ensures c.in_ok-head.ensures
    c.in_ok-fill_patterns.ensures c.in_ok-fill_nodes.ensures
    (c.at-then-stands-image.ensures.0, c.at-then-stands-image.ensures.1 ∙ c.stands-then-stands-image.ensures) (omega (arith, c.stands.ensures))

pub returns : goal.returns
returns c =
    good_image (bytes _ c.type_inv.image) (omega arith) c.if-image-gt16384.false c.over-reader.ensures c.in_ok-head.ensures
    c.in_ok-fill_patterns.ensures c.in_ok-fill_nodes.ensures (omega (arith, c.stands.ensures))
