-- `hold` meets its promise. Assumes nothing.
use Prim.Native.Nat.{ℕ, ◌≤◌, ◌<◌}
use mathlib.Core.Path.{◌≡◌, subst}
use mathlib.Core.List.{List, ◌∷◌}
use native.Mathlib.Omega.{arith}
use lib.ListN.{length, drop}
use Rattle.index.specs.declared.list.Kept.{Kept}
use Rattle.index.specs.Listed.{Keeps}
use Rattle.lexer.specs.declared.token.Token.{Token}
use Rattle.lexer.specs.Names.{NameEnds}
use Rattle.lexer.specs.Meant.{placed}
use Rattle.patterns.specs.Passed.{defs_of, Passes, Defines}
use Rattle.patterns.proofs.HoldLaws.{room, over_one, first_one, alike_one, unlike_one}
use Rattle.patterns.proofs.one.hold.Goals as goal

-- Its table is known already: the index is that of a place that is kept.
in_range_lem :
    {text latest now : List ℕ} {count over name : ℕ} {t : Token} {r : Kept} → length text ≤ 65535 → Defines text t
    → Passes text latest count over (placed text t ∷ defs_of (drop t.next text)) → Keeps text latest count name now r → r.index < length now
in_range_lem h d s k = omega (arith, k.inside, k.most, k.long, room h d s)

name_in_text : {text : List ℕ} {t : Token} → Defines text t → length text ≤ 65535 → t.name ≤ 65535
name_in_text d h = omega (arith, d.lexed.name_inside (rw d.def), h)

-- The name that is kept ends there.
named : {text : List ℕ} {p q a : ℕ} → q ≡ p → NameEnds text q a → NameEnds text p a
named {text} {a = a} e n = subst (λ q. NameEnds text q a) e n

pub returns-then-pass-gt0 : goal.returns-then-pass-gt0
returns-then-pass-gt0 c = let r = c.requires in (over_one r.2 r.3 r.4 c.if-pass-gt0.true, r.0, r.1)

pub keep-kept-requires : goal.keep-kept-requires
keep-kept-requires c = let r = c.requires in (room r.2 r.3 r.4, name_in_text r.3 r.2, r.4.ascending)

pub returns-then-kept : goal.returns-then-kept
returns-then-kept c = let r = c.requires in (first_one r.2 r.3 r.4 c.if-pass-gt0.false c.keep-kept.ensures c.if-kept.true, r.0, r.1)

pub offset_bounds-latest-index : goal.offset_bounds-latest-index
offset_bounds-latest-index c = let r = c.requires in
    omega (arith, in_range_lem r.2 r.3 r.4 c.keep-kept.ensures, c.keep-kept.ensures.long, r.4.long)

pub bounds-latest-index : goal.bounds-latest-index
bounds-latest-index c = let r = c.requires in in_range_lem r.2 r.3 r.4 c.keep-kept.ensures

pub returns-in_err-over : goal.returns-in_err-over
returns-in_err-over c = let r = c.requires in let e = rw c.in_err-over.was at c.alike.ensures in
    rw c.from_residual.ensures
    (unlike_one r.2 r.3 r.4 c.if-pass-gt0.false c.keep-kept.ensures c.if-kept.false (named c.from.ensures c.name_end-before.ensures) e.0, e.1, e.2)

pub offset_bounds-latest-index-2 : goal.offset_bounds-latest-index-2
offset_bounds-latest-index-2 c = let r = c.requires in
    omega (arith, in_range_lem r.2 r.3 r.4 c.keep-kept.ensures, c.keep-kept.ensures.long, r.4.long)

pub bounds-latest-index-2 : goal.bounds-latest-index-2
bounds-latest-index-2 c = let r = c.requires in in_range_lem r.2 r.3 r.4 c.keep-kept.ensures

-- The def is kept for its table.
pub returns : goal.returns
returns c = let r = c.requires in let e = rw c.in_ok-over.was at c.alike.ensures in (
  alike_one r.2 r.3 r.4 c.if-pass-gt0.false c.keep-kept.ensures c.if-kept.false (named c.from.ensures c.name_end-before.ensures) c.in_ok-over.over e.0,
  e.1,
  e.2,
)
