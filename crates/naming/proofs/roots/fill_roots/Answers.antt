-- `fill_roots` meets its promise. The loop's invariant: what is filled in and counted, with what is still to come, is what the whole text gives.
-- Assumes nothing.
use Rattle.std.proofs.Common.{ℕ, ◌≡◌, ◌∙◌, List, [], ◌∷◌, length, arith, rules}
use Rattle.notation.specs.Tree.{Name}
use Rattle.notation.specs.Token.{Lexeme}
use Rattle.notation.specs.Lexer.{lexemes}
use Rattle.notation.specs.At.{name_at}
use Rattle.index.specs.Listed.{names_at}
use Rattle.index.specs.PlaceLaws.{names_length}
use Rattle.lexer.specs.declared.token.Token.{Token}
use Rattle.lexer.specs.declared.tokens.Tokens.{Tokens}
use Rattle.lexer.specs.Meant.{placed}
use Rattle.lexer.specs.Stream.{left, Takes, Ends}
use Rattle.lexer.proofs.StreamLaws.{taken_text, ended}
use Rattle.naming.proofs.StepLaws.{steps, whole}
use Rattle.naming.proofs.HeadLaws.{name_of, head_is, head_name, no_head}
use Rattle.naming.proofs.EndLaws.{Ended, endings}
use Rattle.naming.proofs.FillLaws.{Filling, filling_open, filling_last, filling_token, filling_head, filling_bad, filling_filled, filling_counted}
use Rattle.naming.proofs.RootLaws.{settles, ordered, first_listed, filling_all, rooted}
use Rattle.naming.proofs.roots.fill_roots.Goals as goal

-- The names at the places of a list.
abbrev all_at : (text places : List ℕ) → List Name
all_at text places = names_at text places (length places)

-- The ends of the productions of a text.
abbrev ends_of : (text : List ℕ) (start : ℕ) → List (Ended Name)
ends_of text start = endings name_of (name_at text start) 0 0 (lexemes text)

-- What is filled in so far, with what is still to come.
abbrev Fills : (text heads before : List ℕ) (start name nodes weight : ℕ) → List ℕ → List Lexeme → Type 0
Fills text heads before start name nodes weight now =
    Filling (all_at text heads) before (ends_of text start) (name_at text name) nodes weight now

module _ (text heads before : List ℕ) (start name nodes weight : ℕ) (now : List ℕ) {s later : Tokens} (F : Fills text heads before start name nodes weight now (left s)) where
  -- The text is over.
  whole_in : Ends s later → Fills text heads before start name nodes weight now []
  whole_in E =
      ended E (Fills text heads before start name nodes weight now) (filling_bad (all_at text heads) before (ends_of text start)) F

  -- The token that was taken, in front of what is still to come.
  front : {t : Token} → Takes s t later → s.text.now ≡ text → Fills text heads before start name nodes weight now (placed text t ∷ left later)
  front T k = rw (steps T k) at F

-- There is still a number for each name.
as_long : (text heads now new : List ℕ) → length new ≡ length now → length now ≡ length (all_at text heads) → length new ≡ length heads
as_long text heads now new e f = omega (arith, names_length text heads (length heads) (omega arith))

pub loop-t-init : goal.loop-t-init
loop-t-init c =
    let text = c.args.text.now in
    let s = c.into_iter-t-iterator.result in
    let k : s.text.now ≡ text = search rules in
    let e : left s ≡ lexemes text = whole s text k (search rules) in
    (tt, tt, k, rw e (filling_all c.requires.1 (name_at text c.token_from-start.result.name) c.requires.0))

pub settle-nodes-requires : goal.settle-nodes-requires
settle-nodes-requires c =
    let a = c.args in
    let l = c.loop-t in
    let start = c.token_from-start.result.name in
    let F = front a.text.now a.heads.now a.roots.now start l.name l.nodes l.weight l.roots l.invariant.3 c.in-Some.ensures.steps l.invariant.2 in
    settles a.text.now a.heads.now l.roots l.name l.nodes l.weight (ordered c.requires.1) (omega (arith, F.light)) F.long
    (filling_open (all_at a.text.now a.heads.now) a.roots.now (ends_of a.text.now start) (head_is a.text.now _ (search rules)) F)

pub loop-t-preserved-then-eq : goal.loop-t-preserved-then-eq
loop-t-preserved-then-eq c =
    let a = c.args in
    let l = c.loop-t in
    let start = c.token_from-start.result.name in
    let T = c.in-Some.ensures.steps in
    let F = front a.text.now a.heads.now a.roots.now start l.name l.nodes l.weight l.roots l.invariant.3 T l.invariant.2 in
    let S = c.settle-nodes.ensures in (
      tt,
      tt,
      taken_text T ∙ l.invariant.2,
      filling_head (all_at a.text.now a.heads.now) a.roots.now (ends_of a.text.now start) F (head_is a.text.now _ (search rules)) S.end S.filled
          (head_name a.text.now _ (search rules)),
    )

pub overflow_add-weight : goal.overflow_add-weight
overflow_add-weight c =
    let a = c.args in
    let l = c.loop-t in
    let start = c.token_from-start.result.name in
    let F = front a.text.now a.heads.now a.roots.now start l.name l.nodes l.weight l.roots l.invariant.3 c.in-Some.ensures.steps l.invariant.2 in
    omega (
      arith,
      (filling_token (all_at a.text.now a.heads.now) a.roots.now (ends_of a.text.now start) F (no_head a.text.now _ (search rules)) c.weight_of-weight.ensures).light,
    )

pub loop-t-preserved : goal.loop-t-preserved
loop-t-preserved c =
    let a = c.args in
    let l = c.loop-t in
    let start = c.token_from-start.result.name in
    let T = c.in-Some.ensures.steps in
    let F = front a.text.now a.heads.now a.roots.now start l.name l.nodes l.weight l.roots l.invariant.3 T l.invariant.2 in (
      tt,
      tt,
      taken_text T ∙ l.invariant.2,
      filling_token (all_at a.text.now a.heads.now) a.roots.now (ends_of a.text.now start) F (no_head a.text.now _ (search rules)) c.weight_of-weight.ensures,
    )

pub settle-requires : goal.settle-requires
settle-requires c =
    let a = c.args in
    let l = c.loop-t in
    let start = c.token_from-start.result.name in
    let F = whole_in a.text.now a.heads.now a.roots.now start l.name l.nodes l.weight l.roots l.invariant.3 c.in-None.ensures.steps in
    settles a.text.now a.heads.now l.roots l.name l.nodes l.weight (ordered c.requires.1) (omega (arith, F.light)) F.long
    (filling_last (all_at a.text.now a.heads.now) a.roots.now (ends_of a.text.now start) F)

pub root_of-requires : goal.root_of-requires
root_of-requires c =
    record {
      ordered = ordered c.requires.1;
      named = first_listed c.requires.1 c.token_from-start.ensures;
      long = as_long c.args.text.now c.args.heads.now c.loop-t.roots c.settle.new.roots c.settle.auto.roots c.loop-t.invariant.3.long;
    }

pub returns : goal.returns
returns c =
    let a = c.args in
    let l = c.loop-t in
    let start = c.token_from-start.result.name in
    let S = c.settle.ensures in
    let F = whole_in a.text.now a.heads.now a.roots.now start l.name l.nodes l.weight l.roots l.invariant.3 c.in-None.ensures.steps in
    rooted c.requires.1 (name_at a.text.now start) c.token_from-start.ensures
    (filling_filled (all_at a.text.now a.heads.now) a.roots.now (ends_of a.text.now start) F S.filled)
    (filling_counted (all_at a.text.now a.heads.now) a.roots.now (ends_of a.text.now start) F S.end) c.root_of.ensures
