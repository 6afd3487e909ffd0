-- Keeping a name: it stands there already, or it is put in where it belongs.
use Rattle.std.proofs.Common.{ℕ, ◌+◌, ◌≤◌, ◌<◌, ◌≡◌, refl, ap, sym, ◌∙◌, true, false, not, List, map, length, take, arith}
use Rattle.std.proofs.Math.Seq.{take-length}
use Rattle.notation.specs.Tree.{Name}
use Rattle.notation.specs.At.{name_at}
use Rattle.notation.specs.Compile.{place}
use Rattle.index.specs.Listed.{names_at, Ascending, Stands, Belongs, put_in, Keeps}
use Rattle.index.specs.ListedLaws.{stands_insert, stands_member, stands_place, belongs_insert, belongs_member, belongs_place}
use Rattle.index.specs.PlaceLaws.{names_length, put_names, put_rest, put_length}

module _ (text at : List ℕ) (count p index : ℕ) (room : count < length at) where
  abbrev name : Name
  name = name_at text p

  abbrev names : List Name
  names = names_at text at count

  -- What stands at the front of the array.
  seen : names_at text (take count at) (length (take count at)) ≡ names
  seen = ap (map (name_at text)) (take-length (take count at))

  many : length names ≡ count
  many = names_length text at count (omega arith)

  pub keeps_old : Ascending names → Stands name (names_at text (take count at) (length (take count at))) index → Keeps text at count p at (record { count = count; index = index; fresh = false })
  keeps_old a t =
      let s : Stands name names index = rw seen at t in
      let e = stands_insert name names index s a in
      record {
        names = sym e;
        fresh = sym (ap not (stands_member name names index s));
        many = refl;
        fewest = omega arith;
        most = omega arith;
        index = sym (ap (place name) e ∙ stands_place name names index s a);
        inside = omega (arith, s.inside, many);
        whole = refl;
        rest = refl;
        long = refl;
      }

  pub keeps_new : {now : List ℕ} → now ≡ put_in at count index p → Belongs name (names_at text (take count at) (length (take count at))) index
      → Keeps text at count p now (record { count = count + 1; index = index; fresh = true })
  keeps_new {now} e f =
      let b : Belongs name names index = rw seen at f in
      let h : index ≤ count = omega (arith, b.within, many) in
      record {
        names = ap (λ l. names_at text l (count + 1)) e ∙ put_names at count index p h room text ∙ sym (belongs_insert name names index b);
        fresh = sym (ap not (belongs_member name names index b));
        many = refl;
        fewest = omega arith;
        most = omega arith;
        index = sym (belongs_place name names index b);
        inside = omega arith;
        whole = e;
        rest = rw e (put_rest at count index p h room);
        long = rw e (put_length at count index p h room);
      }
