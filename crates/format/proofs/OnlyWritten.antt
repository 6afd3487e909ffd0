-- What was read is what would be written: a node, and the whole grammar.
use Rattle.std.specs.Prelude.{ℕ, ◌<◌, List, get_or}
use Rattle.std.proofs.Common.{sym, subst₂, arith}
use Rattle.grammar.specs.Expr.{Empty}
use Rattle.grammar.specs.Sound.{Bytes, Fits}
use Rattle.format.specs.Reading.{fault, ◌then◌}
use Rattle.format.specs.ReadingLaws.{All, holds, ◌▹◌}
use Rattle.format.specs.Number.{groups}
use Rattle.format.specs.Written.{encode_node}
use Rattle.format.specs.Image.{bounded, kinds, node_at, head_at, body_at}
use Rattle.format.specs.ImageLaws.{each_at, zero_plus}
use Rattle.format.specs.OnlyWritten.{Front, One, Stop, times_all, number_all, start, Kind, kinds_all, pattern_all, head_all, Whole}

module _ (image : List ℕ) (bytes : Bytes image) where
  module _ (T C N own : ℕ) where
    pub node_all :
        {u : List ℕ} {at : ℕ} → Front image u at
        → All (One image (Fits T C N own) encode_node u) (Stop image) (node_at image T C N own at)
    node_all {u} {at} f =
        number_all image bytes 6 0 19 (omega arith) (start image bytes f)
        ▹ λ tag at r. each_at (Kind image bytes T C N own) (fault 6) (kinds image T C N own) 0 tag (kinds_all image bytes T C N own)
        r.under u at (rw (zero_plus tag) r.on)

  pub body_all : All (Whole image bytes) (Stop image) (head_at image then body_at image)
  body_all = head_all image bytes ▹ λ h at r.
      times_all image (λ i a. a < h.nodes) groups (λ i. bounded image 7 0 h.nodes) (pattern_all image bytes h.nodes) 0 h.tables _ at r.on
      ▹ λ ps at p.
      times_all image (Fits h.tables h.conditions h.nodes) encode_node (node_at image h.tables h.conditions h.nodes)
      (λ i at u f. node_all h.tables h.conditions h.nodes i f) 0 h.nodes _ at p.on ▹ λ es at q.
      holds (record {
        sound = record {
          few_tables = rw p.count r.few_tables;
          few_conditions = r.few_conditions;
          some_node = rw q.count r.some_node;
          few_nodes = rw q.count r.few_nodes;
          start_named = rw q.count r.start_named;
          patterns_named = λ t l. rw q.count (each_at (λ i a. a < h.nodes) 0 ps 0 t p.fits l);
          operands_fit = λ n l. subst₂ (λ T N. Fits T h.conditions N n (get_or es n Empty)) (sym p.count) (sym q.count)
              (rw (zero_plus n) at (each_at (Fits h.tables h.conditions h.nodes) Empty es 0 n q.fits l));
        };
        on = rw (p.count, q.count) q.on;
      })
