-- The looks of a listing's two walks, computed on pages of four entries. Assumes nothing.
use Rattle.std.specs.Prelude.{◌≡◌, [], ◌∷◌, replicate}
use Rattle.rule.specs.Time.{END}
use Rattle.claims.specs.Walks.{listing_looks}
use Rattle.marks.specs.Cases.{grown_root, hurt_leaf}

pub record Looks : Type 0 where
  -- Page 3 is the root of the leaves 1 and 2, which show five runs: they are counted, and written if the output has room.
  pub accepted : listing_looks 2 0 END grown_root (replicate 80 9) ≡ 3 ∷ 1 ∷ 2 ∷ 3 ∷ 1 ∷ 2 ∷ []
  pub output_short : listing_looks 2 0 END grown_root (replicate 79 9) ≡ 3 ∷ 1 ∷ 2 ∷ []
  -- With page 2 hurt nothing is written; a span that ends where page 2 starts doesn't meet it.
  pub page_hurt : listing_looks 2 0 END hurt_leaf (replicate 80 9) ≡ 3 ∷ 1 ∷ 2 ∷ []
  pub page_past : listing_looks 2 0 15 hurt_leaf (replicate 80 9) ≡ 3 ∷ 1 ∷ 3 ∷ 1 ∷ []
