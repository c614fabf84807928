-- The pages that may be taken: those of the chain, in order, and then those from the high mark on. Assumes nothing.
use Rattle.std.specs.Prelude.{ℕ, suc, List, [], ◌∷◌}

pub record Supply : Type 0 where
  pub chain : List ℕ
  pub mark : ℕ

-- the page that is taken next
unfoldable pub next_page : Supply → ℕ
next_page S = front S.chain
  where
    front : List ℕ → ℕ
    front [] = S.mark
    front (p ∷ ps) = p

-- the supply once it is taken
unfoldable pub without_next : Supply → Supply
without_next S = rest S.chain
  where
    rest : List ℕ → Supply
    rest [] = record { chain = []; mark = suc S.mark }
    rest (p ∷ ps) = record { chain = ps; mark = S.mark }

-- page p given back
unfoldable pub with_page : ℕ → Supply → Supply
with_page p S = record { chain = p ∷ S.chain; mark = S.mark }
