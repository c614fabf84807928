-- What the code finds of the leaf entries below a page: whether the totals of neighbours differ, and the first and the last total.
-- Assumes nothing.
use Rattle.std.specs.Prelude.{ℕ, zero, suc, ◌-◌, Bool, not, ◌&&◌, List}
use Rattle.rule.specs.declared.Pair.{Pair}
use Rattle.rule.specs.Pairs.{same_pair, combine}
use Rattle.fields.specs.Bytes.{every}
use Rattle.page.specs.Layout.{entry_count, pair_at, child_at}
use Rattle.image.specs.Images.{page_at}
use Rattle.neighbours.specs.declared.Edges.{Edges}

-- of some entries and of those behind them: where they meet, the last total of one and the first of the other are neighbours
unfoldable pub joined : Edges → Edges → Edges
joined a b =
    record {
      apart = a.apart && (not (same_pair a.last b.first) && b.apart);
      first = a.first;
      last = b.last;
    }

-- with the pair of an entry above them in each total: what differs goes on to differ
unfoldable pub under_pair : Pair → Edges → Edges
under_pair p e = record { apart = e.apart; first = combine 1 p e.first; last = combine 1 p e.last }

-- of the first n + 1 parts in turn
unfoldable pub in_row : ℕ → (ℕ → Edges) → Edges
in_row zero f = f 0
in_row (suc n) f = joined (in_row n f) (f (suc n))

-- the pairs of the i-th entry of a page and of the next differ
abbrev pub next_differs : ℕ → List ℕ → ℕ → Bool
next_differs half s i = not (same_pair (pair_at half s i) (pair_at half s (suc i)))

-- of a leaf's entries: their own pairs
unfoldable pub leaf_edges : ℕ → List ℕ → Edges
leaf_edges half s =
    record {
      apart = every (entry_count s - 1) (λ i. next_differs half s i);
      first = pair_at half s 0;
      last = pair_at half s (entry_count s - 1);
    }

-- of the leaf entries below page p of the level named, with the pairs from that page on down. What stands above adds the same to each.
unfoldable pub page_edges : ℕ → List ℕ → ℕ → ℕ → Edges
page_edges half img zero p = leaf_edges half (page_at half img p)
page_edges half img (suc l) p =
    let s = page_at half img p in
    in_row (entry_count s - 1) (λ i. under_pair (pair_at half s i) (page_edges half img l (child_at half s i)))

-- of those below the i-th entry of page p, whose pages below are of the level named
unfoldable pub entry_edges : ℕ → List ℕ → ℕ → ℕ → ℕ → Edges
entry_edges half img l p i =
    let s = page_at half img p in
    under_pair (pair_at half s i) (page_edges half img l (child_at half s i))
