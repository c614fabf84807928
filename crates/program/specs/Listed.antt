-- Runs as they stand in a listing's output. Assumes nothing.
use Rattle.std.specs.Prelude.{ℕ, zero, suc, List, [], ◌∷◌}
use Rattle.rule.specs.Time.{END}
use Rattle.image.specs.Listing.{Run}
use Rattle.runs.specs.Listed.{run_at}

-- m runs from the i-th on
unfoldable pub runs_at : List ℕ → ℕ → ℕ → List Run
runs_at s i zero = []
runs_at s i (suc m) = run_at s i ∷ runs_at s (suc i) m

-- where the i-th run ends, with m runs behind it
unfoldable pub end_before : List ℕ → ℕ → ℕ → ℕ
end_before s i zero = END
end_before s i (suc m) = (run_at s (suc i)).start
