-- What the first pass tells of a walk: how many runs it found, or that a page was unfit. Assumes nothing.
use mathlib.Core.Path.{◌≡◌, sym}
use mathlib.Core.Bool.{true, false}
use Prim.Native.Nat.{ℕ}
use lib.ListN.{length}
use Rattle.std.specs.Prelude.{Some, None}
use Rattle.std.proofs.lemmas.Option.{cond_some}
use Rattle.image.specs.Listing.{Walked, join}
use Rattle.listing.specs.Walks.{count}
use Rattle.listing.proofs.Laws.Turns.{cond_none}

pub counted_runs : (w : Walked) {n : ℕ} → Some n ≡ count w → (w.fit ≡ true) × (n ≡ length (join w.runs))
unfolding count
counted_runs w {n} e = let f = cond_some w.fit (length (join w.runs)) n (sym e) in (f.0, sym f.1)

pub not_counted : (w : Walked) → None ≡ count w → w.fit ≡ false
unfolding count
not_counted w e = cond_none w.fit _ e
