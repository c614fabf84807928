-- The listings of a book are those of the aggregate, and of every book with the same changes. Assumes nothing.
use Prim.Native.Nat.{ℕ}
use mathlib.Core.Path.{◌≡◌}
use mathlib.Core.List.{List}
use Rattle.lists.specs.Lists.{All}
use Rattle.book.specs.Book.{book_of, book_pair, listing_of}
use Rattle.book.specs.Aggregate.{aggregate}
use Rattle.calls.specs.Changes.{Change}
use Rattle.claims.specs.Demands.{SameChanges}
use Rattle.demands.specs.Items.{Spanned, Sided}
use Rattle.demands.proofs.Book.Books.{book_same_changes}
use Rattle.demands.proofs.Book.Aggregates.{book_aggregate}
use Rattle.demands.proofs.Book.Runs.{listing_same}

module _ (kind w a b : ℕ) (out : List ℕ) where
  pub book_listing : {cs : List Change} → All Spanned cs → All (Sided kind) cs
      → listing_of (book_pair (book_of kind w cs)) a b out ≡ listing_of (aggregate kind w cs) a b out
  book_listing {cs} spans sided =
      listing_same (book_pair (book_of kind w cs)) (aggregate kind w cs) a b out (λ t x y l. book_aggregate kind w t l spans sided)

  pub listing_same_changes : {xs ys : List Change} → SameChanges xs ys → All (Sided kind) xs → All (Sided kind) ys
      → listing_of (book_pair (book_of kind w xs)) a b out ≡ listing_of (book_pair (book_of kind w ys)) a b out
  listing_same_changes {xs} {ys} S h k =
      listing_same (book_pair (book_of kind w xs)) (book_pair (book_of kind w ys)) a b out (λ t x y l. book_same_changes kind w t S h k)
