-- What an entry that was cut became. Assumes nothing.
use Rattle.std.specs.Prelude.{ℕ, ◌≡◌, List, [], ◌∷◌, Option, Some, None}
use Rattle.page.specs.declared.Entry.{Entry}
use Rattle.page.specs.Entries.{entry, at}
use Rattle.lists.specs.Lists.{splice}
use Rattle.steps.specs.Cut.{Cutting}
use Rattle.store.specs.Encoding.{Encodes}
use Rattle.cut.specs.declared.SplitOff.{SplitOff}

-- the entry e; where its page was split, "the parent gains an entry with the same pair"
unfoldable pub became : Entry → Option SplitOff → List Entry
became e None = e ∷ []
became e (Some right) = e ∷ entry right.start e.pair right.page ∷ []

-- the entries of a page whose i-th becomes two
unfoldable pub inserted_after : ℕ → SplitOff → List Entry → List Entry
inserted_after i right es = splice i (became (at es i) (Some right)) es

-- The entry e became r and the bytes then are `after`, as the cutting of e says.
pub record CutAs (half : ℕ) (e : Entry) (c : Cutting) (r : Option SplitOff) (after : List ℕ) : Type 0 where
  pub becomes : became e r ≡ c.became
  pub holds : Encodes half after c.image
