-- An edit of a tree page in place, on its bytes. Assumes nothing.
use Rattle.std.specs.Prelude.{ℕ, ◌≤◌, ◌≡◌, List, length}
use Rattle.page.specs.declared.Entry.{Entry}
use Rattle.page.specs.Layout.{capacity, tree_bytes}

-- bytes of a tree page become those of the same level with other entries, whatever the level and the entries are
abbrev pub Edits : ℕ → List ℕ → List ℕ → (List Entry → List Entry) → Type 0
Edits half before after to =
    (level : ℕ) (es : List Entry) → length es ≤ capacity half → before ≡ tree_bytes half level es → after ≡ tree_bytes half level (to es)
