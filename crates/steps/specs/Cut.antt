-- Document 01, "One change in five steps", steps A and B: cut at t. Over half the capacity of a page. Assumes nothing.
use Rattle.std.specs.Prelude.{ℕ, zero, suc, cond, List, [], ◌∷◌, length, take, drop, eqb, leb}
use Rattle.rule.specs.Pairs.{none}
use Rattle.rule.specs.Time.{END}
use Rattle.page.specs.declared.Entry.{Entry}
use Rattle.page.specs.Entries.{entry, at, index_of}
use Rattle.lists.specs.Lists.{splice}
use Rattle.page.specs.Layout.{capacity}
use Rattle.image.specs.Images.{Image, tree}
use Rattle.steps.specs.Supply.{entries, put, spare, taken, with_root}

-- What an entry became, one entry or two, and the image then.
pub record Cutting : Type 0 where
  pub became : List Entry
  pub image : Image

-- "the leaf entry that has t becomes two with the same pair"; nothing if t starts it
unfoldable pub cut_leaf_entry : ℕ → Entry → List Entry
cut_leaf_entry t e = cond (eqb e.start t) (e ∷ []) (e ∷ entry t e.pair e.child ∷ [])

-- The page under e, of the level named, has the entries es from now on.
unfoldable pub not_split : ℕ → Entry → List Entry → Image → Cutting
not_split level e es X = record { became = e ∷ []; image = put e.child (tree level es) X }

-- "25 entries split: the page keeps 12, a taken page gets 13, the parent gains an entry with the same pair." Document 02, (xi): "a split
-- keeps K/2 and moves K/2 + 1"
unfoldable pub split : ℕ → ℕ → Entry → List Entry → Image → Cutting
split half level e es X =
    let right = drop half es in
    let q = spare X in
    record {
      became = e ∷ entry (at right 0).start e.pair q ∷ [];
      image = put q (tree level right) (put e.child (tree level (take half es)) (taken X));
    }

-- a page that gained an entry: one more than the capacity split, fewer are written
unfoldable pub split_if_full : ℕ → ℕ → Entry → List Entry → Image → Cutting
split_if_full half level e es X = cond (leb (length es) (capacity half)) (not_split level e es X) (split half level e es X)

-- An entry at a level, cut at t: a leaf entry by itself, an inner one by the entry of its page that has t. "Lower pages take first."
unfoldable pub cut_entry : ℕ → ℕ → ℕ → Entry → Image → Cutting
cut_entry half t zero e X = record { became = cut_leaf_entry t e; image = X }
cut_entry half t (suc l) e X =
    let es = entries X e.child in
    let i = index_of t es in
    let r = cut_entry half t l (at es i) X in
    cond (eqb (length r.became) 1) (record { became = e ∷ []; image = r.image })
    (split_if_full half l e (splice i r.became es) r.image)

-- The root as an entry: what it becomes stands in the new root, if it becomes two.
unfoldable pub root_entry : Image → Entry
root_entry X = entry 0 none X.head.root

-- "A split root gets a new root, two entries with pair (0, 0)."
unfoldable pub grow_root : List Entry → Image → Image
grow_root es X =
    let h = X.head.height in
    put (spare X) (tree h es) (with_root (suc h) (spare X) (taken X))

-- what the cut of the root leaves: one entry is the root again, two stand in a new root
unfoldable pub grow_if_split : Cutting → Image
grow_if_split r = cond (eqb (length r.became) 1) r.image (grow_root r.became r.image)

-- "Cut at t: nothing if t is END or starts a leaf entry."
unfoldable pub cut : ℕ → ℕ → Image → Image
cut half t X = cond (leb END t) X (grow_if_split (cut_entry half t X.head.height (root_entry X) X))
