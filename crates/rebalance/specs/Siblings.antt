-- Images in which two siblings can be read, and share their entries anew or become one page. Assumes nothing.
use Rattle.std.specs.Prelude.{ℕ, suc, ◌+◌, ◌-◌, ◌≤◌, ◌<◌, max, ◌≡◌, List, [], ◌∷◌, ◌++◌, length, take, drop}
use Rattle.rule.specs.declared.Pair.{Pair}
use Rattle.rule.specs.Bounds.{Combinable}
use Rattle.rule.specs.Pairs.{none, combine}
use Rattle.page.specs.declared.Entry.{Entry}
use Rattle.page.specs.Entries.{entry, at}
use Rattle.page.specs.Layout.{capacity}
use Rattle.lists.specs.Lists.{splice}
use Rattle.image.specs.Images.{Image, tree}
use Rattle.steps.specs.Supply.{entries, put, given_back}
use Rattle.steps.specs.Heal.{left_of, pushed, joint}
use Rattle.store.specs.Encoding.{Encodes}
use Rattle.store.specs.Preconditions.{TreePage, HasEntry, PushReady, ChainRoom}
use Rattle.rebalance.specs.declared.SiblingPages.{SiblingPages}

-- ---- what is asked

-- Page p has an l-th entry and a next one, and the pages under both, two pages, can take the pairs above them.
pub record Siblings (level p l : ℕ) (X : Image) : Type 0 where
  pub parent : HasEntry (suc level) p (suc l) X
  pub left : PushReady level (at (entries X p) l) X
  pub right : PushReady level (at (entries X p) (suc l)) X
  pub apart : (at (entries X p) l).child ≡ (at (entries X p) (suc l)).child → ⊥

-- all entries of two siblings, in number
abbrev pub joint_count : ℕ → ℕ → Image → ℕ
joint_count p l X = length (entries X (at (entries X p) l).child) + length (entries X (at (entries X p) (suc l)).child)

-- the left page has k of all, and either page room for what it gets
pub record Redistributable (half level p l k : ℕ) (X : Image) : Type 0 where
  pub siblings : Siblings level p l X
  pub left : k ≤ capacity half
  pub right : joint_count p l X ≤ k + capacity half
  pub some : k < joint_count p l X

-- the left page has room for all, and the right one can be given back
pub record Mergeable (half level p l : ℕ) (X : Image) : Type 0 where
  pub siblings : Siblings level p l X
  pub few : joint_count p l X ≤ capacity half
  pub room : ChainRoom X

-- "A page other than the root left with" K/2 − 1 "turns to its left neighbour under the same parent, else the right": the page under the
-- i-th entry of page p can. Its sibling gives, or the right one of the two is given back.
pub record Rebalanceable (half level p i : ℕ) (X : Image) : Type 0 where
  pub siblings : Siblings level p (left_of i) X
  pub short : length (entries X (at (entries X p) i).child) < half
  pub room : ChainRoom X

-- the pair can be combined into the i-th entry of page q
pub record EntryPushable (pair : Pair) (level q i : ℕ) (X : Image) : Type 0 where
  pub has : HasEntry level q i X
  pub combines : Combinable pair (at (entries X q) i).pair

-- a and b are two tree pages of that level
pub record TwoPages (level a b : ℕ) (X : Image) : Type 0 where
  pub apart : a ≡ b → ⊥
  pub left : TreePage level a X
  pub right : TreePage level b X

-- page a has room for all entries of both
pub record Appendable (half level a b : ℕ) (X : Image) : Type 0 where
  pub pages : TwoPages level a b X
  pub few : length (entries X a) + length (entries X b) ≤ capacity half

-- page a can have k of all entries of both, and page b the others
pub record Sharable (half level a b k : ℕ) (X : Image) : Type 0 where
  pub pages : TwoPages level a b X
  pub first : k ≤ capacity half
  pub all : k ≤ length (entries X a) + length (entries X b)
  pub rest : length (entries X a) + length (entries X b) ≤ k + capacity half

-- and page a has m of them, not k yet
pub record Movable (half level a b m k : ℕ) (X : Image) : Type 0 where
  pub shares : Sharable half level a b k X
  pub has : m ≡ length (entries X a)
  pub differs : m ≡ k → ⊥

-- ---- what is made

-- an entry "set to (0, 0)", from `start` on
abbrev pub emptied : ℕ → Entry → Entry
emptied start e = entry start none e.child

-- an entry into which the pair above its page was combined
abbrev pub with_pair : ℕ → Pair → Entry → Entry
with_pair kind pair e = entry e.start (combine kind pair e.pair) e.child

-- the pages under the l-th entry of page p and the next, the pair above each combined into its entries
abbrev pub both_pushed : ℕ → ℕ → ℕ → ℕ → Image → Image
both_pushed kind level p l X =
    let a = at (entries X p) l in
    let b = at (entries X p) (suc l) in
    put b.child (tree level (pushed (combine kind) X b)) (put a.child (tree level (pushed (combine kind) X a)) X)

-- the bytes then, and the two pages' numbers
pub record BothPushed (half kind level p l : ℕ) (X : Image) (r : SiblingPages) (after : List ℕ) : Type 0 where
  pub left : r.left ≡ (at (entries X p) l).child
  pub right : r.right ≡ (at (entries X p) (suc l)).child
  pub holds : Encodes half after (both_pushed kind level p l X)

-- of all entries of pages a and b, page a has the first k and page b the others
abbrev pub shared : ℕ → ℕ → ℕ → ℕ → Image → Image
shared level a b k X =
    let all = entries X a ++ entries X b in
    put b (tree level (drop k all)) (put a (tree level (take k all)) X)

-- the pages under the l-th entry of page p and the next share their entries anew, the left one has k
abbrev pub siblings_shared : ℕ → ℕ → ℕ → ℕ → ℕ → Image → Image
siblings_shared kind level p l k X =
    let all = joint (combine kind) p l X in
    put (at (entries X p) (suc l)).child (tree level (drop k all)) (put (at (entries X p) l).child (tree level (take k all)) X)

-- they are one page, and the right one is given back
abbrev pub siblings_joined : ℕ → ℕ → ℕ → ℕ → Image → Image
siblings_joined kind level p l X =
    given_back (at (entries X p) (suc l)).child (put (at (entries X p) l).child (tree level (joint (combine kind) p l X)) X)

-- the l-th entry of page p is "set to (0, 0)"
abbrev pub pair_emptied : ℕ → ℕ → ℕ → Image → Image
pair_emptied level p l X =
    let e = at (entries X p) l in
    put p (tree level (splice l (emptied e.start e ∷ []) (entries X p))) X

-- r is nearer to k than m is, and not above both
pub record Nearer (m k r : ℕ) : Type 0 where
  pub less : (k - r) + (r - k) < (k - m) + (m - k)
  pub most : r ≤ max k m
