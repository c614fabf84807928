-- A sound image has on no level fewer pages than a tight one of so many entries has. One that has as many in all has as many on each level,
-- and so no more than any other sound image with leaf entries for the same runs. Assumes nothing.
use mathlib.Core.Path.{◌≡◌, refl, sym, ap}
use mathlib.Core.Bool.{true}
use mathlib.Core.List.{List}
use Prim.Native.Nat.{ℕ, suc, ◌+◌, ◌-◌, ◌*◌, ◌≤◌, ◌<◌}
use native.Mathlib.Omega.{arith}
use native.Mathlib.Decide.{dec_lt}
use lib.ListN.{length, get_or}
use Rattle.lists.specs.Lists.{total}
use Rattle.lists.proofs.Totals.{total_le, all_same, sum_total}
use Rattle.lists.proofs.Times.{sum_hits}
use Rattle.rule.specs.Time.{END}
use Rattle.page.specs.declared.Head.{Head}
use Rattle.page.specs.Layout.{capacity, level_of}
use Rattle.page.specs.Fit.{root_context}
use Rattle.image.specs.Images.{page_at, pages_in}
use Rattle.image.specs.Sound.{sound_before}
use Rattle.image.specs.Listing.{join, walk_over}
use Rattle.image.proofs.Capacity.{fit_half}
use Rattle.image.proofs.Runs.{join_few}
use Rattle.tight.specs.Tight.{sizes, pages_used}
use Rattle.soundness.proofs.Sound.{the_head, the_tree, SoundFacts, sound_facts}
use Rattle.soundness.proofs.Used.{tree_level}
use Rattle.soundness.proofs.Counting.{sound_counted}
use Rattle.tight.specs.Counts.{pages_on, runs_walked}
use Rattle.fewest.proofs.Under.{on_above, on_top, on_below, leaves_room}
use Rattle.fewest.proofs.Levels.{sizes_least}

-- the root's level
abbrev pub top : ℕ → List ℕ → ℕ
top half img = (the_head half img).height - 1

-- ---- a sound image, level by level

module _ (half : ℕ) (img : List ℕ) (fits : sound_before half img ≡ true) where
  abbrev h : Head
  h = the_head half img

  facts : SoundFacts half img
  facts = sound_facts half img fits

  some : 1 ≤ half
  some = omega (arith, (fit_half half (pages_in half img) img facts.fit.head_fits).least)

  root_level : (root_context h).level ≡ top half img
  unfolding root_context
  root_level = refl

  -- no page stands above the root, the root stands alone on its level, and each level has room for the one below
  pub none_above : (l : ℕ) → top half img < l → pages_on half img l ≡ 0
  unfolding pages_on
  none_above l lt = on_above half h img l (top half img) (root_context h) h.root root_level facts.fit.tree lt

  pub one_root : pages_on half img (top half img) ≡ 1
  unfolding pages_on
  one_root = on_top half h img (top half img) (root_context h) h.root root_level facts.fit.tree

  pub level_room : (l : ℕ) → l < top half img → pages_on half img l ≤ capacity half * pages_on half img (suc l)
  unfolding pages_on
  level_room l lt = on_below half h img l (top half img) (root_context h) h.root root_level facts.fit.tree lt

  -- and the leaves for the runs of every walk
  pub leaf_room : (a b : ℕ) → length (walk_over half img a b).runs ≤ capacity half * pages_on half img 0
  unfolding pages_on walk_over
  leaf_room a b = leaves_room half h img a b (top half img) (root_context h) h.root root_level

  entries_room : (m : ℕ) → m ≤ runs_walked half img → m ≤ capacity half * pages_on half img 0
  unfolding runs_walked
  entries_room m entries = omega (arith, entries, leaf_room 0 END)

  -- all levels together have the tree's pages
  pub pages_total : (n : ℕ) → (the_head half img).height ≤ n → total n (pages_on half img) ≡ length (the_tree half img)
  unfolding pages_on
  pages_total n le =
      sum_hits n (λ p. level_of (page_at half img p)) (the_tree half img) (λ p h. omega (arith, tree_level facts.fit p h))

  -- ---- the fewest pages: with leaves that have room for m entries

  module _ (m : ℕ) (room : m ≤ capacity half * pages_on half img 0) where
    pub fewest_on : (l : ℕ) → get_or (sizes half m) l 0 ≤ pages_on half img l
    unfolding sizes
    fewest_on l =
        let same : pages_on half img (0 + l) ≡ pages_on half img l = ap (pages_on half img) (omega arith) in
        let least : get_or (sizes half m) l 0 ≤ pages_on half img (0 + l) =
        sizes_least half some (top half img) (pages_on half img) (omega (arith, one_root)) level_room m m 0 (omega arith) room l in
        omega (arith, least, same)

    -- as many levels as it takes
    abbrev levels : ℕ → ℕ
    levels l = length (sizes half m) + (the_head half img).height + l

    sizes_total : (l : ℕ) → total (levels l) (λ i. get_or (sizes half m) i 0) ≡ pages_used half m
    unfolding pages_used
    sizes_total l = sum_total (sizes half m) (levels l) (omega arith)

    -- and in all
    pub fewest_in_all : pages_used half m ≤ length (the_tree half img)
    fewest_in_all =
        omega (
          arith,
          sizes_total 0,
          pages_total (levels 0) (omega arith),
          total_le (levels 0) (λ i. get_or (sizes half m) i 0) (pages_on half img) (λ i lt. fewest_on i),
        )

    -- an image without free pages whose high mark follows so many has the size of each level
    pub exact_on : (the_head half img).chain ≡ 0 → (the_head half img).mark ≡ suc (pages_used half m)
        → (l : ℕ) → pages_on half img l ≡ get_or (sizes half m) l 0
    exact_on chain mark l =
        let n : ℕ = levels (suc l) in
        let used : length (the_tree half img) ≡ pages_used half m = omega (arith, (sound_counted facts).count) in
        sym
        (all_same n (λ i. get_or (sizes half m) i 0) (pages_on half img) (λ i lt. fewest_on i)
        (omega (arith, used, sizes_total (suc l), pages_total n (omega arith))) l (omega arith))

  -- with m leaf entries at the least
  pub fewest_used : (m : ℕ) → m ≤ runs_walked half img → pages_used half m ≤ length (the_tree half img)
  fewest_used m entries = fewest_in_all m (entries_room m entries)

-- a full listing has no more runs than the image has leaf entries
pub listing_few : (half : ℕ) (img : List ℕ) → length (join (walk_over half img 0 END).runs) ≤ runs_walked half img
unfolding runs_walked
listing_few half img = join_few (walk_over half img 0 END).runs

-- ---- beside another sound image with leaf entries for the same runs

module _ (half : ℕ) (img other : List ℕ) (fits : sound_before half img ≡ true) (fits' : sound_before half other ≡ true) (m : ℕ)
    (entries : m ≤ runs_walked half img) (entries' : m ≤ runs_walked half other) (chain : (the_head half img).chain ≡ 0)
    (mark : (the_head half img).mark ≡ suc (pages_used half m)) where
  -- on no level more pages
  pub no_more_on : (l : ℕ) → pages_on half img l ≤ pages_on half other l
  no_more_on l =
      omega (
        arith,
        exact_on half img fits m (entries_room half img fits m entries) chain mark l,
        fewest_on half other fits' m (entries_room half other fits' m entries') l,
      )

  -- and no more levels
  pub no_higher : (the_head half img).height ≤ (the_head half other).height
  no_higher = go (dec_lt (top half other) (top half img))
    where
      go : Dec (top half other < top half img) → (the_head half img).height ≤ (the_head half other).height
      go (yes l) =
          absurd
          (omega (
            arith,
            no_more_on (top half img),
            one_root half img fits,
            none_above half other fits' (top half img) l,
          ))
      go (no l) =
          omega (
            arith,
            l,
            (sound_facts half img fits).fit.head.height_least,
            (sound_facts half other fits').fit.head.height_least,
          )
