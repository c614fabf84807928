-- How high a tree can grow: a level more takes so many pages that no image has them. Assumes nothing.
use Prim.Native.Nat.{ℕ, zero, suc, ◌+◌, ◌*◌, ◌-◌, ◌≤◌, ◌<◌}
use mathlib.Core.Path.{◌≡◌, refl}
use mathlib.Core.Bool.{Bool, true, false, cond}
use mathlib.Core.List.{List, ◌++◌}
use native.Mathlib.Omega.{arith}
use native.Mathlib.Nat.{mul-le-mul_left, mul-le-mul_right}
use lib.Dec.{leb}
use lib.ListN.{length, length-append}
use borrow.Author.Tests.{leb-true, leb-false}
use Rattle.lists.specs.Lists.{concat_map, times}
use Rattle.lists.proofs.Times.{times_append, Within, short_of_once}
use Rattle.tree.specs.Tree.{Node, Subtree, Tree, pages_under}
use Rattle.tree.specs.Cut.{State}
use Rattle.tree.specs.Shape.{Asked, Seg, done, more, Shaped, Formed, root_least}
use Rattle.tree.specs.Conserved.{times_below, times_spare, held}
use Rattle.tree.specs.Counts.{pages_of, least_under}

-- m at the least for each
seg_long : {A : Type 0} {Q : Asked A} {lo hi : ℕ} {es : List (Node A)} (m : ℕ) (f : Node A → List ℕ)
    → ((a b : ℕ) (x : Node A) → Q a b x → m ≤ length (f x))
    → Seg Q lo hi es
    → length es * m ≤ length (concat_map f es)
unfolding concat_map
seg_long m f h done = omega arith
seg_long m f h (more {lo} {mid} {x = x} {es = es} e lt q r) =
    omega (arith, length-append (f x) (concat_map f es), h lo mid x q, seg_long m f h r)

under_least : (half : ℕ) (B : Asked (Subtree 0)) (l a b : ℕ) (x : Node (Subtree l)) → Shaped half B l a b x
    → least_under half l ≤ length (pages_under l x)
unfolding least_under pages_under Shaped
under_least half B zero a b x q = omega arith
under_least half B (suc l) a b x q =
    omega (
      arith,
      mul-le-mul_right (least_under half l) q.0.least,
      seg_long (least_under half l) (λ y. pages_under l y) (λ c d y. under_least half B l c d y) q.1,
    )

pages_least : {half : ℕ} {B : Asked (Subtree 0)} (T : Tree) → Formed half B T
    → suc (root_least T.level * least_under half T.level) ≤ length (pages_of T)
unfolding pages_of
pages_least {half} {B} T F =
    let l = T.level in
    omega (
      arith,
      mul-le-mul_right (least_under half l) F.least,
      seg_long (least_under half l) (λ x. pages_under l x) (λ a b x. under_least half B l a b x) F.spans,
    )

-- a level more has no fewer
least_rises : (half l m : ℕ) → l ≤ m → least_under half l ≤ least_under half m
unfolding least_under
least_rises half zero m h = omega arith
least_rises half (suc l) zero h = absurd (omega arith)
least_rises half (suc l) (suc m) h = omega (arith, mul-le-mul_left half (least_rises half l m (omega arith)))

inner_least : (half l : ℕ) → 0 < l → root_least l * least_under half l ≡ 2 * least_under half l
unfolding root_least
inner_least half zero h = absurd (omega arith)
inner_least half (suc l) h = refl

-- the pages of two entries of a root above level m
level_most : {half : ℕ} {B : Asked (Subtree 0)} (m : ℕ) (T : Tree) → Formed half B T
    → length (pages_of T) ≤ 2 * least_under half (suc m) → T.level ≤ m
level_most {half} m T F h = go (leb T.level m) refl
  where
    go : (b : Bool) → leb T.level m ≡ b → T.level ≤ m
    go true e = leb-true T.level m e
    go false e =
        let lt : m < T.level = leb-false T.level m e in
        absurd (omega (arith, pages_least T F, least_rises half (suc m) T.level lt, inner_least half T.level (omega arith)))

all_pages : State → List ℕ
all_pages Y = pages_of Y.tree ++ Y.supply.chain

held_all : (p : ℕ) (Y : State) → held p Y ≡ times p (all_pages Y) + cond (leb Y.supply.mark p) 1 0
unfolding all_pages times_spare held pages_of times_below times
held_all p Y = omega (arith, times_append p (pages_of Y.tree) Y.supply.chain)

-- no page is held twice, and page 0 not at all: all pages of tree and chain lie below the high mark
module _ (Y : State) (once : (p : ℕ) → held p Y ≤ 1) (head_apart : held 0 Y ≡ 0) where
  all_within : Within (Y.supply.mark - 1) (all_pages Y)
  all_within p h = (go p h, past (leb Y.supply.mark p) refl)
    where
      go : (p : ℕ) → 1 ≤ times p (all_pages Y) → 1 ≤ p
      go zero h = absurd (omega (arith, held_all 0 Y))
      go (suc p) h = omega arith

      past : (b : Bool) → leb Y.supply.mark p ≡ b → p ≤ Y.supply.mark - 1
      past true e = absurd (omega (arith, once p, rw e at (held_all p Y)))
      past false e = omega (arith, leb-false Y.supply.mark p e)

  pages_below_mark : length (pages_of Y.tree) + length Y.supply.chain ≤ Y.supply.mark - 1
  unfolding all_pages
  pages_below_mark =
      omega (
        arith,
        length-append (pages_of Y.tree) Y.supply.chain,
        short_of_once (Y.supply.mark - 1) (all_pages Y) all_within (λ p. omega (arith, once p, held_all p Y)),
      )

level_once : {half : ℕ} {B : Asked (Subtree 0)} (m : ℕ) (Y : State) → Formed half B Y.tree → ((p : ℕ) → held p Y ≤ 1) → held 0 Y ≡ 0
    → Y.supply.mark ≤ suc (2 * least_under half (suc m)) → Y.tree.level ≤ m
level_once m Y F once apart h = level_most m Y.tree F (omega (arith, pages_below_mark Y once apart))

-- wider pages have no fewer
least_wider : (half l : ℕ) → 2 ≤ half → least_under 2 l ≤ least_under half l
unfolding least_under
least_wider half zero two = omega arith
least_wider half (suc l) two = omega (arith, mul-le-mul_right (least_under half l) two, least_wider half l two)

-- with 2 entries at the least a root of level 10 has 2,046 pages below it: the height is 10 at the most
pub level_low : {half : ℕ} {B : Asked (Subtree 0)} → 2 ≤ half → (Y : State) → Formed half B Y.tree → ((p : ℕ) → held p Y ≤ 1)
    → held 0 Y ≡ 0
    → Y.supply.mark ≤ 1024 → Y.tree.level ≤ 9
unfolding least_under
level_low {half} two Y F once apart h =
    let k : 1023 ≤ least_under half 10 = least_wider half 10 two in
    level_once 9 Y F once apart (omega arith)
