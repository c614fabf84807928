-- How many pages a level has, as the code counts them, and the levels one above another. Assumes nothing.
use Prim.Native.Nat.{ℕ, zero, suc, ◌+◌, ◌-◌, ◌/◌, ◌≤◌, ◌<◌}
use mathlib.Core.Path.{◌≡◌, sym, ap, ◌∙◌}
use mathlib.Core.Bool.{cond}
use mathlib.Core.List.{List, [], ◌∷◌}
use native.Mathlib.Nat.{add-div_right}
use native.Mathlib.Omega.{arith}
use lib.ListN.{length}
use lib.Dec.{leb}
use borrow.Author.Tests.{le-leb, lt-leb}
use Rattle.lists.specs.Lists.{sum}
use Rattle.page.specs.Layout.{capacity}
use Rattle.tight.specs.Tight.{pages_for, level_sizes, sizes, pages_used}
use Rattle.tight.proofs.Pages.{pages_some, pages_half}
use Rattle.tight.proofs.Levels.{used_few}
use Rattle.rebuild.specs.declared.TreeSize.{TreeSize}
use Rattle.rebuild.specs.Levels.{tree_size}

-- one more than the full pages ahead of the last entry
pub pages_counted : (half m : ℕ) {k : ℕ} → 1 ≤ half → 1 ≤ m → k ≡ capacity half → (m - 1) / k + 1 ≡ pages_for half m
unfolding pages_for
pages_counted half m some one e =
    let d : m - 1 + capacity half ≡ m + (capacity half - 1) = omega arith in
    ap (λ n. (m - 1) / n + 1) e ∙ sym (add-div_right (m - 1) (omega arith)) ∙ ap (λ n. n / capacity half) d

-- ---- the levels counted so far, the last of them with p pages

-- the levels above one with p pages
unfoldable pub levels_above : ℕ → ℕ → ℕ → List ℕ
levels_above half most p = cond (leb p 1) [] (level_sizes half most p)

pub record Counted (half m p n h : ℕ) : Type 0 where
  pub some : 1 ≤ p
  pub low : h ≤ n
  pub most : ℕ
  pub enough : 2 ≤ p → p ≤ most
  pub pages : n + sum (λ q. q) (levels_above half most p) ≡ pages_used half m
  pub height : h + length (levels_above half most p) ≡ length (sizes half m)

module _ (half : ℕ) (two : 2 ≤ half) where
  pub fewer : (m : ℕ) → 1 ≤ m → 2 ≤ pages_for half m → pages_for half m < m
  fewer m one many = omega (arith, pages_half half m two many)

  pub counted_none : (m : ℕ) {p : ℕ} → 1 ≤ m → p ≡ pages_for half m → Counted half m p p 1
  unfolding levels_above pages_used sizes level_sizes sum
  counted_none zero one e = absurd (omega arith)
  counted_none (suc m) {p} one e =
      let some : 1 ≤ p = omega (arith, pages_some half (suc m) (omega arith) one) in
      record {
        some = some;
        low = some;
        most = m;
        enough = λ h. omega (arith, fewer (suc m) one (omega arith));
        pages = ap (λ q. q + sum (λ n. n) (cond (leb q 1) [] (level_sizes half m q))) e;
        height = omega (arith, ap (λ q. length (cond (leb q 1) [] (level_sizes half m q))) e);
      }

  pub counted_more : {m p q n h : ℕ} → Counted half m p n h → 2 ≤ p → q ≡ pages_for half p → Counted half m q (n + q) (h + 1)
  unfolding levels_above level_sizes sum
  counted_more {m} {p} {q} {n} {h} c many e = go c.most (c.enough many) c.pages c.height
    where
      go : (most : ℕ) → p ≤ most → n + sum (λ r. r) (cond (leb p 1) [] (level_sizes half most p)) ≡ pages_used half m
          → h + length (cond (leb p 1) [] (level_sizes half most p)) ≡ length (sizes half m)
          → Counted half m q (n + q) (h + 1)
      go zero l a b = absurd (omega arith)
      go (suc most) l a b =
          let some : 1 ≤ q = omega (arith, pages_some half p (omega arith) (omega arith)) in
          let above : List ℕ = cond (leb q 1) [] (level_sizes half most q) in
          let same : cond (leb p 1) [] (level_sizes half (suc most) p) ≡ q ∷ above =
          ap (λ b. cond b [] (level_sizes half (suc most) p)) (lt-leb p 1 many)
          ∙ ap (λ r. r ∷ cond (leb r 1) [] (level_sizes half most r)) (sym e) in
          record {
            some = some;
            low = omega (arith, c.low);
            most = most;
            enough = λ g. omega (arith, fewer p (omega arith) (omega arith));
            pages = omega (arith, a, ap (sum (λ r. r)) same);
            height = omega (arith, b, ap length same);
          }

  pub counted_most : {m p n h : ℕ} → Counted half m p n h → 1 ≤ m → n ≤ m
  counted_most c one = omega (arith, c.pages, used_few half _ two one)

  pub counted_all : {m p n h : ℕ} → Counted half m p n h → p ≤ 1
      → ◌≡◌ {A = TreeSize} (record { pages = n; height = h }) (tree_size half m)
  unfolding levels_above tree_size sum
  counted_all {m} {p} {n} {h} c few =
      let none : cond (leb p 1) [] (level_sizes half c.most p) ≡ [] = rw (le-leb p 1 few) in
      let a : n ≡ pages_used half m = omega (arith, c.pages, ap (sum (λ r. r)) none) in
      let b : h ≡ length (sizes half m) = omega (arith, c.height, ap length none) in
      λ j. record { pages = a j; height = b j }
