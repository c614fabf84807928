-- A page that was left short: its sibling is there, and gives or joins. Assumes nothing.
use mathlib.Core.Path.{◌≡◌, refl, sym, ap, ◌∙◌, subst}
use mathlib.Core.Bool.{Bool, true, false, cond}
use Prim.Native.Nat.{ℕ, zero, suc, ◌+◌, ◌-◌, ◌≤◌, ◌<◌}
use native.Mathlib.Omega.{arith}
use lib.Dec.{eqb, ltb}
use lib.ListN.{length}
use borrow.Author.Tests.{eq-eqb, ne_eqb, lt-ltb, le-ltb}
use Rattle.rule.specs.Pairs.{combine}
use Rattle.page.specs.Entries.{at}
use Rattle.page.specs.Layout.{capacity}
use Rattle.image.specs.Images.{Image}
use Rattle.steps.specs.Supply.{entries}
use Rattle.steps.specs.Heal.{sibling, left_of, redistribute, merge, rebalance}
use Rattle.store.specs.Preconditions.{TreePage, HasEntry}
use Rattle.rebalance.specs.Siblings.{Redistributable, Mergeable}
use Rattle.rebalance.specs.Siblings.{Rebalanceable}

-- ---- the two indices, and how many entries the left one has

module _ (i : ℕ) (e : i ≡ 0) where
  pub sibling_right : 1 ≡ sibling i
  unfolding sibling
  sibling_right = ap (λ b. cond b 1 (i - 1)) (sym (eq-eqb i 0 e))

  pub left_itself : 0 ≡ left_of i
  unfolding left_of
  left_itself = omega arith

  pub share_right : (half n : ℕ) → half ≡ cond (eqb i 0) half (n - 1)
  share_right half n = ap (λ b. cond b half (n - 1)) (sym (eq-eqb i 0 e))

module _ (i : ℕ) (e : i ≡ 0 → ⊥) where
  pub sibling_left : i - 1 ≡ sibling i
  unfolding sibling
  sibling_left = ap (λ b. cond b 1 (i - 1)) (sym (ne_eqb i 0 e))

  pub share_left : (half n : ℕ) → n - 1 ≡ cond (eqb i 0) half (n - 1)
  share_left half n = ap (λ b. cond b half (n - 1)) (sym (ne_eqb i 0 e))

-- ---- the sibling

pub left_before : (i : ℕ) → i - 1 ≡ left_of i
unfolding left_of
left_before i = refl

-- of the first page the right one, of another one the left one
right_is : suc (left_of 0) ≡ sibling 0
right_is = ap suc (sym (left_itself 0 refl)) ∙ sibling_right 0 refl

left_is : (i : ℕ) → left_of (suc i) ≡ sibling (suc i)
left_is i = sym (left_before (suc i)) ∙ sibling_left (suc i) (λ z. omega arith)

after_left : (i : ℕ) → suc (left_of (suc i)) ≡ suc i
after_left i =
    let d : suc (suc i - 1) ≡ suc i = omega arith in
    ap suc (sym (left_before (suc i))) ∙ d

-- The page under the i-th entry is one of the two siblings, its sibling the other one.
pub record Pairing (level p i : ℕ) (X : Image) : Type 0 where
  pub inside : sibling i < length (entries X p)
  pub tree_page : TreePage level (at (entries X p) (sibling i)).child X

pub rebalance_sibling : {half level p : ℕ} (i : ℕ) {X : Image} → Rebalanceable half level p i X → Pairing level p i X
rebalance_sibling {level = level} {p} zero {X} s =
    let e = right_is in
    record {
      inside = omega (arith, s.siblings.parent.inside);
      tree_page = subst (λ k. TreePage level (at (entries X p) k).child X) e s.siblings.right.tree_page;
    }
rebalance_sibling {level = level} {p} (suc i) {X} s =
    let e = left_is i in
    record {
      inside = omega (arith, s.siblings.parent.inside);
      tree_page = subst (λ k. TreePage level (at (entries X p) k).child X) e s.siblings.left.tree_page;
    }

pub rebalance_entry : {half level p i j : ℕ} {X : Image} → Rebalanceable half level p i X → j ≡ sibling i → HasEntry (suc level) p j X
rebalance_entry {i = i} s e = record { tree_page = s.siblings.parent.tree_page; inside = omega (arith, (rebalance_sibling i s).inside) }

-- ---- what it does

-- how many entries the page under the k-th entry of page p has
abbrev under : ℕ → Image → ℕ → ℕ
under p X k = length (entries X (at (entries X p) k).child)

both_sizes : (p i : ℕ) (X : Image) → under p X (left_of i) + under p X (suc (left_of i)) ≡ under p X i + under p X (sibling i)
both_sizes p zero X = λ j. under p X (sym (left_itself 0 refl) j) + under p X (right_is j)
both_sizes p (suc i) X = omega (arith, ap (under p X) (left_is i), ap (under p X) (after_left i))

-- the left page's share is neither more than a page has nor less than leaves the other one room
share_fits : (half i n : ℕ) → half < n → n ≤ capacity half
    → (cond (eqb i 0) half (n - 1) ≤ capacity half) × ((cond (eqb i 0) half (n - 1) < n) × (n ≤ cond (eqb i 0) half (n - 1) + suc half))
share_fits half zero n low high =
    let e = share_right 0 refl half n in
    (omega arith, (omega arith, omega arith))
share_fits half (suc i) n low high =
    let e = share_left (suc i) (λ z. omega arith) half n in
    (omega arith, (omega arith, omega arith))

module _ {half level p i l n : ℕ} {X : Image} (at_left : l ≡ left_of i) (has : n ≡ under p X (sibling i)) where
  pub rebalance_redistributable : {k : ℕ} → k ≡ cond (eqb i 0) half (n - 1) → half < n → n ≤ capacity half → Rebalanceable half level p i X
      → Redistributable half level p l k X
  rebalance_redistributable {k} e low high s =
      let fits = share_fits half i n low high in
      subst (λ l. Redistributable half level p l k X) (sym at_left)
      (record {
        siblings = s.siblings;
        left = omega (arith, fits.0);
        right = omega (arith, both_sizes p i X, s.short, fits.1.1);
        some = omega (arith, both_sizes p i X, fits.1.0);
      })

  pub rebalance_mergeable : n ≤ half → Rebalanceable half level p i X → Mergeable half level p l X
  rebalance_mergeable few s =
      subst (λ l. Mergeable half level p l X) (sym at_left)
      (record { siblings = s.siblings; few = omega (arith, both_sizes p i X, s.short); room = s.room })

-- what it leaves, by whether the sibling has more than half the capacity
abbrev decided : ℕ → Bool → ℕ → ℕ → ℕ → ℕ → Image → Image
decided half b kind level p i X =
    let k = cond (eqb i 0) half (under p X (sibling i) - 1) in
    cond b (redistribute (combine kind) level p (left_of i) k X) (merge (combine kind) level p (left_of i) X)

module _ (half kind level p i : ℕ) (X : Image) {l n : ℕ} (at_left : l ≡ left_of i) (has : n ≡ under p X (sibling i)) where
  pub rebalance_redistributed : {k : ℕ} → k ≡ cond (eqb i 0) half (n - 1) → half < n
      → redistribute (combine kind) level p l k X ≡ rebalance half (combine kind) level p i X
  unfolding rebalance
  rebalance_redistributed {k} e low =
      let m : ℕ = under p X (sibling i) in
      let share : k ≡ cond (eqb i 0) half (m - 1) = e ∙ ap (λ n. cond (eqb i 0) half (n - 1)) has in
      let many : ltb half m ≡ true = lt-ltb half m (omega arith) in
      (λ j. redistribute (combine kind) level p (at_left j) (share j) X) ∙ ap (λ b. decided half b kind level p i X) (sym many)

  pub rebalance_merged : n ≤ half → merge (combine kind) level p l X ≡ rebalance half (combine kind) level p i X
  unfolding rebalance
  rebalance_merged few =
      let m : ℕ = under p X (sibling i) in
      let many : ltb half m ≡ false = le-ltb half m (omega arith) in
      (λ j. merge (combine kind) level p (at_left j) X) ∙ ap (λ b. decided half b kind level p i X) (sym many)
