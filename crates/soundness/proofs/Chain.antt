-- A chain that ends has no page twice: how many pages it has from a page on is fixed by that page. And a list of free pages that was not
-- cut off is a chain that ends. Assumes nothing.
use mathlib.Core.Path.{◌≡◌, refl, ap}
use mathlib.Core.Bool.{true, cond, and-eq-true_iff}
use mathlib.Core.List.{List, [], ◌∷◌}
use Prim.Native.Nat.{ℕ, zero, suc, ◌≤◌, ◌<◌}
use native.Mathlib.Omega.{arith}
use native.Mathlib.Decide.{ℕ_discrete, dec_le}
use lib.ListN.{length}
use borrow.Author.Tests.{eqb-true, leb-true, ltb-true, eq-eqb, ne_eqb, le-leb, lt-ltb}
use Rattle.page.specs.Layout.{next_of, free_ok}
use Rattle.image.specs.Images.{page_at, pages_in, length_ok}
use Rattle.image.specs.Sound.{chain_pages}
use Rattle.lists.specs.Lists.{times}
use Rattle.soundness.specs.Counting.{chain_ends}
use Rattle.lists.proofs.Times.{times_none, times_same, times_other, times_cons}
use Rattle.soundness.proofs.Levels.{free_in}

module _ (half : ℕ) (img : List ℕ) where
  -- ---- one step of each definition

  -- a page of a chain that ends, with k pages behind it
  pub record Link (k p : ℕ) : Type 0 where
    pub least : 1 ≤ p
    pub below : p < pages_in half img
    pub free : free_ok half (page_at half img p) ≡ true
    pub next : chain_ends half img k (next_of (page_at half img p)) ≡ true

  pub link : (k p : ℕ) → chain_ends half img (suc k) p ≡ true → Link k p
  unfolding chain_ends
  link k p e =
      let t = simp and-eq-true_iff at e in
      record { least = leb-true _ _ t.0; below = ltb-true _ _ t.1.0; free = t.1.1.0; next = t.1.1.1 }

  linked : (k p : ℕ) → Link k p → chain_ends half img (suc k) p ≡ true
  unfolding chain_ends
  linked k p r = simp and-eq-true_iff (le-leb _ _ r.least, (lt-ltb _ _ r.below, (r.free, r.next)))

  pub ended : (p : ℕ) → chain_ends half img 0 p ≡ true → p ≡ 0
  unfolding chain_ends
  ended p e = eqb-true p 0 e

  none_left : (p : ℕ) → p ≡ 0 → chain_ends half img 0 p ≡ true
  unfolding chain_ends
  none_left p e = eq-eqb p 0 e

  pub pages_none : (most p : ℕ) → p ≡ 0 → chain_pages half img most p ≡ []
  unfolding chain_pages
  pages_none zero p e = refl
  pages_none (suc most) p e = ap (λ t. cond t [] (p ∷ chain_pages half img most (next_of (page_at half img p)))) (eq-eqb p 0 e)

  pub pages_more : (most p : ℕ) → 1 ≤ p → chain_pages half img (suc most) p ≡ p ∷ chain_pages half img most (next_of (page_at half img p))
  unfolding chain_pages
  pages_more most p l = ap (λ t. cond t [] (p ∷ chain_pages half img most (next_of (page_at half img p)))) (ne_eqb p 0 (λ e. omega arith))

  -- ---- a chain that ends, as a list

  -- the length of what is left is fixed
  same_length : (j k p : ℕ) → chain_ends half img j p ≡ true → chain_ends half img k p ≡ true → j ≡ k
  same_length zero zero p d e = refl
  same_length zero (suc k) p d e = absurd (omega (arith, ended p d, (link k p e).least))
  same_length (suc j) zero p d e = absurd (omega (arith, ended p e, (link j p d).least))
  same_length (suc j) (suc k) p d e = ap suc (same_length j k (next_of (page_at half img p)) (link j p d).next (link k p e).next)

  -- q is a page of a chain of k pages, with fewer behind it
  pub record Among (k q : ℕ) : Type 0 where
    pub behind : ℕ
    pub fewer : behind < k
    pub from : chain_ends half img (suc behind) q ≡ true

  -- the list of a chain that ends after k pages, and how often q stands in it
  pub record Chain (k q : ℕ) (ps : List ℕ) : Type 0 where
    pub long : length ps ≡ k
    pub most : times q ps ≤ 1
    pub among : 1 ≤ times q ps → Among k q

  pub chain_listed : (most k p q : ℕ) → k ≤ most → chain_ends half img k p ≡ true → Chain k q (chain_pages half img most p)
  chain_listed most zero p q l e =
      rw (pages_none most p (ended p e))
      (record { long = refl; most = omega (arith, times_none q); among = λ h. absurd (omega (arith, times_none q)) })
  chain_listed zero (suc k) p q l e = absurd (omega arith)
  chain_listed (suc most) (suc k) p q l e =
      rw (pages_more most p (link k p e).least)
      (go (chain_listed most k (next_of (page_at half img p)) q (omega arith) (link k p e).next) (ℕ_discrete q p))
    where
      rest : List ℕ
      rest = chain_pages half img most (next_of (page_at half img p))

      -- the chain would be as long from its second time on
      alone : Among k q → q ≡ p → ⊥
      alone a c =
          let same : suc a.behind ≡ suc k = same_length (suc a.behind) (suc k) q a.from (rw c e) in
          omega (arith, a.fewer)

      go : Chain k q rest → Dec (q ≡ p) → Chain (suc k) q (p ∷ rest)
      go r (yes c) = first (dec_le 1 (times q rest))
        where
          first : Dec (1 ≤ times q rest) → Chain (suc k) q (p ∷ rest)
          first (yes again) = absurd (alone (r.among again) c)
          first (no once) =
              record {
                long = ap suc r.long;
                most = omega (arith, times_same q p rest c);
                among = λ h. record { behind = k; fewer = omega arith; from = rw c e };
              }
      go r (no c) =
          record {
            long = ap suc r.long;
            most = omega (arith, times_other q p rest c, r.most);
            among =
                λ h.
                let a : Among k q = r.among (omega (arith, times_other q p rest c)) in
                record { behind = a.behind; fewer = omega (arith, a.fewer); from = a.from };
          }

  -- ---- a list of free pages, as a chain

  -- 0 ends the list
  pub chain_least : (most p q : ℕ) → 1 ≤ times q (chain_pages half img most p) → 1 ≤ q
  unfolding chain_pages
  chain_least zero p q h = absurd (omega (arith, times_none q))
  chain_least (suc most) p q h = go (dec_le 1 p) (ℕ_discrete q p) (chain_least most (next_of (page_at half img p)) q)
    where
      rest : List ℕ
      rest = chain_pages half img most (next_of (page_at half img p))

      go : Dec (1 ≤ p) → Dec (q ≡ p) → (1 ≤ times q rest → 1 ≤ q) → 1 ≤ q
      go (yes some) (yes same) later = omega arith
      go (yes some) (no other) later = later (omega (arith, rw (pages_more most p some) at h, times_other q p rest other))
      go (no none) same later = absurd (omega (arith, rw (pages_none (suc most) p (omega arith)) at h, times_none q))

  -- a list that has fewer pages than were asked for was not cut off
  pub listed_ends : length_ok half img ≡ true → (most p : ℕ) → length (chain_pages half img most p) < most
      → ((q : ℕ) → 1 ≤ times q (chain_pages half img most p) → free_ok half (page_at half img q) ≡ true)
      → chain_ends half img (length (chain_pages half img most p)) p ≡ true
  listed_ends ok zero p l f = absurd (omega arith)
  listed_ends ok (suc most) p l f = go (dec_le 1 p) (listed_ends ok most (next_of (page_at half img p)))
    where
      rest : List ℕ
      rest = chain_pages half img most (next_of (page_at half img p))

      go : Dec (1 ≤ p)
          → (length rest < most → ((q : ℕ) → 1 ≤ times q rest → free_ok half (page_at half img q) ≡ true)
          → chain_ends half img (length rest) (next_of (page_at half img p)) ≡ true)
          → chain_ends half img (length (chain_pages half img (suc most) p)) p ≡ true
      go (yes some) later =
          let free : (q : ℕ) → 1 ≤ times q (p ∷ rest) → free_ok half (page_at half img q) ≡ true = rw (pages_more most p some) at f in
          let here : free_ok half (page_at half img p) ≡ true = free p (omega (arith, times_same p p rest refl)) in
          rw (pages_more most p some)
          (linked (length rest) p
          (record {
            least = some;
            below = free_in half img ok p here;
            free = here;
            next = later (omega (arith, rw (pages_more most p some) at l)) (λ q h. free q (omega (arith, times_cons q p rest)));
          }))
      go (no none) later =
          let zero_is : p ≡ 0 = omega arith in
          rw (pages_none (suc most) p zero_is) (none_left p zero_is)
