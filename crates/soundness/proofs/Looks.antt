-- An audit looks at pages of the image alone, and of a sound one at each but the head once. Assumes nothing.
use mathlib.Core.Path.{◌≡◌, refl, sym, ap, ◌∙◌}
use mathlib.Core.Bool.{Bool, true, false, cond, ◌&&◌}
use mathlib.Core.List.{List, [], ◌∷◌, ◌++◌}
use Prim.Native.Nat.{ℕ, zero, suc, ◌+◌, ◌-◌, ◌≤◌, ◌<◌}
use native.Mathlib.Omega.{arith}
use native.Mathlib.Decide.{ℕ_discrete, dec_le, dec_lt}
use lib.ListN.{length}
use lib.Dec.{eqb, leb, ltb}
use borrow.Author.Tests.{eq-eqb, le-leb, lt-ltb, leb-true, ltb-true}
use Rattle.page.specs.Layout.{next_of, free_ok}
use Rattle.lists.specs.Lists.{listed}
use Rattle.image.specs.Images.{page_at, pages_in}
use Rattle.image.specs.Sound.{chain_pages, sound_before}
use Rattle.lists.specs.Lists.{times}
use Rattle.image.specs.Trail.{Visit, all_fit, every_entry, audit_trail}
use Rattle.image.specs.Looks.{pages_of, chain_looks, audit_looks}
use Rattle.soundness.specs.Counting.{chain_ends}
use Rattle.lists.specs.Lists.{hit}
use Rattle.lists.proofs.Totals.{hit_same, hit_other}
use Rattle.lists.proofs.Times.{times_none, times_cons, times_append}
use Rattle.soundness.proofs.Chain.{Link, link, ended, pages_none, pages_more}
use Rattle.fit.proofs.Laws.Heads.{fit_ranges}
use Rattle.soundness.proofs.Sound.{the_head, the_tree, the_chain, head_test, SoundFacts, sound_facts}
use Rattle.soundness.proofs.Used.{tree_within, chain_within}
use Rattle.soundness.proofs.Counting.{sound_counted}
use Rattle.soundness.proofs.Trails.{length_pages, trail_in, audit_fits, audit_tree}

-- ---- m numbers from k on

abbrev from : ℕ → ℕ → List ℕ
from k m = listed m (λ i. k + i)

module _ (p k : ℕ) where
  more : (m : ℕ) → times p (from k (suc m)) ≡ times p (from k m) + hit p (k + m)
  unfolding listed
  more m = omega (arith, times_append p (from k m) ((k + m) ∷ []), times_cons p (k + m) [], times_none p)

  past : (m : ℕ) → k + m ≤ p → times p (from k m) ≡ 0
  unfolding listed
  past zero l = times_none p
  past (suc m) l = omega (arith, more m, past m (omega arith), hit_other p (k + m) (λ e. omega arith))

  before : (m : ℕ) → p < k → times p (from k m) ≡ 0
  unfolding listed
  before zero l = times_none p
  before (suc m) l = omega (arith, more m, before m l, hit_other p (k + m) (λ e. omega arith))

  among : (m : ℕ) → k ≤ p → p < k + m → times p (from k m) ≡ 1
  among zero a b = absurd (omega arith)
  among (suc m) a b = go (ℕ_discrete p (k + m)) (among m a)
    where
      go : Dec (p ≡ k + m) → (p < k + m → times p (from k m) ≡ 1) → times p (from k (suc m)) ≡ 1
      go (yes e) r = omega (arith, more m, past m (omega arith), hit_same p (k + m) e)
      go (no d) r = omega (arith, more m, r (omega arith), hit_other p (k + m) d)

-- ---- every look is at a page of the image

module _ (half : ℕ) (img : List ℕ) (q : ℕ) where
  abbrev Inside : Type 0
  Inside = (1 ≤ q) × (q < pages_in half img)

  chain_inside : (k p : ℕ) → 1 ≤ times q (chain_looks half img k p) → Inside
  unfolding chain_looks
  chain_inside zero p h = absurd (omega (arith, h, times_none q))
  chain_inside (suc k) p h =
      go (leb 1 p) (ltb p (pages_in half img)) (free_ok half (page_at half img p)) refl refl
      (chain_inside k (next_of (page_at half img p))) h
    where
      next : List ℕ
      next = chain_looks half img k (next_of (page_at half img p))

      here : Dec (q ≡ p) → (1 ≤ p) × (p < pages_in half img) → (c : Bool) → (1 ≤ times q next → Inside)
          → 1 ≤ times q (p ∷ cond c next []) → Inside
      here (yes e) m c r h = (omega (arith, m.0), omega (arith, m.1))
      here (no d) m true r h = r (omega (arith, h, times_cons q p next, hit_other q p d))
      here (no d) m false r h = absurd (omega (arith, h, times_cons q p [], hit_other q p d, times_none q))

      go : (a b c : Bool) → leb 1 p ≡ a → ltb p (pages_in half img) ≡ b → (1 ≤ times q next → Inside)
          → 1 ≤ times q (cond (a && b) (p ∷ cond c next []) []) → Inside
      go true true c ea eb r h = here (ℕ_discrete q p) (leb-true 1 p ea, ltb-true p (pages_in half img) eb) c r h
      go true false c ea eb r h = absurd (omega (arith, h, times_none q))
      go false b c ea eb r h = absurd (omega (arith, h, times_none q))

  from_inside : (k m : ℕ) → 1 ≤ k → k + m ≤ pages_in half img → 1 ≤ times q (from k m) → Inside
  from_inside k m l n h = go (dec_lt q k) (dec_le (k + m) q)
    where
      go : Dec (q < k) → Dec (k + m ≤ q) → Inside
      go (yes b) c = absurd (omega (arith, h, before q k m b))
      go (no b) (yes c) = absurd (omega (arith, h, past q k m c))
      go (no b) (no c) = (omega arith, omega arith)

  pub looks_inside : head_test half img ≡ true → 1 ≤ times q (audit_looks half img) → Inside
  unfolding audit_looks audit_trail
  looks_inside fits h =
      go (all_fit half (the_head half img) img tree && eqb (length tree + (the_head half img).chain) (mark - 1)) h
    where
      mark : ℕ
      mark = (the_head half img).mark

      tree : List Visit
      tree = audit_trail half img

      chain : List ℕ
      chain = chain_looks half img (the_head half img).chain (the_head half img).free

      unused : List ℕ
      unused = from mark (pages_in half img - mark)

      in_tree : 1 ≤ times q (pages_of tree) → Inside
      in_tree m = trail_in half img fits every_entry q m

      in_rest : 1 ≤ times q (chain ++ unused) → Inside
      in_rest m = pick (dec_le 1 (times q chain))
        where
          pick : Dec (1 ≤ times q chain) → Inside
          pick (yes c) = chain_inside (the_head half img).chain (the_head half img).free c
          pick (no c) =
              let f = fit_ranges half (pages_in half img) (page_at half img 0) fits in
              from_inside mark (pages_in half img - mark) (omega (arith, f.mark_least)) (omega (arith, f.mark_most))
              (omega (arith, m, times_append q chain unused))

      go : (c : Bool) → 1 ≤ times q (pages_of tree ++ cond c (chain ++ unused) []) → Inside
      go true h = pick (dec_le 1 (times q (pages_of tree)))
        where
          pick : Dec (1 ≤ times q (pages_of tree)) → Inside
          pick (yes a) = in_tree a
          pick (no a) = in_rest (omega (arith, h, times_append q (pages_of tree) (chain ++ unused)))
      go false h = in_tree (omega (arith, h, times_append q (pages_of tree) [], times_none q))

-- ---- a chain that ends is looked at as it is listed

chain_looked : (half : ℕ) (img : List ℕ) (most k p : ℕ) → k ≤ most → chain_ends half img k p ≡ true
    → chain_looks half img k p ≡ chain_pages half img most p
unfolding chain_looks
chain_looked half img most zero p l e = sym (pages_none half img most p (ended half img p e))
chain_looked half img zero (suc k) p l e = absurd (omega arith)
chain_looked half img (suc most) (suc k) p l e =
    let r : Link half img k p = link half img k p e in
    let next : List ℕ = chain_looks half img k (next_of (page_at half img p)) in
    (λ j. cond (le-leb 1 p r.least j && lt-ltb p (pages_in half img) r.below j) (p ∷ cond (r.free j) next []) [])
    ∙ ap (λ z. p ∷ z) (chain_looked half img most k (next_of (page_at half img p)) (omega arith) r.next)
    ∙ sym (pages_more half img most p r.least)

-- ---- a sound image

module _ (half : ℕ) (img : List ℕ) (fits : sound_before half img ≡ true) where
  looks_are : audit_looks half img ≡
      the_tree half img ++ (the_chain half img ++ from (the_head half img).mark (pages_in half img - (the_head half img).mark))
  unfolding audit_looks
  looks_are =
      let c = sound_counted (sound_facts half img fits) in
      let tree : List Visit = audit_trail half img in
      let all : all_fit half (the_head half img) img tree ≡ true = sym (audit_fits half img) ∙ c.fit.tree in
      let same : pages_of tree ≡ the_tree half img = audit_tree half img c.fit.tree in
      let long : length tree ≡ length (the_tree half img) = sym (length_pages tree) ∙ ap length same in
      let count : eqb (length tree + (the_head half img).chain) ((the_head half img).mark - 1) ≡ true =
      eq-eqb (length tree + (the_head half img).chain) ((the_head half img).mark - 1) (omega (arith, long, c.count)) in
      let chain : chain_looks half img (the_head half img).chain (the_head half img).free ≡ the_chain half img =
      chain_looked half img (pages_in half img) (the_head half img).chain (the_head half img).free
      (omega (arith, c.count, c.fit.head.mark_most)) c.ends in
      λ j.
      same j
      ++ cond (all j && count j) (chain j ++ listed (pages_in half img - (the_head half img).mark) (λ i. (the_head half img).mark + i)) []

  pub looks_once : (p : ℕ) → 1 ≤ p → p < pages_in half img → times p (audit_looks half img) ≡ 1
  looks_once p some below =
      ap (times p) looks_are
      ∙ times_append p tree (chain ++ unused)
      ∙ ap (λ k. times p tree + k) (times_append p chain unused)
      ∙ go (dec_lt p mark)
    where
      mark : ℕ
      mark = (the_head half img).mark

      tree : List ℕ
      tree = the_tree half img

      chain : List ℕ
      chain = the_chain half img

      unused : List ℕ
      unused = from mark (pages_in half img - mark)

      f : SoundFacts half img
      f = sound_facts half img fits

      go : Dec (p < mark) → times p tree + (times p chain + times p unused) ≡ 1
      go (yes l) = omega (arith, f.once p some l, before p mark (pages_in half img - mark) l)
      go (no l) = rest (dec_le 1 (times p tree)) (dec_le 1 (times p chain))
        where
          rest : Dec (1 ≤ times p tree) → Dec (1 ≤ times p chain) → times p tree + (times p chain + times p unused) ≡ 1
          rest (yes t) c = absurd (omega (arith, tree_within f.fit p t))
          rest (no t) (yes c) = absurd (omega (arith, chain_within f.fit f.free p c))
          rest (no t) (no c) = omega (arith, among p mark (pages_in half img - mark) (omega arith) (omega arith))
