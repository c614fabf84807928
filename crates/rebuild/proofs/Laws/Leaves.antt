-- The leaf pages, written from the last to the first: none, one more, all. Assumes nothing.
use Prim.Native.Nat.{ℕ, suc, ◌+◌, ◌-◌, ◌*◌, ◌≤◌, ◌<◌}
use mathlib.Core.Path.{◌≡◌, refl, sym, ap, ◌∙◌}
use mathlib.Core.List.{List}
use native.Mathlib.Nat.{mul-one, mul-suc, mul-le-mul_left}
use native.Mathlib.Omega.{arith}
use lib.ListN.{length}
use Rattle.lists.specs.Lists.{listed}
use Rattle.lists.proofs.Listed.{listed_same}
use Rattle.fields.specs.Bytes.{patch}
use Rattle.page.specs.Layout.{capacity, page_size, tree_bytes}
use Rattle.tight.proofs.Pages.{pages_some, before_more, before_all, before_most, page_most}
use Rattle.tight.proofs.Levels.{pages, size, before}
use Rattle.rebuild.specs.Levels.{run_entry, run_entries, level_bytes}
use Rattle.rebuild.proofs.Laws.Patches.{run_before}
use Rattle.rebuild.proofs.Laws.Pieces.{behind, behind_all, back_none, back_more}
use Rattle.rebuild.proofs.Laws.Pages.{runs_room, page_of, piece, length_piece, level_pieces}

-- the bytes of the i-th leaf, of the runs that are listed in s
abbrev leaf : ℕ → ℕ → List ℕ → ℕ → List ℕ
leaf half m s = piece half m (run_entry s) 0

-- Of the leaves of m runs that were listed in s, those from the i-th on are written; `from` runs stand before them.
pub record Leaves (half m : ℕ) (s : List ℕ) (i from : ℕ) (t : List ℕ) : Type 0 where
  pub within : i ≤ pages half m
  pub left : from ≡ before half m i
  pub long : length t ≡ length s
  pub bytes : t ≡ patch s (page_size half * suc i) (behind (leaf half m s) (pages half m) i)

module _ (half m : ℕ) (s : List ℕ) (some : 1 ≤ half) (one : 1 ≤ m) (room : page_size half * suc (pages half m) ≤ length s) where
  pub leaves_none : {p : ℕ} → p ≡ pages half m → Leaves half m s p m s
  leaves_none {p} e = record {
    within = omega arith;
    left = sym (ap (before half m) e ∙ before_all m (pages half m) (pages_some half m some one));
    long = refl;
    bytes = back_none (leaf half m s) (pages half m) (page_size half) s
        ∙ ap (λ i. patch s (page_size half * suc i) (behind (leaf half m s) (pages half m) i)) (sym e);
  }

  -- what a page is made of still stands where it was listed
  listed_still : (i : ℕ) (t : List ℕ) → i < pages half m
      → t ≡ patch s (page_size half * suc (suc i)) (behind (leaf half m s) (pages half m) (suc i))
      → listed (size half m i) (λ j. run_entry t (before half m i + j)) ≡ page_of half m (run_entry s) i
  listed_still i t h e =
      let k : ℕ = page_size half in
      let l : k * suc (suc i) ≤ k * suc (pages half m) = mul-le-mul_left k (omega arith) in
      listed_same (size half m i) (λ j. run_entry t (before half m i + j)) (λ j. run_entry s (before half m i + j))
      (λ j b.
      ap (λ u. run_entry u (before half m i + j)) e
      ∙ run_before s (k * suc (suc i)) (behind (leaf half m s) (pages half m) (suc i)) (omega arith) (before half m i + j)
      (omega (arith, runs_room half m some one (suc i), before_more m (pages half m) i, mul-suc k (suc i))))

  pub leaves_more : {t u : List ℕ} {n from i : ℕ} (j : ℕ) → i ≡ suc j → Leaves half m s i from t → n ≡ size half m j
      → length u ≡ length t → u ≡ patch t (page_size half * i) (tree_bytes half 0 (listed n (λ k. run_entry t (from - n + k))))
      → Leaves half m s j (from - n) u
  leaves_more {t} {u} {n} {from} {i} j next g e same wrote =
      let k : ℕ = page_size half in
      let h : j < pages half m = omega (arith, g.within) in
      let a : from - n ≡ before half m j = omega (arith, g.left ∙ ap (before half m) next, before_more m (pages half m) j) in
      let t_is : t ≡ patch s (k * suc (suc j)) (behind (leaf half m s) (pages half m) (suc j)) =
      g.bytes ∙ ap (λ l. patch s (k * suc l) (behind (leaf half m s) (pages half m) l)) next in
      record {
        within = omega arith;
        left = a;
        long = same ∙ g.long;
        bytes = back_more (leaf half m s) (pages half m) k s j h room (length_piece half m (run_entry s) some one 0 j) t_is
            (wrote ∙ ap (λ l. patch t (k * l) (tree_bytes half 0 (listed n (λ x. run_entry t (from - n + x))))) next)
            ((λ l. tree_bytes half 0 (listed (e l) (λ x. run_entry t (a l + x))))
            ∙ ap (tree_bytes half 0) (listed_still j t h t_is));
      }

  -- the next page: its runs are among those left and lie before it, it has room for them, and it lies in the target
  pub record Next (n from i : ℕ) : Type 0 where
    pub most : from ≤ m
    pub left : n ≤ from
    pub few : n ≤ capacity half
    pub before : 16 * from ≤ page_size half * i
    pub page : page_size half * i + page_size half ≤ length s

  pub leaves_next : {t : List ℕ} {n from i : ℕ} (j : ℕ) → i ≡ suc j → Leaves half m s i from t → n ≡ size half m j → Next n from i
  leaves_next {t} {n} {from} {i} j next g e =
      let k : ℕ = page_size half in
      let l : k * suc i ≤ k * suc (pages half m) = mul-le-mul_left k (omega (arith, g.within)) in
      let a : from ≡ before half m j + n = omega (arith, g.left ∙ ap (before half m) next, before_more m (pages half m) j) in
      record {
        most = omega (arith, g.left, before_most m (pages half m) (pages_some half m some one) i g.within);
        left = omega arith;
        few = omega (arith, page_most half m some one j);
        before = omega (arith, g.left, runs_room half m some one i);
        page = omega (arith, mul-suc k i);
      }

  pub leaves_all : {t : List ℕ} {i from : ℕ} → i ≡ 0 → Leaves half m s i from t
      → t ≡ patch s (page_size half) (level_bytes half 0 (run_entries s m))
  unfolding run_entries
  leaves_all {t} e g =
      let k : ℕ = page_size half in
      g.bytes
      ∙ ap (λ i. patch s (k * suc i) (behind (leaf half m s) (pages half m) i)) e
      ∙ (λ j. patch s (mul-one k j) (behind_all (leaf half m s) (pages half m) j))
      ∙ ap (patch s k) (sym (level_pieces half m (run_entry s) some one 0))
