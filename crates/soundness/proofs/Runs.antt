-- How many runs a walk finds: no more than a page has slots for entries, times any count of the pages that it goes into; and so for each
-- page that it finds fit. Assumes nothing.
use mathlib.Core.Path.{◌≡◌, refl, sym, ap, ◌∙◌}
use mathlib.Core.Bool.{Bool, true, false, cond}
use mathlib.Core.List.{List, [], ◌∷◌}
use Prim.Native.Nat.{ℕ, zero, suc, ◌*◌, ◌-◌, ◌≤◌}
use native.Mathlib.Nat.{mul-le-mul_left}
use native.Mathlib.Omega.{arith}
use lib.ListN.{length}
use Rattle.lists.specs.Lists.{total}
use Rattle.lists.proofs.Choices.{cond_ap, either}
use Rattle.lists.proofs.Concat.{concat_map_length}
use Rattle.lists.proofs.Totals.{total_most}
use Rattle.rule.specs.Pairs.{combine}
use Rattle.page.specs.declared.Head.{Head}
use Rattle.page.specs.Layout.{capacity, entry_count, start_at, pair_at, child_at}
use Rattle.page.specs.Fit.{PageContext, root_context, context_below, page_fit}
use Rattle.fit.proofs.Laws.Pages.{PageFit, page_fit_is}
use Rattle.image.specs.Images.{page_at, pages_in}
use Rattle.image.specs.Listing.{Walked, nothing, stopped, in_turn, under, leaf_run, walk_page, walk, walk_over}
use Rattle.image.specs.Trail.{Visit, each_in_turn, finds_fit, visits, entries_over}
use Rattle.image.specs.Looks.{found_fit}
use Rattle.image.proofs.Runs.{turn_le, picked_le, length_under}
use Rattle.soundness.proofs.Sound.{the_head, head_test}
use Rattle.soundness.proofs.Tree.{found_joined}
use Rattle.soundness.proofs.Trails.{all_visits, found_short}

-- ---- a walk, by a count of pages

module _ (half : ℕ) (h : Head) (img : List ℕ) (a b : ℕ) where
  -- A count of the pages from page p down: a fit leaf page counts, and a fit inner page has no less than the pages below those of its
  -- entries that overlap.
  pub record CountsPages (g : ℕ → PageContext → ℕ → ℕ) : Type 0 where
    pub leaf : (at : PageContext) (p : ℕ) → PageFit half h at (page_at half img p) → at.level ≡ 0 → 1 ≤ g 0 at p
    pub inner : (l : ℕ) (at : PageContext) (p : ℕ) → PageFit half h at (page_at half img p)
        → total (entry_count (page_at half img p))
        (λ i.
        cond (entries_over a b at (page_at half img p) i)
        (g l (context_below half (page_at half img p) at i) (child_at half (page_at half img p) i)) 0)
        ≤ g (suc l) at p

  -- one page, by what is below its entries
  runs_most : (at : PageContext) (s : List ℕ) (below : ℕ → Walked) (f : ℕ → ℕ) (k m : ℕ) → ((i : ℕ) → length (below i).runs ≤ k * f i)
      → (PageFit half h at s → k * total (entry_count s) (λ i. cond (entries_over a b at s i) (f i) 0) ≤ m)
      → length (walk_page half h a b at s below).runs ≤ m
  unfolding walk_page stopped entries_over
  runs_most at s below f k m each room = go (page_fit half h at s) refl
    where
      found : ℕ → Walked
      found i = cond (entries_over a b at s i) (below i) nothing

      counted : ℕ → ℕ
      counted i = cond (entries_over a b at s i) (f i) 0

      go : (t : Bool) → page_fit half h at s ≡ t → length (cond t (in_turn (entry_count s) found) stopped).runs ≤ m
      go true e =
          omega (
            arith,
            turn_le (entry_count s) found counted k (λ i. picked_le (entries_over a b at s i) (below i) k (f i) (each i)),
            room ((page_fit_is half h at s).0 e),
          )
      go false e = omega arith

  pub walk_most : {g : ℕ → PageContext → ℕ → ℕ} → CountsPages g → (l : ℕ) (at : PageContext) (p : ℕ) → at.level ≡ l
      → length (walk half h img a b l at p).runs ≤ capacity half * g l at p
  unfolding walk context_below leaf_run
  walk_most {g} n zero at p e =
      let s : List ℕ = page_at half img p in
      runs_most at s (λ i. leaf_run a (start_at s i) (pair_at half s i)) (λ i. 1) 1 (capacity half * g 0 at p) (λ i. omega arith)
      (λ f.
      omega (
        arith,
        total_most (entry_count s) (λ i. cond (entries_over a b at s i) 1 0)
            (λ i l. either (λ m. m ≤ 1) (omega arith) (omega arith) (entries_over a b at s i)),
        f.most,
        mul-le-mul_left (capacity half) (n.leaf at p f e),
      ))
  walk_most {g} n (suc l) at p e =
      let s : List ℕ = page_at half img p in
      runs_most at s
      (λ i. under (combine h.kind) (pair_at half s i) (walk half h img a b l (context_below half s at i) (child_at half s i)))
      (λ i. g l (context_below half s at i) (child_at half s i)) (capacity half) (capacity half * g (suc l) at p)
      (λ i. rw length_under (walk_most n l (context_below half s at i) (child_at half s i) (omega arith)))
      (λ f. mul-le-mul_left (capacity half) (n.inner l at p f))

-- ---- by the pages that it finds fit

module _ (half : ℕ) (h : Head) (img : List ℕ) where
  -- how many looks find their page fit
  abbrev fits_found : List Visit → ℕ
  fits_found vs = length (found_fit half h img vs)

  found_length : (n : ℕ) (f : ℕ → List Visit) → fits_found (each_in_turn n f) ≡ total n (λ i. fits_found (f i))
  found_length n f =
      ap length (found_joined half h img n f (λ i. found_fit half h img (f i)) (λ i. i) (λ i l. refl))
      ∙ concat_map_length (λ i. found_fit half h img (f i)) (λ i. i) n

  found_counts : (a b : ℕ) → CountsPages half h img a b (λ l at p. fits_found (visits half h img (entries_over a b) l at p))
  unfolding visits found_fit finds_fit
  found_counts a b =
      record {
        leaf = λ at p f e. omega (arith, ap (λ t. length (cond t (p ∷ []) [])) ((page_fit_is half h at (page_at half img p)).1 f));
        inner =
            λ l at p f.
            let s : List ℕ = page_at half img p in
            let below : ℕ → List Visit = λ i. visits half h img (entries_over a b) l (context_below half s at i) (child_at half s i) in
            let looks : ℕ → List Visit = λ i. cond (entries_over a b at s i) (below i) [] in
            let behind : Bool → List ℕ = λ t. found_fit half h img (cond t (each_in_turn (entry_count s) looks) []) in
            let here : length (cond (page_fit half h at s) (p ∷ behind (page_fit half h at s)) (behind (page_fit half h at s)))
            ≡ suc (fits_found (each_in_turn (entry_count s) looks)) =
            ap (λ t. length (cond t (p ∷ behind t) (behind t))) ((page_fit_is half h at s).1 f) in
            let same : total (entry_count s) (λ i. cond (entries_over a b at s i) (fits_found (below i)) 0)
            ≡ fits_found (each_in_turn (entry_count s) looks) =
            (λ j. total (entry_count s) (λ i. sym (cond_ap fits_found (entries_over a b at s i) (below i) []) j))
            ∙ sym (found_length (entry_count s) looks) in
            omega (arith, here, same);
      }

-- ---- from the root: an image of n pages has n − 1 to find

pub walked_few : (half a b : ℕ) (img : List ℕ) → head_test half img ≡ true
    → length (walk_over half img a b).runs ≤ capacity half * (pages_in half img - 1)
unfolding walk_over root_context
walked_few half a b img fits =
    let h : Head = the_head half img in
    let vs : List Visit = all_visits half img (entries_over a b) in
    let most : capacity half * length (found_fit half h img vs) ≤ capacity half * (pages_in half img - 1) =
    mul-le-mul_left (capacity half) (omega (arith, found_short half img fits (entries_over a b))) in
    omega (
      arith,
      walk_most half h img a b (found_counts half h img a b) (h.height - 1) (root_context h) h.root refl,
      most,
    )
