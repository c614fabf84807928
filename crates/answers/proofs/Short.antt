-- How long the walks of the calls are. Assumes nothing.
use mathlib.Core.Path.{◌≡◌, refl, ap}
use mathlib.Core.Bool.{Bool, true, false, cond}
use mathlib.Core.List.{List, [], ◌++◌}
use Prim.Native.Nat.{ℕ, zero, suc, ◌*◌, ◌-◌, ◌≤◌}
use native.Mathlib.Omega.{arith}
use native.Mathlib.Decide.{ℕ_discrete}
use lib.ListN.{length, length-append}
use lib.Dec.{eqb}
use borrow.Author.Tests.{eq-eqb, ne_eqb}
use Rattle.page.specs.declared.Head.{Head}
use Rattle.page.specs.Entries.{index_of}
use Rattle.page.specs.Layout.{entry_count, child_at, entries_of}
use Rattle.page.specs.Fit.{PageContext, root_context, context_below, page_fit}
use Rattle.image.specs.Images.{page_at, pages_in}
use Rattle.image.specs.Trail.{Visit, each_in_turn, visits, trail, entry_of, entries_over, instant_trail, listing_trail}
use Rattle.image.specs.Looks.{pages_of}
use Rattle.calls.specs.Calls.{head, head_ok, listing_status}
use Rattle.claims.specs.Walks.{ShortWalk, ShortWalks, listing_looks}
use Rattle.fit.proofs.Laws.Heads.{fit_ranges}
use Rattle.soundness.proofs.Sound.{the_head}
use Rattle.soundness.proofs.Trails.{length_pages, up_to_fewer, all_visits, trail_once, trail_in, trail_short, trail_fit_short, audit_short}
use Rattle.soundness.proofs.Trails.{audit_fits, audit_tree}
use Rattle.soundness.proofs.Looks.{looks_inside, looks_once}

any : (half : ℕ) (img : List ℕ) (into : PageContext → List ℕ → ℕ → Bool) → head_ok half img ≡ true → ShortWalk half img into
unfolding head head_ok
any half img into fits =
    record {
      once = trail_once half img fits into;
      inside = trail_in half img fits into;
      fit = λ e. omega (arith, trail_fit_short half img fits into e);
      most = trail_short half img fits into;
    }

-- ---- an instant: below one entry of each page

module _ (m k : ℕ) (f : ℕ → List Visit) (short : (i : ℕ) → length (f i) ≤ m) where
  abbrev only : ℕ → List Visit
  only i = cond (eqb i k) (f i) []

  none_yet : (n : ℕ) → n ≤ k → length (each_in_turn n only) ≡ 0
  unfolding each_in_turn
  none_yet zero l = refl
  none_yet (suc n) l =
      omega (
        arith,
        length-append (each_in_turn n only) (only n),
        none_yet n (omega arith),
        ap (λ t. length (cond t (f n) [])) (ne_eqb n k (λ e. omega arith)),
      )

  one_of : (n : ℕ) → length (each_in_turn n only) ≤ m
  unfolding each_in_turn
  one_of zero = omega arith
  one_of (suc n) = go (ℕ_discrete n k) (one_of n)
    where
      go : Dec (n ≡ k) → length (each_in_turn n only) ≤ m → length (each_in_turn n only ++ only n) ≤ m
      go (yes e) r =
          omega (
            arith,
            length-append (each_in_turn n only) (only n),
            none_yet n (omega arith),
            ap (λ t. length (cond t (f n) [])) (eq-eqb n k e),
            short n,
          )
      go (no d) r =
          omega (arith, length-append (each_in_turn n only) (only n), ap (λ t. length (cond t (f n) [])) (ne_eqb n k d))

module _ (half t : ℕ) (h : Head) (img : List ℕ) where
  way_short : (l : ℕ) (at : PageContext) (p : ℕ) → length (visits half h img (entry_of half t) l at p) ≤ suc l
  unfolding visits entry_of
  way_short zero at p = omega arith
  way_short (suc l) at p =
      go (λ i. way_short l (context_below half (page_at half img p) at i) (child_at half (page_at half img p) i))
      (page_fit half h at (page_at half img p))
    where
      s : List ℕ
      s = page_at half img p

      below : ℕ → List Visit
      below i = visits half h img (entry_of half t) l (context_below half s at i) (child_at half s i)

      go : ((i : ℕ) → length (below i) ≤ suc l) → (c : Bool)
          → suc (length (cond c (each_in_turn (entry_count s) (λ i. cond (eqb i (index_of t (entries_of half s))) (below i) [])) []))
          ≤ suc (suc l)
      go r true = omega (arith, one_of (suc l) (index_of t (entries_of half s)) below r (entry_count s))
      go r false = omega arith

of_instant : (half t : ℕ) (img : List ℕ) → head_ok half img ≡ true → length (instant_trail half t img) ≤ (head half img).height
unfolding instant_trail trail head head_ok
of_instant half t img fits =
    let h : Head = the_head half img in
    omega (
      arith,
      up_to_fewer half h img (all_visits half img (entry_of half t)),
      way_short half t h img (h.height - 1) (root_context h) h.root,
      (fit_ranges half (pages_in half img) (page_at half img 0) fits).height_least,
    )

-- ---- a listing

of_walk : (half a b : ℕ) (img : List ℕ) → head_ok half img ≡ true → length (listing_trail half a b img) ≤ pages_in half img
unfolding listing_trail head_ok
of_walk half a b img fits = trail_short half img fits (entries_over a b)

of_listing : (half a b : ℕ) (img out : List ℕ) → head_ok half img ≡ true → length (listing_looks half a b img out) ≤ 2 * pages_in half img
unfolding listing_looks
of_listing half a b img out fits = go (eqb (listing_status half a b img out) 0) (of_walk half a b img fits)
  where
    looks : List ℕ
    looks = pages_of (listing_trail half a b img)

    go : (c : Bool) → length (listing_trail half a b img) ≤ pages_in half img → length (looks ++ cond c looks []) ≤ 2 * pages_in half img
    go true r = omega (arith, length-append looks looks, length_pages (listing_trail half a b img))
    go false r = omega (arith, length-append looks [], length_pages (listing_trail half a b img))

pub short_walks : (half : ℕ) → ShortWalks half
unfolding head head_ok
short_walks half =
    record {
      any = any half;
      of_instant = of_instant half;
      of_walk = of_walk half;
      of_listing = of_listing half;
      of_audit = λ img fits. audit_short half img fits;
      of_inside = λ img fits p m. looks_inside half img p fits m;
      of_sound = λ img fits. looks_once half img fits;
      of_tree = λ img. (audit_fits half img, audit_tree half img);
    }
