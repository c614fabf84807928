-- How long a walk can be, on any image whose length and head are fit: its looks find no page fit twice, all are at pages of the image, and
-- only the last one may find its page unfit. Assumes nothing.
use mathlib.Core.Path.{◌≡◌, refl, sym, ap, ◌∙◌}
use mathlib.Core.Bool.{Bool, true, false, cond, ◌&&◌, false≢true}
use mathlib.Core.List.{List, [], ◌∷◌, ◌++◌}
use Prim.Native.Nat.{ℕ, zero, suc, ◌+◌, ◌-◌, ◌≤◌, ◌<◌}
use native.Mathlib.Omega.{arith}
use native.Mathlib.Decide.{ℕ_discrete}
use lib.ListN.{length, length-append}
use lib.Dec.{eqb, leb, ltb}
use borrow.Author.Tests.{eqb-true}
use Rattle.fields.specs.Bytes.{every}
use Rattle.page.specs.declared.Head.{Head}
use Rattle.page.specs.Layout.{entry_count, child_at, free_ok, next_of}
use Rattle.lists.specs.Lists.{listed}
use Rattle.lists.proofs.Listed.{length_listed}
use Rattle.page.specs.Fit.{PageContext, root_context, context_below, page_fit}
use Rattle.image.specs.Images.{page_at, pages_in}
use Rattle.image.specs.Sound.{tree_fit}
use Rattle.lists.specs.Lists.{times}
use Rattle.image.specs.Trail.{Visit, each_in_turn, finds_fit, all_fit, up_to_unfit, visits, trail, every_entry, audit_trail}
use Rattle.image.specs.Looks.{pages_of, found_fit, chain_looks, audit_looks}
use Rattle.image.proofs.Trails.{all_fit_append, all_fit_up_to}
use Rattle.lists.specs.Lists.{hit, total}
use Rattle.lists.proofs.Totals.{total_some, hit_other}
use Rattle.lists.proofs.Times.{times_append, short_of_once}
use Rattle.fit.proofs.Laws.Pages.{PageFit, page_fit_is}
use Rattle.fit.proofs.Laws.Heads.{Ranges, fit_ranges}
use Rattle.soundness.proofs.Tree.{Placed, visits_placed, tree_found}
use Rattle.soundness.proofs.Sound.{the_head, the_tree, head_test, tree_test}

-- what follows of the first of a list, and of the others, follows of each
first_or : (p q k : ℕ) {G : Type 0} → 1 ≤ hit p q + k → (p ≡ q → G) → (1 ≤ k → G) → G
first_or p q k {G} m here later = go (ℕ_discrete p q)
  where
    go : Dec (p ≡ q) → G
    go (yes c) = here c
    go (no c) = later (omega (arith, hit_other p q c))

pub length_pages : (vs : List Visit) → length (pages_of vs) ≡ length vs
unfolding pages_of
length_pages [] = refl
length_pages (v ∷ vs) = ap suc (length_pages vs)

-- ---- up to and including the first that is unfit

module _ (half : ℕ) (h : Head) (img : List ℕ) where
  pub up_to_fewer : (vs : List Visit) → length (up_to_unfit half h img vs) ≤ length vs
  unfolding up_to_unfit
  up_to_fewer [] = omega arith
  up_to_fewer (v ∷ vs) = go (finds_fit half h img v) (up_to_fewer vs)
    where
      go : (c : Bool) → length (up_to_unfit half h img vs) ≤ length vs
          → length (v ∷ cond c (up_to_unfit half h img vs) []) ≤ suc (length vs)
      go true r = omega arith
      go false r = omega arith

  -- all but the last are fit
  up_to_short : (vs : List Visit) → length (up_to_unfit half h img vs) ≤ suc (length (found_fit half h img vs))
  unfolding up_to_unfit found_fit
  up_to_short [] = omega arith
  up_to_short (v ∷ vs) = go (finds_fit half h img v) (up_to_short vs)
    where
      go : (c : Bool) → length (up_to_unfit half h img vs) ≤ suc (length (found_fit half h img vs))
          → length (v ∷ cond c (up_to_unfit half h img vs) [])
          ≤ suc (length (cond c (v.page ∷ found_fit half h img vs) (found_fit half h img vs)))
      go true r = omega arith
      go false r = omega arith

  -- where all are fit, none is left out
  up_to_all : (vs : List Visit) → all_fit half h img (up_to_unfit half h img vs) ≡ true → up_to_unfit half h img vs ≡ vs
  unfolding up_to_unfit all_fit
  up_to_all [] e = refl
  up_to_all (v ∷ vs) e = go (finds_fit half h img v) (up_to_all vs) e
    where
      go : (c : Bool) → (all_fit half h img (up_to_unfit half h img vs) ≡ true → up_to_unfit half h img vs ≡ vs)
          → c && all_fit half h img (cond c (up_to_unfit half h img vs) []) ≡ true → v ∷ cond c (up_to_unfit half h img vs) [] ≡ v ∷ vs
      go true r e = ap (λ z. v ∷ z) (r e)
      go false r e = absurd (false≢true e)

  all_found : (vs : List Visit) → all_fit half h img vs ≡ true → found_fit half h img vs ≡ pages_of vs
  unfolding all_fit found_fit pages_of
  all_found [] e = refl
  all_found (v ∷ vs) e = go (finds_fit half h img v) (all_found vs) e
    where
      go : (c : Bool) → (all_fit half h img vs ≡ true → found_fit half h img vs ≡ pages_of vs)
          → c && all_fit half h img vs ≡ true
          → cond c (v.page ∷ found_fit half h img vs) (found_fit half h img vs) ≡ v.page ∷ pages_of vs
      go true r e = ap (λ z. v.page ∷ z) (r e)
      go false r e = absurd (false≢true e)

  -- what stands among the first of the looks stands among them all
  up_to_found : (p : ℕ) (vs : List Visit) → times p (found_fit half h img (up_to_unfit half h img vs)) ≤ times p (found_fit half h img vs)
  unfolding up_to_unfit found_fit times
  up_to_found p [] = omega arith
  up_to_found p (v ∷ vs) = go (finds_fit half h img v) (up_to_found p vs)
    where
      go : (c : Bool) → times p (found_fit half h img (up_to_unfit half h img vs)) ≤ times p (found_fit half h img vs)
          → times p
          (cond c (v.page ∷ found_fit half h img (cond c (up_to_unfit half h img vs) []))
          (found_fit half h img (cond c (up_to_unfit half h img vs) [])))
          ≤ times p (cond c (v.page ∷ found_fit half h img vs) (found_fit half h img vs))
      go true r = omega arith
      go false r = omega arith

  up_to_pages : (p : ℕ) (vs : List Visit) → times p (pages_of (up_to_unfit half h img vs)) ≤ times p (pages_of vs)
  unfolding up_to_unfit pages_of times
  up_to_pages p [] = omega arith
  up_to_pages p (v ∷ vs) = go (finds_fit half h img v) (up_to_pages p vs)
    where
      go : (c : Bool) → times p (pages_of (up_to_unfit half h img vs)) ≤ times p (pages_of vs)
          → times p (v.page ∷ pages_of (cond c (up_to_unfit half h img vs) [])) ≤ times p (v.page ∷ pages_of vs)
      go true r = omega arith
      go false r = omega arith

  -- ---- an audit's walk, and the tests of the tree

  all_each : (n : ℕ) (t : ℕ → Bool) (f : ℕ → List Visit) → ((i : ℕ) → t i ≡ all_fit half h img (f i))
      → every n t ≡ all_fit half h img (each_in_turn n f)
  unfolding every each_in_turn all_fit
  all_each zero t f r = refl
  all_each (suc n) t f r = (λ j. all_each n t f r j && r n j) ∙ sym (all_fit_append half h img (each_in_turn n f) (f n))

  pub tree_looks : (l : ℕ) (at : PageContext) (q : ℕ)
      → tree_fit half h img l at q ≡ all_fit half h img (visits half h img every_entry l at q)
  unfolding tree_fit all_fit visits finds_fit every_entry
  tree_looks zero at q = go (page_fit half h at (page_at half img q))
    where
      go : (c : Bool) → c ≡ c && true
      go true = refl
      go false = refl
  tree_looks (suc l) at q =
      go (λ i. tree_looks l (context_below half (page_at half img q) at i) (child_at half (page_at half img q) i))
      (page_fit half h at (page_at half img q))
    where
      s : List ℕ
      s = page_at half img q

      looks : ℕ → List Visit
      looks i = visits half h img every_entry l (context_below half s at i) (child_at half s i)

      tests : ℕ → Bool
      tests i = tree_fit half h img l (context_below half s at i) (child_at half s i)

      go : ((i : ℕ) → tests i ≡ all_fit half h img (looks i)) → (c : Bool)
          → c && every (entry_count s) tests ≡ c && all_fit half h img (cond c (each_in_turn (entry_count s) looks) [])
      go r true = all_each (entry_count s) tests looks r
      go r false = refl

  -- ---- every look is at a page of the image

  pages_times : (n : ℕ) (f : ℕ → List Visit) (p : ℕ) → times p (pages_of (each_in_turn n f)) ≡ total n (λ i. times p (pages_of (f i)))
  unfolding each_in_turn pages_of times total
  pages_times zero f p = refl
  pages_times (suc n) f p =
      omega (
        arith,
        ap (times p) (pages_append (each_in_turn n f) (f n)),
        times_append p (pages_of (each_in_turn n f)) (pages_of (f n)),
        pages_times n f p,
      )
    where
      pages_append : (vs ws : List Visit) → pages_of (vs ++ ws) ≡ pages_of vs ++ pages_of ws
      pages_append [] ws = refl
      pages_append (v ∷ vs) ws = ap (λ z. v.page ∷ z) (pages_append vs ws)

  pub visits_in : (into : PageContext → List ℕ → ℕ → Bool) (p l : ℕ) (at : PageContext) (q : ℕ) → at.level ≡ l → 1 ≤ q → q < h.pages
      → 1 ≤ times p (pages_of (visits half h img into l at q)) → (1 ≤ p) × (p < h.pages)
  unfolding visits pages_of times context_below
  visits_in into p zero at q e a b m = first_or p q 0 m (λ c. omega arith) (λ z. absurd (omega arith))
  visits_in into p (suc l) at q e a b m =
      go (λ i. visits_in into p l (context_below half (page_at half img q) at i) (child_at half (page_at half img q) i))
      (page_fit half h at (page_at half img q)) refl m
    where
      s : List ℕ
      s = page_at half img q

      under : ℕ → List Visit
      under i = visits half h img into l (context_below half s at i) (child_at half s i)

      looks : ℕ → List Visit
      looks i = cond (into at s i) (under i) []

      one : (i : ℕ) (c : Bool) → (1 ≤ times p (pages_of (under i)) → (1 ≤ p) × (p < h.pages))
          → 1 ≤ times p (pages_of (cond c (under i) []))
          → (1 ≤ p) × (p < h.pages)
      one i true r m = r m
      one i false r m = absurd (omega arith)

      go : ((i : ℕ) → at.level - 1 ≡ l → 1 ≤ child_at half s i → child_at half s i < h.pages
          → 1 ≤ times p (pages_of (under i)) → (1 ≤ p) × (p < h.pages))
          → (c : Bool) → page_fit half h at s ≡ c
          → 1 ≤ hit p q + times p (pages_of (cond c (each_in_turn (entry_count s) looks) [])) → (1 ≤ p) × (p < h.pages)
      go down true f m =
          let k : PageFit half h at s = (page_fit_is half h at s).0 f in
          first_or p q (times p (pages_of (each_in_turn (entry_count s) looks))) m (λ c. omega arith)
          (λ z.
          total_some (entry_count s) (λ i. times p (pages_of (looks i)))
          (λ i w.
          let c = (k.children i w).inner (omega arith) in
          one i (into at s i) (down i (omega arith) c.0 c.1))
          (omega (arith, pages_times (entry_count s) looks p)))
      go down false f m = first_or p q 0 m (λ c. omega arith) (λ z. absurd (omega arith))

-- ---- from the root of an image whose head is fit

-- all that a walk would look at if it went on after an unfit page
abbrev pub all_visits : ℕ → List ℕ → (PageContext → List ℕ → ℕ → Bool) → List Visit
all_visits half img into =
    visits half (the_head half img) img into ((the_head half img).height - 1) (root_context (the_head half img)) (the_head half img).root

module _ (half : ℕ) (img : List ℕ) (fits : head_test half img ≡ true) where
  facts : Ranges half (pages_in half img) (the_head half img)
  facts = fit_ranges half (pages_in half img) (page_at half img 0) fits

  module _ (into : PageContext → List ℕ → ℕ → Bool) where
    placed : (p : ℕ)
        → Placed (times p (found_fit half (the_head half img) img (all_visits half img into))) p (page_at half img p)
        (suc ((the_head half img).height - 1))
        (root_context (the_head half img)).lo (root_context (the_head half img)).hi (the_head half img).pages
    placed p =
        visits_placed half (the_head half img) img p into ((the_head half img).height - 1) (root_context (the_head half img))
        (the_head half img).root
        (unfold root_context in refl) facts.root_least (omega (arith, facts.pages_is, facts.root_below))

    pub found_short : length (found_fit half (the_head half img) img (all_visits half img into)) < pages_in half img
    found_short =
        omega (
          arith,
          facts.root_below,
          short_of_once (pages_in half img - 1) (found_fit half (the_head half img) img (all_visits half img into))
              (λ p k. omega (arith, (placed p).inside k, facts.pages_is)) (λ p. (placed p).held.most),
        )

    -- no page is found fit at two looks
    pub trail_once : (p : ℕ) → times p (found_fit half (the_head half img) img (trail half (the_head half img) img into)) ≤ 1
    unfolding trail
    trail_once p = omega (arith, up_to_found half (the_head half img) img p (all_visits half img into), (placed p).held.most)

    pub trail_in : (p : ℕ) → 1 ≤ times p (pages_of (trail half (the_head half img) img into)) → (1 ≤ p) × (p < pages_in half img)
    unfolding trail
    trail_in p m =
        let k : (1 ≤ p) × (p < (the_head half img).pages) =
        visits_in half (the_head half img) img into p ((the_head half img).height - 1) (root_context (the_head half img))
        (the_head half img).root
        (unfold root_context in refl) facts.root_least (omega (arith, facts.pages_is, facts.root_below))
        (omega (arith, up_to_pages half (the_head half img) img p (all_visits half img into))) in
        omega (arith, k, facts.pages_is)

    pub trail_short : length (trail half (the_head half img) img into) ≤ pages_in half img
    unfolding trail
    trail_short = omega (arith, up_to_short half (the_head half img) img (all_visits half img into), found_short)

    -- every look but the last finds its page fit
    pub trail_fit_short : all_fit half (the_head half img) img (trail half (the_head half img) img into) ≡ true
        → length (trail half (the_head half img) img into) < pages_in half img
    unfolding trail
    trail_fit_short e =
        let whole = sym (all_fit_up_to half (the_head half img) img (all_visits half img into)) ∙ e in
        omega (
          arith,
          ap length (up_to_all half (the_head half img) img (all_visits half img into) e),
          ap length (all_found half (the_head half img) img (all_visits half img into) whole),
          length_pages (all_visits half img into),
          found_short,
        )

  -- ---- an audit

  -- the chain's looks are no more than it has pages to go
  chain_short : (k p : ℕ) → length (chain_looks half img k p) ≤ k
  unfolding chain_looks
  chain_short zero p = omega arith
  chain_short (suc k) p =
      go (leb 1 p && ltb p (pages_in half img)) (free_ok half (page_at half img p)) (chain_short k (next_of (page_at half img p)))
    where
      next : List ℕ
      next = chain_looks half img k (next_of (page_at half img p))

      go : (c d : Bool) → length next ≤ k → length (cond c (p ∷ cond d next []) []) ≤ suc k
      go true true r = omega arith
      go true false r = omega arith
      go false d r = omega arith

  -- tree and chain, where they are followed, have as many pages as lie below the mark
  pub audit_short : length (audit_looks half img) ≤ pages_in half img
  unfolding audit_looks audit_trail
  audit_short =
      go (all_fit half (the_head half img) img tree) (eqb (length tree + (the_head half img).chain) ((the_head half img).mark - 1)) refl
    where
      tree : List Visit
      tree = trail half (the_head half img) img every_entry

      rest : List ℕ
      rest =
          chain_looks half img (the_head half img).chain (the_head half img).free
          ++ listed (pages_in half img - (the_head half img).mark) (λ i. (the_head half img).mark + i)

      most : length rest ≤ (the_head half img).chain + (pages_in half img - (the_head half img).mark)
      most =
          omega (
            arith,
            length-append (chain_looks half img (the_head half img).chain (the_head half img).free)
                (listed (pages_in half img - (the_head half img).mark) (λ i. (the_head half img).mark + i)),
            chain_short (the_head half img).chain (the_head half img).free,
            length_listed (pages_in half img - (the_head half img).mark) (λ i. (the_head half img).mark + i),
          )

      only : length (pages_of tree ++ []) ≤ pages_in half img
      only =
          omega (
            arith,
            length-append (pages_of tree) [],
            length_pages tree,
            trail_short every_entry,
          )

      go : (c d : Bool) → eqb (length tree + (the_head half img).chain) ((the_head half img).mark - 1) ≡ d
          → length (pages_of tree ++ cond (c && d) rest []) ≤ pages_in half img
      go true true e =
          omega (
            arith,
            length-append (pages_of tree) rest,
            length_pages tree,
            eqb-true (length tree + (the_head half img).chain) ((the_head half img).mark - 1) e,
            most,
            facts.mark_least,
            facts.mark_most,
          )
      go true false e = only
      go false d e = only

-- an audit of a fit tree looks at its pages, in turn, and its walk finds all fit just if the tree is fit
module _ (half : ℕ) (img : List ℕ) where
  pub audit_fits : tree_test half img ≡ all_fit half (the_head half img) img (audit_trail half img)
  unfolding audit_trail trail
  audit_fits =
      tree_looks half (the_head half img) img ((the_head half img).height - 1) (root_context (the_head half img)) (the_head half img).root
      ∙ sym (all_fit_up_to half (the_head half img) img (all_visits half img every_entry))

  pub audit_tree : tree_test half img ≡ true → pages_of (audit_trail half img) ≡ the_tree half img
  unfolding audit_trail trail
  audit_tree t =
      let h : Head = the_head half img in
      let vs : List Visit = all_visits half img every_entry in
      let cut : all_fit half h img (up_to_unfit half h img vs) ≡ true = sym audit_fits ∙ t in
      ap pages_of (up_to_all half h img vs cut)
      ∙ sym (all_found half h img vs (sym (all_fit_up_to half h img vs) ∙ cut))
      ∙ tree_found half h img (h.height - 1) (root_context h) h.root t
